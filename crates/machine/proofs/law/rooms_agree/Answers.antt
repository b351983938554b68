use Rattle.machine.proofs.Lawful.{rooms_agree}
use Rattle.machine.proofs.law.rooms_agree.Goals as goal

pub returns : goal.returns
returns c = rooms_agree
