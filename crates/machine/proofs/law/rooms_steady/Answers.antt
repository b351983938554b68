use Rattle.machine.proofs.Lawful.{rooms_steady}
use Rattle.machine.proofs.law.rooms_steady.Goals as goal

pub returns : goal.returns
returns c = rooms_steady
