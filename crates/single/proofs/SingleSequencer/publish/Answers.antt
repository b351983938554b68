use Rattle.std.proofs.Common.{arith}
use Rattle.single.proofs.Singles.{one_cursor}
use Rattle.single.proofs.SingleSequencer.publish.Goals as goal

pub returns : goal.returns
returns c = grind (arith, one_cursor)
