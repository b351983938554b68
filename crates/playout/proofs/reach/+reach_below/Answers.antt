use Rattle.std.proofs.Common.{rules}
use Rattle.playout.proofs.reach.+reach_below.Goals as goal

pub returns-then-names : goal.returns-then-names
returns-then-names t c = search rules
