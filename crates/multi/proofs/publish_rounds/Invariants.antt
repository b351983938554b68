use Rattle.std.proofs.Common.{◌≡◌, ◌-◌, ◌≤◌}
use Rattle.multi.specs.Rounds.{rounds_after}
use Rattle.multi.proofs.publish_rounds.Given as goal

-- Those from lo to below s are published.
abbrev pub invariant-loop-s : goal.invariant-loop-s
invariant-loop-s l = (l.rounds ≡ rounds_after l.claims.slots l.initial.rounds l.lo (l.s - l.lo)) × (l.s - l.lo ≤ l.hi - l.lo)
