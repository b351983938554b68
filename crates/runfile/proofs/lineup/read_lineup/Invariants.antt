use Rattle.std.proofs.Common.{◌≡◌, ◌-◌}
use Rattle.runfile.specs.Lineup.{lineup_from, lineup_of}
use Rattle.runfile.proofs.lineup.read_lineup.Given as goal

-- The records left, after those in the tables, give the whole.
abbrev pub invariant-loop-i : goal.invariant-loop-i
invariant-loop-i l =
    lineup_from l.file l.kind l.section.start (l.section.count - l.i) l.i l.lineup ≡ lineup_of l.file l.kind l.section.start l.section.count
