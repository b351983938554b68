use Rattle.std.proofs.Common.{◌≡◌, ◌++◌, length, map, string_bytes}
use Rattle.events.specs.Words.{cue_words}
use Rattle.asrun.specs.AsRun.{cue_lines}
use Rattle.asrun.proofs.report.put_cues.Given as goal

-- The lines of the cues so far are written.
abbrev pub invariant-loop-sequence : goal.invariant-loop-sequence
invariant-loop-sequence l = string_bytes l.out ≡ string_bytes l.initial.out ++ cue_lines (map cue_words l.cues) l.rows (length l.yielded)
