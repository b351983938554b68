-- The words of a ring's events. Assumes nothing.
use Rattle.std.proofs.Common.{◌≡◌, ℕ, ◌%◌, ◌≤◌, List, [], map, length, get_or, Some, mod-lt, arith}
use Rattle.ring.specs.Ring.{event_at, written}
use Rattle.std.proofs.lemmas.List.{get_or-map, length-map, map-set}
use Rattle.std.proofs.lemmas.Bool.Decides.{nat_tests}
use Rattle.std.proofs.lemmas.Grind.{common_steps}

-- writing an event writes its words
pub words_written : {E : Type 0} (words : E → List ℕ) (events : List E) (s : ℕ) (event : E) → map words (written events s event) ≡ written (map words events) s (words event)
words_written words events s event = grind (arith, common_steps, map-set words events (s % length events) event, length-map events words)

-- an event's words are those of its slot
pub words_at : {E : Type 0} (words : E → List ℕ) (events : List E) (blank event : E) (s : ℕ) → 1 ≤ length events → Some event ≡ event_at blank events s → words event ≡ get_or (map words events) (s % length (map words events)) []
words_at words events blank event s some e = grind (arith, common_steps, nat_tests, get_or-map words events (s % length events) blank [] (mod-lt s some), length-map events words)
