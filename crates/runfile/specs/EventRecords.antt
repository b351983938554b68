-- Event records. A cue record has 16 bytes; a packet record has 68: channel, length, two that are ignored, and 64 bytes, of
-- which those past the length are ignored. Assumes nothing.
use Rattle.std.specs.Prelude.{ℕ, zero, suc, ◌+◌, ◌*◌, List, take, drop, slice_index}
use Rattle.events.specs.Refusals.{Reply, accepted, refused}
use Rattle.events.specs.Words.{made_packet}
use Rattle.events.specs.declared.packet.Packet.{Packet}
use Rattle.runfile.specs.Faults.{Read, and_then, bad, good}

-- a refusal met in a record, at its place
abbrev pub at_place : {A : Type 0} → Reply A → ℕ → Read A
at_place (accepted a) at = good a
at_place (refused n) at = bad n at

abbrev pub packet_at : List ℕ → ℕ → Read Packet
packet_at file at = at_place (made_packet (slice_index file at) (slice_index file (at + 1)) (take 64 (drop (at + 4) file))) at

-- n records more, from number k on, can all be read; otherwise the first fault among them
unfoldable pub checked_from : {E : Type 0} → (List ℕ → ℕ → Read E) → ℕ → List ℕ → ℕ → ℕ → ℕ → Read (Unit {0})
checked_from decoded size file start zero k = good tt
checked_from decoded size file start (suc n) k = and_then (decoded file (start + k * size)) λ _. checked_from decoded size file start n (suc k)

abbrev pub checked_all : {E : Type 0} → (List ℕ → ℕ → Read E) → ℕ → List ℕ → ℕ → ℕ → Read (Unit {0})
checked_all decoded size file start count = checked_from decoded size file start count 0
