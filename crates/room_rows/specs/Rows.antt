-- Worked rows of the room: what its definitions answer to short lists of calls; and all worked rows together. Assumes nothing.
use Rattle.std.specs.Prelude.{◌≡◌, ℕ, ◌-◌, ◌*◌, ◌^◌, Bool, false, List, [], ◌∷◌, replicate}
use Rattle.events.specs.Refusals.{Reply, accepted, refused}
use Rattle.machine.specs.Calls.{Call, answers_to, claim, commit, gate, handle, look, publish, write}
use Rattle.machine.specs.Machine.{Room, room_made}
use Rattle.playout.specs.Plan.{Layout}
use Rattle.stages.specs.Meaning.{Meaning, mark_of}
use Rattle.worked.specs.Rows.{WorkedRows, event}

-- one stage, from a start
abbrev pub one_plan : ℕ → Layout
one_plan start = record { start = start; stages = 1; masks = replicate 8 0 }

abbrev pub answers_by : Reply Room → ℕ → Meaning → List Call → List (Reply ℕ)
answers_by (accepted room) capacity stage calls = answers_to (record { room = room; slots = replicate capacity []; marks = replicate (8 * capacity) 0; bank = stage ∷ [] }) calls
answers_by (refused n) capacity stage calls = refused n ∷ []

-- the answers of a room with one stage, on a ring with nothing in it
abbrev pub room_answers : ℕ → Bool → ℕ → ℕ → Meaning → List Call → List (Reply ℕ)
room_answers start ordered capacity producers stage calls = answers_by (room_made ordered (one_plan start) capacity producers) capacity stage calls

-- With one slot, in order or not, whatever the event and the stage: while the first event holds the slot, the next claim
-- finds no place; nor does it once the stage has committed, until the producer has passed the gate.
abbrev pub one_slot_calls : List ℕ → List Call
one_slot_calls words = claim 0 1 ∷ write 0 words ∷ publish 0 ∷ claim 0 1 ∷ look 0 ∷ handle 0 ∷ commit 0 ∷ claim 0 1 ∷ gate 0 ∷ claim 0 1 ∷ []

abbrev pub one_slot_answers : ℕ → List (Reply ℕ)
one_slot_answers mark =
    accepted 0 ∷ accepted 0 ∷ accepted 1 ∷ refused 19 ∷ accepted 1 ∷ accepted mark ∷ accepted 1 ∷ refused 19 ∷ accepted 1 ∷ accepted 1 ∷ []

-- With four slots and two producers, in any order: what the second publishes first is not seen before the first has
-- published too.
abbrev pub two_producers_calls : List ℕ → List Call
two_producers_calls words = claim 0 2 ∷ claim 1 1 ∷ write 1 words ∷ publish 1 ∷ look 0 ∷ write 0 words ∷ write 0 words ∷ publish 0 ∷ look 0 ∷ []

abbrev pub two_producers_answers : List (Reply ℕ)
two_producers_answers =
    accepted 0 ∷ accepted 2 ∷ accepted 2 ∷ accepted 3 ∷ accepted 0 ∷ accepted 0 ∷ accepted 1 ∷ accepted 2 ∷ accepted 3 ∷ []

-- At the start 2^62 sequences have run out, and a claim of 1 is refused; from one before it, one is left.
pub record RoomRows : Type 0 where
  pub one_slot : (ordered : Bool) (stage : Meaning) (words : List ℕ) → room_answers 0 ordered 1 1 stage (one_slot_calls words) ≡ one_slot_answers (mark_of stage (event 0 words))
  pub two_producers : (stage : Meaning) (words : List ℕ) → room_answers 0 false 4 2 stage (two_producers_calls words) ≡ two_producers_answers
  pub out : (ordered : Bool) (stage : Meaning) → room_answers (2 ^ 62) ordered 1 1 stage (claim 0 1 ∷ []) ≡ refused 18 ∷ []
  pub last : (ordered : Bool) (stage : Meaning) → room_answers (2 ^ 62 - 1) ordered 1 1 stage (claim 0 1 ∷ []) ≡ accepted (2 ^ 62 - 1) ∷ []

-- all worked rows, of the layers below and of the room
pub record AllRows : Type 0 where
  pub layers : WorkedRows
  pub rooms : RoomRows
