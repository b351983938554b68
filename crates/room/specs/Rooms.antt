-- What a room, its ring and its bank mean. Assumes nothing.
use Rattle.std.specs.Prelude.{ℕ, cond, List, [], map, Some, None, Option, nat_lt, slice_index_or}
use Rattle.events.specs.Refusals.{Reply, accepted, refused}
use Rattle.playout.specs.Plan.{layout}
use Rattle.machine.specs.Machine as machine
use Rattle.ring.specs.Ring.{written}
use Rattle.sequencer.specs.Sequencer.{Sequencing}
use Rattle.stages.specs.Meaning.{Meaning}
use Rattle.machine.specs.declared.Producer.{Producer}
use Rattle.machine.specs.declared.Progress.{Progress}
use Rattle.ring.specs.declared.Ring.{Ring}
use Rattle.room.specs.declared.room.Room.{Room}

-- a room, by what its sequencer means
abbrev pub room_of : {S : Type 0} → (S → Sequencing) → Room S → machine.Room
room_of means r = record { plan = layout r.plan; producers = r.producers; sequencing = means r.sequencer; sides = r.sides; places = r.places }

-- a room on a ring of these words and marks, with this bank
abbrev pub world_of : machine.Room → List (List ℕ) → List ℕ → List Meaning → machine.World
world_of room slots marks bank = record { room = room; slots = slots; marks = marks; bank = bank }

-- a room on a ring with a bank, by what its sequencer, the events and the bank mean
abbrev pub world_by : {S E B : Type 0} → (S → Sequencing) → (E → List ℕ) → (B → List Meaning) → Room S → Ring E → B → machine.World
world_by means words stages room ring bank = world_of (room_of means room) (map words ring.events.now) ring.marks.now (stages bank)

-- the place of stage i, if there is such a stage
abbrev pub place_in : ℕ → List Progress → ℕ → Option Progress
place_in stages places i = cond (nat_lt i stages) (Some (slice_index_or places i (record { seen = 0; at = 0; done = 0 }))) None

-- What the room keeps of a producer and of a stage, or what every call on them refuses first.
abbrev pub side_found : machine.World → ℕ → Reply Producer
side_found w p = machine.for_producer w p [] (accepted (machine.side_of w.room p))

abbrev pub place_found : machine.World → ℕ → Reply Progress
place_found w i = machine.for_stage w i [] (accepted (machine.place_of w.room i))

-- The events of a ring themselves, of which the machine knows the words: an accepted write puts its event into the slot of
-- the sequence that it returned.
abbrev pub events_written : {E : Type 0} → Reply ℕ → E → List E → List E
events_written (accepted s) event events = written events s event
events_written (refused n) event events = events
