-- The law: every room is right, and any two rooms agree, whatever the order of their calls. Assumes nothing.
use Rattle.std.specs.Prelude.{◌≡◌, ℕ, ◌+◌, ◌-◌, ◌%◌, ◌^◌, ◌<◌, ◌≤◌, Bool, true, List, map, length, Some, ◌≢◌, slice_index, slice_index_or}
use Rattle.events.specs.Refusals.{accepted}
use Rattle.stages.specs.Marks.{names}
use Rattle.stages.specs.Meaning.{Given, Meaning}
use Rattle.bank.specs.Bank.{figures_of}
use Rattle.playout.specs.InOrder.{given_in, row_of, stages_after}
use Rattle.playout.specs.Plan.{Layout, gating}
use Rattle.playout.specs.Reach.{Ordered, Reach, mask_of}
use Rattle.sequencer.specs.Sequencer.{publish_answer}
use Rattle.std.specs.List.{range_with_len}
use Rattle.machine.specs.Calls.{Call, Course, Entry, History, committed, handled, made, onwards, other, published, wrote}
use Rattle.machine.specs.History.{Committed, Each, Published, Wrote, gave, received, words_of}
use Rattle.machine.specs.Machine.{Room, new_gate, new_seen, place_of, room_made, side_of}
use Rattle.machine.specs.declared.Claim.{Claim}
use Rattle.machine.specs.declared.Progress.{Progress}

-- what every plan keeps
pub record Sound (plan : Layout) : Type 0 where
  pub started : plan.start ≤ 2 ^ 62
  pub some : 1 ≤ plan.stages
  pub few : plan.stages ≤ 8
  pub ordered : Ordered plan.masks

-- a room as it was made, on a ring of these contents and with this bank: nothing has happened yet
abbrev pub begun : Room → List (List ℕ) → List ℕ → List Meaning → Course
begun room slots marks bank = record { world = record { room = room; slots = slots; marks = marks; bank = bank }; history = made }

-- A room that was made by a plan and set on a ring of its own with a bank, and the calls that were made on it since,
-- whatever their order and refused or not. Two runs of one `plan` and one `bank` have the same start, the same masks, and
-- stages of equal meaning and figures. Whether the sequencer is in order, the capacity, the producers and the ring's first
-- contents are anything.
pub record Run (plan : Layout) (bank : List Meaning) : Type 0 where
  pub in_order : Bool
  pub capacity : ℕ
  pub producers : ℕ
  pub room : Room
  pub making : room_made in_order plan capacity producers ≡ accepted room
  pub slots : List (List ℕ)
  pub marks : List ℕ
  pub calls : List Call

abbrev pub course_of : {plan : Layout} {bank : List Meaning} → Run plan bank → Course
course_of {bank} run = onwards (begun run.room run.slots run.marks bank) run.calls

-- an accepted write: its sequence was not written before
abbrev pub WritesOnce : History → Entry → Type 0
WritesOnce before (wrote p words s) = (q : ℕ) (v : List ℕ) → Wrote before q v s → ⊥
WritesOnce before (published p end) = Unit {0}
WritesOnce before (handled i g mark) = Unit {0}
WritesOnce before (committed i done) = Unit {0}
WritesOnce before (other call answer) = Unit {0}

-- an accepted write: every event that it replaced, one of a lower sequence in its slot, had been committed by every stage
abbrev pub Spares : Layout → ℕ → History → Entry → Type 0
Spares plan capacity before (wrote p words s) =
    (q t : ℕ) (v : List ℕ) → Wrote before q v t → t < s → t % capacity ≡ s % capacity → (j : ℕ) → j < plan.stages → Committed before j t
Spares plan capacity before (published p end) = Unit {0}
Spares plan capacity before (handled i g mark) = Unit {0}
Spares plan capacity before (committed i done) = Unit {0}
Spares plan capacity before (other call answer) = Unit {0}

-- an accepted handle: the event was published under this sequence with these words, and every stage in the reach had
-- committed it
abbrev pub HandlesAfter : Layout → History → Entry → Type 0
HandlesAfter plan before (wrote p words s) = Unit {0}
HandlesAfter plan before (published p end) = Unit {0}
HandlesAfter plan before (handled i g mark) =
    Published before g.words g.sequence × ((j : ℕ) → Reach plan.masks i j → Committed before j g.sequence)
HandlesAfter plan before (committed i done) = Unit {0}
HandlesAfter plan before (other call answer) = Unit {0}

-- the events of a history, numbered from the start as the one-after-another run takes them
abbrev pub events_of : Layout → History → ℕ → List ℕ
events_of plan h k = words_of h (plan.start + k)

-- how many events a stage has handled
abbrev pub handled_count : Course → ℕ → ℕ
handled_count c i = length (received c.history i)

-- Stage i stands where the one-after-another run over as many events leaves it.
pub record AsInOrder (plan : Layout) (bank : List Meaning) (c : Course) (i : ℕ) : Type 0 where
  -- the same figures
  pub figures : figures_of c.world.bank i ≡ figures_of (stages_after plan bank (events_of plan c.history) (handled_count c i)) i
  -- the same marks, event by event
  pub marks : gave c.history i ≡ map (λ k. slice_index (row_of plan bank (events_of plan c.history) k) i) (range_with_len 0 (handled_count c i))
  -- and it was passed the same: sequence, words and marks shown
  pub passes : received c.history i ≡ map (λ k. given_in plan bank (events_of plan c.history) k i) (range_with_len 0 (handled_count c i))

-- Stage i has handled every sequence from the start to below its `at`, once, in order.
pub record EverySequence (plan : Layout) (c : Course) (i : ℕ) : Type 0 where
  pub from : plan.start ≤ (place_of c.world.room i).at
  pub handles : map (λ (g : Given). g.sequence) (received c.history i) ≡ range_with_len plan.start ((place_of c.world.room i).at - plan.start)

-- What holds of a room of this capacity, whatever was called: each stage stands as the one-after-another run leaves it
-- after as many events; it has handled every sequence once and in order; a sequence is written once; what a stage handled
-- was published, and committed by its reach; what a write replaced was committed by all.
pub record Right (plan : Layout) (bank : List Meaning) (capacity : ℕ) (c : Course) : Type 0 where
  pub stages : (i : ℕ) → i < plan.stages → AsInOrder plan bank c i
  pub sequences : (i : ℕ) → i < plan.stages → EverySequence plan c i
  pub once : Each WritesOnce c.history
  pub handles : Each (HandlesAfter plan) c.history
  pub spares : Each (Spares plan capacity) c.history

-- no sequence was published in both with unequal words
abbrev pub NothingUnequal : History → History → Type 0
NothingUnequal h g = (s : ℕ) (v words : List ℕ) → Published h v s → Published g words s → v ≡ words

-- a stage that has handled equally many events in both has the same figures and gave the same marks
pub record Agree (one another : Course) (i : ℕ) : Type 0 where
  pub figures : figures_of one.world.bank i ≡ figures_of another.world.bank i
  pub marks : gave one.history i ≡ gave another.history i

abbrev pub Agreeing : Layout → Course → Course → Type 0
Agreeing plan one another = (i : ℕ) → i < plan.stages → handled_count one i ≡ handled_count another i → Agree one another i

-- The law, of one room: it is right, and so is any other of its plan and bank; and if the two published nothing unequal,
-- they agree.
pub record Lawful (plan : Layout) (bank : List Meaning) (capacity : ℕ) (c : Course) : Type 0 where
  pub right : Right plan bank capacity c
  pub others : (another : Run plan bank) → Right plan bank another.capacity (course_of another)
  pub agrees : (another : Run plan bank) → NothingUnequal c.history (course_of another).history → Agreeing plan c (course_of another)

-- and of all rooms
abbrev pub RoomsAgree : Type 0
RoomsAgree = (plan : Layout) → Sound plan → (bank : List Meaning) (run : Run plan bank) → Lawful plan bank run.capacity (course_of run)

-- v is the least `done` of the stages below n that are in a set
pub record IsLeast (places : List Progress) (among : ℕ → Bool) (n v : ℕ) : Type 0 where
  pub below : (j : ℕ) → j < n → among j ≡ true → v ≤ (slice_index_or places j (record { seen = 0; at = 0; done = 0 })).done
  pub one : (j : ℕ) × (j < n) × (among j ≡ true) × (v ≡ (slice_index_or places j (record { seen = 0; at = 0; done = 0 })).done)

-- In every state that a room reaches, done ≤ at ≤ seen ≤ next; so nothing is seen just if at = seen. A gate and a look
-- with a mask find the least `done` that there is, and the sequencer never refuses what the room publishes.
pub record Steady (plan : Layout) (room : Room) : Type 0 where
  pub done_first : (i : ℕ) → i < plan.stages → (place_of room i).done ≤ (place_of room i).at
  pub at_next : (i : ℕ) → i < plan.stages → (place_of room i).at ≤ (place_of room i).seen
  pub seen_last : (i : ℕ) → i < plan.stages → (place_of room i).seen ≤ room.sequencing.next
  pub gates : IsLeast room.places (gating plan) plan.stages (new_gate room)
  pub looks : (i : ℕ) → i < plan.stages → (mask_of plan.masks i ≢ 0) → IsLeast room.places (names (mask_of plan.masks i)) plan.stages (new_seen room i)
  pub publishes : (p : ℕ) (claim : Claim) → p < room.producers → (side_of room p).claim ≡ Some claim → claim.end ≤ claim.unwritten → publish_answer room.sequencing claim.first claim.end ≡ accepted claim.end

abbrev pub RoomsSteady : Type 0
RoomsSteady = (plan : Layout) → Sound plan → (bank : List Meaning) (run : Run plan bank) → Steady plan (course_of run).world.room
