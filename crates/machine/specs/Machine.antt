-- The room machine: a room with its ring and its bank, how a room is made, and what each of the seven calls answers and
-- leaves. A refused call leaves all as it was. Assumes nothing.
use Rattle.std.specs.Prelude.{ℕ, zero, suc, ◌+◌, ◌*◌, ◌%◌, ◌^◌, min, Bool, cond, not, ◌&&◌, ◌||◌, List, [], ◌∷◌, length, get_or, replicate, is_some, Some, None, ◌==◌, nat_le, nat_lt, slice_index_or, slice_set}
use Rattle.limits.specs.Capacity.{is_capacity}
use Rattle.events.specs.Refusals.{Reply, accepted, left, unless}
use Rattle.stages.specs.Marks.{names, shown}
use Rattle.stages.specs.Meaning.{Given, Meaning}
use Rattle.bank.specs.Bank.{handled_by, mark_by}
use Rattle.playout.specs.Plan.{Layout, gating}
use Rattle.playout.specs.Reach.{mask_of, reach_of}
use Rattle.ring.specs.Ring.{marked, row_at, written}
use Rattle.sequencer.specs.Sequencer.{Sequencing, claim_answer, first_open, grown, publish_answer, shrunk, unclaimed}
use Rattle.std.specs.Option.{unwrap_or}
use Rattle.machine.specs.declared.Claim.{Claim}
use Rattle.machine.specs.declared.Producer.{Producer}
use Rattle.machine.specs.declared.Progress.{Progress}

-- A room: its plan, its sequencer, how many producers it has, and what it keeps of each producer (a side) and of each
-- stage (a place), in tables of eight.
pub record Room : Type 0 where
  pub plan : Layout
  pub producers : ℕ
  pub sequencing : Sequencing
  pub sides : List Producer
  pub places : List Progress

-- A room on its ring, that is, the words of the event in each slot and the marks, eight a slot, and its bank.
pub record World : Type 0 where
  pub room : Room
  pub slots : List (List ℕ)
  pub marks : List ℕ
  pub bank : List Meaning

-- Making a room refuses 3, 6 (producers not 1 to 8, or over 1 in order), 7. Then the sequencer is fresh, all numbers are
-- the start, and no claim is open.
abbrev pub room_made : Bool → Layout → ℕ → ℕ → Reply Room
room_made ordered plan capacity producers =
    unless ((not (is_capacity capacity), 3)
    ∷ (producers == 0 || nat_lt 8 producers || (ordered && nat_lt 1 producers), 6)
    ∷ (nat_lt (2 ^ 62) plan.start, 7)
    ∷ [])
    (accepted (record {
      plan = plan;
      producers = producers;
      sequencing = unclaimed ordered capacity plan.start;
      sides = replicate 8 (record { gate = plan.start; claim = None });
      places = replicate 8 (record { seen = plan.start; at = plan.start; done = plan.start });
    }))

-- ring and bank are of the room's size, with eight marks a slot
abbrev pub fits : World → Bool
fits w =
    (length w.marks == 8 * length w.slots)
    && (length w.slots == w.room.sequencing.slots && length w.bank == w.room.plan.stages)

-- what the room keeps of a producer and of a stage
abbrev pub side_of : Room → ℕ → Producer
side_of r p = slice_index_or r.sides p (record { gate = 0; claim = None })

abbrev pub place_of : Room → ℕ → Progress
place_of r i = slice_index_or r.places i (record { seen = 0; at = 0; done = 0 })

-- a producer's claim, where it has one
abbrev pub claim_of : Room → ℕ → Claim
claim_of r p = unwrap_or (side_of r p).claim (record { first = 0; unwritten = 0; end = 0 })

-- the room with another place of a stage, and with another sequencer and side of a producer
abbrev pub with_place : Room → ℕ → Progress → Room
with_place r i place = record { plan = r.plan; producers = r.producers; sequencing = r.sequencing; sides = r.sides; places = slice_set r.places i place }

abbrev pub with_side : Room → ℕ → Sequencing → Producer → Room
with_side r p q side = record { plan = r.plan; producers = r.producers; sequencing = q; sides = slice_set r.sides p side; places = r.places }

abbrev pub with_room : World → Room → World
with_room w r = record { room = r; slots = w.slots; marks = w.marks; bank = w.bank }

-- The least `done` among the stages below n that are in a set; the end of all sequences if none is, or none comes before
-- it. Some stage is gating, and a mask that is not empty names one, so this is never asked of an empty set.
unfoldable pub least_done : List Progress → (ℕ → Bool) → ℕ → ℕ
least_done places among zero = 2 ^ 62
least_done places among (suc j) =
    cond (among j) (min (least_done places among j) (get_or places j (record { seen = 0; at = 0; done = 0 })).done) (least_done places among j)

-- what a call answers, and what it leaves
pub record Left : Type 0 where
  pub answer : Reply ℕ
  pub after : World

abbrev pub leaves : World → Reply ℕ → World → Left
leaves w answer after = record { answer = answer; after = left answer w after }

-- every call refuses 11 first; then there is no such producer, or no such stage
abbrev pub for_producer : {A : Type 0} → World → ℕ → List (Bool × ℕ) → Reply A → Reply A
for_producer w p tests answer = unless ((not (fits w), 11) ∷ (nat_le w.room.producers p, 13) ∷ tests) answer

abbrev pub for_stage : {A : Type 0} → World → ℕ → List (Bool × ℕ) → Reply A → Reply A
for_stage w i tests answer = unless ((not (fits w), 11) ∷ (nat_le w.room.plan.stages i, 14) ∷ tests) answer

-- gate: the producer's gate becomes the least `done` of the gating stages
abbrev pub new_gate : Room → ℕ
new_gate r = least_done r.places (gating r.plan) r.plan.stages

abbrev pub on_gate : World → ℕ → Left
on_gate w p =
    leaves w (for_producer w p [] (accepted (new_gate w.room)))
    (with_room w (with_side w.room p w.room.sequencing (record { gate = new_gate w.room; claim = (side_of w.room p).claim })))

-- claim: refuses 16 while a claim is open, then as the sequencer does with this producer's gate
abbrev pub on_claim : World → ℕ → ℕ → Left
on_claim w p n =
    let q : Sequencing = w.room.sequencing in
    leaves w (for_producer w p ((is_some (side_of w.room p).claim, 16) ∷ []) (claim_answer q n (side_of w.room p).gate))
    (with_room w (with_side w.room p (grown q n) (record { gate = (side_of w.room p).gate; claim = Some (record { first = q.next; unwritten = q.next; end = q.next + n }) })))

-- write: refuses 20 without a claim, 21 if it is full; the event fills the slot of the first unwritten sequence
abbrev pub on_write : World → ℕ → List ℕ → Left
on_write w p words =
    let c : Claim = claim_of w.room p in
    leaves w (for_producer w p ((not (is_some (side_of w.room p).claim), 20) ∷ (nat_le c.end c.unwritten, 21) ∷ []) (accepted c.unwritten))
    (record {
      room = with_side w.room p w.room.sequencing (record { gate = (side_of w.room p).gate; claim = Some (record { first = c.first; unwritten = c.unwritten + 1; end = c.end }) });
      slots = written w.slots c.unwritten words;
      marks = w.marks;
      bank = w.bank;
    })

-- publish: refuses 20 without a claim, 22 if it is not full; all its sequences are published, and the claim closes
abbrev pub on_publish : World → ℕ → Left
on_publish w p =
    let c : Claim = claim_of w.room p in
    let q : Sequencing = w.room.sequencing in
    leaves w (for_producer w p ((not (is_some (side_of w.room p).claim), 20) ∷ (nat_lt c.unwritten c.end, 22) ∷ []) (publish_answer q c.first c.end))
    (with_room w (with_side w.room p (shrunk q c.first c.end) (record { gate = (side_of w.room p).gate; claim = None })))

-- look: with an empty mask `seen` becomes the sequencer's first from `at`, otherwise the least `done` in the mask
abbrev pub new_seen : Room → ℕ → ℕ
new_seen r i =
    let mask : ℕ = mask_of r.plan.masks i in
    cond (mask == 0) (first_open r.sequencing (place_of r i).at) (least_done r.places (names mask) r.plan.stages)

abbrev pub on_look : World → ℕ → Left
on_look w i =
    let place : Progress = place_of w.room i in
    leaves w (for_stage w i [] (accepted (new_seen w.room i)))
    (with_room w (with_place w.room i (record { seen = new_seen w.room i; at = place.at; done = place.done })))

-- handle: refuses 23 if nothing is seen, that is, at = seen, since `at` is never past `seen`. The stage is given sequence
-- `at` with its slot's event, shown that slot's marks for its reach and 0 elsewhere; its mark is stored, and `at` grows by 1.
abbrev pub given : World → ℕ → Given
given w i =
    let at : ℕ = (place_of w.room i).at in
    record {
      sequence = at;
      words = slice_index_or w.slots (at % length w.slots) [];
      marks = shown (reach_of w.room.plan.masks i) (row_at (length w.slots) w.marks at);
    }

abbrev pub on_handle : World → ℕ → Left
on_handle w i =
    let place : Progress = place_of w.room i in
    let mark : ℕ = mark_by w.bank i (given w i) in
    leaves w (for_stage w i ((nat_le place.seen place.at, 23) ∷ []) (accepted mark))
    (record {
      room = with_place w.room i (record { seen = place.seen; at = place.at + 1; done = place.done });
      slots = w.slots;
      marks = marked (length w.slots) w.marks place.at i mark;
      bank = handled_by w.bank i (given w i);
    })

-- commit: refuses 24 if there is nothing to commit; `done` becomes `at`
abbrev pub on_commit : World → ℕ → Left
on_commit w i =
    let place : Progress = place_of w.room i in
    leaves w (for_stage w i (((place.done == place.at), 24) ∷ []) (accepted place.at))
    (with_room w (with_place w.room i (record { seen = place.seen; at = place.at; done = place.at })))
