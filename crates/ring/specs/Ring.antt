-- The memory of a ring: a list of events, one a slot, and a list of marks, eight a slot. A sequence goes to the slot that
-- remains when it is divided by the number of slots, and a stage to the mark of its number there.
-- Assumes nothing.
use Rattle.std.specs.Prelude.{ℕ, ◌+◌, ◌*◌, ◌%◌, Bool, cond, not, ◌&&◌, List, [], ◌∷◌, map, length, replicate, Some, None, Option, ◌==◌, nat_lt, slice_index, slice_index_or, slice_set}
use Rattle.limits.specs.Capacity.{is_capacity}
use Rattle.events.specs.Refusals.{Reply, accepted, left, unless}
use Rattle.std.specs.List.{range_with_len}

-- a check of memory refuses 3, then 11
abbrev pub checked : ℕ → ℕ → Reply (Unit {0})
checked slots marks = unless ((not (is_capacity slots), 3) ∷ (not (marks == 8 * slots), 11) ∷ []) (accepted tt)

-- making sets every slot blank and every mark 0; memory that is refused stays as it was
abbrev pub made_events : {E : Type 0} → E → List E → List ℕ → List E
made_events blank events marks = left (checked (length events) (length marks)) events (replicate (length events) blank)

abbrev pub made_marks : {E : Type 0} → List E → List ℕ → List ℕ
made_marks events marks = left (checked (length events) (length marks)) marks (replicate (length marks) 0)

-- the event in the slot of s, if there are slots
abbrev pub event_at : {E : Type 0} → E → List E → ℕ → Option E
event_at blank events s = cond (length events == 0) None (Some (slice_index_or events (s % length events) blank))

abbrev pub written : {E : Type 0} → List E → ℕ → E → List E
written events s event = slice_set events (s % length events) event

-- where mark i of the slot of s stands
abbrev pub place : ℕ → ℕ → ℕ → ℕ
place slots s i = 8 * (s % slots) + i

-- whether there is such a mark: stages are numbered 0 to 7
abbrev pub is_mark : ℕ → ℕ → Bool
is_mark slots i = nat_lt 0 slots && nat_lt i 8

-- mark i of the slot of s, 0 if there is none
abbrev pub mark_at : ℕ → List ℕ → ℕ → ℕ → ℕ
mark_at slots marks s i = cond (is_mark slots i) (slice_index marks (place slots s i)) 0

abbrev pub marked : ℕ → List ℕ → ℕ → ℕ → ℕ → List ℕ
marked slots marks s i mark = cond (is_mark slots i) (slice_set marks (place slots s i) mark) marks

-- the eight marks of the slot of s
abbrev pub row_at : ℕ → List ℕ → ℕ → List ℕ
row_at slots marks s = map (mark_at slots marks s) (range_with_len 0 8)
