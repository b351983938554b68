use Rattle.std.proofs.Common.{◌≡◌, ℕ, ◌-◌, ◌^◌, Bool, true, false, cond, List, [], ◌∷◌, refl, ap}
use Rattle.events.specs.Refusals.{accepted, refused}
use Rattle.limits.specs.Capacity.{is_capacity}
use Rattle.machine.specs.Calls.{claim}
use Rattle.machine.specs.Machine.{least_done}
use Rattle.playout.specs.Plan.{in_mask}
use Rattle.sequencer.specs.Sequencer.{all_from, least_from, some_below}
use Rattle.sequencer.proofs.Sets.{some_none}
use Rattle.stages.specs.Meaning.{Meaning, mark_of}
use Rattle.worked.specs.Rows.{event}
use Rattle.room_rows.specs.Rows.{one_slot_answers, one_slot_calls, room_answers, two_producers_answers, two_producers_calls}
use Rattle.room_rows.proofs.room_rows.Goals as goal

-- the room's rows compute
one_slot_lem : (ordered : Bool) (stage : Meaning) (words : List ℕ) → room_answers 0 ordered 1 1 stage (one_slot_calls words) ≡ one_slot_answers (mark_of stage (event 0 words))
unfolding is_capacity all_from in_mask least_done least_from some_below
one_slot_lem true stage words = refl
one_slot_lem false stage words = refl

two_producers_lem : (stage : Meaning) (words : List ℕ) → room_answers 0 false 4 2 stage (two_producers_calls words) ≡ two_producers_answers
unfolding is_capacity all_from in_mask least_done least_from some_below
two_producers_lem stage words = refl

out_lem : (ordered : Bool) (stage : Meaning) → room_answers (2 ^ 62) ordered 1 1 stage (claim 0 1 ∷ []) ≡ refused 18 ∷ []
unfolding is_capacity
out_lem true stage = refl
out_lem false stage = refl

last_lem : (ordered : Bool) (stage : Meaning) → room_answers (2 ^ 62 - 1) ordered 1 1 stage (claim 0 1 ∷ []) ≡ accepted (2 ^ 62 - 1) ∷ []
unfolding is_capacity
last_lem true stage = ap (λ b. cond b (refused 19) (accepted (2 ^ 62 - 1)) ∷ []) (some_none (λ _. false) (2 ^ 62 - 1) (λ s h. refl))
last_lem false stage = ap (λ b. cond b (refused 19) (accepted (2 ^ 62 - 1)) ∷ []) (some_none (λ _. false) (2 ^ 62 - 1) (λ s h. refl))

pub returns : goal.returns
returns c = record { one_slot = one_slot_lem; two_producers = two_producers_lem; out = out_lem; last = last_lem }
