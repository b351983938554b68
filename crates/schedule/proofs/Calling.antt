-- What a list of calls leaves, and what of it the law says. Assumes nothing.
use Rattle.std.proofs.Common.{◌≡◌, ℕ, Bool, List, [], ◌∷◌, ◌++◌, sym, refl, ap, ◌∙◌, subst, arith}
use Rattle.std.proofs.lemmas.Bool.Decides.{nat_tests}
use Rattle.std.proofs.lemmas.Grind.{common_steps}
use Rattle.std.proofs.lemmas.List.{append-nil}
use Rattle.events.specs.Refusals.{Reply, accepted, refused}
use Rattle.machine.specs.Calls.{Call, Course, after_calls, answer_of, answers_in, answers_to, called, claim, commit, entered, gate, handle, look, onward, onwards, publish, write}
use Rattle.machine.specs.Law.{Lawful, Run, Sound, Steady, begun}
use Rattle.machine.specs.Machine.{Room, World, room_made}
use Rattle.machine.proofs.Basics.{accepted_is}
use Rattle.machine.proofs.Lawful.{rooms_agree, rooms_steady}
use Rattle.playout.specs.Plan.{layout}
use Rattle.playout.specs.declared.plan.Plan.{Plan}
use Rattle.stages.specs.Meaning.{Meaning}
use Rattle.schedule.specs.Schedule.{Ended, Played, ended, played_by}

-- the history goes along, and holds the answers
pub onwards_world : (c : Course) (calls : List Call) → (onwards c calls).world ≡ after_calls c.world calls
onwards_world c [] = refl
onwards_world c (call ∷ calls) = onwards_world (onward c call) calls

entered_answer : (w : World) (call : Call) (answer : Reply ℕ) → answer_of (entered w call answer) ≡ answer
entered_answer w (gate p) answer = refl
entered_answer w (claim p n) answer = refl
entered_answer w (write p words) (accepted s) = refl
entered_answer w (write p words) (refused n) = refl
entered_answer w (publish p) (accepted end) = refl
entered_answer w (publish p) (refused n) = refl
entered_answer w (look i) answer = refl
entered_answer w (handle i) (accepted mark) = refl
entered_answer w (handle i) (refused n) = refl
entered_answer w (commit i) (accepted done) = refl
entered_answer w (commit i) (refused n) = refl

onwards_answers : (c : Course) (calls : List Call) → answers_in (onwards c calls).history ≡ answers_in c.history ++ answers_to c.world calls
onwards_answers c [] = sym (append-nil (answers_in c.history))
onwards_answers c (call ∷ calls) = grind (arith, common_steps, onwards_answers (onward c call) calls, entered_answer c.world call (called c.world call).answer)

-- a list that was run
pub ended_after : (w after : World) (calls : List Call) (answers written : List (Reply ℕ)) → record { answer = accepted tt; after = after; answers = written } ≡ ended w calls answers → after ≡ after_calls w calls
ended_after w after calls answers written e = grind (arith, common_steps, nat_tests)

abbrev pub room_left : Reply (Unit {0}) → Room → Reply Room
room_left (accepted done) room = accepted room
room_left (refused n) room = refused n

module _ (slots : List (List ℕ)) (marks : List ℕ) (bank : List Meaning) (calls : List Call) (answers : List (Reply ℕ)) where
  -- what is left, by what the list of calls left
  abbrev played_in : Ended → Played
  played_in e = record { room = room_left e.answer e.after.room; slots = e.after.slots; marks = e.after.marks; bank = e.after.bank; answers = e.answers }

  pub played_in_lem : (making : Reply Room) (room : Room) → accepted room ≡ making → (e : Ended) → e ≡ ended (record { room = room; slots = slots; marks = marks; bank = bank }) calls answers → played_in e ≡ played_by making slots marks bank calls answers
  played_in_lem making room made e is = grind (arith, common_steps, nat_tests, onwards_world (begun room slots marks bank) calls, onwards_answers (begun room slots marks bank) calls)

module _ (plan : Plan) (bank : List Meaning) (ordered : Bool) (capacity producers : ℕ) (slots : List (List ℕ)) (marks : List ℕ) (calls : List Call) where
  plan_sound : Sound (layout plan)
  plan_sound = record { started = plan.started; some = plan.some; few = plan.few; ordered = plan.ordered }

  abbrev of_making : (room : Room) → room_made ordered (layout plan) capacity producers ≡ accepted room → Run (layout plan) bank
  of_making room making = record { in_order = ordered; capacity = capacity; producers = producers; room = room; making = making; slots = slots; marks = marks; calls = calls }

  pub run_lawful : (room : Room) → room_made ordered (layout plan) capacity producers ≡ accepted room → Lawful (layout plan) bank capacity (onwards (begun room slots marks bank) calls)
  run_lawful room making = rooms_agree (layout plan) plan_sound bank (of_making room making)

  -- the room that is left where the calls were made
  pub run_steady : (made : Room) → accepted made ≡ room_made ordered (layout plan) capacity producers → (answers written : List (Reply ℕ)) (after : World) → record { answer = accepted tt; after = after; answers = written } ≡ ended (record { room = made; slots = slots; marks = marks; bank = bank }) calls answers → (room : Room) → accepted after.room ≡ accepted room → Steady (layout plan) room
  run_steady made making answers written after was room is =
      let w : World = record { room = made; slots = slots; marks = marks; bank = bank } in
      let here : (onwards (begun made slots marks bank) calls).world.room ≡ room = ap (λ (v : World). v.room) (onwards_world (begun made slots marks bank) calls ∙ sym (ended_after w after calls answers written was)) ∙ accepted_is after.room room is in
      subst (Steady (layout plan)) here (rooms_steady (layout plan) plan_sound bank (of_making made (sym making)))
