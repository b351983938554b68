-- Lists of calls as the code has them, and what a room that is made for one leaves. Assumes nothing.
use Rattle.std.specs.Prelude.{ℕ, cond, List, [], ◌∷◌, length, ◌==◌}
use Rattle.events.specs.Refusals.{Reply, accepted, refused}
use Rattle.machine.specs.Calls as machine
use Rattle.machine.specs.Law.{begun}
use Rattle.machine.specs.Machine.{Room, World}
use Rattle.room.specs.Rooms.{events_written}
use Rattle.stages.specs.Meaning.{Meaning}
use Rattle.schedule.specs.declared.call.Call.{Call}
use Rattle.schedule.specs.declared.call.Call.TheVariants.{Gate, Claim, Write, Publish, Look, Handle, Commit}

-- a call, its event by its words
abbrev pub call_of : {E : Type 0} → (E → List ℕ) → Call E → machine.Call
call_of words (Gate p) = machine.gate p
call_of words (Claim p n) = machine.claim p n
call_of words (Write p event) = machine.write p (words event)
call_of words (Publish p) = machine.publish p
call_of words (Look i) = machine.look i
call_of words (Handle i) = machine.handle i
call_of words (Commit i) = machine.commit i

-- What a list of calls leaves: whether it was run, the room on its ring with its bank, and the answers.
pub record Ended : Type 0 where
  pub answer : Reply (Unit {0})
  pub after : World
  pub answers : List (Reply ℕ)

-- It is run if there are just as many places for answers as calls, and refused by 11 otherwise.
abbrev pub ended : World → List machine.Call → List (Reply ℕ) → Ended
ended w calls answers =
    cond (length answers == length calls)
    (record { answer = accepted tt; after = machine.after_calls w calls; answers = machine.answers_to w calls })
    (record { answer = refused 11; after = w; answers = answers })

-- The events of the ring themselves, after a call and after a list of calls with their answers.
abbrev pub events_called : {E : Type 0} → Call E → Reply ℕ → List E → List E
events_called (Gate p) answer events = events
events_called (Claim p n) answer events = events
events_called (Write p event) answer events = events_written answer event events
events_called (Publish p) answer events = events
events_called (Look i) answer events = events
events_called (Handle i) answer events = events
events_called (Commit i) answer events = events

abbrev pub events_after : {E : Type 0} → List (Call E) → List (Reply ℕ) → List E → List E
events_after [] answers events = events
events_after (call ∷ calls) [] events = events
events_after (call ∷ calls) (answer ∷ answers) events = events_after calls answers (events_called call answer events)

-- What is left where a room is made for a list of calls: the room, its ring, its bank, and the answers.
pub record Played : Type 0 where
  pub room : Reply Room
  pub slots : List (List ℕ)
  pub marks : List ℕ
  pub bank : List Meaning
  pub answers : List (Reply ℕ)

abbrev pub end_of : machine.Course → Played
end_of c = record { room = accepted c.world.room; slots = c.world.slots; marks = c.world.marks; bank = c.world.bank; answers = machine.answers_in c.history }

-- A making that is refused leaves all as it was, and so does a list of calls with another number of places for answers, by
-- 11. What else is left is the end of the course that the calls take from the making on.
abbrev pub played_by : Reply Room → List (List ℕ) → List ℕ → List Meaning → List machine.Call → List (Reply ℕ) → Played
played_by (refused n) slots marks bank calls answers = record { room = refused n; slots = slots; marks = marks; bank = bank; answers = answers }
played_by (accepted room) slots marks bank calls answers =
    cond (length answers == length calls)
    (end_of (machine.onwards (begun room slots marks bank) calls))
    (record { room = refused 11; slots = slots; marks = marks; bank = bank; answers = answers })
