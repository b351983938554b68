-- Lists of calls on a room, and what came of them. Assumes nothing.
use Rattle.std.specs.Prelude.{ℕ, List, [], ◌∷◌, ◌++◌}
use Rattle.events.specs.Refusals.{Reply, accepted, refused}
use Rattle.stages.specs.Meaning.{Given}
use Rattle.machine.specs.Machine.{Left, World, given, on_claim, on_commit, on_gate, on_handle, on_look, on_publish, on_write}

-- a call, by a producer or for a stage
pub data Call : Type 0 where
  gate : ℕ → Call
  claim : ℕ → ℕ → Call
  write : ℕ → List ℕ → Call
  publish : ℕ → Call
  look : ℕ → Call
  handle : ℕ → Call
  commit : ℕ → Call

abbrev pub called : World → Call → Left
called w (gate p) = on_gate w p
called w (claim p n) = on_claim w p n
called w (write p words) = on_write w p words
called w (publish p) = on_publish w p
called w (look i) = on_look w i
called w (handle i) = on_handle w i
called w (commit i) = on_commit w i

-- A call with its answer, as a history keeps it. An accepted handle is kept with what it passed to the stage.
pub data Entry : Type 0 where
  -- producer, words, and the sequence that was returned
  wrote : ℕ → List ℕ → ℕ → Entry
  -- producer, and the end of its claim
  published : ℕ → ℕ → Entry
  -- stage, what it was given, and its mark
  handled : ℕ → Given → ℕ → Entry
  -- stage, and the sequence that was returned
  committed : ℕ → ℕ → Entry
  -- an accepted gate, claim or look, and any refused call
  other : Call → Reply ℕ → Entry

abbrev pub entered : World → Call → Reply ℕ → Entry
entered w (write p words) (accepted s) = wrote p words s
entered w (publish p) (accepted end) = published p end
entered w (handle i) (accepted mark) = handled i (given w i) mark
entered w (commit i) (accepted done) = committed i done
entered w (write p words) (refused n) = other (write p words) (refused n)
entered w (publish p) (refused n) = other (publish p) (refused n)
entered w (handle i) (refused n) = other (handle i) (refused n)
entered w (commit i) (refused n) = other (commit i) (refused n)
entered w (gate p) answer = other (gate p) answer
entered w (claim p n) answer = other (claim p n) answer
entered w (look i) answer = other (look i) answer

-- What has happened since a room was made, in order of time: nothing yet, or what happened before and then one entry more.
pub data History : Type 0 where
  made : History
  ◌▸◌ : History → Entry → History

infixl 20 ◌▸◌
-- a room with its ring and bank, and all that has happened there
pub record Course : Type 0 where
  pub world : World
  pub history : History

abbrev pub onward : Course → Call → Course
onward c call = record { world = (called c.world call).after; history = c.history ▸ entered c.world call (called c.world call).answer }

abbrev pub onwards : Course → List Call → Course
onwards c [] = c
onwards c (call ∷ calls) = onwards (onward c call) calls

-- the answers that a history holds, in order
abbrev pub answer_of : Entry → Reply ℕ
answer_of (wrote p words s) = accepted s
answer_of (published p end) = accepted end
answer_of (handled i g mark) = accepted mark
answer_of (committed i done) = accepted done
answer_of (other call answer) = answer

abbrev pub answers_in : History → List (Reply ℕ)
answers_in made = []
answers_in (h ▸ e) = answers_in h ++ answer_of e ∷ []

-- what calls leave, and their answers, where the history is of no concern: the same world and answers as in a course
abbrev pub after_calls : World → List Call → World
after_calls w [] = w
after_calls w (call ∷ calls) = after_calls (called w call).after calls

abbrev pub answers_to : World → List Call → List (Reply ℕ)
answers_to w [] = []
answers_to w (call ∷ calls) = (called w call).answer ∷ answers_to (called w call).after calls
