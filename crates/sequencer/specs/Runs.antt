-- Lists of calls on a sequencer, with their answers. Assumes nothing.
use Rattle.std.specs.Prelude.{ℕ, suc, Bool, true, false, ◌&&◌, List, [], ◌∷◌, ◌==◌}
use Rattle.events.specs.Refusals.{Reply, accepted, refused}
use Rattle.sequencer.specs.Sequencer.{Left, Sequencing, claimed, first_open, published}
use Rattle.sequencer.specs.declared.run.Step.{Step}
use Rattle.sequencer.specs.declared.run.Step.TheVariants.{Claim, Publish, First}

-- one call
abbrev pub stepped : Sequencing → Step → Left
stepped q (Claim amount gate) = claimed q amount gate
stepped q (Publish lo hi) = published q lo hi
stepped q (First from) = record { answer = accepted (first_open q from); after = q }

-- what a list of calls leaves
abbrev pub after_steps : Sequencing → List Step → Sequencing
after_steps q [] = q
after_steps q (step ∷ steps) = after_steps (stepped q step).after steps

-- a call with its answer
pub record Entry : Type 0 where
  pub step : Step
  pub answer : Reply ℕ

-- the calls with their answers
abbrev pub history : Sequencing → List Step → List Entry
history q [] = []
history q (step ∷ steps) = record { step = step; answer = (stepped q step).answer } ∷ history (stepped q step).after steps

-- how many were accepted
abbrev pub one_if : Reply ℕ → ℕ → ℕ
one_if (accepted v) n = suc n
one_if (refused why) n = n

abbrev pub accepted_in : List Entry → ℕ
accepted_in [] = 0
accepted_in (entry ∷ entries) = one_if entry.answer (accepted_in entries)

-- whether two answers are the same
abbrev pub same_reply : Reply ℕ → Reply ℕ → Bool
same_reply (accepted v) (accepted w) = v == w
same_reply (accepted v) (refused n) = false
same_reply (refused m) (accepted w) = false
same_reply (refused m) (refused n) = m == n

-- whether two sequencers give the same answers to the same calls
abbrev pub alike : Sequencing → Sequencing → List Step → Bool
alike q p [] = true
alike q p (step ∷ steps) = same_reply (stepped q step).answer (stepped p step).answer && alike (stepped q step).after (stepped p step).after steps
