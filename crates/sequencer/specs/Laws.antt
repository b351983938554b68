-- Laws of every sequencer, over any list of calls with any arguments. Assumes nothing.
use Rattle.std.specs.Prelude.{◌≡◌, ℕ, ◌+◌, ◌<◌, ◌≤◌, true, ◌⊎◌, List, [], ◌∷◌}
use Rattle.events.specs.Refusals.{Reply, accepted, refused}
use Rattle.sequencer.specs.Runs.{Entry, after_steps, history}
use Rattle.sequencer.specs.Sequencer.{Sequencing, fresh}
use Rattle.sequencer.specs.declared.run.Step.{Step}
use Rattle.sequencer.specs.declared.run.Step.TheVariants.{Claim, Publish, First}

-- a sequencer as it was made
abbrev pub Fresh : Sequencing → Type 0
Fresh q = fresh q.ordered q.slots q.start ≡ accepted q

-- two sequencers as they were made, of one capacity, start and order
pub record Twins (a b : Sequencing) : Type 0 where
  pub a_fresh : Fresh a
  pub b_fresh : Fresh b
  pub slots : a.slots ≡ b.slots
  pub start : a.start ≡ b.start
  pub ordered : a.ordered ≡ b.ordered

-- Any two such give the same answers to any list of calls, and have the same sequences open after it.
abbrev pub SameAnswers : Type 0
SameAnswers =
    (a b : Sequencing) → Twins a b → (steps : List Step) → (history a steps ≡ history b steps) × (after_steps a steps ≡ after_steps b steps)

-- an accepted claim of n that answered first took the n sequences from there on
abbrev pub takes : Step → Reply ℕ → ℕ → Type 0
takes (Claim amount gate) (accepted first) s = (first ≤ s) × (s < first + amount)
takes (Claim amount gate) (refused why) s = ⊥
takes (Publish lo hi) answer s = ⊥
takes (First from) answer s = ⊥

-- an accepted publish freed the sequences from lo to below hi
abbrev pub frees : Step → Reply ℕ → ℕ → Type 0
frees (Publish lo hi) (accepted v) s = (lo ≤ s) × (s < hi)
frees (Publish lo hi) (refused why) s = ⊥
frees (Claim amount gate) answer s = ⊥
frees (First from) answer s = ⊥

abbrev pub Took : Entry → ℕ → Type 0
Took entry s = takes entry.step entry.answer s

abbrev pub Freed : Entry → ℕ → Type 0
Freed entry s = frees entry.step entry.answer s

-- s was claimed, or published, in a history
abbrev pub Claimed : List Entry → ℕ → Type 0
Claimed [] s = ⊥
Claimed (entry ∷ entries) s = Took entry s ⊎ Claimed entries s

abbrev pub Published : List Entry → ℕ → Type 0
Published [] s = ⊥
Published (entry ∷ entries) s = Freed entry s ⊎ Published entries s

-- What is open is what was claimed and not yet published, however it is kept.
abbrev pub OpenSet : Type 0
OpenSet =
    (q : Sequencing) → Fresh q → (steps : List Step) (s : ℕ) → ((after_steps q steps).is_open s ≡ true → Claimed (history q steps) s × (Published (history q steps) s → ⊥)) × (Claimed (history q steps) s → (Published (history q steps) s → ⊥) → (after_steps q steps).is_open s ≡ true)
