-- The one-after-another run, stage by stage: what a stage is given, and where it and its mark are found. Assumes nothing.
use Rattle.std.proofs.Common.{◌≡◌, ℕ, zero, suc, ◌+◌, ◌<◌, ◌≤◌, ◌⊎◌, List, length, get_or, sym, refl, ap, ◌∙◌, inl, inr, add-one, arith}
use Rattle.std.proofs.lemmas.List.{get_or-set_other, get_or-set_same, length-set}
use Rattle.std.proofs.lemmas.Bool.{cases_eq}
use Rattle.bank.specs.Bank.{nobody}
use Rattle.playout.specs.InOrder.{given, given_in, passed, row_of, stages_after}
use Rattle.playout.specs.Plan.{Layout}
use Rattle.stages.specs.Meaning.{Meaning, after, mark_of}

module _ (masks : List ℕ) (s : ℕ) (words : List ℕ) (stages : List Meaning) where
  pub stages_long : (n : ℕ) → length (passed masks s words stages n).stages ≡ length stages
  unfolding passed
  stages_long zero = refl
  stages_long (suc i) = length-set (passed masks s words stages i).stages i _ ∙ stages_long i

  pub row_long : (n : ℕ) → length (passed masks s words stages n).row ≡ 8
  unfolding passed
  row_long zero = refl
  row_long (suc i) = length-set (passed masks s words stages i).row i _ ∙ row_long i

  -- a stage that has yet to handle the event is as before
  pub stage_later : (n j : ℕ) → n ≤ j → get_or (passed masks s words stages n).stages j nobody ≡ get_or stages j nobody
  unfolding passed
  stage_later zero j h = refl
  stage_later (suc i) j h = get_or-set_other (passed masks s words stages i).stages i j _ nobody (omega arith) ∙ stage_later i j (omega arith)

  -- one that has handled it stands after what it was given
  pub stage_after : (n j : ℕ) → j < n → j < length stages → get_or (passed masks s words stages n).stages j nobody ≡ after (get_or stages j nobody) (given masks s words j (passed masks s words stages j).row)
  unfolding passed
  stage_after zero j h within = absurd (omega arith)
  stage_after (suc i) j h within = go (cases_eq j i) (λ low. stage_after i j low within)
    where
      go : (j ≡ i) ⊎ (j ≡ i → ⊥) → (j < i → get_or (passed masks s words stages i).stages j nobody ≡ after (get_or stages j nobody) (given masks s words j (passed masks s words stages j).row)) → get_or (passed masks s words stages (suc i)).stages j nobody ≡ after (get_or stages j nobody) (given masks s words j (passed masks s words stages j).row)
      go (inl e) lower =
          ap (λ k. get_or (passed masks s words stages (suc k)).stages j nobody) (sym e)
          ∙ get_or-set_same (passed masks s words stages j).stages j _ nobody (let long = stages_long j in omega arith)
          ∙ ap (λ m. after m (given masks s words j (passed masks s words stages j).row)) (stage_later j j (omega arith))
      go (inr ne) lower = get_or-set_other (passed masks s words stages i).stages i j _ nobody ne ∙ lower (omega arith)

  -- and its mark is in the row
  pub mark_after : (n j : ℕ) → j < n → j < 8 → get_or (passed masks s words stages n).row j 0 ≡ mark_of (get_or stages j nobody) (given masks s words j (passed masks s words stages j).row)
  unfolding passed
  mark_after zero j h within = absurd (omega arith)
  mark_after (suc i) j h within = go (cases_eq j i) (λ low. mark_after i j low within)
    where
      go : (j ≡ i) ⊎ (j ≡ i → ⊥) → (j < i → get_or (passed masks s words stages i).row j 0 ≡ mark_of (get_or stages j nobody) (given masks s words j (passed masks s words stages j).row)) → get_or (passed masks s words stages (suc i)).row j 0 ≡ mark_of (get_or stages j nobody) (given masks s words j (passed masks s words stages j).row)
      go (inl e) lower =
          ap (λ k. get_or (passed masks s words stages (suc k)).row j 0) (sym e)
          ∙ get_or-set_same (passed masks s words stages j).row j _ 0 (let long = row_long j in omega arith)
          ∙ ap (λ m. mark_of m (given masks s words j (passed masks s words stages j).row)) (stage_later j j (omega arith))
      go (inr ne) lower = get_or-set_other (passed masks s words stages i).row i j _ 0 ne ∙ lower (omega arith)

module _ (l : Layout) (bank : List Meaning) (words : ℕ → List ℕ) where
  pub after_long : (k : ℕ) → length (stages_after l bank words k) ≡ length bank
  unfolding stages_after
  after_long zero = refl
  after_long (suc k) = stages_long l.masks (l.start + k) (words k) (stages_after l bank words k) l.stages ∙ after_long k

  pub begins : stages_after l bank words 0 ≡ bank
  unfolding stages_after
  begins = refl

  -- one event more
  pub goes_on : (k i : ℕ) → i < l.stages → i < length bank → get_or (stages_after l bank words (k + 1)) i nobody ≡ after (get_or (stages_after l bank words k) i nobody) (given_in l bank words k i)
  unfolding stages_after
  goes_on k i h within =
      ap (λ n. get_or (stages_after l bank words n) i nobody) (add-one k)
      ∙ stage_after l.masks (l.start + k) (words k) (stages_after l bank words k) l.stages i h (let long = after_long k in omega arith)

  pub mark_in : (k i : ℕ) → i < l.stages → i < 8 → get_or (row_of l bank words k) i 0 ≡ mark_of (get_or (stages_after l bank words k) i nobody) (given_in l bank words k i)
  mark_in k i h within = mark_after l.masks (l.start + k) (words k) (stages_after l bank words k) l.stages i h within

  -- what stage i finds in the row of a lower stage is what stays there
  pub row_stays : (k i j : ℕ) → j < i → i ≤ l.stages → j < 8 → get_or (passed l.masks (l.start + k) (words k) (stages_after l bank words k) i).row j 0 ≡ get_or (row_of l bank words k) j 0
  row_stays k i j lower h within =
      mark_after l.masks (l.start + k) (words k) (stages_after l bank words k) i j lower within
      ∙ sym (mark_in k j (omega arith) within)
