-- Gating stages. Assumes nothing.
use Rattle.std.proofs.Common.{◌≡◌, ℕ, zero, suc, ◌<◌, ◌≤◌, true, ◌||◌, ◌⊎◌, List, refl, ap, sym, length, take, ◌∙◌, inl, inr, add-one, arith}
use Rattle.std.proofs.lemmas.Bool.{or_cases}
use Rattle.stages.specs.Marks.{names}
use Rattle.playout.specs.Plan.{in_mask}
use Rattle.playout.specs.Reach.{mask_of}
use Rattle.std.specs.List.{list_any}
use Rattle.std.proofs.Math.Bool.{or_comm}
use Rattle.std.proofs.lemmas.List.Folds.{list_any_more}

-- whether j stands in the mask of a stage below n, as a test of the masks
pub in_mask-is_any : (masks : List ℕ) (j n : ℕ) → n ≤ length masks → in_mask masks j n ≡ list_any (λ mask. names mask j) (take n masks)
unfolding in_mask
in_mask-is_any masks j zero h = refl
in_mask-is_any masks j (suc n) h =
    or_comm (names (mask_of masks n) j) (in_mask masks j n)
    ∙ ap (λ b. b || names (mask_of masks n) j) (in_mask-is_any masks j n (omega arith))
    ∙ sym (list_any_more (λ mask. names mask j) masks n 0 (omega arith))
    ∙ ap (λ k. list_any (λ mask. names mask j) (take k masks)) (add-one n)

-- a stage that is in a mask is in the mask of some stage
pub mask_by : (masks : List ℕ) (j n : ℕ) → in_mask masks j n ≡ true → (i : ℕ) × (i < n) × (names (mask_of masks i) j ≡ true)
unfolding in_mask
mask_by masks j zero e = absurd cc
mask_by masks j (suc n) e = go (or_cases (names (mask_of masks n) j) (in_mask masks j n) e) (mask_by masks j n)
  where
    go : (names (mask_of masks n) j ≡ true) ⊎ (in_mask masks j n ≡ true) → (in_mask masks j n ≡ true → (i : ℕ) × (i < n) × (names (mask_of masks i) j ≡ true)) → (i : ℕ) × (i < suc n) × (names (mask_of masks i) j ≡ true)
    go (inl here) lower = (n, omega arith, here)
    go (inr below) lower = let found = lower below in (found.0, omega arith, found.2)
