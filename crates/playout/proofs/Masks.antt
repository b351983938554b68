-- The masks of a plan name only lower-numbered stages. Assumes nothing.
use Rattle.std.proofs.Common.{◌≡◌, ℕ, zero, suc, ◌+◌, ◌-◌, ◌/◌, ◌^◌, ◌≤◌, true, eqb, List, [], ◌∷◌, ◌++◌, length, get_or, replicate, sym, refl, ap, ◌∙◌, add-zero, add-one, ◌&&◌, arith}
use native.Mathlib.Nat.{zero-div}
use Rattle.std.proofs.lemmas.List.{length-append, length-replicate}
use Rattle.std.proofs.lemmas.Bool.{and_parts, eqb-true}
use Rattle.stages.proofs.Masks.{names_below}
use Rattle.std.specs.List.{enumerate_from, list_all}
use Rattle.playout.specs.Plan.{lower}
use Rattle.playout.specs.Reach.{mask_of, Ordered}

-- masks that pass the test have no bit from their own stage on
lower_at : (i : ℕ) (masks : List ℕ) (m k : ℕ) → lower i masks ≡ true → get_or (masks ++ replicate m 0) k 0 / 2 ^ (i + k) ≡ 0
lower_at i [] m k h = ap (λ n. n / 2 ^ (i + k)) (blank m k) ∙ zero-div (2 ^ (i + k))
  where
    blank : (m k : ℕ) → ◌≡◌ {A = ℕ} (get_or (replicate m 0) k 0) 0
    blank zero k = refl
    blank (suc m) zero = refl
    blank (suc m) (suc k) = blank m k
lower_at i (mask ∷ masks) m zero h =
    let both = and_parts (eqb (mask / 2 ^ i) 0) (lower (suc i) masks) h in
    ap (λ n. mask / 2 ^ n) (add-zero i) ∙ eqb-true (mask / 2 ^ i) 0 both.0
lower_at i (mask ∷ masks) m (suc k) h =
    let both = and_parts (eqb (mask / 2 ^ i) 0) (lower (suc i) masks) h in
    let e : i + suc k ≡ suc i + k = omega arith in
    ap (λ n. get_or (masks ++ replicate m 0) k 0 / 2 ^ n) e ∙ lower_at (suc i) masks m k both.1

pub lower_ordered : (masks : List ℕ) (m : ℕ) → lower 0 masks ≡ true → Ordered (masks ++ replicate m 0)
lower_ordered masks m h i j named =
    let e : 0 + i ≡ i = omega arith in
    names_below (mask_of (masks ++ replicate m 0) i) i j (ap (λ n. mask_of (masks ++ replicate m 0) i / 2 ^ n) (sym e) ∙ lower_at 0 masks m i h) named

-- the test, as one of each mask with its stage
pub lower-is_all : (i : ℕ) (masks : List ℕ) → lower i masks ≡ list_all (λ p. eqb (p.1 / 2 ^ p.0) 0) (enumerate_from i masks)
lower-is_all i [] = refl
lower-is_all i (mask ∷ masks) = ap (λ b. eqb (mask / 2 ^ i) 0 && b) (lower-is_all (suc i) masks ∙ ap (λ n. list_all (λ p. eqb (p.1 / 2 ^ p.0) 0) (enumerate_from n masks)) (sym (add-one i)))

-- with 0 where there is no stage they are eight
pub stored_length : (masks : List ℕ) → length masks ≤ 8 → length (masks ++ replicate (8 - length masks) 0) ≡ 8
stored_length masks few = simp (length-append, length-replicate) (omega arith)
