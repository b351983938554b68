-- Slots of a ring. Assumes nothing.
use Rattle.std.proofs.Common.{◌≡◌, ℕ, suc, ◌+◌, ◌*◌, ◌/◌, ◌%◌, ◌<◌, ◌≤◌, ◌⊎◌, inl, inr, mul-le-mul_left, arith}
use native.Mathlib.Nat.{div-add-mod}
use Rattle.std.proofs.lemmas.Bool.{cases_lt}

-- two sequences less than a ring apart have two slots
pub slot_apart : (n a b : ℕ) → a < b → b < a + n → a % n ≡ b % n → ⊥
slot_apart n a b less near same = go (cases_lt (a / n) (b / n))
  where
    go : (a / n < b / n) ⊎ (b / n ≤ a / n) → ⊥
    go (inl up) = let more : n * suc (a / n) ≤ n * (b / n) = mul-le-mul_left n up in omega (arith, div-add-mod a n, div-add-mod b n)
    go (inr down) = let most : n * (b / n) ≤ n * (a / n) = mul-le-mul_left n down in omega (arith, div-add-mod a n, div-add-mod b n)
