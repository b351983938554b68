-- Which stages a mask names. Assumes nothing.
use Rattle.std.proofs.Common.{◌≡◌, ℕ, ◌/◌, ◌^◌, ◌<◌, ◌≤◌, true, false, ◌||◌, eqb, max, sym, ap, ◌∙◌, inl, inr, arith}
use native.Mathlib.Nat.{div-lt_iff_lt-mul}
use Rattle.std.proofs.lemmas.Nat.{pow_pos}
use lib.Bits.{bit_or}
use Rattle.std.proofs.lemmas.Bool.{cases_eq, cases_lt, true≢false}
use Rattle.std.proofs.lemmas.Bool.Decides.{nat_tests}
use Rattle.std.proofs.lemmas.Nat.Bits.{bit_at-lt, bit_at-zero, bit_at-pow_same, bit_at-pow_other, bit_at_or, bit_at_above}
use Rattle.std.specs.Int.{bit_at}
use Rattle.stages.specs.Marks.{names}

-- a mask with no bit from i on names no stage from i on
pub names_below : (mask i j : ℕ) → mask / 2 ^ i ≡ 0 → names mask j ≡ true → j < i
names_below mask i j clear named =
    elim (cases_lt j i) [
      | inl below ↦ below
      | inr above ↦
          let small : mask < 2 ^ i = omega (arith, (div-lt_iff_lt-mul {x = mask} {y = 1} (pow_pos i)).0 (omega arith)) in
          absurd (true≢false (sym named ∙ ap (λ n. eqb n 1) (bit_at_above mask i j small above)))
    ]

-- a byte names no stage from 8 on
pub names_byte : (mask j : ℕ) → mask < 256 → 8 ≤ j → names mask j ≡ false
names_byte mask j byte above = ap (λ n. eqb n 1) (bit_at_above mask 8 j byte above)

pub names_none : (j : ℕ) → names 0 j ≡ false
names_none j = ap (λ n. eqb n 1) (bit_at-zero j)

or_bit : (p q : ℕ) → p < 2 → q < 2 → eqb (max p q) 1 ≡ (eqb p 1 || eqb q 1)
or_bit p q hp hq = grind (arith, nat_tests)

pub names_or : (a b j : ℕ) → names (bit_or a b) j ≡ (names a j || names b j)
names_or a b j = ap (λ n. eqb n 1) (bit_at_or a b j) ∙ or_bit (bit_at a j) (bit_at b j) (bit_at-lt a j) (bit_at-lt b j)

pub names_own : (j : ℕ) → names (2 ^ j) j ≡ true
names_own j = ap (λ n. eqb n 1) (bit_at-pow_same j)

pub names_one : (k j : ℕ) → names (2 ^ k) j ≡ true → j ≡ k
names_one k j named =
    elim (cases_eq j k) [
      | inl e ↦ e
      | inr other ↦ absurd (true≢false (sym named ∙ ap (λ n. eqb n 1) (bit_at-pow_other k j other)))
    ]
