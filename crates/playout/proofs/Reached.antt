-- The reach that is computed is the reach as a relation. Assumes nothing.
use Rattle.std.proofs.Common.{◌≡◌, ℕ, zero, suc, ◌^◌, ◌<◌, Bool, true, false, cond, ◌||◌, ◌⊎◌, List, sym, refl, ap, ◌∙◌, inl, inr, arith}
use lib.Bits.{bit_or}
use Rattle.std.proofs.lemmas.Bool.{cases_order, or_cases, or_left, or_right, true≢false}
use Rattle.stages.specs.Marks.{names}
use Rattle.playout.specs.Reach.{mask_of, Reach, direct, through, Ordered, Reaches, reach_below, reach_of}
use Rattle.stages.proofs.Masks.{names_none, names_or, names_own, names_one}

-- a mask that names no stage reaches none
pub below_none : (masks : List ℕ) (n : ℕ) → reach_below masks 0 n ≡ 0
below_none masks zero = refl
below_none masks (suc n) = rw (names_none n, below_none masks n)

-- where a bit of a union of three comes from
three : (a b c j : ℕ) → names (bit_or (bit_or a b) c) j ≡ ((names a j || names b j) || names c j)
three a b c j = names_or (bit_or a b) c j ∙ ap (λ x. x || names c j) (names_or a b j)

-- from the mask itself, or through a stage that it names
From : List ℕ → ℕ → ℕ → Type 0
From masks mask j = (names mask j ≡ true) ⊎ ((k : ℕ) × (names mask k ≡ true) × Reach masks k j)

sound : (masks : List ℕ) (n mask j : ℕ) → names (reach_below masks mask n) j ≡ true → From masks mask j
unfolding From
sound masks zero mask j h = absurd (true≢false (sym h ∙ names_none j))
sound masks (suc n) mask j h = go (names mask n) refl (sound masks n mask j) (sound masks n (mask_of masks n) j)
  where
    reached : From masks (mask_of masks n) j → Reach masks n j
    reached (inl named) = direct named
    reached (inr (k, named, on)) = through named on

    pick : names mask n ≡ true → (names (reach_below masks mask n) j ≡ true → From masks mask j) → (names (reach_below masks (mask_of masks n) n) j ≡ true → From masks (mask_of masks n) j) → ((names (reach_below masks mask n) j || names (2 ^ n) j) ≡ true) ⊎ (names (reach_below masks (mask_of masks n) n) j ≡ true) → From masks mask j
    pick e lower up (inr on) = inr (n, e, reached (up on))
    pick e lower up (inl on) = first (or_cases (names (reach_below masks mask n) j) (names (2 ^ n) j) on)
      where
        first : (names (reach_below masks mask n) j ≡ true) ⊎ (names (2 ^ n) j ≡ true) → From masks mask j
        first (inl low) = lower low
        first (inr own) = inl (ap (names mask) (names_one n j own) ∙ e)

    go : (b : Bool) → names mask n ≡ b → (names (reach_below masks mask n) j ≡ true → From masks mask j) → (names (reach_below masks (mask_of masks n) n) j ≡ true → From masks (mask_of masks n) j) → From masks mask j
    go false e lower up = lower (ap (λ b. names (cond b (bit_or (bit_or (reach_below masks mask n) (2 ^ n)) (reach_below masks (mask_of masks n) n)) (reach_below masks mask n)) j) (sym e) ∙ h)
    go true e lower up =
        let bits = sym (three (reach_below masks mask n) (2 ^ n) (reach_below masks (mask_of masks n) n) j) ∙ ap (λ b. names (cond b (bit_or (bit_or (reach_below masks mask n) (2 ^ n)) (reach_below masks (mask_of masks n) n)) (reach_below masks mask n)) j) (sym e) ∙ h in
        pick e lower up (or_cases (names (reach_below masks mask n) j || names (2 ^ n) j) (names (reach_below masks (mask_of masks n) n) j) bits)

-- a named stage below n is reached, and all that it reaches
complete : (masks : List ℕ) (n mask k j : ℕ) → k < n → names mask k ≡ true → (j ≡ k) ⊎ (names (reach_of masks k) j ≡ true) → names (reach_below masks mask n) j ≡ true
complete masks zero mask k j h named on = absurd (omega arith)
complete masks (suc n) mask k j h named on = go (names mask n) refl (cases_order k n) (λ low. complete masks n mask k j low named on)
  where
    here : k ≡ n → names mask n ≡ true → names (reach_below masks mask (suc n)) j ≡ true
    here e m =
        ap (λ b. names (cond b (bit_or (bit_or (reach_below masks mask n) (2 ^ n)) (reach_below masks (mask_of masks n) n)) (reach_below masks mask n)) j) m
        ∙ three (reach_below masks mask n) (2 ^ n) (reach_below masks (mask_of masks n) n) j
        ∙ own on
      where
        own : (j ≡ k) ⊎ (names (reach_of masks k) j ≡ true) → ((names (reach_below masks mask n) j || names (2 ^ n) j) || names (reach_below masks (mask_of masks n) n) j) ≡ true
        own (inl same) = or_left (names (reach_below masks mask n) j || names (2 ^ n) j) (names (reach_below masks (mask_of masks n) n) j) (or_right (names (reach_below masks mask n) j) (names (2 ^ n) j) (ap (names (2 ^ n)) (same ∙ e) ∙ names_own n))
        own (inr on) = or_right (names (reach_below masks mask n) j || names (2 ^ n) j) (names (reach_below masks (mask_of masks n) n) j) (ap (λ i. names (reach_of masks i) j) (sym e) ∙ on)

    later : (b : Bool) → names mask n ≡ b → names (reach_below masks mask n) j ≡ true → names (reach_below masks mask (suc n)) j ≡ true
    later false m low = ap (λ b. names (cond b (bit_or (bit_or (reach_below masks mask n) (2 ^ n)) (reach_below masks (mask_of masks n) n)) (reach_below masks mask n)) j) m ∙ low
    later true m low =
        ap (λ b. names (cond b (bit_or (bit_or (reach_below masks mask n) (2 ^ n)) (reach_below masks (mask_of masks n) n)) (reach_below masks mask n)) j) m
        ∙ three (reach_below masks mask n) (2 ^ n) (reach_below masks (mask_of masks n) n) j
        ∙ or_left (names (reach_below masks mask n) j || names (2 ^ n) j) (names (reach_below masks (mask_of masks n) n) j) (or_left (names (reach_below masks mask n) j) (names (2 ^ n) j) low)

    go : (b : Bool) → names mask n ≡ b → (k ≡ n) ⊎ ((k < n) ⊎ (n < k)) → (k < n → names (reach_below masks mask n) j ≡ true) → names (reach_below masks mask (suc n)) j ≡ true
    go b m (inl e) low = here e (ap (names mask) (sym e) ∙ named)
    go b m (inr (inl l)) low = later b m (low l)
    go b m (inr (inr l)) low = absurd (omega arith)

reached : (masks : List ℕ) → Ordered masks → {i j : ℕ} → Reach masks i j → names (reach_of masks i) j ≡ true
reached masks ordered {i} {j} (direct named) = complete masks i (mask_of masks i) j j (ordered i j named) named (inl refl)
reached masks ordered {i} {j} (through {k = k} named on) = complete masks i (mask_of masks i) k j (ordered i k named) named (inr (reached masks ordered on))

pub reaches : (masks : List ℕ) (i : ℕ) → Ordered masks → Reaches masks i (reach_of masks i)
unfolding From
reaches masks i ordered j = (λ h. out (sound masks i (mask_of masks i) j h), reached masks ordered)
  where
    out : From masks (mask_of masks i) j → Reach masks i j
    out (inl named) = direct named
    out (inr (k, named, on)) = through named on
