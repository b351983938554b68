-- Masks, and the reach of a stage: every stage in its mask together with their reaches. Assumes nothing.
use Rattle.std.specs.Prelude.{◌≡◌, ℕ, zero, suc, ◌^◌, ◌<◌, true, cond, List, bit_or, slice_index}
use Rattle.stages.specs.Marks.{names}

abbrev pub mask_of : List ℕ → ℕ → ℕ
mask_of masks i = slice_index masks i

-- as a relation
pub data Reach (masks : List ℕ) : ℕ → ℕ → Type 0 where
  direct : {i j : ℕ} → names (mask_of masks i) j ≡ true → Reach masks i j
  through : {i k j : ℕ} → names (mask_of masks i) k ≡ true → Reach masks k j → Reach masks i j

-- a mask names only lower-numbered stages
abbrev pub Ordered : List ℕ → Type 0
Ordered masks = (i j : ℕ) → names (mask_of masks i) j ≡ true → j < i

-- the stages below n that a mask names, together with their reaches, as a mask
abbrev pub reach_below : List ℕ → ℕ → ℕ → ℕ
reach_below masks mask zero = 0
reach_below masks mask (suc j) =
    cond (names mask j) (bit_or (bit_or (reach_below masks mask j) (2 ^ j)) (reach_below masks (mask_of masks j) j)) (reach_below masks mask j)

-- the reach of stage i, as a mask
abbrev pub reach_of : List ℕ → ℕ → ℕ
reach_of masks i = reach_below masks (mask_of masks i) i

-- the two say the same, where masks are ordered
abbrev pub Reaches : List ℕ → ℕ → ℕ → Type 0
Reaches masks i reach = (j : ℕ) → (names reach j ≡ true → Reach masks i j) × (Reach masks i j → names reach j ≡ true)
