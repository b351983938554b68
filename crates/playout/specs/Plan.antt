-- A plan: the start, 1 to 8 stages, and for each the mask of the stages directly upstream. Assumes nothing.
use Rattle.std.specs.Prelude.{ℕ, zero, suc, ◌-◌, ◌/◌, ◌^◌, Bool, true, false, not, ◌&&◌, ◌||◌, List, [], ◌∷◌, ◌++◌, length, replicate, ◌==◌, nat_lt}
use Rattle.events.specs.Refusals.{Reply, accepted, unless}
use Rattle.stages.specs.Marks.{names}
use Rattle.playout.specs.Reach.{mask_of}
use Rattle.playout.specs.declared.plan.Plan.{Plan}

-- what a plan says: the masks are eight, 0 where there is no stage
pub record Layout : Type 0 where
  pub start : ℕ
  pub stages : ℕ
  pub masks : List ℕ

abbrev pub layout : Plan → Layout
layout p = record { start = p.start; stages = p.stages; masks = p.masks }

-- the masks of stages i, i + 1 and so on name only lower-numbered stages: they have no bit from their own on
abbrev pub lower : ℕ → List ℕ → Bool
lower i [] = true
lower i (mask ∷ masks) = mask / 2 ^ i == 0 && lower (suc i) masks

-- making a plan refuses 4, 7, 9
abbrev pub planned : ℕ → List ℕ → Reply Layout
planned start masks =
    unless ((length masks == 0 || nat_lt 8 (length masks), 4) ∷ (nat_lt (2 ^ 62) start, 7) ∷ (not (lower 0 masks), 9) ∷ [])
    (accepted (record { start = start; stages = length masks; masks = masks ++ replicate (8 - length masks) 0 }))

-- stage j stands in the mask of some stage below n
unfoldable pub in_mask : List ℕ → ℕ → ℕ → Bool
in_mask masks j zero = false
in_mask masks j (suc i) = names (mask_of masks i) j || in_mask masks j i

-- a gating stage stands in no mask
abbrev pub gating : Layout → ℕ → Bool
gating l j = not (in_mask l.masks j l.stages)
