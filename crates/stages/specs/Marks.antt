-- Sets of stages as masks, and the marks that are shown of a row. Assumes nothing.
use Rattle.std.specs.Prelude.{ℕ, ◌/◌, ◌%◌, ◌^◌, Bool, cond, List, map, ◌==◌, slice_index}
use Rattle.std.specs.List.{range_with_len}

-- bit j of a mask names stage j
abbrev pub names : ℕ → ℕ → Bool
names mask j = mask / 2 ^ j % 2 == 1

-- the eight marks of a row as they are shown: those of the stages in the mask, and 0 elsewhere
abbrev pub shown : ℕ → List ℕ → List ℕ
shown mask row = map (λ j. cond (names mask j) (slice_index row j) 0) (range_with_len 0 8)
