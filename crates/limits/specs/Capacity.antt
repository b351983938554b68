-- Capacities. Assumes nothing.
use Rattle.std.specs.Prelude.{ℕ, ◌^◌, Bool, false, ◌||◌, List, [], ◌∷◌, map, ◌==◌}
use Rattle.std.specs.List.{range_with_len}

-- whether a number is one of these
abbrev pub among : ℕ → List ℕ → Bool
among n [] = false
among n (m ∷ ms) = n == m || among n ms

-- a power of two from 1 to 256
unfoldable pub is_capacity : ℕ → Bool
is_capacity n = among n (map (λ k. 2 ^ k) (range_with_len 0 9))
