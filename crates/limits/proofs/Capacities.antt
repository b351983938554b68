-- What a capacity is. Assumes nothing.
use Rattle.std.proofs.Common.{◌≡◌, ℕ, ◌≤◌, true, arith}
use Rattle.std.proofs.lemmas.Bool.Decides.{nat_tests}
use Rattle.limits.specs.Capacity.{is_capacity}

pub capacity_some : (n : ℕ) → is_capacity n ≡ true → 1 ≤ n
unfolding is_capacity
capacity_some n h = grind (arith, nat_tests)

pub capacity_most : (n : ℕ) → is_capacity n ≡ true → n ≤ 256
unfolding is_capacity
capacity_most n h = grind (arith, nat_tests)
