-- The open sequences of a sequencer that keeps one cursor: those between the cursor and next. Assumes nothing.
use Rattle.std.proofs.Common.{◌≡◌, ℕ, zero, suc, ◌+◌, ◌-◌, ◌<◌, ◌≤◌, max, not, ◌&&◌, ◌||◌, true, eqb, leb, ltb, ◌⊎◌, sym, ◌∙◌, inl, inr, arith}
use mathlib.Core.Path.{fun_ext}
use Rattle.std.proofs.lemmas.Bool.{cases_lt, lt-ltb, le-ltb}
use Rattle.std.proofs.lemmas.Bool.Decides.{nat_tests}
use Rattle.sequencer.specs.Sequencer.{all_from, between, least_from, some_below}
use Rattle.sequencer.proofs.Sets.{between_below, between_in, least_is, some_has, some_none}

-- one is open below b just if the cursor is
pub some_between : (cursor next b : ℕ) → b ≤ next → some_below (between cursor next) b ≡ ltb cursor b
some_between cursor next b h = go (cases_lt cursor b)
  where
    go : (cursor < b) ⊎ (b ≤ cursor) → some_below (between cursor next) b ≡ ltb cursor b
    go (inl low) = some_has (between cursor next) b cursor low (between_in cursor next cursor (omega arith) (omega arith)) ∙ sym (lt-ltb cursor b low)
    go (inr high) = some_none (between cursor next) b (λ s l. between_below cursor next s (omega arith)) ∙ sym (le-ltb cursor b high)

-- all of some are open just if they lie from the cursor to next
pub all_between : (cursor next lo n : ℕ) → all_from (between cursor next) lo n ≡ (eqb n 0 || (leb cursor lo && leb (lo + n) next))
unfolding all_from
all_between cursor next lo zero = grind (arith, nat_tests)
all_between cursor next lo (suc n) = let rest = all_between cursor next lo n in grind (arith, nat_tests)

-- the first open one
pub least_between : (cursor next from : ℕ) → cursor ≤ next → from < next → least_from (between cursor next) from (next - from) ≡ max from cursor
least_between cursor next from order low =
    let k : ℕ = max from cursor - from in
    let at = least_is (between cursor next) from (next - from) k (omega arith) (λ j h. between_below cursor next (from + j) (omega arith)) (end (cases_lt cursor next)) in
    omega arith
  where
    end : (cursor < next) ⊎ (next ≤ cursor) → (max from cursor - from ≡ next - from) ⊎ (between cursor next (from + (max from cursor - from)) ≡ true)
    end (inl some) = inr (between_in cursor next (from + (max from cursor - from)) (omega arith) (omega arith))
    end (inr none) = inl (omega arith)

-- what is open when n more are claimed
pub between_more : (cursor next n : ℕ) → cursor ≤ next → (λ s. between cursor next s || between next (next + n) s) ≡ between cursor (next + n)
between_more cursor next n h = fun_ext (λ s. grind (arith, nat_tests))

-- what is open when those from the cursor to below hi are published
pub between_fewer : (cursor next lo hi : ℕ) → lo ≡ cursor → lo ≤ hi → (λ s. between cursor next s && not (between lo hi s)) ≡ between hi next
between_fewer cursor next lo hi same h = fun_ext (λ s. grind (arith, nat_tests))

pub ruleset one_cursor = (nat_tests, some_between, all_between, least_between, between_more, between_fewer)
