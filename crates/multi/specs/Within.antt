-- That what is open lies in the window below next, which the law of the sequencer cites: an `impl` may cite of its own crate
-- only what stands in specs/. Lemmas, with their proofs; nothing to believe. Assumes nothing.
use Rattle.std.specs.Prelude.{◌≡◌, ℕ, ◌<◌, ◌≤◌, true, false, List}
use Rattle.std.proofs.Common.{arith}
use Rattle.std.proofs.lemmas.Bool.Decides.{nat_tests}
use Rattle.multi.specs.Rounds.{oldest, open_by}

-- outside the window nothing is open
pub open_below : (slots start next : ℕ) (rounds : List ℕ) (s : ℕ) → s < oldest slots start next → open_by slots start next rounds s ≡ false
open_below slots start next rounds s h = grind (arith, nat_tests)

pub open_past : (slots start next : ℕ) (rounds : List ℕ) (s : ℕ) → next ≤ s → open_by slots start next rounds s ≡ false
open_past slots start next rounds s h = grind (arith, nat_tests)

pub open_window : (slots start next : ℕ) (rounds : List ℕ) (s : ℕ) → open_by slots start next rounds s ≡ true → (oldest slots start next ≤ s) × (s < next)
open_window slots start next rounds s e = (grind (arith, nat_tests), grind (arith, nat_tests))
