use Rattle.std.proofs.Common.{rules, ◌≡◌, ℕ, zero, suc, ◌+◌, ◌<◌, ◌≤◌, cond, List, map, slice_index, get_or, ◌∙◌, subst, inl, inr, arith}
use Rattle.std.specs.Array.{IsFromFnResult, IsFromFnResultFrom}
use Rattle.std.specs.List.{range_with_len}
use denote.Param.Members.{Mut, Called}
use Rattle.std.proofs.lemmas.Bool.{cases_lt}
use Rattle.std.proofs.lemmas.List.FromFn.{fill_by_all}
use Rattle.stages.specs.Marks.{names}
use Rattle.stages.proofs.marks.show.Goals as goal

-- calls that leave the closure as it is and give h j at each j make h k at place k
from_fn_at : {F : Type 0} (g : Mut F (ℕ × Unit {0}) ℕ) (f : F) (h : ℕ → ℕ) (ys : List ℕ) → ((j y : ℕ) (q : F) → Called g f (j, tt) y q → (y ≡ h j) × (q ≡ f)) → (i n : ℕ) → IsFromFnResultFrom g f ys i n → (k : ℕ) → i ≤ k → k < i + n → get_or ys k 0 ≡ h k
from_fn_at g f h ys gives i zero made k low below = absurd (omega arith)
from_fn_at {F} g f h ys gives i (suc n) made k low below =
    let this : (made.1 ≡ h i) × (made.0 ≡ f) = gives i made.1 made.0 made.3 in
    let P : F → Type 0 = λ q. IsFromFnResultFrom g q ys (i + 1) n in
    elim (cases_lt i k) [
      | inl more ↦ from_fn_at g f h ys gives (i + 1) n (subst P this.1 made.4) k (omega arith) (omega arith)
      | inr least ↦ let e : i ≡ k = omega arith in subst (λ j. get_or ys j 0 ≡ h j) e (made.2.1 0 ∙ this.0)
    ]

from_fn_map : {F : Type 0} {g : Mut F (ℕ × Unit {0}) ℕ} {f : F} {ys : List ℕ} {n : ℕ} (h : ℕ → ℕ) → IsFromFnResult g f ys n → ((j y : ℕ) (q : F) → Called g f (j, tt) y q → (y ≡ h j) × (q ≡ f)) → ys ≡ map h (range_with_len 0 n)
from_fn_map {g} {f} {ys} {n} h made gives = fill_by_all h ys n 0 made.long (λ k below. from_fn_at g f h ys gives 0 n made.each k (omega arith) (omega arith))

pub returns : goal.returns
returns c = from_fn_map (λ j. cond (names c.args.among j) (slice_index c.args.marks.now j) 0) c.from_fn.ensures.items (λ j y q called. search rules)
