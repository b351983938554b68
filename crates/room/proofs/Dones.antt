-- The least done, as the stages come one after another. Assumes nothing.
use Rattle.std.proofs.Common.{◌≡◌, ℕ, zero, suc, ◌+◌, ◌^◌, ◌≤◌, min, Bool, cond, List, [], ◌∷◌, ◌++◌, length, get_or, take, refl, arith, add-zero}
use Rattle.std.proofs.Math.Seq.{take-suc}
use Rattle.std.proofs.lemmas.Grind.{common_steps}
use Rattle.std.proofs.lemmas.List.Sums.{fold-append}
use Rattle.std.specs.List.{enumerate_from, fold}
use Rattle.machine.specs.Machine.{least_done}
use Rattle.machine.specs.declared.Progress.{Progress}

numbered-append : {X : Type 0} (k : ℕ) (xs ys : List X) → enumerate_from k (xs ++ ys) ≡ enumerate_from k xs ++ enumerate_from (k + length xs) ys
numbered-append k [] ys = simp add-zero
numbered-append k (x ∷ xs) ys = grind (arith, common_steps, numbered-append (k + 1) xs ys)

-- the least so far, with what one more stage has done, if it is in the set
abbrev pub or_done : (ℕ → Bool) → ℕ → ℕ × Progress → ℕ
or_done set least p = cond (set p.0) (min least p.1.done) least

-- the least done of a set of stages, when one stage is taken after another
pub least_dones : (places : List Progress) (set : ℕ → Bool) (n : ℕ) → n ≤ length places → fold (or_done set) (2 ^ 62) (enumerate_from 0 (take n places)) ≡ least_done places set n
unfolding least_done
least_dones places set zero few = refl
least_dones places set (suc n) few =
    let none : Progress = record { seen = 0; at = 0; done = 0 } in
    let more : enumerate_from 0 (take (suc n) places) ≡ enumerate_from 0 (take n places) ++ (n, get_or places n none) ∷ [] = grind (arith, common_steps, take-suc places n none, numbered-append 0 (take n places) (get_or places n none ∷ [])) in
    rw (more, fold-append, least_dones places set n (omega arith)) refl
