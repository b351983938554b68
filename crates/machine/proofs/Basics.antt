-- Lists with one entry changed, tests that a call passed, slots, and the least of a set. Assumes nothing.
use Rattle.std.proofs.Common.{◌≡◌, ℕ, zero, suc, ◌+◌, ◌/◌, ◌%◌, ◌^◌, ◌<◌, ◌≤◌, min, Bool, true, false, cond, eqb, ◌⊎◌, List, [], ◌∷◌, length, get_or, set, sym, refl, ap, ◌∙◌, subst, inl, inr, div-one, arith, shr-shr}
use Rattle.std.proofs.lemmas.List.{get_or-set_other, get_or-set_same}
use Rattle.std.proofs.lemmas.Bool.{cases_eq, cases_lt, cond-false, cond-true, true≢false}
use Rattle.events.specs.Refusals.{Reply, accepted, refused, unless}
use Rattle.sequencer.specs.Sequencer.{least_from}
use Rattle.stages.specs.Marks.{names}
use Rattle.machine.specs.Law.{IsLeast}
use Rattle.machine.specs.Machine.{least_done}
use Rattle.machine.specs.declared.Progress.{Progress}

-- what holds of the new entry and of all others, holds of every entry
pub set_elim : {X : Type 0} (P : ℕ → X → Type 0) (xs : List X) (i : ℕ) (x d : X) → i < length xs → P i x → ((j : ℕ) → (j ≡ i → ⊥) → P j (get_or xs j d)) → (j : ℕ) → P j (get_or (set xs i x) j d)
set_elim P xs i x d within here others j = go (cases_eq j i)
  where
    go : (j ≡ i) ⊎ (j ≡ i → ⊥) → P j (get_or (set xs i x) j d)
    go (inl e) = subst (λ k. P k (get_or (set xs i x) k d)) (sym e) (subst (P i) (sym (get_or-set_same xs i x d within)) here)
    go (inr ne) = subst (P j) (sym (get_or-set_other xs i j x d ne)) (others j ne)

-- the tests that an accepted call passed
abbrev pub Passed : List (Bool × ℕ) → Type 0
Passed [] = Unit {0}
Passed (test ∷ tests) = (test.0 ≡ false) × Passed tests

pub never_refused : {A : Type 0} (n : ℕ) (v : A) → refused n ≡ accepted v → ⊥
never_refused n v e = let z : ◌≡◌ {A = ℕ} 0 1 = cc in omega arith

pub passed_tests : {A : Type 0} (tests : List (Bool × ℕ)) (answer : Reply A) (v : A) → unless tests answer ≡ accepted v → Passed tests × (answer ≡ accepted v)
passed_tests [] answer v e = (tt, e)
passed_tests (test ∷ tests) answer v e = go test.0 refl (passed_tests tests answer v)
  where
    go : (b : Bool) → test.0 ≡ b → (unless tests answer ≡ accepted v → Passed tests × (answer ≡ accepted v)) → ((test.0 ≡ false) × Passed tests) × (answer ≡ accepted v)
    go true eq rest = absurd (never_refused test.1 v (sym (cond-true test.0 (refused test.1) (unless tests answer) eq) ∙ e))
    go false eq rest =
        let more = rest (sym (cond-false test.0 (refused test.1) (unless tests answer) eq) ∙ e) in
        ((eq, more.0), more.1)

pub accepted_is : {A : Type 0} (v w : A) → accepted v ≡ accepted w → v ≡ w
accepted_is v w e = cc

-- the least open sequence from s on, of n
pub least_from_lem : (set : ℕ → Bool) (s n : ℕ) → (s ≤ least_from set s n) × (least_from set s n ≤ s + n) × ((t : ℕ) → s ≤ t → t < least_from set s n → set t ≡ false)
unfolding least_from
least_from_lem set s zero = (omega arith, omega arith, λ t h l. absurd (omega arith))
least_from_lem set s (suc n) = go (set s) refl (least_from_lem set (suc s) n)
  where
    go : (b : Bool) → set s ≡ b → (suc s ≤ least_from set (suc s) n) × (least_from set (suc s) n ≤ suc s + n) × ((t : ℕ) → suc s ≤ t → t < least_from set (suc s) n → set t ≡ false) → (s ≤ cond b s (least_from set (suc s) n)) × (cond b s (least_from set (suc s) n) ≤ s + suc n) × ((t : ℕ) → s ≤ t → t < cond b s (least_from set (suc s) n) → set t ≡ false)
    go true e rest = (omega arith, omega arith, λ t h l. absurd (omega arith))
    go false e rest = (omega (arith, rest.0), omega (arith, rest.1), λ t h l. at t l (cases_eq t s) h)
      where
        at : (t : ℕ) → t < least_from set (suc s) n → (t ≡ s) ⊎ (t ≡ s → ⊥) → s ≤ t → set t ≡ false
        at t l (inl same) h = ap set same ∙ e
        at t l (inr ne) h = rest.2 t (omega arith) l

-- a mask that is not 0 names a stage
pub named_some : (fuel mask : ℕ) → mask ≤ fuel → 0 < mask → (j : ℕ) × (names mask j ≡ true)
named_some zero mask h some = absurd (omega arith)
named_some (suc fuel) mask h some = go (cases_eq (mask % 2) 1) (named_some fuel (mask / 2) (omega arith))
  where
    go : (mask % 2 ≡ 1) ⊎ (mask % 2 ≡ 1 → ⊥) → (0 < mask / 2 → (j : ℕ) × (names (mask / 2) j ≡ true)) → (j : ℕ) × (names mask j ≡ true)
    go (inl odd) rest = (0, ap (λ n. eqb (n % 2) 1) (div-one mask) ∙ ap (λ n. eqb n 1) odd)
    go (inr even) rest = on (rest (omega arith))
      where
        on : (j : ℕ) × (names (mask / 2) j ≡ true) → (j : ℕ) × (names mask j ≡ true)
        on (j, up) = (suc j, let e : suc j ≡ 1 + j = omega arith in ap (λ n. eqb (n % 2) 1) (ap (λ n. mask / 2 ^ n) e ∙ sym (shr-shr mask 1 j)) ∙ up)

-- the least done of a set
pub least_below : (places : List Progress) (among : ℕ → Bool) (n j : ℕ) → j < n → among j ≡ true → least_done places among n ≤ (get_or places j (record { seen = 0; at = 0; done = 0 })).done
unfolding least_done
least_below places among zero j h e = absurd (omega arith)
least_below places among (suc n) j h e = go (among n) refl (cases_eq j n) (λ low. least_below places among n j low e)
  where
    go : (b : Bool) → among n ≡ b → (j ≡ n) ⊎ (j ≡ n → ⊥) → (j < n → least_done places among n ≤ (get_or places j (record { seen = 0; at = 0; done = 0 })).done) → cond b (min (least_done places among n) (get_or places n (record { seen = 0; at = 0; done = 0 })).done) (least_done places among n) ≤ (get_or places j (record { seen = 0; at = 0; done = 0 })).done
    go true eq (inl same) lower = omega (arith, ap (λ k. (get_or places k (record { seen = 0; at = 0; done = 0 })).done) same)
    go true eq (inr ne) lower = let low = lower (omega arith) in omega arith
    go false eq (inl same) lower = absurd (true≢false (sym e ∙ ap among same ∙ eq))
    go false eq (inr ne) lower = lower (omega arith)

pub least_above : (places : List Progress) (among : ℕ → Bool) (n b : ℕ) → b ≤ 2 ^ 62 → ((j : ℕ) → j < n → among j ≡ true → b ≤ (get_or places j (record { seen = 0; at = 0; done = 0 })).done) → b ≤ least_done places among n
unfolding least_done
least_above places among zero b top each = top
least_above places among (suc n) b top each = go (among n) refl (least_above places among n b top (λ j h e. each j (omega arith) e))
  where
    go : (t : Bool) → among n ≡ t → b ≤ least_done places among n → b ≤ cond t (min (least_done places among n) (get_or places n (record { seen = 0; at = 0; done = 0 })).done) (least_done places among n)
    go true e low = let here = each n (omega arith) e in omega arith
    go false e low = low

-- it is the least, if one is in the set and none is past the end of all sequences
attained : (places : List Progress) (among : ℕ → Bool) (n : ℕ) → (least_done places among n ≡ 2 ^ 62) ⊎ ((j : ℕ) × (j < n) × (among j ≡ true) × (least_done places among n ≡ (get_or places j (record { seen = 0; at = 0; done = 0 })).done))
unfolding least_done
attained places among zero = inl refl
attained places among (suc n) = go (among n) refl (attained places among n) (cases_lt (least_done places among n) (get_or places n (record { seen = 0; at = 0; done = 0 })).done)
  where
    go : (b : Bool) → among n ≡ b → (least_done places among n ≡ 2 ^ 62) ⊎ ((j : ℕ) × (j < n) × (among j ≡ true) × (least_done places among n ≡ (get_or places j (record { seen = 0; at = 0; done = 0 })).done)) → (least_done places among n < (get_or places n (record { seen = 0; at = 0; done = 0 })).done) ⊎ ((get_or places n (record { seen = 0; at = 0; done = 0 })).done ≤ least_done places among n) → (cond b (min (least_done places among n) (get_or places n (record { seen = 0; at = 0; done = 0 })).done) (least_done places among n) ≡ 2 ^ 62) ⊎ ((j : ℕ) × (j < suc n) × (among j ≡ true) × (cond b (min (least_done places among n) (get_or places n (record { seen = 0; at = 0; done = 0 })).done) (least_done places among n) ≡ (get_or places j (record { seen = 0; at = 0; done = 0 })).done))
    go false e (inl top) order = inl top
    go false e (inr (j, l, is, same)) order = inr (j, omega arith, is, same)
    go true e (inl top) (inl less) = inl (omega arith)
    go true e (inr (j, l, is, same)) (inl less) = inr (j, omega arith, is, omega arith)
    go true e rest (inr most) = inr (n, omega arith, e, omega arith)

pub least_of : (places : List Progress) (among : ℕ → Bool) (n j : ℕ) → j < n → among j ≡ true → (get_or places j (record { seen = 0; at = 0; done = 0 })).done ≤ 2 ^ 62 → IsLeast places among n (least_done places among n)
least_of places among n j l is bound = record { below = least_below places among n; one = go (attained places among n) }
  where
    go : (least_done places among n ≡ 2 ^ 62) ⊎ ((j : ℕ) × (j < n) × (among j ≡ true) × (least_done places among n ≡ (get_or places j (record { seen = 0; at = 0; done = 0 })).done)) → (j : ℕ) × (j < n) × (among j ≡ true) × (least_done places among n ≡ (get_or places j (record { seen = 0; at = 0; done = 0 })).done)
    go (inl top) = (j, l, is, let low = least_below places among n j l is in omega arith)
    go (inr found) = found
