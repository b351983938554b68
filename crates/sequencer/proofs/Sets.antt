-- Sets of sequences: whether some or all are in one, and the least. Assumes nothing.
use Rattle.std.proofs.Common.{◌≡◌, ℕ, zero, suc, ◌+◌, ◌-◌, ◌<◌, ◌≤◌, max, Bool, true, false, ◌&&◌, ◌⊎◌, sym, refl, ap, ◌∙◌, inl, inr, add-zero, arith}
use Rattle.std.proofs.lemmas.Bool.Decides.{nat_tests}
use Rattle.std.specs.List.{list_all, list_any, range_with_len}
use Rattle.std.proofs.lemmas.Bool.{and_parts, cases_lt}
use Rattle.sequencer.specs.Sequencer.{Sequencing, all_from, between, first_open, least_from, some_below}

-- the sequences from one to another
pub between_in : (from upto s : ℕ) → from ≤ s → s < upto → between from upto s ≡ true
between_in from upto s low high = grind (arith, nat_tests)

pub between_below : (from upto s : ℕ) → s < from → between from upto s ≡ false
between_below from upto s h = grind (arith, nat_tests)

pub between_parts : (from upto s : ℕ) → between from upto s ≡ true → (from ≤ s) × (s < upto)
between_parts from upto s e = (grind (arith, nat_tests), grind (arith, nat_tests))

-- some or none below n
pub some_none : (set : ℕ → Bool) (n : ℕ) → ((s : ℕ) → s < n → set s ≡ false) → some_below set n ≡ false
unfolding some_below
some_none set zero out = refl
some_none set (suc n) out = grind (arith, out n (omega arith), some_none set n (λ s h. out s (omega arith)))

pub some_has : (set : ℕ → Bool) (n s : ℕ) → s < n → set s ≡ true → some_below set n ≡ true
unfolding some_below
some_has set zero s h e = absurd (omega arith)
some_has set (suc n) s h e =
    let rest : s < n → some_below set n ≡ true = λ low. some_has set n s low e in
    let here : s ≡ n → set s ≡ set n = ap set in
    grind (arith, rest, here)

pub none_below : (set : ℕ → Bool) (n s : ℕ) → some_below set n ≡ false → s < n → set s ≡ false
none_below set n s none h =
    let has : set s ≡ true → some_below set n ≡ true = some_has set n s h in
    grind (arith, has)

-- all or not all of n
pub all_in : (set : ℕ → Bool) (lo n : ℕ) → ((k : ℕ) → k < n → set (lo + k) ≡ true) → all_from set lo n ≡ true
unfolding all_from
all_in set lo zero each = refl
all_in set lo (suc n) each = grind (arith, each n (omega arith), all_in set lo n (λ k h. each k (omega arith)))

pub all_at : (set : ℕ → Bool) (lo n k : ℕ) → all_from set lo n ≡ true → k < n → set (lo + k) ≡ true
unfolding all_from
all_at set lo zero k all h = absurd (omega arith)
all_at set lo (suc n) k all h =
    let parts = and_parts (set (lo + n)) (all_from set lo n) all in
    let rest : k < n → set (lo + k) ≡ true = all_at set lo n k parts.1 in
    let here : n ≡ k → set (lo + n) ≡ set (lo + k) = λ e. ap (λ m. set (lo + m)) e in
    grind (arith, rest, here, parts)

-- none before s + k, and there one is in the set or the sequences end
pub least_is : (set : ℕ → Bool) (s n k : ℕ) → k ≤ n → ((j : ℕ) → j < k → set (s + j) ≡ false) → (k ≡ n) ⊎ (set (s + k) ≡ true) → least_from set s n ≡ s + k
unfolding least_from
least_is set s zero k h out end = omega arith
least_is set s (suc n) zero h out end = grind (arith, end)
least_is set s (suc n) (suc k) h out end =
    let next : suc s + k ≡ s + suc k = omega arith in
    let here = out 0 (omega arith) in
    let rest = least_is set (suc s) n k (omega arith) (λ j l. ap set (let e : suc s + j ≡ s + suc j = omega arith in e) ∙ out (suc j) (omega arith)) (grind (arith, ap set next)) in
    grind (arith, here, rest)

-- those in a range, by std's tests over its list
all_front : (set : ℕ → Bool) (lo n : ℕ) → all_from set lo (suc n) ≡ (set lo && all_from set (lo + 1) n)
unfolding all_from
all_front set lo zero = ap (λ s. set s && true) (add-zero lo)
all_front set lo (suc n) =
    let rest = all_front set lo n in
    let same : lo + suc n ≡ lo + 1 + n = omega arith in
    grind (arith, ap set same)

pub all_range : (set : ℕ → Bool) (lo n : ℕ) → list_all set (range_with_len lo n) ≡ all_from set lo n
unfolding all_from
all_range set lo zero = refl
all_range set lo (suc n) = ap (λ b. set lo && b) (all_range set (lo + 1) n) ∙ sym (all_front set lo n)

some_from : (set : ℕ → Bool) (lo n : ℕ) → ((s : ℕ) → s < lo → set s ≡ false) → list_any set (range_with_len lo n) ≡ some_below set (lo + n)
some_from set lo zero out = grind (arith, some_none set lo out)
some_from set lo (suc n) out =
    let same : lo + 1 + n ≡ lo + suc n = omega arith in
    let has : set lo ≡ true → some_below set (lo + suc n) ≡ true = some_has set (lo + suc n) lo (omega arith) in
    let rest : set lo ≡ false → list_any set (range_with_len (lo + 1) n) ≡ some_below set (lo + suc n) =
    λ here. some_from set (lo + 1) n (λ s h. none_here set lo s out here h) ∙ ap (some_below set) same in
    grind (arith, has, rest)
  where
    none_here : (set : ℕ → Bool) (lo s : ℕ) → ((s : ℕ) → s < lo → set s ≡ false) → set lo ≡ false → s < lo + 1 → set s ≡ false
    none_here set lo s out here h = let at : s ≡ lo → set s ≡ set lo = ap set in grind (arith, out s, at)

pub some_range : (set : ℕ → Bool) (lo hi : ℕ) → ((s : ℕ) → s < lo → set s ≡ false) → list_any set (range_with_len lo (hi - lo)) ≡ some_below set hi
some_range set lo hi out =
    let upto : lo ≤ hi → some_below set (lo + (hi - lo)) ≡ some_below set hi = λ h. ap (some_below set) (let e : lo + (hi - lo) ≡ hi = omega arith in e) in
    let none : hi ≤ lo → some_below set hi ≡ false = λ h. some_none set hi (λ s l. out s (omega arith)) in
    let past : hi ≤ lo → some_below set (lo + (hi - lo)) ≡ false = λ h. some_none set (lo + (hi - lo)) (λ s l. out s (omega arith)) in
    grind (arith, some_from set lo (hi - lo) out, upto, none, past)

-- a scan for the first open one: it is here, further on, or nowhere before a later one
pub first_here : (q : Sequencing) (s : ℕ) → s < q.next → q.is_open s ≡ true → first_open q s ≡ s
unfolding least_from
first_here q s low here =
    let more : q.next - s ≡ suc (q.next - suc s) = omega arith in
    grind (arith, nat_tests, here, ap (least_from q.is_open s) more)

pub first_on : (q : Sequencing) (s : ℕ) → s < q.next → q.is_open s ≡ false → first_open q s ≡ first_open q (s + 1)
unfolding least_from
first_on q s low out =
    let more : q.next - s ≡ suc (q.next - (s + 1)) = omega arith in
    let end : q.next - (s + 1) ≡ 0 → least_from q.is_open (s + 1) (q.next - (s + 1)) ≡ s + 1 = λ e. ap (least_from q.is_open (s + 1)) e in
    grind (arith, nat_tests, out, end, ap (least_from q.is_open s) more)

first_skip : (q : Sequencing) (from k : ℕ) → from + k ≤ q.next → ((s : ℕ) → s < from + k → q.is_open s ≡ false) → first_open q from ≡ first_open q (from + k)
first_skip q from zero h out = ap (first_open q) (sym (add-zero from))
first_skip q from (suc k) h out =
    let on : from + k + 1 ≡ from + suc k = omega arith in
    first_skip q from k (omega arith) (λ s l. out s (omega arith)) ∙ first_on q (from + k) (omega arith) (out (from + k) (omega arith)) ∙ ap (first_open q) on

pub first_from : (q : Sequencing) (from low : ℕ) → low ≤ q.next → ((s : ℕ) → s < low → q.is_open s ≡ false) → first_open q from ≡ first_open q (max from low)
first_from q from low h out = go (cases_lt from low)
  where
    go : (from < low) ⊎ (low ≤ from) → first_open q from ≡ first_open q (max from low)
    go (inl less) =
        let at : from + (low - from) ≡ max from low = omega arith in
        first_skip q from (low - from) (omega arith) (λ s l. out s (omega arith)) ∙ ap (first_open q) at
    go (inr past) = let at : from ≡ max from low = omega arith in ap (first_open q) at
