-- What the rounds say of the sequences in the window below next. Assumes nothing.
use Rattle.std.specs.Prelude.{◌≡◌, ℕ, zero, suc, ◌+◌, ◌-◌, ◌*◌, ◌/◌, ◌%◌, ◌<◌, ◌≤◌, Bool, true, false, not, ◌&&◌, ◌||◌, ◌≢◌, ◌⊎◌, List, length, nat_lt, slice_index, slice_set, refl}
use Rattle.std.proofs.Common.{sym, ap, ◌∙◌, inl, inr, mod-lt, arith}
use Rattle.std.proofs.Math.Path.{fun_ext}
use Rattle.std.proofs.Math.Nat.{div-add-mod}
use Rattle.limits.proofs.Slots.{slot_apart}
use Rattle.std.proofs.lemmas.List.{get_or-set_same, get_or-set_other, length-set}
use Rattle.std.proofs.lemmas.Bool.{and_parts, cases_eq, cases_lt, ltb-true}
use Rattle.std.proofs.lemmas.Bool.Decides.{nat_tests}
use Rattle.multi.specs.Rounds.{oldest, open_by, round_of, rounds_after}
use Rattle.multi.specs.Within.{open_window}
use Rattle.sequencer.specs.Sequencer.{all_from, between, some_below}
use Rattle.sequencer.proofs.Sets.{all_at, none_below}

-- a sequence that was not claimed has not its own round in its slot
pub unclaimed : (slots next r s : ℕ) → 1 ≤ slots → r * slots + s % slots < next + slots → next ≤ s → r ≢ round_of slots s
unclaimed slots next r s some bound past same =
    let sum : round_of slots s * slots + s % slots ≡ s + slots = omega (arith, div-add-mod s slots) in
    let at : r * slots ≡ round_of slots s * slots = ap (λ n. n * slots) same in
    omega arith

-- the rounds after publishing keep their number
pub after_length : (slots : ℕ) (rounds : List ℕ) (lo n : ℕ) → length (rounds_after slots rounds lo n) ≡ length rounds
unfolding rounds_after
after_length slots rounds lo zero = refl
after_length slots rounds lo (suc n) = length-set (rounds_after slots rounds lo n) ((lo + n) % slots) (round_of slots (lo + n)) ∙ after_length slots rounds lo n

pub after_none : (slots : ℕ) (rounds : List ℕ) (lo : ℕ) → rounds ≡ rounds_after slots rounds lo (lo - lo)
unfolding rounds_after
after_none slots rounds lo = let none : 0 ≡ lo - lo = omega arith in ap (rounds_after slots rounds lo) none

pub after_more : (slots : ℕ) (rounds : List ℕ) (lo s : ℕ) → lo ≤ s → slice_set (rounds_after slots rounds lo (s - lo)) (s % slots) (s / slots + 1) ≡ rounds_after slots rounds lo (s + 1 - lo)
unfolding rounds_after
after_more slots rounds lo s h =
    let same : s ≡ lo + (s - lo) = omega arith in
    let more : suc (s - lo) ≡ s + 1 - lo = omega arith in
    ap (λ t. slice_set (rounds_after slots rounds lo (s - lo)) (t % slots) (round_of slots t)) same ∙ ap (rounds_after slots rounds lo) more

-- a slot that none of them has keeps its round
pub after_other : (slots : ℕ) (rounds : List ℕ) (lo n i : ℕ) → ((k : ℕ) → k < n → i ≢ (lo + k) % slots) → slice_index (rounds_after slots rounds lo n) i ≡ slice_index rounds i
unfolding rounds_after
after_other slots rounds lo zero i apart = refl
after_other slots rounds lo (suc n) i apart =
    get_or-set_other (rounds_after slots rounds lo n) ((lo + n) % slots) i (round_of slots (lo + n)) 0 (apart n (omega arith))
    ∙ after_other slots rounds lo n i (λ k h. apart k (omega arith))

-- the slot that was written last has the round written
after_last : (slots : ℕ) (rounds : List ℕ) (lo n i : ℕ) → 1 ≤ slots → slots ≤ length rounds → i ≡ (lo + n) % slots → slice_index (rounds_after slots rounds lo (suc n)) i ≡ round_of slots (lo + n)
unfolding rounds_after
after_last slots rounds lo n i some table same =
    ap (slice_index (slice_set (rounds_after slots rounds lo n) ((lo + n) % slots) (round_of slots (lo + n)))) same
    ∙ get_or-set_same (rounds_after slots rounds lo n) ((lo + n) % slots) (round_of slots (lo + n)) 0 (omega (arith, after_length slots rounds lo n, mod-lt (lo + n) some))

-- a published one has its own, if no more than a ring's worth is published
pub after_own : (slots : ℕ) (rounds : List ℕ) (lo n k : ℕ) → 1 ≤ slots → slots ≤ length rounds → n ≤ slots → k < n → slice_index (rounds_after slots rounds lo n) ((lo + k) % slots) ≡ round_of slots (lo + k)
unfolding rounds_after
after_own slots rounds lo zero k some table few h = absurd (omega arith)
after_own slots rounds lo (suc n) k some table few h = go (cases_lt k n) (λ low. after_own slots rounds lo n k some table (omega arith) low)
  where
    go : (k < n) ⊎ (n ≤ k) → (k < n → slice_index (rounds_after slots rounds lo n) ((lo + k) % slots) ≡ round_of slots (lo + k)) → slice_index (slice_set (rounds_after slots rounds lo n) ((lo + n) % slots) (round_of slots (lo + n))) ((lo + k) % slots) ≡ round_of slots (lo + k)
    go (inl low) lower =
        get_or-set_other (rounds_after slots rounds lo n) ((lo + n) % slots) ((lo + k) % slots) (round_of slots (lo + n)) 0 (slot_apart slots (lo + k) (lo + n) (omega arith) (omega arith))
        ∙ lower low
    go (inr high) lower =
        let same : n ≡ k = omega arith in
        after_last slots rounds lo n ((lo + k) % slots) some table (ap (λ m. (lo + m) % slots) (sym same)) ∙ ap (λ m. round_of slots (lo + m)) same

-- every round is that of a claimed sequence
pub rounds_claimed : (slots : ℕ) (rounds : List ℕ) (lo n next : ℕ) → 1 ≤ slots → slots ≤ length rounds → lo + n ≤ next → ((i : ℕ) → i < slots → slice_index rounds i * slots + i < next + slots) → (i : ℕ) → i < slots → slice_index (rounds_after slots rounds lo n) i * slots + i < next + slots
unfolding rounds_after
rounds_claimed slots rounds lo zero next some table end each i h = each i h
rounds_claimed slots rounds lo (suc n) next some table end each i h =
    go (cases_eq i ((lo + n) % slots)) (rounds_claimed slots rounds lo n next some table (omega arith) each i h)
  where
    go : (i ≡ (lo + n) % slots) ⊎ (i ≢ (lo + n) % slots) → slice_index (rounds_after slots rounds lo n) i * slots + i < next + slots → slice_index (rounds_after slots rounds lo (suc n)) i * slots + i < next + slots
    go (inl same) before =
        let sum : round_of slots (lo + n) * slots + (lo + n) % slots ≡ lo + n + slots = omega (arith, div-add-mod (lo + n) slots) in
        omega (arith, ap (λ r. r * slots) (after_last slots rounds lo n i some table same))
    go (inr apart) before =
        omega (arith, ap (λ r. r * slots) (get_or-set_other (rounds_after slots rounds lo n) ((lo + n) % slots) i (round_of slots (lo + n)) 0 apart))

-- the set when n more are claimed
pub open_more : (slots start next n end : ℕ) (rounds : List ℕ) → 1 ≤ slots → start ≤ next → ((i : ℕ) → i < slots → slice_index rounds i * slots + i < next + slots) → n ≤ slots → end ≡ next + n → some_below (open_by slots start next rounds) (end - slots) ≡ false → (λ s. open_by slots start next rounds s || between next (next + n) s) ≡ open_by slots start end rounds
open_more slots start next n end rounds some begun each few at closed = fun_ext (λ s. go s (cases_lt s next) (cases_lt s end) (cases_lt s (end - slots)))
  where
    go : (s : ℕ) → (s < next) ⊎ (next ≤ s) → (s < end) ⊎ (end ≤ s) → (s < end - slots) ⊎ (end - slots ≤ s) → (open_by slots start next rounds s || between next (next + n) s) ≡ open_by slots start end rounds s
    go s (inl old) b (inl gone) = let before = none_below (open_by slots start next rounds) (end - slots) s closed gone in grind (arith, nat_tests, before)
    go s (inl old) b (inr kept) = grind (arith, nat_tests)
    go s (inr new) (inl claimed) c =
        let other = unclaimed slots next (slice_index rounds (s % slots)) s some (each (s % slots) (mod-lt s some)) new in
        grind (arith, nat_tests, other)
    go s (inr new) (inr far) c = grind (arith, nat_tests)

-- the set when those from lo to below hi are published
pub open_published : (slots start next lo hi : ℕ) (rounds : List ℕ) → 1 ≤ slots → slots ≤ length rounds → oldest slots start next ≤ lo → lo ≤ hi → hi ≤ next → open_by slots start next (rounds_after slots rounds lo (hi - lo)) ≡ (λ s. open_by slots start next rounds s && not (between lo hi s))
open_published slots start next lo hi rounds some table low order high = fun_ext (λ s. go s (cases_lt s (oldest slots start next)) (cases_lt s next) (cases_lt s lo) (cases_lt s hi))
  where
    go : (s : ℕ) → (s < oldest slots start next) ⊎ (oldest slots start next ≤ s) → (s < next) ⊎ (next ≤ s) → (s < lo) ⊎ (lo ≤ s) → (s < hi) ⊎ (hi ≤ s) → open_by slots start next (rounds_after slots rounds lo (hi - lo)) s ≡ (open_by slots start next rounds s && not (between lo hi s))
    go s (inl below) b c d = grind (arith, nat_tests)
    go s (inr within) (inr past) c d = grind (arith, nat_tests)
    go s (inr within) (inl claimed) (inl before) d =
        let same = after_other slots rounds lo (hi - lo) (s % slots) (λ k h. slot_apart slots s (lo + k) (omega arith) (omega arith)) in
        grind (arith, nat_tests, same)
    go s (inr within) (inl claimed) (inr from) (inr past) =
        let same = after_other slots rounds lo (hi - lo) (s % slots) (λ k h e. slot_apart slots (lo + k) s (omega arith) (omega arith) (sym e)) in
        grind (arith, nat_tests, same)
    go s (inr within) (inl claimed) (inr from) (inl upto) =
        let same : lo + (s - lo) ≡ s = omega arith in
        let own : slice_index (rounds_after slots rounds lo (hi - lo)) (s % slots) ≡ round_of slots s =
        ap (λ t. slice_index (rounds_after slots rounds lo (hi - lo)) (t % slots)) (sym same) ∙ after_own slots rounds lo (hi - lo) (s - lo) some table (omega arith) (omega arith) ∙ ap (round_of slots) same in
        grind (arith, nat_tests, own)

-- what is all open lies in the window
pub record Within (slots start next lo hi : ℕ) : Type 0 where
  pub some : lo < hi
  pub low : oldest slots start next ≤ lo
  pub high : hi ≤ next

pub publish_window : (slots start next : ℕ) (rounds : List ℕ) (lo hi : ℕ) → true ≡ (nat_lt lo hi && all_from (open_by slots start next rounds) lo (hi - lo)) → Within slots start next lo hi
publish_window slots start next rounds lo hi all =
    let set : ℕ → Bool = open_by slots start next rounds in
    let both = and_parts (nat_lt lo hi) (all_from set lo (hi - lo)) (sym all) in
    let some : lo < hi = ltb-true lo hi both.0 in
    let first = open_window slots start next rounds (lo + 0) (all_at set lo (hi - lo) 0 both.1 (omega arith)) in
    let last = open_window slots start next rounds (lo + (hi - lo - 1)) (all_at set lo (hi - lo) (hi - lo - 1) both.1 (omega arith)) in
    record { some = some; low = omega arith; high = omega arith }

-- so nothing that reaches out of it is
pub not_all_open : (slots start next : ℕ) (rounds : List ℕ) (lo hi : ℕ) → (lo < oldest slots start next) ⊎ (next < hi) → (nat_lt lo hi && all_from (open_by slots start next rounds) lo (hi - lo)) ≡ false
not_all_open slots start next rounds lo hi out = go _ refl out
  where
    go : (all : Bool) → all ≡ (nat_lt lo hi && all_from (open_by slots start next rounds) lo (hi - lo)) → (lo < oldest slots start next) ⊎ (next < hi) → all ≡ false
    go true all (inl below) = let window = publish_window slots start next rounds lo hi all in absurd (omega (arith, window.low))
    go true all (inr past) = let window = publish_window slots start next rounds lo hi all in absurd (omega (arith, window.high))
    go false none out = refl

-- publishing what is all open
module _ (slots start next lo hi : ℕ) (rounds after : List ℕ) (some : 1 ≤ slots) (table : slots ≤ length rounds) (all : true ≡ (nat_lt lo hi && all_from (open_by slots start next rounds) lo (hi - lo))) (left : after ≡ rounds_after slots rounds lo (hi - lo)) where
  pub rounds_left : ((i : ℕ) → i < slots → slice_index rounds i * slots + i < next + slots) → (i : ℕ) → i < slots → slice_index after i * slots + i < next + slots
  rounds_left each i h =
      let window = publish_window slots start next rounds lo hi all in
      let whole = ap (λ r. slice_index r i * slots) left in
      omega (arith, whole, rounds_claimed slots rounds lo (hi - lo) next some table (omega arith) each i h)

  pub open_fewer : (λ s. open_by slots start next rounds s && not (between lo hi s)) ≡ open_by slots start next after
  open_fewer =
      let window = publish_window slots start next rounds lo hi all in
      sym (ap (open_by slots start next) left ∙ open_published slots start next lo hi rounds some table window.low (omega arith) window.high)
