-- Every stage of a reached state stands where the one-after-another run leaves it after as many events. Assumes nothing.
use Rattle.std.proofs.Common.{◌≡◌, ℕ, ◌+◌, ◌-◌, ◌*◌, ◌%◌, ◌<◌, ◌≤◌, Bool, true, false, cond, eqb, ltb, ◌⊎◌, List, [], ◌∷◌, ◌++◌, map, length, get_or, set, sym, refl, ap, ◌∙◌, inl, inr, mod-lt, arith}
use Rattle.limits.proofs.Slots.{slot_apart}
use Rattle.std.proofs.lemmas.List.FromFn.{map-range_with_len_more}
use Rattle.std.proofs.lemmas.List.{get_or-set_other, get_or-set_same}
use Rattle.std.proofs.lemmas.Bool.{and_from, cases_eq, cond-false, cond-true, eq-eqb, lt-ltb, ne_eqb}
use Rattle.std.specs.List.{range_with_len}
use Rattle.bank.specs.Bank.{nobody}
use Rattle.playout.specs.InOrder.{given_in, row_of, stages_after}
use Rattle.playout.specs.Plan.{Layout}
use Rattle.ring.specs.Ring.{is_mark, mark_at, marked, place}
use Rattle.stages.specs.Meaning.{Given, Meaning, after, mark_of}
use Rattle.machine.specs.Calls.{History, committed, handled, other, published, wrote, ◌▸◌}
use Rattle.machine.specs.History.{gave, received, words_of}
use Rattle.machine.proofs.Passing.{goes_on, mark_in}

-- the first n events have the words that the history has
abbrev pub Agrees : History → ℕ → (ℕ → List ℕ) → ℕ → Type 0
Agrees h start words n = (k : ℕ) → k < n → words k ≡ words_of h (start + k)

-- stage i, which stands at `at`: it is the run's, it gave the run's marks for what the run passes to it, and its marks
-- stand in the ring while their slots are not claimed again
pub record Ran (plan : Layout) (bank : List Meaning) (next slots at : ℕ) (marks : List ℕ) (stage : Meaning) (h : History) (i : ℕ) : Type 0 where
  pub stands : (words : ℕ → List ℕ) → Agrees h plan.start words (at - plan.start) → stage ≡ get_or (stages_after plan bank words (at - plan.start)) i nobody
  pub gives : (words : ℕ → List ℕ) → Agrees h plan.start words (at - plan.start) → gave h i ≡ map (λ k. get_or (row_of plan bank words k) i 0) (range_with_len 0 (at - plan.start))
  pub takes : (words : ℕ → List ℕ) → Agrees h plan.start words (at - plan.start) → received h i ≡ map (λ k. given_in plan bank words k i) (range_with_len 0 (at - plan.start))
  pub row : (s : ℕ) → plan.start ≤ s → s < at → next ≤ s + slots → (words : ℕ → List ℕ) → Agrees h plan.start words (s - plan.start + 1) → mark_at slots marks s i ≡ get_or (row_of plan bank words (s - plan.start)) i 0

-- marks in the ring
is_mark_lem : (slots i : ℕ) → 1 ≤ slots → i < 8 → is_mark slots i ≡ true
is_mark_lem slots i some few = and_from (ltb 0 slots) (ltb i 8) (lt-ltb 0 slots some) (lt-ltb i 8 few)

mark_here : (slots : ℕ) (marks : List ℕ) (s i mark : ℕ) → 1 ≤ slots → i < 8 → length marks ≡ 8 * slots → mark_at slots (marked slots marks s i mark) s i ≡ mark
mark_here slots marks s i mark some few size =
    let yes1 = is_mark_lem slots i some few in
    let low : s % slots < slots = mod-lt s some in
    cond-true (is_mark slots i) (get_or (marked slots marks s i mark) (place slots s i) 0) 0 yes1
    ∙ ap (λ xs. get_or xs (place slots s i) 0) (cond-true (is_mark slots i) (set marks (place slots s i) mark) marks yes1)
    ∙ get_or-set_same marks (place slots s i) mark 0 (omega arith)

mark_there : (slots : ℕ) (marks : List ℕ) (s i mark t j : ℕ) → (place slots t j ≡ place slots s i → ⊥) → mark_at slots (marked slots marks s i mark) t j ≡ mark_at slots marks t j
mark_there slots marks s i mark t j ne = ap (λ n. cond (is_mark slots j) n 0) (go (is_mark slots i))
  where
    go : (b : Bool) → get_or (cond b (set marks (place slots s i) mark) marks) (place slots t j) 0 ≡ get_or marks (place slots t j) 0
    go true = get_or-set_other marks (place slots s i) (place slots t j) mark 0 ne
    go false = refl

module _ (plan : Layout) (bank : List Meaning) (next slots : ℕ) where
  -- a claim takes places; marks of others are of no concern
  pub ran_claim : (n at : ℕ) (marks : List ℕ) (stage : Meaning) (h : History) (i : ℕ) → Ran plan bank next slots at marks stage h i → Ran plan bank (next + n) slots at marks stage h i
  ran_claim n at marks stage h i ran = record { stands = ran.stands; gives = ran.gives; takes = ran.takes; row = λ s low below near. ran.row s low below (omega arith) }

  pub ran_other : (at : ℕ) (marks : List ℕ) (stage : Meaning) (h : History) (i : ℕ) → Ran plan bank next slots at marks stage h i → (call : _) (answer : _) → Ran plan bank next slots at marks stage (h ▸ other call answer) i
  ran_other at marks stage h i ran call answer = record { stands = ran.stands; gives = ran.gives; takes = ran.takes; row = ran.row }

  pub ran_publish : (at : ℕ) (marks : List ℕ) (stage : Meaning) (h : History) (i : ℕ) → Ran plan bank next slots at marks stage h i → (p end : ℕ) → Ran plan bank next slots at marks stage (h ▸ published p end) i
  ran_publish at marks stage h i ran p end = record { stands = ran.stands; gives = ran.gives; takes = ran.takes; row = ran.row }

  pub ran_commit : (at : ℕ) (marks : List ℕ) (stage : Meaning) (h : History) (i : ℕ) → Ran plan bank next slots at marks stage h i → (j done : ℕ) → Ran plan bank next slots at marks stage (h ▸ committed j done) i
  ran_commit at marks stage h i ran j done = record { stands = ran.stands; gives = ran.gives; takes = ran.takes; row = ran.row }

  -- a write of a sequence that the stage has not handled
  pub ran_write : (at : ℕ) (marks : List ℕ) (stage : Meaning) (h : History) (i : ℕ) → Ran plan bank next slots at marks stage h i → (p t : ℕ) (v : List ℕ) → at ≤ t → Ran plan bank next slots at marks stage (h ▸ wrote p v t) i
  ran_write at marks stage h i ran p t v late = record {
    stands = λ words ok. ran.stands words (λ k l. back words (at - plan.start) (omega arith) ok k l);
    gives = λ words ok. ran.gives words (λ k l. back words (at - plan.start) (omega arith) ok k l);
    takes = λ words ok. ran.takes words (λ k l. back words (at - plan.start) (omega arith) ok k l);
    row = λ s low below near words ok. ran.row s low below near words (λ k l. back words (s - plan.start + 1) (omega arith) ok k l);
  }
    where
      back : (words : ℕ → List ℕ) (n : ℕ) → (0 < n → plan.start + n ≤ at) → Agrees (h ▸ wrote p v t) plan.start words n → Agrees h plan.start words n
      back words n end ok k l = ok k l ∙ cond-false (eqb t (plan.start + k)) v (words_of h (plan.start + k)) (ne_eqb t (plan.start + k) (λ e. let top = end (omega arith) in omega arith))

  module _ (marks : List ℕ) (some : 1 ≤ slots) (size : length marks ≡ 8 * slots) (h : History) (i s : ℕ) (few : i < 8) (g : Given) (from : plan.start ≤ s) (below : s < next) where
    -- another stage handles an event
    pub ran_there : (mark at : ℕ) (stage : Meaning) (j : ℕ) → j < 8 → (j ≡ i → ⊥) → Ran plan bank next slots at marks stage h j → Ran plan bank next slots at (marked slots marks s i mark) stage (h ▸ handled i g mark) j
    ran_there mark at stage j fewer ne ran =
        let off : eqb i j ≡ false = ne_eqb i j (λ e. ne (sym e)) in
        record {
          stands = ran.stands;
          gives = λ words ok. cond-false (eqb i j) (gave h j ++ mark ∷ []) (gave h j) off ∙ ran.gives words ok;
          takes = λ words ok. cond-false (eqb i j) (received h j ++ g ∷ []) (received h j) off ∙ ran.takes words ok;
          row = λ t low under near words ok. mark_there slots marks s i mark t j (λ e. ne (omega arith)) ∙ ran.row t low under near words ok;
        }

    -- the stage itself does, given what the run gives it
    pub ran_here : (stage : Meaning) → i < plan.stages → i < length bank → ((words : ℕ → List ℕ) → Agrees h plan.start words (s - plan.start + 1) → g ≡ given_in plan bank words (s - plan.start) i) → Ran plan bank next slots s marks stage h i → Ran plan bank next slots (s + 1) (marked slots marks s i (mark_of stage g)) (after stage g) (h ▸ handled i g (mark_of stage g)) i
    ran_here stage l within same ran = record {
      stands = λ words ok. ap (λ m. after m g) (was words ok) ∙ ap (after (get_or (stages_after plan bank words k) i nobody)) (same words (shorter words ok)) ∙ sym (goes_on plan bank words k i l within) ∙ ap (λ n. get_or (stages_after plan bank words n) i nobody) (sym one);
      gives = λ words ok. cond-true (eqb i i) (gave h i ++ mark_of stage g ∷ []) (gave h i) (eq-eqb i i refl)
          ∙ ap (λ xs. xs ++ mark_of stage g ∷ []) (ran.gives words (less words ok))
          ∙ ap (λ m. map (λ k. get_or (row_of plan bank words k) i 0) (range_with_len 0 k) ++ m ∷ []) (mark words ok)
          ∙ sym (map-range_with_len_more (λ k. get_or (row_of plan bank words k) i 0) 0 k k (omega arith))
          ∙ ap (λ n. map (λ k. get_or (row_of plan bank words k) i 0) (range_with_len 0 n)) (sym one);
      takes = λ words ok. cond-true (eqb i i) (received h i ++ g ∷ []) (received h i) (eq-eqb i i refl)
          ∙ ap (λ xs. xs ++ g ∷ []) (ran.takes words (less words ok))
          ∙ ap (λ m. map (λ k. given_in plan bank words k i) (range_with_len 0 k) ++ m ∷ []) (same words (shorter words ok))
          ∙ sym (map-range_with_len_more (λ k. given_in plan bank words k i) 0 k k (omega arith))
          ∙ ap (λ n. map (λ k. given_in plan bank words k i) (range_with_len 0 n)) (sym one);
      row = λ t low under near words ok. at t low under near words ok (cases_eq t s);
    }
      where
        k : ℕ
        k = s - plan.start

        one : s + 1 - plan.start ≡ k + 1
        one = omega arith

        shorter : (words : ℕ → List ℕ) → Agrees h plan.start words (s + 1 - plan.start) → Agrees h plan.start words (k + 1)
        shorter words ok n l = ok n (omega arith)

        less : (words : ℕ → List ℕ) → Agrees h plan.start words (s + 1 - plan.start) → Agrees h plan.start words k
        less words ok n l = ok n (omega arith)

        was : (words : ℕ → List ℕ) → Agrees h plan.start words (s + 1 - plan.start) → stage ≡ get_or (stages_after plan bank words k) i nobody
        was words ok = ran.stands words (less words ok)

        mark : (words : ℕ → List ℕ) → Agrees h plan.start words (s + 1 - plan.start) → mark_of stage g ≡ get_or (row_of plan bank words k) i 0
        mark words ok = ap (λ m. mark_of m g) (was words ok) ∙ ap (mark_of (get_or (stages_after plan bank words k) i nobody)) (same words (shorter words ok)) ∙ sym (mark_in plan bank words k i l few)

        at : (t : ℕ) → plan.start ≤ t → t < s + 1 → next ≤ t + slots → (words : ℕ → List ℕ) → Agrees h plan.start words (t - plan.start + 1) → (t ≡ s) ⊎ (t ≡ s → ⊥) → mark_at slots (marked slots marks s i (mark_of stage g)) t i ≡ get_or (row_of plan bank words (t - plan.start)) i 0
        at t low under near words ok (inl e) =
            ap (λ n. mark_at slots (marked slots marks s i (mark_of stage g)) n i) e
            ∙ mark_here slots marks s i (mark_of stage g) some few size
            ∙ mark words (λ n l. ok n (omega arith))
            ∙ ap (λ n. get_or (row_of plan bank words (n - plan.start)) i 0) (sym e)
        at t low under near words ok (inr ne) =
            mark_there slots marks s i (mark_of stage g) t i (λ e. slot_apart slots t s (omega arith) (omega arith) (omega arith))
            ∙ ran.row t low (omega arith) near words ok
