-- What the history tells of every reached state: who wrote what, what is published, what the slots hold, and what is
-- committed. Assumes nothing.
use Rattle.std.proofs.Common.{◌≡◌, ℕ, ◌+◌, ◌%◌, ◌<◌, ◌≤◌, Bool, true, false, not, ◌&&◌, eqb, ◌⊎◌, List, [], length, get_or, set, Some, None, Option, sym, refl, ap, ◌∙◌, subst, inl, inr, mod-lt, arith}
use Rattle.limits.proofs.Slots.{slot_apart}
use Rattle.std.proofs.lemmas.List.{get_or-set_other, get_or-set_same, length-set}
use Rattle.std.proofs.lemmas.Bool.{cases_eq, cases_lt, cases_order, cond-false, cond-true, eq-eqb, ne_eqb, not-false, or_parts, true≢false}
use Rattle.sequencer.specs.Sequencer.{between, grown, shrunk}
use Rattle.sequencer.proofs.Sets.{between_in, between_parts}
use Rattle.machine.specs.Calls.{History, committed, handled, other, published, wrote, ◌▸◌}
use Rattle.machine.specs.History.{Committed, Published, Wrote, words_of}
use Rattle.machine.specs.Machine.{Room, place_of, side_of, with_place, with_side}
use Rattle.machine.specs.declared.Claim.{Claim}
use Rattle.machine.specs.declared.Producer.{Producer}
use Rattle.machine.specs.declared.Progress.{Progress}
use Rattle.machine.proofs.Basics.{set_elim}
use Rattle.machine.proofs.Firm.{Claiming, Filled, Firm, Unfilled, Within, nothing, own_claim, own_within, publish_room, within_open, within_places, within_sides, write_room, zeros}

-- the words in the slot of s
abbrev pub slot_of : List (List ℕ) → ℕ → List ℕ
slot_of slots s = get_or slots (s % length slots) []

pub record Told (r : Room) (slots : List (List ℕ)) (h : History) : Type 0 where
  -- what is written was claimed, and is in no unwritten part of a claim
  pub written : (p : ℕ) (v : List ℕ) (s : ℕ) → Wrote h p v s → (r.plan.start ≤ s) × (s < r.sequencing.next) × ((k : ℕ) → k < r.producers → Unfilled (side_of r k).claim s → ⊥)
  -- the written part of a claim was written by its producer, and stands in its slots
  pub pending : (k : ℕ) → k < r.producers → (s : ℕ) → Filled (side_of r k).claim s → Wrote h k (words_of h s) s × (slot_of slots s ≡ words_of h s)
  -- what is claimed and not open is published, and stands in its slot while nobody has claimed that again
  pub public : (s : ℕ) → r.plan.start ≤ s → s < r.sequencing.next → r.sequencing.is_open s ≡ false → Published h (words_of h s) s
  pub holds : (s : ℕ) → r.plan.start ≤ s → s < r.sequencing.next → r.sequencing.is_open s ≡ false → r.sequencing.next ≤ s + r.sequencing.slots → slot_of slots s ≡ words_of h s
  -- what lies below a stage's done, it has committed
  pub commits : (j s : ℕ) → j < r.plan.stages → r.plan.start ≤ s → s < (place_of r j).done → Committed h j s

-- the written and the unwritten part lie within the claim
pub filled_within : (is_open : ℕ → Bool) (claim : Option Claim) (s : ℕ) → Claiming is_open claim → Filled claim s → Within claim s
filled_within is_open None s ok w = w
filled_within is_open (Some c) s ok w = let sized = ok.0 in (w.0, let low = w.1 in omega arith)

pub unfilled_within : (is_open : ℕ → Bool) (claim : Option Claim) (s : ℕ) → Claiming is_open claim → Unfilled claim s → Within claim s
unfilled_within is_open None s ok w = w
unfilled_within is_open (Some c) s ok w = let sized = ok.0 in let low = w.0 in (omega arith, w.1)

module _ (r : Room) (f : Firm r) (slots : List (List ℕ)) (h : History) (t : Told r slots h) where
  -- look and handle: done stays
  pub moved_told : (i : ℕ) → i < r.plan.stages → (seen at : ℕ) → Told (with_place r i (record { seen = seen; at = at; done = (place_of r i).done })) slots h
  moved_told i l seen at = record {
    written = t.written;
    pending = t.pending;
    public = t.public;
    holds = t.holds;
    commits = λ j s hj low. set_elim (λ j y. j < r.plan.stages → s < y.done → Committed h j s) r.places i x zeros (within_places r f i l x) (λ hi below. t.commits i s hi low below) (λ k ne hk below. t.commits k s hk low below) j hj;
  }
    where
      x : Progress
      x = record { seen = seen; at = at; done = (place_of r i).done }

  pub handle_entry : (i : ℕ) (g : _) (mark : ℕ) → Told r slots (h ▸ handled i g mark)
  handle_entry i g mark = record { written = t.written; pending = t.pending; public = t.public; holds = t.holds; commits = t.commits }

  pub other_entry : (call : _) (answer : _) → Told r slots (h ▸ other call answer)
  other_entry call answer = record { written = t.written; pending = t.pending; public = t.public; holds = t.holds; commits = t.commits }

  -- commit: done becomes at
  pub commit_told : (i : ℕ) → i < r.plan.stages → Told (with_place r i (record { seen = (place_of r i).seen; at = (place_of r i).at; done = (place_of r i).at })) slots (h ▸ committed i (place_of r i).at)
  commit_told i l = record {
    written = t.written;
    pending = t.pending;
    public = t.public;
    holds = t.holds;
    commits = λ j s hj low. set_elim (λ j y. j < r.plan.stages → s < y.done → Committed (h ▸ committed i (place_of r i).at) j s) r.places i x zeros (within_places r f i l x) (λ hi below. inr (refl, below)) (λ k ne hk below. inl (t.commits k s hk low below)) j hj;
  }
    where
      x : Progress
      x = record { seen = (place_of r i).seen; at = (place_of r i).at; done = (place_of r i).at }

  module _ (p : ℕ) (l : p < r.producers) where
    pub gate_told : (v : ℕ) → Told (with_side r p r.sequencing (record { gate = v; claim = (side_of r p).claim })) slots h
    gate_told v = record {
      written = λ q w s e. let old = t.written q w s e in (old.0, old.1, set_elim (λ k y. k < r.producers → Unfilled y.claim s → ⊥) r.sides p side nothing (within_sides r f p l) (old.2 p) (λ k ne. old.2 k));
      pending = λ k hk s. set_elim (λ k y. k < r.producers → Filled y.claim s → Wrote h k (words_of h s) s × (slot_of slots s ≡ words_of h s)) r.sides p side nothing (within_sides r f p l) (λ hp. t.pending p hp s) (λ k ne hk. t.pending k hk s) k hk;
      public = t.public;
      holds = t.holds;
      commits = t.commits;
    }
      where
        side : Producer
        side = record { gate = v; claim = (side_of r p).claim }

    -- claim: nothing of it is written yet
    pub claim_told : (n : ℕ) → Told (with_side r p (grown r.sequencing n) (record { gate = (side_of r p).gate; claim = Some (record { first = r.sequencing.next; unwritten = r.sequencing.next; end = r.sequencing.next + n }) })) slots h
    claim_told n = record {
      written = λ q w s e. let old = t.written q w s e in (old.0, omega arith, set_elim (λ k y. k < r.producers → Unfilled y.claim s → ⊥) r.sides p side nothing (within_sides r f p l) (λ _ new. omega arith) (λ k ne. old.2 k));
      pending = λ k hk s. set_elim (λ k y. k < r.producers → Filled y.claim s → Wrote h k (words_of h s) s × (slot_of slots s ≡ words_of h s)) r.sides p side nothing (within_sides r f p l) (λ _ new. absurd (omega arith)) (λ k ne hk. t.pending k hk s) k hk;
      public = λ s low high shut. let old = before s low high shut in t.public s low old.0 old.1;
      holds = λ s low high shut near. let old = before s low high shut in t.holds s low old.0 old.1 (omega arith);
      commits = t.commits;
    }
      where
        side : Producer
        side = record { gate = (side_of r p).gate; claim = Some (record { first = r.sequencing.next; unwritten = r.sequencing.next; end = r.sequencing.next + n }) }

        before : (s : ℕ) → r.plan.start ≤ s → s < r.sequencing.next + n → (grown r.sequencing n).is_open s ≡ false → (s < r.sequencing.next) × (r.sequencing.is_open s ≡ false)
        before s low high shut = go (cases_lt s r.sequencing.next) (or_parts (r.sequencing.is_open s) (between r.sequencing.next (r.sequencing.next + n) s) shut)
          where
            go : (s < r.sequencing.next) ⊎ (r.sequencing.next ≤ s) → (r.sequencing.is_open s ≡ false) × (between r.sequencing.next (r.sequencing.next + n) s ≡ false) → (s < r.sequencing.next) × (r.sequencing.is_open s ≡ false)
            go (inl below) parts = (below, parts.0)
            go (inr past) parts = absurd (true≢false (sym (between_in r.sequencing.next (r.sequencing.next + n) s past high) ∙ parts.1))

    module _ (c : Claim) (has : (side_of r p).claim ≡ Some c) where
      -- the sequence that is written next
      module _ (room : c.unwritten < c.end) (size : length slots ≡ r.sequencing.slots) (v : List ℕ) where
        own_open : r.sequencing.is_open c.unwritten ≡ true
        own_open = let ok = own_claim r f p l c has in let sized = ok.0 in ok.1 c.unwritten sized.from room

        own_window : (r.plan.start ≤ c.unwritten) × (c.unwritten < r.sequencing.next) × (r.sequencing.next ≤ c.unwritten + r.sequencing.slots)
        own_window = f.window c.unwritten own_open

        pub words_here : words_of (h ▸ wrote p v c.unwritten) c.unwritten ≡ v
        words_here = cond-true (eqb c.unwritten c.unwritten) v (words_of h c.unwritten) (eq-eqb c.unwritten c.unwritten refl)

        pub words_there : (s : ℕ) → (s ≡ c.unwritten → ⊥) → words_of (h ▸ wrote p v c.unwritten) s ≡ words_of h s
        words_there s ne = cond-false (eqb c.unwritten s) v (words_of h s) (ne_eqb c.unwritten s (λ e. ne (sym e)))

        slot_there : (s : ℕ) → (s ≡ c.unwritten → ⊥) → s < r.sequencing.next → r.sequencing.next ≤ s + r.sequencing.slots → slot_of (set slots (c.unwritten % length slots) v) s ≡ slot_of slots s
        slot_there s ne low near =
            ap (λ n. get_or (set slots (c.unwritten % length slots) v) (s % n) []) (length-set slots (c.unwritten % length slots) v)
            ∙ get_or-set_other slots (c.unwritten % length slots) (s % length slots) v [] (go (cases_order s c.unwritten))
          where
            go : (s ≡ c.unwritten) ⊎ ((s < c.unwritten) ⊎ (c.unwritten < s)) → s % length slots ≡ c.unwritten % length slots → ⊥
            go (inl e) same = ne e
            go (inr (inl less)) same = let own = own_window in slot_apart (length slots) s c.unwritten less (omega arith) same
            go (inr (inr more)) same = let own = own_window in slot_apart (length slots) c.unwritten s more (omega arith) (sym same)

        slot_here : slot_of (set slots (c.unwritten % length slots) v) c.unwritten ≡ v
        slot_here =
            ap (λ n. get_or (set slots (c.unwritten % length slots) v) (c.unwritten % n) []) (length-set slots (c.unwritten % length slots) v)
            ∙ get_or-set_same slots (c.unwritten % length slots) v [] (let some = f.some in mod-lt c.unwritten (omega arith))

        -- a sequence that is not open is another one
        shut_other : (s : ℕ) → r.sequencing.is_open s ≡ false → s ≡ c.unwritten → ⊥
        shut_other s shut e = true≢false (sym own_open ∙ ap r.sequencing.is_open (sym e) ∙ shut)

        pub write_told : Told (write_room r f p l c has) (set slots (c.unwritten % length slots) v) (h ▸ wrote p v c.unwritten)
        write_told = record {
          written = λ q w s e. go q w s e;
          pending = λ k hk s. set_elim (λ k y. k < r.producers → Filled y.claim s → Written k s) r.sides p side nothing (within_sides r f p l)
              (λ hp new. mine s new (cases_eq s c.unwritten))
              (λ k ne hk old. theirs k ne hk s old) k hk;
          public = λ s low high shut. subst (λ w. Published h w s) (sym (words_there s (shut_other s shut))) (t.public s low high shut);
          holds = λ s low high shut near. slot_there s (shut_other s shut) high near ∙ t.holds s low high shut near ∙ sym (words_there s (shut_other s shut));
          commits = t.commits;
        }
          where
            side : Producer
            side = record { gate = (side_of r p).gate; claim = Some (record { first = c.first; unwritten = c.unwritten + 1; end = c.end }) }

            Written : ℕ → ℕ → Type 0
            Written k s = Wrote (h ▸ wrote p v c.unwritten) k (words_of (h ▸ wrote p v c.unwritten) s) s × (slot_of (set slots (c.unwritten % length slots) v) s ≡ words_of (h ▸ wrote p v c.unwritten) s)

            carried : (k : ℕ) → k < r.producers → (s : ℕ) → (s ≡ c.unwritten → ⊥) → Filled (side_of r k).claim s → Written k s
            carried k hk s ne old =
                let was = t.pending k hk s old in
                let place = f.window s (within_open r.sequencing.is_open (side_of r k).claim s (f.claiming k hk) (filled_within r.sequencing.is_open (side_of r k).claim s (f.claiming k hk) old)) in (
                  inl (subst (λ w. Wrote h k w s) (sym (words_there s ne)) was.0),
                  slot_there s ne place.1 place.2 ∙ was.1 ∙ sym (words_there s ne),
                )

            mine : (s : ℕ) → (c.first ≤ s) × (s < c.unwritten + 1) → (s ≡ c.unwritten) ⊎ (s ≡ c.unwritten → ⊥) → Written p s
            mine s new (inl e) = subst (Written p) (sym e) (inr (refl, sym words_here, refl), slot_here ∙ sym words_here)
            mine s new (inr ne) = carried p l s ne (subst (λ o. Filled o s) (sym has) (new.0, omega arith))

            theirs : (k : ℕ) → (k ≡ p → ⊥) → k < r.producers → (s : ℕ) → Filled (side_of r k).claim s → Written k s
            theirs k ne hk s old = carried k hk s (λ e. ne (f.apart k p s hk l (filled_within r.sequencing.is_open (side_of r k).claim s (f.claiming k hk) old) (subst (Within (side_of r p).claim) (sym e) (own_within r f p l c has c.unwritten (own_claim r f p l c has).0.from room)))) old

            -- the part that is left unwritten
            left_out : (s : ℕ) → ((k : ℕ) → k < r.producers → (k ≡ p → ⊥) → Unfilled (side_of r k).claim s → ⊥) → (c.unwritten + 1 ≤ s → s < c.end → ⊥) → (k : ℕ) → k < r.producers → Unfilled (side_of (write_room r f p l c has) k).claim s → ⊥
            left_out s them me = set_elim (λ k y. k < r.producers → Unfilled y.claim s → ⊥) r.sides p side nothing (within_sides r f p l) (λ _ new. me new.0 new.1) (λ k ne hk old. them k hk ne old)

            go : (q : ℕ) (w : List ℕ) (s : ℕ) → Wrote h q w s ⊎ ((p ≡ q) × (v ≡ w) × (c.unwritten ≡ s)) → (r.plan.start ≤ s) × (s < r.sequencing.next) × ((k : ℕ) → k < r.producers → Unfilled (side_of (write_room r f p l c has) k).claim s → ⊥)
            go q w s (inl was) =
                let old = t.written q w s was in
                (old.0, old.1, left_out s (λ k hk ne u. old.2 k hk u) (λ low high. old.2 p l (subst (λ o. Unfilled o s) (sym has) (omega arith, high))))
            go q w s (inr new) =
                let own = own_window in
                let e = new.2 in (
                  omega arith,
                  omega arith,
                  left_out s
                      (λ k hk ne u. ne (f.apart k p c.unwritten hk l (subst (Within (side_of r k).claim) (sym e) (unfilled_within r.sequencing.is_open (side_of r k).claim s (f.claiming k hk) u)) (own_within r f p l c has c.unwritten (own_claim r f p l c has).0.from room)))
                      (λ low high. omega arith),
                )

      -- publish: the whole claim is written
      pub publish_told : c.end ≤ c.unwritten → Told (publish_room r f p l c has) slots (h ▸ published p c.end)
      publish_told full = record {
        written = λ q w s e. let old = t.written q w s e in (old.0, old.1, set_elim (λ k y. k < r.producers → Unfilled y.claim s → ⊥) r.sides p side nothing (within_sides r f p l) (λ _ none. none) (λ k ne. old.2 k));
        pending = λ k hk s. set_elim (λ k y. k < r.producers → Filled y.claim s → Wrote h k (words_of h s) s × (slot_of slots s ≡ words_of h s)) r.sides p side nothing (within_sides r f p l) (λ _ none. absurd none) (λ k ne hk. t.pending k hk s) k hk;
        public = λ s low high shut. go s shut (r.sequencing.is_open s) refl (λ was. inl (t.public s low high was)) (λ mine. inr (t.pending p l s mine).0);
        holds = λ s low high shut near. go s shut (r.sequencing.is_open s) refl (λ was. t.holds s low high was near) (λ mine. (t.pending p l s mine).1);
        commits = t.commits;
      }
        where
          side : Producer
          side = record { gate = (side_of r p).gate; claim = None }

          -- what is shut now was shut, or is of this claim
          go : {P : Type 0} (s : ℕ) → (shrunk r.sequencing c.first c.end).is_open s ≡ false → (b : Bool) → r.sequencing.is_open s ≡ b → (r.sequencing.is_open s ≡ false → P) → (Filled (side_of r p).claim s → P) → P
          go s shut false e was mine = was e
          go s shut true e was mine =
              let both = between_parts c.first c.end s (not-false (between c.first c.end s) (sym (ap (λ b. b && not (between c.first c.end s)) e) ∙ shut)) in
              mine (subst (λ o. Filled o s) (sym has) (both.0, omega arith))
