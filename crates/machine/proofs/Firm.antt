-- What every reached state keeps of producers, stages and sequencer, and why a call keeps it. Assumes nothing.
use Rattle.std.proofs.Common.{◌≡◌, ℕ, zero, suc, ◌+◌, ◌-◌, ◌^◌, ◌<◌, ◌≤◌, Bool, true, false, cond, not, eqb, ltb, ◌⊎◌, length, get_or, set, is_some, Some, None, Option, sym, refl, ap, ◌∙◌, subst, inl, inr, le_trans, arith}
use Rattle.std.proofs.lemmas.List.{get_or-set_same, length-set}
use Rattle.std.proofs.lemmas.Bool.{and_from, and_left, and_parts, cases_eq, cases_lt, eqb-false, eqb-true, ltb-false, ltb-true, not_from_false, not-true, or_cases, or_from, or_left, or_right, true≢false}
use Rattle.stages.specs.Marks.{names}
use Rattle.stages.proofs.Masks.{names_none}
use Rattle.playout.specs.Plan.{gating, in_mask}
use Rattle.playout.specs.Reach.{Reach, direct, through, mask_of}
use Rattle.playout.proofs.Gatings.{mask_by}
use Rattle.sequencer.specs.Sequencer.{between, first_open, grown, least_from, shrunk, some_below}
use Rattle.sequencer.proofs.Sets.{between_below, between_in, between_parts, none_below}
use Rattle.machine.specs.Law.{Sound}
use Rattle.machine.specs.Machine.{Room, least_done, new_gate, new_seen, place_of, side_of, with_place, with_side}
use Rattle.machine.specs.declared.Claim.{Claim}
use Rattle.machine.specs.declared.Producer.{Producer}
use Rattle.machine.specs.declared.Progress.{Progress}
use Rattle.machine.proofs.Basics.{least_above, least_below, least_from_lem, named_some, set_elim}

-- a stage's place
pub record Standing (start slots next : ℕ) (is_open : ℕ → Bool) (x : Progress) : Type 0 where
  pub begun : start ≤ x.done
  pub committed : x.done ≤ x.at
  pub handled : x.at ≤ x.seen
  pub seen : x.seen ≤ next
  pub ample : next ≤ x.done + slots
  pub clear : (s : ℕ) → s < x.seen → is_open s ≡ false

-- the sequences of a claim: all, those written, those not
abbrev pub Within : Option Claim → ℕ → Type 0
Within None s = ⊥
Within (Some c) s = (c.first ≤ s) × (s < c.end)

abbrev pub Filled : Option Claim → ℕ → Type 0
Filled None s = ⊥
Filled (Some c) s = (c.first ≤ s) × (s < c.unwritten)

abbrev pub Unfilled : Option Claim → ℕ → Type 0
Unfilled None s = ⊥
Unfilled (Some c) s = (c.unwritten ≤ s) × (s < c.end)

-- a claim is of some sequences, the written ones first, and they are open
pub record Sized (c : Claim) : Type 0 where
  pub some : c.first < c.end
  pub from : c.first ≤ c.unwritten
  pub upto : c.unwritten ≤ c.end

abbrev pub Claiming : (ℕ → Bool) → Option Claim → Type 0
Claiming is_open None = Unit {0}
Claiming is_open (Some c) = Sized c × ((s : ℕ) → c.first ≤ s → s < c.end → is_open s ≡ true)

pub record Firm (r : Room) : Type 0 where
  pub sound : Sound r.plan
  pub eight_sides : length r.sides ≡ 8
  pub eight_places : length r.places ≡ 8
  pub few : r.producers ≤ 8
  pub alone : r.sequencing.ordered ≡ true → r.producers ≤ 1
  pub some : 1 ≤ r.sequencing.slots
  pub from : r.plan.start ≤ r.sequencing.next
  pub bounded : r.sequencing.next ≤ 2 ^ 62
  pub stands : (i : ℕ) → i < r.plan.stages → Standing r.plan.start r.sequencing.slots r.sequencing.next r.sequencing.is_open (place_of r i)
  pub follows : (i j : ℕ) → i < r.plan.stages → names (mask_of r.plan.masks i) j ≡ true → (place_of r i).seen ≤ (place_of r j).done
  pub gated : (p j : ℕ) → p < r.producers → j < r.plan.stages → (side_of r p).gate ≤ (place_of r j).done
  pub claiming : (p : ℕ) → p < r.producers → Claiming r.sequencing.is_open (side_of r p).claim
  pub apart : (p q s : ℕ) → p < r.producers → q < r.producers → Within (side_of r p).claim s → Within (side_of r q).claim s → p ≡ q
  pub owned : (s : ℕ) → r.sequencing.is_open s ≡ true → (p : ℕ) × (p < r.producers) × Within (side_of r p).claim s
  pub window : (s : ℕ) → r.sequencing.is_open s ≡ true → (r.plan.start ≤ s) × (s < r.sequencing.next) × (r.sequencing.next ≤ s + r.sequencing.slots)

-- every stage in the reach of one has committed what that one has seen
pub reach_below_lem : (r : Room) → Firm r → {i j : ℕ} → Reach r.plan.masks i j → i < r.plan.stages → (s : ℕ) → s < (place_of r i).seen → (j < i) × (s < (place_of r j).done)
reach_below_lem r f {i} {j} (direct named) h s low =
    let order = f.sound.ordered i j named in
    let up = f.follows i j h named in
    (order, omega arith)
reach_below_lem r f {i} {j} (through {k = k} named on) h s low =
    let order = f.sound.ordered i k named in
    let up = f.follows i k h named in
    let place = f.stands k (omega arith) in
    let rest = reach_below_lem r f on (omega arith) s (omega arith) in
    (omega arith, rest.1)

-- what stands past the table
abbrev pub zeros : Progress
zeros = record { seen = 0; at = 0; done = 0 }

abbrev pub nothing : Producer
nothing = record { gate = 0; claim = None }

-- A stage moves to a place where it may stand: look, handle, commit.
module _ (r : Room) (f : Firm r) (i : ℕ) (h : i < r.plan.stages) (x : Progress) where
  pub within_places : i < length r.places
  within_places = let few = f.sound.few in let long = f.eight_places in omega arith

  -- no stage's done falls
  pub rises : (place_of r i).done ≤ x.done → (b : ℕ) → (place_of r b).done ≤ (place_of (with_place r i x) b).done
  rises grows = set_elim (λ b y. (place_of r b).done ≤ y.done) r.places i x zeros within_places grows (λ j ne. omega arith)

  pub moved : Standing r.plan.start r.sequencing.slots r.sequencing.next r.sequencing.is_open x → ((j : ℕ) → names (mask_of r.plan.masks i) j ≡ true → x.seen ≤ (place_of r j).done) → (place_of r i).done ≤ x.done → Firm (with_place r i x)
  moved stand below grows = record {
    sound = f.sound;
    eight_sides = f.eight_sides;
    eight_places = length-set r.places i x ∙ f.eight_places;
    few = f.few;
    alone = f.alone;
    some = f.some;
    from = f.from;
    bounded = f.bounded;
    stands = set_elim (λ j y. j < r.plan.stages → Standing r.plan.start r.sequencing.slots r.sequencing.next r.sequencing.is_open y) r.places i x zeros within_places (λ _. stand) (λ j ne l. f.stands j l);
    follows = λ a b l named. set_elim (λ k y. k < r.plan.stages → (b : ℕ) → names (mask_of r.plan.masks k) b ≡ true → y.seen ≤ (place_of (with_place r i x) b).done) r.places i x zeros within_places
        (λ l b named. le_trans (below b named) (rises grows b))
        (λ k ne l b named. le_trans (f.follows k b l named) (rises grows b))
        a l b named;
    gated = λ p j hp hj. le_trans (f.gated p j hp hj) (rises grows j);
    claiming = f.claiming;
    apart = f.apart;
    owned = f.owned;
    window = f.window;
  }

-- what a number has to satisfy to become the `seen` of stage i
pub record MaySee (r : Room) (i v : ℕ) : Type 0 where
  pub from : (place_of r i).at ≤ v
  pub upto : v ≤ r.sequencing.next
  pub clear : (s : ℕ) → s < v → r.sequencing.is_open s ≡ false
  pub follows : (j : ℕ) → names (mask_of r.plan.masks i) j ≡ true → v ≤ (place_of r j).done

-- the sequencer's first from `at` may, where nothing is upstream
first_may : (r : Room) → Firm r → (i : ℕ) → i < r.plan.stages → mask_of r.plan.masks i ≡ 0 → MaySee r i (first_open r.sequencing (place_of r i).at)
first_may r f i h bare = go (ltb at next) refl (least_from_lem is_open at (next - at))
  where
    at : ℕ
    at = (place_of r i).at

    next : ℕ
    next = r.sequencing.next

    is_open : ℕ → Bool
    is_open = r.sequencing.is_open

    none : (v j : ℕ) → names (mask_of r.plan.masks i) j ≡ true → v ≤ (place_of r j).done
    none v j named = absurd (true≢false (sym named ∙ ap (λ m. names m j) bare ∙ names_none j))

    below : (v : ℕ) → ((t : ℕ) → at ≤ t → t < v → is_open t ≡ false) → (s : ℕ) → s < v → (s < at) ⊎ (at ≤ s) → is_open s ≡ false
    below v free s l (inl low) = let stand = f.stands i h in stand.clear s (omega arith)
    below v free s l (inr high) = free s high l

    go : (b : Bool) → ltb at next ≡ b → (at ≤ least_from is_open at (next - at)) × (least_from is_open at (next - at) ≤ at + (next - at)) × ((t : ℕ) → at ≤ t → t < least_from is_open at (next - at) → is_open t ≡ false) → MaySee r i (cond b (least_from is_open at (next - at)) next)
    go true e least =
        let low = ltb-true at next e in
        record { from = least.0; upto = omega (arith, least.1); clear = λ s l. below (least_from is_open at (next - at)) least.2 s l (cases_lt s at); follows = none (least_from is_open at (next - at)) }
    go false e least =
        let high = ltb-false at next e in
        let stand = f.stands i h in
        record { from = omega arith; upto = omega arith; clear = λ s l. stand.clear s (omega arith); follows = none next }

-- the least done in the mask may, where something is
mask_may : (r : Room) → Firm r → (i : ℕ) → i < r.plan.stages → (mask_of r.plan.masks i ≡ 0 → ⊥) → MaySee r i (least_done r.places (names (mask_of r.plan.masks i)) r.plan.stages)
mask_may r f i h some = go (named_some mask mask (omega arith) (omega arith))
  where
    mask : ℕ
    mask = mask_of r.plan.masks i

    least : ℕ
    least = least_done r.places (names mask) r.plan.stages

    under : (j : ℕ) → names mask j ≡ true → least ≤ (place_of r j).done
    under j named = let order = f.sound.ordered i j named in least_below r.places (names mask) r.plan.stages j (omega arith) named

    go : (j : ℕ) × (names mask j ≡ true) → MaySee r i least
    go (j, named) =
        let order = f.sound.ordered i j named in
        let own = f.stands i h in
        let up = f.stands j (omega arith) in
        let low = under j named in
        let bound = f.bounded in
        record {
          from = least_above r.places (names mask) r.plan.stages (place_of r i).at (omega arith) (λ k l e. let chain = f.follows i k h e in omega arith);
          upto = omega arith;
          clear = λ s l. up.clear s (omega arith);
          follows = under;
        }

pub may_look : (r : Room) → Firm r → (i : ℕ) → i < r.plan.stages → MaySee r i (new_seen r i)
may_look r f i h = go (eqb (mask_of r.plan.masks i) 0) refl
  where
    go : (b : Bool) → eqb (mask_of r.plan.masks i) 0 ≡ b → MaySee r i (cond b (first_open r.sequencing (place_of r i).at) (least_done r.places (names (mask_of r.plan.masks i)) r.plan.stages))
    go true e = first_may r f i h (eqb-true (mask_of r.plan.masks i) 0 e)
    go false e = mask_may r f i h (eqb-false (mask_of r.plan.masks i) 0 e)

-- what the gating stages have all committed, every stage has committed
pub may_gate : (r : Room) → Firm r → (j : ℕ) → j < r.plan.stages → new_gate r ≤ (place_of r j).done
may_gate r f j h = go r.plan.stages j h (omega arith)
  where
    n : ℕ
    n = r.plan.stages

    go : (fuel j : ℕ) → j < n → n ≤ j + fuel → new_gate r ≤ (place_of r j).done
    go zero j l far = absurd (omega arith)
    go (suc fuel) j l far = by (in_mask r.plan.masks j n) refl (go fuel)
      where
        down : ((i : ℕ) → i < n → n ≤ i + fuel → new_gate r ≤ (place_of r i).done) → (i : ℕ) × (i < n) × (names (mask_of r.plan.masks i) j ≡ true) → new_gate r ≤ (place_of r j).done
        down lower (i, below, named) =
            let order = f.sound.ordered i j named in
            let gate = lower i below (omega arith) in
            let stand = f.stands i below in
            let up = f.follows i j below named in
            omega arith

        by : (b : Bool) → in_mask r.plan.masks j n ≡ b → ((i : ℕ) → i < n → n ≤ i + fuel → new_gate r ≤ (place_of r i).done) → new_gate r ≤ (place_of r j).done
        by true e lower = down lower (mask_by r.plan.masks j n e)
        by false e lower = least_below r.places (gating r.plan) n j l (ap not e)

-- a producer's entry in the table
module _ (r : Room) (f : Firm r) (p : ℕ) (h : p < r.producers) where
  pub within_sides : p < length r.sides
  within_sides = let few = f.few in let long = f.eight_sides in omega arith

  -- gate: any number that every stage has committed
  pub gate_kept : (v : ℕ) → ((j : ℕ) → j < r.plan.stages → v ≤ (place_of r j).done) → Firm (with_side r p r.sequencing (record { gate = v; claim = (side_of r p).claim }))
  gate_kept v low = record {
    sound = f.sound;
    eight_sides = length-set r.sides p side ∙ f.eight_sides;
    eight_places = f.eight_places;
    few = f.few;
    alone = f.alone;
    some = f.some;
    from = f.from;
    bounded = f.bounded;
    stands = f.stands;
    follows = f.follows;
    gated = λ q j hq hj. set_elim (λ k y. k < r.producers → y.gate ≤ (place_of r j).done) r.sides p side nothing within_sides (λ _. low j hj) (λ k ne l. f.gated k j l hj) q hq;
    claiming = set_elim (λ k y. k < r.producers → Claiming r.sequencing.is_open y.claim) r.sides p side nothing within_sides (f.claiming p) (λ k ne. f.claiming k);
    apart = λ a b s ha hb wa wb. f.apart a b s ha hb ((same a s).0 wa) ((same b s).0 wb);
    owned = λ s is_open. let own = f.owned s is_open in (own.0, own.1, (same own.0 s).1 own.2);
    window = f.window;
  }
    where
      side : Producer
      side = record { gate = v; claim = (side_of r p).claim }

      same : (k s : ℕ) → (Within (get_or (set r.sides p side) k nothing).claim s → Within (side_of r k).claim s) × (Within (side_of r k).claim s → Within (get_or (set r.sides p side) k nothing).claim s)
      same k s = set_elim (λ k y. (Within y.claim s → Within (side_of r k).claim s) × (Within (side_of r k).claim s → Within y.claim s)) r.sides p side nothing within_sides (λ w. w, λ w. w) (λ j ne. (λ w. w, λ w. w)) k

  -- what is within another producer's claim, or the same as before
  others : (side : Producer) (s : ℕ) → ((k : ℕ) → (k ≡ p → ⊥) → Within (get_or (set r.sides p side) k nothing).claim s → Within (side_of r k).claim s) × ((k : ℕ) → (k ≡ p → ⊥) → Within (side_of r k).claim s → Within (get_or (set r.sides p side) k nothing).claim s)
  others side s = (
    λ k. set_elim (λ k y. (k ≡ p → ⊥) → Within y.claim s → Within (side_of r k).claim s) r.sides p side nothing within_sides (λ ne. absurd (ne refl)) (λ j _ _ w. w) k,
    λ k. set_elim (λ k y. (k ≡ p → ⊥) → Within (side_of r k).claim s → Within y.claim s) r.sides p side nothing within_sides (λ ne. absurd (ne refl)) (λ j _ _ w. w) k,
  )

  pub here : (P : Producer → Type 0) (side : Producer) → P side → P (get_or (set r.sides p side) p nothing)
  here P side holds = subst P (sym (get_or-set_same r.sides p side nothing within_sides)) holds

-- a claim's sequences are open
pub within_open : (is_open : ℕ → Bool) (claim : Option Claim) (s : ℕ) → Claiming is_open claim → Within claim s → is_open s ≡ true
within_open is_open None s ok w = absurd w
within_open is_open (Some c) s ok w = ok.1 s w.0 w.1

claiming_on : (before after : ℕ → Bool) (claim : Option Claim) → ((s : ℕ) → Within claim s → before s ≡ true → after s ≡ true) → Claiming before claim → Claiming after claim
claiming_on before after None on ok = tt
claiming_on before after (Some c) on ok = (ok.0, λ s low high. on s (low, high) (ok.1 s low high))

pub unclaimed : (claim : Option Claim) → is_some claim ≡ false → (s : ℕ) → Within claim s → ⊥
unclaimed None e s w = w
unclaimed (Some c) e s w = absurd (true≢false e)

-- claim: n sequences for which the gate leaves places, whose slots no open sequence has
module _ (r : Room) (f : Firm r) (p : ℕ) (h : p < r.producers) (n : ℕ) (free : is_some (side_of r p).claim ≡ false) (some : 1 ≤ n) (fit : n ≤ r.sequencing.slots) (bound : r.sequencing.next + n ≤ 2 ^ 62) (gate : r.sequencing.next + n ≤ (side_of r p).gate + r.sequencing.slots) (none : some_below r.sequencing.is_open (r.sequencing.next + n - r.sequencing.slots) ≡ false) where
  abbrev claim_side : Producer
  claim_side = record { gate = (side_of r p).gate; claim = Some (record { first = r.sequencing.next; unwritten = r.sequencing.next; end = r.sequencing.next + n }) }

  abbrev pub claim_room : Room
  claim_room = with_side r p (grown r.sequencing n) claim_side

  claim_stands : (i : ℕ) → i < r.plan.stages → Standing r.plan.start r.sequencing.slots (r.sequencing.next + n) (grown r.sequencing n).is_open (place_of r i)
  claim_stands i l =
      let stand = f.stands i l in
      let low = f.gated p i h l in
      record {
        begun = stand.begun;
        committed = stand.committed;
        handled = stand.handled;
        seen = omega arith;
        ample = omega arith;
        clear = λ s below. or_from (r.sequencing.is_open s) (between r.sequencing.next (r.sequencing.next + n) s) (stand.clear s below) (between_below r.sequencing.next (r.sequencing.next + n) s (omega arith));
      }

  old_below : (k s : ℕ) → k < r.producers → Within (side_of r k).claim s → s < r.sequencing.next
  old_below k s l w = (f.window s (within_open r.sequencing.is_open (side_of r k).claim s (f.claiming k l) w)).1

  -- the new claim is past all others
  claim_apart : (a b s : ℕ) → a < r.producers → b < r.producers → Within (side_of claim_room a).claim s → Within (side_of claim_room b).claim s → a ≡ b
  claim_apart a b s ha hb wa wb = go (cases_eq a p) (cases_eq b p)
    where
      past : (k : ℕ) → k ≡ p → Within (side_of claim_room k).claim s → r.sequencing.next ≤ s
      past k e w = subst (λ (y : Producer). Within y.claim s → r.sequencing.next ≤ s) (sym (get_or-set_same r.sides p claim_side nothing (within_sides r f p h))) (λ v. v.0) (subst (λ k. Within (side_of claim_room k).claim s) e w)

      go : (a ≡ p) ⊎ (a ≡ p → ⊥) → (b ≡ p) ⊎ (b ≡ p → ⊥) → a ≡ b
      go (inl ea) (inl eb) = ea ∙ sym eb
      go (inl ea) (inr nb) = absurd (let low = old_below b s hb ((others r f p h claim_side s).0 b nb wb) in let high = past a ea wa in omega arith)
      go (inr na) (inl eb) = absurd (let low = old_below a s ha ((others r f p h claim_side s).0 a na wa) in let high = past b eb wb in omega arith)
      go (inr na) (inr nb) = f.apart a b s ha hb ((others r f p h claim_side s).0 a na wa) ((others r f p h claim_side s).0 b nb wb)

  claim_owned : (s : ℕ) → (grown r.sequencing n).is_open s ≡ true → (k : ℕ) × (k < r.producers) × Within (side_of claim_room k).claim s
  claim_owned s e = go (or_cases (r.sequencing.is_open s) (between r.sequencing.next (r.sequencing.next + n) s) e)
    where
      old : (k : ℕ) × (k < r.producers) × Within (side_of r k).claim s → (k : ℕ) × (k < r.producers) × Within (side_of claim_room k).claim s
      old (k, l, w) = (k, l, (others r f p h claim_side s).1 k (λ e. unclaimed (side_of r p).claim free s (subst (λ k. Within (side_of r k).claim s) e w)) w)

      go : (r.sequencing.is_open s ≡ true) ⊎ (between r.sequencing.next (r.sequencing.next + n) s ≡ true) → (k : ℕ) × (k < r.producers) × Within (side_of claim_room k).claim s
      go (inl was) = old (f.owned s was)
      go (inr new) = (p, h, here r f p h (λ y. Within y.claim s) claim_side (between_parts r.sequencing.next (r.sequencing.next + n) s new))

  claim_window : (s : ℕ) → (grown r.sequencing n).is_open s ≡ true → (r.plan.start ≤ s) × (s < r.sequencing.next + n) × (r.sequencing.next + n ≤ s + r.sequencing.slots)
  claim_window s e = go (or_cases (r.sequencing.is_open s) (between r.sequencing.next (r.sequencing.next + n) s) e)
    where
      late : r.sequencing.is_open s ≡ true → (s < r.sequencing.next + n - r.sequencing.slots) ⊎ (r.sequencing.next + n - r.sequencing.slots ≤ s) → r.sequencing.next + n - r.sequencing.slots ≤ s
      late was (inl low) = absurd (true≢false (sym was ∙ none_below r.sequencing.is_open (r.sequencing.next + n - r.sequencing.slots) s none low))
      late was (inr high) = high

      go : (r.sequencing.is_open s ≡ true) ⊎ (between r.sequencing.next (r.sequencing.next + n) s ≡ true) → (r.plan.start ≤ s) × (s < r.sequencing.next + n) × (r.sequencing.next + n ≤ s + r.sequencing.slots)
      go (inl was) =
          let old = f.window s was in
          let high = late was (cases_lt s (r.sequencing.next + n - r.sequencing.slots)) in
          (old.0, omega arith, omega arith)
      go (inr new) =
          let both = between_parts r.sequencing.next (r.sequencing.next + n) s new in
          let begun = f.from in
          (omega arith, both.1, omega arith)

  pub claim_kept : Firm claim_room
  claim_kept = record {
    sound = f.sound;
    eight_sides = length-set r.sides p claim_side ∙ f.eight_sides;
    eight_places = f.eight_places;
    few = f.few;
    alone = f.alone;
    some = f.some;
    from = let begun = f.from in omega arith;
    bounded = bound;
    stands = claim_stands;
    follows = f.follows;
    gated = λ q j hq hj. set_elim (λ k y. k < r.producers → y.gate ≤ (place_of r j).done) r.sides p claim_side nothing (within_sides r f p h) (λ l. f.gated p j l hj) (λ k ne l. f.gated k j l hj) q hq;
    claiming = set_elim (λ k y. k < r.producers → Claiming (grown r.sequencing n).is_open y.claim) r.sides p claim_side nothing (within_sides r f p h)
        (λ _. (record { some = omega arith; from = omega arith; upto = omega arith }, λ s low high. or_right (r.sequencing.is_open s) (between r.sequencing.next (r.sequencing.next + n) s) (between_in r.sequencing.next (r.sequencing.next + n) s low high)))
        (λ k ne l. claiming_on r.sequencing.is_open (grown r.sequencing n).is_open (side_of r k).claim (λ s w was. or_left (r.sequencing.is_open s) (between r.sequencing.next (r.sequencing.next + n) s) was) (f.claiming k l));
    apart = claim_apart;
    owned = claim_owned;
    window = claim_window;
  }

-- write and publish, on a claim c
module _ (r : Room) (f : Firm r) (p : ℕ) (h : p < r.producers) (c : Claim) (has : (side_of r p).claim ≡ Some c) where
  pub own_claim : Claiming r.sequencing.is_open (Some c)
  own_claim = subst (Claiming r.sequencing.is_open) has (f.claiming p h)

  pub own_within : (s : ℕ) → c.first ≤ s → s < c.end → Within (side_of r p).claim s
  own_within s low high = subst (λ o. Within o s) (sym has) (low, high)

  abbrev write_side : Producer
  write_side = record { gate = (side_of r p).gate; claim = Some (record { first = c.first; unwritten = c.unwritten + 1; end = c.end }) }

  abbrev pub write_room : Room
  write_room = with_side r p r.sequencing write_side

  write_same : (k s : ℕ) → (Within (side_of write_room k).claim s → Within (side_of r k).claim s) × (Within (side_of r k).claim s → Within (side_of write_room k).claim s)
  write_same k s = set_elim (λ k y. (Within y.claim s → Within (side_of r k).claim s) × (Within (side_of r k).claim s → Within y.claim s)) r.sides p write_side nothing (within_sides r f p h)
      (λ w. own_within s w.0 w.1, λ w. subst (λ o. Within o s) has w)
      (λ j ne. (λ w. w, λ w. w)) k

  pub write_kept : c.unwritten < c.end → Firm write_room
  write_kept room = record {
    sound = f.sound;
    eight_sides = length-set r.sides p write_side ∙ f.eight_sides;
    eight_places = f.eight_places;
    few = f.few;
    alone = f.alone;
    some = f.some;
    from = f.from;
    bounded = f.bounded;
    stands = f.stands;
    follows = f.follows;
    gated = λ q j hq hj. set_elim (λ k y. k < r.producers → y.gate ≤ (place_of r j).done) r.sides p write_side nothing (within_sides r f p h) (λ l. f.gated p j l hj) (λ k ne l. f.gated k j l hj) q hq;
    claiming = set_elim (λ k y. k < r.producers → Claiming r.sequencing.is_open y.claim) r.sides p write_side nothing (within_sides r f p h)
        (λ _. let sized = own_claim.0 in (record { some = sized.some; from = omega arith; upto = omega arith }, own_claim.1))
        (λ k ne. f.claiming k);
    apart = λ a b s ha hb wa wb. f.apart a b s ha hb ((write_same a s).0 wa) ((write_same b s).0 wb);
    owned = λ s is_open. let own = f.owned s is_open in (own.0, own.1, (write_same own.0 s).1 own.2);
    window = f.window;
  }

  abbrev publish_side : Producer
  publish_side = record { gate = (side_of r p).gate; claim = None }

  abbrev pub publish_room : Room
  publish_room = with_side r p (shrunk r.sequencing c.first c.end) publish_side

  -- what is still open was open, and is not of this claim
  pub still_open : (s : ℕ) → (shrunk r.sequencing c.first c.end).is_open s ≡ true → (r.sequencing.is_open s ≡ true) × (between c.first c.end s ≡ false)
  still_open s e =
      let both = and_parts (r.sequencing.is_open s) (not (between c.first c.end s)) e in
      (both.0, not-true (between c.first c.end s) both.1)

  publish_back : (k s : ℕ) → Within (side_of publish_room k).claim s → Within (side_of r k).claim s
  publish_back k s = set_elim (λ k y. Within y.claim s → Within (side_of r k).claim s) r.sides p publish_side nothing (within_sides r f p h) absurd (λ j ne w. w) k

  publish_owned : (s : ℕ) → (shrunk r.sequencing c.first c.end).is_open s ≡ true → (k : ℕ) × (k < r.producers) × Within (side_of publish_room k).claim s
  publish_owned s e = go (f.owned s (still_open s e).0)
    where
      go : (k : ℕ) × (k < r.producers) × Within (side_of r k).claim s → (k : ℕ) × (k < r.producers) × Within (side_of publish_room k).claim s
      go (k, l, w) = (k, l, (others r f p h publish_side s).1 k (λ e. mine e w) w)
        where
          mine : k ≡ p → Within (side_of r k).claim s → ⊥
          mine same v =
              let own = subst (λ o. Within o s) has (subst (λ k. Within (side_of r k).claim s) same v) in
              true≢false (sym (between_in c.first c.end s own.0 own.1) ∙ (still_open s e).1)

  pub publish_kept : Firm publish_room
  publish_kept = record {
    sound = f.sound;
    eight_sides = length-set r.sides p publish_side ∙ f.eight_sides;
    eight_places = f.eight_places;
    few = f.few;
    alone = f.alone;
    some = f.some;
    from = f.from;
    bounded = f.bounded;
    stands = λ i l. let stand = f.stands i l in record {
      begun = stand.begun;
      committed = stand.committed;
      handled = stand.handled;
      seen = stand.seen;
      ample = stand.ample;
      clear = λ s below. and_left (r.sequencing.is_open s) (not (between c.first c.end s)) (stand.clear s below);
    };
    follows = f.follows;
    gated = λ q j hq hj. set_elim (λ k y. k < r.producers → y.gate ≤ (place_of r j).done) r.sides p publish_side nothing (within_sides r f p h) (λ l. f.gated p j l hj) (λ k ne l. f.gated k j l hj) q hq;
    claiming = set_elim (λ k y. k < r.producers → Claiming (shrunk r.sequencing c.first c.end).is_open y.claim) r.sides p publish_side nothing (within_sides r f p h)
        (λ _. tt)
        (λ k ne l. claiming_on r.sequencing.is_open (shrunk r.sequencing c.first c.end).is_open (side_of r k).claim (λ s w was. and_from (r.sequencing.is_open s) (not (between c.first c.end s)) was (not_from_false (between c.first c.end s) (other k ne l s w))) (f.claiming k l));
    apart = λ a b s ha hb wa wb. f.apart a b s ha hb (publish_back a s wa) (publish_back b s wb);
    owned = publish_owned;
    window = λ s e. f.window s (still_open s e).0;
  }
    where
      other : (k : ℕ) → (k ≡ p → ⊥) → k < r.producers → (s : ℕ) → Within (side_of r k).claim s → between c.first c.end s ≡ false
      other k ne l s w = go (between c.first c.end s) refl
        where
          go : (b : Bool) → between c.first c.end s ≡ b → between c.first c.end s ≡ false
          go true e = let both = between_parts c.first c.end s e in absurd (ne (f.apart k p s l h w (own_within s both.0 both.1)))
          go false e = e
