-- What holds in every state that a room reaches. Assumes nothing.
use Rattle.std.proofs.Common.{◌≡◌, ℕ, ◌+◌, ◌-◌, ◌^◌, ◌<◌, ◌≤◌, Bool, true, false, not, ◌&&◌, ◌||◌, eqb, ltb, leb, List, [], ◌∷◌, map, length, get_or, replicate, is_some, Some, None, sym, refl, ap, ◌∙◌, subst, arith}
use Rattle.limits.specs.Capacity.{is_capacity}
use Rattle.limits.proofs.Capacities.{capacity_some}
use Rattle.std.proofs.lemmas.List.{get_or-replicate}
use Rattle.std.proofs.lemmas.Bool.{leb-false, ltb-false, not-false, or_parts, true≢false}
use Rattle.std.specs.List.{range_with_len}
use Rattle.events.specs.Refusals.{Reply, accepted, left, refused}
use Rattle.bank.specs.Bank.{handled_by, mark_by, nobody}
use Rattle.playout.specs.InOrder.{given_in, row_of, stages_after}
use Rattle.playout.specs.Plan.{Layout}
use Rattle.ring.specs.Ring.{marked, written}
use Rattle.sequencer.specs.Sequencer.{Sequencing, all_from, claim_answer, grown, publish_answer, shrunk, some_below, unclaimed}
use Rattle.stages.specs.Meaning.{Meaning}
use Rattle.machine.specs.Calls.{Call, Course, History, called, claim, commit, committed, entered, gate, handle, handled, look, made, onward, onwards, other, publish, published, write, wrote, ◌▸◌}
use Rattle.machine.specs.Law.{Sound}
use Rattle.machine.specs.Machine.{Room, World, claim_of, fits, given, new_gate, new_seen, on_claim, on_commit, on_gate, on_handle, on_look, on_publish, on_write, place_of, room_made, side_of, with_place, with_room, with_side}
use Rattle.machine.specs.declared.Claim.{Claim}
use Rattle.machine.specs.declared.Producer.{Producer}
use Rattle.machine.specs.declared.Progress.{Progress}
use Rattle.machine.proofs.Basics.{accepted_is, passed_tests}
use Rattle.machine.proofs.Firm.{Claiming, Filled, Firm, Standing, Within}
use Rattle.machine.proofs.Passing.{begins}
use Rattle.machine.proofs.Ran.{Ran}
use Rattle.machine.proofs.Steps.{Inv, claim_step, commit_step, fit_sizes, gate_step, handle_step, has_claim, look_step, other_kept, publish_step, write_step}
use Rattle.machine.proofs.Told.{Told}

module _ (plan : Layout) (bank : List Meaning) (capacity : ℕ) where
  -- One call: a refusal changes nothing but the history; what is accepted passed its tests.
  module _ (w : World) (h : History) (v : Inv plan bank capacity w h) where
    gate_on : (p : ℕ) (a : Reply ℕ) → (on_gate w p).answer ≡ a → Inv plan bank capacity (left a w (with_room w (with_side w.room p w.room.sequencing (record { gate = new_gate w.room; claim = (side_of w.room p).claim })))) (h ▸ other (gate p) a)
    gate_on p (refused n) e = other_kept plan bank capacity w h v (gate p) (refused n)
    gate_on p (accepted x) e =
        let tests = (passed_tests ((not (fits w), 11) ∷ (leb w.room.producers p, 13) ∷ []) (accepted (new_gate w.room)) x e).0 in
        other_kept plan bank capacity _ h (gate_step plan bank capacity w h v p (leb-false w.room.producers p tests.1.0)) (gate p) (accepted x)

    claim_on : (p n : ℕ) (a : Reply ℕ) → (on_claim w p n).answer ≡ a → Inv plan bank capacity (left a w (with_room w (with_side w.room p (grown w.room.sequencing n) (record { gate = (side_of w.room p).gate; claim = Some (record { first = w.room.sequencing.next; unwritten = w.room.sequencing.next; end = w.room.sequencing.next + n }) })))) (h ▸ other (claim p n) a)
    claim_on p n (refused m) e = other_kept plan bank capacity w h v (claim p n) (refused m)
    claim_on p n (accepted x) e =
        let all = passed_tests ((not (fits w), 11) ∷ (leb w.room.producers p, 13) ∷ (is_some (side_of w.room p).claim, 16) ∷ []) (claim_answer w.room.sequencing n (side_of w.room p).gate) x e in
        other_kept plan bank capacity _ h (claim_step plan bank capacity w h v p n (leb-false w.room.producers p all.0.1.0) all.0.1.1.0 x all.1) (claim p n) (accepted x)

    write_on : (p : ℕ) (words : List ℕ) (a : Reply ℕ) → (on_write w p words).answer ≡ a → Inv plan bank capacity (left a w (record { room = with_side w.room p w.room.sequencing (record { gate = (side_of w.room p).gate; claim = Some (record { first = (claim_of w.room p).first; unwritten = (claim_of w.room p).unwritten + 1; end = (claim_of w.room p).end }) }); slots = written w.slots (claim_of w.room p).unwritten words; marks = w.marks; bank = w.bank })) (h ▸ entered w (write p words) a)
    write_on p words (refused m) e = other_kept plan bank capacity w h v (write p words) (refused m)
    write_on p words (accepted x) e =
        let c : Claim = claim_of w.room p in
        let all = passed_tests ((not (fits w), 11) ∷ (leb w.room.producers p, 13) ∷ (not (is_some (side_of w.room p).claim), 20) ∷ (leb c.end c.unwritten, 21) ∷ []) (accepted c.unwritten) x e in
        let l = leb-false w.room.producers p all.0.1.0 in
        let has = has_claim (side_of w.room p).claim (record { first = 0; unwritten = 0; end = 0 }) all.0.1.1.0 in
        let room = leb-false c.end c.unwritten all.0.1.1.1.0 in
        subst (λ s. Inv plan bank capacity (record { room = with_side w.room p w.room.sequencing (record { gate = (side_of w.room p).gate; claim = Some (record { first = (claim_of w.room p).first; unwritten = (claim_of w.room p).unwritten + 1; end = (claim_of w.room p).end }) }); slots = written w.slots (claim_of w.room p).unwritten words; marks = w.marks; bank = w.bank }) (h ▸ wrote p words s)) (accepted_is c.unwritten x all.1) (write_step plan bank capacity w h v p l c has (fit_sizes w all.0.0) room words)

    publish_on : (p : ℕ) (a : Reply ℕ) → (on_publish w p).answer ≡ a → Inv plan bank capacity (left a w (with_room w (with_side w.room p (shrunk w.room.sequencing (claim_of w.room p).first (claim_of w.room p).end) (record { gate = (side_of w.room p).gate; claim = None })))) (h ▸ entered w (publish p) a)
    publish_on p (refused m) e = other_kept plan bank capacity w h v (publish p) (refused m)
    publish_on p (accepted x) e =
        let c : Claim = claim_of w.room p in
        let q : Sequencing = w.room.sequencing in
        let all = passed_tests ((not (fits w), 11) ∷ (leb w.room.producers p, 13) ∷ (not (is_some (side_of w.room p).claim), 20) ∷ (ltb c.unwritten c.end, 22) ∷ []) (publish_answer q c.first c.end) x e in
        let end = passed_tests ((leb c.end c.first || not (all_from q.is_open c.first (c.end - c.first)) || (q.ordered && some_below q.is_open c.first), 25) ∷ []) (accepted c.end) x all.1 in
        let l = leb-false w.room.producers p all.0.1.0 in
        let has = has_claim (side_of w.room p).claim (record { first = 0; unwritten = 0; end = 0 }) all.0.1.1.0 in
        let full = ltb-false c.unwritten c.end all.0.1.1.1.0 in
        subst (λ s. Inv plan bank capacity (with_room w (with_side w.room p (shrunk w.room.sequencing (claim_of w.room p).first (claim_of w.room p).end) (record { gate = (side_of w.room p).gate; claim = None }))) (h ▸ published p s)) (accepted_is c.end x end.1) (publish_step plan bank capacity w h v p l c has full)

    look_on : (i : ℕ) (a : Reply ℕ) → (on_look w i).answer ≡ a → Inv plan bank capacity (left a w (with_room w (with_place w.room i (record { seen = new_seen w.room i; at = (place_of w.room i).at; done = (place_of w.room i).done })))) (h ▸ other (look i) a)
    look_on i (refused m) e = other_kept plan bank capacity w h v (look i) (refused m)
    look_on i (accepted x) e =
        let tests = (passed_tests ((not (fits w), 11) ∷ (leb w.room.plan.stages i, 14) ∷ []) (accepted (new_seen w.room i)) x e).0 in
        other_kept plan bank capacity _ h (look_step plan bank capacity w h v i (leb-false w.room.plan.stages i tests.1.0)) (look i) (accepted x)

    handle_on : (i : ℕ) (a : Reply ℕ) → (on_handle w i).answer ≡ a → Inv plan bank capacity (left a w (record { room = with_place w.room i (record { seen = (place_of w.room i).seen; at = (place_of w.room i).at + 1; done = (place_of w.room i).done }); slots = w.slots; marks = marked (length w.slots) w.marks (place_of w.room i).at i (mark_by w.bank i (given w i)); bank = handled_by w.bank i (given w i) })) (h ▸ entered w (handle i) a)
    handle_on i (refused m) e = other_kept plan bank capacity w h v (handle i) (refused m)
    handle_on i (accepted x) e =
        let all = passed_tests ((not (fits w), 11) ∷ (leb w.room.plan.stages i, 14) ∷ (leb (place_of w.room i).seen (place_of w.room i).at, 23) ∷ []) (accepted (mark_by w.bank i (given w i))) x e in
        let l = leb-false w.room.plan.stages i all.0.1.0 in
        let some = leb-false (place_of w.room i).seen (place_of w.room i).at all.0.1.1.0 in
        subst (λ m. Inv plan bank capacity (record { room = with_place w.room i (record { seen = (place_of w.room i).seen; at = (place_of w.room i).at + 1; done = (place_of w.room i).done }); slots = w.slots; marks = marked (length w.slots) w.marks (place_of w.room i).at i (mark_by w.bank i (given w i)); bank = handled_by w.bank i (given w i) }) (h ▸ handled i (given w i) m)) (accepted_is (mark_by w.bank i (given w i)) x all.1) (handle_step plan bank capacity w h v (fit_sizes w all.0.0) i l some)

    commit_on : (i : ℕ) (a : Reply ℕ) → (on_commit w i).answer ≡ a → Inv plan bank capacity (left a w (with_room w (with_place w.room i (record { seen = (place_of w.room i).seen; at = (place_of w.room i).at; done = (place_of w.room i).at })))) (h ▸ entered w (commit i) a)
    commit_on i (refused m) e = other_kept plan bank capacity w h v (commit i) (refused m)
    commit_on i (accepted x) e =
        let all = passed_tests ((not (fits w), 11) ∷ (leb w.room.plan.stages i, 14) ∷ (eqb (place_of w.room i).done (place_of w.room i).at, 24) ∷ []) (accepted (place_of w.room i).at) x e in
        subst (λ d. Inv plan bank capacity (with_room w (with_place w.room i (record { seen = (place_of w.room i).seen; at = (place_of w.room i).at; done = (place_of w.room i).at }))) (h ▸ committed i d)) (accepted_is (place_of w.room i).at x all.1) (commit_step plan bank capacity w h v i (leb-false w.room.plan.stages i all.0.1.0))

    step : (call : Call) → Inv plan bank capacity (called w call).after (h ▸ entered w call (called w call).answer)
    step (gate p) = gate_on p (on_gate w p).answer refl
    step (claim p n) = claim_on p n (on_claim w p n).answer refl
    step (write p words) = write_on p words (on_write w p words).answer refl
    step (publish p) = publish_on p (on_publish w p).answer refl
    step (look i) = look_on i (on_look w i).answer refl
    step (handle i) = handle_on i (on_handle w i).answer refl
    step (commit i) = commit_on i (on_commit w i).answer refl

  -- any calls
  pub steps : (c : Course) → Inv plan bank capacity c.world c.history → (calls : List Call) → Inv plan bank capacity (onwards c calls).world (onwards c calls).history
  steps c v [] = v
  steps c v (call ∷ calls) = steps (onward c call) (step c.world c.history v call) calls

-- a room as it was made
module _ (plan : Layout) (sound : Sound plan) (bank : List Meaning) (ordered : Bool) (capacity producers : ℕ) (slots : List (List ℕ)) (marks : List ℕ) (fresh : is_capacity capacity ≡ true) (few : producers ≤ 8) (alone : ordered ≡ true → producers ≤ 1) where
  abbrev first_side : Producer
  first_side = record { gate = plan.start; claim = None }

  abbrev first_place : Progress
  first_place = record { seen = plan.start; at = plan.start; done = plan.start }

  abbrev pub new_room : Room
  new_room = record { plan = plan; producers = producers; sequencing = unclaimed ordered capacity plan.start; sides = replicate 8 first_side; places = replicate 8 first_place }

  -- every entry of the tables is the first one
  at_place : (P : Progress → Type 0) (i : ℕ) → i < plan.stages → P first_place → P (place_of new_room i)
  at_place P i l holds = subst P (sym (get_or-replicate 8 i first_place (record { seen = 0; at = 0; done = 0 }) (let most = sound.few in omega arith))) holds

  at_side : (P : Producer → Type 0) (p : ℕ) → p < producers → P first_side → P (side_of new_room p)
  at_side P p l holds = subst P (sym (get_or-replicate 8 p first_side (record { gate = 0; claim = None }) (omega arith))) holds

  new_firm : Firm new_room
  new_firm =
      let some = capacity_some capacity fresh in
      record {
        sound = sound;
        eight_sides = refl;
        eight_places = refl;
        few = few;
        alone = alone;
        some = some;
        from = omega arith;
        bounded = sound.started;
        stands = λ i l. at_place (Standing plan.start capacity plan.start (λ _. false)) i l (record { begun = omega arith; committed = omega arith; handled = omega arith; seen = omega arith; ample = omega arith; clear = λ s below. refl });
        follows = λ i j l named. let order = sound.ordered i j named in at_place (λ x. x.seen ≤ (place_of new_room j).done) i l (at_place (λ x. plan.start ≤ x.done) j (omega arith) (omega arith));
        gated = λ p j hp hj. at_side (λ x. x.gate ≤ (place_of new_room j).done) p hp (at_place (λ x. plan.start ≤ x.done) j hj (omega arith));
        claiming = λ p hp. at_side (λ x. Claiming (λ _. false) x.claim) p hp tt;
        apart = λ p q s hp hq wp wq. absurd (at_side (λ x. Within x.claim s → ⊥) p hp (λ none. none) wp);
        owned = λ s e. absurd (true≢false (sym e));
        window = λ s e. absurd (true≢false (sym e));
      }

  new_told : Told new_room slots made
  new_told = record {
    written = λ p w s none. absurd none;
    pending = λ k hk s filled. absurd (at_side (λ x. Filled x.claim s → ⊥) k hk (λ none. none) filled);
    public = λ s low high shut. absurd (omega arith);
    holds = λ s low high shut near. absurd (omega arith);
    commits = λ j s hj low below. absurd (at_place (λ x. s < x.done → ⊥) j hj (λ b. omega arith) below);
  }

  new_ran : (i : ℕ) → i < plan.stages → Ran plan bank plan.start capacity (place_of new_room i).at marks (get_or bank i nobody) made i
  new_ran i l = at_place (λ x. Ran plan bank plan.start capacity x.at marks (get_or bank i nobody) made i) i l (record {
    stands = λ words ok. ap (λ st. get_or st i nobody) (sym (begins plan bank words)) ∙ ap (λ n. get_or (stages_after plan bank words n) i nobody) (sym none);
    gives = λ words ok. ap (λ n. map (λ k. get_or (row_of plan bank words k) i 0) (range_with_len 0 n)) (sym none);
    takes = λ words ok. ap (λ n. map (λ k. given_in plan bank words k i) (range_with_len 0 n)) (sym none);
    row = λ s low below. absurd (omega arith);
  })
    where
      none : plan.start - plan.start ≡ 0
      none = omega arith

  pub new_inv : Inv plan bank capacity (record { room = new_room; slots = slots; marks = marks; bank = bank }) made
  new_inv = record { same_plan = refl; same_slots = refl; firm = new_firm; told = new_told; long = refl; ran = new_ran; once = tt; handles = tt; spares = tt }

pub made_inv : (plan : Layout) → Sound plan → (bank : List Meaning) (ordered : Bool) (capacity producers : ℕ) (room : Room) (slots : List (List ℕ)) (marks : List ℕ) → room_made ordered plan capacity producers ≡ accepted room → Inv plan bank capacity (record { room = room; slots = slots; marks = marks; bank = bank }) made
made_inv plan sound bank ordered capacity producers room slots marks e =
    let some : Room = record { plan = plan; producers = producers; sequencing = unclaimed ordered capacity plan.start; sides = replicate 8 (record { gate = plan.start; claim = None }); places = replicate 8 (record { seen = plan.start; at = plan.start; done = plan.start }) } in
    let all = passed_tests ((not (is_capacity capacity), 3) ∷ (eqb producers 0 || ltb 8 producers || (ordered && ltb 1 producers), 6) ∷ (ltb (2 ^ 62) plan.start, 7) ∷ []) (accepted some) room e in
    let counts = or_parts (eqb producers 0 || ltb 8 producers) (ordered && ltb 1 producers) all.0.1.0 in
    let most = or_parts (eqb producers 0) (ltb 8 producers) counts.0 in
    subst (λ r. Inv plan bank capacity (record { room = r; slots = slots; marks = marks; bank = bank }) made) (accepted_is some room all.1)
    (new_inv plan sound bank ordered capacity producers slots marks (not-false (is_capacity capacity) all.0.0) (ltb-false 8 producers most.1) (λ o. ltb-false 1 producers (sym (ap (λ b. b && ltb 1 producers) o) ∙ counts.1)))
