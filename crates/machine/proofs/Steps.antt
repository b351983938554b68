-- What holds of a room when it is made holds after any calls. Assumes nothing.
use Rattle.std.proofs.Common.{◌≡◌, ℕ, ◌+◌, ◌-◌, ◌*◌, ◌%◌, ◌^◌, ◌<◌, ◌≤◌, Bool, true, false, cond, not, ◌&&◌, ◌||◌, eqb, ltb, ◌⊎◌, List, [], ◌∷◌, map, length, get_or, set, is_some, Some, None, Option, unwrap_or, sym, refl, ap, ◌∙◌, subst, inl, inr, arith}
use mathlib.Core.Path.{fun_ext}
use Rattle.limits.proofs.Slots.{slot_apart}
use Rattle.std.proofs.lemmas.List.FromFn.{get_or-map-range_with_len}
use Rattle.std.proofs.lemmas.List.{get_or-set_other, get_or-set_same, length-set}
use Rattle.std.proofs.lemmas.Bool.{and_parts, cases_lt, eqb-false, eqb-true, ltb-false, not-false, or_parts, true≢false}
use Rattle.std.specs.List.{range_with_len}
use Rattle.events.specs.Refusals.{Reply, accepted}
use Rattle.bank.specs.Bank.{handled_by, mark_by, nobody}
use Rattle.playout.specs.InOrder.{given_in, passed, stages_after}
use Rattle.playout.specs.Plan.{Layout}
use Rattle.playout.specs.Reach.{reach_of}
use Rattle.playout.proofs.Reached.{reaches}
use Rattle.ring.specs.Ring.{mark_at, marked, row_at}
use Rattle.sequencer.specs.Sequencer.{Sequencing, claim_answer, grown, some_below}
use Rattle.stages.specs.Marks.{names, shown}
use Rattle.stages.specs.Meaning.{Given, Meaning, after}
use Rattle.machine.specs.Calls.{Call, History, committed, handled, other, published, wrote, ◌▸◌}
use Rattle.machine.specs.History.{Each, Published, words_of}
use Rattle.machine.specs.Law.{HandlesAfter, Spares, WritesOnce}
use Rattle.machine.specs.Machine.{Room, World, fits, given, new_gate, new_seen, place_of, side_of, with_place, with_room, with_side}
use Rattle.machine.specs.declared.Claim.{Claim}
use Rattle.machine.specs.declared.Progress.{Progress}
use Rattle.machine.proofs.Basics.{Passed, passed_tests, set_elim}
use Rattle.machine.proofs.Firm.{Firm, claim_kept, gate_kept, may_gate, may_look, moved, Unfilled, own_claim, publish_kept, publish_room, reach_below_lem, within_places, write_kept, write_room, zeros}
use Rattle.machine.proofs.Passing.{row_stays}
use Rattle.machine.proofs.Ran.{Agrees, Ran, ran_claim, ran_commit, ran_here, ran_other, ran_publish, ran_there, ran_write}
use Rattle.machine.proofs.Told.{Told, claim_told, commit_told, gate_told, handle_entry, moved_told, other_entry, publish_told, slot_of, write_told}

-- all stages stand as the run leaves them, in a ring of n slots
abbrev pub AllRan : List Meaning → ℕ → Room → List ℕ → List Meaning → History → Type 0
AllRan bank n r marks stages h =
    (i : ℕ) → i < r.plan.stages → Ran r.plan bank r.sequencing.next n (place_of r i).at marks (get_or stages i nobody) h i

pub record Inv (plan : Layout) (bank : List Meaning) (capacity : ℕ) (w : World) (h : History) : Type 0 where
  pub same_plan : w.room.plan ≡ plan
  pub same_slots : w.room.sequencing.slots ≡ capacity
  pub firm : Firm w.room
  pub told : Told w.room w.slots h
  pub long : length w.bank ≡ length bank
  pub ran : AllRan bank w.room.sequencing.slots w.room w.marks w.bank h
  pub once : Each WritesOnce h
  pub handles : Each (HandlesAfter w.room.plan) h
  pub spares : Each (Spares w.room.plan w.room.sequencing.slots) h

-- the sizes of a ring and a bank that fit
pub record Fit (w : World) : Type 0 where
  pub marks : length w.marks ≡ 8 * length w.slots
  pub slots : length w.slots ≡ w.room.sequencing.slots
  pub bank : length w.bank ≡ w.room.plan.stages

pub fit_sizes : (w : World) → not (fits w) ≡ false → Fit w
fit_sizes w e =
    let all = and_parts (eqb (length w.marks) (8 * length w.slots)) (eqb (length w.slots) w.room.sequencing.slots && eqb (length w.bank) w.room.plan.stages) (not-false (fits w) e) in
    let both = and_parts (eqb (length w.slots) w.room.sequencing.slots) (eqb (length w.bank) w.room.plan.stages) all.1 in
    record { marks = eqb-true (length w.marks) (8 * length w.slots) all.0; slots = eqb-true (length w.slots) w.room.sequencing.slots both.0; bank = eqb-true (length w.bank) w.room.plan.stages both.1 }

-- a claim that is there
pub has_claim : (o : Option Claim) (d : Claim) → not (is_some o) ≡ false → o ≡ Some (unwrap_or o d)
has_claim None d e = absurd (true≢false e)
has_claim (Some c) d e = refl

module _ (plan : Layout) (bank : List Meaning) (capacity : ℕ) (w : World) (h : History) (v : Inv plan bank capacity w h) where
  -- a refused call, and any entry of no concern
  pub other_kept : (call : Call) (answer : Reply ℕ) → Inv plan bank capacity w (h ▸ other call answer)
  other_kept call answer = record {
    same_plan = v.same_plan;
    same_slots = v.same_slots;
    firm = v.firm;
    told = other_entry w.room v.firm w.slots h v.told call answer;
    long = v.long;
    ran = λ i l. ran_other w.room.plan bank w.room.sequencing.next w.room.sequencing.slots (place_of w.room i).at w.marks (get_or w.bank i nobody) h i (v.ran i l) call answer;
    once = (v.once, tt);
    handles = (v.handles, tt);
    spares = (v.spares, tt);
  }

  -- the places of stages change and `at` does not
  same_at : (i : ℕ) (l : i < w.room.plan.stages) (seen done : ℕ) → AllRan bank w.room.sequencing.slots (with_place w.room i (record { seen = seen; at = (place_of w.room i).at; done = done })) w.marks w.bank h
  same_at i l seen done = set_elim (λ j y. j < w.room.plan.stages → Ran w.room.plan bank w.room.sequencing.next w.room.sequencing.slots y.at w.marks (get_or w.bank j nobody) h j) w.room.places i x zeros (within_places w.room v.firm i l x) (v.ran i) (λ j ne. v.ran j)
    where
      x : Progress
      x = record { seen = seen; at = (place_of w.room i).at; done = done }

  pub gate_step : (p : ℕ) → p < w.room.producers → Inv plan bank capacity (with_room w (with_side w.room p w.room.sequencing (record { gate = new_gate w.room; claim = (side_of w.room p).claim }))) h
  gate_step p l = record {
    same_plan = v.same_plan;
    same_slots = v.same_slots;
    firm = gate_kept w.room v.firm p l (new_gate w.room) (may_gate w.room v.firm);
    told = gate_told w.room v.firm w.slots h v.told p l (new_gate w.room);
    long = v.long;
    ran = v.ran;
    once = v.once;
    handles = v.handles;
    spares = v.spares;
  }

  pub claim_step : (p n : ℕ) → p < w.room.producers → is_some (side_of w.room p).claim ≡ false → (first : ℕ) → claim_answer w.room.sequencing n (side_of w.room p).gate ≡ accepted first → Inv plan bank capacity (with_room w (with_side w.room p (grown w.room.sequencing n) (record { gate = (side_of w.room p).gate; claim = Some (record { first = w.room.sequencing.next; unwritten = w.room.sequencing.next; end = w.room.sequencing.next + n }) }))) h
  claim_step p n l free first e = record {
    same_plan = v.same_plan;
    same_slots = v.same_slots;
    firm = claim_kept w.room v.firm p l n free some fit (ltb-false (2 ^ 62) (q.next + n) tests.1.0) (ltb-false ((side_of w.room p).gate + q.slots) (q.next + n) place.0) place.1;
    told = claim_told w.room v.firm w.slots h v.told p l n;
    long = v.long;
    ran = λ i li. ran_claim w.room.plan bank w.room.sequencing.next w.room.sequencing.slots n (place_of w.room i).at w.marks (get_or w.bank i nobody) h i (v.ran i li);
    once = v.once;
    handles = v.handles;
    spares = v.spares;
  }
    where
      q : Sequencing
      q = w.room.sequencing

      tests : Passed ((eqb n 0 || ltb q.slots n, 17) ∷ (ltb (2 ^ 62) (q.next + n), 18) ∷ (ltb ((side_of w.room p).gate + q.slots) (q.next + n) || some_below q.is_open (q.next + n - q.slots), 19) ∷ [])
      tests = (passed_tests ((eqb n 0 || ltb q.slots n, 17) ∷ (ltb (2 ^ 62) (q.next + n), 18) ∷ (ltb ((side_of w.room p).gate + q.slots) (q.next + n) || some_below q.is_open (q.next + n - q.slots), 19) ∷ []) (accepted q.next) first e).0

      amount : (eqb n 0 ≡ false) × (ltb q.slots n ≡ false)
      amount = or_parts (eqb n 0) (ltb q.slots n) tests.0

      some : 1 ≤ n
      some = let ne = eqb-false n 0 amount.0 in omega arith

      fit : n ≤ q.slots
      fit = ltb-false q.slots n amount.1

      place : (ltb ((side_of w.room p).gate + q.slots) (q.next + n) ≡ false) × (some_below q.is_open (q.next + n - q.slots) ≡ false)
      place = or_parts (ltb ((side_of w.room p).gate + q.slots) (q.next + n)) (some_below q.is_open (q.next + n - q.slots)) tests.1.1.0

  pub look_step : (i : ℕ) → i < w.room.plan.stages → Inv plan bank capacity (with_room w (with_place w.room i (record { seen = new_seen w.room i; at = (place_of w.room i).at; done = (place_of w.room i).done }))) h
  look_step i l =
      let may = may_look w.room v.firm i l in
      let stand = v.firm.stands i l in
      record {
        same_plan = v.same_plan;
        same_slots = v.same_slots;
        firm = moved w.room v.firm i l (record { seen = new_seen w.room i; at = (place_of w.room i).at; done = (place_of w.room i).done })
            (record { begun = stand.begun; committed = stand.committed; handled = may.from; seen = may.upto; ample = stand.ample; clear = may.clear }) may.follows (omega arith);
        told = moved_told w.room v.firm w.slots h v.told i l (new_seen w.room i) (place_of w.room i).at;
        long = v.long;
        ran = same_at i l (new_seen w.room i) (place_of w.room i).done;
        once = v.once;
        handles = v.handles;
        spares = v.spares;
      }

  pub commit_step : (i : ℕ) → i < w.room.plan.stages → Inv plan bank capacity (with_room w (with_place w.room i (record { seen = (place_of w.room i).seen; at = (place_of w.room i).at; done = (place_of w.room i).at }))) (h ▸ committed i (place_of w.room i).at)
  commit_step i l =
      let stand = v.firm.stands i l in
      record {
        same_plan = v.same_plan;
        same_slots = v.same_slots;
        firm = moved w.room v.firm i l (record { seen = (place_of w.room i).seen; at = (place_of w.room i).at; done = (place_of w.room i).at })
            (record { begun = omega arith; committed = omega arith; handled = stand.handled; seen = stand.seen; ample = omega arith; clear = stand.clear }) (λ j named. v.firm.follows i j l named) stand.committed;
        told = commit_told w.room v.firm w.slots h v.told i l;
        long = v.long;
        ran = λ j lj. ran_commit w.room.plan bank w.room.sequencing.next w.room.sequencing.slots _ w.marks (get_or w.bank j nobody) h j (same_at i l (place_of w.room i).seen (place_of w.room i).at j lj) i (place_of w.room i).at;
        once = (v.once, tt);
        handles = (v.handles, tt);
        spares = (v.spares, tt);
      }

  module _ (p : ℕ) (l : p < w.room.producers) (c : Claim) (has : (side_of w.room p).claim ≡ Some c) where
    pub publish_step : c.end ≤ c.unwritten → Inv plan bank capacity (with_room w (publish_room w.room v.firm p l c has)) (h ▸ published p c.end)
    publish_step full = record {
      same_plan = v.same_plan;
      same_slots = v.same_slots;
      firm = publish_kept w.room v.firm p l c has;
      told = publish_told w.room v.firm w.slots h v.told p l c has full;
      long = v.long;
      ran = λ i li. ran_publish w.room.plan bank w.room.sequencing.next w.room.sequencing.slots (place_of w.room i).at w.marks (get_or w.bank i nobody) h i (v.ran i li) p c.end;
      once = (v.once, tt);
      handles = (v.handles, tt);
      spares = (v.spares, tt);
    }

    pub write_step : Fit w → c.unwritten < c.end → (words : List ℕ) → Inv plan bank capacity (record { room = write_room w.room v.firm p l c has; slots = set w.slots (c.unwritten % length w.slots) words; marks = w.marks; bank = w.bank }) (h ▸ wrote p words c.unwritten)
    write_step fit room words = record {
      same_plan = v.same_plan;
      same_slots = v.same_slots;
      firm = write_kept w.room v.firm p l c has room;
      told = write_told w.room v.firm w.slots h v.told p l c has room fit.slots words;
      long = v.long;
      ran = λ i li. ran_write w.room.plan bank w.room.sequencing.next w.room.sequencing.slots (place_of w.room i).at w.marks (get_or w.bank i nobody) h i (v.ran i li) p c.unwritten words (late i li (cases_lt c.unwritten (place_of w.room i).at));
      once = (v.once, λ q u was. (v.told.written q u c.unwritten was).2 p l (subst (λ o. Unfilled o c.unwritten) (sym has) (omega arith, room)));
      handles = (v.handles, tt);
      spares = (v.spares, λ q s u was less same j lj. v.told.commits j s lj (v.told.written q u s was).0 (far s less same j lj (cases_lt c.unwritten (s + w.room.sequencing.slots))));
    }
      where
        own : w.room.sequencing.is_open c.unwritten ≡ true
        own = let ok = own_claim w.room v.firm p l c has in ok.1 c.unwritten ok.0.from room

        -- no stage is past an open sequence
        late : (i : ℕ) → i < w.room.plan.stages → (c.unwritten < (place_of w.room i).at) ⊎ ((place_of w.room i).at ≤ c.unwritten) → (place_of w.room i).at ≤ c.unwritten
        late i li (inl past) = let stand = v.firm.stands i li in absurd (true≢false (sym own ∙ stand.clear c.unwritten (omega arith)))
        late i li (inr ok) = ok

        -- a lower sequence of the slot lies a ring below, where every stage has committed
        far : (s : ℕ) → s < c.unwritten → s % w.room.sequencing.slots ≡ c.unwritten % w.room.sequencing.slots → (j : ℕ) → j < w.room.plan.stages → (c.unwritten < s + w.room.sequencing.slots) ⊎ (s + w.room.sequencing.slots ≤ c.unwritten) → s < (place_of w.room j).done
        far s less same j lj (inl near) = absurd (slot_apart w.room.sequencing.slots s c.unwritten less near same)
        far s less same j lj (inr away) =
            let stand = v.firm.stands j lj in
            let window = v.firm.window c.unwritten own in
            omega arith

  module _ (fit : Fit w) (i : ℕ) (l : i < w.room.plan.stages) (some : (place_of w.room i).at < (place_of w.room i).seen) where
    abbrev at : ℕ
    at = (place_of w.room i).at

    abbrev start : ℕ
    start = w.room.plan.start

    pub begins_below : (start ≤ at) × (at < w.room.sequencing.next) × (w.room.sequencing.next ≤ at + w.room.sequencing.slots)
    begins_below = let stand = v.firm.stands i l in (omega arith, omega arith, omega arith)

    -- the event in the slot is the one that was written
    event_there : slot_of w.slots at ≡ words_of h at
    event_there =
        let place = begins_below in
        v.told.holds (place_of w.room i).at place.0 place.1 ((v.firm.stands i l).clear (place_of w.room i).at some) place.2

    -- the marks shown are those of the run
    shown_same : (words : ℕ → List ℕ) → Agrees h w.room.plan.start words (at - start + 1) → shown (reach_of w.room.plan.masks i) (row_at (length w.slots) w.marks at) ≡ shown (reach_of w.room.plan.masks i) (passed w.room.plan.masks (w.room.plan.start + (at - start)) (words (at - start)) (stages_after w.room.plan bank words (at - start)) i).row
    shown_same words ok = ap (λ (m : ℕ → ℕ). map m (range_with_len 0 8)) (fun_ext (λ j. go j (names (reach_of w.room.plan.masks i) j) refl))
      where
        row : List ℕ
        row = (passed w.room.plan.masks (w.room.plan.start + ((place_of w.room i).at - w.room.plan.start)) (words ((place_of w.room i).at - w.room.plan.start)) (stages_after w.room.plan bank words ((place_of w.room i).at - w.room.plan.start)) i).row

        one : (j : ℕ) → names (reach_of w.room.plan.masks i) j ≡ true → get_or (row_at (length w.slots) w.marks (place_of w.room i).at) j 0 ≡ get_or row j 0
        one j named =
            let up = reach_below_lem w.room v.firm ((reaches w.room.plan.masks i v.firm.sound.ordered j).0 named) l (place_of w.room i).at some in
            let few = v.firm.sound.few in
            let stand = v.firm.stands j (omega arith) in
            let place = begins_below in
            get_or-map-range_with_len (mark_at (length w.slots) w.marks (place_of w.room i).at) 0 8 j j 0 (omega arith) (omega arith)
            ∙ ap (λ k. mark_at k w.marks (place_of w.room i).at j) fit.slots
            ∙ (v.ran j (omega arith)).row (place_of w.room i).at place.0 (omega arith) place.2 words ok
            ∙ sym (row_stays w.room.plan bank words ((place_of w.room i).at - w.room.plan.start) i j up.0 (omega arith) (omega arith))

        go : (j : ℕ) (b : Bool) → names (reach_of w.room.plan.masks i) j ≡ b → cond b (get_or (row_at (length w.slots) w.marks (place_of w.room i).at) j 0) 0 ≡ cond b (get_or row j 0) 0
        go j true e = one j e
        go j false e = refl

    pub given_same : (words : ℕ → List ℕ) → Agrees h w.room.plan.start words (at - start + 1) → given w i ≡ given_in w.room.plan bank words (at - start) i
    given_same words ok =
        let place = begins_below in
        let k : ℕ = (place_of w.room i).at - w.room.plan.start in
        let number : (place_of w.room i).at ≡ w.room.plan.start + k = omega arith in
        let event : slot_of w.slots (place_of w.room i).at ≡ words k = event_there ∙ ap (words_of h) number ∙ sym (ok k (omega arith)) in
        let one : ℕ → Given = λ s. record { sequence = s; words = slot_of w.slots (place_of w.room i).at; marks = (given w i).marks } in
        let two : List ℕ → Given = λ e. record { sequence = w.room.plan.start + k; words = e; marks = (given w i).marks } in
        let three : List ℕ → Given = λ m. record { sequence = w.room.plan.start + k; words = words k; marks = m } in
        ap one number ∙ ap two event ∙ ap three (shown_same words ok)

    abbrev mark : ℕ
    mark = mark_by w.bank i (given w i)

    abbrev onward_place : Progress
    onward_place = record { seen = (place_of w.room i).seen; at = at + 1; done = (place_of w.room i).done }

    -- in a ring of as many slots as there are
    handled_ran : AllRan bank (length w.slots) (with_place w.room i onward_place) (marked (length w.slots) w.marks at i mark) (handled_by w.bank i (given w i)) (h ▸ handled i (given w i) mark)
    handled_ran = set_elim (λ j y. j < w.room.plan.stages → Ran w.room.plan bank w.room.sequencing.next (length w.slots) y.at (marked (length w.slots) w.marks at i mark) (get_or (handled_by w.bank i (given w i)) j nobody) (h ▸ handled i (given w i) mark) j) w.room.places i onward_place zeros (within_places w.room v.firm i l onward_place)
        (λ _. subst (λ m. Ran w.room.plan bank w.room.sequencing.next (length w.slots) (at + 1) (marked (length w.slots) w.marks at i mark) m (h ▸ handled i (given w i) mark) i)
        (sym (get_or-set_same w.bank i (after (get_or w.bank i nobody) (given w i)) nobody (let size = fit.bank in omega arith)))
        (ran_here w.room.plan bank w.room.sequencing.next (length w.slots) w.marks ringed fit.marks h i at few (given w i) begins_below.0 begins_below.1 (get_or w.bank i nobody) l (let size = fit.bank in let long = v.long in omega arith) given_same (before i l)))
        (λ j ne lj. subst (λ m. Ran w.room.plan bank w.room.sequencing.next (length w.slots) (place_of w.room j).at (marked (length w.slots) w.marks at i mark) m (h ▸ handled i (given w i) mark) j)
        (sym (get_or-set_other w.bank i j (after (get_or w.bank i nobody) (given w i)) nobody ne))
        (ran_there w.room.plan bank w.room.sequencing.next (length w.slots) w.marks ringed fit.marks h i at few (given w i) begins_below.0 begins_below.1 mark (place_of w.room j).at (get_or w.bank j nobody) j (let most = v.firm.sound.few in omega arith) ne (before j lj)))
      where
        ringed : 1 ≤ length w.slots
        ringed = let one = v.firm.some in let size = fit.slots in omega arith

        few : i < 8
        few = let most = v.firm.sound.few in omega arith

        before : (j : ℕ) → j < w.room.plan.stages → Ran w.room.plan bank w.room.sequencing.next (length w.slots) (place_of w.room j).at w.marks (get_or w.bank j nobody) h j
        before j lj = subst (λ k. Ran w.room.plan bank w.room.sequencing.next k (place_of w.room j).at w.marks (get_or w.bank j nobody) h j) (sym fit.slots) (v.ran j lj)

    pub handle_step : Inv plan bank capacity (record { room = with_place w.room i onward_place; slots = w.slots; marks = marked (length w.slots) w.marks at i mark; bank = handled_by w.bank i (given w i) }) (h ▸ handled i (given w i) mark)
    handle_step =
        let stand = v.firm.stands i l in
        let place = begins_below in
        record {
          same_plan = v.same_plan;
          same_slots = v.same_slots;
          firm = moved w.room v.firm i l onward_place (record { begun = stand.begun; committed = omega arith; handled = omega arith; seen = stand.seen; ample = stand.ample; clear = stand.clear }) (λ j named. v.firm.follows i j l named) (omega arith);
          told = handle_entry (with_place w.room i onward_place) (moved w.room v.firm i l onward_place (record { begun = stand.begun; committed = omega arith; handled = omega arith; seen = stand.seen; ample = stand.ample; clear = stand.clear }) (λ j named. v.firm.follows i j l named) (omega arith)) w.slots h (moved_told w.room v.firm w.slots h v.told i l (place_of w.room i).seen (at + 1)) i (given w i) mark;
          long = length-set w.bank i (after (get_or w.bank i nobody) (given w i)) ∙ v.long;
          ran = subst (λ k. AllRan bank k (with_place w.room i onward_place) (marked (length w.slots) w.marks at i mark) (handled_by w.bank i (given w i)) (h ▸ handled i (given w i) mark)) fit.slots handled_ran;
          once = (v.once, tt);
          handles = (
            v.handles,
            (
              subst (λ e. Published h e at) (sym event_there) (v.told.public at place.0 place.1 (stand.clear at some)),
              λ j on. let up = reach_below_lem w.room v.firm on l at some in v.told.commits j at (omega arith) place.0 up.1,
            ),
          );
          spares = (v.spares, tt);
        }
