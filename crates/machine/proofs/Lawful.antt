-- The law, from what holds in every reached state. Assumes nothing.
use Rattle.std.proofs.Common.{◌≡◌, ℕ, zero, suc, ◌+◌, ◌-◌, ◌<◌, ◌≤◌, Bool, true, false, not, ◌&&◌, ◌||◌, eqb, leb, List, ◌∷◌, map, length, get_or, Some, sym, refl, ap, ◌∙◌, subst, arith}
use Rattle.std.proofs.lemmas.List.FromFn.{length-map-range_with_len}
use Rattle.std.proofs.lemmas.Bool.{cond-false, lt-leb, ne_eqb, or_from}
use Rattle.std.specs.List.{range_with_len}
use Rattle.events.specs.Refusals.{accepted, refused}
use Rattle.bank.specs.Bank.{nobody}
use Rattle.playout.specs.InOrder.{given_in, row_of, stages_after}
use Rattle.playout.specs.Plan.{Layout, gating, in_mask}
use Rattle.playout.specs.Reach.{mask_of}
use Rattle.playout.proofs.Gatings.{mask_by}
use Rattle.sequencer.specs.Sequencer.{Sequencing, all_from, first_open, publish_answer, some_below}
use Rattle.sequencer.proofs.Sets.{all_in, some_none}
use Rattle.stages.specs.Marks.{names}
use Rattle.stages.specs.Meaning.{Given, Meaning}
use Rattle.machine.specs.Calls.{Course}
use Rattle.machine.specs.History.{Each, Published, gave, received, words_of}
use Rattle.machine.specs.Law.{Agreeing, HandlesAfter, IsLeast, NothingUnequal, Right, RoomsAgree, RoomsSteady, Run, Sound, Spares, Steady, begun, course_of, events_of, handled_count}
use Rattle.machine.specs.Machine.{Room, least_done, new_gate, new_seen, place_of, side_of}
use Rattle.machine.specs.declared.Claim.{Claim}
use Rattle.machine.proofs.Basics.{least_of, named_some}
use Rattle.machine.proofs.Firm.{Claiming, Firm, Within, own_claim}
use Rattle.machine.proofs.Ran.{Agrees}
use Rattle.machine.proofs.Reached.{made_inv, steps}
use Rattle.machine.proofs.Steps.{Inv}

-- where stage i stands, over any events that agree with the history as far as it has come
pub record Stood (plan : Layout) (bank : List Meaning) (c : Course) (i : ℕ) : Type 0 where
  pub from : plan.start ≤ (place_of c.world.room i).at
  pub count : handled_count c i ≡ (place_of c.world.room i).at - plan.start
  pub stands : (words : ℕ → List ℕ) → Agrees c.history plan.start words (handled_count c i) → get_or c.world.bank i nobody ≡ get_or (stages_after plan bank words (handled_count c i)) i nobody
  pub gives : (words : ℕ → List ℕ) → Agrees c.history plan.start words (handled_count c i) → gave c.history i ≡ map (λ k. get_or (row_of plan bank words k) i 0) (range_with_len 0 (handled_count c i))
  pub takes : (words : ℕ → List ℕ) → Agrees c.history plan.start words (handled_count c i) → received c.history i ≡ map (λ k. given_in plan bank words k i) (range_with_len 0 (handled_count c i))
  pub public : (k : ℕ) → k < handled_count c i → Published c.history (words_of c.history (plan.start + k)) (plan.start + k)

stood : (plan : Layout) (bank : List Meaning) (capacity : ℕ) (c : Course) → Inv plan bank capacity c.world c.history → (i : ℕ) → i < c.world.room.plan.stages → Stood c.world.room.plan bank c i
stood plan bank capacity c v i l =
    let stand = v.firm.stands i l in
    let ran = v.ran i l in
    let start = c.world.room.plan.start in
    let n : ℕ = (place_of c.world.room i).at - c.world.room.plan.start in
    let words : ℕ → List ℕ = events_of c.world.room.plan c.history in
    let count : handled_count c i ≡ n = ap length (ran.takes words (λ k h. refl)) ∙ length-map-range_with_len (λ k. given_in c.world.room.plan bank words k i) 0 n in
    record {
      from = omega arith;
      count = count;
      stands = λ words ok. ran.stands words (λ k h. ok k (omega arith)) ∙ ap (λ m. get_or (stages_after c.world.room.plan bank words m) i nobody) (sym count);
      gives = λ words ok. ran.gives words (λ k h. ok k (omega arith)) ∙ ap (λ m. map (λ k. get_or (row_of c.world.room.plan bank words k) i 0) (range_with_len 0 m)) (sym count);
      takes = λ words ok. ran.takes words (λ k h. ok k (omega arith)) ∙ ap (λ m. map (λ k. given_in c.world.room.plan bank words k i) (range_with_len 0 m)) (sym count);
      public = λ k h. v.told.public (c.world.room.plan.start + k) (omega arith) (omega arith) (stand.clear (c.world.room.plan.start + k) (omega arith));
    }

stood_all : (plan : Layout) (bank : List Meaning) (capacity : ℕ) (c : Course) → Inv plan bank capacity c.world c.history → (i : ℕ) → i < plan.stages → Stood plan bank c i
stood_all plan bank capacity c v = subst (λ p. (i : ℕ) → i < p.stages → Stood p bank c i) v.same_plan (stood plan bank capacity c v)

-- the sequences of what the run passes to a stage
run_sequences : (plan : Layout) (bank : List Meaning) (words : ℕ → List ℕ) (i a n : ℕ) → map (λ (g : Given). g.sequence) (map (λ k. given_in plan bank words k i) (range_with_len a n)) ≡ range_with_len (plan.start + a) n
run_sequences plan bank words i a zero = refl
run_sequences plan bank words i a (suc n) =
    let next : plan.start + (a + 1) ≡ plan.start + a + 1 = omega arith in
    ap (λ rest. (plan.start + a) ∷ rest) (run_sequences plan bank words i (a + 1) n ∙ ap (λ m. range_with_len m n) next)

right : (plan : Layout) (bank : List Meaning) (capacity : ℕ) (c : Course) → Inv plan bank capacity c.world c.history → Right plan bank capacity c
right plan bank capacity c v = record {
  stages = λ i l. let s = stood_all plan bank capacity c v i l in record {
    figures = ap (λ (m : Meaning). m.figures) (s.stands (events_of plan c.history) (λ k h. refl));
    marks = s.gives (events_of plan c.history) (λ k h. refl);
    passes = s.takes (events_of plan c.history) (λ k h. refl);
  };
  sequences = λ i l. let s = stood_all plan bank capacity c v i l in
      let zero-on : plan.start + 0 ≡ plan.start = omega arith in
      record {
        from = s.from;
        handles = ap (map (λ (g : Given). g.sequence)) (s.takes (events_of plan c.history) (λ k h. refl))
            ∙ run_sequences plan bank (events_of plan c.history) i 0 (handled_count c i)
            ∙ ap (λ m. range_with_len m (handled_count c i)) zero-on
            ∙ ap (range_with_len plan.start) s.count;
      };
  once = v.once;
  handles = subst (λ p. Each (HandlesAfter p) c.history) v.same_plan v.handles;
  spares = subst (λ n. Each (Spares plan n) c.history) v.same_slots (subst (λ p. Each (Spares p c.world.room.sequencing.slots) c.history) v.same_plan v.spares);
}

-- over equally many events, with nothing unequal published, the run is the same one
agreeing : (plan : Layout) (bank : List Meaning) (one another : Course) → ((i : ℕ) → i < plan.stages → Stood plan bank one i) → ((i : ℕ) → i < plan.stages → Stood plan bank another i) → NothingUnequal one.history another.history → Agreeing plan one another
agreeing plan bank one another here there equal i l same =
    let a = here i l in
    let b = there i l in
    let words : ℕ → List ℕ = events_of plan one.history in
    let agrees : Agrees another.history plan.start words (handled_count another i) = λ k h. equal (plan.start + k) (words_of one.history (plan.start + k)) (words_of another.history (plan.start + k)) (a.public k (omega arith)) (b.public k h) in
    record {
      figures = ap (λ (m : Meaning). m.figures) (a.stands words (λ k h. refl) ∙ ap (λ n. get_or (stages_after plan bank words n) i nobody) same ∙ sym (b.stands words agrees));
      marks = a.gives words (λ k h. refl) ∙ ap (λ n. map (λ k. get_or (row_of plan bank words k) i 0) (range_with_len 0 n)) same ∙ sym (b.gives words agrees);
    }

reached : (plan : Layout) → Sound plan → (bank : List Meaning) (run : Run plan bank) → Inv plan bank run.capacity (course_of run).world (course_of run).history
reached plan sound bank run =
    steps plan bank run.capacity (begun run.room run.slots run.marks bank) (made_inv plan sound bank run.in_order run.capacity run.producers run.room run.slots run.marks run.making) run.calls

pub rooms_agree : RoomsAgree
rooms_agree plan sound bank run =
    let v = reached plan sound bank run in
    record {
      right = right plan bank run.capacity (course_of run) v;
      others = λ another. right plan bank another.capacity (course_of another) (reached plan sound bank another);
      agrees = λ another equal. agreeing plan bank (course_of run) (course_of another) (stood_all plan bank run.capacity (course_of run) v) (stood_all plan bank another.capacity (course_of another) (reached plan sound bank another)) equal;
    }

-- a full claim is published: all of it is open, and in order nothing before it is, since its producer is alone
publishes : (r : Room) → Firm r → (p : ℕ) (claim : Claim) → p < r.producers → (side_of r p).claim ≡ Some claim → publish_answer r.sequencing claim.first claim.end ≡ accepted claim.end
publishes r f p claim l has =
    cond-false (leb claim.end claim.first || not (all_from q.is_open claim.first (claim.end - claim.first)) || (q.ordered && some_below q.is_open claim.first)) (refused 25) (accepted claim.end)
    (or_from (leb claim.end claim.first || not (all_from q.is_open claim.first (claim.end - claim.first))) (q.ordered && some_below q.is_open claim.first)
    (or_from (leb claim.end claim.first) (not (all_from q.is_open claim.first (claim.end - claim.first))) (lt-leb claim.end claim.first own.0.some) (ap not (all_in q.is_open claim.first (claim.end - claim.first) (λ k h. let sized = own.0 in own.1 (claim.first + k) (omega arith) (omega arith)))))
    (go q.ordered refl))
  where
    q : Sequencing
    q = r.sequencing

    own : Claiming r.sequencing.is_open (Some claim)
    own = own_claim r f p l claim has

    -- alone, a producer owns all that is open
    earlier : q.ordered ≡ true → (s : ℕ) → s < claim.first → (b : Bool) → q.is_open s ≡ b → q.is_open s ≡ false
    earlier o s low false e = e
    earlier o s low true e = absurd (mine (f.owned s e))
      where
        mine : (k : ℕ) × (k < r.producers) × Within (side_of r k).claim s → ⊥
        mine (k, lk, w) =
            let one = f.alone o in
            let same : k ≡ p = omega arith in
            let inside = subst (λ o. Within o s) has (subst (λ k. Within (side_of r k).claim s) same w) in
            omega (arith, inside.0)

    go : (b : Bool) → q.ordered ≡ b → (q.ordered && some_below q.is_open claim.first) ≡ false
    go false e = ap (λ b. b && some_below q.is_open claim.first) e
    go true e = ap (λ b. b && some_below q.is_open claim.first) e ∙ some_none q.is_open claim.first (λ s low. earlier e s low (q.is_open s) refl)

-- the last stage is a gating one
gate_least : (r : Room) → Firm r → IsLeast r.places (gating r.plan) r.plan.stages (new_gate r)
gate_least r f =
    let n : ℕ = r.plan.stages in
    let some = f.sound.some in
    let bound = f.bounded in
    let stand = f.stands (r.plan.stages - 1) (omega arith) in
    least_of r.places (gating r.plan) r.plan.stages (r.plan.stages - 1) (omega arith) (go (in_mask r.plan.masks (r.plan.stages - 1) r.plan.stages) refl) (omega arith)
  where
    none : (i : ℕ) × (i < r.plan.stages) × (names (mask_of r.plan.masks i) (r.plan.stages - 1) ≡ true) → ⊥
    none (i, l, named) = let order = f.sound.ordered i (r.plan.stages - 1) named in omega arith

    go : (b : Bool) → in_mask r.plan.masks (r.plan.stages - 1) r.plan.stages ≡ b → not (in_mask r.plan.masks (r.plan.stages - 1) r.plan.stages) ≡ true
    go true e = absurd (none (mask_by r.plan.masks (r.plan.stages - 1) r.plan.stages e))
    go false e = ap not e

look_least : (r : Room) → Firm r → (i : ℕ) → i < r.plan.stages → (mask_of r.plan.masks i ≡ 0 → ⊥) → IsLeast r.places (names (mask_of r.plan.masks i)) r.plan.stages (new_seen r i)
look_least r f i l some = subst (IsLeast r.places (names mask) r.plan.stages) (sym (cond-false (eqb mask 0) (first_open r.sequencing (place_of r i).at) (least_done r.places (names mask) r.plan.stages) (ne_eqb mask 0 some))) (go (named_some mask mask (omega arith) (omega arith)))
  where
    mask : ℕ
    mask = mask_of r.plan.masks i

    go : (j : ℕ) × (names mask j ≡ true) → IsLeast r.places (names mask) r.plan.stages (least_done r.places (names mask) r.plan.stages)
    go (j, named) =
        let order = f.sound.ordered i j named in
        let stand = f.stands j (omega arith) in
        let bound = f.bounded in
        least_of r.places (names mask) r.plan.stages j (omega arith) named (omega arith)

steady : (plan : Layout) (bank : List Meaning) (capacity : ℕ) (c : Course) → Inv plan bank capacity c.world c.history → Steady c.world.room.plan c.world.room
steady plan bank capacity c v = record {
  done_first = λ i l. (v.firm.stands i l).committed;
  at_next = λ i l. (v.firm.stands i l).handled;
  seen_last = λ i l. (v.firm.stands i l).seen;
  gates = gate_least c.world.room v.firm;
  looks = look_least c.world.room v.firm;
  publishes = λ p claim l has full. publishes c.world.room v.firm p claim l has;
}

pub rooms_steady : RoomsSteady
rooms_steady plan sound bank run =
    let v = reached plan sound bank run in
    subst (λ p. Steady p (course_of run).world.room) v.same_plan (steady plan bank run.capacity (course_of run) v)
