-- The laws over lists of calls. Assumes nothing.
use Rattle.std.proofs.Common.{◌≡◌, ℕ, ◌+◌, ◌-◌, ◌<◌, ◌≤◌, true, false, ◌⊎◌, List, [], ◌∷◌, sym, refl, ap, ◌∙◌, inl, inr, arith}
use Rattle.events.specs.Refusals.{Reply, accepted, left, refused}
use Rattle.std.proofs.lemmas.Bool.{true≢false}
use Rattle.std.proofs.lemmas.Bool.Decides.{nat_tests}
use Rattle.sequencer.specs.Laws.{Claimed, Freed, Fresh, OpenSet, Published, SameAnswers, Took, Twins, frees, takes}
use Rattle.sequencer.specs.Runs.{Entry, after_steps, history, stepped}
use Rattle.sequencer.specs.Sequencer.{Sequencing, all_from, claim_answer, fresh, grown, publish_answer, shrunk}
use Rattle.sequencer.specs.declared.run.Step.{Step}
use Rattle.sequencer.specs.declared.run.Step.TheVariants.{Claim, Publish, First}
use Rattle.sequencer.proofs.Sets.{all_at}

-- two made alike mean the same
pub twins_same : (a b : Sequencing) → Twins a b → a ≡ b
twins_same a b t =
    let made : fresh a.ordered a.slots a.start ≡ fresh b.ordered b.slots b.start =
    ap (λ o. fresh o a.slots a.start) t.ordered ∙ ap (λ n. fresh b.ordered n a.start) t.slots ∙ ap (fresh b.ordered b.slots) t.start in
    let same : accepted a ≡ accepted b = sym t.a_fresh ∙ made ∙ t.b_fresh in
    cc

pub same_answers : SameAnswers
same_answers a b t steps =
    let same = twins_same a b t in
    (ap (λ q. history q steps) same, ap (λ q. after_steps q steps) same)

-- what a claim answers is next, and what it publishes was all open
claim_first : (q : Sequencing) (n gate v : ℕ) → claim_answer q n gate ≡ accepted v → v ≡ q.next
claim_first q n gate v e = grind arith

publish_open : (q : Sequencing) (lo hi v : ℕ) → publish_answer q lo hi ≡ accepted v → (s : ℕ) → lo ≤ s → s < hi → q.is_open s ≡ true
publish_open q lo hi v e s low high =
    let at : lo + (s - lo) ≡ s = omega arith in
    let all : all_from q.is_open lo (hi - lo) ≡ true = grind arith in
    ap q.is_open (sym at) ∙ all_at q.is_open lo (hi - lo) (s - lo) all (omega arith)

-- what is open is claimed
Sound : Sequencing → Type 0
Sound q = (s : ℕ) → q.is_open s ≡ true → s < q.next

-- one call: what it opens and shuts, and that next only grows
record OneStep (q : Sequencing) (entry : Entry) (after : Sequencing) : Type 0 where
  opens : (s : ℕ) → after.is_open s ≡ true → ((q.is_open s ≡ true) ⊎ Took entry s) × (Freed entry s → ⊥)
  stays : (s : ℕ) → (q.is_open s ≡ true) ⊎ Took entry s → (Freed entry s → ⊥) → after.is_open s ≡ true
  frees_open : (s : ℕ) → Freed entry s → q.is_open s ≡ true
  takes_new : (s : ℕ) → Took entry s → q.next ≤ s
  grows : q.next ≤ after.next
  sound : Sound q → Sound after

module _ (q : Sequencing) where
  -- a call that takes and frees nothing
  unchanged : (step : Step) (answer : Reply ℕ) → ((s : ℕ) → takes step answer s → ⊥) → ((s : ℕ) → frees step answer s → ⊥) → OneStep q (record { step = step; answer = answer }) q
  unfolding Sound
  unchanged step answer none kept = record {
    opens = λ s o. (inl o, kept s);
    stays = λ s o out. still s o;
    frees_open = λ s f. absurd (kept s f);
    takes_new = λ s t. absurd (none s t);
    grows = omega arith;
    sound = λ h. h;
  }
    where
      still : (s : ℕ) → (q.is_open s ≡ true) ⊎ takes step answer s → q.is_open s ≡ true
      still s (inl o) = o
      still s (inr t) = absurd (none s t)

  claim_step : (n gate : ℕ) (answer : Reply ℕ) → claim_answer q n gate ≡ answer → OneStep q (record { step = Claim n gate; answer = answer }) (left answer q (grown q n))
  unfolding Sound
  claim_step n gate (refused why) e = unchanged _ _ (λ s t. t) (λ s f. f)
  claim_step n gate (accepted first) e =
      let at = claim_first q n gate first e in
      record {
        opens = λ s o. (grind (arith, nat_tests), λ f. f);
        stays = λ s o out. grind (arith, nat_tests);
        frees_open = λ s f. absurd f;
        takes_new = λ s t. omega (arith, t.0);
        grows = omega arith;
        sound = λ h s o. grind (arith, nat_tests, h s);
      }

  publish_step : (lo hi : ℕ) (answer : Reply ℕ) → publish_answer q lo hi ≡ answer → OneStep q (record { step = Publish lo hi; answer = answer }) (left answer q (shrunk q lo hi))
  unfolding Sound
  publish_step lo hi (refused why) e = unchanged _ _ (λ s t. t) (λ s f. f)
  publish_step lo hi (accepted v) e = record {
    opens = λ s o. (inl (grind arith), λ f. grind (arith, nat_tests));
    stays = λ s o out. grind (arith, nat_tests);
    frees_open = λ s f. publish_open q lo hi v e s f.0 f.1;
    takes_new = λ s t. absurd t;
    grows = omega arith;
    sound = λ h s o. h s (grind arith);
  }

  one_step : (step : Step) → OneStep q (record { step = step; answer = (stepped q step).answer }) (stepped q step).after
  one_step (Claim n gate) = claim_step n gate (claim_answer q n gate) refl
  one_step (Publish lo hi) = publish_step lo hi (publish_answer q lo hi) refl
  one_step (First from) = unchanged _ _ (λ s t. t) (λ s f. f)

-- later claims take later sequences
claims_later : (q : Sequencing) (steps : List Step) (s : ℕ) → Claimed (history q steps) s → q.next ≤ s
claims_later q [] s c = absurd c
claims_later q (step ∷ steps) s (inl took) = (one_step q step).takes_new s took
claims_later q (step ∷ steps) s (inr later) = omega (arith, claims_later (stepped q step).after steps s later, (one_step q step).grows)

open_after : (q : Sequencing) → Sound q → (steps : List Step) (s : ℕ) → (after_steps q steps).is_open s ≡ true → ((q.is_open s ≡ true) ⊎ Claimed (history q steps) s) × (Published (history q steps) s → ⊥)
unfolding Sound
open_after q h [] s o = (inl o, λ p. p)
open_after q h (step ∷ steps) s o =
    let one = one_step q step in
    let rest = open_after (stepped q step).after (one.sound h) steps s o in
    let later = claims_later (stepped q step).after steps s in
    (grind (arith, one.opens s), λ p. grind (arith, one.opens s, one.frees_open s, one.grows, h s, later))

open_back : (q : Sequencing) → Sound q → (steps : List Step) (s : ℕ) → (q.is_open s ≡ true) ⊎ Claimed (history q steps) s → (Published (history q steps) s → ⊥) → (after_steps q steps).is_open s ≡ true
unfolding Sound
open_back q h [] s o out = grind arith
open_back q h (step ∷ steps) s o out =
    let one = one_step q step in
    open_back (stepped q step).after (one.sound h) steps s (grind (arith, one.stays s)) (λ p. out (inr p))

-- nothing is open in a fresh one
fresh_shut : (q : Sequencing) → Fresh q → (s : ℕ) → q.is_open s ≡ false
fresh_shut q f s = grind arith

pub open_set : OpenSet
unfolding Sound
open_set q f steps s =
    let sound : Sound q = λ s o. absurd (true≢false (sym o ∙ fresh_shut q f s)) in
    let shut = fresh_shut q f s in
    (λ o. let p = open_after q sound steps s o in (grind arith, p.1), λ c out. open_back q sound steps s (inr c) out)
