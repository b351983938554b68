-- One call more of a list. Assumes nothing.
use Rattle.std.proofs.Common.{◌≡◌, ℕ, suc, ◌+◌, ◌<◌, Bool, true, false, cond, ◌&&◌, List, [], ◌∷◌, length, get_or, drop, is_ok, Ok, Err, Result, sym, refl, ap, ◌∙◌, arith}
use Rattle.events.specs.Refusals.{Reply, accepted, refused, reply}
use Rattle.events.specs.declared.refusal.Refusal.{Refusal}
use Rattle.std.proofs.lemmas.List.{at_drop_more}
use Rattle.std.proofs.Math.Bool.{and_assoc}
use Rattle.std.proofs.lemmas.Bool.{eq-eqb}
use Rattle.sequencer.specs.Runs.{accepted_in, after_steps, alike, history, one_if, same_reply, stepped}
use Rattle.sequencer.specs.Sequencer.{Left, Sequencing}
use Rattle.sequencer.specs.declared.run.Step.{Step}

counted : (r : Result ℕ Refusal) (n : ℕ) → one_if (reply r) n ≡ cond (is_ok r) (suc n) n
counted (Ok v) n = refl
counted (Err why) n = refl

module _ (m : Sequencing) (steps : List Step) (k : ℕ) (d : Step) (r : Result ℕ Refusal) (after : Sequencing) (within : k < length steps) (told : record { answer = reply r; after = after } ≡ stepped m (get_or steps k d)) where
  pub after_on : (end : Sequencing) → after_steps m (drop k steps) ≡ end → after_steps after (drop (k + 1) steps) ≡ end
  after_on end inv =
      let split : after_steps m (drop k steps) ≡ after_steps (stepped m (get_or steps k d)).after (drop (k + 1) steps) = at_drop_more (after_steps m) steps k d within in
      ap (λ (p : Left). after_steps p.after (drop (k + 1) steps)) told ∙ sym split ∙ inv

  pub count_on : (count counts total : ℕ) → counts ≡ cond (is_ok r) (count + 1) count → count + accepted_in (history m (drop k steps)) ≡ total → counts + accepted_in (history after (drop (k + 1) steps)) ≡ total
  count_on count counts total grew inv =
      let rest : ℕ = accepted_in (history after (drop (k + 1) steps)) in
      let split : accepted_in (history m (drop k steps)) ≡ one_if (stepped m (get_or steps k d)).answer (accepted_in (history (stepped m (get_or steps k d)).after (drop (k + 1) steps))) = at_drop_more (λ ss. accepted_in (history m ss)) steps k d within in
      let here : accepted_in (history m (drop k steps)) ≡ cond (is_ok r) (suc rest) rest =
      split ∙ sym (ap (λ (p : Left). one_if p.answer (accepted_in (history p.after (drop (k + 1) steps)))) told) ∙ counted r rest in
      go (is_ok r) grew here
    where
      go : (b : Bool) → counts ≡ cond b (count + 1) count → accepted_in (history m (drop k steps)) ≡ cond b (suc (accepted_in (history after (drop (k + 1) steps)))) (accepted_in (history after (drop (k + 1) steps))) → counts + accepted_in (history after (drop (k + 1) steps)) ≡ total
      go true a b = omega arith
      go false a b = omega arith

same_self : (r : Reply ℕ) → same_reply r r ≡ true
same_self (accepted v) = eq-eqb v v refl
same_self (refused n) = eq-eqb n n refl

alike_self : (q : Sequencing) (steps : List Step) → alike q q steps ≡ true
alike_self q [] = refl
alike_self q (step ∷ steps) = ap (λ b. b && alike (stepped q step).after (stepped q step).after steps) (same_self (stepped q step).answer) ∙ alike_self (stepped q step).after steps

-- two made alike give the same answers
pub alike_twins : (q p : Sequencing) (steps : List Step) → q ≡ p → alike q p steps ≡ true
alike_twins q p steps same = ap (λ x. alike q x steps) (sym same) ∙ alike_self q steps

pub alike_on : (q p : Sequencing) (steps : List Step) (k : ℕ) (d : Step) (a b : Left) (before here : Bool) (end : Bool) → k < length steps → a ≡ stepped q (get_or steps k d) → b ≡ stepped p (get_or steps k d) → here ≡ same_reply a.answer b.answer → (before && alike q p (drop k steps)) ≡ end → ((before && here) && alike a.after b.after (drop (k + 1) steps)) ≡ end
alike_on q p steps k d a b before here end within ta tb same inv =
    let split : alike q p (drop k steps) ≡ (same_reply (stepped q (get_or steps k d)).answer (stepped p (get_or steps k d)).answer && alike (stepped q (get_or steps k d)).after (stepped p (get_or steps k d)).after (drop (k + 1) steps)) = at_drop_more (alike q p) steps k d within in
    let both : Left → Left → Bool = λ x y. same_reply x.answer y.answer && alike x.after y.after (drop (k + 1) steps) in
    and_assoc before here (alike a.after b.after (drop (k + 1) steps))
    ∙ ap (λ x. before && (x && alike a.after b.after (drop (k + 1) steps))) same
    ∙ ap (λ x. before && x) (ap (λ x. both x b) ta ∙ ap (both (stepped q (get_or steps k d))) tb ∙ sym split)
    ∙ inv
