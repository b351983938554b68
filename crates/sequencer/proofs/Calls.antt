-- Accepted calls: what the end of a claim tells, and what is left, from the answer and the open set. Assumes nothing.
use Rattle.std.proofs.Common.{◌≡◌, ℕ, ◌+◌, ◌^◌, ◌≤◌, Bool, not, ◌&&◌, ◌||◌, sym, ap, ◌∙◌, arith}
use Rattle.std.proofs.lemmas.Bool.Decides.{nat_tests}
use Rattle.events.specs.Refusals.{Reply, accepted, left}
use Rattle.sequencer.specs.Claims.{claim_end}
use Rattle.sequencer.specs.Sequencer.{Left, Sequencing, between, claim_answer, claimed, grown, publish_answer, published, shrunk}
use Rattle.sequencer.specs.declared.claims.Claims.{Claims}

-- a claim that has an end has an amount and sequences
pub record Ends (claims : Claims) (n end : ℕ) : Type 0 where
  pub some : 1 ≤ n
  pub fits : n ≤ claims.slots
  pub near : claims.next + n ≤ 2 ^ 62
  pub at : end ≡ claims.next + n

pub claim_ends : (claims : Claims) (n end : ℕ) → accepted end ≡ claim_end claims n → Ends claims n end
claim_ends claims n end e = record { some = grind (arith, nat_tests); fits = grind (arith, nat_tests); near = grind (arith, nat_tests); at = grind (arith, nat_tests) }

module _ (q : Sequencing) where
  pub claim_leaves : (n gate end : ℕ) (more : ℕ → Bool) → claim_answer q n gate ≡ accepted q.next → end ≡ q.next + n → (λ s. q.is_open s || between q.next (q.next + n) s) ≡ more → record { answer = accepted q.next; after = record q { next = end; is_open = more } } ≡ claimed q n gate
  claim_leaves n gate end more answer at set =
      let after : ℕ → (ℕ → Bool) → Left = λ m open1. record { answer = accepted q.next; after = record q { next = m; is_open = open1 } } in
      let by_answer : Reply ℕ → Left = λ r. record { answer = r; after = left r q (grown q n) } in
      ap (λ m. after m more) at ∙ ap (after (q.next + n)) (sym set) ∙ sym (ap by_answer answer)

  pub publish_leaves : (lo hi : ℕ) (fewer : ℕ → Bool) → publish_answer q lo hi ≡ accepted hi → (λ s. q.is_open s && not (between lo hi s)) ≡ fewer → record { answer = accepted hi; after = record q { is_open = fewer } } ≡ published q lo hi
  publish_leaves lo hi fewer answer set =
      let after : (ℕ → Bool) → Left = λ open1. record { answer = accepted hi; after = record q { is_open = open1 } } in
      let by_answer : Reply ℕ → Left = λ r. record { answer = r; after = left r q (shrunk q lo hi) } in
      ap after (sym set) ∙ sym (ap by_answer answer)
