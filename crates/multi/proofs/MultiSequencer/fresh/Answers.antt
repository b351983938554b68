use Rattle.std.proofs.Common.{ℕ, ◌+◌, ◌*◌, ◌<◌, ◌≤◌, ap, arith}
use Rattle.std.specs.Prelude.{replicate, slice_index}
use Rattle.std.proofs.lemmas.List.{get_or-replicate}
use Rattle.multi.proofs.MultiSequencer.fresh.Goals as goal

-- a round 0 is that of no sequence
none_published : (slots next : ℕ) → slots ≤ 256 → (i : ℕ) → i < slots → slice_index (replicate 256 0) i * slots + i < next + slots
none_published slots next most i h = omega (arith, ap (λ r. r * slots) (get_or-replicate {A = ℕ} 256 i 0 0 (omega arith)))

pub invariant_of-result-clause-rounded : goal.invariant_of-result-clause-rounded
invariant_of-result-clause-rounded c = let claims = c.in_ok-claims.claims in none_published claims.slots claims.next claims.most
