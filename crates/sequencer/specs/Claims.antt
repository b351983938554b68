-- What a sequencer means by its claims, and where a claim ends. Assumes nothing.
use Rattle.std.specs.Prelude.{ℕ, ◌+◌, ◌^◌, Bool, ◌||◌, [], ◌∷◌, ◌==◌, nat_lt}
use Rattle.events.specs.Refusals.{Reply, accepted, unless}
use Rattle.sequencer.specs.Sequencer.{Sequencing}
use Rattle.sequencer.specs.declared.claims.Claims.{Claims}

-- a sequencer of these claims, of an order, with these sequences open
abbrev pub sequencing : Bool → (ℕ → Bool) → Claims → Sequencing
sequencing ordered is_open claims = record { slots = claims.slots; start = claims.start; ordered = ordered; next = claims.next; is_open = is_open }

-- where a claim of n would end; refuses 17, then 18
abbrev pub claim_end : Claims → ℕ → Reply ℕ
claim_end claims n =
    unless ((n == 0 || nat_lt claims.slots n, 17)
    ∷ (nat_lt (2 ^ 62) (claims.next + n), 18)
    ∷ [])
    (accepted (claims.next + n))
