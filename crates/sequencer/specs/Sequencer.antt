-- What a sequencer means, and what each of its calls answers and does. Assumes nothing.
use Rattle.std.specs.Prelude.{ℕ, zero, suc, ◌+◌, ◌-◌, ◌^◌, Bool, true, false, cond, not, ◌&&◌, ◌||◌, [], ◌∷◌, ◌==◌, nat_le, nat_lt}
use Rattle.limits.specs.Capacity.{is_capacity}
use Rattle.events.specs.Refusals.{Reply, accepted, left, unless}

-- capacity, start, whether publishing is in order, the first unclaimed sequence, and which sequences are open,
-- that is, claimed and not published
pub record Sequencing : Type 0 where
  pub slots : ℕ
  pub start : ℕ
  pub ordered : Bool
  pub next : ℕ
  pub is_open : ℕ → Bool

-- s is one of from to below upto
abbrev pub between : ℕ → ℕ → ℕ → Bool
between from upto s = nat_le from s && nat_lt s upto

-- some sequence below n is in the set
unfoldable pub some_below : (ℕ → Bool) → ℕ → Bool
some_below set zero = false
some_below set (suc n) = set n || some_below set n

-- the n sequences from lo on are all in the set
unfoldable pub all_from : (ℕ → Bool) → ℕ → ℕ → Bool
all_from set lo zero = true
all_from set lo (suc n) = set (lo + n) && all_from set lo n

-- the least of the n sequences from s on that is in the set, or else s + n
unfoldable pub least_from : (ℕ → Bool) → ℕ → ℕ → ℕ
least_from set s zero = s
least_from set s (suc n) = cond (set s) s (least_from set (suc s) n)

-- one that nobody has claimed from: nothing is open
abbrev pub unclaimed : Bool → ℕ → ℕ → Sequencing
unclaimed ordered slots start = record { slots = slots; start = start; ordered = ordered; next = start; is_open = λ _. false }

-- a fresh one: nothing is open; making it refuses 3, then 7
abbrev pub fresh : Bool → ℕ → ℕ → Reply Sequencing
fresh ordered slots start =
    unless ((not (is_capacity slots), 3) ∷ (nat_lt (2 ^ 62) start, 7) ∷ [])
    (accepted (record { slots = slots; start = start; ordered = ordered; next = start; is_open = λ _. false }))

-- what a call answers, and what it leaves
pub record Left : Type 0 where
  pub answer : Reply ℕ
  pub after : Sequencing

-- Claim of n with a gate refuses 17, then 18, then 19: no place past the gate, or an open sequence whose slot would be taken.
abbrev pub claim_answer : Sequencing → ℕ → ℕ → Reply ℕ
claim_answer q n gate =
    unless ((n == 0 || nat_lt q.slots n, 17)
    ∷ (nat_lt (2 ^ 62) (q.next + n), 18)
    ∷ (nat_lt (gate + q.slots) (q.next + n) || some_below q.is_open (q.next + n - q.slots), 19)
    ∷ [])
    (accepted q.next)

abbrev pub grown : Sequencing → ℕ → Sequencing
grown q n = record {
  slots = q.slots;
  start = q.start;
  ordered = q.ordered;
  next = q.next + n;
  is_open = λ s. q.is_open s || between q.next (q.next + n) s;
}

abbrev pub claimed : Sequencing → ℕ → ℕ → Left
claimed q n gate = record { answer = claim_answer q n gate; after = left (claim_answer q n gate) q (grown q n) }

-- Publish from lo to hi (exclusive) refuses 25 unless lo is below hi, all of them are open, and, in order, lo is the least open.
abbrev pub publish_answer : Sequencing → ℕ → ℕ → Reply ℕ
publish_answer q lo hi =
    unless ((nat_le hi lo || not (all_from q.is_open lo (hi - lo)) || (q.ordered && some_below q.is_open lo), 25) ∷ []) (accepted hi)

abbrev pub shrunk : Sequencing → ℕ → ℕ → Sequencing
shrunk q lo hi = record {
  slots = q.slots;
  start = q.start;
  ordered = q.ordered;
  next = q.next;
  is_open = λ s. q.is_open s && not (between lo hi s);
}

abbrev pub published : Sequencing → ℕ → ℕ → Left
published q lo hi = record { answer = publish_answer q lo hi; after = left (publish_answer q lo hi) q (shrunk q lo hi) }

-- First from a number: the least open sequence not below it, or next if there is none.
abbrev pub first_open : Sequencing → ℕ → ℕ
first_open q from = cond (nat_lt from q.next) (least_from q.is_open from (q.next - from)) q.next
