-- Which sequences are open by the rounds that a sequencer keeps, one a slot. Assumes nothing.
use Rattle.std.specs.Prelude.{ℕ, zero, suc, ◌+◌, ◌-◌, ◌/◌, ◌%◌, max, Bool, not, ◌&&◌, List, ◌==◌, slice_index, slice_set}
use Rattle.sequencer.specs.Sequencer.{between}

-- the number that publishing s leaves in its slot
abbrev pub round_of : ℕ → ℕ → ℕ
round_of slots s = s / slots + 1

-- the first sequence that can be open: no more than a ring's worth lies below next
abbrev pub oldest : ℕ → ℕ → ℕ → ℕ
oldest slots start next = max start (next - slots)

-- s is open while another number stands in its slot
abbrev pub open_by : ℕ → ℕ → ℕ → List ℕ → ℕ → Bool
open_by slots start next rounds s = between (oldest slots start next) next s && not (slice_index rounds (s % slots) == round_of slots s)

-- the rounds when n sequences from lo on have been published
unfoldable pub rounds_after : ℕ → List ℕ → ℕ → ℕ → List ℕ
rounds_after slots rounds lo zero = rounds
rounds_after slots rounds lo (suc n) = slice_set (rounds_after slots rounds lo n) ((lo + n) % slots) (round_of slots (lo + n))
