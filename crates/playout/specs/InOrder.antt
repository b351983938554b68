-- The one-after-another run: events pass through all stages, one event after another, each stage in number order.
-- Assumes nothing.
use Rattle.std.specs.Prelude.{ℕ, zero, suc, ◌+◌, ◌^◌, not, ◌||◌, List, [], ◌∷◌, map, length, replicate, ◌==◌, nat_lt, slice_index_or, slice_set}
use Rattle.events.specs.Refusals.{Reply, accepted, unless, left}
use Rattle.bank.specs.Bank.{handled_by, mark_by}
use Rattle.playout.specs.Plan.{Layout}
use Rattle.playout.specs.Reach.{reach_of}
use Rattle.stages.specs.Marks.{shown}
use Rattle.stages.specs.Meaning.{Given, Meaning}
use Rattle.std.specs.List.{range_with_len}

-- the stages and the row of marks while an event passes through
pub record Pass : Type 0 where
  pub stages : List Meaning
  pub row : List ℕ

-- what stage i is given
abbrev pub given : List ℕ → ℕ → List ℕ → ℕ → List ℕ → Given
given masks sequence words i row = record { sequence = sequence; words = words; marks = shown (reach_of masks i) row }

-- stage i handles the event, and its mark enters the row
abbrev pub handling : List ℕ → ℕ → List ℕ → ℕ → Pass → Pass
handling masks sequence words i p = record {
  stages = handled_by p.stages i (given masks sequence words i p.row);
  row = slice_set p.row i (mark_by p.stages i (given masks sequence words i p.row));
}

-- an event has passed the first n stages: the row begins as 0
unfoldable pub passed : List ℕ → ℕ → List ℕ → List Meaning → ℕ → Pass
passed masks sequence words stages zero = record { stages = stages; row = replicate 8 0 }
passed masks sequence words stages (suc i) = handling masks sequence words i (passed masks sequence words stages i)

-- Events are numbered from 0 here: event k has sequence start + k, and the words `words k`.
-- The stages when k events have passed through all of them:
unfoldable pub stages_after : Layout → List Meaning → (ℕ → List ℕ) → ℕ → List Meaning
stages_after l bank words zero = bank
stages_after l bank words (suc k) = (passed l.masks (l.start + k) (words k) (stages_after l bank words k) l.stages).stages

-- and the row of marks that event k got
abbrev pub row_of : Layout → List Meaning → (ℕ → List ℕ) → ℕ → List ℕ
row_of l bank words k = (passed l.masks (l.start + k) (words k) (stages_after l bank words k) l.stages).row

-- and what stage i is given of event k
abbrev pub given_in : Layout → List Meaning → (ℕ → List ℕ) → ℕ → ℕ → Given
given_in l bank words k i = given l.masks (l.start + k) (words k) i (passed l.masks (l.start + k) (words k) (stages_after l bank words k) i).row

-- What the call of the run leaves: its answer, the stages, and the rows of marks, one for each event.
pub record Played : Type 0 where
  pub answer : Reply (Unit {0})
  pub stages : List Meaning
  pub rows : List (List ℕ)

-- It refuses 11 if the bank is not as large as the plan, or there are not as many rows as events;
-- then 18 if the sequences run out.
abbrev pub played_answer : Layout → ℕ → ℕ → ℕ → Reply (Unit {0})
played_answer l size events rows =
    unless ((not (size == l.stages) || not (rows == events), 11) ∷ (nat_lt (2 ^ 62) (l.start + events), 18) ∷ []) (accepted tt)

abbrev pub played : Layout → List Meaning → List (List ℕ) → List (List ℕ) → Played
played l bank events rows =
    let answer : Reply (Unit {0}) = played_answer l (length bank) (length events) (length rows) in
    record {
      answer = answer;
      stages = left answer bank (stages_after l bank (λ k. slice_index_or events k []) (length events));
      rows = left answer rows (map (row_of l bank (λ k. slice_index_or events k [])) (range_with_len 0 (length events)));
    }
