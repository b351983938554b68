-- Worked rows: what the definitions give on each side of a line. Assumes nothing.
use Rattle.std.specs.Prelude.{◌≡◌, ℕ, ◌-◌, ◌^◌, Bool, List, [], ◌∷◌, ◌++◌, take, replicate, slice_index}
use Rattle.events.specs.Refusals.{Reply, accepted, refused}
use Rattle.events.specs.Words.{blank_cue, cue_words, made_packet}
use Rattle.air.specs.Air.{air, air_figures, fresh_air}
use Rattle.cue_stages.specs.Check.{check, check_figures, fresh_check}
use Rattle.sequencer.specs.Sequencer.{Sequencing, claim_answer, fresh}
use Rattle.stages.specs.Journal.{fresh_journal, journal, journal_figures}
use Rattle.stages.specs.Meaning.{Given, Meaning, after, mark_of}

-- an event as a stage receives it, shown no marks
abbrev pub event : ℕ → List ℕ → Given
event sequence words = record { sequence = sequence; words = words; marks = replicate 8 0 }

abbrev pub new_journal : Meaning
new_journal = journal (journal_figures fresh_journal)

-- sequence 0 with words 1 2 3 4, and then sequence 1 with the blank cue
pub record JournalRows : Type 0 where
  pub first : mark_of new_journal (event 0 (1 ∷ 2 ∷ 3 ∷ 4 ∷ [])) ≡ 31810
  pub second : mark_of (after new_journal (event 0 (1 ∷ 2 ∷ 3 ∷ 4 ∷ []))) (event 1 (cue_words blank_cue)) ≡ 923521
  pub both : (after (after new_journal (event 0 (1 ∷ 2 ∷ 3 ∷ 4 ∷ []))) (event 1 (cue_words blank_cue))).figures ≡ 2 ∷ 1909631 ∷ []

-- lengths 0 and 64 are made, and 65 is refused, whatever the bytes are
pub record PacketRows : Type 0 where
  pub empty : (text : List ℕ) → made_packet 0 0 text ≡ accepted (record { channel = 0; length = 0; bytes = replicate 64 0 })
  pub full : (text : List ℕ) → made_packet 15 64 text ≡ accepted (record { channel = 15; length = 64; bytes = take 64 text ++ [] })
  pub long : (text : List ℕ) → made_packet 15 65 text ≡ refused 10

abbrev pub new_check : Meaning
new_check = check (check_figures fresh_check)

-- the last frame of a day, and the one after it
pub record CheckRows : Type 0 where
  pub last : mark_of new_check (event 0 (0 ∷ 0 ∷ 0 ∷ 2159999 ∷ [])) ≡ 0
  pub past : mark_of new_check (event 0 (0 ∷ 0 ∷ 0 ∷ 2160000 ∷ [])) ≡ 3

-- a stage after cues for channel 0, each by its action and its item
abbrev pub after_cues : Meaning → List (ℕ × ℕ) → Meaning
after_cues m [] = m
after_cues m (cue ∷ cues) = after_cues (after m (event 0 (0 ∷ cue.0 ∷ cue.1 ∷ 0 ∷ []))) cues

abbrev pub new_air : Meaning
new_air = air (air_figures fresh_air)

-- what channel 0 shows then
abbrev pub shown_after : List (ℕ × ℕ) → ℕ
shown_after cues = slice_index (after_cues new_air cues).figures 1

-- hold on black is ignored; take 7, hold, resume, clear
pub record AirRows : Type 0 where
  pub ignored : mark_of new_air (event 0 (0 ∷ 1 ∷ 0 ∷ 0 ∷ [])) ≡ 1
  pub black : (after_cues new_air ((1, 0) ∷ [])).figures ≡ replicate 17 0
  pub taken : shown_after ((0, 7) ∷ []) ≡ 15
  pub held : shown_after ((0, 7) ∷ (1, 0) ∷ []) ≡ 16
  pub resumed : shown_after ((0, 7) ∷ (1, 0) ∷ (2, 0) ∷ []) ≡ 15
  pub cleared : shown_after ((0, 7) ∷ (1, 0) ∷ (2, 0) ∷ (3, 0) ∷ []) ≡ 0

abbrev pub claim_by : Reply Sequencing → ℕ → Reply ℕ
claim_by (accepted q) gate = claim_answer q 1 gate
claim_by (refused why) gate = refused why

-- the answer of a fresh sequencer of capacity 4, in order or not, to a claim of 1 with the start as its gate
abbrev pub claim_at : Bool → ℕ → Reply ℕ
claim_at ordered start = claim_by (fresh ordered 4 start) start

-- at the start 2^62 sequences have run out; one before it, one is left
pub record SequencerRows : Type 0 where
  pub out : (ordered : Bool) → claim_at ordered (2 ^ 62) ≡ refused 18
  pub one : (ordered : Bool) → claim_at ordered (2 ^ 62 - 1) ≡ accepted (2 ^ 62 - 1)

pub record WorkedRows : Type 0 where
  pub journal : JournalRows
  pub packet : PacketRows
  pub check : CheckRows
  pub air : AirRows
  pub sequencer : SequencerRows
