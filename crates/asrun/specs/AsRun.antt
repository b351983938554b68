-- The as-run record of a day's cues, as text: what is printed for which bytes. Assumes nothing.
use Rattle.std.specs.Prelude.{◌≡◌, ℕ, ◌*◌, ◌/◌, ◌%◌, ◌<◌, List, [], ◌∷◌, ◌++◌, map, length, get_or, Ok, Err, string_bytes, codes, decimal, Result, String, slice_index, slice_index_or}
use Rattle.asrun.specs.declared.report.Fault.{Fault}
use Rattle.asrun.specs.declared.report.Fault.TheVariants.{CutShort, OutOfMemory}
use Rattle.events.specs.Records.{cue_at}
use Rattle.events.specs.Words.{cue_words}
use Rattle.events.specs.declared.cue.Cue.{Cue}
use Rattle.bank.specs.Bank.{figures_of}
use Rattle.playout.specs.InOrder.{row_of, stages_after}
use Rattle.playout.specs.Plan.{Layout}
use Rattle.air.specs.Air.{air, air_figures, fresh_air}
use Rattle.cue_stages.specs.Check.{check, check_figures, fresh_check}
use Rattle.stages.specs.Journal.{fresh_journal, journal, journal_figures}
use Rattle.stages.specs.Meaning.{Meaning}
use Rattle.stages.specs.Sieve.{sieved}
use Rattle.std.specs.List.{range_with_len, flat_map}
use Rattle.std.specs.declared.alloc.Global.{Global}

-- the records in the bytes, of 16 bytes each
abbrev pub cues_in : List ℕ → List Cue
cues_in bytes = map (λ k. cue_at bytes (16 * k)) (range_with_len 0 (length bytes / 16))

-- Check; Air, under a sieve that tests Check; Journal. Only Air looks upstream.
abbrev pub day_layout : Layout
day_layout = record { start = 0; stages = 3; masks = 0 ∷ 1 ∷ 0 ∷ 0 ∷ 0 ∷ 0 ∷ 0 ∷ 0 ∷ [] }

abbrev pub day_bank : List Meaning
day_bank = check (check_figures fresh_check) ∷ sieved 0 (air (air_figures fresh_air)) ∷ journal (journal_figures fresh_journal) ∷ []

-- a line of numbers: one space between them, a line feed at its end
abbrev pub line : List ℕ → List ℕ
line [] = 10 ∷ []
line (n ∷ []) = decimal n ++ 10 ∷ []
line (n ∷ m ∷ ns) = decimal n ++ 32 ∷ line (m ∷ ns)

-- one line a cue: its sequence, its words, and the marks of the three stages
abbrev pub cue_line : ℕ → List ℕ → List ℕ → List ℕ
cue_line sequence words row =
    line (sequence ∷ slice_index words 0 ∷ slice_index words 1 ∷ slice_index words 2 ∷ slice_index words 3 ∷ slice_index row 0 ∷ slice_index row 1 ∷ slice_index row 2 ∷ [])

-- figures, each after a space
abbrev pub figure_fields : List ℕ → List ℕ
figure_fields figures = flat_map (λ n. 32 ∷ decimal n) figures

-- one line a stage: its number and its figures
abbrev pub stage_line : ℕ → List ℕ → List ℕ
stage_line number figures = codes "stage " ++ (decimal number ++ (figure_fields figures ++ 10 ∷ []))

-- the lines of the first n cues, by their words and their rows of marks
abbrev pub cue_lines : List (List ℕ) → List (List ℕ) → ℕ → List ℕ
cue_lines cues rows n = flat_map (λ k. cue_line k (slice_index_or cues k []) (slice_index_or rows k [])) (range_with_len 0 n)

-- The record of cues that are played one after another from sequence 0: their lines, then those of the stages.
abbrev pub record_of : List (List ℕ) → List ℕ
record_of cues =
    let words : ℕ → List ℕ = λ k. get_or cues k [] in
    let rows : List (List ℕ) = map (row_of day_layout day_bank words) (range_with_len 0 (length cues)) in
    let stages : List Meaning = stages_after day_layout day_bank words (length cues) in
    cue_lines cues rows (length cues)
    ++ (stage_line 0 (figures_of stages 0) ++ (stage_line 1 (figures_of stages 1) ++ stage_line 2 (figures_of stages 2)))

-- a fault in words
abbrev pub fault_text : Fault → List ℕ
fault_text (CutShort whole rest) = codes "record " ++ (decimal whole ++ (codes " is cut short: " ++ (decimal rest ++ codes " of 16 bytes")))
fault_text OutOfMemory = codes "out of memory"

-- What is told of an input: that its last record is cut short, or else its record, if memory suffices.
abbrev pub Tells : List ℕ → Result (String Global) Fault → Type 0
Tells input (Ok text) = (length input % 16 ≡ 0) × (string_bytes text ≡ record_of (map cue_words (cues_in input)))
Tells input (Err (CutShort whole rest)) = (whole ≡ length input / 16) × (rest ≡ length input % 16) × (0 < rest)
Tells input (Err OutOfMemory) = length input % 16 ≡ 0
