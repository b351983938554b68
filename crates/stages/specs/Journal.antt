-- Journal, for events of any kind: it folds all that it handles into one number. Assumes nothing.
use Rattle.std.specs.Prelude.{ℕ, ◌+◌, ◌*◌, ◌%◌, ◌^◌, List, [], ◌∷◌, slice_index}
use Rattle.stages.specs.Meaning.{Given, Meaning, one_more}
use Rattle.stages.specs.declared.journal.Journal.{Journal}

abbrev pub folded : ℕ → ℕ → ℕ
folded c w = (31 * c + w) % 2 ^ 32

-- c with these numbers folded in, one after another
abbrev pub folded_all : ℕ → List ℕ → ℕ
folded_all c [] = c
folded_all c (w ∷ ws) = folded_all (folded c w) ws

-- the code of an event: its sequence and then its words, from 0
abbrev pub code : Given → ℕ
code g = folded_all 0 (g.sequence ∷ g.words)

-- Its figures are the events handled, and the codes of all of them folded together.
abbrev pub journal : List ℕ → Meaning
journal figures = record {
  figures = figures;
  grow = λ old g. one_more (slice_index old 0) ∷ folded (slice_index old 1) (code g) ∷ [];
  mark = λ _ g. code g;
}

abbrev pub fresh_journal : Journal
fresh_journal = record { handled = 0; digest = 0 }

abbrev pub journal_figures : Journal → List ℕ
journal_figures s = s.handled ∷ s.digest ∷ []
