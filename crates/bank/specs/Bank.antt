-- A bank means the list of its stages; a call goes to the stage of that number alone. Assumes nothing.
use Rattle.std.specs.Prelude.{List, [], ℕ, get_or, set}
use Rattle.stages.specs.Meaning.{Given, Meaning, after, mark_of}

-- what stands where there is no stage: no figures, and mark 0
abbrev pub nobody : Meaning
nobody = record { figures = []; grow = λ old _. old; mark = λ _ _. 0 }

abbrev pub figures_of : List Meaning → ℕ → List ℕ
figures_of stages i = (get_or stages i nobody).figures

-- the stages after stage i has handled what was given
abbrev pub handled_by : List Meaning → ℕ → Given → List Meaning
handled_by stages i g = set stages i (after (get_or stages i nobody) g)

-- the mark that stage i gives for it
abbrev pub mark_by : List Meaning → ℕ → Given → ℕ
mark_by stages i g = mark_of (get_or stages i nobody) g
