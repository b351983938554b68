-- What a stage means: its figures, and two fixed functions of the old figures and of what handle receives. Assumes nothing.
use Rattle.std.specs.Prelude.{ℕ, ◌+◌, ◌%◌, ◌^◌, List}

-- what handle receives: the event by its words
pub record Given : Type 0 where
  pub sequence : ℕ
  pub words : List ℕ
  pub marks : List ℕ

pub record Meaning : Type 0 where
  pub figures : List ℕ
  -- the new figures
  pub grow : List ℕ → Given → List ℕ
  -- the mark that handle gives
  pub mark : List ℕ → Given → ℕ

-- the stage after it has handled what was given
abbrev pub after : Meaning → Given → Meaning
after m g = record { figures = m.grow m.figures g; grow = m.grow; mark = m.mark }

-- the mark that it gives for it
abbrev pub mark_of : Meaning → Given → ℕ
mark_of m g = m.mark m.figures g

-- one more, of a count that wraps at 2^64
abbrev pub one_more : ℕ → ℕ
one_more n = (n + 1) % 2 ^ 64
