-- A sieve over a stage: it lets through only the events that the tested stage marked 0. Assumes nothing.
use Rattle.std.specs.Prelude.{ℕ, Bool, cond, ◌||◌, ◌==◌, nat_lt, slice_index}
use Rattle.stages.specs.Meaning.{Given, Meaning}

-- The event passes if the tested stage's mark is 0, or if there is no such stage.
abbrev pub passes : ℕ → Given → Bool
passes tested g = nat_lt 7 tested || slice_index g.marks tested == 0

-- What passes goes to the stage below; of anything else nothing below changes, and the mark is 0.
abbrev pub sieved : ℕ → Meaning → Meaning
sieved tested below = record {
  figures = below.figures;
  grow = λ old g. cond (passes tested g) (below.grow old g) old;
  mark = λ old g. cond (passes tested g) (below.mark old g) 0;
}
