use Rattle.std.proofs.Common.{◌≡◌, ◌++◌, take, string_bytes}
use Rattle.asrun.specs.AsRun.{figure_fields}
use Rattle.asrun.proofs.report.put_figures.Given as goal

-- The first k figures are written.
abbrev pub invariant-loop-k : goal.invariant-loop-k
invariant-loop-k g l = string_bytes l.out ≡ string_bytes l.initial.out ++ figure_fields (take l.k (g.F.Figures.figures l.reported))
