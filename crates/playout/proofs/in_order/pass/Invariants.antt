use Rattle.std.proofs.Common.{◌≡◌}
use Rattle.playout.specs.InOrder.{Pass, passed}
use Rattle.playout.specs.Plan.{layout}
use Rattle.playout.proofs.in_order.pass.Given as goal

-- The event has passed the first i stages.
abbrev pub invariant-loop-i : goal.invariant-loop-i
invariant-loop-i g l =
    let now : Pass = record { stages = g.B.Bank.stages l.bank; row = l.row } in
    now ≡ passed (layout l.plan).masks l.sequence (g.E.Event.words l.event) (g.B.Bank.stages l.initial.bank) l.i
