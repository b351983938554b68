use Rattle.std.proofs.Common.{◌≡◌, ℕ, ◌<◌, [], map, get_or}
use Rattle.playout.specs.InOrder.{row_of, stages_after}
use Rattle.playout.specs.Plan.{layout}
use Rattle.playout.proofs.in_order.play_in_order.Given as goal

-- The first k events have passed, and their rows are written.
abbrev pub invariant-loop-k : goal.invariant-loop-k
invariant-loop-k g l =
    let words = (λ (n : ℕ). get_or (map g.E.Event.words l.events) n []) in
    let bank = g.B.Bank.stages l.initial.bank in
    record {
      stages : g.B.Bank.stages l.bank ≡ stages_after (layout l.plan) bank words l.k;
      rows : (n : ℕ) → n < l.k → get_or l.rows n [] ≡ row_of (layout l.plan) bank words n;
    }
