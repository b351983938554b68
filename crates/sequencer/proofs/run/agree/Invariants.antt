use Rattle.std.proofs.Common.{◌≡◌, ◌&&◌, drop}
use Rattle.sequencer.specs.Runs.{after_steps, alike}
use Rattle.sequencer.proofs.run.agree.Given as goal

-- What is left of the steps takes both to their ends, and decides with the answers so far.
abbrev pub invariant-loop-step : goal.invariant-loop-step
invariant-loop-step g l =
    let s = g.S.Sequencer.means in
    let t = g.T.Sequencer.means in
    let rest = drop l.step-index l.steps in
    (after_steps (s l.one) rest ≡ after_steps (s l.initial.one) l.steps)
    × (after_steps (t l.other) rest ≡ after_steps (t l.initial.other) l.steps)
    × ((l.same && alike (s l.one) (t l.other) rest) ≡ alike (s l.initial.one) (t l.initial.other) l.steps)
