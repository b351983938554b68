use Rattle.std.proofs.Common.{◌≡◌, ◌+◌, ◌≤◌, drop}
use Rattle.sequencer.specs.Runs.{accepted_in, after_steps, history}
use Rattle.sequencer.proofs.run.take_steps.Given as goal

-- What is left of the steps takes the sequencer and the count to their ends.
abbrev pub invariant-loop-step : goal.invariant-loop-step
invariant-loop-step g l =
    let means = g.S.Sequencer.means in
    let rest = drop l.step-index l.steps in
    (after_steps (means l.sequencer) rest ≡ after_steps (means l.initial.sequencer) l.steps)
    × (l.accepted + accepted_in (history (means l.sequencer) rest) ≡ accepted_in (history (means l.initial.sequencer) l.steps))
    × (l.accepted ≤ l.step-index)
