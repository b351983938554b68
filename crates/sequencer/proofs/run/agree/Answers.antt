use Rattle.std.proofs.Common.{arith, rules}
use Rattle.events.specs.Refusals.{reply}
use Rattle.std.proofs.lemmas.Grind.{common_steps}
use Rattle.sequencer.specs.Sequencer.{Left}
use Rattle.sequencer.specs.declared.run.Step.TheVariants.{Claim}
use Rattle.sequencer.proofs.OpenSets.{twins_same}
use Rattle.sequencer.proofs.Stepping.{after_on, alike_on, alike_twins}
use Rattle.sequencer.proofs.run.agree.Goals as goal

pub loop-step-preserved : goal.loop-step-preserved
loop-step-preserved g c =
    let q = g.S.Sequencer.means c.loop-step.one in
    let p = g.T.Sequencer.means c.loop-step.other in
    let steps = c.args.steps.now in
    let k = c.loop-step.step-index in
    let a : Left = record { answer = reply c.take_step.result; after = g.S.Sequencer.means c.take_step.new.sequencer } in
    let b : Left = record { answer = reply c.take_step-in-loop-step.result; after = g.T.Sequencer.means c.take_step-in-loop-step.new.sequencer } in (
      after_on q steps k (Claim 0 0) c.take_step.result a.after (omega arith) c.take_step.ensures _ c.loop-step.invariant.0,
      after_on p steps k (Claim 0 0) c.take_step-in-loop-step.result b.after (omega arith) c.take_step-in-loop-step.ensures _ c.loop-step.invariant.1,
      alike_on q p steps k (Claim 0 0) a b _ _ _ (omega arith) c.take_step.ensures c.take_step-in-loop-step.ensures (search rules) c.loop-step.invariant.2,
    )

pub returns-clause-twins : goal.returns-clause-twins
returns-clause-twins g c t = grind (arith, common_steps, alike_twins _ _ c.args.steps.now (twins_same _ _ t))
