use Rattle.std.proofs.Common.{sym, ap, ◌∙◌, add-one}
use Rattle.playout.specs.InOrder.{handling, passed}
use Rattle.playout.proofs.in_order.pass.Goals as goal

pub loop-i-preserved : goal.loop-i-preserved
unfolding passed
loop-i-preserved g c =
    let masks = c.args.plan.now.masks in
    let words = g.E.Event.words c.args.event.now in
    rw (c.pass_stage.ensures.grows, c.pass_stage.ensures.mark)
    (ap (handling masks c.args.sequence words c.loop-i.i) c.loop-i.invariant
    ∙ sym (ap (passed masks c.args.sequence words (g.B.Bank.stages c.args.bank.now)) (add-one c.loop-i.i)))
