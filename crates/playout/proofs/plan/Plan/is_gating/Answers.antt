use Rattle.std.proofs.Common.{not, take, sym, ap, ◌∙◌, arith, rules, tests}
use Rattle.std.proofs.lemmas.Iterator.{YieldsList-from_slice}
use Rattle.std.proofs.lemmas.Iterator.Search.{any_from_yields_List}
use Rattle.stages.specs.Marks.{names}
use Rattle.playout.proofs.Gatings.{in_mask-is_any}
use Rattle.playout.proofs.plan.Plan.is_gating.Goals as goal

pub returns : goal.returns
returns c =
    let p = c.args.self.now in
    let any = any_from_yields_List (λ mask. names mask c.args.j) _ _ _ c.any.ensures.ran (YieldsList-from_slice (take p.stages p.masks) (grind arith)) (λ x b q k. search (rules, tests)) in
    let same = in_mask-is_any p.masks c.args.j p.stages (omega arith) in
    ap not (any ∙ sym same)
