use Rattle.std.proofs.Common.{◌-◌, refl, ◌∙◌, rules, tests, arith}
use Rattle.std.proofs.lemmas.Iterator.{YieldsList-from_range}
use Rattle.std.proofs.lemmas.Iterator.Search.{any_from_yields_List}
use Rattle.sequencer.proofs.Sets.{some_range}
use Rattle.multi.specs.Open.{open_in}
use Rattle.multi.specs.Within.{open_below}
use Rattle.multi.proofs.Multi.any_open_below.Goals as goal

pub returns : goal.returns
returns c =
    let m = c.args.self.now in
    let from = c.oldest.result in
    any_from_yields_List (open_in m) _ _ _ c.any.ensures.ran (YieldsList-from_range from c.args.floor (c.args.floor - from) refl refl) (λ x b q k. search (rules, tests))
    ∙ some_range (open_in m) from c.args.floor (λ s h. open_below m.claims.slots m.claims.start m.claims.next m.rounds s (omega arith))
