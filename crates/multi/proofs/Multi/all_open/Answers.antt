use Rattle.std.proofs.Common.{◌-◌, refl, sym, ◌∙◌, inl, inr, rules, tests, arith}
use Rattle.std.proofs.lemmas.Bool.Decides.{nat_tests}
use Rattle.std.proofs.lemmas.Iterator.{YieldsList-from_range}
use Rattle.std.proofs.lemmas.Iterator.Search.{all_from_yields_List}
use Rattle.sequencer.proofs.Sets.{all_range}
use Rattle.multi.specs.Open.{open_in}
use Rattle.multi.proofs.Windows.{not_all_open}
use Rattle.multi.proofs.Multi.all_open.Goals.{then-lo-hi, else-lo-hi, then-hi-self, else-hi-self}
use Rattle.multi.proofs.Multi.all_open.Goals as goal

pub returns-then-lo-oldest : goal.returns-then-lo-oldest
returns-then-lo-oldest c =
    let n = c.args.hi - c.args.lo in
    let all = all_from_yields_List (open_in c.args.self.now) _ _ c.all.result c.all.ensures.ran (YieldsList-from_range c.args.lo c.args.hi n refl refl) (λ x b q k. search (rules, tests)) in
    elim c.if-lo-hi.branch [
      | then-lo-hi w ↦ grind (arith, nat_tests, all, all_range)
      | else-lo-hi w ↦ elim c.if-hi-self.branch [
        | then-hi-self v ↦ grind (arith, nat_tests)
        | else-hi-self v ↦ grind (arith, nat_tests)
      ]
    ]

pub returns-else-lo-oldest : goal.returns-else-lo-oldest
returns-else-lo-oldest c =
    let m = c.args.self.now in
    let out = not_all_open m.claims.slots m.claims.start m.claims.next m.rounds c.args.lo c.args.hi in
    elim c.if-lo-hi.branch [
      | then-lo-hi w ↦ elim c.if-hi-self.branch [
        | then-hi-self v ↦ c.if-lo-oldest.false ∙ sym (out (inl (grind (arith, nat_tests))))
        | else-hi-self v ↦ c.if-lo-oldest.false ∙ sym (out (inr (grind (arith, nat_tests))))
      ]
      | else-lo-hi w ↦ grind (arith, nat_tests)
    ]
