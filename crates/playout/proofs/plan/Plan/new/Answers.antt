use Rattle.std.proofs.Common.{◌≡◌, ◌/◌, ◌^◌, ◌-◌, ◌++◌, eqb, length, drop, replicate, sym, ap, ◌∙◌, subst, arith, rules, tests}
use Rattle.std.proofs.lemmas.Bool.Decides.{nat_tests}
use Rattle.std.proofs.lemmas.List.{drop-replicate}
use Rattle.std.proofs.lemmas.Iterator.{YieldsList-from_slice}
use Rattle.std.proofs.lemmas.Iterator.Consumers.{YieldsList-from_enumerate}
use Rattle.std.proofs.lemmas.Iterator.Search.{all_from_yields_List}
use Rattle.playout.specs.Plan.{lower}
use Rattle.playout.specs.Reach.{Ordered}
use Rattle.playout.proofs.Masks.{lower-is_all, lower_ordered, stored_length}
use Rattle.playout.proofs.plan.Plan.new.Goals.{After-all, After-copy_from_slice}
use Rattle.playout.proofs.plan.Plan.new.Goals as goal

-- the call tells whether the masks are ordered
tested : (c : After-all) → c.all.result ≡ lower 0 c.args.masks.now
tested c =
    all_from_yields_List (λ p. eqb (p.1 / 2 ^ p.0) 0) _ _ c.all.result c.all.ensures.ran
    (YieldsList-from_enumerate (YieldsList-from_slice c.args.masks.now cc) cc)
    (λ x b q k. search (rules, tests))
    ∙ sym (lower-is_all 0 c.args.masks.now)

-- the array is the masks, and 0 where there is no stage
stored : (c : After-copy_from_slice) → c.copy_from_slice.new.self ++ drop (length c.args.masks.now) (replicate 8 0) ≡ c.args.masks.now ++ replicate (8 - length c.args.masks.now) 0
stored c =
    ap (λ xs. xs ++ drop (length c.args.masks.now) (replicate 8 0)) c.copy_from_slice.ensures.after
    ∙ ap (λ xs. c.args.masks.now ++ xs) (drop-replicate (length c.args.masks.now) 8 0)

pub returns-then-not-all : goal.returns-then-not-all
returns-then-not-all c = grind (arith, nat_tests, tested (goal.at.returns-then-not-all c).After-all)

pub invariant_of-result-clause-eight : goal.invariant_of-result-clause-eight
invariant_of-result-clause-eight c =
    ap length (stored (goal.at.invariant_of-result-clause-eight c).After-copy_from_slice) ∙ stored_length c.args.masks.now (omega arith)

pub invariant_of-result-clause-ordered : goal.invariant_of-result-clause-ordered
invariant_of-result-clause-ordered c =
    let low = sym (tested (goal.at.invariant_of-result-clause-ordered c).After-all) ∙ c.if-not-all.false in
    subst Ordered (sym (stored (goal.at.invariant_of-result-clause-ordered c).After-copy_from_slice)) (lower_ordered c.args.masks.now (8 - length c.args.masks.now) low)

pub returns : goal.returns
returns c = grind (arith, nat_tests, tested (goal.at.returns c).After-all, stored (goal.at.returns c).After-copy_from_slice)
