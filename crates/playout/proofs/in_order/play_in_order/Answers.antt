use Rattle.std.proofs.Common.{◌≡◌, ℕ, ◌+◌, ◌≤◌, List, [], map, length, get_or, set, sym, ap, ◌∙◌, add-one, arith}
use Rattle.std.proofs.lemmas.List.Edits.{fill_by_more}
use Rattle.std.proofs.lemmas.List.{get_or-map, length-map}
use Rattle.playout.specs.InOrder.{Pass, passed, row_of, stages_after}
use Rattle.playout.specs.Plan.{layout}
use Rattle.std.specs.List.{range_with_len}
use Rattle.std.proofs.lemmas.List.FromFn.{fill_by_all}
use Rattle.std.proofs.lemmas.Bool.Decides.{nat_tests}
use Rattle.playout.proofs.in_order.play_in_order.Goals as goal

pub loop-k-preserved : goal.loop-k-preserved
unfolding stages_after
loop-k-preserved g c =
    let l = layout c.args.plan.now in
    let bank = g.B.Bank.stages c.args.bank.now in
    let events = c.args.events.now in
    let k = c.loop-k.k in
    let fit = c.in_ok-check_sizes.ensures.fits in
    let words : ℕ → List ℕ = λ n. get_or (map g.E.Event.words events) n [] in
    let event : g.E.Event.words c.index-events-k.result ≡ words k = ap g.E.Event.words c.index-events-k.is ∙ sym (get_or-map g.E.Event.words events k c.index-events-k.result [] (omega arith)) in
    let now : Pass = record { stages = g.B.Bank.stages c.pass.new.bank; row = c.pass.result } in
    let done : now ≡ passed l.masks (l.start + k) (words k) (stages_after l bank words k) l.stages = cc in
    record {
      stages = ap (λ p. p.stages) done ∙ ap (stages_after l bank words) (sym (add-one k));
      rows = λ n h. ap (λ row. get_or (set c.loop-k.rows k row) n []) (ap (λ p. p.row) done) ∙ fill_by_more (row_of l bank words) c.loop-k.rows k [] (omega arith) c.loop-k.invariant.rows n h;
    }

pub returns : goal.returns
returns g c =
    let l = layout c.args.plan.now in
    let bank = g.B.Bank.stages c.args.bank.now in
    let events = map g.E.Event.words c.args.events.now in
    let words : ℕ → List ℕ = λ n. get_or events n [] in
    let few : l.stages ≤ 8 = c.args.plan.now.few in
    let fit = c.in_ok-check_sizes.ensures.fits in
    let long : length events ≡ length c.args.events.now = length-map c.args.events.now g.E.Event.words in
    let all : c.loop-k.k ≡ length events = omega arith in
    let stages : g.B.Bank.stages c.loop-k.bank ≡ stages_after l bank words (length events) = c.loop-k.invariant.stages ∙ ap (stages_after l bank words) all in
    let rows : c.loop-k.rows ≡ map (row_of l bank words) (range_with_len 0 (length events)) = fill_by_all (row_of l bank words) c.loop-k.rows (length events) [] (omega arith) (λ n h. c.loop-k.invariant.rows n (omega arith)) in
    grind (arith, nat_tests, c.size.ensures)
