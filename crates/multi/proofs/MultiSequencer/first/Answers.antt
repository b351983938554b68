use Rattle.std.proofs.Common.{◌≡◌, max, false, sym, ap, ◌∙◌, arith}
use Rattle.multi.specs.Open.{oldest_in, open_in}
use Rattle.multi.specs.Within.{open_below}
use Rattle.sequencer.specs.Claims.{sequencing}
use Rattle.sequencer.specs.Sequencer.{first_open}
use Rattle.sequencer.proofs.Sets.{first_from, first_here, first_on}
use Rattle.multi.proofs.MultiSequencer.first.Goals as goal

pub loop-s-init : goal.loop-s-init
loop-s-init c =
    let m = c.args.self.now in
    let q = sequencing false (open_in m) m.claims in
    let at : max c.args.from (oldest_in m) ≡ c.max-s.result = omega arith in
    first_from q c.args.from (oldest_in m) (omega arith) (open_below m.claims.slots m.claims.start m.claims.next m.rounds) ∙ ap (first_open q) at

pub loop-s-preserved : goal.loop-s-preserved
loop-s-preserved c =
    let m = c.args.self.now in
    c.loop-s.invariant ∙ first_on (sequencing false (open_in m) m.claims) c.loop-s.s (omega arith) (sym c.if-is_open.ensures)

pub returns-then-is_open : goal.returns-then-is_open
returns-then-is_open c =
    let m = c.args.self.now in
    sym (c.loop-s.invariant ∙ first_here (sequencing false (open_in m) m.claims) c.loop-s.s (omega arith) (sym c.if-is_open.ensures))
