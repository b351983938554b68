use Rattle.std.proofs.Common.{◌-◌, false, length, ap, ◌∙◌, arith}
use Rattle.std.proofs.lemmas.Bool.Decides.{nat_tests}
use Rattle.sequencer.specs.Claims.{sequencing}
use Rattle.sequencer.proofs.Calls.{publish_leaves}
use Rattle.multi.specs.Open.{open_in}
use Rattle.multi.proofs.Windows.{after_length, open_fewer, rounds_left}
use Rattle.multi.proofs.MultiSequencer.publish.Goals as goal

pub invariant_of-self : goal.invariant_of-self
invariant_of-self c =
    let m = c.args.self.now in
    record {
      table = ap length c.publish_rounds.ensures ∙ after_length m.claims.slots m.rounds c.args.lo (c.args.hi - c.args.lo) ∙ m.table;
      rounded = rounds_left m.claims.slots m.claims.start m.claims.next c.args.lo c.args.hi m.rounds _ m.claims.some (omega (arith, m.table, m.claims.most)) c.if-not-all_open.ensures c.publish_rounds.ensures m.rounded;
    }

pub returns : goal.returns
returns c =
    let m = c.args.self.now in
    let set = open_fewer m.claims.slots m.claims.start m.claims.next c.args.lo c.args.hi m.rounds _ m.claims.some (omega (arith, m.table, m.claims.most)) c.if-not-all_open.ensures c.publish_rounds.ensures in
    publish_leaves (sequencing false (open_in m) m.claims) c.args.lo c.args.hi _ (grind (arith, nat_tests)) set
