use Rattle.std.proofs.Common.{false, arith, rules}
use Rattle.std.proofs.lemmas.Bool.Decides.{nat_tests}
use Rattle.sequencer.specs.Claims.{sequencing}
use Rattle.sequencer.proofs.Calls.{claim_ends, claim_leaves}
use Rattle.multi.specs.Open.{open_in}
use Rattle.multi.proofs.Windows.{open_more}
use Rattle.multi.proofs.MultiSequencer.claim.Goals as goal

pub returns : goal.returns
returns c =
    let m = c.args.self.now in
    let q = sequencing false (open_in m) m.claims in
    let ends = claim_ends m.claims c.args.n c.in_ok-end.end (search rules) in
    let more = open_more m.claims.slots m.claims.start m.claims.next c.args.n c.in_ok-end.end m.rounds m.claims.some m.claims.begun m.rounded ends.fits ends.at (grind arith) in
    claim_leaves q c.args.n c.args.gate c.in_ok-end.end _ (grind (arith, nat_tests)) ends.at more
