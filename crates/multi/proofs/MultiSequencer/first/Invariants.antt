use Rattle.std.proofs.Common.{◌≡◌, ◌-◌, false}
use Rattle.sequencer.specs.Claims.{sequencing}
use Rattle.sequencer.specs.Sequencer.{first_open}
use Rattle.multi.specs.Open.{open_in}
use Rattle.multi.proofs.MultiSequencer.first.Given as goal

-- None was found before s.
abbrev pub invariant-loop-s : goal.invariant-loop-s
invariant-loop-s l =
    let q = sequencing false (open_in l.self) l.self.claims in
    first_open q l.from ≡ first_open q l.s

abbrev pub decreases-loop-s : goal.decreases-loop-s
decreases-loop-s l = l.next - l.s
