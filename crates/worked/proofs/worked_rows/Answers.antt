use Rattle.std.proofs.Common.{◌-◌, ◌^◌, false, cond, refl, ap}
use Rattle.events.specs.Refusals.{accepted, refused}
use Rattle.limits.specs.Capacity.{is_capacity}
use Rattle.sequencer.proofs.Sets.{some_none}
use Rattle.worked.proofs.worked_rows.Goals as goal

pub returns : goal.returns
unfolding is_capacity
returns c = record {
  journal = record { first = refl; second = refl; both = refl };
  packet = record { empty = λ _. refl; full = λ _. refl; long = λ _. refl };
  check = record { last = refl; past = refl };
  air = record { ignored = refl; black = refl; taken = refl; held = refl; resumed = refl; cleared = refl };
  sequencer = record { out = λ _. refl; one = λ _. ap (λ b. cond b (refused 19) (accepted (2 ^ 62 - 1))) (some_none (λ _. false) (2 ^ 62 - 4) (λ s h. refl)) };
}
