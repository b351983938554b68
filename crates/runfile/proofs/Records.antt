-- Records one after another: what is left to read begins with one of them. Assumes nothing.
use Rattle.std.proofs.Common.{◌≡◌, ℕ, suc, ◌+◌, ◌-◌, ◌*◌, ◌<◌, List, set, refl, add-one, arith}
use Rattle.runfile.specs.EventRecords.{checked_from}
use Rattle.runfile.specs.Faults.{Read, and_then}
use Rattle.runfile.specs.Lineup.{lineup_from, stage_at}
use Rattle.runfile.specs.declared.header.EventKind.{EventKind}
use Rattle.runfile.specs.declared.lineup.Lineup.{Lineup}

pub lineup_step : (file : List ℕ) (kind : EventKind) (start i n : ℕ) (l : Lineup) → i < n → lineup_from file kind start (n - i) i l ≡ and_then (stage_at file kind l.masks i (start + 4 * i)) (λ r. lineup_from file kind start (n - (i + 1)) (i + 1) (record { tasks = set l.tasks i r.task; masks = set l.masks i r.mask }))
unfolding lineup_from
lineup_step file kind start i n l some = let less : n - i ≡ suc (n - (i + 1)) = omega arith in rw (less, add-one i) refl

pub checked_step : {E : Type 0} (decoded : List ℕ → ℕ → Read E) (size : ℕ) (file : List ℕ) (start k n : ℕ) → k < n → checked_from decoded size file start (n - k) k ≡ and_then (decoded file (start + k * size)) (λ _. checked_from decoded size file start (n - (k + 1)) (k + 1))
unfolding checked_from
checked_step decoded size file start k n some = let less : n - k ≡ suc (n - (k + 1)) = omega arith in rw (less, add-one k) refl
