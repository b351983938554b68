use Rattle.std.proofs.Common.{◌≡◌, List, [], ◌∷◌, length, replicate, refl, rules}
use Rattle.std.specs.List.{FoldsTo}
use Rattle.ring.proofs.Ring.new.Goals.{then-is_ok, else-is_ok}
use Rattle.ring.proofs.Ring.new.Goals as goal

-- a list that calls gave, each of them the same value, is that value at each place
replicate-from_calls : {P A : Type 0} (R : P → A → P → Type 0) (y : A) → ((p : P) (x : A) (q : P) → R p x q → x ≡ y) → (xs : List A) (p q : P) → FoldsTo R p xs q → xs ≡ replicate (length xs) y
replicate-from_calls R y gives [] p q ran = refl
replicate-from_calls R y gives (x ∷ xs) p q (p', call, rest) =
    let here = gives p x p' call in
    let later = replicate-from_calls R y gives xs p' q rest in
    cc

pub returns-clause-events : goal.returns-clause-events
returns-clause-events g c = elim c.if-is_ok.branch [
  | then-is_ok w ↦
      let blank = replicate-from_calls _ g.E.Event.blank (λ p x q call. search rules) w.fill_with.new.self _ _ w.fill_with.ensures.ran.1 in
      search rules
  | else-is_ok w ↦ search rules
]
