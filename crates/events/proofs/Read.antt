-- What was read, where something was. Assumes nothing.
use Rattle.std.proofs.Common.{◌≡◌, ℕ, ◌+◌, ◌<◌, Bool, true, false, cond, leb, List, length, Some, None, take, drop, sym, ap, ◌∙◌, arith, slice_index}
use Rattle.std.proofs.lemmas.List.{get_or-take, get_or-drop}
use Rattle.events.specs.Records.{within}

pub within_some : {A : Type 0} (bytes : List ℕ) (at size : ℕ) (value read : A) → Some read ≡ within bytes at size value → read ≡ value
within_some bytes at size value read e = go (leb (at + size) (length bytes)) e
  where
    go : (b : Bool) → Some read ≡ cond b (Some value) None → read ≡ value
    go true e = cc
    go false e = let z : ◌≡◌ {A = ℕ} 0 1 = cc in absurd (omega arith)

-- where one thing was read, so is any other of the same size
pub within_too : {A B : Type 0} (bytes : List ℕ) (at size : ℕ) (value read : A) (other : B) → Some read ≡ within bytes at size value → Some other ≡ within bytes at size other
within_too bytes at size value read other e = go (leb (at + size) (length bytes)) e
  where
    go : (b : Bool) → Some read ≡ cond b (Some value) None → Some other ≡ cond b (Some other) None
    go true e = cc
    go false e = let z : ◌≡◌ {A = ℕ} 0 1 = cc in absurd (omega arith)

-- byte i of those that were read
pub read_byte : (bytes read : List ℕ) (at size i place : ℕ) → Some read ≡ within bytes at size (take size (drop at bytes)) → i < size → place ≡ at + i → slice_index read i ≡ slice_index bytes place
read_byte bytes read at size i place found h e =
    ap (λ xs. slice_index xs i) (within_some bytes at size (take size (drop at bytes)) read found)
    ∙ get_or-take size (drop at bytes) i 0 h
    ∙ get_or-drop at bytes i 0
    ∙ ap (slice_index bytes) (sym e)
