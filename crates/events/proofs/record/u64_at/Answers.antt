use Rattle.std.proofs.Common.{◌≡◌, ℕ, ◌+◌, ◌<◌, Some, take, drop, ap, ◌∙◌, arith, slice_index}
use Rattle.events.specs.Records.{u64_at, within}
use Rattle.events.proofs.Read.{within_too, read_byte}
use Rattle.events.proofs.record.u64_at.Goals as goal

pub returns : goal.returns
unfolding u64_at
returns c =
    let bytes = c.args.bytes.now in
    let at = c.args.at in
    let read = c.in_ok-array_at.field-0 in
    let found : Some read ≡ within bytes at 8 (take 8 (drop at bytes)) = c.in_ok-array_at.ensures in
    let byte : (i place : ℕ) → i < 8 → place ≡ at + i → slice_index read i ≡ slice_index bytes place = λ i place h e. read_byte bytes read at 8 i place found h e in
    let value : c.from_le_bytes.result ≡ u64_at bytes at =
    omega (arith, c.from_le_bytes.ensures, byte 0 at (omega arith) (omega arith), byte 1 (at + 1) (omega arith) (omega arith), byte 2 (at + 2) (omega arith) (omega arith), byte 3 (at + 3) (omega arith) (omega arith), byte 4 (at + 4) (omega arith) (omega arith), byte 5 (at + 5) (omega arith) (omega arith), byte 6 (at + 6) (omega arith) (omega arith), byte 7 (at + 7) (omega arith) (omega arith)) in
    within_too bytes at 8 (take 8 (drop at bytes)) read c.from_le_bytes.result found ∙ ap (within bytes at 8) value
