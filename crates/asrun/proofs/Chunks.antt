-- The cues of the records in the bytes, cut into chunks of 16. Assumes nothing.
use Rattle.std.proofs.Common.{◌≡◌, ℕ, zero, suc, ◌+◌, ◌*◌, ◌<◌, List, map, take, drop, sym, refl, ap, ◌∙◌, slice_index, add-zero, lit<, arith}
use Rattle.std.proofs.lemmas.List.{get_or-take, get_or-drop, drop-drop}
use Rattle.std.specs.List.{range_with_len}
use Rattle.std.specs.Simd.{first_chunks}
use Rattle.events.specs.Records.{cue_at, u32_at, u64_at}

byte : (bytes : List ℕ) (at i place : ℕ) → i < 16 → place ≡ at + i → slice_index (take 16 (drop at bytes)) i ≡ slice_index bytes place
byte bytes at i place h e = get_or-take 16 (drop at bytes) i 0 h ∙ get_or-drop at bytes i 0 ∙ ap (slice_index bytes) (sym e)

chunk_cue : (bytes : List ℕ) (at : ℕ) → cue_at (take 16 (drop at bytes)) 0 ≡ cue_at bytes at
unfolding u32_at u64_at
chunk_cue bytes at =
    let same = byte bytes at in
    rw (
      same 0 at (lit< tt) (sym (add-zero at)),
      same 1 (at + 1) (lit< tt) refl,
      same 4 (at + 4) (lit< tt) refl,
      same 5 (at + 4 + 1) (lit< tt) (omega arith),
      same 6 (at + 4 + 2) (lit< tt) (omega arith),
      same 7 (at + 4 + 3) (lit< tt) (omega arith),
      same 8 (at + 8) (lit< tt) refl,
      same 9 (at + 8 + 1) (lit< tt) (omega arith),
      same 10 (at + 8 + 2) (lit< tt) (omega arith),
      same 11 (at + 8 + 3) (lit< tt) (omega arith),
      same 12 (at + 8 + 4) (lit< tt) (omega arith),
      same 13 (at + 8 + 5) (lit< tt) (omega arith),
      same 14 (at + 8 + 6) (lit< tt) (omega arith),
      same 15 (at + 8 + 7) (lit< tt) (omega arith),
    ) refl

pub chunks_cues : (bytes : List ℕ) (n k : ℕ) → map (λ chunk. cue_at chunk 0) (first_chunks 16 n (drop (16 * k) bytes)) ≡ map (λ k. cue_at bytes (16 * k)) (range_with_len k n)
chunks_cues bytes zero k = refl
chunks_cues bytes (suc n) k =
    let next : drop 16 (drop (16 * k) bytes) ≡ drop (16 * (k + 1)) bytes = drop-drop 16 (16 * k) bytes ∙ ap (λ n. drop n bytes) (omega arith) in
    rw (next, chunk_cue bytes (16 * k), chunks_cues bytes n (k + 1)) refl
