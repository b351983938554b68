-- Records in a byte string: little-endian numbers, and cues of 16 bytes. A byte past the end reads as 0;
-- whoever reads a record checks first that it is there. Assumes nothing.
use Rattle.std.specs.Prelude.{ℕ, ◌+◌, ◌*◌, cond, List, [], ◌∷◌, length, Some, None, Option, nat_le, slice_index}
use Rattle.events.specs.declared.cue.Cue.{Cue}

-- the number that bytes write, the lowest first
abbrev pub little : List ℕ → ℕ
little [] = 0
little (byte ∷ bytes) = byte + 256 * little bytes

unfoldable pub u32_at : List ℕ → ℕ → ℕ
u32_at bytes at = little (slice_index bytes at ∷ slice_index bytes (at + 1) ∷ slice_index bytes (at + 2) ∷ slice_index bytes (at + 3) ∷ [])

unfoldable pub u64_at : List ℕ → ℕ → ℕ
u64_at bytes at =
    little (slice_index bytes at ∷ slice_index bytes (at + 1) ∷ slice_index bytes (at + 2) ∷ slice_index bytes (at + 3)
    ∷ slice_index bytes (at + 4) ∷ slice_index bytes (at + 5) ∷ slice_index bytes (at + 6) ∷ slice_index bytes (at + 7) ∷ [])

-- channel, action, two bytes that are ignored, item, frame
abbrev pub cue_at : List ℕ → ℕ → Cue
cue_at bytes at = record { channel = slice_index bytes at; action = slice_index bytes (at + 1); item = u32_at bytes (at + 4); frame = u64_at bytes (at + 8) }

-- what is read of a record of this size, if it lies within the bytes
abbrev pub within : {A : Type 0} → List ℕ → ℕ → ℕ → A → Option A
within bytes at size value = cond (nat_le (at + size) (length bytes)) (Some value) None
