-- That a packet has few words, which its law cites: an `impl` may cite of its own crate only what stands in specs/. Lemmas, with
-- their proofs; nothing to believe. Assumes nothing.
use Rattle.std.specs.Prelude.{ℕ, ◌≤◌, List, ◌∷◌, length, min, take}
use Rattle.std.proofs.Common.{arith}
use Rattle.std.proofs.lemmas.List.{length-take}
use Rattle.events.specs.Words.{packet_words}
use Rattle.events.specs.declared.packet.Packet.{Packet}

pub words_few : (a b n : ℕ) (bytes : List ℕ) → n ≤ 64 → length (a ∷ b ∷ take n bytes) ≤ 66
words_few a b n bytes h = omega (arith, length-take n bytes)

pub packet_few : (p : Packet) → length (packet_words p) ≤ 66
packet_few p = words_few (min p.channel 15) (min p.length 64) (min p.length 64) p.bytes (omega arith)
