-- The words that a cue and a packet mean, the blank ones, and the making of a packet. Assumes nothing.
use Rattle.std.specs.Prelude.{ℕ, ◌-◌, min, cond, ◌||◌, List, [], ◌∷◌, ◌++◌, take, replicate, nat_lt}
use Rattle.events.specs.Refusals.{Reply, accepted, refused}
use Rattle.events.specs.declared.cue.Cue.{Cue}
use Rattle.events.specs.declared.packet.Packet.{Packet}

abbrev pub cue_words : Cue → List ℕ
cue_words c = c.channel ∷ c.action ∷ c.item ∷ c.frame ∷ []

abbrev pub blank_cue : Cue
blank_cue = record { channel = 0; action = 0; item = 0; frame = 0 }

-- Unchecked, a channel above 15 counts as 15 and a length above 64 as 64.
abbrev pub packet_words : Packet → List ℕ
packet_words p = min p.channel 15 ∷ min p.length 64 ∷ take (min p.length 64) p.bytes

abbrev pub blank_packet : Packet
blank_packet = record { channel = 0; length = 0; bytes = replicate 64 0 }

-- The first bytes of the text, as many as the length, and 0 from there on.
abbrev pub made_packet : ℕ → ℕ → List ℕ → Reply Packet
made_packet channel length text =
    cond (nat_lt 15 channel || nat_lt 64 length) (refused 10)
    (accepted (record { channel = channel; length = length; bytes = take length text ++ replicate (64 - length) 0 }))
