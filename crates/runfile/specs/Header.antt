-- The header of a run file. Fields are 32-bit numbers, and the start a 64-bit one. Assumes nothing.
use Rattle.std.specs.Prelude.{ℕ, ◌+◌, ◌*◌, ◌^◌, cond, not, ◌||◌, List, length, ◌==◌, nat_lt}
use Rattle.events.specs.Records.{u32_at, u64_at}
use Rattle.events.specs.Refusals.{Reply, accepted, refused}
use Rattle.limits.specs.Capacity.{is_capacity}
use Rattle.runfile.specs.Faults.{Read, and_then, bad, good, unless_bad}
use Rattle.runfile.specs.declared.header.EventKind.{EventKind}
use Rattle.runfile.specs.declared.header.EventKind.TheVariants.{Cues, Packets}
use Rattle.runfile.specs.declared.header.Header.{Header}
use Rattle.runfile.specs.declared.header.Section.{Section}
use Rattle.runfile.specs.declared.header.SequencerKind.{SequencerKind}
use Rattle.runfile.specs.declared.header.SequencerKind.TheVariants.{Single, Multi}

-- a kind's number: 1 cues, 2 packets
abbrev pub event_kind : ℕ → Reply EventKind
event_kind n = cond (n == 1) (accepted Cues) (cond (n == 2) (accepted Packets) (refused 2))

-- a sequencer's number: 1 single, 2 multi
abbrev pub sequencer_kind : ℕ → Reply SequencerKind
sequencer_kind n = cond (n == 1) (accepted Single) (cond (n == 2) (accepted Multi) (refused 5))

-- 48 to 65,536 bytes
abbrev pub sized : List ℕ → Read (Unit {0})
sized file = unless_bad (nat_lt (length file) 48 || nat_lt 65536 (length file)) 1 0 (good tt)

-- byte 0: 1 cues, 2 packets
abbrev pub kind_of : List ℕ → Read EventKind
kind_of file = cond (u32_at file 0 == 1) (good Cues) (cond (u32_at file 0 == 2) (good Packets) (bad 2 0))

-- byte 4
abbrev pub capacity_of : List ℕ → Read ℕ
capacity_of file = unless_bad (not (is_capacity (u32_at file 4))) 3 4 (good (u32_at file 4))

-- byte 8: 1 to 8
abbrev pub stage_count_of : List ℕ → Read ℕ
stage_count_of file = unless_bad (u32_at file 8 == 0 || nat_lt 8 (u32_at file 8)) 4 8 (good (u32_at file 8))

-- byte 36: 1 single, 2 multi
abbrev pub sequencer_of : List ℕ → Read SequencerKind
sequencer_of file = cond (u32_at file 36 == 1) (good Single) (cond (u32_at file 36 == 2) (good Multi) (bad 5 36))

-- how many producers a sequencer takes
abbrev pub most_producers : SequencerKind → ℕ
most_producers Single = 1
most_producers Multi = 8

-- byte 12: 1 to 8, and 1 with the single-producer sequencer
abbrev pub producers_of : List ℕ → SequencerKind → Read ℕ
producers_of file sequencer = unless_bad (u32_at file 12 == 0 || nat_lt (most_producers sequencer) (u32_at file 12)) 6 12 (good (u32_at file 12))

-- byte 40
abbrev pub start_of : List ℕ → Read ℕ
start_of file = unless_bad (nat_lt (2 ^ 62) (u64_at file 40)) 7 40 (good (u64_at file 40))

-- a section of so many records of a size, whose offset stands at a place: it begins at byte 48 or later, and ends within
-- the file
abbrev pub section_of : List ℕ → ℕ → ℕ → ℕ → Read Section
section_of file place count size =
    unless_bad (nat_lt (u32_at file place) 48 || nat_lt (length file) (u32_at file place + count * size)) 8 place
    (good (record { start = u32_at file place; count = count }))

abbrev pub event_size : EventKind → ℕ
event_size Cues = 16
event_size Packets = 68

-- the first fault of all, in this order
abbrev pub header_of : List ℕ → Read Header
header_of file =
    and_then (sized file) λ _.
    and_then (kind_of file) λ kind.
    and_then (capacity_of file) λ capacity.
    and_then (stage_count_of file) λ stages.
    and_then (sequencer_of file) λ sequencer.
    and_then (producers_of file sequencer) λ producers.
    and_then (start_of file) λ start.
    and_then (section_of file 24 stages 4) λ stage_records.
    and_then (section_of file 28 (u32_at file 16) 4) λ steps.
    and_then (section_of file 32 (u32_at file 20) (event_size kind)) λ events.
    good (record { kind = kind; capacity = capacity; sequencer = sequencer; producers = producers; start = start; stages = stage_records; steps = steps; events = events })
