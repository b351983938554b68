use Rattle.std.proofs.Common.{◌≡◌, ◌-◌}
use Rattle.runfile.specs.EventRecords.{checked_all, checked_from}
use Rattle.runfile.proofs.event_record.check_events.Given as goal

-- The records left decide.
abbrev pub invariant-loop-k : goal.invariant-loop-k
invariant-loop-k g l =
    checked_from g.E.EventRecord.decoded g.E.EventRecord.SIZE l.file l.section.start (l.section.count - l.k) l.k ≡ checked_all g.E.EventRecord.decoded g.E.EventRecord.SIZE l.file l.section.start l.section.count
