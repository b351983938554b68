use Rattle.std.proofs.Common.{◌≡◌, List, ◌++◌, map, take, drop}
use Rattle.events.specs.Refusals.{reply}
use Rattle.machine.specs.Calls.{Call, after_calls, answers_to}
use Rattle.machine.specs.Machine.{World}
use Rattle.ring.specs.Memory.{SameMemory}
use Rattle.room.specs.Rooms.{world_by}
use Rattle.schedule.specs.Schedule.{call_of, events_after}
use Rattle.schedule.proofs.play.run.Given as goal

-- What is left of the calls leads to the same end, with the first k answers written.
abbrev pub invariant-loop-k : goal.invariant-loop-k
invariant-loop-k g l =
    let now : World = world_by g.S.Sequencer.means g.E.Event.words g.B.Bank.stages l.room l.ring l.bank in
    let first : World = world_by g.S.Sequencer.means g.E.Event.words g.B.Bank.stages l.initial.room l.initial.ring l.initial.bank in
    let calls : List Call = map (call_of g.E.Event.words) l.calls in
    let ahead : List Call = map (call_of g.E.Event.words) (drop l.k l.calls) in
    record {
      after : after_calls now ahead ≡ after_calls first calls;
      answers : map reply (take l.k l.answers) ++ answers_to now ahead ≡ answers_to first calls;
      events : events_after (drop l.k l.calls) (answers_to now ahead) l.ring.events.now ≡ events_after l.calls (answers_to first calls) l.initial.ring.events.now;
      same_memory : SameMemory l.initial.ring l.ring;
    }
