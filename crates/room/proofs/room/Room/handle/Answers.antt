use Rattle.std.proofs.Common.{◌≡◌, ◌%◌, [], length, get_or, sym, rules}
use Rattle.machine.specs.Machine.{World, given, place_of}
use Rattle.std.proofs.lemmas.List.{length-map}
use Rattle.room.proofs.Words.{words_at}
use Rattle.room.specs.Rooms.{world_by}
use Rattle.room.proofs.room.Room.handle.Goals as goal

pub returns-clause-does : goal.returns-clause-does
returns-clause-does g c =
    let words = g.E.Event.words in
    let ring = c.args.ring.now in
    let events = ring.events.now in
    let i = c.args.stage in
    let place = c.in_ok-place.place in
    let w : World = world_by g.S.Sequencer.means words g.B.Bank.stages c.args.self.now ring c.args.bank.now in
    let here : place ≡ place_of w.room i = search rules in
    let long : length events ≡ length w.slots = sym (length-map events words) in
    let event : words c.unwrap-event.result.now ≡ get_or w.slots (place.at % length w.slots) [] = words_at words events g.E.Event.blank c.unwrap-event.result.now place.at c.in_ok-place.ensures.slots (rw c.unwrap-event.ensures at c.event.ensures) in
    let got : record { sequence = place.at; words = words c.unwrap-event.result.now; marks = c.marks-marks.result } ≡ given w i = cc in
    search rules
