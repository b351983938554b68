use Rattle.std.proofs.Common.{◌++◌, map, length, string_bytes, sym, ap, ◌∙◌}
use Rattle.events.specs.Words.{cue_words}
use Rattle.std.proofs.lemmas.Iterator.{YieldsList-from_slice, YieldsList-from_zip}
use Rattle.std.proofs.lemmas.Iterator.Consumers.{YieldsList-at, YieldsList-from_enumerate, YieldsList-turn}
use Rattle.std.proofs.lemmas.List.{length_push}
use Rattle.asrun.specs.AsRun.{cue_line, cue_lines}
use Rattle.asrun.proofs.Lines.{line_more}
use Rattle.asrun.proofs.report.put_cues.Goals as goal

pub loop-sequence-preserved : goal.loop-sequence-preserved
loop-sequence-preserved c =
    let cues = c.args.cues.now in
    let rows = c.args.rows.now in
    let before = string_bytes c.args.out.now in
    let pairs = YieldsList-from_zip (YieldsList-from_slice {s = c.zip.result.a} cues cc) (YieldsList-from_slice {s = c.zip.result.b} rows cc) in
    let road = YieldsList-from_enumerate {s = c.enumerate-sequence-items.result} (YieldsList-at c.enumerate-sequence-items.ensures.source pairs) c.enumerate-sequence-items.ensures.count in
    let turn = YieldsList-turn (YieldsList-at c.into_iter-sequence-iterator.ensures.into_iter_gives road) c.loop-sequence.yielded c.loop-sequence.sequence-iterator c.loop-sequence.yielded_by c.next.result c.next.new.self (c.in-Some.sequence, (c.in-Some.cue, c.in-Some.row)) c.in-Some.is c.next.ensures.steps in
    c.in_ok-put_cue.ensures
    ∙ ap (λ bytes. bytes ++ cue_line c.in-Some.sequence (cue_words c.in-Some.cue.now) c.in-Some.row.now) c.loop-sequence.invariant
    ∙ line_more before cues rows (length c.loop-sequence.yielded) (c.in-Some.sequence, (c.in-Some.cue.now, c.in-Some.row.now)) turn.0 turn.1
    ∙ ap (λ n. before ++ cue_lines (map cue_words cues) rows n) (sym (length_push c.loop-sequence.yielded (c.in-Some.sequence, (c.in-Some.cue, c.in-Some.row))))
