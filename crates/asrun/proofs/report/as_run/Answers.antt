use Rattle.std.proofs.Common.{◌≡◌, ◌/◌, ◌%◌, ◌++◌, map, length, ap, ◌∙◌, arith}
use Rattle.std.proofs.lemmas.Bool.Decides.{nat_tests}
use Rattle.events.specs.Records.{cue_at}
use Rattle.events.specs.Words.{cue_words}
use Rattle.asrun.specs.AsRun.{record_of}
use Rattle.asrun.proofs.Chunks.{chunks_cues}
use Rattle.asrun.proofs.report.as_run.Goals as goal

pub returns : goal.returns
returns c =
    let input = c.args.input.now in
    let none : length input % 16 ≡ 0 = grind (arith, nat_tests) in
    let read = c.in_ok-cues.ensures ∙ ap (map (λ bytes. cue_at bytes 0)) c.as_chunks.ensures.front ∙ chunks_cues input (length input / 16) 0 in (
      none,
      c.in_ok-put_record.ensures
          ∙ ap (λ bs. bs ++ record_of (map cue_words c.deref.result.now)) c.new-out.ensures.bytes
          ∙ ap (λ cues. record_of (map cue_words cues)) (c.deref.ensures.value ∙ read),
    )
