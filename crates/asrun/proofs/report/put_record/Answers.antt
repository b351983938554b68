use Rattle.std.proofs.Common.{◌≡◌, ℕ, List, ◌++◌, map, length, string_bytes, sym, ap, ◌∙◌, append_assoc, arith}
use Rattle.events.specs.Refusals.{accepted}
use Rattle.events.specs.Words.{cue_words}
use Rattle.playout.specs.Plan.{layout}
use Rattle.air.specs.Air.{air_figures}
use Rattle.cue_stages.specs.Check.{check_figures}
use Rattle.stages.specs.Journal.{journal_figures}
use Rattle.std.proofs.lemmas.List.{length-map}
use Rattle.std.proofs.lemmas.Result.{on_ok_weaker}
use Rattle.asrun.specs.AsRun.{cue_lines, day_layout, stage_line}
use Rattle.asrun.proofs.Day.{day_bank_lem, day_record}
use Rattle.asrun.proofs.report.put_record.Goals as goal

grouped : (a b c d e : List ℕ) → (((a ++ b) ++ c) ++ d) ++ e ≡ a ++ (b ++ (c ++ (d ++ e)))
grouped a b c d e = simp append_assoc

accepted_same : {A : Type 0} (x y : A) → accepted x ≡ accepted y → x ≡ y
accepted_same x y e = cc

pub returns : goal.returns
returns c =
    let cues = map cue_words c.args.cues.now in
    let long : length cues ≡ length c.args.cues.now = length-map c.args.cues.now cue_words in
    let lays : layout c.unwrap-plan.result ≡ day_layout = accepted_same _ _ (rw c.unwrap-plan.ensures at c.new-4.ensures) in
    let banks = day_bank_lem c.new.result c.new-2.result c.new-3.result c.new.ensures c.new-2.ensures c.new-3.ensures in
    let before = string_bytes c.args.out.now in
    let bank = c.play_in_order.new.bank in
    let lines = cue_lines cues c.play_in_order.new.rows in
    let check0 = stage_line 0 (check_figures bank.stage) in
    let air1 = stage_line 1 (air_figures bank.rest.stage.below) in
    let journal2 = stage_line 2 (journal_figures bank.rest.rest.stage) in
    on_ok_weaker c.put_stage-3.result (λ written. written
    ∙ ap (λ bs. bs ++ journal2) (c.in_ok-put_stage-2.ensures ∙ ap (λ bs. bs ++ air1) (c.in_ok-put_stage.ensures ∙ ap (λ bs. bs ++ check0) (c.in_ok-put_cues.ensures ∙ ap (λ n. before ++ lines n) (sym long))))
    ∙ grouped before (lines (length cues)) check0 air1 journal2
    ∙ ap (λ bs. before ++ bs) (day_record cues c.args.rows.now (omega arith) (omega arith) _ _ _ lays banks (rw c.unwrap.ensures at c.play_in_order.ensures))) c.put_stage-3.ensures
