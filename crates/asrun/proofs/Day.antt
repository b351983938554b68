-- The day's plan and bank are never refused, and leave what the record is written from. Assumes nothing.
use Rattle.std.proofs.Common.{◌≡◌, ℕ, ◌^◌, ◌≤◌, List, [], ◌∷◌, ◌++◌, map, length, get_or, ap, ◌∙◌, arith}
use Rattle.events.specs.Refusals.{Reply, accepted, left}
use Rattle.bank.specs.Bank.{figures_of}
use Rattle.playout.specs.InOrder.{Played, played, played_answer, row_of, stages_after}
use Rattle.playout.specs.Plan.{Layout}
use Rattle.air.specs.Air.{air, air_figures, fresh_air}
use Rattle.cue_stages.specs.Check.{check, check_figures, fresh_check}
use Rattle.stages.specs.Journal.{fresh_journal, journal, journal_figures}
use Rattle.stages.specs.Meaning.{Meaning}
use Rattle.stages.specs.Sieve.{sieved}
use Rattle.air.specs.declared.Air.{Air}
use Rattle.cue_stages.specs.declared.check.Check.{Check}
use Rattle.stages.specs.declared.journal.Journal.{Journal}
use Rattle.std.proofs.lemmas.Bool.Decides.{nat_tests}
use Rattle.std.specs.List.{range_with_len}
use Rattle.asrun.specs.AsRun.{cue_lines, day_bank, day_layout, record_of, stage_line}

abbrev bank_of : Check → Air → Journal → List Meaning
bank_of s t u = check (check_figures s) ∷ sieved 0 (air (air_figures t)) ∷ journal (journal_figures u) ∷ []

-- three fresh stages are the day's bank
pub day_bank_lem : (s : Check) (t : Air) (u : Journal) → s ≡ fresh_check → t ≡ fresh_air → u ≡ fresh_journal → bank_of s t u ≡ day_bank
day_bank_lem s t u es et eu = ap (λ s. bank_of s t u) es ∙ ap (λ t. bank_of fresh_check t u) et ∙ ap (bank_of fresh_check fresh_air) eu

module _ (cues rows : List (List ℕ)) (same : length rows ≡ length cues) (few : length cues ≤ 2 ^ 62) where
  day_answer : played_answer day_layout 3 (length cues) (length rows) ≡ accepted tt
  day_answer = grind (arith, nat_tests)

  day_played : (p : Played) → p ≡ played day_layout day_bank cues rows → p ≡ record { answer = accepted tt; stages = stages_after day_layout day_bank (λ k. get_or cues k []) (length cues); rows = map (row_of day_layout day_bank (λ k. get_or cues k [])) (range_with_len 0 (length cues)) }
  day_played p e =
      let by : Reply (Unit {0}) → Played = λ answer. record {
        answer = answer;
        stages = left answer day_bank (stages_after day_layout day_bank (λ k. get_or cues k []) (length cues));
        rows = left answer rows (map (row_of day_layout day_bank (λ k. get_or cues k [])) (range_with_len 0 (length cues)));
      } in
      e ∙ ap by day_answer

  -- the record is written from the rows and the stages that are left
  pub day_record : (l : Layout) (bank : List Meaning) (p : Played) → l ≡ day_layout → bank ≡ day_bank → p ≡ played l bank cues rows → cue_lines cues p.rows (length cues) ++ (stage_line 0 (figures_of p.stages 0) ++ (stage_line 1 (figures_of p.stages 1) ++ stage_line 2 (figures_of p.stages 2))) ≡ record_of cues
  day_record l bank p lays banks e =
      let done = day_played p (e ∙ ap (λ l. played l bank cues rows) lays ∙ ap (λ b. played day_layout b cues rows) banks) in
      ap (λ p. cue_lines cues p.rows (length cues) ++ (stage_line 0 (figures_of p.stages 0) ++ (stage_line 1 (figures_of p.stages 1) ++ stage_line 2 (figures_of p.stages 2)))) done
