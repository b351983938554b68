-- Check, for cues: whether a cue can be played, and comes in order. Assumes nothing.
use Rattle.std.specs.Prelude.{ℕ, suc, ◌+◌, cond, List, ◌∷◌, map, replicate, Some, None, Option, Ok, Err, Result, ◌==◌, nat_lt, slice_index, slice_set}
use Rattle.cue_stages.specs.Cues.{channel_of, action_of, frame_of}
use Rattle.stages.specs.Meaning.{Meaning, one_more}
use Rattle.cue_stages.specs.declared.check.Check.{Check}
use Rattle.cue_stages.specs.declared.check.Flaw.{Flaw}
use Rattle.cue_stages.specs.declared.check.Flaw.TheVariants.{NoSuchChannel, NoSuchAction, NoSuchFrame, Backwards}

-- the mark that stands for each verdict
abbrev pub verdict_mark : Result Unit Flaw → ℕ
verdict_mark (Ok found) = 0
verdict_mark (Err NoSuchChannel) = 1
verdict_mark (Err NoSuchAction) = 2
verdict_mark (Err NoSuchFrame) = 3
verdict_mark (Err Backwards) = 4

-- where a channel stands in the figures: after good and bad
abbrev pub last_place : ℕ → ℕ
last_place channel = suc (suc channel)

-- The first that applies: 1 channel above 15, 2 action above 3, 3 frame above 2,159,999,
-- 4 frame below the channel's last good frame; else 0.
abbrev pub check_mark : List ℕ → List ℕ → ℕ
check_mark old words =
    cond (nat_lt 15 (channel_of words)) 1
    (cond (nat_lt 3 (action_of words)) 2
    (cond (nat_lt 2159999 (frame_of words)) 3
    (cond (nat_lt (frame_of words + 1) (slice_index old (last_place (channel_of words)))) 4
    0)))

-- Mark 0 counts as good and stores the frame, any other as bad.
abbrev pub check_grow : List ℕ → List ℕ → List ℕ
check_grow old words =
    cond (check_mark old words == 0)
    (slice_set (slice_set old 0 (one_more (slice_index old 0))) (last_place (channel_of words)) (frame_of words + 1))
    (slice_set old 1 (one_more (slice_index old 1)))

abbrev pub check : List ℕ → Meaning
check figures = record {
  figures = figures;
  grow = λ old g. check_grow old g.words;
  mark = λ old g. check_mark old g.words;
}

-- at first: nothing good or bad, and no good frame on any channel
abbrev pub fresh_check : Check
fresh_check = record { good = 0; bad = 0; last = replicate 16 None }

-- A channel's last good frame as a figure: the frame plus 1, or 0 if there is none.
abbrev pub last_figure : Option ℕ → ℕ
last_figure None = 0
last_figure (Some frame) = frame + 1

-- Its figures are good, bad, and for each of 16 channels the last good frame plus 1, or 0.
abbrev pub check_figures : Check → List ℕ
check_figures s = s.good ∷ s.bad ∷ map last_figure s.last
