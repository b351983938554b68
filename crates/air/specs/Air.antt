-- Air, for cues: what each channel shows. Assumes nothing.
use Rattle.std.specs.Prelude.{ℕ, suc, ◌+◌, ◌-◌, ◌*◌, ◌/◌, ◌%◌, Bool, true, false, cond, List, ◌∷◌, map, replicate, Some, None, Option, ◌==◌, nat_lt, slice_index, slice_set}
use Rattle.cue_stages.specs.Cues.{channel_of, action_of, item_of}
use Rattle.stages.specs.Meaning.{Meaning, one_more}
use Rattle.air.specs.declared.Air.{Air}
use Rattle.air.specs.declared.Action.{Action}
use Rattle.air.specs.declared.Action.TheVariants.{Take, Hold, Resume, Clear}
use Rattle.air.specs.declared.Shown.{Shown}
use Rattle.air.specs.declared.Shown.TheVariants.{Black, Playing, Held}

-- What a cue makes of a channel, or nothing where it is ignored: take always plays the cue's item,
-- hold holds a playing one, resume plays a held one, and clear always makes the channel black.
abbrev pub obeyed : Shown → Action → ℕ → Option Shown
obeyed Black Take item = Some (Playing item)
obeyed Black Hold item = None
obeyed Black Resume item = None
obeyed Black Clear item = Some Black
obeyed (Playing on) Take item = Some (Playing item)
obeyed (Playing on) Hold item = Some (Held on)
obeyed (Playing on) Resume item = None
obeyed (Playing on) Clear item = Some Black
obeyed (Held on) Take item = Some (Playing item)
obeyed (Held on) Hold item = None
obeyed (Held on) Resume item = Some (Playing on)
obeyed (Held on) Clear item = Some Black

-- the action that a cue's number names, if any
abbrev pub action_named : ℕ → Option Action
action_named n = cond (n == 0) (Some Take) (cond (n == 1) (Some Hold) (cond (n == 2) (Some Resume) (cond (n == 3) (Some Clear) None)))

-- A channel as a figure: 0 for black, 2 × item + 1 playing, 2 × item + 2 held.
abbrev pub shown_figure : Shown → ℕ
shown_figure Black = 0
shown_figure (Playing item) = 2 * item + 1
shown_figure (Held item) = 2 * item + 2

-- the channel that has this figure
abbrev pub shown_by : ℕ → Shown
shown_by n = cond (n == 0) Black (cond (n % 2 == 1) (Playing (n / 2)) (Held (n / 2 - 1)))

abbrev pub obeyed_if : Shown → Option Action → ℕ → Option Shown
obeyed_if shown None item = None
obeyed_if shown (Some action) item = obeyed shown action item

-- where a channel stands in the figures: after the count
abbrev pub shown_place : ℕ → ℕ
shown_place channel = suc channel

-- What a cue makes of its channel, by the old figures: a channel above 15 and an action above 3 are ignored.
abbrev pub air_shows : List ℕ → List ℕ → Option Shown
air_shows old words =
    cond (nat_lt 15 (channel_of words)) None
    (obeyed_if (shown_by (slice_index old (shown_place (channel_of words)))) (action_named (action_of words)) (item_of words))

abbrev pub grown : List ℕ → ℕ → Option Shown → List ℕ
grown old channel None = old
grown old channel (Some shown) = slice_set (slice_set old 0 (one_more (slice_index old 0))) (shown_place channel) (shown_figure shown)

-- 1 if the cue is ignored, else 0
abbrev pub ignored : Option Shown → ℕ
ignored None = 1
ignored (Some shown) = 0

abbrev pub air : List ℕ → Meaning
air figures = record {
  figures = figures;
  grow = λ old g. grown old (channel_of g.words) (air_shows old g.words);
  mark = λ old g. ignored (air_shows old g.words);
}

-- at first: every channel is black
abbrev pub fresh_air : Air
fresh_air = record { obeyed = 0; channels = replicate 16 Black }

-- Its figures are the cues not ignored, and then the 16 channels.
abbrev pub air_figures : Air → List ℕ
air_figures s = s.obeyed ∷ map shown_figure s.channels

-- whether the cue was obeyed, and what the channel then shows
abbrev pub settled : Shown → Option Shown → Bool × Shown
settled before None = (false, before)
settled before (Some after) = (true, after)
