-- The fields of a cue, read off its words. Assumes nothing.
use Rattle.std.specs.Prelude.{ℕ, List, slice_index}

abbrev pub channel_of : List ℕ → ℕ
channel_of words = slice_index words 0

abbrev pub action_of : List ℕ → ℕ
action_of words = slice_index words 1

abbrev pub item_of : List ℕ → ℕ
item_of words = slice_index words 2

abbrev pub frame_of : List ℕ → ℕ
frame_of words = slice_index words 3
