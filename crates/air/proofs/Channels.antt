-- A channel from its figure. Assumes nothing.
use Rattle.std.proofs.Common.{◌≡◌, ℕ, List, map, get_or, refl, ap, ◌∙◌, arith}
use Rattle.std.proofs.Math.ListN.{get_or-map}
use Rattle.std.proofs.lemmas.Bool.Decides.{nat_tests}
use Rattle.cue_stages.proofs.Tables.{tables}
use Rattle.air.specs.Air.{shown_by, shown_figure}
use Rattle.air.specs.declared.Shown.{Shown}
use Rattle.air.specs.declared.Shown.TheVariants.{Black, Playing, Held}

pub shown_by_lem : (shown : Shown) → shown_by (shown_figure shown) ≡ shown
shown_by_lem Black = refl
shown_by_lem (Playing item) = grind (arith, nat_tests)
shown_by_lem (Held item) = grind (arith, nat_tests)

-- the channel in a table by its figure there, and black past the last
pub shown_at : (channels : List Shown) (i : ℕ) → shown_by (get_or (map shown_figure channels) i 0) ≡ get_or channels i Black
shown_at channels i = ap shown_by (get_or-map shown_figure channels i Black) ∙ shown_by_lem (get_or channels i Black)

pub ruleset channels = (tables, shown_at)
