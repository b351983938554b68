-- What a cue does to a table that is told by its figures. Assumes nothing.
use Rattle.std.proofs.lemmas.List.{map-set}
use Rattle.std.proofs.lemmas.Bool.Decides.{nat_tests}

pub ruleset tables = (nat_tests, map-set)
