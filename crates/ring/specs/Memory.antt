-- Which memory a ring is over. Assumes nothing.
use Rattle.std.specs.Prelude.{◌≡◌}
use Rattle.ring.specs.declared.Ring.{Ring}

-- a ring is still over the memory that it was over
pub record SameMemory {E : Type 0} (before after : Ring E) : Type 0 where
  pub events : after.events.ghost_name ≡ before.events.ghost_name
  pub marks : after.marks.ghost_name ≡ before.marks.ghost_name
