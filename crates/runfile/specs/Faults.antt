-- What is read of a file, or the first fault in it. Assumes nothing.
use Rattle.std.specs.Prelude.{ℕ, Bool, cond, Ok, Err, Result}
use Rattle.events.specs.Refusals.{number}
use Rattle.runfile.specs.declared.fault.Fault.{Fault}

-- a value, or the number of a fault and its place
pub data Read (A : Type 0) : Type 0 where
  good : A → Read A
  bad : ℕ → ℕ → Read A

abbrev pub told : {A : Type 0} → Result A Fault → Read A
told (Ok a) = good a
told (Err fault) = bad (number fault.why) fault.place

-- a fault goes up with its number and its place unchanged
abbrev pub and_then : {A B : Type 0} → Read A → (A → Read B) → Read B
and_then (good a) next = next a
and_then (bad n place) next = bad n place

-- what is read, unless a test finds a fault at a place
abbrev pub unless_bad : {A : Type 0} → Bool → ℕ → ℕ → Read A → Read A
unless_bad test n place next = cond test (bad n place) next
