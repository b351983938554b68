-- Which sequences are open in the multi-producer sequencer. Assumes nothing.
use Rattle.std.specs.Prelude.{ℕ, Bool}
use Rattle.multi.specs.Rounds.{oldest, open_by}
use Rattle.multi.specs.declared.Multi.{Multi}

abbrev pub oldest_in : Multi → ℕ
oldest_in q = oldest q.claims.slots q.claims.start q.claims.next

abbrev pub open_in : Multi → ℕ → Bool
open_in q = open_by q.claims.slots q.claims.start q.claims.next q.rounds
