-- The table of refusals: the number that each reason has. Assumes nothing.
use Rattle.std.specs.Prelude.{ℕ, Bool, cond, List, [], ◌∷◌, Ok, Err, decimal, Result}
use Rattle.events.specs.declared.refusal.Refusal.{Refusal}
use Rattle.events.specs.declared.refusal.Refusal.TheVariants.{FileSize, EventKind, Capacity, StageCount, SequencerKind, ProducerCount, Start, Section, StageRecord, PacketRange, SizeMismatch, CallCode, NoSuchProducer, NoSuchStage, NoSuchEvent, ClaimOpen, Amount, SequencesExhausted, NoPlace, NoClaim, ClaimFull, ClaimNotFull, NothingSeen, NothingToCommit, NotOpen}

abbrev pub number : Refusal → ℕ
number FileSize = 1
number EventKind = 2
number Capacity = 3
number StageCount = 4
number SequencerKind = 5
number ProducerCount = 6
number Start = 7
number Section = 8
number StageRecord = 9
number PacketRange = 10
number SizeMismatch = 11
number CallCode = 12
number NoSuchProducer = 13
number NoSuchStage = 14
number NoSuchEvent = 15
number ClaimOpen = 16
number Amount = 17
number SequencesExhausted = 18
number NoPlace = 19
number NoClaim = 20
number ClaimFull = 21
number ClaimNotFull = 22
number NothingSeen = 23
number NothingToCommit = 24
number NotOpen = 25

-- a refusal prints as its number
abbrev pub refusal_text : Refusal → List ℕ
refusal_text why = decimal (number why)

-- What a call answers: a value, or the number of a refusal.
pub data Reply (A : Type 0) : Type 0 where
  accepted : A → Reply A
  refused : ℕ → Reply A

-- A call's result, with its refusal by number.
abbrev pub reply : {A : Type 0} → Result A Refusal → Reply A
reply (Ok a) = accepted a
reply (Err why) = refused (number why)

-- the same, of what the value means
abbrev pub replied : {A B : Type 0} → (A → B) → Result A Refusal → Reply B
replied means (Ok a) = accepted (means a)
replied means (Err why) = refused (number why)

-- The answer, unless a test before it holds: then the refusal of the first that does.
abbrev pub unless : {A : Type 0} → List (Bool × ℕ) → Reply A → Reply A
unless [] answer = answer
unless (test ∷ tests) answer = cond test.0 (refused test.1) (unless tests answer)

-- What a call leaves: a refusal leaves all as it was.
abbrev pub left : {A B : Type 0} → Reply A → B → B → B
left (accepted a) before after = after
left (refused n) before after = before
