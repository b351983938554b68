-- What a history tells: what was written, published, handled and committed. Assumes nothing.
use Rattle.std.specs.Prelude.{◌≡◌, ℕ, ◌<◌, cond, ◌⊎◌, List, [], ◌∷◌, ◌++◌, ◌==◌}
use Rattle.stages.specs.Meaning.{Given}
use Rattle.machine.specs.Calls.{Entry, History, committed, handled, made, other, published, wrote, ◌▸◌}

-- an accepted write of producer p, with these words, returned s
abbrev pub Wrote : History → ℕ → List ℕ → ℕ → Type 0
Wrote made p words s = ⊥
Wrote (h ▸ wrote q v t) p words s = Wrote h p words s ⊎ ((q ≡ p) × (v ≡ words) × (t ≡ s))
Wrote (h ▸ published q end) p words s = Wrote h p words s
Wrote (h ▸ handled i g mark) p words s = Wrote h p words s
Wrote (h ▸ committed i done) p words s = Wrote h p words s
Wrote (h ▸ other call answer) p words s = Wrote h p words s

-- the words of the event of s: those of the accepted write that returned s
abbrev pub words_of : History → ℕ → List ℕ
words_of made s = []
words_of (h ▸ wrote p words t) s = cond (t == s) words (words_of h s)
words_of (h ▸ published p end) s = words_of h s
words_of (h ▸ handled i g mark) s = words_of h s
words_of (h ▸ committed i done) s = words_of h s
words_of (h ▸ other call answer) s = words_of h s

-- s was published with these words: its writer has published since
abbrev pub Published : History → List ℕ → ℕ → Type 0
Published made words s = ⊥
Published (h ▸ wrote p v t) words s = Published h words s
Published (h ▸ published p end) words s = Published h words s ⊎ Wrote h p words s
Published (h ▸ handled i g mark) words s = Published h words s
Published (h ▸ committed i done) words s = Published h words s
Published (h ▸ other call answer) words s = Published h words s

-- stage j has committed s: an accepted commit of it returned more than s
abbrev pub Committed : History → ℕ → ℕ → Type 0
Committed made j s = ⊥
Committed (h ▸ wrote p v t) j s = Committed h j s
Committed (h ▸ published p end) j s = Committed h j s
Committed (h ▸ handled i g mark) j s = Committed h j s
Committed (h ▸ committed i done) j s = Committed h j s ⊎ ((i ≡ j) × (s < done))
Committed (h ▸ other call answer) j s = Committed h j s

-- what stage j has handled: all that its accepted handle calls passed to it, in order
abbrev pub received : History → ℕ → List Given
received made j = []
received (h ▸ wrote p v t) j = received h j
received (h ▸ published p end) j = received h j
received (h ▸ handled i g mark) j = cond (i == j) (received h j ++ g ∷ []) (received h j)
received (h ▸ committed i done) j = received h j
received (h ▸ other call answer) j = received h j

-- and the marks that they returned
abbrev pub gave : History → ℕ → List ℕ
gave made j = []
gave (h ▸ wrote p v t) j = gave h j
gave (h ▸ published p end) j = gave h j
gave (h ▸ handled i g mark) j = cond (i == j) (gave h j ++ mark ∷ []) (gave h j)
gave (h ▸ committed i done) j = gave h j
gave (h ▸ other call answer) j = gave h j

-- of every entry, with what had happened before it
abbrev pub Each : (History → Entry → Type 0) → History → Type 0
Each P made = Unit {0}
Each P (h ▸ e) = Each P h × P h e
