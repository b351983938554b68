use Rattle.std.proofs.Common.{rules, ◌≡◌, ℕ, [], ◌∷◌, slice_index, fold, refl, sym, ap, ◌∙◌, arith}
use Rattle.std.specs.List.{range_with_len}
use Rattle.std.proofs.iter.Yields.{nat_range_steps}
use Rattle.std.proofs.lemmas.Iterator.{YieldsList-from_range}
use Rattle.std.proofs.lemmas.Fn.{fold_over}
use Rattle.std.proofs.lemmas.List.Folds.{fold-map}
use Rattle.std.proofs.lemmas.List.FromFn.{fill_by_all}
use Rattle.std.proofs.lemmas.List.Sums.{fold-append}
use Rattle.stages.specs.Journal.{journal, folded, folded_all}
use Rattle.stages.specs.Meaning.{one_more}
use Rattle.stages.proofs.journal.JournalStage.handle.Goals as goal

pub returns : goal.returns
returns g c =
    let words = g.E.Event.words c.args.event.now in
    let n = c.count.result in
    let start = c.folded-start.result in
    let h : ℕ → ℕ → ℕ = λ b k. folded b (slice_index words k) in
    let run : c.fold-code.result ≡ fold h start (range_with_len 0 n) =
    fold_over nat_range_steps (λ x. x) _ (λ ys b. b ≡ fold h start ys) _
    (λ ys a x b f' j k. (let gives : b ≡ h a x = search rules in gives ∙ ap (λ m. h m x) j ∙ sym (fold-append h start ys (x ∷ [])), search rules))
    _ (range_with_len 0 n) start c.fold-code.result (YieldsList-from_range 0 n n refl (omega arith)).runs refl c.fold-code.ensures.ran in
    let read : folded_all start words ≡ fold h start (range_with_len 0 n) =
    ap (folded_all start) (fill_by_all (slice_index words) words n 0 (sym c.count.ensures) (λ k below. refl)) ∙ fold-map folded (slice_index words) start (range_with_len 0 n) in
    let code : c.fold-code.result ≡ folded_all (folded 0 c.args.sequence) words = run ∙ sym read ∙ ap (λ m. folded_all m words) c.folded-start.ensures in
    let digest : c.folded-self.result ≡ folded c.args.self.now.digest (folded_all (folded 0 c.args.sequence) words) = c.folded-self.ensures ∙ ap (folded c.args.self.now.digest) (c.from.ensures ∙ code) in
    record { grows = ap (λ m. journal (one_more c.args.self.now.handled ∷ m ∷ [])) digest; mark = code }
