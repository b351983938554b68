-- The lines of the cues, one more at a time. Assumes nothing.
use Rattle.std.proofs.Common.{◌≡◌, ℕ, ◌+◌, ◌<◌, List, [], ◌∷◌, ◌++◌, map, length, get_or, sym, ap, ◌∙◌, zero-add, arith}
use Rattle.std.proofs.lemmas.List.FromFn.{get_or-enumerate_from, length-enumerate_from, map-range_with_len_more}
use Rattle.std.proofs.lemmas.List.{flat_map_more, get_or-map, get_or_default, map-id}
use Rattle.std.proofs.lemmas.Slice.Zip.{get_or-zip, length-zip}
use Rattle.std.specs.List.{enumerate_from, range_with_len, flat_map, zip}
use Rattle.events.specs.Words.{cue_words}
use Rattle.events.specs.declared.cue.Cue.{Cue}
use Rattle.asrun.specs.AsRun.{cue_line, cue_lines}

range_more : (n : ℕ) → range_with_len 0 n ++ (n ∷ []) ≡ range_with_len 0 (n + 1)
range_more n =
    sym (sym (map-id (range_with_len 0 (n + 1))) ∙ map-range_with_len_more (λ k. k) 0 n n (omega arith) ∙ ap (λ ks. ks ++ (n ∷ [])) (map-id (range_with_len 0 n)))

pub lines_more : (before : List ℕ) (cues rows : List (List ℕ)) (n : ℕ) → (before ++ cue_lines cues rows n) ++ cue_line n (get_or cues n []) (get_or rows n []) ≡ before ++ cue_lines cues rows (n + 1)
lines_more before cues rows n =
    flat_map_more (λ k. cue_line k (get_or cues k []) (get_or rows k [])) before (range_with_len 0 n) n
    ∙ ap (λ ks. before ++ flat_map (λ k. cue_line k (get_or cues k []) (get_or rows k [])) ks) (range_more n)

-- the line of a cue and a row that come with their number
pub line_more : (before : List ℕ) (cues : List Cue) (rows : List (List ℕ)) (n : ℕ) (item : ℕ × (Cue × List ℕ)) → n < length (enumerate_from 0 (zip cues rows)) → item ≡ get_or (enumerate_from 0 (zip cues rows)) n item → (before ++ cue_lines (map cue_words cues) rows n) ++ cue_line item.0 (cue_words item.1.0) item.1.1 ≡ before ++ cue_lines (map cue_words cues) rows (n + 1)
line_more before cues rows n item some here =
    let both : n < length (zip cues rows) = omega (arith, length-enumerate_from 0 (zip cues rows)) in
    let one : n < length cues = omega (arith, length-zip cues rows) in
    let other : n < length rows = omega (arith, length-zip cues rows) in
    let all = here ∙ get_or-enumerate_from 0 (zip cues rows) n item both ∙ ap (λ p. (0 + n, p)) (get_or-zip cues rows n item.1 one other) in
    let line : ℕ → List ℕ → List ℕ → List ℕ = λ k words row. (before ++ cue_lines (map cue_words cues) rows n) ++ cue_line k words row in
    ap (λ p. line p.0 (cue_words p.1.0) p.1.1) all
    ∙ ap (λ k. line k (cue_words (get_or cues n item.1.0)) (get_or rows n item.1.1)) (zero-add n)
    ∙ ap (λ words. line n words (get_or rows n item.1.1)) (sym (get_or-map cue_words cues n item.1.0 [] one))
    ∙ ap (line n (get_or (map cue_words cues) n [])) (get_or_default rows n item.1.1 [] other)
    ∙ lines_more before (map cue_words cues) rows n
