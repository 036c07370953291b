-- The lines of cells that are written one after the other.
use Rattle.std.proofs.Common.{◌≡◌, ℕ, zero, suc, ◌+◌, ◌<◌, ◌≤◌, List, [], ◌∷◌, ◌++◌, length, drop, get_or, map, slice_get, Some, refl, sym, ap, ◌∙◌, add-one, arith}
use Rattle.std.proofs.lemmas.List.{drop_all}
use Rattle.std.proofs.lemmas.Option.{slice_get_within}
use Rattle.vital_level1.specs.declared.level.CellLevel.{CellLevel}
use Rattle.vital_names.specs.Sites.{Cell}
use Rattle.vital_report.specs.Lines.{bytes_of, text_of}
use Rattle.vital_answers.specs.Cells.{level_line, level_lines}
use Rattle.vital_words.specs.declared.job.NamedFile.{NamedFile}

lines_next : (files : List NamedFile) (cs : List Cell) (ls : List CellLevel) (i : ℕ) (c : Cell) (l : CellLevel) → slice_get cs i ≡ Some c → slice_get ls i ≡ Some l
    → text_of (level_lines files (drop i cs) (drop i ls)) ≡ bytes_of (level_line files c l) ++ text_of (level_lines files (drop (suc i) cs) (drop (suc i) ls))
lines_next files [] ls i c l at level = absurd (omega (arith, slice_get_within [] i c at))
lines_next files (x ∷ xs) [] i c l at level = absurd (omega (arith, slice_get_within [] i l level))
lines_next files (x ∷ xs) (m ∷ ms) zero c l at level =
    let same : x ≡ c = cc in
    let also : m ≡ l = cc in
    let others = text_of (level_lines files xs ms) in
    ap (λ (y : Cell). bytes_of (level_line files y m) ++ others) same ∙ ap (λ (y : CellLevel). bytes_of (level_line files c y) ++ others) also
lines_next files (x ∷ xs) (m ∷ ms) (suc i) c l at level = lines_next files xs ms i c l at level

-- the line of the next cell, and then those of the others
pub one_line : (files : List NamedFile) (cs : List Cell) (ls : List CellLevel) (i : ℕ) (c : Cell) (l : CellLevel) → slice_get cs i ≡ Some c → slice_get ls i ≡ Some l
    → text_of (level_lines files (drop i cs) (drop i ls)) ≡ bytes_of (level_line files c l) ++ text_of (level_lines files (drop (i + 1) cs) (drop (i + 1) ls))
one_line files cs ls i c l at level = rw (add-one i) (lines_next files cs ls i c l at level)

no_levels : (files : List NamedFile) (cs : List Cell) → level_lines files cs [] ≡ []
no_levels files [] = refl
no_levels files (c ∷ cs) = refl

-- behind the last level there is no line
pub none_left : (files : List NamedFile) (cs : List Cell) (ls : List CellLevel) (i : ℕ) → length ls ≤ i → text_of (level_lines files (drop i cs) (drop i ls)) ≡ []
none_left files cs ls i le =
    ap (λ (left : List CellLevel). text_of (level_lines files (drop i cs) left)) (drop_all i ls le) ∙ ap text_of (no_levels files (drop i cs))

-- one of some things that are seen as others
pub seen_at : {A B : Type 0} (see : A → B) (xs : List A) (i : ℕ) (x : A) → i < length xs → x ≡ get_or xs i x → slice_get (map see xs) i ≡ Some (see x)
seen_at see [] i x lt is = absurd (omega (arith, lt))
seen_at see (y ∷ ys) zero x lt is = ap (λ z. Some (see z)) (sym is)
seen_at see (y ∷ ys) (suc i) x lt is = seen_at see ys i x (omega (arith, lt)) is
