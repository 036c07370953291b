use Rattle.std.proofs.Common.{◌≡◌, ℕ, ◌+◌, ◌-◌, List, length, take, drop, ap, sym, ◌∙◌, arith, Some, None, length-drop}
use Rattle.std.specs.Prelude.{option_map}
use Rattle.std.proofs.lemmas.List.{take_all}
use Rattle.vital_lex.specs.Lexicon.{last, more}
use Rattle.vital_sdf_lexemes.specs.Sdf.{sdf}
use Rattle.vital_sdf_lexemes.specs.Separators.{separator_length}
use Rattle.vital_sdf_lexemes.proofs.sdf.SdfLexicon.pass_separators.Goals as goal

-- a slice to the end is what is left of the text
left : (text : List ℕ) (at : ℕ) → take (length text - at) (drop at text) ≡ drop at text
left text at = take_all (length text - at) (drop at text) (omega (arith, length-drop at text))

pub loop-count-preserved : goal.loop-count-preserved
loop-count-preserved c =
    let text = c.args.text.now in
    let end = c.loop-count.end in
    let found : sdf.separator text end ≡ Some (end + c.in-Some.count) = ap (λ o. option_map (λ n. end + n) o) (sym (c.in-Some.ensures.count ∙ ap separator_length (left text end))) in
    record {
      within = omega (arith, c.loop-count.invariant.within, c.in-Some.ensures.within, ap length (left text end), length-drop end text);
      parted = λ to after. c.loop-count.invariant.parted to (more found after);
    }

pub returns : goal.returns
returns c =
    let text = c.args.text.now in
    let end = c.loop-count.end in
    let none : sdf.separator text end ≡ None = ap (λ o. option_map (λ n. end + n) o) (sym (c.in_default.ensures.count ∙ ap separator_length (left text end))) in
    c.loop-count.invariant.parted end (last c.loop-count.invariant.within none)
