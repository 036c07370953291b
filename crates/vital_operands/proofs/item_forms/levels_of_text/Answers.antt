use Rattle.std.proofs.Common.{◌≡◌, ◌<◌, length, get_or, map, ◌∙◌, ap, sym, arith}
use Rattle.std.specs.Prelude.{Some}
use Rattle.std.proofs.lemmas.List.{get_or_default}
use Rattle.vital_operands.specs.Items.{all_some, between_marks, printed_level}
use Rattle.vital_operands.proofs.Steps.{all_some-missing, all_some-more}
use Rattle.vital_operands.proofs.item_forms.levels_of_text.Goals as goal

pub returns-in-None : goal.returns-in-None
returns-in-None c =
    let bytes = c.between_marks-byte-items.result.now in
    let i = c.loop-byte.byte-index in
    let there : i < length bytes = omega arith in
    sym (ap (λ bs. all_some (map printed_level bs)) (sym c.between_marks-byte-items.ensures)
    ∙ all_some-missing printed_level bytes i (get_or bytes i 0) there (get_or_default bytes i 0 (get_or bytes i 0) there) (sym c.in-None.ensures))

pub loop-byte-preserved : goal.loop-byte-preserved
loop-byte-preserved c =
    let bytes = c.between_marks-byte-items.result.now in
    let i = c.loop-byte.byte-index in
    let byte = get_or bytes i 0 in
    let there : i < length bytes = omega arith in
    let as_long : length bytes ≡ length (between_marks c.args.text.now) = ap length c.between_marks-byte-items.ensures in
    let within : i < length (between_marks c.args.text.now) = omega arith in
    all_some-more printed_level (between_marks c.args.text.now) i byte c.in-Some.level c.loop-byte.levels.items within
    (get_or_default bytes i 0 byte there ∙ ap (λ bs. get_or bs i byte) c.between_marks-byte-items.ensures)
    (sym c.in-Some.ensures) c.loop-byte.invariant
    ∙ ap Some (sym c.in_ok-push-in-Some.ensures.items)
