use Rattle.std.proofs.Common.{◌≡◌, sym, ◌∙◌, [], ◌∷◌, ◌++◌}
use Rattle.vital_sdf_words.proofs.PathLemmas.{parts-all, parts-divider, parts-byte, parts-end}
use Rattle.vital_sdf_words.specs.Paths.{unescaped}
use Rattle.vital_sdf_words.proofs.paths.parts.Goals as goal
use Rattle.vital_sdf_words.proofs.paths.parts.Goals.{then-is_divider+in_ok-push, else-is_divider+in_ok-push-2}

pub loop-unit-preserved : goal.loop-unit-preserved
loop-unit-preserved c =
    let l = c.loop-unit in
    let unit = c.in-Some.unit in
    elim c.if-is_divider.branch [
      | then-is_divider+in_ok-push w ↦
          let more = parts-divider c.args.divider l.found.items l.part.items (unit.byte, unit.is_escaped) (unescaped l.rest.now) (unescaped unit.others.now) c.in-Some.ensures.unit (sym w.if-is_divider.true ∙ c.is_divider.ensures) in
          let found : c.if-is_divider.found.items ≡ l.found.items ++ l.part.items ∷ [] = cc (w.found-is, w.in_ok-push.ensures.items, w.new.ensures) in
          let part : c.if-is_divider.part.items ≡ [] = cc (w.part-is, w.new-part-then-is_divider.ensures.items) in
          rw (found, part) (more ∙ l.invariant)
      | else-is_divider+in_ok-push-2 w ↦
          let more = parts-byte c.args.divider l.found.items l.part.items (unit.byte, unit.is_escaped) (unescaped l.rest.now) (unescaped unit.others.now) c.in-Some.ensures.unit (sym w.if-is_divider.false ∙ c.is_divider.ensures) in
          let found : c.if-is_divider.found.items ≡ l.found.items = cc (w.found-is) in
          let part : c.if-is_divider.part.items ≡ l.part.items ++ unit.byte ∷ [] = cc (w.part-is, w.in_ok-push-2.ensures.items) in
          rw (found, part) (more ∙ l.invariant)
    ]

pub returns : goal.returns
returns c =
    let l = c.loop-unit in
    let end = parts-end c.args.divider l.found.items l.part.items (unescaped l.rest.now) c.in_default.ensures.unit in
    let all = parts-all c.args.divider c.args.word.now in
    cc (c.new-3.ensures, c.in_ok-push-3.ensures.items, c.new-2.ensures, end, l.invariant, all)
