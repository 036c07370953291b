use Rattle.std.proofs.Common.{arith, sym, ◌∙◌}
use Rattle.std.specs.Prelude.{[]}
use Rattle.vital_annotate.proofs.PartLemmas.{parts-false, parts-lengths, parts-true}
use Rattle.vital_annotate.proofs.parts.parts_are.Goals as goal

pub returns-then-labels-parts : goal.returns-then-labels-parts
returns-then-labels-parts c = sym (parts-lengths c.args.labels.now c.args.parts.now c.if-labels-parts.true)

pub returns-then-not-part_is : goal.returns-then-not-part_is
returns-then-not-part_is c =
    sym (parts-false c.args.labels.now c.args.parts.now (record { ref_ptr = (0, 0); now = [] }) (record { ref_ptr = (0, 0); now = [] }) c.loop-i.i (omega arith) c.if-labels-parts.false
    (sym c.part_is.ensures ∙ c.if-not-part_is.true))

pub returns : goal.returns
returns c =
    sym (parts-true c.args.labels.now c.args.parts.now (record { ref_ptr = (0, 0); now = [] }) (record { ref_ptr = (0, 0); now = [] }) c.if-labels-parts.false
    (λ k below. c.loop-i.invariant k (omega arith)))
