use Rattle.std.proofs.Common.{◌∙◌, ap, sym}
use Rattle.std.specs.Option.{option_copied}
use Rattle.vital_statements.proofs.BareLemmas.{bare-at, bare-inside, fewer}
use Rattle.vital_statements.proofs.parentheses.bare_identifier.Goals as goal

pub loop-next-smaller : goal.loop-next-smaller
loop-next-smaller c = fewer c.walked_in_preorder.ensures _ _ (sym c.in-Some.ensures)

pub loop-next-preserved : goal.loop-next-preserved
loop-next-preserved c = sym (bare-inside c.folded_upwards.ensures _ _ (sym c.in-Some.ensures)) ∙ c.loop-next.invariant

pub returns : goal.returns
returns c =
    c.identifier_of.ensures
    ∙ sym (bare-at c.folded_upwards.ensures c.loop-next.inner.now (sym c.inside.ensures ∙ ap option_copied c.in_default.is))
    ∙ c.loop-next.invariant
