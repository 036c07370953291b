use Rattle.std.proofs.Common.{sym, ap, ◌∙◌, arith}
use Rattle.std.proofs.lemmas.Option.{slice_get_past, slice_get_read}
use Rattle.vital_instances.specs.Contents.{children_at, or_none}
use Rattle.vital_instances.proofs.UnitLemmas.{known-is, unknown-is}
use Rattle.vital_instances.proofs.net_units.NetUnits.children.Goals as goal

pub returns-then-number-len : goal.returns-then-number-len
returns-then-number-len c =
    let known = c.self.inside.contents.items in
    let x = c.index.result.now in
    let there = slice_get_read known c.len.result c.args.number x (c.len.ensures ∙ c.self.inside.contents.ok.0) c.if-number-len.true c.index.ensures in
    c.or_none.ensures
    ∙ ap or_none (known-is c.self.inside.library.now known c.args.number x c.self.invariant there)
    ∙ ap (λ files. children_at files c.args.number) c.self.view_is

pub returns-else-number-len : goal.returns-else-number-len
returns-else-number-len c =
    let known = c.self.inside.contents.items in
    let past = slice_get_past known c.args.number (omega (arith, c.len.ensures, c.self.inside.contents.ok.0)) in
    sym (ap or_none (unknown-is c.self.inside.library.now known c.args.number c.self.invariant past))
    ∙ ap (λ files. children_at files c.args.number) c.self.view_is
