use Rattle.std.proofs.Common.{List, map, ap, ◌∙◌, arith}
use Rattle.vital_associations.specs.Formals.{shape_at}
use Rattle.vital_nodes.specs.declared.decl.Iface.{Iface}
use Rattle.vital_structure.specs.Shapes.{lent}
use Rattle.vital_associations.proofs.FormalLemmas.{shape-past, shape-there}
use Rattle.vital_associations.proofs.formals.Formals.shape.Goals as goal

pub returns-in-Some : goal.returns-in-Some
returns-in-Some c =
    let there = c.in-Some.ensures.lookup in
    let same = ap (λ shapes. map lent shapes) c.deref.ensures.value ∙ c.self.invariant.1 in
    shape-there c.deref.result.now c.self.inside.ports.now c.args.number c.in-Some.shape.now _ same (omega arith) there.1
    ∙ ap (λ (ports : List Iface). shape_at ports c.args.number) c.self.view_is

pub returns-in-None : goal.returns-in-None
returns-in-None c =
    let there = c.in-None.ensures.lookup in
    let same = ap (λ shapes. map lent shapes) c.deref.ensures.value ∙ c.self.invariant.1 in
    shape-past c.deref.result.now c.self.inside.ports.now c.args.number same (omega arith)
    ∙ ap (λ (ports : List Iface). shape_at ports c.args.number) c.self.view_is
