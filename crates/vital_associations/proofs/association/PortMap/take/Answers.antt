use Rattle.std.proofs.Common.{sym, ◌∙◌, ap}
use Rattle.std.specs.Option.{option_map}
use Rattle.vital_structure.specs.Shapes as shapes
use Rattle.vital_associations.specs.Associations.{port_map}
use Rattle.vital_associations.specs.Spans.{is_met, lent}
use Rattle.vital_associations.proofs.TakeLemmas.{none-free, none-more, some-more, some-taken}
use Rattle.vital_associations.proofs.association.PortMap.take.Goals as goal

pub put_span-requires-clause-free : goal.put_span-requires-clause-free
put_span-requires-clause-free c = sym c.is_met.ensures ∙ c.if-is_met.false

pub returns-in_default-clause-free : goal.returns-in_default-clause-free
returns-in_default-clause-free c = λ earlier has.
    let m = port_map c.args.self.now in
    let p = shapes.lent_part c.args.part in
    let none = sym (ap (option_map lent) c.in_default.is) ∙ c.span_of.ensures.span in
    none-free m c.args.port p (shapes.lent c.shape.result) c.shape.ensures earlier none

pub returns-in_default-clause-taken : goal.returns-in_default-clause-taken
returns-in_default-clause-taken c = λ free z.
    let m = port_map c.args.self.now in
    let p = shapes.lent_part c.args.part in
    let none = sym (ap (option_map lent) c.in_default.is) ∙ c.span_of.ensures.span in
    none-more m c.args.port p (shapes.lent c.shape.result) c.shape.ensures z (is_met c.args.spans.now.entries z) none

pub returns-then-is_met-clause-free : goal.returns-then-is_met-clause-free
returns-then-is_met-clause-free c = λ earlier has.
    let m = port_map c.args.self.now in
    let p = shapes.lent_part c.args.part in
    let some = sym (ap (option_map lent) c.in-Some.is) ∙ c.span_of.ensures.span in
    some-taken m c.args.port p (shapes.lent c.shape.result) c.shape.ensures (lent c.in-Some.span) c.args.spans.now.entries _ some (sym c.if-is_met.true ∙ c.is_met.ensures) earlier has

pub returns-clause-free : goal.returns-clause-free
returns-clause-free c = λ earlier has.
    let m = port_map c.args.self.now in
    let p = shapes.lent_part c.args.part in
    let some = sym (ap (option_map lent) c.in-Some.is) ∙ c.span_of.ensures.span in
    some-taken m c.args.port p (shapes.lent c.shape.result) c.shape.ensures (lent c.in-Some.span) c.args.spans.now.entries _ some (sym c.if-is_met.false ∙ c.is_met.ensures) earlier has

pub returns-clause-taken : goal.returns-clause-taken
returns-clause-taken c = λ free z.
    let m = port_map c.args.self.now in
    let p = shapes.lent_part c.args.part in
    let some = sym (ap (option_map lent) c.in-Some.is) ∙ c.span_of.ensures.span in
    some-more m c.args.port p (shapes.lent c.shape.result) c.shape.ensures (lent c.in-Some.span) z (is_met c.args.spans.now.entries z) _ some (c.in_ok-put_span.ensures.met z)
