use Rattle.std.proofs.Common.{◌≡◌, ◌++◌, [], ◌∷◌, List, OnOk, sym, ◌∙◌, ap, subst}
use Rattle.std.specs.List.{filter_map}
use Rattle.std.specs.Option.{option_and_then, option_to_list}
use Rattle.vital_objects.specs.declared.generic.PlainGeneric.{PlainGeneric}
use Rattle.vital_objects.specs.declared.generic.TimingGeneric.{TimingGeneric}
use Rattle.vital_objects.specs.Generics.{plain_generic, plain_of_type, timing_generic, timing_of_type}
use Rattle.vital_typed_declarations.specs.Declarations.{lent_sited}
use Rattle.vital_nodes.proofs.Lists.{only-one}
use Rattle.vital_objects.proofs.generic.Generics.put.Goals as goal

pub returns-in-Some-clause-timing : goal.returns-in-Some-clause-timing
returns-in-Some-clause-timing c =
    let names = c.args.reader.now.names.now in
    let faults = c.args.reader.now.faults.now in
    let known = c.args.known.now in
    let g = lent_sited c.args.generic.now in
    let P : List TimingGeneric → Type 0 = λ more. OnOk c.put_typed.result (c.put_typed.new.self.timing.items ≡ c.args.self.now.timing.items ++ more) in
    subst P
    (ap (λ d. option_to_list (option_and_then (timing_of_type names faults known g) d)) c.in-Some.ensures ∙ sym (only-one (timing_generic names faults known) g))
    c.put_typed.ensures.timing

pub returns-in-Some-clause-plain : goal.returns-in-Some-clause-plain
returns-in-Some-clause-plain c =
    let names = c.args.reader.now.names.now in
    let faults = c.args.reader.now.faults.now in
    let known = c.args.known.now in
    let g = lent_sited c.args.generic.now in
    let P : List PlainGeneric → Type 0 = λ more. OnOk c.put_typed.result (c.put_typed.new.self.plain.items ≡ c.args.self.now.plain.items ++ more) in
    subst P
    (ap (λ d. option_to_list (option_and_then (plain_of_type names faults known g) d)) c.in-Some.ensures ∙ sym (only-one (plain_generic names faults known) g))
    c.put_typed.ensures.plain
