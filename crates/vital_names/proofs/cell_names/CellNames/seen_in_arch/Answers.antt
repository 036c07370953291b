use Rattle.std.proofs.Common.{◌≡◌, sym, ◌∙◌, ap}
use Rattle.std.specs.Prelude.{ℕ, Bool, List, ◌++◌, Option}
use Rattle.std.specs.Option.{option_map, option_or}
use Rattle.std.specs.Str.{bytes_eq}
use Rattle.std.proofs.lemmas.List.Folds.{find-append}
use Rattle.vital_base.specs.Places.{is_before}
use Rattle.vital_base.specs.declared.place.Place.{Place}
use Rattle.vital_names.specs.Declarations.{Declared, body_of, first_named, identifier_of, interface_of, lent}
use Rattle.vital_names.proofs.SeenLemmas.{seen-behind, seen-nowhere, seen-there}
use Rattle.vital_names.proofs.cell_names.CellNames.seen_in_arch.Goals as goal

abbrev stands : Place → Declared → Bool
stands viewpoint d = is_before (identifier_of d).place viewpoint

joined : (name : List ℕ) (body interface : List Declared) (first found : Option Declared) → first ≡ first_named name (body ++ interface) → first ≡ found → option_or (first_named name body) (first_named name interface) ≡ found
joined name body interface first found is same = sym (find-append (λ d. bytes_eq (identifier_of d).name name) body interface) ∙ sym is ∙ same

pub returns-then-stands_before : goal.returns-then-stands_before
returns-then-stands_before c =
    let body = body_of c.args.self.now.arch in
    let interface = interface_of c.args.self.now.entity in
    seen-there (stands c.args.viewpoint) (first_named c.args.name.now body) (first_named c.args.name.now interface) (lent c.in-Some.declared)
    (joined c.args.name.now body interface _ _ c.first.ensures (ap (option_map lent) c.in-Some.is))
    (sym c.stands_before.ensures ∙ c.if-stands_before.true)

pub returns-else-stands_before : goal.returns-else-stands_before
returns-else-stands_before c =
    let body = body_of c.args.self.now.arch in
    let interface = interface_of c.args.self.now.entity in
    c.generic_or_port.ensures
    ∙ seen-behind (stands c.args.viewpoint) (first_named c.args.name.now body) (first_named c.args.name.now interface) (lent c.in-Some.declared)
    (joined c.args.name.now body interface _ _ c.first.ensures (ap (option_map lent) c.in-Some.is))
    (sym c.stands_before.ensures ∙ c.if-stands_before.false)

pub returns-in-None : goal.returns-in-None
returns-in-None c =
    let body = body_of c.args.self.now.arch in
    let interface = interface_of c.args.self.now.entity in
    seen-nowhere (stands c.args.viewpoint) (first_named c.args.name.now body) (first_named c.args.name.now interface)
    (joined c.args.name.now body interface _ _ c.first.ensures (ap (option_map lent) c.in-None.is))
