use Rattle.std.proofs.Common.{◌≡◌, Some, length, refl, sym, ◌∙◌, ap, position}
use Rattle.std.specs.List.{slice_get}
use Rattle.std.proofs.lemmas.Option.{slice_get_read}
use Rattle.vital_library.specs.Constants.{constants_of, has_name}
use Rattle.vital_names.specs.Meanings.{constant_named, constants}
use Rattle.vital_names.proofs.ConstantLemmas.{numbered-none, numbered-some, lent-at}
use Rattle.vital_names.proofs.library_names.LibraryNames.constant.Goals as goal

pub returns-in-Some-get : goal.returns-in-Some-get
returns-in-Some-get c =
    let name = c.args.name.now in
    let os = constants_of c.self.inside.library.now in
    let number : Some c.in-Some.number ≡ position (has_name name) os = sym c.in-Some.is ∙ c.constant_named.ensures in
    let at : slice_get os c.in-Some.number ≡ Some c.in-Some-get.object.now.now =
    ap (λ cs. slice_get cs c.in-Some.number) (sym c.self.invariant.0)
    ∙ lent-at c.self.inside.constants.items c.in-Some.number c.in-Some-get.object.now (ap (λ cs. slice_get cs c.in-Some.number) (sym c.deref.ensures.value)
    ∙ slice_get_read c.deref.result.now (length c.deref.result.now) c.in-Some.number c.in-Some-get.object.now refl c.in-Some-get.ensures.lookup.3.0 c.in-Some-get.ensures.lookup.1) in
    sym (numbered-some (has_name name) os c.in-Some.number c.in-Some-get.object.now.now number at)
    ∙ ap (λ files. constant_named name (constants files)) c.self.view_is

pub returns-in-None : goal.returns-in-None
returns-in-None c =
    let name = c.args.name.now in
    sym (numbered-none (has_name name) (constants_of c.self.inside.library.now) (sym c.in-None.is ∙ c.constant_named.ensures))
    ∙ ap (λ files. constant_named name (constants files)) c.self.view_is
