use Rattle.std.proofs.Common.{◌≡◌, ◌∙◌, List, [], ◌∷◌, ◌++◌, ap, subst, sym}
use Rattle.std.proofs.lemmas.List.Elements.{All-cons, All-nil}
use Rattle.std.specs.Prelude.{All}
use Rattle.vital_as_read.specs.Libraries.{IsFromText}
use Rattle.vital_nodes.specs.declared.unit.Units.{Units}
use Rattle.vital_clause_rows.proofs.library.library_of.Goals as goal

-- the library has the two files that were read
pub returns-in-Ok : goal.returns-in-Ok
returns-in-Ok c =
    let first = c.in_ok-read.field-0 in
    let second = c.in_ok-read-2.field-0 in
    let one = c.in_ok-push.ensures.items ∙ ap (λ (units : List Units). units ++ first ∷ []) c.new-units.ensures.items in
    let two = c.in_ok-push-2.ensures.items ∙ ap (λ (units : List Units). units ++ second ∷ []) one in
    let are : c.in-Ok.library ≡ first ∷ second ∷ [] = c.in-Ok.ensures.files ∙ c.new.ensures ∙ two in
    subst (All IsFromText) (sym are)
    (All-cons IsFromText first (second ∷ []) c.in_ok-read.ensures (All-cons IsFromText second [] c.in_ok-read-2.ensures (All-nil IsFromText)))
