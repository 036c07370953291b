use Rattle.std.proofs.Common.{◌≡◌, ℕ, ◌-◌, List, [], ◌∷◌, ◌++◌, take, refl, ap, sym, ◌∙◌, append_assoc}
use Rattle.std.proofs.lemmas.List.{append-nil}
use Rattle.vital_nodes.specs.declared.identifier.Identifier.{Identifier}
use Rattle.vital_shapes.specs.Declarations.{each_iface}
use Rattle.vital_vhdl.proofs.LastDeclared.{each_iface-last}
use Rattle.vital_vhdl.proofs.readers.interfaces.each_iface.Goals as goal

pub returns-in_default : goal.returns-in_default
unfolding each_iface
returns-in_default c =
    let all = c.into_vec-identifiers.result in
    let rest : c.pop.new.self.items ≡ [] = c.pop.ensures.rest ∙ ap (λ (n : ℕ). take (n - 1) all.items) c.in_default.ensures.cases.0 in
    let none : c.args.identifiers ≡ [] = sym c.into_vec-identifiers.ensures ∙ c.in_default.ensures.items ∙ ap (λ (xs : List Identifier). xs ++ []) rest in
    rw (none, append-nil) refl

pub returns : goal.returns
returns c =
    let all : c.args.identifiers ≡ c.pop.new.self.items ++ c.in-Some.identifier ∷ [] = sym c.into_vec-identifiers.ensures ∙ c.in-Some.ensures.items in
    let each = ap (λ (ids : List Identifier). each_iface ids c.args.parts) all ∙ each_iface-last c.pop.new.self.items c.in-Some.identifier c.args.parts in
    rw (each, ← append_assoc) (rw c.in_ok-earlier.ensures at c.pushed.ensures)
