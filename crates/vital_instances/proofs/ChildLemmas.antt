-- The statements of a netlist unit.
use Rattle.std.proofs.Common.{◌≡◌, ℕ, ◌+◌, ◌<◌, List, [], ◌∷◌, ◌++◌, length, drop, map, get_or, refl, sym, ap, ◌∙◌}
use Rattle.std.specs.Prelude.{Option, None, Result, Ok, Err}
use Rattle.std.proofs.lemmas.List.{drop_more}
use Rattle.vital_nodes.specs.declared.expr.Item.{Item}
use Rattle.vital_nodes.specs.declared.identifier.Identifier.{Identifier}
use Rattle.vital_nodes.specs.declared.unit.Units.{Units}
use Rattle.vital_structure.specs.declared.statement.Statement.{Statement as Statement'}
use Rattle.vital_structure.specs.Signals.{UnitSignal}
use Rattle.vital_structure.specs.Statements.{lent}
use Rattle.vital_structure.specs.Structures.{NetUnit, fault_in, signals_of, statements_of}
use Rattle.vital_structure.specs.Faults as of_units
use Rattle.vital_instances.specs.Children.{Child, child_in, children, children_behind, unless_fault, without_generics}
use Rattle.vital_instances.specs.Faults.{Fault, GenericMap, followed}

-- what is left begins with the next statement
left-is : (ss : List Statement') (i : ℕ) (x : Statement') → i < length ss → x ≡ get_or ss i x → map lent (drop i ss) ≡ lent x ∷ map lent (drop (i + 1) ss)
left-is ss i x within is =
    ap (map lent) (drop_more ss i x within) ∙ ap (λ y. lent y ∷ map lent (drop (i + 1) ss)) (sym is)

-- a good one gives one instance more
pub children-more : (files : List Units) (signals : List UnitSignal) (earlier : List Child) (ss : List Statement') (i : ℕ) (x : Statement') (c : Child) → i < length ss → x ≡ get_or ss i x → child_in files signals (lent x) ≡ Ok c → children_behind files signals earlier (map lent (drop i ss)) ≡ children_behind files signals (earlier ++ c ∷ []) (map lent (drop (i + 1) ss))
children-more files signals earlier ss i x c within is good =
    let others = map lent (drop (i + 1) ss) in
    ap (children_behind files signals earlier) (left-is ss i x within is)
    ∙ ap (λ (r : Result Child Fault). followed r (λ d. children_behind files signals (earlier ++ d ∷ []) others)) good

-- a fault ends them
pub children-wrong : (files : List Units) (signals : List UnitSignal) (earlier : List Child) (ss : List Statement') (i : ℕ) (x : Statement') (f : Fault) → i < length ss → x ≡ get_or ss i x → child_in files signals (lent x) ≡ Err f → children_behind files signals earlier (map lent (drop i ss)) ≡ Err f
children-wrong files signals earlier ss i x f within is wrong =
    let others = map lent (drop (i + 1) ss) in
    ap (children_behind files signals earlier) (left-is ss i x within is)
    ∙ ap (λ (r : Result Child Fault). followed r (λ d. children_behind files signals (earlier ++ d ∷ []) others)) wrong

-- ---- a generic map

pub generics-given : (is : List Item) (name : Identifier) (child : Result Child Fault) → (is ≡ [] → ⊥) → without_generics is name child ≡ Err (GenericMap name)
generics-given [] name child some = absurd (some refl)
generics-given (i ∷ is) name child some = refl

-- ---- all of a unit

pub children-are : (files : List Units) (u s : NetUnit) (ss : List Statement') → fault_in u ≡ None → s ≡ u → map lent ss ≡ statements_of s → children_behind files (signals_of s) [] (map lent ss) ≡ children files u
children-are files u s ss none same are =
    ap (children_behind files (signals_of s) []) are
    ∙ ap (λ (v : NetUnit). children_behind files (signals_of v) [] (statements_of v)) same
    ∙ sym (ap (λ (f : Option of_units.UnitFault). unless_fault f (children_behind files (signals_of u) [] (statements_of u))) none)
