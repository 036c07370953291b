-- All that is declared is seen from each name in the statements of a process, so a name is one of a vector variable at each of them or at none.
use Rattle.std.proofs.Common.{◌≡◌, ℕ, true, false, List, [], ◌∷◌, ◌++◌, Option, Some, None, refl, sym, ap, ◌∙◌}
use Rattle.std.specs.Prelude.{⊤, cond, IfSome}
use Rattle.std.specs.List.{AllByRecursion}
use Rattle.std.specs.Option.{option_and_then, option_map, option_map_or, option_or}
use Rattle.std.specs.Str.{bytes_eq}
use Rattle.std.proofs.lemmas.List.Elements.{recursion_from_All}
use Rattle.vital_actuals.specs.declared.actual.Actual.TheVariants as actual
use Rattle.vital_actuals.specs.declared.target.Target.{Target}
use Rattle.vital_actuals.specs.declared.target.Target.TheVariants as target
use Rattle.vital_actuals.specs.Actuals.{actual_if_given, actual_of}
use Rattle.vital_actuals.specs.Kinds.{operand_in}
use Rattle.vital_actuals.specs.Targets.{target_of_kind, whole_target}
use Rattle.vital_base.specs.declared.place.Place.{Place}
use Rattle.vital_base.specs.Places.{is_before}
use Rattle.vital_call_clauses.specs.WrongCalls.{is_vector, is_vector_kind}
use Rattle.vital_calls.specs.declared.actual_form.ActualForm.TheVariants as form
use Rattle.vital_declarations.specs.Operands.{OperandKind, Signal, Port, VariableOf, ConstantOf, Generic, AliasOf, NoOperand, Level, X01, VectorOf, GlitchData, TimingData, PeriodData, operand_kind}
use Rattle.vital_declarations.specs.Operands as target_kind
use Rattle.vital_expr.specs.Outcomes.{or_broken}
use Rattle.vital_expr.specs.Readings.{breach}
use Rattle.vital_names.specs.declared.predeclared.Predeclared.{Predeclared}
use Rattle.vital_names.specs.declared.site.CellUnit.TheVariants.{Architecture}
use Rattle.vital_names.specs.Declarations.{Declared, body_of, declared_in, first_named, identifier_of, interface_of}
use Rattle.vital_names.specs.Declarations as declared
use Rattle.vital_names.specs.Meanings.{constant_named, constants, declared as meant, first_before, if_before}
use Rattle.vital_names.specs.Sites.{Cell, Site}
use Rattle.vital_names.specs.Words.{predeclared}
use Rattle.vital_nodes.specs.declared.decl.Object.{Object}
use Rattle.vital_nodes.specs.declared.expr.Expr.{Expr}
use Rattle.vital_nodes.specs.declared.expr.Item.{Item as Item'}
use Rattle.vital_nodes.specs.declared.identifier.Identifier.{Identifier}
use Rattle.vital_nodes.specs.declared.stmt.Process.{Process}
use Rattle.vital_nodes.specs.Nodes.{Node, Expression, Item, sequentials}
use Rattle.vital_nodes.specs.Walk.{nodes_of_all}
use Rattle.vital_operands.specs.Positions.{InStatement, Nothing, Position, standing_of}
use Rattle.vital_sections.specs.Given.{target_in}
use Rattle.vital_typed_statements.specs.Statements.{context}
use Rattle.vital_nodes.specs.Items.{actual as actual_given}
use Rattle.vital_nodes.specs.Names.{identifier_of as identifier_in_expr}
use Rattle.vital_as_read.specs.AsRead.{IsProcessAsRead, PrecedesIdentifier, StandsBeforeAll, first_identifier, names_among}
use Rattle.vital_typed_cells.proofs.Closed.{Within}
use Rattle.vital_typed_cells.proofs.Found.{each, found, weaker}
use Rattle.vital_typed_cells.proofs.ItemNodes.{actual-within, identifier-within}
use Rattle.vital_typed_cells.proofs.Lists.{all-both}
use Rattle.vital_typed_cells.proofs.Packages.{each-kept}
use Rattle.vital_typed_cells.proofs.Regions.{back-all, front-all}
use Rattle.vital_typed_cells.proofs.Seen.{meaning_by, site_at}
use Rattle.vital_typed_cells.proofs.StateFits.{or-tree}

-- ---- what is declared before a name

abbrev pub AllBefore : Place → List Declared → Type 0
AllBefore v ds = AllByRecursion (λ d. is_before (identifier_of d).place v ≡ true) ds

-- All that a process and the architecture declare stands before a place.
abbrev pub IsBehindAll : Cell → Process → Place → Type 0
IsBehindAll cell q v = AllBefore v (declared_in q.declarations) × AllBefore v (body_of cell.arch)

abbrev pub NameBehind : Cell → Process → Node → Type 0
NameBehind cell q v = IfSome (first_identifier v) (λ i. IsBehindAll cell q i.place)

turned : {A B : Type 0} (P : A → B → Type 0) (xs : List A) (ys : List B) → AllByRecursion (λ x. AllByRecursion (P x) ys) xs → AllByRecursion (λ y. AllByRecursion (λ x. P x y) xs) ys
turned P [] ys all = each (λ y. ⊤) (λ y. tt) ys
turned P (x ∷ xs) ys all = all-both (P x) (λ y. AllByRecursion (λ z. P z y) xs) ys all.0 (turned P xs ys all.1)

more : {A : Type 0} (P Q : A → Type 0) (o : Option A) → IfSome o P → ((x : A) → P x → Q x) → IfSome o Q
more P Q None has step = tt
more P Q (Some x) has step = step x has

pub names-behind : (cell : Cell) (q : Process) → IsProcessAsRead (body_of cell.arch) q → AllByRecursion (NameBehind cell q) (nodes_of_all (sequentials q.statements))
names-behind cell q read =
    let ds = body_of cell.arch ++ declared_in q.declarations in
    let is = names_among q.statements in
    let pairs : AllByRecursion (λ d. AllByRecursion (PrecedesIdentifier (identifier_of d)) is) ds =
    weaker (StandsBeforeAll is) (λ d. AllByRecursion (PrecedesIdentifier (identifier_of d)) is) (λ d all. recursion_from_All (PrecedesIdentifier (identifier_of d)) is all) ds (recursion_from_All (StandsBeforeAll is) ds read.names_behind) in
    weaker (λ v. IfSome (first_identifier v) (λ i. AllBefore i.place ds)) (NameBehind cell q)
    (λ v has. more (λ i. AllBefore i.place ds) (λ i. IsBehindAll cell q i.place) (first_identifier v) has
    (λ i all. (
      back-all (λ d. is_before (identifier_of d).place i.place ≡ true) (body_of cell.arch) (declared_in q.declarations) all,
      front-all (λ d. is_before (identifier_of d).place i.place ≡ true) (body_of cell.arch) (declared_in q.declarations) all,
    ))) (nodes_of_all (sequentials q.statements))
    (each-kept (λ i. AllBefore i.place ds) first_identifier (nodes_of_all (sequentials q.statements)) (turned (λ d i. is_before (identifier_of d).place i.place ≡ true) ds is pairs))

-- ---- what is declared for a name

whole-or : (name : List ℕ) (v : Place) (o : Option Declared) → IfSome o (λ d. (is_before (identifier_of d).place v ≡ true) × (bytes_eq (identifier_of d).name name ≡ true)) → option_and_then (if_before v) o ≡ o
whole-or name v None has = refl
whole-or name v (Some d) has = ap (λ b. cond b (Some d) None) has.0

seen-whole : (v : Place) (name : List ℕ) (ds : List Declared) → AllBefore v ds → first_before v name ds ≡ first_named name ds
seen-whole v name ds all = whole-or name v (first_named name ds) (found (λ d. is_before (identifier_of d).place v ≡ true) (λ d. bytes_eq (identifier_of d).name name) ds all)

same-declared : (cell : Cell) (q : Process) (name : List ℕ) (v w : Place) → IsBehindAll cell q v → IsBehindAll cell q w → meant name cell (site_at (Some q) v) ≡ meant name cell (site_at (Some q) w)
same-declared cell q name v w first second =
    let own = declared_in q.declarations in
    let body = body_of cell.arch in
    let others = first_named name (interface_of cell.entity) in
    ap (λ o. option_or o (option_or (first_before v name body) others)) (seen-whole v name own first.0 ∙ sym (seen-whole w name own second.0))
    ∙ ap (λ o. option_or (first_before w name own) (option_or o others)) (seen-whole v name body first.1 ∙ sym (seen-whole w name body second.1))

-- ---- vector variables

kind-vector : (p : Position) (i : Identifier) (k : OperandKind) (name : List ℕ) (n : ℕ) → target_of_kind p i k ≡ Some (target.Vector name n) → is_vector_kind k ≡ true
kind-vector p i Signal name n is = absurd (cc)
kind-vector p i (Port m t) name n is = absurd (cc)
kind-vector p i (VariableOf Level) name n is = absurd (cc)
kind-vector p i (VariableOf X01) name n is = absurd (cc)
kind-vector p i (VariableOf (VectorOf r)) name n is = refl
kind-vector p i (VariableOf GlitchData) name n is = absurd (cc)
kind-vector p i (VariableOf TimingData) name n is = absurd (cc)
kind-vector p i (VariableOf PeriodData) name n is = absurd (cc)
kind-vector p i (ConstantOf t) name n is = absurd (cc)
kind-vector p i (Generic t) name n is = absurd (cc)
kind-vector p i (AliasOf (target_kind.Variable o)) name n is = absurd (cc)
kind-vector p i (AliasOf (target_kind.Element o m)) name n is = absurd (cc)
kind-vector p i (AliasOf (target_kind.Constant o)) name n is = absurd (cc)
kind-vector p i (AliasOf (target_kind.PackageConstant m o)) name n is = absurd (cc)
kind-vector p i (AliasOf target_kind.NoTarget) name n is = absurd (cc)
kind-vector p i NoOperand name n is = absurd (cc)

declared-vector : (cell : Cell) (p : Position) (i : Identifier) (here there : Site) (d : Declared) (name : List ℕ) (n : ℕ) → target_of_kind p i (operand_kind cell here d) ≡ Some (target.Vector name n) → is_vector_kind (operand_kind cell there d) ≡ true
declared-vector cell p i here there (declared.Generic g) name n is = kind-vector p i (operand_kind cell here (declared.Generic g)) name n is
declared-vector cell p i here there (declared.Port g) name n is = kind-vector p i (operand_kind cell here (declared.Port g)) name n is
declared-vector cell p i here there (declared.Object o) name n is = kind-vector p i (operand_kind cell here (declared.Object o)) name n is
declared-vector cell p i here there (declared.Alias a) name n is = kind-vector p i (operand_kind cell here (declared.Alias a)) name n is

abbrev at : Cell → Process → Position
at cell q = InStatement cell Architecture (Some q)

meant-vector : (cell : Cell) (q : Process) (i : Identifier) (there : Site) (d : Option Declared) (c : Option (ℕ × Object)) (w : Option Predeclared) (name : List ℕ) (n : ℕ)
    → target_of_kind (at cell q) i (operand_in (option_map_or (standing_of (at cell q) i) (meaning_by d c w) Nothing)) ≡ Some (target.Vector name n) → option_map_or (λ e. is_vector_kind (operand_kind cell there e)) d false ≡ true
meant-vector cell q i there (Some d) c w name n is = declared-vector cell (at cell q) i (site_at (Some q) i.place) there d name n is
meant-vector cell q i there None (Some c) w name n is = absurd (cc)
meant-vector cell q i there None None (Some w) name n is = absurd (cc)
meant-vector cell q i there None None None name n is = absurd (cc)

identifier-vector : (cell : Cell) (q : Process) (i : Identifier) (v : Place) (name : List ℕ) (n : ℕ) → IsBehindAll cell q i.place → IsBehindAll cell q v → whole_target (at cell q) i ≡ Some (target.Vector name n) → is_vector cell (site_at (Some q) v) i ≡ true
identifier-vector cell q i v name n here there is =
    ap (λ d. option_map_or (λ e. is_vector_kind (operand_kind cell (site_at (Some q) v) e)) d false) (same-declared cell q i.name v i.place there here)
    ∙ meant-vector cell q i (site_at (Some q) v) (meant i.name cell (site_at (Some q) i.place)) (constant_named i.name (constants cell.files)) (predeclared i.name) name n is

some-vector : (cell : Cell) (q : Process) (v : Place) (o : Option Identifier) (name : List ℕ) (n : ℕ) → IfSome o (λ i. IsBehindAll cell q i.place) → IsBehindAll cell q v → option_and_then (whole_target (at cell q)) o ≡ Some (target.Vector name n)
    → option_map_or (is_vector cell (site_at (Some q) v)) o false ≡ true
some-vector cell q v None name n here there is = absurd (cc)
some-vector cell q v (Some i) name n here there is = identifier-vector cell q i v name n here there is

target-back : (o : Option Target) (t : Target) → option_and_then target_in (option_map (λ u. actual.Target u) o) ≡ Some t → o ≡ Some t
target-back None t is = absurd (cc)
target-back (Some u) t is = is

given-vector : (cell : Cell) (q : Process) (v : Place) (j : Item') (o : Option Expr) (name : List ℕ) (n : ℕ) → IfSome o (λ e. Within (NameBehind cell q) (Expression e)) → IsBehindAll cell q v
    → option_and_then target_in (actual_if_given (context cell (Some q) []) form.Result j o).tree ≡ Some (target.Vector name n) → option_map_or (is_vector cell (site_at (Some q) v)) (option_and_then identifier_in_expr o) false ≡ true
given-vector cell q v j None name n within there is = absurd (cc)
given-vector cell q v j (Some e) name n within there is =
    some-vector cell q v (identifier_in_expr e) name n (identifier-within (NameBehind cell q) (λ i. IsBehindAll cell q i.place) e (λ r behind. behind) within) there
    (sym (or-tree (breach (context cell (Some q) []) e) (option_and_then (whole_target (at cell q)) (identifier_in_expr e))) ∙ target-back (or_broken (breach (context cell (Some q) []) e) (option_and_then (whole_target (at cell q)) (identifier_in_expr e))).tree (target.Vector name n) is)

-- What is given as a vector is an identifier of a vector variable, seen from a name in the statements.
pub item-vector : (cell : Cell) (q : Process) (v : Place) (o : Option Item') (name : List ℕ) (n : ℕ) → IfSome o (λ i. Within (NameBehind cell q) (Item i)) → IsBehindAll cell q v
    → option_and_then target_in (option_and_then (λ i. (actual_of (context cell (Some q) []) form.Result i).tree) o) ≡ Some (target.Vector name n)
    → option_map_or (is_vector cell (site_at (Some q) v)) (option_and_then identifier_in_expr (option_and_then actual_given o)) false ≡ true
item-vector cell q v None name n within there is = absurd (cc)
item-vector cell q v (Some i) name n within there is = given-vector cell q v i (actual_given i) name n (actual-within (NameBehind cell q) i within) there is
