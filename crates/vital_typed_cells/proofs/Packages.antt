-- A constant of a package that breaks no clause is worth a value of its type, or a table as its rows are read.
use Rattle.std.proofs.Common.{◌≡◌, ℕ, zero, suc, ◌+◌, Bool, true, false, List, [], ◌∷◌, ◌++◌, length, Option, Some, None, refl, sym, ap, ◌∙◌, subst, arith}
use Rattle.std.specs.Prelude.{⊤, ◌&&◌, ◌||◌, cond, is_none, not, slice_get, take, unwrap_or, find, IfSome, IsSome}
use Rattle.std.specs.List.{AllByRecursion, cons_option, filter_map, flat_map, fold, list_any}
use Rattle.std.specs.Option.{option_and_then, option_map, option_map_or}
use Rattle.std.proofs.lemmas.List.{append_assoc, append-nil, length-append}
use Rattle.std.proofs.lemmas.List.Elements.{All-from_recursion}
use Rattle.std.proofs.lemmas.Option.{same_Some}
use Rattle.vital_base.specs.declared.place.Place.{Place}
use Rattle.vital_declaration_clauses.specs.GoodConstants.{is_good_constant, is_symbol_type}
use Rattle.vital_declaration_clauses.specs.Scopes as scopes
use Rattle.vital_declarations.specs.Constants.{character}
use Rattle.vital_declarations.specs.declared.declared_type.TableType.{TableType}
use Rattle.vital_declarations.specs.declared.declared_type.TableType.TheVariants as table
use Rattle.vital_declarations.specs.Types.{type_of}
use Rattle.vital_expr.specs.Readings.{worth as worth_of}
use Rattle.vital_library.specs.Constants.{constants_of}
use Rattle.vital_limits.specs.ConstantLimits.{named_at}
use Rattle.vital_names.specs.Meanings.{constants}
use Rattle.vital_names.specs.TypeNames.{type_named}
use Rattle.vital_nodes.specs.declared.decl.Object.{Object}
use Rattle.vital_nodes.specs.declared.decl.ObjectClass.TheVariants as class
use Rattle.vital_nodes.specs.declared.decl.ObjectParts.{ObjectParts}
use Rattle.vital_nodes.specs.declared.expr.Expr.{Expr}
use Rattle.vital_nodes.specs.declared.unit.Units.{Units}
use Rattle.vital_nodes.specs.Nodes.{Node, Expression, expression_if_there}
use Rattle.vital_nodes.specs.Walk.{nodes_of, nodes_of_all}
use Rattle.vital_objects.specs.declared.package_value.PackageValue.{PackageValue}
use Rattle.vital_objects.specs.declared.package_value.PackageValue.TheVariants as worth
use Rattle.vital_objects.specs.PackageValues.{at_package, known_value, next_value, package_values, rows_in, value_at, with_next}
use Rattle.vital_objects.specs.Together.{beside_lasts}
use Rattle.vital_operands.specs.Named.{is_table_type}
use Rattle.vital_operands.specs.Positions.{InPackage}
use Rattle.vital_package_constants.specs.declared.breaches.ConstantBreaches.{ConstantBreaches}
use Rattle.vital_package_constants.specs.Breaches.{breaches_at, breaks_any, constant_breaches, fault_at, faults_in, is_faulty, is_filled, names_broken, next_breaches, own, place_at}
use Rattle.vital_package_constants.specs.Breaches as breaches
use Rattle.vital_package_constants.specs.Names.{is_undeclared, is_wrong_call, nodes_of_constant}
use Rattle.vital_package_constants.specs.Tables.{has_wrong_table}
use Rattle.vital_typed_declarations.specs.Asked.{of_object}
use Rattle.vital_typed_declarations.specs.Declarations.{object_value}
use Rattle.vital_typed_declarations.specs.Values.{value_if_given}
use Rattle.vital_uses.specs.Parts.{asked_of_subtype}
use Rattle.vital_nodes.specs.Objects.{is_constant, is_constant_class}
use Rattle.vital_typed_cells.specs.Positions.{HasNameAt}
use Rattle.vital_typed_cells.proofs.Anything.{any-tables}
use Rattle.vital_typed_cells.proofs.Nodes.{node-sound}
use Rattle.vital_typed_cells.proofs.Readings.{SoundReading}
use Rattle.vital_as_read.specs.AsRead.{AreConstantsTogether}
use Rattle.vital_typed_cells.proofs.AsRead.{IsConstantTogether, alike-beside}
use Rattle.vital_typed_cells.proofs.Found.{weaker}
use Rattle.vital_typed_cells.proofs.Lookups.{IsAt, constants-are}
use Rattle.vital_typed_cells.proofs.LaterRows.{rows-later}
use Rattle.vital_typed_cells.proofs.PackageNames.{HasFree, IsIn, firsts-at, node-there, symbol-there}
use Rattle.vital_typed_cells.proofs.Regions.{back-all, front-all}
use Rattle.vital_typed_cells.proofs.Rows.{RowsAre, SymbolAt, SymbolGood, TableGood, good-rows, good-symbol, table-good}
use Rattle.vital_typed_cells.proofs.Tests.{both-true, not-false, one-true, other-true, second-true}
use Rattle.vital_typed_cells.proofs.Unbroken.{IsFree, any-false, each-free, first-false, folded-free, second-false}
use Rattle.vital_typed_cells.proofs.Worth.{IsWell, IsWorth, known_scope, next_at, well-worth}

-- ---- what holds of what a function keeps

pub head-kept : {B : Type 0} (P : B → Type 0) (o : Option B) (bs : List B) → AllByRecursion P (cons_option o bs) → IfSome o P × AllByRecursion P bs
head-kept P None bs all = (tt, all)
head-kept P (Some b) bs all = all

pub each-kept : {A B : Type 0} (P : B → Type 0) (f : A → Option B) (xs : List A) → AllByRecursion P (filter_map f xs) → AllByRecursion (λ x. IfSome (f x) P) xs
each-kept P f [] all = tt
each-kept P f (x ∷ xs) all =
    let both = head-kept P (f x) (filter_map f xs) all in
    (both.0, each-kept P f xs both.1)

-- ---- constants before one

-- A constant of a package that is a table is worth the rows that are read in its value.
abbrev pub PackageTable : List Units → ℕ → Option Expr → Option PackageValue → Type 0
PackageTable files k e v = (rows : List (List ℕ)) × ((v ≡ Some (worth.Table rows)) × RowsAre (scopes.InPackage files k) e rows)

-- What is known of the constant of a number with these parts: it is worth a value of its type, or a table; and one of the type of symbols
-- is a character.
pub record IsKnown (files : List Units) (k : ℕ) (ps : ObjectParts) (v : Option PackageValue) : Type 0 where
  pub worth : IsWorth (type_of ps.subtype) v
  pub symbol : is_symbol_type (type_of ps.subtype) ≡ true → IsSome (option_and_then character ps.value)
  pub table : (t : TableType) → is_table_type t (type_of ps.subtype) ≡ true → PackageTable files k ps.value v

-- It is known of a constant that breaks no clause.
abbrev pub IsWorthIf : List Units → ℕ → Object → ConstantBreaches → Option PackageValue → Type 0
IsWorthIf files k o b v = IsFree b → IsKnown files k o.parts v

-- So it is of all of several, from a number on.
abbrev pub Worths : List Units → ℕ → List Object → List ConstantBreaches → List (Option PackageValue) → Type 0
Worths files n [] [] [] = ⊤
Worths files n [] [] (v ∷ vs) = ⊥
Worths files n [] (b ∷ bs) vs = ⊥
Worths files n (o ∷ os) [] vs = ⊥
Worths files n (o ∷ os) (b ∷ bs) [] = ⊥
Worths files n (o ∷ os) (b ∷ bs) (v ∷ vs) = IsWorthIf files n o b v × Worths files (suc n) os bs vs

pub one-more : (files : List Units) (n m : ℕ) (os : List Object) (bs : List ConstantBreaches) (vs : List (Option PackageValue)) (o : Object) (b : ConstantBreaches) (v : Option PackageValue) → m ≡ n + length os → Worths files n os bs vs → IsWorthIf files m o b v → Worths files n (os ++ o ∷ []) (bs ++ b ∷ []) (vs ++ v ∷ [])
one-more files n m [] [] [] o b v is all more = (let same : m ≡ n = omega (arith, is) in subst (λ k. IsWorthIf files k o b v) same more, tt)
one-more files n m [] [] (w ∷ vs) o b v is all more = absurd all
one-more files n m [] (c ∷ bs) vs o b v is all more = absurd all
one-more files n m (q ∷ os) [] vs o b v is all more = absurd all
one-more files n m (q ∷ os) (c ∷ bs) [] o b v is all more = absurd all
one-more files n m (q ∷ os) (c ∷ bs) (w ∷ vs) o b v is all more = (all.0, one-more files (suc n) m os bs vs o b v (omega (arith, is)) all.1 more)

known-at : (files : List Units) (n m k : ℕ) (os : List Object) (bs : List ConstantBreaches) (vs : List (Option PackageValue)) (o : Object) → k ≡ n + m → Worths files n os bs vs → slice_get os m ≡ Some o → IsWorthIf files k o (breaches_at bs m) (value_at vs m)
known-at files n m k [] [] [] o at all is = absurd (cc)
known-at files n m k [] [] (v ∷ vs) o at all is = absurd all
known-at files n m k [] (b ∷ bs) vs o at all is = absurd all
known-at files n m k (q ∷ os) [] vs o at all is = absurd all
known-at files n m k (q ∷ os) (b ∷ bs) [] o at all is = absurd all
known-at files n zero k (q ∷ os) (b ∷ bs) (v ∷ vs) o at all is =
    let same : n ≡ k = omega (arith, at) in
    subst (λ j. IsWorthIf files j o b v) same (subst (λ (x : Object). IsWorthIf files n x b v) (same_Some q o is) all.0)
known-at files n (suc m) k (q ∷ os) (b ∷ bs) (v ∷ vs) o at all is = known-at files (suc n) m k os bs vs o (omega (arith, at)) all.1 is

pub worth-at : (files : List Units) (os : List Object) (bs : List ConstantBreaches) (vs : List (Option PackageValue)) (m : ℕ) (o : Object) → Worths files 0 os bs vs → slice_get os m ≡ Some o → IsWorthIf files m o (breaches_at bs m) (value_at vs m)
worth-at files os bs vs m o all is = known-at files 0 m m os bs vs o (omega arith) all is

pub breach-count : (files : List Units) (n : ℕ) (os : List Object) (bs : List ConstantBreaches) (vs : List (Option PackageValue)) → Worths files n os bs vs → length bs ≡ length os
breach-count files n [] [] [] all = refl
breach-count files n [] [] (v ∷ vs) all = absurd all
breach-count files n [] (b ∷ bs) vs all = absurd all
breach-count files n (o ∷ os) [] vs all = absurd all
breach-count files n (o ∷ os) (b ∷ bs) [] all = absurd all
breach-count files n (o ∷ os) (b ∷ bs) (v ∷ vs) all = ap suc (breach-count files (suc n) os bs vs all.1)

pub value-count : (files : List Units) (n : ℕ) (os : List Object) (bs : List ConstantBreaches) (vs : List (Option PackageValue)) → Worths files n os bs vs → length vs ≡ length os
value-count files n [] [] [] all = refl
value-count files n [] [] (v ∷ vs) all = absurd all
value-count files n [] (b ∷ bs) vs all = absurd all
value-count files n (o ∷ os) [] vs all = absurd all
value-count files n (o ∷ os) (b ∷ bs) [] all = absurd all
value-count files n (o ∷ os) (b ∷ bs) (v ∷ vs) all = ap suc (value-count files (suc n) os bs vs all.1)

-- ---- names in the value of a constant

-- A constant that breaks no clause is in the scope of those that are known, and is a character where it is of the type of symbols.
pub constants-there : (files : List Units) (os : List Object) (bs : List ConstantBreaches) (known : List (Option PackageValue)) → Worths files 0 os bs known → HasFree os (λ m. IsFree (breaches_at bs m)) (IsIn (known_scope known))
constants-there files os bs known all = λ k o is free.
    let has = (worth-at files os bs known k o all is free).worth in
    record { levels = has.levels; times = has.times; delays = has.delays }

symbols-there : (files : List Units) (os : List Object) (bs : List ConstantBreaches) (known : List (Option PackageValue)) → Worths files 0 os bs known → HasFree os (λ m. IsFree (breaches_at bs m)) (λ k o. SymbolGood o)
symbols-there files os bs known all = λ k o is free symbol.
    (worth-at files os bs known k o all is free).symbol (second-true (is_constant o) (is_symbol_type (type_of o.parts.subtype)) symbol)

-- ---- the value of a constant

-- What holds of all nodes of several holds of those of the last.
pub flat-back : {A B : Type 0} (P : B → Type 0) (f : A → List B) (xs ys : List A) → AllByRecursion P (flat_map f (xs ++ ys)) → AllByRecursion P (flat_map f ys)
flat-back P f [] ys all = all
flat-back P f (x ∷ xs) ys all = flat-back P f xs ys (back-all P (f x) (flat_map f (xs ++ ys)) all)

pub value-nodes : (P : Node → Type 0) (vs : List Node) (o : Option Expr) → AllByRecursion P (nodes_of_all (vs ++ expression_if_there o)) → IfSome o (λ e. AllByRecursion P (nodes_of (Expression e)))
value-nodes P vs None all = tt
value-nodes P vs (Some e) all = front-all P (nodes_of (Expression e)) [] (flat-back P nodes_of vs (Expression e ∷ []) all)

-- What is declared together is asked about at the last.
pub last-nodes : (P : Node → Type 0) (last : Bool) (vs : List Node) (o : Option Expr) → last ≡ true → AllByRecursion P (nodes_of_all (cond last (vs ++ expression_if_there o) [])) → IfSome o (λ e. AllByRecursion P (nodes_of (Expression e)))
last-nodes P true vs o is free = value-nodes P vs o free
last-nodes P false vs o is free = cc

value-sound : (files : List Units) (known : List (Option PackageValue)) (n : ℕ) (o : Option Expr) → IfSome o (λ e. AllByRecursion (HasNameAt (known_scope known) (InPackage files n)) (nodes_of (Expression e)))
    → IfSome o (λ e. SoundReading (known_scope known) (worth_of (at_package files n) (Expression e)))
value-sound files known n None all = tt
value-sound files known n (Some e) all =
    node-sound (known_scope known) (at_package files n) (Expression e) (All-from_recursion (HasNameAt (known_scope known) (InPackage files n)) (nodes_of (Expression e)) all)
    (any-tables (known_scope known) (at_package files n) (Expression e) (λ name inputs results. refl))

not-broken : (bs : List ConstantBreaches) (o : Option ℕ) → IfSome o (λ m. IsFree (breaches_at bs m)) → option_map_or (λ m. breaks_any (breaches_at bs m)) o false ≡ false
not-broken bs None free = refl
not-broken bs (Some m) free = free

neither : (a b c : Bool) → a ≡ false → b ≡ false → c ≡ false → (a || (b || c)) ≡ false
neither a b c first second third = ap (λ x. x || (b || c)) first ∙ ap (λ x. x || c) second ∙ third

-- No name is at fault in the value of a constant that breaks nothing.
no-fault-at : (files : List Units) (bs : List ConstantBreaches) (v : Node) → is_faulty files bs v ≡ false → fault_at files bs v ≡ None
no-fault-at files bs v free = ap (λ b. cond b (place_at v) None) free

no-faults : (files : List Units) (bs : List ConstantBreaches) (vs : List Node) → AllByRecursion (λ v. is_faulty files bs v ≡ false) vs → faults_in files bs vs ≡ []
no-faults files bs [] all = refl
no-faults files bs (v ∷ vs) all = ap (λ o. cons_option o (faults_in files bs vs)) (no-fault-at files bs v all.0) ∙ no-faults files bs vs all.1

no-places : (places : List Place) → is_filled places ≡ false → places ≡ []
no-places [] free = refl
no-places (p ∷ ps) free = cc

abbrev pub NamedFree : List Units → List ConstantBreaches → Node → Type 0
NamedFree files bs v = IfSome (named_at files (length bs) v) (λ m. IsFree (breaches_at bs m))

none-faulty : (files : List Units) (bs : List ConstantBreaches) (vs : List Node) → AllByRecursion (λ v. is_undeclared files (length bs) v ≡ false) vs → AllByRecursion (λ v. is_wrong_call files (length bs) v ≡ false) vs
    → AllByRecursion (NamedFree files bs) vs → AllByRecursion (λ v. is_faulty files bs v ≡ false) vs
none-faulty files bs [] declared called named = tt
none-faulty files bs (v ∷ vs) declared called named = (
  neither (is_undeclared files (length bs) v) (is_wrong_call files (length bs) v) (names_broken files bs v) declared.0 called.0 (not-broken bs (named_at files (length bs) v) named.0),
  none-faulty files bs vs declared.1 called.1 named.1,
)

pub own-faultless : (files : List Units) (bs : List ConstantBreaches) (o : Object) → IsFree (own files bs o) → AllByRecursion (NamedFree files bs) (nodes_of_constant o) → faults_in files bs (nodes_of_constant o) ≡ []
own-faultless files bs o free named =
    let each = each-free (own files bs o) free in
    let declared : AllByRecursion (λ v. is_undeclared files (length bs) v ≡ false) (nodes_of_constant o) =
    any-false (is_undeclared files (length bs)) (nodes_of_constant o) (second-false (is_none (type_named o.parts.subtype.name)) (list_any (is_undeclared files (length bs)) (nodes_of_constant o)) each.names) in
    let called : AllByRecursion (λ v. is_wrong_call files (length bs) v ≡ false) (nodes_of_constant o) = any-false (is_wrong_call files (length bs)) (nodes_of_constant o) each.calls in
    no-faults files bs (nodes_of_constant o) (none-faulty files bs (nodes_of_constant o) declared called named)

own-well : (files : List Units) (os : List Object) (bs : List ConstantBreaches) (known : List (Option PackageValue)) (o : Object) → o.«class» ≡ class.Constant → Worths files 0 os bs known → AllByRecursion (IsAt 0 os) (take (length bs) (constants files))
    → IsFree (own files bs o) → AllByRecursion (NamedFree files bs) (nodes_of_constant o) → IsWell files known (length bs) o
own-well files os bs known o is all at free named =
    let each = each-free (own files bs o) free in
    let none : faults_in files bs (nodes_of_constant o) ≡ [] = own-faultless files bs o free named in
    record {
      class_is = is;
      good =
          not-false (is_good_constant (scopes.InPackage files (length bs)) o)
          (first-false (not (is_good_constant (scopes.InPackage files (length bs)) o)) (has_wrong_table files (breaches.context files (length bs) (faults_in files bs (nodes_of_constant o))) (nodes_of_constant o)) each.constants);
      judged =
          no-places (value_if_given (breaches.context files (length bs) []) (of_object o) o.parts.value).places
          (subst (λ fs. is_filled (value_if_given (breaches.context files (length bs) fs) (of_object o) o.parts.value).places ≡ false) none each.forms);
      sound =
          value-sound files known (length bs) o.parts.value
          (value-nodes (HasNameAt (known_scope known) (InPackage files (length bs))) (asked_of_subtype o.parts.subtype) o.parts.value
          (weaker (NamedFree files bs) (HasNameAt (known_scope known) (InPackage files (length bs)))
          (node-there (known_scope known) files (length bs) os (λ m. IsFree (breaches_at bs m)) (constants-there files os bs known all) at) (nodes_of_constant o) named));
    }

-- The symbols that its value names are characters.
own-symbols : (files : List Units) (os : List Object) (bs : List ConstantBreaches) (known : List (Option PackageValue)) (o : Object) → Worths files 0 os bs known → AllByRecursion (IsAt 0 os) (take (length bs) (constants files))
    → AllByRecursion (NamedFree files bs) (nodes_of_constant o) → TableGood (scopes.InPackage files (length bs)) o.parts.value
own-symbols files os bs known o all at named =
    table-good (scopes.InPackage files (length bs)) o.parts.value
    (value-nodes (SymbolAt (scopes.InPackage files (length bs))) (asked_of_subtype o.parts.subtype) o.parts.value
    (weaker (NamedFree files bs) (SymbolAt (scopes.InPackage files (length bs)))
    (symbol-there files (length bs) os (λ m. IsFree (breaches_at bs m)) (symbols-there files os bs known all) at) (nodes_of_constant o) named))

pub any-table : (t : TableType) (o : Object) → o.«class» ≡ class.Constant → is_table_type t (type_of o.parts.subtype) ≡ true
    → (is_constant o && is_table_type table.Truth (type_of o.parts.subtype) || is_constant o && is_table_type table.State (type_of o.parts.subtype)) ≡ true
any-table table.Truth o is typed =
    one-true (is_constant o && is_table_type table.Truth (type_of o.parts.subtype)) (is_constant o && is_table_type table.State (type_of o.parts.subtype))
    (both-true (is_constant o) (is_table_type table.Truth (type_of o.parts.subtype)) (ap is_constant_class is) typed)
any-table table.State o is typed =
    other-true (is_constant o && is_table_type table.Truth (type_of o.parts.subtype)) (is_constant o && is_table_type table.State (type_of o.parts.subtype))
    (both-true (is_constant o) (is_table_type table.State (type_of o.parts.subtype)) (ap is_constant_class is) typed)

own-table : (files : List Units) (known : List (Option PackageValue)) (n : ℕ) (o : Object) (t : TableType) → IsWell files known n o → TableGood (scopes.InPackage files n) o.parts.value → is_table_type t (type_of o.parts.subtype) ≡ true
    → PackageTable files n o.parts.value (next_at files known n o)
own-table files known n o t well named typed =
    let made = good-rows (scopes.InPackage files n) t (type_of o.parts.subtype) o.parts.value named typed well.good in (
      made.0,
      (
        ap (λ b. cond b (option_map (λ rows. worth.Table rows) (rows_in (scopes.InPackage files n) o)) (option_and_then (known_value known) (object_value (at_package files n) o).tree)) (any-table t o well.class_is typed)
            ∙ ap (option_map (λ rows. worth.Table rows)) made.1.read,
        made.1,
      ),
    )

well-known : (files : List Units) (known : List (Option PackageValue)) (n : ℕ) (o : Object) → IsWell files known n o → TableGood (scopes.InPackage files n) o.parts.value → IsKnown files n o.parts (next_at files known n o)
well-known files known n o well named = record {
  worth = well-worth files known n o well;
  symbol = λ is. good-symbol (scopes.InPackage files n) (type_of o.parts.subtype) o.parts.value is well.good;
  table = λ t typed. own-table files known n o t well named typed;
}

next-worth : (files : List Units) (n : ℕ) (os others : List Object) (bs : List ConstantBreaches) (known : List (Option PackageValue)) (o : Object) → n ≡ length os → constants_of files ≡ os ++ others → o.«class» ≡ class.Constant → Worths files 0 os bs known
    → IsWorthIf files n o (next_breaches files bs o) (next_value files known o)
next-worth files n os others bs known o at are is all = λ free.
    let count : length bs ≡ length os = breach-count files 0 os bs known all in
    let values : length known ≡ length os = value-count files 0 os bs known all in
    let same : length bs ≡ length known = count ∙ sym values in
    let first = firsts-at files os others (length bs) are count in
    let both = folded-free (breaches_at bs) (own files bs o) (filter_map (named_at files (length bs)) (nodes_of_constant o)) free in
    let named : AllByRecursion (NamedFree files bs) (nodes_of_constant o) = each-kept (λ m. IsFree (breaches_at bs m)) (named_at files (length bs)) (nodes_of_constant o) both.1 in
    let known_there : IsKnown files (length known) o.parts (next_value files known o) =
    well-known files known (length known) o
    (subst (λ k. IsWell files known k o) same (own-well files os bs known o is all first both.0 named))
    (subst (λ k. TableGood (scopes.InPackage files k) o.parts.value) same (own-symbols files os bs known o all first named)) in
    subst (λ k. IsKnown files k o.parts (next_value files known o)) (values ∙ sym at) known_there

-- ---- constants that are declared together

-- What has begun goes on with the next of them.
abbrev pub BegunHead : List Units → ℕ → List Object → ConstantBreaches → Option PackageValue → Type 0
BegunHead files n [] b v = ⊤
BegunHead files n (o ∷ os) b v = IsWorthIf files n o b v

abbrev pub BegunFor : List Units → ℕ → Option ConstantBreaches → Option (Option PackageValue) → List Object → Type 0
BegunFor files n None None os = ⊤
BegunFor files n None (Some v) os = ⊥
BegunFor files n (Some b) None os = ⊥
BegunFor files n (Some b) (Some v) os = BegunHead files n os b v

abbrev pub Together : List Object → Type 0
Together os = AllByRecursion (λ x. IsConstantTogether x.0 x.1) (beside_lasts (λ o. o.is_last) os)

table-later : (files : List Units) (n : ℕ) (e : Option Expr) (v : Option PackageValue) → PackageTable files n e v → PackageTable files (suc n) e v
table-later files n e v is = (is.0, (is.1.0, record { read = rows-later files n e is.0 is.1.1.read; count = is.1.1.count; even = is.1.1.even }))

known-later : (files : List Units) (n : ℕ) (ps : ObjectParts) (v : Option PackageValue) → IsKnown files n ps v → IsKnown files (suc n) ps v
known-later files n ps v is = record { worth = is.worth; symbol = is.symbol; table = λ t typed. table-later files n ps.value v (is.table t typed) }

goes-on : (files : List Units) (n : ℕ) (o : Object) (os : List Object) (b : ConstantBreaches) (v : Option PackageValue) → IsWorthIf files n o b v → o.is_last ≡ false → Together (o ∷ os) → BegunHead files (suc n) os b v
goes-on files n o [] b v is last together = tt
goes-on files n o (q ∷ qs) b v is last together =
    let own : option_map (λ c. c.parts) (find (λ c. c.is_last) (q ∷ qs)) ≡ Some o.parts =
    sym (ap (λ l. option_map (λ c. c.parts) (cond l (Some o) (find (λ c. c.is_last) (q ∷ qs)))) last) ∙ together.0 in
    let same : q.parts ≡ o.parts = same_Some q.parts o.parts (sym together.1.0 ∙ own) in
    subst (λ (ps : ObjectParts). IsFree b → IsKnown files (suc n) ps v) (sym same) (λ free. known-later files n o.parts v (is free))

pub begun-next : (files : List Units) (n : ℕ) (o : Object) (os : List Object) (b : ConstantBreaches) (v : Option PackageValue) (last : Bool) → IsWorthIf files n o b v → o.is_last ≡ last → Together (o ∷ os)
    → BegunFor files (suc n) (cond last None (Some b)) (cond last None (Some v)) os
begun-next files n o os b v true is last together = tt
begun-next files n o os b v false is last together = goes-on files n o os b v is last together

pub here-worth : (files : List Units) (n : ℕ) (os others : List Object) (o : Object) (begun : Option ConstantBreaches) (bs : List ConstantBreaches) (value : Option (Option PackageValue)) (known : List (Option PackageValue)) → n ≡ length os
    → constants_of files ≡ os ++ o ∷ others → o.«class» ≡ class.Constant → Worths files 0 os bs known → BegunFor files n begun value (o ∷ others) → IsWorthIf files n o (unwrap_or begun (next_breaches files bs o)) (unwrap_or value (next_value files known o))
here-worth files n os others o None bs None known at are is all goes = next-worth files n os (o ∷ others) bs known o at are is all
here-worth files n os others o None bs (Some v) known at are is all goes = absurd goes
here-worth files n os others o (Some b) bs None known at are is all goes = absurd goes
here-worth files n os others o (Some b) bs (Some v) known at are is all goes = goes

-- ---- all constants

abbrev pub BreachState : Type 0
BreachState = List ConstantBreaches × Option ConstantBreaches

abbrev pub ValueState : Type 0
ValueState = List (Option PackageValue) × Option (Option PackageValue)

pub one-longer : (n : ℕ) (os : List Object) (o : Object) → n ≡ length os → suc n ≡ length (os ++ o ∷ [])
one-longer n os o at = let more : length (os ++ o ∷ []) ≡ length os + 1 = length-append os (o ∷ []) in omega (arith, at, more)

all-worths : (files : List Units) (n : ℕ) (os others : List Object) (b : BreachState) (v : ValueState) → n ≡ length os → constants_of files ≡ os ++ others → AllByRecursion (λ o. o.«class» ≡ class.Constant) others → Together others → Worths files 0 os b.0 v.0
    → BegunFor files n b.1 v.1 others → Worths files 0 (os ++ others) (fold (breaches.with_next files) b others).0 (fold (with_next files) v others).0
all-worths files n os [] b v at are classes together all goes = subst (λ (qs : List Object). Worths files 0 qs b.0 v.0) (sym (append-nil os)) all
all-worths files n os (o ∷ others) b v at are classes together all goes =
    let own = unwrap_or b.1 (next_breaches files b.0 o) in
    let value = unwrap_or v.1 (next_value files v.0 o) in
    let is : IsWorthIf files n o own value = here-worth files n os others o b.1 b.0 v.1 v.0 at are classes.0 all goes in
    subst (λ (qs : List Object). Worths files 0 qs (fold (breaches.with_next files) b (o ∷ others)).0 (fold (with_next files) v (o ∷ others)).0) (append_assoc os (o ∷ []) others)
    (all-worths files (suc n) (os ++ o ∷ []) others (breaches.with_next files b o) (with_next files v o) (one-longer n os o at) (are ∙ sym (append_assoc os (o ∷ []) others)) classes.1 together.1
    (one-more files 0 n os b.0 v.0 o own value (omega (arith, at)) all is)
    (begun-next files n o others own value o.is_last is refl together))

-- A constant of a package that breaks no clause is known.
pub package-known : (files : List Units) → AreConstantsTogether files → (n : ℕ) (o : Object) → slice_get (constants_of files) n ≡ Some o → IsFree (breaches_at (constant_breaches files) n) → IsKnown files n o.parts (value_at (package_values files) n)
package-known files together n o is free =
    worth-at files (constants_of files) (constant_breaches files) (package_values files) n o
    (all-worths files 0 [] (constants_of files) ([], None) ([], None) refl refl (constants-are files)
    (alike-beside (λ c. c.is_last) (λ c. c.parts) (constants_of files) together) tt tt) is free
