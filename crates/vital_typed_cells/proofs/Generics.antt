-- The generics of a cell that are delays are among those of its typed tree, with their types.
use Rattle.std.proofs.Common.{◌≡◌, Bool, true, false, List, [], Option, Some, None, refl, sym, ap, ◌∙◌, subst}
use Rattle.std.specs.Prelude.{◌&&◌, ◌||◌, is_some, unwrap_or, IfSome}
use Rattle.std.specs.List.{AllByRecursion, filter_map}
use Rattle.std.specs.Option.{option_and_then, option_map, option_map_or}
use Rattle.std.specs.Str.{bytes_eq}
use Rattle.std.proofs.lemmas.List.{map-id}
use Rattle.std.proofs.lemmas.Option.{same_Some}
use Rattle.vital_declarations.specs.Types.{DeclaredType, Plain, Vector, Table, Other, type_of}
use Rattle.vital_level0.specs.declared.parts.Parts.{Parts}
use Rattle.vital_names.specs.declared.predeclared.TypeName.{TypeName}
use Rattle.vital_names.specs.declared.predeclared.TypeName.TheVariants as type
use Rattle.vital_names.specs.declared.site.CellUnit.TheVariants.{Entity}
use Rattle.vital_names.specs.Sites.{Cell}
use Rattle.vital_nodes.specs.declared.decl.Iface.{Iface}
use Rattle.vital_nodes.specs.declared.expr.Expr.{Expr}
use Rattle.vital_nodes.specs.Nodes.{Expression}
use Rattle.vital_nodes.specs.Walk.{nodes_of}
use Rattle.vital_objects.specs.declared.generic.PlainGeneric.{PlainGeneric}
use Rattle.vital_objects.specs.declared.generic.TimingGeneric.{TimingGeneric}
use Rattle.vital_objects.specs.declared.package_value.PackageValue.{PackageValue}
use Rattle.vital_objects.specs.declared.package_value.PackageValue.TheVariants as worth
use Rattle.vital_objects.specs.Generics.{default_delay, delay_in as delay_in_value, delay_type, delay_type_of, parts, plain_generic, plain_generics, plain_if_whole, plain_of_type, timing_generic, timing_generic_with, timing_generics, timing_of_type}
use Rattle.vital_objects.specs.PackageValues.{delay_in, known_delay, value_at}
use Rattle.vital_operands.specs.declared.tree.ConstantName.TheVariants as constant
use Rattle.vital_operands.specs.declared.tree.DelayExpr.{DelayExpr}
use Rattle.vital_operands.specs.declared.tree.DelayExpr.TheVariants as delays
use Rattle.vital_operands.specs.Named.{even_delay, is_delay as is_delay_type, same_type}
use Rattle.vital_operands.specs.Positions.{InInterface}
use Rattle.vital_timing.specs.declared.delay.Delay.{Delay}
use Rattle.vital_timing.specs.declared.delay.DelayType.{DelayType}
use Rattle.vital_timing.specs.declared.delay.DelayType.TheVariants.{One, Two, Six}
use Rattle.vital_timing.specs.Delays.{type_of as type_of_delay}
use Rattle.vital_typed_cells.specs.Packages.{sound_values}
use Rattle.vital_typed_declarations.specs.declared.asked_type.AskedType.TheVariants as asked
use Rattle.vital_typed_declarations.specs.declared.value.TypedValue.{TypedValue}
use Rattle.vital_typed_declarations.specs.declared.value.TypedValue.TheVariants as value
use Rattle.vital_typed_declarations.specs.Asked.{of_generic, of_generic_type}
use Rattle.vital_typed_declarations.specs.Declarations.{generic_value, in_interface}
use Rattle.vital_uses.specs.Nodes.{sited_interface}
use Rattle.vital_uses.specs.Sited.{Sited}
use Rattle.vital_typed_cells.specs.Times.{are_short}
use Rattle.vital_typed_cells.specs.Trees.{is_sound_delay}
use Rattle.vital_typed_cells.proofs.Anything.{any-tables}
use Rattle.vital_typed_cells.specs.SoundValues.{HasNamesIn, HasTablesIn, ValueScope, is_sound_value, read_default}
use Rattle.vital_typed_cells.proofs.Words.{generic-sound}
use Rattle.vital_typed_cells.specs.TypedDefaults.{HasTypedDefault}
use Rattle.vital_as_read.specs.AsRead.{AreConstantsTogether}
use Rattle.vital_typed_cells.specs.Named.{is_package_delay, is_package_truth, is_plain_generic, is_timing_generic}
use Rattle.vital_typed_cells.proofs.Defaults.{IsInterfaceSite, IsOfPackages, ReadFree, default-names, interface-sites}
use Rattle.vital_typed_cells.proofs.Found.{GivesOne, all-kept, kept, weaker}
use Rattle.vital_typed_cells.proofs.Lists.{all-both, all-some, sited-kept}
use Rattle.vital_typed_cells.proofs.NamedConstants.{FreeAt}
use Rattle.vital_typed_cells.proofs.Tests.{both-true, first-true, one-true, other-true, same-name, second-true}
use Rattle.vital_typed_cells.proofs.Worth.{known_scope}

-- ---- types of delays

same-both : (a b c : DelayType) → same_type a b ≡ true → same_type b c ≡ true → same_type a c ≡ true
same-both One One c first second = second
same-both One Two c first second = cc
same-both One Six c first second = cc
same-both Two One c first second = cc
same-both Two Two c first second = second
same-both Two Six c first second = cc
same-both Six One c first second = cc
same-both Six Two c first second = cc
same-both Six Six c first second = second

-- A type that is a delay of a type.
record IsDelayOf (e : DelayType) (t : DeclaredType) : Type 0 where
  own : DelayType
  own_is : delay_type_of t ≡ Some own
  asked_is : of_generic_type t ≡ asked.Delay own
  same : same_type e own ≡ true

delay-plain : (e : DelayType) (n : TypeName) → is_delay_type e (Plain n) ≡ true → IsDelayOf e (Plain n)
delay-plain e type.StdUlogic is = cc
delay-plain e type.StdLogic is = cc
delay-plain e type.StdLogicVector is = cc
delay-plain e type.X01 is = cc
delay-plain e type.X01Z is = cc
delay-plain e type.Ux01 is = cc
delay-plain e type.Ux01Z is = cc
delay-plain e type.Boolean is = cc
delay-plain e type.Text is = cc
delay-plain e type.Time is = cc
delay-plain e (type.Delay d) is = record { own = d; own_is = refl; asked_is = refl; same = is }
delay-plain e type.TableSymbol is = cc
delay-plain e type.TruthTable is = cc
delay-plain e type.StateTable is = cc
delay-plain e type.GlitchData is = cc
delay-plain e type.TimingData is = cc
delay-plain e type.PeriodData is = cc

delay-of : (e : DelayType) (t : DeclaredType) → is_delay_type e t ≡ true → IsDelayOf e t
delay-of e (Plain n) is = delay-plain e n is
delay-of e (Vector r) is = cc
delay-of e (Table t rows columns) is = cc
delay-of e Other is = cc

-- ---- what a default is worth

-- What constants of packages are worth, as a scope of values.
abbrev pub known_values : List (Option PackageValue) → ValueScope
known_values known = record { names = known_scope known; has_boolean = λ n. option_map_or is_package_truth (value_at known n) false }

pub known-packages : (cell : Cell) → IsOfPackages cell (known_values (sound_values cell.files))
known-packages cell = record {
  constants = λ n o worth. record { levels = worth.levels; times = worth.times; delays = worth.delays };
  booleans = λ n is. is;
}

-- ---- names and tables in defaults

-- What names in an expression of the interface stand for is seen from its site.
abbrev pub NodesFree : Cell → Sited Iface → Option Expr → Type 0
NodesFree cell e o = IfSome o (λ d. AllByRecursion (FreeAt cell e.site) (nodes_of (Expression d)))

pub names-in : (cell : Cell) (e : Sited Iface) (o : Option Expr) → AreConstantsTogether cell.files → IsInterfaceSite e → NodesFree cell e o → HasNamesIn (known_values (sound_values cell.files)) (InInterface cell e.site) o
names-in cell e o together site free =
    subst (λ s. HasNamesIn (known_values (sound_values cell.files)) (InInterface cell s) o) (sym site.1)
    (default-names cell (known_values (sound_values cell.files)) site.0 o together (known-packages cell)
    (subst (λ s. IfSome o (λ x. AllByRecursion (FreeAt cell s) (nodes_of (Expression x)))) site.1 free))

pub tables-in : (cell : Cell) (e : Sited Iface) (o : Option Expr) → HasTablesIn (known_scope (sound_values cell.files)) (in_interface cell [] e.site) o
tables-in cell e None = tt
tables-in cell e (Some d) = any-tables (known_scope (sound_values cell.files)) (in_interface cell [] e.site) (Expression d) (λ name inputs results. refl)

-- ---- the types of defaults

-- A delay of a type, of at most 2^50 fs.
abbrev pub IsShortOf : DelayType → Delay → Type 0
IsShortOf d t = (same_type d (type_of_delay t) && are_short t) ≡ true

even-short : (d : DelayType) → IsShortOf d (even_delay d 0)
even-short One = refl
even-short Two = refl
even-short Six = refl

known-constant : (d : DelayType) (v : Option PackageValue) → option_map_or (is_package_delay d) v false ≡ true → IsShortOf d (unwrap_or (option_and_then delay_in v) (even_delay d 0))
known-constant d None is = cc
known-constant d (Some (worth.Level t)) is = cc
known-constant d (Some (worth.Boolean b)) is = cc
known-constant d (Some (worth.Time t)) is = cc
known-constant d (Some (worth.Delay t)) is = is
known-constant d (Some (worth.Table rows)) is = cc

worth-typed : (known : List (Option PackageValue)) (d : DelayType) (t : DelayExpr) → is_sound_delay (known_scope known) d t ≡ true → IsShortOf d (unwrap_or (known_delay known t) (even_delay d 0))
worth-typed known d (delays.Literal t) is = is
worth-typed known d (delays.Generic name) is = even-short d
worth-typed known d (delays.Constant (constant.Cell name)) is = even-short d
worth-typed known d (delays.Constant (constant.Package n)) is = known-constant d (value_at known n) is

value-typed : (known : List (Option PackageValue)) (d : DelayType) (v : TypedValue) → is_sound_value (known_values known) (asked.Delay d) v ≡ true → IsShortOf d (unwrap_or (option_and_then (known_delay known) (delay_in_value v)) (even_delay d 0))
value-typed known d (value.Level t) is = even-short d
value-typed known d (value.Vector v) is = even-short d
value-typed known d (value.Boolean b) is = even-short d
value-typed known d (value.PackageBoolean n) is = even-short d
value-typed known d (value.Time t) is = even-short d
value-typed known d (value.Delay t) is = worth-typed known d t is
value-typed known d value.Text is = even-short d
value-typed known d value.Untyped is = even-short d
value-typed known d value.Missing is = even-short d

default-typed : (known : List (Option PackageValue)) (d : DelayType) (o : Option TypedValue) → IfSome o (λ v. is_sound_value (known_values known) (asked.Delay d) v ≡ true)
    → IsShortOf d (unwrap_or (option_and_then (known_delay known) (option_and_then delay_in_value o)) (even_delay d 0))
default-typed known d None sound = even-short d
default-typed known d (Some v) sound = value-typed known d v sound

-- The default of a generic that is a delay has its type, and is short.
abbrev pub DefaultTyped : Cell → Sited Iface → Type 0
DefaultTyped cell e = (d : DelayType) → of_generic e.declaration ≡ asked.Delay d → IsShortOf d (default_delay cell [] (sound_values cell.files) d e)

one-typed : (cell : Cell) (e : Sited Iface) → AreConstantsTogether cell.files → IsInterfaceSite e → ReadFree cell e → DefaultTyped cell e
one-typed cell e together site free = λ d is.
    default-typed (sound_values cell.files) d (generic_value (in_interface cell [] e.site) e.declaration).tree
    (subst (λ a. IfSome (generic_value (in_interface cell [] e.site) e.declaration).tree (λ v. is_sound_value (known_values (sound_values cell.files)) a v ≡ true)) is
    (generic-sound (known_values (sound_values cell.files)) (in_interface cell [] e.site) e.declaration (names-in cell e (read_default e.declaration) together site free) (tables-in cell e (read_default e.declaration))))

pub defaults-typed : (cell : Cell) → AreConstantsTogether cell.files → AllByRecursion (ReadFree cell) (sited_interface cell.entity.generics) → AllByRecursion (DefaultTyped cell) (sited_interface cell.entity.generics)
defaults-typed cell together free =
    weaker (λ e. IsInterfaceSite e × ReadFree cell e) (DefaultTyped cell) (λ e has. one-typed cell e together has.0 has.1) (sited_interface cell.entity.generics)
    (all-both IsInterfaceSite (ReadFree cell) (sited_interface cell.entity.generics) (interface-sites cell.entity.generics) free)

-- ---- generics of a type

-- A generic whose type is a delay, and whose name splits or not.
abbrev IsTiming : Cell → DelayType → Iface → Type 0
IsTiming cell e i = (is_delay_type e (type_of i.parts.subtype) ≡ true) × (is_some (parts cell i) ≡ true)

abbrev IsPlain : Cell → DelayType → Iface → Type 0
IsPlain cell e i = (is_delay_type e (type_of i.parts.subtype) ≡ true) × (is_some (parts cell i) ≡ false)

abbrev same-timing : DelayType → Iface → TimingGeneric → Bool
same-timing e i g = bytes_eq g.name i.identifier.name && same_type e (type_of_delay g.default)

abbrev same-plain : DelayType → Iface → PlainGeneric → Bool
same-plain e i g = bytes_eq g.name i.identifier.name && same_type e (type_of_delay g.default)

named-timing : (e : DelayType) (x : Sited Iface) (default : Delay) (p : Option Parts) → is_some p ≡ true → same_type e (type_of_delay default) ≡ true
    → option_map_or (same-timing e x.declaration) (option_map (timing_generic_with x default) p) false ≡ true
named-timing e x default None is typed = cc
named-timing e x default (Some p) is typed = both-true (bytes_eq x.declaration.identifier.name x.declaration.identifier.name) (same_type e (type_of_delay default)) (same-name x.declaration.identifier.name) typed

named-plain : (e : DelayType) (x : Sited Iface) (default : Delay) (p : Option Parts) → is_some p ≡ false → same_type e (type_of_delay default) ≡ true
    → option_map_or (same-plain e x.declaration) (plain_if_whole x default p) false ≡ true
named-plain e x default (Some p) is typed = cc
named-plain e x default None is typed = both-true (bytes_eq x.declaration.identifier.name x.declaration.identifier.name) (same_type e (type_of_delay default)) (same-name x.declaration.identifier.name) typed

one-timing : (cell : Cell) (e : DelayType) (x : Sited Iface) → DefaultTyped cell x → GivesOne (same-timing e) (IsTiming cell e) (timing_generic cell [] (sound_values cell.files) x) x.declaration
one-timing cell e x typed = λ is.
    let of = delay-of e (type_of x.declaration.parts.subtype) is.0 in
    ap (λ o. option_map_or (same-timing e x.declaration) (option_and_then (timing_of_type cell [] (sound_values cell.files) x) o) false) of.own_is
    ∙ named-timing e x (default_delay cell [] (sound_values cell.files) of.own x) (parts cell x.declaration) is.1
    (same-both e of.own (type_of_delay (default_delay cell [] (sound_values cell.files) of.own x)) of.same
    (first-true (same_type of.own (type_of_delay (default_delay cell [] (sound_values cell.files) of.own x))) (are_short (default_delay cell [] (sound_values cell.files) of.own x)) (typed of.own of.asked_is)))

one-plain : (cell : Cell) (e : DelayType) (x : Sited Iface) → DefaultTyped cell x → GivesOne (same-plain e) (IsPlain cell e) (plain_generic cell [] (sound_values cell.files) x) x.declaration
one-plain cell e x typed = λ is.
    let of = delay-of e (type_of x.declaration.parts.subtype) is.0 in
    ap (λ o. option_map_or (same-plain e x.declaration) (option_and_then (plain_of_type cell [] (sound_values cell.files) x) o) false) of.own_is
    ∙ named-plain e x (default_delay cell [] (sound_values cell.files) of.own x) (parts cell x.declaration) is.1
    (same-both e of.own (type_of_delay (default_delay cell [] (sound_values cell.files) of.own x)) of.same
    (first-true (same_type of.own (type_of_delay (default_delay cell [] (sound_values cell.files) of.own x))) (are_short (default_delay cell [] (sound_values cell.files) of.own x)) (typed of.own of.asked_is)))

itself : (is : List Iface) → filter_map (λ x. Some x.declaration) (sited_interface is) ≡ is
itself is = sited-kept (λ i. i.identifier.place) (λ i. i.is_last) Entity None (λ i. Some i) is ∙ all-some (λ i. i) is ∙ map-id is

abbrev HasTiming : Cell → DelayType → Iface → Type 0
HasTiming cell e i = IsTiming cell e i → is_timing_generic (timing_generics cell [] (sound_values cell.files)) e i.identifier.name ≡ true

abbrev HasPlain : Cell → DelayType → Iface → Type 0
HasPlain cell e i = IsPlain cell e i → is_plain_generic (plain_generics cell [] (sound_values cell.files)) e i.identifier.name ≡ true

timing-kept : (cell : Cell) (e : DelayType) → AllByRecursion (DefaultTyped cell) (sited_interface cell.entity.generics) → AllByRecursion (HasTiming cell e) cell.entity.generics
timing-kept cell e typed =
    subst (AllByRecursion (HasTiming cell e)) (itself cell.entity.generics)
    (kept (λ x. Some x.declaration) (timing_generic cell [] (sound_values cell.files)) (same-timing e) (IsTiming cell e) (sited_interface cell.entity.generics)
    (weaker (DefaultTyped cell) (λ x. GivesOne (same-timing e) (IsTiming cell e) (timing_generic cell [] (sound_values cell.files) x) x.declaration) (one-timing cell e) (sited_interface cell.entity.generics) typed))

plain-kept : (cell : Cell) (e : DelayType) → AllByRecursion (DefaultTyped cell) (sited_interface cell.entity.generics) → AllByRecursion (HasPlain cell e) cell.entity.generics
plain-kept cell e typed =
    subst (AllByRecursion (HasPlain cell e)) (itself cell.entity.generics)
    (kept (λ x. Some x.declaration) (plain_generic cell [] (sound_values cell.files)) (same-plain e) (IsPlain cell e) (sited_interface cell.entity.generics)
    (weaker (DefaultTyped cell) (λ x. GivesOne (same-plain e) (IsPlain cell e) (plain_generic cell [] (sound_values cell.files) x) x.declaration) (one-plain cell e) (sited_interface cell.entity.generics) typed))

-- A generic of a type of delays is among those whose names split, or among the others.
abbrev pub HasGeneric : Cell → DelayType → Iface → Type 0
HasGeneric cell e i = is_delay_type e (type_of i.parts.subtype) ≡ true
    → (is_timing_generic (timing_generics cell [] (sound_values cell.files)) e i.identifier.name || is_plain_generic (plain_generics cell [] (sound_values cell.files)) e i.identifier.name) ≡ true

either-kept : (cell : Cell) (e : DelayType) (i : Iface) (b : Bool) → is_some (parts cell i) ≡ b → HasTiming cell e i → HasPlain cell e i → HasGeneric cell e i
either-kept cell e i true splits timing plain = λ is. one-true _ (is_plain_generic (plain_generics cell [] (sound_values cell.files)) e i.identifier.name) (timing (is, splits))
either-kept cell e i false splits timing plain = λ is. other-true (is_timing_generic (timing_generics cell [] (sound_values cell.files)) e i.identifier.name) _ (plain (is, splits))

pub generics-kept : (cell : Cell) (e : DelayType) → AllByRecursion (DefaultTyped cell) (sited_interface cell.entity.generics) → AllByRecursion (HasGeneric cell e) cell.entity.generics
generics-kept cell e typed =
    weaker (λ i. HasTiming cell e i × HasPlain cell e i) (HasGeneric cell e) (λ i has. either-kept cell e i (is_some (parts cell i)) refl has.0 has.1) cell.entity.generics
    (all-both (HasTiming cell e) (HasPlain cell e) cell.entity.generics (timing-kept cell e typed) (plain-kept cell e typed))

-- ---- short defaults

plain-asked : (n : TypeName) (d : DelayType) → delay_type_of (Plain n) ≡ Some d → of_generic_type (Plain n) ≡ asked.Delay d
plain-asked type.StdUlogic d is = cc
plain-asked type.StdLogic d is = cc
plain-asked type.StdLogicVector d is = cc
plain-asked type.X01 d is = cc
plain-asked type.X01Z d is = cc
plain-asked type.Ux01 d is = cc
plain-asked type.Ux01Z d is = cc
plain-asked type.Boolean d is = cc
plain-asked type.Text d is = cc
plain-asked type.Time d is = cc
plain-asked (type.Delay e) d is = ap (λ (x : DelayType). asked.Delay x) (same_Some e d is)
plain-asked type.TableSymbol d is = cc
plain-asked type.TruthTable d is = cc
plain-asked type.StateTable d is = cc
plain-asked type.GlitchData d is = cc
plain-asked type.TimingData d is = cc
plain-asked type.PeriodData d is = cc

type-asked : (t : DeclaredType) (d : DelayType) → delay_type_of t ≡ Some d → of_generic_type t ≡ asked.Delay d
type-asked (Plain n) d is = plain-asked n d is
type-asked (Vector r) d is = cc
type-asked (Table t rows columns) d is = cc
type-asked Other d is = cc

default-short : (cell : Cell) (x : Sited Iface) (d : DelayType) → DefaultTyped cell x → delay_type x.declaration ≡ Some d → are_short (default_delay cell [] (sound_values cell.files) d x) ≡ true
default-short cell x d typed is =
    second-true (same_type d (type_of_delay (default_delay cell [] (sound_values cell.files) d x))) (are_short (default_delay cell [] (sound_values cell.files) d x)) (typed d (type-asked (type_of x.declaration.parts.subtype) d is))

timing-made : (x : Sited Iface) (default : Delay) (o : Option Parts) → are_short default ≡ true → IfSome (option_map (timing_generic_with x default) o) (λ g. are_short g.default ≡ true)
timing-made x default None short = tt
timing-made x default (Some p) short = short

timing-short : (cell : Cell) (x : Sited Iface) (o : Option DelayType) → delay_type x.declaration ≡ o → DefaultTyped cell x → IfSome (option_and_then (timing_of_type cell [] (sound_values cell.files) x) o) (λ g. are_short g.default ≡ true)
timing-short cell x None is typed = tt
timing-short cell x (Some d) is typed = timing-made x (default_delay cell [] (sound_values cell.files) d x) (parts cell x.declaration) (default-short cell x d typed is)

plain-made : (x : Sited Iface) (default : Delay) (o : Option Parts) → are_short default ≡ true → IfSome (plain_if_whole x default o) (λ g. are_short g.default ≡ true)
plain-made x default None short = short
plain-made x default (Some p) short = tt

plain-short : (cell : Cell) (x : Sited Iface) (o : Option DelayType) → delay_type x.declaration ≡ o → DefaultTyped cell x → IfSome (option_and_then (plain_of_type cell [] (sound_values cell.files) x) o) (λ g. are_short g.default ≡ true)
plain-short cell x None is typed = tt
plain-short cell x (Some d) is typed = plain-made x (default_delay cell [] (sound_values cell.files) d x) (parts cell x.declaration) (default-short cell x d typed is)

pub timings-short : (cell : Cell) → AllByRecursion (DefaultTyped cell) (sited_interface cell.entity.generics) → AllByRecursion (λ g. are_short g.default ≡ true) (timing_generics cell [] (sound_values cell.files))
timings-short cell typed =
    all-kept (λ g. are_short g.default ≡ true) (timing_generic cell [] (sound_values cell.files)) (sited_interface cell.entity.generics)
    (weaker (DefaultTyped cell) (λ x. IfSome (timing_generic cell [] (sound_values cell.files) x) (λ g. are_short g.default ≡ true)) (λ x is. timing-short cell x (delay_type x.declaration) refl is) (sited_interface cell.entity.generics) typed)

pub plains-short : (cell : Cell) → AllByRecursion (DefaultTyped cell) (sited_interface cell.entity.generics) → AllByRecursion (λ g. are_short g.default ≡ true) (plain_generics cell [] (sound_values cell.files))
plains-short cell typed =
    all-kept (λ g. are_short g.default ≡ true) (plain_generic cell [] (sound_values cell.files)) (sited_interface cell.entity.generics)
    (weaker (DefaultTyped cell) (λ x. IfSome (plain_generic cell [] (sound_values cell.files) x) (λ g. are_short g.default ≡ true)) (λ x is. plain-short cell x (delay_type x.declaration) refl is) (sited_interface cell.entity.generics) typed)

-- The default of each generic that is a delay has its type.
pub types-fit : (cell : Cell) → AllByRecursion (DefaultTyped cell) (sited_interface cell.entity.generics) → AllByRecursion (HasTypedDefault cell) (sited_interface cell.entity.generics)
types-fit cell typed =
    weaker (DefaultTyped cell) (HasTypedDefault cell)
    (λ e has. λ d is. first-true (same_type d (type_of_delay (default_delay cell [] (sound_values cell.files) d e))) (are_short (default_delay cell [] (sound_values cell.files) d e)) (has d is)) (sited_interface cell.entity.generics) typed
