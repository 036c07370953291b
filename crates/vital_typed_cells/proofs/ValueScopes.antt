-- What names in values and defaults of an architecture or a process stand for is in a scope of values.
use Rattle.std.proofs.Common.{◌≡◌, true, false, List, [], Option, Some, None, refl, subst}
use Rattle.std.specs.Prelude.{IfSome}
use Rattle.std.specs.List.{AllByRecursion}
use Rattle.std.specs.Option.{option_map_or}
use Rattle.std.proofs.lemmas.List.Elements.{All-from_recursion}
use Rattle.vital_base.specs.declared.place.Place.{Place}
use Rattle.vital_typed_cells.specs.Packages.{sound_values}
use Rattle.vital_typed_cells.specs.Typed.{typed, typed_with}
use Rattle.vital_base.specs.Places.{is_before}
use Rattle.vital_names.specs.Declarations.{Declared, body_of, declared_in, identifier_of}
use Rattle.vital_names.specs.Meanings.{meaning}
use Rattle.vital_names.specs.Sites.{Cell}
use Rattle.vital_nodes.specs.declared.expr.Expr.{Expr}
use Rattle.vital_nodes.specs.declared.stmt.Process.{Process}
use Rattle.vital_nodes.specs.Nodes.{Node, Declaration, Interface, Concurrent, Sequential, Expression, Item, Name}
use Rattle.vital_nodes.specs.Walk.{nodes_of}
use Rattle.vital_objects.specs.Constants.{constants}
use Rattle.vital_objects.specs.declared.constant.Constant.{Constant}
use Rattle.vital_objects.specs.PackageValues.{value_at}
use Rattle.vital_objects.specs.Signals.{declarations}
use Rattle.vital_operands.specs.Positions.{InValue, Position}
use Rattle.vital_timing.specs.declared.delay.DelayType.{DelayType}
use Rattle.vital_typed_declarations.specs.Declarations.{in_value}
use Rattle.vital_typed_cells.specs.Positions.{HasNameAt}
use Rattle.vital_typed_cells.specs.SoundValues.{HasBooleanAt, HasNamesIn, ValueScope}
use Rattle.vital_as_read.specs.AsRead.{IsAsRead}
use Rattle.vital_typed_cells.specs.Named.{is_package_truth}
use Rattle.vital_typed_cells.specs.Scopes.{Visible, in_values, scope_of}
use Rattle.vital_typed_cells.proofs.Bridge.{HasValue, InBefore, IsKeptGeneric, IsKeptPort, IsKnownBefore, OwnObject, body-in, declares, own-in}
use Rattle.vital_typed_cells.proofs.CellTables.{TableValue, interface-tables}
use Rattle.vital_typed_cells.proofs.Defaults.{IsOfPackages, boolean-in}
use Rattle.vital_typed_cells.proofs.Facts.{Meets, NoSignal, NoVariable, body-is, body-own}
use Rattle.vital_typed_cells.proofs.Found.{each, weaker}
use Rattle.vital_typed_cells.proofs.Generics.{HasGeneric}
use Rattle.vital_typed_cells.proofs.Lists.{all-both}
use Rattle.vital_typed_cells.proofs.NamedConstants.{AliasWorth, FreeAt, Known, meaning-known, meaning-worth}
use Rattle.vital_typed_cells.proofs.Operands.{IsIn, value-scope}
use Rattle.vital_typed_cells.proofs.Seen.{Before, Declares, meaning-has, site_at}
use Rattle.vital_typed_cells.proofs.TruthTables.{Reads}
use Rattle.vital_typed_cells.proofs.Views.{IsGood, alias-in, body-aliases, generics-there, meaning-in, process-aliases, seen-from-process, worth-in}

-- ---- the scope of values

abbrev pub own_constants : Cell → List Constant
own_constants cell = constants cell [] None (declarations cell.arch)

-- Values that see these constants.
abbrev pub values : Cell → List Constant → Visible
values cell cs = in_values (typed cell) cs

abbrev pub value_scope : Cell → List Constant → ValueScope
value_scope cell cs =
    record { names = scope_of (values cell cs); has_boolean = λ n. option_map_or is_package_truth (value_at (sound_values cell.files) n) false }

packages-of : (cell : Cell) (cs : List Constant) → IsOfPackages cell (value_scope cell cs)
unfolding typed typed_with
packages-of cell cs = record {
  constants = λ n o worth. worth-in cell (values cell cs) n o refl worth;
  booleans = λ n is. is;
}

-- ---- what is declared

abbrev position : Cell → Option Process → Place → Position
position cell process v = InValue cell (site_at process v)

-- A process of the cell that is good, if there is one.
abbrev pub GoodIn : Cell → Option Process → Type 0
GoodIn cell o = IfSome o (IsGood cell)

-- A constant that stands before a place is among some with its value.
abbrev pub ValueBefore : Cell → List Constant → Place → Declared → Type 0
ValueBefore cell cs v d = is_before (identifier_of d).place v ≡ true → HasValue cell cs d

pub record SeesAt (cell : Cell) (process : Option Process) (cs : List Constant) (v : Place) : Type 0 where
  pub own : IfSome process (λ q. AllByRecursion (ValueBefore cell cs v) (declared_in q.declarations))
  pub body : AllByRecursion (ValueBefore cell cs v) (body_of cell.arch)

body-objects : (cell : Cell) (process : Option Process) (cs : List Constant) (v : Place) → Meets cell → AllByRecursion (ValueBefore cell cs v) (body_of cell.arch) → AllByRecursion (InBefore (scope_of (values cell cs)) (position cell process v) v) (body_of cell.arch)
unfolding typed typed_with
body-objects cell process cs v met has =
    weaker (λ d. OwnObject NoVariable d × ValueBefore cell cs v d) (InBefore (scope_of (values cell cs)) (position cell process v) v)
    (λ d both. λ before. body-in cell (values cell cs) (position cell process v) d both.0 (both.1 before) (λ changing is. cc)) (body_of cell.arch)
    (all-both (OwnObject NoVariable) (ValueBefore cell cs v) (body_of cell.arch)
    (subst (AllByRecursion (OwnObject NoVariable)) (body-is cell.arch) (body-own cell met)) has)

aliases-of-body : (cell : Cell) (process : Option Process) → IsAsRead cell → Meets cell → GoodIn cell process → AllByRecursion (AliasWorth cell process) (body_of cell.arch)
aliases-of-body cell None read met good = body-aliases cell read met.named
aliases-of-body cell (Some q) read met good = seen-from-process cell q read met good

body-there : (cell : Cell) (process : Option Process) (cs : List Constant) (v : Place) → IsAsRead cell → Meets cell → GoodIn cell process → SeesAt cell process cs v
    → AllByRecursion (IsKnownBefore (scope_of (values cell cs)) (position cell process v) cell process v) (body_of cell.arch)
unfolding typed typed_with
body-there cell process cs v read met good sees =
    all-both (InBefore (scope_of (values cell cs)) (position cell process v) v) _ (body_of cell.arch) (body-objects cell process cs v met sees.body)
    (weaker (AliasWorth cell process) _ (alias-in cell (values cell cs) process refl) (body_of cell.arch) (aliases-of-body cell process read met good))

own-there : (cell : Cell) (q : Process) (cs : List Constant) (v : Place) → IsAsRead cell → IsGood cell q → AllByRecursion (ValueBefore cell cs v) (declared_in q.declarations)
    → AllByRecursion (IsKnownBefore (scope_of (values cell cs)) (position cell (Some q) v) cell (Some q) v) (declared_in q.declarations)
unfolding typed typed_with
own-there cell q cs v read good has =
    all-both (InBefore (scope_of (values cell cs)) (position cell (Some q) v) v) _ (declared_in q.declarations)
    (weaker (λ d. OwnObject NoSignal d × ValueBefore cell cs v d) (InBefore (scope_of (values cell cs)) (position cell (Some q) v) v)
    (λ d both. λ before. own-in cell (values cell cs) (position cell (Some q) v) d both.0 (both.1 before) (λ changing. cc)) (declared_in q.declarations)
    (all-both (OwnObject NoSignal) (ValueBefore cell cs v) (declared_in q.declarations) good.own has))
    (weaker (AliasWorth cell (Some q)) _ (alias-in cell (values cell cs) (Some q) refl) (declared_in q.declarations) (process-aliases cell q read good))

process-there : (cell : Cell) (process : Option Process) (cs : List Constant) (v : Place) → IsAsRead cell → GoodIn cell process → IfSome process (λ q. AllByRecursion (ValueBefore cell cs v) (declared_in q.declarations))
    → IfSome process (λ q. AllByRecursion (IsKnownBefore (scope_of (values cell cs)) (position cell process v) cell process v) (declared_in q.declarations))
process-there cell None cs v read good has = tt
process-there cell (Some q) cs v read good has = own-there cell q cs v read good has

all-there : (cell : Cell) (process : Option Process) (cs : List Constant) (v : Place) → IsAsRead cell → Meets cell → GoodIn cell process → SeesAt cell process cs v → Declares (IsIn (scope_of (values cell cs)) (position cell process v) cell process v) cell process v
unfolding typed typed_with
all-there cell process cs v read met good sees =
    declares (values cell cs) (position cell process v) cell process v
    (weaker (λ g. (e : DelayType) → HasGeneric cell e g) (IsKeptGeneric (values cell cs)) (λ g has. has) cell.entity.generics (generics-there cell read met.named))
    (each (IsKeptPort (values cell cs) (position cell process v)) (λ i. λ changing is. cc) cell.entity.ports)
    (process-there cell process cs v read good sees.own) (body-there cell process cs v read met good sees)

-- ---- names in values

name-there : (cell : Cell) (process : Option Process) (cs : List Constant) (v : Place) → IsAsRead cell → Meets cell → GoodIn cell process → SeesAt cell process cs v → (u : Node) → FreeAt cell (site_at process v) u
    → HasNameAt (scope_of (values cell cs)) (position cell process v) u
unfolding typed typed_with
name-there cell process cs v read met good sees (Declaration d) free = tt
name-there cell process cs v read met good sees (Interface i) free = tt
name-there cell process cs v read met good sees (Concurrent k) free = tt
name-there cell process cs v read met good sees (Sequential k) free = tt
name-there cell process cs v read met good sees (Expression e) free = tt
name-there cell process cs v read met good sees (Item i) free = tt
name-there cell process cs v read met good sees (Name r) free =
    value-scope (scope_of (values cell cs)) cell process v r.identifier (all-there cell process cs v read met good sees)
    (meaning-in cell (values cell cs) (meaning r.identifier.name cell (site_at process v)) refl (meaning-worth cell (site_at process v) r.identifier.name read.packages free))

boolean-there : (cell : Cell) (process : Option Process) (cs : List Constant) (v : Place) → IsAsRead cell → (u : Node) → FreeAt cell (site_at process v) u → HasBooleanAt (value_scope cell cs) (position cell process v) u
boolean-there cell process cs v read (Declaration d) free = tt
boolean-there cell process cs v read (Interface i) free = tt
boolean-there cell process cs v read (Concurrent k) free = tt
boolean-there cell process cs v read (Sequential k) free = tt
boolean-there cell process cs v read (Expression e) free = tt
boolean-there cell process cs v read (Item i) free = tt
boolean-there cell process cs v read (Name r) free =
    boolean-in cell (value_scope cell cs) (position cell process v) r.identifier (meaning r.identifier.name cell (site_at process v)) (packages-of cell cs)
    (meaning-worth cell (site_at process v) r.identifier.name read.packages free)

pub value-names : (cell : Cell) (process : Option Process) (cs : List Constant) (v : Place) (o : Option Expr) → IsAsRead cell → Meets cell → GoodIn cell process → SeesAt cell process cs v → IfSome o (λ e. AllByRecursion (FreeAt cell (site_at process v)) (nodes_of (Expression e)))
    → HasNamesIn (value_scope cell cs) (position cell process v) o
value-names cell process cs v None read met good sees free = tt
value-names cell process cs v (Some e) read met good sees free = record {
  names =
      All-from_recursion (HasNameAt (value_scope cell cs).names (position cell process v)) (nodes_of (Expression e))
      (weaker (FreeAt cell (site_at process v)) (HasNameAt (value_scope cell cs).names (position cell process v)) (name-there cell process cs v read met good sees) (nodes_of (Expression e)) free);
  booleans =
      All-from_recursion (HasBooleanAt (value_scope cell cs) (position cell process v)) (nodes_of (Expression e))
      (weaker (FreeAt cell (site_at process v)) (HasBooleanAt (value_scope cell cs) (position cell process v)) (boolean-there cell process cs v read) (nodes_of (Expression e)) free);
}

-- ---- tables in values

-- Each declaration that is seen is among the constants with its rows, if it is a table.
own-tables : (cell : Cell) (process : Option Process) (cs : List Constant) (v : Place) → IfSome process (λ q. AllByRecursion (ValueBefore cell cs v) (declared_in q.declarations))
    → IfSome process (λ q. AllByRecursion (Before (TableValue cell cs) v) (declared_in q.declarations))
own-tables cell None cs v has = tt
own-tables cell (Some q) cs v has = weaker (ValueBefore cell cs v) (Before (TableValue cell cs) v) (λ d value. λ before. (value before).table) (declared_in q.declarations) has

declares-tables : (cell : Cell) (process : Option Process) (cs : List Constant) (v : Place) → SeesAt cell process cs v → Declares (TableValue cell cs) cell process v
declares-tables cell process cs v sees = record {
  in_process = own-tables cell process cs v sees.own;
  in_arch = weaker (ValueBefore cell cs v) (Before (TableValue cell cs) v) (λ d value. λ before. (value before).table) (body_of cell.arch) sees.body;
  in_entity = interface-tables cell cs;
}

pub value-reads : (cell : Cell) (process : Option Process) (cs : List Constant) (v : Place) → IsAsRead cell → SeesAt cell process cs v → Reads cell (values cell cs) (in_value cell [] (site_at process v)) (FreeAt cell (site_at process v))
unfolding typed typed_with
value-reads cell process cs v read sees = record {
  packages = refl;
  named = λ r free.
      meaning-has (TableValue cell cs) (Known cell) r.identifier.name cell process v (declares-tables cell process cs v sees)
      (meaning-known cell (site_at process v) r.identifier.name read.packages free);
}
