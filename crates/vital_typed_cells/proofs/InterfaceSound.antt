-- The defaults of ports, and the controls, are sound in the scope of the interface.
use Rattle.std.proofs.Common.{◌≡◌, ℕ, Bool, true, false, List, [], Option, Some, None, refl, sym, subst}
use Rattle.std.specs.Prelude.{unwrap_or, IfSome}
use Rattle.std.specs.List.{AllByRecursion, filter_map}
use Rattle.std.specs.Option.{option_and_then, option_map_or}
use Rattle.vital_typed_cells.specs.Packages.{sound_values}
use Rattle.vital_typed_cells.specs.Typed.{typed, typed_with}
use Rattle.vital_base.specs.declared.place.Place.{Place}
use Rattle.vital_level1.specs.Forms.{default_of_iface, uses_of_iface}
use Rattle.vital_names.specs.Declarations.{interface_of}
use Rattle.vital_names.specs.Sites.{Cell}
use Rattle.vital_nodes.specs.declared.decl.Iface.{Iface}
use Rattle.vital_objects.specs.declared.control.ControlValue.{ControlValue}
use Rattle.vital_objects.specs.declared.control.ControlValue.TheVariants as control
use Rattle.vital_objects.specs.declared.port.Port.{Port}
use Rattle.vital_objects.specs.Controls.{control_in, control_named, controls, default_control, generic_named, is_named, literal_in}
use Rattle.vital_nodes.specs.declared.expr.Expr.{Expr}
use Rattle.vital_nodes.specs.Nodes.{Expression}
use Rattle.vital_nodes.specs.Walk.{nodes_of, nodes_of_all}
use Rattle.vital_objects.specs.PackageValues.{value_at}
use Rattle.vital_objects.specs.Ports.{default_behind, level_in, port, ports}
use Rattle.vital_objects.specs.Together.{beside_lasts, is_last_interface}
use Rattle.vital_operands.specs.declared.tree.BooleanExpr.{BooleanExpr}
use Rattle.vital_operands.specs.declared.tree.BooleanExpr.TheOpen.{BooleanExpr-F}
use Rattle.vital_operands.specs.declared.tree.BooleanExpr.TheViews.{out-BooleanExpr}
use Rattle.vital_operands.specs.declared.tree.LevelExpr.{LevelExpr}
use Rattle.vital_operands.specs.Positions.{InInterface}
use Rattle.vital_typed_declarations.specs.declared.asked_type.AskedType.{AskedType}
use Rattle.vital_typed_declarations.specs.declared.value.TypedValue.{TypedValue}
use Rattle.vital_typed_declarations.specs.declared.value.TypedValue.TheVariants as value
use Rattle.vital_typed_declarations.specs.Asked.{of_generic, of_port}
use Rattle.vital_typed_declarations.specs.Declarations.{default_value, generic_value, in_interface}
use Rattle.vital_table_uses.specs.TableUses.{truth_use_at}
use Rattle.vital_uses.specs.Nodes.{sited_interface}
use Rattle.vital_uses.specs.Parts.{asked_of_port, asked_of_subtype}
use Rattle.vital_uses.specs.Sited.{Sited}
use Rattle.vital_typed_cells.specs.ExprScopes.{Scope}
use Rattle.vital_typed_cells.specs.Trees.{is_sound_level}
use Rattle.vital_typed_cells.proofs.Outcomes.{if-and-then}
use Rattle.vital_typed_cells.specs.SoundValues.{HasNamesIn, HasTablesIn, ValueScope, is_sound_value, read_default}
use Rattle.vital_typed_cells.proofs.SoundValues.{SoundValue, value-sound}
use Rattle.vital_typed_cells.proofs.Words.{generic-sound}
use Rattle.vital_as_read.specs.AsRead.{AreConstantsTogether, IsAsRead}
use Rattle.vital_typed_cells.specs.Named.{is_package_truth}
use Rattle.vital_typed_cells.specs.Scopes.{of_packages, scope_of}
use Rattle.vital_typed_cells.specs.SoundDeclarations.{are_sound_controls, is_sound_control, is_sound_port}
use Rattle.vital_typed_cells.proofs.CellTables.{TableValue, interface-tables}
use Rattle.vital_typed_cells.proofs.Defaults.{IsInterfaceSite, IsOfPackages, ReadFree, default-names, generics-read, interface-sites}
use Rattle.vital_typed_cells.proofs.Facts.{Meets}
use Rattle.vital_typed_cells.proofs.Found.{all-mapped, found, weaker}
use Rattle.vital_typed_cells.proofs.Generics.{NodesFree, known_values, names-in, tables-in}
use Rattle.vital_typed_cells.proofs.Lists.{all-both, lasts-have}
use Rattle.vital_typed_cells.proofs.NamedConstants.{FreeAt, IfaceFree, Known, meaning-known, ports-free}
use Rattle.vital_typed_cells.proofs.Packages.{last-nodes}
use Rattle.vital_typed_cells.proofs.Seen.{Before, interface-has, site_of_interface}
use Rattle.vital_typed_cells.proofs.Tests.{both-true}
use Rattle.vital_typed_cells.proofs.TruthTables.{Reads, value-tables}
use Rattle.vital_typed_cells.proofs.Uses.{AllFit, ports-fit}

-- ---- ports

-- What defaults of ports may name.
abbrev port_scope : Cell → Scope
port_scope cell = scope_of (of_packages (sound_values cell.files))

abbrev port_values : Cell → ValueScope
port_values cell = record { names = port_scope cell; has_boolean = λ n. option_map_or is_package_truth (value_at (sound_values cell.files) n) false }

port-packages : (cell : Cell) → IsOfPackages cell (port_values cell)
port-packages cell = record {
  constants = λ n o worth. record { levels = worth.levels; times = worth.times; delays = worth.delays };
  booleans = λ n is. is;
}

port-names : (cell : Cell) (e : Sited Iface) (o : Option Expr) → AreConstantsTogether cell.files → IsInterfaceSite e → NodesFree cell e o → HasNamesIn (port_values cell) (InInterface cell e.site) o
port-names cell e o together site free =
    subst (λ s. HasNamesIn (port_values cell) (InInterface cell s) o) (sym site.1)
    (default-names cell (port_values cell) site.0 o together (port-packages cell) (subst (λ s. IfSome o (λ x. AllByRecursion (FreeAt cell s) (nodes_of (Expression x)))) site.1 free))

port-reads : (cell : Cell) (v : Place) → AreConstantsTogether cell.files → Reads cell (of_packages (sound_values cell.files)) (in_interface cell [] (site_of_interface v)) (FreeAt cell (site_of_interface v))
port-reads cell v together = record {
  packages = refl;
  named = λ r free.
      interface-has (TableValue cell []) (Known cell) r.identifier.name cell v
      (weaker (TableValue cell []) (Before (TableValue cell []) v) (λ d has. λ before. has) (interface_of cell.entity) (interface-tables cell []))
      (meaning-known cell (site_of_interface v) r.identifier.name together free);
}

port-tables : (cell : Cell) (e : Sited Iface) → AreConstantsTogether cell.files → IsInterfaceSite e → e.declaration.is_last ≡ true → NodesFree cell e e.declaration.parts.default → AllFit cell (uses_of_iface cell [] e)
    → HasTablesIn (port_scope cell) (in_interface cell [] e.site) e.declaration.parts.default
port-tables cell e together site last free fits =
    let asked = default_of_iface e.declaration in
    subst (λ s. HasTablesIn (port_scope cell) (in_interface cell [] s) e.declaration.parts.default) (sym site.1)
    (value-tables cell (of_packages (sound_values cell.files)) (in_interface cell [] (site_of_interface site.0)) (FreeAt cell (site_of_interface site.0)) e.declaration.is_last e.declaration.parts.default last
    (port-reads cell site.0 together) (subst (λ s. IfSome e.declaration.parts.default (λ x. AllByRecursion (FreeAt cell s) (nodes_of (Expression x)))) site.1 free)
    (subst (λ s. AllFit cell (filter_map (truth_use_at (in_interface cell [] s)) (nodes_of_all asked))) site.1 fits))

level-sound : (cell : Cell) (a : AskedType) (v : TypedValue) → is_sound_value (port_values cell) a v ≡ true → IfSome (level_in v) (λ t. is_sound_level (port_scope cell) t ≡ true)
level-sound cell a (value.Level t) sound = sound
level-sound cell a (value.Vector v) sound = tt
level-sound cell a (value.Boolean b) sound = tt
level-sound cell a (value.PackageBoolean n) sound = tt
level-sound cell a (value.Time t) sound = tt
level-sound cell a (value.Delay t) sound = tt
level-sound cell a value.Text sound = tt
level-sound cell a value.Untyped sound = tt
level-sound cell a value.Missing sound = tt

abbrev SoundLevelIn : Cell → LevelExpr → Type 0
SoundLevelIn cell t = is_sound_level (port_scope cell) t ≡ true

-- The last of ports that are declared together names what breaks no clause, and tables that fit.
abbrev PortFree : Cell → Sited Iface → Type 0
PortFree cell e = IfaceFree cell asked_of_port e × AllFit cell (uses_of_iface cell [] e)

abbrev LastPort : Cell → Sited Iface → Type 0
LastPort cell e = (IsInterfaceSite e × PortFree cell e) × (is_last_interface e ≡ true)

behind-sound : (cell : Cell) (e : Sited Iface) → AreConstantsTogether cell.files → LastPort cell e → IfSome (default_behind cell [] e) (SoundLevelIn cell)
behind-sound cell e together last =
    let free : NodesFree cell e e.declaration.parts.default =
    last-nodes (FreeAt cell e.site) e.declaration.is_last (asked_of_subtype e.declaration.parts.subtype) e.declaration.parts.default last.1 last.0.1.0 in
    if-and-then (SoundValue (port_values cell) (of_port e.declaration)) (SoundLevelIn cell) level_in (default_value (of_port e.declaration) (in_interface cell [] e.site) e.declaration).tree
    (value-sound (port_values cell) (in_interface cell [] e.site) (of_port e.declaration) e.declaration.parts.default (port-names cell e e.declaration.parts.default together last.0.0 free)
    (port-tables cell e together last.0.0 last.1 free last.0.1.1))
    (level-sound cell (of_port e.declaration))

or-none : (cell : Cell) (o : Option LevelExpr) → IfSome o (SoundLevelIn cell) → option_map_or (is_sound_level (port_scope cell)) o true ≡ true
or-none cell None sound = refl
or-none cell (Some t) sound = sound

last-sound : (cell : Cell) (o : Option (Sited Iface)) → AreConstantsTogether cell.files → IfSome o (LastPort cell) → IfSome (option_and_then (default_behind cell []) o) (SoundLevelIn cell)
last-sound cell None together last = tt
last-sound cell (Some e) together last = behind-sound cell e together last

abbrev SoundPort : Cell → Port → Type 0
SoundPort cell p = is_sound_port (port_scope cell) p ≡ true

pub ports-sound : (cell : Cell) → IsAsRead cell → Meets cell → AllByRecursion (SoundPort cell) (ports cell [])
ports-sound cell read met =
    all-mapped (SoundPort cell) (port cell []) (beside_lasts is_last_interface (sited_interface cell.entity.ports))
    (weaker (λ x. IfSome x.1 (LastPort cell)) (λ x. SoundPort cell (port cell [] x)) (λ x last. or-none cell (option_and_then (default_behind cell []) x.1) (last-sound cell x.1 read.packages last))
    (beside_lasts is_last_interface (sited_interface cell.entity.ports))
    (lasts-have (λ e. IsInterfaceSite e × PortFree cell e) is_last_interface (sited_interface cell.entity.ports)
    (all-both IsInterfaceSite (PortFree cell) (sited_interface cell.entity.ports) (interface-sites cell.entity.ports)
    (all-both (IfaceFree cell asked_of_port) (λ e. AllFit cell (uses_of_iface cell [] e)) (sited_interface cell.entity.ports) (ports-free cell met.named) (ports-fit cell met.named.uses)))))

-- ---- controls

abbrev SoundControl : Cell → ControlValue → Type 0
SoundControl cell v = is_sound_control (typed cell) v ≡ true

literal-sound : (cell : Cell) (l : BooleanExpr-F BooleanExpr) → IfSome (literal_in l) (SoundControl cell)
literal-sound cell (BooleanExpr-F.Literal b) = refl
literal-sound cell (BooleanExpr-F.Control c) = tt
literal-sound cell (BooleanExpr-F.SameLevels a b) = tt
literal-sound cell (BooleanExpr-F.OtherLevels a b) = tt
literal-sound cell (BooleanExpr-F.Same a b) = tt
literal-sound cell (BooleanExpr-F.Other a b) = tt
literal-sound cell (BooleanExpr-F.Not t) = tt
literal-sound cell (BooleanExpr-F.Logical o ts) = tt

value-control : (cell : Cell) (a : AskedType) (v : TypedValue) → is_sound_value (known_values (sound_values cell.files)) a v ≡ true → IfSome (control_in v) (SoundControl cell)
unfolding typed typed_with
value-control cell a (value.Level t) sound = tt
value-control cell a (value.Vector v) sound = tt
value-control cell a (value.Boolean b) sound = literal-sound cell (out-BooleanExpr b)
value-control cell a (value.PackageBoolean n) sound = sound
value-control cell a (value.Time t) sound = tt
value-control cell a (value.Delay t) sound = tt
value-control cell a value.Text sound = tt
value-control cell a value.Untyped sound = tt
value-control cell a value.Missing sound = tt

abbrev ReadGeneric : Cell → Sited Iface → Type 0
ReadGeneric cell e = IsInterfaceSite e × ReadFree cell e

default-control : (cell : Cell) (e : Sited Iface) → AreConstantsTogether cell.files → ReadGeneric cell e → IfSome (default_control cell [] e) (SoundControl cell)
default-control cell e together read =
    if-and-then (SoundValue (known_values (sound_values cell.files)) (of_generic e.declaration)) (SoundControl cell) control_in (generic_value (in_interface cell [] e.site) e.declaration).tree
    (generic-sound (known_values (sound_values cell.files)) (in_interface cell [] e.site) e.declaration (names-in cell e (read_default e.declaration) together read.0 read.1) (tables-in cell e (read_default e.declaration)))
    (value-control cell (of_generic e.declaration))

found-control : (cell : Cell) (o : Option (Sited Iface)) (test : Sited Iface → Bool) → AreConstantsTogether cell.files → IfSome o (λ e. ReadGeneric cell e × (test e ≡ true)) → IfSome (option_and_then (default_control cell []) o) (SoundControl cell)
found-control cell None test together read = tt
found-control cell (Some e) test together read = default-control cell e together read.0

or-true : (cell : Cell) (o : Option ControlValue) → IfSome o (SoundControl cell) → SoundControl cell (unwrap_or o (control.Literal true))
or-true cell None sound = refl
or-true cell (Some v) sound = sound

one-control : (cell : Cell) (name : List ℕ) → AreConstantsTogether cell.files → AllByRecursion (ReadGeneric cell) (sited_interface cell.entity.generics) → SoundControl cell (control_named cell [] name)
one-control cell name together read =
    or-true cell (option_and_then (default_control cell []) (generic_named cell name))
    (found-control cell (generic_named cell name) (is_named name) together (found (ReadGeneric cell) (is_named name) (sited_interface cell.entity.generics) read))

pub controls-sound : (cell : Cell) → IsAsRead cell → Meets cell → are_sound_controls (typed cell) (controls cell []) ≡ true
controls-sound cell read met =
    let all : AllByRecursion (ReadGeneric cell) (sited_interface cell.entity.generics) =
    all-both IsInterfaceSite (ReadFree cell) (sited_interface cell.entity.generics) (interface-sites cell.entity.generics) (generics-read cell read.entity.generics_together met.named) in
    both-true (is_sound_control (typed cell) (controls cell []).timing_checks_on) _ (one-control cell _ read.packages all)
    (both-true (is_sound_control (typed cell) (controls cell []).x_on) (is_sound_control (typed cell) (controls cell []).msg_on) (one-control cell _ read.packages all) (one-control cell _ read.packages all))
