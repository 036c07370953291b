-- The clauses of Level 1 that speak of declarations alone: for each, the places of a cell where it is broken.
use Rattle.std.specs.Prelude.{ℕ, Bool, true, false, ◌&&◌, ◌==◌, not, is_none, is_some, List, ◌++◌, filter, map, Option, None, codes}
use Rattle.std.specs.List.{flat_map, list_any}
use Rattle.std.specs.Option.{option_map_or}
use Rattle.std.specs.Str.{bytes_eq}
use Rattle.vital_base.specs.declared.place.Place.{Place}
use Rattle.vital_logic.specs.Levels.{byte_of, levels}
use Rattle.vital_names.specs.declared.predeclared.TypeName.TheVariants as type
use Rattle.vital_names.specs.declared.site.CellUnit.TheVariants.{Entity, Architecture}
use Rattle.vital_names.specs.Declarations.{declared_in, interface_of}
use Rattle.vital_names.specs.Redeclared.{redeclared}
use Rattle.vital_names.specs.Sites.{Cell, Site}
use Rattle.vital_nodes.specs.declared.decl.Alias.{Alias}
use Rattle.vital_nodes.specs.declared.decl.Decl.{Decl}
use Rattle.vital_nodes.specs.declared.decl.Decl.TheVariants as decl
use Rattle.vital_nodes.specs.declared.decl.Iface.{Iface}
use Rattle.vital_nodes.specs.declared.decl.Object.{Object}
use Rattle.vital_nodes.specs.declared.decl.ObjectClass.{ObjectClass}
use Rattle.vital_nodes.specs.declared.decl.ObjectClass.TheVariants as class
use Rattle.vital_nodes.specs.declared.expr.Expr.{Expr}
use Rattle.vital_nodes.specs.declared.stmt.Process.{Process}
use Rattle.vital_nodes.specs.Names.{identifier_of}
use Rattle.vital_declaration_clauses.specs.declared.breaking.DeclarationClause.{DeclarationClause}
use Rattle.vital_declaration_clauses.specs.declared.breaking.DeclarationClause.TheVariants as clause
use Rattle.vital_declarations.specs.Constants.{character}
use Rattle.vital_declarations.specs.Operands.{AliasTarget, Variable, Element, Constant, PackageConstant, NoTarget, VariableType, Level, X01, VectorOf, GlitchData, TimingData, PeriodData, alias_target, is_level, is_of_levels, variable_type}
use Rattle.vital_declaration_clauses.specs.Regions.{Region, own_region, place_of, regions, seen_from, site_in}
use Rattle.vital_declaration_clauses.specs.GoodConstants.{is_good_constant}
use Rattle.vital_declaration_clauses.specs.Scopes.{InCell}
use Rattle.vital_declarations.specs.Types.{DeclaredType, Plain, type_of}

-- Those of declarations of the architecture, or of a process of it, that break a clause. Each stands beside the place from which its
-- parts see what is declared.
abbrev pub broken_among : (Site → Decl → Bool) → Option Process → List (Place × Decl) → List Place
broken_among breaks process seen = map (λ d. place_of d.1) (filter (λ d. breaks (site_in process d.0) d.1) seen)

abbrev pub broken_in : (Site → Decl → Bool) → Region → List Place
broken_in breaks r = broken_among breaks r.process (seen_from r.declarations)

abbrev pub broken : (Site → Decl → Bool) → List Region → List Place
broken breaks rs = flat_map (broken_in breaks) rs

-- ---- aliases

-- The types that an alias's subtype may be.
abbrev pub is_alias_type : DeclaredType → Bool
is_alias_type (Plain type.StdUlogic) = true
is_alias_type (Plain type.StdLogic) = true
is_alias_type (Plain type.X01) = true
is_alias_type _ = false

abbrev pub has_alias_type : Alias → Bool
has_alias_type a = option_map_or (λ s. is_alias_type (type_of s)) a.subtype true

abbrev pub is_constant_target : AliasTarget → Bool
is_constant_target (Variable o) = false
is_constant_target (Element o n) = false
is_constant_target (Constant o) = true
is_constant_target (PackageConstant n o) = true
is_constant_target NoTarget = false

abbrev pub is_variable_target : AliasTarget → Bool
is_variable_target (Variable o) = true
is_variable_target (Element o n) = true
is_variable_target (Constant o) = false
is_variable_target (PackageConstant n o) = false
is_variable_target NoTarget = false

-- ---- L1.2: the declarations of the architecture

-- A declaration is an attribute, a constant, a signal, or an alias of a level constant.
abbrev pub is_not_variable : ObjectClass → Bool
is_not_variable class.Constant = true
is_not_variable class.Signal = true
is_not_variable class.Variable = false

abbrev pub is_allowed_in_arch : Cell → Site → Decl → Bool
is_allowed_in_arch cell site (decl.Attribute identifier type_mark) = true
is_allowed_in_arch cell site (decl.Specification s) = true
is_allowed_in_arch cell site (decl.Object o) = is_not_variable o.«class»
is_allowed_in_arch cell site (decl.Alias a) = has_alias_type a && is_constant_target (alias_target cell site a)
is_allowed_in_arch cell site (decl.Component c) = false

abbrev pub breaks_2 : Cell → Site → Decl → Bool
breaks_2 cell site d = not (is_allowed_in_arch cell site d)

-- Each declaration of the architecture that is none of these.
abbrev pub clause_2 : Cell → List Place
clause_2 cell = broken (breaks_2 cell) (own_region cell.arch)

-- ---- L1.3: constants

abbrev pub breaks_3_as : Cell → Site → ObjectClass → Object → Bool
breaks_3_as cell site class.Constant o = not (is_good_constant (InCell cell site) o)
breaks_3_as cell site class.Signal o = false
breaks_3_as cell site class.Variable o = false

abbrev pub breaks_3 : Cell → Site → Decl → Bool
breaks_3 cell site (decl.Attribute identifier type_mark) = false
breaks_3 cell site (decl.Specification s) = false
breaks_3 cell site (decl.Object o) = breaks_3_as cell site o.«class» o
breaks_3 cell site (decl.Alias a) = false
breaks_3 cell site (decl.Component c) = false

-- Each constant of the architecture, its blocks and its processes that is not as Level 1 allows it. Symbols that no column of a
-- table may have are told elsewhere.
abbrev pub clause_3 : Cell → List Place
clause_3 cell = broken (breaks_3 cell) (regions cell.arch)

-- ---- L1.4: signals

-- The character of a level, as the standard prints it.
abbrev pub is_level_character : ℕ → Bool
is_level_character byte = list_any (λ l. byte_of l == byte) levels

abbrev pub is_level_literal : Expr → Bool
is_level_literal e = option_map_or is_level_character (character e) false

abbrev pub is_good_signal : Object → Bool
is_good_signal o = is_of_levels o && option_map_or is_level_literal o.parts.value true

abbrev pub breaks_4_as : ObjectClass → Object → Bool
breaks_4_as class.Constant o = false
breaks_4_as class.Signal o = not (is_good_signal o)
breaks_4_as class.Variable o = false

abbrev pub breaks_4 : Site → Decl → Bool
breaks_4 site (decl.Attribute identifier type_mark) = false
breaks_4 site (decl.Specification s) = false
breaks_4 site (decl.Object o) = breaks_4_as o.«class» o
breaks_4 site (decl.Alias a) = false
breaks_4 site (decl.Component c) = false

-- Each signal of the architecture, its blocks and its processes that is not of levels, or has another default than a level.
abbrev pub clause_4 : Cell → List Place
clause_4 cell = broken breaks_4 (regions cell.arch)

-- ---- L1.9: the declarations of processes

-- A default is an identifier with this text, or there is none.
abbrev pub has_no_other_default : List ℕ → Option Expr → Bool
has_no_other_default word default = option_map_or (λ e. option_map_or (λ i. bytes_eq i.name word) (identifier_of e) false) default true

-- The default that a variable may have. Which defaults of levels and vectors are good is said elsewhere.
abbrev pub is_good_default : Option Expr → VariableType → Bool
is_good_default default Level = true
is_good_default default X01 = true
is_good_default default (VectorOf r) = true
is_good_default default GlitchData = is_none default
is_good_default default TimingData = has_no_other_default (codes "vitaltimingdatainit") default
is_good_default default PeriodData = has_no_other_default (codes "vitalperioddatainit") default

abbrev pub is_good_variable : Object → Bool
is_good_variable o = option_map_or (is_good_default o.parts.value) (variable_type o.parts.subtype) false

abbrev pub is_allowed_object : ObjectClass → Object → Bool
is_allowed_object class.Constant o = true
is_allowed_object class.Signal o = false
is_allowed_object class.Variable o = is_good_variable o

-- A declaration of a process: a constant, a variable of a type that variables may have with a default that it may have, or an alias
-- of a level variable or of an element of a vector variable.
abbrev pub is_allowed_in_process : Cell → Site → Decl → Bool
is_allowed_in_process cell site (decl.Attribute identifier type_mark) = false
is_allowed_in_process cell site (decl.Specification s) = false
is_allowed_in_process cell site (decl.Object o) = is_allowed_object o.«class» o
is_allowed_in_process cell site (decl.Alias a) = has_alias_type a && is_variable_target (alias_target cell site a)
is_allowed_in_process cell site (decl.Component c) = false

abbrev pub breaks_9 : Cell → Site → Decl → Bool
breaks_9 cell site d = is_some site.process && not (is_allowed_in_process cell site d)

-- Each declaration of a process that is none of these.
abbrev pub clause_9 : Cell → List Place
clause_9 cell = broken (breaks_9 cell) (regions cell.arch)

-- What a declaration may break, by the clause.
abbrev pub breaks : DeclarationClause → Cell → Site → Decl → Bool
breaks clause.InArchitecture cell site d = breaks_2 cell site d
breaks clause.OfConstants cell site d = breaks_3 cell site d
breaks clause.OfSignals cell site d = breaks_4 site d
breaks clause.InProcess cell site d = breaks_9 cell site d

-- ---- L1.17: identifiers

abbrev pub redeclared_in : Cell → Region → List Place
redeclared_in cell r = redeclared cell Architecture r.process (declared_in r.declarations)

abbrev pub all_redeclared : Cell → List Region → List Place
all_redeclared cell rs = redeclared cell Entity None (interface_of cell.entity) ++ flat_map (redeclared_in cell) rs

-- Each identifier that an earlier one seen from there has, or that is predeclared.
abbrev pub clause_17 : Cell → List Place
clause_17 cell = all_redeclared cell (regions cell.arch)

-- ---- L1.18: ports

abbrev pub breaks_18 : Iface → Bool
breaks_18 port = not (is_level (type_of port.parts.subtype))

abbrev pub of_ports : List Iface → List Place
of_ports ports = map (λ port. port.identifier.place) (filter breaks_18 ports)

-- Each port that is not of the types STD_ULOGIC and STD_LOGIC.
abbrev pub clause_18 : Cell → List Place
clause_18 cell = of_ports cell.entity.ports
