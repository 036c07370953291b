-- The clauses of Level 1 that speak of the kinds of statements in an architecture and in its processes, and of their order: for
-- each, the places of a cell where it is broken.
use Rattle.std.specs.Prelude.{ℕ, ◌==◌, length, Bool, true, false, ◌&&◌, ◌||◌, not, is_some, List, [], ◌∷◌, ◌++◌, map, filter, Option, Some, None, codes}
use Rattle.std.specs.List.{filter_map, flat_map, list_any}
use Rattle.std.specs.Option.{option_and_then, option_map_or}
use Rattle.std.specs.Str.{bytes_eq}
use Rattle.vital_base.specs.declared.place.Place.{Place}
use Rattle.vital_nodes.specs.declared.decl.Decl.{Decl}
use Rattle.vital_nodes.specs.declared.decl.Decl.TheVariants as decl
use Rattle.vital_nodes.specs.declared.decl.Designator.{Designator}
use Rattle.vital_nodes.specs.declared.decl.Designator.TheVariants as designator
use Rattle.vital_nodes.specs.declared.decl.EntityClass.{EntityClass}
use Rattle.vital_nodes.specs.declared.decl.EntityClass.TheVariants as class
use Rattle.vital_nodes.specs.declared.decl.Specification.{Specification}
use Rattle.vital_nodes.specs.declared.expr.Expr.{Expr}
use Rattle.vital_nodes.specs.declared.expr.Reference.{Reference}
use Rattle.vital_nodes.specs.declared.stmt.Branch.{Branch}
use Rattle.vital_nodes.specs.declared.stmt.Conc.{Conc}
use Rattle.vital_nodes.specs.declared.stmt.If.{If}
use Rattle.vital_nodes.specs.declared.stmt.Process.{Process}
use Rattle.vital_nodes.specs.declared.stmt.Stmt.{Stmt}
use Rattle.vital_nodes.specs.declared.stmt.Stmt.TheViews.{out-If}
use Rattle.vital_nodes.specs.declared.unit.Arch.{Arch}
use Rattle.vital_nodes.specs.declared.unit.Entity.{Entity}
use Rattle.vital_nodes.specs.Places.{place_of_conc, place_of_name, place_of_stmt}
use Rattle.vital_nodes.specs.Names.{identifier_of, plain_identifier}
use Rattle.vital_nodes.specs.Statements.{all_concurrent}
use Rattle.vital_names.specs.declared.predeclared.Procedure.{Procedure}
use Rattle.vital_names.specs.declared.predeclared.Procedure.TheVariants as procedure_is
use Rattle.vital_names.specs.Sites.{Cell}
use Rattle.vital_statements.specs.Called.{call_of_stmt, procedure_of}
use Rattle.vital_statements.specs.Lists.{each, place_if}
use Rattle.vital_statements.specs.Operands.{is_read_port, is_signal, means}
use Rattle.vital_statements.specs.Parentheses.{bare_identifier}
use Rattle.vital_statements.specs.Sections.{is_later, section_of}
use Rattle.vital_statements.specs.Statements.{as_block, as_if, as_process, is_block, is_if, statements_in_if, statements_of}

-- ---- L1.1: the attribute of the architecture

-- The value TRUE, which is read as the identifier.
abbrev pub is_true : Expr → Bool
is_true e = option_map_or (λ i. bytes_eq i.name (codes "true")) (identifier_of e) false

abbrev pub is_named : List ℕ → Designator → Bool
is_named name (designator.Identifier identifier) = bytes_eq identifier.name name
is_named name designator.All = false
is_named name designator.Others = false

abbrev pub is_architecture_class : EntityClass → Bool
is_architecture_class class.Entity = false
is_architecture_class class.Architecture = true
is_architecture_class class.Component = false
is_architecture_class class.Signal = false
is_architecture_class class.Label = false

-- `attribute VITAL_LEVEL1 of A : architecture is TRUE`, where A has this name.
abbrev pub is_level_1_specification : List ℕ → Specification → Bool
is_level_1_specification name s =
    bytes_eq s.identifier.name (codes "vital_level1") && is_named name s.designator && is_architecture_class s.«class» && is_true s.value

abbrev pub is_level_1 : List ℕ → Decl → Bool
is_level_1 name (decl.Specification s) = is_level_1_specification name s
is_level_1 name (decl.Attribute identifier type) = false
is_level_1 name (decl.Object o) = false
is_level_1 name (decl.Alias a) = false
is_level_1 name (decl.Component c) = false

abbrev pub unspecified : Entity → Option Arch → List Place
unspecified e None = e.identifier.place ∷ []
unspecified e (Some a) = place_if (not (list_any (is_level_1 a.identifier.name) a.declarations)) a.identifier.place

-- L1.1: the entity's identifier, where there is no architecture; the architecture's, where that specification does not stand
-- among its declarations.
abbrev pub clause_1 : Cell → List Place
clause_1 cell = unspecified cell.entity cell.arch

-- ---- L1.5: the statements of the architecture

-- A block of wire delays by its label.
abbrev pub is_wire_delay_block : Conc → Bool
is_wire_delay_block c = option_map_or (λ b. bytes_eq b.0.name (codes "wiredelay")) (as_block c) false

-- Good are a process, and a block with the label WireDelay before which no block stands.
abbrev pub breaks_5 : List Conc → Conc → Bool
breaks_5 before c = not (is_some (as_process c) || (is_wire_delay_block c && not (list_any is_block before)))

abbrev pub places_5_at : List Conc → Conc → List Place
places_5_at before c = place_if (breaks_5 before c) (place_of_conc c)

-- L1.5: each statement that is neither a process nor a block, each block after the first, and a block with another label.
abbrev pub clause_5 : Cell → List Place
clause_5 cell = each places_5_at (statements_of cell)

-- ---- L1.7: sensitivity lists

-- An internal signal, or an in or inout port, by its plain name.
abbrev pub is_input : Cell → Reference → Bool
is_input cell r = option_map_or (λ i. means is_signal cell None i || means is_read_port cell None i) (plain_identifier r) false

-- The place of a process without a list, and those of the other elements of its list.
abbrev pub places_7 : Cell → Place → List Reference → List Place
places_7 cell place rs = place_if (length rs == 0) place ++ map place_of_name (filter (λ r. not (is_input cell r)) rs)

abbrev pub places_7_in : Cell → Conc → List Place
places_7_in cell c = option_map_or (λ p. places_7 cell (place_of_conc c) p.sensitivity) (as_process c) []

-- L1.7: each process without a sensitivity list, and each other element of a list.
abbrev pub clause_7 : Cell → List Place
clause_7 cell = flat_map (places_7_in cell) (all_concurrent (statements_of cell))

-- ---- L1.10: sections

-- Good is a statement of a section, if none of a later section stands before it.
abbrev pub breaks_10 : Cell → Process → List Stmt → Stmt → Bool
breaks_10 cell p before s =
    option_map_or (λ section. list_any (λ earlier. is_later earlier section) (filter_map (section_of cell p) before)) (section_of cell p s) true

abbrev pub places_10_at : Cell → Process → List Stmt → Stmt → List Place
places_10_at cell p before s = place_if (breaks_10 cell p before s) (place_of_stmt s)

abbrev pub places_10 : Cell → Process → List Place
places_10 cell p = each (places_10_at cell p) p.statements

abbrev pub places_10_in : Cell → Conc → List Place
places_10_in cell c = option_map_or (places_10 cell) (as_process c) []

-- L1.10: each other statement of a process.
abbrev pub clause_10 : Cell → List Place
clause_10 cell = flat_map (places_10_in cell) (all_concurrent (statements_of cell))

-- ---- L1.11: timing checks

abbrev pub is_timing_checks_on : Expr → Bool
is_timing_checks_on e = option_map_or (λ i. bytes_eq i.name (codes "timingcheckson")) (bare_identifier e) false

abbrev pub only_branch_is_checks : List Branch → Bool
only_branch_is_checks [] = false
only_branch_is_checks (b ∷ []) = is_timing_checks_on b.condition
only_branch_is_checks (b ∷ c ∷ others) = false

-- `if TimingChecksOn` with no other branch.
abbrev pub is_check_form : If → Bool
is_check_form i = only_branch_is_checks (out-If i).branches && not (is_some (out-If i).otherwise)

abbrev pub is_check : Procedure → Bool
is_check procedure_is.WireDelay = false
is_check procedure_is.StateTable = false
is_check (procedure_is.PathDelay t) = false
is_check (procedure_is.Check c) = true

abbrev pub is_check_call : Cell → Process → Stmt → Bool
is_check_call cell p s = option_map_or is_check (option_and_then (procedure_of cell (Some p)) (call_of_stmt s)) false

abbrev pub others_than_checks : Cell → Process → List Stmt → List Place
others_than_checks cell p ss = map place_of_stmt (filter (λ s. not (is_check_call cell p s)) ss)

-- An `if` before which one stands or not: itself, where it is not the first or not of this form, and what stands in it and is
-- no call of a check.
abbrev pub places_of_if : Cell → Process → Bool → Place → If → List Place
places_of_if cell p is_repeated place i =
    place_if (is_repeated || not (is_check_form i)) place ++ others_than_checks cell p (statements_in_if i)

abbrev pub places_11_at : Cell → Process → List Stmt → Stmt → List Place
places_11_at cell p before s = option_map_or (places_of_if cell p (list_any is_if before) (place_of_stmt s)) (as_if s) []

abbrev pub places_11 : Cell → Process → List Place
places_11 cell p = each (places_11_at cell p) p.statements

abbrev pub places_11_in : Cell → Conc → List Place
places_11_in cell c = option_map_or (places_11 cell) (as_process c) []

-- L1.11: each `if` of a process after the first, or of another form, and each other statement in it than a call of a check.
abbrev pub clause_11 : Cell → List Place
clause_11 cell = flat_map (places_11_in cell) (all_concurrent (statements_of cell))
