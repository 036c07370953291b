-- The scopes of a cell are those of the positions in it.
use Rattle.std.proofs.Common.{◌≡◌, ℕ, true, false, List, [], ◌++◌, Option, Some, None, refl, sym, subst}
use Rattle.std.specs.Prelude.{All, IfSome}
use Rattle.std.specs.List.{AllByRecursion}
use Rattle.std.specs.Option.{option_map_or}
use Rattle.std.proofs.lemmas.List.Elements.{recursion_from_All}
use Rattle.vital_base.specs.declared.place.Place.{Place}
use Rattle.vital_base.specs.Places.{is_before}
use Rattle.vital_typed_cells.specs.Packages.{sound_values}
use Rattle.vital_typed_cells.specs.Processes.{process}
use Rattle.vital_typed_cells.specs.Typed.{typed, typed_with}
use Rattle.vital_declaration_clauses.specs.Regions.{of_process}
use Rattle.vital_names.specs.declared.site.CellUnit.TheVariants.{Architecture}
use Rattle.vital_names.specs.Declarations.{Declared, body_of, declared_by, declared_in, identifier_of}
use Rattle.vital_names.specs.Declarations as declared
use Rattle.vital_names.specs.Meanings.{Meaning, meaning}
use Rattle.vital_names.specs.Meanings as meanings
use Rattle.vital_names.specs.Sites.{Cell}
use Rattle.vital_names.specs.Viewpoints.{is_last}
use Rattle.vital_nodes.specs.declared.decl.Decl.{Decl}
use Rattle.vital_nodes.specs.declared.decl.Object.{Object}
use Rattle.vital_nodes.specs.declared.identifier.Identifier.{Identifier}
use Rattle.vital_nodes.specs.declared.stmt.Process.{Process}
use Rattle.vital_nodes.specs.Nodes.{Node, Declaration, Interface, Concurrent, Sequential, Expression, Item, Name, sequentials}
use Rattle.vital_nodes.specs.Places.{place_of}
use Rattle.vital_nodes.specs.Walk.{nodes_of_all}
use Rattle.vital_objects.specs.declared.constant.Constant.{Constant}
use Rattle.vital_objects.specs.Constants.{constants}
use Rattle.vital_objects.specs.PackageValues.{value_at}
use Rattle.vital_objects.specs.Ports.{ports}
use Rattle.vital_objects.specs.Signals.{declarations}
use Rattle.vital_operands.specs.Named.{is_read_mode}
use Rattle.vital_operands.specs.Positions.{Position, InStatement}
use Rattle.vital_timing.specs.declared.delay.DelayType.{DelayType}
use Rattle.vital_uses.specs.Nodes.{sited_declarations}
use Rattle.vital_uses.specs.Sited.{own_site}
use Rattle.vital_uses.specs.Statements.{processes}
use Rattle.vital_typed_cells.specs.Positions.{HasIdentifier, HasNameAt}
use Rattle.vital_as_read.specs.AsRead.{AreConstantsTogether, AreTogether, IsAsRead, StandsBefore, common_of}
use Rattle.vital_typed_cells.proofs.AsRead.{alike-beside, processes-behind, processes-together}
use Rattle.vital_typed_cells.specs.Named.{is_input_port, is_internal, is_package_delay, is_package_level, is_package_time}
use Rattle.vital_typed_cells.specs.Scopes.{Visible, in_process, scope_of}
use Rattle.vital_typed_cells.proofs.Aliases.{AliasAt, aliases-at, not-before, outside-meaning}
use Rattle.vital_typed_cells.proofs.Bridge.{AliasIn, HasKind, HasValue, InBefore, IsKeptGeneric, IsKeptPort, IsKnownBefore, OwnObject, body-in, declares, own-in, value-back, value-front}
use Rattle.vital_typed_cells.proofs.Defaults.{generics-read}
use Rattle.vital_typed_cells.proofs.Facts.{Meets, NoSignal, NoVariable, RegionMet, all-for, body-is, body-own, from-sited, kinds-kept, processes-own, values-kept}
use Rattle.vital_typed_cells.proofs.Found.{weaker}
use Rattle.vital_typed_cells.proofs.Generics.{HasGeneric, defaults-typed, generics-kept}
use Rattle.vital_typed_cells.proofs.Lists.{all-both}
use Rattle.vital_typed_cells.proofs.NamedConstants.{AliasWorth, DeclFree, FreeAt, FreeMeaning, NamesFree, ProcessFree, Worth, body-free, declared-worth, meaning-worth, processes-free}
use Rattle.vital_typed_cells.proofs.Operands.{IsPackaged, statement-scope}
use Rattle.vital_typed_cells.proofs.Seen.{IfPackaged, site_at}
use Rattle.vital_typed_cells.proofs.Signals.{IsObject, IsSignal, ports-kept, signals-kept}
use Rattle.vital_typed_cells.proofs.Tabled.{body-met, processes-met}
use Rattle.vital_typed_cells.proofs.ValueTrees.{AllTold}

-- ---- constants of packages

-- What is seen of constants of packages is what they are worth.
pub worth-in : (cell : Cell) (v : Visible) (n : ℕ) (o : Object) → v.packages ≡ sound_values cell.files → Worth cell n o → IsPackaged (scope_of v) n o
worth-in cell v n o same worth = record {
  levels = λ is. subst (λ ps. option_map_or is_package_level (value_at ps n) false ≡ true) (sym same) (worth.levels is);
  times = λ is. subst (λ ps. option_map_or is_package_time (value_at ps n) false ≡ true) (sym same) (worth.times is);
  delays = λ e is. subst (λ ps. option_map_or (is_package_delay e) (value_at ps n) false ≡ true) (sym same) (worth.delays e is);
}

pub meaning-in : (cell : Cell) (v : Visible) (m : Option Meaning) → v.packages ≡ sound_values cell.files → IfPackaged (Worth cell) m → IfPackaged (IsPackaged (scope_of v)) m
meaning-in cell v None same worth = tt
meaning-in cell v (Some (meanings.Declared d)) same worth = tt
meaning-in cell v (Some (meanings.Constant n o)) same worth = worth-in cell v n o same worth
meaning-in cell v (Some (meanings.Predeclared w)) same worth = tt

pub alias-in : (cell : Cell) (v : Visible) (process : Option Process) → v.packages ≡ sound_values cell.files → (d : Declared) → AliasWorth cell process d → AliasIn (scope_of v) cell process d
alias-in cell v process same (declared.Generic i) worth = tt
alias-in cell v process same (declared.Port i) worth = tt
alias-in cell v process same (declared.Object o) worth = tt
alias-in cell v process same (declared.Alias a) worth = meaning-in cell v (meaning a.target.identifier.name cell (site_at process a.identifier.place)) same worth

-- ---- aliases

region-aliases : (cell : Cell) (process : Option Process) (ds : List Decl) → AreConstantsTogether cell.files → AreTogether ds → AllByRecursion (DeclFree cell) (sited_declarations process ds) → AllByRecursion (AliasWorth cell process) (declared_in ds)
region-aliases cell process ds packages together free =
    from-sited (AliasWorth cell process) process ds
    (weaker (λ e. AliasAt process e e.declaration × DeclFree cell e) (λ e. IfSome (declared_by e.declaration) (AliasWorth cell process)) (λ e has. declared-worth cell process e packages has.0 has.1) (sited_declarations process ds)
    (all-both (λ e. AliasAt process e e.declaration) (DeclFree cell) (sited_declarations process ds) (aliases-at process ds (alike-beside is_last common_of ds together)) free))

pub body-aliases : (cell : Cell) → IsAsRead cell → NamesFree cell → AllByRecursion (AliasWorth cell None) (body_of cell.arch)
body-aliases cell read free =
    subst (AllByRecursion (AliasWorth cell None)) (body-is cell.arch) (region-aliases cell None (declarations cell.arch) read.packages read.arch.together (body-free cell free))

-- What a process declares stands behind what the architecture declares.
abbrev pub IsBehind : Process → Declared → Type 0
IsBehind q d = AllByRecursion (StandsBefore d) (declared_in q.declarations)

seen-within : (cell : Cell) (q : Process) (d : Declared) → AliasWorth cell None d → IsBehind q d → AliasWorth cell (Some q) d
seen-within cell q (declared.Generic i) worth behind = tt
seen-within cell q (declared.Port i) worth behind = tt
seen-within cell q (declared.Object o) worth behind = tt
seen-within cell q (declared.Alias a) worth behind =
    subst (IfPackaged (Worth cell))
    (outside-meaning cell q a.identifier.place a.target.identifier.name
    (weaker (StandsBefore (declared.Alias a)) (λ d. is_before (identifier_of d).place a.identifier.place ≡ false) (λ d before. not-before a.identifier.place (identifier_of d).place before) (declared_in q.declarations) behind)) worth

-- ---- what is declared

process-objects : (cell : Cell) (v : Visible) (p : Position) (w : Place) (ds : List Declared) → AllByRecursion (OwnObject NoSignal) ds → AllByRecursion (HasValue cell v.constants) ds → AllByRecursion (HasKind v.variables) ds
    → AllByRecursion (InBefore (scope_of v) p w) ds
process-objects cell v p w ds own values kinds =
    weaker (λ d. OwnObject NoSignal d × (HasValue cell v.constants d × HasKind v.variables d)) (InBefore (scope_of v) p w)
    (λ d has. λ before. own-in cell v p d has.0 has.1.0 (λ changing. has.1.1)) ds
    (all-both (OwnObject NoSignal) (λ d. HasValue cell v.constants d × HasKind v.variables d) ds own (all-both (HasValue cell v.constants) (HasKind v.variables) ds values kinds))

abbrev SignalIn : Visible → Declared → Type 0
SignalIn v d = IsObject IsSignal d → is_internal v.signals (identifier_of d).name ≡ true

body-objects : (cell : Cell) (v : Visible) (p : Position) (w : Place) (ds : List Declared) → AllByRecursion (OwnObject NoVariable) ds → AllByRecursion (HasValue cell v.constants) ds → AllByRecursion (SignalIn v) ds
    → AllByRecursion (InBefore (scope_of v) p w) ds
body-objects cell v p w ds own values signals =
    weaker (λ d. OwnObject NoVariable d × (HasValue cell v.constants d × SignalIn v d)) (InBefore (scope_of v) p w)
    (λ d has. λ before. body-in cell v p d has.0 has.1.0 (λ changing is. has.1.1 is)) ds
    (all-both (OwnObject NoVariable) (λ d. HasValue cell v.constants d × SignalIn v d) ds own (all-both (HasValue cell v.constants) (SignalIn v) ds values signals))

-- ---- statements of processes

abbrev pub view : Cell → Process → Visible
view cell q = in_process (typed cell) (process cell [] q)

abbrev own_constants : Cell → List Constant
own_constants cell = constants cell [] None (declarations cell.arch)

-- What is so of a process of a cell that meets the clauses.
pub record IsGood (cell : Cell) (q : Process) : Type 0 where
  pub own : AllByRecursion (OwnObject NoSignal) (declared_in q.declarations)
  pub met : RegionMet cell (of_process q)
  pub together : AreTogether q.declarations
  pub free : ProcessFree cell q
  pub behind : AllByRecursion (IsBehind q) (body_of cell.arch)

pub own-constants-of : (told : AllTold) (cell : Cell) (q : Process) → IsGood cell q → AllByRecursion (HasValue cell (constants cell [] (Some q) q.declarations ++ own_constants cell)) (declared_in q.declarations)
own-constants-of told cell q good =
    weaker (HasValue cell (constants cell [] (Some q) q.declarations)) (HasValue cell (constants cell [] (Some q) q.declarations ++ own_constants cell)) (value-front cell (constants cell [] (Some q) q.declarations) (own_constants cell)) (declared_in q.declarations)
    (values-kept cell (Some q) q.declarations told good.together good.met)

-- Aliases of a process, and those of the architecture as a process sees them.
pub process-aliases : (cell : Cell) (q : Process) → IsAsRead cell → IsGood cell q → AllByRecursion (AliasWorth cell (Some q)) (declared_in q.declarations)
process-aliases cell q read good = region-aliases cell (Some q) q.declarations read.packages good.together good.free.declarations

pub seen-from-process : (cell : Cell) (q : Process) → IsAsRead cell → Meets cell → IsGood cell q → AllByRecursion (AliasWorth cell (Some q)) (body_of cell.arch)
seen-from-process cell q read met good =
    weaker (λ d. AliasWorth cell None d × IsBehind q d) (AliasWorth cell (Some q)) (λ d has. seen-within cell q d has.0 has.1) (body_of cell.arch)
    (all-both (AliasWorth cell None) (IsBehind q) (body_of cell.arch) (body-aliases cell read met.named) good.behind)

process-there : (told : AllTold) (cell : Cell) (q : Process) (w : Place) → IsAsRead cell → IsGood cell q
    → AllByRecursion (IsKnownBefore (scope_of (view cell q)) (InStatement cell Architecture (Some q)) cell (Some q) w) (declared_in q.declarations)
unfolding typed typed_with
process-there told cell q w read good =
    all-both (InBefore (scope_of (view cell q)) (InStatement cell Architecture (Some q)) w) (AliasIn (scope_of (view cell q)) cell (Some q)) (declared_in q.declarations)
    (process-objects cell (view cell q) (InStatement cell Architecture (Some q)) w (declared_in q.declarations) good.own (own-constants-of told cell q good) (kinds-kept cell q good.together))
    (weaker (AliasWorth cell (Some q)) (AliasIn (scope_of (view cell q)) cell (Some q)) (alias-in cell (view cell q) (Some q) refl) (declared_in q.declarations) (process-aliases cell q read good))

body-there : (told : AllTold) (cell : Cell) (q : Process) (w : Place) → IsAsRead cell → Meets cell → IsGood cell q
    → AllByRecursion (IsKnownBefore (scope_of (view cell q)) (InStatement cell Architecture (Some q)) cell (Some q) w) (body_of cell.arch)
unfolding typed typed_with
body-there told cell q w read met good =
    all-both (InBefore (scope_of (view cell q)) (InStatement cell Architecture (Some q)) w) (AliasIn (scope_of (view cell q)) cell (Some q)) (body_of cell.arch)
    (subst (AllByRecursion (InBefore (scope_of (view cell q)) (InStatement cell Architecture (Some q)) w)) (body-is cell.arch)
    (body-objects cell (view cell q) (InStatement cell Architecture (Some q)) w (declared_in (declarations cell.arch)) (body-own cell met)
    (weaker (HasValue cell (own_constants cell)) (HasValue cell (constants cell [] (Some q) q.declarations ++ own_constants cell)) (value-back cell (constants cell [] (Some q) q.declarations) (own_constants cell)) (declared_in (declarations cell.arch))
    (values-kept cell None (declarations cell.arch) told read.arch.together (body-met cell read met)))
    (signals-kept (declarations cell.arch))))
    (weaker (AliasWorth cell (Some q)) (AliasIn (scope_of (view cell q)) cell (Some q)) (alias-in cell (view cell q) (Some q) refl) (body_of cell.arch) (seen-from-process cell q read met good))

-- Each generic that is a delay is there with its type.
pub generics-there : (cell : Cell) → IsAsRead cell → NamesFree cell → AllByRecursion (λ i. (e : DelayType) → HasGeneric cell e i) cell.entity.generics
generics-there cell read free =
    all-for (HasGeneric cell) cell.entity.generics (λ e. generics-kept cell e (defaults-typed cell read.packages (generics-read cell read.entity.generics_together free)))

-- What an identifier in a statement of a process stands for is in the scope of the process.
identifier-there : (told : AllTold) (cell : Cell) (q : Process) (i : Identifier) → IsAsRead cell → Meets cell → IsGood cell q → FreeMeaning cell (meaning i.name cell (site_at (Some q) i.place))
    → HasIdentifier (scope_of (view cell q)) (InStatement cell Architecture (Some q)) i
unfolding typed typed_with
identifier-there told cell q i read met good free =
    statement-scope (scope_of (view cell q)) cell (Some q) i
    (declares (view cell q) (InStatement cell Architecture (Some q)) cell (Some q) i.place
    (weaker (λ g. (e : DelayType) → HasGeneric cell e g) (IsKeptGeneric (view cell q)) (λ g has. has) cell.entity.generics (generics-there cell read met.named))
    (weaker (λ g. is_read_mode g.parts.mode ≡ true → is_input_port (ports cell []) g.identifier.name ≡ true) (IsKeptPort (view cell q) (InStatement cell Architecture (Some q))) (λ g has. λ changing. has) cell.entity.ports (ports-kept cell []))
    (process-there told cell q i.place read good) (body-there told cell q i.place read met good))
    (meaning-in cell (view cell q) (meaning i.name cell (site_at (Some q) i.place)) refl (meaning-worth cell (site_at (Some q) i.place) i.name read.packages free))

node-there : (told : AllTold) (cell : Cell) (q : Process) → IsAsRead cell → Meets cell → IsGood cell q → (v : Node) → FreeAt cell (own_site (Some q) (place_of v)) v
    → HasNameAt (scope_of (view cell q)) (InStatement cell Architecture (Some q)) v
unfolding place_of
node-there told cell q read met good (Declaration d) free = tt
node-there told cell q read met good (Interface i) free = tt
node-there told cell q read met good (Concurrent k) free = tt
node-there told cell q read met good (Sequential k) free = tt
node-there told cell q read met good (Expression e) free = tt
node-there told cell q read met good (Item i) free = tt
node-there told cell q read met good (Name r) free = identifier-there told cell q r.identifier read met good free

-- What each name in the statements of a process stands for.
abbrev pub HasStatementNames : Cell → Process → Type 0
HasStatementNames cell q = AllByRecursion (HasNameAt (scope_of (view cell q)) (InStatement cell Architecture (Some q))) (nodes_of_all (sequentials q.statements))

process-scope : (told : AllTold) (cell : Cell) (q : Process) → IsAsRead cell → Meets cell → IsGood cell q → HasStatementNames cell q
process-scope told cell q read met good =
    weaker (λ v. FreeAt cell (own_site (Some q) (place_of v)) v) (HasNameAt (scope_of (view cell q)) (InStatement cell Architecture (Some q))) (node-there told cell q read met good) (nodes_of_all (sequentials q.statements)) good.free.nodes

behind-each : (cell : Cell) → IsAsRead cell → AllByRecursion (λ q. AllByRecursion (IsBehind q) (body_of cell.arch)) (processes cell.arch)
behind-each cell read =
    weaker (λ q. All (λ d. All (StandsBefore d) (declared_in q.declarations)) (body_of cell.arch)) (λ q. AllByRecursion (IsBehind q) (body_of cell.arch))
    (λ q all. weaker (λ d. All (StandsBefore d) (declared_in q.declarations)) (IsBehind q) (λ d each. recursion_from_All (StandsBefore d) (declared_in q.declarations) each) (body_of cell.arch)
    (recursion_from_All (λ d. All (StandsBefore d) (declared_in q.declarations)) (body_of cell.arch) all)) (processes cell.arch)
    (processes-behind cell read)

pub goods : (cell : Cell) → IsAsRead cell → Meets cell → AllByRecursion (IsGood cell) (processes cell.arch)
goods cell read met =
    weaker (λ q. AllByRecursion (OwnObject NoSignal) (declared_in q.declarations) × (RegionMet cell (of_process q) × (AreTogether q.declarations × (ProcessFree cell q × AllByRecursion (IsBehind q) (body_of cell.arch))))) (IsGood cell)
    (λ q has. record { own = has.0; met = has.1.0; together = has.1.1.0; free = has.1.1.1.0; behind = has.1.1.1.1 }) (processes cell.arch)
    (all-both (λ q. AllByRecursion (OwnObject NoSignal) (declared_in q.declarations))
    (λ q. RegionMet cell (of_process q) × (AreTogether q.declarations × (ProcessFree cell q × AllByRecursion (IsBehind q) (body_of cell.arch)))) (processes cell.arch) (processes-own cell met)
    (all-both (λ q. RegionMet cell (of_process q)) (λ q. AreTogether q.declarations × (ProcessFree cell q × AllByRecursion (IsBehind q) (body_of cell.arch))) (processes cell.arch) (processes-met cell read met)
    (all-both (λ q. AreTogether q.declarations) (λ q. ProcessFree cell q × AllByRecursion (IsBehind q) (body_of cell.arch)) (processes cell.arch)
    (processes-together cell read)
    (all-both (ProcessFree cell) (λ q. AllByRecursion (IsBehind q) (body_of cell.arch)) (processes cell.arch) (processes-free cell met.named) (behind-each cell read)))))

pub process-scopes : (told : AllTold) (cell : Cell) → IsAsRead cell → Meets cell → AllByRecursion (HasStatementNames cell) (processes cell.arch)
process-scopes told cell read met = weaker (IsGood cell) (HasStatementNames cell) (λ q good. process-scope told cell q read met good) (processes cell.arch) (goods cell read met)
