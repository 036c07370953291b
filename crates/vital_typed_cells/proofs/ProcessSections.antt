-- The sections of each process of a cell are sound in its scope.
use Rattle.std.proofs.Common.{◌≡◌, true, List, [], Some, refl, subst}
use Rattle.std.specs.Prelude.{IfSome}
use Rattle.std.specs.List.{AllByRecursion, flat_map}
use Rattle.vital_typed_cells.specs.Processes.{process}
use Rattle.vital_typed_cells.specs.Typed.{typed, typed_with}
use Rattle.vital_level1.specs.Forms.{broken_in_process, broken_statement, truth_uses_of_process, uses_of_statement}
use Rattle.vital_names.specs.declared.site.CellUnit.TheVariants.{Architecture}
use Rattle.vital_names.specs.Declarations.{Declared, body_of, declared_in, identifier_of}
use Rattle.vital_names.specs.Sites.{Cell}
use Rattle.vital_nodes.specs.declared.stmt.Process.{Process}
use Rattle.vital_nodes.specs.declared.stmt.Stmt.{Stmt}
use Rattle.vital_nodes.specs.declared.stmt.Stmt.TheViews.{out-Stmt}
use Rattle.vital_nodes.specs.Nodes.{Node, Declaration, Interface, Concurrent, Sequential, Expression, Item, Name, parts_of, sequentials}
use Rattle.vital_nodes.specs.Walk.{nodes_of_all}
use Rattle.vital_objects.specs.Signals.{declarations}
use Rattle.vital_objects.specs.Variables.{variables}
use Rattle.vital_operands.specs.Positions.{InStatement}
use Rattle.vital_typed_statements.specs.Statements.{context}
use Rattle.vital_sections.specs.Sections.{sections}
use Rattle.vital_uses.specs.Statements.{processes}
use Rattle.vital_nodes.specs.Statements.{all_sequential, sequential}
use Rattle.vital_typed_cells.specs.ActualPositions.{IsActualScopeOf}
use Rattle.vital_typed_cells.specs.ActualScopes.{ActualScope}
use Rattle.vital_typed_cells.specs.Positions.{HasNameAt}
use Rattle.vital_typed_cells.specs.Calls.{HasTableAt}
use Rattle.vital_typed_cells.proofs.Nodes.{IsKnown, IsKnownAt}
use Rattle.vital_as_read.specs.AsRead.{IsAsRead, IsProcessAsRead}
use Rattle.vital_typed_cells.specs.Scopes.{actuals_in, scope_of, state_tables_in}
use Rattle.vital_typed_cells.specs.SoundSections.{are_sound_sections}
use Rattle.vital_typed_cells.proofs.AsRead.{each-process}
use Rattle.vital_typed_cells.proofs.BehindNames.{NameBehind, names-behind}
use Rattle.vital_typed_cells.proofs.Bridge.{OwnObject}
use Rattle.vital_typed_cells.proofs.Data.{DataIn, HasDataOf, body-data, data-kept, declares-data, identifier-data, outputs-kept, own-data}
use Rattle.vital_typed_cells.proofs.Facts.{Meets, NoSignal, NoVariable, body-is, body-own}
use Rattle.vital_typed_cells.proofs.Closed.{Within, closed}
use Rattle.vital_typed_cells.proofs.Found.{all-kept, weaker}
use Rattle.vital_typed_cells.proofs.ItemNodes.{parts-within}
use Rattle.vital_typed_cells.proofs.Lists.{all-both, of-flat}
use Rattle.vital_typed_cells.proofs.Regions.{front-all, none-each}
use Rattle.vital_typed_cells.proofs.Signals.{IsObject, IsSignal, signals-kept}
use Rattle.vital_typed_cells.proofs.StateStatements.{layer-sound}
use Rattle.vital_typed_cells.proofs.StatementTables.{FreeNode, statement-reads, statement-tables}
use Rattle.vital_typed_cells.proofs.Statements.{SoundState, layer-call, sections-sound, statements-known, stmt-parts}
use Rattle.vital_typed_cells.proofs.Uses.{AllFit, Fits}
use Rattle.vital_typed_cells.proofs.ValueTrees.{AllTold}
use Rattle.vital_typed_cells.proofs.Views.{HasStatementNames, IsGood, goods, process-scopes, view}

abbrev pub actuals : Cell → Process → ActualScope
actuals cell q = actuals_in (typed cell) (process cell [] q)

own-there : (cell : Cell) (q : Process) → IsGood cell q → AllByRecursion (DataIn (actuals cell q)) (declared_in q.declarations)
unfolding typed typed_with
own-there cell q good =
    weaker (λ d. OwnObject NoSignal d × HasDataOf (variables cell [] q) d) (DataIn (actuals cell q))
    (λ d has. own-data (actuals cell q) (variables cell [] q) d (record { violation = λ e is. is; glitch = λ e is. is; timing = λ e is. is; period = λ e is. is }) has.0 has.1) (declared_in q.declarations)
    (all-both (OwnObject NoSignal) (HasDataOf (variables cell [] q)) (declared_in q.declarations) good.own (data-kept cell q good.together))

abbrev SignalIn : Cell → Process → Declared → Type 0
SignalIn cell q d = IsObject IsSignal d → (actuals cell q).has_internal (identifier_of d).name ≡ true

body-there : (cell : Cell) (q : Process) → Meets cell → AllByRecursion (DataIn (actuals cell q)) (body_of cell.arch)
unfolding typed typed_with
body-there cell q met =
    subst (AllByRecursion (DataIn (actuals cell q))) (body-is cell.arch)
    (weaker (λ d. OwnObject NoVariable d × SignalIn cell q d) (DataIn (actuals cell q)) (λ d has. body-data (actuals cell q) d has.0 has.1) (declared_in (declarations cell.arch))
    (all-both (OwnObject NoVariable) (SignalIn cell q) (declared_in (declarations cell.arch)) (body-own cell met) (signals-kept (declarations cell.arch))))

scope-there : (cell : Cell) (q : Process) → Meets cell → IsGood cell q → IsActualScopeOf (actuals cell q) (InStatement cell Architecture (Some q))
unfolding typed typed_with
scope-there cell q met good = record {
  in_statement = refl;
  named = λ i. identifier-data (actuals cell q) cell (Some q) i (declares-data (actuals cell q) cell q i.place (own-there cell q good) (body-there cell q met) (outputs-kept cell []));
}

-- The nodes of a statement, with what is so of each of them.
abbrev Facts : Cell → Process → Node → Type 0
Facts cell q v = FreeNode cell q v × NameBehind cell q v

statement-within : (P : Node → Type 0) (v : Node) → Within P v → IfSome (sequential v) (λ t. Within P (Sequential t))
statement-within P (Declaration d) within = tt
statement-within P (Interface i) within = tt
statement-within P (Concurrent k) within = tt
statement-within P (Sequential t) within = within
statement-within P (Expression e) within = tt
statement-within P (Item i) within = tt
statement-within P (Name r) within = tt

statements-within : (P : Node → Type 0) (ts : List Stmt) → AllByRecursion P (nodes_of_all (sequentials ts)) → AllByRecursion (λ t. Within P (Sequential t)) (all_sequential ts)
statements-within P ts all =
    all-kept (λ t. Within P (Sequential t)) sequential (nodes_of_all (sequentials ts))
    (weaker (Within P) (λ v. IfSome (sequential v) (λ t. Within P (Sequential t))) (statement-within P) (nodes_of_all (sequentials ts)) (closed P (sequentials ts) all))

-- What is so of a statement.
record StatementFacts (cell : Cell) (q : Process) (t : Stmt) : Type 0 where
  known : IsKnown (scope_of (view cell q)) (context cell (Some q) []) (Sequential t)
  free : Within (FreeNode cell q) (Sequential t)
  behind : Within (NameBehind cell q) (Sequential t)
  whole : broken_statement cell [] q t ≡ []
  fit : AllFit cell (uses_of_statement cell [] q t)

state-sound : (told : AllTold) (cell : Cell) (q : Process) (t : Stmt) → IsAsRead cell → Meets cell → IsGood cell q → StatementFacts cell q t → SoundState (state_tables_in (view cell q)) (actuals cell q) cell q t
unfolding parts_of
state-sound told cell q t read met good facts =
    layer-sound (actuals cell q) cell q (view cell q) (FreeNode cell q) (out-Stmt t) (statement-reads told cell q read met good) (scope-there cell q met good)
    (layer-call (scope_of (view cell q)) (context cell (Some q) []) (out-Stmt t) (stmt-parts (scope_of (view cell q)) (context cell (Some q) []) t facts.known))
    (parts-within (FreeNode cell q) (Sequential t) facts.free) (parts-within (NameBehind cell q) (Sequential t) facts.behind) facts.whole facts.fit

-- What is so of a process.
record ProcessHas (cell : Cell) (q : Process) : Type 0 where
  good : IsGood cell q
  names : HasStatementNames cell q
  read : IsProcessAsRead (body_of cell.arch) q
  whole : broken_in_process cell [] q ≡ []

statements-have : (told : AllTold) (cell : Cell) (q : Process) → IsAsRead cell → Meets cell → ProcessHas cell q → AllByRecursion (IsKnownAt (scope_of (view cell q)) (context cell (Some q) [])) (nodes_of_all (sequentials q.statements))
    → AllByRecursion (StatementFacts cell q) (all_sequential q.statements)
statements-have told cell q read met has known =
    weaker (λ t. IsKnown (scope_of (view cell q)) (context cell (Some q) []) (Sequential t) × ((Within (FreeNode cell q) (Sequential t) × Within (NameBehind cell q) (Sequential t)) × ((broken_statement cell [] q t ≡ []) × AllFit cell (uses_of_statement cell [] q t))))
    (StatementFacts cell q) (λ t all. record { known = all.0; free = all.1.0.0; behind = all.1.0.1; whole = all.1.1.0; fit = all.1.1.1 }) (all_sequential q.statements)
    (all-both (λ t. IsKnown (scope_of (view cell q)) (context cell (Some q) []) (Sequential t)) _ (all_sequential q.statements) (statements-known (scope_of (view cell q)) (context cell (Some q) []) q.statements known)
    (all-both (λ t. Within (FreeNode cell q) (Sequential t) × Within (NameBehind cell q) (Sequential t)) _ (all_sequential q.statements)
    (all-both (λ t. Within (FreeNode cell q) (Sequential t)) (λ t. Within (NameBehind cell q) (Sequential t)) (all_sequential q.statements) (statements-within (FreeNode cell q) q.statements has.good.free.nodes)
    (statements-within (NameBehind cell q) q.statements (names-behind cell q has.read)))
    (all-both (λ t. broken_statement cell [] q t ≡ []) (λ t. AllFit cell (uses_of_statement cell [] q t)) (all_sequential q.statements) (none-each (broken_statement cell [] q) (all_sequential q.statements) has.whole)
    (of-flat (Fits cell) (uses_of_statement cell [] q) (all_sequential q.statements)
    (front-all (Fits cell) (flat_map (uses_of_statement cell [] q) (all_sequential q.statements)) (truth_uses_of_process cell [] q) has.good.free.fits)))))

abbrev pub SoundSections : Cell → Process → Type 0
SoundSections cell q = are_sound_sections (state_tables_in (view cell q)) (actuals cell q) (sections cell [] q) ≡ true

one-sound : (told : AllTold) (cell : Cell) (q : Process) → IsAsRead cell → Meets cell → ProcessHas cell q → SoundSections cell q
one-sound told cell q read met has =
    let known : AllByRecursion (IsKnownAt (scope_of (view cell q)) (context cell (Some q) [])) (nodes_of_all (sequentials q.statements)) =
    all-both (HasNameAt (scope_of (view cell q)) (InStatement cell Architecture (Some q))) (HasTableAt (scope_of (view cell q)) (context cell (Some q) [])) (nodes_of_all (sequentials q.statements)) has.names (statement-tables told cell q read met has.good) in
    sections-sound (state_tables_in (view cell q)) (actuals cell q) cell q (scope-there cell q met has.good) known
    (weaker (StatementFacts cell q) (SoundState (state_tables_in (view cell q)) (actuals cell q) cell q) (λ t facts. state-sound told cell q t read met has.good facts) (all_sequential q.statements) (statements-have told cell q read met has known))

pub processes-sound : (told : AllTold) (cell : Cell) → IsAsRead cell → Meets cell → AllByRecursion (SoundSections cell) (processes cell.arch)
processes-sound told cell read met =
    weaker (λ q. (IsGood cell q × HasStatementNames cell q) × (IsProcessAsRead (body_of cell.arch) q × (broken_in_process cell [] q ≡ []))) (SoundSections cell)
    (λ q all. one-sound told cell q read met (record { good = all.0.0; names = all.0.1; read = all.1.0; whole = all.1.1 })) (processes cell.arch)
    (all-both (λ q. IsGood cell q × HasStatementNames cell q) (λ q. IsProcessAsRead (body_of cell.arch) q × (broken_in_process cell [] q ≡ [])) (processes cell.arch)
    (all-both (IsGood cell) (HasStatementNames cell) (processes cell.arch) (goods cell read met) (process-scopes told cell read met))
    (all-both (IsProcessAsRead (body_of cell.arch)) (λ q. broken_in_process cell [] q ≡ []) (processes cell.arch) (each-process cell read) (none-each (broken_in_process cell []) (processes cell.arch) met.forms)))
