-- The declarations of a cell that meets the clauses are met, and those that are tables name good symbols.
use Rattle.std.proofs.Common.{◌≡◌, ℕ, false, List, [], map, Option, Some, None, sym, subst}
use Rattle.std.specs.Prelude.{IfSome}
use Rattle.std.specs.List.{AllByRecursion}
use Rattle.vital_base.specs.declared.place.Place.{Place}
use Rattle.vital_declaration_clauses.specs.Clauses.{breaks_3}
use Rattle.vital_declaration_clauses.specs.GoodConstants.{is_symbol_type}
use Rattle.vital_declaration_clauses.specs.Regions.{Region, of_process, outside}
use Rattle.vital_declaration_clauses.specs.Scopes.{InCell}
use Rattle.vital_declarations.specs.Types.{type_of}
use Rattle.vital_limits.specs.NodeLimits.{limits_of_declaration}
use Rattle.vital_names.specs.declared.site.CellUnit.TheVariants.{Architecture}
use Rattle.vital_names.specs.Declarations.{Declared, body_of, declared_by, declared_in}
use Rattle.vital_names.specs.Declarations as declared
use Rattle.vital_names.specs.Meanings.{Meaning, meaning}
use Rattle.vital_names.specs.Meanings as meanings
use Rattle.vital_names.specs.Sites.{Cell, Site}
use Rattle.vital_names.specs.Viewpoints.{is_last}
use Rattle.vital_nodes.specs.declared.decl.Decl.{Decl}
use Rattle.vital_nodes.specs.declared.decl.Decl.TheVariants as decl
use Rattle.vital_nodes.specs.declared.expr.Expr.{Expr}
use Rattle.vital_nodes.specs.declared.stmt.Process.{Process}
use Rattle.vital_nodes.specs.Nodes.{Node, Declaration, Interface, Concurrent, Sequential, Expression, Item, Name}
use Rattle.vital_nodes.specs.Places.{identifier_of_decl}
use Rattle.vital_nodes.specs.Walk.{nodes_of, nodes_of_all}
use Rattle.vital_objects.specs.Signals.{declarations}
use Rattle.vital_typed_declarations.specs.Declarations.{broken_at}
use Rattle.vital_uses.specs.Nodes.{sited_declarations}
use Rattle.vital_uses.specs.Parts.{asked_of_decl, asked_of_subtype}
use Rattle.vital_uses.specs.Sited.{Sited}
use Rattle.vital_uses.specs.Statements.{processes}
use Rattle.vital_nodes.specs.Objects.{is_constant}
use Rattle.vital_as_read.specs.AsRead.{AreConstantsTogether, IsAsRead}
use Rattle.vital_typed_cells.proofs.CellTables.{HasSymbols, IsFoundAt}
use Rattle.vital_typed_cells.proofs.Constants.{IsMet, good-by}
use Rattle.vital_typed_cells.proofs.Facts.{IsSiteIn, Meets, RegionJudged, RegionMet, body-is, declaration-sites, from-sited, regions-judged}
use Rattle.vital_typed_cells.proofs.Found.{all-mapped, both-lists, each, weaker}
use Rattle.vital_typed_cells.proofs.FoundAt.{RegionFound, regions-found}
use Rattle.vital_typed_cells.proofs.Lists.{all-both, sited-all}
use Rattle.vital_typed_cells.proofs.NamedConstants.{DeclFree, FreeAt, Known, ProcessFree, body-free, if-packaged, known-symbol, meaning-known, processes-free}
use Rattle.vital_typed_cells.proofs.Packages.{last-nodes}
use Rattle.vital_typed_cells.proofs.RegionLimits.{RegionShort}
use Rattle.vital_typed_cells.proofs.Regions.{own-all, processes-all}
use Rattle.vital_typed_cells.proofs.Rows.{DeclaredGood, MeaningGood, SymbolAt, SymbolGood, TableGood, good-symbol, table-good}
use Rattle.vital_typed_cells.proofs.Seen.{Before, Declares, Means, meaning-has, site_at}
use Rattle.vital_typed_cells.proofs.TablesKept.{constant-class}
use Rattle.vital_typed_cells.proofs.Tests.{first-true, second-true}

-- ---- symbols that are declared

decl-good : (cell : Cell) (site : Site) (d : Decl) → breaks_3 cell site d ≡ false → IfSome (declared_by d) DeclaredGood
decl-good cell site (decl.Attribute identifier type_mark) met = tt
decl-good cell site (decl.Specification s) met = tt
decl-good cell site (decl.Object o) met = λ is.
    good-symbol (InCell cell site) (type_of o.parts.subtype) o.parts.value (second-true (is_constant o) (is_symbol_type (type_of o.parts.subtype)) is)
    (good-by cell site o.«class» o (constant-class o.«class» (first-true (is_constant o) (is_symbol_type (type_of o.parts.subtype)) is)) met)
decl-good cell site (decl.Alias a) met = tt
decl-good cell site (decl.Component c) met = tt

region-good : (cell : Cell) (r : Region) → RegionJudged cell r → AllByRecursion DeclaredGood (declared_in r.declarations)
region-good cell r judged =
    from-sited DeclaredGood r.process r.declarations
    (weaker (λ e. (broken_at cell [] e ≡ []) × (breaks_3 cell e.site e.declaration ≡ false)) (λ e. IfSome (declared_by e.declaration) DeclaredGood) (λ e both. decl-good cell e.site e.declaration both.1)
    (sited_declarations r.process r.declarations) judged)

-- Of a process, if there is one, and of the architecture.
record AllGood (cell : Cell) (process : Option Process) : Type 0 where
  own : IfSome process (λ q. AllByRecursion DeclaredGood (declared_in q.declarations))
  body : AllByRecursion DeclaredGood (body_of cell.arch)

own-before : (v : Place) (o : Option Process) → IfSome o (λ q. AllByRecursion DeclaredGood (declared_in q.declarations)) → IfSome o (λ q. AllByRecursion (Before DeclaredGood v) (declared_in q.declarations))
own-before v None good = tt
own-before v (Some q) good = weaker DeclaredGood (Before DeclaredGood v) (λ d has. λ before. has) (declared_in q.declarations) good

declares-good : (cell : Cell) (process : Option Process) (v : Place) → AllGood cell process → Declares DeclaredGood cell process v
declares-good cell process v good = record {
  in_process = own-before v process good.own;
  in_arch = weaker DeclaredGood (Before DeclaredGood v) (λ d has. λ before. has) (body_of cell.arch) good.body;
  in_entity =
      both-lists DeclaredGood (map (λ i. declared.Generic i) cell.entity.generics) (map (λ i. declared.Port i) cell.entity.ports)
      (all-mapped DeclaredGood (λ i. declared.Generic i) cell.entity.generics (each (λ i. DeclaredGood (declared.Generic i)) (λ i. tt) cell.entity.generics))
      (all-mapped DeclaredGood (λ i. declared.Port i) cell.entity.ports (each (λ i. DeclaredGood (declared.Port i)) (λ i. tt) cell.entity.ports));
}

-- ---- symbols that are named

means-good : (name : List ℕ) (m : Option Meaning) → IfSome m (Means DeclaredGood (λ n o. SymbolGood o) name) → IfSome m MeaningGood
means-good name None has = tt
means-good name (Some (meanings.Declared d)) has = has.0
means-good name (Some (meanings.Constant n o)) has = has
means-good name (Some (meanings.Predeclared w)) has = tt

node-good : (cell : Cell) (process : Option Process) (v : Place) → AreConstantsTogether cell.files → AllGood cell process → (u : Node) → FreeAt cell (site_at process v) u → SymbolAt (InCell cell (site_at process v)) u
node-good cell process v together good (Declaration d) free = tt
node-good cell process v together good (Interface i) free = tt
node-good cell process v together good (Concurrent k) free = tt
node-good cell process v together good (Sequential k) free = tt
node-good cell process v together good (Expression e) free = tt
node-good cell process v together good (Item i) free = tt
node-good cell process v together good (Name r) free =
    means-good r.identifier.name (meaning r.identifier.name cell (site_at process v))
    (meaning-has DeclaredGood (λ n o. SymbolGood o) r.identifier.name cell process v (declares-good cell process v good)
    (if-packaged (Known cell) (λ n o. SymbolGood o) (meaning r.identifier.name cell (site_at process v)) (known-symbol cell) (meaning-known cell (site_at process v) r.identifier.name together free)))

value-good : (cell : Cell) (process : Option Process) (v : Place) (o : Option Expr) → AreConstantsTogether cell.files → AllGood cell process → IfSome o (λ x. AllByRecursion (FreeAt cell (site_at process v)) (nodes_of (Expression x)))
    → IfSome o (λ x. AllByRecursion (SymbolAt (InCell cell (site_at process v))) (nodes_of (Expression x)))
value-good cell process v None together good free = tt
value-good cell process v (Some x) together good free = weaker (FreeAt cell (site_at process v)) (SymbolAt (InCell cell (site_at process v))) (node-good cell process v together good) (nodes_of (Expression x)) free

has-symbols : (cell : Cell) (process : Option Process) (e : Sited Decl) → AreConstantsTogether cell.files → AllGood cell process → IsSiteIn process e → DeclFree cell e → HasSymbols cell e
has-symbols cell process e together good site free = λ o is last.
    let asked : AllByRecursion (FreeAt cell e.site) (nodes_of_all (asked_of_decl (decl.Object o))) = subst (λ d. AllByRecursion (FreeAt cell e.site) (nodes_of_all (asked_of_decl d))) is free.0 in
    let named : AllByRecursion (FreeAt cell (site_at process site.0)) (nodes_of_all (asked_of_decl (decl.Object o))) =
    subst (λ s. AllByRecursion (FreeAt cell s) (nodes_of_all (asked_of_decl (decl.Object o)))) site.1 asked in
    let told = table-good (InCell cell (site_at process site.0)) o.parts.value
    (value-good cell process site.0 o.parts.value together good (last-nodes (FreeAt cell (site_at process site.0)) o.is_last (asked_of_subtype o.parts.subtype) o.parts.value last named)) in
    subst (λ s. TableGood (InCell cell s) o.parts.value) (sym site.1) told

-- ---- regions

region-met : (cell : Cell) (process : Option Process) (ds : List Decl) → AreConstantsTogether cell.files → AllGood cell process → RegionJudged cell (record { process = process; declarations = ds }) → AllByRecursion (IsFoundAt cell) (sited_declarations process ds)
    → AllByRecursion (DeclFree cell) (sited_declarations process ds) → AllByRecursion (λ d. limits_of_declaration d ≡ []) ds → AllByRecursion (IsMet cell) (sited_declarations process ds)
region-met cell process ds together good judged found free short =
    weaker (λ e. ((broken_at cell [] e ≡ []) × (breaks_3 cell e.site e.declaration ≡ false)) × (IsFoundAt cell e × ((IsSiteIn process e × DeclFree cell e) × (limits_of_declaration e.declaration ≡ [])))) (IsMet cell)
    (λ e all. (all.0.0, all.0.1, record { found = all.1.0; symbols = has-symbols cell process e together good all.1.1.0.0 all.1.1.0.1; short = all.1.1.1 })) (sited_declarations process ds)
    (all-both (λ e. (broken_at cell [] e ≡ []) × (breaks_3 cell e.site e.declaration ≡ false)) _ (sited_declarations process ds) judged
    (all-both (IsFoundAt cell) _ (sited_declarations process ds) found
    (all-both (λ e. IsSiteIn process e × DeclFree cell e) (λ e. limits_of_declaration e.declaration ≡ []) (sited_declarations process ds)
    (all-both (IsSiteIn process) (DeclFree cell) (sited_declarations process ds) (declaration-sites process ds) free)
    (sited-all (λ d. limits_of_declaration d ≡ []) (λ d. (identifier_of_decl d).place) is_last Architecture process ds short))))

body-judged : (cell : Cell) → Meets cell → RegionJudged cell (outside (declarations cell.arch))
body-judged cell met = own-all (RegionJudged cell) cell.arch tt (regions-judged cell met)

body-good : (cell : Cell) → Meets cell → AllByRecursion DeclaredGood (body_of cell.arch)
body-good cell met = subst (AllByRecursion DeclaredGood) (body-is cell.arch) (region-good cell (outside (declarations cell.arch)) (body-judged cell met))

pub body-met : (cell : Cell) → IsAsRead cell → Meets cell → RegionMet cell (outside (declarations cell.arch))
body-met cell read met =
    region-met cell None (declarations cell.arch) read.packages (record { own = tt; body = body-good cell met }) (body-judged cell met) (own-all (RegionFound cell) cell.arch tt (regions-found cell read)) (body-free cell met.named)
    (own-all RegionShort cell.arch tt met.short)

process-met : (cell : Cell) (p : Process) → IsAsRead cell → Meets cell → RegionJudged cell (of_process p) → RegionFound cell (of_process p) → RegionShort (of_process p) → ProcessFree cell p → RegionMet cell (of_process p)
process-met cell p read met judged found short free =
    region-met cell (Some p) p.declarations read.packages (record { own = region-good cell (of_process p) judged; body = body-good cell met }) judged found free.declarations short

pub processes-met : (cell : Cell) → IsAsRead cell → Meets cell → AllByRecursion (λ p. RegionMet cell (of_process p)) (processes cell.arch)
processes-met cell read met =
    weaker (λ p. (RegionJudged cell (of_process p) × RegionFound cell (of_process p)) × (RegionShort (of_process p) × ProcessFree cell p)) (λ p. RegionMet cell (of_process p))
    (λ p all. process-met cell p read met all.0.0 all.0.1 all.1.0 all.1.1) (processes cell.arch)
    (all-both (λ p. RegionJudged cell (of_process p) × RegionFound cell (of_process p)) (λ p. RegionShort (of_process p) × ProcessFree cell p) (processes cell.arch)
    (all-both (λ p. RegionJudged cell (of_process p)) (λ p. RegionFound cell (of_process p)) (processes cell.arch)
    (processes-all (RegionJudged cell) cell.arch (regions-judged cell met)) (processes-all (RegionFound cell) cell.arch (regions-found cell read)))
    (all-both (λ p. RegionShort (of_process p)) (ProcessFree cell) (processes cell.arch) (processes-all RegionShort cell.arch met.short) (processes-free cell met.named)))
