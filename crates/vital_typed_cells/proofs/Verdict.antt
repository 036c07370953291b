-- Where a cell meets Level 1, no clause is broken at any place.
use Rattle.std.proofs.Common.{◌≡◌, ℕ, Bool, false, List, [], ◌∷◌, ◌++◌, map, Option, Some, None, refl, ap, ◌∙◌, subst}
use Rattle.std.specs.Prelude.{◌||◌, cond, filter, Ok}
use Rattle.std.specs.List.{AllByRecursion, filter_map, flat_map, reduce}
use Rattle.vital_base.specs.declared.breach.Breach.{Breach}
use Rattle.vital_base.specs.declared.place.Place.{Place}
use Rattle.vital_call_clauses.specs.Clauses.{clause_14}
use Rattle.vital_declaration_clauses.specs.Clauses as declarations
use Rattle.vital_drivers.specs.Clauses as drivers
use Rattle.vital_level0.specs.Breaches.{IsFirst}
use Rattle.vital_level1.specs.Breaches.{breaches, broken, declaration_breaches, faults, first_breach, first_of, form_breaches, name_breaches, package_breaches, plain_breaches, process_breaches, region_breaches, statement_breaches}
use Rattle.vital_level1.specs.declared.level.CellLevel.TheVariants.{Level1}
use Rattle.vital_level1.specs.declared.package_names.NamedConstant.{NamedConstant}
use Rattle.vital_level1.specs.declared.package_names.PackageClause.TheVariants as clause
use Rattle.vital_level1.specs.Forms.{broken_concurrent, broken_forms, broken_in_process, table_uses}
use Rattle.vital_level1.specs.Packages.{breaks, named_constants, places_where}
use Rattle.vital_level1.specs.Uses.{is_among, wrong_numbers, wrong_symbols, wrong_use}
use Rattle.vital_level1.specs.Verdicts.{IsVerdict, level_by}
use Rattle.vital_names.specs.Sites.{Cell}
use Rattle.vital_package_constants.specs.declared.breaches.ConstantBreaches.{ConstantBreaches}
use Rattle.vital_package_constants.specs.Breaches.{breaches_at, breaks_any, constant_breaches}
use Rattle.vital_typed_declarations.specs.Declarations.{broken_values}
use Rattle.vital_statements.specs.Clauses as statements
use Rattle.vital_uses.specs.Reads.{clause_8}
use Rattle.vital_uses.specs.Statements.{processes, statements as concurrent}
use Rattle.vital_uses.specs.Undeclared.{clause_16}
use Rattle.vital_variables.specs.SecondUses.{clause_13}
use Rattle.vital_typed_cells.proofs.Facts.{Meets}
use Rattle.vital_typed_cells.proofs.Found.{weaker}
use Rattle.vital_typed_cells.proofs.Lists.{all-both}
use Rattle.vital_typed_cells.proofs.NamedConstants.{FreeNumber}
use Rattle.vital_typed_cells.proofs.RegionLimits.{NumberShort, short-by}
use Rattle.vital_typed_cells.proofs.Regions.{none-before, none-behind, none-filtered}
use Rattle.vital_typed_cells.proofs.Uses.{uses-fit}

-- ---- no breach

level-none : (first own : Option Breach) → Level1 ≡ level_by first own → own ≡ None
level-none (Some b) own is = cc
level-none None (Some b) is = cc
level-none None None is = refl

none-first : (bs : List Breach) → reduce first_of bs ≡ None → bs ≡ []
none-first [] is = refl
none-first (b ∷ bs) is = cc

pub no-breaches : (cell : Cell) → IsVerdict cell (Ok Level1) → breaches cell ≡ []
no-breaches cell is = none-first (breaches cell) (level-none is.1.0 (first_breach cell) is.1.2)

none-mapped : {A B : Type 0} (f : A → B) (xs : List A) → map f xs ≡ [] → xs ≡ []
none-mapped f [] is = refl
none-mapped f (x ∷ xs) is = cc

none-broken : (number : ℕ) (places : List Place) → broken number places ≡ [] → places ≡ []
none-broken number places is = none-mapped (λ p. record { place = p; clause = record { level = 1; number = number } }) places is

-- ---- no faults

any-false : (b : ConstantBreaches) → b.clause_3 ≡ false → b.clause_14 ≡ false → b.clause_15 ≡ false → b.clause_16 ≡ false → breaks_any b ≡ false
any-false b first second third fourth =
    ap (λ x. x || (b.clause_14 || (b.clause_15 || b.clause_16))) first
    ∙ ap (λ x. x || (b.clause_15 || b.clause_16)) second
    ∙ ap (λ x. x || b.clause_16) third
    ∙ fourth

all-false : {A B : Type 0} (f : A → B) (test : A → Bool) (xs : List A) → AllByRecursion (λ x. test x ≡ false) xs → map f (filter test xs) ≡ []
all-false f test [] all = refl
all-false f test (x ∷ xs) all = ap (λ b. map f (cond b (x ∷ filter test xs) (filter test xs))) all.0 ∙ all-false f test xs all.1

abbrev Free : (NamedConstant → Bool) → List NamedConstant → Type 0
Free test named = AllByRecursion (λ c. test c ≡ false) named

free-of-any : (known : List ConstantBreaches) (named : List NamedConstant) → Free (λ c. breaks clause.Constants known c.number) named → Free (λ c. breaks clause.Calls known c.number) named
    → Free (λ c. breaks clause.Forms known c.number) named → Free (λ c. breaks clause.Names known c.number) named → Free (λ c. breaks clause.Any known c.number) named
free-of-any known [] first second third fourth = tt
free-of-any known (c ∷ cs) first second third fourth =
    (any-false (breaches_at known c.number) first.0 second.0 third.0 fourth.0, free-of-any known cs first.1 second.1 third.1 fourth.1)

free-by : (test : ℕ → Bool) (named : List NamedConstant) (number : ℕ) → broken number (places_where test named) ≡ [] → Free (λ c. test c.number) named
free-by test named number is = none-filtered (λ c. c.place) (λ c. test c.number) named (none-broken number (places_where test named) is)

named-free : (named : List NamedConstant) (known : List ConstantBreaches)
    → broken 3 (places_where (breaks clause.Constants known) named) ++ broken 14 (places_where (breaks clause.Calls known) named)
    ++ broken 15 (places_where (breaks clause.Forms known) named) ++ broken 16 (places_where (breaks clause.Names known) named) ≡ []
    → Free (λ c. breaks clause.Any known c.number) named
named-free named known is =
    let first = broken 3 (places_where (breaks clause.Constants known) named) in
    let second = broken 14 (places_where (breaks clause.Calls known) named) in
    let third = broken 15 (places_where (breaks clause.Forms known) named) in
    let fourth = broken 16 (places_where (breaks clause.Names known) named) in
    let to_third : first ++ second ++ third ≡ [] = none-before (first ++ second ++ third) fourth is in
    let to_second : first ++ second ≡ [] = none-before (first ++ second) third to_third in
    free-of-any known named (free-by (breaks clause.Constants known) named 3 (none-before first second to_second)) (free-by (breaks clause.Calls known) named 14 (none-behind first second to_second))
    (free-by (breaks clause.Forms known) named 15 (none-behind (first ++ second) third to_third)) (free-by (breaks clause.Names known) named 16 (none-behind (first ++ second ++ third) fourth is))

both-none : {A : Type 0} (xs ys : List A) → xs ≡ [] → ys ≡ [] → xs ++ ys ≡ []
both-none xs ys first second = ap (λ zs. zs ++ ys) first ∙ second

-- ---- the clauses of declarations

-- No place is told at which a declaration breaks a clause.
pub meets-by : (cell : Cell) → IsVerdict cell (Ok Level1) → Meets cell
meets-by cell is =
    let all : breaches cell ≡ [] = no-breaches cell is in
    let to_packages : plain_breaches cell ++ name_breaches cell ++ package_breaches cell ≡ [] = none-before (plain_breaches cell ++ name_breaches cell ++ package_breaches cell) (form_breaches cell) all in
    let to_names : plain_breaches cell ++ name_breaches cell ≡ [] = none-before (plain_breaches cell ++ name_breaches cell) (package_breaches cell) to_packages in
    let packages : package_breaches cell ≡ [] = none-behind (plain_breaches cell ++ name_breaches cell) (package_breaches cell) to_packages in
    let named : name_breaches cell ≡ [] = none-behind (plain_breaches cell) (name_breaches cell) to_names in
    let plain : plain_breaches cell ≡ [] = none-before (plain_breaches cell) (name_breaches cell) to_names in
    let forms : form_breaches cell ≡ [] = none-behind (plain_breaches cell ++ name_breaches cell ++ package_breaches cell) (form_breaches cell) all in
    let free : Free (λ c. breaks clause.Any (constant_breaches cell.files) c.number) (named_constants cell) = named-free (named_constants cell) (constant_breaches cell.files) packages in
    let no_faults : faults cell ≡ [] =
    both-none (places_where (breaks clause.Any (constant_breaches cell.files)) (named_constants cell)) (map (λ b. b.place) (name_breaches cell))
    (all-false (λ c. c.place) (λ c. breaks clause.Any (constant_breaches cell.files) c.number) (named_constants cell) free) (ap (map (λ b. b.place)) named) in
    let to_statements : region_breaches cell ++ declaration_breaches cell ++ statement_breaches cell ≡ [] = none-before (region_breaches cell ++ declaration_breaches cell ++ statement_breaches cell) (process_breaches cell) plain in
    let to_declarations : region_breaches cell ++ declaration_breaches cell ≡ [] = none-before (region_breaches cell ++ declaration_breaches cell) (statement_breaches cell) to_statements in
    let regions : region_breaches cell ≡ [] = none-before (region_breaches cell) (declaration_breaches cell) to_declarations in
    let others : declaration_breaches cell ≡ [] = none-behind (region_breaches cell) (declaration_breaches cell) to_declarations in
    let third = broken 3 (declarations.clause_3 cell) in
    let fourth = broken 4 (declarations.clause_4 cell) in
    let ninth = broken 9 (declarations.clause_9 cell) in
    let seventeenth = broken 17 (declarations.clause_17 cell) in
    let to_ninth : third ++ fourth ++ ninth ≡ [] = none-before (third ++ fourth ++ ninth) seventeenth regions in
    let to_fourth : third ++ fourth ≡ [] = none-before (third ++ fourth) ninth to_ninth in
    let told : broken_forms cell (faults cell) ≡ [] =
    none-broken 15 (broken_forms cell (faults cell))
    (none-behind (broken 3 (wrong_symbols cell (named_constants cell) (table_uses cell (faults cell)))) (broken 15 (broken_forms cell (faults cell))) forms) in
    let untold : broken_forms cell [] ≡ [] = subst (λ fs. broken_forms cell fs ≡ []) no_faults told in
    let symbols : wrong_symbols cell (named_constants cell) (table_uses cell []) ≡ [] =
    subst (λ fs. wrong_symbols cell (named_constants cell) (table_uses cell fs) ≡ []) no_faults
    (none-broken 3 (wrong_symbols cell (named_constants cell) (table_uses cell (faults cell)))
    (none-before (broken 3 (wrong_symbols cell (named_constants cell) (table_uses cell (faults cell)))) (broken 15 (broken_forms cell (faults cell))) forms)) in
    let short = short-by cell is.0 in
    record {
      in_arch = none-broken 2 (declarations.clause_2 cell) (none-before (broken 2 (declarations.clause_2 cell)) (broken 18 (declarations.clause_18 cell)) others);
      of_constants = none-broken 3 (declarations.clause_3 cell) (none-before third fourth to_fourth);
      in_process = none-broken 9 (declarations.clause_9 cell) (none-behind (third ++ fourth) ninth to_ninth);
      values =
          none-before (broken_values cell []) (flat_map (broken_concurrent cell []) (concurrent cell.arch))
          (none-before (broken_values cell [] ++ flat_map (broken_concurrent cell []) (concurrent cell.arch)) (flat_map (broken_in_process cell []) (processes cell.arch)) untold);
      named = record {
        constants =
            weaker (λ c. (breaks clause.Any (constant_breaches cell.files) c.number ≡ false) × (NumberShort cell c × (is_among (wrong_numbers cell.files (table_uses cell [])) c.number ≡ false))) (λ c. FreeNumber cell c.number)
            (λ c all. record { breaches = all.0; rows = all.1.0.rows; columns = all.1.0.columns; delay = all.1.0.delay; symbols = all.1.1 }) (named_constants cell)
            (all-both (λ c. breaks clause.Any (constant_breaches cell.files) c.number ≡ false) _ (named_constants cell) free
            (all-both (NumberShort cell) (λ c. is_among (wrong_numbers cell.files (table_uses cell [])) c.number ≡ false) (named_constants cell) short.named_short
            (none-filtered (λ c. c.place) (λ c. is_among (wrong_numbers cell.files (table_uses cell [])) c.number) (named_constants cell)
            (none-behind (filter_map (wrong_use cell) (table_uses cell [])) (places_where (is_among (wrong_numbers cell.files (table_uses cell []))) (named_constants cell)) symbols))));
        uses =
            uses-fit cell (table_uses cell [])
            (none-before (filter_map (wrong_use cell) (table_uses cell [])) (places_where (is_among (wrong_numbers cell.files (table_uses cell []))) (named_constants cell)) symbols);
      };
      short = short.regions_short;
      forms = none-behind (broken_values cell [] ++ flat_map (broken_concurrent cell []) (concurrent cell.arch)) (flat_map (broken_in_process cell []) (processes cell.arch)) untold;
    }

-- ---- the clauses of names and wires

-- Nothing of Level 0 is broken, and none of the clauses that speak of names, of states that are kept, and of wires.
pub record NamesMet (cell : Cell) : Type 0 where
  pub entity : IsFirst cell.entity None
  pub differ : declarations.clause_17 cell ≡ []
  pub kept : clause_13 cell ≡ []
  pub joined : statements.clause_5 cell ≡ []
  pub driven : drivers.clause_6 cell ≡ []

first-none : (cell : Cell) (first own : Option Breach) → IsFirst cell.entity first → Level1 ≡ level_by first own → IsFirst cell.entity None
first-none cell (Some b) own is level = absurd (cc)
first-none cell None own is level = is

pub names-met : (cell : Cell) → IsVerdict cell (Ok Level1) → NamesMet cell
names-met cell is =
    let all : breaches cell ≡ [] = no-breaches cell is in
    let to_packages : plain_breaches cell ++ name_breaches cell ++ package_breaches cell ≡ [] = none-before (plain_breaches cell ++ name_breaches cell ++ package_breaches cell) (form_breaches cell) all in
    let to_names : plain_breaches cell ++ name_breaches cell ≡ [] = none-before (plain_breaches cell ++ name_breaches cell) (package_breaches cell) to_packages in
    let named : name_breaches cell ≡ [] = none-behind (plain_breaches cell) (name_breaches cell) to_names in
    let plain : plain_breaches cell ≡ [] = none-before (plain_breaches cell) (name_breaches cell) to_names in
    let to_statements : region_breaches cell ++ declaration_breaches cell ++ statement_breaches cell ≡ [] = none-before (region_breaches cell ++ declaration_breaches cell ++ statement_breaches cell) (process_breaches cell) plain in
    let to_declarations : region_breaches cell ++ declaration_breaches cell ≡ [] = none-before (region_breaches cell ++ declaration_breaches cell) (statement_breaches cell) to_statements in
    let regions : region_breaches cell ≡ [] = none-before (region_breaches cell) (declaration_breaches cell) to_declarations in
    let stated : statement_breaches cell ≡ [] = none-behind (region_breaches cell ++ declaration_breaches cell) (statement_breaches cell) to_statements in
    let first = broken 1 (statements.clause_1 cell) in
    let fifth = broken 5 (statements.clause_5 cell) in
    let sixth = broken 6 (drivers.clause_6 cell) in
    let seventh = broken 7 (statements.clause_7 cell) in
    let to_sixth : first ++ fifth ++ sixth ≡ [] = none-before (first ++ fifth ++ sixth) seventh stated in
    let eighth = broken 8 (clause_8 cell) in
    let thirteenth = broken 13 (clause_13 cell) in
    let fourteenth = broken 14 (clause_14 cell) in
    let sixteenth = broken 16 (clause_16 cell) in
    let to_fourteenth : eighth ++ thirteenth ++ fourteenth ≡ [] = none-before (eighth ++ thirteenth ++ fourteenth) sixteenth named in
    record {
      entity = first-none cell is.1.0 (first_breach cell) is.1.1 is.1.2;
      differ =
          none-broken 17 (declarations.clause_17 cell)
          (none-behind (broken 3 (declarations.clause_3 cell) ++ broken 4 (declarations.clause_4 cell) ++ broken 9 (declarations.clause_9 cell)) (broken 17 (declarations.clause_17 cell)) regions);
      kept = none-broken 13 (clause_13 cell) (none-behind eighth thirteenth (none-before (eighth ++ thirteenth) fourteenth to_fourteenth));
      joined = none-broken 5 (statements.clause_5 cell) (none-behind first fifth (none-before (first ++ fifth) sixth to_sixth));
      driven = none-broken 6 (drivers.clause_6 cell) (none-behind (first ++ fifth) sixth to_sixth);
    }
