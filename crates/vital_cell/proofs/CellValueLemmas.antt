-- Constants and defaults of a sound cell are sound where numbered trees are made of them.
use Rattle.std.proofs.Common.{◌≡◌, ℕ, true, List, [], ◌∷◌, ◌++◌, map, refl, sym, ◌∙◌, ap, subst, append-nil, append_assoc, arith}
use Rattle.std.specs.Prelude.{◌&&◌}
use Rattle.std.specs.List.{AllByRecursion, AllZip, IsDistinct, list_all}
use Rattle.std.specs.Str.{bytes_eq}
use Rattle.std.proofs.lemmas.Bool.{false≢true}
use Rattle.std.proofs.lemmas.List.{map-append}
use Rattle.std.proofs.lemmas.List.Elements.{recursion_from_All}
use Rattle.vital_cell.proofs.ConstantLemmas.{IsWorthOf, Knows, truth-tabled, worth-of, worths-behind}
use Rattle.vital_cell.proofs.CellListLemmas.{zip-push}
use Rattle.vital_cell.proofs.WiderLemmas.{IsWider, constant-wider, kind-wider}
use Rattle.vital_cell.specs.Environments.{NamedWorth, cell_constants, process_constants}
use Rattle.vital_objects.specs.declared.constant.Constant.{Constant}
use Rattle.vital_objects.specs.declared.variable.Variable.{Variable}
use Rattle.vital_typed_cells.specs.Sound.{IsSound, IsSoundProcess, names_in_process}
use Rattle.vital_typed_cells.specs.SoundDeclarations.{AreSoundConstants, is_sound_kind, names_in_values}
use Rattle.vital_typed_cells.specs.TreeNames.{names_of_cell, names_of_process}
use Rattle.vital_typed_cells.proofs.Parts.{distinct-part, times-append}
use Rattle.vital_cell.specs.Scopes.{Scope}
use Rattle.vital_cell.specs.Sound.{tests}
use Rattle.vital_cell.specs.Values.{AreSoundIn, named_worth, scope_of_cell, with_constants}
use Rattle.vital_timing.specs.declared.delay.Delay.{Delay}
use Rattle.vital_typed_cells.specs.declared.process.CellProcess.{CellProcess}
use Rattle.vital_typed_cells.specs.declared.typed_cell.TypedCell.{TypedCell}
use Rattle.vital_typed_cells.specs.PackageWorths.{packages_worth}

-- ---- names that differ

abbrev pub names : List Constant → List (List ℕ)
names ks = map (λ k. k.name) ks

pub distinct-front : (xs ys : List (List ℕ)) → IsDistinct bytes_eq (xs ++ ys) → IsDistinct bytes_eq xs
distinct-front xs ys apart = distinct-part xs (xs ++ ys) (record { at_most = λ n. omega (arith, times-append n xs ys) }) apart

front-differs : (known ks : List Constant) → IsDistinct bytes_eq (names (known ++ ks)) → IsDistinct bytes_eq (names known)
front-differs known ks apart =
    let P : List (List ℕ) → Type 0 = λ ns. IsDistinct bytes_eq ns in
    distinct-front (names known) (names ks) (subst P (map-append (λ k. k.name) known ks) apart)

-- The constants of a cell, and those of one of its processes behind them.
pub cell-constants-differ : (c : TypedCell) → IsDistinct bytes_eq (names_of_cell c) → IsDistinct bytes_eq (names c.constants)
cell-constants-differ c apart =
    let before = map (λ p. p.name) c.ports ++ map (λ g. g.name) c.generics ++ map (λ g. g.name) c.plain_generics ++ map (λ s. s.name) c.signals in
    distinct-part (names c.constants) (names_of_cell c) (record { at_most = λ n. omega (arith, times-append n before (names c.constants)) }) apart

pub constants-differ : (c : TypedCell) (p : CellProcess) → IsDistinct bytes_eq (names_of_process p ++ names_of_cell c) → IsDistinct bytes_eq (names (c.constants ++ p.constants))
constants-differ c p apart =
    let before = map (λ q. q.name) c.ports ++ map (λ g. g.name) c.generics ++ map (λ g. g.name) c.plain_generics ++ map (λ s. s.name) c.signals in
    let own = names p.constants in
    let variables = map (λ (v : Variable). v.name) p.variables in
    let cell = names c.constants in
    let P : List (List ℕ) → Type 0 = λ ns. IsDistinct bytes_eq ns in
    subst P (sym (map-append (λ k. k.name) c.constants p.constants))
    (distinct-part (cell ++ own) (names_of_process p ++ names_of_cell c)
    (record { at_most = λ n. omega (arith, times-append n cell own, times-append n (names_of_process p) (names_of_cell c), times-append n own variables, times-append n before cell) })
    apart)

-- The variables of a process.
pub variables-differ : (c : TypedCell) (p : CellProcess) → IsDistinct bytes_eq (names_of_process p ++ names_of_cell c) → IsDistinct bytes_eq (map (λ v. v.name) p.variables)
variables-differ c p apart =
    let own = names p.constants in
    let variables = map (λ (v : Variable). v.name) p.variables in
    distinct-part variables (names_of_process p ++ names_of_cell c)
    (record { at_most = λ n. omega (arith, times-append n (names_of_process p) (names_of_cell c), times-append n own variables) }) apart

-- ---- scopes of values

pub values-wider : (c : TypedCell) (first others : List Constant) (s : Scope) → Knows c.packages (first ++ others) s → IsWider (names_in_values c (others ++ first)) (tests s)
values-wider c first others s knows = record {
  signals = λ name is. absurd (false≢true is);
  variables = λ name is. absurd (false≢true is);
  elements = λ name n is. absurd (false≢true is);
  vectors = λ name n is. absurd (false≢true is);
  levels = λ name is. refl;
  times = λ name is. refl;
  delays = λ d name is. refl;
  generics = λ d name is. refl;
  tables = truth-tabled c.packages first others s knows;
}

-- ---- constants, each of which names only those before it

pub sound-in : (c : TypedCell) (s : Scope) (first others ks : List Constant) (ns : List NamedWorth) → s.packages ≡ packages_worth c.packages → AllZip IsWorthOf (first ++ others) ns → IsDistinct bytes_eq (names ((first ++ others) ++ ks))
    → AreSoundConstants c first others ks → AreSoundIn s ns ks
sound-in c s first others [] ns packages are apart sound = tt
sound-in c s first others (k ∷ ks) ns packages are apart sound =
    let here = with_constants s ns in
    let knows : Knows c.packages (first ++ others) here = record { packages = packages; worths = are; distinct = front-differs (first ++ others) (k ∷ ks) apart } in
    let more = ns ++ named_worth here k ∷ [] in
    let P : List Constant → Type 0 = λ xs. AllZip IsWorthOf xs more in
    let Q : List Constant → Type 0 = λ xs. IsDistinct bytes_eq (names xs) in (
      constant-wider (names_in_values c (others ++ first)) (tests here) (values-wider c first others here knows) k.value sound.0,
      sound-in c s first (others ++ k ∷ []) ks more packages
          (subst P (append_assoc first others (k ∷ [])) (zip-push IsWorthOf (first ++ others) ns k (named_worth here k) are (worth-of here k)))
          (subst Q (sym (append_assoc (first ++ others) (k ∷ []) ks) ∙ ap (λ xs. xs ++ ks) (append_assoc first others (k ∷ []))) apart)
          sound.1,
    )

pub cell-sound-in : (c : TypedCell) (s : Scope) → IsSound c → s.packages ≡ packages_worth c.packages → AreSoundIn s [] c.constants
cell-sound-in c s sound packages = sound-in c s [] [] c.constants [] packages tt (cell-constants-differ c sound.names_differ) sound.constants_typed

pub cell-worths : (c : TypedCell) (values : List Delay) → AllZip IsWorthOf c.constants (cell_constants c values)
cell-worths c values = worths-behind (scope_of_cell c values) [] [] c.constants tt

pub process-sound-in : (c : TypedCell) (values : List Delay) (p : CellProcess) (s : Scope) → IsSoundProcess c p → s.packages ≡ packages_worth c.packages → AreSoundIn s (cell_constants c values) p.constants
process-sound-in c values p s sound packages =
    let P : List Constant → Type 0 = λ xs. AllZip IsWorthOf xs (cell_constants c values) in
    let Q : List Constant → Type 0 = λ xs. IsDistinct bytes_eq (names (xs ++ p.constants)) in
    sound-in c s c.constants [] p.constants (cell_constants c values) packages
    (subst P (sym (append-nil c.constants)) (cell-worths c values))
    (subst Q (sym (append-nil c.constants)) (constants-differ c p sound.names_differ))
    sound.constants_typed

-- Where all constants of a process are known.
pub process-knows : (c : TypedCell) (values : List Delay) (p : CellProcess) (s : Scope) → IsSoundProcess c p → s.packages ≡ packages_worth c.packages → s.constants ≡ process_constants c values p → Knows c.packages (c.constants ++ p.constants) s
process-knows c values p s sound packages constants =
    let P : List NamedWorth → Type 0 = λ ns. AllZip IsWorthOf (c.constants ++ p.constants) ns in
    record {
      packages = packages;
      worths = subst P (sym constants) (worths-behind (scope_of_cell c values) (cell_constants c values) c.constants p.constants (cell-worths c values));
      distinct = constants-differ c p sound.names_differ;
    }

-- ---- defaults of variables

kinds-by : (c : TypedCell) (p : CellProcess) (s : Scope) (vs : List Variable) → IsWider (names_in_process c p) (tests s) → AllByRecursion (λ v. is_sound_kind (names_in_process c p) v.kind ≡ true) vs → list_all (λ v. is_sound_kind (tests s) v.kind) vs ≡ true
kinds-by c p s [] wider are = refl
kinds-by c p s (v ∷ vs) wider are = ap (λ b. b && list_all (λ u. is_sound_kind (tests s) u.kind) vs) (kind-wider (names_in_process c p) (tests s) wider v.kind are.0) ∙ kinds-by c p s vs wider are.1

pub kinds-sound : (c : TypedCell) (values : List Delay) (p : CellProcess) (s : Scope) → IsSoundProcess c p → s.packages ≡ packages_worth c.packages → s.constants ≡ process_constants c values p → list_all (λ v. is_sound_kind (tests s) v.kind) p.variables ≡ true
kinds-sound c values p s sound packages constants =
    kinds-by c p s p.variables (values-wider c c.constants p.constants s (process-knows c values p s sound packages constants))
    (recursion_from_All (λ v. is_sound_kind (names_in_process c p) v.kind ≡ true) p.variables sound.variables_typed)
