-- What constants of packages are worth where nothing else is known.
use Rattle.std.proofs.Common.{◌≡◌, ℕ, ◌+◌, ◌<◌, true, false, List, [], ◌∷◌, ◌++◌, length, take, get_or, refl, sym, ◌∙◌, ap}
use Rattle.std.specs.Prelude.{Bool, Option, Some, None}
use Rattle.std.specs.Option.{option_map, option_map_or}
use Rattle.std.proofs.lemmas.Bool.{false≢true}
use Rattle.std.proofs.lemmas.List.{map-append, take_more}
use Rattle.vital_declarations.specs.declared.declared_type.TableType.TheVariants as table
use Rattle.vital_cell.specs.Environments.{constant_of}
use Rattle.vital_objects.specs.declared.package_value.PackageValue.{PackageValue}
use Rattle.vital_objects.specs.declared.package_value.PackageValue.TheVariants as packaged
use Rattle.vital_objects.specs.declared.variable.Variable.{Variable}
use Rattle.vital_objects.specs.PackageValues.{value_at}
use Rattle.vital_operands.specs.declared.tree.ConstantName.{ConstantName}
use Rattle.vital_operands.specs.declared.tree.ConstantName.TheVariants as constant
use Rattle.vital_operands.specs.declared.tree.Control.{Control}
use Rattle.vital_operands.specs.declared.tree.Control.TheVariants as control
use Rattle.vital_typed_cells.specs.Fitting.{are_parted}
use Rattle.vital_typed_cells.specs.Named.{has_package_rows}
use Rattle.vital_typed_cells.specs.SoundDeclarations.{AreSoundPackages, is_sound_package, names_in_packages}
use Rattle.vital_cell.specs.declared.worth.Worth.{Worth as Worth'}
use Rattle.vital_cell.specs.Scopes.{Scope, named_delays, named_worths, names_at, package_worths, truth_of}
use Rattle.vital_cell.specs.Sound.{has_table, tests}
use Rattle.vital_cell.specs.Values.{only_packages, package_worth_in, with_packages}
use Rattle.vital_cell.specs.Worths as worths
use Rattle.vital_cell.proofs.TableLemmas.{truth-table}
use Rattle.vital_cell.proofs.WiderLemmas.{IsWider, default-wider, package-wider}
use Rattle.vital_table.specs.Tables.{is_table}
use Rattle.vital_typed_cells.specs.Expressions.{Level', Truth, Worth, level, truth}
use Rattle.vital_typed_cells.specs.PackageWorths.{in_packages, of_packages, package_worth, packages_worth, rows_in}
use Rattle.vital_typed_cells.proofs.PackageLemmas.{rows-at, sound-at, worths-more}

-- ---- names

fun-same : {A B : Type 0} {f g : A → B} → ((x : A) → f x ≡ g x) → f ≡ g
fun-same same = λ i x. same x i

constant-same : (ws : List (Option Worth)) (name : ConstantName) → constant_of [] ws name ≡ of_packages ws name
constant-same ws (constant.Cell name) = refl
constant-same ws (constant.Package n) = refl

names-only : (ws : List (Option Worth)) → names_at (only_packages ws) [] [] ≡ in_packages ws
names-only ws = ap (λ f. record (in_packages ws) { constant = f }) (fun-same (constant-same ws))

pub worth-only : (ws : List (Option Worth)) (v : PackageValue) → package_worth_in (only_packages ws) v ≡ package_worth ws v
worth-only ws (packaged.Level t) = ap (λ e. Level' (level e t)) (names-only ws)
worth-only ws (packaged.Boolean b) = ap (λ e. Truth (truth e b)) (names-only ws)
worth-only ws (packaged.Time t) = refl
worth-only ws (packaged.Delay d) = refl
worth-only ws (packaged.Table rows) = refl

pub bare-with : (k : Scope) (ws : List (Option Worth)) → with_packages k [] ≡ only_packages [] → with_packages k ws ≡ only_packages ws
bare-with k ws bare = ap (λ q. with_packages q ws) bare

value-only : (ws : List (Option Worth)) (o : Option PackageValue) → option_map (package_worth_in (only_packages ws)) o ≡ option_map (package_worth ws) o
value-only ws None = refl
value-only ws (Some v) = ap Some (worth-only ws v)

-- Where a scope that knows nothing but constants of packages knows these.
pub value-bare : (k : Scope) (ws : List (Option Worth)) (o : Option PackageValue) → with_packages k [] ≡ only_packages [] → option_map (package_worth_in (with_packages k ws)) o ≡ option_map (package_worth ws) o
value-bare k ws o bare = ap (λ q. option_map (package_worth_in q) o) (bare-with k ws bare) ∙ value-only ws o

-- ---- soundness

rows-parted : (test : List (List ℕ) → Bool) (o : Option PackageValue) → option_map_or (has_package_rows test) o false ≡ true → test (option_map_or rows_in o []) ≡ true
rows-parted test None is = absurd (false≢true is)
rows-parted test (Some (packaged.Table rows)) is = is
rows-parted test (Some (packaged.Level t)) is = absurd (false≢true is)
rows-parted test (Some (packaged.Boolean t)) is = absurd (false≢true is)
rows-parted test (Some (packaged.Time t)) is = absurd (false≢true is)
rows-parted test (Some (packaged.Delay t)) is = absurd (false≢true is)

package-table : (known : List (Option PackageValue)) (name : ConstantName) (n m : ℕ) → (names_in_packages known).has_table name n m ≡ true → has_table (only_packages (packages_worth known)) name n m ≡ true
package-table known (constant.Cell name) n m is = absurd (false≢true is)
package-table known (constant.Package i) n m is =
    ap (λ rows. is_table (record { inputs = n; states = 0; results = m; rows = rows })) (rows-at known i)
    ∙ truth-table (option_map_or rows_in (value_at known i) []) n m (rows-parted (are_parted table.Truth n 0 m) (value_at known i) is)

packages-wider : (known : List (Option PackageValue)) → IsWider (names_in_packages known) (tests (only_packages (packages_worth known)))
packages-wider known = record {
  signals = λ name is. absurd (false≢true is);
  variables = λ name is. absurd (false≢true is);
  elements = λ name n is. absurd (false≢true is);
  vectors = λ name n is. absurd (false≢true is);
  levels = λ name is. refl;
  times = λ name is. refl;
  delays = λ d name is. refl;
  generics = λ d name is. refl;
  tables = package-table known;
}

pub package-sound : (vs : List (Option PackageValue)) (i : ℕ) (v : Option PackageValue) → i < length vs → v ≡ get_or vs i v → AreSoundPackages [] vs → option_map_or (is_sound_package (tests (only_packages (packages_worth (take i vs))))) v true ≡ true
package-sound vs i v within is sound =
    default-wider (is_sound_package (names_in_packages (take i vs))) (is_sound_package (tests (only_packages (packages_worth (take i vs)))))
    (package-wider (names_in_packages (take i vs)) (tests (only_packages (packages_worth (take i vs)))) (packages-wider (take i vs))) v
    (sound-at (take i vs) vs i v refl is within sound)

-- ---- one constant more

pub worths-none : packages_worth [] ≡ []
unfolding packages_worth
worths-none = refl

pub package-more : (ws : List (Option Worth')) (w : Option Worth') → package_worths (ws ++ w ∷ []) ≡ package_worths ws ++ option_map worths.lent w ∷ []
package-more ws w = map-append (λ v. option_map worths.lent v) ws (w ∷ [])

pub packages-turn : (vs : List (Option PackageValue)) (i : ℕ) (v : Option PackageValue) → i < length vs → v ≡ get_or vs i v → packages_worth (take (i + 1) vs) ≡ packages_worth (take i vs) ++ option_map (package_worth (packages_worth (take i vs))) v ∷ []
packages-turn vs i v within is = ap packages_worth (take_more vs i v within ∙ ap (λ y. take i vs ++ y ∷ []) (sym is)) ∙ worths-more (take i vs) v

-- ---- a scope of nothing

controls-true : (c : Control) → truth_of (record { timing_checks_on = true; x_on = true; msg_on = true }) c ≡ true
controls-true control.TimingChecksOn = refl
controls-true control.XOn = refl
controls-true control.MsgOn = refl

abbrev alone : List (List ℕ) → List Variable → (Control → Bool) → Scope
alone names vs controls = record { bits = names; variables = vs; constants = named_worths names []; packages = []; generics = named_delays names []; controls = controls }

pub nothing-known : (names : List (List ℕ)) (vs : List Variable) → names ≡ [] → vs ≡ [] → alone names vs (truth_of (record { timing_checks_on = true; x_on = true; msg_on = true })) ≡ only_packages []
nothing-known names vs no-names no-variables =
    let controls = truth_of (record { timing_checks_on = true; x_on = true; msg_on = true }) in
    ap (λ ns. alone ns vs controls) no-names ∙ ap (λ us. alone [] us controls) no-variables ∙ ap (alone [] []) (fun-same controls-true)
