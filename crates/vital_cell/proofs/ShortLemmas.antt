-- Delays in a sound cell are at most 2^50 fs.
use Rattle.std.proofs.Common.{◌≡◌, ◌≤◌, ◌^◌, ℕ, zero, suc, true, false, List, [], ◌∷◌, ◌++◌, map, cond, refl, arith}
use Rattle.std.specs.Prelude.{Bool, ◌&&◌, find, Option, Some, None}
use Rattle.std.specs.List.{AllByRecursion, AllZip, fold, zip}
use Rattle.std.specs.Option.{option_map, option_map_or}
use Rattle.std.specs.Str.{bytes_eq}
use Rattle.std.proofs.lemmas.Bool.Decides.{nat_tests}
use Rattle.std.proofs.lemmas.List.Elements.{recursion_from_All}
use Rattle.vital_cell.proofs.CellListLemmas.{all-behind}
use Rattle.vital_cell.proofs.SoundLemmas.{first-holds, second-holds}
use Rattle.vital_cell.proofs.CellValueLemmas.{cell-sound-in, process-sound-in}
use Rattle.vital_cell.specs.Compiled.{values_in}
use Rattle.vital_cell.specs.Short.{AreShortDelays, AreShortWorths, HasShort, IsShortIfAny, IsShortWorth}
use Rattle.vital_typed_cells.specs.Fits.{FitsCell, IsDelayOf}
use Rattle.vital_cell.specs.Environments.{NamedDelay, NamedWorth, cell_constants, constant_of, delay_named, delays_of}
use Rattle.vital_cell.specs.Times.{delay_of as delay_in}
use Rattle.vital_objects.specs.declared.constant.Constant.{Constant}
use Rattle.vital_objects.specs.declared.constant.ConstantValue.{ConstantValue}
use Rattle.vital_objects.specs.declared.constant.ConstantValue.TheVariants as constants
use Rattle.vital_objects.specs.declared.generic.PlainGeneric.{PlainGeneric}
use Rattle.vital_objects.specs.declared.generic.TimingGeneric.{TimingGeneric}
use Rattle.vital_objects.specs.declared.package_value.PackageValue.{PackageValue}
use Rattle.vital_objects.specs.declared.package_value.PackageValue.TheVariants as packaged
use Rattle.vital_operands.specs.declared.tree.ConstantName.{ConstantName}
use Rattle.vital_operands.specs.declared.tree.ConstantName.TheVariants as constant
use Rattle.vital_operands.specs.declared.tree.DelayExpr.{DelayExpr}
use Rattle.vital_operands.specs.declared.tree.DelayExpr.TheVariants as delays
use Rattle.vital_operands.specs.Named.{same_type}
use Rattle.vital_path_delay.specs.Within.{IsWithin}
use Rattle.vital_typed_cells.specs.ExprScopes.{Scope as Tests}
use Rattle.vital_typed_cells.specs.Sound.{IsSound, IsSoundProcess}
use Rattle.vital_typed_cells.specs.SoundDeclarations.{AreSoundPackages, is_sound_constant, is_sound_package, names_in_packages}
use Rattle.vital_typed_cells.specs.Times.{are_short, is_short}
use Rattle.vital_typed_cells.specs.Trees.{is_sound_delay}
use Rattle.vital_cell.specs.Scopes.{Scope}
use Rattle.vital_cell.specs.Sound.{tests}
use Rattle.vital_cell.specs.Steps.{delay_of}
use Rattle.vital_cell.specs.Values.{AreSoundIn, named_worth, scope_of_cell, with_constants, worth_in, worths_in}
use Rattle.vital_timing.specs.declared.delay.Delay.{Delay}
use Rattle.vital_timing.specs.declared.delay.Delay.TheVariants as delay
use Rattle.vital_timing.specs.declared.delay.DelayType.{DelayType}
use Rattle.vital_timing.specs.Delays.{type_of}
use Rattle.vital_typed_cells.specs.declared.process.CellProcess.{CellProcess}
use Rattle.vital_typed_cells.specs.declared.typed_cell.TypedCell.{TypedCell}
use Rattle.vital_typed_cells.specs.Expressions.{Delay', Level', Rows, Time, Truth, Worth}
use Rattle.vital_typed_cells.specs.PackageWorths.{package_worth, packages_worth, worth_at}

-- ---- what names are worth

generic-short : (name : List ℕ) (ds : List NamedDelay) → AreShortDelays ds → are_short (delay_named ds name) ≡ true
generic-short name [] all = refl
generic-short name (d ∷ ds) all = by-first (bytes_eq d.name name) (find (λ e. bytes_eq e.name name) ds) (generic-short name ds all.1)
  where
    by-first : (b : Bool) (o : Option NamedDelay) → are_short (option_map_or (λ e. e.delay) o (delay.One 0)) ≡ true → are_short (option_map_or (λ e. e.delay) (cond b (Some d) o) (delay.One 0)) ≡ true
    by-first true o others = all.0
    by-first false o others = others

pub generic-within : (k : Scope) (name : List ℕ) → HasShort k → are_short (delay_named k.generics name) ≡ true
generic-within k name short = generic-short name k.generics short.generics

cell-short : (name : List ℕ) (ns : List NamedWorth) → AreShortWorths ns → IsShortIfAny (option_map (λ n. n.worth) (find (λ n. bytes_eq n.name name) ns))
cell-short name [] all = tt
cell-short name (n ∷ ns) all = by-first (bytes_eq n.name name) (find (λ m. bytes_eq m.name name) ns) (cell-short name ns all.1)
  where
    by-first : (b : Bool) (o : Option NamedWorth) → IsShortIfAny (option_map (λ m. m.worth) o) → IsShortIfAny (option_map (λ m. m.worth) (cond b (Some n) o))
    by-first true o others = all.0
    by-first false o others = others

package-short : (ws : List (Option Worth)) (n : ℕ) → AllByRecursion IsShortIfAny ws → IsShortIfAny (worth_at ws n)
package-short [] n all = tt
package-short (w ∷ ws) zero all = all.0
package-short (w ∷ ws) (suc n) all = package-short ws n all.1

constant-short : (k : Scope) (name : ConstantName) → HasShort k → IsShortIfAny (constant_of k.constants k.packages name)
constant-short k (constant.Cell name) short = cell-short name k.constants short.constants
constant-short k (constant.Package n) short = package-short k.packages n short.packages

delay-in-short : (o : Option Worth) → IsShortIfAny o → are_short (delay_in o) ≡ true
delay-in-short None short = refl
delay-in-short (Some (Delay' d)) short = short
delay-in-short (Some (Level' l)) short = refl
delay-in-short (Some (Truth b)) short = refl
delay-in-short (Some (Time t)) short = refl
delay-in-short (Some (Rows rows)) short = refl

pub delay-short : (k : Scope) (s : Tests) (d : DelayType) (e : DelayExpr) → HasShort k → is_sound_delay s d e ≡ true → are_short (delay_of k e) ≡ true
delay-short k s d (delays.Literal x) short sound = second-holds (same_type d (type_of x)) (are_short x) sound
delay-short k s d (delays.Generic name) short sound = generic-short name k.generics short.generics
delay-short k s d (delays.Constant name) short sound = delay-in-short (constant_of k.constants k.packages name) (constant-short k name short)

-- ---- constants

value-short : (k : Scope) (v : ConstantValue) → HasShort k → is_sound_constant (tests k) v ≡ true → IsShortWorth (worth_in k v)
value-short k (constants.Delay d e) short sound = delay-short k (tests k) d e short sound
value-short k (constants.Level e) short sound = tt
value-short k (constants.Boolean e) short sound = tt
value-short k (constants.Time e) short sound = tt
value-short k (constants.Table rows) short sound = tt

with-short : (k : Scope) (ns : List NamedWorth) → AreShortDelays k.generics → AllByRecursion IsShortIfAny k.packages → AreShortWorths ns → HasShort (with_constants k ns)
with-short k ns generics packages constants = record { generics = generics; constants = constants; packages = packages }

worths-short : (k : Scope) (ns : List NamedWorth) (ks : List Constant) → AreShortDelays k.generics → AllByRecursion IsShortIfAny k.packages → AreShortWorths ns → AreSoundIn k ns ks → AreShortWorths (worths_in k ns ks)
worths-short k ns [] generics packages short sound = short
worths-short k ns (c ∷ cs) generics packages short sound =
    let here = with_constants k ns in
    worths-short k (ns ++ named_worth here c ∷ []) cs generics packages
    (all-behind (λ n. IsShortWorth n.worth) ns (named_worth here c ∷ []) short (value-short here c.value (with-short k ns generics packages short) sound.0, tt)) sound.1

-- ---- constants of packages

one-short : (before : Tests) (ws : List (Option Worth)) (v : Option PackageValue) → option_map_or (is_sound_package before) v true ≡ true → IsShortIfAny (option_map (package_worth ws) v)
one-short before ws None sound = tt
one-short before ws (Some (packaged.Delay d)) sound = sound
one-short before ws (Some (packaged.Level e)) sound = tt
one-short before ws (Some (packaged.Boolean e)) sound = tt
one-short before ws (Some (packaged.Time t)) sound = tt
one-short before ws (Some (packaged.Table rows)) sound = tt

packages-behind : (ws : List (Option Worth)) (before vs : List (Option PackageValue)) → AllByRecursion IsShortIfAny ws → AreSoundPackages before vs → AllByRecursion IsShortIfAny (fold (λ us v. us ++ option_map (package_worth us) v ∷ []) ws vs)
packages-behind ws before [] short sound = short
packages-behind ws before (v ∷ vs) short sound =
    packages-behind (ws ++ option_map (package_worth ws) v ∷ []) (before ++ v ∷ []) vs
    (all-behind IsShortIfAny ws (option_map (package_worth ws) v ∷ []) short (one-short (names_in_packages before) ws v sound.0, tt)) sound.1

packages-short : (vs : List (Option PackageValue)) → AreSoundPackages [] vs → AllByRecursion IsShortIfAny (packages_worth vs)
unfolding packages_worth
packages-short vs sound = packages-behind [] [] vs tt sound

-- ---- generics

timing-short : (gs : List TimingGeneric) (values : List Delay) → AllZip IsDelayOf gs values → AreShortDelays (map (λ g. record { name = g.0.name; delay = g.1 }) (zip gs values))
timing-short [] [] fit = tt
timing-short [] (v ∷ vs) fit = absurd fit
timing-short (g ∷ gs) [] fit = absurd fit
timing-short (g ∷ gs) (v ∷ vs) fit = (fit.0.short, timing-short gs vs fit.1)

plain-short : (gs : List PlainGeneric) → AllByRecursion (λ g. are_short g.default ≡ true) gs → AreShortDelays (map (λ g. record { name = g.name; delay = g.default }) gs)
plain-short [] all = tt
plain-short (g ∷ gs) all = (all.0, plain-short gs all.1)

generics-short : (c : TypedCell) (values : List Delay) → IsSound c → FitsCell c values → AreShortDelays (delays_of c values)
generics-short c values sound fit =
    all-behind (λ d. are_short d.delay ≡ true) (map (λ g. record { name = g.0.name; delay = g.1 }) (zip c.generics values)) (map (λ g. record { name = g.name; delay = g.default }) c.plain_generics)
    (timing-short c.generics values fit) (plain-short c.plain_generics (recursion_from_All (λ g. are_short g.default ≡ true) c.plain_generics sound.plains_short))

-- ---- scopes of a cell

cell-worths-short : (c : TypedCell) (values : List Delay) → IsSound c → FitsCell c values → AreShortWorths (cell_constants c values)
cell-worths-short c values sound fit =
    worths-short (scope_of_cell c values) [] c.constants (generics-short c values sound fit) (packages-short c.packages sound.packages_sound) tt (cell-sound-in c (scope_of_cell c values) sound refl)

pub cell-has-short : (c : TypedCell) (values : List Delay) → IsSound c → FitsCell c values → HasShort (scope_of_cell c values)
cell-has-short c values sound fit = record {
  generics = generics-short c values sound fit;
  constants = cell-worths-short c values sound fit;
  packages = packages-short c.packages sound.packages_sound;
}

-- Where the constants of a process are known too.
pub process-values-short : (c : TypedCell) (values : List Delay) (p : CellProcess) → IsSound c → IsSoundProcess c p → FitsCell c values → HasShort (values_in (scope_of_cell c values) p)
process-values-short c values p sound process fit = record {
  generics = generics-short c values sound fit;
  constants =
      worths-short (scope_of_cell c values) (cell_constants c values) p.constants (generics-short c values sound fit) (packages-short c.packages sound.packages_sound)
      (cell-worths-short c values sound fit) (process-sound-in c values p (scope_of_cell c values) process refl);
  packages = packages-short c.packages sound.packages_sound;
}

-- ---- as numbers

time-within : (t : ℕ) → is_short t ≡ true → t ≤ 2 ^ 50
time-within t short = grind (arith, nat_tests)

pub short-within : (d : Delay) → are_short d ≡ true → IsWithin (2 ^ 50) d
short-within (delay.One t) short = time-within t short
short-within (delay.Two a b) short = (time-within a (first-holds (is_short a) (is_short b) short), time-within b (second-holds (is_short a) (is_short b) short))
short-within (delay.Six a b c d e f) short =
    let s5 = is_short a && is_short b && is_short c && is_short d && is_short e in
    let s4 = is_short a && is_short b && is_short c && is_short d in
    let s3 = is_short a && is_short b && is_short c in
    let s2 = is_short a && is_short b in
    let h5 = first-holds s5 (is_short f) short in
    let h4 = first-holds s4 (is_short e) h5 in
    let h3 = first-holds s3 (is_short d) h4 in
    let h2 = first-holds s2 (is_short c) h3 in (
      time-within a (first-holds (is_short a) (is_short b) h2),
      time-within b (second-holds (is_short a) (is_short b) h2),
      time-within c (second-holds s2 (is_short c) h3),
      time-within d (second-holds s3 (is_short d) h4),
      time-within e (second-holds s4 (is_short e) h5),
      time-within f (second-holds s5 (is_short f) short),
    )
