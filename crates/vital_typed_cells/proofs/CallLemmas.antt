-- The table of a sound call fits it.
use Rattle.std.proofs.Common.{◌≡◌, ℕ, Bool, true, false, List, [], length, refl, ap, sym, ◌∙◌}
use Rattle.std.proofs.lemmas.Bool.{false≢true}
use Rattle.std.specs.Prelude.{◌&&◌, Option, Some, None}
use Rattle.std.specs.Option.{option_map_or}
use Rattle.vital_declarations.specs.declared.declared_type.TableType.TheVariants as table
use Rattle.vital_objects.specs.declared.package_value.PackageValue.{PackageValue}
use Rattle.vital_objects.specs.declared.package_value.PackageValue.TheVariants as packaged
use Rattle.vital_objects.specs.PackageValues.{value_at}
use Rattle.vital_operands.specs.declared.tree.ConstantName.{ConstantName}
use Rattle.vital_operands.specs.declared.tree.ConstantName.TheVariants as constant
use Rattle.vital_operands.specs.declared.tree.TruthTableCall.{TruthTableCall, out-TruthTableCall}
use Rattle.vital_typed_cells.specs.Fitting.{are_parted}
use Rattle.vital_typed_cells.specs.Named.{has_package_rows}
use Rattle.vital_typed_cells.specs.SoundDeclarations.{names_in_packages}
use Rattle.vital_typed_cells.specs.Trees.{vector_worth}
use Rattle.vital_table.specs.Tables.{is_table}
use Rattle.vital_typed_cells.specs.Expressions.{rows_of, truth_table, vector}
use Rattle.vital_typed_cells.specs.PackageWorths.{in_packages, of_packages, packages_worth, rows_in}
use Rattle.vital_typed_cells.specs.SoundTrees.{is_sound_call, is_sound_vector}
use Rattle.vital_typed_cells.proofs.PackageLemmas.{rows-at}
use Rattle.vital_typed_cells.proofs.SoundLemmas.{sound-call, vector-length}
use Rattle.vital_typed_cells.proofs.TableLemmas.{parted-table}

first : (a b : Bool) → (a && b) ≡ true → a ≡ true
first true b is = refl
first false b is = is

second : (a b : Bool) → (a && b) ≡ true → b ≡ true
second true b is = is
second false b is = absurd (false≢true is)

-- Rows that pass a test are those of the value.
of-value : (test : List (List ℕ) → Bool) (o : Option PackageValue) → option_map_or (has_package_rows test) o false ≡ true → test (option_map_or rows_in o []) ≡ true
of-value test None is = absurd (false≢true is)
of-value test (Some (packaged.Level t)) is = absurd (false≢true is)
of-value test (Some (packaged.Boolean b)) is = absurd (false≢true is)
of-value test (Some (packaged.Time t)) is = absurd (false≢true is)
of-value test (Some (packaged.Delay d)) is = absurd (false≢true is)
of-value test (Some (packaged.Table rows)) is = is

parted : (vs : List (Option PackageValue)) (name : ConstantName) (inputs results : ℕ) → (names_in_packages vs).has_table name inputs results ≡ true → are_parted table.Truth inputs 0 results (rows_of (of_packages (packages_worth vs) name)) ≡ true
parted vs (constant.Cell name) inputs results is = absurd (false≢true is)
parted vs (constant.Package n) inputs results is =
    ap (are_parted table.Truth inputs 0 results) (rows-at vs n) ∙ of-value (are_parted table.Truth inputs 0 results) (value_at vs n) is

fitting : (vs : List (Option PackageValue)) (call : TruthTableCall) (n : ℕ) → (is_sound_vector vs (out-TruthTableCall call).inputs && (names_in_packages vs).has_table (out-TruthTableCall call).table (vector_worth (names_in_packages vs) (out-TruthTableCall call).inputs).1 n) ≡ true
    → (is_sound_vector vs (out-TruthTableCall call).inputs ≡ true) × (is_table (truth_table (rows_of (of_packages (packages_worth vs) (out-TruthTableCall call).table)) (vector (in_packages (packages_worth vs)) (out-TruthTableCall call).inputs) n) ≡ true)
fitting vs call n is =
    let v = (out-TruthTableCall call).inputs in
    let name = (out-TruthTableCall call).table in
    let whole : is_sound_vector vs v ≡ true = first (is_sound_vector vs v) _ is in
    let has : (names_in_packages vs).has_table name (vector_worth (names_in_packages vs) v).1 n ≡ true = second (is_sound_vector vs v) _ is in
    let rows = rows_of (of_packages (packages_worth vs) name) in
    let fits : are_parted table.Truth (length (vector (in_packages (packages_worth vs)) v)) 0 n rows ≡ true =
    ap (λ m. are_parted table.Truth m 0 n rows) (vector-length vs v whole) ∙ parted vs name _ n has in
    (whole, parted-table rows (vector (in_packages (packages_worth vs)) v) n fits)

pub call-inputs : (vs : List (Option PackageValue)) (call : TruthTableCall) (n : ℕ) → is_sound_call vs call n ≡ true → is_sound_vector vs (out-TruthTableCall call).inputs ≡ true
call-inputs vs call n is = (fitting vs call n (sym (sound-call vs call n) ∙ is)).0

pub call-table : (vs : List (Option PackageValue)) (call : TruthTableCall) (n : ℕ) → is_sound_call vs call n ≡ true → is_table (truth_table (rows_of (of_packages (packages_worth vs) (out-TruthTableCall call).table)) (vector (in_packages (packages_worth vs)) (out-TruthTableCall call).inputs) n) ≡ true
call-table vs call n is = (fitting vs call n (sym (sound-call vs call n) ∙ is)).1

pub ruleset calls = (call-inputs, call-table)
