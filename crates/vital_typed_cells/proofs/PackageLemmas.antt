-- What constants of packages are worth, one after another.
use Rattle.std.proofs.Common.{◌≡◌, ℕ, zero, suc, ◌+◌, ◌<◌, true, List, [], ◌∷◌, ◌++◌, length, map, take, get_or, refl, ap, sym, ◌∙◌, subst, append-nil, append_assoc, arith}
use Rattle.std.specs.Prelude.{Option, Some, None, slice_get}
use Rattle.std.specs.List.{fold}
use Rattle.std.specs.Option.{option_and_then, option_map, option_map_or}
use Rattle.std.proofs.lemmas.List.{get_or_read, map-append, take_more}
use Rattle.std.proofs.lemmas.List.Sums.{fold-append}
use Rattle.std.proofs.lemmas.Option.{slice_get-map}
use Rattle.vital_logic.specs.declared.level.Level.TheVariants.{U}
use Rattle.vital_objects.specs.declared.package_value.PackageValue.{PackageValue}
use Rattle.vital_objects.specs.declared.package_value.PackageValue.TheVariants as packaged
use Rattle.vital_objects.specs.PackageValues.{value_at}
use Rattle.vital_typed_cells.specs.SoundDeclarations.{AreSoundPackages, is_sound_package, names_in_packages}
use Rattle.vital_typed_cells.specs.Expressions.{Worth, level_of, rows_of}
use Rattle.vital_typed_cells.specs.PackageWorths.{level_of_value, package_levels, package_worth, packages_worth, rows_in, worth_at}

abbrev with_worth : List (Option Worth) → Option PackageValue → List (Option Worth)
with_worth ws v = ws ++ option_map (package_worth ws) v ∷ []

-- ---- one constant more

pub worths-more : (vs : List (Option PackageValue)) (v : Option PackageValue) → packages_worth (vs ++ v ∷ []) ≡ packages_worth vs ++ option_map (package_worth (packages_worth vs)) v ∷ []
unfolding packages_worth
worths-more vs v = fold-append with_worth [] vs (v ∷ [])

pub levels-more : (vs : List (Option PackageValue)) (v : Option PackageValue) → package_levels (vs ++ v ∷ []) ≡ package_levels vs ++ level_of (option_map (package_worth (packages_worth vs)) v) ∷ []
levels-more vs v = ap (map level_of) (worths-more vs v) ∙ map-append level_of (packages_worth vs) (option_map (package_worth (packages_worth vs)) v ∷ [])

pub no_levels : package_levels [] ≡ []
unfolding packages_worth
no_levels = refl

-- the level of one more
pub levels_put : (vs : List (Option PackageValue)) (n : ℕ) (d : Option PackageValue) → n < length vs → package_levels (take (n + 1) vs) ≡ package_levels (take n vs) ++ level_of_value (take n vs) (get_or vs n d) ∷ []
levels_put vs n d there = ap package_levels (take_more vs n d there) ∙ levels-more (take n vs) (get_or vs n d)

-- ---- one by its number

at-map : {B : Type 0} (see : Option Worth → B) (ws : List (Option Worth)) (n : ℕ) → see (worth_at ws n) ≡ option_map_or (λ b. b) (slice_get (map see ws) n) (see None)
at-map see [] n = refl
at-map see (w ∷ ws) zero = refl
at-map see (w ∷ ws) (suc n) = at-map see ws n

pub levels-at : (vs : List (Option PackageValue)) (n : ℕ) → level_of (worth_at (packages_worth vs) n) ≡ option_map_or (λ l. l) (slice_get (package_levels vs) n) U
levels-at vs n = at-map level_of (packages_worth vs) n

abbrev value_rows : Option PackageValue → List (List ℕ)
value_rows v = option_map_or rows_in v []

rows-of-one : (ws : List (Option Worth)) (v : Option PackageValue) → rows_of (option_map (package_worth ws) v) ≡ value_rows v
rows-of-one ws None = refl
rows-of-one ws (Some (packaged.Level t)) = refl
rows-of-one ws (Some (packaged.Boolean b)) = refl
rows-of-one ws (Some (packaged.Time t)) = refl
rows-of-one ws (Some (packaged.Delay d)) = refl
rows-of-one ws (Some (packaged.Table rows)) = refl

rows-behind : (ws : List (Option Worth)) (vs : List (Option PackageValue)) → map rows_of (fold with_worth ws vs) ≡ map rows_of ws ++ map value_rows vs
rows-behind ws [] = sym (append-nil (map rows_of ws))
rows-behind ws (v ∷ vs) =
    rows-behind (with_worth ws v) vs
    ∙ ap (λ rs. rs ++ map value_rows vs) (map-append rows_of ws (option_map (package_worth ws) v ∷ []))
    ∙ append_assoc (map rows_of ws) (rows_of (option_map (package_worth ws) v) ∷ []) (map value_rows vs)
    ∙ ap (λ r. map rows_of ws ++ (r ∷ map value_rows vs)) (rows-of-one ws v)

rows-in-order : (vs : List (Option PackageValue)) → map rows_of (packages_worth vs) ≡ map value_rows vs
unfolding packages_worth
rows-in-order vs = rows-behind [] vs

of-value : (o : Option (Option PackageValue)) → option_map_or (λ b. b) (option_map value_rows o) [] ≡ option_map_or rows_in (option_and_then (λ v. v) o) []
of-value None = refl
of-value (Some None) = refl
of-value (Some (Some v)) = refl

pub rows-at : (vs : List (Option PackageValue)) (n : ℕ) → rows_of (worth_at (packages_worth vs) n) ≡ option_map_or rows_in (value_at vs n) []
rows-at vs n =
    at-map rows_of (packages_worth vs) n
    ∙ ap (λ rs. option_map_or (λ b. b) (slice_get rs n) []) (rows-in-order vs)
    ∙ ap (λ o. option_map_or (λ b. b) o []) (slice_get-map value_rows vs n)
    ∙ of-value (slice_get vs n)

-- ---- what is asked of one

abbrev IsSoundBehind : List (Option PackageValue) → Option PackageValue → Type 0
IsSoundBehind before v = option_map_or (is_sound_package (names_in_packages before)) v true ≡ true

sound-behind : (before vs : List (Option PackageValue)) (n : ℕ) (d : Option PackageValue) → n < length vs → AreSoundPackages before vs → IsSoundBehind (before ++ take n vs) (get_or vs n d)
sound-behind before [] n d there sound = absurd (omega arith)
sound-behind before (v ∷ vs) zero d there sound = subst (λ bs. IsSoundBehind bs v) (sym (append-nil before)) sound.0
sound-behind before (v ∷ vs) (suc n) d there sound =
    subst (λ bs. IsSoundBehind bs (get_or vs n d)) (append_assoc before (v ∷ []) (take n vs)) (sound-behind (before ++ v ∷ []) vs n d (omega arith) sound.1)

pub sound-at : (known vs : List (Option PackageValue)) (n : ℕ) (v : Option PackageValue) → known ≡ take n vs → v ≡ get_or vs n v → n < length vs → AreSoundPackages [] vs → option_map_or (is_sound_package (names_in_packages known)) v true ≡ true
sound-at known vs n v before is there sound =
    subst (λ ks. IsSoundBehind ks v) (sym before) (subst (IsSoundBehind (take n vs)) (sym is) (sound-behind [] vs n v there sound))

-- one that was read is that of its number
pub value_read : (vs : List (Option PackageValue)) (n : ℕ) (v : Option PackageValue) → v ≡ get_or vs n v → n < length vs → v ≡ get_or vs n None
value_read vs n v is there = get_or_read vs n v there is None

pub ruleset rows = (rows-at)
