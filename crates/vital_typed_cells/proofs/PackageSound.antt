-- What the constants of packages are worth that break no clause and pass no limit is sound among those before them.
use Rattle.std.proofs.Common.{◌≡◌, ◌<◌, ℕ, suc, Bool, true, false, List, [], ◌∷◌, ◌++◌, length, Option, Some, None, refl, sym, ap, ◌∙◌, subst, arith}
use Rattle.std.specs.Prelude.{⊤, ◌||◌, cond, not, slice_get, unwrap_or, IfSome}
use Rattle.std.specs.List.{AllByRecursion, filter_map, fold}
use Rattle.std.specs.Option.{option_map_or}
use Rattle.std.proofs.lemmas.List.{append_assoc, append-nil}
use Rattle.std.proofs.lemmas.Option.{slice_get_within}
use Rattle.vital_declaration_clauses.specs.GoodConstants.{is_good_constant}
use Rattle.vital_declaration_clauses.specs.Scopes as scopes
use Rattle.vital_declarations.specs.declared.declared_type.TableType.TheVariants as table
use Rattle.vital_declarations.specs.Types.{type_of}
use Rattle.vital_library.specs.Constants.{constants_of}
use Rattle.vital_limits.specs.ConstantLimits.{constant_limits, limits_at, named_at, next_limits}
use Rattle.vital_limits.specs.ConstantLimits as limits
use Rattle.vital_limits.specs.declared.packages.ConstantLimits.{ConstantLimits}
use Rattle.vital_nodes.specs.declared.decl.Object.{Object}
use Rattle.vital_nodes.specs.declared.decl.ObjectClass.TheVariants as class
use Rattle.vital_nodes.specs.declared.expr.Expr.{Expr}
use Rattle.vital_nodes.specs.declared.unit.Units.{Units}
use Rattle.vital_nodes.specs.Nodes.{Expression, parts_of_subtype}
use Rattle.vital_nodes.specs.Walk.{nodes_of}
use Rattle.vital_objects.specs.declared.package_value.PackageValue.{PackageValue}
use Rattle.vital_objects.specs.PackageValues.{at_package, next_value, value_at, with_next}
use Rattle.vital_package_constants.specs.Breaches.{breaches_at, breaks_any, faults_in, next_breaches, own}
use Rattle.vital_package_constants.specs.Breaches as breaches
use Rattle.vital_package_constants.specs.declared.breaches.ConstantBreaches.{ConstantBreaches}
use Rattle.vital_package_constants.specs.Names.{nodes_of_constant}
use Rattle.vital_package_constants.specs.Tables.{has_wrong_table, makes_wrong_at}
use Rattle.vital_typed_cells.specs.Packages.{kept_values, passes_any, sound_values}
use Rattle.vital_uses.specs.Parts.{asked_of_subtype}
use Rattle.vital_as_read.specs.AsRead.{AreConstantsTogether}
use Rattle.vital_typed_cells.specs.SoundDeclarations.{AreSoundPackages, is_sound_package, names_in_packages}
use Rattle.vital_typed_cells.proofs.AsRead.{alike-beside}
use Rattle.vital_typed_cells.proofs.Found.{weaker}
use Rattle.vital_typed_cells.proofs.KeptValues.{front-some, kept, kept-more, value-among}
use Rattle.vital_typed_cells.proofs.Lists.{all-both}
use Rattle.vital_typed_cells.proofs.Lookups.{constants-are}
use Rattle.vital_typed_cells.proofs.PackageLimits.{Shorts, here-short, short-at}
use Rattle.vital_typed_cells.proofs.PackageLimits as short
use Rattle.vital_typed_cells.proofs.PackageNames.{HasFree, IsIn, firsts-at}
use Rattle.vital_typed_cells.proofs.PackageRows.{rows-known}
use Rattle.vital_typed_cells.proofs.Packages.{BegunFor, BreachState, NamedFree, Together, ValueState, Worths, begun-next, breach-count, constants-there, each-kept, here-worth, one-longer, one-more, own-faultless, value-count, value-nodes, worth-at}
use Rattle.vital_typed_cells.proofs.PackageTables.{TableAt}
use Rattle.vital_typed_cells.proofs.PackageTrees.{HasBefore, SoundPackage, ValueFree, both-some, constant-sound}
use Rattle.vital_typed_cells.proofs.Unbroken.{IsFree, IsWithin, any-false, each-free, each-within, first-false, folded-free, folded-within, second-false}
use Rattle.vital_typed_cells.proofs.Worth.{IsWorth}

-- ---- the constants before one

-- The constant of a number breaks no clause and passes no limit.
abbrev IsGoodAt : List ConstantBreaches → List ConstantLimits → ℕ → Type 0
IsGoodAt bs ls k = IsFree (breaches_at bs k) × IsWithin (limits_at ls k)

-- What is known of the first constants of packages.
record Firsts (files : List Units) (os others : List Object) (bs : List ConstantBreaches) (ls : List ConstantLimits) (vs : List (Option PackageValue)) : Type 0 where
  are : constants_of files ≡ os ++ others
  worth : Worths files 0 os bs vs
  short : Shorts os ls

limit-count : (os : List Object) (ls : List ConstantLimits) → Shorts os ls → length ls ≡ length os
limit-count [] [] all = refl
limit-count [] (l ∷ ls) all = absurd all
limit-count (o ∷ os) [] all = absurd all
limit-count (o ∷ os) (l ∷ ls) all = ap suc (limit-count os ls all.1)

module _ (files : List Units) (os others : List Object) (bs : List ConstantBreaches) (ls : List ConstantLimits) (vs more : List (Option PackageValue)) (firsts : Firsts files os others bs ls vs) where
  abbrev seen : List (Option PackageValue)
  seen = kept_values bs ls vs ++ more

  same-value : HasFree os (IsGoodAt bs ls) (λ k o. value_at seen k ≡ value_at vs k)
  same-value = λ k o is good.
      value-among bs ls vs more k (subst (λ n. k < n) (sym (value-count files 0 os bs vs firsts.worth)) (slice_get_within os k o is)) good.0 good.1

  seen-in : HasFree os (IsGoodAt bs ls) (IsIn (names_in_packages seen))
  seen-in = λ k o is good.
      let has : IsWorth (type_of o.parts.subtype) (value_at seen k) = subst (IsWorth (type_of o.parts.subtype)) (sym (same-value k o is good)) (worth-at files os bs vs k o firsts.worth is good.0).worth in
      record { levels = has.levels; times = has.times; delays = has.delays }

  tables-at : HasFree os (IsGoodAt bs ls) (TableAt files seen)
  tables-at = λ k o is good typed.
      let within = each-within (limits_at ls k) good.1 in
      let made = rows-known files vs k o table.Truth (limits_at ls k) (worth-at files os bs vs k o firsts.worth is good.0) (short-at os ls k o firsts.short is) within.rows within.columns typed in
      (subst (λ (qs : List Object). slice_get qs k ≡ Some o) (sym firsts.are) (front-some os others k o is), (made.0, (same-value k o is good ∙ made.1.0, made.1.1)))

  before : (n : ℕ) → n ≡ length os → HasBefore files n os (IsGoodAt bs ls) vs seen
  before n count = record {
    at = firsts-at files os others n firsts.are count;
    known_in = λ k o is good. constants-there files os bs vs firsts.worth k o is good.0;
    seen_in = seen-in;
    tables = tables-at;
  }

-- ---- the constant behind them

-- A value is sound among those that are kept, whatever stands behind them, where it is that of a constant that breaks no clause and passes
-- no limit.
abbrev SoundIf : List (Option PackageValue) → ConstantBreaches → ConstantLimits → Option PackageValue → Type 0
SoundIf before b l v = (more : List (Option PackageValue)) → IsFree b → IsWithin l → IfSome v (SoundPackage (names_in_packages (before ++ more)))

value-free : (files : List Units) (n : ℕ) (bs : List ConstantBreaches) (ls : List ConstantLimits) (v : Option Expr) → IfSome v (λ e. AllByRecursion (λ u. IfSome (named_at files n u) (λ k. IsFree (breaches_at bs k))) (nodes_of (Expression e)))
    → IfSome v (λ e. AllByRecursion (λ u. IfSome (named_at files n u) (λ k. IsWithin (limits_at ls k))) (nodes_of (Expression e)))
    → IfSome v (λ e. AllByRecursion (λ u. makes_wrong_at files (at_package files n) u ≡ false) (nodes_of (Expression e))) → IfSome v (ValueFree files n (IsGoodAt bs ls))
value-free files n bs ls None free within right = tt
value-free files n bs ls (Some e) free within right = record {
  named =
      weaker (λ u. IfSome (named_at files n u) (λ k. IsFree (breaches_at bs k)) × IfSome (named_at files n u) (λ k. IsWithin (limits_at ls k))) (λ u. IfSome (named_at files n u) (IsGoodAt bs ls))
      (λ u both. both-some (λ k. IsFree (breaches_at bs k)) (λ k. IsWithin (limits_at ls k)) (named_at files n u) both.0 both.1) (nodes_of (Expression e))
      (all-both (λ u. IfSome (named_at files n u) (λ k. IsFree (breaches_at bs k))) (λ u. IfSome (named_at files n u) (λ k. IsWithin (limits_at ls k))) (nodes_of (Expression e)) free within);
  right = right;
}

-- No call in the value of a constant that breaks no clause makes a table wrong.
right-calls : (files : List Units) (bs : List ConstantBreaches) (o : Object) → IsFree (own files bs o) → AllByRecursion (NamedFree files bs) (nodes_of_constant o)
    → AllByRecursion (λ u. makes_wrong_at files (at_package files (length bs)) u ≡ false) (nodes_of_constant o)
right-calls files bs o free named =
    let each = each-free (own files bs o) free in
    any-false (makes_wrong_at files (at_package files (length bs))) (nodes_of_constant o)
    (subst (λ fs. has_wrong_table files (breaches.context files (length bs) fs) (nodes_of_constant o) ≡ false) (own-faultless files bs o free named)
    (second-false (not (is_good_constant (scopes.InPackage files (length bs)) o)) (has_wrong_table files (breaches.context files (length bs) (faults_in files bs (nodes_of_constant o))) (nodes_of_constant o)) each.constants))

next-free : (files : List Units) (n : ℕ) (bs : List ConstantBreaches) (ls : List ConstantLimits) (o : Object) → length bs ≡ n → length ls ≡ n → IsFree (next_breaches files bs o) → IsWithin (next_limits files ls o) → IfSome o.parts.value (ValueFree files n (IsGoodAt bs ls))
next-free files n bs ls o first second free within =
    let both = folded-free (breaches_at bs) (own files bs o) (filter_map (named_at files (length bs)) (nodes_of_constant o)) free in
    let short = folded-within (limits_at ls) (limits.own o) (filter_map (named_at files (length ls)) (limits.nodes_of_constant o)) within in
    let named : AllByRecursion (NamedFree files bs) (nodes_of_constant o) = each-kept (λ k. IsFree (breaches_at bs k)) (named_at files (length bs)) (nodes_of_constant o) both.1 in
    let passed : AllByRecursion (λ u. IfSome (named_at files (length ls) u) (λ k. IsWithin (limits_at ls k))) (limits.nodes_of_constant o) =
    each-kept (λ k. IsWithin (limits_at ls k)) (named_at files (length ls)) (limits.nodes_of_constant o) short.1 in
    value-free files n bs ls o.parts.value
    (subst (λ m. IfSome o.parts.value (λ e. AllByRecursion (λ u. IfSome (named_at files m u) (λ k. IsFree (breaches_at bs k))) (nodes_of (Expression e)))) first
    (value-nodes (NamedFree files bs) (asked_of_subtype o.parts.subtype) o.parts.value named))
    (subst (λ m. IfSome o.parts.value (λ e. AllByRecursion (λ u. IfSome (named_at files m u) (λ k. IsWithin (limits_at ls k))) (nodes_of (Expression e)))) second
    (value-nodes (λ u. IfSome (named_at files (length ls) u) (λ k. IsWithin (limits_at ls k))) (parts_of_subtype o.parts.subtype) o.parts.value passed))
    (subst (λ m. IfSome o.parts.value (λ e. AllByRecursion (λ u. makes_wrong_at files (at_package files m) u ≡ false) (nodes_of (Expression e)))) first
    (value-nodes (λ u. makes_wrong_at files (at_package files (length bs)) u ≡ false) (asked_of_subtype o.parts.subtype) o.parts.value (right-calls files bs o both.0 named)))

next-sound : (files : List Units) (os others : List Object) (bs : List ConstantBreaches) (ls : List ConstantLimits) (vs : List (Option PackageValue)) (o : Object) → Firsts files os others bs ls vs
    → SoundIf (kept_values bs ls vs) (next_breaches files bs o) (next_limits files ls o) (next_value files vs o)
next-sound files os others bs ls vs o firsts = λ more free within.
    let values : length vs ≡ length os = value-count files 0 os bs vs firsts.worth in
    constant-sound files (length vs) os (IsGoodAt bs ls) vs (kept_values bs ls vs ++ more) o (before files os others bs ls vs more firsts (length vs) values)
    (next-free files (length vs) bs ls o (breach-count files 0 os bs vs firsts.worth ∙ sym values) (limit-count os ls firsts.short ∙ sym values) free within)

-- ---- constants that are declared together

-- What has begun goes on with the next of them.
abbrev BegunSound : List (Option PackageValue) → Option ConstantBreaches → Option ConstantLimits → Option (Option PackageValue) → Type 0
BegunSound before None None None = ⊤
BegunSound before (Some b) (Some l) (Some v) = SoundIf before b l v
BegunSound before b l v = ⊥

still-sound : (before : List (Option PackageValue)) (x : Option PackageValue) (b : ConstantBreaches) (l : ConstantLimits) (v : Option PackageValue) → SoundIf before b l v → SoundIf (before ++ x ∷ []) b l v
still-sound before x b l v sound = λ more free within. subst (λ xs. IfSome v (SoundPackage (names_in_packages xs))) (sym (append_assoc before (x ∷ []) more)) (sound (x ∷ more) free within)

goes-on : (before : List (Option PackageValue)) (x : Option PackageValue) (b : ConstantBreaches) (l : ConstantLimits) (v : Option PackageValue) (last : Bool) → SoundIf before b l v
    → BegunSound (before ++ x ∷ []) (cond last None (Some b)) (cond last None (Some l)) (cond last None (Some v))
goes-on before x b l v true sound = tt
goes-on before x b l v false sound = still-sound before x b l v sound

here-sound : (files : List Units) (os others : List Object) (o : Object) (b : BreachState) (l : List ConstantLimits × Option ConstantLimits) (v : ValueState) → Firsts files os others b.0 l.0 v.0 → BegunSound (kept_values b.0 l.0 v.0) b.1 l.1 v.1
    → SoundIf (kept_values b.0 l.0 v.0) (unwrap_or b.1 (next_breaches files b.0 o)) (unwrap_or l.1 (next_limits files l.0 o)) (unwrap_or v.1 (next_value files v.0 o))
here-sound files os others o (bs, None) (ls, None) (vs, None) firsts begun = next-sound files os others bs ls vs o firsts
here-sound files os others o (bs, Some b) (ls, Some l) (vs, Some v) firsts begun = begun
here-sound files os others o (bs, None) (ls, None) (vs, Some v) firsts begun = absurd begun
here-sound files os others o (bs, None) (ls, Some l) (vs, v) firsts begun = absurd begun
here-sound files os others o (bs, Some b) (ls, None) (vs, v) firsts begun = absurd begun
here-sound files os others o (bs, Some b) (ls, Some l) (vs, None) firsts begun = absurd begun

-- ---- all constants

abbrev IsSoundAmong : List (Option PackageValue) → Option PackageValue → Type 0
IsSoundAmong before v = option_map_or (is_sound_package (names_in_packages before)) v true ≡ true

kept-sound : (before : List (Option PackageValue)) (unsound : Bool) (v : Option PackageValue) → (unsound ≡ false → IfSome v (SoundPackage (names_in_packages before))) → IsSoundAmong before (cond unsound None v)
kept-sound before true v sound = refl
kept-sound before false None sound = refl
kept-sound before false (Some w) sound = sound refl

one-sound : (before : List (Option PackageValue)) (b : ConstantBreaches) (l : ConstantLimits) (v : Option PackageValue) → SoundIf before b l v → IsSoundAmong before (kept b l v)
one-sound before b l v sound =
    kept-sound before (breaks_any b || passes_any l) v
    (λ is. subst (λ xs. IfSome v (SoundPackage (names_in_packages xs))) (append-nil before) (sound [] (first-false (breaks_any b) (passes_any l) is) (second-false (breaks_any b) (passes_any l) is)))

sound-more : (before xs : List (Option PackageValue)) (x : Option PackageValue) → AreSoundPackages before xs → IsSoundAmong (before ++ xs) x → AreSoundPackages before (xs ++ x ∷ [])
sound-more before [] x all one = (subst (λ ys. IsSoundAmong ys x) (append-nil before) one, tt)
sound-more before (y ∷ xs) x all one = (all.0, sound-more (before ++ y ∷ []) xs x all.1 (subst (λ ys. IsSoundAmong ys x) (sym (append_assoc before (y ∷ []) xs)) one))

abbrev LimitState : Type 0
LimitState = List ConstantLimits × Option ConstantLimits

-- What is known where some constants are left.
record Left (files : List Units) (os others : List Object) (b : BreachState) (l : LimitState) (v : ValueState) : Type 0 where
  firsts : Firsts files os others b.0 l.0 v.0
  classes : AllByRecursion (λ o. o.«class» ≡ class.Constant) others
  together : Together others
  values_begun : BegunFor files (length os) b.1 v.1 others
  limits_begun : short.BegunFor l.1 others
  begun : BegunSound (kept_values b.0 l.0 v.0) b.1 l.1 v.1
  sound : AreSoundPackages [] (kept_values b.0 l.0 v.0)

one-less : (files : List Units) (os others : List Object) (o : Object) (b : BreachState) (l : LimitState) (v : ValueState) → Left files os (o ∷ others) b l v
    → Left files (os ++ o ∷ []) others (breaches.with_next files b o) (limits.with_next files l o) (with_next files v o)
one-less files os others o b l v left =
    let n = length os in
    let own' = unwrap_or b.1 (next_breaches files b.0 o) in
    let limit = unwrap_or l.1 (next_limits files l.0 o) in
    let value = unwrap_or v.1 (next_value files v.0 o) in
    let before' = kept_values b.0 l.0 v.0 in
    let values : length v.0 ≡ length os = value-count files 0 os b.0 v.0 left.firsts.worth in
    let all : kept_values (b.0 ++ own' ∷ []) (l.0 ++ limit ∷ []) (v.0 ++ value ∷ []) ≡ before' ++ kept own' limit value ∷ [] =
    kept-more b.0 l.0 v.0 own' limit value (breach-count files 0 os b.0 v.0 left.firsts.worth ∙ sym values) (limit-count os l.0 left.firsts.short ∙ sym values) in
    let worth = here-worth files n os others o b.1 b.0 v.1 v.0 refl left.firsts.are left.classes.0 left.firsts.worth left.values_begun in
    let passed = here-short files others o l.1 l.0 left.classes.0 left.limits_begun in
    let is : SoundIf before' own' limit value = here-sound files os (o ∷ others) o b l v left.firsts left.begun in
    record {
      firsts = record {
        are = left.firsts.are ∙ sym (append_assoc os (o ∷ []) others);
        worth = one-more files 0 n os b.0 v.0 o own' value (omega arith) left.firsts.worth worth;
        short = short.one-more os l.0 o limit left.firsts.short passed;
      };
      classes = left.classes.1;
      together = left.together.1;
      values_begun = subst (λ m. BegunFor files m (cond o.is_last None (Some own')) (cond o.is_last None (Some value)) others) (one-longer n os o refl) (begun-next files n o others own' value o.is_last worth refl left.together);
      limits_begun = short.begun-next o others limit o.is_last passed refl left.together;
      begun = subst (λ xs. BegunSound xs (cond o.is_last None (Some own')) (cond o.is_last None (Some limit)) (cond o.is_last None (Some value))) (sym all) (goes-on before' (kept own' limit value) own' limit value o.is_last is);
      sound = subst (AreSoundPackages []) (sym all) (sound-more [] before' (kept own' limit value) left.sound (one-sound before' own' limit value is));
    }

all-sound : (files : List Units) (os others : List Object) (b : BreachState) (l : LimitState) (v : ValueState) → Left files os others b l v
    → AreSoundPackages [] (kept_values (fold (breaches.with_next files) b others).0 (fold (limits.with_next files) l others).0 (fold (with_next files) v others).0)
all-sound files os [] b l v left = left.sound
all-sound files os (o ∷ others) b l v left =
    all-sound files (os ++ o ∷ []) others (breaches.with_next files b o) (limits.with_next files l o) (with_next files v o) (one-less files os others o b l v left)

pub packages-sound : (files : List Units) → AreConstantsTogether files → AreSoundPackages [] (sound_values files)
unfolding sound_values
packages-sound files together =
    all-sound files [] (constants_of files) ([], None) ([], None) ([], None) (record {
      firsts = record { are = refl; worth = tt; short = tt };
      classes = constants-are files;
      together = alike-beside (λ c. c.is_last) (λ c. c.parts) (constants_of files) together;
      values_begun = tt;
      limits_begun = tt;
      begun = tt;
      sound = tt;
    })
