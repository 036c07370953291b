-- Values in which nothing is named but constants and generics.
use Rattle.std.proofs.Common.{◌≡◌, ℕ, zero, suc, ◌+◌, ◌<◌, true, List, [], ◌∷◌, ◌++◌, length, map, take, drop, get_or, refl, sym, ◌∙◌, ap, subst, arith}
use Rattle.std.specs.Prelude.{slice_get, Some}
use Rattle.std.specs.List.{zip}
use Rattle.std.proofs.lemmas.Bool.{false≢true}
use Rattle.std.proofs.lemmas.List.{take_more}
use Rattle.std.proofs.lemmas.List.Sums.{fold-append}
use Rattle.std.proofs.lemmas.Option.{slice_get-get_or}
use Rattle.vital_cell.specs.Environments.{NamedWorth}
use Rattle.vital_machine.specs.declared.trees.LevelTree.{LevelTree}
use Rattle.vital_machine.specs.declared.trees.TruthTree.{TruthTree}
use Rattle.vital_machine.specs.declared.trees.VectorTree.{VectorTree}
use Rattle.vital_machine.specs.Seen.{Seen}
use Rattle.vital_machine.specs.Trees as N
use Rattle.vital_objects.specs.declared.constant.Constant.{Constant}
use Rattle.vital_objects.specs.declared.constant.ConstantValue.{ConstantValue}
use Rattle.vital_objects.specs.declared.constant.ConstantValue.TheVariants as constants
use Rattle.vital_operands.specs.declared.tree.BooleanExpr.{BooleanExpr}
use Rattle.vital_operands.specs.declared.tree.LevelExpr.{LevelExpr}
use Rattle.vital_operands.specs.declared.tree.VectorExpr.{VectorExpr}
use Rattle.vital_typed_cells.specs.ExprScopes.{Scope as Tests}
use Rattle.vital_typed_cells.specs.Named.{is_vector, variable_is}
use Rattle.vital_typed_cells.specs.SoundDeclarations.{is_sound_constant}
use Rattle.vital_typed_cells.specs.Trees.{is_sound_boolean, is_sound_level}
use Rattle.vital_cell.specs.declared.worth.Worth.{Worth}
use Rattle.vital_cell.specs.Named.{held_in}
use Rattle.vital_cell.specs.Scopes.{Scope, named_worths, names_at, names_of, names_of_variables}
use Rattle.vital_cell.specs.Sound.{tests}
use Rattle.vital_cell.specs.StandsFor.{Fits, IsLevel, IsTruth, IsVector}
use Rattle.vital_cell.specs.Values.{AreSoundIn, named_worth, with_constants, worths_in}
use Rattle.vital_cell.specs.Worths as worths
use Rattle.vital_cell.proofs.ZipLemmas.{map-at, none≢some, some-same}
use Rattle.vital_typed_cells.specs.Expressions as T

-- ---- nothing is seen

abbrev pub nothing : Seen
nothing = record { inputs = []; slots = [] }

zip-none : {A B : Type 0} (xs : List A) → zip {K = A} {X = B} xs [] ≡ []
zip-none [] = refl
zip-none (x ∷ xs) = refl

names-none : (k : Scope) → names_of k nothing ≡ names_at k [] []
names-none k = ap (λ ps. names_at k [] (map (λ p. record { name = p.0; held = held_in p.1 }) ps)) (zip-none (names_of_variables k))

fits-none : (k : Scope) → k.variables ≡ [] → Fits k nothing
fits-none k none = λ name n is. absurd (false≢true (sym (ap (λ vs. variable_is (is_vector n) vs name) none) ∙ is))

pub level-known : (k : Scope) (x : LevelTree) (e : LevelExpr) → k.variables ≡ [] → IsLevel k x e → N.level nothing x ≡ T.level (names_at k [] []) e
level-known k x e none is = is nothing (fits-none k none) ∙ ap (λ names. T.level names e) (names-none k)

pub truth-known : (k : Scope) (x : TruthTree) (e : BooleanExpr) → k.variables ≡ [] → IsTruth k x e → N.truth nothing x ≡ T.truth (names_at k [] []) e
truth-known k x e none is = is nothing (fits-none k none) ∙ ap (λ names. T.truth names e) (names-none k)

pub vector-known : (k : Scope) (x : VectorTree) (e : VectorExpr) → k.variables ≡ [] → IsVector k x e → N.vector nothing x ≡ T.vector (names_at k [] []) e
vector-known k x e none is = is nothing (fits-none k none) ∙ ap (λ names. T.vector names e) (names-none k)

-- ---- one constant more

pub worths-more : (names : List (List ℕ)) (ws : List Worth) (name : List ℕ) (w : Worth) → slice_get names (length ws) ≡ Some name → named_worths names (ws ++ w ∷ []) ≡ named_worths names ws ++ record { name = name; worth = worths.lent w } ∷ []
worths-more [] ws name w is = absurd (none≢some name is)
worths-more (n ∷ ns) [] name w is =
    ap (λ (xs : List NamedWorth). record { name = n; worth = worths.lent w } ∷ xs) (ap (map (λ p. record { name = p.0; worth = worths.lent p.1 })) (zip-none ns))
    ∙ ap (λ m. record { name = m; worth = worths.lent w } ∷ []) (some-same n name is)
worths-more (n ∷ ns) (v ∷ vs) name w is = ap (λ (xs : List NamedWorth). record { name = n; worth = worths.lent v } ∷ xs) (worths-more ns vs name w is)

-- ---- constants, one after the other

pub worths-turn : (k : Scope) (known : List NamedWorth) (cs : List Constant) (i : ℕ) (c : Constant) → i < length cs → c ≡ get_or cs i c → worths_in k known (take (i + 1) cs) ≡ worths_in k known (take i cs) ++ named_worth (with_constants k (worths_in k known (take i cs))) c ∷ []
worths-turn k known cs i c within is =
    ap (worths_in k known) (take_more cs i c within ∙ ap (λ y. take i cs ++ y ∷ []) (sym is))
    ∙ fold-append (λ before d. before ++ named_worth (with_constants k before) d ∷ []) known (take i cs) (c ∷ [])

-- The next constant is sound, and so are those behind it.
pub record SoundTurn (k : Scope) (before : List NamedWorth) (cs : List Constant) (i : ℕ) (c : Constant) : Type 0 where
  pub here : is_sound_constant (tests (with_constants k before)) c.value ≡ true
  pub rest : AreSoundIn k (before ++ named_worth (with_constants k before) c ∷ []) (drop (i + 1) cs)

pub sound-turn : (k : Scope) (before : List NamedWorth) (cs : List Constant) (i : ℕ) (c : Constant) → i < length cs → c ≡ get_or cs i c → AreSoundIn k before (drop i cs) → SoundTurn k before cs i c
sound-turn k before [] i c within is sound = absurd (omega arith)
sound-turn k before (d ∷ ds) zero c within is sound =
    let P : Constant → Type 0 = λ y. AreSoundIn k (before ++ named_worth (with_constants k before) y ∷ []) ds in
    record {
      here = ap (λ y. is_sound_constant (tests (with_constants k before)) y.value) is ∙ sound.0;
      rest = subst P (sym is) sound.1;
    }
sound-turn k before (d ∷ ds) (suc i) c within is sound =
    let turn = sound-turn k before ds i c (omega arith) is sound in
    let same : suc i + 1 ≡ suc (i + 1) = omega arith in
    let P : ℕ → Type 0 = λ m. AreSoundIn k (before ++ named_worth (with_constants k before) c ∷ []) (drop m (d ∷ ds)) in
    record { here = turn.here; rest = subst P (sym same) turn.rest }

-- ---- values of one kind

pub constant-level : (s : Tests) (v : ConstantValue) (t : LevelExpr) → v ≡ constants.Level t → is_sound_constant s v ≡ true → is_sound_level s t ≡ true
constant-level s v t is sound = sym (ap (is_sound_constant s) is) ∙ sound

pub constant-boolean : (s : Tests) (v : ConstantValue) (t : BooleanExpr) → v ≡ constants.Boolean t → is_sound_constant s v ≡ true → is_sound_boolean s t ≡ true
constant-boolean s v t is sound = sym (ap (is_sound_constant s) is) ∙ sound

-- The name of the next constant.
pub next-name : (names : List (List ℕ)) (cs : List Constant) (before now i : ℕ) (c : Constant) → i < length cs → c ≡ get_or cs i c → now ≡ before + i
    → ((j : ℕ) (name : List ℕ) → slice_get (map (λ d. d.name) cs) j ≡ Some name → slice_get names (before + j) ≡ Some name)
    → slice_get names now ≡ Some c.name
next-name names cs before now i c within is long there =
    ap (slice_get names) long ∙ there i c.name (map-at (λ d. d.name) cs i c (slice_get-get_or cs i c within ∙ ap Some (sym is)))
