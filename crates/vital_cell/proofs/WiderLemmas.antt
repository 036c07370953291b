-- What is sound where names mean something is sound where they mean that and more.
use Rattle.std.proofs.Common.{◌≡◌, ℕ, true, List, [], ◌∷◌, length, map, refl, sym, ◌∙◌, ap, subst}
use Rattle.std.specs.Prelude.{Bool, ◌&&◌, ◌==◌, nat_le, Option, Some, None}
use Rattle.std.specs.List.{list_all}
use Rattle.std.specs.Option.{option_map_or}
use Rattle.std.proofs.lemmas.List.{length-map}
use Rattle.vital_calls.specs.Formals.{input_count}
use Rattle.vital_expr.specs.Vectors.{length_of}
use Rattle.vital_objects.specs.declared.constant.ConstantValue.{ConstantValue}
use Rattle.vital_objects.specs.declared.constant.ConstantValue.TheVariants as constants
use Rattle.vital_objects.specs.declared.package_value.PackageValue.{PackageValue}
use Rattle.vital_objects.specs.declared.package_value.PackageValue.TheVariants as packaged
use Rattle.vital_objects.specs.declared.variable.VariableKind.{VariableKind}
use Rattle.vital_objects.specs.declared.variable.VariableKind.TheVariants as kind
use Rattle.vital_operands.specs.declared.tree.BooleanExpr.{BooleanExpr}
use Rattle.vital_operands.specs.declared.tree.BooleanExpr.TheFolds.{ind-BooleanExpr, map-BooleanExpr}
use Rattle.vital_operands.specs.declared.tree.BooleanExpr.TheOpen.{BooleanExpr-F}
use Rattle.vital_operands.specs.declared.tree.BooleanExpr.TheViews.{roll-BooleanExpr}
use Rattle.vital_operands.specs.declared.tree.ConstantName.{ConstantName}
use Rattle.vital_operands.specs.declared.tree.DelayExpr.{DelayExpr}
use Rattle.vital_operands.specs.declared.tree.DelayExpr.TheVariants as delays
use Rattle.vital_operands.specs.declared.tree.LevelExpr.{LevelExpr}
use Rattle.vital_operands.specs.declared.tree.LevelExpr.TheFolds.{ind-LevelExpr, ind-VectorExpr, map-LevelExpr, map-TruthTableCall, map-VectorExpr}
use Rattle.vital_operands.specs.declared.tree.LevelExpr.TheOpen.{LevelExpr-F, TruthTableCall-F, VectorExpr-F}
use Rattle.vital_operands.specs.declared.tree.LevelExpr.TheViews.{roll-LevelExpr, roll-VectorExpr}
use Rattle.vital_operands.specs.declared.tree.TimeExpr.{TimeExpr}
use Rattle.vital_operands.specs.declared.tree.TimeExpr.TheVariants as times
use Rattle.vital_operands.specs.declared.tree.TruthTableCall.{TruthTableCall, out-TruthTableCall, roll-TruthTableCall}
use Rattle.vital_operands.specs.declared.tree.VectorExpr.{VectorExpr}
use Rattle.vital_typed_cells.specs.ExprScopes.{Scope}
use Rattle.vital_typed_cells.specs.SoundDeclarations.{is_sound_constant, is_sound_kind, is_sound_package}
use Rattle.vital_typed_cells.specs.Trees.{boolean_step, is_sound_boolean, is_sound_delay, is_sound_level, is_sound_time, is_sound_vector, level_step, vector_step, vector_worth}
use Rattle.vital_cell.proofs.SoundLemmas.{first-holds, is_sound_call, level-roll, second-holds, sound-call, truth-roll, vector-length, vector-roll}
use Rattle.vital_timing.specs.declared.delay.DelayType.{DelayType}
use Rattle.vital_timing.specs.declared.delay.DelayType.TheVariants.{One}

-- Names of expressions in the first scope mean as much in the second one.
pub record IsWider (s t : Scope) : Type 0 where
  pub signals : (name : List ℕ) → s.has_signal name ≡ true → t.has_signal name ≡ true
  pub variables : (name : List ℕ) → s.has_variable name ≡ true → t.has_variable name ≡ true
  pub elements : (name : List ℕ) (n : ℕ) → s.has_element name n ≡ true → t.has_element name n ≡ true
  pub vectors : (name : List ℕ) (n : ℕ) → s.has_vector name n ≡ true → t.has_vector name n ≡ true
  pub levels : (name : ConstantName) → s.has_level name ≡ true → t.has_level name ≡ true
  pub times : (name : ConstantName) → s.has_time name ≡ true → t.has_time name ≡ true
  pub delays : (d : DelayType) (name : ConstantName) → s.has_delay d name ≡ true → t.has_delay d name ≡ true
  pub generics : (d : DelayType) (name : List ℕ) → s.has_generic d name ≡ true → t.has_generic d name ≡ true
  pub tables : (name : ConstantName) (n m : ℕ) → s.has_table name n m ≡ true → t.has_table name n m ≡ true

abbrev LevelHolds : Scope → Scope → LevelExpr → Type 0
LevelHolds s t e = is_sound_level s e ≡ true → is_sound_level t e ≡ true

abbrev VectorHolds : Scope → Scope → VectorExpr → Type 0
VectorHolds s t v = (vector_worth s v).0 ≡ true → (vector_worth t v).0 ≡ true

abbrev CallHolds : Scope → Scope → TruthTableCall → Type 0
CallHolds s t call = (n : ℕ) → is_sound_call s call n ≡ true → is_sound_call t call n ≡ true

both : (a b c d : Bool) → (a ≡ true → c ≡ true) → (b ≡ true → d ≡ true) → (a && b) ≡ true → (c && d) ≡ true
both a b c d first second is = ap (λ x. x && d) (first (first-holds a b is)) ∙ second (second-holds a b is)

all-wider : {A : Type 0} (s t : Scope) (see : A → LevelExpr) → ((x : A) → LevelHolds s t (see x)) → (xs : List A) → list_all (λ b. b) (map (is_sound_level s) (map see xs)) ≡ true → list_all (λ b. b) (map (is_sound_level t) (map see xs)) ≡ true
all-wider s t see holds [] is = refl
all-wider s t see holds (x ∷ xs) is =
    both (is_sound_level s (see x)) (list_all (λ b. b) (map (is_sound_level s) (map see xs))) (is_sound_level t (see x)) (list_all (λ b. b) (map (is_sound_level t) (map see xs))) (holds x) (all-wider s t see holds xs) is

level-layer : (A V C : Type 0) (s t : Scope) → IsWider s t → (a : A → LevelExpr) (v : V → VectorExpr) (c : C → TruthTableCall) → ((x : A) → LevelHolds s t (a x)) → ((x : V) → VectorHolds s t (v x)) → ((x : C) → CallHolds s t (c x))
    → (l : LevelExpr-F A V C)
    → level_step s (map-LevelExpr LevelExpr VectorExpr TruthTableCall Bool (Bool × ℕ) (ℕ → Bool) (is_sound_level s) (vector_worth s) (is_sound_call s) (map-LevelExpr A V C LevelExpr VectorExpr TruthTableCall a v c l)) ≡ true
    → level_step t (map-LevelExpr LevelExpr VectorExpr TruthTableCall Bool (Bool × ℕ) (ℕ → Bool) (is_sound_level t) (vector_worth t) (is_sound_call t) (map-LevelExpr A V C LevelExpr VectorExpr TruthTableCall a v c l)) ≡ true
level-layer A V C s t w a v c ha hv hc (LevelExpr-F.LevelExpr::Literal l) is = refl
level-layer A V C s t w a v c ha hv hc (LevelExpr-F.Signal name) is = w.signals name is
level-layer A V C s t w a v c ha hv hc (LevelExpr-F.LevelExpr::Variable name) is = w.variables name is
level-layer A V C s t w a v c ha hv hc (LevelExpr-F.Element name n) is = w.elements name n is
level-layer A V C s t w a v c ha hv hc (LevelExpr-F.Constant name) is = w.levels name is
level-layer A V C s t w a v c ha hv hc (LevelExpr-F.Not x) is = ha x is
level-layer A V C s t w a v c ha hv hc (LevelExpr-F.Logical o xs) is = all-wider s t a ha xs is
level-layer A V C s t w a v c ha hv hc (LevelExpr-F.Primitive p xs) is =
    let ls = map a xs in
    both (length (map (is_sound_level s) ls) == input_count p) (list_all (λ b. b) (map (is_sound_level s) ls)) (length (map (is_sound_level t) ls) == input_count p) (list_all (λ b. b) (map (is_sound_level t) ls))
    (λ same. ap (λ n. n == input_count p) (length-map ls (is_sound_level t) ∙ sym (length-map ls (is_sound_level s))) ∙ same) (all-wider s t a ha xs) is
level-layer A V C s t w a v c ha hv hc (LevelExpr-F.Conversion o x) is = ha x is
level-layer A V C s t w a v c ha hv hc (LevelExpr-F.LevelExpr::TruthTable x) is = hc x 1 is

vector-layer : (A V C : Type 0) (s t : Scope) → IsWider s t → (a : A → LevelExpr) (v : V → VectorExpr) (c : C → TruthTableCall) → ((x : A) → LevelHolds s t (a x)) → ((x : V) → VectorHolds s t (v x)) → ((x : C) → CallHolds s t (c x))
    → (l : VectorExpr-F A V C)
    → (vector_step s (map-VectorExpr LevelExpr VectorExpr TruthTableCall Bool (Bool × ℕ) (ℕ → Bool) (is_sound_level s) (vector_worth s) (is_sound_call s) (map-VectorExpr A V C LevelExpr VectorExpr TruthTableCall a v c l))).0 ≡ true
    → (vector_step t (map-VectorExpr LevelExpr VectorExpr TruthTableCall Bool (Bool × ℕ) (ℕ → Bool) (is_sound_level t) (vector_worth t) (is_sound_call t) (map-VectorExpr A V C LevelExpr VectorExpr TruthTableCall a v c l))).0 ≡ true
vector-layer A V C s t w a v c ha hv hc (VectorExpr-F.VectorExpr::Variable name n) is = w.vectors name n is
vector-layer A V C s t w a v c ha hv hc (VectorExpr-F.Levels xs) is = all-wider s t a ha xs is
vector-layer A V C s t w a v c ha hv hc (VectorExpr-F.Others x n) is = ha x is
vector-layer A V C s t w a v c ha hv hc (VectorExpr-F.VectorExpr::Literal ls) is = refl
vector-layer A V C s t w a v c ha hv hc (VectorExpr-F.VectorExpr::TruthTable x n) is = hc x n is

level-roll-wider : (A V C : Type 0) (s t : Scope) → IsWider s t → (a : A → LevelExpr) (v : V → VectorExpr) (c : C → TruthTableCall) → ((x : A) → LevelHolds s t (a x)) → ((x : V) → VectorHolds s t (v x)) → ((x : C) → CallHolds s t (c x)) → (l : LevelExpr-F A V C) → LevelHolds s t (roll-LevelExpr (map-LevelExpr A V C LevelExpr VectorExpr TruthTableCall a v c l))
level-roll-wider A V C s t w a v c ha hv hc l is =
    let m = map-LevelExpr A V C LevelExpr VectorExpr TruthTableCall a v c l in
    level-roll t m ∙ level-layer A V C s t w a v c ha hv hc l (sym (level-roll s m) ∙ is)

vector-roll-wider : (A V C : Type 0) (s t : Scope) → IsWider s t → (a : A → LevelExpr) (v : V → VectorExpr) (c : C → TruthTableCall) → ((x : A) → LevelHolds s t (a x)) → ((x : V) → VectorHolds s t (v x)) → ((x : C) → CallHolds s t (c x)) → (l : VectorExpr-F A V C) → VectorHolds s t (roll-VectorExpr (map-VectorExpr A V C LevelExpr VectorExpr TruthTableCall a v c l))
vector-roll-wider A V C s t w a v c ha hv hc l is =
    let m = map-VectorExpr A V C LevelExpr VectorExpr TruthTableCall a v c l in
    ap (λ x. x.0) (vector-roll t m) ∙ vector-layer A V C s t w a v c ha hv hc l (sym (ap (λ x. x.0) (vector-roll s m)) ∙ is)

call-wider : (s t : Scope) → IsWider s t → (call : TruthTableCall) → VectorHolds s t (out-TruthTableCall call).inputs → CallHolds s t call
call-wider s t w call inputs n is =
    let out = out-TruthTableCall call in
    sound-call t call n ∙ both (vector_worth s out.inputs).0 (s.has_table out.table (length_of out.inputs) n) (vector_worth t out.inputs).0 (t.has_table out.table (length_of out.inputs) n) inputs (w.tables out.table (length_of out.inputs) n) (sym (sound-call s call n) ∙ is)

call-roll-wider : (A V C : Type 0) (s t : Scope) → IsWider s t → (a : A → LevelExpr) (v : V → VectorExpr) (c : C → TruthTableCall) → ((x : V) → VectorHolds s t (v x)) → (l : TruthTableCall-F A V C) → CallHolds s t (roll-TruthTableCall (map-TruthTableCall A V C LevelExpr VectorExpr TruthTableCall a v c l))
call-roll-wider A V C s t w a v c hv l = call-wider s t w (roll-TruthTableCall (map-TruthTableCall A V C LevelExpr VectorExpr TruthTableCall a v c l)) (hv l.inputs)

pub level-wider : (s t : Scope) → IsWider s t → (e : LevelExpr) → LevelHolds s t e
level-wider s t w = ind-LevelExpr (LevelHolds s t) (VectorHolds s t) (CallHolds s t)
    (λ x y e. subst (λ l. LevelHolds s t (roll-LevelExpr l)) e (level-roll-wider _ _ _ s t w (λ q. q.0) (λ q. q.0) (λ q. q.0) (λ q. q.1) (λ q. q.1) (λ q. q.1) y))
    (λ x y e. subst (λ l. VectorHolds s t (roll-VectorExpr l)) e (vector-roll-wider _ _ _ s t w (λ q. q.0) (λ q. q.0) (λ q. q.0) (λ q. q.1) (λ q. q.1) (λ q. q.1) y))
    (λ x y e. subst (λ l. CallHolds s t (roll-TruthTableCall l)) e (call-roll-wider _ _ _ s t w (λ q. q.0) (λ q. q.0) (λ q. q.0) (λ q. q.1) y))

pub vector-wider : (s t : Scope) → IsWider s t → (v : VectorExpr) → VectorHolds s t v
vector-wider s t w = ind-VectorExpr (LevelHolds s t) (VectorHolds s t) (CallHolds s t)
    (λ x y e. subst (λ l. LevelHolds s t (roll-LevelExpr l)) e (level-roll-wider _ _ _ s t w (λ q. q.0) (λ q. q.0) (λ q. q.0) (λ q. q.1) (λ q. q.1) (λ q. q.1) y))
    (λ x y e. subst (λ l. VectorHolds s t (roll-VectorExpr l)) e (vector-roll-wider _ _ _ s t w (λ q. q.0) (λ q. q.0) (λ q. q.0) (λ q. q.1) (λ q. q.1) (λ q. q.1) y))
    (λ x y e. subst (λ l. CallHolds s t (roll-TruthTableCall l)) e (call-roll-wider _ _ _ s t w (λ q. q.0) (λ q. q.0) (λ q. q.0) (λ q. q.1) y))

-- A vector of a length.
pub fitting-wider : (s t : Scope) → IsWider s t → (n : ℕ) (v : VectorExpr) → is_sound_vector s n v ≡ true → is_sound_vector t n v ≡ true
fitting-wider s t w n v =
    both (vector_worth s v).0 ((vector_worth s v).1 == n) (vector_worth t v).0 ((vector_worth t v).1 == n) (vector-wider s t w v)
    (λ same. ap (λ m. m == n) (vector-length t v ∙ sym (vector-length s v)) ∙ same)

-- ---- truth values

abbrev TruthHolds : Scope → Scope → BooleanExpr → Type 0
TruthHolds s t e = is_sound_boolean s e ≡ true → is_sound_boolean t e ≡ true

truths-wider : {A : Type 0} (s t : Scope) (see : A → BooleanExpr) → ((x : A) → TruthHolds s t (see x)) → (xs : List A) → list_all (λ b. b) (map (is_sound_boolean s) (map see xs)) ≡ true → list_all (λ b. b) (map (is_sound_boolean t) (map see xs)) ≡ true
truths-wider s t see holds [] is = refl
truths-wider s t see holds (x ∷ xs) is =
    both (is_sound_boolean s (see x)) (list_all (λ b. b) (map (is_sound_boolean s) (map see xs))) (is_sound_boolean t (see x)) (list_all (λ b. b) (map (is_sound_boolean t) (map see xs))) (holds x) (truths-wider s t see holds xs) is

truth-layer : (A : Type 0) (s t : Scope) → IsWider s t → (a : A → BooleanExpr) → ((x : A) → TruthHolds s t (a x)) → (l : BooleanExpr-F A)
    → boolean_step s (map-BooleanExpr BooleanExpr Bool (is_sound_boolean s) (map-BooleanExpr A BooleanExpr a l)) ≡ true
    → boolean_step t (map-BooleanExpr BooleanExpr Bool (is_sound_boolean t) (map-BooleanExpr A BooleanExpr a l)) ≡ true
truth-layer A s t w a ha (BooleanExpr-F.Literal b) is = refl
truth-layer A s t w a ha (BooleanExpr-F.Control c) is = refl
truth-layer A s t w a ha (BooleanExpr-F.SameLevels l r) is = both (is_sound_level s l) (is_sound_level s r) (is_sound_level t l) (is_sound_level t r) (level-wider s t w l) (level-wider s t w r) is
truth-layer A s t w a ha (BooleanExpr-F.OtherLevels l r) is = both (is_sound_level s l) (is_sound_level s r) (is_sound_level t l) (is_sound_level t r) (level-wider s t w l) (level-wider s t w r) is
truth-layer A s t w a ha (BooleanExpr-F.Same l r) is = both (is_sound_boolean s (a l)) (is_sound_boolean s (a r)) (is_sound_boolean t (a l)) (is_sound_boolean t (a r)) (ha l) (ha r) is
truth-layer A s t w a ha (BooleanExpr-F.Other l r) is = both (is_sound_boolean s (a l)) (is_sound_boolean s (a r)) (is_sound_boolean t (a l)) (is_sound_boolean t (a r)) (ha l) (ha r) is
truth-layer A s t w a ha (BooleanExpr-F.Not x) is = ha x is
truth-layer A s t w a ha (BooleanExpr-F.Logical o xs) is = truths-wider s t a ha xs is

truth-roll-wider : (A : Type 0) (s t : Scope) → IsWider s t → (a : A → BooleanExpr) → ((x : A) → TruthHolds s t (a x)) → (l : BooleanExpr-F A) → TruthHolds s t (roll-BooleanExpr (map-BooleanExpr A BooleanExpr a l))
truth-roll-wider A s t w a ha l is =
    let m = map-BooleanExpr A BooleanExpr a l in
    truth-roll t m ∙ truth-layer A s t w a ha l (sym (truth-roll s m) ∙ is)

pub truth-wider : (s t : Scope) → IsWider s t → (e : BooleanExpr) → TruthHolds s t e
truth-wider s t w = ind-BooleanExpr (TruthHolds s t) (λ x y e. subst (λ l. TruthHolds s t (roll-BooleanExpr l)) e (truth-roll-wider _ s t w (λ q. q.0) (λ q. q.1) y))

-- ---- times and delays

pub time-wider : (s t : Scope) → IsWider s t → (e : TimeExpr) → is_sound_time s e ≡ true → is_sound_time t e ≡ true
time-wider s t w (times.Literal n) is = is
time-wider s t w (times.Generic name) is = w.generics One name is
time-wider s t w (times.Constant name) is = w.times name is

pub delay-wider : (s t : Scope) → IsWider s t → (d : DelayType) (e : DelayExpr) → is_sound_delay s d e ≡ true → is_sound_delay t d e ≡ true
delay-wider s t w d (delays.Literal n) is = is
delay-wider s t w d (delays.Generic name) is = w.generics d name is
delay-wider s t w d (delays.Constant name) is = w.delays d name is

-- ---- values and defaults

pub package-wider : (s t : Scope) → IsWider s t → (v : PackageValue) → is_sound_package s v ≡ true → is_sound_package t v ≡ true
package-wider s t w (packaged.Level e) is = level-wider s t w e is
package-wider s t w (packaged.Boolean e) is = truth-wider s t w e is
package-wider s t w (packaged.Time n) is = is
package-wider s t w (packaged.Delay d) is = is
package-wider s t w (packaged.Table rows) is = refl

pub constant-wider : (s t : Scope) → IsWider s t → (v : ConstantValue) → is_sound_constant s v ≡ true → is_sound_constant t v ≡ true
constant-wider s t w (constants.Level e) is = level-wider s t w e is
constant-wider s t w (constants.Boolean e) is = truth-wider s t w e is
constant-wider s t w (constants.Time e) is = time-wider s t w e is
constant-wider s t w (constants.Delay d e) is = delay-wider s t w d e is
constant-wider s t w (constants.Table rows) is = refl

pub default-wider : {A : Type 0} (p q : A → Bool) → ((x : A) → p x ≡ true → q x ≡ true) → (o : Option A) → option_map_or p o true ≡ true → option_map_or q o true ≡ true
default-wider p q wider None is = refl
default-wider p q wider (Some x) is = wider x is

pub kind-wider : (s t : Scope) → IsWider s t → (v : VariableKind) → is_sound_kind s v ≡ true → is_sound_kind t v ≡ true
kind-wider s t w (kind.Level d) is = default-wider (is_sound_level s) (is_sound_level t) (level-wider s t w) d is
kind-wider s t w (kind.X01 d) is = default-wider (is_sound_level s) (is_sound_level t) (level-wider s t w) d is
kind-wider s t w (kind.Vector n d) is =
    both (nat_le n 256) (option_map_or (is_sound_vector s n) d true) (nat_le n 256) (option_map_or (is_sound_vector t n) d true) (λ same. same) (default-wider (is_sound_vector s n) (is_sound_vector t n) (fitting-wider s t w n) d) is
kind-wider s t w kind.GlitchData is = refl
kind-wider s t w kind.TimingData is = refl
kind-wider s t w kind.PeriodData is = refl
