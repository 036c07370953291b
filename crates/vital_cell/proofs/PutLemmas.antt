-- Levels that are put to variables, by numbers and by names.
use Rattle.std.proofs.Common.{◌≡◌, ℕ, ◌<◌, ◌==◌, ◌++◌, true, false, List, [], ◌∷◌, length, take, drop, set, suc, cond, get_or, refl, ◌∙◌, ap, arith}
use Rattle.std.specs.Prelude.{Bool, nat_lt, replicate, unwrap_or, Some}
use Rattle.std.specs.List.{IsDistinct}
use Rattle.std.specs.Str.{bytes_eq}
use Rattle.std.proofs.lemmas.Bool.{eqb-true, false≢true, lt-ltb, ltb-true}
use Rattle.std.proofs.lemmas.List.{length-set, set_split}
use Rattle.std.proofs.lemmas.List.FromFn.{length-map-range_with_len}
use Rattle.vital_actuals.specs.declared.target.Target.{Target}
use Rattle.vital_actuals.specs.declared.target.Target.TheVariants as target
use Rattle.vital_cell.specs.Statements.{put as put_by_name}
use Rattle.vital_cell.specs.Variables as variables
use Rattle.vital_logic.specs.declared.level.Level.{Level}
use Rattle.vital_logic.specs.declared.level.Level.TheVariants.{U}
use Rattle.vital_machine.specs.declared.slot.Slot.{Slot}
use Rattle.vital_machine.specs.declared.slot.Slot.TheVariants as slot
use Rattle.vital_machine.specs.declared.steps.Place.{Place}
use Rattle.vital_machine.specs.declared.steps.Place.TheVariants as place
use Rattle.vital_machine.specs.Fits.{kind_of, kinds_of}
use Rattle.vital_machine.specs.Machine.{changed, put}
use Rattle.vital_machine.specs.Slots.{with_element, with_level, with_levels}
use Rattle.vital_machine.specs.TruthTables.{fitted}
use Rattle.vital_machine.proofs.FitLemmas.{fitted-whole}
use Rattle.vital_objects.specs.declared.variable.VariableKind.{VariableKind}
use Rattle.vital_objects.specs.declared.variable.VariableKind.TheVariants as kind
use Rattle.vital_primitives.specs.Operators.{first}
use Rattle.vital_typed_cells.specs.Named.{has_element, is_scalar, is_vector}
use Rattle.vital_typed_cells.specs.SoundActuals.{is_sound_target}
use Rattle.vital_cell.specs.Kinds.{AreOfKinds, is_of_kind}
use Rattle.vital_cell.specs.Named.{held_in, named}
use Rattle.vital_cell.specs.Scopes.{Scope, names_of_variables, variable_of}
use Rattle.vital_cell.specs.Sound.{tests}
use Rattle.vital_cell.specs.Steps.{place_of}
use Rattle.vital_cell.proofs.ChangeLemmas.{kinds-changed, named-changed}
use Rattle.vital_cell.proofs.KindLemmas.{found-variable}
use Rattle.vital_typed_cells.specs.Bits.{number_of}

-- ---- one level

pub level-put : (k : VariableKind) (held : Slot) (l : Level) → is_scalar k ≡ true → is_of_kind k held ≡ true → held_in (with_level l held) ≡ variables.given (l ∷ []) (held_in held)
level-put (kind.Level d) (slot.Level old) l passes suits = refl
level-put (kind.Level d) held l passes suits = absurd (false≢true suits)
level-put (kind.X01 d) (slot.X01 old) l passes suits = refl
level-put (kind.X01 d) held l passes suits = absurd (false≢true suits)
level-put (kind.Vector n d) held l passes suits = absurd (false≢true passes)
level-put kind.GlitchData held l passes suits = absurd (false≢true passes)
level-put kind.TimingData held l passes suits = absurd (false≢true passes)
level-put kind.PeriodData held l passes suits = absurd (false≢true passes)

pub level-kept : (l : Level) (held : Slot) → kind_of (with_level l held) ≡ kind_of held
level-kept l (slot.Level old) = refl
level-kept l (slot.X01 old) = refl
level-kept l (slot.Vector ls) = refl
level-kept l (slot.Glitch kept) = refl
level-kept l (slot.SetupHold check) = refl
level-kept l (slot.RecRem check) = refl
level-kept l (slot.PeriodPulse check) = refl

-- ---- an element

stored : (ls : List Level) (i n : ℕ) (l : Level) → nat_lt i n ≡ true → (n == length ls) ≡ true → cond (nat_lt i (length ls)) (set ls i l) ls ≡ take i ls ++ l ∷ drop (suc i) ls
stored ls i n l passes suits =
    let below : i < length ls = omega (arith, ltb-true i n passes, eqb-true n (length ls) suits) in
    ap (λ b. cond b (set ls i l) ls) (lt-ltb i (length ls) below) ∙ set_split ls i l below

element-put : (k : VariableKind) (held : Slot) (i : ℕ) (l : Level) → has_element i k ≡ true → is_of_kind k held ≡ true → held_in (with_element i l held) ≡ variables.given_element i l (held_in held)
element-put (kind.Vector n d) (slot.Vector ls) i l passes suits = ap variables.Levels (stored ls i n l passes suits)
element-put (kind.Vector n d) held i l passes suits = absurd (false≢true suits)
element-put (kind.Level d) held i l passes suits = absurd (false≢true passes)
element-put (kind.X01 d) held i l passes suits = absurd (false≢true passes)
element-put kind.GlitchData held i l passes suits = absurd (false≢true passes)
element-put kind.TimingData held i l passes suits = absurd (false≢true passes)
element-put kind.PeriodData held i l passes suits = absurd (false≢true passes)

as-long : (b : Bool) (i : ℕ) (l : Level) (ls : List Level) → length (cond b (set ls i l) ls) ≡ length ls
as-long true i l ls = length-set ls i l
as-long false i l ls = refl

vector-alike : (ls ms : List Level) → length ls ≡ length ms → kind_of (slot.Vector ls) ≡ kind_of (slot.Vector ms)
vector-alike ls ms e = ap (λ n. slot.Vector (replicate n U)) e

element-kept : (i : ℕ) (l : Level) (held : Slot) → kind_of (with_element i l held) ≡ kind_of held
element-kept i l (slot.Level old) = refl
element-kept i l (slot.X01 old) = refl
element-kept i l (slot.Vector ls) = vector-alike (cond (nat_lt i (length ls)) (set ls i l) ls) ls (as-long (nat_lt i (length ls)) i l ls)
element-kept i l (slot.Glitch kept) = refl
element-kept i l (slot.SetupHold check) = refl
element-kept i l (slot.RecRem check) = refl
element-kept i l (slot.PeriodPulse check) = refl

-- ---- a vector

pub vector-put : (k : VariableKind) (held : Slot) (n : ℕ) (ls : List Level) → length ls ≡ n → is_vector n k ≡ true → is_of_kind k held ≡ true → held_in (with_levels ls held) ≡ variables.given ls (held_in held)
vector-put (kind.Vector m d) (slot.Vector old) n ls long passes suits =
    ap variables.Levels (fitted-whole (length old) ls (long ∙ eqb-true n m passes ∙ eqb-true m (length old) suits))
vector-put (kind.Vector m d) held n ls long passes suits = absurd (false≢true suits)
vector-put (kind.Level d) held n ls long passes suits = absurd (false≢true passes)
vector-put (kind.X01 d) held n ls long passes suits = absurd (false≢true passes)
vector-put kind.GlitchData held n ls long passes suits = absurd (false≢true passes)
vector-put kind.TimingData held n ls long passes suits = absurd (false≢true passes)
vector-put kind.PeriodData held n ls long passes suits = absurd (false≢true passes)

pub levels-kept : (ls : List Level) (held : Slot) → kind_of (with_levels ls held) ≡ kind_of held
levels-kept ls (slot.Level old) = refl
levels-kept ls (slot.X01 old) = refl
levels-kept ls (slot.Vector old) = vector-alike (fitted (length old) ls) old (length-map-range_with_len (λ i. get_or ls i U) 0 (length old))
levels-kept ls (slot.Glitch kept) = refl
levels-kept ls (slot.SetupHold check) = refl
levels-kept ls (slot.RecRem check) = refl
levels-kept ls (slot.PeriodPulse check) = refl

-- ---- targets

pub numbered-by : (k : Scope) (name : List ℕ) (i : ℕ) (f : Slot → Slot) (slots : List Slot) → number_of (names_of_variables k) name ≡ Some i → changed (variable_of k name) f slots ≡ changed i f slots
numbered-by k name i f slots is = ap (λ o. changed (unwrap_or o 0) f slots) is

-- So many levels as a target has.
abbrev pub IsAsLong : Target → List Level → Type 0
IsAsLong (target.Vector name n) ls = length ls ≡ n
IsAsLong other ls = Unit {0}

pub target-put : (k : Scope) (t : Target) (ls : List Level) (slots : List Slot) → IsDistinct bytes_eq (names_of_variables k) → AreOfKinds k.variables slots → is_sound_target (tests k) t ≡ true → IsAsLong t ls → named (names_of_variables k) (put (place_of k t) ls slots) ≡ put_by_name t ls (named (names_of_variables k) slots)
target-put k (target.Level name) ls slots distinct are is long =
    let f = found-variable is_scalar k.variables slots name distinct are is in
    ap (named (names_of_variables k)) (numbered-by k name f.number (with_level (first ls)) slots f.numbered)
    ∙ named-changed (names_of_variables k) slots name f.number f.held (with_level (first ls)) (variables.given (first ls ∷ [])) distinct f.numbered f.there (level-put f.kind f.held (first ls) f.passes f.suits)
target-put k (target.Element name n) ls slots distinct are is long =
    let f = found-variable (has_element n) k.variables slots name distinct are is in
    ap (named (names_of_variables k)) (numbered-by k name f.number (with_element n (first ls)) slots f.numbered)
    ∙ named-changed (names_of_variables k) slots name f.number f.held (with_element n (first ls)) (variables.given_element n (first ls)) distinct f.numbered f.there (element-put f.kind f.held n (first ls) f.passes f.suits)
target-put k (target.Vector name n) ls slots distinct are is long =
    let f = found-variable (is_vector n) k.variables slots name distinct are is in
    ap (named (names_of_variables k)) (numbered-by k name f.number (with_levels ls) slots f.numbered)
    ∙ named-changed (names_of_variables k) slots name f.number f.held (with_levels ls) (variables.given ls) distinct f.numbered f.there (vector-put f.kind f.held n ls long f.passes f.suits)

pub put-kept : (p : Place) (ls : List Level) (slots : List Slot) → kinds_of (put p ls slots) ≡ kinds_of slots
put-kept (place.Level i) ls slots = kinds-changed (with_level (first ls)) (level-kept (first ls)) i slots
put-kept (place.Element i n) ls slots = kinds-changed (with_element n (first ls)) (element-kept n (first ls)) i slots
put-kept (place.Vector i) ls slots = kinds-changed (with_levels ls) (levels-kept ls) i slots
