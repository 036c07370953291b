-- What an identifier alone is, and an element, is sound where what it stands for is in a scope.
use Rattle.std.proofs.Common.{◌≡◌, ℕ, ◌-◌, ◌<◌, Bool, true, false, List, Option, Some, None, refl, arith}
use Rattle.std.specs.Prelude.{◌&&◌, cond, nat_le, IfSome}
use Rattle.std.specs.Option.{option_and_then, option_map}
use Rattle.std.proofs.lemmas.Bool.Decides.{nat_tests}
use Rattle.vital_base.specs.declared.place.Place.{Place}
use Rattle.vital_declarations.specs.Numbers.{length_between, length_of, number, offset_between, offset_of}
use Rattle.vital_declarations.specs.Operands.{AliasTarget, OperandKind, Signal, Port, VariableOf, ConstantOf, Generic, AliasOf, NoOperand, VariableType, Level, X01, VectorOf, GlitchData, TimingData, PeriodData, is_level, is_scalar, literal_index}
use Rattle.vital_declarations.specs.Operands as target
use Rattle.vital_declarations.specs.Types.{DeclaredType, Plain, Vector, Table, Other, type_of}
use Rattle.vital_names.specs.declared.predeclared.Predeclared.{Predeclared}
use Rattle.vital_names.specs.declared.predeclared.Predeclared.TheVariants as word
use Rattle.vital_names.specs.declared.predeclared.TypeName.TheVariants as type
use Rattle.vital_nodes.specs.declared.expr.Direction.{Direction}
use Rattle.vital_nodes.specs.declared.expr.Direction.TheVariants.{To, Downto}
use Rattle.vital_nodes.specs.declared.expr.Reference.{Reference}
use Rattle.vital_nodes.specs.declared.identifier.Identifier.{Identifier}
use Rattle.vital_operands.specs.declared.tree.BooleanExpr.TheVariants as truth
use Rattle.vital_operands.specs.declared.tree.ConstantName.TheVariants as constant
use Rattle.vital_operands.specs.declared.tree.Control.{Control}
use Rattle.vital_operands.specs.declared.tree.DelayExpr.TheVariants as delays
use Rattle.vital_operands.specs.declared.tree.LevelExpr.TheVariants as level
use Rattle.vital_operands.specs.declared.tree.TimeExpr.TheVariants as time
use Rattle.vital_operands.specs.declared.tree.VectorExpr.{VectorExpr}
use Rattle.vital_operands.specs.declared.tree.VectorExpr.TheVariants as vector
use Rattle.vital_operands.specs.Named.{boolean_named, boolean_of_kind, boolean_of_standing, boolean_of_word, cell_constant, control_named, control_of_type, delay_named, delay_of_kind, delay_of_standing, delay_of_word, element_named, even_delay, is_delay, is_read_mode, is_time, length_of_standing, level_named, level_of_kind, level_of_standing, level_of_target, offset_in_standing, same_type, time_named, time_of_kind, time_of_standing, time_of_word, vector_named, where_holds}
use Rattle.vital_operands.specs.Positions.{Position, Standing, Operand, Constant, Word, Nothing, changes, has_generics, standing}
use Rattle.vital_timing.specs.declared.delay.DelayType.{DelayType}
use Rattle.vital_timing.specs.declared.delay.DelayType.TheVariants.{One, Two, Six}
use Rattle.vital_expr.specs.Names.{element_of, plain_reading, whole_vector}
use Rattle.vital_typed_cells.specs.Positions.{HasIdentifier, HasOperand, HasStanding, HasTarget, HasVariable}
use Rattle.vital_typed_cells.specs.ExprScopes.{Scope}
use Rattle.vital_typed_cells.proofs.Outcomes.{if-or}
use Rattle.vital_typed_cells.proofs.Readings.{SoundDelay, SoundReading, SoundTime, SoundVector}
use Rattle.vital_typed_cells.proofs.ExprTests.{first-true, second-true}
use Rattle.vital_typed_cells.proofs.ExprTrees.{HoldsVector, SoundBoolean, SoundLevel, sound-constant, sound-control, sound-element, sound-signal, sound-truth, sound-variable, sound-whole}
use Rattle.vital_typed_cells.proofs.Vectors.{fitting}

if-holds : {A : Type 0} (P : A → Type 0) (b : Bool) (x : A) → (b ≡ true → P x) → IfSome (where_holds b x) P
if-holds P true x holds = holds refl
if-holds P false x holds = tt

if-there : {A : Type 0} (P : A → Type 0) (b : Bool) (o : Option A) → (b ≡ true → IfSome o P) → IfSome (cond b o None) P
if-there P true o holds = holds refl
if-there P false o holds = tt

-- ---- levels

target-level : (s : Scope) (p : Position) (t : AliasTarget) → HasTarget s p t → IfSome (level_of_target p t) (SoundLevel s)
target-level s p (target.Variable o) has = if-holds (SoundLevel s) (changes p) (level.Variable o.identifier.name) (λ h. sound-variable s o.identifier.name (has h))
target-level s p (target.Element o n) has = if-holds (SoundLevel s) (changes p) (level.Element o.identifier.name n) (λ h. sound-element s o.identifier.name n (has h))
target-level s p (target.Constant o) has = sound-constant s (cell_constant o.identifier) has
target-level s p (target.PackageConstant n o) has = sound-constant s (constant.Package n) has
target-level s p target.NoTarget has = tt

scalar-level : (s : Scope) (name : List ℕ) (t : VariableType) → is_scalar t ≡ true → HasVariable s name t → s.has_variable name ≡ true
scalar-level s name Level is has = has
scalar-level s name X01 is has = has
scalar-level s name (VectorOf r) is has = cc
scalar-level s name GlitchData is has = cc
scalar-level s name TimingData is has = cc
scalar-level s name PeriodData is has = cc

kind-level : (s : Scope) (p : Position) (name : List ℕ) (k : OperandKind) → HasOperand s p name k → IfSome (level_of_kind p name k) (SoundLevel s)
kind-level s p name Signal has = if-holds (SoundLevel s) (changes p) (level.Signal name) (λ h. sound-signal s name (has h))
kind-level s p name (Port m t) has =
    if-holds (SoundLevel s) (changes p && (is_read_mode m && is_level t)) (level.Signal name)
    (λ h. sound-signal s name
    (has (first-true (changes p) (is_read_mode m && is_level t) h)
    (first-true (is_read_mode m) (is_level t) (second-true (changes p) (is_read_mode m && is_level t) h))
    (second-true (is_read_mode m) (is_level t) (second-true (changes p) (is_read_mode m && is_level t) h))))
kind-level s p name (VariableOf t) has =
    if-holds (SoundLevel s) (changes p && is_scalar t) (level.Variable name)
    (λ h. sound-variable s name (scalar-level s name t (second-true (changes p) (is_scalar t) h) (has (first-true (changes p) (is_scalar t) h))))
kind-level s p name (ConstantOf t) has = if-holds (SoundLevel s) (is_level t) (level.Constant (constant.Cell name)) (λ h. sound-constant s (constant.Cell name) (has.levels h))
kind-level s p name (Generic t) has = tt
kind-level s p name (AliasOf t) has = target-level s p t has
kind-level s p name NoOperand has = tt

standing-level : (s : Scope) (p : Position) (name : List ℕ) (st : Standing) → HasStanding s p name st → IfSome (level_of_standing p name st) (SoundLevel s)
standing-level s p name (Operand k) has = kind-level s p name k has
standing-level s p name (Constant n o) has = if-holds (SoundLevel s) (is_level (type_of o.parts.subtype)) (level.Constant (constant.Package n)) (λ h. sound-constant s (constant.Package n) (has.levels h))
standing-level s p name (Word w) has = tt
standing-level s p name Nothing has = tt

-- ---- elements and vectors

pub offset-inside : (d : Direction) (left right n : ℕ) → IfSome (offset_between d left right n) (λ m. m < length_between d left right)
offset-inside To left right n =
    if-holds (λ m. m < length_between To left right) (nat_le left n && nat_le n right) (n - left)
    (λ h. let above : nat_le left n ≡ true = first-true (nat_le left n) (nat_le n right) h in let below : nat_le n right ≡ true = second-true (nat_le left n) (nat_le n right) h in grind (arith, nat_tests))
offset-inside Downto left right n =
    if-holds (λ m. m < length_between Downto left right) (nat_le n left && nat_le right n) (left - n)
    (λ h. let below : nat_le n left ≡ true = first-true (nat_le n left) (nat_le right n) h in let above : nat_le right n ≡ true = second-true (nat_le n left) (nat_le right n) h in grind (arith, nat_tests))

offset-element : (s : Scope) (name : List ℕ) (length : ℕ) (o : Option ℕ) → ((n : ℕ) → n < length → s.has_element name n ≡ true) → IfSome o (λ m. m < length) → IfSome (option_map (λ n. level.Element name n) o) (SoundLevel s)
offset-element s name length None has inside = tt
offset-element s name length (Some n) has inside = sound-element s name n (has n inside)

variable-element : (s : Scope) (name : List ℕ) (t : VariableType) (index : List ℕ) → HasVariable s name t → IfSome (option_map (λ n. level.Element name n) (offset_in_standing (Operand (VariableOf t)) index)) (SoundLevel s)
variable-element s name Level index has = tt
variable-element s name X01 index has = tt
variable-element s name (VectorOf r) index has = offset-element s name (length_of r) (offset_of r (number index)) has.elements (offset-inside r.direction r.left r.right (number index))
variable-element s name GlitchData index has = tt
variable-element s name TimingData index has = tt
variable-element s name PeriodData index has = tt

standing-element : (s : Scope) (p : Position) (name : List ℕ) (st : Standing) (index : List ℕ) → HasStanding s p name st → changes p ≡ true → IfSome (option_map (λ n. level.Element name n) (offset_in_standing st index)) (SoundLevel s)
standing-element s p name (Operand Signal) index has h = tt
standing-element s p name (Operand (Port m t)) index has h = tt
standing-element s p name (Operand (VariableOf t)) index has h = variable-element s name t index (has h)
standing-element s p name (Operand (ConstantOf t)) index has h = tt
standing-element s p name (Operand (Generic t)) index has h = tt
standing-element s p name (Operand (AliasOf t)) index has h = tt
standing-element s p name (Operand NoOperand) index has h = tt
standing-element s p name (Constant n o) index has h = tt
standing-element s p name (Word w) index has h = tt
standing-element s p name Nothing index has h = tt

element-index : (s : Scope) (p : Position) (i : Identifier) (index : List ℕ) → HasIdentifier s p i → IfSome (element_named p i index) (SoundLevel s)
element-index s p i index has = if-there (SoundLevel s) (changes p) (option_map (λ n. level.Element i.name n) (offset_in_standing (standing p i) index)) (standing-element s p i.name (standing p i) index has)

element-indexed : (s : Scope) (p : Position) (i : Identifier) (o : Option (List ℕ)) → HasIdentifier s p i → IfSome (option_and_then (element_named p i) o) (SoundLevel s)
element-indexed s p i None has = tt
element-indexed s p i (Some index) has = element-index s p i index has

-- The element of a vector variable that a name is.
pub element-sound : (s : Scope) (p : Position) (r : Reference) → HasIdentifier s p r.identifier → IfSome (element_of p r) (SoundLevel s)
element-sound s p r has = element-indexed s p r.identifier (literal_index r.suffixes) has

variable-whole : (s : Scope) (name : List ℕ) (t : VariableType) → HasVariable s name t → IfSome (option_map (λ n. vector.Variable name n) (length_of_standing (Operand (VariableOf t)))) (HoldsVector s)
variable-whole s name Level has = tt
variable-whole s name X01 has = tt
variable-whole s name (VectorOf r) has = sound-whole s name (length_of r) has.whole
variable-whole s name GlitchData has = tt
variable-whole s name TimingData has = tt
variable-whole s name PeriodData has = tt

standing-whole : (s : Scope) (p : Position) (name : List ℕ) (st : Standing) → HasStanding s p name st → changes p ≡ true → IfSome (option_map (λ n. vector.Variable name n) (length_of_standing st)) (HoldsVector s)
standing-whole s p name (Operand Signal) has h = tt
standing-whole s p name (Operand (Port m t)) has h = tt
standing-whole s p name (Operand (VariableOf t)) has h = variable-whole s name t (has h)
standing-whole s p name (Operand (ConstantOf t)) has h = tt
standing-whole s p name (Operand (Generic t)) has h = tt
standing-whole s p name (Operand (AliasOf t)) has h = tt
standing-whole s p name (Operand NoOperand) has h = tt
standing-whole s p name (Constant n o) has h = tt
standing-whole s p name (Word w) has h = tt
standing-whole s p name Nothing has h = tt

whole-named : (s : Scope) (p : Position) (i : Identifier) → HasIdentifier s p i → IfSome (vector_named p i) (HoldsVector s)
whole-named s p i has = if-there (HoldsVector s) (changes p) (option_map (λ n. vector.Variable i.name n) (length_of_standing (standing p i))) (standing-whole s p i.name (standing p i) has)

whole-fitting : (s : Scope) (asked : Option ℕ) (o : Option VectorExpr) → IfSome o (HoldsVector s) → IfSome (whole_vector asked o) (SoundVector s asked)
whole-fitting s asked None holds = tt
whole-fitting s asked (Some v) holds = fitting s asked v holds

-- ---- truth values

controlled : (s : Scope) (o : Option Control) → IfSome (option_map (λ c. truth.Control c) o) (SoundBoolean s)
controlled s None = tt
controlled s (Some c) = sound-control s c

type-boolean : (s : Scope) (p : Position) (name : List ℕ) (t : DeclaredType) → IfSome (control_of_type p name t) (SoundBoolean s)
type-boolean s p name (Plain type.Boolean) = if-there (SoundBoolean s) (has_generics p) (option_map (λ c. truth.Control c) (control_named name)) (λ h. controlled s (control_named name))
type-boolean s p name (Plain other) = tt
type-boolean s p name (Vector r) = tt
type-boolean s p name (Table t rows columns) = tt
type-boolean s p name Other = tt

kind-boolean : (s : Scope) (p : Position) (name : List ℕ) (k : OperandKind) → IfSome (boolean_of_kind p name k) (SoundBoolean s)
kind-boolean s p name (Generic t) = type-boolean s p name t
kind-boolean s p name other = tt

word-boolean : (s : Scope) (w : Predeclared) → IfSome (boolean_of_word w) (SoundBoolean s)
word-boolean s (word.Boolean b) = sound-truth s b
word-boolean s other = tt

standing-boolean : (s : Scope) (p : Position) (name : List ℕ) (st : Standing) → IfSome (boolean_of_standing p name st) (SoundBoolean s)
standing-boolean s p name (Operand k) = kind-boolean s p name k
standing-boolean s p name (Constant n o) = tt
standing-boolean s p name (Word w) = word-boolean s w
standing-boolean s p name Nothing = tt

-- ---- times and delays

kind-time : (s : Scope) (p : Position) (name : List ℕ) (k : OperandKind) → HasOperand s p name k → IfSome (time_of_kind p name k) (SoundTime s)
kind-time s p name Signal has = tt
kind-time s p name (Port m t) has = tt
kind-time s p name (VariableOf t) has = tt
kind-time s p name (ConstantOf t) has = if-holds (SoundTime s) (is_time t) (time.Constant (constant.Cell name)) (λ h. has.times h)
kind-time s p name (Generic t) has =
    if-holds (SoundTime s) (has_generics p && is_delay One t) (time.Generic name)
    (λ h. has (first-true (has_generics p) (is_delay One t) h) One (second-true (has_generics p) (is_delay One t) h))
kind-time s p name (AliasOf t) has = tt
kind-time s p name NoOperand has = tt

word-time : (s : Scope) (w : Predeclared) → IfSome (time_of_word w) (SoundTime s)
word-time s (word.ZeroDelay d) = if-holds (SoundTime s) (same_type One d) (time.Literal 0) (λ h. refl)
word-time s other = tt

standing-time : (s : Scope) (p : Position) (name : List ℕ) (st : Standing) → HasStanding s p name st → IfSome (time_of_standing p name st) (SoundTime s)
standing-time s p name (Operand k) has = kind-time s p name k has
standing-time s p name (Constant n o) has = if-holds (SoundTime s) (is_time (type_of o.parts.subtype)) (time.Constant (constant.Package n)) (λ h. has.times h)
standing-time s p name (Word w) has = word-time s w
standing-time s p name Nothing has = tt

kind-delay : (s : Scope) (p : Position) (d : DelayType) (name : List ℕ) (k : OperandKind) → HasOperand s p name k → IfSome (delay_of_kind p d name k) (SoundDelay s d)
kind-delay s p d name Signal has = tt
kind-delay s p d name (Port m t) has = tt
kind-delay s p d name (VariableOf t) has = tt
kind-delay s p d name (ConstantOf t) has = if-holds (SoundDelay s d) (is_delay d t) (delays.Constant (constant.Cell name)) (λ h. has.delays d h)
kind-delay s p d name (Generic t) has =
    if-holds (SoundDelay s d) (has_generics p && is_delay d t) (delays.Generic name)
    (λ h. has (first-true (has_generics p) (is_delay d t) h) d (second-true (has_generics p) (is_delay d t) h))
kind-delay s p d name (AliasOf t) has = tt
kind-delay s p d name NoOperand has = tt

pub zero-delay : (s : Scope) (d : DelayType) → SoundDelay s d (delays.Literal (even_delay d 0))
zero-delay s One = refl
zero-delay s Two = refl
zero-delay s Six = refl

word-delay : (s : Scope) (d : DelayType) (w : Predeclared) → IfSome (delay_of_word d w) (SoundDelay s d)
word-delay s d (word.ZeroDelay t) = if-holds (SoundDelay s d) (same_type d t) (delays.Literal (even_delay d 0)) (λ h. zero-delay s d)
word-delay s d other = tt

standing-delay : (s : Scope) (p : Position) (d : DelayType) (name : List ℕ) (st : Standing) → HasStanding s p name st → IfSome (delay_of_standing p d name st) (SoundDelay s d)
standing-delay s p d name (Operand k) has = kind-delay s p d name k has
standing-delay s p d name (Constant n o) has = if-holds (SoundDelay s d) (is_delay d (type_of o.parts.subtype)) (delays.Constant (constant.Package n)) (λ h. has.delays d h)
standing-delay s p d name (Word w) has = word-delay s d w
standing-delay s p d name Nothing has = tt

-- ---- identifiers alone

pub plain-sound : (s : Scope) (own : List Place) (p : Position) (i : Identifier) → HasIdentifier s p i → SoundReading s (plain_reading own p i)
plain-sound s own p i has = record {
  level = if-or (SoundLevel s) own (level_named p i) (standing-level s p i.name (standing p i) has);
  vector = λ asked. if-or (SoundVector s asked) own (whole_vector asked (vector_named p i)) (whole-fitting s asked (vector_named p i) (whole-named s p i has));
  boolean = if-or (SoundBoolean s) own (boolean_named p i) (standing-boolean s p i.name (standing p i));
  time = if-or (SoundTime s) own (time_named p i) (standing-time s p i.name (standing p i) has);
  delay = λ d. if-or (SoundDelay s d) own (delay_named p d i) (standing-delay s p d i.name (standing p i) has);
  literal = tt;
}
