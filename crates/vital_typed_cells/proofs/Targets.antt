-- Targets are sound where what their names stand for is in a scope.
use Rattle.std.proofs.Common.{◌≡◌, ℕ, ◌<◌, true, List, [], ◌∷◌, Option, Some, None}
use Rattle.std.specs.Prelude.{IfSome}
use Rattle.std.specs.Option.{option_and_then, option_map}
use Rattle.vital_actuals.specs.declared.target.Target.{Target}
use Rattle.vital_actuals.specs.declared.target.Target.TheVariants as target
use Rattle.vital_actuals.specs.Kinds.{operand_in}
use Rattle.vital_actuals.specs.Targets.{element_at, target_behind, target_named, target_of_alias, target_of_kind, target_of_variable, whole_target, whole_vector}
use Rattle.vital_declarations.specs.Numbers.{length_of, number, offset_of}
use Rattle.vital_declarations.specs.Operands.{AliasTarget, OperandKind, Signal, Port, VariableOf, ConstantOf, Generic, AliasOf, NoOperand, VariableType, Level, X01, VectorOf, GlitchData, TimingData, PeriodData, literal_index}
use Rattle.vital_declarations.specs.Operands as alias
use Rattle.vital_nodes.specs.declared.expr.Reference.{Reference}
use Rattle.vital_nodes.specs.declared.expr.Suffix.{Suffix}
use Rattle.vital_nodes.specs.declared.identifier.Identifier.{Identifier}
use Rattle.vital_operands.specs.Named.{length_of_standing, offset_in_standing}
use Rattle.vital_operands.specs.Positions.{Position, Standing, Operand, Constant, Word, Nothing, changes, standing}
use Rattle.vital_typed_cells.specs.Positions.{HasIdentifier, HasStanding, HasTarget, HasVariable}
use Rattle.vital_typed_cells.specs.ExprScopes.{Scope}
use Rattle.vital_typed_cells.proofs.ExprNames.{offset-inside}
use Rattle.vital_typed_cells.specs.SoundActuals.{is_sound_target}

abbrev pub SoundTarget : Scope → Target → Type 0
SoundTarget s t = is_sound_target s t ≡ true

-- ---- whole vectors

variable-vector : (s : Scope) (name : List ℕ) (t : VariableType) → HasVariable s name t → IfSome (option_map (λ n. target.Vector name n) (length_of_standing (Operand (VariableOf t)))) (SoundTarget s)
variable-vector s name Level has = tt
variable-vector s name X01 has = tt
variable-vector s name (VectorOf r) has = has.whole
variable-vector s name GlitchData has = tt
variable-vector s name TimingData has = tt
variable-vector s name PeriodData has = tt

standing-vector : (s : Scope) (p : Position) (name : List ℕ) (st : Standing) → changes p ≡ true → HasStanding s p name st → IfSome (option_map (λ n. target.Vector name n) (length_of_standing st)) (SoundTarget s)
standing-vector s p name (Operand Signal) h has = tt
standing-vector s p name (Operand (Port m t)) h has = tt
standing-vector s p name (Operand (VariableOf t)) h has = variable-vector s name t (has h)
standing-vector s p name (Operand (ConstantOf t)) h has = tt
standing-vector s p name (Operand (Generic t)) h has = tt
standing-vector s p name (Operand (AliasOf t)) h has = tt
standing-vector s p name (Operand NoOperand) h has = tt
standing-vector s p name (Constant n o) h has = tt
standing-vector s p name (Word w) h has = tt
standing-vector s p name Nothing h has = tt

pub vector-sound : (s : Scope) (p : Position) (i : Identifier) → changes p ≡ true → HasIdentifier s p i → IfSome (whole_vector p i) (SoundTarget s)
vector-sound s p i h known = standing-vector s p i.name (standing p i) h known

-- ---- identifiers alone

alias-sound : (s : Scope) (p : Position) (t : AliasTarget) → changes p ≡ true → HasTarget s p t → IfSome (target_of_alias t) (SoundTarget s)
alias-sound s p (alias.Variable o) h has = has h
alias-sound s p (alias.Element o n) h has = has h
alias-sound s p (alias.Constant o) h has = tt
alias-sound s p (alias.PackageConstant n o) h has = tt
alias-sound s p alias.NoTarget h has = tt

variable-sound : (s : Scope) (p : Position) (i : Identifier) (t : VariableType) → changes p ≡ true → HasIdentifier s p i → HasVariable s i.name t → IfSome (target_of_variable p i t) (SoundTarget s)
variable-sound s p i Level h known has = has
variable-sound s p i X01 h known has = has
variable-sound s p i (VectorOf r) h known has = vector-sound s p i h known
variable-sound s p i GlitchData h known has = tt
variable-sound s p i TimingData h known has = tt
variable-sound s p i PeriodData h known has = tt

standing-sound : (s : Scope) (p : Position) (i : Identifier) (st : Standing) → changes p ≡ true → HasIdentifier s p i → HasStanding s p i.name st → IfSome (target_of_kind p i (operand_in st)) (SoundTarget s)
standing-sound s p i (Operand Signal) h known has = tt
standing-sound s p i (Operand (Port m t)) h known has = tt
standing-sound s p i (Operand (VariableOf t)) h known has = variable-sound s p i t h known (has h)
standing-sound s p i (Operand (ConstantOf t)) h known has = tt
standing-sound s p i (Operand (Generic t)) h known has = tt
standing-sound s p i (Operand (AliasOf t)) h known has = alias-sound s p t h has
standing-sound s p i (Operand NoOperand) h known has = tt
standing-sound s p i (Constant n o) h known has = tt
standing-sound s p i (Word w) h known has = tt
standing-sound s p i Nothing h known has = tt

pub whole-sound : (s : Scope) (p : Position) (i : Identifier) → changes p ≡ true → HasIdentifier s p i → IfSome (whole_target p i) (SoundTarget s)
whole-sound s p i h known = standing-sound s p i (standing p i) h known known

-- ---- elements

offset-sound : (s : Scope) (name : List ℕ) (length : ℕ) (o : Option ℕ) → ((n : ℕ) → n < length → s.has_element name n ≡ true) → IfSome o (λ m. m < length) → IfSome (option_map (λ n. target.Element name n) o) (SoundTarget s)
offset-sound s name length None has inside = tt
offset-sound s name length (Some n) has inside = has n inside

variable-element : (s : Scope) (name : List ℕ) (t : VariableType) (index : List ℕ) → HasVariable s name t → IfSome (option_map (λ n. target.Element name n) (offset_in_standing (Operand (VariableOf t)) index)) (SoundTarget s)
variable-element s name Level index has = tt
variable-element s name X01 index has = tt
variable-element s name (VectorOf r) index has = offset-sound s name (length_of r) (offset_of r (number index)) has.elements (offset-inside r.direction r.left r.right (number index))
variable-element s name GlitchData index has = tt
variable-element s name TimingData index has = tt
variable-element s name PeriodData index has = tt

standing-element : (s : Scope) (p : Position) (name : List ℕ) (st : Standing) (index : List ℕ) → changes p ≡ true → HasStanding s p name st → IfSome (option_map (λ n. target.Element name n) (offset_in_standing st index)) (SoundTarget s)
standing-element s p name (Operand Signal) index h has = tt
standing-element s p name (Operand (Port m t)) index h has = tt
standing-element s p name (Operand (VariableOf t)) index h has = variable-element s name t index (has h)
standing-element s p name (Operand (ConstantOf t)) index h has = tt
standing-element s p name (Operand (Generic t)) index h has = tt
standing-element s p name (Operand (AliasOf t)) index h has = tt
standing-element s p name (Operand NoOperand) index h has = tt
standing-element s p name (Constant n o) index h has = tt
standing-element s p name (Word w) index h has = tt
standing-element s p name Nothing index h has = tt

indexed-sound : (s : Scope) (p : Position) (i : Identifier) (o : Option (List ℕ)) → changes p ≡ true → HasIdentifier s p i → IfSome (option_and_then (element_at p i) o) (SoundTarget s)
indexed-sound s p i None h known = tt
indexed-sound s p i (Some index) h known = standing-element s p i.name (standing p i) index h known

behind-sound : (s : Scope) (p : Position) (i : Identifier) (ss : List Suffix) → changes p ≡ true → HasIdentifier s p i → IfSome (target_behind p i ss) (SoundTarget s)
behind-sound s p i [] h known = whole-sound s p i h known
behind-sound s p i (t ∷ ss) h known = indexed-sound s p i (literal_index (t ∷ ss)) h known

-- What a name is as the target of an assignment.
pub named-sound : (s : Scope) (p : Position) (r : Reference) → changes p ≡ true → HasIdentifier s p r.identifier → IfSome (target_named p r) (SoundTarget s)
named-sound s p r h known = behind-sound s p r.identifier r.suffixes h known
