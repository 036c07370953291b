-- Names that actuals give are in the scope.
use Rattle.std.proofs.Common.{◌≡◌, ℕ, Bool, true, false, List, Some, None, refl}
use Rattle.std.specs.Prelude.{◌||◌, cond, IfSome}
use Rattle.vital_actuals.specs.Kinds.{fits, is_delay_generic, is_driven_mode, is_internal_signal, is_of_delay, is_out_port, is_signal, is_violation, keeps_glitch_data, keeps_period_data, keeps_timing_data, name_for, operand_in, operand_named}
use Rattle.vital_calls.specs.declared.actual_form.ActualForm.{ActualForm}
use Rattle.vital_calls.specs.declared.actual_form.ActualForm.TheVariants as form
use Rattle.vital_declarations.specs.Operands.{OperandKind, Signal, Port, VariableOf, ConstantOf, Generic, AliasOf, NoOperand, Level, X01, VectorOf, GlitchData, TimingData, PeriodData, is_level}
use Rattle.vital_declarations.specs.Types.{DeclaredType, Plain, Vector, Table, Other}
use Rattle.vital_names.specs.declared.predeclared.TypeName.{TypeName}
use Rattle.vital_names.specs.declared.predeclared.TypeName.TheVariants as type
use Rattle.vital_nodes.specs.declared.identifier.Identifier.{Identifier}
use Rattle.vital_operands.specs.Named.{is_delay, is_read_mode, same_type}
use Rattle.vital_operands.specs.Positions.{Position, InStatement, InValue, InInterface, InPackage, Standing, Operand, Constant, Word, Nothing, changes, has_generics, standing}
use Rattle.vital_timing.specs.declared.delay.DelayType.{DelayType}
use Rattle.vital_timing.specs.declared.delay.DelayType.TheVariants.{One, Two, Six}
use Rattle.vital_typed_cells.specs.Positions.{HasIdentifier, HasOperand, HasStanding}
use Rattle.vital_typed_cells.specs.ExprScopes.{Scope}
use Rattle.vital_typed_cells.proofs.ExprTests.{first-true, second-true}
use Rattle.vital_typed_cells.specs.ActualPositions.{HasNamed, IsActualScopeOf}
use Rattle.vital_typed_cells.specs.ActualScopes.{ActualScope}
use Rattle.vital_typed_cells.specs.SoundActuals.{has_any_generic, is_sound_name}

-- ---- each form

internal-sound : (s : ActualScope) (name : List ℕ) (k : OperandKind) → HasNamed s name k → is_internal_signal k ≡ true → s.has_internal name ≡ true
internal-sound s name Signal has is = has
internal-sound s name (Port m t) has is = cc
internal-sound s name (VariableOf t) has is = cc
internal-sound s name (ConstantOf t) has is = cc
internal-sound s name (Generic t) has is = cc
internal-sound s name (AliasOf t) has is = cc
internal-sound s name NoOperand has is = cc

signal-sound : (s : Scope) (p : Position) (name : List ℕ) (k : OperandKind) → changes p ≡ true → HasOperand s p name k → is_signal k ≡ true → s.has_signal name ≡ true
signal-sound s p name Signal h has is = has h
signal-sound s p name (Port m t) h has is = has h (first-true (is_read_mode m) (is_level t) is) (second-true (is_read_mode m) (is_level t) is)
signal-sound s p name (VariableOf t) h has is = cc
signal-sound s p name (ConstantOf t) h has is = cc
signal-sound s p name (Generic t) h has is = cc
signal-sound s p name (AliasOf t) h has is = cc
signal-sound s p name NoOperand h has is = cc

output-sound : (s : ActualScope) (name : List ℕ) (k : OperandKind) → HasNamed s name k → is_out_port k ≡ true → s.has_output name ≡ true
output-sound s name Signal has is = cc
output-sound s name (Port m t) has is = has (first-true (is_driven_mode m) (is_level t) is) (second-true (is_driven_mode m) (is_level t) is)
output-sound s name (VariableOf t) has is = cc
output-sound s name (ConstantOf t) has is = cc
output-sound s name (Generic t) has is = cc
output-sound s name (AliasOf t) has is = cc
output-sound s name NoOperand has is = cc

glitch-sound : (s : ActualScope) (name : List ℕ) (k : OperandKind) → HasNamed s name k → keeps_glitch_data k ≡ true → s.has_glitch_data name ≡ true
glitch-sound s name Signal has is = cc
glitch-sound s name (Port m t) has is = cc
glitch-sound s name (VariableOf Level) has is = cc
glitch-sound s name (VariableOf X01) has is = cc
glitch-sound s name (VariableOf (VectorOf r)) has is = cc
glitch-sound s name (VariableOf GlitchData) has is = has
glitch-sound s name (VariableOf TimingData) has is = cc
glitch-sound s name (VariableOf PeriodData) has is = cc
glitch-sound s name (ConstantOf t) has is = cc
glitch-sound s name (Generic t) has is = cc
glitch-sound s name (AliasOf t) has is = cc
glitch-sound s name NoOperand has is = cc

timing-sound : (s : ActualScope) (name : List ℕ) (k : OperandKind) → HasNamed s name k → keeps_timing_data k ≡ true → s.has_timing_data name ≡ true
timing-sound s name Signal has is = cc
timing-sound s name (Port m t) has is = cc
timing-sound s name (VariableOf Level) has is = cc
timing-sound s name (VariableOf X01) has is = cc
timing-sound s name (VariableOf (VectorOf r)) has is = cc
timing-sound s name (VariableOf GlitchData) has is = cc
timing-sound s name (VariableOf TimingData) has is = has
timing-sound s name (VariableOf PeriodData) has is = cc
timing-sound s name (ConstantOf t) has is = cc
timing-sound s name (Generic t) has is = cc
timing-sound s name (AliasOf t) has is = cc
timing-sound s name NoOperand has is = cc

period-sound : (s : ActualScope) (name : List ℕ) (k : OperandKind) → HasNamed s name k → keeps_period_data k ≡ true → s.has_period_data name ≡ true
period-sound s name Signal has is = cc
period-sound s name (Port m t) has is = cc
period-sound s name (VariableOf Level) has is = cc
period-sound s name (VariableOf X01) has is = cc
period-sound s name (VariableOf (VectorOf r)) has is = cc
period-sound s name (VariableOf GlitchData) has is = cc
period-sound s name (VariableOf TimingData) has is = cc
period-sound s name (VariableOf PeriodData) has is = has
period-sound s name (ConstantOf t) has is = cc
period-sound s name (Generic t) has is = cc
period-sound s name (AliasOf t) has is = cc
period-sound s name NoOperand has is = cc

violation-sound : (s : ActualScope) (name : List ℕ) (k : OperandKind) → HasNamed s name k → is_violation k ≡ true → s.has_violation name ≡ true
violation-sound s name Signal has is = cc
violation-sound s name (Port m t) has is = cc
violation-sound s name (VariableOf Level) has is = cc
violation-sound s name (VariableOf X01) has is = has
violation-sound s name (VariableOf (VectorOf r)) has is = cc
violation-sound s name (VariableOf GlitchData) has is = cc
violation-sound s name (VariableOf TimingData) has is = cc
violation-sound s name (VariableOf PeriodData) has is = cc
violation-sound s name (ConstantOf t) has is = cc
violation-sound s name (Generic t) has is = cc
violation-sound s name (AliasOf t) has is = cc
violation-sound s name NoOperand has is = cc

-- ---- generics of wire delays

either-true : (a b : Bool) → b ≡ true → (a || b) ≡ true
either-true true b is = refl
either-true false b is = is

one-true : (a b : Bool) → a ≡ true → (a || b) ≡ true
one-true true b is = refl
one-true false b is = cc

any-generic : (s : Scope) (name : List ℕ) (d : DelayType) → s.has_generic d name ≡ true → has_any_generic s name ≡ true
any-generic s name One has = one-true (s.has_generic One name) (s.has_generic Two name || s.has_generic Six name) has
any-generic s name Two has = either-true (s.has_generic One name) (s.has_generic Two name || s.has_generic Six name) (one-true (s.has_generic Two name) (s.has_generic Six name) has)
any-generic s name Six has = either-true (s.has_generic One name) (s.has_generic Two name || s.has_generic Six name) (either-true (s.has_generic Two name) (s.has_generic Six name) has)

same-itself : (d : DelayType) → same_type d d ≡ true
same-itself One = refl
same-itself Two = refl
same-itself Six = refl

plain-generic : (s : Scope) (name : List ℕ) (t : TypeName) → ((d : DelayType) → is_delay d (Plain t) ≡ true → s.has_generic d name ≡ true) → is_of_delay (Plain t) ≡ true → has_any_generic s name ≡ true
plain-generic s name (type.Delay d) has is = any-generic s name d (has d (same-itself d))
plain-generic s name other has is = cc

type-generic : (s : Scope) (name : List ℕ) (t : DeclaredType) → ((d : DelayType) → is_delay d t ≡ true → s.has_generic d name ≡ true) → is_of_delay t ≡ true → has_any_generic s name ≡ true
type-generic s name (Plain t) has is = plain-generic s name t has is
type-generic s name (Vector r) has is = cc
type-generic s name (Table t rows columns) has is = cc
type-generic s name Other has is = cc

generics-there : (p : Position) → changes p ≡ true → has_generics p ≡ true
generics-there (InStatement cell unit process) h = refl
generics-there (InValue cell site) h = cc
generics-there (InInterface cell site) h = cc
generics-there (InPackage files number) h = cc

wire-sound : (s : Scope) (p : Position) (name : List ℕ) (k : OperandKind) → changes p ≡ true → HasOperand s p name k → is_delay_generic k ≡ true → has_any_generic s name ≡ true
wire-sound s p name Signal h has is = cc
wire-sound s p name (Port m t) h has is = cc
wire-sound s p name (VariableOf t) h has is = cc
wire-sound s p name (ConstantOf t) h has is = cc
wire-sound s p name (Generic t) h has is = type-generic s name t (has (generics-there p h)) is
wire-sound s p name (AliasOf t) h has is = cc
wire-sound s p name NoOperand h has is = cc

-- ---- all forms

kind-sound : (s : ActualScope) (p : Position) (f : ActualForm) (name : List ℕ) (k : OperandKind) → changes p ≡ true → HasOperand s.names p name k → HasNamed s name k → fits f k ≡ true → is_sound_name s f name ≡ true
kind-sound s p form.InternalSignal name k h operand named is = internal-sound s name k named is
kind-sound s p form.Signal name k h operand named is = signal-sound s.names p name k h operand is
kind-sound s p form.OutPort name k h operand named is = output-sound s name k named is
kind-sound s p form.GlitchData name k h operand named is = glitch-sound s name k named is
kind-sound s p form.TimingData name k h operand named is = timing-sound s name k named is
kind-sound s p form.PeriodData name k h operand named is = period-sound s name k named is
kind-sound s p form.Violation name k h operand named is = violation-sound s name k named is
kind-sound s p form.WireDelay name k h operand named is = wire-sound s.names p name k h operand is
kind-sound s p other name k h operand named is = cc

-- Nothing declared has nothing to ask.
standing-operand : (s : ActualScope) (p : Position) (name : List ℕ) (st : Standing) → HasStanding s.names p name st → HasOperand s.names p name (operand_in st)
standing-operand s p name (Operand k) has = has
standing-operand s p name (Constant n o) has = tt
standing-operand s p name (Word w) has = tt
standing-operand s p name Nothing has = tt

if-name : (s : ActualScope) (f : ActualForm) (b : Bool) (name : List ℕ) → (b ≡ true → is_sound_name s f name ≡ true) → IfSome (cond b (Some name) None) (λ n. is_sound_name s f n ≡ true)
if-name s f true name holds = holds refl
if-name s f false name holds = tt

pub name-sound : (s : ActualScope) (p : Position) (f : ActualForm) (i : Identifier) → IsActualScopeOf s p → HasIdentifier s.names p i → IfSome (name_for p f i) (λ n. is_sound_name s f n ≡ true)
name-sound s p f i scope known =
    if-name s f (fits f (operand_named p i)) i.name
    (λ h. kind-sound s p f i.name (operand_named p i) scope.in_statement (standing-operand s p i.name (standing p i) known) (scope.named i) h)
