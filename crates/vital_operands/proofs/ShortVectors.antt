-- Vectors are short, so that words hold their lengths and the distances in them.
use Rattle.std.proofs.Common.{◌≡◌, ℕ, ◌+◌, ◌-◌, ◌^◌, ◌<◌, ◌≤◌, true, false, refl, List, arith}
use Rattle.std.specs.Prelude.{Bool, ◌&&◌, cond, Option, Some, None, nat_le, nat_lt}
use Rattle.std.specs.Option.{IfSome, option_and_then, option_map_or}
use Rattle.std.proofs.lemmas.Bool.{cond-true}
use Rattle.std.proofs.lemmas.Bool.Decides.{nat_tests}
use Rattle.vital_declarations.specs.Numbers.{Range, in_word, length_between, length_of, number, offset_between, offset_of}
use Rattle.vital_declarations.specs.Operands.{AliasTarget, OperandKind, Signal, Port, VariableOf, ConstantOf, Generic, AliasOf, NoOperand, VariableType, Level, X01, VectorOf, GlitchData, TimingData, PeriodData, is_of_levels, object_kind, operand_kind, plain_variable, variable_type, variable_type_in}
use Rattle.vital_declarations.specs.Types.{DeclaredType, Plain, Vector, Table, Other, type_of}
use Rattle.vital_names.specs.declared.predeclared.TypeName.{TypeName}
use Rattle.vital_names.specs.declared.predeclared.TypeName.TheVariants as type
use Rattle.vital_names.specs.Declarations.{Declared}
use Rattle.vital_names.specs.Declarations as declared
use Rattle.vital_names.specs.Meanings.{Meaning}
use Rattle.vital_names.specs.Meanings as meanings
use Rattle.vital_names.specs.Sites.{Cell, Site}
use Rattle.vital_nodes.specs.declared.decl.Object.{Object}
use Rattle.vital_nodes.specs.declared.decl.ObjectClass.{ObjectClass}
use Rattle.vital_nodes.specs.declared.decl.ObjectClass.TheVariants as class
use Rattle.vital_nodes.specs.declared.expr.Direction.{Direction}
use Rattle.vital_nodes.specs.declared.expr.Direction.TheVariants.{To, Downto}
use Rattle.vital_nodes.specs.declared.identifier.Identifier.{Identifier}
use Rattle.vital_operands.specs.Named.{length_of_standing, offset_in_standing}
use Rattle.vital_operands.specs.Positions.{Position, InStatement, InValue, InInterface, InPackage, Standing, Operand, Constant, Word, Nothing, kind_at, meaning_at, standing, standing_of}

-- ---- what names stand for

abbrev IsShort : VariableType → Type 0
IsShort Level = Unit {0}
IsShort X01 = Unit {0}
IsShort (VectorOf r) = length_of r ≤ 256
IsShort GlitchData = Unit {0}
IsShort TimingData = Unit {0}
IsShort PeriodData = Unit {0}

abbrev IsShortIfSome : Option VariableType → Type 0
IsShortIfSome None = Unit {0}
IsShortIfSome (Some t) = IsShort t

abbrev IsShortKind : OperandKind → Type 0
IsShortKind Signal = Unit {0}
IsShortKind (Port m t) = Unit {0}
IsShortKind (VariableOf t) = IsShort t
IsShortKind (ConstantOf t) = Unit {0}
IsShortKind (Generic t) = Unit {0}
IsShortKind (AliasOf t) = Unit {0}
IsShortKind NoOperand = Unit {0}

abbrev IsShortStanding : Standing → Type 0
IsShortStanding (Operand k) = IsShortKind k
IsShortStanding (Constant n o) = Unit {0}
IsShortStanding (Word w) = Unit {0}
IsShortStanding Nothing = Unit {0}

short-plain : (t : TypeName) → IsShortIfSome (plain_variable t)
short-plain type.StdUlogic = tt
short-plain type.StdLogic = tt
short-plain type.StdLogicVector = tt
short-plain type.X01 = tt
short-plain type.X01Z = tt
short-plain type.Ux01 = tt
short-plain type.Ux01Z = tt
short-plain type.Boolean = tt
short-plain type.Text = tt
short-plain type.Time = tt
short-plain (type.Delay d) = tt
short-plain type.TableSymbol = tt
short-plain type.TruthTable = tt
short-plain type.StateTable = tt
short-plain type.GlitchData = tt
short-plain type.TimingData = tt
short-plain type.PeriodData = tt

short-vector : (b : Bool) (r : Range) → (b ≡ true → length_of r ≤ 256) → IsShortIfSome (cond b (Some (VectorOf r)) None)
short-vector true r h = h refl
short-vector false r h = tt

short-type : (t : DeclaredType) → IsShortIfSome (variable_type_in t)
short-type (Plain t) = short-plain t
short-type (Vector r) = short-vector (nat_le (length_of r) 256) r (λ h. grind (arith, nat_tests))
short-type (Table t rows columns) = tt
short-type Other = tt

short-variable : (t : Option VariableType) → IsShortIfSome t → IsShortKind (option_map_or (λ u. VariableOf u) t NoOperand)
short-variable None h = tt
short-variable (Some t) h = h

short-signal : (b : Bool) → IsShortKind (cond b Signal NoOperand)
short-signal true = tt
short-signal false = tt

short-object : (c : ObjectClass) (o : Object) → IsShortKind (object_kind c o)
short-object class.Constant o = tt
short-object class.Signal o = short-signal (is_of_levels o)
short-object class.Variable o = short-variable (variable_type o.parts.subtype) (short-type (type_of o.parts.subtype))

short-declared : (cell : Cell) (site : Site) (d : Declared) → IsShortKind (operand_kind cell site d)
short-declared cell site (declared.Generic i) = tt
short-declared cell site (declared.Port i) = tt
short-declared cell site (declared.Object o) = short-object o.«class» o
short-declared cell site (declared.Alias a) = tt

short-kind : (p : Position) (i : Identifier) (d : Declared) → IsShortKind (kind_at p i d)
short-kind (InStatement cell unit process) i d = short-declared cell (record { unit = unit; process = process; viewpoint = i.place }) d
short-kind (InValue cell site) i d = short-declared cell site d
short-kind (InInterface cell site) i d = short-declared cell site d
short-kind (InPackage files number) i d = tt

short-meant : (p : Position) (i : Identifier) (m : Option Meaning) → IsShortStanding (option_map_or (standing_of p i) m Nothing)
short-meant p i None = tt
short-meant p i (Some (meanings.Declared d)) = short-kind p i d
short-meant p i (Some (meanings.Constant n o)) = tt
short-meant p i (Some (meanings.Predeclared w)) = tt

short-standing : (p : Position) (i : Identifier) → IsShortStanding (standing p i)
short-standing p i = short-meant p i (meaning_at p i)

-- ---- words hold what is short

in-word-small : (n : ℕ) → n < 2 ^ 64 → in_word n ≡ Some n
in-word-small n small =
    let fits : nat_lt n (2 ^ 64) ≡ true = grind (arith, nat_tests) in
    cond-true (nat_lt n (2 ^ 64)) (Some n) None fits

if-in-word : (b : Bool) (n : ℕ) → (b ≡ true → n < 2 ^ 64) → option_and_then in_word (cond b (Some n) None) ≡ cond b (Some n) None
if-in-word true n small = in-word-small n (small refl)
if-in-word false n small = refl

left-of : (a b : Bool) → (a && b) ≡ true → a ≡ true
left-of true b h = refl
left-of false b h = h

right-of : (a b : Bool) → (a && b) ≡ true → b ≡ true
right-of true b h = h
right-of false b h = absurd (cc)

distance-in-word : (d : Direction) (left right n : ℕ) → length_between d left right ≤ 256 → option_and_then in_word (offset_between d left right n) ≡ offset_between d left right n
distance-in-word To left right n short =
    if-in-word (nat_le left n && nat_le n right) (n - left)
    (λ h. let above : nat_le left n ≡ true = left-of (nat_le left n) (nat_le n right) h in let below : nat_le n right ≡ true = right-of (nat_le left n) (nat_le n right) h in grind (arith, nat_tests))
distance-in-word Downto left right n short =
    if-in-word (nat_le n left && nat_le right n) (left - n)
    (λ h. let below : nat_le n left ≡ true = left-of (nat_le n left) (nat_le right n) h in let above : nat_le right n ≡ true = right-of (nat_le n left) (nat_le right n) h in grind (arith, nat_tests))

offset-of-type : (t : VariableType) (index : List ℕ) → IsShort t → option_and_then in_word (offset_in_standing (Operand (VariableOf t)) index) ≡ offset_in_standing (Operand (VariableOf t)) index
offset-of-type Level index h = refl
offset-of-type X01 index h = refl
offset-of-type (VectorOf r) index h = distance-in-word r.direction r.left r.right (number index) h
offset-of-type GlitchData index h = refl
offset-of-type TimingData index h = refl
offset-of-type PeriodData index h = refl

offset-of-standing : (s : Standing) (index : List ℕ) → IsShortStanding s → option_and_then in_word (offset_in_standing s index) ≡ offset_in_standing s index
offset-of-standing (Operand Signal) index h = refl
offset-of-standing (Operand (Port m t)) index h = refl
offset-of-standing (Operand (VariableOf t)) index h = offset-of-type t index h
offset-of-standing (Operand (ConstantOf t)) index h = refl
offset-of-standing (Operand (Generic t)) index h = refl
offset-of-standing (Operand (AliasOf t)) index h = refl
offset-of-standing (Operand NoOperand) index h = refl
offset-of-standing (Constant n o) index h = refl
offset-of-standing (Word w) index h = refl
offset-of-standing Nothing index h = refl

-- a word holds the distance of each index in the range of a variable
pub offset-in-word : (p : Position) (i : Identifier) (index : List ℕ) → option_and_then in_word (offset_in_standing (standing p i) index) ≡ offset_in_standing (standing p i) index
offset-in-word p i index = offset-of-standing (standing p i) index (short-standing p i)

length-of-type : (t : VariableType) → IsShort t → option_and_then in_word (length_of_standing (Operand (VariableOf t))) ≡ length_of_standing (Operand (VariableOf t))
length-of-type Level h = refl
length-of-type X01 h = refl
length-of-type (VectorOf r) h = in-word-small (length_of r) (omega arith)
length-of-type GlitchData h = refl
length-of-type TimingData h = refl
length-of-type PeriodData h = refl

length-of-standing : (s : Standing) → IsShortStanding s → option_and_then in_word (length_of_standing s) ≡ length_of_standing s
length-of-standing (Operand Signal) h = refl
length-of-standing (Operand (Port m t)) h = refl
length-of-standing (Operand (VariableOf t)) h = length-of-type t h
length-of-standing (Operand (ConstantOf t)) h = refl
length-of-standing (Operand (Generic t)) h = refl
length-of-standing (Operand (AliasOf t)) h = refl
length-of-standing (Operand NoOperand) h = refl
length-of-standing (Constant n o) h = refl
length-of-standing (Word w) h = refl
length-of-standing Nothing h = refl

-- and the length of each variable
pub length-in-word : (p : Position) (i : Identifier) → option_and_then in_word (length_of_standing (standing p i)) ≡ length_of_standing (standing p i)
length-in-word p i = length-of-standing (standing p i) (short-standing p i)
