-- Vectors are short, so that words hold the distances in them.
use Rattle.std.proofs.Common.{◌≡◌, ℕ, ◌-◌, ◌^◌, ◌<◌, ◌≤◌, true, false, refl, subst, arith}
use Rattle.std.specs.Prelude.{Bool, ◌&&◌, cond, Some, None, nat_le, nat_lt}
use Rattle.std.specs.Option.{option_and_then}
use Rattle.std.proofs.lemmas.Bool.{cond-true}
use Rattle.std.proofs.lemmas.Bool.Decides.{nat_tests}
use Rattle.vital_names.specs.declared.predeclared.TypeName.{TypeName}
use Rattle.vital_names.specs.declared.predeclared.TypeName.TheVariants as type
use Rattle.vital_nodes.specs.declared.expr.Direction.{Direction}
use Rattle.vital_nodes.specs.declared.expr.Direction.TheVariants.{To, Downto}
use Rattle.vital_declarations.specs.Numbers.{Range, in_word, length_between, length_of, offset_between, offset_of}
use Rattle.vital_declarations.specs.Operands.{VectorOf, plain_variable, variable_type_in}
use Rattle.vital_declarations.specs.Types.{DeclaredType, Plain, Vector, Table, Other}

in-word-small : (n : ℕ) → n < 2 ^ 64 → in_word n ≡ Some n
in-word-small n small =
    let fits : nat_lt n (2 ^ 64) ≡ true = grind (arith, nat_tests) in
    cond-true (nat_lt n (2 ^ 64)) (Some n) None fits

if-in-word : (b : Bool) (n : ℕ) → (b ≡ true → n < 2 ^ 64) → option_and_then in_word (cond b (Some n) None) ≡ cond b (Some n) None
if-in-word true n small = in-word-small n (small refl)
if-in-word false n small = refl

-- both of two tests hold
left-of : (a b : Bool) → (a && b) ≡ true → a ≡ true
left-of true b h = refl
left-of false b h = h

right-of : (a b : Bool) → (a && b) ≡ true → b ≡ true
right-of true b h = h
right-of false b h = absurd (cc)

distance-in-word : (d : Direction) (left right n : ℕ) → length_between d left right ≤ 256 → option_and_then in_word (offset_between d left right n) ≡ offset_between d left right n
distance-in-word To left right n short =
    if-in-word (nat_le left n && nat_le n right) (n - left)
    (λ h. let above : nat_le left n ≡ true = left-of _ _ h in let below : nat_le n right ≡ true = right-of _ _ h in grind (arith, nat_tests))
distance-in-word Downto left right n short =
    if-in-word (nat_le n left && nat_le right n) (left - n)
    (λ h. let below : nat_le n left ≡ true = left-of _ _ h in let above : nat_le right n ≡ true = right-of _ _ h in grind (arith, nat_tests))

plain-no-vector : (t : TypeName) (r : Range) → plain_variable t ≡ Some (VectorOf r) → ⊥
plain-no-vector type.StdUlogic r h = cc
plain-no-vector type.StdLogic r h = cc
plain-no-vector type.StdLogicVector r h = cc
plain-no-vector type.X01 r h = cc
plain-no-vector type.X01Z r h = cc
plain-no-vector type.Ux01 r h = cc
plain-no-vector type.Ux01Z r h = cc
plain-no-vector type.Boolean r h = cc
plain-no-vector type.Text r h = cc
plain-no-vector type.Time r h = cc
plain-no-vector type.TableSymbol r h = cc
plain-no-vector type.TruthTable r h = cc
plain-no-vector type.StateTable r h = cc
plain-no-vector type.GlitchData r h = cc
plain-no-vector type.TimingData r h = cc
plain-no-vector type.PeriodData r h = cc
plain-no-vector (type.Delay d) r h = cc

vector-short : (b : Bool) (r other : Range) → (b ≡ true → length_of other ≤ 256) → cond b (Some (VectorOf other)) None ≡ Some (VectorOf r) → length_of r ≤ 256
vector-short true r other short h = let same : other ≡ r = cc in subst (λ v. length_of v ≤ 256) same (short refl)
vector-short false r other short h = absurd (cc)

short-of : (t : DeclaredType) (r : Range) → variable_type_in t ≡ Some (VectorOf r) → length_of r ≤ 256
short-of (Plain t) r h = absurd (plain-no-vector t r h)
short-of (Vector v) r h = vector-short (nat_le (length_of v) 256) r v (λ e. grind (arith, nat_tests)) h
short-of (Table t rows columns) r h = absurd (cc)
short-of Other r h = absurd (cc)

-- a word holds each distance in the range of a variable
pub offset-in-word : (t : DeclaredType) (r : Range) (n : ℕ) → variable_type_in t ≡ Some (VectorOf r) → option_and_then in_word (offset_of r n) ≡ offset_of r n
offset-in-word t r n h = distance-in-word r.direction r.left r.right n (short-of t r h)
