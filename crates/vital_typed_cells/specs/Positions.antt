-- When what the names in a node stand for at a position is in a scope.
use Rattle.std.specs.Prelude.{◌≡◌, ℕ, ◌<◌, true, List, ⊤, All}
use Rattle.vital_declarations.specs.Numbers.{length_of}
use Rattle.vital_declarations.specs.Operands.{AliasTarget, OperandKind, Signal, Port, VariableOf, ConstantOf, Generic, AliasOf, NoOperand, VariableType, Level, X01, VectorOf, is_level}
use Rattle.vital_declarations.specs.Operands as target
use Rattle.vital_declarations.specs.Types.{DeclaredType, type_of}
use Rattle.vital_nodes.specs.declared.identifier.Identifier.{Identifier}
use Rattle.vital_nodes.specs.Nodes.{Node, Declaration, Interface, Concurrent, Sequential, Expression, Item, Name}
use Rattle.vital_nodes.specs.Walk.{nodes_of}
use Rattle.vital_operands.specs.declared.tree.ConstantName.{ConstantName}
use Rattle.vital_operands.specs.declared.tree.ConstantName.TheVariants as constant
use Rattle.vital_operands.specs.Named.{cell_constant, is_delay, is_read_mode, is_time}
use Rattle.vital_operands.specs.Positions.{Position, Standing, Operand, Constant, Word, Nothing, changes, has_generics, standing}
use Rattle.vital_timing.specs.declared.delay.DelayType.{DelayType}
use Rattle.vital_typed_cells.specs.ExprScopes.{Scope}

-- The constant of a name, where it has this type.
pub record HasConstant (s : Scope) (name : ConstantName) (t : DeclaredType) : Type 0 where
  pub levels : is_level t ≡ true → s.has_level name ≡ true
  pub times : is_time t ≡ true → s.has_time name ≡ true
  pub delays : (d : DelayType) → is_delay d t ≡ true → s.has_delay d name ≡ true

-- A vector variable of a length, and each element of it.
pub record HasVector (s : Scope) (name : List ℕ) (length : ℕ) : Type 0 where
  pub whole : s.has_vector name length ≡ true
  pub elements : (n : ℕ) → n < length → s.has_element name n ≡ true

-- The variable of a name. What path delays and checks keep is no operand.
abbrev pub HasVariable : Scope → List ℕ → VariableType → Type 0
HasVariable s name Level = s.has_variable name ≡ true
HasVariable s name X01 = s.has_variable name ≡ true
HasVariable s name (VectorOf r) = HasVector s name (length_of r)
HasVariable s name other = ⊤

-- What an alias names. Where no operand changes it names no variable.
abbrev pub HasTarget : Scope → Position → AliasTarget → Type 0
HasTarget s p (target.Variable o) = changes p ≡ true → s.has_variable o.identifier.name ≡ true
HasTarget s p (target.Element o n) = changes p ≡ true → s.has_element o.identifier.name n ≡ true
HasTarget s p (target.Constant o) = s.has_level (cell_constant o.identifier) ≡ true
HasTarget s p (target.PackageConstant n o) = s.has_level (constant.Package n) ≡ true
HasTarget s p target.NoTarget = ⊤

-- What is declared, as far as it may be an operand.
abbrev pub HasOperand : Scope → Position → List ℕ → OperandKind → Type 0
HasOperand s p name Signal = changes p ≡ true → s.has_signal name ≡ true
HasOperand s p name (Port m t) = changes p ≡ true → is_read_mode m ≡ true → is_level t ≡ true → s.has_signal name ≡ true
HasOperand s p name (VariableOf t) = changes p ≡ true → HasVariable s name t
HasOperand s p name (ConstantOf t) = HasConstant s (constant.Cell name) t
HasOperand s p name (Generic t) = has_generics p ≡ true → (d : DelayType) → is_delay d t ≡ true → s.has_generic d name ≡ true
HasOperand s p name (AliasOf t) = HasTarget s p t
HasOperand s p name NoOperand = ⊤

abbrev pub HasStanding : Scope → Position → List ℕ → Standing → Type 0
HasStanding s p name (Operand k) = HasOperand s p name k
HasStanding s p name (Constant n o) = HasConstant s (constant.Package n) (type_of o.parts.subtype)
HasStanding s p name (Word w) = ⊤
HasStanding s p name Nothing = ⊤

-- What an identifier stands for is in the scope.
abbrev pub HasIdentifier : Scope → Position → Identifier → Type 0
HasIdentifier s p i = HasStanding s p i.name (standing p i)

-- What the identifier of a name stands for.
abbrev pub HasNameAt : Scope → Position → Node → Type 0
HasNameAt s p (Declaration d) = ⊤
HasNameAt s p (Interface i) = ⊤
HasNameAt s p (Concurrent k) = ⊤
HasNameAt s p (Sequential k) = ⊤
HasNameAt s p (Expression e) = ⊤
HasNameAt s p (Item i) = ⊤
HasNameAt s p (Name r) = HasIdentifier s p r.identifier

-- What each name in a node stands for.
abbrev pub IsScopeOf : Scope → Position → Node → Type 0
IsScopeOf s p v = All (HasNameAt s p) (nodes_of v)
