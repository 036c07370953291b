-- When what names stand for in a statement is in a scope, as far as only actuals ask for it.
use Rattle.std.specs.Prelude.{◌≡◌, ℕ, true, List, ⊤}
use Rattle.vital_actuals.specs.Kinds.{is_driven_mode, operand_named}
use Rattle.vital_declarations.specs.Operands.{OperandKind, Signal, Port, VariableOf, ConstantOf, Generic, AliasOf, NoOperand, VariableType, Level, X01, VectorOf, GlitchData, TimingData, PeriodData, is_level}
use Rattle.vital_nodes.specs.declared.identifier.Identifier.{Identifier}
use Rattle.vital_operands.specs.Positions.{Position, changes}
use Rattle.vital_typed_cells.specs.ActualScopes.{ActualScope}

-- The variable of a name, as far as an actual asks more of it than an expression.
abbrev pub HasData : ActualScope → List ℕ → VariableType → Type 0
HasData s name Level = ⊤
HasData s name X01 = s.has_violation name ≡ true
HasData s name (VectorOf r) = ⊤
HasData s name GlitchData = s.has_glitch_data name ≡ true
HasData s name TimingData = s.has_timing_data name ≡ true
HasData s name PeriodData = s.has_period_data name ≡ true

-- What is declared, as far as an actual asks more of it.
abbrev pub HasNamed : ActualScope → List ℕ → OperandKind → Type 0
HasNamed s name Signal = s.has_internal name ≡ true
HasNamed s name (Port m t) = is_driven_mode m ≡ true → is_level t ≡ true → s.has_output name ≡ true
HasNamed s name (VariableOf t) = HasData s name t
HasNamed s name (ConstantOf t) = ⊤
HasNamed s name (Generic t) = ⊤
HasNamed s name (AliasOf t) = ⊤
HasNamed s name NoOperand = ⊤

-- A position is that of a statement, and what is declared for each identifier is in the scope.
pub record IsActualScopeOf (s : ActualScope) (p : Position) : Type 0 where
  pub in_statement : changes p ≡ true
  pub named : (i : Identifier) → HasNamed s i.name (operand_named p i)
