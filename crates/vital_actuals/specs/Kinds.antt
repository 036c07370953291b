-- What a formal asks of what a name stands for.
use Rattle.std.specs.Prelude.{Bool, true, false, ◌&&◌, List, ℕ, Option, Some, None, if◌then◌else◌}
use Rattle.vital_calls.specs.declared.actual_form.ActualForm.{ActualForm}
use Rattle.vital_calls.specs.declared.actual_form.ActualForm.TheVariants as form
use Rattle.vital_declarations.specs.Operands.{OperandKind, Signal, Port, VariableOf, Generic, NoOperand, X01, GlitchData, TimingData, PeriodData, is_level}
use Rattle.vital_declarations.specs.Types.{DeclaredType, Plain}
use Rattle.vital_names.specs.declared.predeclared.TypeName.TheVariants as type
use Rattle.vital_nodes.specs.declared.decl.Mode.{Mode}
use Rattle.vital_nodes.specs.declared.decl.Mode.TheVariants as mode
use Rattle.vital_nodes.specs.declared.identifier.Identifier.{Identifier}
use Rattle.vital_operands.specs.Named.{is_read_mode}
use Rattle.vital_operands.specs.Positions.{Position, Standing, Operand, Constant, Word, Nothing, standing}

-- What is declared for a name, as an operand. Where nothing is, it is none.
abbrev pub operand_in : Standing → OperandKind
operand_in (Operand k) = k
operand_in (Constant n o) = NoOperand
operand_in (Word w) = NoOperand
operand_in Nothing = NoOperand

abbrev pub operand_named : Position → Identifier → OperandKind
operand_named p i = operand_in (standing p i)

-- A port with one of these modes is driven by its cell.
abbrev pub is_driven_mode : Mode → Bool
is_driven_mode mode.In = false
is_driven_mode mode.Out = true
is_driven_mode mode.Inout = true
is_driven_mode mode.Buffer = true
is_driven_mode mode.Linkage = false

abbrev pub is_internal_signal : OperandKind → Bool
is_internal_signal Signal = true
is_internal_signal other = false

-- An internal signal, or an in or inout port of levels.
abbrev pub is_signal : OperandKind → Bool
is_signal Signal = true
is_signal (Port m t) = is_read_mode m && is_level t
is_signal other = false

-- An out, inout or buffer port of levels.
abbrev pub is_out_port : OperandKind → Bool
is_out_port (Port m t) = is_driven_mode m && is_level t
is_out_port other = false

abbrev pub keeps_glitch_data : OperandKind → Bool
keeps_glitch_data (VariableOf GlitchData) = true
keeps_glitch_data other = false

abbrev pub keeps_timing_data : OperandKind → Bool
keeps_timing_data (VariableOf TimingData) = true
keeps_timing_data other = false

abbrev pub keeps_period_data : OperandKind → Bool
keeps_period_data (VariableOf PeriodData) = true
keeps_period_data other = false

-- A variable of type X01 itself, and no alias of one.
abbrev pub is_violation : OperandKind → Bool
is_violation (VariableOf X01) = true
is_violation other = false

abbrev pub is_of_delay : DeclaredType → Bool
is_of_delay (Plain (type.Delay d)) = true
is_of_delay _ = false

-- A generic of a type of delays.
abbrev pub is_delay_generic : OperandKind → Bool
is_delay_generic (Generic t) = is_of_delay t
is_delay_generic other = false

-- What is declared is what a form asks of a name, for the forms that ask for the name of something declared.
abbrev pub fits : ActualForm → OperandKind → Bool
fits form.InternalSignal k = is_internal_signal k
fits form.Signal k = is_signal k
fits form.OutPort k = is_out_port k
fits form.GlitchData k = keeps_glitch_data k
fits form.TimingData k = keeps_timing_data k
fits form.PeriodData k = keeps_period_data k
fits form.Violation k = is_violation k
fits form.WireDelay k = is_delay_generic k
fits other k = false

-- The name of an identifier that stands for what a form asks.
abbrev pub name_for : Position → ActualForm → Identifier → Option (List ℕ)
name_for p f i = if fits f (operand_named p i) then Some i.name else None
