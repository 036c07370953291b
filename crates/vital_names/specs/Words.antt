-- The predeclared words (IEEE 1076-1993, 14.2; IEEE 1164; IEEE 1076.4).
use Rattle.std.specs.Prelude.{ℕ, true, false, List, [], ◌∷◌, Option, codes}
use Rattle.std.specs.List.{find}
use Rattle.std.specs.Option.{option_map}
use Rattle.std.specs.Str.{bytes_eq}
use Rattle.vital_nodes.specs.declared.expr.Logical.TheVariants as gate
use Rattle.vital_timing.specs.declared.delay.DelayType.TheVariants as delay
use Rattle.vital_timing.specs.declared.glitch_mode.GlitchMode.TheVariants as mode
use Rattle.vital_timing.specs.declared.time_literal.UnitOfTime.TheVariants as unit
use Rattle.vital_names.specs.declared.predeclared.Predeclared.{Predeclared}
use Rattle.vital_names.specs.declared.predeclared.Predeclared.TheVariants as word
use Rattle.vital_names.specs.declared.predeclared.Check.TheVariants as check
use Rattle.vital_names.specs.declared.predeclared.Conversion.TheVariants as conversion
use Rattle.vital_names.specs.declared.predeclared.Function.TheVariants as function
use Rattle.vital_names.specs.declared.predeclared.Inputs.TheVariants as inputs
use Rattle.vital_names.specs.declared.predeclared.Primitive.TheVariants as primitive
use Rattle.vital_names.specs.declared.predeclared.Procedure.TheVariants as procedure
use Rattle.vital_names.specs.declared.predeclared.Severity.TheVariants as severity
use Rattle.vital_names.specs.declared.predeclared.TypeName.TheVariants as type_name

-- The predeclared words in lower case, each with its meaning.
abbrev pub words : List (List ℕ × Predeclared)
words =
    (codes "true", word.Boolean true) ∷
    (codes "false", word.Boolean false) ∷
    (codes "onevent", word.GlitchMode mode.OnEvent) ∷
    (codes "ondetect", word.GlitchMode mode.OnDetect) ∷
    (codes "vitalinertial", word.GlitchMode mode.Inertial) ∷
    (codes "vitaltransport", word.GlitchMode mode.Transport) ∷
    (codes "note", word.Severity severity.Note) ∷
    (codes "warning", word.Severity severity.Warning) ∷
    (codes "error", word.Severity severity.Error) ∷
    (codes "failure", word.Severity severity.Failure) ∷
    (codes "fs", word.UnitOfTime unit.Femtosecond) ∷
    (codes "ps", word.UnitOfTime unit.Picosecond) ∷
    (codes "ns", word.UnitOfTime unit.Nanosecond) ∷
    (codes "us", word.UnitOfTime unit.Microsecond) ∷
    (codes "ms", word.UnitOfTime unit.Millisecond) ∷
    (codes "sec", word.UnitOfTime unit.Second) ∷
    (codes "min", word.UnitOfTime unit.Minute) ∷
    (codes "hr", word.UnitOfTime unit.Hour) ∷
    (codes "std_ulogic", word.TypeName type_name.StdUlogic) ∷
    (codes "std_logic", word.TypeName type_name.StdLogic) ∷
    (codes "std_logic_vector", word.TypeName type_name.StdLogicVector) ∷
    (codes "x01", word.TypeName type_name.X01) ∷
    (codes "x01z", word.TypeName type_name.X01Z) ∷
    (codes "ux01", word.TypeName type_name.Ux01) ∷
    (codes "ux01z", word.TypeName type_name.Ux01Z) ∷
    (codes "boolean", word.TypeName type_name.Boolean) ∷
    (codes "string", word.TypeName type_name.Text) ∷
    (codes "time", word.TypeName type_name.Time) ∷
    (codes "vitaldelaytype", word.TypeName (type_name.Delay delay.One)) ∷
    (codes "vitaldelaytype01", word.TypeName (type_name.Delay delay.Two)) ∷
    (codes "vitaldelaytype01z", word.TypeName (type_name.Delay delay.Six)) ∷
    (codes "vitaltablesymboltype", word.TypeName type_name.TableSymbol) ∷
    (codes "vitaltruthtabletype", word.TypeName type_name.TruthTable) ∷
    (codes "vitalstatetabletype", word.TypeName type_name.StateTable) ∷
    (codes "vitalglitchdatatype", word.TypeName type_name.GlitchData) ∷
    (codes "vitaltimingdatatype", word.TypeName type_name.TimingData) ∷
    (codes "vitalperioddatatype", word.TypeName type_name.PeriodData) ∷
    (codes "vitalzerodelay", word.ZeroDelay delay.One) ∷
    (codes "vitalzerodelay01", word.ZeroDelay delay.Two) ∷
    (codes "vitalzerodelay01z", word.ZeroDelay delay.Six) ∷
    (codes "vitaltimingdatainit", word.TimingDataInit) ∷
    (codes "vitalperioddatainit", word.PeriodDataInit) ∷
    (codes "vitaland2", word.Function (function.Primitive (primitive.Gate gate.And inputs.Two))) ∷
    (codes "vitaland3", word.Function (function.Primitive (primitive.Gate gate.And inputs.Three))) ∷
    (codes "vitaland4", word.Function (function.Primitive (primitive.Gate gate.And inputs.Four))) ∷
    (codes "vitalor2", word.Function (function.Primitive (primitive.Gate gate.Or inputs.Two))) ∷
    (codes "vitalor3", word.Function (function.Primitive (primitive.Gate gate.Or inputs.Three))) ∷
    (codes "vitalor4", word.Function (function.Primitive (primitive.Gate gate.Or inputs.Four))) ∷
    (codes "vitalxor2", word.Function (function.Primitive (primitive.Gate gate.Xor inputs.Two))) ∷
    (codes "vitalxor3", word.Function (function.Primitive (primitive.Gate gate.Xor inputs.Three))) ∷
    (codes "vitalxor4", word.Function (function.Primitive (primitive.Gate gate.Xor inputs.Four))) ∷
    (codes "vitalnand2", word.Function (function.Primitive (primitive.Gate gate.Nand inputs.Two))) ∷
    (codes "vitalnand3", word.Function (function.Primitive (primitive.Gate gate.Nand inputs.Three))) ∷
    (codes "vitalnand4", word.Function (function.Primitive (primitive.Gate gate.Nand inputs.Four))) ∷
    (codes "vitalnor2", word.Function (function.Primitive (primitive.Gate gate.Nor inputs.Two))) ∷
    (codes "vitalnor3", word.Function (function.Primitive (primitive.Gate gate.Nor inputs.Three))) ∷
    (codes "vitalnor4", word.Function (function.Primitive (primitive.Gate gate.Nor inputs.Four))) ∷
    (codes "vitalxnor2", word.Function (function.Primitive (primitive.Gate gate.Xnor inputs.Two))) ∷
    (codes "vitalxnor3", word.Function (function.Primitive (primitive.Gate gate.Xnor inputs.Three))) ∷
    (codes "vitalxnor4", word.Function (function.Primitive (primitive.Gate gate.Xnor inputs.Four))) ∷
    (codes "vitalbuf", word.Function (function.Primitive primitive.Buf)) ∷
    (codes "vitalinv", word.Function (function.Primitive primitive.Inv)) ∷
    (codes "vitalident", word.Function (function.Primitive primitive.Ident)) ∷
    (codes "vitalbufif0", word.Function (function.Primitive primitive.Bufif0)) ∷
    (codes "vitalbufif1", word.Function (function.Primitive primitive.Bufif1)) ∷
    (codes "vitalinvif0", word.Function (function.Primitive primitive.Invif0)) ∷
    (codes "vitalinvif1", word.Function (function.Primitive primitive.Invif1)) ∷
    (codes "vitalmux2", word.Function (function.Primitive primitive.Mux2)) ∷
    (codes "to_x01", word.Function (function.Conversion conversion.X01)) ∷
    (codes "to_x01z", word.Function (function.Conversion conversion.X01Z)) ∷
    (codes "to_ux01", word.Function (function.Conversion conversion.Ux01)) ∷
    (codes "vitaltruthtable", word.Function function.TruthTable) ∷
    (codes "vitalwiredelay", word.Procedure procedure.WireDelay) ∷
    (codes "vitalstatetable", word.Procedure procedure.StateTable) ∷
    (codes "vitalpathdelay", word.Procedure (procedure.PathDelay delay.One)) ∷
    (codes "vitalpathdelay01", word.Procedure (procedure.PathDelay delay.Two)) ∷
    (codes "vitalpathdelay01z", word.Procedure (procedure.PathDelay delay.Six)) ∷
    (codes "vitalsetupholdcheck", word.Procedure (procedure.Check check.SetupHold)) ∷
    (codes "vitalrecoveryremovalcheck", word.Procedure (procedure.Check check.RecoveryRemoval)) ∷
    (codes "vitalperiodpulsecheck", word.Procedure (procedure.Check check.PeriodPulse)) ∷
    []

-- The meaning of a name among words with their meanings: the first of a word is meant.
abbrev pub meaning_among : List ℕ → List (List ℕ × Predeclared) → Option Predeclared
meaning_among name ws = option_map (λ w. w.1) (find (λ w. bytes_eq w.0 name) ws)

-- What a name is predeclared as.
abbrev pub predeclared : List ℕ → Option Predeclared
predeclared name = meaning_among name words
