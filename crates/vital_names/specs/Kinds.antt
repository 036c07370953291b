-- What predeclared words and what names mean, by kind.
use Rattle.std.specs.Prelude.{Option, Some, None}
use Rattle.vital_names.specs.declared.predeclared.Function.{Function}
use Rattle.vital_names.specs.declared.predeclared.Predeclared.{Predeclared as Predeclared'}
use Rattle.vital_names.specs.declared.predeclared.Predeclared.TheVariants as word
use Rattle.vital_names.specs.declared.predeclared.Procedure.{Procedure}
use Rattle.vital_names.specs.declared.predeclared.TypeName.{TypeName}
use Rattle.vital_names.specs.Meanings.{Meaning, Declared, Constant, Predeclared}

-- The type, the function or the procedure that a word is predeclared as, if it is one.
abbrev pub as_type : Predeclared' → Option TypeName
as_type (word.TypeName t) = Some t
as_type _ = None

abbrev pub as_function : Predeclared' → Option Function
as_function (word.Function f) = Some f
as_function _ = None

abbrev pub as_procedure : Predeclared' → Option Procedure
as_procedure (word.Procedure p) = Some p
as_procedure _ = None

-- The predeclared function or procedure that is meant, if one is.
abbrev pub function_meant : Meaning → Option Function
function_meant (Declared d) = None
function_meant (Constant n o) = None
function_meant (Predeclared w) = as_function w

abbrev pub procedure_meant : Meaning → Option Procedure
procedure_meant (Declared d) = None
procedure_meant (Constant n o) = None
procedure_meant (Predeclared w) = as_procedure w
