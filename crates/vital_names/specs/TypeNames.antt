-- The types that names name.
use Rattle.std.specs.Prelude.{Option}
use Rattle.std.specs.Option.{option_and_then}
use Rattle.vital_names.specs.declared.predeclared.TypeName.{TypeName}
use Rattle.vital_names.specs.Kinds.{as_type}
use Rattle.vital_names.specs.Words.{predeclared}
use Rattle.vital_nodes.specs.declared.expr.Reference.{Reference}
use Rattle.vital_nodes.specs.Names.{last_identifier}

-- The predeclared type that a name names by its last identifier, whatever else that identifier may mean.
abbrev pub type_named : Reference → Option TypeName
type_named name = option_and_then (λ i. option_and_then as_type (predeclared i.name)) (last_identifier name)
