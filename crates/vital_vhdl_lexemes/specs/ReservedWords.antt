-- The 97 reserved words (IEEE 1076-1993, 13.9), each with its kind.
use Rattle.std.specs.Prelude.{ℕ, Bool, true, ◌&&◌, List, [], ◌∷◌, codes}
use Rattle.std.specs.Cmp.Lexicographic.{slice_cmp}
use Rattle.std.specs.Ordering.{nat_cmp, is_lt}
use Rattle.vital_vhdl_lexemes.specs.declared.kinds.Kind.{Kind}
use Rattle.vital_vhdl_lexemes.specs.declared.kinds.Kind.TheVariants as kind

-- The reserved words in lower case, in alphabetical order.
abbrev pub reserved_words : List (List ℕ × Kind)
reserved_words =
    (codes "abs", kind.Abs) ∷
    (codes "access", kind.Access) ∷
    (codes "after", kind.After) ∷
    (codes "alias", kind.Alias) ∷
    (codes "all", kind.All) ∷
    (codes "and", kind.And) ∷
    (codes "architecture", kind.Architecture) ∷
    (codes "array", kind.Array) ∷
    (codes "assert", kind.Assert) ∷
    (codes "attribute", kind.Attribute) ∷
    (codes "begin", kind.Begin) ∷
    (codes "block", kind.Block) ∷
    (codes "body", kind.Body) ∷
    (codes "buffer", kind.Buffer) ∷
    (codes "bus", kind.Bus) ∷
    (codes "case", kind.Case) ∷
    (codes "component", kind.Component) ∷
    (codes "configuration", kind.Configuration) ∷
    (codes "constant", kind.Constant) ∷
    (codes "disconnect", kind.Disconnect) ∷
    (codes "downto", kind.Downto) ∷
    (codes "else", kind.Else) ∷
    (codes "elsif", kind.Elsif) ∷
    (codes "end", kind.End) ∷
    (codes "entity", kind.Entity) ∷
    (codes "exit", kind.Exit) ∷
    (codes "file", kind.File) ∷
    (codes "for", kind.For) ∷
    (codes "function", kind.Function) ∷
    (codes "generate", kind.Generate) ∷
    (codes "generic", kind.Generic) ∷
    (codes "group", kind.Group) ∷
    (codes "guarded", kind.Guarded) ∷
    (codes "if", kind.If) ∷
    (codes "impure", kind.Impure) ∷
    (codes "in", kind.In) ∷
    (codes "inertial", kind.Inertial) ∷
    (codes "inout", kind.Inout) ∷
    (codes "is", kind.Is) ∷
    (codes "label", kind.Label) ∷
    (codes "library", kind.Library) ∷
    (codes "linkage", kind.Linkage) ∷
    (codes "literal", kind.Literal) ∷
    (codes "loop", kind.Loop) ∷
    (codes "map", kind.Map) ∷
    (codes "mod", kind.Mod) ∷
    (codes "nand", kind.Nand) ∷
    (codes "new", kind.New) ∷
    (codes "next", kind.Next) ∷
    (codes "nor", kind.Nor) ∷
    (codes "not", kind.Not) ∷
    (codes "null", kind.Null) ∷
    (codes "of", kind.Of) ∷
    (codes "on", kind.On) ∷
    (codes "open", kind.Open) ∷
    (codes "or", kind.Or) ∷
    (codes "others", kind.Others) ∷
    (codes "out", kind.Out) ∷
    (codes "package", kind.Package) ∷
    (codes "port", kind.Port) ∷
    (codes "postponed", kind.Postponed) ∷
    (codes "procedure", kind.Procedure) ∷
    (codes "process", kind.Process) ∷
    (codes "pure", kind.Pure) ∷
    (codes "range", kind.Range) ∷
    (codes "record", kind.Record) ∷
    (codes "register", kind.Register) ∷
    (codes "reject", kind.Reject) ∷
    (codes "rem", kind.Rem) ∷
    (codes "report", kind.Report) ∷
    (codes "return", kind.Return) ∷
    (codes "rol", kind.Rol) ∷
    (codes "ror", kind.Ror) ∷
    (codes "select", kind.Select) ∷
    (codes "severity", kind.Severity) ∷
    (codes "shared", kind.Shared) ∷
    (codes "signal", kind.Signal) ∷
    (codes "sla", kind.Sla) ∷
    (codes "sll", kind.Sll) ∷
    (codes "sra", kind.Sra) ∷
    (codes "srl", kind.Srl) ∷
    (codes "subtype", kind.Subtype) ∷
    (codes "then", kind.Then) ∷
    (codes "to", kind.To) ∷
    (codes "transport", kind.Transport) ∷
    (codes "type", kind.Type) ∷
    (codes "unaffected", kind.Unaffected) ∷
    (codes "units", kind.Units) ∷
    (codes "until", kind.Until) ∷
    (codes "use", kind.Use) ∷
    (codes "variable", kind.Variable) ∷
    (codes "wait", kind.Wait) ∷
    (codes "when", kind.When) ∷
    (codes "while", kind.While) ∷
    (codes "with", kind.With) ∷
    (codes "xnor", kind.Xnor) ∷
    (codes "xor", kind.Xor) ∷
    []

-- Each word stands before the next one in alphabetical order.
abbrev pub are_alphabetical : List (List ℕ) → Bool
are_alphabetical [] = true
are_alphabetical (word ∷ []) = true
are_alphabetical (word ∷ next ∷ words) = is_lt (slice_cmp nat_cmp word next) && are_alphabetical (next ∷ words)
