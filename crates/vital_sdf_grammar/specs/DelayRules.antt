-- Delays, conditions and values, rule by rule as the grammar is printed.
use Rattle.std.specs.Prelude.{List, [], ◌∷◌}
use Rattle.vital_ll.specs.declared.grammar.Sym.{Sym}
use Rattle.vital_sdf_lexemes.specs.declared.kinds.Kind.TheVariants as kind
use Rattle.vital_sdf_grammar.specs.RuleNumbers.{word, delay, delays, dels, any, del, io, port, vals, optional_string, cond, edge, cond_rest, inner, value, val, optional_number, val_rest}

-- delays = { "(" ( ( ABSOLUTE | INCREMENT ) { "(" del ")" } | ( PATHPULSE | PATHPULSEPERCENT ) any ) ")" }
abbrev pub delays_rule : List (List Sym)
delays_rule =
    []
    ∷ (word kind.LeftParenthesis ∷ delay ∷ word kind.RightParenthesis ∷ delays ∷ [])
    ∷ []

-- delay = ( ABSOLUTE | INCREMENT ) { "(" del ")" } | ( PATHPULSE | PATHPULSEPERCENT ) any
abbrev pub delay_rule : List (List Sym)
delay_rule =
    (word kind.Absolute ∷ dels ∷ [])
    ∷ (word kind.Increment ∷ dels ∷ [])
    ∷ (word kind.PathPulse ∷ any ∷ [])
    ∷ (word kind.PathPulsePercent ∷ any ∷ [])
    ∷ []

-- dels = { "(" del ")" }
abbrev pub dels_rule : List (List Sym)
dels_rule =
    []
    ∷ (word kind.LeftParenthesis ∷ del ∷ word kind.RightParenthesis ∷ dels ∷ [])
    ∷ []

-- del = IOPATH io | PORT port vals | INTERCONNECT WORD WORD vals | ( DEVICE | NETDELAY ) any | COND [ STRING ] cond | CONDELSE "(" IOPATH
--     io ")"
abbrev pub del_rule : List (List Sym)
del_rule =
    (word kind.IoPath ∷ io ∷ [])
    ∷ (word kind.Port ∷ port ∷ vals ∷ [])
    ∷ (word kind.Interconnect ∷ word kind.Word ∷ word kind.Word ∷ vals ∷ [])
    ∷ (word kind.Device ∷ any ∷ [])
    ∷ (word kind.NetDelay ∷ any ∷ [])
    ∷ (word kind.Cond ∷ optional_string ∷ cond ∷ [])
    ∷ (word kind.CondElse ∷ word kind.LeftParenthesis ∷ word kind.IoPath ∷ io ∷ word kind.RightParenthesis ∷ [])
    ∷ []

-- optional_string = [ STRING ]
abbrev pub optional_string_rule : List (List Sym)
optional_string_rule =
    []
    ∷ (word kind.Text ∷ [])
    ∷ []

-- io = port WORD vals
abbrev pub io_rule : List (List Sym)
io_rule =
    (port ∷ word kind.Word ∷ vals ∷ [])
    ∷ []

-- port = WORD | "(" ( POSEDGE | NEGEDGE ) WORD ")"
abbrev pub port_rule : List (List Sym)
port_rule =
    (word kind.Word ∷ [])
    ∷ (word kind.LeftParenthesis ∷ edge ∷ word kind.Word ∷ word kind.RightParenthesis ∷ [])
    ∷ []

-- edge = POSEDGE | NEGEDGE
abbrev pub edge_rule : List (List Sym)
edge_rule =
    (word kind.PosEdge ∷ [])
    ∷ (word kind.NegEdge ∷ [])
    ∷ []

-- cond = WORD cond | NUM cond | ":" cond | "(" ( IOPATH io ")" | inner ")" cond )
abbrev pub cond_rule : List (List Sym)
cond_rule =
    (word kind.Word ∷ cond ∷ [])
    ∷ (word kind.Number ∷ cond ∷ [])
    ∷ (word kind.Colon ∷ cond ∷ [])
    ∷ (word kind.LeftParenthesis ∷ cond_rest ∷ [])
    ∷ []

-- cond_rest = IOPATH io ")" | inner ")" cond
abbrev pub cond_rest_rule : List (List Sym)
cond_rest_rule =
    (word kind.IoPath ∷ io ∷ word kind.RightParenthesis ∷ [])
    ∷ (inner ∷ word kind.RightParenthesis ∷ cond ∷ [])
    ∷ []

-- inner = { WORD | NUM | ":" | "(" inner ")" }
abbrev pub inner_rule : List (List Sym)
inner_rule =
    []
    ∷ (word kind.Word ∷ inner ∷ [])
    ∷ (word kind.Number ∷ inner ∷ [])
    ∷ (word kind.Colon ∷ inner ∷ [])
    ∷ (word kind.LeftParenthesis ∷ inner ∷ word kind.RightParenthesis ∷ inner ∷ [])
    ∷ []

-- vals = { "(" ( RETAIN any | val ) ")" }
abbrev pub vals_rule : List (List Sym)
vals_rule =
    []
    ∷ (word kind.LeftParenthesis ∷ value ∷ word kind.RightParenthesis ∷ vals ∷ [])
    ∷ []

-- value = RETAIN any | val
abbrev pub value_rule : List (List Sym)
value_rule =
    (word kind.Retain ∷ any ∷ [])
    ∷ (val ∷ [])
    ∷ []

-- val = [ NUM ] [ ":" [ NUM ] ":" [ NUM ] ]
abbrev pub val_rule : List (List Sym)
val_rule =
    (optional_number ∷ val_rest ∷ [])
    ∷ []

-- optional_number = [ NUM ]
abbrev pub optional_number_rule : List (List Sym)
optional_number_rule =
    []
    ∷ (word kind.Number ∷ [])
    ∷ []

-- val_rest = [ ":" [ NUM ] ":" [ NUM ] ]
abbrev pub val_rest_rule : List (List Sym)
val_rest_rule =
    []
    ∷ (word kind.Colon ∷ optional_number ∷ word kind.Colon ∷ optional_number ∷ [])
    ∷ []

unfoldable pub delay_rules : List (List (List Sym))
delay_rules =
    delays_rule ∷ delay_rule ∷ dels_rule ∷ del_rule ∷ optional_string_rule ∷ io_rule
    ∷ port_rule ∷ edge_rule ∷ cond_rule ∷ cond_rest_rule ∷ inner_rule ∷ vals_rule
    ∷ value_rule ∷ val_rule ∷ optional_number_rule ∷ val_rest_rule
    ∷ []
