-- Statements, rule by rule as the grammar is printed.
use Rattle.std.specs.Prelude.{List, [], ◌∷◌}
use Rattle.vital_ll.specs.declared.grammar.Sym.{Sym}
use Rattle.vital_vhdl_lexemes.specs.declared.kinds.Kind.TheVariants as kind
use Rattle.vital_grammar.specs.RuleNumbers.{word, conc, concs, process, id, conc_rest, labelled, suffixes, conc_end, expr, delay, name, maps, optional_is, decls, optional_id, generic_map, port_map, items, sensitivity, seqs, more_names, seq, seq_end, elsifs, else_part}

-- concs = { conc }
abbrev pub concs_rule : List (List Sym)
concs_rule =
    []
    ∷ (conc ∷ concs ∷ [])
    ∷ []

-- conc = process | id ( ":" labelled | suffixes ( ";" | "<=" expr [ "after" expr ] ";" ) )
abbrev pub conc_rule : List (List Sym)
conc_rule =
    (process ∷ [])
    ∷ (id ∷ conc_rest ∷ [])
    ∷ []

-- conc_rest = ":" labelled | suffixes ( ";" | "<=" expr [ "after" expr ] ";" )
abbrev pub conc_rest_rule : List (List Sym)
conc_rest_rule =
    (word kind.Colon ∷ labelled ∷ [])
    ∷ (suffixes ∷ conc_end ∷ [])
    ∷ []

-- conc_end = ";" | "<=" expr [ "after" expr ] ";"
abbrev pub conc_end_rule : List (List Sym)
conc_end_rule =
    (word kind.Semicolon ∷ [])
    ∷ (word kind.LessOrEqual ∷ expr ∷ delay ∷ word kind.Semicolon ∷ [])
    ∷ []

-- delay = [ "after" expr ]
abbrev pub delay_rule : List (List Sym)
delay_rule =
    []
    ∷ (word kind.After ∷ expr ∷ [])
    ∷ []

-- labelled = process | "component" name maps ";" | name maps ";" | "block" [ "is" ] { decl } "begin" { conc } "end" "block" [ id ] ";"
abbrev pub labelled_rule : List (List Sym)
labelled_rule =
    (process ∷ [])
    ∷ (word kind.Component ∷ name ∷ maps ∷ word kind.Semicolon ∷ [])
    ∷ (name ∷ maps ∷ word kind.Semicolon ∷ [])
    ∷ (word kind.Block ∷ optional_is ∷ decls ∷ word kind.Begin ∷ concs ∷ word kind.End ∷ word kind.Block ∷ optional_id ∷ word kind.Semicolon ∷ [])
    ∷ []

-- maps = [ "generic" "map" "(" items ")" ] [ "port" "map" "(" items ")" ]
abbrev pub maps_rule : List (List Sym)
maps_rule =
    (generic_map ∷ port_map ∷ [])
    ∷ []

-- generic_map = [ "generic" "map" "(" items ")" ]
abbrev pub generic_map_rule : List (List Sym)
generic_map_rule =
    []
    ∷ (word kind.Generic ∷ word kind.Map ∷ word kind.LeftParenthesis ∷ items ∷ word kind.RightParenthesis ∷ [])
    ∷ []

-- port_map = [ "port" "map" "(" items ")" ]
abbrev pub port_map_rule : List (List Sym)
port_map_rule =
    []
    ∷ (word kind.Port ∷ word kind.Map ∷ word kind.LeftParenthesis ∷ items ∷ word kind.RightParenthesis ∷ [])
    ∷ []

-- process = "process" [ "(" name { "," name } ")" ] [ "is" ] { decl } "begin" { seq } "end" "process" [ id ] ";"
abbrev pub process_rule : List (List Sym)
process_rule =
    (word kind.Process ∷ sensitivity ∷ optional_is ∷ decls ∷ word kind.Begin ∷ seqs ∷ word kind.End ∷ word kind.Process ∷ optional_id ∷ word kind.Semicolon ∷ [])
    ∷ []

-- sensitivity = [ "(" name { "," name } ")" ]
abbrev pub sensitivity_rule : List (List Sym)
sensitivity_rule =
    []
    ∷ (word kind.LeftParenthesis ∷ name ∷ more_names ∷ word kind.RightParenthesis ∷ [])
    ∷ []

-- seqs = { seq }
abbrev pub seqs_rule : List (List Sym)
seqs_rule =
    []
    ∷ (seq ∷ seqs ∷ [])
    ∷ []

-- seq = id suffixes ( .. ) | "if" expr "then" { seq } { "elsif" expr "then" { seq } } [ "else" { seq } ] "end" "if" ";" | "null" ";"
abbrev pub seq_rule : List (List Sym)
seq_rule =
    (name ∷ seq_end ∷ [])
    ∷ (word kind.If ∷ expr ∷ word kind.Then ∷ seqs ∷ elsifs ∷ else_part ∷ word kind.End ∷ word kind.If ∷ word kind.Semicolon ∷ [])
    ∷ (word kind.Null ∷ word kind.Semicolon ∷ [])
    ∷ []

-- seq_end = ":=" expr ";" | "<=" expr [ "after" expr ] ";" | ";"
abbrev pub seq_end_rule : List (List Sym)
seq_end_rule =
    (word kind.Assign ∷ expr ∷ word kind.Semicolon ∷ [])
    ∷ (word kind.LessOrEqual ∷ expr ∷ delay ∷ word kind.Semicolon ∷ [])
    ∷ (word kind.Semicolon ∷ [])
    ∷ []

-- elsifs = { "elsif" expr "then" { seq } }
abbrev pub elsifs_rule : List (List Sym)
elsifs_rule =
    []
    ∷ (word kind.Elsif ∷ expr ∷ word kind.Then ∷ seqs ∷ elsifs ∷ [])
    ∷ []

-- else_part = [ "else" { seq } ]
abbrev pub else_part_rule : List (List Sym)
else_part_rule =
    []
    ∷ (word kind.Else ∷ seqs ∷ [])
    ∷ []

unfoldable pub statement_rules : List (List (List Sym))
statement_rules =
    concs_rule ∷ conc_rule ∷ conc_rest_rule ∷ conc_end_rule ∷ delay_rule ∷ labelled_rule
    ∷ maps_rule ∷ generic_map_rule ∷ port_map_rule ∷ process_rule ∷ sensitivity_rule ∷ seqs_rule
    ∷ seq_rule ∷ seq_end_rule ∷ elsifs_rule ∷ else_part_rule
    ∷ []
