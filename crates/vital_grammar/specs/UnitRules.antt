-- Units of files, interfaces and subtypes, rule by rule as the grammar is printed.
use Rattle.std.specs.Prelude.{List, [], ◌∷◌}
use Rattle.vital_ll.specs.declared.grammar.Sym.{Sym}
use Rattle.vital_vhdl_lexemes.specs.declared.kinds.Kind.TheVariants as kind
use Rattle.vital_grammar.specs.RuleNumbers.{word, id, more_ids, file, name, more_names, entity, arch, pack, config, generics, ports, decls, entity_statements, entity_word, optional_id, concs, iface, more_ifaces, iface_class, mode, sub, bus, default, expr, range, dir, arch_word, pack_word, config_word}

-- file = { "library" id { "," id } ";" | "use" name { "," name } ";" | entity | arch | pack | config }
abbrev pub file_rule : List (List Sym)
file_rule =
    []
    ∷ (word kind.Library ∷ id ∷ more_ids ∷ word kind.Semicolon ∷ file ∷ [])
    ∷ (word kind.Use ∷ name ∷ more_names ∷ word kind.Semicolon ∷ file ∷ [])
    ∷ (entity ∷ file ∷ [])
    ∷ (arch ∷ file ∷ [])
    ∷ (pack ∷ file ∷ [])
    ∷ (config ∷ file ∷ [])
    ∷ []

-- more_ids = { "," id }
abbrev pub more_ids_rule : List (List Sym)
more_ids_rule =
    []
    ∷ (word kind.Comma ∷ id ∷ more_ids ∷ [])
    ∷ []

-- more_names = { "," name }
abbrev pub more_names_rule : List (List Sym)
more_names_rule =
    []
    ∷ (word kind.Comma ∷ name ∷ more_names ∷ [])
    ∷ []

-- optional_id = [ id ]
abbrev pub optional_id_rule : List (List Sym)
optional_id_rule =
    []
    ∷ (id ∷ [])
    ∷ []

-- entity = "entity" id "is" [ generics ] [ ports ] { decl } [ "begin" { conc } ] "end" [ "entity" ] [ id ] ";"
abbrev pub entity_rule : List (List Sym)
entity_rule =
    (word kind.Entity ∷ id ∷ word kind.Is ∷ generics ∷ ports ∷ decls ∷ entity_statements ∷ word kind.End ∷ entity_word ∷ optional_id ∷ word kind.Semicolon ∷ [])
    ∷ []

-- entity_statements = [ "begin" { conc } ]
abbrev pub entity_statements_rule : List (List Sym)
entity_statements_rule =
    []
    ∷ (word kind.Begin ∷ concs ∷ [])
    ∷ []

-- entity_word = [ "entity" ]
abbrev pub entity_word_rule : List (List Sym)
entity_word_rule =
    []
    ∷ (word kind.Entity ∷ [])
    ∷ []

-- generics = [ "generic" "(" iface { ";" iface } ")" ";" ]
abbrev pub generics_rule : List (List Sym)
generics_rule =
    []
    ∷ (word kind.Generic ∷ word kind.LeftParenthesis ∷ iface ∷ more_ifaces ∷ word kind.RightParenthesis ∷ word kind.Semicolon ∷ [])
    ∷ []

-- ports = [ "port" "(" iface { ";" iface } ")" ";" ]
abbrev pub ports_rule : List (List Sym)
ports_rule =
    []
    ∷ (word kind.Port ∷ word kind.LeftParenthesis ∷ iface ∷ more_ifaces ∷ word kind.RightParenthesis ∷ word kind.Semicolon ∷ [])
    ∷ []

-- more_ifaces = { ";" iface }
abbrev pub more_ifaces_rule : List (List Sym)
more_ifaces_rule =
    []
    ∷ (word kind.Semicolon ∷ iface ∷ more_ifaces ∷ [])
    ∷ []

-- iface = [ "constant" | "signal" ] id { "," id } ":" [ mode ] sub [ "bus" ] [ ":=" expr ]
abbrev pub iface_rule : List (List Sym)
iface_rule =
    (iface_class ∷ id ∷ more_ids ∷ word kind.Colon ∷ mode ∷ sub ∷ bus ∷ default ∷ [])
    ∷ []

-- iface_class = [ "constant" | "signal" ]
abbrev pub iface_class_rule : List (List Sym)
iface_class_rule =
    []
    ∷ (word kind.Constant ∷ [])
    ∷ (word kind.Signal ∷ [])
    ∷ []

-- mode = [ "in" | "out" | "inout" | "buffer" | "linkage" ]
abbrev pub mode_rule : List (List Sym)
mode_rule =
    []
    ∷ (word kind.In ∷ [])
    ∷ (word kind.Out ∷ [])
    ∷ (word kind.Inout ∷ [])
    ∷ (word kind.Buffer ∷ [])
    ∷ (word kind.Linkage ∷ [])
    ∷ []

-- bus = [ "bus" ]
abbrev pub bus_rule : List (List Sym)
bus_rule =
    []
    ∷ (word kind.Bus ∷ [])
    ∷ []

-- default = [ ":=" expr ]
abbrev pub default_rule : List (List Sym)
default_rule =
    []
    ∷ (word kind.Assign ∷ expr ∷ [])
    ∷ []

-- sub = name [ "range" expr dir expr ]
abbrev pub sub_rule : List (List Sym)
sub_rule =
    (name ∷ range ∷ [])
    ∷ []

-- range = [ "range" expr dir expr ]
abbrev pub range_rule : List (List Sym)
range_rule =
    []
    ∷ (word kind.Range ∷ expr ∷ dir ∷ expr ∷ [])
    ∷ []

-- dir = "to" | "downto"
abbrev pub dir_rule : List (List Sym)
dir_rule =
    (word kind.To ∷ [])
    ∷ (word kind.Downto ∷ [])
    ∷ []

-- arch = "architecture" id "of" id "is" { decl } "begin" { conc } "end" [ "architecture" ] [ id ] ";"
abbrev pub arch_rule : List (List Sym)
arch_rule =
    (word kind.Architecture ∷ id ∷ word kind.Of ∷ id ∷ word kind.Is ∷ decls ∷ word kind.Begin ∷ concs ∷ word kind.End ∷ arch_word ∷ optional_id ∷ word kind.Semicolon ∷ [])
    ∷ []

-- arch_word = [ "architecture" ]
abbrev pub arch_word_rule : List (List Sym)
arch_word_rule =
    []
    ∷ (word kind.Architecture ∷ [])
    ∷ []

-- pack = "package" id "is" { decl } "end" [ "package" ] [ id ] ";"
abbrev pub pack_rule : List (List Sym)
pack_rule =
    (word kind.Package ∷ id ∷ word kind.Is ∷ decls ∷ word kind.End ∷ pack_word ∷ optional_id ∷ word kind.Semicolon ∷ [])
    ∷ []

-- pack_word = [ "package" ]
abbrev pub pack_word_rule : List (List Sym)
pack_word_rule =
    []
    ∷ (word kind.Package ∷ [])
    ∷ []

-- config = "configuration" id "of" id "is" "for" id "end" "for" ";" "end" [ "configuration" ] [ id ] ";"
abbrev pub config_rule : List (List Sym)
config_rule =
    (word kind.Configuration ∷ id ∷ word kind.Of ∷ id ∷ word kind.Is ∷ word kind.For ∷ id ∷ word kind.End ∷ word kind.For ∷ word kind.Semicolon ∷ word kind.End ∷ config_word ∷ optional_id ∷ word kind.Semicolon ∷ [])
    ∷ []

-- config_word = [ "configuration" ]
abbrev pub config_word_rule : List (List Sym)
config_word_rule =
    []
    ∷ (word kind.Configuration ∷ [])
    ∷ []

unfoldable pub unit_rules : List (List (List Sym))
unit_rules =
    file_rule ∷ more_ids_rule ∷ more_names_rule ∷ optional_id_rule ∷ entity_rule ∷ entity_statements_rule
    ∷ entity_word_rule ∷ generics_rule ∷ ports_rule ∷ more_ifaces_rule ∷ iface_rule ∷ iface_class_rule
    ∷ mode_rule ∷ bus_rule ∷ default_rule ∷ sub_rule ∷ range_rule ∷ dir_rule
    ∷ arch_rule ∷ arch_word_rule ∷ pack_rule ∷ pack_word_rule ∷ config_rule ∷ config_word_rule
    ∷ []
