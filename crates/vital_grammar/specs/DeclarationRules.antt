-- Declarations, rule by rule as the grammar is printed.
use Rattle.std.specs.Prelude.{List, [], ◌∷◌}
use Rattle.vital_ll.specs.declared.grammar.Sym.{Sym}
use Rattle.vital_vhdl_lexemes.specs.declared.kinds.Kind.TheVariants as kind
use Rattle.vital_grammar.specs.RuleNumbers.{word, decl, decls, id, attribute_rest, more_ids, sub, default, alias_sub, name, optional_is, generics, ports, optional_id, designator, class, expr}

-- decls = { decl }
abbrev pub decls_rule : List (List Sym)
decls_rule =
    []
    ∷ (decl ∷ decls ∷ [])
    ∷ []

-- decl = an attribute, a constant, a signal, a variable, an alias or a component
abbrev pub decl_rule : List (List Sym)
decl_rule =
    (word kind.Attribute ∷ id ∷ attribute_rest ∷ [])
    ∷ (word kind.Constant ∷ id ∷ more_ids ∷ word kind.Colon ∷ sub ∷ default ∷ word kind.Semicolon ∷ [])
    ∷ (word kind.Signal ∷ id ∷ more_ids ∷ word kind.Colon ∷ sub ∷ default ∷ word kind.Semicolon ∷ [])
    ∷ (word kind.Variable ∷ id ∷ more_ids ∷ word kind.Colon ∷ sub ∷ default ∷ word kind.Semicolon ∷ [])
    ∷ (word kind.Alias ∷ id ∷ alias_sub ∷ word kind.Is ∷ name ∷ word kind.Semicolon ∷ [])
    ∷ (word kind.Component ∷ id ∷ optional_is ∷ generics ∷ ports ∷ word kind.End ∷ word kind.Component ∷ optional_id ∷ word kind.Semicolon ∷ [])
    ∷ []

-- attribute_rest = ":" name ";" | "of" ( id | "all" | "others" ) ":" class "is" expr ";"
abbrev pub attribute_rest_rule : List (List Sym)
attribute_rest_rule =
    (word kind.Colon ∷ name ∷ word kind.Semicolon ∷ [])
    ∷ (word kind.Of ∷ designator ∷ word kind.Colon ∷ class ∷ word kind.Is ∷ expr ∷ word kind.Semicolon ∷ [])
    ∷ []

-- designator = id | "all" | "others"
abbrev pub designator_rule : List (List Sym)
designator_rule =
    (id ∷ [])
    ∷ (word kind.All ∷ [])
    ∷ (word kind.Others ∷ [])
    ∷ []

-- class = "entity" | "architecture" | "component" | "signal" | "label"
abbrev pub class_rule : List (List Sym)
class_rule =
    (word kind.Entity ∷ [])
    ∷ (word kind.Architecture ∷ [])
    ∷ (word kind.Component ∷ [])
    ∷ (word kind.Signal ∷ [])
    ∷ (word kind.Label ∷ [])
    ∷ []

-- alias_sub = [ ":" sub ]
abbrev pub alias_sub_rule : List (List Sym)
alias_sub_rule =
    []
    ∷ (word kind.Colon ∷ sub ∷ [])
    ∷ []

-- optional_is = [ "is" ]
abbrev pub optional_is_rule : List (List Sym)
optional_is_rule =
    []
    ∷ (word kind.Is ∷ [])
    ∷ []

unfoldable pub declaration_rules : List (List (List Sym))
declaration_rules =
    decls_rule ∷ decl_rule ∷ attribute_rest_rule ∷ designator_rule ∷ class_rule ∷ alias_sub_rule
    ∷ optional_is_rule
    ∷ []
