-- Names, items and expressions, rule by rule as the grammar is printed.
use Rattle.std.specs.Prelude.{List, [], ◌∷◌}
use Rattle.vital_ll.specs.declared.grammar.Sym.{Sym}
use Rattle.vital_vhdl_lexemes.specs.declared.kinds.Kind.TheVariants as kind
use Rattle.vital_grammar.specs.RuleNumbers.{word, id, suffixes, selected, ticked, items, item, more_items, expr, item_range, item_actual, dir, actual, rel, expr_rest, more_ands, more_ors, more_xors, more_xnors, sum, rel_rest, sign, term, more_terms, factor, more_factors, prim, optional_id, name}

-- name = id suffixes
abbrev pub name_rule : List (List Sym)
name_rule =
    (id ∷ suffixes ∷ [])
    ∷ []

-- suffixes = { "." ( id | "all" ) | tick ( id | "(" items ")" ) | "(" items ")" }
abbrev pub suffixes_rule : List (List Sym)
suffixes_rule =
    []
    ∷ (word kind.Dot ∷ selected ∷ suffixes ∷ [])
    ∷ (word kind.Tick ∷ ticked ∷ suffixes ∷ [])
    ∷ (word kind.LeftParenthesis ∷ items ∷ word kind.RightParenthesis ∷ suffixes ∷ [])
    ∷ []

-- selected = id | "all"
abbrev pub selected_rule : List (List Sym)
selected_rule =
    (id ∷ [])
    ∷ (word kind.All ∷ [])
    ∷ []

-- ticked = id | "(" items ")"
abbrev pub ticked_rule : List (List Sym)
ticked_rule =
    (id ∷ [])
    ∷ (word kind.LeftParenthesis ∷ items ∷ word kind.RightParenthesis ∷ [])
    ∷ []

-- items = item { "," item }
abbrev pub items_rule : List (List Sym)
items_rule =
    (item ∷ more_items ∷ [])
    ∷ []

-- more_items = { "," item }
abbrev pub more_items_rule : List (List Sym)
more_items_rule =
    []
    ∷ (word kind.Comma ∷ item ∷ more_items ∷ [])
    ∷ []

-- item = "others" "=>" expr | "open" | expr [ dir expr ] [ "=>" ( expr | "open" ) ]
abbrev pub item_rule : List (List Sym)
item_rule =
    (word kind.Others ∷ word kind.Arrow ∷ expr ∷ [])
    ∷ (word kind.Open ∷ [])
    ∷ (expr ∷ item_range ∷ item_actual ∷ [])
    ∷ []

-- item_range = [ dir expr ]
abbrev pub item_range_rule : List (List Sym)
item_range_rule =
    []
    ∷ (dir ∷ expr ∷ [])
    ∷ []

-- item_actual = [ "=>" ( expr | "open" ) ]
abbrev pub item_actual_rule : List (List Sym)
item_actual_rule =
    []
    ∷ (word kind.Arrow ∷ actual ∷ [])
    ∷ []

-- actual = expr | "open"
abbrev pub actual_rule : List (List Sym)
actual_rule =
    (expr ∷ [])
    ∷ (word kind.Open ∷ [])
    ∷ []

-- expr = rel [ "and" rel { "and" rel } | "or" rel { "or" rel } | "xor" rel { "xor" rel } | "xnor" rel { "xnor" rel } | "nand" rel | "nor" rel ]
abbrev pub expr_rule : List (List Sym)
expr_rule =
    (rel ∷ expr_rest ∷ [])
    ∷ []

-- expr_rest = [ "and" rel { "and" rel } | .. | "nand" rel | "nor" rel ]
abbrev pub expr_rest_rule : List (List Sym)
expr_rest_rule =
    []
    ∷ (word kind.And ∷ rel ∷ more_ands ∷ [])
    ∷ (word kind.Or ∷ rel ∷ more_ors ∷ [])
    ∷ (word kind.Xor ∷ rel ∷ more_xors ∷ [])
    ∷ (word kind.Xnor ∷ rel ∷ more_xnors ∷ [])
    ∷ (word kind.Nand ∷ rel ∷ [])
    ∷ (word kind.Nor ∷ rel ∷ [])
    ∷ []

-- more_ands = { "and" rel }
abbrev pub more_ands_rule : List (List Sym)
more_ands_rule =
    []
    ∷ (word kind.And ∷ rel ∷ more_ands ∷ [])
    ∷ []

-- more_ors = { "or" rel }
abbrev pub more_ors_rule : List (List Sym)
more_ors_rule =
    []
    ∷ (word kind.Or ∷ rel ∷ more_ors ∷ [])
    ∷ []

-- more_xors = { "xor" rel }
abbrev pub more_xors_rule : List (List Sym)
more_xors_rule =
    []
    ∷ (word kind.Xor ∷ rel ∷ more_xors ∷ [])
    ∷ []

-- more_xnors = { "xnor" rel }
abbrev pub more_xnors_rule : List (List Sym)
more_xnors_rule =
    []
    ∷ (word kind.Xnor ∷ rel ∷ more_xnors ∷ [])
    ∷ []

-- rel = sum [ ( "=" | "/=" | "<" | "<=" | ">" | ">=" ) sum ]
abbrev pub rel_rule : List (List Sym)
rel_rule =
    (sum ∷ rel_rest ∷ [])
    ∷ []

-- rel_rest = [ ( "=" | "/=" | "<" | "<=" | ">" | ">=" ) sum ]
abbrev pub rel_rest_rule : List (List Sym)
rel_rest_rule =
    []
    ∷ (word kind.Equal ∷ sum ∷ [])
    ∷ (word kind.NotEqual ∷ sum ∷ [])
    ∷ (word kind.Less ∷ sum ∷ [])
    ∷ (word kind.LessOrEqual ∷ sum ∷ [])
    ∷ (word kind.Greater ∷ sum ∷ [])
    ∷ (word kind.GreaterOrEqual ∷ sum ∷ [])
    ∷ []

-- sum = [ "+" | "-" ] term { ( "+" | "-" | "&" ) term }
abbrev pub sum_rule : List (List Sym)
sum_rule =
    (sign ∷ term ∷ more_terms ∷ [])
    ∷ []

-- sign = [ "+" | "-" ]
abbrev pub sign_rule : List (List Sym)
sign_rule =
    []
    ∷ (word kind.Plus ∷ [])
    ∷ (word kind.Minus ∷ [])
    ∷ []

-- more_terms = { ( "+" | "-" | "&" ) term }
abbrev pub more_terms_rule : List (List Sym)
more_terms_rule =
    []
    ∷ (word kind.Plus ∷ term ∷ more_terms ∷ [])
    ∷ (word kind.Minus ∷ term ∷ more_terms ∷ [])
    ∷ (word kind.Ampersand ∷ term ∷ more_terms ∷ [])
    ∷ []

-- term = factor { ( "*" | "/" ) factor }
abbrev pub term_rule : List (List Sym)
term_rule =
    (factor ∷ more_factors ∷ [])
    ∷ []

-- more_factors = { ( "*" | "/" ) factor }
abbrev pub more_factors_rule : List (List Sym)
more_factors_rule =
    []
    ∷ (word kind.Star ∷ factor ∷ more_factors ∷ [])
    ∷ (word kind.Slash ∷ factor ∷ more_factors ∷ [])
    ∷ []

-- factor = "not" prim | prim
abbrev pub factor_rule : List (List Sym)
factor_rule =
    (word kind.Not ∷ prim ∷ [])
    ∷ (prim ∷ [])
    ∷ []

-- prim = number [ id ] | character | string | name | "(" items ")"
abbrev pub prim_rule : List (List Sym)
prim_rule =
    (word kind.Number ∷ optional_id ∷ [])
    ∷ (word kind.CharacterLiteral ∷ [])
    ∷ (word kind.StringLiteral ∷ [])
    ∷ (name ∷ [])
    ∷ (word kind.LeftParenthesis ∷ items ∷ word kind.RightParenthesis ∷ [])
    ∷ []

-- id = a basic identifier that is not reserved, or an extended one
abbrev pub id_rule : List (List Sym)
id_rule =
    (word kind.Identifier ∷ [])
    ∷ (word kind.ExtendedIdentifier ∷ [])
    ∷ []

unfoldable pub expression_rules : List (List (List Sym))
expression_rules =
    name_rule ∷ suffixes_rule ∷ selected_rule ∷ ticked_rule ∷ items_rule ∷ more_items_rule
    ∷ item_rule ∷ item_range_rule ∷ item_actual_rule ∷ actual_rule ∷ expr_rule ∷ expr_rest_rule
    ∷ more_ands_rule ∷ more_ors_rule ∷ more_xors_rule ∷ more_xnors_rule ∷ rel_rule ∷ rel_rest_rule
    ∷ sum_rule ∷ sign_rule ∷ more_terms_rule ∷ term_rule ∷ more_factors_rule ∷ factor_rule
    ∷ prim_rule ∷ id_rule
    ∷ []
