-- Timing checks and their ports, rule by rule as the grammar is printed.
use Rattle.std.specs.Prelude.{List, [], ◌∷◌}
use Rattle.vital_ll.specs.declared.grammar.Sym.{Sym}
use Rattle.vital_sdf_lexemes.specs.declared.kinds.Kind.TheVariants as kind
use Rattle.vital_sdf_grammar.specs.RuleNumbers.{word, chk, chks, tp, one, any, tp_rest, edge, optional_string, titem, titems, titem_rest, inner, val}

-- chks = { "(" chk ")" }
abbrev pub chks_rule : List (List Sym)
chks_rule =
    []
    ∷ (word kind.LeftParenthesis ∷ chk ∷ word kind.RightParenthesis ∷ chks ∷ [])
    ∷ []

-- chk = ( SETUP | HOLD | RECOVERY | REMOVAL ) tp tp one | ( SETUPHOLD | RECREM ) tp tp one one | ( PERIOD | WIDTH ) tp one | ( SKEW |
--     NOCHANGE | BIDIRECTSKEW ) any
abbrev pub chk_rule : List (List Sym)
chk_rule =
    (word kind.Setup ∷ tp ∷ tp ∷ one ∷ [])
    ∷ (word kind.Hold ∷ tp ∷ tp ∷ one ∷ [])
    ∷ (word kind.Recovery ∷ tp ∷ tp ∷ one ∷ [])
    ∷ (word kind.Removal ∷ tp ∷ tp ∷ one ∷ [])
    ∷ (word kind.SetupHold ∷ tp ∷ tp ∷ one ∷ one ∷ [])
    ∷ (word kind.RecRem ∷ tp ∷ tp ∷ one ∷ one ∷ [])
    ∷ (word kind.Period ∷ tp ∷ one ∷ [])
    ∷ (word kind.Width ∷ tp ∷ one ∷ [])
    ∷ (word kind.Skew ∷ any ∷ [])
    ∷ (word kind.NoChange ∷ any ∷ [])
    ∷ (word kind.BidirectSkew ∷ any ∷ [])
    ∷ []

-- tp = WORD | "(" ( ( POSEDGE | NEGEDGE ) WORD | COND [ STRING ] titem { titem } ) ")"
abbrev pub tp_rule : List (List Sym)
tp_rule =
    (word kind.Word ∷ [])
    ∷ (word kind.LeftParenthesis ∷ tp_rest ∷ word kind.RightParenthesis ∷ [])
    ∷ []

-- tp_rest = ( POSEDGE | NEGEDGE ) WORD | COND [ STRING ] titem { titem }
abbrev pub tp_rest_rule : List (List Sym)
tp_rest_rule =
    (edge ∷ word kind.Word ∷ [])
    ∷ (word kind.Cond ∷ optional_string ∷ titem ∷ titems ∷ [])
    ∷ []

-- titems = { titem }
abbrev pub titems_rule : List (List Sym)
titems_rule =
    []
    ∷ (titem ∷ titems ∷ [])
    ∷ []

-- titem = WORD | NUM | "(" ( ( POSEDGE | NEGEDGE ) WORD | inner ) ")"
abbrev pub titem_rule : List (List Sym)
titem_rule =
    (word kind.Word ∷ [])
    ∷ (word kind.Number ∷ [])
    ∷ (word kind.LeftParenthesis ∷ titem_rest ∷ word kind.RightParenthesis ∷ [])
    ∷ []

-- titem_rest = ( POSEDGE | NEGEDGE ) WORD | inner
abbrev pub titem_rest_rule : List (List Sym)
titem_rest_rule =
    (edge ∷ word kind.Word ∷ [])
    ∷ (inner ∷ [])
    ∷ []

-- one = "(" val ")"
abbrev pub one_rule : List (List Sym)
one_rule =
    (word kind.LeftParenthesis ∷ val ∷ word kind.RightParenthesis ∷ [])
    ∷ []

unfoldable pub check_rules : List (List (List Sym))
check_rules =
    chks_rule ∷ chk_rule ∷ tp_rule ∷ tp_rest_rule ∷ titems_rule ∷ titem_rule
    ∷ titem_rest_rule ∷ one_rule
    ∷ []
