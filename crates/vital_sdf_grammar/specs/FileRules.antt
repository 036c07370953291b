-- Files, their headers and cells, rule by rule as the grammar is printed.
use Rattle.std.specs.Prelude.{List, [], ◌∷◌}
use Rattle.vital_ll.specs.declared.grammar.Sym.{Sym}
use Rattle.vital_sdf_lexemes.specs.declared.kinds.Kind.TheVariants as kind
use Rattle.vital_sdf_grammar.specs.RuleNumbers.{word, blocks, block, head, parts, scale, any, optional_word, atom, part, delays, chks}

-- sdf = "(" DELAYFILE { "(" ( head | CELL { "(" part ")" } ) ")" } ")"
abbrev pub sdf_rule : List (List Sym)
sdf_rule =
    (word kind.LeftParenthesis ∷ word kind.DelayFile ∷ blocks ∷ word kind.RightParenthesis ∷ [])
    ∷ []

-- blocks = { "(" ( head | CELL { "(" part ")" } ) ")" }
abbrev pub blocks_rule : List (List Sym)
blocks_rule =
    []
    ∷ (word kind.LeftParenthesis ∷ block ∷ word kind.RightParenthesis ∷ blocks ∷ [])
    ∷ []

-- block = head | CELL { "(" part ")" }
abbrev pub block_rule : List (List Sym)
block_rule =
    (head ∷ [])
    ∷ (word kind.Cell ∷ parts ∷ [])
    ∷ []

-- head = DIVIDER WORD | TIMESCALE ( WORD | NUM [ WORD ] ) | ( SDFVERSION | DESIGN | DATE | VENDOR | PROGRAM | VERSION | PROCESS | VOLTAGE |
--     TEMPERATURE ) any
abbrev pub head_rule : List (List Sym)
head_rule =
    (word kind.Divider ∷ word kind.Word ∷ [])
    ∷ (word kind.TimeScale ∷ scale ∷ [])
    ∷ (word kind.SdfVersion ∷ any ∷ [])
    ∷ (word kind.Design ∷ any ∷ [])
    ∷ (word kind.Date ∷ any ∷ [])
    ∷ (word kind.Vendor ∷ any ∷ [])
    ∷ (word kind.Program ∷ any ∷ [])
    ∷ (word kind.Version ∷ any ∷ [])
    ∷ (word kind.Process ∷ any ∷ [])
    ∷ (word kind.Voltage ∷ any ∷ [])
    ∷ (word kind.Temperature ∷ any ∷ [])
    ∷ []

-- scale = WORD | NUM [ WORD ]
abbrev pub scale_rule : List (List Sym)
scale_rule =
    (word kind.Word ∷ [])
    ∷ (word kind.Number ∷ optional_word ∷ [])
    ∷ []

-- optional_word = [ WORD ]
abbrev pub optional_word_rule : List (List Sym)
optional_word_rule =
    []
    ∷ (word kind.Word ∷ [])
    ∷ []

-- any = { atom | "(" any ")" }
abbrev pub any_rule : List (List Sym)
any_rule =
    []
    ∷ (atom ∷ any ∷ [])
    ∷ (word kind.LeftParenthesis ∷ any ∷ word kind.RightParenthesis ∷ any ∷ [])
    ∷ []

-- atom = every lexeme but the parentheses
abbrev pub atom_rule : List (List Sym)
atom_rule =
    (word kind.Colon ∷ [])
    ∷ (word kind.Text ∷ [])
    ∷ (word kind.Number ∷ [])
    ∷ (word kind.Word ∷ [])
    ∷ (word kind.DelayFile ∷ [])
    ∷ (word kind.SdfVersion ∷ [])
    ∷ (word kind.Design ∷ [])
    ∷ (word kind.Date ∷ [])
    ∷ (word kind.Vendor ∷ [])
    ∷ (word kind.Program ∷ [])
    ∷ (word kind.Version ∷ [])
    ∷ (word kind.Divider ∷ [])
    ∷ (word kind.Voltage ∷ [])
    ∷ (word kind.Process ∷ [])
    ∷ (word kind.Temperature ∷ [])
    ∷ (word kind.TimeScale ∷ [])
    ∷ (word kind.Cell ∷ [])
    ∷ (word kind.CellType ∷ [])
    ∷ (word kind.Instance ∷ [])
    ∷ (word kind.TimingEnv ∷ [])
    ∷ (word kind.Label ∷ [])
    ∷ (word kind.Delay ∷ [])
    ∷ (word kind.Absolute ∷ [])
    ∷ (word kind.Increment ∷ [])
    ∷ (word kind.PathPulse ∷ [])
    ∷ (word kind.PathPulsePercent ∷ [])
    ∷ (word kind.IoPath ∷ [])
    ∷ (word kind.Port ∷ [])
    ∷ (word kind.Interconnect ∷ [])
    ∷ (word kind.Device ∷ [])
    ∷ (word kind.NetDelay ∷ [])
    ∷ (word kind.Cond ∷ [])
    ∷ (word kind.CondElse ∷ [])
    ∷ (word kind.Retain ∷ [])
    ∷ (word kind.PosEdge ∷ [])
    ∷ (word kind.NegEdge ∷ [])
    ∷ (word kind.TimingCheck ∷ [])
    ∷ (word kind.Setup ∷ [])
    ∷ (word kind.Hold ∷ [])
    ∷ (word kind.SetupHold ∷ [])
    ∷ (word kind.Recovery ∷ [])
    ∷ (word kind.Removal ∷ [])
    ∷ (word kind.RecRem ∷ [])
    ∷ (word kind.Skew ∷ [])
    ∷ (word kind.BidirectSkew ∷ [])
    ∷ (word kind.Width ∷ [])
    ∷ (word kind.Period ∷ [])
    ∷ (word kind.NoChange ∷ [])
    ∷ []

-- parts = { "(" part ")" }
abbrev pub parts_rule : List (List Sym)
parts_rule =
    []
    ∷ (word kind.LeftParenthesis ∷ part ∷ word kind.RightParenthesis ∷ parts ∷ [])
    ∷ []

-- part = CELLTYPE STRING | INSTANCE [ WORD ] | ( TIMINGENV | LABEL ) any | DELAY { "(" ( ( ABSOLUTE | INCREMENT ) { "(" del ")" } | (
--     PATHPULSE | PATHPULSEPERCENT ) any ) ")" } | TIMINGCHECK { "(" chk ")" }
abbrev pub part_rule : List (List Sym)
part_rule =
    (word kind.CellType ∷ word kind.Text ∷ [])
    ∷ (word kind.Instance ∷ optional_word ∷ [])
    ∷ (word kind.TimingEnv ∷ any ∷ [])
    ∷ (word kind.Label ∷ any ∷ [])
    ∷ (word kind.Delay ∷ delays ∷ [])
    ∷ (word kind.TimingCheck ∷ chks ∷ [])
    ∷ []

unfoldable pub file_rules : List (List (List Sym))
file_rules =
    sdf_rule ∷ blocks_rule ∷ block_rule ∷ head_rule ∷ scale_rule ∷ optional_word_rule
    ∷ any_rule ∷ atom_rule ∷ parts_rule ∷ part_rule
    ∷ []
