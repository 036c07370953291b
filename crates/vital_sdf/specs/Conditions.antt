-- The conditions of delays and of the ports of timing checks.
use Rattle.std.specs.Prelude.{ℕ, ◌-◌, ◌==◌, ◌||◌, Bool, if◌then◌else◌, List, [], ◌++◌, codes, flat_map, length, position, take, drop, slice_index_or, Option, Some, None, Ok, unwrap_or}
use Rattle.vital_lex.specs.declared.token_list.Token.{Token}
use Rattle.vital_sdf_lexemes.specs.Kinds.{number}
use Rattle.vital_sdf_lexemes.specs.declared.kinds.Kind.TheVariants as kind
use Rattle.vital_sdf_words.specs.Conditions.{condition_name, quoted_condition_name}
use Rattle.vital_sdf_words.specs.Paths.{parts}
use Rattle.vital_sdf.specs.declared.check_port.CheckPort.{CheckPort}
use Rattle.vital_sdf.specs.declared.entry.Edge.{Edge}
use Rattle.vital_sdf.specs.declared.entry.Port.{Port}
use Rattle.vital_sdf.specs.Reading.{Input, Reader, ◌>>=◌, ◌>>◌, pure, kind_here, skip, quoted, enclosed, no_token, spelling_of}
use Rattle.vital_sdf.specs.Ports.{port_of, port_of_parts, edge_of, edge_port}

abbrev pub is_parenthesis : Token → Bool
is_parenthesis t = t.kind == number kind.LeftParenthesis || t.kind == number kind.RightParenthesis

-- the bytes of a lexeme, and none of a parenthesis
abbrev pub joined_of : List ℕ → Token → List ℕ
joined_of text t = if is_parenthesis t then [] else spelling_of text t

-- the bytes of lexemes without parentheses, with nothing between them
abbrev pub joined : List ℕ → List Token → List ℕ
joined text tokens = flat_map (joined_of text) tokens

-- [ STRING ]: the name that it gives
unfoldable pub quoted_name : Reader (Option (List ℕ))
quoted_name = do
  k ← kind_here
  if k == number kind.Text then (quoted >>= λ text. pure (Some (quoted_condition_name text))) else pure None

-- the name that a string gives, or else these lexemes
abbrev pub name_of : List ℕ → List Token → Option (List ℕ) → List ℕ
name_of text tokens None = condition_name (joined text tokens)
name_of text tokens (Some name) = name

-- ---- conditions of delays

-- where the next IOPATH stands
abbrev pub path_at : List Token → Option ℕ
path_at tokens = position (λ t. t.kind == number kind.IoPath) tokens

-- how many tokens stand before it
abbrev pub count_before_path : List Token → ℕ
count_before_path tokens = unwrap_or (path_at tokens) (length tokens)

-- takes the tokens before the next IOPATH
unfoldable pub before_path : Reader (List Token)
before_path = λ i. Ok (take (count_before_path i.tokens) i.tokens, record i { tokens = drop (count_before_path i.tokens) i.tokens })

-- [ STRING ] cond, up to IOPATH: the name of the condition. An IOPATH stands in no condition, since behind a parenthesis it is a
-- keyword.
unfoldable pub condition : Reader (List ℕ)
condition = do
  given ← quoted_name
  tokens ← before_path
  λ i. Ok (name_of i.text tokens given, i)

-- ---- ports of timing checks

-- the token that is so many before the end
abbrev pub token_from_end : List Token → ℕ → Token
token_from_end items back = slice_index_or items (length items - back) no_token

abbrev pub ends_with_word : List Token → Bool
ends_with_word items = (token_from_end items 1).kind == number kind.Word

-- a token as a port
abbrev pub port_at : Input → Token → Option Edge → Port
port_at i t e = port_of_parts (parts i.divider (spelling_of i.text t)) e

abbrev pub port_with_edge : Input → List Token → Option Edge → Option Port
port_with_edge i items None = None
port_with_edge i items (Some e) = Some (port_at i (token_from_end items 2) (Some e))

-- The port that items end with: a WORD, or an edge with a WORD in parentheses, whose keyword is the last token but two.
abbrev pub last_port : Input → List Token → Option Port
last_port i items =
    if ends_with_word items then Some (port_at i (token_from_end items 1) None)
    else port_with_edge i items (edge_of (token_from_end items 3).kind)

-- the tokens before that port, which is one token or four
abbrev pub before_last : List Token → List Token
before_last items = take (length items - (if ends_with_word items then 1 else 4)) items

-- behind COND: [ STRING ] titem { titem }
unfoldable pub conditional_port : Reader CheckPort
conditional_port = do
  given ← quoted_name
  items ← enclosed
  λ i. Ok (record { condition = Some (name_of i.text (before_last items) given); port = last_port i items }, i)

abbrev pub unconditional : Port → CheckPort
unconditional p = record { condition = None; port = Some p }

-- ( POSEDGE | NEGEDGE ) WORD | COND [ STRING ] titem { titem }
unfoldable pub inner_port : Reader CheckPort
inner_port = do
  k ← kind_here
  if k == number kind.Cond then skip >> conditional_port else (edge_port >>= λ p. pure (unconditional p))

-- tp = WORD | "(" ( ( POSEDGE | NEGEDGE ) WORD | COND [ STRING ] titem { titem } ) ")"
unfoldable pub check_port : Reader CheckPort
check_port = do
  k ← kind_here
  if k == number kind.LeftParenthesis then (do
    skip
    found ← inner_port
    skip
    pure found) else (port_of None >>= λ p. pure (unconditional p))

-- the condition of a check, of those of its two ports
abbrev pub both_conditions : Option (List ℕ) → Option (List ℕ) → Option (List ℕ)
both_conditions None second = second
both_conditions (Some first) None = Some first
both_conditions (Some first) (Some second) = Some (first ++ codes "_and_" ++ second)
