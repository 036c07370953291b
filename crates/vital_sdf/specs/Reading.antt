-- How an SDF file is read whose tokens the grammar takes: rule by rule, where the next token decides between the alternatives of
-- a rule. A reader takes from the front of the tokens, and answers what it reads, or the fault that it meets with the place of its
-- keyword. Where nothing is left, the next token is an empty one of no kind at the beginning of the file.
use Rattle.std.specs.Prelude.{ℕ, zero, suc, ◌+◌, ◌-◌, ◌==◌, if◌then◌else◌, List, [], ◌∷◌, length, take, drop, slice_range, Result, Ok, Err}
use Rattle.vital_base.specs.declared.place.Place.{Place}
use Rattle.vital_lex.specs.Places.{line_of, column_of}
use Rattle.vital_lex.specs.declared.token_list.Token.{Token}
use Rattle.vital_sdf_lexemes.specs.Kinds.{number}
use Rattle.vital_sdf_lexemes.specs.declared.kinds.Kind.TheVariants as kind
use Rattle.vital_sdf.specs.declared.sdf_fault.SdfFault.{SdfFault}

pub record Input : Type 0 where
  -- the tokens from the next one on
  pub tokens : List Token
  -- the text of the file, and its number
  pub text : List ℕ
  pub file : ℕ
  -- the divider of paths and the unit of values that count here; a unit is ten to this power femtoseconds
  pub divider : ℕ
  pub power : ℕ

abbrev pub Failure : Type 0
Failure = SdfFault × Place

abbrev pub Reader : Type 0 → Type 0
Reader A = Input → Result (A × Input) Failure

-- what a reader gives, and the next one from there
abbrev pub onward : {A B : Type 0} → Result (A × Input) Failure → (A → Reader B) → Result (B × Input) Failure
onward (Err failure) f = Err failure
onward (Ok read) f = f read.0 read.1

infixl 10 ◌>>=◌
abbrev pub ◌>>=◌ : {A B : Type 0} → Reader A → (A → Reader B) → Reader B
p >>= f = λ i. onward (p i) f

infixl 10 ◌>>◌
abbrev pub ◌>>◌ : {A B : Type 0} → Reader A → Reader B → Reader B
p >> q = λ i. onward (p i) (λ _. q)

abbrev pub pure : {A : Type 0} → A → Reader A
pure a = λ i. Ok (a, i)

abbrev pub fails : {A : Type 0} → SdfFault → Place → Reader A
fails fault p = λ i. Err (fault, p)

-- ---- tokens

abbrev pub no_token : Token
no_token = record { kind = 65535; start = 0; end = 0 }

abbrev pub first_token : List Token → Token
first_token [] = no_token
first_token (t ∷ tokens) = t

unfoldable pub next_token : Input → Token
next_token i = first_token i.tokens

unfoldable pub past_token : Input → Input
past_token i = record i { tokens = drop 1 i.tokens }

-- how many tokens are left
unfoldable pub left : Input → ℕ
left i = length i.tokens

-- the kind of the next token
abbrev pub kind_here : Reader ℕ
kind_here = λ i. Ok ((next_token i).kind, i)

-- passes over a token
abbrev pub skip : Reader (Unit {0})
skip = λ i. Ok (tt, past_token i)

-- takes a token for its kind
abbrev pub taken : Reader ℕ
taken = kind_here >>= λ k. skip >> pure k

unfoldable pub place_at : ℕ → List ℕ → ℕ → Place
place_at file text offset = record { file = file; line = line_of text offset; column = column_of text offset }

-- the place of the next token
unfoldable pub next_place : Input → Place
next_place i = place_at i.file i.text (next_token i).start

abbrev pub place : Reader Place
place = λ i. Ok (next_place i, i)

abbrev pub spelling_of : List ℕ → Token → List ℕ
spelling_of text t = slice_range text t.start t.end

-- takes a token for its bytes
abbrev pub spelling : Reader (List ℕ)
spelling = λ i. Ok (spelling_of i.text (next_token i), past_token i)

-- the bytes between the quotes of a string
abbrev pub between_quotes : List ℕ → Token → List ℕ
between_quotes text t = slice_range text (t.start + 1) (t.end - 1)

-- takes a string for what it quotes
abbrev pub quoted : Reader (List ℕ)
quoted = λ i. Ok (between_quotes i.text (next_token i), past_token i)

-- ---- any number of them in parentheses

-- How many tokens stand before the parenthesis that closes what is open around them, where so many are open among them.
unfoldable pub closing : ℕ → List Token → ℕ
closing depth [] = 0
closing depth (t ∷ tokens) =
    if t.kind == number kind.LeftParenthesis then 1 + closing (depth + 1) tokens
    else if t.kind == number kind.RightParenthesis then (if depth == 0 then 0 else 1 + closing (depth - 1) tokens)
    else 1 + closing depth tokens

-- any, inner, { titem }: takes the tokens up to that parenthesis
unfoldable pub enclosed : Reader (List Token)
enclosed = λ i. Ok (take (closing 0 i.tokens) i.tokens, record i { tokens = drop (closing 0 i.tokens) i.tokens })

-- { "(" item ")" }: what the items make in turn of what was there. Each turn takes a token, so the number of tokens left bounds
-- the turns.
unfoldable pub repeated_from : {A : Type 0} → (A → Reader A) → ℕ → A → Reader A
repeated_from item zero a = pure a
repeated_from item (suc turns) a = do
  k ← kind_here
  if k == number kind.LeftParenthesis then (do
    skip
    b ← item a
    skip
    repeated_from item turns b) else pure a

abbrev pub repeated : {A : Type 0} → (A → Reader A) → A → Reader A
repeated item a = λ i. repeated_from item (left i) a i
