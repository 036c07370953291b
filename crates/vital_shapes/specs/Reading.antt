-- What shapes are read from: the steps of a file's derivation, each with the alternative that was chosen, and its tokens. A
-- reader takes from the fronts of both and answers a part of a shape, or none where no identifier stands where it reads one.
-- Where nothing is left, the next alternative is 0, and the next token is an empty one of no kind at the beginning of the file.
use Rattle.std.specs.Prelude.{ℕ, zero, suc, ◌==◌, Bool, true, false, if◌then◌else◌, List, [], ◌∷◌, ◌++◌, length, map, drop, slice_range, Option, Some, None}
use Rattle.vital_ll.specs.declared.derivation.Step.{Step}
use Rattle.vital_lex.specs.declared.token_list.Token.{Token}
use Rattle.vital_lex.specs.Places.{line_of, column_of}
use Rattle.vital_base.specs.declared.place.Place.{Place}
use Rattle.vital_nodes.specs.IdentifierNames.{name_of}
use Rattle.vital_nodes.specs.declared.identifier.Identifier.{Identifier}

pub record Input : Type 0 where
  -- the steps of the derivation from the next one on
  pub steps : List Step
  -- the tokens from the next one on
  pub tokens : List Token
  -- the text of the file, and its number
  pub text : List ℕ
  pub file : ℕ

abbrev pub Reader : Type 0 → Type 0
Reader A = Input → Option (A × Input)

-- what a reader gives, and the next one from there
abbrev pub onward : {A B : Type 0} → Option (A × Input) → (A → Reader B) → Option (B × Input)
onward None f = None
onward (Some read) f = f read.0 read.1

infixl 10 ◌>>=◌
abbrev pub ◌>>=◌ : {A B : Type 0} → Reader A → (A → Reader B) → Reader B
p >>= f = λ i. onward (p i) f

infixl 10 ◌>>◌
abbrev pub ◌>>◌ : {A B : Type 0} → Reader A → Reader B → Reader B
p >> q = λ i. onward (p i) (λ _. q)

abbrev pub pure : {A : Type 0} → A → Reader A
pure a = λ i. Some (a, i)

-- gives what is there, and else none
abbrev pub given : {A : Type 0} → Option A → Reader A
given None = λ i. None
given (Some a) = pure a

-- ---- steps

abbrev pub first_alternative : List Step → ℕ
first_alternative [] = 0
first_alternative (s ∷ steps) = s.alternative

-- the alternative that the next step chose
unfoldable pub alternative : Input → ℕ
alternative i = first_alternative i.steps

unfoldable pub past_step : Input → Input
past_step i = record i { steps = drop 1 i.steps }

abbrev pub choice : Reader ℕ
choice = λ i. Some (alternative i, past_step i)

-- how many steps are left
unfoldable pub left : Input → ℕ
left i = length i.steps

-- ---- tokens

-- the kinds of tokens, by which the grammar names them
abbrev pub kinds_of : List Token → List ℕ
kinds_of tokens = map (λ t. t.kind) tokens

abbrev pub no_token : Token
no_token = record { kind = 65535; start = 0; end = 0 }

abbrev pub first_token : List Token → Token
first_token [] = no_token
first_token (t ∷ tokens) = t

unfoldable pub next_token : Input → Token
next_token i = first_token i.tokens

unfoldable pub past_token : Input → Input
past_token i = record i { tokens = drop 1 i.tokens }

-- passes over a token
abbrev pub skip : Reader (Unit {0})
skip = λ i. Some (tt, past_token i)

unfoldable pub place_at : ℕ → List ℕ → ℕ → Place
place_at file text offset = record { file = file; line = line_of text offset; column = column_of text offset }

-- the place of the next token
unfoldable pub next_place : Input → Place
next_place i = place_at i.file i.text (next_token i).start

abbrev pub place : Reader Place
place = λ i. Some (next_place i, i)

-- the bytes of the next token
unfoldable pub next_spelling : Input → List ℕ
next_spelling i = slice_range i.text (next_token i).start (next_token i).end

-- takes a token for its bytes
abbrev pub spelling : Reader (List ℕ)
spelling = λ i. Some (next_spelling i, past_token i)

-- ---- identifiers

-- what the next token is named, if it is an identifier
unfoldable pub next_name : Input → Option (List ℕ)
next_name i = name_of (next_token i).kind (next_spelling i)

-- takes an identifier for its name
abbrev pub name_of_next : Reader (List ℕ)
name_of_next = λ i. given (next_name i) (past_token i)

-- id: a step, and a token for its name
unfoldable pub identifier : Reader Identifier
identifier = do
  choice
  at ← place
  called ← name_of_next
  pure (record { place = at; name = called })

-- ---- options

-- [ word ]: whether it is written
unfoldable pub is_written : Reader Bool
is_written = do
  c ← choice
  if c == 0 then pure false else skip >> pure true

-- [ id ] at the end of a construct, which is not compared
unfoldable pub closing : Reader (Unit {0})
closing = do
  c ← choice
  if c == 0 then pure tt else choice >> skip

-- ---- lists. Each turn takes a step, whose first alternative ends the list; so the number of steps left bounds the turns.

unfoldable pub lists_from : {A : Type 0} → (ℕ → Reader (List A)) → ℕ → List A → Reader (List A)
lists_from item zero found = pure found
lists_from item (suc turns) found = do
  c ← choice
  if c == 0 then pure found else (do xs ← item c; lists_from item turns (found ++ xs))

-- after those that were found, those that each further alternative gives
abbrev pub more_lists : {A : Type 0} → (ℕ → Reader (List A)) → List A → Reader (List A)
more_lists item found = λ i. lists_from item (left i) found i

abbrev pub alone : {A : Type 0} → (ℕ → Reader A) → ℕ → Reader (List A)
alone item c = item c >>= λ x. pure (x ∷ [])

-- after those that were found, the one that each further alternative gives
abbrev pub more : {A : Type 0} → (ℕ → Reader A) → List A → Reader (List A)
more item found = more_lists (alone item) found

abbrev pub many : {A : Type 0} → (ℕ → Reader A) → Reader (List A)
many item = more item []

-- what stands after a token
abbrev pub after : {A : Type 0} → Reader A → Reader A
after item = skip >> item

-- one, and any number more, each after a token that parts them
abbrev pub separated : {A : Type 0} → Reader A → Reader (List A)
separated item = item >>= λ x. more (λ _. after item) (x ∷ [])

-- id { "," id }
unfoldable pub identifiers : Reader (List Identifier)
identifiers = separated identifier
