-- What a cursor has left to read.
use Rattle.std.specs.Prelude.{ℕ, List, All, slice_range}
use Rattle.vital_lex.specs.TextPosition.{IsPosition}
use Rattle.vital_lex.specs.declared.token_list.Token.{Token}
use Rattle.vital_nodes.specs.IdentifierNames.{IsNamedWell}
use Rattle.vital_shapes.specs.Reading.{Input}
use Rattle.vital_vhdl.specs.declared.cursor.Cursor.TheInside.{Inside}

abbrev pub input_of : Inside → Input
input_of c = record { steps = c.steps.now; tokens = c.tokens.now; text = c.text.now; file = c.file }

-- what a token of the text is named, if it is an identifier, is well formed
abbrev pub HasName : List ℕ → Token → Type 0
HasName text t = IsNamedWell t.kind (slice_range text t.start t.end)

-- the same of each token
abbrev pub HaveNames : List ℕ → List Token → Type 0
HaveNames text tokens = All (HasName text) tokens

-- the position is one of the text, and the tokens have names
pub record IsReady (c : Inside) : Type 0 where
  pub position : IsPosition c.text.now c.position
  pub names : HaveNames c.text.now c.tokens.now
