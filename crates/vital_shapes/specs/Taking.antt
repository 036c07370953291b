-- What it means that a reader takes just what symbols of the grammar derive.
use Rattle.std.specs.Prelude.{◌≡◌, ◌≤◌, ℕ, List, ◌++◌, length, Some}
use Rattle.vital_grammar.specs.Grammar.{grammar}
use Rattle.vital_ll.specs.Grammar.{Derives}
use Rattle.vital_ll.specs.declared.derivation.Step.{Step}
use Rattle.vital_ll.specs.declared.grammar.Sym.{Sym}
use Rattle.vital_lex.specs.declared.token_list.Token.{Token}
use Rattle.vital_shapes.specs.Reading.{Reader, kinds_of}

-- Wherever the symbols derive the tokens by the steps, whatever may stand behind these, the reader answers, so that it meets an
-- identifier wherever it reads one; and it leaves what stands behind them.
abbrev pub TakesAll : {A : Type 0} → List Sym → Reader A → Type 0
TakesAll {A} symbols reader =
    (file : ℕ) (text : List ℕ) (tokens more_tokens : List Token) (steps more_steps : List Step)
    → Derives grammar symbols (kinds_of tokens) steps
    → (answer : A) × (reader (record { steps = steps ++ more_steps; tokens = tokens ++ more_tokens; text = text; file = file })
    ≡ Some (answer, record { steps = more_steps; tokens = more_tokens; text = text; file = file }))

-- The same of a reader of what may be nested, that may read so many levels or fewer. Each level takes a step, so as many levels as
-- there are steps serve.
abbrev pub TakesWithin : {A : Type 0} → List Sym → (ℕ → Reader A) → Type 0
TakesWithin {A} symbols reader =
    (levels file : ℕ) (text : List ℕ) (tokens more_tokens : List Token) (steps more_steps : List Step)
    → length (steps ++ more_steps) ≤ levels
    → Derives grammar symbols (kinds_of tokens) steps
    → (answer : A) × (reader levels (record { steps = steps ++ more_steps; tokens = tokens ++ more_tokens; text = text; file = file })
    ≡ Some (answer, record { steps = more_steps; tokens = more_tokens; text = text; file = file }))
