-- The reader of a file takes all of it, and its units stand along its tokens.
use Rattle.std.proofs.Common.{◌≡◌, ℕ, List, [], ◌++◌, length, Some, le_refl, ap, ◌∙◌, subst, subst₂, append-nil}
use Rattle.std.specs.Option.{option_map}
use Rattle.vital_grammar.specs.Grammar.{grammar}
use Rattle.vital_lex.specs.declared.token_list.Token.{Token}
use Rattle.vital_ll.specs.Sentence.{IsTreeOf}
use Rattle.vital_ll.specs.declared.derivation.Step.{Step}
use Rattle.vital_nodes.specs.declared.unit.Unit.{Unit as Unit'}
use Rattle.vital_shapes.specs.Reading.{kinds_of}
use Rattle.vital_shapes.specs.Shapes.{file_units, shape}
use Rattle.vital_shapes.proofs.Along.{Source}
use Rattle.vital_shapes.proofs.Deriving.{taken}
use Rattle.vital_shapes.proofs.Units.{file_units_take}
use Rattle.vital_shapes.proofs.UnitsAlong.{UnitsAlong}

-- the units of a file, of which nothing is left
pub record FileRead (file : ℕ) (text : List ℕ) (tokens : List Token) (tree : List Step) : Type 0 where
  pub units : List Unit'
  pub answers : file_units (record { steps = tree; tokens = tokens; text = text; file = file }) ≡ Some (units, record { steps = []; tokens = []; text = text; file = file })
  pub along : UnitsAlong (record { file = file; text = text }) tokens units []

pub file_read : (file : ℕ) (text : List ℕ) (tokens : List Token) (tree : List Step) → IsTreeOf grammar (kinds_of tokens) tree → FileRead file text tokens tree
file_read file text tokens tree d =
    let o : Source = record { file = file; text = text } in
    let levels = length (tree ++ []) in
    let t = taken levels file text tokens [] tree [] (le_refl levels) file_units_take d in
    record {
      units = t.answer;
      answers = subst₂ (λ (steps : List Step) (l : List Token). file_units (record { steps = steps; tokens = l; text = text; file = file }) ≡ Some (t.answer, record { steps = []; tokens = []; text = text; file = file }))
          (append-nil tree) (append-nil tokens) t.answers;
      along = subst (λ (l : List Token). UnitsAlong o l t.answer []) (append-nil tokens) t.good;
    }

-- the same of the units of its shape
pub shape_read : (file : ℕ) (text : List ℕ) (tokens : List Token) (tree : List Step) (units : List Unit') → IsTreeOf grammar (kinds_of tokens) tree →
    shape file text tokens tree ≡ Some units →
    (file_units (record { steps = tree; tokens = tokens; text = text; file = file }) ≡ Some (units, record { steps = []; tokens = []; text = text; file = file }))
    × UnitsAlong (record { file = file; text = text }) tokens units []
shape_read file text tokens tree units d e =
    let o : Source = record { file = file; text = text } in
    let f = file_read file text tokens tree d in
    let shaped : shape file text tokens tree ≡ Some f.units = ap (λ answer. option_map (λ read. read.0) answer) f.answers in
    let same : f.units ≡ units = cc (e, shaped) in (
      f.answers ∙ ap (λ found. Some (found, record { steps = []; tokens = []; text = text; file = file })) same,
      subst (λ found. UnitsAlong o tokens found []) same f.along,
    )
