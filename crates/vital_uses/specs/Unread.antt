-- What is given to formals and not read.
use Rattle.std.specs.Prelude.{ℕ, Bool, false, List, [], ◌∷◌, Option, None, codes}
use Rattle.std.specs.List.{list_any}
use Rattle.std.specs.Option.{option_and_then, option_map, option_map_or}
use Rattle.std.specs.Str.{bytes_eq}
use Rattle.vital_nodes.specs.declared.expr.Actual.TheOpen.{Choice-F}
use Rattle.vital_nodes.specs.declared.expr.Actual.TheViews.{out-Choice}
use Rattle.vital_nodes.specs.declared.expr.Choice.{Choice}
use Rattle.vital_nodes.specs.declared.expr.Item.{Item}
use Rattle.vital_nodes.specs.declared.identifier.Identifier.{Identifier}
use Rattle.vital_nodes.specs.Layers.{ChoiceLayer}
use Rattle.vital_nodes.specs.Items.{actual, formal}
use Rattle.vital_nodes.specs.Names.{identifier_of}
use Rattle.vital_uses.specs.declared.unread.GivenAlone.{GivenAlone as GivenAlone'}

-- What is given to one of these is written or kept by the procedure, and not read. Their names alone tell them: it isn't asked
-- whether a call is of a procedure that has them.
abbrev pub unread_formals : List (List ℕ)
unread_formals =
    codes "glitchdata" ∷ codes "timingdata" ∷ codes "perioddata" ∷ codes "violation" ∷ codes "result" ∷ codes "previousdatain" ∷ codes "outsignal" ∷ []

abbrev pub is_unread_formal : List ℕ → Bool
is_unread_formal name = list_any (λ word. bytes_eq name word) unread_formals

-- A formal and its actual, each an identifier alone.
pub record GivenAlone : Type 0 where
  pub formal : Identifier
  pub actual : Identifier

-- What is borrowed of them.
abbrev pub lent_given : GivenAlone' → GivenAlone
lent_given g = record { formal = g.formal.now; actual = g.actual.now }

-- The formal before `=>` that is an identifier alone.
abbrev pub identifier_in_choice : ChoiceLayer → Option Identifier
identifier_in_choice (Choice-F.Choice::Value e) = identifier_of e
identifier_in_choice (Choice-F.Range r) = None

abbrev pub identifier_of_choice : Choice → Option Identifier
identifier_of_choice c = identifier_in_choice (out-Choice c)

abbrev pub given_alone : Item → Option GivenAlone
given_alone i =
    option_and_then (λ f. option_map (λ a. record { formal = f; actual = a }) (option_and_then identifier_of (actual i)))
    (option_and_then identifier_of_choice (formal i))

-- An item that gives an identifier alone to a formal that isn't read.
abbrev pub is_unread : Item → Bool
is_unread i = option_map_or (λ g. is_unread_formal g.formal.name) (given_alone i) false
