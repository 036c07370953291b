-- A small grammar with an option and a repetition, on which definitions and laws are tried:
-- file = { line } ;  line = name [ "=" name ] ";" ;  name is token 0, "=" token 1 and ";" token 2
use Rattle.std.specs.Prelude.{ℕ, true, false, List, [], ◌∷◌}
use Rattle.vital_ll.specs.declared.grammar.Sym.TheVariants.{Token, Rule}
use Rattle.vital_ll.specs.Grammar.{Grammar}
use Rattle.vital_ll.specs.Masks.{MaskTable}

abbrev pub example : Grammar
example =
    ((Rule 1 ∷ Rule 0 ∷ []) ∷ [] ∷ [])
    ∷ ((Token 0 ∷ Rule 2 ∷ Token 2 ∷ []) ∷ [])
    ∷ ((Token 1 ∷ Token 0 ∷ []) ∷ [] ∷ [])
    ∷ []

-- bit 0 is the end's, bit 1 that of name, bit 2 that of "=", bit 3 that of ";"
abbrev pub example_masks : MaskTable
example_masks = (true, 2, 1) ∷ (false, 2, 3) ∷ (true, 4, 8) ∷ []

abbrev pub example_ranks : List ℕ
example_ranks = 0 ∷ 1 ∷ 0 ∷ []

-- the file leads with a line
abbrev pub example_leads : List ℕ
example_leads = 1 ∷ 0 ∷ 0 ∷ []

-- Two rules that the next token does not decide: rule 1, where the empty alternative competes with what follows, and rule 2:
-- text = [ name ] name tail ;  tail = "=" | "=" name
abbrev pub undecided : Grammar
undecided =
    ((Rule 1 ∷ Token 0 ∷ Rule 2 ∷ []) ∷ [])
    ∷ ((Token 0 ∷ []) ∷ [] ∷ [])
    ∷ ((Token 1 ∷ []) ∷ (Token 1 ∷ Token 0 ∷ []) ∷ [])
    ∷ []

abbrev pub undecided_ranks : List ℕ
undecided_ranks = 1 ∷ 0 ∷ 0 ∷ []

-- A rule that leads back to itself past an option: text = [ "=" ] text name
abbrev pub hidden_recursion : Grammar
hidden_recursion =
    ((Rule 1 ∷ Rule 0 ∷ Token 0 ∷ []) ∷ [])
    ∷ ((Token 1 ∷ []) ∷ [] ∷ [])
    ∷ []

abbrev pub hidden_masks : MaskTable
hidden_masks = (false, 4, 3) ∷ (true, 4, 4) ∷ []
