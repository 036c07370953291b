-- Tables of lead ranks, by which a grammar is seen to have no left recursion.
use Rattle.std.specs.Prelude.{ℕ, ◌+◌, Bool, true, ◌&&◌, nat_lt, if◌then◌else◌, List, [], ◌∷◌, slice_index}
use Rattle.vital_ll.specs.declared.grammar.Sym.{Sym}
use Rattle.vital_ll.specs.declared.grammar.Sym.TheVariants.{Token, Rule}
use Rattle.vital_ll.specs.Grammar.{Grammar}
use Rattle.vital_ll.specs.Masks.{MaskTable, nullable_at}

-- the rules that the symbols can lead with, up to and with the first symbol that cannot be empty, have lower ranks
abbrev pub leads_lower : MaskTable → List ℕ → ℕ → List Sym → Bool
leads_lower table leads rank [] = true
leads_lower table leads rank (Token u ∷ rest) = true
leads_lower table leads rank (Rule r ∷ rest) =
    nat_lt (slice_index leads r) rank && (if nullable_at table r then leads_lower table leads rank rest else true)

-- the alternatives of a rule of this rank lead lower
abbrev pub alternatives_lead_lower : MaskTable → List ℕ → ℕ → List (List Sym) → Bool
alternatives_lead_lower table leads rank [] = true
alternatives_lead_lower table leads rank (c ∷ alternatives) =
    leads_lower table leads rank c && alternatives_lead_lower table leads rank alternatives

-- so do those of the rules from rule r on
abbrev pub rules_lead_lower : MaskTable → List ℕ → ℕ → Grammar → Bool
rules_lead_lower table leads r [] = true
rules_lead_lower table leads r (alternatives ∷ rules) =
    alternatives_lead_lower table leads (slice_index leads r) alternatives && rules_lead_lower table leads (r + 1) rules

-- each alternative can lead with rules of lower rank alone, so that no rule leads back to itself
abbrev pub has_no_left_recursion : Grammar → MaskTable → List ℕ → Bool
has_no_left_recursion g table leads = rules_lead_lower table leads 0 g
