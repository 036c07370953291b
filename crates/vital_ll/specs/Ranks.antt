-- Tables of ranks, by which each rule of a grammar is seen to derive something.
use Rattle.std.specs.Prelude.{ℕ, ◌+◌, Bool, true, false, ◌&&◌, ◌||◌, nat_lt, nat_le, List, [], ◌∷◌, length, slice_index}
use Rattle.vital_ll.specs.declared.grammar.Sym.{Sym}
use Rattle.vital_ll.specs.declared.grammar.Sym.TheVariants.{Token, Rule}
use Rattle.vital_ll.specs.Grammar.{Grammar}

-- each rule that the symbols name is one of the first n
abbrev pub names_below : ℕ → List Sym → Bool
names_below n [] = true
names_below n (Token u ∷ rest) = names_below n rest
names_below n (Rule r ∷ rest) = nat_lt r n && names_below n rest

abbrev pub alternatives_below : ℕ → List (List Sym) → Bool
alternatives_below n [] = true
alternatives_below n (c ∷ alternatives) = names_below n c && alternatives_below n alternatives

-- each rule has at most 65,535 alternatives, which name the first n rules alone
abbrev pub rules_below : ℕ → Grammar → Bool
rules_below n [] = true
rules_below n (alternatives ∷ rules) = nat_le (length alternatives) 65535 && alternatives_below n alternatives && rules_below n rules

-- each rule that the symbols name has a lower rank
abbrev pub ranks_lower : List ℕ → ℕ → List Sym → Bool
ranks_lower ranks rank [] = true
ranks_lower ranks rank (Token u ∷ rest) = ranks_lower ranks rank rest
ranks_lower ranks rank (Rule r ∷ rest) = nat_lt (slice_index ranks r) rank && ranks_lower ranks rank rest

-- some alternative names rules of lower rank alone
abbrev pub has_lower : List ℕ → ℕ → List (List Sym) → Bool
has_lower ranks rank [] = false
has_lower ranks rank (c ∷ alternatives) = ranks_lower ranks rank c || has_lower ranks rank alternatives

abbrev pub are_ranked_from : List ℕ → ℕ → Grammar → Bool
are_ranked_from ranks r [] = true
are_ranked_from ranks r (alternatives ∷ rules) = has_lower ranks (slice_index ranks r) alternatives && are_ranked_from ranks (r + 1) rules

-- a grammar of 1 to 65,535 rules, each of at most 65,535 alternatives, that name rules that are there, and
-- each with an alternative that names rules of lower rank alone
abbrev pub are_ranked : Grammar → List ℕ → Bool
are_ranked g ranks = nat_lt 0 (length g) && nat_le (length g) 65535 && rules_below (length g) g && are_ranked_from ranks 0 g
