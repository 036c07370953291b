-- The rows of a table of rules.
use Rattle.std.specs.Prelude.{List, map}
use Rattle.vital_ll.specs.declared.grammar.Sym.{Sym}
use denote.Ref.{Bor}

abbrev pub alternatives_in : List (Bor (List Sym)) → List (List Sym)
alternatives_in rows = map (λ a. a.now) rows

abbrev pub rules_in : List (Bor (List (Bor (List Sym)))) → List (List (List Sym))
rules_in rows = map (λ r. alternatives_in r.now) rows
