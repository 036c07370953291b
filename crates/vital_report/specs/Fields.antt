-- The fields of a line.
use Rattle.std.specs.Prelude.{ℕ, List, ◌++◌, codes, decimal}
use Rattle.std.specs.List.{flat_map}
use Rattle.vital_base.specs.declared.breach.Clause.{Clause}

-- A clause as it is printed: L, its level, a point, its number.
abbrev pub clause_word : Clause → List ℕ
clause_word clause = (codes "L" ++ decimal clause.level) ++ (codes "." ++ decimal clause.number)

-- How the line of an event begins: what stands before its name.
abbrev pub event_start : ℕ → ℕ → List ℕ
event_start time delta = codes "event " ++ decimal time ++ codes " " ++ decimal delta ++ codes " "

-- Each field after a blank.
abbrev pub fields_text : List (List ℕ) → List ℕ
fields_text fields = flat_map (λ field. codes " " ++ field) fields
