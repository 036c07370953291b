-- What a refused grammar says.
use Rattle.std.specs.Prelude.{◌≡◌, ℕ}
use Rattle.vital_ll.specs.declared.prediction.RulesError.{RulesError}
use Rattle.vital_ll.specs.declared.prediction.RulesError.TheVariants.{NotPredictive, NoMemory}
use Rattle.vital_ll.specs.Grammar.{Grammar}
use Rattle.vital_ll.specs.Choice.{HasConflict, IsFirstConflict}

-- the rule is the first whose choice sets meet; want of memory says nothing
abbrev pub IsConflict : Grammar → RulesError → Type 0
IsConflict g (NotPredictive r) = IsFirstConflict g r
IsConflict g NoMemory = Unit {0}

-- the choice sets of this rule meet
abbrev pub IsConflictAt : Grammar → ℕ → RulesError → Type 0
IsConflictAt g r (NotPredictive c) = (c ≡ r) × HasConflict g r
IsConflictAt g r NoMemory = Unit {0}
