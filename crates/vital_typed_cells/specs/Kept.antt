-- The variables in which calls keep their states.
use Rattle.std.specs.Prelude.{ℕ, List, map}
use Rattle.vital_names.specs.Sites.{Cell}
use Rattle.vital_nodes.specs.declared.stmt.Process.{Process}
use Rattle.vital_variables.specs.declared.formal_use.FormalUse.TheVariants.{State}
use Rattle.vital_variables.specs.SecondUses.{given_uses}

-- The names of the variables that the calls of a process are given as TimingData, PeriodData and GlitchData, in order.
abbrev pub names_kept : Cell → Process → List (List ℕ)
names_kept cell p = map (λ u. u.name) (given_uses State cell p)
