-- What is done with a design.
use Rattle.std.specs.Prelude.{◌≤◌, ◌^◌, length}
use Rattle.vital_answers.specs.Answer.{Answer}
use Rattle.vital_answers.specs.Trees.{IsTreeAnswer}
use Rattle.vital_netlist.specs.Designs.{Design}
use Rattle.vital_run.specs.Simulations.{IsSimAnswer}
use Rattle.vital_run.specs.declared.elaborating.Aim.{Aim}
use Rattle.vital_run.specs.declared.elaborating.Aim.TheVariants as aim

-- What is done with a design: it is printed, or simulated.
abbrev pub IsAimAnswer : Aim → Design → Answer → Type 0
IsAimAnswer aim.Tree d answer = IsTreeAnswer d answer
IsAimAnswer (aim.Sim s) d answer = IsSimAnswer s.sim.now s.files.now s.delays.now s.name.now s.text.now d answer

-- Its file is no longer than files are, and its end time and limit are in bounds.
abbrev pub CanAnswer : Aim → Type 0
CanAnswer aim.Tree = Unit {0}
CanAnswer (aim.Sim s) = (length s.text.now ≤ 16_777_216) × (s.sim.now.until ≤ 2 ^ 60) × (1 ≤ s.sim.now.limit)
