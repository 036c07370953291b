-- Worked rows of the definitions, by computation: expressions, state tables and variables.
use Rattle.std.proofs.Common.{◌≡◌, ℕ, List, [], ◌∷◌, refl}
use Rattle.std.specs.Prelude.{true, Some, None, codes}
use Rattle.vital_logic.specs.declared.level.Level.{Level}
use Rattle.vital_logic.specs.declared.level.Level.TheVariants.{X, Zero, One, Z, H}
use Rattle.vital_nodes.specs.declared.expr.Logical.TheVariants as logical
use Rattle.vital_operands.specs.declared.tree.LevelExpr.TheOpen.{LevelExpr-F, VectorExpr-F}
use Rattle.vital_operands.specs.declared.tree.DelayExpr.TheVariants as delays
use Rattle.vital_operands.specs.declared.tree.TimeExpr.TheVariants as times
use Rattle.vital_timing.specs.declared.delay.Delay.TheVariants as delay
use Rattle.vital_cell.specs.Statements.{state_results}
use Rattle.vital_cell.specs.Times.{delay_of, delay_worth, one_time, time, time_of}
use Rattle.vital_cell.specs.Variables.{Levels, Strengthless, given, given_element, levels_of, with_element, with_held}
use Rattle.vital_typed_cells.specs.Expressions.{Names, Time, level_step, vector_step}

-- ---- expressions

-- Every signal is this level, and every generic has this delay.
abbrev with_all : Level → Names
with_all l = record { signal = λ name. l; variable = λ name. []; constant = λ name. None; generic = λ name. delay.One 5; control = λ c. true }

row_signal : level_step (with_all H) (LevelExpr-F.Signal (codes "a")) ≡ H
row_signal = refl

row_not : level_step (with_all H) (LevelExpr-F.Not One) ≡ Zero
row_not = refl

row_and : level_step (with_all H) (LevelExpr-F.Logical logical.And (H ∷ One ∷ Z ∷ [])) ≡ X
row_and = refl

row_nand : level_step (with_all H) (LevelExpr-F.Logical logical.Nand (H ∷ One ∷ [])) ≡ Zero
row_nand = refl

row_others : vector_step (with_all H) (VectorExpr-F.Others H 2) ≡ H ∷ H ∷ []
row_others = refl

row_time : time (with_all H) (times.Generic (codes "g")) ≡ 5
row_time = refl

row_two_times : one_time (delay.Two 30 20) ≡ 0
row_two_times = refl

row_time_constant : time_of (Some (Time 7)) ≡ 7
row_time_constant = refl

row_delay : delay_worth (with_all H) (delays.Generic (codes "g")) ≡ delay.One 5
row_delay = refl

row_no_delay : delay_of (Some (Time 7)) ≡ delay.One 0
row_no_delay = refl

-- ---- state tables

-- A violation, D and C; the state; Q.
abbrev state_rows : List (List ℕ)
state_rows = codes "X---X" ∷ codes "-0/-0" ∷ codes "-1/-1" ∷ codes "----S" ∷ []

row_edge : state_results state_rows 1 (Zero ∷ One ∷ Zero ∷ []) (Zero ∷ One ∷ One ∷ []) (X ∷ []) ≡ One ∷ []
row_edge = refl

row_violated : state_results state_rows 1 (Zero ∷ One ∷ Zero ∷ []) (X ∷ One ∷ One ∷ []) (Zero ∷ []) ≡ X ∷ []
row_violated = refl

row_stays : state_results state_rows 1 (Zero ∷ One ∷ One ∷ []) (Zero ∷ One ∷ One ∷ []) (Zero ∷ []) ≡ Zero ∷ []
row_stays = refl

-- Of a table with no row for them, each result is X, whatever it was.
row_no_row : state_results (codes "1S" ∷ []) 0 (Zero ∷ []) (Zero ∷ []) (One ∷ []) ≡ X ∷ []
row_no_row = refl

-- The state is the first of two results, and only that one is looked at.
row_two_results : state_results (codes "-1S0" ∷ []) 1 (Zero ∷ []) (Zero ∷ []) (H ∷ X ∷ []) ≡ H ∷ Zero ∷ []
row_two_results = refl

-- ---- variables

row_strengthless : given (H ∷ []) (Strengthless X) ≡ Strengthless One
row_strengthless = refl

row_as_given : given (H ∷ []) (Levels (X ∷ [])) ≡ Levels (H ∷ [])
row_as_given = refl

row_element : given_element 1 Z (Levels (One ∷ One ∷ One ∷ [])) ≡ Levels (One ∷ Z ∷ One ∷ [])
row_element = refl

row_first_element : with_element 0 Z (One ∷ One ∷ []) ≡ Z ∷ One ∷ []
row_first_element = refl

row_last_element : with_element 1 Z (One ∷ One ∷ []) ≡ One ∷ Z ∷ []
row_last_element = refl

-- Only the variable of the name is changed.
row_named : levels_of (with_held (codes "b") (given (One ∷ [])) (record { name = codes "a"; held = Levels (X ∷ []) } ∷ record { name = codes "b"; held = Levels (X ∷ []) } ∷ [])) (codes "a") ≡ X ∷ []
row_named = refl
