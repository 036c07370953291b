-- Worked rows of lines that are handed, by computation. Times are in femtoseconds.
use Rattle.std.proofs.Common.{◌≡◌, ℕ, List, [], ◌∷◌, Some, None, refl}
use Rattle.vital_agenda.specs.Agendas.{idle_driver}
use Rattle.vital_agenda.specs.Driver.{Driver}
use Rattle.vital_agenda.specs.declared.transaction.Transaction.{Transaction}
use Rattle.vital_kernel.specs.Handing.{due_lines, first_time, later_lines, with_lines}
use Rattle.vital_logic.specs.declared.level.Level.{Level}
use Rattle.vital_logic.specs.declared.level.Level.TheVariants.{U, Zero, One, Z}
use Rattle.vital_stim.specs.declared.stimuli.StimLine.{StimLine}

abbrev line : ℕ → ℕ → Level → StimLine
line time number value = record { time = time; port = number; value = value }

abbrev at : ℕ → Level → Transaction
at time value = record { time = time; value = value }

-- Two lines at 5, and one at 7.
abbrev lines : List StimLine
lines = line 5 0 One ∷ line 5 1 Zero ∷ line 7 0 Z ∷ []

row_due : due_lines 5 lines ≡ line 5 0 One ∷ line 5 1 Zero ∷ []
row_due = refl

row_later : later_lines 5 lines ≡ line 7 0 Z ∷ []
row_later = refl

-- No line comes at 6, and the first one comes at another time than 7.
row_none_due : due_lines 6 lines ≡ []
row_none_due = refl

row_all_later : later_lines 7 lines ≡ lines
row_all_later = refl

row_first_time : first_time lines ≡ Some 5
row_first_time = refl

row_no_line : first_time [] ≡ None
row_no_line = refl

-- Port 0 has driver 1, and port 1 has driver 0. Of what driver 1 has pending, that at 3 stays.
row_with_lines :
    with_lines (1 ∷ 0 ∷ []) lines (idle_driver U ∷ (let it : Driver = record { current = Zero; pending = at 3 Zero ∷ at 6 One ∷ [] } in it) ∷ [])
    ≡ (let it : Driver = record { current = U; pending = at 5 Zero ∷ [] } in it)
    ∷ (let it : Driver = record { current = Zero; pending = at 3 Zero ∷ at 5 One ∷ at 7 Z ∷ [] } in it) ∷ []
row_with_lines = refl

-- Of two lines for one port and time the later one counts.
row_twice : with_lines (0 ∷ []) (line 5 0 One ∷ line 5 0 Zero ∷ []) (idle_driver U ∷ []) ≡ (let it : Driver = record { current = U; pending = at 5 Zero ∷ [] } in it) ∷ []
row_twice = refl
