-- The definitions of drivers and of what is answered to runs on worked rows, of which the answers were found by hand.
use Rattle.std.proofs.Common.{◌≡◌, ℕ, List, [], ◌∷◌, ◌++◌, Option, Some, true, refl}
use Rattle.std.specs.Prelude.{codes, decimal}
use Rattle.std.specs.Option.{option_map}
use Rattle.vital_base.specs.declared.ports.PortBit.{PortBit}
use Rattle.vital_base.specs.declared.kind.Kind.TheVariants.{Transport, Inertial}
use Rattle.vital_logic.specs.declared.level.Level.{Level}
use Rattle.vital_logic.specs.declared.level.Level.TheVariants.{U, X, Zero, One, Z}
use Rattle.vital_agenda.specs.Driver.{Driver, pending_after, send}
use Rattle.vital_stim.specs.declared.stimuli.StimLine.{StimLine}
use Rattle.vital_agenda.specs.declared.transaction.Transaction.{Transaction}
use Rattle.vital_kernel.specs.Lines.{run_lines}
use Rattle.vital_report.specs.Lines.{end, event, events, init, line_of, messages, self_head, text_of}
use Rattle.vital_kernel.specs.PortNetworks.{port_network}
use Rattle.vital_kernel.specs.Runs.{whole_run}
use Rattle.vital_answers.specs.Answer.{Answer}
use Rattle.vital_run.specs.Runs.{run_answer}
use Rattle.vital_run.specs.Selves.{last_text, self_answer}
use Rattle.vital_answers.specs.declared.status.Status.TheVariants.{DeltaLimit, Done}
use Rattle.vital_words.specs.declared.job.SelfRun.{SelfRun}

abbrev at : ℕ → Level → Transaction
at time value = record { time = time; value = value }

abbrev driver : Level → List Transaction → Driver
driver current pending = record { current = current; pending = pending }

-- ---- assignments

-- X after 5, 1 after 8, 1 after 10, each by transport
three : send 0 Transport One 10 (send 0 Transport One 8 (send 0 Transport X 5 (driver Zero []))) ≡ driver Zero (at 5 X ∷ at 8 One ∷ at 10 One ∷ [])
three = refl

-- then 1 after 12, inertial: each that immediately precedes a kept one with the same value stays
a_run_of_equal_values_stays : pending_after Inertial 0 One 12 (at 5 X ∷ at 8 One ∷ at 10 One ∷ []) ≡ at 8 One ∷ at 10 One ∷ at 12 One ∷ []
a_run_of_equal_values_stays = refl

-- then 0 after 9 by transport
transport_deletes_from_its_time_on : pending_after Transport 0 Zero 9 (at 8 One ∷ at 10 One ∷ at 12 One ∷ []) ≡ at 8 One ∷ at 9 Zero ∷ []
transport_deletes_from_its_time_on = refl

-- another value between equal ones ends their run
another_value_ends_the_run : pending_after Inertial 0 One 12 (at 8 One ∷ at 9 Zero ∷ at 10 One ∷ []) ≡ at 10 One ∷ at 12 One ∷ []
another_value_ends_the_run = refl

-- no pending one has the new value
all_others_go : pending_after Inertial 0 One 12 (at 5 X ∷ at 8 Zero ∷ at 10 Z ∷ []) ≡ at 12 One ∷ []
all_others_go = refl

-- pending ones at and after the new time go, of whatever value
later_ones_go : pending_after Inertial 0 One 12 (at 12 One ∷ at 13 One ∷ []) ≡ at 12 One ∷ []
later_ones_go = refl

-- one before the time less the delay stays, whatever its value, and so does its own run before it
earlier_ones_stay : pending_after Inertial 10 One 3 (at 5 Zero ∷ at 12 Zero ∷ []) ≡ at 5 Zero ∷ at 13 One ∷ []
earlier_ones_stay = refl

the_time_less_the_delay_is_not_before : pending_after Inertial 10 One 3 (at 10 Zero ∷ []) ≡ at 13 One ∷ []
the_time_less_the_delay_is_not_before = refl

-- ---- the answer to a run

abbrev line : ℕ → ℕ → Level → StimLine
line time port value = record { time = time; port = port; value = value }

abbrev input : List ℕ → PortBit
input name = record { name = name; input = true; initial = 85 }

-- What is answered to the run of inputs a and b, which begin as U.
abbrev played : ℕ → ℕ → List StimLine → Option Answer
played until limit lines =
    let n = port_network (input (codes "a") ∷ input (codes "b") ∷ []) in
    option_map (λ r. run_answer until limit (run_lines n r.happened) r.end) (whole_run n lines until limit)

-- at 20 b gets the value that it has, and at 30 the run has ended
a_run_is_told_between_its_first_line_and_its_end :
    played 25 1_000 (line 0 0 Zero ∷ line 0 1 One ∷ line 10 0 One ∷ line 20 1 One ∷ line 30 0 Z ∷ [])
    ≡ Some (record {
      bytes = line_of (codes "vital") (decimal 1 ∷ [])
          ++ text_of (init (codes "a") U ∷ init (codes "b") U ∷ event 0 1 (codes "a") Zero ∷ event 0 1 (codes "b") One ∷ event 10 0 (codes "a") One ∷ [])
          ++ line_of (codes "end") (decimal 25 ∷ []);
      status = Done;
    })
a_run_is_told_between_its_first_line_and_its_end = refl

-- the first cycle at 0 has the delta number 1
a_run_ends_before_the_limit :
    played 25 1 (line 0 0 Zero ∷ [])
    ≡ Some (record {
      bytes = line_of (codes "vital") (decimal 1 ∷ [])
          ++ text_of (init (codes "a") U ∷ init (codes "b") U ∷ [])
          ++ line_of (codes "refused delta") (decimal 0 ∷ decimal 1 ∷ []);
      status = DeltaLimit;
    })
a_run_ends_before_the_limit = refl

-- ---- what `self` tells

abbrev drawn : SelfRun
drawn = record { seed = 7; cells = 3 }

-- the last of two lines
last_line_is_cut_out : last_text (codes "refused syntax a 1 2\nend 5\n") ≡ codes "end 5"
last_line_is_cut_out = refl

one_line_is_the_last : last_text (codes "end 5\n") ≡ codes "end 5"
one_line_is_the_last = refl

nothing_has_an_empty_last_line : last_text [] ≡ []
nothing_has_an_empty_last_line = refl

-- events and glitches are counted, and other lines are not
a_run_is_counted : self_answer drawn (record { bytes = codes "vital 1\nevent 0 1 i0 0\nglitch 5 0 u1 Y\nevent 5 0 n1 X\nend 9\n"; status = Done })
    ≡ record { bytes = text_of (self_head 7 3 ∷ events 2 ∷ messages 1 ∷ end 40_000_000 ∷ []); status = Done }
a_run_is_counted = refl

-- a refusal is told by its own line and status
a_refusal_is_told : self_answer drawn (record { bytes = codes "vital 1\nevent 0 1 i0 0\nrefused delta 5 1000\n"; status = DeltaLimit })
    ≡ record { bytes = codes "refused delta 5 1000\n"; status = DeltaLimit }
a_refusal_is_told = refl
