-- The definition of the processes that events make run on worked rows, of which the answers were found by hand.
use Rattle.std.proofs.Common.{◌≡◌, ℕ, List, [], ◌∷◌, true, false, refl}
use Rattle.vital_kernel.specs.Lists.{listening}
use Rattle.vital_kernel.specs.Triggered.{is_triggered, triggered_by}

-- process 0 is sensitive to signals 1 and 2, process 1 to none, process 2 to signal 0, and process 3 to signals 2 and 0
abbrev four_processes : List (List ℕ)
four_processes = (1 ∷ 2 ∷ []) ∷ [] ∷ (0 ∷ []) ∷ (2 ∷ 0 ∷ []) ∷ []

no_event_makes_none_run : triggered_by [] four_processes ≡ []
no_event_makes_none_run = refl

-- signal 2 has an event
two_are_sensitive_to_one : triggered_by (2 ∷ []) four_processes ≡ 0 ∷ 3 ∷ []
two_are_sensitive_to_one = refl

-- signals 1 and 2 have one, and process 0 is sensitive to both
one_is_made_run_once : triggered_by (1 ∷ 2 ∷ []) four_processes ≡ 0 ∷ 3 ∷ []
one_is_made_run_once = refl

-- process 1 is never made run
all_signals_have_an_event : triggered_by (0 ∷ 1 ∷ 2 ∷ []) four_processes ≡ 0 ∷ 2 ∷ 3 ∷ []
all_signals_have_an_event = refl

none_is_sensitive_to_it : triggered_by (3 ∷ []) four_processes ≡ []
none_is_sensitive_to_it = refl

no_process : triggered_by (0 ∷ []) [] ≡ []
no_process = refl

sensitive_to_one_of_two : is_triggered (4 ∷ 6 ∷ []) (5 ∷ 6 ∷ []) ≡ true
sensitive_to_one_of_two = refl

sensitive_to_none_of_two : is_triggered (4 ∷ 6 ∷ []) (5 ∷ 7 ∷ []) ≡ false
sensitive_to_none_of_two = refl

-- process 7 is listed for signals 2 and 0, of which there are three
listed_for_two : listening 7 ((3 ∷ []) ∷ [] ∷ [] ∷ []) (2 ∷ 0 ∷ []) ≡ (3 ∷ 7 ∷ []) ∷ [] ∷ (7 ∷ []) ∷ []
listed_for_two = refl

-- and for none where there is no signal of that number
listed_for_none : listening 7 ((3 ∷ []) ∷ []) (1 ∷ []) ≡ (3 ∷ []) ∷ []
listed_for_none = refl
