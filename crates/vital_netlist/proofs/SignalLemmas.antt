-- The signals of a design as they are put, one behind the other.
use Rattle.std.proofs.Common.{◌≡◌, ℕ, zero, suc, ◌+◌, ◌-◌, ◌<◌, ◌≤◌, List, [], ◌∷◌, ◌++◌, length, drop, get_or, map, refl, sym, ap, subst, ◌∙◌, arith, append_assoc}
use Rattle.std.specs.Prelude.{filter, IfErr, Option, Some, None, Result, Err}
use Rattle.std.specs.List.{enumerate_from, flat_map, range_with_len, slice_get}
use Rattle.std.specs.Option.{option_map, option_map_or}
use Rattle.std.proofs.lemmas.List.{at_drop_more, map-append}
use Rattle.std.proofs.lemmas.List.Elements.{filter-append}
use Rattle.std.proofs.lemmas.Option.{slice_get_past}
use Rattle.vital_base.specs.declared.place.Place.{Place}
use Rattle.vital_connections.specs.Objects.{Object}
use Rattle.vital_connections.specs.Runs.{bits_between, bits_of_run, bits_of_runs}
use Rattle.vital_connections.specs.declared.run.Run.{Run}
use Rattle.vital_instances.specs.declared.instance.Instance.{Instance}
use Rattle.vital_nodes.specs.declared.unit.Units.{Units}
use Rattle.vital_structure.specs.Shapes.{bits_of}
use Rattle.vital_netlist.specs.declared.bit.Bit.{Bit}
use Rattle.vital_netlist.specs.declared.signals.SignalsError.{SignalsError}
use Rattle.vital_netlist.specs.declared.signals.SignalsError.TheVariants as error
use Rattle.vital_netlist.specs.Bits.{bit, bits, bits_of_instance, object_of}
use Rattle.vital_netlist.specs.Nets.{AreSignals, is_own, most_signals, own_port_bits, place_too_many, signals}
use Rattle.vital_netlist.specs.DesignObjects.{objects_at, port_bits, port_count, signal_bits}
use Rattle.vital_netlist.specs.Orders.{AreOrdered}
use Rattle.vital_netlist.specs.Put.{IsTold, place_of, own_of, own_of_number}
use Rattle.vital_netlist.proofs.DesignBitLemmas.{bits_parted, filter-map}
use Rattle.vital_netlist.proofs.DesignListLemmas.{get_append, get_last}
use Rattle.vital_netlist.proofs.OrderLemmas.{all_ordered, ordered_filter}

-- ---- the first one too many

place-append : (files : List Units) (is : List Instance) (xs ys : List Bit) (place : Place) (o : Option Bit) → slice_get xs most_signals ≡ o → place_of files is o ≡ Some place → place_of files is (slice_get (xs ++ ys) most_signals) ≡ Some place
place-append files is xs ys place None at e = absurd (cc)
place-append files is xs ys place (Some b) at e = ap (place_of files is) (get_append xs ys most_signals b at) ∙ e

-- it is told of more bits as well
pub told_more : (files : List Units) (is : List Instance) (now xs ys total : List Bit) (e : SignalsError) → now ++ (xs ++ ys) ≡ total → IsTold files is (now ++ xs) e → IsTold files is total e
told_more files is now xs ys total (error.TooMany place) all told =
    ap (λ bs. place_of files is (slice_get bs most_signals)) (sym (append_assoc now xs ys ∙ all))
    ∙ place-append files is (now ++ xs) ys place (slice_get (now ++ xs) most_signals) refl told
told_more files is now xs ys total error.NoMemory all told = tt

pub put_more : (now xs ys total new : List Bit) → now ++ (xs ++ ys) ≡ total → new ≡ now ++ xs → new ++ ys ≡ total
put_more now xs ys total new all put = ap (λ bs. bs ++ ys) put ∙ append_assoc now xs ys ∙ all

pub told_one : (files : List Units) (is : List Instance) (now : List Bit) (b : Bit) (o : Object) → length now ≡ most_signals → Some o ≡ object_of files is b → place_of files is (slice_get (now ++ b ∷ []) most_signals) ≡ Some o.place
told_one files is now b o full at =
    ap (λ n. place_of files is (slice_get (now ++ b ∷ []) n)) (sym full)
    ∙ ap (place_of files is) (get_last now b)
    ∙ ap (option_map (λ (p : Object). p.place)) (sym at)

-- ---- the bits of a run

between-step : (first end : ℕ) → first < end → end - first ≡ suc (end - (first + 1))
between-step first end lt = omega (arith, lt)

pub run_more : (n k first end : ℕ) → first < end → map (bit n) (bits_between k first end) ≡ (bit n (k, first) ∷ []) ++ map (bit n) (bits_between k (first + 1) end)
run_more n k first end lt = ap (λ m. map (bit n) (map (λ offset. (k, offset)) (range_with_len first m))) (between-step first end lt)

-- ---- the bits of runs

pub runs_more : (n : ℕ) (runs : List Run) (k : ℕ) (r : Run) → k < length runs → r ≡ get_or runs k r → map (bit n) (bits_of_runs (drop k runs)) ≡ map (bit n) (bits_of_run r) ++ map (bit n) (bits_of_runs (drop (k + 1) runs))
runs_more n runs k r lt is =
    at_drop_more (λ rs. map (bit n) (bits_of_runs rs)) runs k r lt
    ∙ ap (λ x. map (bit n) (bits_of_runs (x ∷ drop (k + 1) runs))) (sym is)
    ∙ map-append (bit n) (bits_of_run r) (bits_of_runs (drop (k + 1) runs))

-- ---- the signals of an instance

parted : (files : List Units) (n : ℕ) (i : Instance) → bits_of_instance files (n, i) ≡ map (bit n) (port_bits files i.entity) ++ map (bit n) (signal_bits files i.entity)
parted files n i =
    ap (map (bit n)) (bits_parted (port_count files i.entity) (objects_at files i.entity))
    ∙ map-append (bit n) (port_bits files i.entity) (signal_bits files i.entity)

pub own_parted : (files : List Units) (is : List Instance) (n : ℕ) (o : Option Instance) → slice_get is n ≡ o → filter (λ b. is_own files is (bit n b)) (option_map_or (λ i. signal_bits files i.entity) o []) ≡ option_map_or (λ i. signal_bits files i.entity) o [] → option_map_or (λ i. own_of files is (n, i)) o [] ≡ map (bit n) (filter (λ b. is_own files is (bit n b)) (option_map_or (λ i. port_bits files i.entity) o [])) ++ map (bit n) (option_map_or (λ i. signal_bits files i.entity) o [])
own_parted files is n None at own = refl
own_parted files is n (Some i) at own =
    ap (filter (is_own files is)) (parted files n i)
    ∙ filter-append (is_own files is) (map (bit n) (port_bits files i.entity)) (map (bit n) (signal_bits files i.entity))
    ∙ ap (λ bs. bs ++ filter (is_own files is) (map (bit n) (signal_bits files i.entity))) (filter-map (is_own files is) (bit n) (port_bits files i.entity))
    ∙ ap (λ bs. map (bit n) (filter (λ b. is_own files is (bit n b)) (port_bits files i.entity)) ++ bs)
    (filter-map (is_own files is) (bit n) (signal_bits files i.entity) ∙ ap (map (bit n)) own)

-- where these are the bits of its ports and of its signals
pub own_number : (files : List Units) (is : List Instance) (n : ℕ) (ports behind : List Run) → bits_of_runs ports ≡ own_port_bits files is n → bits_of_runs behind ≡ option_map_or (λ i. signal_bits files i.entity) (slice_get is n) [] → filter (λ b. is_own files is (bit n b)) (bits_of_runs behind) ≡ bits_of_runs behind → own_of_number files is n ≡ map (bit n) (bits_of_runs ports) ++ map (bit n) (bits_of_runs behind)
own_number files is n ports behind ports-are behind-are own =
    own_parted files is n (slice_get is n) refl (sym (ap (filter (λ b. is_own files is (bit n b))) behind-are) ∙ own ∙ behind-are)
    ∙ ap (λ bs. map (bit n) bs ++ map (bit n) (option_map_or (λ (i : Instance). signal_bits files i.entity) (slice_get is n) [])) (sym ports-are)
    ∙ ap (λ bs. map (bit n) (bits_of_runs ports) ++ map (bit n) bs) (sym behind-are)

-- ---- those of all instances

abbrev pub rest : List Units → List Instance → ℕ → List Bit
rest files is k = flat_map (own_of files is) (enumerate_from k (drop k is))

own-all : (files : List Units) (is : List Instance) (ps : List (ℕ × Instance)) → filter (is_own files is) (flat_map (bits_of_instance files) ps) ≡ flat_map (own_of files is) ps
own-all files is [] = refl
own-all files is (p ∷ ps) =
    filter-append (is_own files is) (bits_of_instance files p) (flat_map (bits_of_instance files) ps)
    ∙ ap (λ bs. own_of files is p ++ bs) (own-all files is ps)

pub rest_all : (files : List Units) (is : List Instance) → rest files is 0 ≡ signals files is
rest_all files is = sym (own-all files is (enumerate_from 0 is))

pub rest_more : (files : List Units) (is : List Instance) (k : ℕ) → k < length is → rest files is k ≡ own_of_number files is k ++ rest files is (k + 1)
rest_more files is k lt = step is k k lt
  where
    step : (js : List Instance) (k m : ℕ) → k < length js → flat_map (own_of files is) (enumerate_from m (drop k js)) ≡ option_map_or (λ i. own_of files is (m, i)) (slice_get js k) [] ++ flat_map (own_of files is) (enumerate_from (m + 1) (drop (k + 1) js))
    step [] k m lt = absurd (omega (arith, lt))
    step (j ∷ js) zero m lt = ap (λ xs. own_of files is (m, j) ++ flat_map (own_of files is) (enumerate_from (m + 1) xs)) (sym (drop-one j js))
      where
        drop-one : (j : Instance) (js : List Instance) → drop (0 + 1) (j ∷ js) ≡ js
        drop-one j js = refl
    step (j ∷ js) (suc k) m lt =
        step js k m (omega (arith, lt))
        ∙ ap (λ xs. option_map_or (λ i. own_of files is (m, i)) (slice_get js k) [] ++ flat_map (own_of files is) (enumerate_from (m + 1) xs)) (sym (drop-more j js k))
      where
        drop-more : (j : Instance) (js : List Instance) (k : ℕ) → drop (suc k + 1) (j ∷ js) ≡ drop (k + 1) js
        drop-more j js k = let same : suc k + 1 ≡ suc (k + 1) = omega arith in ap (λ m. drop m (j ∷ js)) same

-- ---- what is answered

pub signals_ordered : (files : List Units) (is : List Instance) → AreOrdered (signals files is)
signals_ordered files is = ordered_filter (is_own files is) (bits files is) (all_ordered (λ (o : Object). bits_of o.shape) (λ (i : Instance). objects_at files i.entity) 0 is)

pub signals_told : (files : List Units) (is : List Instance) (e : SignalsError) → IsTold files is (signals files is) e → AreSignals files is (Err e)
signals_told files is (error.TooMany place) told = told
signals_told files is error.NoMemory told = tt

pub few_signals : (files : List Units) (is : List Instance) (found : List Bit) → found ≡ signals files is → length found ≤ most_signals → place_too_many files is ≡ None
few_signals files is found all few =
    ap (λ bs. place_of files is (slice_get bs most_signals)) (sym all)
    ∙ ap (place_of files is) (slice_get_past found most_signals few)

pub told_error : {A : Type 0} (P : SignalsError → Type 0) (e : SignalsError) (r : Result A SignalsError) → r ≡ Err e → P e → IfErr r P
told_error P e r is told = subst (λ x. IfErr x P) (sym is) told

pub answered_error : (files : List Units) (is : List Instance) (e : SignalsError) (r : Result (List Bit) SignalsError) → r ≡ Err e → IsTold files is (signals files is) e → AreSignals files is r
answered_error files is e r is-error told = subst (AreSignals files is) (sym is-error) (signals_told files is e told)

pub told_same : {A : Type 0} (files : List Units) (is : List Instance) (all total : List Bit) (r : Result A SignalsError) → all ≡ total → IfErr r (IsTold files is all) → IfErr r (IsTold files is total)
told_same files is all total r same told = subst (λ bs. IfErr r (IsTold files is bs)) same told
