-- Lines that are handed to their drivers when they are due, and not in the initial run: drivers alone.
use Rattle.std.proofs.Common.{◌≡◌, ℕ, zero, suc, ◌+◌, ◌^◌, ◌<◌, ◌≤◌, ◌≢◌, min, true, false, not, cond, eqb, List, [], ◌∷◌, length, filter, find, get_or, map, take, drop, inl, inr, Option, Some, None, refl, sym, ap, subst, ◌∙◌, arith}
use Rattle.std.specs.List.{flat_map, prefix_len}
use Rattle.std.specs.Prelude.{All}
use Rattle.std.specs.Option.{option_map_or}
use Rattle.std.proofs.lemmas.Bool.{cases_eq, cases_lt, eq-eqb, ne_eqb, lt-ltb, le-ltb}
use Rattle.std.proofs.lemmas.List.Elements.{All-cons, All-nil}
use Rattle.vital_base.specs.declared.kind.Kind.TheVariants.{Transport}
use Rattle.vital_logic.specs.declared.level.Level.{Level}
use Rattle.vital_stim.specs.declared.stimuli.StimLine.{StimLine}
use Rattle.vital_agenda.specs.Agendas.{Content, assigned, changed}
use Rattle.vital_agenda.specs.Driver.{Driver, AllRise, currents, is_at, with_new, send, sooner, least, pending_times, next_time, advance}
use Rattle.vital_agenda.specs.declared.transaction.Transaction.{Transaction}
use Rattle.vital_kernel.specs.Handing.{AreLeft, due_lines, first_time, later_lines, stimulated_by, with_lines}
use Rattle.vital_kernel.proofs.Least.{NotAfter, least-append, not_after_sooner}
use Rattle.vital_kernel.proofs.Rising.{with_new_rises}

-- what a line does to its driver
abbrev pub taken : StimLine → Driver → Driver
taken line = send 0 Transport line.value line.time

-- ---- the lines that are due, and the others

pub due_is : (time : ℕ) (lines : List StimLine) → take (prefix_len (λ line. eqb line.time time) lines) lines ≡ due_lines time lines
due_is time [] = refl
due_is time (line ∷ lines) =
    elim (eqb line.time time) as (λ b. take (cond b (1 + prefix_len (λ l. eqb l.time time) lines) 0) (line ∷ lines) ≡ cond b (line ∷ due_lines time lines) []) [
      | true ↦ let one_more : 1 + prefix_len (λ l. eqb l.time time) lines ≡ suc (prefix_len (λ l. eqb l.time time) lines) = omega arith in
          ap (λ n. take n (line ∷ lines)) one_more ∙ ap (λ ls. line ∷ ls) (due_is time lines)
      | false ↦ refl
    ]

pub later_is : (time : ℕ) (lines : List StimLine) → drop (prefix_len (λ line. eqb line.time time) lines) lines ≡ later_lines time lines
later_is time [] = refl
later_is time (line ∷ lines) =
    elim (eqb line.time time) as (λ b. drop (cond b (1 + prefix_len (λ l. eqb l.time time) lines) 0) (line ∷ lines) ≡ cond b (later_lines time lines) (line ∷ lines)) [
      | true ↦ let one_more : 1 + prefix_len (λ l. eqb l.time time) lines ≡ suc (prefix_len (λ l. eqb l.time time) lines) = omega arith in
          ap (λ n. drop n (line ∷ lines)) one_more ∙ later_is time lines
      | false ↦ refl
    ]

-- both parts, one after the other, are all lines
pub both_parts : (numbers : List ℕ) (time : ℕ) (lines : List StimLine) (ds : List Driver) → with_lines numbers (later_lines time lines) (with_lines numbers (due_lines time lines) ds) ≡ with_lines numbers lines ds
both_parts numbers time [] ds = refl
both_parts numbers time (line ∷ lines) ds =
    elim (eqb line.time time) as (λ b. with_lines numbers (cond b (later_lines time lines) (line ∷ lines)) (with_lines numbers (cond b (line ∷ due_lines time lines) []) ds) ≡ with_lines numbers (line ∷ lines) ds) [
      | true ↦ both_parts numbers time lines (stimulated_by numbers ds line)
      | false ↦ refl
    ]

-- ---- lines that are left

pub left_lower : (numbers : List ℕ) (count low high : ℕ) (lines : List StimLine) → low ≤ high → AreLeft numbers count high lines → AreLeft numbers count low lines
left_lower numbers count low high [] le h = tt
left_lower numbers count low high (line ∷ lines) le h = (h.0, omega (arith, h.1), h.2)

pub left_more : (numbers : List ℕ) (few many now : ℕ) (lines : List StimLine) → few ≤ many → AreLeft numbers few now lines → AreLeft numbers many now lines
left_more numbers few many now [] le h = tt
left_more numbers few many now (line ∷ lines) le h =
    (record { port = h.0.port; driver = omega (arith, le, h.0.driver); time = h.0.time }, h.1, left_more numbers few many line.time lines le h.2)

left_at : (numbers : List ℕ) (count now time : ℕ) (lines : List StimLine) → AreLeft numbers count now lines → NotAfter time (first_time lines) → AreLeft numbers count time lines
left_at numbers count now time [] h le = tt
left_at numbers count now time (line ∷ lines) h le = (h.0, le, h.2)

pub due_left : (numbers : List ℕ) (count now time : ℕ) (lines : List StimLine) → AreLeft numbers count now lines → AreLeft numbers count now (due_lines time lines)
due_left numbers count now time [] h = tt
due_left numbers count now time (line ∷ lines) h =
    elim (eqb line.time time) as (λ b. AreLeft numbers count now (cond b (line ∷ due_lines time lines) [])) [
      | true ↦ (h.0, h.1, due_left numbers count line.time time lines h.2)
      | false ↦ tt
    ]

pub later_left : (numbers : List ℕ) (count time : ℕ) (lines : List StimLine) → AreLeft numbers count time lines → AreLeft numbers count (time + 1) (later_lines time lines)
later_left numbers count time [] h = tt
later_left numbers count time (line ∷ lines) h =
    elim (cases_eq line.time time) [
      | inl same ↦ rw (eq-eqb line.time time same) (later_left numbers count time lines (subst (λ (t : ℕ). AreLeft numbers count t lines) same h.2))
      | inr other ↦ rw (ne_eqb line.time time other) (h.0, omega (arith, h.1, other), h.2)
    ]

-- what holds of each of them
pub ports_of : (numbers : List ℕ) (count now : ℕ) (lines : List StimLine) → AreLeft numbers count now lines → All (λ line. line.port < length numbers) lines
ports_of numbers count now [] h = All-nil (λ (x : StimLine). x.port < length numbers)
ports_of numbers count now (line ∷ lines) h = All-cons (λ x. x.port < length numbers) line lines h.0.port (ports_of numbers count line.time lines h.2)

pub drivers_of : (numbers : List ℕ) (count now : ℕ) (lines : List StimLine) → AreLeft numbers count now lines → All (λ line. get_or numbers line.port 0 < count) lines
drivers_of numbers count now [] h = All-nil (λ (x : StimLine). get_or numbers x.port 0 < count)
drivers_of numbers count now (line ∷ lines) h = All-cons (λ x. get_or numbers x.port 0 < count) line lines h.0.driver (drivers_of numbers count line.time lines h.2)

pub times_of : (numbers : List ℕ) (count now : ℕ) (lines : List StimLine) → AreLeft numbers count now lines → All (λ line. line.time ≤ 2 ^ 60) lines
times_of numbers count now [] h = All-nil (λ (x : StimLine). x.time ≤ 2 ^ 60)
times_of numbers count now (line ∷ lines) h = All-cons (λ x. x.time ≤ 2 ^ 60) line lines h.0.time (times_of numbers count line.time lines h.2)

later_than : (numbers : List ℕ) (count now low : ℕ) (lines : List StimLine) → low ≤ now → AreLeft numbers count now lines → All (λ line. low ≤ line.time) lines
later_than numbers count now low [] le h = All-nil (λ (x : StimLine). low ≤ x.time)
later_than numbers count now low (line ∷ lines) le h =
    All-cons (λ x. low ≤ x.time) line lines (omega (arith, le, h.1)) (later_than numbers count line.time low lines (omega (arith, le, h.1)) h.2)

pub later_of : (numbers : List ℕ) (count now : ℕ) (lines : List StimLine) → AreLeft numbers count now lines → All (λ line. now ≤ line.time) lines
later_of numbers count now lines h = later_than numbers count now now lines (omega arith) h

-- ---- what a line leaves of the drivers

pub length-stimulated : (n : ℕ) (f : Driver → Driver) (ds : List Driver) → length (changed n f ds) ≡ length ds
length-stimulated n f [] = refl
length-stimulated zero f (d ∷ ds) = refl
length-stimulated (suc n) f (d ∷ ds) = ap (λ (k : ℕ). suc k) (length-stimulated n f ds)

pub length-with : (numbers : List ℕ) (lines : List StimLine) (ds : List Driver) → length (with_lines numbers lines ds) ≡ length ds
length-with numbers [] ds = refl
length-with numbers (line ∷ lines) ds = length-with numbers lines (stimulated_by numbers ds line) ∙ length-stimulated (get_or numbers line.port 0) (taken line) ds

currents_changed : (n : ℕ) (line : StimLine) (ds : List Driver) → currents (changed n (taken line) ds) ≡ currents ds
currents_changed n line [] = refl
currents_changed zero line (d ∷ ds) = refl
currents_changed (suc n) line (d ∷ ds) = ap (λ (levels : List Level). d.current ∷ levels) (currents_changed n line ds)

pub currents-with : (numbers : List ℕ) (lines : List StimLine) (ds : List Driver) → currents (with_lines numbers lines ds) ≡ currents ds
currents-with numbers [] ds = refl
currents-with numbers (line ∷ lines) ds = currents-with numbers lines (stimulated_by numbers ds line) ∙ currents_changed (get_or numbers line.port 0) line ds

rise_changed : (low n : ℕ) (line : StimLine) (ds : List Driver) → low ≤ line.time → AllRise low ds → AllRise low (changed n (taken line) ds)
rise_changed low n line [] le h = tt
rise_changed low zero line (d ∷ ds) le h = (with_new_rises low (0 + line.time) line.value d.pending h.0 (omega arith), h.1)
rise_changed low (suc n) line (d ∷ ds) le h = (h.0, rise_changed low n line ds le h.1)

pub rise-with : (numbers : List ℕ) (count low : ℕ) (lines : List StimLine) (ds : List Driver) → AreLeft numbers count low lines → AllRise low ds → AllRise low (with_lines numbers lines ds)
rise-with numbers count low [] ds left h = h
rise-with numbers count low (line ∷ lines) ds left h =
    rise-with numbers count low lines (stimulated_by numbers ds line) (left_lower numbers count low line.time lines left.1 left.2) (rise_changed low (get_or numbers line.port 0) line ds left.1 h)

-- ---- a line leaves at its time all that is pending at an earlier one

record SendLater (time delay : ℕ) (value : Level) (xs : List Transaction) : Type 0 where
  pub found : find (is_at time) (with_new xs delay value) ≡ find (is_at time) xs
  pub rest : filter (λ x. not (is_at time x)) (with_new xs delay value) ≡ with_new (filter (λ x. not (is_at time x)) xs) delay value

send_later : (time delay : ℕ) (value : Level) (xs : List Transaction) → time < delay → SendLater time delay value xs
send_later time delay value [] lt =
    let other : eqb delay time ≡ false = ne_eqb delay time (omega (arith, lt)) in
    record { found = rw other refl; rest = rw other refl }
send_later time delay value (x ∷ xs) lt =
    let later = send_later time delay value xs lt in
    elim (cases_eq x.time time) [
      | inl same ↦
          let before = lt-ltb x.time delay (omega (arith, same, lt)) in
          record { found = rw (before, eq-eqb x.time time same) refl; rest = rw (before, eq-eqb x.time time same) later.rest }
      | inr other ↦ elim (cases_lt x.time delay) [
        | inl before ↦
            let b = lt-ltb x.time delay before in
            record { found = rw (b, ne_eqb x.time time other) later.found; rest = rw (b, ne_eqb x.time time other, b) (ap (λ (ys : List Transaction). x ∷ ys) later.rest) }
        | inr after ↦
            let a = le-ltb x.time delay after in
            record { found = rw (a, ne_eqb x.time time other) later.found; rest = rw (a, ne_eqb x.time time other, a) later.rest }
      ]
    ]

taken_advance : (time : ℕ) (line : StimLine) (d : Driver) → time < line.time → advance time (taken line d) ≡ taken line (advance time d)
taken_advance time line d lt =
    let both = send_later time (0 + line.time) line.value d.pending (omega (arith, lt)) in
    let driver = λ (c : Level) (xs : List Transaction). let it : Driver = record { current = c; pending = xs } in it in
    ap (λ (o : Option Transaction). driver (option_map_or (λ x. x.value) o d.current) (filter (λ x. not (is_at time x)) (with_new d.pending (0 + line.time) line.value))) both.found
    ∙ ap (driver (option_map_or (λ x. x.value) (find (is_at time) d.pending) d.current)) both.rest

map_changed : (n : ℕ) (f g : Driver → Driver) (ds : List Driver) → ((d : Driver) → g (f d) ≡ f (g d)) → map g (changed n f ds) ≡ changed n f (map g ds)
map_changed n f g [] h = refl
map_changed zero f g (d ∷ ds) h = ap (λ (x : Driver). x ∷ map g ds) (h d)
map_changed (suc n) f g (d ∷ ds) h = ap (λ (xs : List Driver). g d ∷ xs) (map_changed n f g ds h)

-- a cycle before all of some lines may come before they are handed, or after that
pub advance-with : (numbers : List ℕ) (count time : ℕ) (lines : List StimLine) (ds : List Driver) → AreLeft numbers count (time + 1) lines → map (advance time) (with_lines numbers lines ds) ≡ with_lines numbers lines (map (advance time) ds)
advance-with numbers count time [] ds h = refl
advance-with numbers count time (line ∷ lines) ds h =
    advance-with numbers count time lines (stimulated_by numbers ds line) (left_lower numbers count (time + 1) line.time lines h.1 h.2)
    ∙ ap (with_lines numbers lines) (map_changed (get_or numbers line.port 0) (taken line) (advance time) ds (λ d. taken_advance time line d (omega (arith, h.1))))

-- ---- the next time is that of the drivers or that of the first line

sooner_assoc : (a b c : Option ℕ) → sooner a (sooner b c) ≡ sooner (sooner a b) c
sooner_assoc None b c = refl
sooner_assoc (Some a) None c = refl
sooner_assoc (Some a) (Some b) None = refl
sooner_assoc (Some a) (Some b) (Some c) = ap (λ (n : ℕ). Some n) (min_assoc a b c)
  where
    min_assoc : (a b c : ℕ) → min a (min b c) ≡ min (min a b) c
    min_assoc a b c = omega arith

sooner_comm : (a b : Option ℕ) → sooner a b ≡ sooner b a
sooner_comm None None = refl
sooner_comm None (Some b) = refl
sooner_comm (Some a) None = refl
sooner_comm (Some a) (Some b) = ap (λ (n : ℕ). Some n) (min_comm a b)
  where
    min_comm : (a b : ℕ) → min a b ≡ min b a
    min_comm a b = omega arith

-- a time that is not sooner
sooner_stays : (a : Option ℕ) (x time : ℕ) → time ≤ x → sooner a (Some time) ≡ sooner (sooner (Some x) a) (Some time)
sooner_stays None x time le = ap (λ (n : ℕ). Some n) (omega (arith, le))
sooner_stays (Some a) x time le = ap (λ (n : ℕ). Some n) (omega (arith, le))

least_new : (xs : List Transaction) (time : ℕ) (value : Level) → least (map (λ x. x.time) (with_new xs time value)) ≡ sooner (least (map (λ x. x.time) xs)) (Some time)
least_new [] time value = refl
least_new (x ∷ xs) time value =
    elim (cases_lt x.time time) [
      | inl lt ↦ rw (lt-ltb x.time time lt) (ap (sooner (Some x.time)) (least_new xs time value) ∙ sooner_assoc (Some x.time) (least (map (λ y. y.time) xs)) (Some time))
      | inr ge ↦ rw (le-ltb x.time time ge) (least_new xs time value ∙ sooner_stays (least (map (λ y. y.time) xs)) x.time time ge)
    ]

next_changed : (n : ℕ) (line : StimLine) (ds : List Driver) → n < length ds → next_time (changed n (taken line) ds) ≡ sooner (next_time ds) (Some line.time)
next_changed n line [] lt = absurd (omega (arith, lt))
next_changed zero line (d ∷ ds) lt =
    let at : 0 + line.time ≡ line.time = omega arith in
    least-append (map (λ x. x.time) (with_new d.pending (0 + line.time) line.value)) (flat_map pending_times ds)
    ∙ ap (λ (o : Option ℕ). sooner o (next_time ds)) (least_new d.pending (0 + line.time) line.value ∙ ap (λ (t : ℕ). sooner (least (pending_times d)) (Some t)) at)
    ∙ sym (sooner_assoc (least (pending_times d)) (Some line.time) (next_time ds))
    ∙ ap (sooner (least (pending_times d))) (sooner_comm (Some line.time) (next_time ds))
    ∙ sooner_assoc (least (pending_times d)) (next_time ds) (Some line.time)
    ∙ ap (λ (o : Option ℕ). sooner o (Some line.time)) (sym (least-append (pending_times d) (flat_map pending_times ds)))
next_changed (suc n) line (d ∷ ds) lt =
    least-append (pending_times d) (flat_map pending_times (changed n (taken line) ds))
    ∙ ap (sooner (least (pending_times d))) (next_changed n line ds (omega (arith, lt)))
    ∙ sooner_assoc (least (pending_times d)) (next_time ds) (Some line.time)
    ∙ ap (λ (o : Option ℕ). sooner o (Some line.time)) (sym (least-append (pending_times d) (flat_map pending_times ds)))

-- the first of some lines comes before the others
first_is_first : (numbers : List ℕ) (count time : ℕ) (lines : List StimLine) → AreLeft numbers count time lines → sooner (Some time) (first_time lines) ≡ Some time
first_is_first numbers count time [] h = refl
first_is_first numbers count time (line ∷ lines) h = ap (λ (n : ℕ). Some n) (omega (arith, h.1))

sooner_none : (a : Option ℕ) → a ≡ sooner a None
sooner_none None = refl
sooner_none (Some a) = refl

pub next-with : (numbers : List ℕ) (count now : ℕ) (lines : List StimLine) (ds : List Driver) → count ≤ length ds → AreLeft numbers count now lines → next_time (with_lines numbers lines ds) ≡ sooner (next_time ds) (first_time lines)
next-with numbers count now [] ds le h = sooner_none (next_time ds)
next-with numbers count now (line ∷ lines) ds le h =
    let n = get_or numbers line.port 0 in
    next-with numbers count line.time lines (stimulated_by numbers ds line) (omega (arith, le, length-stimulated n (taken line) ds)) h.2
    ∙ ap (λ (o : Option ℕ). sooner o (first_time lines)) (next_changed n line ds (omega (arith, le, h.0.driver)))
    ∙ sym (sooner_assoc (next_time ds) (Some line.time) (first_time lines))
    ∙ ap (sooner (next_time ds)) (first_is_first numbers count line.time lines h.2)

-- where all lines that are left come later, the next time is that of the drivers
next_is_of_drivers : (numbers : List ℕ) (count time : ℕ) (lines : List StimLine) (o : Option ℕ) → AreLeft numbers count (time + 1) lines → sooner o (first_time lines) ≡ Some time → o ≡ Some time
next_is_of_drivers numbers count time [] o h e = sooner_none o ∙ e
next_is_of_drivers numbers count time (line ∷ lines) None h e = let same : line.time ≡ time = cc in absurd (omega (arith, same, h.1))
next_is_of_drivers numbers count time (line ∷ lines) (Some t) h e = let same : min t line.time ≡ time = cc in ap (λ (n : ℕ). Some n) (omega (arith, same, h.1))

-- ---- the lines of the next time

-- those that are left after these come later
pub left_later : (numbers : List ℕ) (count now time : ℕ) (lines : List StimLine) (ds : List Driver) → count ≤ length ds → AreLeft numbers count now lines → next_time (with_lines numbers lines ds) ≡ Some time
    → AreLeft numbers count (time + 1) (later_lines time lines)
left_later numbers count now time lines ds le h e =
    let first : sooner (next_time ds) (first_time lines) ≡ Some time = sym (next-with numbers count now lines ds le h) ∙ e in
    let not_after : NotAfter time (sooner (next_time ds) (first_time lines)) = subst (NotAfter time) (sym first) (omega arith) in
    later_left numbers count time lines (left_at numbers count now time lines h (not_after_sooner time (next_time ds) (first_time lines) not_after).1)

-- so that the next time is that of the drivers
pub next_handed : (numbers : List ℕ) (now time : ℕ) (lines : List StimLine) (ds : List Driver) → AreLeft numbers (length ds) now lines → next_time (with_lines numbers lines ds) ≡ Some time
    → next_time (with_lines numbers (due_lines time lines) ds) ≡ Some time
next_handed numbers now time lines ds h e =
    let later = left_later numbers (length ds) now time lines ds (omega arith) h e in
    let handed = with_lines numbers (due_lines time lines) ds in
    next_is_of_drivers numbers (length ds) time (later_lines time lines) (next_time handed) later
    (sym (next-with numbers (length ds) (time + 1) (later_lines time lines) handed (omega (arith, length-with numbers (due_lines time lines) ds)) later)
    ∙ ap next_time (both_parts numbers time lines ds) ∙ e)

-- ---- an assignment to another driver may come before the lines, or after them

changed_apart : (n m : ℕ) (f g : Driver → Driver) (ds : List Driver) → n ≢ m → changed n f (changed m g ds) ≡ changed m g (changed n f ds)
changed_apart n m f g [] other = refl
changed_apart zero zero f g (d ∷ ds) other = absurd (other refl)
changed_apart zero (suc m) f g (d ∷ ds) other = refl
changed_apart (suc n) zero f g (d ∷ ds) other = refl
changed_apart (suc n) (suc m) f g (d ∷ ds) other = ap (λ (xs : List Driver). d ∷ xs) (changed_apart n m f g ds (λ e. other (ap (λ (k : ℕ). suc k) e)))

pub changed-with : (numbers : List ℕ) (count now n : ℕ) (f : Driver → Driver) (lines : List StimLine) (ds : List Driver) → AreLeft numbers count now lines → count ≤ n
    → changed n f (with_lines numbers lines ds) ≡ with_lines numbers lines (changed n f ds)
changed-with numbers count now n f [] ds h le = refl
changed-with numbers count now n f (line ∷ lines) ds h le =
    changed-with numbers count line.time n f lines (stimulated_by numbers ds line) h.2 le
    ∙ ap (with_lines numbers lines) (changed_apart n (get_or numbers line.port 0) f (taken line) ds (omega (arith, h.0.driver, le)))

-- ---- a line that is sent at a later present

pub sent_then : (n delay : ℕ) (line : StimLine) (old new : Content) → new ≡ assigned n Transport line.value delay old → old.now + delay ≡ 0 + line.time → new.drivers ≡ changed n (taken line) old.drivers
sent_then n delay line old new is at =
    ap (λ (c : Content). c.drivers) is
    ∙ ap (λ (t : ℕ). changed n (λ d. let it : Driver = record { current = d.current; pending = with_new d.pending t line.value } in it) old.drivers) at
