-- A line that begins with a number, and one that does not.
use Rattle.std.proofs.Common.{◌≡◌, ℕ, ◌<◌, true, false, List, [], ◌∷◌, length, refl, sym, ◌∙◌, ap, subst, Result, Ok, Err, arith}
use Rattle.std.proofs.lemmas.Bool.{lt-ltb}
use Rattle.std.proofs.lemmas.Bool.Decides.{nat_tests}
use Rattle.std.specs.Prelude.{Bool, ◌==◌, cond, nat_lt, Option, Some, None, if◌then◌else◌}
use Rattle.std.specs.Option.{ok_or}
use Rattle.vital_base.specs.Times.{number_of, unit_named, time_of}
use Rattle.vital_base.specs.declared.ports.PortBit.{PortBit}
use Rattle.vital_base.specs.declared.time.TimeUnit.{TimeUnit}
use Rattle.vital_stim.specs.Entry.{stimulus, stimulus_result, stimulus_told}
use Rattle.vital_stim.specs.KnownPorts.{as_told}
use Rattle.vital_identifiers.specs.Identifiers.{folded}
use Rattle.vital_stim.specs.PortForm.{is_port}
use Rattle.vital_stim.specs.declared.entry.Entry.{Entry}
use Rattle.vital_stim.specs.Parts.{fields_of, after_blanks, field_of, after_field}
use Rattle.vital_stim.specs.Stimuli.{◌>>=◌, Stimulus, value_named, stimulus_of, stimulus_after, among_given, stimulus_for}
use Rattle.vital_stim.specs.declared.fault.StimWhy.{StimWhy}
use Rattle.vital_stim.specs.declared.fault.StimWhy.TheVariants.{Line, Unit as UnknownUnit, Large, Value, Falls}
use Rattle.vital_stim.proofs.FieldLemmas.{BeginsField, begins_field, takes_at, fields_of-after_blanks, Takes}

not_empty : (field : List ℕ) (n : ℕ) → number_of field ≡ Some n → (length field == 0) ≡ false
not_empty [] n h = absurd (cc)
not_empty (b ∷ bs) n h = grind (arith, nat_tests)

taken : (line rest : List ℕ) → rest ≡ after_blanks line → Takes rest (field_of rest) (after_field rest)
taken line rest skipped = takes_at rest (subst BeginsField (sym skipped) (begins_field line))

same : (line rest : List ℕ) → rest ≡ after_blanks line → fields_of line ≡ fields_of rest
same line rest skipped = fields_of-after_blanks line ∙ ap fields_of (sym skipped)

pub begins_with_number : (line rest : List ℕ) (n : ℕ) → rest ≡ after_blanks line → number_of (field_of rest) ≡ Some n → fields_of line ≡ field_of rest ∷ fields_of (after_field rest)
begins_with_number line rest n skipped h = same line rest skipped ∙ (taken line rest skipped).some (not_empty (field_of rest) n h)

faulty : (field : List ℕ) (others : List (List ℕ)) → number_of field ≡ None → stimulus_of (field ∷ others) ≡ Err Line
faulty field [] h = refl
faulty field (a ∷ []) h = refl
faulty field (a ∷ b ∷ []) h = refl
faulty field (a ∷ b ∷ c ∷ []) h = rw h refl
faulty field (a ∷ b ∷ c ∷ d ∷ es) h = refl

pub begins_with_none : (line rest : List ℕ) → rest ≡ after_blanks line → number_of (field_of rest) ≡ None → stimulus_of (fields_of line) ≡ Err Line
begins_with_none line rest skipped h = ap stimulus_of (same line rest skipped) ∙ by_length (length (field_of rest) == 0) refl
  where
    by_length : (b : Bool) → (length (field_of rest) == 0) ≡ b → stimulus_of (fields_of rest) ≡ Err Line
    by_length true e = ap stimulus_of ((taken line rest skipped).none e).0
    by_length false e = ap stimulus_of ((taken line rest skipped).some e) ∙ faulty (field_of rest) (fields_of (after_field rest)) h

-- ---- the form of a port is an earlier test
abbrev failing : StimWhy → Result Stimulus StimWhy
failing why = Err why

by_form : (b : Bool) (name : List ℕ) (why : StimWhy) → failing (cond b why Line) ≡ (ok_or (cond b (Some name) None) Line >>= λ m. failing why)
by_form true name why = refl
by_form false name why = refl

pub no_unit : (digits letters port level : List ℕ) (n : ℕ) (why : StimWhy) → number_of digits ≡ Some n → unit_named letters ≡ None → why ≡ cond (is_port port) UnknownUnit Line → failing why ≡ stimulus_of (digits ∷ letters ∷ port ∷ level ∷ [])
no_unit digits letters port level n why number unit is = ap failing is ∙ by_form (is_port port) (folded port) UnknownUnit ∙ sym (rw (number, unit) refl)

pub no_time : (digits letters port level : List ℕ) (n : ℕ) (u : TimeUnit) (why : StimWhy) → number_of digits ≡ Some n → unit_named letters ≡ Some u → time_of n u ≡ None → why ≡ cond (is_port port) Large Line → failing why ≡ stimulus_of (digits ∷ letters ∷ port ∷ level ∷ [])
no_time digits letters port level n u why number unit time is = ap failing is ∙ by_form (is_port port) (folded port) Large ∙ sym (rw (number, unit, time) refl)

pub no_value : (digits letters port level : List ℕ) (n t : ℕ) (u : TimeUnit) (why : StimWhy) → number_of digits ≡ Some n → unit_named letters ≡ Some u → time_of n u ≡ Some t → value_named level ≡ None → why ≡ cond (is_port port) Value Line → failing why ≡ stimulus_of (digits ∷ letters ∷ port ∷ level ∷ [])
no_value digits letters port level n t u why number unit time value is = ap failing is ∙ by_form (is_port port) (folded port) Value ∙ sym (rw (number, unit, time, value) refl)

falls-form : (b : Bool) (latest : ℕ) (s : Stimulus) → nat_lt s.time latest ≡ true → failing (cond b Falls Line) ≡ (cond b (Ok s) (Err Line) >>= λ first. if nat_lt first.time latest then Err Falls else Ok first)
falls-form true latest s early = rw early refl
falls-form false latest s early = refl

pub falls : (latest : ℕ) (fields : List (List ℕ)) (entry : Entry) (why : StimWhy) → stimulus_result (Ok entry) ≡ stimulus_of fields → entry.time < latest → why ≡ cond (is_port entry.port.now) Falls Line → failing why ≡ stimulus_after latest fields
falls latest fields entry why says early is =
    ap failing is
    ∙ falls-form (is_port entry.port.now) latest (stimulus entry) (lt-ltb entry.time latest early)
    ∙ ap (λ r. r >>= λ first. if nat_lt first.time latest then Err Falls else Ok first) says

-- ---- what a line says where ports are given, or none
pub told_of : {A : Type 0} (given : Option (List PortBit)) (entry : Entry) (latest : ℕ) (fields : List (List ℕ)) (put told : Result A StimWhy) → stimulus_result (Ok entry) ≡ stimulus_after latest fields → as_told (stimulus entry) put ≡ stimulus_told given entry → put ≡ told → stimulus_for given latest fields ≡ as_told (stimulus entry) told
told_of given entry latest fields put told says tests is = ap (λ r. r >>= among_given given) (sym says) ∙ sym tests ∙ ap (as_told (stimulus entry)) is

pub fails_before : (given : Option (List PortBit)) (latest : ℕ) (fields : List (List ℕ)) (why : StimWhy) → Err why ≡ stimulus_after latest fields → stimulus_for given latest fields ≡ Err why
fails_before given latest fields why says = ap (λ r. r >>= among_given given) (sym says)
