-- What is made of a process, or of a wire delay, stands for it.
use Rattle.std.proofs.Common.{◌≡◌, ◌≤◌, ◌<◌, ℕ, true, List, [], ◌∷◌, length, map, refl, sym, ◌∙◌, ap, subst, arith}
use Rattle.std.specs.Prelude.{All, Bool, ◌&&◌, is_some, nat_le, slice_get, unwrap_or, Option, Some, None}
use Rattle.std.specs.List.{list_all}
use Rattle.std.specs.Option.{option_and_then, option_map_or}
use Rattle.std.proofs.lemmas.Bool.{false≢true}
use Rattle.std.proofs.lemmas.Bool.Decides.{nat_tests}
use Rattle.std.proofs.lemmas.List.Elements.{All-cons, All-nil}
use Rattle.std.proofs.lemmas.Option.{slice_get-get_or}
use Rattle.vital_cell.specs.Compiled.{HasSteps, IsMadeProcess, IsMadeWire, IsSoundIn, statements_in, values_in, with_variables}
use Rattle.vital_cell.specs.Programs.{IsProcess}
use Rattle.vital_cell.proofs.BitLemmas.{bit-below, input-there}
use Rattle.vital_cell.proofs.ShortLemmas.{process-values-short}
use Rattle.vital_cell.proofs.SoundLemmas.{first-holds, second-holds}
use Rattle.vital_cell.proofs.CellStatementLemmas.{sections-sound}
use Rattle.vital_cell.proofs.CellValueLemmas.{distinct-front, kinds-sound, variables-differ}
use Rattle.vital_typed_cells.specs.Fits.{FitsCell}
use Rattle.vital_cell.specs.Environments.{control_of, generic_delay}
use Rattle.vital_cell.specs.Execution as execution
use Rattle.vital_cell.specs.Execution.{Process', Wire, first_driver, present_in}
use Rattle.vital_cell.specs.Statements.{State, executed}
use Rattle.vital_machine.specs.declared.effect.Effect.{Effect}
use Rattle.vital_machine.specs.declared.input.Input.{Input}
use Rattle.vital_machine.specs.declared.program.Process.{Process}
use Rattle.vital_machine.specs.declared.slot.Slot.{Slot}
use Rattle.vital_machine.specs.declared.steps.Executed.{Executed as Steps}
use Rattle.vital_machine.specs.declared.steps.Executed.TheVariants as steps
use Rattle.vital_machine.specs.Fits.{kinds_of}
use Rattle.vital_machine.specs.Inputs.{absent}
use Rattle.vital_machine.specs.Machine.{activation, wire_sent}
use Rattle.vital_objects.specs.declared.variable.Variable.{Variable}
use Rattle.vital_objects.specs.declared.variable.VariableKind.{VariableKind}
use Rattle.vital_objects.specs.declared.variable.VariableKind.TheVariants as kind
use Rattle.vital_operands.specs.declared.tree.Control.TheVariants as control
use Rattle.vital_sections.specs.declared.sections.Sections.{Sections}
use Rattle.vital_typed_cells.specs.ExprScopes.{Scope as Tests}
use Rattle.vital_typed_cells.specs.KeptStates.{kept_by}
use Rattle.vital_typed_cells.specs.Named.{is_input_port, is_internal}
use Rattle.vital_typed_cells.specs.Sound.{IsSound, IsSoundProcess, bit_count, is_sound_wire}
use Rattle.vital_typed_cells.specs.SoundDeclarations.{is_sound_kind}
use Rattle.vital_typed_cells.specs.SoundSections.{are_sound_sections, is_sound_functional}
use Rattle.vital_typed_cells.specs.SoundStatements.{is_sound_check, is_sound_path_delay}
use Rattle.vital_cell.specs.Formed.{IsFormed}
use Rattle.vital_cell.specs.Kinds.{AreOfKinds, IsShort, keeps}
use Rattle.vital_cell.specs.Laws.{BeginWell, KindsSuit, SlotsBegin, StepsKeepKinds, StepsStand}
use Rattle.vital_cell.specs.Named.{by_name, named}
use Rattle.vital_cell.specs.Scopes.{Scope, names_of_variables, present}
use Rattle.vital_cell.specs.Sound.{has_state_table, statement_tests, tests}
use Rattle.vital_cell.specs.Values.{scope_of_cell, scope_of_process}
use Rattle.vital_timing.specs.declared.delay.Delay.{Delay}
use Rattle.vital_typed_cells.specs.Bits.{names_of, number_of}
use Rattle.vital_typed_cells.specs.declared.process.CellProcess.{CellProcess}
use Rattle.vital_typed_cells.specs.declared.typed_cell.TypedCell.{TypedCell}
use Rattle.vital_typed_cells.specs.declared.wire.WireDelay.{WireDelay}
use Rattle.vital_typed_cells.specs.PackageWorths.{packages_worth}

-- ---- what a process of a sound cell meets

pub sound-in-values : (c : TypedCell) (values : List Delay) (p : CellProcess) → IsSound c → IsSoundProcess c p → FitsCell c values → IsSoundIn (values_in (scope_of_cell c values) p) p
sound-in-values c values p sound process fit = record {
  outside = refl;
  defaults = kinds-sound c values p (values_in (scope_of_cell c values) p) process refl refl;
  statements = sections-sound c values p process;
  names = variables-differ c p process.names_differ;
  kept_once = distinct-front (map kept_by p.sections.checks) (map (λ d. d.glitch_data) p.sections.path_delays) process.kept_once;
  short = process-values-short c values p sound process fit;
}

checks-sound : (k : Scope) (s : Sections) → are_sound_sections (has_state_table k) (statement_tests k) s ≡ true → list_all (is_sound_check (statement_tests k)) s.checks ≡ true
checks-sound k s sound =
    first-holds (list_all (is_sound_check (statement_tests k)) s.checks)
    (list_all (is_sound_functional (has_state_table k) (tests k)) s.functionality && list_all (is_sound_path_delay (statement_tests k)) s.path_delays) sound

pub begins : SlotsBegin → (v : Scope) (driver : ℕ) (p : CellProcess) (made : Process) → IsSoundIn v p → IsMadeProcess v (with_variables v p.variables) driver p made → BeginWell v (with_variables v p.variables) p.sections.checks made.first
begins law v driver p made sound is =
    let k = with_variables v p.variables in
    law v k p.sections.checks made.first sound.names sound.kept_once (checks-sound k p.sections sound.statements) is.first

vector-short : (n : ℕ) → nat_le n 256 ≡ true → n ≤ 256
vector-short n is = grind (arith, nat_tests)

kind-short : (t : Tests) (q : VariableKind) → is_sound_kind t q ≡ true → IsShort q
kind-short t (kind.Vector n default) is = vector-short n (first-holds (nat_le n 256) _ is)
kind-short t (kind.Level default) is = tt
kind-short t (kind.X01 default) is = tt
kind-short t kind.GlitchData is = tt
kind-short t kind.TimingData is = tt
kind-short t kind.PeriodData is = tt

kinds-short : (t : Tests) (vs : List Variable) → list_all (λ q. is_sound_kind t q.kind) vs ≡ true → All (λ q. IsShort q.kind) vs
kinds-short t [] is = All-nil (λ q. IsShort q.kind)
kinds-short t (v ∷ vs) is =
    let rest = list_all (λ (q : Variable). is_sound_kind t q.kind) vs in
    All-cons (λ q. IsShort q.kind) v vs (kind-short t v.kind (first-holds (is_sound_kind t v.kind) rest is)) (kinds-short t vs (second-holds (is_sound_kind t v.kind) rest is))

formed : (v : Scope) (p : CellProcess) → IsSoundIn v p → IsFormed (with_variables v p.variables)
formed v p sound = record { distinct = sound.names; short = kinds-short (tests v) p.variables sound.defaults }

-- ---- a process

done-by : StepsStand → (k : Scope) (driver : ℕ) (p : CellProcess) (s : Steps) (checks_on : Bool) (now : ℕ) (inputs : List Input) (slots : List Slot) → IsFormed k → AreOfKinds k.variables slots
    → are_sound_sections (has_state_table k) (statement_tests k) p.sections ≡ true → list_all (keeps (names_of_variables k) slots) p.sections.checks ≡ true → HasSteps k driver p s
    → by_name (names_of_variables k) (activation inputs checks_on now slots s) ≡ executed (present k now inputs) checks_on driver p.sections (named (names_of_variables k) slots)
done-by law k driver p (steps.Process s) on now inputs slots is-formed are sound kept has = law k p.sections s driver on now inputs slots is-formed are sound kept has
done-by law k driver p (steps.Wire w) on now inputs slots is-formed are sound kept has = absurd has

kept-by : StepsKeepKinds → (k : Scope) (driver : ℕ) (p : CellProcess) (s : Steps) (checks_on : Bool) (now : ℕ) (inputs : List Input) (slots : List Slot) → HasSteps k driver p s
    → kinds_of (activation inputs checks_on now slots s).slots ≡ kinds_of slots
kept-by law k driver p (steps.Process s) on now inputs slots has = law inputs on now slots s
kept-by law k driver p (steps.Wire w) on now inputs slots has = absurd has

abbrev checks_of : TypedCell → Bool
checks_of c = control_of (packages_worth c.packages) c.controls control.TimingChecksOn

activated-by : StepsStand → KindsSuit → (c : TypedCell) (values : List Delay) (on : Bool) (number driver : ℕ) (p : CellProcess) (made : Process)
    → IsSoundIn (values_in (scope_of_cell c values) p) p → BeginWell (values_in (scope_of_cell c values) p) (statements_in (scope_of_cell c values) p) p.sections.checks made.first
    → HasSteps (statements_in (scope_of_cell c values) p) driver p made.steps → first_driver c number ≡ driver → on ≡ checks_of c
    → (now : ℕ) (inputs : List Input) (slots : List Slot) → kinds_of slots ≡ kinds_of made.first
    → by_name (map (λ v. v.name) p.variables) (activation inputs on now slots made.steps)
    ≡ execution.activation c values (first_driver c number) now inputs (named (map (λ v. v.name) p.variables) slots) (Process' p)
activated-by stand suit c values on number driver p made sound begin has numbered is-on now inputs slots kinds =
    let k = scope_of_process c values p in
    let held = named (map (λ (v : Variable). v.name) p.variables) slots in
    let suits = suit k p.sections.checks slots made.first kinds begin.kinds begin.kept in
    done-by stand k driver p made.steps on now inputs slots (formed (values_in (scope_of_cell c values) p) p sound) suits.0 sound.statements suits.1 has
    ∙ ap (λ b. executed (present_in c values p now inputs) b driver p.sections held) is-on
    ∙ ap (λ d. executed (present_in c values p now inputs) (checks_of c) d p.sections held) (sym numbered)

pub process-stands : StepsStand → StepsKeepKinds → KindsSuit → SlotsBegin → (c : TypedCell) (values : List Delay) (on : Bool) (number driver : ℕ) (p : CellProcess) (made : Process)
    → IsSoundIn (values_in (scope_of_cell c values) p) p → first_driver c number ≡ driver → on ≡ checks_of c
    → IsMadeProcess (values_in (scope_of_cell c values) p) (statements_in (scope_of_cell c values) p) driver p made → IsProcess c values on (number, Process' p) made
process-stands stand keep suit begin c values on number driver p made sound numbered is-on is =
    let k = scope_of_cell c values in
    let well = begins begin (values_in k p) driver p made sound is in
    record {
      first = well.named;
      activated = λ now inputs slots counted kinds. activated-by stand suit c values on number driver p made sound well is.steps numbered is-on now inputs slots kinds;
      kept = λ now inputs slots kinds. kept-by keep (statements_in k p) driver p made.steps on now inputs slots is.steps ∙ kinds;
    }

-- ---- a wire delay

sent-by : (send : Input → List Effect) (inputs : List Input) (o : Option ℕ) → is_some o ≡ true → unwrap_or o 0 < length inputs
    → option_map_or send (slice_get inputs (unwrap_or o 0)) [] ≡ send (unwrap_or (option_and_then (slice_get inputs) o) absent)
sent-by send inputs None some below = absurd (false≢true some)
sent-by send inputs (Some n) some below =
    let there = slice_get-get_or inputs n absent below in
    ap (λ o. option_map_or send o []) there ∙ ap (λ o. send (unwrap_or o absent)) (sym there)

pub wire-input : (c : TypedCell) (w : WireDelay) → is_sound_wire c w ≡ true → is_some (number_of (names_of c.ports c.signals) w.port) ≡ true
wire-input c w sound = input-there c.ports c.signals w.port (first-holds (is_input_port c.ports w.port) _ (second-holds (is_internal c.signals w.signal) _ sound))

wire-effects : (c : TypedCell) (values : List Delay) (number driver : ℕ) (w : WireDelay) (inputs : List Input) → is_sound_wire c w ≡ true → first_driver c number ≡ driver → length inputs ≡ bit_count c
    → option_map_or (wire_sent (record { driver = driver; port = unwrap_or (number_of (names_of c.ports c.signals) w.port) 0; delay = generic_delay c values w.generic })) (slice_get inputs (unwrap_or (number_of (names_of c.ports c.signals) w.port) 0)) []
    ≡ execution.wire_effects c values (first_driver c number) inputs w
wire-effects c values number driver w inputs sound numbered counted =
    let o = number_of (names_of c.ports c.signals) w.port in
    let some = wire-input c w sound in
    let P : ℕ → Type 0 = λ n. unwrap_or o 0 < n in
    sent-by (wire_sent (record { driver = driver; port = unwrap_or o 0; delay = generic_delay c values w.generic })) inputs o some (subst P (sym counted) (bit-below c w.port some))
    ∙ ap (λ d. execution.wire_effects c values d inputs w) (sym numbered)

pub wire-stands : (c : TypedCell) (values : List Delay) (on : Bool) (number driver : ℕ) (w : WireDelay) (made : Process) → is_sound_wire c w ≡ true → first_driver c number ≡ driver
    → IsMadeWire (scope_of_cell c values) driver w made → IsProcess c values on (number, Wire w) made
wire-stands c values on number driver w made sound numbered is = record {
  first = refl;
  activated = λ now inputs slots counted kinds.
      ap (λ s. by_name [] (activation inputs on now slots s)) is.steps
      ∙ ap (λ effects. let done : State = record { slots = []; effects = effects } in done) (wire-effects c values number driver w inputs sound numbered counted);
  kept = λ now inputs slots kinds. ap (λ s. kinds_of (activation inputs on now slots s).slots) is.steps ∙ kinds;
}
