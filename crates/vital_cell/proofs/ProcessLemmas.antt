-- Numbered steps stand for the statements of a process.
use Rattle.std.proofs.Common.{◌≡◌, ℕ, ◌+◌, true, false, List, [], ◌∷◌, refl, ◌∙◌, ap}
use Rattle.std.specs.Prelude.{Bool, ◌&&◌, cond}
use Rattle.std.specs.List.{enumerate_from, fold, list_all}
use Rattle.vital_cell.specs.Statements as E
use Rattle.vital_machine.specs.declared.input.Input.{Input}
use Rattle.vital_machine.specs.declared.slot.Slot.{Slot}
use Rattle.vital_machine.specs.declared.steps.CheckStep.{CheckStep}
use Rattle.vital_machine.specs.declared.steps.ProcessSteps.{ProcessSteps}
use Rattle.vital_machine.specs.Fits.{kinds_of}
use Rattle.vital_machine.specs.Machine as M
use Rattle.vital_sections.specs.declared.path_delay.PathDelay.{PathDelay}
use Rattle.vital_sections.specs.declared.sections.Sections.{Sections}
use Rattle.vital_typed_cells.specs.SoundSections.{are_sound_sections, is_sound_functional}
use Rattle.vital_typed_cells.specs.SoundStatements.{is_sound_check, is_sound_path_delay}
use Rattle.vital_cell.specs.Formed.{IsFormed}
use Rattle.vital_cell.specs.Kinds.{AreOfKinds, keeps}
use Rattle.vital_cell.specs.Named.{by_name, named}
use Rattle.vital_cell.specs.Scopes.{Scope, names_of_variables, present}
use Rattle.vital_cell.specs.Sound.{has_state_table, statement_tests, tests}
use Rattle.vital_cell.specs.Steps.{AreSteps}
use Rattle.vital_cell.proofs.CheckLemmas.{checks-kept, checks-stand}
use Rattle.vital_cell.proofs.CheckPartLemmas.{state-same}
use Rattle.vital_cell.proofs.DelayLemmas.{delays-kept, delays-stand}
use Rattle.vital_cell.proofs.FitsLemmas.{kinds-suit}
use Rattle.vital_cell.proofs.FunctionalLemmas.{functionality-kept, functionality-stands}
use Rattle.vital_cell.proofs.SoundLemmas.{first-holds, second-holds}

abbrev checked : List Input → Bool → ℕ → M.State → List CheckStep → M.State
checked inputs on now st xs = cond on (fold (M.check_step inputs now) st xs) st

checked-stands : (k : Scope) (sections : Sections) (x : ProcessSteps) (n : ℕ) (on : Bool) (now : ℕ) (inputs : List Input) (st : M.State)
    → IsFormed k → AreOfKinds k.variables st.slots → list_all (is_sound_check (statement_tests k)) sections.checks ≡ true → list_all (keeps (names_of_variables k) st.slots) sections.checks ≡ true → AreSteps k n sections x
    → by_name (names_of_variables k) (checked inputs on now st x.checks) ≡ E.with_checks (present k now inputs) on sections (by_name (names_of_variables k) st)
checked-stands k sections x n true now inputs st formed are sound kept is = checks-stand k sections.checks x.checks st now inputs formed are sound kept is.checks
checked-stands k sections x n false now inputs st formed are sound kept is = refl

checked-kept : (inputs : List Input) (on : Bool) (now : ℕ) (st : M.State) (xs : List CheckStep) → kinds_of (checked inputs on now st xs).slots ≡ kinds_of st.slots
checked-kept inputs true now st xs = checks-kept inputs now st xs
checked-kept inputs false now st xs = refl

all-numbered : (test : PathDelay → Bool) (n : ℕ) (ds : List PathDelay) → list_all test ds ≡ true → list_all (λ (d : ℕ × PathDelay). test d.1) (enumerate_from n ds) ≡ true
all-numbered test n [] all = refl
all-numbered test n (d ∷ ds) all =
    ap (λ b. b && list_all (λ (y : ℕ × PathDelay). test y.1) (enumerate_from (n + 1) ds)) (first-holds (test d) (list_all test ds) all)
    ∙ all-numbered test (n + 1) ds (second-holds (test d) (list_all test ds) all)

pub process-stands : (k : Scope) (sections : Sections) (x : ProcessSteps) (n : ℕ) (on : Bool) (now : ℕ) (inputs : List Input) (slots : List Slot)
    → IsFormed k → AreOfKinds k.variables slots → are_sound_sections (has_state_table k) (statement_tests k) sections ≡ true → list_all (keeps (names_of_variables k) slots) sections.checks ≡ true → AreSteps k n sections x
    → by_name (names_of_variables k) (M.process inputs on now slots x) ≡ E.executed (present k now inputs) on n sections (named (names_of_variables k) slots)
process-stands k sections x n on now inputs slots formed are sound kept is =
    let a = list_all (is_sound_check (statement_tests k)) sections.checks in
    let b = list_all (is_sound_functional (has_state_table k) (tests k)) sections.functionality in
    let c = list_all (is_sound_path_delay (statement_tests k)) sections.path_delays in
    let began : M.State = record { slots = slots; effects = [] } in
    let first = checked inputs on now began x.checks in
    let first-kept = checked-kept inputs on now began x.checks in
    let first-are = kinds-suit k.variables first.slots slots first-kept are in
    let second = M.after_functionality inputs x.functionality first in
    let second-kept = functionality-kept inputs first.slots x.functionality in
    let second-are = kinds-suit k.variables second.slots first.slots second-kept first-are in
    let p = present k now inputs in
    delays-stand k (enumerate_from n sections.path_delays) x.path_delays second now inputs formed second-are
    (all-numbered (is_sound_path_delay (statement_tests k)) n sections.path_delays (second-holds b c (second-holds a (b && c) sound))) is.path_delays
    ∙ ap (λ y. fold (E.delayed p) y (enumerate_from n sections.path_delays))
    (state-same _ _ _ _ (functionality-stands k sections.functionality x.functionality now inputs first.slots formed first-are (first-holds b c (second-holds a (b && c) sound)) is.functionality) refl
    ∙ ap (λ y. E.with_functionality p sections y) (checked-stands k sections x n on now inputs began formed are (first-holds a (b && c) sound) kept is))

pub process-kept : (inputs : List Input) (on : Bool) (now : ℕ) (slots : List Slot) (x : ProcessSteps) → kinds_of (M.process inputs on now slots x).slots ≡ kinds_of slots
process-kept inputs on now slots x =
    let began : M.State = record { slots = slots; effects = [] } in
    let first = checked inputs on now began x.checks in
    let second = M.after_functionality inputs x.functionality first in
    delays-kept inputs now second x.path_delays ∙ functionality-kept inputs first.slots x.functionality ∙ checked-kept inputs on now began x.checks
