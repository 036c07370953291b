-- Stores that fit a program.
use Rattle.std.proofs.Common.{◌≡◌, ℕ, ◌≤◌, List, [], ◌∷◌, length, map, refl, sym, ◌∙◌, ap, subst, arith}
use Rattle.std.specs.Prelude.{slice_set, All}
use Rattle.std.proofs.lemmas.List.Elements.{All-map, All-set, All-weaker}
use Rattle.vital_machine.specs.declared.program.Process.{Process}
use Rattle.vital_machine.specs.declared.slot.Slot.{Slot}
use Rattle.vital_machine.specs.declared.steps.Executed.{Executed}
use Rattle.vital_machine.specs.declared.steps.Executed.TheVariants as executed
use Rattle.vital_machine.specs.Fits.{AreProcesses, FitsStore, HasRoom, HaveTimes, IsProcess, kinds_of}
use Rattle.vital_machine.specs.Machine.{slots_of}
use Rattle.vital_machine.specs.Programs.{ProgramParts, SlotLists}
use Rattle.vital_machine.proofs.ChangeLemmas.{map-same_set}
use Rattle.vital_machine.proofs.TimeLemmas.{times-later}

-- Room for more paths.
pub more-room : (few more : ℕ) → few ≤ more → (steps : Executed) → HasRoom few steps → HasRoom more steps
more-room few more le (executed.Wire w) has = tt
more-room few more le (executed.Process p) has =
    All-weaker (λ d. length d.paths ≤ few) (λ d. length d.paths ≤ more) (λ d fits. omega arith) p.path_delays has

-- The variables of one process are new.
pub store-fits : (program : ProgramParts) (now later : ℕ) (store : SlotLists) (number : ℕ) (new : List Slot) → FitsStore program now store → now ≤ later → HaveTimes now new → kinds_of new ≡ kinds_of (slots_of store number) → FitsStore program later (record { listed = slice_set store.listed number new; room = store.room })
store-fits program now later store number new fits le have same = record {
  kinds = map-same_set kinds_of store.listed number new [] same ∙ fits.kinds;
  times =
      All-set (HaveTimes later) store.listed number new (times-later now later new le have)
      (All-weaker (HaveTimes now) (HaveTimes later) (λ slots has. times-later now later slots le has) store.listed fits.times);
  room = fits.room;
}

first-kinds : (processes : List Process) → map kinds_of (map (λ p. p.first) processes) ≡ map (λ p. kinds_of p.first) processes
first-kinds [] = refl
first-kinds (p ∷ processes) = ap (λ rest. kinds_of p.first ∷ rest) (first-kinds processes)

first-times : (now : ℕ) (processes : List Process) → AreProcesses processes → All (HaveTimes now) (map (λ p. p.first) processes)
first-times now processes are =
    All-map (HaveTimes now) (λ p. p.first) processes
    (All-weaker IsProcess (λ p. HaveTimes now p.first) (λ p is. times-later 0 now p.first (omega arith) is.first) processes are)

-- The variables as they begin.
pub first-fits : (program : ProgramParts) (now : ℕ) (store : SlotLists) → AreProcesses program.processes → All (λ p. HasRoom store.room p.steps) program.processes → store.listed ≡ map (λ p. p.first) program.processes → FitsStore program now store
first-fits program now store are room first = record {
  kinds = ap (map kinds_of) first ∙ first-kinds program.processes;
  times = subst (All (HaveTimes now)) (sym first) (first-times now program.processes are);
  room = room;
}
