-- A process that runs, as code runs it.
use Rattle.std.proofs.Common.{◌≡◌, ◌∙◌, ℕ, ◌+◌, ◌<◌, ◌≤◌, List, [], ◌∷◌, length, map, get_or, Some, OnOk, Result, refl, ap, sym, subst, arith}
use Rattle.std.specs.List.{flat_map, fold}
use Rattle.std.specs.Option.{option_map}
use Rattle.std.specs.Prelude.{IfSome, slice_get}
use Rattle.std.proofs.lemmas.List.{length-map}
use Rattle.std.proofs.lemmas.Option.{slice_get-map, slice_get_read, slice_get_within}
use Rattle.vital_agenda.specs.Agendas.{Content}
use Rattle.vital_kernel.specs.Activations.{Activates, CanRun, KeepsValues, from_state, message_text, state_of, text_in}
use Rattle.vital_kernel.specs.Cycles.{activated, sent}
use Rattle.vital_kernel.specs.States.{State}
use Rattle.vital_kernel.proofs.Activations.{messages_are}
use Rattle.vital_kernel.proofs.ProcessCells.{all_at, cell_there}
use Rattle.vital_kernel.proofs.CycleLemmas.{on_ok}
use Rattle.vital_kernel.proofs.Steps.{if_some_at, some_at}
use Rattle.vital_kernel.specs.DesignNetworks.{driver_count}
use Rattle.vital_kernel.specs.Networks.{NetCell, NetProcess, Network, all_drivers, lent_cell, processes}
use Rattle.vital_kernel.specs.Soundness.{IsSoundCell, IsSoundNetwork}
use Rattle.vital_kernel.specs.declared.network.NetCell.{NetCell as NetCell'}
use Rattle.vital_kernel.specs.Processes.{ProcessStates, after, done_by}
use Rattle.vital_report.specs.Reporters.{PrinterState, PrintsPart}
use Rattle.vital_report.specs.declared.print_error.PrintError.{PrintError}
use Rattle.vital_signals.specs.SignalStates.{SignalState}

-- the process of a number ran
pub record Ran (n : Network) (k : ℕ) (content : Content) (s : SignalState) (old new : ProcessStates) : Type 0 where
  pub process : NetProcess
  pub there : slice_get (processes n) k ≡ Some process
  pub lent : slice_get (processes old.network) k ≡ Some process
  pub is : new ≡ after content.now s.signals process old
  pub cell : slice_get n.cells process.instance ≡ Some process.cell
  pub network : new.network ≡ n

pub ran : (n : Network) (k now : ℕ) (content : Content) (s : SignalState) (old new : ProcessStates) → CanRun n content s old → now ≡ content.now → k < length (processes n)
    → IfSome (slice_get (processes old.network) k) (λ p. new ≡ after now s.signals p old) → Ran n k content s old new
ran n k now content s old new can same lt h =
    let p = some_at (processes n) k lt in
    let lent : slice_get (processes old.network) k ≡ Some p.0 = ap (λ (m : Network). slice_get (processes m) k) can.network ∙ p.1 in
    let is : new ≡ after content.now s.signals p.0 old =
    if_some_at (λ x. new ≡ after now s.signals x old) (slice_get (processes old.network) k) p.0 h lent ∙ ap (λ (t : ℕ). after t s.signals p.0 old) same in
    record {
      process = p.0;
      there = p.1;
      lent = lent;
      is = is;
      cell = cell_there n k p.0 p.1;
      network = ap (λ (x : ProcessStates). x.network) is ∙ can.network;
    }

-- ---- its instance, as it is lent

pub instance_there : (n : Network) (cells : List NetCell') (instance : ℕ) (p : NetProcess) → map lent_cell cells ≡ n.cells → slice_get n.cells p.instance ≡ Some p.cell → p.instance ≡ instance
    → instance < length cells
instance_there n cells instance p lent there same =
    let within = slice_get_within n.cells p.instance p.cell there in
    omega (arith, within, same, ap length lent, length-map cells lent_cell)

pub cell_is : (n : Network) (cells : List NetCell') (instance : ℕ) (p : NetProcess) (cell : NetCell') → map lent_cell cells ≡ n.cells → slice_get n.cells p.instance ≡ Some p.cell → p.instance ≡ instance
    → cell ≡ get_or cells instance cell → lent_cell cell ≡ p.cell
cell_is n cells instance p cell lent there same read =
    let lt = instance_there n cells instance p lent there same in
    let here : slice_get cells instance ≡ Some cell = slice_get_read cells (length cells) instance cell refl lt read in
    let some : Some (lent_cell cell) ≡ Some p.cell =
    sym (ap (option_map lent_cell) here) ∙ sym (slice_get-map lent_cell cells instance) ∙ ap (λ (xs : List NetCell). slice_get xs instance) lent
    ∙ ap (slice_get n.cells) (sym same) ∙ there in
    cc

pub drivers_fit : (n : Network) (count : ℕ) (p : NetProcess) (cell : NetCell) → IsSoundNetwork n → slice_get n.cells p.instance ≡ Some p.cell → cell ≡ p.cell → count ≡ length (all_drivers n)
    → cell.first_driver + driver_count cell.tree ≤ count
drivers_fit n count p cell sound there same many =
    let fits : IsSoundCell n p.cell = all_at (IsSoundCell n) n.cells p.instance p.cell sound.cells_sound there in
    subst (λ (c : NetCell). c.first_driver + driver_count c.tree ≤ count) (sym same) (subst (λ (x : ℕ). p.cell.first_driver + driver_count p.cell.tree ≤ x) (sym many) fits.drivers_there)

-- ---- what it does

pub activates_one : (result : Result Unit PrintError) (n : Network) (k delta : ℕ) (content next : Content) (s : SignalState) (old new : ProcessStates) (r : Ran n k content s old new) (cell : NetCell) (q : NetProcess)
    (x y : PrinterState) → cell ≡ r.process.cell → slice_get (processes n) k ≡ Some q
    → OnOk result (next ≡ (let it : Content = record { now = content.now; drivers = fold (sent content.now cell.first_driver) content.drivers new.effects } in it))
    → PrintsPart result (flat_map (message_text content.now delta cell) new.effects) x y
    → Activates result n (q ∷ []) (state_of content delta s.signals old.variables) (state_of next delta s.signals new.variables) x y
activates_one result n k delta content next s old new r cell q x y same there sent_all printed =
    let p = r.process in
    let some : Some p ≡ Some q = sym r.there ∙ there in
    let is : p ≡ q = cc in
    let done = done_by content.now s.signals old.variables p in
    let before : State = state_of content delta s.signals old.variables in
    let effects : new.effects ≡ done.effects = ap (λ (z : ProcessStates). z.effects) r.is in
    let told : flat_map (message_text content.now delta cell) new.effects ≡ text_in n (activated (from_state before) p).happened =
    ap (λ (c : NetCell). flat_map (message_text content.now delta c) new.effects) same ∙ ap (flat_map (message_text content.now delta p.cell)) effects
    ∙ sym (messages_are n p.cell content.now delta p.instance done.effects r.cell) in
    subst (λ (z : NetProcess). Activates result n (z ∷ []) before (state_of next delta s.signals new.variables) x y) is (record {
      state = on_ok result sent_all (λ e.
          ap (λ (c : Content). state_of c delta s.signals new.variables) e
          ∙ ap (λ (z : NetCell). let it : State = record { now = content.now; delta = delta; drivers = fold (sent content.now z.first_driver) content.drivers new.effects; signals = s.signals; variables = new.variables } in it) same
          ∙ ap (λ (z : ProcessStates). let it : State = record { now = content.now; delta = delta; drivers = fold (sent content.now p.cell.first_driver) content.drivers z.effects; signals = s.signals; variables = z.variables } in it) r.is);
      prints = subst (λ (text : List ℕ). PrintsPart result text x y) told printed;
    })

pub can_run_on : (n : Network) (k : ℕ) (content next : Content) (s : SignalState) (old new : ProcessStates) → CanRun n content s old → Ran n k content s old new → KeepsValues content next → CanRun n next s new
can_run_on n k content next s old new can r keeps =
    record {
      network = r.network;
      later = omega (arith, ap (λ (x : ProcessStates). x.latest) r.is, keeps.now);
      now = omega (arith, can.now, keeps.now);
      signals = can.signals;
      drivers = keeps.as_many ∙ can.drivers;
    }
