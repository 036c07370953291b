-- What a process of an instance does, by numbers and by names.
use Rattle.std.proofs.Common.{◌≡◌, ◌<◌, ◌≤◌, ℕ, List, [], length, map, get_or, sym, ◌∙◌, ap, subst, arith}
use Rattle.std.specs.Prelude.{All, slice_get, slice_set, unwrap_or, Some}
use Rattle.std.specs.List.{AllZip, enumerate_from, slice_index_or, zip}
use Rattle.std.specs.Option.{option_map_or}
use Rattle.std.proofs.lemmas.List.{get_or-map, length-map}
use Rattle.std.proofs.lemmas.List.FromFn.{length-enumerate_from}
use Rattle.std.proofs.lemmas.Option.{get_or_from_slice_get, same_Some, slice_get-get_or, slice_get_within}
use Rattle.std.proofs.lemmas.Slice.Zip.{AllZip-long}
use Rattle.vital_cell.specs.Programs.{IsProcess, StandsFor, variables_of}
use Rattle.vital_cell.specs.Execution as execution
use Rattle.vital_cell.specs.Execution.{Executed, all_executed, exec, first_driver}
use Rattle.vital_machine.specs.declared.input.Input.{Input}
use Rattle.vital_machine.specs.declared.program.Process.{Process}
use Rattle.vital_machine.specs.declared.slot.Slot.{Slot}
use Rattle.vital_machine.specs.Fits.{EffectIsOfCell, EndsInTime, FitsStore, StepsAreOfCell, kinds_of}
use Rattle.vital_machine.specs.Inputs.{absent}
use Rattle.vital_machine.specs.Machine.{activated, activation}
use Rattle.vital_machine.specs.Programs.{ProgramParts, SlotLists}
use Rattle.vital_kernel.specs.DesignNetworks.{driver_count}
use Rattle.vital_kernel.specs.Networks.{NetCell, NetProcess}
use Rattle.vital_kernel.proofs.ListLemmas.{and-set, and-some, and-weaker, changed-at, numbered-first, set-same, zip-at, zip-set, zipped-at, zipped-set, zipped-weaker}
use Rattle.vital_kernel.specs.declared.instances.Instance.{Instance}
use Rattle.vital_kernel.specs.declared.instances.Instances.{Instances}
use Rattle.vital_kernel.specs.Instances.{FitsFrom, HasRun, Runs, Stands, effects_in, instance_variables, named_slots, variables_in}
use Rattle.vital_kernel.specs.Places.{IsThere}
use Rattle.vital_kernel.specs.Processes.{done_by, input, slots_of, with_slots}
use Rattle.vital_kernel.specs.Programs.{ProgramState, seen}
use Rattle.vital_signals.specs.declared.signal.Signal.{Signal}
use Rattle.vital_typed_cells.specs.Sound.{bit_count}
use Rattle.vital_cell.specs.Named.{by_name, named}

-- ---- a program that stands for a cell

pub processes-long : (c : NetCell) (program : ProgramParts) → StandsFor program c.tree c.delays → length program.processes ≡ length (all_executed c.tree)
processes-long c program stands =
    AllZip-long (IsProcess c.tree c.delays program.timing_checks_on) (enumerate_from 0 (all_executed c.tree)) program.processes stands.processes
    ∙ length-enumerate_from 0 (all_executed c.tree)

stored-long : (program : ProgramParts) (store : SlotLists) (now : ℕ) → FitsStore program now store → length store.listed ≡ length program.processes
stored-long program store now fits =
    sym (length-map store.listed kinds_of) ∙ ap length fits.kinds ∙ length-map program.processes (λ p. kinds_of p.first)

kinds-at : (program : ProgramParts) (store : SlotLists) (now number : ℕ) (q : Process) → FitsStore program now store → slice_get program.processes number ≡ Some q → kinds_of (slice_index_or store.listed number []) ≡ kinds_of q.first
kinds-at program store now number q fits is =
    let within : number < length program.processes = slice_get_within program.processes number q is in
    let there : number < length store.listed = subst (λ n. number < n) (sym (stored-long program store now fits)) within in
    sym (get_or-map kinds_of store.listed number [] [] there)
    ∙ ap (λ ks. get_or ks number []) fits.kinds
    ∙ get_or-map (λ p. kinds_of p.first) program.processes number q [] within
    ∙ ap (λ p. kinds_of p.first) (get_or_from_slice_get program.processes number q q is)

-- What it does by name is what it does by number.
pub done-by-name : (c : NetCell) (program : ProgramParts) (store : SlotLists) (number : ℕ) (executed : Executed) (now : ℕ) (inputs : List Input) → StandsFor program c.tree c.delays → FitsStore program now store → length inputs ≡ bit_count c.tree → slice_get (all_executed c.tree) number ≡ Some executed → exec c.tree c.delays number now inputs (named (variables_of executed) (slice_index_or store.listed number [])) ≡ by_name (variables_of executed) (activated program number now store inputs)
done-by-name c program store number executed now inputs stands fits one-each is =
    let names = variables_of executed in
    let slots = slice_index_or store.listed number [] in
    let at = zipped-at (IsProcess c.tree c.delays program.timing_checks_on) (enumerate_from 0 (all_executed c.tree)) program.processes number (number, executed) stands.processes (numbered-first (all_executed c.tree) number executed is) in
    ap (λ o. option_map_or (λ x. execution.activation c.tree c.delays (first_driver c.tree number) now inputs (named names slots) x) o (record { slots = named names slots; effects = [] })) is
    ∙ sym (at.2.activated now inputs slots one-each (kinds-at program store now number at.0 fits at.1))
    ∙ sym (ap (λ o. by_name names (option_map_or (λ p. activation inputs program.timing_checks_on now slots p.steps) o (record { slots = slots; effects = [] }))) at.1)

-- ---- variables

-- What those of a process hold.
pub slots-before : (cells : List NetCell) (instances : List Instance) (p : NetProcess) (instance : Instance) → IsThere cells p → slice_get instances p.instance ≡ Some instance → p.number < length instance.store.listed → slots_of (variables_in cells instances) p ≡ named (variables_of p.executed) (slice_index_or instance.store.listed p.number [])
slots-before cells instances p instance there at within =
    ap (λ o. unwrap_or (slice_get (unwrap_or o []) p.number) []) (zip-at instance_variables cells instances p.instance p.cell instance there.cell at)
    ∙ ap (λ o. unwrap_or o []) (zip-at named_slots (all_executed p.cell.tree) instance.store.listed p.number p.executed (slice_index_or instance.store.listed p.number []) there.executed (slice_get-get_or instance.store.listed p.number [] within))

-- Those of all processes, where those of one hold something else.
pub variables-after : (cells : List NetCell) (instances : List Instance) (p : NetProcess) (before after : Instance) (slots : List Slot) → IsThere cells p → slice_get instances p.instance ≡ Some before → after.store.listed ≡ slice_set before.store.listed p.number slots → variables_in cells (slice_set instances p.instance after) ≡ with_slots p (named (variables_of p.executed) slots) (variables_in cells instances)
variables-after cells instances p before after slots there at is =
    let xs = all_executed p.cell.tree in
    let held = named (variables_of p.executed) slots in
    let all = variables_in cells instances in
    zip-set instance_variables cells instances p.instance p.cell after there.cell
    ∙ ap (λ vs. slice_set all p.instance vs) (ap (λ listed. map named_slots (zip xs listed)) is ∙ zip-set named_slots xs before.store.listed p.number p.executed slots there.executed)
    ∙ sym (changed-at p.instance (λ of_processes. slice_set of_processes p.number held) all (instance_variables (p.cell, before)) (zip-at instance_variables cells instances p.instance p.cell before there.cell at))

-- ---- instances

pub runs-at : (latest : ℕ) (programs : List ProgramState) (cells : List NetCell) (instances : List Instance) (i : ℕ) (cell : NetCell) (instance : Instance) → AllZip (Runs latest programs) cells instances → slice_get cells i ≡ Some cell → slice_get instances i ≡ Some instance → Runs latest programs cell instance
runs-at latest programs cells instances i cell instance all at-cell at =
    let found = zipped-at (Runs latest programs) cells instances i cell all at-cell in
    subst (λ x. Runs latest programs cell x) (same_Some found.0 instance (sym found.1 ∙ at)) found.2

-- They are instances of their cells when one has run with its program.
pub runs-after : (latest now : ℕ) (programs : List ProgramState) (cells : List NetCell) (instances : List Instance) (i : ℕ) (cell : NetCell) (instance : Instance) (program after : ProgramState) (store : SlotLists) → AllZip (Runs latest programs) cells instances → latest ≤ now → slice_get cells i ≡ Some cell → slice_get instances i ≡ Some instance → slice_get programs instance.program ≡ Some program → after.program ≡ program.program → FitsFrom now store program.program → AllZip (Runs now (slice_set programs instance.program after)) cells (slice_set instances i (record { program = instance.program; store = store }))
runs-after latest now programs cells instances i cell instance program after store all later at-cell at at-program same fits =
    let k = instance.program in
    let new = slice_set programs k after in
    let stands : (j : ℕ) (c : NetCell) → Stands programs j c → Stands new j c =
    λ j c h. and-set (λ q. StandsFor q.program c.tree c.delays) programs k j program after at-program (λ s. subst (λ q. StandsFor q c.tree c.delays) (sym same) s) h in
    let from-now : (s : SlotLists) (q : ProgramParts) → FitsFrom latest s q → FitsFrom now s q = λ s q f t le. f t (omega (arith, later, le)) in
    let weaker : (c : NetCell) (x : Instance) → Runs latest programs c x → Runs now new c x =
    λ c x r. record {
      stands = stands x.program c r.stands;
      fits = and-set (λ q. FitsFrom now x.store q.program) programs k x.program program after at-program (λ f. subst (λ q. FitsFrom now x.store q) (sym same) f) (and-weaker (λ q. FitsFrom latest x.store q.program) (λ q. FitsFrom now x.store q.program) (slice_get programs x.program) (λ q f. from-now x.store q.program f) r.fits);
    } in
    let ran : Runs now new cell (record { program = k; store = store }) = record {
      stands = stands k cell (runs-at latest programs cells instances i cell instance all at-cell at).stands;
      fits = and-some (λ q. FitsFrom now store q.program) (slice_get new k) after (set-same programs k program after at-program) (subst (λ q. FitsFrom now store q) (sym same) fits);
    } in
    zipped-set (Runs now new) cells instances i cell (record { program = k; store = store }) (zipped-weaker (Runs latest programs) (Runs now new) weaker cells instances all) at-cell ran

-- ---- a process that ran

pub has-run : (now : ℕ) (signals : List Signal) (cells : List NetCell) (before after : Instances) (p : NetProcess) (instance : Instance) (program then : ProgramState) (store : SlotLists)
    → IsThere cells p → length p.cell.wires ≡ bit_count p.cell.tree → slice_get before.instances.items p.instance ≡ Some instance → slice_get before.programs.items instance.program ≡ Some program → StandsFor program.program p.cell.tree p.cell.delays → FitsStore program.program now instance.store
    → store ≡ record instance.store { listed = slice_set instance.store.listed p.number (activated program.program p.number now instance.store (seen now signals p.cell.wires)).slots }
    → then ≡ record program { effects = (activated program.program p.number now instance.store (seen now signals p.cell.wires)).effects }
    → All (EndsInTime now) then.effects
    → ((drivers : ℕ) → All (λ q. StepsAreOfCell drivers program.program.bits q.steps) program.program.processes → All (EffectIsOfCell drivers program.program.bits) then.effects)
    → after.instances.items ≡ slice_set before.instances.items p.instance (record { program = instance.program; store = store })
    → effects_in after.programs.items after.last ≡ then.effects
    → HasRun now signals p cells before after
has-run now signals cells before after p instance program then store there wired at at-program stands fits stored did ends numbers put listed =
    let inputs = seen now signals p.cell.wires in
    let one-each : length inputs ≡ bit_count p.cell.tree = length-map p.cell.wires (λ number. option_map_or (input now) (slice_get signals number) absent) ∙ wired in
    let act = activated program.program p.number now instance.store inputs in
    let names = variables_of p.executed in
    let all = variables_in cells before.instances.items in
    let within : p.number < length instance.store.listed =
    subst (λ n. p.number < n) (sym (stored-long program.program instance.store now fits ∙ processes-long p.cell program.program stands)) (slice_get_within (all_executed p.cell.tree) p.number p.executed there.executed) in
    let done : done_by now signals all p ≡ by_name names act =
    ap (λ slots. exec p.cell.tree p.cell.delays p.number now inputs slots) (slots-before cells before.instances.items p instance there at within)
    ∙ done-by-name p.cell program.program instance.store p.number p.executed now inputs stands fits one-each there.executed in
    let effects : effects_in after.programs.items after.last ≡ act.effects = listed ∙ ap (λ t. t.effects) did in
    record {
      variables =
          ap (λ xs. variables_in cells xs) put
          ∙ variables-after cells before.instances.items p instance (record { program = instance.program; store = store }) act.slots there at (ap (λ s. s.listed) stored)
          ∙ ap (λ d. with_slots p d.slots all) (sym done);
      effects = effects ∙ ap (λ d. d.effects) (sym done);
      ends = subst (λ es. All (EndsInTime now) es) (sym listed) ends;
      numbers =
          subst (λ es. All (EffectIsOfCell (driver_count p.cell.tree) (bit_count p.cell.tree)) es) (sym listed)
          (subst (λ bits. All (EffectIsOfCell (driver_count p.cell.tree) bits) then.effects) stands.bits (numbers (driver_count p.cell.tree) stands.numbers));
    }
