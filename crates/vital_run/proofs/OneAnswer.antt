-- Words and files have one answer, since each text has one reading.
use Rattle.std.proofs.Common.{◌≡◌, ℕ, ◌+◌, ◌-◌, List, [], ◌∷◌, map, Option, Some, None, Result, Ok, Err, refl, sym, ap, subst, ◌∙◌}
use Rattle.std.specs.List.{slice_get}
use Rattle.vital_base.proofs.Appending.{appended-nil}
use Rattle.vital_base.specs.Shelves.{Files}
use Rattle.vital_base.specs.Sinks.{Told}
use Rattle.vital_base.specs.declared.place.Place.{Place}
use Rattle.vital_netlist.specs.Designs.{Design}
use Rattle.vital_netlist.specs.Elaboration.{Fault as NetFault, elaborated}
use Rattle.vital_netlist.specs.Refusals.{refused as refused_as}
use Rattle.vital_kernel.specs.Networks.{Network}
use Rattle.vital_kernel.specs.PortNetworks.{port_network}
use Rattle.vital_instances.specs.Judges.{IsJudge, Judge}
use Rattle.vital_level0.specs.Breaches.{HasOneFirst}
use Rattle.vital_library.specs.Faults.{least_of, faults}
use Rattle.vital_library.specs.Gathered.{gathered, limited, judged, refusal}
use Rattle.vital_library.specs.Units.{units_of}
use Rattle.vital_library.specs.declared.error.LibraryError.{LibraryError}
use Rattle.vital_library.specs.declared.error.LibraryError.TheVariants as library
use Rattle.vital_library.specs.declared.error.TheConstants.{MOST_UNITS}
use Rattle.vital_library.specs.declared.fault.Fault.{Fault}
use Rattle.vital_library.specs.declared.fault.FaultKind.{FaultKind}
use Rattle.vital_library.specs.declared.fault.FaultKind.TheVariants.{Duplicate, NoEntity}
use Rattle.vital_report.specs.declared.why.LibraryWhy.TheVariants as why
use Rattle.vital_report.specs.declared.why.Limit.TheVariants.{Delay as DelayLimit, Units as UnitsLimit}
use Rattle.vital_report.specs.Lines.{text_of}
use Rattle.vital_stim.specs.Stimuli.{stim}
use Rattle.vital_stim.specs.declared.fault.StimFault.{StimFault}
use Rattle.vital_stim.specs.declared.stimuli.StimLine.{StimLine}
use Rattle.vital_stim.specs.declared.stimuli.Stimuli.{Stimuli}
use Rattle.vital_timing.specs.declared.delay.Delay.{Delay}
use Rattle.vital_answers.specs.Answer.{Answer, ◌>>=◌, not_there, nothing_told}
use Rattle.vital_answers.specs.Cells.{IsCellsAnswer, cells, cells_answer}
use Rattle.vital_answers.specs.Designs.{IsElaboratedAnswer, IsUnderAnswer, refused_design}
use Rattle.vital_answers.specs.Loading.{all_loaded}
use Rattle.vital_answers.specs.Outcome.{Gives, memory_failed}
use Rattle.vital_annotate.specs.Annotations.{Outcome, annotated}
use Rattle.vital_answers.specs.Reading.{AreRead, Continues, IsOfEntries, IsOfUnits, IsRead, IsSdfRead, IsVhdlRead, tokens_of, with_file}
use Rattle.vital_answers.specs.Refusals.{refused_words, printed_fault, text_refusal, IsFileRefusal, IsSdfRefusal, refused_at, IsLibraryRefusal}
use Rattle.vital_run.specs.Runs.{IsRunAnswer}
use Rattle.vital_run.specs.Selves.{drawn_by, self_answer, self_job, self_sources}
use Rattle.vital_answers.specs.Answer.{before}
use Rattle.vital_run.specs.Simulations.{IsAnnotatedAnswer, IsSimAnswer, IsStimulatedAnswer, note_line, simulated}
use Rattle.vital_run.specs.Stages.{IsPlayAnswer, IsSimulatedAnswer, IsTaskAnswer, IsLibraryAnswer, IsReadAnswer, IsLoadedAnswer, IsSelfAnswer, IsAskedAnswer, IsJobAnswer, IsOnlyAnswer}
use Rattle.vital_run.specs.Stimuli.{IsStimuliAnswer, IsReadStimuliAnswer, refused_stimuli}
use Rattle.vital_answers.specs.Trees.{IsTreeAnswer, tree_lines}
use Rattle.vital_answers.specs.declared.loading.Source.{Source}
use Rattle.vital_answers.specs.declared.reading.ReadFile.{ReadFile}
use Rattle.vital_answers.specs.declared.reading.ReadFile.TheVariants as file
use Rattle.vital_answers.specs.declared.reading.ReadFiles.{ReadFiles}
use Rattle.vital_answers.specs.declared.refusal.Refusal.{Refusal}
use Rattle.vital_answers.specs.declared.refusal.Refusal.TheVariants as refusals
use Rattle.vital_answers.specs.declared.status.Status.{Status}
use Rattle.vital_answers.specs.declared.status.Status.TheVariants.{Done, NoMemory}
use Rattle.vital_answers.proofs.Checked.{is_answer}
use Rattle.vital_run.proofs.Elaborated.{elaborated_by}
use Rattle.vital_answers.proofs.Judged.{some_finding}
use Rattle.vital_run.proofs.OneRun.{OneRun, only_told, run_told, stimuli_told, told_of, told_of_stimuli}
use Rattle.vital_sdf.specs.Outcomes as sdf
use Rattle.vital_sdf.specs.declared.group.SdfFile.{SdfFile}
use Rattle.vital_sdf.specs.declared.read.SdfError.{SdfError}
use Rattle.vital_sdf.specs.declared.read.SdfError.TheVariants as sdf_error
use Rattle.vital_vhdl.specs.Outcomes as vhdl
use Rattle.vital_vhdl.specs.declared.read.UnitError.{UnitError}
use Rattle.vital_vhdl.specs.declared.read.UnitError.TheVariants as unit_error
use Rattle.vital_nodes.specs.declared.unit.Role.{Role}
use Rattle.vital_nodes.specs.declared.unit.Role.TheVariants as role
use Rattle.vital_nodes.specs.declared.unit.Unit.{Unit as Unit'}
use Rattle.vital_nodes.specs.declared.unit.Units.{Units}
use Rattle.vital_words.specs.Jobs.{job}
use Rattle.vital_words.specs.declared.job.Job.{Job}
use Rattle.vital_words.specs.declared.job.NamedFile.{NamedFile}
use Rattle.vital_words.specs.declared.job.SelfRun.{SelfRun as SelfRun'}
use Rattle.vital_words.specs.declared.job.Sim.{Sim as Sim'}
use Rattle.vital_words.specs.declared.job.Task.{Task}
use Rattle.vital_words.specs.declared.job.Task.TheVariants.{Play, Check, Tree, Sim, SelfRun}
use Rattle.vital_words.specs.declared.key.FileKind.{FileKind}
use Rattle.vital_words.specs.declared.key.FileKind.TheVariants as kinds
use Rattle.vital_words.specs.declared.refusal.UsageFault.{UsageFault}

-- there is one of this kind
abbrev pub IsOne : {A : Type 0} → (A → Type 0) → Type 0
IsOne {A} P = (x : A) × P x × ((other : A) → P other → other ≡ x)

-- each text has one reading
abbrev pub OneReading : Type 0
OneReading = (file : ℕ) (role : Role) (text : List ℕ) (room : ℕ) → IsOne (vhdl.IsReading file role text room)

abbrev pub OneSdfReading : Type 0
OneSdfReading = (file : ℕ) (text : List ℕ) (room : ℕ) → IsOne (sdf.IsReading file text room)

pub record Readings : Type 0 where
  pub vhdl : OneReading
  pub sdf : OneSdfReading

-- there is one judge of cells
pub record OneJudge : Type 0 where
  pub is : (judge : Judge) × IsJudge judge
  pub only : (a b : Judge) → IsJudge a → IsJudge b → a ≡ b

-- each cell has one first breach, each text one reading, there is one judge of cells, and each network has one run
pub record Laws : Type 0 where
  pub first : HasOneFirst
  pub reads : Readings
  pub judge : OneJudge
  pub run : OneRun

-- this one alone
one_is : {A : Type 0} (x : A) → IsOne (λ (y : A). y ≡ x)
one_is x = (x, refl, λ other e. e)

-- ---- one outcome of reading files

one_refusal : (number : ℕ) (role : Role) (text : List ℕ) (room : ℕ) (error : UnitError) → vhdl.IsReading number role text room (Err error) → IsOne (IsFileRefusal number text error)
one_refusal number role text room (unit_error.Lex fault) h = one_is (text_refusal number text fault)
one_refusal number role text room (unit_error.Refused place) h = one_is (refusals.Syntax place)
one_refusal number role text room unit_error.NoMemory h = absurd h

one_of_units : (number : ℕ) (role : Role) (text : List ℕ) (room : ℕ) (read : Result Units UnitError) → vhdl.IsReading number role text room read → IsOne (IsOfUnits number text read)
one_of_units number role text room (Ok units) h = one_is (Ok (file.Vhdl units))
one_of_units number role text room (Err error) h =
    let p = one_refusal number role text room error h in
    (Err p.0, (p.0, p.1, refl), λ other o. o.2 ∙ ap (λ (r : Refusal). Err r) (p.2 o.0 o.1))

one_vhdl : OneReading → (role : Role) (number : ℕ) (text : List ℕ) (room : ℕ) → IsOne (IsVhdlRead role number text room)
one_vhdl reads role number text room =
    let r = reads number role text room in
    let p = one_of_units number role text room r.0 r.1 in
    (p.0, (r.0, r.1, p.1), λ other o. p.2 other (subst (λ (read : Result Units UnitError). IsOfUnits number text read other) (r.2 o.0 o.1) o.2))

one_sdf_refusal : (number : ℕ) (text : List ℕ) (room : ℕ) (error : SdfError) → sdf.IsReading number text room (Err error) → IsOne (IsSdfRefusal number text error)
one_sdf_refusal number text room (sdf_error.Lex fault) h = one_is (text_refusal number text fault)
one_sdf_refusal number text room (sdf_error.Refused place) h = one_is (refusals.Syntax place)
one_sdf_refusal number text room (sdf_error.Fault why place) h = one_is (refusals.Sdf (printed_fault why) place)
one_sdf_refusal number text room sdf_error.NoMemory h = absurd h

one_of_entries : (number : ℕ) (text : List ℕ) (room : ℕ) (read : Result SdfFile SdfError) → sdf.IsReading number text room read → IsOne (IsOfEntries number text read)
one_of_entries number text room (Ok entries) h = one_is (Ok (file.Sdf entries))
one_of_entries number text room (Err error) h =
    let p = one_sdf_refusal number text room error h in
    (Err p.0, (p.0, p.1, refl), λ other o. o.2 ∙ ap (λ (r : Refusal). Err r) (p.2 o.0 o.1))

one_sdf : OneSdfReading → (number : ℕ) (text : List ℕ) (room : ℕ) → IsOne (IsSdfRead number text room)
one_sdf reads number text room =
    let r = reads number text room in
    let p = one_of_entries number text room r.0 r.1 in
    (p.0, (r.0, r.1, p.1), λ other o. p.2 other (subst (λ (read : Result SdfFile SdfError). IsOfEntries number text read other) (r.2 o.0 o.1) o.2))

one_file : Readings → (kind : FileKind) (number : ℕ) (text : List ℕ) (room : ℕ) → IsOne (IsRead kind number text room)
one_file reads kinds.Lib number text room = one_vhdl reads.vhdl role.Lib number text room
one_file reads kinds.Net number text room = one_vhdl reads.vhdl role.Net number text room
one_file reads kinds.Sdf number text room = one_sdf reads.sdf number text room
one_file reads kinds.Stim number text room = one_is (Ok file.Stimuli)

one_going_on : (first : Result ReadFile Refusal) (After : ℕ → Result ReadFiles Refusal → Type 0) → ((used : ℕ) → IsOne (After used)) → IsOne (Continues first After)
one_going_on (Ok f) After after =
    let p = after (tokens_of f) in
    let joined : Result ReadFiles Refusal → Result ReadFiles Refusal = λ others. others >>= λ read. Ok (with_file f read) in
    (joined p.0, (p.0, p.1, refl), λ other o. o.2 ∙ ap joined (p.2 o.0 o.1))
one_going_on (Err r) After after = one_is (Err r)

pub one_read : Readings → (number room : ℕ) (sources : List Source) → IsOne (AreRead number room sources)
one_read reads number room [] = one_is (Ok (record { units = []; delays = [] }))
one_read reads number room (source ∷ sources) =
    let After : ℕ → Result ReadFiles Refusal → Type 0 = λ used. AreRead (number + 1) (room - used) sources in
    let first = one_file reads source.kind number source.text room in
    let p = one_going_on first.0 After (λ used. one_read reads (number + 1) (room - used) sources) in
    (p.0, (first.0, first.1, p.1), λ other o. p.2 other (subst (λ (f : Result ReadFile Refusal). Continues f After other) (first.2 o.0 o.1) o.2))

-- ---- one answer to files that were read

refusal_is : (kind : FaultKind) (place : Place) → refusal kind place ≡ library.NoMemory → ⊥
refusal_is Duplicate place e = cc
refusal_is NoEntity place e = cc

judged_is : (files : List Units) (o : Option Fault) → judged files o ≡ Err library.NoMemory → ⊥
judged_is files None e = cc
judged_is files (Some fault) e = let same : refusal fault.kind fault.place ≡ library.NoMemory = cc in refusal_is fault.kind fault.place same

-- gathering files has an outcome other than want of memory
gathered_is : (files : List Units) → gathered files ≡ Err library.NoMemory → ⊥
gathered_is files e = limited_is (slice_get (units_of files) MOST_UNITS) e
  where
    limited_is : (o : Option Unit') → limited files o ≡ Err library.NoMemory → ⊥
    limited_is None h = judged_is files (least_of (faults (units_of files))) h
    limited_is (Some extra) h = cc

one_run_answer : OneRun → (n : Network) (lines : List StimLine) (until limit : ℕ) → IsOne (IsRunAnswer n lines until limit)
one_run_answer runs n lines until limit =
    let one = runs.one n lines until limit in
    (told_of n until limit one.run, run_told n lines until limit one, only_told n lines until limit one)

one_stimuli_answer : OneRun → (until : ℕ) (stimuli : Stimuli) → IsOne (IsStimuliAnswer until stimuli)
one_stimuli_answer runs until stimuli =
    let n = port_network stimuli.ports in
    let one = runs.one n stimuli.lines until 1_000 in
    (told_of n until 1_000 one.run, stimuli_told runs until stimuli, λ other o. only_told n stimuli.lines until 1_000 one other (told_of_stimuli until stimuli other o))

one_read_stimuli : OneRun → (name : List ℕ) (until : ℕ) (read : Result Stimuli StimFault) → IsOne (IsReadStimuliAnswer name until read)
one_read_stimuli one name until (Ok stimuli) = one_stimuli_answer one until stimuli
one_read_stimuli one name until (Err fault) = one_is (refused_stimuli name fault)

one_play_answer : OneRun → (until : ℕ) (file : Option NamedFile) (source : Option Source) → IsOne (IsPlayAnswer until file source)
one_play_answer one until (Some file) (Some source) = one_read_stimuli one file.name until (stim source.text None)
one_play_answer one until (Some file) None = one_is not_there
one_play_answer one until None source = one_is not_there

one_cells_answer : HasOneFirst → (files : List NamedFile) (library : List Units) → IsOne (IsCellsAnswer files library)
one_cells_answer first files library =
    let found = some_finding first (cells library) in
    (cells_answer files (cells library) found.0 found.1, (found.0, found.1, found.2, refl), is_answer first files library found.0 found.1 found.2)

one_tree_answer : (d : Design) → IsOne (IsTreeAnswer d)
one_tree_answer d = one_is (record { bytes = text_of (tree_lines d); status = Done })

one_stimulated : OneRun → (sim : Sim') (name : List ℕ) (d : Design) (values : List (List Delay)) (read : Result Stimuli StimFault) → IsOne (IsStimulatedAnswer sim name d values read)
one_stimulated runs sim name d values (Ok stimuli) = one_run_answer runs (simulated sim d values stimuli.lines) stimuli.lines sim.until sim.limit
one_stimulated runs sim name d values (Err fault) = one_is (refused_stimuli name fault)

one_annotated : OneRun → (sim : Sim') (files : List NamedFile) (name text : List ℕ) (d : Design) (outcome : Outcome) → IsOne (IsAnnotatedAnswer sim files name text d outcome)
one_annotated runs sim files name text d (Ok a) =
    let p = one_stimulated runs sim name d a.values (stim text (Some d.ports)) in
    let lines = map (note_line files) a.notes in
    (before lines p.0, (p.0, p.1, refl), λ other o. o.2 ∙ ap (before lines) (p.2 o.0 o.1))
one_annotated runs sim files name text d (Err place) = one_is (refused_at files (refusals.Limit DelayLimit place))

one_elaborated : (IsAnswer : Design → Answer → Type 0) → ((d : Design) → IsOne (IsAnswer d)) → (files : List NamedFile) (top : List ℕ) (e : Result Design NetFault)
    → IsOne (IsElaboratedAnswer IsAnswer files top e)
one_elaborated IsAnswer one files top (Ok d) = one d
one_elaborated IsAnswer one files top (Err f) = one_is (refused_design files top (refused_as f))

one_under_answer : OneJudge → (IsAnswer : Design → Answer → Type 0) → ((d : Design) → IsOne (IsAnswer d)) → (files : List NamedFile) (library : List Units) (top : List ℕ)
    → IsOne (IsUnderAnswer IsAnswer files library top)
one_under_answer judges IsAnswer one files library top =
    let judge = judges.is.0 in
    let made = elaborated judge library top in
    let p = one_elaborated IsAnswer one files top made in (
      p.0,
      (made, (judge, judges.is.1, refl), p.1),
      λ other o. p.2 other (subst (λ (e : Result Design NetFault). IsElaboratedAnswer IsAnswer files top e other) (elaborated_by judges.only judge judges.is.1 library top o.0 o.1) o.2),
    )

one_simulated_answer : Laws → (sim : Sim') (files : List NamedFile) (delays : List SdfFile) (library : List Units) (file : Option NamedFile) (source : Option Source)
    → IsOne (IsSimulatedAnswer sim files delays library file source)
one_simulated_answer laws sim files delays library (Some f) (Some source) =
    one_under_answer laws.judge (IsSimAnswer sim files delays f.name source.text)
    (λ d. one_annotated laws.run sim files f.name source.text d (annotated d sim.corner delays)) files library sim.top
one_simulated_answer laws sim files delays library (Some f) None = one_is not_there
one_simulated_answer laws sim files delays library None source = one_is not_there

one_task_answer : Laws → (task : Task) (files : List NamedFile) (sources : List Source) (delays : List SdfFile) (library : List Units) → IsOne (IsTaskAnswer task files sources delays library)
one_task_answer laws (Play play) files sources delays library = one_play_answer laws.run play.until (slice_get files play.stim) (slice_get sources play.stim)
one_task_answer laws Check files sources delays library = one_cells_answer laws.first files library
one_task_answer laws (Tree tree) files sources delays library = one_under_answer laws.judge IsTreeAnswer one_tree_answer files library tree.top
one_task_answer laws (Sim sim) files sources delays library = one_simulated_answer laws sim files delays library (slice_get files sim.stim) (slice_get sources sim.stim)
one_task_answer laws (SelfRun run) files sources delays library = one_is nothing_told

one_library_refusal : (error : LibraryError) → (error ≡ library.NoMemory → ⊥) → IsOne (IsLibraryRefusal error)
one_library_refusal (library.TooManyUnits place) some = one_is (refusals.Limit UnitsLimit place)
one_library_refusal (library.Duplicate place) some = one_is (refusals.Library why.Duplicate place)
one_library_refusal (library.NoEntity place) some = one_is (refusals.Library why.Entity place)
one_library_refusal library.NoMemory some = absurd (some refl)

one_library : Laws → (job : Job) (sources : List Source) (delays : List SdfFile) (outcome : Result (List Units) LibraryError) → (outcome ≡ Err library.NoMemory → ⊥) → IsOne (IsLibraryAnswer job sources delays outcome)
one_library laws job sources delays (Ok files) some = one_task_answer laws job.task job.files sources delays files
one_library laws job sources delays (Err error) some =
    let p = one_library_refusal error (λ e. some (ap (λ (x : LibraryError). Err x) e)) in
    (refused_at job.files p.0, (p.0, p.1, refl), λ other o. o.2 ∙ ap (refused_at job.files) (p.2 o.0 o.1))

one_read_answer : Laws → (job : Job) (sources : List Source) (read : Result ReadFiles Refusal) → IsOne (IsReadAnswer job sources read)
one_read_answer laws job sources (Ok read) = one_library laws job sources read.delays (gathered read.units) (gathered_is read.units)
one_read_answer laws job sources (Err r) = one_is (refused_at job.files r)

one_loaded_answer : Laws → (job : Job) (loaded : Result (List Source) Answer) → IsOne (IsLoadedAnswer job loaded)
one_loaded_answer laws job (Ok sources) =
    let r = one_read laws.reads 0 4_194_304 sources in
    let p = one_read_answer laws job sources r.0 in
    (p.0, (r.0, r.1, p.1), λ other o. p.2 other (subst (λ (read : Result ReadFiles Refusal). IsReadAnswer job sources read other) (r.2 o.0 o.1) o.2))
one_loaded_answer laws job (Err e) = one_is e

-- ---- one answer to words

one_self_answer : Laws → (run : SelfRun') → IsOne (IsSelfAnswer run)
one_self_answer laws run =
    let p = one_loaded_answer laws self_job (Ok (self_sources run)) in
    (self_answer run p.0, (p.0, p.1, refl), λ other o. o.2 ∙ ap (self_answer run) (p.2 o.0 o.1))

one_asked_answer : Laws → (files : Files) (job : Job) (asked : Option SelfRun') → IsOne (IsAskedAnswer files job asked)
one_asked_answer laws files job (Some run) = one_self_answer laws run
one_asked_answer laws files job None = one_loaded_answer laws job (all_loaded files job.files)

one_job_answer : Laws → (files : Files) (j : Result Job UsageFault) → IsOne (IsJobAnswer files j)
one_job_answer laws files (Ok job) = one_asked_answer laws files job (drawn_by job.task)
one_job_answer laws files (Err fault) = one_is (refused_words fault)

-- what is given for every answer is given for the one that there is
pub given : Laws → (words : List (List ℕ)) (files : Files) (status : Status) (old new : Told)
    → ((answer : Answer) → IsJobAnswer files (job words) answer → Gives answer status old new) → (answer : Answer) × IsOnlyAnswer words files answer × Gives answer status old new
given laws words files status old new gives =
    let p = one_job_answer laws files (job words) in
    (p.0, record { is = p.1; only = p.2 }, gives p.0 p.1)

-- where memory ran out nothing is given, which is a prefix of the answer
pub nothing_given : Laws → (words : List (List ℕ)) (files : Files) (told : Told) → (answer : Answer) × IsOnlyAnswer words files answer × Gives answer NoMemory told told
nothing_given laws words files told =
    given laws words files NoMemory told told (λ answer is. memory_failed refl (0, sym (appended-nil told)))
