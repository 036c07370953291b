-- What is answered to a top, whoever judges its cells.
use Rattle.std.proofs.Common.{◌≡◌, ℕ, List, Option, Some, Result, Ok, Err, sym, ap, subst, ◌∙◌}
use Rattle.std.specs.List.{slice_get}
use Rattle.vital_netlist.specs.Designs.{Design}
use Rattle.vital_netlist.specs.Elaboration.{Fault, IsElaborated, designed, elaborated, entered}
use Rattle.vital_instances.specs.declared.fault.Fault.{Fault as InstanceFault}
use Rattle.vital_instances.specs.declared.fault.InstancesError.TheVariants as error
use Rattle.vital_instances.specs.declared.instance.Instance.{Instance}
use Rattle.vital_instances.specs.Designs.{AreEntered}
use Rattle.vital_instances.specs.Faults.{lent}
use Rattle.vital_instances.specs.Instances.{IsInstances}
use Rattle.vital_instances.specs.Judges.{IsJudge, Judge}
use Rattle.vital_netlist.specs.declared.net_fault.ElabError.{ElabError}
use Rattle.vital_netlist.specs.declared.net_fault.ElabError.TheVariants as elab
use Rattle.vital_netlist.specs.Refusals.{IsDesigned, lent_error, refusal_of}
use Rattle.vital_nodes.specs.declared.unit.Units.{Units}
use Rattle.vital_answers.specs.Answer.{Answer}
use Rattle.vital_answers.specs.Designs.{IsElaboratedAnswer, IsUnderAnswer, refused_design}
use Rattle.vital_answers.specs.Given.{GivesDesignRefusal}
use Rattle.vital_run.specs.Simulations.{IsSimAnswer}
use Rattle.vital_run.specs.Stages.{IsSimulatedAnswer}
use Rattle.vital_answers.specs.declared.loading.Source.{Source}
use Rattle.vital_sdf.specs.declared.group.SdfFile.{SdfFile}
use Rattle.vital_words.specs.declared.job.NamedFile.{NamedFile}
use Rattle.vital_words.specs.declared.job.Sim.{Sim}

-- no two judges differ
abbrev pub JudgesAgree : Type 0
JudgesAgree = (a b : Judge) → IsJudge a → IsJudge b → a ≡ b

-- ---- the instances under a top

-- what comes of a top is that of the instances that some judge finds, or of their fault
pub elaborated_by : JudgesAgree → (judge : Judge) → IsJudge judge → (library : List Units) (top : List ℕ) (e : Result Design Fault) → IsElaborated library top e
    → e ≡ elaborated judge library top
elaborated_by one judge is library top e (other, so, same) = same ∙ ap (λ (j : Judge). elaborated j library top) (one other judge so is)

pub instances_entered : (library : List Units) (top : List ℕ) (found : List Instance) → IsInstances library top (Ok found) → AreEntered library found
instances_entered library top found i = (i.0, top, i.1, i.2)

pub answer_of_instances : JudgesAgree → (IsAnswer : Design → Answer → Type 0) (files : List NamedFile) (library : List Units) (top : List ℕ) (found : List Instance) → IsInstances library top (Ok found)
    → (answer : Answer) → IsUnderAnswer IsAnswer files library top answer → IsElaboratedAnswer IsAnswer files top (designed library found) answer
answer_of_instances one IsAnswer files library top found i answer (e, so, is) =
    subst (λ (r : Result Design Fault). IsElaboratedAnswer IsAnswer files top r answer) (elaborated_by one i.0 i.1 library top e so ∙ ap (entered library) i.2) is

pub answer_of_fault : JudgesAgree → (IsAnswer : Design → Answer → Type 0) (files : List NamedFile) (library : List Units) (top : List ℕ) (fault : InstanceFault) → IsInstances library top (Err (error.Fault fault))
    → (answer : Answer) → IsUnderAnswer IsAnswer files library top answer → GivesDesignRefusal files top (Some (refusal_of (lent fault))) answer
answer_of_fault one IsAnswer files library top fault i answer (e, so, is) =
    subst (λ (r : Result Design Fault). IsElaboratedAnswer IsAnswer files top r answer) (elaborated_by one i.0 i.1 library top e so ∙ ap (entered library) i.2) is

-- ---- the design of instances

pub answer_of_design : (IsAnswer : Design → Answer → Type 0) (files : List NamedFile) (top : List ℕ) (wanted : Result Design Fault) (d : Design) → IsDesigned wanted (Ok d)
    → (answer : Answer) → IsElaboratedAnswer IsAnswer files top wanted answer → IsAnswer d answer
answer_of_design IsAnswer files top (Ok w) d h answer a = subst (λ (x : Design). IsAnswer x answer) h a
answer_of_design IsAnswer files top (Err f) d h answer a = absurd h

pub answer_of_error : (IsAnswer : Design → Answer → Type 0) (files : List NamedFile) (top : List ℕ) (wanted : Result Design Fault) (e : ElabError) → IsDesigned wanted (Err e)
    → (answer : Answer) → IsElaboratedAnswer IsAnswer files top wanted answer → GivesDesignRefusal files top (lent_error e) answer
answer_of_error IsAnswer files top wanted elab.NoMemory h answer a = tt
answer_of_error IsAnswer files top (Ok w) (elab.Net f) h answer a = absurd h
answer_of_error IsAnswer files top (Ok w) (elab.Limit l) h answer a = absurd h
answer_of_error IsAnswer files top (Err f) (elab.Net g) h answer a = a ∙ ap (refused_design files top) h
answer_of_error IsAnswer files top (Err f) (elab.Limit l) h answer a = a ∙ ap (refused_design files top) h

-- ---- what is simulated

-- the file and the source of the number that is asked for are given on
pub answer_of_sim : (sim : Sim) (files : List NamedFile) (sources : List Source) (delays : List SdfFile) (library : List Units) (file : NamedFile) (source : Source) (text top : List ℕ)
    → slice_get files sim.stim ≡ Some file → slice_get sources sim.stim ≡ Some source → text ≡ source.text → top ≡ sim.top
    → (answer : Answer) → IsSimulatedAnswer sim files delays library (slice_get files sim.stim) (slice_get sources sim.stim) answer → IsUnderAnswer (IsSimAnswer sim files delays file.name text) files library top answer
answer_of_sim sim files sources delays library file source text top named read same_text same_top answer h =
    let found = subst (λ (f : Option NamedFile). IsSimulatedAnswer sim files delays library f (slice_get sources sim.stim) answer) named h in
    let both = subst (λ (o : Option Source). IsSimulatedAnswer sim files delays library (Some file) o answer) read found in
    let of_text = subst (λ (t : List ℕ). IsUnderAnswer (IsSimAnswer sim files delays file.name t) files library sim.top answer) (sym same_text) both in
    subst (λ (t : List ℕ). IsUnderAnswer (IsSimAnswer sim files delays file.name text) files library t answer) (sym same_top) of_text
