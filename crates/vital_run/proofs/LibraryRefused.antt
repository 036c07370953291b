-- How a library that is refused is answered.
use Rattle.std.proofs.Common.{◌≡◌, List, Result, Err, sym, ap, subst, ◌∙◌}
use Rattle.vital_library.specs.Gathered.{GivesLibrary}
use Rattle.vital_library.specs.declared.error.LibraryError.{LibraryError}
use Rattle.vital_library.specs.declared.error.LibraryError.TheVariants as library
use Rattle.vital_nodes.specs.declared.unit.Units.{Units}
use Rattle.vital_answers.specs.Answer.{Answer}
use Rattle.vital_answers.specs.Refusals.{refused_at, IsLibraryRefusal}
use Rattle.vital_run.specs.Stages.{IsLibraryAnswer}
use Rattle.vital_answers.specs.declared.loading.Source.{Source}
use Rattle.vital_answers.specs.declared.refusal.Refusal.{Refusal}
use Rattle.vital_sdf.specs.declared.group.SdfFile.{SdfFile}
use Rattle.vital_words.specs.declared.job.Job.{Job}

one_refusal : (error : LibraryError) (a b : Refusal) → IsLibraryRefusal error a → IsLibraryRefusal error b → a ≡ b
one_refusal (library.TooManyUnits place) a b is also = is ∙ sym also
one_refusal (library.Duplicate place) a b is also = is ∙ sym also
one_refusal (library.NoEntity place) a b is also = is ∙ sym also
one_refusal library.NoMemory a b is also = absurd is

pub gives_error : (error : LibraryError) (outcome : Result (List Units) LibraryError) (refusal : Refusal) → IsLibraryRefusal error refusal → GivesLibrary (Err error) outcome → outcome ≡ Err error
gives_error (library.TooManyUnits place) outcome refusal is gives = gives
gives_error (library.Duplicate place) outcome refusal is gives = gives
gives_error (library.NoEntity place) outcome refusal is gives = gives
gives_error library.NoMemory outcome refusal is gives = absurd is

-- what is answered to files that are no library is their refusal
pub library_refused : (job : Job) (sources : List Source) (delays : List SdfFile) (error : LibraryError) (outcome : Result (List Units) LibraryError) (refusal : Refusal) → GivesLibrary (Err error) outcome → IsLibraryRefusal error refusal
    → (answer : Answer) → IsLibraryAnswer job sources delays outcome answer → answer ≡ refused_at job.files refusal
library_refused job sources delays error outcome refusal gives is answer h =
    let said = subst (λ (o : Result (List Units) LibraryError). IsLibraryAnswer job sources delays o answer) (gives_error error outcome refusal is gives) h in
    said.2 ∙ ap (refused_at job.files) (one_refusal error said.0 refusal said.1 is)
