-- What refusals are answered.
use Rattle.std.proofs.Common.{◌≡◌, List, Result, Ok, Err, subst}
use Rattle.vital_answers.specs.Answer.{Answer, refused}
use Rattle.vital_answers.specs.Reading.{AreRead}
use Rattle.vital_answers.specs.Refusals.{refused_at}
use Rattle.vital_run.specs.Stages.{IsReadAnswer, IsLoadedAnswer}
use Rattle.vital_answers.specs.declared.loading.Source.{Source}
use Rattle.vital_answers.specs.declared.reading.ReadFiles.{ReadFiles}
use Rattle.vital_answers.specs.declared.refusal.Refusal.{Refusal}
use Rattle.vital_words.specs.declared.job.Job.{Job}

-- files that are refused as they are read
pub reading_refused : (job : Job) (sources : List Source) (r : Refusal) → ((outcome : Result ReadFiles Refusal) → AreRead 0 4_194_304 sources outcome → outcome ≡ Err r)
    → (answer : Answer) → IsLoadedAnswer job (Ok sources) answer → answer ≡ refused_at job.files r
reading_refused job sources r only answer (read, are, is) =
    subst (λ (outcome : Result ReadFiles Refusal). IsReadAnswer job sources outcome answer) (only read are) is
