-- What is made of delays, as far as a function comes.
use Rattle.std.specs.Prelude.{◌≡◌, IfOk, Ok, Err, Result, OnOk}
use Rattle.vital_annotate.specs.Annotations.{Annotated, Outcome}
use Rattle.vital_annotate.specs.declared.annotating.Annotated.{Annotated as Annotated'}
use Rattle.vital_annotate.specs.declared.annotate_error.AnnotateError.{AnnotateError}
use Rattle.vital_annotate.specs.declared.annotate_error.AnnotateError.TheVariants.{Limit}
use Rattle.vital_base.specs.declared.place.Place.{Place}

-- Where a function answers Ok, it has made what is defined; where it answers a limit, that is what is defined. Where there is no memory
-- nothing is told.
pub record IsOutcome (outcome : Outcome) (result : Result (Unit {0}) AnnotateError) (new : Annotated) : Type 0 where
  pub done : OnOk result (outcome ≡ Ok new)
  pub limit : (place : Place) → result ≡ Err (Limit place) → outcome ≡ Err place

-- The same of the delays and notes that are answered.
pub record IsAnswer (outcome : Outcome) (result : Result Annotated' AnnotateError) : Type 0 where
  pub made : IfOk result (λ a. outcome ≡ Ok (record { values = a.values; notes = a.notes }))
  pub limit : (place : Place) → result ≡ Err (Limit place) → outcome ≡ Err place
