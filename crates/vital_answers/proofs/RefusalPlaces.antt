-- The place at which a refusal of files stands.
use Rattle.std.proofs.Common.{◌≡◌, List, refl}
use Rattle.vital_base.specs.declared.place.Place.{Place}
use Rattle.vital_report.specs.Lines.{Spot, refused_lexical, refused_syntax, refused_limit, refused_library, refused_sdf}
use Rattle.vital_report.specs.declared.why.LexicalWhy.{LexicalWhy}
use Rattle.vital_report.specs.declared.why.LibraryWhy.{LibraryWhy}
use Rattle.vital_report.specs.declared.why.Limit.{Limit as Limit'}
use Rattle.vital_report.specs.declared.why.SdfWhy.{SdfWhy}
use Rattle.vital_answers.specs.Answer.{refused}
use Rattle.vital_answers.specs.Refusals.{spot_of, place_of, refused_at}
use Rattle.vital_answers.specs.declared.refusal.Refusal.{Refusal}
use Rattle.vital_answers.specs.declared.refusal.Refusal.TheVariants as refusal
use Rattle.vital_answers.specs.declared.status.Status.TheVariants.{Syntax, Limit, Library, Sdf}
use Rattle.vital_words.specs.declared.job.NamedFile.{NamedFile}

pub lexical_is : (files : List NamedFile) (r : Refusal) (place : Place) (why : LexicalWhy) (at : Spot) → r ≡ refusal.Lexical place why → at ≡ spot_of files (place_of r)
    → refused_at files r ≡ refused (refused_lexical why at) Syntax
lexical_is files r place why at e f = rw (f, e) refl

pub syntax_is : (files : List NamedFile) (r : Refusal) (place : Place) (at : Spot) → r ≡ refusal.Syntax place → at ≡ spot_of files (place_of r)
    → refused_at files r ≡ refused (refused_syntax at) Syntax
syntax_is files r place at e f = rw (f, e) refl

pub limit_is : (files : List NamedFile) (r : Refusal) (limit : Limit') (place : Place) (at : Spot) → r ≡ refusal.Limit limit place → at ≡ spot_of files (place_of r)
    → refused_at files r ≡ refused (refused_limit limit at) Limit
limit_is files r limit place at e f = rw (f, e) refl

pub sdf_is : (files : List NamedFile) (r : Refusal) (why : SdfWhy) (place : Place) (at : Spot) → r ≡ refusal.Sdf why place → at ≡ spot_of files (place_of r)
    → refused_at files r ≡ refused (refused_sdf why at) Sdf
sdf_is files r why place at e f = rw (f, e) refl

pub library_is : (files : List NamedFile) (r : Refusal) (why : LibraryWhy) (place : Place) (at : Spot) → r ≡ refusal.Library why place → at ≡ spot_of files (place_of r)
    → refused_at files r ≡ refused (refused_library why at) Library
library_is files r why place at e f = rw (f, e) refl
