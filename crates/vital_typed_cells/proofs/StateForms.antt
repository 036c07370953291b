-- The forms of the formals of VitalStateTable.
use Rattle.std.proofs.Common.{◌≡◌, ℕ, Bool, true, false, List, Option, Some, None, refl, ap, ◌∙◌}
use Rattle.std.specs.Prelude.{codes}
use Rattle.std.specs.Option.{option_and_then, option_map, option_map_or}
use Rattle.std.specs.Str.{bytes_eq}
use Rattle.std.proofs.lemmas.Slice.Eq.{bytes_eq-Decides}
use Rattle.vital_calls.specs.declared.actual_form.ActualForm.{ActualForm}
use Rattle.vital_calls.specs.declared.actual_form.ActualForm.TheVariants as form
use Rattle.vital_calls.specs.Formals.{Formal, Names, formals_of_state_table, state_table, vector_state_table}
use Rattle.vital_calls.specs.Matching.{form_of, formal_name, name_of, named}
use Rattle.vital_typed_cells.proofs.GivenActuals.{HasForm}

named-form : (l : List Formal) (name : List ℕ) (f : ActualForm) (o : Option (List ℕ)) → option_map (λ g. g.form) (named name l) ≡ Some f → option_map_or (λ m. bytes_eq m name) o false ≡ true → option_map (λ g. g.form) (option_and_then (λ m. named m l) o) ≡ Some f
named-form l name f None form is = cc
named-form l name f (Some m) form is = ap (λ (x : List ℕ). option_map (λ (g : Formal). g.form) (named x l)) ((bytes_eq-Decides m name).0 is) ∙ form

names-form : (l : List Formal) (name : List ℕ) (f : ActualForm) → option_map (λ g. g.form) (named name l) ≡ Some f → HasForm (Names l) name f
unfolding form_of formal_name
names-form l name f form = λ n i is. named-form l name f (name_of i) form is

pub table-form : (b : Bool) → HasForm (formals_of_state_table b) (codes "statetable") form.StateTable
table-form false = names-form state_table (codes "statetable") form.StateTable refl
table-form true = names-form vector_state_table (codes "statetable") form.StateTable refl

pub inputs-form : (b : Bool) → HasForm (formals_of_state_table b) (codes "datain") form.Inputs
inputs-form false = names-form state_table (codes "datain") form.Inputs refl
inputs-form true = names-form vector_state_table (codes "datain") form.Inputs refl

pub result-form : (b : Bool) → HasForm (formals_of_state_table b) (codes "result") form.Result
result-form false = names-form state_table (codes "result") form.Result refl
result-form true = names-form vector_state_table (codes "result") form.Result refl

pub kept-form : (b : Bool) → HasForm (formals_of_state_table b) (codes "previousdatain") form.PreviousData
kept-form false = names-form state_table (codes "previousdatain") form.PreviousData refl
kept-form true = names-form vector_state_table (codes "previousdatain") form.PreviousData refl

pub count-form : HasForm (formals_of_state_table true) (codes "numstates") form.StateCount
count-form = names-form vector_state_table (codes "numstates") form.StateCount refl
