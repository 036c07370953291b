-- What is answered where something is a fault.
use Rattle.std.proofs.Common.{◌≡◌, sym, subst}
use Rattle.std.specs.Prelude.{Result, Err, IfErr}
use Rattle.vital_instances.specs.declared.fault.InstancesError.{InstancesError}
use Rattle.vital_instances.specs.declared.fault.InstancesError.TheVariants as error
use Rattle.vital_instances.specs.Faults.{Fault, IsAnswer, IsError, lent}

-- a fault of the one is a fault of the other
pub error-follows : {A B : Type 0} (first : Result A Fault) (second : Result B Fault) → ((f : Fault) → first ≡ Err f → second ≡ Err f) → (e : InstancesError) → IsError first e → IsError second e
error-follows first second follows (error.Fault f) is = follows (lent f) is
error-follows first second follows error.NoMemory is = is

-- and where there is no memory nothing is told
pub nothing-told : {A : Type 0} (wanted : Result A Fault) (e : InstancesError) → e ≡ error.NoMemory → IsError wanted e
nothing-told wanted e is = subst (IsError wanted) (sym is) tt

-- a fault is the answer where it is passed on
pub answered-error : {A B : Type 0} (see : B → A) (wanted : Result A Fault) (e : InstancesError) (r : Result B InstancesError) → r ≡ Err e → IsError wanted e → IsAnswer see wanted r
answered-error see wanted e r is told = subst (IsAnswer see wanted) (sym is) told

pub told-error : {A : Type 0} (P : InstancesError → Type 0) (e : InstancesError) (r : Result A InstancesError) → r ≡ Err e → P e → IfErr r P
told-error P e r is told = subst (λ x. IfErr x P) (sym is) told
