-- One more item of a port map, and its faults.
use Rattle.std.proofs.Common.{◌≡◌, ℕ, ◌+◌, ◌<◌, false, List, [], ◌∷◌, ◌++◌, length, drop, get_or, sym, ◌∙◌, ap}
use Rattle.std.proofs.Math.Bool.{or_comm}
use Rattle.std.specs.Prelude.{Bool, ◌||◌, cond, Result, Ok, Err, is_err, is_ok}
use Rattle.std.specs.List.{list_any}
use Rattle.std.proofs.lemmas.List.{drop_more}
use Rattle.std.proofs.lemmas.List.Folds.{list_any-append}
use Rattle.vital_nodes.specs.declared.decl.Iface.{Iface}
use Rattle.vital_nodes.specs.declared.expr.Item.{Item}
use Rattle.vital_structure.specs.Signals.{UnitSignal}
use Rattle.vital_associations.specs.declared.instance.AssociationsError.{AssociationsError}
use Rattle.vital_associations.specs.declared.instance.AssociationsError.TheVariants.{Fault, NoMemory}
use Rattle.vital_associations.specs.declared.misfit.Misfit.{Misfit}
use Rattle.vital_associations.specs.Associations.{Association, PortMap, association_of}
use Rattle.vital_associations.specs.PortMaps.{AssociationFault, IsAssociated, IsFault, IsNext, associated, associated_behind, fault_at, followed}

-- what comes of items is what comes of the next one, followed by the others
pub behind-more : (m : PortMap) (earlier : List Association) (is : List Item) (k : ℕ) (i : Item) → k < length is → i ≡ get_or is k i → associated_behind m earlier (drop k is) ≡ followed (association_of m earlier i) i (λ a. associated_behind m (earlier ++ a ∷ []) (drop (k + 1) is))
behind-more m earlier is k i within same =
    ap (associated_behind m earlier) (drop_more is k i within) ∙ ap (λ j. associated_behind m earlier (j ∷ drop (k + 1) is)) (sym same)

-- what is pushed with no error is there
pub pushed : {T E A : Type 0} (r : Result T E) (old all new : List A) → is_err r ≡ false → new ≡ cond (is_ok r) all old → new ≡ all
pushed (Ok x) old all new good is = is
pushed (Err e) old all new good is = absurd (cc)

-- one more at the end
pub any-last : {A : Type 0} (test : A → Bool) (xs : List A) (x : A) → list_any test (xs ++ x ∷ []) ≡ (list_any test xs || test x)
any-last test xs x = list_any-append test xs (x ∷ []) ∙ ap (λ b. list_any test xs || b) (or_comm (test x) false)

-- ---- faults

-- an item that fails a test is a fault
pub fault-next : (m : PortMap) (earlier : List Association) (i : Item) (w : Misfit) (e : AssociationsError) → association_of m earlier i ≡ Err w → IsFault w i e → IsNext m earlier i (Err e)
fault-next m earlier i w (Fault f) wrong is =
    let same : f.why ≡ w = ap (λ (x : AssociationFault). x.why) is in
    (wrong ∙ ap (λ v. Err v) (sym same), is ∙ ap (λ v. fault_at v i) (sym same))
fault-next m earlier i w NoMemory wrong is = tt

-- the fault of an item behind those that are none is that of all
pub next-fault : (formals : List Iface) (signals : List UnitSignal) (is : List Item) (m : PortMap) (earlier : List Association) (i : Item) (others : Association → Result (List Association) AssociationFault) (e : AssociationsError) → associated formals signals is ≡ followed (association_of m earlier i) i others → IsNext m earlier i (Err e) → IsAssociated formals signals is (Err e)
next-fault formals signals is m earlier i others (Fault f) all here = all ∙ ap (λ r. followed r i others) here.0 ∙ ap (λ x. Err x) (sym here.1)
next-fault formals signals is m earlier i others NoMemory all here = tt
