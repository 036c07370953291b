-- What is kept of units and of the instances in them, with one more.
use Rattle.std.proofs.Common.{◌≡◌, ℕ, zero, suc, ◌+◌, ◌<◌, ◌≤◌, ◌⊎◌, true, false, List, [], ◌∷◌, ◌++◌, inl, inr, length, take, get_or, map, set, refl, sym, ap, subst, ◌∙◌, arith, length-append, length-set}
use Rattle.std.specs.Prelude.{is_some, Option, Some, None}
use Rattle.std.specs.List.{slice_get}
use Rattle.std.specs.Option.{option_map, option_map_or}
use Rattle.std.proofs.lemmas.List.{length-map, length-take}
use Rattle.std.proofs.lemmas.List.Elements.{All-nil, All-push, All-weaker}
use Rattle.std.proofs.lemmas.Option.{slice_get-map, slice_get_read}
use Rattle.vital_connections.specs.Connections.{connection, own_bits}
use Rattle.vital_connections.specs.Objects.{Object, lent, shape_at}
use Rattle.vital_connections.specs.Spans.{Kept, given}
use Rattle.vital_connections.specs.declared.object.Object.{Object as Object'}
use Rattle.vital_instances.specs.declared.instance.Instance.{Instance}
use Rattle.vital_instances.specs.declared.child.Child.{Child as Child'}
use Rattle.vital_instances.specs.Children.{Child}
use Rattle.vital_instances.specs.Children as children
use Rattle.vital_instances.specs.Contents.{children_at}
use Rattle.vital_instances.specs.Designs.{HasInstance}
use Rattle.vital_library.specs.Units.{entities}
use Rattle.vital_nodes.specs.declared.unit.Units.{Units}
use Rattle.vital_netlist.specs.declared.unit.Unit.{Unit}
use Rattle.vital_netlist.specs.Netlists.{AreConnections, AreKept, HasConnections, HasUnits, IsUnit, unit_in}
use Rattle.vital_netlist.specs.DesignObjects.{objects_at, port_count, ports_at}
use Rattle.vital_netlist.proofs.DesignBitLemmas.{take_min}
use Rattle.vital_netlist.proofs.DesignListLemmas.{all_at, get_append, get_last, get_push, some_is}
use Rattle.vital_netlist.proofs.DesignUnitLemmas.{map-take-is}

instance-more : (is : List Instance) (i : Instance) (n : ℕ) → HasInstance is n → HasInstance (is ++ i ∷ []) n
instance-more is i n has = (has.0, has.1, get_append is (i ∷ []) has.0 has.1 has.2, has.3)

instance-last : (is : List Instance) (i : Instance) → HasInstance (is ++ i ∷ []) i.entity
instance-last is i = (length is, i, get_last is i, refl)

-- ---- units

unit-push : (units : List (Option Unit)) → ((n : ℕ) → unit_in units n ≡ None) → (n : ℕ) → unit_in (units ++ None ∷ []) n ≡ None
unit-push [] none zero = refl
unit-push [] none (suc n) = refl
unit-push (u ∷ us) none zero = none 0
unit-push (u ∷ us) none (suc n) = unit-push us (λ m. none (suc m)) n

-- so many entities, of which none is kept
pub record AreNone (count : ℕ) (units : List (Option Unit)) : Type 0 where
  pub many : length units ≡ count
  pub none : (n : ℕ) → unit_in units n ≡ None

pub none_first : AreNone 0 []
none_first = record { many = refl; none = λ n. refl }

pub none_more : (count : ℕ) (units new : List (Option Unit)) → AreNone count units → new ≡ units ++ None ∷ [] → AreNone (count + 1) new
none_more count units new are put = record {
  many = ap length put ∙ length-append units (None ∷ []) ∙ ap (λ n. n + 1) are.many;
  none = λ n. ap (λ us. unit_in us n) put ∙ unit-push units are.none n;
}

no-some : (o : Option Unit) (u : Unit) → o ≡ None → o ≡ Some u → ⊥
no-some o u e e' = cc

pub no_units : (files : List Units) (units : List (Option Unit)) → AreNone (length (entities files)) units → HasUnits files [] units
no_units files units are = record {
  room = are.many;
  there = All-nil (λ (i : Instance). is_some (unit_in units i.entity) ≡ true);
  found = λ n u at. absurd (no-some (unit_in units n) u (are.none n) at);
  right = λ n u at. absurd (no-some (unit_in units n) u (are.none n) at);
}

-- an instance whose unit is there
pub units_same : (files : List Units) (is : List Instance) (i : Instance) (units : List (Option Unit)) → is_some (unit_in units i.entity) ≡ true → HasUnits files is units → HasUnits files (is ++ i ∷ []) units
units_same files is i units there has = record {
  room = has.room;
  there = All-push (λ (j : Instance). is_some (unit_in units j.entity) ≡ true) is i has.there there;
  found = λ n u at. instance-more is i n (has.found n u at);
  right = has.right;
}

unit-kept : (units : List (Option Unit)) (e n : ℕ) (u : Unit) → is_some (unit_in units n) ≡ true → is_some (unit_in (set units e (Some u)) n) ≡ true
unit-kept [] e n u h = h
unit-kept (x ∷ xs) zero zero u h = refl
unit-kept (x ∷ xs) zero (suc n) u h = h
unit-kept (x ∷ xs) (suc e) zero u h = h
unit-kept (x ∷ xs) (suc e) (suc n) u h = unit-kept xs e n u h

unit-put : (units : List (Option Unit)) (e : ℕ) (u : Unit) → e < length units → unit_in (set units e (Some u)) e ≡ Some u
unit-put [] e u lt = absurd (omega (arith, lt))
unit-put (x ∷ xs) zero u lt = refl
unit-put (x ∷ xs) (suc e) u lt = unit-put xs e u (omega (arith, lt))

unit-either : (units : List (Option Unit)) (e n : ℕ) (u v : Unit) → unit_in (set units e (Some u)) n ≡ Some v → ((n ≡ e) × (u ≡ v)) ⊎ (unit_in units n ≡ Some v)
unit-either [] e n u v h = inr h
unit-either (x ∷ xs) zero zero u v h = let same : u ≡ v = cc in inl (refl, same)
unit-either (x ∷ xs) zero (suc n) u v h = inr h
unit-either (x ∷ xs) (suc e) zero u v h = inr h
unit-either (x ∷ xs) (suc e) (suc n) u v h = step (unit-either xs e n u v h)
  where
    step : ((n ≡ e) × (u ≡ v)) ⊎ (unit_in xs n ≡ Some v) → ((suc n ≡ suc e) × (u ≡ v)) ⊎ (unit_in xs n ≡ Some v)
    step (inl h) = inl (ap suc h.0, h.1)
    step (inr h) = inr h

-- one whose unit is put
pub units_put : (files : List Units) (is : List Instance) (i : Instance) (units new : List (Option Unit)) (u : Unit) → i.entity < length units → new ≡ set units i.entity (Some u) → IsUnit files i.entity u → HasUnits files is units → HasUnits files (is ++ i ∷ []) new
units_put files is i units new u lt put unit has = subst (HasUnits files (is ++ i ∷ [])) (sym put) (record {
  room = length-set units i.entity (Some u) ∙ has.room;
  there = All-push (λ (j : Instance). is_some (unit_in (set units i.entity (Some u)) j.entity) ≡ true) is i
      (All-weaker (λ (j : Instance). is_some (unit_in units j.entity) ≡ true) (λ (j : Instance). is_some (unit_in (set units i.entity (Some u)) j.entity) ≡ true) (λ j h. unit-kept units i.entity j.entity u h) is has.there)
      (ap is_some (unit-put units i.entity u lt));
  found = λ n v at. found-by n (unit-either units i.entity n u v at);
  right = λ n v at. right-by n v (unit-either units i.entity n u v at);
})
  where
    found-by : (n : ℕ) {v : Unit} → ((n ≡ i.entity) × (u ≡ v)) ⊎ (unit_in units n ≡ Some v) → HasInstance (is ++ i ∷ []) n
    found-by n (inl h) = let P : ℕ → Type 0 = HasInstance (is ++ i ∷ []) in subst P (sym h.0) (instance-last is i)
    found-by n {v} (inr h) = instance-more is i n (has.found n v h)

    right-by : (n : ℕ) (v : Unit) → ((n ≡ i.entity) × (u ≡ v)) ⊎ (unit_in units n ≡ Some v) → IsUnit files n v
    right-by n v (inl h) =
        let P : ℕ → Type 0 = λ m. IsUnit files m v in
        let Q : Unit → Type 0 = IsUnit files i.entity in
        subst P (sym h.0) (subst Q h.1 unit)
    right-by n v (inr h) = has.right n v h

-- ---- the ports of what is kept

ports-by : (files : List Units) (e : ℕ) (u : Unit) → IsUnit files e u → map lent (take u.ports u.objects.items) ≡ ports_at files e
ports-by files e u is =
    map-take-is u.ports u.objects.items
    ∙ ap (take u.ports) is.objects
    ∙ ap (λ m. take m (objects_at files e)) (is.ports ∙ length-take (port_count files e) (objects_at files e))
    ∙ take_min (port_count files e) (objects_at files e)

abbrev ports-in : List (Option Unit) → ℕ → List Object'
ports-in units e = option_map_or (λ (u : Unit). take u.ports u.objects.items) (unit_in units e) []

pub ports_kept : (files : List Units) (is : List Instance) (units : List (Option Unit)) (e : ℕ) → HasUnits files is units → HasInstance is e → map lent (option_map_or (λ u. take u.ports u.objects.items) (unit_in units e) []) ≡ ports_at files e
ports_kept files is units e has found = step (unit_in units e) refl there
  where
    there : is_some (unit_in units e) ≡ true
    there = ap (λ m. is_some (unit_in units m)) (sym found.3) ∙ all_at (λ (i : Instance). is_some (unit_in units i.entity) ≡ true) is found.0 found.1 has.there found.2

    step : (o : Option Unit) → unit_in units e ≡ o → is_some o ≡ true → map lent (option_map_or (λ (u : Unit). take u.ports u.objects.items) o []) ≡ ports_at files e
    step None at h = absurd (cc)
    step (Some u) at h = ports-by files e u (has.right e u at)

pub ports_within : (files : List Units) (is : List Instance) (units : List (Option Unit)) (e : ℕ) (u : Unit) → HasUnits files is units → unit_in units e ≡ Some u → u.ports ≤ length u.objects.items
ports_within files is units e u has at =
    let one = has.right e u at in
    let many : length u.objects.items ≡ length (objects_at files e) = sym (length-map u.objects.items lent) ∙ ap length one.objects in
    omega (arith, one.ports, length-take (port_count files e) (objects_at files e), many)

-- ---- connections

pub connections_made : (files : List Units) (n : ℕ) (c : Child) (ps ss : List Object) (kept : Kept) → ps ≡ ports_at files c.entity → ss ≡ objects_at files n → ((port bit : ℕ) → given kept.spans port bit ≡ connection (shape_at ps) (shape_at ss) port bit c.associations) → kept.own ≡ own_bits (λ port bit. connection (shape_at ps) (shape_at ss) port bit c.associations) ps → AreConnections files n c kept
connections_made files n c ps ss kept ports signals spans own = record {
  spans = λ port bit. spans port bit ∙ ap (λ qs. connection (shape_at qs) (shape_at ss) port bit c.associations) ports ∙ ap (λ ts. connection (shape_at (ports_at files c.entity)) (shape_at ts) port bit c.associations) signals;
  own = own ∙ ap (λ qs. own_bits (λ port bit. connection (shape_at qs) (shape_at ss) port bit c.associations) qs) ports ∙ ap (λ ts. own_bits (λ port bit. connection (shape_at (ports_at files c.entity)) (shape_at ts) port bit c.associations) (ports_at files c.entity)) signals;
}

-- the first so many of the instances in an entity
pub record AreFirst (files : List Units) (n count : ℕ) (kept : List Kept) : Type 0 where
  pub many : length kept ≡ count
  pub right : (child : ℕ) (c : Child) (k : Kept) → slice_get (children_at files n) child ≡ Some c → slice_get kept child ≡ Some k → AreConnections files n c k

pub first_none : (files : List Units) (n : ℕ) → AreFirst files n 0 []
first_none files n = record { many = refl; right = λ child c k at there. absurd (cc) }

pub first_more : (files : List Units) (n count : ℕ) (kept new : List Kept) (c : Child) (k : Kept) → AreFirst files n count kept → slice_get (children_at files n) count ≡ Some c → AreConnections files n c k → new ≡ kept ++ k ∷ [] → AreFirst files n (count + 1) new
first_more files n count kept new c k are at one put = subst (AreFirst files n (count + 1)) (sym put) (record {
  many = length-append kept (k ∷ []) ∙ ap (λ m. m + 1) are.many;
  right = λ child d l here there. step child d l here (get_push kept k child l there);
})
  where
    step : (child : ℕ) (d : Child) (l : Kept) → slice_get (children_at files n) child ≡ Some d → (slice_get kept child ≡ Some l) ⊎ ((child ≡ length kept) × (k ≡ l)) → AreConnections files n d l
    step child d l here (inl h) = are.right child d l here h
    step child d l here (inr h) =
        let there : slice_get (children_at files n) count ≡ Some d = sym (ap (slice_get (children_at files n)) (h.0 ∙ are.many)) ∙ here in
        let d-is = some_is (slice_get (children_at files n) count) c d at there in
        let P : Child → Type 0 = λ e. AreConnections files n e l in
        let Q : Kept → Type 0 = AreConnections files n c in
        subst P d-is (subst Q h.1 one)

pub first_all : (files : List Units) (is : List Instance) (n : ℕ) (kept : List Kept) (count : ℕ) → AreFirst files n count kept → count ≡ length (children_at files n) → AreKept files is n kept
first_all files is n kept count are all = record { there = λ found. are.many ∙ all; right = are.right }

-- what is kept of an entity that has no instance
pub kept_none : (files : List Units) (is : List Instance) (units : List (Option Unit)) (n : ℕ) → HasUnits files is units → unit_in units n ≡ None → AreKept files is n []
kept_none files is units n has none = record {
  there = λ found. absurd (no-unit found);
  right = λ child c k at there. absurd (cc);
}
  where
    no-unit : HasInstance is n → ⊥
    no-unit found =
        let some : is_some (unit_in units n) ≡ true = ap (λ m. is_some (unit_in units m)) (sym found.3) ∙ all_at (λ (i : Instance). is_some (unit_in units i.entity) ≡ true) is found.0 found.1 has.there found.2 in
        let not-some : is_some (unit_in units n) ≡ false = ap is_some none in
        cc

pub connections_none : (files : List Units) (is : List Instance) → HasConnections files is 0 []
connections_none files is = record { room = refl; each = λ n ks at. absurd (cc) }

pub connections_more : (files : List Units) (is : List Instance) (before : ℕ) (kept new : List (List Kept)) (ks : List Kept) → HasConnections files is before kept → AreKept files is before ks → new ≡ kept ++ ks ∷ [] → HasConnections files is (before + 1) new
connections_more files is before kept new ks has one put = subst (HasConnections files is (before + 1)) (sym put) (record {
  room = length-append kept (ks ∷ []) ∙ ap (λ m. m + 1) has.room;
  each = λ n ls at. step n ls (get_push kept ks n ls at);
})
  where
    step : (n : ℕ) (ls : List Kept) → (slice_get kept n ≡ Some ls) ⊎ ((n ≡ length kept) × (ks ≡ ls)) → AreKept files is n ls
    step n ls (inl h) = has.each n ls h
    step n ls (inr h) =
        let P : ℕ → Type 0 = λ m. AreKept files is m ls in
        let Q : List Kept → Type 0 = AreKept files is before in
        subst P (sym (h.0 ∙ has.room)) (subst Q h.1 one)

-- the instance of a number in a unit, as it is borrowed
pub child_at : (files : List Units) (n : ℕ) (xs : List Child') (k : ℕ) (x : Child') → map children.lent xs ≡ children_at files n → k < length xs → x ≡ get_or xs k x → slice_get (children_at files n) k ≡ Some (children.lent x)
child_at files n xs k x all lt is =
    ap (λ cs. slice_get cs k) (sym all)
    ∙ slice_get-map children.lent xs k
    ∙ ap (option_map children.lent) (slice_get_read xs (length xs) k x refl lt is)

pub children_many : (files : List Units) (n : ℕ) (xs : List Child') → map children.lent xs ≡ children_at files n → length xs ≡ length (children_at files n)
children_many files n xs all = sym (length-map xs children.lent) ∙ ap length all
