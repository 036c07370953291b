-- One more declaration beside its viewpoint.
use Rattle.std.proofs.Common.{◌≡◌, ℕ, suc, ◌+◌, ◌<◌, ◌≤◌, List, [], ◌∷◌, ◌++◌, length, drop, drop-cons, get_or, map, refl, sym, ◌∙◌, ap, append_assoc, arith}
use Rattle.std.specs.Prelude.{Option}
use Rattle.std.proofs.lemmas.List.{append-nil, drop_all, map-append}
use Rattle.vital_base.specs.declared.place.Place.{Place}
use Rattle.vital_nodes.specs.declared.stmt.Process.{Process}
use Rattle.vital_names.specs.declared.site.CellUnit.{CellUnit}
use Rattle.vital_uses.specs.Sited.{Sited, beside}
use Rattle.vital_typed_declarations.specs.declared.sited.SitedDeclaration.{SitedDeclaration}
use Rattle.vital_typed_declarations.specs.Declarations.{lent_sited}

-- a declaration that is seen from a place
abbrev pub seen_at : {A : Type 0} → CellUnit → Option Process → Place → A → Sited A
seen_at unit process viewpoint d = record { site = record { unit = unit; process = process; viewpoint = viewpoint }; declaration = d }

-- what is left begins with this declaration, and the places that are left begin with its viewpoint
pub beside_more : {A : Type 0} (unit : CellUnit) (process : Option Process) (places others : List Place) (viewpoint : Place) (ds : List A) (i : ℕ) (d : A) (x : SitedDeclaration A) (before now : List (SitedDeclaration A)) (whole : List (Sited A)) → i < length ds → d ≡ get_or ds i d → places ≡ viewpoint ∷ others
    → now ≡ before ++ x ∷ [] → lent_sited x ≡ seen_at unit process viewpoint d
    → map lent_sited before ++ beside unit process places (drop i ds) ≡ whole → map lent_sited now ++ beside unit process others (drop (i + 1) ds) ≡ whole
beside_more unit process places others viewpoint ds i d x before now whole within is first put seen was =
    let one : suc i ≡ i + 1 = omega arith in
    let dropped : drop i ds ≡ d ∷ drop (i + 1) ds = drop-cons ds i d within ∙ ap (λ y. y ∷ drop (suc i) ds) (sym is) ∙ ap (λ n. d ∷ drop n ds) one in
    ap (λ ns. map lent_sited ns ++ beside unit process others (drop (i + 1) ds)) put
    ∙ ap (λ ns. ns ++ beside unit process others (drop (i + 1) ds)) (map-append lent_sited before (x ∷ []) ∙ ap (λ y. map lent_sited before ++ y ∷ []) seen)
    ∙ append_assoc (map lent_sited before) (seen_at unit process viewpoint d ∷ []) (beside unit process others (drop (i + 1) ds))
    ∙ ap (λ ns. map lent_sited before ++ ns) (sym (ap (λ ps. beside unit process ps (drop i ds)) first ∙ ap (beside unit process (viewpoint ∷ others)) dropped))
    ∙ was

-- behind the last declaration nothing is left
beside-nil : {A : Type 0} (unit : CellUnit) (process : Option Process) (places : List Place) → beside {A = A} unit process places [] ≡ []
beside-nil unit process [] = refl
beside-nil unit process (p ∷ ps) = refl

pub beside_end : {A : Type 0} (unit : CellUnit) (process : Option Process) (places : List Place) (ds : List A) (i : ℕ) (before whole : List (Sited A)) → length ds ≤ i → before ++ beside unit process places (drop i ds) ≡ whole → before ≡ whole
beside_end unit process places ds i before whole past was =
    sym (append-nil before)
    ∙ sym (ap (λ ns. before ++ ns) (ap (beside unit process places) (drop_all i ds past) ∙ beside-nil unit process places))
    ∙ was
