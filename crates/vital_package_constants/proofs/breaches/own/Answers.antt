use Rattle.std.proofs.Common.{◌≡◌, length, IfOk, List, ◌∙◌, ap, subst}
use Rattle.vital_base.specs.declared.place.Place.{Place}
use Rattle.vital_package_constants.specs.Breaches.{faults_in, own_by}
use Rattle.vital_package_constants.proofs.breaches.own.Goals as goal

pub returns : goal.returns
returns c =
    subst (λ (faults : List Place). IfOk c.own_by.result (λ breaches. breaches ≡ own_by c.args.library.now (length c.args.known.now) c.args.object.now faults))
    (c.in_ok-faults.ensures ∙ c.deref.ensures.value ∙ c.in_ok-places.ensures ∙ ap (faults_in c.args.library.now c.args.known.now) c.requires)
    c.own_by.ensures
