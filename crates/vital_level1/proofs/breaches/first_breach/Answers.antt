use Rattle.std.proofs.Common.{◌≡◌, ◌++◌, ap, ◌∙◌}
use Rattle.std.specs.List.{reduce}
use Rattle.vital_package_constants.specs.Breaches.{constant_breaches}
use Rattle.vital_level1.specs.Breaches.{faults, faults_by, first_of, form_breaches_by, name_breaches, package_breaches, package_breaches_by, plain_breaches}
use Rattle.vital_level1.specs.Packages.{named_constants}
use Rattle.vital_level1.proofs.breaches.first_breach.Goals as goal

pub returns : goal.returns
returns c =
    let cell = c.args.names.now in
    let known = c.breaches-constants.result.now in
    let are_named : c.in_ok-named.named.items ≡ named_constants cell = c.in_ok-named.ensures ∙ ap named_constants c.requires.uses in
    let are_known : known ≡ constant_breaches cell.files = c.breaches-constants.ensures ∙ ap constant_breaches c.requires.packages in
    let of_names = c.in_ok-of_names.ensures ∙ ap name_breaches c.requires.uses in
    let plain = plain_breaches cell in
    let names = name_breaches cell in
    let packages = package_breaches cell in
    let places : c.in_ok-faults.faults.items ≡ faults cell =
    c.in_ok-faults.ensures
    ∙ ap (λ ns. faults_by ns known c.deref-5.result.now) (c.deref-4.ensures.value ∙ are_named)
    ∙ ap (λ ks. faults_by (named_constants cell) ks c.deref-5.result.now) are_known
    ∙ ap (faults_by (named_constants cell) (constant_breaches cell.files)) (c.deref-5.ensures.value ∙ of_names) in
    c.earliest.ensures
    ∙ ap (reduce first_of) (
    c.deref-9.ensures.value
    ∙ c.in_ok-put_form_breaches.ensures
    ∙ ap (λ bs. bs ++ form_breaches_by cell c.deref-7.result.now c.deref-8.result.now) (
    c.in_ok-put_package_breaches.ensures
    ∙ ap (λ bs. bs ++ package_breaches_by c.deref-3.result.now known) (
    c.in_ok-extend_from_slice.ensures.items
    ∙ ap (λ bs. bs ++ c.deref-2.result.now) (c.in_ok-put_plain_breaches.ensures ∙ ap (λ bs. bs ++ plain) c.new-all.ensures.items)
    ∙ ap (λ bs. plain ++ bs) (c.deref-2.ensures.value ∙ of_names))
    ∙ ap (λ ns. (plain ++ names) ++ package_breaches_by ns known) (c.deref-3.ensures.value ∙ are_named)
    ∙ ap (λ ks. (plain ++ names) ++ package_breaches_by (named_constants cell) ks) are_known)
    ∙ ap (λ ns. ((plain ++ names) ++ packages) ++ form_breaches_by cell ns c.deref-8.result.now) (c.deref-7.ensures.value ∙ are_named)
    ∙ ap (λ ps. ((plain ++ names) ++ packages) ++ form_breaches_by cell (named_constants cell) ps) (c.deref-8.ensures.value ∙ places))
