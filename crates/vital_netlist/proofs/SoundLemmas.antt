-- The instances of a sound design stand each in one before it.
use Rattle.std.proofs.Common.{◌≡◌, ℕ, ◌+◌, ◌<◌, length, get_or, refl, ap, ◌∙◌, subst, arith}
use Rattle.std.proofs.lemmas.List.FromFn.{get_or-enumerate_from, length-enumerate_from}
use Rattle.std.proofs.lemmas.Option.{get_or_from_slice_get, slice_get_within}
use Rattle.std.specs.Prelude.{All, Option, Some, None, slice_get}
use Rattle.std.specs.List.{enumerate_from}
use Rattle.std.specs.Option.{option_map_or}
use Rattle.vital_netlist.specs.Designs.{Design, DesignInstance, Site, StandBehind}
use Rattle.vital_netlist.specs.Soundness.{IsPlaced, IsSoundInstance}

placed-at : (d : Design) → All (IsSoundInstance d) (enumerate_from 0 d.instances) → (n : ℕ) (i : DesignInstance) → slice_get d.instances n ≡ Some i → IsPlaced n i.site
placed-at d sound n i at =
    let within = slice_get_within d.instances n i at in
    let there : n < length (enumerate_from 0 d.instances) = omega (arith, length-enumerate_from 0 d.instances) in
    let number : 0 + n ≡ n = omega arith in
    let here : get_or (enumerate_from 0 d.instances) n (n, i) ≡ (n, i) =
    get_or-enumerate_from 0 d.instances n (n, i) within ∙ ap (λ m. (m, get_or d.instances n i)) number ∙ ap (λ j. (n, j)) (get_or_from_slice_get d.instances n i i at) in
    subst (λ (j : ℕ × DesignInstance). IsPlaced j.0 j.1.site) here (sound n (n, i) there).placed

pub stand-behind : (d : Design) → All (IsSoundInstance d) (enumerate_from 0 d.instances) → StandBehind d.instances
stand-behind d sound n s at = by_instance (slice_get d.instances n) refl at
  where
    by_site : (o : Option Site) → IsPlaced n o → o ≡ Some s → s.instance < n
    by_site None placed is = absurd (cc)
    by_site (Some t) placed is = let same : t ≡ s = cc in subst (λ (u : Site). u.instance < n) same placed.before

    by_instance : (o : Option DesignInstance) → slice_get d.instances n ≡ o → option_map_or (λ (i : DesignInstance). i.site) o None ≡ Some s → s.instance < n
    by_instance None is site = absurd (cc)
    by_instance (Some i) is site = by_site i.site (placed-at d sound n i is) site
