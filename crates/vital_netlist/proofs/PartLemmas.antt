-- Turns of the loops that make the instances and the signals of a design.
use Rattle.std.proofs.Common.{◌≡◌, ℕ, ◌+◌, ◌<◌, List, [], ◌∷◌, ◌++◌, length, take, map, get_or, sym, ◌∙◌, ap}
use Rattle.std.proofs.lemmas.List.{map-append, take_more}
use Rattle.std.proofs.lemmas.Option.{slice_get-get_or}
use Rattle.std.specs.Prelude.{slice_get, Option}
use Rattle.std.specs.List.{filter_map}
use Rattle.std.specs.Option.{option_and_then, option_map_or}
use Rattle.vital_nodes.specs.declared.unit.Units.{Units}
use Rattle.vital_instances.specs.declared.instance.Instance.{Instance}
use Rattle.vital_netlist.specs.Cells.{Netlist, cell_number, number_of_entity}
use Rattle.vital_netlist.specs.declared.design_lists.DesignInstance.{DesignInstance as DesignInstance'}
use Rattle.vital_netlist.specs.declared.design_lists.DesignSignal.{DesignSignal as DesignSignal'}
use Rattle.vital_netlist.specs.Designs.{DesignInstance, Site, lent_instance, lent_signal}
use Rattle.vital_netlist.specs.Elaboration.{design_instance, design_signal, site_at}
use Rattle.vital_netlist.specs.declared.bit.Bit.{Bit}
use Rattle.vital_netlist.specs.DesignObjects.{name_at}
use Rattle.vital_netlist.proofs.NumberLemmas.{number-of-cell}
use Rattle.vital_nodes.proofs.Lists.{filter_map-one}

-- ---- one more

put-seen : {A B : Type 0} (see : A → B) (now new : List A) (x : A) (before : List B) (y : B) → new ≡ now ++ x ∷ [] → map see now ≡ before → see x ≡ y → map see new ≡ before ++ y ∷ []
put-seen see now new x before y put is same =
    ap (map see) put ∙ map-append see now (x ∷ []) ∙ ap (λ ys. ys ++ see x ∷ []) is ∙ ap (λ z. before ++ z ∷ []) same

-- ---- an instance

abbrev instance_of : Option Site → List ℕ → Option ℕ → DesignInstance
instance_of site unit cell = record { site = site; unit = unit; cell = cell }

pub instance-turn : (files : List Units) (is : List Instance) (netlist of_cells : Netlist) (k : ℕ) (d : Instance) (made : DesignInstance') (now new : List DesignInstance') → netlist ≡ record { files = files; instances = is } → of_cells ≡ record { files = files; instances = is } → k < length is → (lent_instance made).site ≡ option_and_then (site_at files is) (get_or is k d).position → (lent_instance made).unit ≡ option_map_or (λ j. name_at netlist.files j.entity) (slice_get netlist.instances k) [] → (lent_instance made).cell ≡ number_of_entity of_cells.files of_cells.instances (get_or is k d).entity → map lent_instance now ≡ map (design_instance files is) (take k is) → new ≡ now ++ made ∷ [] → map lent_instance new ≡ map (design_instance files is) (take (k + 1) is)
instance-turn files is netlist of_cells k d made now new same same' there site unit cell before put =
    let seen = lent_instance made in
    let i = get_or is k d in
    let named : seen.unit ≡ name_at files i.entity =
    unit
    ∙ ap (λ (n : Netlist). option_map_or (λ (j : Instance). name_at n.files j.entity) (slice_get n.instances k) []) same
    ∙ ap (λ o. option_map_or (λ (j : Instance). name_at files j.entity) o []) (slice_get-get_or is k d there) in
    let numbered : seen.cell ≡ cell_number files is i =
    cell ∙ ap (λ (n : Netlist). number_of_entity n.files n.instances i.entity) same' ∙ number-of-cell files is i in
    let is_so : seen ≡ design_instance files is i =
    ap (λ s. instance_of s seen.unit seen.cell) site
    ∙ ap (λ u. instance_of (option_and_then (site_at files is) i.position) u seen.cell) named
    ∙ ap (λ n. instance_of (option_and_then (site_at files is) i.position) (name_at files i.entity) n) numbered in
    put-seen lent_instance now new made (map (design_instance files is) (take k is)) (design_instance files is i) put before is_so
    ∙ sym (ap (map (design_instance files is)) (take_more is k d there) ∙ map-append (design_instance files is) (take k is) (i ∷ []))

-- ---- the signal that a bit is

pub signal-turn : (files : List Units) (is : List Instance) (bs : List Bit) (k : ℕ) (b : Bit) (now new : List DesignSignal') → k < length bs → b ≡ get_or bs k b → map lent_signal now ≡ filter_map (design_signal files is) (take k bs) → map lent_signal new ≡ map lent_signal now ++ filter_map (design_signal files is) (b ∷ []) → map lent_signal new ≡ filter_map (design_signal files is) (take (k + 1) bs)
signal-turn files is bs k b now new there at before put =
    put
    ∙ ap (λ ss. ss ++ filter_map (design_signal files is) (b ∷ [])) before
    ∙ sym (filter_map-one (design_signal files is) bs k b there at)
