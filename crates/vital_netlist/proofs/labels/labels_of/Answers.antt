use Rattle.std.proofs.Common.{ℕ, List, ◌++◌, map, reverse, ap, ◌∙◌}
use Rattle.std.proofs.lemmas.List.{map-append}
use Rattle.std.specs.Borrow.{Bor}
use Rattle.std.specs.Option.{option_map}
use Rattle.vital_netlist.specs.Designs.{labels_within, lent_instance, lent_site}
use Rattle.vital_netlist.proofs.LabelLemmas.{all-labels, labels_at, no-labels, one-label}
use Rattle.vital_netlist.proofs.labels.labels_of.Goals as goal

pub loop-site-init : goal.loop-site-init
loop-site-init c =
    no-labels (map lent_instance c.args.instances.now) c.requires c.args.instance (option_map lent_site c.site_of-site.result) (map (λ (l : Bor (List ℕ)). l.now) c.new-labels.result.items)
    c.site_of-site.ensures (ap (map (λ (l : Bor (List ℕ)). l.now)) c.new-labels.ensures.items)

pub loop-site-preserved : goal.loop-site-preserved
loop-site-preserved c =
    let is = map lent_instance c.args.instances.now in
    let found = map (λ (l : Bor (List ℕ)). l.now) c.loop-site.labels.items in
    one-label is c.requires (lent_site c.in-Some.found) (option_map lent_site c.site_of-site-in-Some.result) (labels_within c.args.instance is c.args.instance) found (map (λ (l : Bor (List ℕ)). l.now) c.push.new.self.items)
    c.site_of-site-in-Some.ensures
    (ap (map (λ (l : Bor (List ℕ)). l.now)) c.in_ok-push.ensures.items ∙ map-append (λ (l : Bor (List ℕ)). l.now) c.loop-site.labels.items _)
    (c.loop-site.invariant ∙ ap (λ o. labels_at is (option_map lent_site o) ++ reverse found) c.in-Some.is)

pub returns : goal.returns
returns c =
    let is = map lent_instance c.args.instances.now in
    all-labels (λ (l : Bor (List ℕ)). l.now) is (option_map lent_site c.loop-site.site) (labels_within c.args.instance is c.args.instance) c.loop-site.labels.items c.reverse.new.self.items
    (ap (option_map lent_site) c.in_default.is) c.reverse.ensures.items c.loop-site.invariant
