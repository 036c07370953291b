-- The nodes of the statements of a process without their sites.
use Rattle.std.proofs.Common.{◌≡◌, List, [], ◌∷◌, map, Some, refl, ap, ◌∙◌}
use Rattle.vital_names.specs.Sites.{Site}
use Rattle.vital_nodes.specs.declared.stmt.Process.{Process}
use Rattle.vital_nodes.specs.Nodes.{Node, sequentials}
use Rattle.vital_nodes.specs.Places.{place_of}
use Rattle.vital_nodes.specs.Walk.{nodes_of_all}
use Rattle.vital_uses.specs.declared.sited.SitedNode.{SitedNode as SitedNode'}
use Rattle.vital_uses.specs.Nodes.{nodes_of_statements}
use Rattle.vital_uses.specs.Sited.{SitedNode, lent_node, own_site}
use Rattle.vital_nodes.specs.Seen.{seen}

seen-lent : (vs : List SitedNode') → map (λ (v : SitedNode'). seen v.node) vs ≡ map (λ (v : SitedNode). v.node) (map lent_node vs)
seen-lent [] = refl
seen-lent (v ∷ vs) = ap (λ us. seen v.node ∷ us) (seen-lent vs)

bare : (site : Node → Site) (vs : List Node) → map (λ (v : SitedNode). v.node) (map (λ v. record { site = site v; node = v }) vs) ≡ vs
bare site [] = refl
bare site (v ∷ vs) = ap (λ us. v ∷ us) (bare site vs)

pub stated : (p : Process) (vs : List SitedNode') → map lent_node vs ≡ nodes_of_statements p → map (λ (v : SitedNode'). seen v.node) vs ≡ nodes_of_all (sequentials p.statements)
stated p vs are = seen-lent vs ∙ ap (map (λ (v : SitedNode). v.node)) are ∙ bare (λ v. own_site (Some p) (place_of v)) (nodes_of_all (sequentials p.statements))
