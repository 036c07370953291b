use Rattle.std.proofs.Common.{◌∙◌, ap, sym, map, arith}
use Rattle.std.specs.Prelude.{◌||◌, ◌&&◌, not}
use Rattle.std.specs.List.{list_any}
use Rattle.std.specs.Str.{bytes_eq}
use Rattle.vital_drivers.specs.Clauses.{drives, undriven_at}
use Rattle.vital_drivers.specs.Kept.{has_name}
use Rattle.vital_statements.specs.Lists.{place_if}
use Rattle.vital_drivers.specs.Named.{is_driven_mode}
use Rattle.vital_drivers.specs.PathDelays.{lent}
use Rattle.vital_nodes.proofs.Lists.{any-one, turn}
use Rattle.vital_statements.proofs.Steps.{each-take}
use Rattle.vital_drivers.proofs.driver.undriven.Goals as goal

pub loop-port-preserved : goal.loop-port-preserved
loop-port-preserved c =
    let x = c.port-item.result in
    let ds = map lent c.args.delays.now in
    let mode = is_driven_mode x.parts.mode in
    let name = x.identifier.name in
    record {
      places = turn _ _ _ _ _ _ c.in_ok-put_if.ensures c.loop-port.invariant.places
          (ap (λ b. place_if b x.identifier.place)
          (c.is_undriven.ensures
          ∙ ap (λ b. mode && not (b && c.in_ok-is_meant.is_meant)) (c.in_ok-driven.ensures name)
          ∙ ap (λ b. mode && not (list_any (drives name) ds && b))
          (c.in_ok-is_meant.ensures.added ∙ ap (λ q. not (has_name c.loop-port.earlier q)) c.as_slice-name.ensures ∙ ap not (c.loop-port.invariant.earlier name))))
          (each-take (undriven_at ds) c.args.ports.now c.loop-port.port-index x (omega arith) c.port-item.is);
      earlier = λ q.
          c.in_ok-is_meant.ensures.names q
          ∙ ap (λ b. b || has_name c.loop-port.earlier q) (ap (λ bs. bytes_eq bs q) c.as_slice-name.ensures)
          ∙ ap (λ b. bytes_eq name q || b) (c.loop-port.invariant.earlier q)
          ∙ sym (any-one (λ i. bytes_eq i.identifier.name q) c.args.ports.now c.loop-port.port-index x (omega arith) c.port-item.is);
    }
