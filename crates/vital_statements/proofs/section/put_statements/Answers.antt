use Rattle.std.proofs.Common.{◌∙◌, ap, sym, true, arith}
use Rattle.std.specs.Prelude.{◌||◌}
use Rattle.std.specs.List.{list_any}
use Rattle.std.specs.Option.{option_map_or, option_to_list}
use Rattle.vital_statements.specs.Clauses.{places_10_at}
use Rattle.vital_statements.specs.Sections.{is_later, latest_of, section_of}
use Rattle.vital_statements.proofs.SectionLemmas.{latest-more}
use Rattle.vital_nodes.proofs.Lists.{turn-behind}
use Rattle.vital_statements.proofs.Steps.{any-kept, each-take, or-same, place_if-same}
use Rattle.vital_statements.proofs.section.put_statements.Goals as goal

pub loop-stmt-preserved : goal.loop-stmt-preserved
loop-stmt-preserved c =
    let x = c.stmt-item.result in
    let cell = c.args.names.now in
    let process = c.args.process.now in
    record {
      places = turn-behind _ _ _ _ _ _ _ c.in_ok-put_if.ensures c.loop-stmt.invariant.places
          (place_if-same _ _ _ _ (c.is_wrong.ensures ∙ ap (λ o. option_map_or (is_later c.loop-stmt.latest) o true) c.section_of-section.ensures ∙ or-same _ _ (section_of cell process x) true c.loop-stmt.invariant.latest) c.place.ensures)
          (each-take (places_10_at cell process) c.args.statements.now c.loop-stmt.stmt-index x (omega arith) c.stmt-item.is);
      latest = λ later.
          ap (λ one. is_later one later) (c.latest_of-latest.ensures ∙ ap (λ o. latest_of o c.loop-stmt.latest) c.section_of-section.ensures)
          ∙ latest-more (section_of cell process x) c.loop-stmt.latest later
          ∙ ap (λ b. b || list_any (λ earlier. is_later earlier later) (option_to_list (section_of cell process x))) (c.loop-stmt.invariant.latest later)
          ∙ sym (any-kept (λ earlier. is_later earlier later) (section_of cell process) c.args.statements.now c.loop-stmt.stmt-index x (omega arith) c.stmt-item.is);
    }
