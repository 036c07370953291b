use Rattle.std.proofs.Common.{◌≡◌, ◌++◌, take}
use Rattle.std.specs.List.{filter_map, list_any}
use Rattle.vital_statements.specs.declared.section.Section.{Section}
use Rattle.vital_statements.specs.Clauses.{places_10_at}
use Rattle.vital_statements.specs.Lists.{each}
use Rattle.vital_statements.specs.Sections.{is_later, section_of}
use Rattle.vital_statements.proofs.section.put_statements.Given as goal

abbrev pub invariant-loop-stmt : goal.invariant-loop-stmt
invariant-loop-stmt l = record {
  places : l.places.items ≡ l.initial.places.items ++ each (places_10_at l.names l.process) (take l.stmt-index l.statements);
  latest : (section : Section) → is_later l.latest section ≡ list_any (λ earlier. is_later earlier section) (filter_map (section_of l.names l.process) (take l.stmt-index l.statements));
}
