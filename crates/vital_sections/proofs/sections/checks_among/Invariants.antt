use Rattle.std.proofs.Common.{◌≡◌, map, take}
use Rattle.std.specs.List.{filter_map}
use Rattle.vital_sections.specs.Sections as spec
use Rattle.vital_sections.proofs.sections.checks_among.Given as goal

abbrev pub invariant-loop-stmt : goal.invariant-loop-stmt
invariant-loop-stmt l = l.checks.items ≡ filter_map (spec.check l.reader.names.now l.reader.faults.now l.reader.process.now) (map (λ s. s.now) (take l.stmt-index l.statements))
