use Rattle.std.proofs.Common.{◌∙◌}
use Rattle.std.specs.Str.{bytes_eq}
use Rattle.vital_drivers.specs.Kept.{has_name}
use Rattle.vital_drivers.proofs.NameLemmas.{cond-or}
use Rattle.vital_drivers.proofs.used_names.put_name.Goals as goal

pub returns-clause-names : goal.returns-clause-names
returns-clause-names c = λ q.
    c.in_ok-insert.ensures.updates.0 (record { ref_ptr = (0, 0); now = q })
    ∙ cond-or (bytes_eq c.args.name.now q) (has_name c.args.names.now q)
