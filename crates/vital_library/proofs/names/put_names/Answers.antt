use Rattle.std.proofs.Common.{◌&&◌, ◌∙◌}
use Rattle.std.specs.Str.{bytes_eq}
use Rattle.vital_library.specs.Names.{has_names}
use Rattle.vital_library.proofs.NameLemmas.{cond-or}
use Rattle.vital_library.proofs.names.put_names.Goals as goal

pub returns-clause-names : goal.returns-clause-names
returns-clause-names c = λ p q.
    c.in_ok-insert.ensures.updates.0 (record { ref_ptr = (0, 0); now = p }, record { ref_ptr = (0, 0); now = q })
    ∙ cond-or (bytes_eq c.args.entity.now p && bytes_eq c.args.arch.now q) (has_names c.args.names.now p q)
