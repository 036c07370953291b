use Rattle.std.proofs.Common.{sym, ◌∙◌}
use Rattle.std.specs.Prelude.{is_some}
use Rattle.vital_names.specs.FirstNames.{first_in}
use Rattle.vital_uses.specs.Reads.{is_unlisted}
use Rattle.vital_uses.proofs.ReadLemmas.{none-put}
use Rattle.vital_uses.proofs.process_uses.ProcessUses.put_lacking.Goals as goal

pub returns-then-not-has_unlisted : goal.returns-then-not-has_unlisted
returns-then-not-has_unlisted c =
    none-put c.walked_in_preorder.ensures (is_unlisted (λ name. is_some (first_in c.args.listed.now name))) (λ a. a.identifier.place) c.args.self.now.0 c.args.self.now.1 c.asked.result.now c.args.places.now.items
    c.asked.ensures (sym c.has_unlisted.ensures ∙ c.if-not-has_unlisted.true)
