use Rattle.std.proofs.Common.{length, sym, ◌∙◌}
use Rattle.std.proofs.lemmas.Bool.{eqb-true}
use Rattle.vital_ll.proofs.Stacked.{first_of}
use Rattle.vital_ll.proofs.pending.next.Goals as goal

pub returns-then-is_empty-clause-taken : goal.returns-then-is_empty-clause-taken
returns-then-is_empty-clause-taken c =
    first_of _ c.args.left.now.now c.args.stack.now.items c.pop.new.self.items c.in-Some.symbols (eqb-true (length c.args.left.now.now) 0 (sym c.is_empty.ensures ∙ c.if-is_empty.true)) c.requires.filled c.in-Some.ensures.items
