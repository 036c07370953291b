use Rattle.std.proofs.Common.{rules}
use Rattle.vital_shapes.specs.Statements.{branch, branches, statements_within}
use Rattle.vital_vhdl.specs.Reads.{Reads}
use Rattle.vital_vhdl.proofs.readers.statements.Branching.branches.Goals as goal

pub returns-in_err-found : goal.returns-in_err-found
unfolding branches
returns-in_err-found g c =
    let inner = statements_within c.args.self.now.levels in
    let read : Reads (branches inner c.args.cursor.now) c.separated.result c.separated.new.cursor =
    c.separated.ensures (branch inner) (record { reads = λ old new r p. search rules }) in
    search rules

pub returns : goal.returns
unfolding branches
returns g c =
    let inner = statements_within c.args.self.now.levels in
    let read : Reads (branches inner c.args.cursor.now) c.separated.result c.separated.new.cursor =
    c.separated.ensures (branch inner) (record { reads = λ old new r p. search rules }) in
    search rules
