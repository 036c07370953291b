use Rattle.std.proofs.Common.{◌≡◌, ◌+◌, sym, subst, arith}
use Rattle.vital_ll.specs.Table.{AreColumns}
use Rattle.vital_ll.proofs.Columns.{columns_more, table_made}
use Rattle.vital_ll.proofs.table.Table.make.Goals as goal

pub loop-bit-preserved : goal.loop-bit-preserved
loop-bit-preserved c =
    subst (AreColumns c.args.rules.now c.make_column.new.expansions (c.loop-bit.bit + 1)) (sym c.in_ok-push.ensures.items)
    (columns_more c.args.rules.now c.loop-bit.bit c.loop-bit.expansions c.make_column.new.expansions c.loop-bit.columns.items c.in_ok-make_column.field-0 c.in_ok-make_column.ensures.kept c.in_ok-make_column.ensures.column c.loop-bit.invariant)

pub returns : goal.returns
returns c =
    table_made c.args.rules.now c.args.bits c.args.rows.now (record { columns = c.loop-bit.columns; expansions = c.loop-bit.expansions }) c.requires.well_formed c.requires.bits c.requires.rows
    (subst (λ n. AreColumns c.args.rules.now c.loop-bit.expansions n c.loop-bit.columns.items) (let e : c.loop-bit.bit ≡ c.args.bits = omega arith in e) c.loop-bit.invariant)
