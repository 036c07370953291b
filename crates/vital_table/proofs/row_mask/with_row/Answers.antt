use Rattle.std.proofs.Common.{ℕ, ◌^◌, Bool, cond, ap, sym, ◌∙◌}
use Rattle.std.specs.Int.Bits.{bit_or}
use Rattle.std.proofs.lemmas.Nat.{one_shl}
use Rattle.vital_table.proofs.row_mask.with_row.Goals as goal

pub returns-then-passes : goal.returns-then-passes
returns-then-passes c =
    ap (λ (k : ℕ). bit_or c.args.mask k) (one_shl c.args.number 128 c.requires)
    ∙ ap (λ (b : Bool). cond b (bit_or c.args.mask (2 ^ c.args.number)) c.args.mask) (sym c.if-passes.true)
