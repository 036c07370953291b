use Rattle.std.proofs.Common.{sym, ◌∙◌, arith, inl, inr}
use Rattle.vital_identifiers.proofs.RunLemmas.{runs-all, runs-end, runs-bad}
use Rattle.vital_identifiers.proofs.identifier.are_runs.Goals as goal
use Rattle.vital_identifiers.proofs.identifier.are_runs.Goals.{else-in_run-via-then-in_run+else-byte-eq95, else-in_run-via-else-in_run}

pub returns-else-in_run : goal.returns-else-in_run
returns-else-in_run c =
    let l = c.loop-byte in
    let other = sym c.is_ascii_alphanumeric.ensures.value ∙ c.if-is_ascii_alphanumeric.false in
    elim c.else-in_run.branch [
      | else-in_run-via-then-in_run+else-byte-eq95 w ↦ sym (runs-bad l.in_run c.args.bytes.now l.byte-index c.loop-byte-test.true other (inr w.if-byte-eq95.false)) ∙ l.invariant ∙ runs-all c.args.bytes.now
      | else-in_run-via-else-in_run w ↦ sym (runs-bad l.in_run c.args.bytes.now l.byte-index c.loop-byte-test.true other (inl w.if-in_run.false)) ∙ l.invariant ∙ runs-all c.args.bytes.now
    ]

pub returns : goal.returns
returns c =
    let l = c.loop-byte in
    let end = runs-end l.in_run c.args.bytes.now l.byte-index (omega (arith, l.auto.byte-index-end)) in
    sym end ∙ l.invariant ∙ runs-all c.args.bytes.now
