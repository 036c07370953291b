use Rattle.std.proofs.Common.{◌≡◌, ℕ, ◌<◌, ◌≤◌, get_or}
use Rattle.vital_logic.specs.declared.level.Level.TheVariants.{U}
use Rattle.vital_table.specs.Results.{result_at}
use Rattle.vital_machine.proofs.functionality.put_results.Given as goal

abbrev pub invariant-loop-number : goal.invariant-loop-number
invariant-loop-number l = record {
  done : (i : ℕ) → i < l.number → get_or l.results i U ≡ result_at l.table l.row i (get_or l.initial.results i U);
  rest : (i : ℕ) → l.number ≤ i → get_or l.results i U ≡ get_or l.initial.results i U;
}
