use Rattle.std.proofs.Common.{ℕ, sym, ◌∙◌, ap, arith}
use Rattle.std.proofs.lemmas.List.{get_or_past}
use Rattle.std.proofs.lemmas.List.FromFn.{get_or-map-range_with_len, length-map-range_with_len}
use Rattle.std.specs.List.{slice_index_or}
use Rattle.vital_machine.specs.TruthTables.{results_by}
use Rattle.vital_logic.specs.declared.level.Level.{Level}
use Rattle.vital_logic.specs.declared.level.Level.TheVariants.{U, X}
use Rattle.vital_table.specs.Results.{result_at}
use Rattle.vital_table.specs.Tables.{Table}
use Rattle.vital_machine.proofs.truth_table.TruthTable.result.Goals as goal

pub returns-then-number-self : goal.returns-then-number-self
returns-then-number-self c =
    let give : ℕ → Level = λ number. result_at c.self.inside.table c.args.row number X in
    c.result_at.ensures
    ∙ sym (get_or-map-range_with_len give 0 c.self.inside.table.results c.args.number c.args.number U (omega arith) (omega arith))
    ∙ ap (λ (t : Table). slice_index_or (results_by t c.args.row) c.args.number U) c.self.view_is

pub returns-else-number-self : goal.returns-else-number-self
returns-else-number-self c =
    let give : ℕ → Level = λ number. result_at c.self.inside.table c.args.row number X in
    sym (get_or_past (results_by c.self.inside.table c.args.row) c.args.number U (omega (arith, length-map-range_with_len give 0 c.self.inside.table.results)))
    ∙ ap (λ (t : Table). slice_index_or (results_by t c.args.row) c.args.number U) c.self.view_is
