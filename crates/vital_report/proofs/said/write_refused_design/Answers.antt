use Rattle.std.proofs.Common.{◌∷◌, ◌++◌, [], ◌∙◌, List, ℕ, codes, sym, subst}
use Rattle.vital_report.specs.Fields.{clause_word}
use Rattle.vital_report.specs.Held.{Puts}
use Rattle.vital_report.specs.Lines.{line_of, spot, spot_fields}
use Rattle.vital_report.proofs.said.write_refused_design.Goals as goal

pub returns-in-RefusedNetlist-clause-puts : goal.returns-in-RefusedNetlist-clause-puts
returns-in-RefusedNetlist-clause-puts g c =
    rw c.in-RefusedNetlist.is (rw (sym (c.fixed.ensures ∙ c.word.ensures)) (rw (sym c.name_text.ensures) c.write_line.ensures.puts))

pub returns-in-RefusedCell-clause-puts : goal.returns-in-RefusedCell-clause-puts
returns-in-RefusedCell-clause-puts g c =
    rw c.in-RefusedCell.is
    (subst (λ (word : List ℕ). Puts c.write_line-in-RefusedCell.result (g.K.Sink.told c.args.sink.now) c.args.held.now
    (line_of (codes "refused netlist") (word ∷ spot_fields (spot c.in-RefusedCell.at) ++ clause_word c.in-RefusedCell.clause ∷ []))
    (g.K.Sink.told c.write_line-in-RefusedCell.new.sink) c.write_line-in-RefusedCell.new.held)
    c.broken_text.ensures c.write_line-in-RefusedCell.ensures.puts)
