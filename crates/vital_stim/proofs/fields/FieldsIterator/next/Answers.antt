use Rattle.std.proofs.Common.{sym, ◌∙◌, ap, length, arith}
use Rattle.vital_stim.proofs.FieldLemmas.{takes_first}
use Rattle.vital_stim.proofs.fields.FieldsIterator.next.Goals as goal
use Rattle.vital_stim.proofs.fields.FieldsIterator.next.Goals.{then-is_empty, else-is_empty}

pub returns-clause-steps : goal.returns-clause-steps
returns-clause-steps c =
    let taken = takes_first c.self.inside.rest.now _ _ _ _ _ c.after_blanks-rest.ensures c.first_blank.ensures c.unwrap_or.ensures c.split_at.ensures.front c.split_at.ensures.back in
    elim c.if-is_empty.branch [
      | then-is_empty w ↦
          let none = taken.none (sym c.is_empty.ensures ∙ w.if-is_empty.true) in
          rw w.result-is (sym c.self.view_is ∙ none.0, none.1)
      | else-is_empty w ↦
          rw w.result-is (sym c.self.view_is ∙ taken.some (sym c.is_empty.ensures ∙ w.if-is_empty.false))
    ]

pub returns-clause-goes : goal.returns-clause-goes
returns-clause-goes c =
    let taken = takes_first c.self.inside.rest.now _ _ _ _ _ c.after_blanks-rest.ensures c.first_blank.ensures c.unwrap_or.ensures c.split_at.ensures.front c.split_at.ensures.back in
    elim c.if-is_empty.branch [
      | then-is_empty w ↦ rw w.result-is (record { on = λ f. tt; keeps = tt; rests = λ f. tt })
      | else-is_empty w ↦
          let longer = ap length (sym c.self.view_is ∙ taken.some (sym c.is_empty.ensures ∙ w.if-is_empty.false)) in
          rw w.result-is (record { on = λ f. (tt, tt, omega (arith, longer)); keeps = tt; rests = λ f. tt })
    ]
