use Rattle.std.proofs.Common.{sym, ◌∙◌, ap, length, arith}
use Rattle.vital_stim.proofs.LineLemmas.{last_line, next_line}
use Rattle.vital_stim.proofs.lines.LinesIterator.next.Goals as goal

pub returns-then-end-rest-clause-steps : goal.returns-then-end-rest-clause-steps
returns-then-end-rest-clause-steps c =
    sym c.self.view_is ∙ last_line c.self.inside.done c.self.inside.rest.now _ c.if-self.false c.line_end-end.ensures.place c.if-end-rest.true

pub returns-then-end-rest-clause-goes : goal.returns-then-end-rest-clause-goes
returns-then-end-rest-clause-goes c =
    let longer = ap length (sym c.self.view_is ∙ last_line c.self.inside.done c.self.inside.rest.now _ c.if-self.false c.line_end-end.ensures.place c.if-end-rest.true) in
    record { on = λ f. (tt, tt, omega (arith, longer)); keeps = tt; rests = λ f. tt }

pub returns-clause-steps : goal.returns-clause-steps
returns-clause-steps c =
    sym c.self.view_is ∙ next_line c.self.inside.done c.self.inside.rest.now _ c.if-self.false c.line_end-end.ensures.place c.line_end-end.ensures.within c.if-end-rest.false

pub returns-clause-goes : goal.returns-clause-goes
returns-clause-goes c =
    let longer = ap length (sym c.self.view_is ∙ next_line c.self.inside.done c.self.inside.rest.now _ c.if-self.false c.line_end-end.ensures.place c.line_end-end.ensures.within c.if-end-rest.false) in
    record { on = λ f. (tt, tt, omega (arith, longer)); keeps = tt; rests = λ f. tt }
