use Rattle.std.proofs.Common.{◌≡◌, ℕ, ◌-◌, Result, Err, length, sym, ap, subst, ◌∙◌, arith}
use Rattle.std.proofs.lemmas.List.{drop_all}
use Rattle.std.proofs.lemmas.Result.{err_from_is_err_and}
use Rattle.vital_answers.specs.Given.{GivesFiles}
use Rattle.vital_answers.specs.declared.reading.ReadFiles.{ReadFiles}
use Rattle.vital_answers.specs.declared.reading.Unread.{Unread}
use Rattle.vital_answers.proofs.FilesRead.{AreReadFirst, all_read, goes_on, none_read, refuses}
use Rattle.vital_answers.proofs.reading.read_files.Goals as goal

pub loop-number-init : goal.loop-number-init
loop-number-init c = rw (c.new-units.ensures.items, c.new-delays.ensures.items) (none_read c.args.sources.now 4_194_304)

pub returns-in_err-file-clause-gives : goal.returns-in_err-file-clause-gives
returns-in_err-file-clause-gives c = λ outcome h.
    let p = err_from_is_err_and c.from_residual.result c.from_residual.ensures.1 in
    let source = c.index-sources-number in
    subst (λ (r : Result ReadFiles Unread). GivesFiles r outcome) (sym (p.1 ∙ ap Err p.2))
    (refuses c.args.sources.now 4_194_304 c.loop-number.number c.loop-number.room _ source.result c.in_err-file.field-0.0 c.loop-number-test.true source.is c.in_err-file.ensures.gives c.loop-number.invariant outcome h)

pub loop-number-preserved : goal.loop-number-preserved
loop-number-preserved c =
    let source = c.index-sources-number in
    let before = c.loop-number in
    let read =
    goes_on c.args.sources.now 4_194_304 before.number before.room (record { units = before.units.items; delays = before.delays.items }) source.result c.in_ok-file.file c.loop-number-test.true source.is c.in_ok-file.ensures.read
    c.in_ok-file.ensures.gives before.invariant in
    let room = c.saturating_sub-room.ensures ∙ ap (λ (n : ℕ). before.room - n) c.tokens_of.ensures in
    rw (sym c.in_ok-put.ensures, sym room) at read

pub returns-clause-gives : goal.returns-clause-gives
returns-clause-gives c = λ outcome h.
    let before = c.loop-number in
    rw (c.new.ensures, c.new-2.ensures)
    (all_read c.args.sources.now 4_194_304 before.number before.room (record { units = before.units.items; delays = before.delays.items }) (drop_all before.number c.args.sources.now (omega (arith, c.loop-number-test.false))) before.invariant outcome h)

pub returns-clause-read : goal.returns-clause-read
returns-clause-read c = rw c.new.ensures c.loop-number.invariant.read
