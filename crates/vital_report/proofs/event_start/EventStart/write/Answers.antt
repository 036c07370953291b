use Rattle.std.proofs.Common.{ℕ, List, [], ◌∷◌, ◌++◌, ◌∙◌, ap, refl, subst}
use Rattle.vital_logic.specs.Levels.{byte_of}
use Rattle.vital_report.specs.Fields.{event_start}
use Rattle.vital_report.specs.Held.{Puts}
use Rattle.vital_report.proofs.FieldTexts.{event_line}
use Rattle.vital_report.proofs.Passing.{fault_puts, puts_then}
use Rattle.vital_report.proofs.event_start.EventStart.write.Goals as goal

pub returns-in_err-put-clause-puts : goal.returns-in_err-put-clause-puts
returns-in_err-put-clause-puts g c =
    let whole = event_line c.args.time c.args.delta c.args.name.now c.args.value c.bytes.result.now c.args.name.now (byte_of c.args.value)
    (c.bytes.ensures ∙ ap (λ (s : ℕ × ℕ). event_start s.0 s.1) c.turn_to.ensures) refl refl in
    subst (λ (text : List ℕ). Puts c.from_residual.result (g.K.Sink.told c.args.sink.now) c.args.held.now text (g.K.Sink.told c.put.new.sink) c.put.new.self)
    whole
    (fault_puts c.from_residual.result _ _ _ (c.args.name.now ++ (32 ∷ byte_of c.args.value ∷ 10 ∷ [])) _ _ c.from_residual.ensures.0 c.in_err-put.ensures.puts)

pub returns-in_err-put-2-clause-puts : goal.returns-in_err-put-2-clause-puts
returns-in_err-put-2-clause-puts g c =
    let whole = event_line c.args.time c.args.delta c.args.name.now c.args.value c.bytes.result.now c.as_slice.result.now (byte_of c.args.value)
    (c.bytes.ensures ∙ ap (λ (s : ℕ × ℕ). event_start s.0 s.1) c.turn_to.ensures) c.as_slice.ensures refl in
    subst (λ (text : List ℕ). Puts c.from_residual-in_err-put-2.result (g.K.Sink.told c.args.sink.now) c.args.held.now text (g.K.Sink.told c.put-2.new.sink) c.put-2.new.self)
    whole
    (puts_then c.from_residual-in_err-put-2.result _ _ _ _ c.put.new.self _ _ _ c.in_ok-put.ensures.puts
    (fault_puts c.from_residual-in_err-put-2.result _ _ c.as_slice.result.now (32 ∷ byte_of c.args.value ∷ 10 ∷ []) _ _ c.from_residual-in_err-put-2.ensures.0 c.in_err-put-2.ensures.puts))

pub returns-clause-puts : goal.returns-clause-puts
returns-clause-puts g c =
    let whole = event_line c.args.time c.args.delta c.args.name.now c.args.value c.bytes.result.now c.as_slice.result.now c.to_byte.result
    (c.bytes.ensures ∙ ap (λ (s : ℕ × ℕ). event_start s.0 s.1) c.turn_to.ensures) c.as_slice.ensures c.to_byte.ensures in
    subst (λ (text : List ℕ). Puts c.put-3.result (g.K.Sink.told c.args.sink.now) c.args.held.now text (g.K.Sink.told c.put-3.new.sink) c.put-3.new.self)
    whole
    (puts_then c.put-3.result _ _ _ _ _ _ _ _ c.in_ok-put.ensures.puts
    (puts_then c.put-3.result _ _ c.as_slice.result.now _ _ (32 ∷ c.to_byte.result ∷ 10 ∷ []) _ _ c.in_ok-put-2.ensures.puts c.put-3.ensures.puts))
