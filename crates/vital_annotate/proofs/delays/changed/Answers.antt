use Rattle.std.proofs.Common.{subst, sym}
use Rattle.std.specs.Prelude.{[], ◌∷◌}
use Rattle.vital_timing.specs.declared.delay.Delay.TheVariants as delay
use Rattle.vital_annotate.specs.Delays.{changed}
use Rattle.vital_annotate.specs.NewDelays.{IsNewDelay}
use Rattle.vital_annotate.proofs.DelayLemmas.{new-delay-of}
use Rattle.vital_annotate.proofs.delays.changed.Goals as goal

pub returns-in-One : goal.returns-in-One
returns-in-One c =
    subst (λ d. IsNewDelay (changed c.args.corner c.args.mode c.args.values.now d) c.of_times.result) (sym c.in-One.is)
    (new-delay-of c.args.corner c.args.mode c.args.values.now (delay.One c.in-One.old) _ (c.with_value-time.result ∷ []) c.of_times.result c.by_changes-values.ensures
    (c.with_value-time.ensures, tt) c.of_times.ensures.delay c.of_times.ensures.negative c.of_times.ensures.large)

pub returns-in-Two : goal.returns-in-Two
returns-in-Two c =
    subst (λ d. IsNewDelay (changed c.args.corner c.args.mode c.args.values.now d) c.of_times-in-Two.result) (sym c.in-Two.is)
    (new-delay-of c.args.corner c.args.mode c.args.values.now (delay.Two c.in-Two.tr01 c.in-Two.tr10) _ (c.with_value-tr01.result ∷ c.with_value-tr10.result ∷ []) c.of_times-in-Two.result c.by_changes-values.ensures
    (c.with_value-tr01.ensures, (c.with_value-tr10.ensures, tt)) c.of_times-in-Two.ensures.delay c.of_times-in-Two.ensures.negative c.of_times-in-Two.ensures.large)

pub returns-in-Six : goal.returns-in-Six
returns-in-Six c =
    subst (λ d. IsNewDelay (changed c.args.corner c.args.mode c.args.values.now d) c.of_times-in-Six.result) (sym c.in-Six.is)
    (new-delay-of c.args.corner c.args.mode c.args.values.now (delay.Six c.in-Six.tr01 c.in-Six.tr10 c.in-Six.tr0z c.in-Six.trz1 c.in-Six.tr1z c.in-Six.trz0) _ (c.with_value-tr01-in-Six.result ∷ c.with_value-tr10-in-Six.result ∷ c.with_value-tr0z.result ∷ c.with_value-trz1.result ∷ c.with_value-tr1z.result ∷ c.with_value-trz0.result ∷ []) c.of_times-in-Six.result c.by_changes-values.ensures
    (c.with_value-tr01-in-Six.ensures, (c.with_value-tr10-in-Six.ensures, (c.with_value-tr0z.ensures, (c.with_value-trz1.ensures, (c.with_value-tr1z.ensures, (c.with_value-trz0.ensures, tt)))))) c.of_times-in-Six.ensures.delay c.of_times-in-Six.ensures.negative c.of_times-in-Six.ensures.large)
