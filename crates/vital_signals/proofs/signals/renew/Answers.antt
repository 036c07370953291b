use Rattle.std.proofs.Common.{◌≡◌, ℕ, ◌<◌, ◌++◌, ◌∷◌, [], Bool, cond, length, get_or, ap, sym, ◌∙◌, arith}
use Rattle.std.proofs.lemmas.List.{length-append}
use Rattle.vital_logic.specs.declared.level.Level.TheVariants.{U}
use Rattle.vital_signals.specs.Events.{quiet_signal, with_value}
use Rattle.vital_signals.specs.Lists.{NumberList}
use Rattle.vital_signals.specs.Rounds.{Round}
use Rattle.vital_signals.specs.Values.{values}
use Rattle.vital_signals.proofs.NumberLemmas.{below_high}
use Rattle.vital_signals.proofs.RoundLemmas.{one_more_given}
use Rattle.vital_signals.proofs.signals.renew.Goals as goal
use Rattle.vital_signals.proofs.signals.renew.Goals.{then-give, else-give}

pub bounds-signals-number : goal.bounds-signals-number
bounds-signals-number g c =
    let there : c.loop-k.k < length c.args.touched.now.listed = omega (arith, c.len-k-end.ensures.count) in
    omega (arith, below_high 0 (length c.args.sources.now.defaults) c.args.touched.now.listed c.loop-k.k c.requires.rising there, c.requires.all)

pub value-requires-clause-there : goal.value-requires-clause-there
value-requires-clause-there g c =
    let there : c.loop-k.k < length c.args.touched.now.listed = omega (arith, c.len-k-end.ensures.count) in
    omega (arith, below_high 0 (length c.args.sources.now.defaults) c.args.touched.now.listed c.loop-k.k c.requires.rising there)

pub loop-k-preserved : goal.loop-k-preserved
loop-k-preserved g c =
    let content = g.A.Agenda.content c.args.agenda.now in
    let given = values c.args.sources.now.defaults c.args.sources.now.signals_of content.drivers in
    let start : Round = record { signals = c.args.signals.now; events = [] } in
    let there : c.loop-k.k < length c.args.touched.now.listed = omega (arith, c.len-k-end.ensures.count) in
    let gave : c.give.new.self ≡ with_value content.now (get_or c.loop-k.signals c.at-number.result (quiet_signal U), c.value.result) =
    c.give.ensures.after ∙ ap (λ (time : ℕ). with_value time (get_or c.loop-k.signals c.at-number.result (quiet_signal U), c.value.result)) c.now-now.ensures.now in
    let listed : c.if-give.events.listed ≡ cond c.give.result (c.loop-k.events.listed ++ c.at-number.result ∷ []) c.loop-k.events.listed =
    elim c.if-give.branch [
      | then-give w ↦
          ap (λ (n : NumberList). n.listed) w.events-is ∙ ap (λ (n : NumberList). n.listed) w.add.ensures
          ∙ sym (ap (λ (b : Bool). cond b (c.loop-k.events.listed ++ c.at-number.result ∷ []) c.loop-k.events.listed) w.if-give.true)
      | else-give w ↦
          ap (λ (n : NumberList). n.listed) w.events-is
          ∙ sym (ap (λ (b : Bool). cond b (c.loop-k.events.listed ++ c.at-number.result ∷ []) c.loop-k.events.listed) w.if-give.false)
    ] in
    record {
      so_far =
          one_more_given content.now c.loop-k.k c.at-number.result given c.args.touched.now.listed start c.loop-k.signals c.loop-k.events.listed c.if-give.events.listed c.value.result
          c.give.new.self c.give.result there c.at-number.ensures c.value.ensures gave c.give.ensures.event listed c.loop-k.invariant.so_far;
      fewer = elim c.if-give.branch [
        | then-give w ↦
            omega (
              arith,
              ap (λ (n : NumberList). length n.listed) w.events-is,
              ap (λ (n : NumberList). length n.listed) w.add.ensures,
              length-append c.loop-k.events.listed (c.at-number.result ∷ []),
              c.loop-k.invariant.fewer,
            )
        | else-give w ↦ omega (arith, ap (λ (n : NumberList). length n.listed) w.events-is, c.loop-k.invariant.fewer)
      ];
      room = elim c.if-give.branch [
        | then-give w ↦ ap (λ (n : NumberList). n.room) w.events-is ∙ ap (λ (n : NumberList). n.room) w.add.ensures ∙ c.loop-k.invariant.room
        | else-give w ↦ ap (λ (n : NumberList). n.room) w.events-is ∙ c.loop-k.invariant.room
      ];
    }
