use Rattle.std.proofs.Common.{◌<◌, ◌≤◌, get_or, sym, subst, arith, All}
use Rattle.std.proofs.lemmas.List.{take_all}
use Rattle.std.proofs.lemmas.List.Elements.{All-get_or}
use Rattle.vital_ll.specs.declared.grammar.Sym.TheVariants.{Token}
use Rattle.vital_ll.specs.Table.{IsBelow}
use Rattle.vital_ll.proofs.Known.{widest_more}
use Rattle.vital_ll.proofs.width.widest.Goals as goal
use Rattle.vital_ll.proofs.width.widest.Goals.{in-Token, in_default}

pub loop-symbol-preserved : goal.loop-symbol-preserved
loop-symbol-preserved c =
    elim c.match-symbol.branch [
      | in-Token w ↦
          let wider : c.loop-symbol.widest ≤ c.match-symbol.widest = omega (arith, w.max-widest.ensures, w.widest-is, w.from.ensures) in
          let below : IsBelow c.match-symbol.widest (get_or c.args.symbols.now c.loop-symbol.symbol-index (Token 0)) =
          subst (λ x. IsBelow c.match-symbol.widest x) (sym w.in-Token.is) (omega (arith, w.max-widest.ensures, w.widest-is, w.from.ensures)) in (
            omega (arith, wider, c.loop-symbol.invariant.0),
            omega (arith, w.max-widest.ensures, w.widest-is, w.from.ensures, c.loop-symbol.invariant.1),
            widest_more c.args.symbols.now c.loop-symbol.symbol-index c.loop-symbol.widest c.match-symbol.widest (Token 0) c.loop-symbol-test.true wider below c.loop-symbol.invariant.2,
            λ n h all.
                let low : c.loop-symbol.widest ≤ n = c.loop-symbol.invariant.3 n h all in
                let here : w.in-Token.kind < n = subst (IsBelow n) w.in-Token.is (All-get_or (IsBelow n) c.args.symbols.now c.loop-symbol.symbol-index (Token 0) c.loop-symbol-test.true all) in
                omega (arith, low, here, w.max-widest.ensures, w.widest-is, w.from.ensures),
          )
      | in_default w ↦
          let wider : c.loop-symbol.widest ≤ c.match-symbol.widest = omega (arith, w.widest-is) in
          let below : IsBelow c.match-symbol.widest (get_or c.args.symbols.now c.loop-symbol.symbol-index (Token 0)) =
          subst (λ x. IsBelow c.match-symbol.widest x) (sym w.in_default.is) tt in (
            omega (arith, wider, c.loop-symbol.invariant.0),
            omega (arith, w.widest-is, c.loop-symbol.invariant.1),
            widest_more c.args.symbols.now c.loop-symbol.symbol-index c.loop-symbol.widest c.match-symbol.widest (Token 0) c.loop-symbol-test.true wider below c.loop-symbol.invariant.2,
            λ n h all. let low : c.loop-symbol.widest ≤ n = c.loop-symbol.invariant.3 n h all in omega (arith, low, w.widest-is),
          )
    ]

pub returns-clause-below : goal.returns-clause-below
returns-clause-below c =
    subst (λ l. All (IsBelow c.loop-symbol.widest) l) (take_all c.loop-symbol.symbol-index c.args.symbols.now (omega arith)) c.loop-symbol.invariant.2
