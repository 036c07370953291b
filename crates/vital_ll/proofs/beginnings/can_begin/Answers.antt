use Rattle.std.proofs.Common.{◌+◌, ◌-◌, ◌^◌, ◌&&◌, ◌||◌, Bool, List, ◌∷◌, get_or, drop, sym, ap, ◌∙◌, arith}
use Rattle.std.specs.Int.Bits.{bit_and}
use Rattle.std.proofs.lemmas.List.{drop_more, drop_all}
use Rattle.vital_ll.specs.declared.grammar.Sym.{Sym}
use Rattle.vital_ll.specs.declared.grammar.Sym.TheVariants.{Token}
use Rattle.vital_ll.specs.Marks.{has, marked, begins}
use Rattle.vital_ll.specs.Masks.{token_at}
use Rattle.vital_ll.proofs.Bits.{has_all, has_none, has-and, has-or, begin_more}
use Rattle.vital_ll.proofs.beginnings.can_begin.Goals as goal

pub loop-symbol-init : goal.loop-symbol-init
loop-symbol-init c = λ i low.
    let whole = begins (marked c.args.nullable.now i) (marked c.args.first.now i) (token_at (c.args.base + i)) (has c.args.after i) c.args.symbols.now in
    ap (λ (b : Bool). b || (has (2 ^ 128 - 1) i && whole)) (has_none i) ∙ ap (λ (b : Bool). b && whole) (has_all i low)

pub returns-in-Token : goal.returns-in-Token
returns-in-Token c = λ i low.
    let from = begins (marked c.args.nullable.now i) (marked c.args.first.now i) (token_at (c.args.base + i)) (has c.args.after i) in
    has-or c.loop-symbol.found (bit_and c.loop-symbol.empty c.bit_of.result) i
    ∙ ap (λ (b : Bool). has c.loop-symbol.found i || b) (has-and c.loop-symbol.empty c.bit_of.result i ∙ ap (λ (b : Bool). has c.loop-symbol.empty i && b) (c.bit_of.ensures i low))
    ∙ ap (λ (l : List Sym). has c.loop-symbol.found i || (has c.loop-symbol.empty i && from l)) (sym (drop_more c.args.symbols.now c.loop-symbol.symbol-index (Token 0) c.loop-symbol-test.true ∙ ap (λ (x : Sym). x ∷ drop (c.loop-symbol.symbol-index + 1) c.args.symbols.now) c.in-Token.is))
    ∙ c.loop-symbol.invariant i low

pub loop-symbol-preserved : goal.loop-symbol-preserved
loop-symbol-preserved c = λ i low.
    let from = begins (marked c.args.nullable.now i) (marked c.args.first.now i) (token_at (c.args.base + i)) (has c.args.after i) in
    let rest = drop (c.loop-symbol.symbol-index + 1) c.args.symbols.now in
    let first = get_or c.args.first.now c.from-rule.result 0 in
    let nullable = get_or c.args.nullable.now c.from-rule.result 0 in
    ap (λ (b : Bool). b || (has (bit_and c.loop-symbol.empty nullable) i && from rest)) (has-or c.loop-symbol.found (bit_and c.loop-symbol.empty first) i ∙ ap (λ (b : Bool). has c.loop-symbol.found i || b) (has-and c.loop-symbol.empty first i))
    ∙ ap (λ (b : Bool). (has c.loop-symbol.found i || (has c.loop-symbol.empty i && has first i)) || (b && from rest)) (has-and c.loop-symbol.empty nullable i)
    ∙ begin_more (has c.loop-symbol.found i) (has c.loop-symbol.empty i) (has first i) (has nullable i) (from rest)
    ∙ ap (λ r. has c.loop-symbol.found i || (has c.loop-symbol.empty i && (marked c.args.first.now i r || (marked c.args.nullable.now i r && from rest)))) c.from-rule.ensures
    ∙ ap (λ (l : List Sym). has c.loop-symbol.found i || (has c.loop-symbol.empty i && from l)) (sym (drop_more c.args.symbols.now c.loop-symbol.symbol-index (Token 0) c.loop-symbol-test.true ∙ ap (λ (x : Sym). x ∷ drop (c.loop-symbol.symbol-index + 1) c.args.symbols.now) c.in-Rule.is))
    ∙ c.loop-symbol.invariant i low

pub returns : goal.returns
returns c = λ i low.
    let from = begins (marked c.args.nullable.now i) (marked c.args.first.now i) (token_at (c.args.base + i)) (has c.args.after i) in
    has-or c.loop-symbol.found (bit_and c.loop-symbol.empty c.args.after) i
    ∙ ap (λ (b : Bool). has c.loop-symbol.found i || b) (has-and c.loop-symbol.empty c.args.after i)
    ∙ ap (λ (l : List Sym). has c.loop-symbol.found i || (has c.loop-symbol.empty i && from l)) (sym (drop_all c.loop-symbol.symbol-index c.args.symbols.now (omega arith)))
    ∙ c.loop-symbol.invariant i low
