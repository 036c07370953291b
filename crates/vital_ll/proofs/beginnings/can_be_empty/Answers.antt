use Rattle.std.proofs.Common.{◌+◌, ◌&&◌, Bool, List, ◌∷◌, get_or, drop, sym, ap, ◌∙◌}
use Rattle.std.proofs.lemmas.List.{drop_more}
use Rattle.vital_ll.specs.declared.grammar.Sym.{Sym}
use Rattle.vital_ll.specs.declared.grammar.Sym.TheVariants.{Token}
use Rattle.vital_ll.specs.Marks.{has, marked, empties}
use Rattle.vital_ll.proofs.Bits.{has_all, has-and, and_same}
use Rattle.vital_ll.proofs.beginnings.can_be_empty.Goals as goal

pub loop-symbol-init : goal.loop-symbol-init
loop-symbol-init c = λ i low. ap (λ (b : Bool). b && empties (marked c.args.nullable.now i) c.args.symbols.now) (has_all i low)

pub loop-symbol-preserved : goal.loop-symbol-preserved
loop-symbol-preserved c = λ i low.
    let rest = drop (c.loop-symbol.symbol-index + 1) c.args.symbols.now in
    ap (λ (b : Bool). b && empties (marked c.args.nullable.now i) rest) (has-and c.loop-symbol.empty (get_or c.args.nullable.now c.from.result 0) i)
    ∙ and_same (has c.loop-symbol.empty i) (has (get_or c.args.nullable.now c.from.result 0) i) (empties (marked c.args.nullable.now i) rest)
    ∙ ap (λ r. has c.loop-symbol.empty i && (marked c.args.nullable.now i r && empties (marked c.args.nullable.now i) rest)) c.from.ensures
    ∙ ap (λ (l : List Sym). has c.loop-symbol.empty i && empties (marked c.args.nullable.now i) l) (sym (drop_more c.args.symbols.now c.loop-symbol.symbol-index (Token 0) c.loop-symbol-test.true ∙ ap (λ (x : Sym). x ∷ drop (c.loop-symbol.symbol-index + 1) c.args.symbols.now) c.in-Rule.is))
    ∙ c.loop-symbol.invariant i low
