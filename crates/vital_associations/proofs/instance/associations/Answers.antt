use Rattle.std.proofs.Common.{◌≡◌, [], ◌∷◌, ◌++◌, ◌+◌, length, map, drop, sym, ◌∙◌, ap, arith}
use Rattle.std.specs.Prelude.{◌||◌, Ok}
use Rattle.std.specs.List.{list_any}
use Rattle.std.proofs.lemmas.List.{drop_all, length-map, map-append}
use Rattle.vital_associations.specs.Associations.{PortMap, lent}
use Rattle.vital_associations.specs.PortMaps.{associated_behind, followed}
use Rattle.vital_associations.specs.Spans.{takes_of}
use Rattle.vital_associations.proofs.PortMapLemmas.{any-last, behind-more, next-fault, pushed}
use Rattle.vital_structure.specs.Structures.{signals_of}
use Rattle.vital_associations.proofs.instance.associations.Goals as goal

pub loop-item-preserved : goal.loop-item-preserved
loop-item-preserved c =
    let m : PortMap = record { formals = c.args.formals.now; signals = signals_of c.args.structure.now; leading = c.leading.result } in
    let found = c.loop-item.found.items in
    let earlier = map lent found in
    let is = c.args.items.now in
    let k = c.loop-item.item-index in
    let i = c.item-item.result in
    let a = c.in-Ok.association in
    let many : length earlier ≡ c.len.result = omega (arith, length-map found lent, c.len.ensures, c.loop-item.found.ok.0) in
    let next = c.in-Ok.ensures.next earlier c.loop-item.invariant.2 many in
    let there = ap (map lent) (pushed c.push.result found (found ++ a ∷ []) c.push.new.self.items (sym c.if-is_err.ensures.value) c.push.ensures.items) ∙ map-append lent found (a ∷ []) in (
      c.loop-item.invariant.0
          ∙ behind-more m earlier is k i (omega arith) c.item-item.is
          ∙ ap (λ r. followed r i (λ b. associated_behind m (earlier ++ b ∷ []) (drop (k + 1) is))) next
          ∙ ap (λ e. associated_behind m e (drop (k + 1) is)) (sym there),
      c.in-Ok.ensures.apart,
      λ s. c.in-Ok.ensures.taken s
          ∙ ap (λ b. b || takes_of m s (lent a)) (c.loop-item.invariant.2 s)
          ∙ sym (any-last (takes_of m s) earlier (lent a))
          ∙ ap (list_any (takes_of m s)) (sym there),
    )

pub returns-in-Err : goal.returns-in-Err
returns-in-Err c =
    let formals = c.args.formals.now in
    let signals = signals_of c.args.structure.now in
    let m : PortMap = record { formals = formals; signals = signals; leading = c.leading.result } in
    let found = c.loop-item.found.items in
    let earlier = map lent found in
    let is = c.args.items.now in
    let k = c.loop-item.item-index in
    let i = c.item-item.result in
    let many : length earlier ≡ c.len.result = omega (arith, length-map found lent, c.len.ensures, c.loop-item.found.ok.0) in
    let all = ap (λ n. associated_behind (record { formals = formals; signals = signals; leading = n }) [] is) (sym c.leading.ensures) ∙ c.loop-item.invariant.0 ∙ behind-more m earlier is k i (omega arith) c.item-item.is in
    next-fault formals signals is m earlier i (λ a. associated_behind m (earlier ++ a ∷ []) (drop (k + 1) is)) c.in-Err.error all (c.in-Err.ensures.next earlier c.loop-item.invariant.2 many)

pub returns : goal.returns
returns c =
    let formals = c.args.formals.now in
    let signals = signals_of c.args.structure.now in
    let m : PortMap = record { formals = formals; signals = signals; leading = c.leading.result } in
    let is = c.args.items.now in
    ap (λ n. associated_behind (record { formals = formals; signals = signals; leading = n }) [] is) (sym c.leading.ensures)
    ∙ c.loop-item.invariant.0
    ∙ ap (associated_behind m (map lent c.loop-item.found.items)) (drop_all c.loop-item.item-index is (omega arith))
    ∙ ap (λ found. Ok (map lent found)) (sym c.new.ensures)
