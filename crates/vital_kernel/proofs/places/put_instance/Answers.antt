use Rattle.std.proofs.Common.{◌≡◌, ◌^◌, ◌<◌, ◌++◌, length, length-append, map, sym, ap, ◌∙◌, arith}
use Rattle.std.specs.List.{range_with_len}
use Rattle.std.proofs.lemmas.List.FromFn.{length-map-range_with_len}
use Rattle.vital_kernel.specs.Networks.{lent_cell, processes_of}
use Rattle.vital_kernel.proofs.ListLemmas.{on-ok}
use Rattle.vital_kernel.proofs.PlaceLemmas.{places-of}
use Rattle.vital_kernel.specs.Places.{place_in, place_of}
use Rattle.vital_kernel.proofs.places.put_instance.Goals as goal

pub returns-clause-placed : goal.returns-clause-placed
returns-clause-placed c =
    let cell = lent_cell c.args.cell.now in
    let before = c.args.places.now.items in
    let after = c.put_places.new.places.items in
    let put = map (place_in c.args.instance) (range_with_len 0 c.in-Some.count) in
    on-ok c.put_places.result (after ≡ before ++ put) (after ≡ before ++ map place_of (processes_of (c.args.instance, cell)))
    (λ e. e ∙ ap (λ n. before ++ map (place_in c.args.instance) (range_with_len 0 n)) c.in-Some.ensures ∙ ap (λ ps. before ++ ps) (sym (places-of c.args.instance cell)))
    c.put_places.ensures

pub returns-clause-few : goal.returns-clause-few
returns-clause-few c =
    let before = c.args.places.now.items in
    let after = c.put_places.new.places.items in
    let put = map (place_in c.args.instance) (range_with_len 0 c.in-Some.count) in
    on-ok c.put_places.result (after ≡ before ++ put) (length after < 2 ^ 31)
    (λ e. omega (arith, ap length e, length-append before put, length-map-range_with_len (place_in c.args.instance) 0 c.in-Some.count, c.args.places.now.ok.0))
    c.put_places.ensures
