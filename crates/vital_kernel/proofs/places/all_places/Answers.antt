use Rattle.std.proofs.Common.{◌++◌, map, sym, ap, ◌∙◌, arith}
use Rattle.vital_kernel.specs.Networks.{lent_cell, processes_of}
use Rattle.vital_kernel.proofs.PlaceLemmas.{places-more}
use Rattle.vital_kernel.specs.Places.{place_of}
use Rattle.vital_kernel.proofs.places.all_places.Goals as goal

pub loop-instance-preserved : goal.loop-instance-preserved
loop-instance-preserved c =
    let i = c.loop-instance.instance in
    let cell = c.index-cells-instance.result in
    record {
      placed =
          c.in_ok-put_instance.ensures.placed
          ∙ ap (λ ps. ps ++ map place_of (processes_of (i, lent_cell cell))) c.loop-instance.invariant.placed
          ∙ sym (places-more c.args.cells.now i cell (omega arith) c.index-cells-instance.is);
      few = c.in_ok-put_instance.ensures.few;
    }
