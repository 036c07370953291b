use Rattle.std.proofs.Common.{length, ap, ◌∙◌, arith, length-set}
use Rattle.std.proofs.lemmas.List.{get_or_default, take_all}
use Rattle.std.proofs.lemmas.List.FromFn.{fill_by_all}
use Rattle.std.specs.Prelude.{◌==◌}
use Rattle.std.specs.List.{count_by}
use Rattle.vital_netlist.specs.declared.design_lists.DesignDriver.{DesignDriver}
use Rattle.vital_netlist.proofs.DesignCountLemmas.{counted-more, few-counted}
use Rattle.vital_netlist.proofs.design_lists.driver_counts.Goals as goal

pub count_one-requires : goal.count_one-requires
count_one-requires c =
    few-counted (λ (d : DesignDriver). d.signal) c.args.drivers.now c.loop-driver.driver-index c.args.signals c.loop-driver.counts.items _
    c.loop-driver-test.true (omega arith) c.loop-driver.invariant.0 c.loop-driver.invariant.1

pub loop-driver-preserved : goal.loop-driver-preserved
loop-driver-preserved c = (
  ap length c.count_one.ensures ∙ length-set c.loop-driver.counts.items _ _ ∙ c.loop-driver.invariant.0,
  counted-more (λ (d : DesignDriver). d.signal) c.args.drivers.now c.loop-driver.driver-index _ c.args.signals c.loop-driver.counts.items c.count_one.new.counts.items
      c.loop-driver-test.true (get_or_default c.args.drivers.now c.loop-driver.driver-index _ _ c.loop-driver-test.true) c.loop-driver.invariant.0 c.count_one.ensures c.loop-driver.invariant.1,
)

pub returns : goal.returns
returns c =
    fill_by_all (λ n. count_by (λ (d : DesignDriver). d.signal == n) c.args.drivers.now) c.loop-driver.counts.items c.args.signals 0 c.loop-driver.invariant.0
    (λ k within. c.loop-driver.invariant.1 k within ∙ ap (count_by (λ (d : DesignDriver). d.signal == k)) (take_all c.loop-driver.driver-index c.args.drivers.now (omega arith)))
