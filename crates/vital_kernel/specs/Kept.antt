-- What is kept of the processes of a network.
use Rattle.std.specs.Prelude.{◌≡◌, ◌^◌, ◌<◌, List, map, length}
use Rattle.vital_kernel.specs.Networks.{Network, processes}
use Rattle.vital_kernel.specs.Soundness.{IsSoundNetwork}
use Rattle.vital_kernel.specs.declared.instances.Instances.{Instances}
use Rattle.vital_kernel.specs.declared.places.Place.{Place}
use Rattle.vital_kernel.specs.Instances.{AreInstances}
use Rattle.vital_kernel.specs.Places.{place_of}

-- The network is sound, each process has its place, and each cell its instance.
pub record AreKept (n : Network) (places : List Place) (s : Instances) : Type 0 where
  pub sound : IsSoundNetwork n
  pub placed : places ≡ map place_of (processes n)
  pub few : length places < 2 ^ 31
  pub are : AreInstances n.cells s
