-- Names in sets of the standard library, which hold them borrowed.
use Rattle.std.specs.Prelude.{ℕ, Bool, ◌||◌, List}
use Rattle.std.specs.List.{list_any}
use Rattle.std.specs.Str.{bytes_eq}
use Rattle.std.specs.Borrow.{Bor}
use Rattle.std.specs.HashSet.{HashSet}
use Rattle.std.specs.declared.hash.BuildHasherDefault.{BuildHasherDefault}
use Rattle.std.specs.declared.hash.FoldHasher.{FoldHasher}
use Rattle.vital_drivers.specs.declared.wire_block.Joined.{Joined}
use Rattle.vital_drivers.specs.Wires.{Wire}

-- A set has a name.
abbrev pub has_name : HashSet (Bor (List ℕ)) (BuildHasherDefault FoldHasher) → List ℕ → Bool
has_name names name = list_any (λ key. bytes_eq name key.now) names.keys

-- A wire has a signal or a port that is joined.
abbrev pub shares_any : Joined → Wire → Bool
shares_any joined w = has_name joined.signals w.0.name || has_name joined.ports w.1.name
