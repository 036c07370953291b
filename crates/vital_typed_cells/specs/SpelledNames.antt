-- How the names of ports and timing generics of a typed tree are spelled (IEEE 1076.4).
use Rattle.std.specs.Prelude.{ℕ, Bool, not, ◌&&◌, ◌-◌, List, [], ◌∷◌, ◌++◌, drop, slice_get, take, Option, Some, None, if◌then◌else◌}
use Rattle.std.specs.List.{flat_map}
use Rattle.std.specs.Option.{option_and_then, option_map}
use Rattle.vital_level0.specs.declared.parts.Parts.{Parts}
use Rattle.vital_level0.specs.Clauses.{is_extended}
use Rattle.vital_level0.specs.Prefixes.{edge_text, is_in, second_port, underscore, word_of}
use Rattle.vital_level0.specs.Split.{holds_underscore}
use Rattle.vital_nodes.specs.declared.decl.Mode.{Mode}
use Rattle.vital_objects.specs.declared.port.Port.{Port}

-- The name of a port holds no underscore and is not extended.
abbrev pub is_port_name : List ℕ → Bool
is_port_name name = not (holds_underscore name) && not (is_extended name)

-- ---- timing generics

-- The name of the port of a number behind its underscore, if its mode fits.
abbrev pub if_fitting : (Mode → Bool) → Port → Option (List ℕ)
if_fitting fits p = if fits p.mode then Some (underscore ∷ p.name) else None

abbrev pub port_text : List Port → (Mode → Bool) → ℕ → Option (List ℕ)
port_text ports fits n = option_and_then (if_fitting fits) (slice_get ports n)

-- The same of a second port, where the prefix has one.
abbrev pub second_text : List Port → Option (Mode → Bool) → Option ℕ → Option (List ℕ)
second_text ports None None = Some []
second_text ports None (Some n) = None
second_text ports (Some fits) None = None
second_text ports (Some fits) (Some n) = port_text ports fits n

-- The condition of a name behind its underscore, where these bytes of the name are one.
abbrev pub condition_text : List ℕ → Option (ℕ × ℕ) → List ℕ
condition_text name None = []
condition_text name (Some range) = underscore ∷ take (range.1 - range.0) (drop range.0 name)

abbrev pub spelled_with : List ℕ → Parts → List ℕ → List ℕ → List ℕ
spelled_with name p first second = word_of p.kind ++ first ++ second ++ condition_text name p.condition ++ flat_map edge_text p.edges

-- How parts of a name are spelled, where their ports are there.
abbrev pub spelled : List Port → List ℕ → Parts → Option (List ℕ)
spelled ports name p =
    option_and_then (λ first. option_map (spelled_with name p first) (second_text ports (second_port p.kind) p.second)) (port_text ports is_in p.first)
