-- The edge symbols and the sets of changes that they stand for (IEEE 1076.4, package VITAL_Primitives, VitalEdgeSymbolType).
use Rattle.std.specs.Prelude.{ℕ, Bool, false, List, [], ◌∷◌, Option, codes, find}
use Rattle.std.specs.List.{list_any}
use Rattle.std.specs.Option.{option_map}
use Rattle.std.specs.Str.{bytes_eq}
use Rattle.vital_logic.specs.declared.level.Level.{Level}
use Rattle.vital_logic.specs.declared.level.Level.TheVariants.{X, Zero, One}
use Rattle.vital_logic.specs.Tables.{entry, x01_table}
use Rattle.vital_edges.specs.declared.edge_set.EdgeSet.{EdgeSet}

-- An edge symbol and the changes that it stands for, each written by the level before it and the level after it.
pub record Row : Type 0 where
  pub symbol : List ℕ
  pub changes : List (List ℕ)

-- The table of the edge symbols.
abbrev pub edge_symbols : List Row
edge_symbols =
    record { symbol = codes "/"; changes = codes "01" ∷ [] }
    ∷ record { symbol = codes "\\"; changes = codes "10" ∷ [] }
    ∷ record { symbol = codes "r"; changes = codes "0X" ∷ [] }
    ∷ record { symbol = codes "f"; changes = codes "1X" ∷ [] }
    ∷ record { symbol = codes "^"; changes = codes "X1" ∷ [] }
    ∷ record { symbol = codes "v"; changes = codes "X0" ∷ [] }
    ∷ record { symbol = codes "P"; changes = codes "01" ∷ codes "X1" ∷ [] }
    ∷ record { symbol = codes "N"; changes = codes "10" ∷ codes "X0" ∷ [] }
    ∷ record { symbol = codes "p"; changes = codes "01" ∷ codes "0X" ∷ [] }
    ∷ record { symbol = codes "n"; changes = codes "10" ∷ codes "1X" ∷ [] }
    ∷ record { symbol = codes "R"; changes = codes "X1" ∷ codes "01" ∷ codes "0X" ∷ [] }
    ∷ record { symbol = codes "F"; changes = codes "X0" ∷ codes "10" ∷ codes "1X" ∷ [] }
    ∷ record { symbol = codes "E"; changes = codes "X0" ∷ codes "X1" ∷ [] }
    ∷ record { symbol = codes "A"; changes = codes "0X" ∷ codes "X1" ∷ [] }
    ∷ record { symbol = codes "D"; changes = codes "1X" ∷ codes "X0" ∷ [] }
    ∷ record { symbol = codes "*"; changes = codes "X0" ∷ codes "X1" ∷ codes "0X" ∷ codes "01" ∷ codes "1X" ∷ codes "10" ∷ [] }
    ∷ []

-- Is a change among those of a row?
abbrev pub has : List ℕ → Row → Bool
has change row = list_any (bytes_eq change) row.changes

-- The set of the changes of a row.
abbrev pub set_of : Row → EdgeSet
set_of row =
    record {
      tr01 = has (codes "01") row;
      tr10 = has (codes "10") row;
      tr0x = has (codes "0X") row;
      trx1 = has (codes "X1") row;
      tr1x = has (codes "1X") row;
      trx0 = has (codes "X0") row;
    }

-- The set that a symbol stands for. None where the table has no row of it.
abbrev pub edges_of : ℕ → Option EdgeSet
edges_of symbol = option_map set_of (find (λ row. bytes_eq row.symbol (symbol ∷ [])) edge_symbols)

-- Is the change between two of the levels X, 0 and 1 in a set?
abbrev pub has_change : EdgeSet → Level → Level → Bool
has_change edges Zero One = edges.tr01
has_change edges One Zero = edges.tr10
has_change edges Zero X = edges.tr0x
has_change edges X One = edges.trx1
has_change edges One X = edges.tr1x
has_change edges X Zero = edges.trx0
has_change edges _ _ = false

-- Is the change between two levels in a set? Both are taken without their strengths, as X, 0 or 1 (To_X01).
abbrev pub holds : EdgeSet → Level → Level → Bool
holds edges old new = has_change edges (entry x01_table old) (entry x01_table new)
