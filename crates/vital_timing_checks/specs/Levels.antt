-- The levels of signals as checks see them (IEEE 1164-1993, package body std_logic_1164).
use Rattle.std.specs.Prelude.{Bool, not, ◌==◌}
use Rattle.vital_logic.specs.declared.level.Level.{Level}
use Rattle.vital_logic.specs.Levels.{byte_of}
use Rattle.vital_logic.specs.Tables.{entry, x01_table, x01z_table}

-- A level without its strength, as X, 0 or 1 (To_X01).
abbrev pub x01 : Level → Level
x01 level = entry x01_table level

-- A level without its strength, as X, 0, 1 or Z (To_X01Z).
abbrev pub x01z : Level → Level
x01z level = entry x01z_table level

-- Are two levels unequal?
abbrev pub differ : Level → Level → Bool
differ a b = not (byte_of a == byte_of b)
