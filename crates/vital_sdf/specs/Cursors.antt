-- What a cursor has left to read.
use Rattle.std.specs.Prelude.{◌≤◌}
use Rattle.vital_lex.specs.TextPosition.{IsPosition}
use Rattle.vital_sdf.specs.Reading.{Input}
use Rattle.vital_sdf.specs.declared.cursor.Cursor.TheInside.{Inside}

abbrev pub input_of : Inside → Input
input_of c = record { tokens = c.tokens.now; text = c.text.now; file = c.file; divider = c.divider; power = c.power }

-- the position is one of the text, and a unit is at most 100 s
pub record IsReady (c : Inside) : Type 0 where
  pub position : IsPosition c.text.now c.position
  pub power : c.power ≤ 17
