use Rattle.std.proofs.Common.{◌≡◌, List, Option, Some, None, Err, subst}
use Rattle.std.specs.Option.{option_map}
use Rattle.vital_nodes.specs.declared.unit.Unit.{Unit as Unit'}
use Rattle.vital_shapes.specs.Reading.{Input}
use Rattle.vital_shapes.specs.Shapes.{file_units}
use Rattle.vital_vhdl.specs.Reads.{Reads}
use Rattle.vital_vhdl.specs.declared.shape_error.ShapeError.{ShapeError}
use Rattle.vital_vhdl.proofs.read.shaped.Goals as goal

-- what is not read has no shape
none_read : {A B : Type 0} (r : Option (A × B)) (a : A) → r ≡ None → option_map (λ read. read.0) r ≡ Some a → ⊥
none_read None a is shaped = let none : None ≡ Some a = shaped in cc
none_read (Some read) a is shaped = cc

pub unreachable-requires : goal.unreachable-requires
unreachable-requires c =
    let input : Input = record { steps = c.args.steps.now; tokens = c.args.tokens.now; text = c.args.text.now; file = c.args.file } in
    let found = c.file_is_read.ensures.shaped c.args.file c.args.text.now c.args.tokens.now c.args.steps.now c.requires.tree in
    let answered : Reads (file_units c.new-cursor.result) (Err c.in-Err-NoIdentifier.field-0) c.file_units.new.cursor = c.in-Err-NoIdentifier.ensures in
    let none : file_units c.new-cursor.result ≡ None =
    subst (λ (e : ShapeError). Reads (file_units c.new-cursor.result) (Err e) c.file_units.new.cursor) c.in-Err-NoIdentifier.field-0-is answered in
    none_read (file_units input) found.0 (subst (λ (i : Input). file_units i ≡ None) c.new-cursor.ensures none) found.1
