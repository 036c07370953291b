-- Borrowed positions and standings as what they are.
use Rattle.std.specs.Option.{option_copied}
use Rattle.vital_declarations.specs.Operands as kinds
use Rattle.vital_names.specs.Sites as sites
use Rattle.vital_operands.specs.declared.position.Position.{Position as Position'}
use Rattle.vital_operands.specs.declared.position.Position.TheVariants as borrowed
use Rattle.vital_operands.specs.declared.position.Standing.{Standing as Standing'}
use Rattle.vital_operands.specs.declared.position.Standing.TheVariants as stands
use Rattle.vital_operands.specs.Positions.{Position, InStatement, InValue, InInterface, InPackage, Standing, Operand, Constant, Word, Nothing}

abbrev pub lent : Position' → Position
lent (borrowed.Statement names unit process) = InStatement names.now unit (option_copied process)
lent (borrowed.Value names site) = InValue names.now (sites.lent site)
lent (borrowed.Interface names site) = InInterface names.now (sites.lent site)
lent (borrowed.Package library number) = InPackage library.now number

abbrev pub lent_standing : Standing' → Standing
lent_standing (stands.Operand k) = Operand (kinds.lent k)
lent_standing (stands.Constant c) = Constant c.number c.object.now
lent_standing (stands.Word w) = Word w
lent_standing stands.Nothing = Nothing
