use Rattle.std.proofs.Common.{sym}
use Rattle.vital_library.specs.Constants.{constants_of, has_name}
use Rattle.vital_names.specs.Meanings.{constants}
use Rattle.vital_names.proofs.ConstantLemmas.{before-past, before-there, none-before}
use Rattle.vital_names.proofs.library_names.LibraryNames.constant_before.Goals as goal

pub returns-then-constant-number : goal.returns-then-constant-number
returns-then-constant-number c = sym (before-there (has_name c.args.name.now) c.args.number (constants_of c.args.self.now) c.in-Some.constant.number c.in-Some.constant.object.now c.if-constant-number.true (sym c.in-Some.ensures))

pub returns-else-constant-number : goal.returns-else-constant-number
returns-else-constant-number c = sym (before-past (has_name c.args.name.now) c.args.number (constants_of c.args.self.now) c.in-Some.constant.number c.in-Some.constant.object.now c.if-constant-number.false (sym c.in-Some.ensures))

pub returns-in-None : goal.returns-in-None
returns-in-None c = sym (none-before (λ o. has_name c.args.name.now o.1) c.args.number (constants c.args.self.now) (sym c.in-None.ensures))
