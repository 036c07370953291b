use Rattle.std.proofs.Common.{◌≡◌, rules, sym, ◌∙◌, ap, arith}
use Rattle.std.specs.Prelude.{Some}
use Rattle.std.specs.Option.{option_and_then}
use Rattle.vital_nodes.specs.Bounds.{shown}
use Rattle.vital_declarations.specs.Numbers.{number, range_of}
use Rattle.vital_declarations.specs.Operands.{VectorOf, offset_in_type, variable_type}
use Rattle.vital_declarations.specs.Types.{type_of}
use Rattle.vital_declarations.proofs.RangeLemmas.{offset-in-word}
use Rattle.vital_declarations.proofs.alias.offset_in.Goals as goal

pub returns-in-Some-Vector : goal.returns-in-Some-Vector
returns-in-Some-Vector c =
    let r = range_of (shown c.in-Some-Vector.bounds) in
    let n = number c.args.index.now in
    let s = c.args.variable.now.parts.subtype in
    let got : variable_type s ≡ Some (VectorOf r) = first_of (search rules, grind arith) in
    c.offset.ensures
    ∙ offset-in-word (type_of s) r n got
    ∙ ap (option_and_then (λ t. offset_in_type t n)) (sym got)
