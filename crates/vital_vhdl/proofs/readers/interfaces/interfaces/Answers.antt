use Rattle.std.proofs.Common.{◌≡◌, Some, ◌∙◌, rules}
use Rattle.vital_shapes.specs.Declarations.{iface, interfaces}
use Rattle.vital_vhdl.proofs.Turns.{added_to_none}
use Rattle.vital_vhdl.proofs.readers.interfaces.interfaces.Goals as goal

pub returns-in_err-found : goal.returns-in_err-found
unfolding interfaces
returns-in_err-found c =
    let first : iface c.skip-2.new.self ≡ Some (c.in_ok-first.first, c.iface.new.cursor) = added_to_none _ _ _ _ (c.new-3.ensures ∙ c.new-2.ensures.items) c.in_ok-first.ensures in
    search rules
