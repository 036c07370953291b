-- What comes of opening a unit.
use Rattle.std.proofs.Common.{◌≡◌, ℕ, List, [], refl, sym, ap, ◌∙◌}
use Rattle.std.specs.Prelude.{Option, Some, None, Result, Ok, Err}
use Rattle.std.specs.Option.{option_map_or}
use Rattle.vital_nodes.specs.declared.unit.Role.{Role}
use Rattle.vital_nodes.specs.declared.unit.Role.TheVariants.{Lib, Net}
use Rattle.vital_nodes.specs.declared.unit.Units.{Units}
use Rattle.vital_instances.specs.declared.cell_fault.CellFault.{CellFault}
use Rattle.vital_instances.specs.Children.{Child}
use Rattle.vital_instances.specs.Contents.{children_at, contents, contents_as, contents_at, fault_in, or_none}
use Rattle.vital_instances.specs.Faults.{Fault, Cell}
use Rattle.vital_instances.specs.Instances.{opened, opened_as, unless_broken}
use Rattle.vital_instances.specs.Judges.{Judge}
use Rattle.vital_instances.specs.Units.{Unit, cell_of, unit_at}

-- contents with no fault, and with one
fault-none : (r : Result (List Child) Fault) → fault_in r ≡ None → r ≡ Ok (or_none r)
fault-none (Ok cs) is = refl
fault-none (Err f) is = cc

fault-some : (r : Result (List Child) Fault) (f : Fault) → fault_in r ≡ Some f → r ≡ Err f
fault-some (Ok cs) f is = cc
fault-some (Err g) f is = cc

-- ---- netlist units

contents-are : (files : List Units) (n : ℕ) (u : Unit) (role : Role) → unit_at files n ≡ Some u → u.role ≡ role → contents_at files n ≡ contents_as files u role
contents-are files n u role unit is =
    ap (λ (o : Option Unit). option_map_or (contents files) o (Ok [])) unit ∙ ap (contents_as files u) is

net-is : (judge : Judge) (files : List Units) (n : ℕ) (u : Unit) → unit_at files n ≡ Some u → u.role ≡ Net → opened judge files u ≡ contents_at files n
net-is judge files n u unit is = ap (opened_as judge files u) is ∙ sym (contents-are files n u Net unit is)

pub net-good : (judge : Judge) (files : List Units) (n : ℕ) (u : Unit) → unit_at files n ≡ Some u → u.role ≡ Net → fault_in (contents_at files n) ≡ None → opened judge files u ≡ Ok (children_at files n)
net-good judge files n u unit is none = net-is judge files n u unit is ∙ fault-none (contents_at files n) none

pub net-wrong : (judge : Judge) (files : List Units) (n : ℕ) (u : Unit) (f : Fault) → unit_at files n ≡ Some u → u.role ≡ Net → fault_in (contents_at files n) ≡ Some f → opened judge files u ≡ Err f
net-wrong judge files n u f unit is some = net-is judge files n u unit is ∙ fault-some (contents_at files n) f some

-- ---- cells

pub cell-good : (judge : Judge) (files : List Units) (n : ℕ) (u : Unit) → unit_at files n ≡ Some u → u.role ≡ Lib → judge (cell_of files u) ≡ None → opened judge files u ≡ Ok (children_at files n)
cell-good judge files n u unit is none =
    ap (opened_as judge files u) is ∙ ap unless_broken none ∙ sym (ap (λ r. Ok (or_none r)) (contents-are files n u Lib unit is))

pub cell-wrong : (judge : Judge) (files : List Units) (u : Unit) (f : CellFault) → u.role ≡ Lib → judge (cell_of files u) ≡ Some f → opened judge files u ≡ Err (Cell f)
cell-wrong judge files u f is some = ap (opened_as judge files u) is ∙ ap unless_broken some
