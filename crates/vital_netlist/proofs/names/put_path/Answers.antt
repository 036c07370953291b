use Rattle.std.proofs.Common.{ℕ, List}
use Rattle.std.specs.Borrow.{Bor}
use Rattle.vital_netlist.proofs.NameLemmas.{path_behind}
use Rattle.vital_netlist.proofs.names.put_path.Goals as goal

pub returns-in_ok-extend_from_slice-in-Some : goal.returns-in_ok-extend_from_slice-in-Some
returns-in_ok-extend_from_slice-in-Some c =
    path_behind (λ (l : Bor (List ℕ)). l.now) c.args.text.now.items c.args.labels.now c.in-Some.others.now c.in-Some.last.now c.put_dots.new.text.items c.extend_from_slice.new.self.items
    c.in-Some.ensures.cases.0 c.in_ok-put_dots-in-Some.ensures c.in_ok-extend_from_slice-in-Some.ensures.items
