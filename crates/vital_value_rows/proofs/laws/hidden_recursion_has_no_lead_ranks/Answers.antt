use Rattle.std.proofs.Common.{◌≡◌, false, true, ◌&&◌, ltb, get_or, arith}
use Rattle.std.proofs.lemmas.Bool.{le-ltb, and_left, and_right}
use Rattle.vital_value_rows.proofs.laws.hidden_recursion_has_no_lead_ranks.Goals as goal

-- no rank is below itself
pub returns : goal.returns
returns c leads =
    let low = ltb (get_or leads 1 0) (get_or leads 0 0) in
    let same = ltb (get_or leads 0 0) (get_or leads 0 0) in
    let e : same ≡ false = le-ltb (get_or leads 0 0) (get_or leads 0 0) (omega arith) in
    let leads_back = and_right low (same && true) (and_left same true e) in
    and_left (low && (same && true) && true) true (and_left (low && (same && true)) true leads_back)
