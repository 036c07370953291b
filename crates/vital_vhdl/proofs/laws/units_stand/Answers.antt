use Rattle.std.proofs.Common.{arith}
use Rattle.vital_vhdl.proofs.Standing.{in_file, in_order, lexes}
use Rattle.vital_vhdl.proofs.laws.units_stand.Goals as goal

pub returns-clause-in_file : goal.returns-clause-in_file
returns-clause-in_file c file role text room read h =
    in_file file role text room read h (c.nodes_stand.ensures.units_at_tokens file text h.tokens h.tree h.units h.derived h.shaped)

pub returns-clause-in_order : goal.returns-clause-in_order
returns-clause-in_order c file role text room read h =
    in_order file role text room read h
    (c.nodes_stand.ensures.units_in_order file text h.tokens h.tree h.units h.derived h.shaped
    (λ i j d below inside. let before = c.tokens_rise.ensures.rise text h.tokens (lexes text room h.tokens h.lexed) i j d below inside in omega (arith, before)))
