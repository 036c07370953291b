-- The three tables of the grammar, evaluated.
use Rattle.std.proofs.Common.{refl}
use Rattle.std.specs.Prelude.{IsTrue}
use Rattle.vital_ll.specs.Leads.{has_no_left_recursion}
use Rattle.vital_ll.specs.Masks.{are_closed, decides}
use Rattle.vital_ll.specs.Ranks.{are_ranked}
use Rattle.vital_sdf_grammar.specs.CheckRules.{check_rules}
use Rattle.vital_sdf_grammar.specs.DelayRules.{delay_rules}
use Rattle.vital_sdf_grammar.specs.FileRules.{file_rules}
use Rattle.vital_sdf_grammar.specs.Grammar.{grammar}
use Rattle.vital_sdf_grammar.specs.Tables.{masks, ranks, leads}

-- the masks are closed under the rules
pub masks_closed : IsTrue (are_closed grammar masks)
unfolding file_rules delay_rules check_rules
masks_closed = refl

-- the masks of the alternatives of each rule do not meet
pub masks_apart : IsTrue (decides grammar masks)
unfolding file_rules delay_rules check_rules
masks_apart = refl

-- each rule has an alternative that names rules of lower rank alone
pub ranks_lower : IsTrue (are_ranked grammar ranks)
unfolding file_rules delay_rules check_rules
ranks_lower = refl

-- each alternative can lead with rules of lower rank alone
pub leads_lower : IsTrue (has_no_left_recursion grammar masks leads)
unfolding file_rules delay_rules check_rules
leads_lower = refl
