-- The alternatives of each rule of the grammar.
use Rattle.std.proofs.Common.{◌≡◌, Some, slice_get, refl}
use Rattle.vital_grammar.specs.Grammar.{grammar}
use Rattle.vital_grammar.specs.UnitRules.{unit_rules, file_rule, more_ids_rule, more_names_rule, optional_id_rule, entity_rule, entity_statements_rule, entity_word_rule, generics_rule, ports_rule, more_ifaces_rule, iface_rule, iface_class_rule, mode_rule, bus_rule, default_rule, sub_rule, range_rule, dir_rule, arch_rule, arch_word_rule, pack_rule, pack_word_rule, config_rule, config_word_rule}
use Rattle.vital_grammar.specs.DeclarationRules.{declaration_rules, decls_rule, decl_rule, attribute_rest_rule, designator_rule, class_rule, alias_sub_rule, optional_is_rule}
use Rattle.vital_grammar.specs.StatementRules.{statement_rules, concs_rule, conc_rule, conc_rest_rule, conc_end_rule, delay_rule, labelled_rule, maps_rule, generic_map_rule, port_map_rule, process_rule, sensitivity_rule, seqs_rule, seq_rule, seq_end_rule, elsifs_rule, else_part_rule}
use Rattle.vital_grammar.specs.ExpressionRules.{expression_rules, name_rule, suffixes_rule, selected_rule, ticked_rule, items_rule, more_items_rule, item_rule, item_range_rule, item_actual_rule, actual_rule, expr_rule, expr_rest_rule, more_ands_rule, more_ors_rule, more_xors_rule, more_xnors_rule, rel_rule, rel_rest_rule, sum_rule, sign_rule, more_terms_rule, term_rule, more_factors_rule, factor_rule, prim_rule, id_rule}

pub file_is : slice_get grammar 0 ≡ Some file_rule
unfolding unit_rules declaration_rules statement_rules expression_rules
file_is = refl

pub more_ids_is : slice_get grammar 1 ≡ Some more_ids_rule
unfolding unit_rules declaration_rules statement_rules expression_rules
more_ids_is = refl

pub more_names_is : slice_get grammar 2 ≡ Some more_names_rule
unfolding unit_rules declaration_rules statement_rules expression_rules
more_names_is = refl

pub optional_id_is : slice_get grammar 3 ≡ Some optional_id_rule
unfolding unit_rules declaration_rules statement_rules expression_rules
optional_id_is = refl

pub entity_is : slice_get grammar 4 ≡ Some entity_rule
unfolding unit_rules declaration_rules statement_rules expression_rules
entity_is = refl

pub entity_statements_is : slice_get grammar 5 ≡ Some entity_statements_rule
unfolding unit_rules declaration_rules statement_rules expression_rules
entity_statements_is = refl

pub entity_word_is : slice_get grammar 6 ≡ Some entity_word_rule
unfolding unit_rules declaration_rules statement_rules expression_rules
entity_word_is = refl

pub generics_is : slice_get grammar 7 ≡ Some generics_rule
unfolding unit_rules declaration_rules statement_rules expression_rules
generics_is = refl

pub ports_is : slice_get grammar 8 ≡ Some ports_rule
unfolding unit_rules declaration_rules statement_rules expression_rules
ports_is = refl

pub more_ifaces_is : slice_get grammar 9 ≡ Some more_ifaces_rule
unfolding unit_rules declaration_rules statement_rules expression_rules
more_ifaces_is = refl

pub iface_is : slice_get grammar 10 ≡ Some iface_rule
unfolding unit_rules declaration_rules statement_rules expression_rules
iface_is = refl

pub iface_class_is : slice_get grammar 11 ≡ Some iface_class_rule
unfolding unit_rules declaration_rules statement_rules expression_rules
iface_class_is = refl

pub mode_is : slice_get grammar 12 ≡ Some mode_rule
unfolding unit_rules declaration_rules statement_rules expression_rules
mode_is = refl

pub bus_is : slice_get grammar 13 ≡ Some bus_rule
unfolding unit_rules declaration_rules statement_rules expression_rules
bus_is = refl

pub default_is : slice_get grammar 14 ≡ Some default_rule
unfolding unit_rules declaration_rules statement_rules expression_rules
default_is = refl

pub sub_is : slice_get grammar 15 ≡ Some sub_rule
unfolding unit_rules declaration_rules statement_rules expression_rules
sub_is = refl

pub range_is : slice_get grammar 16 ≡ Some range_rule
unfolding unit_rules declaration_rules statement_rules expression_rules
range_is = refl

pub dir_is : slice_get grammar 17 ≡ Some dir_rule
unfolding unit_rules declaration_rules statement_rules expression_rules
dir_is = refl

pub arch_is : slice_get grammar 18 ≡ Some arch_rule
unfolding unit_rules declaration_rules statement_rules expression_rules
arch_is = refl

pub arch_word_is : slice_get grammar 19 ≡ Some arch_word_rule
unfolding unit_rules declaration_rules statement_rules expression_rules
arch_word_is = refl

pub pack_is : slice_get grammar 20 ≡ Some pack_rule
unfolding unit_rules declaration_rules statement_rules expression_rules
pack_is = refl

pub pack_word_is : slice_get grammar 21 ≡ Some pack_word_rule
unfolding unit_rules declaration_rules statement_rules expression_rules
pack_word_is = refl

pub config_is : slice_get grammar 22 ≡ Some config_rule
unfolding unit_rules declaration_rules statement_rules expression_rules
config_is = refl

pub config_word_is : slice_get grammar 23 ≡ Some config_word_rule
unfolding unit_rules declaration_rules statement_rules expression_rules
config_word_is = refl

pub decls_is : slice_get grammar 24 ≡ Some decls_rule
unfolding unit_rules declaration_rules statement_rules expression_rules
decls_is = refl

pub decl_is : slice_get grammar 25 ≡ Some decl_rule
unfolding unit_rules declaration_rules statement_rules expression_rules
decl_is = refl

pub attribute_rest_is : slice_get grammar 26 ≡ Some attribute_rest_rule
unfolding unit_rules declaration_rules statement_rules expression_rules
attribute_rest_is = refl

pub designator_is : slice_get grammar 27 ≡ Some designator_rule
unfolding unit_rules declaration_rules statement_rules expression_rules
designator_is = refl

pub class_is : slice_get grammar 28 ≡ Some class_rule
unfolding unit_rules declaration_rules statement_rules expression_rules
class_is = refl

pub alias_sub_is : slice_get grammar 29 ≡ Some alias_sub_rule
unfolding unit_rules declaration_rules statement_rules expression_rules
alias_sub_is = refl

pub optional_is_is : slice_get grammar 30 ≡ Some optional_is_rule
unfolding unit_rules declaration_rules statement_rules expression_rules
optional_is_is = refl

pub concs_is : slice_get grammar 31 ≡ Some concs_rule
unfolding unit_rules declaration_rules statement_rules expression_rules
concs_is = refl

pub conc_is : slice_get grammar 32 ≡ Some conc_rule
unfolding unit_rules declaration_rules statement_rules expression_rules
conc_is = refl

pub conc_rest_is : slice_get grammar 33 ≡ Some conc_rest_rule
unfolding unit_rules declaration_rules statement_rules expression_rules
conc_rest_is = refl

pub conc_end_is : slice_get grammar 34 ≡ Some conc_end_rule
unfolding unit_rules declaration_rules statement_rules expression_rules
conc_end_is = refl

pub delay_is : slice_get grammar 35 ≡ Some delay_rule
unfolding unit_rules declaration_rules statement_rules expression_rules
delay_is = refl

pub labelled_is : slice_get grammar 36 ≡ Some labelled_rule
unfolding unit_rules declaration_rules statement_rules expression_rules
labelled_is = refl

pub maps_is : slice_get grammar 37 ≡ Some maps_rule
unfolding unit_rules declaration_rules statement_rules expression_rules
maps_is = refl

pub generic_map_is : slice_get grammar 38 ≡ Some generic_map_rule
unfolding unit_rules declaration_rules statement_rules expression_rules
generic_map_is = refl

pub port_map_is : slice_get grammar 39 ≡ Some port_map_rule
unfolding unit_rules declaration_rules statement_rules expression_rules
port_map_is = refl

pub process_is : slice_get grammar 40 ≡ Some process_rule
unfolding unit_rules declaration_rules statement_rules expression_rules
process_is = refl

pub sensitivity_is : slice_get grammar 41 ≡ Some sensitivity_rule
unfolding unit_rules declaration_rules statement_rules expression_rules
sensitivity_is = refl

pub seqs_is : slice_get grammar 42 ≡ Some seqs_rule
unfolding unit_rules declaration_rules statement_rules expression_rules
seqs_is = refl

pub seq_is : slice_get grammar 43 ≡ Some seq_rule
unfolding unit_rules declaration_rules statement_rules expression_rules
seq_is = refl

pub seq_end_is : slice_get grammar 44 ≡ Some seq_end_rule
unfolding unit_rules declaration_rules statement_rules expression_rules
seq_end_is = refl

pub elsifs_is : slice_get grammar 45 ≡ Some elsifs_rule
unfolding unit_rules declaration_rules statement_rules expression_rules
elsifs_is = refl

pub else_part_is : slice_get grammar 46 ≡ Some else_part_rule
unfolding unit_rules declaration_rules statement_rules expression_rules
else_part_is = refl

pub name_is : slice_get grammar 47 ≡ Some name_rule
unfolding unit_rules declaration_rules statement_rules expression_rules
name_is = refl

pub suffixes_is : slice_get grammar 48 ≡ Some suffixes_rule
unfolding unit_rules declaration_rules statement_rules expression_rules
suffixes_is = refl

pub selected_is : slice_get grammar 49 ≡ Some selected_rule
unfolding unit_rules declaration_rules statement_rules expression_rules
selected_is = refl

pub ticked_is : slice_get grammar 50 ≡ Some ticked_rule
unfolding unit_rules declaration_rules statement_rules expression_rules
ticked_is = refl

pub items_is : slice_get grammar 51 ≡ Some items_rule
unfolding unit_rules declaration_rules statement_rules expression_rules
items_is = refl

pub more_items_is : slice_get grammar 52 ≡ Some more_items_rule
unfolding unit_rules declaration_rules statement_rules expression_rules
more_items_is = refl

pub item_is : slice_get grammar 53 ≡ Some item_rule
unfolding unit_rules declaration_rules statement_rules expression_rules
item_is = refl

pub item_range_is : slice_get grammar 54 ≡ Some item_range_rule
unfolding unit_rules declaration_rules statement_rules expression_rules
item_range_is = refl

pub item_actual_is : slice_get grammar 55 ≡ Some item_actual_rule
unfolding unit_rules declaration_rules statement_rules expression_rules
item_actual_is = refl

pub actual_is : slice_get grammar 56 ≡ Some actual_rule
unfolding unit_rules declaration_rules statement_rules expression_rules
actual_is = refl

pub expr_is : slice_get grammar 57 ≡ Some expr_rule
unfolding unit_rules declaration_rules statement_rules expression_rules
expr_is = refl

pub expr_rest_is : slice_get grammar 58 ≡ Some expr_rest_rule
unfolding unit_rules declaration_rules statement_rules expression_rules
expr_rest_is = refl

pub more_ands_is : slice_get grammar 59 ≡ Some more_ands_rule
unfolding unit_rules declaration_rules statement_rules expression_rules
more_ands_is = refl

pub more_ors_is : slice_get grammar 60 ≡ Some more_ors_rule
unfolding unit_rules declaration_rules statement_rules expression_rules
more_ors_is = refl

pub more_xors_is : slice_get grammar 61 ≡ Some more_xors_rule
unfolding unit_rules declaration_rules statement_rules expression_rules
more_xors_is = refl

pub more_xnors_is : slice_get grammar 62 ≡ Some more_xnors_rule
unfolding unit_rules declaration_rules statement_rules expression_rules
more_xnors_is = refl

pub rel_is : slice_get grammar 63 ≡ Some rel_rule
unfolding unit_rules declaration_rules statement_rules expression_rules
rel_is = refl

pub rel_rest_is : slice_get grammar 64 ≡ Some rel_rest_rule
unfolding unit_rules declaration_rules statement_rules expression_rules
rel_rest_is = refl

pub sum_is : slice_get grammar 65 ≡ Some sum_rule
unfolding unit_rules declaration_rules statement_rules expression_rules
sum_is = refl

pub sign_is : slice_get grammar 66 ≡ Some sign_rule
unfolding unit_rules declaration_rules statement_rules expression_rules
sign_is = refl

pub more_terms_is : slice_get grammar 67 ≡ Some more_terms_rule
unfolding unit_rules declaration_rules statement_rules expression_rules
more_terms_is = refl

pub term_is : slice_get grammar 68 ≡ Some term_rule
unfolding unit_rules declaration_rules statement_rules expression_rules
term_is = refl

pub more_factors_is : slice_get grammar 69 ≡ Some more_factors_rule
unfolding unit_rules declaration_rules statement_rules expression_rules
more_factors_is = refl

pub factor_is : slice_get grammar 70 ≡ Some factor_rule
unfolding unit_rules declaration_rules statement_rules expression_rules
factor_is = refl

pub prim_is : slice_get grammar 71 ≡ Some prim_rule
unfolding unit_rules declaration_rules statement_rules expression_rules
prim_is = refl

pub id_is : slice_get grammar 72 ≡ Some id_rule
unfolding unit_rules declaration_rules statement_rules expression_rules
id_is = refl
