use Rattle.std.proofs.Common.{refl}
use Rattle.vital_shapes.specs.Expressions.{items_within}
use Rattle.vital_shapes.specs.Statements.{statements_within, concs_within}
use Rattle.vital_shapes.proofs.Lists.{more_take}
use Rattle.vital_shapes.proofs.Steps.{placed, token_first}
use Rattle.vital_shapes.proofs.Takes.{followed}
use Rattle.vital_shapes.proofs.Along.{led}
use Rattle.vital_shapes.proofs.Deriving.{taken_all, taken_within}
use Rattle.vital_shapes.proofs.Identifiers.{identifier_takes, identifiers_take, written_takes, closing_takes}
use Rattle.vital_shapes.proofs.Expressions.{direction_takes, sign_takes, selected_takes, ticked_takes, suffixes_take, reference_takes, primary_takes, factor_takes, more_factors_take, term_takes, more_terms_take, simple_takes, after_sum_takes, relation_takes, after_relation_takes, expr_takes, value_or_range_takes, actual_takes, association_takes, one_item_takes}
use Rattle.vital_shapes.proofs.Outermost.{items_within_take, items_take, expression_takes, name_takes, suffix_list_takes, names_take, optional_value_takes}
use Rattle.vital_shapes.proofs.Declarations.{bounds_take, sub_takes, iface_class_takes, mode_takes, iface_takes, any_more_ifaces_take, interfaces_take, designator_takes, entity_class_takes, attribute_takes, alias_subtype_takes, decl_takes, declarations_take}
use Rattle.vital_shapes.proofs.Concurrent.{sensitivity_takes, process_takes, map_items_take, instance_takes, unlabelled_takes, labelled_takes, after_identifier_takes, conc_takes, concs_within_take, concs_take}
use Rattle.vital_shapes.proofs.Statements.{after_name_takes, otherwise_takes, any_more_branches_take, statement_takes, statements_within_take, statements_take}
use Rattle.vital_shapes.proofs.Units.{entity_statements_take, entity_takes, arch_takes, pack_takes, config_takes, file_units_take}
use Rattle.vital_shapes.proofs.Rules as rules
use Rattle.vital_shapes.proofs.laws.rules_are_taken.Goals as goal

pub returns-clause-names : goal.returns-clause-names
returns-clause-names c = record {
  of_id = taken_all (λ o n ts. identifier_takes);
  of_ids = taken_all (λ o n ts. identifiers_take);
  of_more_ids = λ found. taken_all (λ o n ts. more_take 1 found rules.more_ids_is (λ us. identifier_takes));
  of_optional_id = taken_all (λ o n ts. closing_takes);
  of_name = taken_all (λ o n ts. name_takes);
  of_names = taken_all (λ o n ts. names_take);
  of_more_names = λ found. taken_all (λ o n ts. more_take 2 found rules.more_names_is (λ us. name_takes));
  of_suffixes = taken_all (λ o n ts. suffix_list_takes);
}

pub returns-clause-expressions : goal.returns-clause-expressions
returns-clause-expressions c = record {
  of_dir = taken_all (λ o n ts. direction_takes);
  of_sign = taken_all (λ o n ts. sign_takes);
  of_expr = taken_all (λ o n ts. expression_takes);
  of_items = taken_all (λ o n ts. items_take);
  of_default = taken_all (λ o n ts. optional_value_takes 14 rules.default_is);
  of_delay = taken_all (λ o n ts. optional_value_takes 35 rules.delay_is);
}

pub returns-clause-nested_items : goal.returns-clause-nested_items
returns-clause-nested_items c = record {
  of_name = taken_within (λ o n ts. reference_takes o n (items_within n) (items_within_take o n));
  of_suffixes = taken_within (λ o n ts. suffixes_take o n (items_within n) (items_within_take o n));
  of_selected = taken_within (λ o n ts. selected_takes o n (items_within n) (items_within_take o n));
  of_ticked = taken_within (λ o n ts. ticked_takes o n (items_within n) (items_within_take o n));
  of_items = taken_within (λ o n ts. items_within_take o n ts);
  of_more_items = λ found. taken_within (λ o n ts. more_take 52 found rules.more_items_is (λ us. one_item_takes o n (items_within n) (items_within_take o n)));
  of_item = taken_within (λ o n ts. one_item_takes o n (items_within n) (items_within_take o n));
  of_item_range = taken_within (λ o n ts. value_or_range_takes o n (items_within n) (items_within_take o n));
  of_item_actual = taken_within (λ o n ts. association_takes o n (items_within n) (items_within_take o n));
  of_actual = taken_within (λ o n ts. actual_takes o n (items_within n) (items_within_take o n));
}

pub returns-clause-nested_expressions : goal.returns-clause-nested_expressions
returns-clause-nested_expressions c = record {
  of_expr = taken_within (λ o n ts. expr_takes o n (items_within n) (items_within_take o n));
  of_expr_rest = taken_within (λ o n ts. placed refl (λ p here. followed (relation_takes o n (items_within n) (items_within_take o n))
      (λ first us w. after_relation_takes o n (items_within n) (items_within_take o n) p first here w)));
  of_more_ands = λ found. taken_within (λ o n ts. more_take 59 found rules.more_ands_is (λ us. relation_takes o n (items_within n) (items_within_take o n)));
  of_more_ors = λ found. taken_within (λ o n ts. more_take 60 found rules.more_ors_is (λ us. relation_takes o n (items_within n) (items_within_take o n)));
  of_more_xors = λ found. taken_within (λ o n ts. more_take 61 found rules.more_xors_is (λ us. relation_takes o n (items_within n) (items_within_take o n)));
  of_more_xnors = λ found. taken_within (λ o n ts. more_take 62 found rules.more_xnors_is (λ us. relation_takes o n (items_within n) (items_within_take o n)));
  of_rel = taken_within (λ o n ts. relation_takes o n (items_within n) (items_within_take o n));
  of_rel_rest = taken_within (λ o n ts. placed refl (λ p here. followed (simple_takes o n (items_within n) (items_within_take o n))
      (λ first us w. after_sum_takes o n (items_within n) (items_within_take o n) p first here w)));
  of_sum = taken_within (λ o n ts. simple_takes o n (items_within n) (items_within_take o n));
  of_more_terms = taken_within (λ o n ts. more_terms_take o n (items_within n) (items_within_take o n));
  of_term = taken_within (λ o n ts. term_takes o n (items_within n) (items_within_take o n));
  of_more_factors = taken_within (λ o n ts. more_factors_take o n (items_within n) (items_within_take o n));
  of_factor = taken_within (λ o n ts. factor_takes o n (items_within n) (items_within_take o n));
  of_prim = taken_within (λ o n ts. primary_takes o n (items_within n) (items_within_take o n));
}

pub returns-clause-interfaces : goal.returns-clause-interfaces
returns-clause-interfaces c = record {
  of_range = taken_all (λ o n ts. bounds_take);
  of_sub = taken_all (λ o n ts. sub_takes);
  of_iface_class = taken_all (λ o n ts. iface_class_takes);
  of_mode = taken_all (λ o n ts. mode_takes);
  of_bus = taken_all (λ o n ts. written_takes 13 rules.bus_is);
  of_iface = taken_all (λ o n ts. iface_takes);
  of_more_ifaces = λ found. taken_all (λ o n ts. any_more_ifaces_take found);
  of_generics = taken_all (λ o n ts. interfaces_take 7 rules.generics_is);
  of_ports = taken_all (λ o n ts. interfaces_take 8 rules.ports_is);
}

pub returns-clause-declarations : goal.returns-clause-declarations
returns-clause-declarations c = record {
  of_attribute_rest = taken_all (λ o n ts. attribute_takes);
  of_designator = taken_all (λ o n ts. designator_takes);
  of_class = taken_all (λ o n ts. entity_class_takes);
  of_alias_sub = taken_all (λ o n ts. alias_subtype_takes);
  of_optional_is = taken_all (λ o n ts. written_takes 30 rules.optional_is_is);
  of_decl = taken_all (λ o n ts. decl_takes);
  of_decls = taken_all (λ o n ts. declarations_take);
}

pub returns-clause-statements : goal.returns-clause-statements
returns-clause-statements c = record {
  of_seqs = taken_all (λ o n ts. statements_take);
  of_seq_end = taken_all (λ o n ts. placed refl (λ p here. followed name_takes (λ target us w. after_name_takes p target here w)));
  of_sensitivity = taken_all (λ o n ts. sensitivity_takes);
  of_process = taken_all (λ o n ts. process_takes);
  of_generic_map = taken_all (λ o n ts. map_items_take 38 rules.generic_map_is);
  of_port_map = taken_all (λ o n ts. map_items_take 39 rules.port_map_is);
  of_maps = λ label. taken_all (λ o n ts. instance_takes label);
  of_conc_end = taken_all (λ o n ts. placed refl (λ p here. followed identifier_takes (λ first us x. unlabelled_takes p first here x)));
  of_concs = taken_all (λ o n ts. concs_take);
}

pub returns-clause-nested_statements : goal.returns-clause-nested_statements
returns-clause-nested_statements c = record {
  of_seqs = taken_within (λ o n ts. statements_within_take o n ts);
  of_seq = taken_within (λ o n ts. statement_takes o n (statements_within n) (statements_within_take o n));
  of_elsifs = λ found. taken_within (λ o n ts. any_more_branches_take o n (statements_within n) (statements_within_take o n) found);
  of_else_part = taken_within (λ o n ts. otherwise_takes o n (statements_within n) (statements_within_take o n));
  of_concs = taken_within (λ o n ts. concs_within_take o n ts);
  of_conc = taken_within (λ o n ts. conc_takes o n (concs_within n) (concs_within_take o n));
  of_conc_rest = taken_within (λ o n ts. placed refl (λ p here. after_identifier_takes o n (concs_within n) (concs_within_take o n) p here));
  of_labelled = taken_within (λ o n ts. placed refl (λ p here. followed identifier_takes (λ label us x. token_first (λ ws a.
      labelled_takes o n (concs_within n) (concs_within_take o n) p label here (led x.inside a)))));
}

pub returns-clause-units : goal.returns-clause-units
returns-clause-units c = record {
  of_entity_statements = taken_all (λ o n ts. entity_statements_take);
  of_entity = taken_all (λ o n ts. entity_takes);
  of_arch = taken_all (λ o n ts. arch_takes);
  of_pack = taken_all (λ o n ts. pack_takes);
  of_config = taken_all (λ o n ts. config_takes);
  of_entity_word = taken_all (λ o n ts. written_takes 6 rules.entity_word_is);
  of_arch_word = taken_all (λ o n ts. written_takes 19 rules.arch_word_is);
  of_pack_word = taken_all (λ o n ts. written_takes 21 rules.pack_word_is);
  of_config_word = taken_all (λ o n ts. written_takes 23 rules.config_word_is);
  of_file = taken_all (λ o n ts. file_units_take);
}
