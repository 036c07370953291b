-- The readers of the rules of the grammar, and what each of them takes: each rule stands in one of the lists of symbols below. Where
-- a rule is the rest of another one, its reader is told what was read before it, and stands here behind the reader of that.
use Rattle.std.specs.Prelude.{List, [], ◌∷◌}
use Rattle.vital_grammar.specs.RuleNumbers as s
use Rattle.vital_vhdl_lexemes.specs.declared.kinds.Kind.TheVariants as kind
use Rattle.vital_nodes.specs.declared.identifier.Identifier.{Identifier}
use Rattle.vital_nodes.specs.declared.expr.Expr.{Expr}
use Rattle.vital_nodes.specs.declared.expr.Item.{Item}
use Rattle.vital_nodes.specs.declared.expr.Reference.{Reference}
use Rattle.vital_nodes.specs.declared.decl.Iface.{Iface}
use Rattle.vital_nodes.specs.declared.stmt.Branch.{Branch}
use Rattle.vital_shapes.specs.Reading.{◌>>=◌, ◌>>◌, place, skip, identifier, identifiers, is_written, closing, after, more, many, more_lists}
use Rattle.vital_shapes.specs.Expressions.{direction, sign_before, items, expression, name, suffix_list, names, optional_value, items_within, selected, ticked, suffix, reference, primary, factor, next_factor, term, next_term, simple, after_sum, relation, after_relation, expr, value_or_range, actual, association, one_item}
use Rattle.vital_shapes.specs.Declarations.{bounds, sub, iface_class, mode, iface, interfaces, designator, entity_class, attribute, alias_subtype, decl, declarations}
use Rattle.vital_shapes.specs.Statements.{after_name, branch, otherwise, statement, statements_within, statements, sensitivity, process, map_items, instance, unlabelled, labelled, after_identifier, conc, concs_within, concs}
use Rattle.vital_shapes.specs.Shapes.{entity_statements, entity, arch, pack, config, file_units}
use Rattle.vital_shapes.specs.Taking.{TakesAll, TakesWithin}

pub record NamesTaken : Type 0 where
  pub of_id : TakesAll (s.id ∷ []) identifier
  pub of_ids : TakesAll (s.id ∷ s.more_ids ∷ []) identifiers
  pub of_more_ids : (found : List Identifier) → TakesAll (s.more_ids ∷ []) (more (λ _. after identifier) found)
  pub of_optional_id : TakesAll (s.optional_id ∷ []) closing
  pub of_name : TakesAll (s.name ∷ []) name
  pub of_names : TakesAll (s.name ∷ s.more_names ∷ []) names
  pub of_more_names : (found : List Reference) → TakesAll (s.more_names ∷ []) (more (λ _. after name) found)
  pub of_suffixes : TakesAll (s.suffixes ∷ []) suffix_list

pub record ExpressionsTaken : Type 0 where
  pub of_dir : TakesAll (s.dir ∷ []) direction
  pub of_sign : TakesAll (s.sign ∷ []) sign_before
  pub of_expr : TakesAll (s.expr ∷ []) expression
  pub of_items : TakesAll (s.items ∷ []) items
  pub of_default : TakesAll (s.default ∷ []) optional_value
  pub of_delay : TakesAll (s.delay ∷ []) optional_value

-- names and items, with so many levels of parentheses in them, or fewer
pub record NestedItemsTaken : Type 0 where
  pub of_name : TakesWithin (s.name ∷ []) (λ levels. reference (items_within levels))
  pub of_suffixes : TakesWithin (s.suffixes ∷ []) (λ levels. many (suffix (items_within levels)))
  pub of_selected : TakesWithin (s.word kind.Dot ∷ s.selected ∷ []) (λ levels. selected (items_within levels))
  pub of_ticked : TakesWithin (s.word kind.Tick ∷ s.ticked ∷ []) (λ levels. ticked (items_within levels))
  pub of_items : TakesWithin (s.items ∷ []) items_within
  pub of_more_items : (found : List Item) → TakesWithin (s.more_items ∷ []) (λ levels. more (λ _. after (one_item (items_within levels))) found)
  pub of_item : TakesWithin (s.item ∷ []) (λ levels. one_item (items_within levels))
  pub of_item_range : TakesWithin (s.expr ∷ s.item_range ∷ []) (λ levels. value_or_range (items_within levels))
  pub of_item_actual : TakesWithin (s.expr ∷ s.item_range ∷ s.item_actual ∷ []) (λ levels. association (items_within levels))
  pub of_actual : TakesWithin (s.actual ∷ []) (λ levels. actual (items_within levels))

-- the levels of expressions, with so many levels of parentheses in them, or fewer
pub record NestedExpressionsTaken : Type 0 where
  pub of_expr : TakesWithin (s.expr ∷ []) (λ levels. expr (items_within levels))
  pub of_expr_rest : TakesWithin (s.rel ∷ s.expr_rest ∷ [])
      (λ levels. place >>= λ p. relation (items_within levels) >>= λ first. after_relation (items_within levels) p first)
  pub of_more_ands : (found : List Expr) → TakesWithin (s.more_ands ∷ []) (λ levels. more (λ _. after (relation (items_within levels))) found)
  pub of_more_ors : (found : List Expr) → TakesWithin (s.more_ors ∷ []) (λ levels. more (λ _. after (relation (items_within levels))) found)
  pub of_more_xors : (found : List Expr) → TakesWithin (s.more_xors ∷ []) (λ levels. more (λ _. after (relation (items_within levels))) found)
  pub of_more_xnors : (found : List Expr) → TakesWithin (s.more_xnors ∷ []) (λ levels. more (λ _. after (relation (items_within levels))) found)
  pub of_rel : TakesWithin (s.rel ∷ []) (λ levels. relation (items_within levels))
  pub of_rel_rest : TakesWithin (s.sum ∷ s.rel_rest ∷ [])
      (λ levels. place >>= λ p. simple (items_within levels) >>= λ first. after_sum (items_within levels) p first)
  pub of_sum : TakesWithin (s.sum ∷ []) (λ levels. simple (items_within levels))
  pub of_more_terms : TakesWithin (s.more_terms ∷ []) (λ levels. many (next_term (items_within levels)))
  pub of_term : TakesWithin (s.term ∷ []) (λ levels. term (items_within levels))
  pub of_more_factors : TakesWithin (s.more_factors ∷ []) (λ levels. many (next_factor (items_within levels)))
  pub of_factor : TakesWithin (s.factor ∷ []) (λ levels. factor (items_within levels))
  pub of_prim : TakesWithin (s.prim ∷ []) (λ levels. primary (items_within levels))

pub record InterfacesTaken : Type 0 where
  pub of_range : TakesAll (s.range ∷ []) bounds
  pub of_sub : TakesAll (s.sub ∷ []) sub
  pub of_iface_class : TakesAll (s.iface_class ∷ []) iface_class
  pub of_mode : TakesAll (s.mode ∷ []) mode
  pub of_bus : TakesAll (s.bus ∷ []) is_written
  pub of_iface : TakesAll (s.iface ∷ []) iface
  pub of_more_ifaces : (found : List Iface) → TakesAll (s.more_ifaces ∷ []) (more_lists (λ _. after iface) found)
  pub of_generics : TakesAll (s.generics ∷ []) interfaces
  pub of_ports : TakesAll (s.ports ∷ []) interfaces

pub record DeclarationsTaken : Type 0 where
  pub of_attribute_rest : TakesAll (s.word kind.Attribute ∷ s.id ∷ s.attribute_rest ∷ []) attribute
  pub of_designator : TakesAll (s.designator ∷ []) designator
  pub of_class : TakesAll (s.class ∷ []) entity_class
  pub of_alias_sub : TakesAll (s.alias_sub ∷ []) alias_subtype
  pub of_optional_is : TakesAll (s.optional_is ∷ []) is_written
  pub of_decl : TakesAll (s.decl ∷ []) decl
  pub of_decls : TakesAll (s.decls ∷ []) declarations

pub record StatementsTaken : Type 0 where
  pub of_seqs : TakesAll (s.seqs ∷ []) statements
  pub of_seq_end : TakesAll (s.name ∷ s.seq_end ∷ []) (place >>= λ p. name >>= λ target. after_name p target)
  pub of_sensitivity : TakesAll (s.sensitivity ∷ []) sensitivity
  pub of_process : TakesAll (s.process ∷ []) process
  pub of_generic_map : TakesAll (s.generic_map ∷ []) map_items
  pub of_port_map : TakesAll (s.port_map ∷ []) map_items
  pub of_maps : (label : Identifier) → TakesAll (s.name ∷ s.maps ∷ s.word kind.Semicolon ∷ []) (instance label)
  pub of_conc_end : TakesAll (s.id ∷ s.suffixes ∷ s.conc_end ∷ []) (place >>= λ p. identifier >>= λ first. unlabelled p first)
  pub of_concs : TakesAll (s.concs ∷ []) concs

-- statements, with so many levels of `if` or of blocks in them, or fewer
pub record NestedStatementsTaken : Type 0 where
  pub of_seqs : TakesWithin (s.seqs ∷ []) statements_within
  pub of_seq : TakesWithin (s.seq ∷ []) (λ levels. statement (statements_within levels))
  pub of_elsifs : (found : List Branch) → TakesWithin (s.elsifs ∷ []) (λ levels. more (λ _. after (branch (statements_within levels))) found)
  pub of_else_part : TakesWithin (s.else_part ∷ []) (λ levels. otherwise (statements_within levels))
  pub of_concs : TakesWithin (s.concs ∷ []) concs_within
  pub of_conc : TakesWithin (s.conc ∷ []) (λ levels. conc (concs_within levels))
  pub of_conc_rest : TakesWithin (s.id ∷ s.conc_rest ∷ []) (λ levels. place >>= λ p. after_identifier (concs_within levels) p)
  pub of_labelled : TakesWithin (s.id ∷ s.word kind.Colon ∷ s.labelled ∷ [])
      (λ levels. place >>= λ p. identifier >>= λ label. skip >> labelled (concs_within levels) p label)

pub record UnitsTaken : Type 0 where
  pub of_entity_statements : TakesAll (s.entity_statements ∷ []) entity_statements
  pub of_entity : TakesAll (s.entity ∷ []) entity
  pub of_arch : TakesAll (s.arch ∷ []) arch
  pub of_pack : TakesAll (s.pack ∷ []) pack
  pub of_config : TakesAll (s.config ∷ []) config
  pub of_entity_word : TakesAll (s.entity_word ∷ []) is_written
  pub of_arch_word : TakesAll (s.arch_word ∷ []) is_written
  pub of_pack_word : TakesAll (s.pack_word ∷ []) is_written
  pub of_config_word : TakesAll (s.config_word ∷ []) is_written
  pub of_file : TakesAll (s.file ∷ []) file_units
