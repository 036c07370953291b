use Rattle.std.proofs.Common.{sym, ◌∙◌, ap, map}
use Rattle.std.specs.Str.{bytes_eq}
use Rattle.vital_stim.specs.Names.{texts, with_name}
use Rattle.vital_stim.proofs.Positions.{found, missing, position_or_len-map, list_any-map}
use Rattle.vital_stim.proofs.NameLemmas.{texts-insert}
use Rattle.vital_stim.proofs.known_ports.place_of.Goals as goal

pub returns-in-Some-clause-names : goal.returns-in-Some-clause-names
returns-in-Some-clause-names c =
    let at = found (λ key. bytes_eq c.args.name.now key.items) c.args.names.now.keys c.in-Some.place (sym c.get_index_of.ensures.index ∙ c.in-Some.is) in
    rw (list_any-map (λ key. key.items) (bytes_eq c.args.name.now) c.args.names.now.keys ∙ at.1)

pub returns-in-Some-clause-place : goal.returns-in-Some-clause-place
returns-in-Some-clause-place c =
    let at = found (λ key. bytes_eq c.args.name.now key.items) c.args.names.now.keys c.in-Some.place (sym c.get_index_of.ensures.index ∙ c.in-Some.is) in
    sym (position_or_len-map (λ key. key.items) (bytes_eq c.args.name.now) c.args.names.now.keys ∙ at.0)

pub returns-in_ok-insert-in-None-clause-names : goal.returns-in_ok-insert-in-None-clause-names
returns-in_ok-insert-in-None-clause-names c =
    ap (map (λ key. key.items)) c.in_ok-insert-in-None.ensures.keys
    ∙ texts-insert c.in_ok-from_slice-in-None.field-0 c.args.names.now.keys
    ∙ ap (with_name (texts c.args.names.now)) c.in_ok-from_slice-in-None.ensures.items

pub returns-in_ok-insert-in-None-clause-place : goal.returns-in_ok-insert-in-None-clause-place
returns-in_ok-insert-in-None-clause-place c =
    let at = missing (λ key. bytes_eq c.args.name.now key.items) c.args.names.now.keys (sym c.get_index_of.ensures.index ∙ c.in-None.is) in
    c.len-place.ensures.len ∙ sym (position_or_len-map (λ key. key.items) (bytes_eq c.args.name.now) c.args.names.now.keys ∙ at.0)
