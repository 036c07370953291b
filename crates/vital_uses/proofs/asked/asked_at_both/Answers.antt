use Rattle.std.proofs.Common.{sym, ◌∙◌, ap, ◌++◌, map}
use Rattle.std.proofs.lemmas.List.Elements.{filter_map-append}
use Rattle.vital_uses.specs.Asked.{asked, asked_at, lent_asked}
use Rattle.vital_uses.specs.Sited.{lent_node}
use Rattle.vital_uses.proofs.asked.asked_at_both.Goals as goal

pub returns : goal.returns
returns c =
    c.in_ok-put_asked_at-2.ensures
    ∙ ap (λ us. us ++ asked c.args.names.now (map lent_node c.args.others.now))
    (c.in_ok-put_asked_at.ensures ∙ ap (λ all. map lent_asked all ++ asked c.args.names.now (map lent_node c.args.nodes.now)) c.new-all.ensures.items)
    ∙ sym (filter_map-append (asked_at c.args.names.now) (map lent_node c.args.nodes.now) (map lent_node c.args.others.now))
