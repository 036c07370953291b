use Rattle.std.proofs.Common.{◌≡◌, ◌++◌, ◌∙◌, ap}
use Rattle.std.specs.Prelude.{[], ◌∷◌}
use Rattle.std.proofs.lemmas.Map.Text.{hash_map_updates_str}
use Rattle.vital_annotate.specs.PathKeys.{numbers_under}
use Rattle.vital_annotate.proofs.PathKeyLemmas.{group-put, items_of}
use Rattle.vital_annotate.proofs.path_keys.put_number.Goals as goal
use Rattle.vital_annotate.proofs.path_keys.put_number.Goals.{in-Some, in-None}

pub returns : goal.returns
returns c = λ q.
    let new = hash_map_updates_str c.args.key.now c.remove.new.self c.insert.new.self _ c.in_ok-insert.ensures.updates q in
    let removed = hash_map_updates_str c.args.key.now c.args.numbers.now c.remove.new.self _ c.remove.ensures.updates q in
    let held : c.match-remove.group.items ≡ numbers_under c.args.numbers.now c.args.key.now = elim c.match-remove.branch [
      | in-Some w ↦ ap (λ v. v.items) w.group-is ∙ ap items_of w.in-Some.ensures.value
      | in-None w ↦ ap (λ v. v.items) w.group-is ∙ w.new-group.ensures.items ∙ ap items_of w.in-None.ensures.value
    ] in
    group-put c.args.numbers.now c.remove.new.self c.insert.new.self c.args.key.now q c.push.new.self c.args.number new removed (c.in_ok-push.ensures.items ∙ ap (λ ps. ps ++ c.args.number ∷ []) held)
