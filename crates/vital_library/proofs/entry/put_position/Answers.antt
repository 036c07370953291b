use Rattle.std.proofs.Common.{◌≡◌, ◌++◌, ◌∙◌, ap}
use Rattle.std.specs.Prelude.{[], ◌∷◌}
use Rattle.std.proofs.lemmas.Map.Text.{hash_map_updates_str}
use Rattle.vital_library.specs.Entries.{group_of}
use Rattle.vital_library.proofs.EntryLemmas.{group_of-put, items_of}
use Rattle.vital_library.proofs.entry.put_position.Goals as goal
use Rattle.vital_library.proofs.entry.put_position.Goals.{in-Some, in-None}

pub returns : goal.returns
returns c = λ q.
    let new = hash_map_updates_str c.args.name.now c.remove.new.self c.insert.new.self _ c.in_ok-insert.ensures.updates q in
    let removed = hash_map_updates_str c.args.name.now c.args.groups.now c.remove.new.self _ c.remove.ensures.updates q in
    let held : c.match-remove.group.items ≡ group_of c.args.groups.now c.args.name.now = elim c.match-remove.branch [
      | in-Some w ↦ ap (λ v. v.items) w.group-is ∙ ap items_of w.in-Some.ensures.value
      | in-None w ↦ ap (λ v. v.items) w.group-is ∙ w.new-group.ensures.items ∙ ap items_of w.in-None.ensures.value
    ] in
    group_of-put c.args.groups.now c.remove.new.self c.insert.new.self c.args.name.now q c.push.new.self c.args.position new removed (c.in_ok-push.ensures.items ∙ ap (λ ps. ps ++ c.args.position ∷ []) held)
