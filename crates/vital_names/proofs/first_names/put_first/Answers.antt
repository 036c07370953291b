use Rattle.std.proofs.Common.{◌∙◌, ap, sym}
use Rattle.std.proofs.lemmas.Map.Text.{hash_map_updates_str}
use Rattle.std.specs.Cmp.Lexicographic.{bytes_decides}
use Rattle.std.specs.Str.{bytes_eq}
use Rattle.vital_names.specs.FirstNames.{first_in}
use Rattle.vital_names.proofs.FirstLemmas.{put-new}
use Rattle.vital_names.proofs.first_names.put_first.Goals as goal

pub returns-in_ok-insert : goal.returns-in_ok-insert
returns-in_ok-insert g c = λ q.
    let name = c.args.name.now in
    put-new (first_in c.args.names.now name) (first_in c.args.names.now q) (first_in c.insert.new.self q) c.args.value (bytes_eq name q)
    (λ e. ap (first_in c.args.names.now) ((bytes_decides name q).0 e))
    (sym c.contains_key.ensures ∙ c.if-not-contains_key.true)
    (hash_map_updates_str name c.args.names.now c.insert.new.self _ c.in_ok-insert.ensures.updates q)
