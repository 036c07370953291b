use Rattle.std.proofs.Common.{ap, sym}
use Rattle.std.proofs.lemmas.Map.Text.{hash_map_updates_str}
use Rattle.std.specs.Cmp.Lexicographic.{bytes_decides}
use Rattle.std.specs.Str.{bytes_eq}
use Rattle.vital_stim.specs.GivenPorts.{number_in}
use Rattle.vital_stim.proofs.GivenLemmas.{put-new}
use Rattle.vital_stim.proofs.given_ports.put_number.Goals as goal

pub returns : goal.returns
returns c = λ q.
    let name = c.args.name.now in
    put-new (number_in c.args.numbers.now name) (number_in c.args.numbers.now q) (number_in c.insert.new.self q) c.args.number (bytes_eq name q)
    (λ e. ap (number_in c.args.numbers.now) ((bytes_decides name q).0 e))
    (sym c.if-contains_key.ensures)
    (hash_map_updates_str name c.args.numbers.now c.insert.new.self _ c.in_ok-insert.ensures.updates q)
