use Rattle.std.proofs.Common.{◌≡◌, ◌∙◌, ◌+◌, ◌++◌, Some, take, drop, ap, sym}
use Rattle.std.specs.Option.{option_map}
use Rattle.std.proofs.lemmas.List.{drop-drop, take-append-drop}
use Rattle.vital_base.specs.MemShelves.{MemShelfState, bytes_at, left_of}
use Rattle.vital_base.proofs.mem_shelf.MemShelfShelf.read.Goals as goal

pub returns-clause-ok_takes_next : goal.returns-clause-ok_takes_next
returns-clause-ok_takes_next c =
    let files = c.self.inside.files in
    let left = c.left_of-left.result.now in
    let count = c.copy_front-taken.result in
    let split : left ≡ take count c.copy_front-taken.new.piece ++ drop count left =
    rw c.copy_front-taken.ensures.copied (sym (take-append-drop count left)) in
    let left_is : left ≡ left_of files c.in-Some.place = rw c.as_slice-files.ensures at c.left_of-left.ensures.left in
    let was : c.args.self.now.opened ≡ Some left =
    sym (ap (λ (s : MemShelfState). s.opened) c.self.view_is) ∙ ap (option_map (left_of files)) c.in-Some.is ∙ ap Some (sym left_is) in
    let next : left_of files (record { index = c.in-Some.place.index; read = c.in-Some.place.read + count }) ≡ drop count left =
    sym (drop-drop count c.in-Some.place.read (bytes_at files c.in-Some.place.index)) ∙ ap (drop count) (sym left_is) in
    (drop count left, was ∙ ap Some split, ap Some next)
