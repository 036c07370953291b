use Rattle.std.proofs.Common.{◌≡◌, ◌∙◌, None, ap, inr, refl, rules}
use Rattle.vital_base.specs.MemShelves.{MemShelfState, file_named}
use Rattle.vital_base.proofs.FirstOfName.{named_none, named_some}
use Rattle.vital_base.proofs.mem_shelf.MemShelfShelf.open.Goals as goal

pub returns-in-None-clause-fails : goal.returns-in-None-clause-fails
returns-in-None-clause-fails c =
    let missing : file_named c.as_slice-files.result.now c.as_slice-bytes.result.now ≡ None =
    named_none c.as_slice-files.result.now c.as_slice-bytes.result.now c.in-None.ensures in
    let files : c.as_slice-files.result.now ≡ c.args.self.now.files = c.as_slice-files.ensures ∙ ap (λ (s : MemShelfState). s.files) c.self.view_is in
    (λ _. inr (rw (← files, ← c.as_slice-bytes.ensures) missing), λ _. refl)

pub returns-in-Some-clause-fails : goal.returns-in-Some-clause-fails
returns-in-Some-clause-fails c =
    let there = named_some c.as_slice-files.result.now c.as_slice-bytes.result.now c.in-Some.index c.in-Some.ensures in
    search rules

pub returns-in-Some-clause-ok_is_there : goal.returns-in-Some-clause-ok_is_there
returns-in-Some-clause-ok_is_there c =
    let there = named_some c.as_slice-files.result.now c.as_slice-bytes.result.now c.in-Some.index c.in-Some.ensures in
    search rules

pub returns-in-Some-clause-ok_opens : goal.returns-in-Some-clause-ok_opens
returns-in-Some-clause-ok_opens c =
    let there = named_some c.as_slice-files.result.now c.as_slice-bytes.result.now c.in-Some.index c.in-Some.ensures in
    search rules
