use Rattle.vital_design_rows.proofs.library.put_library.Goals as goal

-- the library has the files that were read
pub put_named-requires : goal.put_named-requires
put_named-requires c = rw c.in-Ok-gather.ensures.files c.in-Ok.ensures
