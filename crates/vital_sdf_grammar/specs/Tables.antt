-- The three tables by which the grammar is seen to be predictive, each of its rules to derive something, and none to lead
-- back to itself.
use Rattle.std.specs.Prelude.{ℕ, true, false, List, [], ◌∷◌}
use Rattle.vital_ll.specs.Masks.{MaskTable}

-- for each rule: whether it can be empty, the tokens that it can begin with, and those that can follow it
abbrev pub masks : MaskTable
masks =
    (false, 0x2, 0x1)  -- sdf
    ∷ (true, 0x2, 0x4)  -- blocks
    ∷ (false, 0xfff00, 0x4)  -- block
    ∷ (false, 0x7ff00, 0x4)  -- head
    ∷ (false, 0x60, 0x4)  -- scale
    ∷ (true, 0x40, 0x4)  -- optional_word
    ∷ (true, 0x7fffffffffffa, 0x4)  -- any
    ∷ (false, 0x7fffffffffff8, 0x7fffffffffffe)  -- atom
    ∷ (true, 0x2, 0x4)  -- parts
    ∷ (false, 0x8001f00000, 0x4)  -- part
    ∷ (true, 0x2, 0x4)  -- delays
    ∷ (false, 0x1e000000, 0x4)  -- delay
    ∷ (true, 0x2, 0x4)  -- dels
    ∷ (false, 0xfe0000000, 0x4)  -- del
    ∷ (true, 0x10, 0x6a)  -- optional_string
    ∷ (false, 0x42, 0x4)  -- io
    ∷ (false, 0x42, 0x46)  -- port
    ∷ (false, 0x6000000000, 0x40)  -- edge
    ∷ (false, 0x6a, 0x4)  -- cond
    ∷ (false, 0x2000006e, 0x4)  -- cond_rest
    ∷ (true, 0x6a, 0x4)  -- inner
    ∷ (true, 0x2, 0x4)  -- vals
    ∷ (true, 0x1000000028, 0x4)  -- value
    ∷ (true, 0x28, 0x4)  -- val
    ∷ (true, 0x20, 0xc)  -- optional_number
    ∷ (true, 0x8, 0x4)  -- val_rest
    ∷ (true, 0x2, 0x4)  -- chks
    ∷ (false, 0x7ff0000000000, 0x4)  -- chk
    ∷ (false, 0x42, 0x42)  -- tp
    ∷ (false, 0x6400000000, 0x4)  -- tp_rest
    ∷ (true, 0x62, 0x4)  -- titems
    ∷ (false, 0x62, 0x66)  -- titem
    ∷ (true, 0x600000006a, 0x4)  -- titem_rest
    ∷ (false, 0x2, 0x6)  -- one
    ∷ []

-- for each rule: a rank above those of the rules that one of its alternatives names
abbrev pub ranks : List ℕ
ranks =
    1 ∷ 0 ∷ 1 ∷ 0 ∷ 0 ∷ 0 ∷ 0 ∷ 0 ∷ 0 ∷ 0 ∷ 0 ∷ 1 ∷ 0 ∷ 1 ∷ 0 ∷ 1 ∷ 0 ∷ 0 ∷ 3 ∷ 2
    ∷ 0 ∷ 0 ∷ 1 ∷ 1 ∷ 0 ∷ 0 ∷ 0 ∷ 1 ∷ 0 ∷ 1 ∷ 0 ∷ 0 ∷ 1 ∷ 2
    ∷ []

-- for each rule: a rank above those of the rules that its alternatives can lead with
abbrev pub leads : List ℕ
leads =
    0 ∷ 0 ∷ 1 ∷ 0 ∷ 0 ∷ 0 ∷ 1 ∷ 0 ∷ 0 ∷ 0 ∷ 0 ∷ 0 ∷ 0 ∷ 0 ∷ 0 ∷ 1 ∷ 0 ∷ 0 ∷ 0 ∷ 1
    ∷ 0 ∷ 0 ∷ 2 ∷ 1 ∷ 0 ∷ 0 ∷ 0 ∷ 0 ∷ 0 ∷ 1 ∷ 1 ∷ 0 ∷ 1 ∷ 0
    ∷ []
