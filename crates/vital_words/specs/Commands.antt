-- The commands, and how each takes its keys.
use Rattle.std.specs.Prelude.{ℕ, List, [], ◌∷◌, Option, Some, None, true, false, codes, if◌then◌else◌}
use Rattle.std.specs.Str.{bytes_eq}
use Rattle.vital_words.specs.declared.command.Command.{Command}
use Rattle.vital_words.specs.declared.command.Command.TheVariants.{Play, Check, Tree, Sim, SelfRun}
use Rattle.vital_words.specs.declared.command.KeyRule.{KeyRule}
use Rattle.vital_words.specs.declared.key.FileKind.TheVariants.{Lib, Net, Sdf, Stim}
use Rattle.vital_words.specs.declared.key.Key.{Key}
use Rattle.vital_words.specs.declared.key.Key.TheVariants.{File, Until, Top, Corner, Delta, Watch, Seed, Cells}

-- The command that is written so.
abbrev pub command_named : List ℕ → Option Command
command_named word =
    if bytes_eq word (codes "play") then Some Play
    else if bytes_eq word (codes "check") then Some Check
    else if bytes_eq word (codes "tree") then Some Tree
    else if bytes_eq word (codes "sim") then Some Sim
    else if bytes_eq word (codes "self") then Some SelfRun
    else None

-- A key that must come, and may come so often.
abbrev pub required : Key → ℕ → KeyRule
required key most = record { key = key; most = most; is_required = true }

-- A key that need not come, and may come so often.
abbrev pub optional : Key → ℕ → KeyRule
optional key most = record { key = key; most = most; is_required = false }

-- How a command takes its keys.
abbrev pub rules_of : Command → List KeyRule
rules_of Play = required (File Stim) 1 ∷ required Until 1 ∷ []
rules_of Check = required (File Lib) 16 ∷ []
rules_of Tree = required (File Lib) 16 ∷ optional (File Net) 1 ∷ required Top 1 ∷ []
rules_of Sim =
    required (File Lib) 16 ∷ optional (File Net) 1 ∷ optional (File Sdf) 16 ∷ required Top 1 ∷ required (File Stim) 1 ∷ required Until 1
    ∷ optional Corner 1 ∷ optional Delta 1 ∷ optional Watch 1 ∷ []
rules_of SelfRun = required Seed 1 ∷ required Cells 1 ∷ []
