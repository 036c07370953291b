use Rattle.std.proofs.Common.{◌+◌, ◌-◌, ◌^◌, length, vec_len, slice_get}
use Rattle.std.specs.List.{All}
use Rattle.vital_ll.specs.Pending.{IsFilled, symbols_of}
use Rattle.vital_ll.specs.Table.{IsColumn}
use Rattle.vital_ll.proofs.Parsing.{IsParsing}
use Rattle.vital_ll.proofs.reading.parse.Given as goal

abbrev pub invariant-loop-symbol : goal.invariant-loop-symbol
invariant-loop-symbol l =
    IsParsing l.rules l.kinds l.taken (symbols_of l.left l.stack.items) l.steps.items × IsColumn l.table.columns.items (slice_get l.kinds l.taken) l.column × All IsFilled l.stack.items

-- each turn takes a token or writes a step, of which a list has fewer than 2 ^ 64
abbrev pub decreases-loop-symbol : goal.decreases-loop-symbol
decreases-loop-symbol l = (2 ^ 64 - vec_len l.steps) + (length l.kinds - l.taken)
