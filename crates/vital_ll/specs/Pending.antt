-- The symbols that are left to read.
use Rattle.std.specs.Prelude.{◌<◌, List, [], ◌∷◌, ◌++◌, length}
use denote.Ref.{Bor}
use Rattle.vital_ll.specs.declared.grammar.Sym.{Sym}

-- there are some
abbrev pub IsFilled : Bor (List Sym) → Type 0
IsFilled symbols = 0 < length symbols.now

-- the symbols of a stack, the topmost first, which is the last
abbrev pub stacked : List (Bor (List Sym)) → List Sym
stacked [] = []
stacked (symbols ∷ stack) = stacked stack ++ symbols.now

-- those that are left of the alternative that is being read, and then those of the stack
abbrev pub symbols_of : List Sym → List (Bor (List Sym)) → List Sym
symbols_of left stack = left ++ stacked stack
