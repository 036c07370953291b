-- The definitions, tried on texts whose stimuli are known.
use Rattle.std.proofs.Common.{◌≡◌, ℕ, true, false, List, [], ◌∷◌, ◌++◌, Result, Ok, Err, refl}
use Rattle.std.specs.Prelude.{Bool, codes, Some, None}
use Rattle.vital_base.specs.declared.ports.PortBit.{PortBit}
use Rattle.vital_logic.specs.declared.level.Level.{Level}
use Rattle.vital_logic.specs.declared.level.Level.TheVariants.{Zero, One, Z, X}
use Rattle.vital_stim.specs.Parts.{is_blank}
use Rattle.vital_stim.specs.PortForm.{is_port}
use Rattle.vital_stim.specs.Stimuli.{stim}
use Rattle.vital_stim.specs.declared.fault.StimWhy.TheVariants.{Line, Unit as UnknownUnit, Large, Value, Falls, UnknownPort, NotInput}
use Rattle.vital_stim.specs.declared.fault.StimWhy.{StimWhy}
use Rattle.vital_stim.specs.declared.fault.StimFault.{StimFault}
use Rattle.vital_stim.specs.declared.stimuli.StimLine.{StimLine}
use Rattle.vital_stim.specs.declared.stimuli.Stimuli.{Stimuli}

-- each line, and LF
abbrev text : List (List ℕ) → List ℕ
text [] = []
text (line ∷ others) = line ++ (10 ∷ text others)

abbrev input : List ℕ → PortBit
input name = record { name = name; input = true; initial = 85 }

abbrev at : ℕ → ℕ → Level → StimLine
at time port value = record { time = time; port = port; value = value }

abbrev fault : ℕ → StimWhy → Result Stimuli StimFault
fault line why = Err (record { line = line; why = why })

abbrev one : List ℕ → List StimLine → Result Stimuli StimFault
one name lines = Ok (record { ports = input name ∷ []; lines = lines })

empty : stim [] None ≡ Ok (record { ports = []; lines = [] })
unfolding is_blank
empty = refl

two_ports : stim (text (codes "0 ps a 0" ∷ codes "0 ps b 1" ∷ codes "10 ps a 1" ∷ codes "20 ps b 1" ∷ codes "30 ps a Z" ∷ [])) None ≡ Ok (record {
  ports = input (codes "a") ∷ input (codes "b") ∷ [];
  lines = at 0 0 Zero ∷ at 0 1 One ∷ at 10_000 0 One ∷ at 20_000 1 One ∷ at 30_000 0 Z ∷ [];
})
unfolding is_blank
two_ports = refl

-- equal times are in order, and the last line has no LF
equal_times : stim (text (codes "0 ns a 1" ∷ codes "5 ns a 1" ∷ []) ++ codes "5 ns a 0") None ≡ one (codes "a") (at 0 0 One ∷ at 5_000_000 0 One ∷ at 5_000_000 0 Zero ∷ [])
unfolding is_blank
equal_times = refl

three_fields : stim (codes "5 ns a") None ≡ fault 1 Line
unfolding is_blank
three_fields = refl

unit_unknown : stim (codes "5 min a 1") None ≡ fault 1 UnknownUnit
unfolding is_blank
unit_unknown = refl

nines : stim (codes "9999999999999999999 ms a 1") None ≡ fault 1 Large
unfolding is_blank
nines = refl

greatest : stim (codes "1152921504606846976 fs a x") None ≡ one (codes "a") (at 1_152_921_504_606_846_976 0 X ∷ [])
unfolding is_blank
greatest = refl

past_greatest : stim (codes "1152921504606846977 fs a x") None ≡ fault 1 Large
unfolding is_blank
past_greatest = refl

no_level : stim (codes "5 ns a 2") None ≡ fault 1 Value
unfolding is_blank
no_level = refl

falls : stim (text (codes "5 ns a 1" ∷ codes "4 ns a 0" ∷ [])) None ≡ fault 2 Falls
unfolding is_blank
falls = refl

-- a comment, a line of blanks, CR before LF, and two spellings of one port
passed_over : stim (text (codes " # a b" ∷ (9 ∷ 13 ∷ 32 ∷ []) ∷ (codes "1 fs A_b(0) 1" ++ 13 ∷ []) ∷ (9 ∷ codes "2 fs a_B(0)  0") ∷ [])) None ≡ one (codes "a_b(0)") (at 1 0 One ∷ at 2 0 Zero ∷ [])
unfolding is_blank
passed_over = refl

-- NUL is no blank
nul : stim (codes "5 ns" ++ 0 ∷ codes " a 1") None ≡ fault 1 UnknownUnit
unfolding is_blank
nul = refl

-- ports that are given, two of which have one name
abbrev bit : List ℕ → Bool → ℕ → PortBit
bit name input initial = record { name = name; input = input; initial = initial }

abbrev given : List PortBit
given = bit (codes "a") true 85 ∷ bit (codes "y") false 85 ∷ bit (codes "d(1)") true 49 ∷ bit (codes "a") false 48 ∷ []

given_ports : stim (text (codes "5 fs D(1) 1" ∷ codes "6 fs a 0" ∷ [])) (Some given) ≡ Ok (record { ports = given; lines = at 5 2 One ∷ at 6 0 Zero ∷ [] })
unfolding is_blank
given_ports = refl

unknown_port : stim (text (codes "1 fs a 1" ∷ codes "1 fs b 1" ∷ [])) (Some given) ≡ fault 2 UnknownPort
unfolding is_blank
unknown_port = refl

-- the name of a vector is that of none of its bits
no_bit : stim (codes "1 fs d 1") (Some given) ≡ fault 1 UnknownPort
unfolding is_blank
no_bit = refl

not_input : stim (codes "1 fs Y 1") (Some given) ≡ fault 1 NotInput
unfolding is_blank
not_input = refl

-- an index with a leading zero is no form of a port, whatever ports are given
given_leading_zero : stim (codes "1 fs d(01) 1") (Some (bit (codes "d(01)") true 85 ∷ [])) ≡ fault 1 Line
unfolding is_blank
given_leading_zero = refl

-- the earlier of two tests that fail
falls_before : stim (text (codes "2 fs a 1" ∷ codes "1 fs y 1" ∷ [])) (Some given) ≡ fault 2 Falls
unfolding is_blank
falls_before = refl

none_given : stim (codes "1 fs a 1") (Some []) ≡ fault 1 UnknownPort
unfolding is_blank
none_given = refl

leading_zero : is_port (codes "a(01)") ≡ false
leading_zero = refl

zero_index : is_port (codes "a(0)") ≡ true
zero_index = refl

no_index : is_port (codes "a()") ≡ false
no_index = refl

after_index : is_port (codes "a(1)b") ≡ false
after_index = refl

first_underscore : is_port (codes "_a") ≡ false
first_underscore = refl

last_underscore : is_port (codes "a_(1)") ≡ false
last_underscore = refl

two_underscores : is_port (codes "a__b") ≡ false
two_underscores = refl

reserved_word : is_port (codes "entity") ≡ true
reserved_word = refl
