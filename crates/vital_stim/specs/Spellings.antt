-- Spellings of ports that were read before.
use Rattle.std.specs.Prelude.{◌≡◌, ℕ, true, List, Option, Ok, IfSome, All}
use Rattle.std.specs.List.{position_or_len, list_any}
use Rattle.vital_base.specs.declared.ports.PortBit.{PortBit}
use Rattle.vital_identifiers.specs.Identifiers.{folded}
use Rattle.vital_stim.specs.PortForm.{is_port}
use Rattle.vital_stim.specs.Stimuli.{Stimulus, is_named, among_given}
use Rattle.vital_stim.specs.declared.spellings.Spellings.{Spellings}

-- These bytes spell the port with this number of these ports, and no line fails a test for it.
pub record Spells (given : Option (List PortBit)) (ports : List PortBit) (bytes : List ℕ) (port : ℕ) : Type 0 where
  pub form : is_port bytes ≡ true
  pub there : list_any (is_named (folded bytes)) ports ≡ true
  pub place : port ≡ position_or_len (is_named (folded bytes)) ports
  pub stands : (stimulus : Stimulus) → stimulus.name ≡ folded bytes → among_given given stimulus ≡ Ok stimulus

-- Each spelling that is remembered spells its port.
abbrev pub Remembers : Option (List PortBit) → List PortBit → Spellings → Type 0
Remembers given ports spellings = All (λ slot. IfSome slot (λ spelling. Spells given ports spelling.bytes.now spelling.port)) spellings.slots
