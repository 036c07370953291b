-- Spellings that are remembered, where there is one more port.
use Rattle.std.proofs.Common.{◌≡◌, ℕ, zero, suc, true, false, List, [], ◌∷◌, ◌++◌, get_or, refl, sym, ◌∙◌, subst, Ok, arith}
use Rattle.std.specs.Prelude.{Bool, cond, Option, Some, None, IfSome, All}
use Rattle.std.specs.List.{position_or_len, list_any}
use Rattle.std.specs.Str.{bytes_eq}
use Rattle.std.proofs.lemmas.Bool.{or_left, or_right}
use Rattle.std.proofs.lemmas.List.Folds.{list_any-append}
use Rattle.std.proofs.lemmas.Slice.Eq.{bytes_eq-Decides}
use Rattle.vital_base.specs.declared.ports.PortBit.{PortBit}
use Rattle.vital_stim.specs.KnownPorts.{with_port}
use Rattle.vital_identifiers.specs.Identifiers.{folded}
use Rattle.vital_stim.specs.PortForm.{is_port}
use Rattle.vital_stim.specs.Spellings.{Spells, Remembers}
use Rattle.vital_stim.specs.Stimuli.{Stimulus, is_named, input_port, among_given}
use Rattle.vital_stim.specs.declared.spellings.Spelling.{Spelling}
use Rattle.vital_stim.specs.declared.spellings.Spellings.{Spellings}
use Rattle.vital_stim.proofs.NameLemmas.{bytes_eq-same}
use Rattle.vital_stim.proofs.Positions.{position-stays}

module _ (given : Option (List PortBit)) where
  grows-step : (ports : List PortBit) (last : PortBit) (bytes : List ℕ) (port : ℕ) (b : Bool) → Spells given ports bytes port → Spells given (cond b ports (ports ++ last ∷ [])) bytes port
  grows-step ports last bytes port true s = s
  grows-step ports last bytes port false s = record {
    form = s.form;
    there = list_any-append (is_named (folded bytes)) ports (last ∷ []) ∙ or_left _ _ s.there;
    place = s.place ∙ sym (position-stays (is_named (folded bytes)) ports last (or_left _ _ s.there));
    stands = s.stands;
  }

  grows : (ports : List PortBit) (name bytes : List ℕ) (port : ℕ) → Spells given ports bytes port → Spells given (with_port ports name) bytes port
  grows ports name bytes port s = grows-step ports (input_port name) bytes port (list_any (is_named name) ports) s

  grows-slot : (ports : List PortBit) (name : List ℕ) (slot : Option Spelling) → IfSome slot (λ spelling. Spells given ports spelling.bytes.now spelling.port) → IfSome slot (λ spelling. Spells given (with_port ports name) spelling.bytes.now spelling.port)
  grows-slot ports name None h = tt
  grows-slot ports name (Some spelling) h = grows ports name spelling.bytes.now spelling.port h

  pub remembers-grows : (spellings : Spellings) (ports : List PortBit) (name : List ℕ) → Remembers given ports spellings → Remembers given (with_port ports name) spellings
  remembers-grows spellings ports name h = λ i d within. grows-slot ports name _ (h i d within)

at_slot : (P : Spelling → Type 0) (slots : List (Option Spelling)) (i : ℕ) (s : Spelling) → All (λ slot. IfSome slot P) slots → get_or slots i None ≡ Some s → P s
at_slot P [] i s h e = absurd (cc)
at_slot P (x ∷ xs) zero s h e = let Q : Option Spelling → Type 0 = λ slot. IfSome slot P in subst Q e (h zero None (omega arith))
at_slot P (x ∷ xs) (suc i) s h e = at_slot P xs i s (λ k d within. h (suc k) d (omega (arith, within))) e

-- a spelling that is remembered
pub recalls : (given : Option (List PortBit)) (spellings : Spellings) (ports : List PortBit) (i : ℕ) (s : Spelling) (bytes : List ℕ) → Remembers given ports spellings → get_or spellings.slots i None ≡ Some s → bytes_eq s.bytes.now bytes ≡ true → Spells given ports bytes s.port
recalls given spellings ports i s bytes h at equal =
    let Q : List ℕ → Type 0 = λ b. Spells given ports b s.port in
    subst Q ((bytes_eq-Decides s.bytes.now bytes).0 equal) (at_slot (λ spelling. Spells given ports spelling.bytes.now spelling.port) spellings.slots i s h at)

spells-step : (given : Option (List PortBit)) (ports : List PortBit) (bytes : List ℕ) (port : ℕ) (b : Bool) → list_any (is_named (folded bytes)) ports ≡ b → is_port bytes ≡ true → port ≡ position_or_len (is_named (folded bytes)) ports → ((s : Stimulus) → s.name ≡ folded bytes → among_given given s ≡ Ok s) → Spells given (cond b ports (ports ++ input_port (folded bytes) ∷ [])) bytes port
spells-step given ports bytes port true e form place stands = record { form = form; there = e; place = place; stands = stands }
spells-step given ports bytes port false e form place stands = record {
  form = form;
  there = list_any-append (is_named (folded bytes)) ports (input_port (folded bytes) ∷ []) ∙ or_right _ _ (or_left _ _ (bytes_eq-same (folded bytes)));
  place = place ∙ sym (position-stays (is_named (folded bytes)) ports (input_port (folded bytes)) (or_right _ _ (bytes_eq-same (folded bytes))));
  stands = stands;
}

-- a port that was put
pub spells : (given : Option (List PortBit)) (ports : List PortBit) (bytes : List ℕ) (port : ℕ) → is_port bytes ≡ true → port ≡ position_or_len (is_named (folded bytes)) ports → ((s : Stimulus) → s.name ≡ folded bytes → among_given given s ≡ Ok s) → Spells given (with_port ports (folded bytes)) bytes port
spells given ports bytes port form place stands = spells-step given ports bytes port (list_any (is_named (folded bytes)) ports) refl form place stands

-- a port that is there
pub is_known : (given : Option (List PortBit)) (ports : List PortBit) (bytes : List ℕ) (port : ℕ) → Spells given ports bytes port → ports ≡ with_port ports (folded bytes)
is_known given ports bytes port s = rw s.there refl
