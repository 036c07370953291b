-- The tokens of a text are sound.
use Rattle.std.proofs.Common.{◌≡◌, ℕ, zero, suc, ◌-◌, ◌<◌, ◌≤◌, List, [], ◌∷◌, ◌++◌, length, map, take, drop, slice_range, Option, Some, None, All, AllPairs, refl, sym, ap, ◌∙◌, subst, arith}
use Rattle.vital_lex.proofs.Rising.{rising}
use Rattle.vital_lex.specs.Pieces.{Lexes}
use Rattle.vital_vhdl_lexemes.specs.LexiconLaws.{vhdl_is_lexicon}
use Rattle.vital_vhdl_lexemes.specs.Vhdl.{vhdl}
use Rattle.vital_lex.specs.declared.token_list.Token.{Token}
use Rattle.vital_nodes.specs.IdentifierNames.{IsNamedWell}
use Rattle.vital_shapes.proofs.Along.{Source}
use Rattle.vital_as_read.proofs.Each.{AreSound}
use Rattle.vital_as_read.proofs.Places.{later_is_behind}

sound_by : (o : Source) (ts : List Token) → All (λ t. IsNamedWell t.kind (slice_range o.text t.start t.end)) ts → All (λ t. t.start < length o.text) ts → AllPairs (λ s t. s.start < t.start) ts → AreSound o ts
sound_by o [] named inside rises = tt
sound_by o (t ∷ ts) named inside rises = (
  named zero t (omega arith),
  (λ k d within. later_is_behind o.file o.text t.start _ (rises zero (suc k) d (omega arith) (omega arith)) (inside zero t (omega arith))),
  sound_by o ts (λ k d within. named (suc k) d (omega arith)) (λ k d within. inside (suc k) d (omega arith)) (λ i j d below within. rises (suc i) (suc j) d (omega arith) (omega arith)),
)

pub tokens_are_sound : (o : Source) (tokens : List Token) → Lexes vhdl o.text tokens → All (λ t. IsNamedWell t.kind (slice_range o.text t.start t.end)) tokens → AreSound o tokens
tokens_are_sound o tokens lexed named =
    let rise = rising vhdl vhdl_is_lexicon o.text tokens lexed in
    sound_by o tokens named rise.0 rise.1
