use Rattle.std.proofs.Common.{◌≡◌, ◌+◌, ◌<◌, true, length, get_or, sym, ◌∙◌, arith}
use Rattle.std.proofs.lemmas.Bool.{both_ways}
use Rattle.vital_vhdl_lexemes.specs.Bytes.{is_graphic}
use Rattle.vital_vhdl_lexemes.proofs.FoundLexemes.{tick_found, character_found, no_character}
use Rattle.vital_vhdl_lexemes.proofs.lexemes.apostrophe_at.Goals as goal
use Rattle.vital_vhdl_lexemes.proofs.lexemes.apostrophe_at.Goals.{else-at-text-via-then-at-text+then-is_graphic+else-text-at-eq39, else-at-text-via-then-at-text+else-is_graphic, else-at-text-via-else-at-text}

pub returns-then-takes_tick : goal.returns-then-takes_tick
returns-then-takes_tick c = tick_found c.args.before c.args.text.now c.args.at c.requires.inside c.requires.apostrophe (sym c.takes_tick.ensures ∙ c.if-takes_tick.true)

pub returns-then-text-at-eq39 : goal.returns-then-text-at-eq39
returns-then-text-at-eq39 c =
    character_found c.args.before c.args.text.now c.args.at c.requires.inside c.requires.apostrophe (sym c.takes_tick.ensures ∙ c.if-takes_tick.false) c.if-at-text.true (sym c.is_graphic.ensures ∙ c.if-is_graphic.true) c.if-text-at-eq39.true

pub returns : goal.returns
returns c =
    let text = c.args.text.now in
    let at = c.args.at in
    let other : at + 2 < length text → is_graphic (get_or text (at + 1) 0) ≡ true → get_or text (at + 2) 0 ≡ 39 → ⊥ = elim c.else-at-text.branch [
      | else-at-text-via-then-at-text+then-is_graphic+else-text-at-eq39 w ↦ λ _ _ closed. w.if-text-at-eq39.false closed
      | else-at-text-via-then-at-text+else-is_graphic w ↦ λ _ graphic _. both_ways _ (sym w.is_graphic.ensures ∙ w.if-is_graphic.false) graphic
      | else-at-text-via-else-at-text w ↦ λ more _ _. omega arith
    ] in
    no_character c.args.before text at c.requires.inside c.requires.apostrophe (sym c.takes_tick.ensures ∙ c.if-takes_tick.false) other
