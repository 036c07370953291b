-- The delimiters (IEEE 1076-1993, 13.2), each with its kind. The apostrophe is not among them: what it begins depends on
-- the token before it.
use Rattle.std.specs.Prelude.{ℕ, List, [], ◌∷◌, codes}
use Rattle.vital_vhdl_lexemes.specs.declared.kinds.Kind.{Kind}
use Rattle.vital_vhdl_lexemes.specs.declared.kinds.Kind.TheVariants as kind

abbrev pub delimiters : List (List ℕ × Kind)
delimiters =
    (codes "=>", kind.Arrow) ∷
    (codes ":=", kind.Assign) ∷
    (codes "<=", kind.LessOrEqual) ∷
    (codes ">=", kind.GreaterOrEqual) ∷
    (codes "/=", kind.NotEqual) ∷
    (codes "**", kind.DoubleStar) ∷
    (codes "<>", kind.Box) ∷
    (codes "&", kind.Ampersand) ∷
    (codes "(", kind.LeftParenthesis) ∷
    (codes ")", kind.RightParenthesis) ∷
    (codes "*", kind.Star) ∷
    (codes "+", kind.Plus) ∷
    (codes ",", kind.Comma) ∷
    (codes "-", kind.Minus) ∷
    (codes ".", kind.Dot) ∷
    (codes "/", kind.Slash) ∷
    (codes ":", kind.Colon) ∷
    (codes ";", kind.Semicolon) ∷
    (codes "<", kind.Less) ∷
    (codes "=", kind.Equal) ∷
    (codes ">", kind.Greater) ∷
    (codes "|", kind.Bar) ∷
    []
