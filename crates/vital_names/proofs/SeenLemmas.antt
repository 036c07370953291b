-- What is seen of two lists, where the first of a name in the one hides that in the other only if it passes a test.
use Rattle.std.proofs.Common.{◌≡◌, true, false, refl, sym, ◌∙◌, ap}
use Rattle.std.specs.Prelude.{Bool, cond, Option, Some, None}
use Rattle.std.specs.Option.{option_and_then, option_or}

module _ {D : Type 0} (test : D → Bool) where
  abbrev passed : D → Option D
  passed e = cond (test e) (Some e) None

  -- the first in either passes
  pub seen-there : (b i : Option D) (d : D) → option_or b i ≡ Some d → test d ≡ true → Some d ≡ option_or (option_and_then passed b) i
  seen-there None i d h t = sym h
  seen-there (Some e) i d h t =
      let same : d ≡ e = cc in
      let yes : test e ≡ true = ap test (sym same) ∙ t in
      ap Some same ∙ sym (ap (λ x. option_or (cond x (Some e) None) i) yes)

  -- it does not
  pub seen-behind : (b i : Option D) (d : D) → option_or b i ≡ Some d → test d ≡ false → i ≡ option_or (option_and_then passed b) i
  seen-behind None i d h t = refl
  seen-behind (Some e) i d h t =
      let same : d ≡ e = cc in
      let no : test e ≡ false = ap test (sym same) ∙ t in
      sym (ap (λ x. option_or (cond x (Some e) None) i) no)

  -- there is none
  pub seen-nowhere : (b i : Option D) → option_or b i ≡ None → None ≡ option_or (option_and_then passed b) i
  seen-nowhere None i h = sym h
  seen-nowhere (Some e) i h = absurd (cc)
