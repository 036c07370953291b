-- The rows of a table that a constant of a package sees are the same where more constants are seen.
use Rattle.std.proofs.Common.{◌≡◌, ℕ, zero, suc, Bool, true, false, List, [], ◌∷◌, map, take, Option, Some, None, refl, ap, ◌∙◌}
use Rattle.std.specs.Prelude.{cond, find}
use Rattle.std.specs.Option.{option_and_then, option_map, option_or}
use Rattle.vital_declaration_clauses.specs.Scopes.{InPackage}
use Rattle.vital_declarations.specs.Constants.{character, row_items}
use Rattle.vital_library.specs.Constants.{has_name}
use Rattle.vital_names.specs.declared.predeclared.Predeclared.{Predeclared}
use Rattle.vital_names.specs.Meanings.{Meaning, constant_named, constants, meaning_in_value}
use Rattle.vital_names.specs.Meanings as meanings
use Rattle.vital_names.specs.Words.{predeclared}
use Rattle.vital_nodes.specs.declared.decl.Object.{Object}
use Rattle.vital_nodes.specs.declared.expr.Expr.{Expr}
use Rattle.vital_nodes.specs.declared.identifier.Identifier.{Identifier}
use Rattle.vital_nodes.specs.declared.unit.Units.{Units}
use Rattle.vital_operands.specs.Items.{all_some}
use Rattle.vital_tables.specs.Tables.{row_of, rows_of, rows_of_items, symbol_at, symbol_in, symbol_meant, symbol_named, symbols_of_items}
use Rattle.vital_nodes.specs.Items.{listed_items, positional_value}
use Rattle.vital_nodes.specs.Names.{identifier_of}

-- ---- options

-- What one function gives another one gives too.
abbrev Gives : {A B : Type 0} → (A → Option B) → (A → Option B) → Type 0
Gives {A} {B} f g = (x : A) (y : B) → f x ≡ Some y → g x ≡ Some y

then-gives : {A B : Type 0} (f g : A → Option B) → Gives f g → (o : Option A) (y : B) → option_and_then f o ≡ Some y → option_and_then g o ≡ Some y
then-gives f g gives None y is = absurd (cc)
then-gives f g gives (Some x) y is = gives x y is

or-gives : {A : Type 0} (o p q : Option A) (y : A) → (p ≡ Some y → q ≡ Some y) → option_or o p ≡ Some y → option_or o q ≡ Some y
or-gives None p q y gives is = gives is
or-gives (Some x) p q y gives is = is

cons-gives : {A : Type 0} (o q : Option A) (os qs : Option (List A)) (ys : List A) → ((y : A) → o ≡ Some y → q ≡ Some y) → ((zs : List A) → os ≡ Some zs → qs ≡ Some zs)
    → option_and_then (λ x. option_map (λ xs. x ∷ xs) os) o ≡ Some ys → option_and_then (λ x. option_map (λ xs. x ∷ xs) qs) q ≡ Some ys
cons-gives None q os qs ys first others is = absurd (cc)
cons-gives (Some x) q None qs ys first others is = absurd (cc)
cons-gives (Some x) q (Some xs) qs ys first others is =
    ap (λ o. option_and_then (λ z. option_map (λ zs. z ∷ zs) qs) o) (first x refl) ∙ ap (option_map (λ zs. x ∷ zs)) (others xs refl) ∙ is

all-gives : {A B : Type 0} (f g : A → Option B) → Gives f g → (xs : List A) (ys : List B) → all_some (map f xs) ≡ Some ys → all_some (map g xs) ≡ Some ys
all-gives f g gives [] ys is = is
all-gives f g gives (x ∷ xs) ys is = cons-gives (f x) (g x) (all_some (map f xs)) (all_some (map g xs)) ys (gives x) (λ zs are. all-gives f g gives xs zs are) is

-- ---- names

find-or : {A : Type 0} (b : Bool) (x : A) (o q : Option A) (y : A) → (o ≡ Some y → q ≡ Some y) → cond b (Some x) o ≡ Some y → cond b (Some x) q ≡ Some y
find-or true x o q y gives is = is
find-or false x o q y gives is = gives is

found-later : {A : Type 0} (test : A → Bool) (n : ℕ) (xs : List A) (y : A) → find test (take n xs) ≡ Some y → find test (take (suc n) xs) ≡ Some y
found-later test zero xs y is = absurd (cc)
found-later test (suc n) [] y is = absurd (cc)
found-later test (suc n) (x ∷ xs) y is = find-or (test x) x (find test (take n xs)) (find test (take (suc n) xs)) y (found-later test n xs y) is

abbrev meant_by : Option (ℕ × Object) → Option Predeclared → Option Meaning
meant_by c w = option_or (option_map (λ e. meanings.Constant e.0 e.1) c) (option_map (λ q. meanings.Predeclared q) w)

meant-later : (c d : Option (ℕ × Object)) (w : Option Predeclared) (b : ℕ) → ((e : ℕ × Object) → c ≡ Some e → d ≡ Some e) → option_and_then symbol_meant (meant_by c w) ≡ Some b → option_and_then symbol_meant (meant_by d w) ≡ Some b
meant-later None d None b later is = absurd (cc)
meant-later None d (Some w) b later is = absurd (cc)
meant-later (Some e) d w b later is = ap (λ o. option_and_then symbol_meant (meant_by o w)) (later e refl) ∙ is

module _ (files : List Units) (n : ℕ) where
  identifier-later : Gives {A = Identifier} (λ i. option_and_then symbol_meant (meaning_in_value i.name n files)) (λ i. option_and_then symbol_meant (meaning_in_value i.name (suc n) files))
  identifier-later = λ i b is.
      meant-later (constant_named i.name (take n (constants files))) (constant_named i.name (take (suc n) (constants files))) (predeclared i.name) b
      (λ e there. found-later (λ c. has_name i.name c.1) n (constants files) e there) is

  symbol-later : Gives (symbol_in (InPackage files n)) (symbol_in (InPackage files (suc n)))
  symbol-later = λ e b is.
      or-gives (character e) (symbol_named (InPackage files n) e) (symbol_named (InPackage files (suc n)) e) b
      (λ named. then-gives (λ i. option_and_then symbol_meant (meaning_in_value i.name n files)) (λ i. option_and_then symbol_meant (meaning_in_value i.name (suc n) files)) identifier-later (identifier_of e) b named) is

  item-later : Gives (symbol_at (InPackage files n)) (symbol_at (InPackage files (suc n)))
  item-later = λ i b is. then-gives (symbol_in (InPackage files n)) (symbol_in (InPackage files (suc n))) symbol-later (positional_value i) b is

  symbols-later : Gives (symbols_of_items (InPackage files n)) (symbols_of_items (InPackage files (suc n)))
  symbols-later = λ is bytes are. all-gives (symbol_at (InPackage files n)) (symbol_at (InPackage files (suc n))) item-later is bytes are

  row-later : Gives (row_of (InPackage files n)) (row_of (InPackage files (suc n)))
  row-later = λ i row is. then-gives (symbols_of_items (InPackage files n)) (symbols_of_items (InPackage files (suc n))) symbols-later (row_items i) row is

  items-later : Gives (rows_of_items (InPackage files n)) (rows_of_items (InPackage files (suc n)))
  items-later = λ is rows are. all-gives (row_of (InPackage files n)) (row_of (InPackage files (suc n))) row-later is rows are

  value-later : Gives (rows_of (InPackage files n)) (rows_of (InPackage files (suc n)))
  value-later = λ e rows is. then-gives (rows_of_items (InPackage files n)) (rows_of_items (InPackage files (suc n))) items-later (listed_items e) rows is

  pub rows-later : (v : Option Expr) (rows : List (List ℕ)) → option_and_then (rows_of (InPackage files n)) v ≡ Some rows → option_and_then (rows_of (InPackage files (suc n))) v ≡ Some rows
  rows-later v rows is = then-gives (rows_of (InPackage files n)) (rows_of (InPackage files (suc n))) value-later v rows is
