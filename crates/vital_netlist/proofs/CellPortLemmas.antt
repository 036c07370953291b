-- Where a cell meets Level 1, each of its ports is one bit.
use Rattle.std.proofs.Common.{◌≡◌, true, false, List, [], ◌∷◌, ◌++◌, map, refl}
use Rattle.std.proofs.lemmas.List.Elements.{All-from_recursion}
use Rattle.std.specs.Prelude.{Bool, cond, filter, not, All, Option, Some, None, Ok}
use Rattle.std.specs.List.{AllByRecursion, reduce}
use Rattle.vital_base.specs.declared.breach.Breach.{Breach}
use Rattle.vital_declaration_clauses.specs.Clauses.{breaks_18, clause_2, clause_18}
use Rattle.vital_declarations.specs.Operands.{is_level}
use Rattle.vital_declarations.specs.Types.{DeclaredType, Plain, Vector, Table, Other, type_of}
use Rattle.vital_level1.specs.Breaches.{breaches, broken, declaration_breaches, first_breach, first_of, form_breaches, name_breaches, package_breaches, plain_breaches, process_breaches, region_breaches, statement_breaches}
use Rattle.vital_level1.specs.declared.level.CellLevel.TheVariants.{Level1}
use Rattle.vital_level1.specs.Verdicts.{IsVerdict, level_by}
use Rattle.vital_names.specs.Sites.{Cell}
use Rattle.vital_nodes.specs.declared.decl.Iface.{Iface}
use Rattle.vital_structure.specs.Shapes.{Scalar, shape_in, shape_of_port}

-- ---- nothing is broken

none-before : {A : Type 0} (xs ys : List A) → xs ++ ys ≡ [] → xs ≡ []
none-before [] ys is = refl
none-before (x ∷ xs) ys is = cc

none-behind : {A : Type 0} (xs ys : List A) → xs ++ ys ≡ [] → ys ≡ []
none-behind [] ys is = is
none-behind (x ∷ xs) ys is = cc

none-mapped : {A B : Type 0} (f : A → B) (xs : List A) → map f xs ≡ [] → xs ≡ []
none-mapped f [] is = refl
none-mapped f (x ∷ xs) is = cc

none-first : (bs : List Breach) → reduce first_of bs ≡ None → bs ≡ []
none-first [] is = refl
none-first (b ∷ bs) is = cc

level-none : (first own : Option Breach) → Level1 ≡ level_by first own → own ≡ None
level-none (Some b) own is = cc
level-none None (Some b) is = cc
level-none None None is = refl

-- no port breaks the clause of ports
ports-kept : (cell : Cell) → IsVerdict cell (Ok Level1) → clause_18 cell ≡ []
ports-kept cell is =
    let all : breaches cell ≡ [] = none-first (breaches cell) (level-none is.1.0 (first_breach cell) is.1.2) in
    let to_packages : plain_breaches cell ++ name_breaches cell ++ package_breaches cell ≡ [] = none-before (plain_breaches cell ++ name_breaches cell ++ package_breaches cell) (form_breaches cell) all in
    let to_names : plain_breaches cell ++ name_breaches cell ≡ [] = none-before (plain_breaches cell ++ name_breaches cell) (package_breaches cell) to_packages in
    let plain : plain_breaches cell ≡ [] = none-before (plain_breaches cell) (name_breaches cell) to_names in
    let to_statements : region_breaches cell ++ declaration_breaches cell ++ statement_breaches cell ≡ [] = none-before (region_breaches cell ++ declaration_breaches cell ++ statement_breaches cell) (process_breaches cell) plain in
    let to_declarations : region_breaches cell ++ declaration_breaches cell ≡ [] = none-before (region_breaches cell ++ declaration_breaches cell) (statement_breaches cell) to_statements in
    let declared : declaration_breaches cell ≡ [] = none-behind (region_breaches cell) (declaration_breaches cell) to_declarations in
    none-mapped (λ p. record { place = p; clause = record { level = 1; number = 18 } }) (clause_18 cell)
    (none-behind (broken 2 (clause_2 cell)) (broken 18 (clause_18 cell)) declared)

-- ---- ports

none-here : {A B : Type 0} (f : A → B) (b : Bool) (x : A) (ys : List A) → map f (cond b (x ∷ ys) ys) ≡ [] → (b ≡ false) × (map f ys ≡ [])
none-here f true x ys is = absurd (cc)
none-here f false x ys is = (refl, is)

is-bit : (t : DeclaredType) → not (is_level t) ≡ false → shape_in t ≡ Scalar
is-bit (Plain t) is = refl
is-bit (Vector r) is = absurd (cc)
is-bit (Table t rows columns) is = refl
is-bit Other is = refl

all-bits : (ports : List Iface) → map (λ port. port.identifier.place) (filter breaks_18 ports) ≡ [] → AllByRecursion (λ port. shape_of_port port ≡ Scalar) ports
all-bits [] is = tt
all-bits (p ∷ ports) is =
    let here = none-here (λ port. port.identifier.place) (breaks_18 p) p (filter breaks_18 ports) is in
    (is-bit (type_of p.parts.subtype) here.0, all-bits ports here.1)

pub ports-are-bits : (cell : Cell) → IsVerdict cell (Ok Level1) → All (λ port. shape_of_port port ≡ Scalar) cell.entity.ports
ports-are-bits cell is = All-from_recursion (λ port. shape_of_port port ≡ Scalar) cell.entity.ports (all-bits cell.entity.ports (ports-kept cell is))
