-- What the names in the value of a constant of a package mean: constants before it, or what is predeclared.
use Rattle.std.proofs.Common.{◌≡◌, ℕ, Bool, true, List, Option, Some, None, sym, subst, length}
use Rattle.std.specs.Prelude.{◌++◌, slice_get, take, IfSome}
use Rattle.std.specs.List.{AllByRecursion, enumerate_from}
use Rattle.std.specs.Option.{option_and_then, option_map, option_map_or, option_or}
use Rattle.vital_declaration_clauses.specs.Scopes as scopes
use Rattle.vital_declarations.specs.Types.{type_of}
use Rattle.vital_library.specs.Constants.{constants_of, has_name}
use Rattle.vital_limits.specs.ConstantLimits.{constant_meant, named_at}
use Rattle.vital_names.specs.declared.predeclared.Predeclared.{Predeclared}
use Rattle.vital_names.specs.Meanings.{constant_named, constants, meaning_in_value}
use Rattle.vital_names.specs.Meanings as meanings
use Rattle.vital_names.specs.Words.{predeclared}
use Rattle.vital_nodes.specs.declared.decl.Object.{Object}
use Rattle.vital_nodes.specs.declared.identifier.Identifier.{Identifier}
use Rattle.vital_nodes.specs.declared.unit.Units.{Units}
use Rattle.vital_nodes.specs.Nodes.{Node, Declaration, Interface, Concurrent, Sequential, Expression, Item, Name}
use Rattle.vital_operands.specs.declared.tree.ConstantName.TheVariants as constant
use Rattle.vital_operands.specs.Positions.{InPackage, Nothing, standing_of}
use Rattle.vital_typed_cells.specs.Positions.{HasConstant, HasIdentifier, HasNameAt, HasStanding}
use Rattle.vital_typed_cells.specs.ExprScopes.{Scope}
use Rattle.vital_typed_cells.proofs.Found.{found}
use Rattle.vital_typed_cells.proofs.Lookups.{IsAt, all-numbered, from-zero, taken-front}
use Rattle.vital_typed_cells.proofs.Rows.{MeaningGood, SymbolAt, SymbolGood}

-- ---- constants before one

-- Those before a constant are the first of all.
pub firsts-at : (files : List Units) (os others : List Object) (n : ℕ) → constants_of files ≡ os ++ others → n ≡ length os → AllByRecursion (IsAt 0 os) (take n (constants files))
firsts-at files os others n are count =
    subst (λ m. AllByRecursion (IsAt 0 os) (take m (constants files))) (sym count)
    (subst (λ (qs : List Object). AllByRecursion (IsAt 0 os) (take (length os) (enumerate_from 0 qs))) (sym are)
    (subst (AllByRecursion (IsAt 0 os)) (sym (taken-front 0 os others)) (all-numbered os)))

-- Something is so of those of these constants whose numbers are free.
abbrev pub HasFree : List Object → (ℕ → Type 0) → (ℕ → Object → Type 0) → Type 0
HasFree os Free P = (k : ℕ) (o : Object) → slice_get os k ≡ Some o → Free k → P k o

-- The constant that a name means, if it means one.
abbrev NamedIs : List Units → ℕ → List ℕ → (ℕ → Object → Type 0) → Type 0
NamedIs files n name P = IfSome (constant_named name (take n (constants files))) (λ c. P c.0 c.1)

meant-is : (os : List Object) (Free : ℕ → Type 0) (P : ℕ → Object → Type 0) (o : Option (ℕ × Object)) (w : Option meanings.Meaning) → HasFree os Free P → IfSome o (IsAt 0 os)
    → IfSome (option_and_then constant_meant (option_or (option_map (λ c. meanings.Constant c.0 c.1) o) w)) Free → IfSome o (λ c. P c.0 c.1)
meant-is os Free P None w has at free = tt
meant-is os Free P (Some c) w has at free = has c.0 c.1 (from-zero os c at) free

only-at : (os : List Object) (o : Option (ℕ × Object)) (test : (ℕ × Object) → Bool) → IfSome o (λ c. IsAt 0 os c × (test c ≡ true)) → IfSome o (IsAt 0 os)
only-at os None test has = tt
only-at os (Some c) test has = has.0

pub named-is : (files : List Units) (n : ℕ) (name : List ℕ) (os : List Object) (Free : ℕ → Type 0) (P : ℕ → Object → Type 0) → HasFree os Free P → AllByRecursion (IsAt 0 os) (take n (constants files))
    → IfSome (option_and_then constant_meant (meaning_in_value name n files)) Free → NamedIs files n name P
named-is files n name os Free P has at free =
    meant-is os Free P (constant_named name (take n (constants files))) (option_map (λ q. meanings.Predeclared q) (predeclared name)) has
    (only-at os (constant_named name (take n (constants files))) (λ c. has_name name c.1) (found (IsAt 0 os) (λ c. has_name name c.1) (take n (constants files)) at)) free

-- ---- names that stand for operands

-- A constant is in a scope.
abbrev pub IsIn : Scope → ℕ → Object → Type 0
IsIn s k o = HasConstant s (constant.Package k) (type_of o.parts.subtype)

meant-standing : (s : Scope) (files : List Units) (n : ℕ) (i : Identifier) (o : Option (ℕ × Object)) (w : Option Predeclared) → IfSome o (λ c. IsIn s c.0 c.1)
    → HasStanding s (InPackage files n) i.name (option_map_or (standing_of (InPackage files n) i) (option_or (option_map (λ c. meanings.Constant c.0 c.1) o) (option_map (λ q. meanings.Predeclared q) w)) Nothing)
meant-standing s files n i None None has = tt
meant-standing s files n i None (Some w) has = tt
meant-standing s files n i (Some c) w has = has

identifier-there : (s : Scope) (files : List Units) (n : ℕ) (os : List Object) (Free : ℕ → Type 0) (i : Identifier) → HasFree os Free (IsIn s) → AllByRecursion (IsAt 0 os) (take n (constants files))
    → IfSome (option_and_then constant_meant (meaning_in_value i.name n files)) Free → HasIdentifier s (InPackage files n) i
identifier-there s files n os Free i has at free =
    meant-standing s files n i (constant_named i.name (take n (constants files))) (predeclared i.name) (named-is files n i.name os Free (IsIn s) has at free)

-- What a name at a node stands for is in a scope where the constant that it means is.
pub node-there : (s : Scope) (files : List Units) (n : ℕ) (os : List Object) (Free : ℕ → Type 0) → HasFree os Free (IsIn s) → AllByRecursion (IsAt 0 os) (take n (constants files)) → (v : Node) → IfSome (named_at files n v) Free
    → HasNameAt s (InPackage files n) v
node-there s files n os Free has at (Declaration d) free = tt
node-there s files n os Free has at (Interface i) free = tt
node-there s files n os Free has at (Concurrent k) free = tt
node-there s files n os Free has at (Sequential k) free = tt
node-there s files n os Free has at (Expression e) free = tt
node-there s files n os Free has at (Item i) free = tt
node-there s files n os Free has at (Name r) free = identifier-there s files n os Free r.identifier has at free

-- ---- names of symbols

meant-symbol : (o : Option (ℕ × Object)) (w : Option Predeclared) → IfSome o (λ c. SymbolGood c.1)
    → IfSome (option_or (option_map (λ c. meanings.Constant c.0 c.1) o) (option_map (λ q. meanings.Predeclared q) w)) MeaningGood
meant-symbol None None good = tt
meant-symbol None (Some w) good = tt
meant-symbol (Some c) w good = good

-- A symbol that a name at a node means is a character.
pub symbol-there : (files : List Units) (n : ℕ) (os : List Object) (Free : ℕ → Type 0) → HasFree os Free (λ k o. SymbolGood o) → AllByRecursion (IsAt 0 os) (take n (constants files)) → (v : Node) → IfSome (named_at files n v) Free
    → SymbolAt (scopes.InPackage files n) v
symbol-there files n os Free has at (Declaration d) free = tt
symbol-there files n os Free has at (Interface i) free = tt
symbol-there files n os Free has at (Concurrent k) free = tt
symbol-there files n os Free has at (Sequential k) free = tt
symbol-there files n os Free has at (Expression e) free = tt
symbol-there files n os Free has at (Item i) free = tt
symbol-there files n os Free has at (Name r) free =
    meant-symbol (constant_named r.identifier.name (take n (constants files))) (predeclared r.identifier.name) (named-is files n r.identifier.name os Free (λ k o. SymbolGood o) has at free)
