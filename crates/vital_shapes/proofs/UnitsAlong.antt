-- Units that stand along the tokens of a file.
use Rattle.std.proofs.Common.{List, [], ◌∷◌, ◌++◌}
use Rattle.std.specs.List.{flat_map}
use Rattle.vital_lex.specs.declared.token_list.Token.{Token}
use Rattle.vital_nodes.specs.Nodes.{parts_of_unit}
use Rattle.vital_nodes.specs.Places.{place_of_unit}
use Rattle.vital_nodes.specs.declared.identifier.Identifier.{Identifier}
use Rattle.vital_nodes.specs.declared.unit.Unit.{Unit as Unit'}
use Rattle.vital_shapes.specs.Standing.{identifiers_in_head}
use Rattle.vital_shapes.proofs.Along.{Source, Stands, Along, stay, joined, led}

-- identifiers one after another
pub data HeadAlong (o : Source) : List Token → List Identifier → List Token → Type 0 where
  head_ends : {ts us : List Token} → Along o ts [] us → HeadAlong o ts [] us
  next_identifier : {ts us ws : List Token} {x : Identifier} {xs : List Identifier} → Along o ts [] us → Stands o us x.place → HeadAlong o us xs ws → HeadAlong o ts (x ∷ xs) ws

head_passed : {o : Source} {ts us : List Token} {xs : List Identifier} → HeadAlong o ts xs us → Along o ts [] us
head_passed (head_ends a) = a
head_passed (next_identifier a here r) = led a (head_passed r)

-- a unit that stands at the first of the tokens, the identifiers in its head, and its nodes
pub record UnitAlong (o : Source) (ts : List Token) (x : Unit') (us : List Token) : Type 0 where
  pub stands : Stands o ts (place_of_unit x)
  pub behind : List Token
  pub head : HeadAlong o ts (identifiers_in_head x) behind
  pub inside : Along o behind (parts_of_unit x) us

-- units one after another
pub data UnitsAlong (o : Source) : List Token → List Unit' → List Token → Type 0 where
  no_unit : {ts us : List Token} → Along o ts [] us → UnitsAlong o ts [] us
  next_unit : {ts us ws vs : List Token} {x : Unit'} {xs : List Unit'} → Along o ts [] us → UnitAlong o us x ws → UnitsAlong o ws xs vs → UnitsAlong o ts (x ∷ xs) vs

units_led : {o : Source} {ts us ws : List Token} {xs : List Unit'} → Along o ts [] us → UnitsAlong o us xs ws → UnitsAlong o ts xs ws
units_led a (no_unit b) = no_unit (led a b)
units_led a (next_unit b x r) = next_unit (led a b) x r

pub units_joined : {o : Source} (ts us ws : List Token) (xs ys : List Unit') → UnitsAlong o ts xs us → UnitsAlong o us ys ws → UnitsAlong o ts (xs ++ ys) ws
units_joined ts us ws xs ys a b = joins a b
  where
    joins : {o : Source} {ts us ws : List Token} {xs ys : List Unit'} → UnitsAlong o ts xs us → UnitsAlong o us ys ws → UnitsAlong o ts (xs ++ ys) ws
    joins (no_unit a) b = units_led a b
    joins (next_unit a x r) b = next_unit a x (joins r b)

pub one_unit : {o : Source} {ts us : List Token} {x : Unit'} → UnitAlong o ts x us → UnitsAlong o ts (x ∷ []) us
one_unit x = next_unit stay x (no_unit stay)

-- the nodes that they hold
pub parts_along : {o : Source} {ts us : List Token} {xs : List Unit'} → UnitsAlong o ts xs us → Along o ts (flat_map parts_of_unit xs) us
parts_along (no_unit a) = a
parts_along (next_unit a x r) = led a (led (head_passed x.head) (joined x.inside (parts_along r)))
