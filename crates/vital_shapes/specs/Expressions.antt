-- Names, expressions and items, by the rules of their grammar. A rule takes a step first, even where it has one alternative.
use Rattle.std.specs.Prelude.{ℕ, zero, suc, ◌==◌, nat_lt, if◌then◌else◌, List, [], ◌∷◌, slice_index, Option, Some, None}
use Rattle.vital_base.specs.declared.place.Place.{Place}
use Rattle.vital_nodes.specs.declared.expr.Logical.{Logical}
use Rattle.vital_nodes.specs.declared.expr.Logical.TheVariants as logicals
use Rattle.vital_nodes.specs.declared.expr.Relational.{Relational}
use Rattle.vital_nodes.specs.declared.expr.Relational.TheVariants as relationals
use Rattle.vital_nodes.specs.declared.expr.Sign.{Sign}
use Rattle.vital_nodes.specs.declared.expr.Sign.TheVariants as signs
use Rattle.vital_nodes.specs.declared.expr.Adding.{Adding}
use Rattle.vital_nodes.specs.declared.expr.Adding.TheVariants as addings
use Rattle.vital_nodes.specs.declared.expr.Multiplying.{Multiplying}
use Rattle.vital_nodes.specs.declared.expr.Multiplying.TheVariants as multiplyings
use Rattle.vital_nodes.specs.declared.expr.Direction.{Direction}
use Rattle.vital_nodes.specs.declared.expr.Direction.TheVariants as directions
use Rattle.vital_nodes.specs.declared.expr.Expr.{Expr}
use Rattle.vital_nodes.specs.declared.expr.Expr.TheVariants as e
use Rattle.vital_nodes.specs.declared.expr.Relation.{roll-Relation}
use Rattle.vital_nodes.specs.declared.expr.Sum.{roll-Sum}
use Rattle.vital_nodes.specs.declared.expr.Product.{roll-Product}
use Rattle.vital_nodes.specs.declared.expr.Range.{Range, roll-Range}
use Rattle.vital_nodes.specs.declared.expr.Association.{roll-Association}
use Rattle.vital_nodes.specs.declared.expr.Reference.{Reference, roll-Reference}
use Rattle.vital_nodes.specs.declared.expr.Suffix.{Suffix}
use Rattle.vital_nodes.specs.declared.expr.Suffix.TheVariants as suffixes
use Rattle.vital_nodes.specs.declared.expr.Item.{Item}
use Rattle.vital_nodes.specs.declared.expr.Item.TheVariants as forms
use Rattle.vital_nodes.specs.declared.expr.Choice.{Choice}
use Rattle.vital_nodes.specs.declared.expr.Choice.TheVariants as choices
use Rattle.vital_nodes.specs.declared.expr.Actual.{Actual}
use Rattle.vital_nodes.specs.declared.expr.Actual.TheVariants as actuals
use Rattle.vital_shapes.specs.Reading.{Reader, ◌>>=◌, ◌>>◌, pure, choice, skip, place, spelling, identifier, left, after, more, many, separated}

-- ---- what the alternatives of the rules of operators stand for, from 1 where the first is empty

unfoldable pub logical_of : ℕ → Logical
logical_of c =
    if c == 1 then logicals.And else (if c == 2 then logicals.Or else (if c == 3 then logicals.Xor else (if c == 4 then logicals.Xnor else (if c == 5 then logicals.Nand else logicals.Nor))))

unfoldable pub relational_of : ℕ → Relational
relational_of c =
    if c == 1 then relationals.Equal else (if c == 2 then relationals.NotEqual else (if c == 3 then relationals.Less else (if c == 4 then relationals.LessOrEqual else (if c == 5 then relationals.Greater else relationals.GreaterOrEqual))))

unfoldable pub sign_of : ℕ → Sign
sign_of c = if c == 1 then signs.Plus else signs.Minus

unfoldable pub adding_of : ℕ → Adding
adding_of c = if c == 1 then addings.Add else (if c == 2 then addings.Subtract else addings.Concatenate)

unfoldable pub multiplying_of : ℕ → Multiplying
multiplying_of c = if c == 1 then multiplyings.Multiply else multiplyings.Divide

unfoldable pub direction_of : ℕ → Direction
direction_of c = if c == 0 then directions.To else directions.Downto

unfoldable pub direction : Reader Direction
direction = do
  c ← choice
  skip
  pure (direction_of c)

-- ---- a sum or a product of one operand without an operator is that operand

unfoldable pub sum_of : Place → Option Sign → Expr → List (Adding × Expr) → Expr
sum_of p None first [] = first
sum_of p None first (second ∷ others) = e.Sum (roll-Sum (record { place = p; sign = None; first = first; others = second ∷ others }))
sum_of p (Some s) first others = e.Sum (roll-Sum (record { place = p; sign = Some s; first = first; others = others }))

unfoldable pub product_of : Place → Expr → List (Multiplying × Expr) → Expr
product_of p first [] = first
product_of p first (second ∷ others) = e.Product (roll-Product (record { place = p; first = first; others = second ∷ others }))

-- [ "+" | "-" ]
unfoldable pub sign_before : Reader (Option Sign)
sign_before = do
  c ← choice
  if c == 0 then pure None else (skip >> pure (Some (sign_of c)))

-- number [ id ]
unfoldable pub number : Reader Expr
number = do
  p ← place
  digits ← spelling
  has_unit ← choice
  if has_unit == 0 then pure (e.Number p digits) else (do
    unit ← identifier
    pure (e.Physical (record { place = p; number = digits; unit = unit })))

-- The parameter reads the items in parentheses.
module _ (items : Reader (List Item)) where
  -- "(" items ")"
  unfoldable pub in_parentheses : Reader (List Item)
  in_parentheses = do
    skip
    found ← items
    skip
    pure found

  -- id | "all"
  unfoldable pub selected : Reader Suffix
  selected = do
    skip
    c ← choice
    if c == 0 then (identifier >>= λ x. pure (suffixes.Selected x)) else (do
      p ← place
      skip
      pure (suffixes.All p))

  -- id | "(" items ")"
  unfoldable pub ticked : Reader Suffix
  ticked = do
    skip
    c ← choice
    if c == 0 then (identifier >>= λ x. pure (suffixes.Attribute x)) else (in_parentheses >>= λ found. pure (suffixes.Qualified found))

  unfoldable pub suffix : ℕ → Reader Suffix
  suffix c = if c == 1 then selected else (if c == 2 then ticked else (in_parentheses >>= λ found. pure (suffixes.Items found)))

  -- name = id suffixes
  unfoldable pub reference : Reader Reference
  reference = do
    choice
    first ← identifier
    found ← many suffix
    pure (roll-Reference (record { identifier = first; suffixes = found }))

  -- prim = number [ id ] | character | string | name | "(" items ")"
  unfoldable pub primary : Reader Expr
  primary = do
    c ← choice
    if c == 0 then number else (if c == 3 then (reference >>= λ x. pure (e.Reference x)) else (do
      p ← place
      if c == 1 then (spelling >>= λ x. pure (e.Character p (slice_index x 1))) else (if c == 2 then (spelling >>= λ x. pure (e.StringLiteral p x)) else (in_parentheses >>= λ x. pure (e.Parenthesized p x)))))

  -- factor = "not" prim | prim
  unfoldable pub factor : Reader Expr
  factor = do
    c ← choice
    p ← place
    if c == 0 then (do skip; x ← primary; pure (e.Not p x)) else primary

  unfoldable pub next_factor : ℕ → Reader (Multiplying × Expr)
  next_factor c = do
    skip
    x ← factor
    pure (multiplying_of c, x)

  -- { ( "*" | "/" ) factor }, after the first factor
  unfoldable pub after_factor : Place → Expr → Reader Expr
  after_factor p first = many next_factor >>= λ others. pure (product_of p first others)

  -- term = factor { ( "*" | "/" ) factor }
  unfoldable pub term : Reader Expr
  term = do
    choice
    p ← place
    first ← factor
    after_factor p first

  unfoldable pub next_term : ℕ → Reader (Adding × Expr)
  next_term c = do
    skip
    x ← term
    pure (adding_of c, x)

  -- { ( "+" | "-" | "&" ) term }, after the first term
  unfoldable pub after_term : Place → Option Sign → Expr → Reader Expr
  after_term p s first = many next_term >>= λ others. pure (sum_of p s first others)

  -- sum = [ "+" | "-" ] term { ( "+" | "-" | "&" ) term }
  unfoldable pub simple : Reader Expr
  simple = do
    choice
    p ← place
    s ← sign_before
    first ← term
    after_term p s first

  -- [ ( "=" | "/=" | "<" | "<=" | ">" | ">=" ) sum ], after the first sum
  unfoldable pub after_sum : Place → Expr → Reader Expr
  after_sum p first = do
    c ← choice
    if c == 0 then pure first else (do
      skip
      second ← simple
      pure (e.Relation (roll-Relation (record { place = p; operator = relational_of c; left = first; right = second }))))

  -- rel = sum [ ( "=" | "/=" | "<" | "<=" | ">" | ">=" ) sum ]
  unfoldable pub relation : Reader Expr
  relation = do
    choice
    p ← place
    first ← simple
    after_sum p first

  -- the operands from the second on: `nand` and `nor` take no more than two
  unfoldable pub operands : Expr → ℕ → Reader (List Expr)
  operands first c = do
    skip
    second ← relation
    if nat_lt 4 c then pure (first ∷ second ∷ []) else more (λ _. after relation) (first ∷ second ∷ [])

  -- [ "and" rel { "and" rel } | .. ], after the first relation
  unfoldable pub after_relation : Place → Expr → Reader Expr
  after_relation p first = do
    c ← choice
    if c == 0 then pure first else (do
      found ← operands first c
      pure (e.Logical p (logical_of c) found))

  -- expr = rel [ "and" rel { "and" rel } | .. ]
  unfoldable pub expr : Reader Expr
  expr = do
    choice
    p ← place
    first ← relation
    after_relation p first

  -- dir expr, after the left bound
  unfoldable pub range : Expr → Reader Range
  range left = do
    d ← direction
    right ← expr
    pure (roll-Range (record { left = left; direction = d; right = right }))

  -- expr [ dir expr ]
  unfoldable pub value_or_range : Reader Choice
  value_or_range = do
    left ← expr
    c ← choice
    if c == 0 then pure (choices.Value left) else (range left >>= λ x. pure (choices.Range x))

  -- expr | "open"
  unfoldable pub actual : Reader Actual
  actual = do
    c ← choice
    p ← place
    if c == 0 then (expr >>= λ x. pure (actuals.Value x)) else skip >> pure (actuals.Open p)

  -- expr [ dir expr ] [ "=>" ( expr | "open" ) ]
  unfoldable pub association : Reader Item
  association = do
    first ← value_or_range
    c ← choice
    if c == 0 then pure (forms.Positional first) else (do
      skip
      x ← actual
      pure (forms.Named (roll-Association (record { formal = first; actual = x }))))

  -- item = "others" "=>" expr | "open" | expr [ dir expr ] [ "=>" ( expr | "open" ) ]
  unfoldable pub one_item : Reader Item
  one_item = do
    c ← choice
    p ← place
    if c == 0 then (do skip; skip; x ← expr; pure (forms.Others p x)) else (if c == 1 then skip >> pure (forms.Open p) else association)

  -- items = item { "," item }
  unfoldable pub item_list : Reader (List Item)
  item_list = choice >> separated one_item

-- Items with so many levels of parentheses in them, or fewer; each level takes a step.
unfoldable pub items_within : ℕ → Reader (List Item)
items_within zero = pure []
items_within (suc levels) = item_list (items_within levels)

-- ---- the same where they stand in no parentheses: no more levels than steps are left

abbrev pub items : Reader (List Item)
items = λ i. items_within (left i) i

abbrev pub expression : Reader Expr
expression = λ i. expr (items_within (left i)) i

abbrev pub name : Reader Reference
name = λ i. reference (items_within (left i)) i

abbrev pub suffix_list : Reader (List Suffix)
suffix_list = λ i. many (suffix (items_within (left i))) i

-- name { "," name }
unfoldable pub names : Reader (List Reference)
names = separated name

-- [ word expr ], as a default after `:=` or a delay after `after`
unfoldable pub optional_value : Reader (Option Expr)
optional_value = do
  c ← choice
  if c == 0 then pure None else (do
    skip
    x ← expression
    pure (Some x))
