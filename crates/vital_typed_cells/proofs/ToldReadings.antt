-- What a node is worth of which it is told what comes of it, whichever type is asked.
use Rattle.std.proofs.Common.{◌≡◌, ◌≢◌, ℕ, true, List, [], ◌∷◌, map, Option}
use Rattle.std.specs.Prelude.{IsSome, is_some}
use Rattle.std.specs.List.{AllByRecursion, AllZip}
use Rattle.vital_nodes.specs.declared.expr.Actual.TheOpen.{Item-F}
use Rattle.vital_nodes.specs.declared.expr.Actual.TheViews.{out-Item}
use Rattle.vital_nodes.specs.declared.expr.Item.{Item}
use Rattle.vital_nodes.specs.Layers.{ItemLayer}
use Rattle.vital_operands.specs.Items.{are_positional, is_positional, others_in, others_value}
use Rattle.vital_timing.specs.declared.delay.DelayType.{DelayType}
use Rattle.vital_nodes.specs.Items.{actual, actual_in, positional_in}
use Rattle.vital_expr.specs.Reading.{Reading, booleans_of, levels_of, literals_of, texts_of}
use Rattle.vital_typed_cells.specs.Told.{IsTold}
use Rattle.vital_typed_cells.proofs.Outcomes.{all-mapped}
use Rattle.vital_typed_cells.proofs.ExprTests.{first-true, second-true}
use Rattle.vital_typed_cells.proofs.ExprTold.{told-all}

pub record ToldReading (r : Reading) : Type 0 where
  pub level : IsTold r.level
  pub vector : (asked : Option ℕ) → IsTold (r.vector asked)
  pub boolean : IsTold r.boolean
  pub time : IsTold r.time
  pub delay : (d : DelayType) → IsTold (r.delay d)
  pub text : IsTold r.text
  pub literal : IsTold r.literal
  pub own : r.own ≢ []

abbrev pub ToldReadings : List Reading → Type 0
ToldReadings rs = AllByRecursion ToldReading rs

-- ---- operands one after another

pub levels-told : (rs : List Reading) → ToldReadings rs → IsTold (levels_of rs)
levels-told rs told = told-all (map (λ r. r.level) rs) (all-mapped ToldReading IsTold (λ r. r.level) rs told (λ r holds. holds.level))

pub booleans-told : (rs : List Reading) → ToldReadings rs → IsTold (booleans_of rs)
booleans-told rs told = told-all (map (λ r. r.boolean) rs) (all-mapped ToldReading IsTold (λ r. r.boolean) rs told (λ r holds. holds.boolean))

pub texts-told : (rs : List Reading) → ToldReadings rs → IsTold (texts_of rs)
texts-told rs told = told-all (map (λ r. r.text) rs) (all-mapped ToldReading IsTold (λ r. r.text) rs told (λ r holds. holds.text))

pub literals-told : (rs : List Reading) → ToldReadings rs → IsTold (literals_of rs)
literals-told rs told = told-all (map (λ r. r.literal) rs) (all-mapped ToldReading IsTold (λ r. r.literal) rs told (λ r holds. holds.literal))

-- ---- items

-- It is told of an item that gives a value.
abbrev pub GivenTold : Item → Reading → Type 0
GivenTold i r = IsSome (actual i) → ToldReading r

abbrev pub ItemsTold : List Item → List Reading → Type 0
ItemsTold is rs = AllZip GivenTold is rs

pub positional-gives : (l : ItemLayer) → IsSome (positional_in l) → IsSome (actual_in l)
positional-gives (Item-F.Others place e) there = cc
positional-gives (Item-F.Item::Open place) there = there
positional-gives (Item-F.Positional c) there = there
positional-gives (Item-F.Named a) there = cc

others-give : (l : ItemLayer) → IsSome (others_in l) → IsSome (actual_in l)
others-give (Item-F.Others place e) there = there
others-give (Item-F.Item::Open place) there = there
others-give (Item-F.Positional c) there = cc
others-give (Item-F.Named a) there = cc

pub by-position : (i : Item) (r : Reading) → GivenTold i r → is_positional i ≡ true → ToldReading r
by-position i r told is = told (positional-gives (out-Item i) is)

pub by-others : (i : Item) (r : Reading) → GivenTold i r → is_some (others_value i) ≡ true → ToldReading r
by-others i r told is = told (others-give (out-Item i) is)

pub all-by-position : (is : List Item) (rs : List Reading) → ItemsTold is rs → are_positional is ≡ true → ToldReadings rs
all-by-position [] [] told all = tt
all-by-position [] (r ∷ rs) told all = absurd told
all-by-position (i ∷ is) [] told all = absurd told
all-by-position (i ∷ is) (r ∷ rs) told all =
    (by-position i r told.0 (first-true (is_positional i) (are_positional is) all), all-by-position is rs told.1 (second-true (is_positional i) (are_positional is) all))
