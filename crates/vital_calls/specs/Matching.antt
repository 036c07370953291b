-- How the items of a call are matched to formals (IEEE 1076-1993, 4.3.2.2, 7.3.3 and 8.6).
use Rattle.std.specs.Prelude.{ℕ, ◌==◌, nat_lt, Bool, true, false, not, ◌&&◌, ◌||◌, List, [], length, drop, Option, Some, None, is_none, if◌then◌else◌}
use Rattle.std.specs.List.{count_by, enumerate_from, find, list_all, list_any, prefix_len, slice_get}
use Rattle.std.specs.Option.{option_and_then, option_map, option_map_or}
use Rattle.std.specs.Str.{bytes_eq}
use Rattle.vital_nodes.specs.declared.expr.Actual.TheOpen.{Item-F}
use Rattle.vital_nodes.specs.declared.expr.Actual.TheViews.{out-Choice, out-Item}
use Rattle.vital_nodes.specs.declared.expr.Choice.{Choice}
use Rattle.vital_nodes.specs.declared.expr.Item.{Item}
use Rattle.vital_nodes.specs.declared.identifier.Identifier.{Identifier}
use Rattle.vital_nodes.specs.Layers.{ItemLayer}
use Rattle.vital_nodes.specs.Items.{formal, value_in_choice}
use Rattle.vital_nodes.specs.Names.{identifier_of}
use Rattle.vital_calls.specs.declared.actual_form.ActualForm.{ActualForm}
use Rattle.vital_calls.specs.declared.actual_form.ActualForm.TheVariants as form
use Rattle.vital_calls.specs.Formals.{Formal, Formals, Levels, PositionsOrNames, Names}

-- ---- what an item is for

-- An item by its position: a value, a range or `open`.
abbrev pub is_positional_in : ItemLayer → Bool
is_positional_in (Item-F.Others place e) = false
is_positional_in (Item-F.Item::Open place) = true
is_positional_in (Item-F.Positional c) = true
is_positional_in (Item-F.Named a) = false

unfoldable pub is_positional : Item → Bool
is_positional i = is_positional_in (out-Item i)

-- The plain identifier that a choice is.
abbrev pub identifier_of_choice : Choice → Option Identifier
identifier_of_choice c = option_and_then identifier_of (value_in_choice (out-Choice c))

-- The name before `=>`, where it is a plain identifier. Nothing else names a formal, and `others` does not.
abbrev pub name_of : Item → Option (List ℕ)
name_of i = option_map (λ identifier. identifier.name) (option_and_then identifier_of_choice (formal i))

-- The name of the formal at a position, or else the name before `=>`.
abbrev pub name_at : List Formal → ℕ → Item → Option (List ℕ)
name_at fs position i = if is_positional i then option_map (λ f. f.name) (slice_get fs position) else name_of i

-- The name of the formal that the item at a position, from 0, is for. Levels have no names, and where names are asked an item by
-- its position is for nothing.
unfoldable pub formal_name : Formals → ℕ → Item → Option (List ℕ)
formal_name (Levels count) position i = None
formal_name (PositionsOrNames fs) position i = name_at fs position i
formal_name (Names fs) position i = name_of i

-- The item at a position is for the formal of a name.
abbrev pub is_for : List ℕ → Formals → ℕ → Item → Bool
is_for name fs position i = option_map_or (λ n. bytes_eq n name) (formal_name fs position i) false

-- The formals that have names.
abbrev pub formals_in : Formals → List Formal
formals_in (Levels count) = []
formals_in (PositionsOrNames fs) = fs
formals_in (Names fs) = fs

-- The first formal of a name.
abbrev pub named : List ℕ → List Formal → Option Formal
named name fs = find (λ f. bytes_eq f.name name) fs

-- The formal that the item at a position is for. There is none of an unknown name, and none past the last position.
abbrev pub formal_of : Formals → ℕ → Item → Option Formal
formal_of fs position i = option_and_then (λ name. named name (formals_in fs)) (formal_name fs position i)

-- ---- which items are wrong

-- An item is for no formal.
abbrev pub has_unknown : Formals → List Item → Bool
has_unknown fs is = list_any (λ e. is_none (formal_of fs e.0 e.1)) (enumerate_from 0 is)

-- So many items are for a formal: two or more, or none for one that is required.
abbrev pub is_wrong_count : Formal → ℕ → Bool
is_wrong_count f count = nat_lt 1 count || (f.is_required && count == 0)

abbrev pub count_for : List ℕ → Formals → List Item → ℕ
count_for name fs is = count_by (λ e. is_for name fs e.0 e.1) (enumerate_from 0 is)

-- A formal has two items or more, or none where it is required.
abbrev pub has_wrong_count : Formals → List Item → Bool
has_wrong_count fs is = list_any (λ f. is_wrong_count f (count_for f.name fs is)) (formals_in fs)

abbrev pub are_mismatched : Formals → List Item → Bool
are_mismatched fs is = has_unknown fs is || has_wrong_count fs is

-- So many items, all by their positions.
abbrev pub are_by_position : ℕ → List Item → Bool
are_by_position count is = length is == count && list_all is_positional is

-- An item by its position stands behind one that is not.
abbrev pub has_late_position : List Item → Bool
has_late_position is = list_any is_positional (drop (prefix_len is_positional is) is)

-- The items of a call are wrong for formals.
unfoldable pub has_wrong_formals : Formals → List Item → Bool
has_wrong_formals (Levels count) is = not (are_by_position count is)
has_wrong_formals (PositionsOrNames fs) is = has_late_position is || are_mismatched (PositionsOrNames fs) is
has_wrong_formals (Names fs) is = are_mismatched (Names fs) is

-- ---- what is given to a formal

-- The first item that is for the formal of a name.
unfoldable pub actual_of : List Item → Formals → List ℕ → Option Item
actual_of is fs name = option_map (λ e. e.1) (find (λ e. is_for name fs e.0 e.1) (enumerate_from 0 is))

-- What the item at a position must be, if it is for a formal.
unfoldable pub form_of : Formals → ℕ → Item → Option ActualForm
form_of (Levels count) position i = if is_positional i && nat_lt position count then Some form.Level else None
form_of (PositionsOrNames fs) position i = option_map (λ f. f.form) (formal_of (PositionsOrNames fs) position i)
form_of (Names fs) position i = option_map (λ f. f.form) (formal_of (Names fs) position i)
