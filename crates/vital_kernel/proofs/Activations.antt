-- Processes that run one after the other.
use Rattle.std.proofs.Common.{◌≡◌, ◌∙◌, ℕ, List, [], ◌∷◌, ◌++◌, Some, None, Option, refl, ap, sym, subst, append_assoc}
use Rattle.std.specs.List.{flat_map}
use Rattle.std.specs.Prelude.{slice_get}
use Rattle.std.specs.Option.{option_map}
use Rattle.std.proofs.lemmas.List.{append-nil}
use Rattle.std.proofs.lemmas.List.Concat.{flat_map-append}
use Rattle.vital_kernel.specs.Activations.{from_state, message_text, name_of, text_in}
use Rattle.vital_kernel.specs.Cycles.{Happening, Part, activated, all_activated, said}
use Rattle.vital_kernel.specs.Lines.{bit_in, lines_of, path_in}
use Rattle.vital_kernel.specs.States.{State}
use Rattle.vital_kernel.proofs.Texts.{Left, left_less}
use Rattle.vital_machine.specs.declared.effect.Effect.{Effect}
use Rattle.vital_machine.specs.declared.effect.Effect.TheVariants as effect
use Rattle.vital_kernel.specs.Networks.{NetCell, NetProcess, Network}
use Rattle.vital_report.specs.Lines.{bytes_of, glitch, text_of, violation}
use Rattle.vital_report.specs.Reporters.{PrinterState, Printed}

-- ---- what happened before comes first

abbrev pub behind_part : List Happening → Part → Part
behind_part before part = record { state = part.state; happened = before ++ part.happened }

activated_behind : (before : List Happening) (part : Part) (p : NetProcess) → activated (behind_part before part) p ≡ behind_part before (activated part p)
activated_behind before part p =
    let next = activated part p in
    let more : List Happening = (activated (record { state = part.state; happened = [] }) p).happened in
    ap (λ (h : List Happening). let it : Part = record { state = next.state; happened = h } in it) (append_assoc before part.happened more)

pub all_behind : (ps : List NetProcess) (before : List Happening) (part : Part) → all_activated ps (behind_part before part) ≡ behind_part before (all_activated ps part)
all_behind [] before part = refl
all_behind (p ∷ ps) before part = ap (all_activated ps) (activated_behind before part p) ∙ all_behind ps before (activated part p)

-- a part begins where nothing has happened yet
pub behind_none : (part : Part) → behind_part part.happened (from_state part.state) ≡ part
behind_none part =
    ap (λ (h : List Happening). let it : Part = record { state = part.state; happened = h } in it) (append-nil part.happened)

-- some processes run from a part on
pub all_from : (ps : List NetProcess) (part : Part) → all_activated ps part ≡ behind_part part.happened (all_activated ps (from_state part.state))
all_from ps part = ap (all_activated ps) (sym (behind_none part)) ∙ all_behind ps part.happened (from_state part.state)

pub text_in-append : (n : Network) (xs ys : List Happening) → text_in n (xs ++ ys) ≡ text_in n xs ++ text_in n ys
text_in-append n xs ys = ap text_of (flat_map-append (lines_of n) xs ys) ∙ flat_map-append bytes_of (flat_map (lines_of n) xs) (flat_map (lines_of n) ys)

-- ---- processes that are left to run

-- these processes are left to run from a state on: then a state and a whole text are reached
pub record ToRun (n : Network) (last : State) (start : PrinterState) (whole : List ℕ) (ps : List NetProcess) (s : State) (now : PrinterState) : Type 0 where
  pub state : (all_activated ps (from_state s)).state ≡ last
  pub left : Left start whole (text_in n (all_activated ps (from_state s)).happened) now

-- the first of them and the others
pub first_runs : (n : Network) (last : State) (start : PrinterState) (whole : List ℕ) (p : NetProcess) (ps : List NetProcess) (s : State) (now : PrinterState)
    → ToRun n last start whole (p ∷ ps) s now
    → let one = activated (from_state s) p in
    ((all_activated ps (from_state one.state)).state ≡ last) × Left start whole (text_in n one.happened ++ text_in n (all_activated ps (from_state one.state)).happened) now
first_runs n last start whole p ps s now h =
    let one = activated (from_state s) p in
    let rest = all_activated ps (from_state one.state) in
    let is : all_activated (p ∷ ps) (from_state s) ≡ behind_part one.happened rest = all_from ps one in (
      sym (ap (λ (x : Part). x.state) is) ∙ h.state,
      subst (λ (text : List ℕ). Left start whole text now) (ap (λ (x : Part). text_in n x.happened) is ∙ text_in-append n one.happened rest.happened) h.left,
    )

pub one_ran : (n : Network) (last : State) (start : PrinterState) (whole : List ℕ) (p : NetProcess) (ps : List NetProcess) (s next : State) (now later : PrinterState)
    → ToRun n last start whole (p ∷ ps) s now → next ≡ (activated (from_state s) p).state → Printed (text_in n (activated (from_state s) p).happened) now later
    → ToRun n last start whole ps next later
one_ran n last start whole p ps s next now later h after printed =
    let one = activated (from_state s) p in
    let both = first_runs n last start whole p ps s now h in
    subst (λ (x : State). ToRun n last start whole ps x later) (sym after) (record {
      state = both.0;
      left = left_less start whole (text_in n one.happened) (text_in n (all_activated ps (from_state one.state)).happened) now later both.1 printed;
    })

-- ---- the effects of one process

name_in : (n : Network) (cell : NetCell) (instance bit : ℕ) → slice_get n.cells instance ≡ Some cell → bit_in n instance bit ≡ name_of cell.tree bit
name_in n cell instance bit e = rw e refl

path_of_cell : (n : Network) (cell : NetCell) (instance : ℕ) → slice_get n.cells instance ≡ Some cell → path_in n instance ≡ cell.path
path_of_cell n cell instance e = rw e refl

names_in : (n : Network) (cell : NetCell) (instance : ℕ) (bit : Option ℕ) → slice_get n.cells instance ≡ Some cell → option_map (bit_in n instance) bit ≡ option_map (name_of cell.tree) bit
names_in n cell instance None e = refl
names_in n cell instance (Some bit) e = ap (λ (name : List ℕ). Some name) (name_in n cell instance bit e)

-- the text of what is said of an effect is its message
message_is : (n : Network) (cell : NetCell) (time delta instance : ℕ) (e : Effect) → slice_get n.cells instance ≡ Some cell
    → text_in n (said time delta instance e) ≡ message_text time delta cell e
message_is n cell time delta instance (effect.Assign driver s) is = refl
message_is n cell time delta instance (effect.Glitch port) is =
    append-nil (bytes_of (glitch time delta (path_in n instance) (bit_in n instance port)))
    ∙ ap (λ (path : List ℕ). bytes_of (glitch time delta path (bit_in n instance port))) (path_of_cell n cell instance is)
    ∙ ap (λ (port : List ℕ). bytes_of (glitch time delta cell.path port)) (name_in n cell instance port is)
message_is n cell time delta instance (effect.Violation test reference violated) is =
    append-nil (bytes_of (violation time delta (path_in n instance) (bit_in n instance test) (option_map (bit_in n instance) reference) violated))
    ∙ ap (λ (path : List ℕ). bytes_of (violation time delta path (bit_in n instance test) (option_map (bit_in n instance) reference) violated)) (path_of_cell n cell instance is)
    ∙ ap (λ (name : List ℕ). bytes_of (violation time delta cell.path name (option_map (bit_in n instance) reference) violated)) (name_in n cell instance test is)
    ∙ ap (λ (names : Option (List ℕ)). bytes_of (violation time delta cell.path (name_of cell.tree test) names violated)) (names_in n cell instance reference is)

pub messages_are : (n : Network) (cell : NetCell) (time delta instance : ℕ) (es : List Effect) → slice_get n.cells instance ≡ Some cell
    → text_in n (flat_map (said time delta instance) es) ≡ flat_map (message_text time delta cell) es
messages_are n cell time delta instance [] is = refl
messages_are n cell time delta instance (e ∷ es) is =
    text_in-append n (said time delta instance e) (flat_map (said time delta instance) es)
    ∙ ap (λ (text : List ℕ). text ++ text_in n (flat_map (said time delta instance) es)) (message_is n cell time delta instance e is)
    ∙ ap (λ (text : List ℕ). message_text time delta cell e ++ text) (messages_are n cell time delta instance es is)
