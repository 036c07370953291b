-- The variables in which the sections of a process keep their states are among those that its calls are given to keep them.
use Rattle.std.proofs.Common.{◌≡◌, ℕ, ◌+◌, ◌≤◌, Bool, true, false, List, [], ◌∷◌, ◌++◌, Option, Some, None, get_or, map, refl, ap, ◌∙◌, arith}
use Rattle.std.proofs.lemmas.List.{map-append}
use Rattle.std.proofs.lemmas.List.Elements.{All-map, filter_map-append}
use Rattle.std.specs.Prelude.{All, codes, unwrap_or, if◌then◌else◌}
use Rattle.std.specs.List.{IsDistinct, cons_option, filter_map, flat_map}
use Rattle.std.specs.Str.{bytes_eq}
use Rattle.std.specs.Option.{option_and_then, option_map, option_map_or}
use Rattle.vital_actuals.specs.declared.actual.Path.{Path}
use Rattle.vital_actuals.specs.Kinds.{fits, operand_in, operand_named}
use Rattle.vital_base.specs.declared.place.Place.{Place}
use Rattle.vital_calls.specs.declared.actual_form.ActualForm.{ActualForm}
use Rattle.vital_calls.specs.declared.actual_form.ActualForm.TheVariants as form
use Rattle.vital_call_clauses.specs.WrongCalls.{has_vector_result}
use Rattle.vital_calls.specs.Calls.{items_behind}
use Rattle.vital_calls.specs.Formals.{Formal, Formals, Names, formals_of_procedure, path_delay as path_delay_formals, period_pulse_check, recovery_removal_check, setup_hold_check}
use Rattle.vital_calls.specs.Matching.{form_of, named}
use Rattle.vital_typed_cells.specs.Processes.{process}
use Rattle.vital_declarations.specs.Operands.{OperandKind, Signal, Port, VariableOf, ConstantOf, Generic, AliasOf, NoOperand, is_of_levels, object_kind}
use Rattle.vital_names.specs.declared.predeclared.Check.TheVariants as check_is
use Rattle.vital_names.specs.declared.predeclared.Procedure.{Procedure}
use Rattle.vital_names.specs.declared.predeclared.Procedure.TheVariants as procedure
use Rattle.vital_names.specs.declared.site.CellUnit.TheVariants.{Architecture}
use Rattle.vital_names.specs.Declarations as declared
use Rattle.vital_names.specs.Kinds.{procedure_meant}
use Rattle.vital_names.specs.Meanings.{Meaning}
use Rattle.vital_names.specs.Meanings as meanings
use Rattle.vital_names.specs.Sites.{Cell}
use Rattle.vital_nodes.specs.declared.decl.Object.{Object}
use Rattle.vital_nodes.specs.declared.decl.ObjectClass.{ObjectClass}
use Rattle.vital_nodes.specs.declared.decl.ObjectClass.TheVariants as class
use Rattle.vital_nodes.specs.declared.expr.Item.{Item}
use Rattle.vital_nodes.specs.declared.expr.Suffix.{Suffix}
use Rattle.vital_nodes.specs.declared.identifier.Identifier.{Identifier}
use Rattle.vital_nodes.specs.declared.stmt.Process.{Process}
use Rattle.vital_nodes.specs.declared.stmt.Stmt.{Stmt}
use Rattle.vital_nodes.specs.declared.stmt.Stmt.TheOpen.{Stmt-F}
use Rattle.vital_nodes.specs.declared.stmt.Stmt.TheViews.{out-Stmt}
use Rattle.vital_nodes.specs.Layers.{StmtLayer}
use Rattle.vital_operands.specs.declared.tree.LevelExpr.{LevelExpr}
use Rattle.vital_operands.specs.Positions.{InStatement, Nothing, meaning_at, standing_of}
use Rattle.vital_sections.specs.declared.timing_check.CheckParts.{CheckParts}
use Rattle.vital_sections.specs.declared.timing_check.TimingCheck.TheVariants as checks
use Rattle.vital_sections.specs.Given.{GivenCall, edge_given, level_given, name_given, paths_given}
use Rattle.vital_sections.specs.PathDelays.{path_delay_with}
use Rattle.vital_sections.specs.Sections.{called_by, check, check_called, path_delay_called, path_delay_of, sections}
use Rattle.vital_sections.specs.TimingChecks.{parts, period_pulse_with, recovery_removal_with, reference_with, setup_hold_with}
use Rattle.vital_statements.specs.Called.{call_in, procedure_of}
use Rattle.vital_statements.specs.Sites.{site_at}
use Rattle.vital_timing.specs.declared.delay.DelayType.{DelayType}
use Rattle.vital_typed_statements.specs.Statements.{context}
use Rattle.vital_uses.specs.NamesAt.{at}
use Rattle.vital_uses.specs.Statements.{processes as processes_of}
use Rattle.vital_variables.specs.declared.formal_use.FormalUse.TheVariants.{State}
use Rattle.vital_variables.specs.FormalUses.{is_of, keeps_state}
use Rattle.vital_variables.specs.Given.{form_for, given, given_by, given_in, given_to, identifier_given}
use Rattle.vital_variables.specs.Meant.{meant, meant_from}
use Rattle.vital_variables.specs.Variables.{direct_use, is_variable_class, means_variable}
use Rattle.vital_nodes.specs.Calls.{items_if_only}
use Rattle.vital_nodes.specs.Names.{items_of}
use Rattle.vital_nodes.specs.Statements.{all_sequential}
use Rattle.vital_typed_cells.specs.Kept.{names_kept}
use Rattle.vital_typed_cells.specs.KeptStates.{kept, kept_by}
use Rattle.vital_typed_cells.proofs.NamesGiven.{AsksName, form-is, item-named, name-found}
use Rattle.vital_typed_cells.proofs.Parts.{IsPart, distinct-part, if_there, map-put, times, times-append, times-put}

-- ---- forms that ask for a variable that keeps a state

data Keeps : ActualForm → Type 0 where
  glitch : Keeps form.GlitchData
  timing : Keeps form.TimingData
  period : Keeps form.PeriodData

asks : {f : ActualForm} → Keeps f → AsksName f
asks glitch = λ c e. refl
asks timing = λ c e. refl
asks period = λ c e. refl

keeps-so : {f : ActualForm} → Keeps f → keeps_state f ≡ true
keeps-so glitch = refl
keeps-so timing = refl
keeps-so period = refl

abbrev is_variable_kind : OperandKind → Bool
is_variable_kind (VariableOf t) = true
is_variable_kind other = false

glitch-kind : (k : OperandKind) → fits form.GlitchData k ≡ true → is_variable_kind k ≡ true
glitch-kind Signal is = is
glitch-kind (Port m t) is = is
glitch-kind (VariableOf t) is = refl
glitch-kind (ConstantOf t) is = is
glitch-kind (Generic t) is = is
glitch-kind (AliasOf t) is = is
glitch-kind NoOperand is = is

timing-kind : (k : OperandKind) → fits form.TimingData k ≡ true → is_variable_kind k ≡ true
timing-kind Signal is = is
timing-kind (Port m t) is = is
timing-kind (VariableOf t) is = refl
timing-kind (ConstantOf t) is = is
timing-kind (Generic t) is = is
timing-kind (AliasOf t) is = is
timing-kind NoOperand is = is

period-kind : (k : OperandKind) → fits form.PeriodData k ≡ true → is_variable_kind k ≡ true
period-kind Signal is = is
period-kind (Port m t) is = is
period-kind (VariableOf t) is = refl
period-kind (ConstantOf t) is = is
period-kind (Generic t) is = is
period-kind (AliasOf t) is = is
period-kind NoOperand is = is

of-variable : {f : ActualForm} → Keeps f → (k : OperandKind) → fits f k ≡ true → is_variable_kind k ≡ true
of-variable glitch = glitch-kind
of-variable timing = timing-kind
of-variable period = period-kind

no-signal : (b : Bool) → is_variable_kind (if b then Signal else NoOperand) ≡ true → false ≡ true
no-signal true is = is
no-signal false is = is

by-class : (k : ObjectClass) (o : Object) → is_variable_kind (object_kind k o) ≡ true → is_variable_class k ≡ true
by-class class.Constant o is = is
by-class class.Signal o is = no-signal (is_of_levels o) is
by-class class.Variable o is = refl

-- ---- what is kept is what is given for one formal

glitch-of : (k : GivenCall) (d : DelayType) (n : List ℕ) (o g : Option (List ℕ)) (t : Option LevelExpr) (ps : Option (List Path))
    → if_there n (option_map (λ x. x.glitch_data) (option_and_then (λ a. option_and_then (λ b. option_and_then (λ e. option_map (path_delay_with k d a b e) ps) t) g) o)) ≤ if_there n g
glitch-of k d n None g t ps = omega arith
glitch-of k d n (Some a) None t ps = omega arith
glitch-of k d n (Some a) (Some b) None ps = omega arith
glitch-of k d n (Some a) (Some b) (Some e) None = omega arith
glitch-of k d n (Some a) (Some b) (Some e) (Some qs) = omega arith

setup-of : (k : GivenCall) (n : List ℕ) (ps : Option CheckParts) (t s : Option (List ℕ)) (e : Option ℕ)
    → if_there n (option_map kept_by (option_and_then (λ q. option_map (λ r. checks.SetupHold (setup_hold_with k q r)) (option_and_then (λ a. option_and_then (λ b. option_map (reference_with a b) e) s) t)) ps))
    ≤ if_there n t
setup-of k n None t s e = omega arith
setup-of k n (Some q) None s e = omega arith
setup-of k n (Some q) (Some a) None e = omega arith
setup-of k n (Some q) (Some a) (Some b) None = omega arith
setup-of k n (Some q) (Some a) (Some b) (Some x) = omega arith

recovery-of : (k : GivenCall) (n : List ℕ) (ps : Option CheckParts) (t s : Option (List ℕ)) (e : Option ℕ)
    → if_there n (option_map kept_by (option_and_then (λ q. option_map (λ r. checks.RecoveryRemoval (recovery_removal_with k q r)) (option_and_then (λ a. option_and_then (λ b. option_map (reference_with a b) e) s) t)) ps))
    ≤ if_there n t
recovery-of k n None t s e = omega arith
recovery-of k n (Some q) None s e = omega arith
recovery-of k n (Some q) (Some a) None e = omega arith
recovery-of k n (Some q) (Some a) (Some b) None = omega arith
recovery-of k n (Some q) (Some a) (Some b) (Some x) = omega arith

period-of : (k : GivenCall) (n : List ℕ) (ps : Option CheckParts) (t : Option (List ℕ))
    → if_there n (option_map kept_by (option_and_then (λ q. option_map (λ m. checks.PeriodPulse (period_pulse_with k q m)) t) ps)) ≤ if_there n t
period-of k n None t = omega arith
period-of k n (Some q) None = omega arith
period-of k n (Some q) (Some a) = omega arith

abbrev check_of : Option (Procedure × GivenCall) → Option (List ℕ)
check_of o = option_map kept_by (option_and_then (λ c. check_called c.0 c.1) o)

abbrev delay_of : Option (Procedure × GivenCall) → Option (List ℕ)
delay_of o = option_map (λ d. d.glitch_data) (option_and_then (λ c. path_delay_called c.0 c.1) o)

module _ (cell : Cell) (p : Process) where
  by-meaning : (i : Identifier) (m : Option Meaning) → is_variable_kind (operand_in (option_map_or (standing_of (InStatement cell Architecture (Some p)) i) m Nothing)) ≡ true → means_variable m ≡ true
  by-meaning i None is = is
  by-meaning i (Some (meanings.Declared (declared.Generic g))) is = is
  by-meaning i (Some (meanings.Declared (declared.Port q))) is = is
  by-meaning i (Some (meanings.Declared (declared.Object o))) is = by-class o.«class» o is
  by-meaning i (Some (meanings.Declared (declared.Alias a))) is = is
  by-meaning i (Some (meanings.Constant n o)) is = is
  by-meaning i (Some (meanings.Predeclared w)) is = is

  abbrev used_name : Option Identifier → Option (List ℕ)
  used_name o = option_map (λ u. u.name) (option_and_then (direct_use cell p) o)

  variable-used : {f : ActualForm} → Keeps f → (x : Identifier) → fits f (operand_named (InStatement cell Architecture (Some p)) x) ≡ true → used_name (Some x) ≡ Some x.name
  unfolding meant_from
  variable-used keeps x is =
      ap (λ b. option_map (λ u. u.name) (if b then Some (at x) else None)) (by-meaning x (meaning_at (InStatement cell Architecture (Some p)) x) (of-variable keeps (operand_named (InStatement cell Architecture (Some p)) x) is))

  -- ---- one call

  abbrev found : Procedure → Item → Option (List ℕ)
  found q i = used_name (given_by State q i)

  given-here : {f : ActualForm} → Keeps f → (q : Procedure) (fs : List Formal) → formals_of_procedure q false ≡ Names fs → (i : Item) → form_of (Names fs) 0 i ≡ Some f
      → given_by State q i ≡ identifier_given i
  unfolding form_for
  given-here {f} keeps q fs formals i is =
      ap (λ o. if option_map_or (is_of State) o false then identifier_given i else None) (ap (λ gs. form_of gs 0 i) formals ∙ is)
      ∙ ap (λ b. if b then identifier_given i else None) (keeps-so keeps)

  abbrev call_with : List Place → Formals → List Item → GivenCall
  call_with faults fs is = record { context = context cell (Some p) faults; formals = fs; items = is }

  one-call : {f : ActualForm} → Keeps f → (faults : List Place) (q : Procedure) (fs : List Formal) → formals_of_procedure q false ≡ Names fs → (name : List ℕ)
      → option_map (λ x. x.form) (named name fs) ≡ Some f → (n : List ℕ) (is : List Item) → if_there n (name_given (call_with faults (Names fs) is) name f) ≤ times n (filter_map (found q) is)
  one-call {f} keeps faults q fs formals name asked n is =
      name-found (context cell (Some p) faults) fs is name f (found q) n
      (λ position i there.
      let here = item-named (context cell (Some p) faults) f i n used_name (asks keeps) (variable-used keeps) in
      omega (arith, here, ap (λ o. if_there n (used_name o)) (given-here keeps q fs formals i (form-is fs name f position i asked there))))

  in-call : (faults : List Place) (q : Procedure) (b : Bool) (n : List ℕ) (is : List Item)
      → if_there n (check_of (Some (q, call_with faults (formals_of_procedure q b) is))) + if_there n (delay_of (Some (q, call_with faults (formals_of_procedure q b) is))) ≤ times n (filter_map (found q) is)
  unfolding formals_of_procedure
  in-call faults procedure.WireDelay b n is = omega arith
  in-call faults procedure.StateTable b n is = omega arith
  in-call faults (procedure.PathDelay d) b n is =
      let k = call_with faults (Names (path_delay_formals d)) is in
      let kept-one = glitch-of k d n (name_given k (codes "outsignal") form.OutPort) (name_given k (codes "glitchdata") form.GlitchData) (level_given k (codes "outtemp")) (paths_given k d) in
      let there = one-call glitch faults (procedure.PathDelay d) (path_delay_formals d) refl (codes "glitchdata") refl n is in
      omega arith
  in-call faults (procedure.Check check_is.SetupHold) b n is =
      let k = call_with faults (Names setup_hold_check) is in
      let kept-one = setup-of k n (parts k) (name_given k (codes "timingdata") form.TimingData) (name_given k (codes "refsignal") form.Signal) (edge_given k) in
      let there = one-call timing faults (procedure.Check check_is.SetupHold) setup_hold_check refl (codes "timingdata") refl n is in
      omega arith
  in-call faults (procedure.Check check_is.RecoveryRemoval) b n is =
      let k = call_with faults (Names recovery_removal_check) is in
      let kept-one = recovery-of k n (parts k) (name_given k (codes "timingdata") form.TimingData) (name_given k (codes "refsignal") form.Signal) (edge_given k) in
      let there = one-call timing faults (procedure.Check check_is.RecoveryRemoval) recovery_removal_check refl (codes "timingdata") refl n is in
      omega arith
  in-call faults (procedure.Check check_is.PeriodPulse) b n is =
      let k = call_with faults (Names period_pulse_check) is in
      let kept-one = period-of k n (parts k) (name_given k (codes "perioddata") form.PeriodData) in
      let there = one-call period faults (procedure.Check check_is.PeriodPulse) period_pulse_check refl (codes "perioddata") refl n is in
      omega arith

  -- ---- statements

  abbrev names_used : List Identifier → List (List ℕ)
  names_used is = map (λ u. u.name) (filter_map (direct_use cell p) is)

  put-used : (o : Option Identifier) (is : List Identifier) → names_used (cons_option o is) ≡ cons_option (used_name o) (names_used is)
  put-used None is = refl
  put-used (Some x) is = map-put (λ u. u.name) (direct_use cell p x) (filter_map (direct_use cell p) is)

  all-used : (g : Item → Option Identifier) (is : List Item) → names_used (filter_map g is) ≡ filter_map (λ i. used_name (g i)) is
  all-used g [] = refl
  all-used g (i ∷ is) = put-used (g i) (filter_map g is) ∙ ap (cons_option (used_name (g i))) (all-used g is)

  used-joined : (is js : List Identifier) → names_used (is ++ js) ≡ names_used is ++ names_used js
  used-joined is js =
      ap (map (λ u. u.name)) (filter_map-append (direct_use cell p) is js)
      ∙ map-append (λ u. u.name) (filter_map (direct_use cell p) is) (filter_map (direct_use cell p) js)

  by-procedure : (faults : List Place) (b : Bool) (n : List ℕ) (is : List Item) (o : Option Procedure)
      → if_there n (check_of (option_map (λ q. (q, call_with faults (formals_of_procedure q b) is)) o)) + if_there n (delay_of (option_map (λ q. (q, call_with faults (formals_of_procedure q b) is)) o))
      ≤ times n (names_used (given_to State o is))
  by-procedure faults b n is None = omega arith
  by-procedure faults b n is (Some q) = omega (arith, in-call faults q b n is, ap (times n) (all-used (given_by State q) is))

  abbrev called_here : List Place → Identifier → Option (List Item) → Option (Procedure × GivenCall)
  called_here faults i o = option_and_then (called_by cell faults p) (option_map (λ is. record { identifier = i; items = is }) o)

  by-items : (faults : List Place) (n : List ℕ) (i : Identifier) (o : Option (List Item))
      → if_there n (check_of (called_here faults i o)) + if_there n (delay_of (called_here faults i o))
      ≤ times n (names_used (given_to State (option_and_then procedure_meant (meant cell p i)) (unwrap_or o [])))
  unfolding meant_from
  by-items faults n i None = omega arith
  by-items faults n i (Some is) =
      by-procedure faults (has_vector_result cell (site_at (Some p) i.place) is) n is (procedure_of cell (Some p) (record { identifier = i; items = is }))

  by-suffixes : (faults : List Place) (n : List ℕ) (i : Identifier) (ss : List Suffix)
      → if_there n (check_of (called_here faults i (items_behind ss))) + if_there n (delay_of (called_here faults i (items_behind ss)))
      ≤ times n (names_used (given_to State (option_and_then procedure_meant (meant cell p i)) (items_if_only ss)))
  by-suffixes faults n i [] = by-items faults n i (Some [])
  by-suffixes faults n i (s ∷ []) = by-items faults n i (items_of s)
  by-suffixes faults n i (s ∷ t ∷ ss) = omega arith

  by-layer : (faults : List Place) (n : List ℕ) (l : StmtLayer)
      → if_there n (check_of (option_and_then (called_by cell faults p) (call_in l))) + if_there n (delay_of (option_and_then (called_by cell faults p) (call_in l)))
      ≤ times n (names_used (given_in State cell p l))
  by-layer faults n (Stmt-F.VariableAssignment place a) = omega arith
  by-layer faults n (Stmt-F.SignalAssignment place a) = omega arith
  by-layer faults n (Stmt-F.Call place r) = by-suffixes faults n r.identifier r.suffixes
  by-layer faults n (Stmt-F.If place i) = omega arith
  by-layer faults n (Stmt-F.Null place) = omega arith

  in-statements : (faults : List Place) (n : List ℕ) (ss : List Stmt)
      → times n (map kept_by (filter_map (check cell faults p) ss)) + times n (map (λ d. d.glitch_data) (filter_map (path_delay_of cell faults p) ss))
      ≤ times n (names_used (flat_map (given State cell p) ss))
  in-statements faults n [] = omega arith
  in-statements faults n (s ∷ ss) =
      let checks-behind = map kept_by (filter_map (check cell faults p) ss) in
      let delays-behind = map (λ d. d.glitch_data) (filter_map (path_delay_of cell faults p) ss) in
      let first : if_there n (option_map kept_by (check cell faults p s)) + if_there n (option_map (λ d. d.glitch_data) (path_delay_of cell faults p s)) ≤ times n (names_used (given State cell p s)) =
      by-layer faults n (out-Stmt s) in
      let others = in-statements faults n ss in
      omega (
        arith,
        first,
        others,
        ap (times n) (map-put kept_by (check cell faults p s) (filter_map (check cell faults p) ss)),
        times-put n (option_map kept_by (check cell faults p s)) checks-behind,
        ap (times n) (map-put (λ d. d.glitch_data) (path_delay_of cell faults p s) (filter_map (path_delay_of cell faults p) ss)),
        times-put n (option_map (λ d. d.glitch_data) (path_delay_of cell faults p s)) delays-behind,
        ap (times n) (used-joined (given State cell p s) (flat_map (given State cell p) ss)),
        times-append n (names_used (given State cell p s)) (names_used (flat_map (given State cell p) ss)),
      )

  pub kept-part : (faults : List Place) → IsPart (kept (sections cell faults p)) (names_kept cell p)
  kept-part faults = record {
    at_most = λ n.
        let ss = all_sequential p.statements in
        omega (
          arith,
          in-statements faults n ss,
          times-append n (map kept_by (filter_map (check cell faults p) ss)) (map (λ d. d.glitch_data) (filter_map (path_delay_of cell faults p) ss)),
        );
  }

-- ---- processes of a typed tree

kept-differs : (cell : Cell) (p : Process) → IsDistinct bytes_eq (names_kept cell p) → IsDistinct bytes_eq (kept (sections cell [] p))
kept-differs cell p differ = distinct-part (kept (sections cell [] p)) (names_kept cell p) (kept-part cell p []) differ

pub all-kept-differ : (cell : Cell) → All (λ p. IsDistinct bytes_eq (names_kept cell p)) (processes_of cell.arch)
    → All (λ q. IsDistinct bytes_eq (kept q.sections)) (map (process cell []) (processes_of cell.arch))
all-kept-differ cell differ = All-map (λ q. IsDistinct bytes_eq (kept q.sections)) (process cell []) (processes_of cell.arch)
    (λ k p inside. kept-differs cell (get_or (processes_of cell.arch) k p) (differ k p inside))
