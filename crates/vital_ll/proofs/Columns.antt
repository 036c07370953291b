-- The columns of the table.
use Rattle.std.proofs.Common.{◌≡◌, ℕ, ◌+◌, ◌<◌, List, [], ◌∷◌, ◌++◌, length, get_or, set, replicate, Option, Some, None, is_some, true, refl, sym, ap, ◌∙◌, subst, arith, inl, inr, length-append, length-set}
use Rattle.std.proofs.lemmas.Bool.{cases_eq}
use Rattle.std.proofs.lemmas.List.{get_or_append_left, get_or-set_same, get_or-set_other, length-replicate}
use Rattle.vital_ll.specs.declared.expansion.Expansion.{Expansion}
use Rattle.vital_ll.specs.declared.expansion.Expansions.{Expansions}
use Rattle.vital_ll.specs.declared.table.Table.{Table}
use Rattle.vital_ll.specs.Grammar.{Grammar}
use Rattle.vital_ll.specs.Sentence.{Next}
use Rattle.vital_ll.specs.Choice.{IsChoice, IsWellFormed}
use Rattle.vital_ll.specs.Masks.{bit_of}
use Rattle.vital_ll.specs.Expansion.{IsDecided, IsExpansion, AreLonger}
use Rattle.vital_ll.specs.Table.{entry_at, HasRows, IsColumnFrom, AreColumns, IsTable, IsColumn}
use Rattle.vital_ll.proofs.Entries.{get_or_last, none_entered}
use Rattle.vital_ll.proofs.Expanding.{expansion_longer}
use Rattle.vital_ll.proofs.Listings.{bounds_of}

-- before any rule has an expansion
pub column_start : (g : Grammar) (bit n : ℕ) (expansions : Expansions) (column : List (Option Expansion)) → n ≡ length g → column ≡ replicate n None → IsColumnFrom g bit expansions n column
column_start g bit n expansions column n_is column_is = record {
  size = ap length column_is ∙ length-replicate n None ∙ n_is;
  are_expansions = λ r expansion at. absurd (let none = none_entered Expansion n r in let was = ap (λ (l : List (Option Expansion)). get_or l r None) column_is in cc);
  complete = λ r a t low same chosen. absurd (let b = bounds_of g r a (ap is_some chosen.1) in omega arith);
}

-- a rule that the token does not decide for has none
pub column_without : (g : Grammar) (bits bit r : ℕ) (rows : List (List (List (Option ℕ)))) (expansions : Expansions) (column : List (Option Expansion)) → HasRows g bits rows → entry_at (get_or rows r []) bit ≡ None →
    IsColumnFrom g bit expansions (r + 1) column → IsColumnFrom g bit expansions r column
column_without g bits bit r rows expansions column rows_are none c = record {
  size = c.size;
  are_expansions = c.are_expansions;
  complete = λ s a t low same chosen. elim (cases_eq s r) [
    | inl e ↦
        let at : entry_at (get_or rows s []) (bit_of t) ≡ Some a = (rows_are.only s a t chosen).1 in
        absurd (let f : entry_at (get_or rows r []) bit ≡ Some a = ap (λ (k : ℕ). entry_at (get_or rows k []) bit) (sym e) ∙ ap (λ (k : ℕ). entry_at (get_or rows s []) k) (sym same) ∙ at in cc)
    | inr d ↦ c.complete s a t (omega arith) same chosen
  ];
}

-- a rule that it decides for has its expansion
pub column_with : (g : Grammar) (bit r : ℕ) (old new : Expansions) (expansion : Expansion) (column : List (Option Expansion)) → r < length g → AreLonger old new → IsExpansion g bit new r expansion →
    IsColumnFrom g bit old (r + 1) column → IsColumnFrom g bit new r (set column r (Some expansion))
column_with g bit r old new expansion column inside longer is c = record {
  size = length-set column r (Some expansion) ∙ c.size;
  are_expansions = λ s other at. elim (cases_eq s r) [
    | inl e ↦
        let f : Some expansion ≡ Some other = sym here ∙ ap (λ (k : ℕ). get_or (set column r (Some expansion)) k None) (sym e) ∙ at in
        subst (λ (k : ℕ). IsExpansion g bit new k other) (sym e) (subst (IsExpansion g bit new r) (let same : expansion ≡ other = cc in same) is)
    | inr d ↦ expansion_longer g bit s old new other longer (c.are_expansions s other (sym (get_or-set_other column r s (Some expansion) None d) ∙ at))
  ];
  complete = λ s a t low same chosen. elim (cases_eq s r) [
    | inl e ↦ ap is_some (ap (λ (k : ℕ). get_or (set column r (Some expansion)) k None) e ∙ here)
    | inr d ↦ ap is_some (get_or-set_other column r s (Some expansion) None d) ∙ c.complete s a t (omega arith) same chosen
  ];
}
  where
    here : get_or (set column r (Some expansion)) r None ≡ Some expansion
    here = get_or-set_same column r (Some expansion) None (let n = c.size in omega arith)

column_longer : (g : Grammar) (bit n : ℕ) (old new : Expansions) (column : List (Option Expansion)) → AreLonger old new → IsColumnFrom g bit old n column → IsColumnFrom g bit new n column
column_longer g bit n old new column longer c = record {
  size = c.size;
  are_expansions = λ r expansion at. expansion_longer g bit r old new expansion longer (c.are_expansions r expansion at);
  complete = c.complete;
}

-- one more column
pub columns_more : (g : Grammar) (n : ℕ) (old new : Expansions) (columns : List (List (Option Expansion))) (column : List (Option Expansion)) → AreLonger old new → IsColumnFrom g n new 0 column → AreColumns g old n columns →
    AreColumns g new (n + 1) (columns ++ column ∷ [])
columns_more g n old new columns column longer c cs = record {
  size = length-append columns (column ∷ []) ∙ (let s = cs.size in omega arith);
  each = λ bit low. elim (cases_eq bit n) [
    | inl e ↦ subst (λ (k : ℕ). IsColumnFrom g k new 0 (get_or (columns ++ column ∷ []) k [])) (sym e)
        (subst (IsColumnFrom g n new 0) (sym (get_or_last columns column [] n (sym cs.size))) c)
    | inr d ↦ subst (IsColumnFrom g bit new 0) (sym (get_or_append_left columns (column ∷ []) [] bit (let s = cs.size in omega arith)))
        (column_longer g bit 0 old new (get_or columns bit []) longer (cs.each bit (omega arith)))
  ];
}

-- the table of all columns
pub table_made : (g : Grammar) (bits : ℕ) (rows : List (List (List (Option ℕ)))) (table : Table) → IsWellFormed g → 0 < bits → HasRows g bits rows → AreColumns g table.expansions bits table.columns.items → IsTable g table
table_made g bits rows table well some rows_are c = record {
  well_formed = well;
  some = let s = c.size in omega arith;
  columns = subst (λ (n : ℕ). AreColumns g table.expansions n table.columns.items) (sym c.size) c;
  complete = λ r a t chosen. let low = (rows_are.only r a t chosen).0 in let s = c.size in omega arith;
}

-- no token of the bit is decided for otherwise
pub decided : (g : Grammar) (bits bit r a : ℕ) (rows : List (List (List (Option ℕ)))) → HasRows g bits rows → entry_at (get_or rows r []) bit ≡ Some a → IsDecided g bit r a
decided g bits bit r a rows rows_are is b t same chosen =
    let at : entry_at (get_or rows r []) (bit_of t) ≡ Some b = (rows_are.only r b t chosen).1 in
    let both : Some a ≡ Some b = sym is ∙ ap (λ (k : ℕ). entry_at (get_or rows r []) k) (sym same) ∙ at in cc

-- the column that is read
read_column : (g : Grammar) (table : Table) (t : Next) (column : List (Option Expansion)) → IsTable g table → (c : IsColumn table.columns.items t column) → IsColumnFrom g c.bit table.expansions 0 column
read_column g table t column table_is c = subst (IsColumnFrom g c.bit table.expansions 0) (sym c.is) (table_is.columns.each c.bit c.inside)

-- is that of the token, where the token is in any choice set
pub same_bit : (g : Grammar) (table : Table) (t : Next) (column : List (Option Expansion)) → IsTable g table → (c : IsColumn table.columns.items t column) → (r a : ℕ) → IsChoice g r a t → bit_of t ≡ c.bit
same_bit g table t column table_is c r a chosen = sym (c.token (table_is.complete r a t chosen))

-- it has an entry for each rule
pub column_size : (g : Grammar) (table : Table) (t : Next) (column : List (Option Expansion)) → IsTable g table → IsColumn table.columns.items t column → length column ≡ length g
column_size g table t column table_is c = (read_column g table t column table_is c).size

-- the entry is an expansion
pub expansion_is : (g : Grammar) (table : Table) (t : Next) (r : ℕ) (column : List (Option Expansion)) (expansion : Expansion) → IsTable g table → (c : IsColumn table.columns.items t column) → get_or column r None ≡ Some expansion → IsExpansion g c.bit table.expansions r expansion
expansion_is g table t r column expansion table_is c is = (read_column g table t column table_is c).are_expansions r expansion is

-- where there is none, no alternative can be chosen
pub no_expansion : (g : Grammar) (table : Table) (t : Next) (r : ℕ) (column : List (Option Expansion)) (read : Option Expansion) → IsTable g table → IsColumn table.columns.items t column → read ≡ get_or column r None → ((expansion : Expansion) → read ≡ Some expansion → ⊥) →
    (a : ℕ) → IsChoice g r a t → ⊥
no_expansion g table t r column read table_is c read_is none a chosen =
    let some : is_some read ≡ true = ap is_some read_is ∙ (read_column g table t column table_is c).complete r a t (omega arith) (same_bit g table t column table_is c r a chosen) chosen in
    has_none read none some
  where
    has_none : (o : Option Expansion) → ((expansion : Expansion) → o ≡ Some expansion → ⊥) → is_some o ≡ true → ⊥
    has_none None h e = cc
    has_none (Some expansion) h e = h expansion refl
