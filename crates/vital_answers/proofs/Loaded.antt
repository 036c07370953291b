-- Files that are loaded one after the other.
use Rattle.std.proofs.Common.{◌≡◌, ◌∙◌, ℕ, zero, suc, ◌+◌, ◌<◌, List, [], ◌∷◌, ◌++◌, length, get_or, map, take, drop, Option, Some, None, Result, Ok, refl, sym, ap, append_assoc, add-one, arith}
use Rattle.std.proofs.lemmas.List.{append-nil}
use Rattle.vital_base.specs.Shelves.{Files, History, LoadsOne}
use Rattle.vital_answers.specs.Answer.{Answer, ◌>>=◌}
use Rattle.vital_answers.specs.Loading.{Opens, all_loaded}
use Rattle.vital_answers.specs.declared.loading.Source.{Source}
use Rattle.vital_words.specs.declared.job.NamedFile.{NamedFile}

-- these sources, and those that are still to come
abbrev pub with_sources : List Source → Result (List Source) Answer → Result (List Source) Answer
with_sources front others = others >>= λ sources. Ok (front ++ sources)

-- what was loaded of the first files goes before what the others give
pub record IsLoaded (told : Files) (files : List NamedFile) (i : ℕ) (front : List Source) : Type 0 where
  pub all : all_loaded told files ≡ with_sources front (all_loaded told (drop i files))

-- ---- what is asked of the shelf

pub opens_none : (files : List NamedFile) (history : Option History) → Opens files 0 history history
opens_none files None = tt
opens_none files (Some before) = record { within = omega arith; names = sym (append-nil before.names); reads = omega arith; no_late_read = refl }

take_names : (files : List NamedFile) (i : ℕ) (file : NamedFile) → i < length files → file ≡ get_or files i file
    → take (i + 1) (map (λ file. file.name) files) ≡ take i (map (λ file. file.name) files) ++ file.name ∷ []
take_names files i file lt is = rw (add-one i) (go files i lt is)
  where
    go : (files : List NamedFile) (i : ℕ) → i < length files → file ≡ get_or files i file
        → take (suc i) (map (λ file. file.name) files) ≡ take i (map (λ file. file.name) files) ++ file.name ∷ []
    go [] i lt is = absurd (omega arith)
    go (first ∷ files) zero lt is = ap (λ (x : NamedFile). x.name ∷ []) (sym is)
    go (first ∷ files) (suc i) lt is = ap (λ (names : List (List ℕ)). first.name ∷ names) (go files i (omega arith) is)

-- one file more is loaded
pub opens_more : (files : List NamedFile) (i : ℕ) (file : NamedFile) (old now new : Option History) → i < length files → file ≡ get_or files i file
    → Opens files i old now → LoadsOne file.name now new → Opens files (i + 1) old new
opens_more files i file None now new lt is opens loads = tt
opens_more files i file (Some before) None new lt is opens loads = absurd opens
opens_more files i file (Some before) (Some now) new lt is opens (reads, is_ended, few, loads) =
    rw loads (record {
      within = omega arith;
      names = ap (λ (names : List (List ℕ)). names ++ file.name ∷ []) opens.names
          ∙ append_assoc before.names (take i (map (λ file. file.name) files)) (file.name ∷ [])
          ∙ ap (λ (names : List (List ℕ)). before.names ++ names) (sym (take_names files i file lt is));
      reads = omega (arith, opens.reads, few);
      no_late_read = opens.no_late_read;
    })
