-- What a process sees of one signal more.
use Rattle.std.proofs.Common.{◌≡◌, ℕ, ◌+◌, ◌<◌, List, [], ◌∷◌, ◌++◌, length, take, get_or, sym, ◌∙◌, ap}
use Rattle.std.specs.Prelude.{slice_get, slice_set, Some}
use Rattle.std.specs.Option.{option_map_or}
use Rattle.std.proofs.lemmas.List.{map_more, take_more_set}
use Rattle.vital_machine.specs.declared.input.Input.{Input}
use Rattle.vital_machine.specs.Inputs.{absent}
use Rattle.vital_kernel.specs.Processes.{input}
use Rattle.vital_kernel.specs.Programs.{seen}
use Rattle.vital_signals.specs.declared.signal.Signal.{Signal}

pub seen-more : (now : ℕ) (signals : List Signal) (wires : List ℕ) (inputs : List Input) (i number : ℕ) (signal : Signal) → i < length wires → i < length inputs → number ≡ get_or wires i number → slice_get signals number ≡ Some signal → take i inputs ≡ seen now signals (take i wires) → take (i + 1) (slice_set inputs i (input now signal)) ≡ seen now signals (take (i + 1) wires)
seen-more now signals wires inputs i number signal within there is found so-far =
    take_more_set inputs i (input now signal) there
    ∙ ap (λ xs. xs ++ input now signal ∷ []) so-far
    ∙ ap (λ x. seen now signals (take i wires) ++ x ∷ []) (sym (ap (λ o. option_map_or (input now) o absent) found))
    ∙ ap (λ w. seen now signals (take i wires) ++ option_map_or (input now) (slice_get signals w) absent ∷ []) is
    ∙ sym (map_more (λ w. option_map_or (input now) (slice_get signals w) absent) wires i number within)
