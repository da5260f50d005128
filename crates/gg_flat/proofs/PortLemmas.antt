-- A list of ports, one pushed after another.
use Rattle.std.proofs.Common.{◌≡◌, ℕ, ◌+◌, ◌<◌, List, [], ◌∷◌, ◌++◌, length, sym, ap, ◌∙◌, Some, take}
use Rattle.std.specs.Prelude.{Option}
use Rattle.std.specs.List.{cons_option}
use Rattle.std.proofs.lemmas.List.{take_more}
use Rattle.std.proofs.lemmas.List.Elements.{filter_map-append}
use Rattle.gg_flat.specs.Circuit.{FlatCircuit}
use Rattle.gg_flat.specs.Line.{value_at}
use Rattle.gg_flat.specs.declared.ports.Port.{Port}
use Rattle.gg_flat.specs.Ports.{port_at, ports_at}

-- the ports of the first signals, with the port of the next one
ports_at-more : (circuit : FlatCircuit) (ss : List ℕ) (i : ℕ) (port : Port) → i < length ss → port_at circuit (value_at ss i) ≡ Some port
    → ports_at circuit (take (i + 1) ss) ≡ ports_at circuit (take i ss) ++ port ∷ []
ports_at-more circuit ss i port lt is =
    ap (ports_at circuit) (take_more ss i 0 lt)
    ∙ filter_map-append (port_at circuit) (take i ss) (value_at ss i ∷ [])
    ∙ ap (λ (o : Option Port). ports_at circuit (take i ss) ++ cons_option o []) is

-- the ports so far, with one more pushed
pub ports_at-push : (circuit : FlatCircuit) (ss : List ℕ) (i : ℕ) (port : Port) (old new : List Port) → i < length ss → port_at circuit (value_at ss i) ≡ Some port
    → old ≡ ports_at circuit (take i ss) → new ≡ old ++ port ∷ [] → new ≡ ports_at circuit (take (i + 1) ss)
ports_at-push circuit ss i port old new lt is before pushed =
    pushed ∙ ap (λ (ps : List Port). ps ++ port ∷ []) before ∙ sym (ports_at-more circuit ss i port lt is)
