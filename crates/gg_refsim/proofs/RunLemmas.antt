-- A run with one more cycle.
use Rattle.std.proofs.Common.{◌≡◌, ℕ, ◌+◌, List, [], ◌∷◌, ◌++◌, ◌∙◌, subst}
use Rattle.gg_flat.specs.Clock.{edges_at}
use Rattle.gg_flat.specs.Circuit.{FlatCircuit}
use Rattle.gg_flat.specs.State.{State}
use Rattle.gg_flat.specs.Settled.{Settled}
use Rattle.gg_flat.specs.Run.{Start, IsRunFrom, later, state_at, inputs_at}
use Rattle.gg_order.proofs.RunsLemmas.RunLemmas.{IsRunFrom-push, state_at-next}
use Rattle.gg_refsim.specs.Cycle.{Cycle}

-- the state after one more cycle
pub state-next : (circuit : FlatCircuit) (start : Start) (columns : List (List ℕ)) (n : ℕ) (rows : List (List ℕ)) (before after : State) (inputs printed : List ℕ) (cycle : Cycle (edges_at start.ratios (later start.cycle n)) circuit before inputs printed after) → IsRunFrom circuit start columns n rows → before ≡ state_at circuit start rows n → after ≡ state_at circuit start (rows ++ cycle.row ∷ []) (n + 1)
state-next circuit start columns n rows before after inputs printed cycle run is = cycle.next ∙ state_at-next circuit start columns n rows cycle.row before run is

-- a run with one more cycle is a run
pub IsRunFrom-next : (circuit : FlatCircuit) (start : Start) (columns : List (List ℕ)) (n : ℕ) (rows : List (List ℕ)) (before after : State) (inputs printed : List ℕ) (cycle : Cycle (edges_at start.ratios (later start.cycle n)) circuit before inputs printed after) → IsRunFrom circuit start columns n rows → before ≡ state_at circuit start rows n → inputs ≡ inputs_at columns (later start.cycle n) → IsRunFrom circuit start columns (n + 1) (rows ++ cycle.row ∷ [])
IsRunFrom-next circuit start columns n rows before after inputs printed cycle run is given =
    IsRunFrom-push circuit start columns n rows cycle.row run
    (subst (λ (s : State). Settled circuit s (inputs_at columns (later start.cycle n)) cycle.row) is (subst (λ (i : List ℕ). Settled circuit before i cycle.row) given cycle.settled))
