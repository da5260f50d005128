-- The ports of a memory that stands alone make its next state together, in each cycle of a run.
use Rattle.std.proofs.Common.{◌≡◌, ℕ, suc, ◌<◌, ◌≤◌, List, [], ◌∷◌, Option, Some, drop, map, refl, sym, ◌∙◌, ap, subst, arith}
use Rattle.gg_flat.specs.Circuit.{FlatCircuit}
use Rattle.gg_flat.specs.Clock.{edges_at}
use Rattle.gg_flat.specs.Settled.{Settled}
use Rattle.gg_flat.specs.State.{IsState}
use Rattle.gg_flat.specs.Run.{IsRunFrom, Start, row_at, since}
use Rattle.gg_order.proofs.RunsLemmas.AlongLemmas.{IsState-at}
use Rattle.gg_order.proofs.RunsLemmas.SinceLemmas.{since-add}
use Rattle.gg_node.specs.Machine.{Port, latched_values}
use Rattle.gg_memunit.specs.MemoryUnit.{IsMemoryPiece, ports_of}
use Rattle.gg_memunit.proofs.ThroughLemmas.{served-through}
use Rattle.gg_net.specs.Kept.{ins_of, in_columns, run_state, served_by, ServesRows}
use Rattle.gg_net.proofs.StateLemmas.{run_state-next, settled-at}

-- latches that hold these values
abbrev full : List ℕ → List (Option ℕ)
full values = map (λ value. Some value) values

full-values : (values : List ℕ) → latched_values (full values) ≡ values
full-values [] = refl
full-values (value ∷ values) = ap (λ (rest : List ℕ). value ∷ rest) (full-values values)

serves-each : (piece : FlatCircuit) (start : Start) (rows : List (List ℕ)) (end : ℕ) (ports : List Port)
    → ((t : ℕ) → start.cycle ≤ t → t < end → served_by (edges_at start.ratios t) (ins_of piece (row_at rows t)) (run_state piece start rows t) ports ≡ run_state piece start rows (suc t)) → ServesRows piece start rows end ports
serves-each piece start rows end [] each = tt
serves-each piece start rows end (port ∷ ports) each = each

pub memory-serves : (piece : FlatCircuit) (start : Start) (rows : List (List ℕ)) (end : ℕ) → IsMemoryPiece piece → IsState piece start.state → IsRunFrom piece start (in_columns piece rows) (since start.cycle end) (drop start.cycle rows) → ServesRows piece start rows end (ports_of piece.memories)
memory-serves piece start rows end is begins run = serves-each piece start rows end (ports_of piece.memories) each
  where
    each : (t : ℕ) → start.cycle ≤ t → t < end → served_by (edges_at start.ratios t) (ins_of piece (row_at rows t)) (run_state piece start rows t) (ports_of piece.memories) ≡ run_state piece start rows (suc t)
    each t le lt =
        let edges = edges_at start.ratios t in
        let values = ins_of piece (row_at rows t) in
        let state = run_state piece start rows t in
        let within : since start.cycle t ≤ since start.cycle end = omega (arith, lt, le, since-add start.cycle t le, since-add start.cycle end (omega (arith, lt, le))) in
        let typed = IsState-at piece start (in_columns piece rows) (since start.cycle end) (drop start.cycle rows) is.formed begins run (since start.cycle t) within in
        let settled = subst (λ (inputs : List ℕ). Settled piece state inputs (row_at rows t)) (sym (full-values values)) (settled-at piece start rows t end le lt run) in
        ap (λ (inputs : List ℕ). served_by edges inputs state (ports_of piece.memories)) (sym (full-values values))
        ∙ served-through edges piece state (full values) (row_at rows t) is typed settled
        ∙ sym (run_state-next piece start rows t le)
