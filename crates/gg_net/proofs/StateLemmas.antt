-- The inputs of a row, the states of a run from a start, and what an access makes of a memory.
use Rattle.std.proofs.Common.{◌≡◌, ℕ, zero, suc, ◌<◌, ◌≤◌, List, [], ◌∷◌, Option, Some, Bool, map, take, drop, refl, ap, subst, ◌∙◌, arith}
use Rattle.std.specs.Prelude.{All, ◌++◌, slice_set, slice_get, ◌==◌, ◌&&◌, if◌then◌else◌}
use Rattle.std.proofs.Math.Seq.{take-suc}
use Rattle.std.proofs.lemmas.List.Sums.{fold-append}
use Rattle.std.proofs.lemmas.Option.{slice_get_within, get_or_from_slice_get}
use Rattle.gg_flat.specs.Line.{value_at}
use Rattle.gg_flat.specs.Clock.{edges_at, ticks}
use Rattle.gg_flat.specs.Circuit.{FlatCircuit}
use Rattle.gg_flat.specs.State.{State, next_state}
use Rattle.gg_flat.specs.Settled.{Settled}
use Rattle.gg_flat.specs.Memory.{Bank, bank_at, read_word}
use Rattle.gg_flat.specs.Run.{Start, since, IsRunFrom, inputs_at, row_at, column, state_at}
use Rattle.gg_flat.specs.Served.{Access, ByReader, ByWriter, after_access}
use Rattle.gg_node.specs.Machine.{Port, latched_values}
use Rattle.gg_node.specs.Token.{accessed}
use Rattle.gg_node.specs.Step.{fields_of}
use Rattle.gg_net.specs.Kept.{ins_of, in_columns, run_state, served_one, served_by}
use Rattle.gg_order.proofs.RunsLemmas.SinceLemmas.{since-next, later-since, since-add, row-dropped}

-- ---- inputs

pub column-at : (rows : List (List ℕ)) (s t : ℕ) → value_at (column rows s) t ≡ value_at (row_at rows t) s
column-at [] s t = refl
column-at (row ∷ rows) s zero = refl
column-at (row ∷ rows) s (suc t) = column-at rows s t

-- the inputs of a cycle, from the columns of the in-signals, are their values in the row
pub inputs-are : (rows : List (List ℕ)) (t : ℕ) (ins : List ℕ) → inputs_at (map (column rows) ins) t ≡ map (value_at (row_at rows t)) ins
inputs-are rows t [] = refl
inputs-are rows t (s ∷ ins) =
    ap (λ value. value ∷ inputs_at (map (column rows) ins) t) (column-at rows s t)
    ∙ ap (λ rest. value_at (row_at rows t) s ∷ rest) (inputs-are rows t ins)

-- ---- runs from a start

module _ (piece : FlatCircuit) (start : Start) (rows : List (List ℕ)) where
  -- the state before the next cycle
  pub run_state-next : (t : ℕ) → start.cycle ≤ t → run_state piece start rows (suc t) ≡ next_state (edges_at start.ratios t) piece (run_state piece start rows t) (row_at rows t)
  run_state-next t le =
      ap (state_at piece start (drop start.cycle rows)) (since-next start.cycle t le)
      ∙ ap (λ u. next_state (edges_at start.ratios u) piece (run_state piece start rows t) (row_at (drop start.cycle rows) (since start.cycle t))) (later-since start.cycle t le)
      ∙ ap (next_state (edges_at start.ratios t) piece (run_state piece start rows t)) (row-dropped start.cycle t rows le)

  -- each row from the start on is settled, in the state before its cycle
  pub settled-at : (t end : ℕ) → start.cycle ≤ t → t < end → IsRunFrom piece start (in_columns piece rows) (since start.cycle end) (drop start.cycle rows) → Settled piece (run_state piece start rows t) (ins_of piece (row_at rows t)) (row_at rows t)
  settled-at t end le lt run =
      let within : since start.cycle t < since start.cycle end = omega (arith, lt, le, since-add start.cycle t le, since-add start.cycle end (omega (arith, lt, le))) in
      subst (Settled piece (run_state piece start rows t) (ins_of piece (row_at rows t))) (row-dropped start.cycle t rows le)
      (subst (λ inputs. Settled piece (run_state piece start rows t) inputs (row_at (drop start.cycle rows) (since start.cycle t))) (ap (inputs_at (in_columns piece rows)) (later-since start.cycle t le) ∙ inputs-are rows t piece.ins)
      (run.settled (since start.cycle t) within))

-- ---- accesses

-- an access depends only on the values of its fields
pub access-same : (edges : List Bool) (a b : List ℕ) (bank : Bank) (access : Access) → All (λ i. value_at a i ≡ value_at b i) (fields_of access) → after_access edges a bank access ≡ after_access edges b bank access
access-same edges a b bank (ByReader r reader) same =
    ap (λ addr. record { words = bank.words; reads = if ticks edges reader.clock then slice_set bank.reads r (read_word bank.words addr (value_at a reader.en)) else bank.reads }) (same 0 0 (omega arith))
    ∙ ap (λ en. record { words = bank.words; reads = if ticks edges reader.clock then slice_set bank.reads r (read_word bank.words (value_at b reader.addr) en) else bank.reads }) (same 1 0 (omega arith))
access-same edges a b bank (ByWriter w writer) same =
    ap (λ addr. record { words = if ticks edges writer.clock && (value_at a writer.en == 1) && (value_at a writer.mask == 1) then slice_set bank.words addr (value_at a writer.word) else bank.words; reads = bank.reads }) (same 0 0 (omega arith))
    ∙ ap (λ en. record { words = if ticks edges writer.clock && (en == 1) && (value_at a writer.mask == 1) then slice_set bank.words (value_at b writer.addr) (value_at a writer.word) else bank.words; reads = bank.reads }) (same 1 0 (omega arith))
    ∙ ap (λ word. record { words = if ticks edges writer.clock && (value_at b writer.en == 1) && (value_at a writer.mask == 1) then slice_set bank.words (value_at b writer.addr) word else bank.words; reads = bank.reads }) (same 2 0 (omega arith))
    ∙ ap (λ mask. record { words = if ticks edges writer.clock && (value_at b writer.en == 1) && (mask == 1) then slice_set bank.words (value_at b writer.addr) (value_at b writer.word) else bank.words; reads = bank.reads }) (same 3 0 (omega arith))

-- if the latches have the row's values at the port's fields, the machine's access is the access of the row
pub accessed-is : (edges : List Bool) (latches : List (Option ℕ)) (inputs : List ℕ) (state : State) (port : Port) → All (λ i. value_at (latched_values latches) i ≡ value_at inputs i) (fields_of port.access) → accessed edges latches state (Some port) ≡ served_one edges inputs state port
accessed-is edges latches inputs state port same =
    ap (λ (bank : Bank). record { registers = state.registers; banks = bank ∷ [] }) (access-same edges (latched_values latches) inputs (bank_at state.banks 0) port.access same)

-- the accesses of some ports, and of one more
pub served-next : (edges : List Bool) (inputs : List ℕ) (state : State) (ports : List Port) (n : ℕ) (port : Port) → slice_get ports n ≡ Some port → served_by edges inputs state (take (suc n) ports) ≡ served_one edges inputs (served_by edges inputs state (take n ports)) port
served-next edges inputs state ports n port is =
    ap (served_by edges inputs state) (take-suc ports n port (slice_get_within ports n port is) ∙ ap (λ p. take n ports ++ p ∷ []) (get_or_from_slice_get ports n port port is))
    ∙ fold-append (served_one edges inputs) state (take n ports) (port ∷ [])
