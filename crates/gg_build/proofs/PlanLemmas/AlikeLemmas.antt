-- A piece like another does what the other does.
use Rattle.std.proofs.Common.{◌≡◌, ℕ, zero, suc, ◌<◌, List, [], ◌∷◌, Bool, length, refl, sym, ◌∙◌, ap, ap₂, subst}
use Rattle.gg_flat.specs.declared.memory.Memory.{Memory}
use Rattle.gg_flat.specs.declared.piece.Register.{Register}
use Rattle.gg_flat.specs.declared.piece.Signal.{Signal}
use Rattle.gg_flat.specs.Circuit.{FlatCircuit, signal_shapes, driver_at}
use Rattle.gg_flat.specs.Clock.{edges_at}
use Rattle.gg_flat.specs.Depends.{SettlesOnce, DependsOn}
use Rattle.gg_flat.specs.Line.{shape_at, value_at, AreTyped}
use Rattle.gg_flat.specs.Reads.{NamesSignal, Reads, IsPath, Reaches}
use Rattle.gg_flat.specs.Run.{IsRunFrom, Start, inputs_at, later, row_at, state_at}
use Rattle.gg_flat.specs.Settled.{Settled, driver_value}
use Rattle.gg_flat.specs.State.{State, opening, next_state}
use Rattle.gg_cut_plan.specs.Alike.{IsAlike}
use Rattle.gg_order.specs.needs.Needs.{AreNeeds}
use Rattle.gg_net.specs.Kept.{in_columns}

-- ---- cycles

settled-by : (one other : FlatCircuit) (state : State) (inputs values : List ℕ) → one.signals ≡ other.signals → Settled one state inputs values → Settled other state inputs values
settled-by one other state inputs values same is =
    record {
      typed = subst (λ (l : List Signal). AreTyped (signal_shapes (record one { signals = l })) values) same is.typed;
      driven = subst (λ (l : List Signal). (s : ℕ) → s < length l → value_at values s ≡ driver_value state inputs values (shape_at (signal_shapes (record one { signals = l })) s) (driver_at (record one { signals = l }) s)) same is.driven;
    }

reads-by : (one other : FlatCircuit) (a b : ℕ) → one.signals ≡ other.signals → Reads one a b → Reads other a b
reads-by one other a b same is =
    record {
      signal = subst (λ (l : List Signal). a < length l) same is.signal;
      names = subst (λ (l : List Signal). NamesSignal (driver_at (record one { signals = l }) a) b) same is.names;
    }

path-by : (one other : FlatCircuit) (a : ℕ) (path : List ℕ) (b : ℕ) → one.signals ≡ other.signals → IsPath one a path b → IsPath other a path b
path-by one other a [] b same is = is
path-by one other a (next ∷ path) b same is = (reads-by one other a next same is.0, path-by one other next path b same is.1)

reaches-by : (one other : FlatCircuit) (a b : ℕ) → one.signals ≡ other.signals → Reaches one a b → Reaches other a b
reaches-by one other a b same to = record { path = to.path; reads = path-by one other a to.path b same to.reads }

module _ (one other : FlatCircuit) (alike : IsAlike one other) where
  settled-back : (state : State) (inputs values : List ℕ) → Settled other state inputs values → Settled one state inputs values
  settled-back state inputs values is = settled-by other one state inputs values (sym alike.signals) is

  settled-on : (state : State) (inputs values : List ℕ) → Settled one state inputs values → Settled other state inputs values
  settled-on state inputs values is = settled-by one other state inputs values alike.signals is

  pub once-alike : SettlesOnce other → SettlesOnce one
  once-alike once = λ state inputs v w sv sw. once state inputs v w (settled-on state inputs v sv) (settled-on state inputs w sw)

  pub depends-alike : (s : ℕ) (places : List ℕ) → DependsOn other s places → DependsOn one s places
  depends-alike s places on = λ state inputs others v w sv sw same. on state inputs others v w (settled-on state inputs v sv) (settled-on state others w sw) same

  -- ---- states

  pub opening-alike : opening one ≡ opening other
  opening-alike =
      ap₂ (λ (registers : List Register) (memories : List Memory). opening (record one { registers = registers; memories = memories })) alike.registers alike.memories

  next-alike : (edges : List Bool) (state : State) (values : List ℕ) → next_state edges one state values ≡ next_state edges other state values
  next-alike edges state values =
      ap₂ (λ (registers : List Register) (memories : List Memory). next_state edges (record one { registers = registers; memories = memories }) state values) alike.registers alike.memories

  pub state-alike : (start : Start) (rows : List (List ℕ)) (t : ℕ) → state_at one start rows t ≡ state_at other start rows t
  state-alike start rows zero = refl
  state-alike start rows (suc t) =
      let edges = edges_at start.ratios (later start.cycle t) in
      ap (λ (s : State). next_state edges one s (row_at rows t)) (state-alike start rows t) ∙ next-alike edges (state_at other start rows t) (row_at rows t)

  -- a run of the other piece on the columns of its own in-signals is one of this piece, from any start
  pub run-alike : (start : Start) (n : ℕ) (shown rows : List (List ℕ)) → IsRunFrom other start (in_columns other shown) n rows → IsRunFrom one start (in_columns one shown) n rows
  run-alike start n shown rows run =
      subst (λ (ins : List ℕ). IsRunFrom one start (in_columns (record one { ins = ins }) shown) n rows) (sym alike.ins)
      (record {
        count = run.count;
        settled = λ t lt.
            let inputs = inputs_at (in_columns other shown) (later start.cycle t) in
            subst (λ (s : State). Settled one s inputs (row_at rows t)) (sym (state-alike start rows t)) (settled-back (state_at other start rows t) inputs (row_at rows t) (run.settled t lt));
      })

  -- ---- needs

  pub needs-alike : (out : ℕ) (needs : List ℕ) → AreNeeds one out needs → AreNeeds other out needs
  needs-alike out needs are =
      record {
        ascending = are.ascending;
        exact = λ place. (
          λ has. let at = (are.exact place).0 has in (subst (λ (l : List ℕ). place < length l) alike.ins at.0, reaches-by one other out (value_at other.ins place) alike.signals (subst (λ (l : List ℕ). Reaches one out (value_at l place)) alike.ins at.1)),
          λ at. (are.exact place).1 (subst (λ (l : List ℕ). place < length l) (sym alike.ins) at.0, subst (λ (l : List ℕ). Reaches one out (value_at l place)) (sym alike.ins) (reaches-by other one out (value_at other.ins place) (sym alike.signals) at.1)),
        );
      }
