-- The rows of a run, one by one.
use Rattle.std.proofs.Common.{◌≡◌, ℕ, suc, ◌+◌, ◌<◌, List, Bool, true, false, length, sym, ap, ◌∙◌, subst, arith}
use Rattle.std.specs.Prelude.{Result, Ok, Err}
use Rattle.gg_flat.specs.Circuit.{FlatCircuit}
use Rattle.gg_flat.specs.Order.{IsOrder}
use Rattle.gg_flat.specs.Run.{IsRunFrom, clocked_start, row_at, state_at, inputs_at}
use Rattle.gg_flat.specs.Settled.{Settled}
use Rattle.gg_flat.specs.State.{State, next_state}
use Rattle.gg_io.specs.declared.output.Sink
use Rattle.gg_refsim.specs.inside.Cycle.{Simulation}
use Rattle.gg_refsim.specs.Cycle.{Cycle, outputs}
use Rattle.gg_trace.specs.inside.Table.{Table}
use Rattle.gg_trace.specs.Table.{row_of}
use Rattle.gg_io.specs.declared.endings.Ending.{Ending}
use Rattle.gg_flat.specs.Clock.{Ratio, edges_at}
use Rattle.gg_io.specs.WentOn.{SinkWentOn}
use Rattle.gg_io.proofs.WritingLemmas.{on-then}
use Rattle.gg_rows.specs.inside.Printed.{PrintsRow, RowForm}
use Rattle.gg_rows.specs.inside.Rows.{outputs_in}
use Rattle.gg_rows.specs.inside.Taken.{Took, TookTo}
use Rattle.gg_rows.proofs.TakenLemmas.{row-there, took-all, took-fails, took-last, took-next}

-- The first `cycle` rows were printed, each time to go on, and the simulator is in the state before the next, in any run.
pub record SimulatedTo {K : Type 0} (circuit : FlatCircuit) (ratios : List Ratio) (inputs : Table) (form : RowForm) (sink : Sink.Ghosts K) (out out' : K) (cycle : ℕ) (mono : Simulation) (outs : List ℕ) : Type 0 where
  pub same : mono.circuit ≡ circuit
  pub timed : mono.ratios ≡ ratios
  pub made : mono.cycle ≡ cycle
  pub count : length outs ≡ length circuit.outs
  pub state : (rows : List (List ℕ)) → IsRunFrom circuit (clocked_start circuit ratios) inputs.columns inputs.rows rows → mono.state ≡ state_at circuit (clocked_start circuit ratios) rows cycle
  pub took : (rows : List (List ℕ)) → IsRunFrom circuit (clocked_start circuit ratios) inputs.columns inputs.rows rows → TookTo (PrintsRow sink form.stops form.ports) (outputs_in circuit rows) 0 out cycle out'
  pub on : SinkWentOn sink out out'

-- what the rows of a run owe
abbrev pub TookAll : {K : Type 0} (circuit : FlatCircuit) (ratios : List Ratio) (inputs : Table) (form : RowForm) (sink : Sink.Ghosts K) (out out' : K) (result : Result Bool Ending) → Type 0
TookAll circuit ratios inputs form sink out out' result =
    (rows : List (List ℕ)) → IsRunFrom circuit (clocked_start circuit ratios) inputs.columns inputs.rows rows
    → (count : ℕ) × Took (PrintsRow sink form.stops form.ports) (outputs_in circuit rows) 0 inputs.rows count out out' result

-- a state and inputs have only one settled row
abbrev pub SettledOnce : Type 0
SettledOnce = (circuit : FlatCircuit) (order : List ℕ) (state : State) (inputs v w : List ℕ) → IsOrder circuit order → Settled circuit state inputs v → Settled circuit state inputs w → v ≡ w

-- what a cycle of a run leaves: the next state, and the row
pub record Follows (circuit : FlatCircuit) (ratios : List Ratio) (rows : List (List ℕ)) (t : ℕ) (after : State) (printed : List ℕ) : Type 0 where
  pub state : after ≡ state_at circuit (clocked_start circuit ratios) rows (t + 1)
  pub row : printed ≡ outputs_in circuit rows t

-- a cycle from the state before cycle t of a run, with its edges and inputs, is cycle t of the run
module _ (once : SettledOnce) (circuit : FlatCircuit) (ratios : List Ratio) (order : List ℕ) (columns : List (List ℕ)) (n : ℕ) (rows : List (List ℕ)) (t : ℕ) (before after : State) (inputs printed : List ℕ) (ordered : IsOrder circuit order)
    (run : IsRunFrom circuit (clocked_start circuit ratios) columns n rows) (lt : t < n) (is : before ≡ state_at circuit (clocked_start circuit ratios) rows t) (given : inputs ≡ inputs_at columns t)
    (cycle : Cycle (edges_at ratios t) circuit before inputs printed after) where
  cycle-row : cycle.row ≡ row_at rows t
  cycle-row =
      once circuit order before inputs cycle.row (row_at rows t) ordered cycle.settled
      (subst (λ (s : State). Settled circuit s inputs (row_at rows t)) (sym is) (subst (λ (i : List ℕ). Settled circuit (state_at circuit (clocked_start circuit ratios) rows t) i (row_at rows t)) (sym given) (run.settled t lt)))

  pub cycle-follows : Follows circuit ratios rows t after printed
  cycle-follows =
      let turned : suc t ≡ t + 1 = omega arith in
      record {
        state = cycle.next ∙ ap (λ (s : State). next_state (edges_at ratios t) circuit s cycle.row) is
            ∙ ap (next_state (edges_at ratios t) circuit (state_at circuit (clocked_start circuit ratios) rows t)) cycle-row
            ∙ ap (state_at circuit (clocked_start circuit ratios) rows) turned;
        row = cycle.outputs_are ∙ ap (outputs circuit) cycle-row;
      }

module _ {K : Type 0} {circuit : FlatCircuit} {ratios : List Ratio} {inputs : Table} {form : RowForm} {sink : Sink.Ghosts K} {out out' : K} {t : ℕ} {mono : Simulation} {outs outs' : List ℕ}
    (once : SettledOnce) (order : List ℕ) (ordered : IsOrder circuit order) (lt : t < inputs.rows) (row : List ℕ) (given : row ≡ row_of inputs.columns t)
    (simulated : SimulatedTo circuit ratios inputs form sink out out' t mono outs) (mono' : Simulation) (cycle : Cycle (edges_at mono.ratios mono.cycle) mono.circuit mono.state row outs' mono'.state)
    (out'' : K) where
  own-cycle : Cycle (edges_at ratios t) circuit mono.state row outs' mono'.state
  own-cycle =
      subst (λ (c : FlatCircuit). Cycle (edges_at ratios t) c mono.state row outs' mono'.state) simulated.same
      (subst (λ (k : ℕ). Cycle (edges_at ratios k) mono.circuit mono.state row outs' mono'.state) simulated.made
      (subst (λ (own : List Ratio). Cycle (edges_at own mono.cycle) mono.circuit mono.state row outs' mono'.state) simulated.timed cycle))

  follows-so : (rows : List (List ℕ)) → IsRunFrom circuit (clocked_start circuit ratios) inputs.columns inputs.rows rows → Follows circuit ratios rows t mono'.state outs'
  follows-so rows run = cycle-follows once circuit ratios order inputs.columns inputs.rows rows t mono.state mono'.state row outs' ordered run lt (simulated.state rows run) given own-cycle

  -- the row that is printed is that of the run
  row-so : {answer : Result Bool Ending} → PrintsRow sink form.stops form.ports out' t outs' out'' answer → (rows : List (List ℕ)) → IsRunFrom circuit (clocked_start circuit ratios) inputs.columns inputs.rows rows
      → PrintsRow sink form.stops form.ports out' t (outputs_in circuit rows t) out'' answer
  row-so {answer = answer} prints rows run = subst (λ (l : List ℕ). PrintsRow sink form.stops form.ports out' t l out'' answer) (follows-so rows run).row prints

  -- its cycle is t after cycle 0
  from-zero : {answer : Result Bool Ending} (rows : List (List ℕ)) → PrintsRow sink form.stops form.ports out' t (outputs_in circuit rows t) out'' answer
      → PrintsRow sink form.stops form.ports out' (0 + t) (outputs_in circuit rows (0 + t)) out'' answer
  from-zero {answer = answer} rows prints =
      let same : t ≡ 0 + t = omega arith in
      row-there (PrintsRow sink form.stops form.ports) (outputs_in circuit rows) 0 out t t out' out'' answer same prints

  -- one more cycle, and then on
  pub simulated-next : (goes_on : Bool) → goes_on ≡ true → PrintsRow sink form.stops form.ports out' t outs' out'' (Ok goes_on) → mono'.circuit ≡ mono.circuit → mono'.ratios ≡ mono.ratios → mono'.cycle ≡ mono.cycle + 1
      → length outs' ≡ length outs → SimulatedTo circuit ratios inputs form sink out out'' (t + 1) mono' outs'
  simulated-next goes_on on prints same timed made counted = record {
    same = same ∙ simulated.same;
    timed = timed ∙ simulated.timed;
    made = made ∙ ap (λ k. k + 1) simulated.made;
    count = counted ∙ simulated.count;
    state = λ rows run. (follows-so rows run).state;
    took = λ rows run. took-next (PrintsRow sink form.stops form.ports) (outputs_in circuit rows) 0 out t out' out'' goes_on on (simulated.took rows run) (from-zero rows (row-so prints rows run));
    on = on-then simulated.on prints.on;
  }

  -- the last row
  pub simulated-last : (goes_on : Bool) → goes_on ≡ false → PrintsRow sink form.stops form.ports out' t outs' out'' (Ok goes_on) → TookAll circuit ratios inputs form sink out out'' (Ok false)
  simulated-last goes_on off prints rows run =
      (suc t, took-last (PrintsRow sink form.stops form.ports) (outputs_in circuit rows) 0 out t inputs.rows out' out'' goes_on off lt (simulated.took rows run) (from-zero rows (row-so prints rows run)))

  -- a row that couldn't be printed
  pub simulated-fails : {r : Result Bool Ending} {ending : Ending} → r ≡ Err ending → PrintsRow sink form.stops form.ports out' t outs' out'' (Err ending) → TookAll circuit ratios inputs form sink out out'' r
  simulated-fails {r = r} {ending = ending} ends prints rows run =
      (t, took-fails (PrintsRow sink form.stops form.ports) (outputs_in circuit rows) 0 out t inputs.rows out' out'' ending lt (simulated.took rows run) (from-zero rows (row-so prints rows run)) r ends)

-- all rows
pub simulated-all : {K : Type 0} {circuit : FlatCircuit} {ratios : List Ratio} {inputs : Table} {form : RowForm} {sink : Sink.Ghosts K} {out out' : K} {cycle : ℕ} {mono : Simulation} {outs : List ℕ}
    → SimulatedTo circuit ratios inputs form sink out out' cycle mono outs → cycle ≡ inputs.rows → TookAll circuit ratios inputs form sink out out' (Ok true)
simulated-all {circuit = circuit} {inputs = inputs} {form = form} {sink = sink} {out = out} {out' = out'} {cycle = cycle} simulated all rows run =
    (inputs.rows, took-all (PrintsRow sink form.stops form.ports) (outputs_in circuit rows) 0 out cycle inputs.rows out' (simulated.took rows run) all)
