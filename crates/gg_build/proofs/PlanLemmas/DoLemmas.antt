-- What each machine of the network does, on the values that the circuit's rows give the signals of its channels.
use Rattle.std.proofs.Common.{◌≡◌, ℕ, ◌<◌, ◌≤◌, List, [], ◌++◌, None, false, drop, length, map, refl, sym, ◌∙◌, ap, subst, arith}
use Rattle.std.specs.Prelude.{Option}
use Rattle.std.specs.List.{range_with_len}
use Rattle.std.proofs.lemmas.List.{length-map, length-replicate, get_or-map}
use Rattle.gg_bits.specs.Limits.{cycle_limit}
use Rattle.gg_flat.specs.Line.{value_at}
use Rattle.gg_flat.specs.Circuit.{FlatCircuit}
use Rattle.gg_flat.specs.Depends.{DependsOn}
use Rattle.gg_flat.specs.Clock.{Ratio}
use Rattle.gg_flat_tree.specs.Clocked.{clocks_from}
use Rattle.gg_flat.specs.State.{IsState, State}
use Rattle.gg_flat.specs.Run.{IsRunFrom, Start, row_at, since}
use Rattle.gg_flat.specs.WellFormed.{IsWellFormed}
use Rattle.gg_order.proofs.RunsLemmas.UniqueLemmas.{Settled-once}
use Rattle.gg_order.proofs.RunsLemmas.DependLemmas.{depends-reached}
use Rattle.gg_part.specs.PartRun.{part_ratios, part_rows, part_start, part_state}
use Rattle.gg_flat.specs.InOrder.{IsInOrder}
use Rattle.gg_part.specs.declared.part.Part.{Part}
use Rattle.gg_flat.proofs.NumberLemmas.{IsOrder-numbers}
use Rattle.gg_order.specs.Design.{Ordered}
use Rattle.gg_cut_plan.specs.declared.listed.Listed.{Listed}
use Rattle.gg_cut_plan.specs.Direct.{Hub, routes}
use Rattle.gg_cut_plan.specs.Plan.{channels_to, channels_from, signals_of, givens_of, IsCutPart}
use Rattle.gg_cut_plan.specs.Solves.{AreRows}
use Rattle.gg_node.specs.Machine.{RunsPiece, Machine, needs_at}
use Rattle.gg_net.specs.Network.{Kind, kind_of}
use Rattle.gg_net.specs.Kept.{in_columns, RunsRows, Runs, Answers, Asks}
use Rattle.gg_fame5.specs.Machine as dataflow
use Rattle.gg_memunit.specs.MemoryUnit as memory_unit
use Rattle.gg_memunit.proofs.UnitLemmas.{sole}
use Rattle.gg_memunit.proofs.DependLemmas.{memory-once, memory-suffices}
use Rattle.gg_build.specs.plan.Built.{IsUnitOf, IsMemoryOf}
use Rattle.gg_build.proofs.PlanLemmas.AlikeLemmas.{once-alike, depends-alike, run-alike}
use Rattle.gg_build.proofs.PlanLemmas.ShownLemmas.{AreShown, part-shown, seen-twice, rows-twice, own-run}
use Rattle.gg_build.proofs.PlanLemmas.ServeLemmas.{memory-serves}
use Rattle.gg_build.proofs.PlanLemmas.BeginLemmas.{memory-begins, memory-sides}
use Rattle.gg_build.proofs.PlanLemmas.StateLemmas.{IsState-part, ratios-again}

-- the start of a machine of this kind, which begins with this cycle, in this state
abbrev pub start_in : ℕ → State → Kind → Start
start_in begin begins kind = record { cycle = begin; state = begins; ratios = kind.ratios }

-- A machine of this kind that begins with cycle `begin`, in this state, with these rows of its own, does all cycles below n: its outs
-- give, and its ins are given, what these signals have in the circuit's rows.
pub record DoesCycles (begin : ℕ) (rows : List (List ℕ)) (n : ℕ) (ins outs : List ℕ) (kind : Kind) (begins : State) (own : List (List ℕ)) : Type 0 where
  pub able : n ≤ kind.limit
  pub does : Runs kind.behaviour kind (start_in begin begins kind) own n
  pub answers : (o t : ℕ) → o < length outs → begin ≤ t → t < n → Answers kind.behaviour own o t (value_at (row_at rows t) (value_at outs o))
  pub asks : (i t : ℕ) → i < length ins → begin ≤ t → t < n → Asks kind.behaviour own i t (value_at (row_at rows t) (value_at ins i))

-- ---- pieces

-- A piece has these in-signals and out-signals, in the numbers that `globals` gives its signals.
pub record IsNamedAs (globals : List ℕ) (piece : FlatCircuit) (ins outs : List ℕ) : Type 0 where
  pub in_count : length piece.ins ≡ length ins
  pub out_count : length piece.outs ≡ length outs
  pub in_low : (i : ℕ) → i < length ins → value_at piece.ins i < length globals
  pub in_at : (i : ℕ) → i < length ins → value_at globals (value_at piece.ins i) ≡ value_at ins i
  pub out_low : (o : ℕ) → o < length outs → value_at piece.outs o < length globals
  pub out_at : (o : ℕ) → o < length outs → value_at globals (value_at piece.outs o) ≡ value_at outs o

pub part-named : (globals : List ℕ) (piece : FlatCircuit) (ins outs : List ℕ) → ((i : ℕ) → i < length piece.ins → value_at piece.ins i < length globals) → ((o : ℕ) → o < length piece.outs → value_at piece.outs o < length globals) → map (value_at globals) piece.ins ≡ ins → map (value_at globals) piece.outs ≡ outs → IsNamedAs globals piece ins outs
part-named globals piece ins outs low high has_ins has_outs =
    let in_count : length piece.ins ≡ length ins = sym (length-map piece.ins (value_at globals)) ∙ ap length has_ins in
    let out_count : length piece.outs ≡ length outs = sym (length-map piece.outs (value_at globals)) ∙ ap length has_outs in
    record {
      in_count = in_count;
      out_count = out_count;
      in_low = λ i lt. low i (omega (arith, lt, in_count));
      in_at = λ i lt. sym (get_or-map (value_at globals) piece.ins i 0 0 (omega (arith, lt, in_count))) ∙ ap (λ (l : List ℕ). value_at l i) has_ins;
      out_low = λ o lt. high o (omega (arith, lt, out_count));
      out_at = λ o lt. sym (get_or-map (value_at globals) piece.outs o 0 0 (omega (arith, lt, out_count))) ∙ ap (λ (l : List ℕ). value_at l o) has_outs;
    }

-- those of a cut's part
pub cut-named : (design : Ordered) (listed : Listed) (hub : Hub) (m : ℕ) (part : Part) → IsCutPart design listed hub m part → IsNamedAs part.globals part.piece (signals_of (routes hub) (channels_to (routes hub) m)) (givens_of (routes hub) (channels_from (routes hub) m))
cut-named design listed hub m part cut =
    part-named part.globals part.piece (signals_of (routes hub) (channels_to (routes hub) m)) (givens_of (routes hub) (channels_from (routes hub) m)) (λ i lt. (cut.is.ins i lt).0) cut.is.outs cut.ins cut.outs

-- the same where each signal of the circuit is seen by another number
named-seen : (seen : ℕ → ℕ) (globals : List ℕ) (piece : FlatCircuit) (ins outs : List ℕ) → IsNamedAs globals piece ins outs → IsNamedAs (map seen globals) piece (map seen ins) (map seen outs)
named-seen seen globals piece ins outs named =
    let count = length-map globals seen in
    let in_count = length-map ins seen in
    let out_count = length-map outs seen in
    record {
      in_count = named.in_count ∙ sym in_count;
      out_count = named.out_count ∙ sym out_count;
      in_low = λ i lt. let low = named.in_low i (omega (arith, lt, in_count)) in omega (arith, low, count);
      in_at = λ i lt.
          let low : i < length ins = omega (arith, lt, in_count) in
          get_or-map seen globals (value_at piece.ins i) 0 0 (named.in_low i low) ∙ ap seen (named.in_at i low) ∙ sym (get_or-map seen ins i 0 0 low);
      out_low = λ o lt. let low = named.out_low o (omega (arith, lt, out_count)) in omega (arith, low, count);
      out_at = λ o lt.
          let low : o < length outs = omega (arith, lt, out_count) in
          get_or-map seen globals (value_at piece.outs o) 0 0 (named.out_low o low) ∙ ap seen (named.out_at o low) ∙ sym (get_or-map seen outs o 0 0 low);
    }

-- the in-signals and out-signals of a part of a part, in the numbers of the whole circuit
named-twice : (globals own : List ℕ) (part piece : FlatCircuit) (ins outs : List ℕ) → IsNamedAs globals part ins outs → IsNamedAs own piece part.ins part.outs → IsNamedAs (map (value_at globals) own) piece ins outs
named-twice globals own part piece ins outs outer inner =
    let count = length-map own (value_at globals) in
    record {
      in_count = inner.in_count ∙ outer.in_count;
      out_count = inner.out_count ∙ outer.out_count;
      in_low = λ i lt. let low = inner.in_low i (omega (arith, lt, outer.in_count)) in omega (arith, low, count);
      in_at = λ i lt.
          let low : i < length part.ins = omega (arith, lt, outer.in_count) in
          get_or-map (value_at globals) own (value_at piece.ins i) 0 0 (inner.in_low i low) ∙ ap (value_at globals) (inner.in_at i low) ∙ outer.in_at i lt;
      out_low = λ o lt. let low = inner.out_low o (omega (arith, lt, outer.out_count)) in omega (arith, low, count);
      out_at = λ o lt.
          let low : o < length part.outs = omega (arith, lt, outer.out_count) in
          get_or-map (value_at globals) own (value_at piece.outs o) 0 0 (inner.out_low o low) ∙ ap (value_at globals) (inner.out_at o low) ∙ outer.out_at o lt;
    }

-- a piece with the same in-signals and out-signals
named-alike : (globals : List ℕ) (one other : FlatCircuit) (ins outs : List ℕ) → one.ins ≡ other.ins → one.outs ≡ other.outs → IsNamedAs globals other ins outs → IsNamedAs globals one ins outs
named-alike globals one other ins outs same_ins same_outs named =
    record {
      in_count = ap length same_ins ∙ named.in_count;
      out_count = ap length same_outs ∙ named.out_count;
      in_low = λ i lt. subst (λ (l : List ℕ). value_at l i < length globals) (sym same_ins) (named.in_low i lt);
      in_at = λ i lt. ap (λ (l : List ℕ). value_at globals (value_at l i)) same_ins ∙ named.in_at i lt;
      out_low = λ o lt. subst (λ (l : List ℕ). value_at l o < length globals) (sym same_outs) (named.out_low o lt);
      out_at = λ o lt. ap (λ (l : List ℕ). value_at globals (value_at l o)) same_outs ∙ named.out_at o lt;
    }

piece-does : (begin : ℕ) (globals : List ℕ) (piece : FlatCircuit) (rows : List (List ℕ)) (n : ℕ) (ins outs : List ℕ) (kind : Kind) (begins : State) (own : List (List ℕ)) → kind.behaviour ≡ RunsPiece piece → n ≤ kind.limit → AreShown globals n rows own → IsNamedAs globals piece ins outs → RunsRows piece kind (start_in begin begins kind) own n → DoesCycles begin rows n ins outs kind begins own
piece-does begin globals piece rows n ins outs kind begins own is able shown named runs =
    record {
      able = able;
      does = subst (λ b. Runs b kind (start_in begin begins kind) own n) (sym is) runs;
      answers = λ o t low le lt. subst (λ b. Answers b own o t (value_at (row_at rows t) (value_at outs o))) (sym is) (shown.at t (value_at piece.outs o) lt (named.out_low o low) ∙ ap (value_at (row_at rows t)) (named.out_at o low));
      asks = λ i t low le lt. subst (λ b. Asks b own i t (value_at (row_at rows t) (value_at ins i))) (sym is) (shown.at t (value_at piece.ins i) lt (named.in_low i low) ∙ ap (value_at (row_at rows t)) (named.in_at i low));
    }

-- A machine with this part, which sees the circuit's signals by these numbers. What it sees of the circuit's rows below n is a run of its
-- piece, from its part of this start. The signals of its channels are `ins` and `outs`.
module _ (part : Part) (seen : ℕ → ℕ) (n : ℕ) (rows : List (List ℕ)) (start : Start) (ins outs : List ℕ) (formed : IsWellFormed part.piece) (named : IsNamedAs part.globals part.piece ins outs) (count : length rows ≡ n)
    (run : AreRows part.piece (part_start part.held part.memories part.clocks start) (in_columns part.piece (part_rows (map seen part.globals) rows)) n (part_rows (map seen part.globals) rows)) (most : n ≤ cycle_limit) where
  shown : (globals : List ℕ) → AreShown globals n rows (part_rows globals rows)
  shown globals = subst (λ k. AreShown globals k rows (part_rows globals rows)) count (part-shown globals rows)

  pub unit-does : (machine : Machine) → IsInOrder part.piece → IsUnitOf (part_start part.held part.memories part.clocks start) part machine → DoesCycles start.cycle rows n (map seen ins) (map seen outs) (kind_of machine) (part_state part.held part.memories start.state) (part_rows (map seen part.globals) rows)
  unit-does machine ordered unit =
      let mine = map seen part.globals in
      let own = part_rows mine rows in
      let begin = part_start part.held part.memories part.clocks start in
      let order = range_with_len 0 (length part.piece.signals) in
      let along = IsOrder-numbers part.piece ordered in
      let nothing : Option ℕ = None in
      let piece = unit.circuit in
      subst (λ (t : Machine). DoesCycles start.cycle rows n (map seen ins) (map seen outs) (kind_of t) begin.state own) (sym unit.is)
      (piece-does start.cycle mine piece rows n (map seen ins) (map seen outs) (kind_of (dataflow.started_unit (record { circuit = piece; needs = unit.needs }) begin.ratios begin.state begin.cycle)) begin.state own refl most (shown mine) (named-alike mine piece part.piece (map seen ins) (map seen outs) unit.alike.ins unit.outs (named-seen seen part.globals part.piece ins outs named))
      (record {
        formed = unit.formed;
        once = once-alike piece part.piece unit.alike (λ state inputs v w sv sw. Settled-once part.piece order state inputs v w along sv sw);
        suffice = λ o low.
            let there : o < length part.piece.outs = omega (arith, low, ap length unit.outs) in
            depends-alike piece part.piece unit.alike (value_at piece.outs o) (needs_at unit.needs o)
            (subst (λ (l : List ℕ). DependsOn part.piece (value_at l o) (needs_at unit.needs o)) (sym unit.outs)
            (depends-reached part.piece order (value_at part.piece.outs o) (needs_at unit.needs o) formed along (formed.outs o there) (λ place within reaches. ((unit.exact.each o there).exact place).1 (within, reaches))));
        ins = length-replicate (length piece.ins) nothing;
        outs = length-replicate (length piece.outs) false;
        is = run-alike piece part.piece unit.alike begin (since start.cycle n) own (drop start.cycle own) run.run;
        serves = tt;
      }))

  pub memory-does : (machine : Machine) → length part.globals ≡ length part.piece.signals → part.piece.clocks ≡ length part.clocks → length part.memories ≡ 1 → IsState part.piece (part_state part.held part.memories start.state) → IsMemoryOf (part_start part.held part.memories part.clocks start) part machine
      → DoesCycles start.cycle rows n (map seen ins) (map seen outs) (kind_of machine) (part_state [] part.memories start.state) (part_rows (map seen (map (value_at part.globals) (part.piece.ins ++ part.piece.outs))) rows)
  memory-does machine total clock_count one typed memory =
      let found = sole memory.alone.piece.memories memory.is_memory.one in
      let alone = memory.alone in
      let piece = alone.piece in
      let mine = map seen part.globals in
      let globals = map seen (map (value_at part.globals) alone.globals) in
      let own = part_rows globals rows in
      let ratios = part_ratios part.clocks start.ratios in
      let begins = part_state alone.held alone.memories (part_state part.held part.memories start.state) in
      let begin : Start = record { cycle = start.cycle; state = begins; ratios = ratios } in
      let nothing : Option ℕ = None in
      let below : (s : ℕ) → s < length alone.globals → value_at alone.globals s < length part.globals = λ s lt. let low = memory.is_part.within s lt in omega (arith, low, total) in
      let seen_below : (s : ℕ) → s < length alone.globals → value_at alone.globals s < length mine = λ s lt. let low = below s lt in omega (arith, low, length-map part.globals seen) in
      let inner = part-named alone.globals piece part.piece.ins part.piece.outs (λ i lt. (memory.is_part.ins i lt).0) memory.is_part.outs memory.ins memory.outs in
      let alone_typed = IsState-part part.piece piece alone.globals alone.held alone.memories alone.clocks memory.is_part (part_state part.held part.memories start.state) typed in
      let alone_run = own-run part.piece piece alone.globals alone.held alone.memories alone.clocks memory.is_part (part_start part.held part.memories part.clocks start) (in_columns part.piece (part_rows mine rows)) n (part_rows mine rows) typed run in
      let alike : part_ratios alone.clocks ratios ≡ ratios =
      ap (λ (l : List (Option ℕ)). part_ratios l ratios) (memory.clocks ∙ ap (clocks_from 0) clock_count) ∙ ratios-again part.clocks start.ratios in
      let same : own ≡ part_rows alone.globals (part_rows mine rows) = ap (λ (l : List ℕ). part_rows l rows) (seen-twice seen part.globals alone.globals below) ∙ rows-twice mine alone.globals rows seen_below in
      let own_run = subst (λ (l : List (List ℕ)). IsRunFrom piece begin (in_columns piece l) (since start.cycle n) (drop start.cycle l)) (sym same)
      (subst (λ (l : List Ratio). IsRunFrom piece (record { cycle = start.cycle; state = begins; ratios = l }) (in_columns piece (part_rows alone.globals (part_rows mine rows))) (since start.cycle n) (drop start.cycle (part_rows alone.globals (part_rows mine rows)))) alike alone_run.run) in
      subst (λ (t : Machine). DoesCycles start.cycle rows n (map seen ins) (map seen outs) (kind_of t) (part_state [] part.memories start.state) (part_rows (map seen (map (value_at part.globals) (part.piece.ins ++ part.piece.outs))) rows)) (sym memory.is)
      (subst (λ (l : List ℕ). DoesCycles start.cycle rows n (map seen ins) (map seen outs) (kind_of (memory_unit.started_unit piece ratios begins start.cycle)) (part_state [] part.memories start.state) (part_rows (map seen (map (value_at part.globals) l)) rows)) memory.globals
      (subst (λ (s : State). DoesCycles start.cycle rows n (map seen ins) (map seen outs) (kind_of (memory_unit.started_unit piece ratios begins start.cycle)) s own) (memory-begins part alone start.state memory.is_part memory.memories memory.is_memory.alone one)
      (piece-does start.cycle globals piece rows n (map seen ins) (map seen outs) (kind_of (memory_unit.started_unit piece ratios begins start.cycle)) begins own refl most (shown globals) (named-seen seen (map (value_at part.globals) alone.globals) piece ins outs (named-twice part.globals alone.globals part.piece piece ins outs named inner))
      (record {
        formed = memory.is_memory.formed;
        once = memory-once piece found.0 memory.is_memory found.1 (memory-sides part alone memory.is_part memory.globals memory.ins memory.outs);
        suffice = memory-suffices piece found.0 memory.is_memory found.1;
        ins = length-replicate (length piece.ins) nothing;
        outs = length-replicate (length piece.outs) false;
        is = own_run;
        serves = memory-serves piece begin own n memory.is_memory alone_typed own_run;
      }))))
