-- The network of a plan without pipes can be built from any start. The run from there is computed along an order.
use Rattle.std.proofs.Common.{◌≡◌, ℕ, zero, suc, ◌<◌, ◌≤◌, ◌+◌, ◌++◌, List, [], Some, drop, length, replicate, refl, sym, ◌∙◌, ap, subst, true≢false, arith}
use Rattle.std.specs.Prelude.{Option, unwrap_or}
use Rattle.gg_bits.specs.Limits.{capacity_limit, cycle_limit}
use Rattle.gg_flat.specs.Along.{rows_from}
use Rattle.gg_flat.specs.Circuit.{FlatCircuit}
use Rattle.gg_flat.specs.Line.{value_at}
use Rattle.gg_flat.specs.Order.{IsOrder}
use Rattle.gg_flat.specs.Run.{IsColumns, IsRunFrom, Start, later, row_at, since}
use Rattle.gg_flat.specs.State.{IsState, State, opening}
use Rattle.gg_flat.specs.Streams.{Flow}
use Rattle.gg_order.proofs.RunsLemmas.AlongLemmas.{IsRunFrom-along}
use Rattle.gg_flat.proofs.OrderLemmas.{IsLoop-none}
use Rattle.gg_order.proofs.RunsLemmas.SinceLemmas.{since-add}
use Rattle.gg_order.specs.Design.{Ordered}
use Rattle.gg_order.proofs.FoundLemmas.{found-is}
use Rattle.gg_partfile.specs.declared.request.Request.{Request}
use Rattle.gg_cut_plan.specs.declared.plan.Plan.{Plan}
use Rattle.gg_cut_plan.specs.Direct.{plan_wires}
use Rattle.gg_cut_plan.specs.Bridges.{Models}
use Rattle.gg_cut_plan.specs.Held.{AreHeldOnce}
use Rattle.gg_cut_plan.specs.Listed.{is_among}
use Rattle.gg_cut_plan.specs.Plan.{IsPlan, wire_at}
use Rattle.gg_cut_plan.specs.Solves.{AreRows}
use Rattle.gg_flat_tree.specs.Tree.{path_at}
use Rattle.gg_node.specs.Machine.{no_state}
use Rattle.gg_cut_reference.specs.Follows.{plan_token}
use Rattle.gg_cut_reference.specs.Made.{plan_reference}
use Rattle.gg_cut_reference.proofs.NothingLemmas.{plan-plain}
use Rattle.gg_cut_reference.specs.whole.Whole.{CanBridge, plan_begin, plan_circuit}
use Rattle.gg_cut_reference.proofs.WholeLemmas.PlanLemmas.{circuit-formed, circuit-ordered}
use Rattle.gg_cut_reference.proofs.WholeLemmas.StateLemmas.{states-with}
use Rattle.gg_build.specs.plan.Built.{IsGiven, flow_of}
use Rattle.gg_build.specs.declared.begin.Begin.{Begin}
use Rattle.gg_build.specs.inside.Begin.{AreTokens}
use Rattle.gg_build.specs.inside.Build.{IsToBegin}
use Rattle.gg_build.specs.Build.{circuit_order}

-- ---- rows by cycle

-- the rows of a run, and before them those of the cycles before it
abbrev padded : ℕ → List (List ℕ) → List (List ℕ)
padded k rows = replicate k [] ++ rows

padded-drop : (k : ℕ) (rows : List (List ℕ)) → drop k (padded k rows) ≡ rows
padded-drop zero rows = refl
padded-drop (suc k) rows = padded-drop k rows

padded-length : (k : ℕ) (rows : List (List ℕ)) → length (padded k rows) ≡ k + length rows
padded-length zero rows = omega arith
padded-length (suc k) rows = omega (arith, padded-length k rows)

padded-before : (k t s : ℕ) (rows : List (List ℕ)) → t < k → value_at (row_at (padded k rows) t) s ≡ 0
padded-before zero t s rows lt = absurd (omega (arith, lt))
padded-before (suc k) zero s rows lt = refl
padded-before (suc k) (suc t) s rows lt = padded-before k t s rows (omega (arith, lt))

since-within : (c n t : ℕ) → c ≤ n → t < since c n → later c t < n
since-within zero n t le lt = lt
since-within (suc c) zero t le lt = absurd (omega (arith, le))
since-within (suc c) (suc n) t le lt = omega (arith, since-within c n t (omega (arith, le)) lt)

-- a run from a start, with the rows before it
padded-rows : (circuit : FlatCircuit) (start : Start) (columns : List (List ℕ)) (n : ℕ) (rows : List (List ℕ)) → start.cycle ≤ n → IsRunFrom circuit start columns (since start.cycle n) rows → AreRows circuit start columns n (padded start.cycle rows)
padded-rows circuit start columns n rows le run =
    record {
      begun = le;
      count = omega (arith, padded-length start.cycle rows, run.count, since-add start.cycle n le);
      before = λ t s lt. padded-before start.cycle t s rows lt;
      run = subst (λ (own : List (List ℕ)). IsRunFrom circuit start columns (since start.cycle n) own) (sym (padded-drop start.cycle rows)) run;
    }

-- ---- the start

-- where a network of a plan begins
abbrev pub start_of : Plan → Begin → Start
start_of plan begin = record { cycle = begin.cycle; state = unwrap_or begin.state no_state; ratios = plan.ratios }

-- the rows of the plan's circuit from there
abbrev pub begun_rows : Ordered → Request → Models → Plan → Begin → List (List ℕ) → ℕ → List (List ℕ)
begun_rows design request models plan begin columns n = padded begin.cycle (rows_from (plan_circuit design request models) (circuit_order design request models) (plan_begin design request models (start_of plan begin)) columns (since begin.cycle n))

-- what the plan's network computes from there
abbrev pub begun_flow : Ordered → Request → Models → Plan → Begin → List (List ℕ) → ℕ → Flow
begun_flow design request models plan begin columns n = flow_of design request plan (start_of plan begin) (begun_rows design request models plan begin columns n)

module _ (design : Ordered) (request : Request) (models : Models) (default : ℕ) (plan : Plan) (begin : Begin) (state : State) (columns : List (List ℕ)) (n : ℕ) (can : CanBridge design request models) (held : AreHeldOnce design.circuit) (planned : IsPlan design request models default plan)
    (some : 0 < default) (room : default ≤ capacity_limit) (most : n ≤ cycle_limit) (fed : IsColumns (plan_circuit design request models) n columns) (plain : request.pipe ≡ []) (within : begin.cycle ≤ n) (state_is : begin.state ≡ Some state) (typed : IsState design.circuit state) where
  abbrev circuit : FlatCircuit
  circuit = plan_circuit design request models

  abbrev whole : Start
  whole = plan_begin design request models (start_of plan begin)

  state-typed : IsState (plan_reference design request) (start_of plan begin).state
  state-typed =
      subst (λ (circuit : FlatCircuit). IsState circuit (start_of plan begin).state) (sym (plan-plain design request plain))
      (subst (λ (own : State). IsState design.circuit own) (sym (ap (λ o. unwrap_or o no_state) state_is)) typed)

  order : IsOrder circuit (circuit_order design request models)
  order =
      let any = circuit-ordered design request models can in
      found-is circuit (circuit-formed design request models can) (λ loop is. IsLoop-none circuit any.order loop any.is is)

  run-along : IsRunFrom circuit whole columns (since begin.cycle n) (rows_from circuit (circuit_order design request models) whole columns (since begin.cycle n))
  run-along =
      IsRunFrom-along circuit (circuit_order design request models) whole columns (since begin.cycle n) (circuit-formed design request models can) order
      (states-with models (plan_reference design request) (start_of plan begin).state request.bridges state-typed)
      (λ t lt. fed.inputs (later begin.cycle t) (since-within begin.cycle n t within lt))

  begun-given : IsGiven design request models default plan columns n (start_of plan begin) (begun_rows design request models plan begin columns n)
  begun-given =
      record {
        can = can;
        held = held;
        some = some;
        planned = planned;
        most = most;
        given = fed;
        typed = state-typed;
        clocked = planned.ratios;
        run = padded-rows circuit whole columns n (rows_from circuit (circuit_order design request models) whole columns (since begin.cycle n)) within run-along;
      }

  -- no channel has a pipe
  no-tokens : (token : ℕ → ℕ) → AreTokens plan.channels token begin.tokens.items
  no-tokens token = λ c any lt piped.
      absurd (true≢false (sym piped ∙ (planned.channel c any lt).pipe ∙ ap (λ names. is_among names (path_at design.circuit.paths (wire_at (plan_wires design.circuit design.tree request) c).signal)) plain))

  pub to-begin : IsToBegin plan begin columns n (begun_flow design request models plan begin columns n)
  to-begin =
      record {
        start = start_of plan begin;
        run =
            record {
              design = design;
              request = request;
              models = models;
              default = default;
              rows = begun_rows design request models plan begin columns n;
              given = begun-given;
              room = room;
              flow_is = refl;
            };
        begins =
            record {
              cycle = refl;
              state = ap (λ (told : Option State). unwrap_or told no_state) state_is ∙ sym (ap (λ (told : Option State). unwrap_or told (opening (plan_reference design request))) state_is);
              tokens = no-tokens (plan_token design request (start_of plan begin).state);
              ratios = refl;
            };
      }
