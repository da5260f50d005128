-- What `resume` writes after `save`: the rest of what `run` writes.
use Rattle.std.proofs.Common.{◌≡◌, ℕ, ◌+◌, ◌-◌, ◌<◌, ◌≤◌, List, [], ◌∷◌, ◌++◌, Bool, None, true, false, map, take, drop, length, refl, sym, ap, ◌∙◌, subst, inl, inr, arith, suc}
use Rattle.std.specs.Prelude.{◌==◌, if◌then◌else◌}
use Rattle.std.proofs.lemmas.Bool.{cases_Bool, eqb-true, or_right}
use Rattle.std.proofs.lemmas.List.{length-take-le, take-append-drop}
use Rattle.gg_flat.specs.Circuit.{FlatCircuit}
use Rattle.gg_flat.specs.Clock.{Ratio}
use Rattle.gg_flat.specs.Order.{IsOrder}
use Rattle.gg_flat.specs.Run.{IsRunFrom, Start, since, state_at}
use Rattle.gg_flat_tree.specs.Scoped.{stop_signals}
use Rattle.gg_flat.specs.State.{IsState, State}
use Rattle.gg_flat.specs.declared.ports.Port.{Port}
use Rattle.gg_order.proofs.RunsLemmas.AlongLemmas.{IsState-at}
use Rattle.gg_order.proofs.RunsLemmas.RunLemmas.{IsRunFrom-rest, state_at-append}
use Rattle.gg_order.proofs.RunsLemmas.SinceLemmas.{since-add}
use Rattle.gg_order.proofs.RunsLemmas.UniqueLemmas.{IsRunFrom-once}
use Rattle.gg_part.specs.KeepsToTree.{KeepsToTree}
use Rattle.gg_order.specs.Design.{IsDesign, Ordered}
use Rattle.gg_partfile.specs.Partition.{IsPartition}
use Rattle.gg_partfile.specs.declared.request.Request.{Request}
use Rattle.gg_partfile.proofs.OnceLemmas.{request-once}
use Rattle.gg_cut_plan.specs.Bridges.{Models}
use Rattle.gg_cut_plan.specs.Clocks.{ratios_of, stop_ratios}
use Rattle.gg_cut_plan.specs.Direct.{plan_hub}
use Rattle.gg_cut_plan.specs.Fault.{first_fault, first_fault_with}
use Rattle.gg_cut_plan.specs.Held.{AreHeldOnce}
use Rattle.gg_cut_plan.specs.Solves.{AreRows}
use Rattle.gg_cut_reference.specs.Follows.{plan_start}
use Rattle.gg_cut_reference.specs.Links.{taken_as}
use Rattle.gg_cut_reference.specs.Made.{AllHeld, plan_reference}
use Rattle.gg_cut_reference.proofs.OneReference.{one-reference, one-start}
use Rattle.gg_cut_reference.proofs.PlanLemmas.{plan-ordered}
use Rattle.gg_cut_reference.proofs.StartLemmas.{plan-typed}
use Rattle.gg_rows.specs.Printed.{plan_stops}
use Rattle.gg_snap.specs.text.Lines.{snap_text}
use Rattle.gg_snap.specs.text.Standing.{IsSnap}
use Rattle.gg_snap.specs.text.Table.{rows_of}
use Rattle.gg_trace.specs.Last.{has_halted, halts, row_count}
use Rattle.gg_trace.specs.Printing.{text_from}
use Rattle.gg_trace.specs.Trace.{Columns}
use Rattle.gg_trace.proofs.LastLaws.{rows-before, rows-since, rows-stay, rows-within}
use Rattle.golden_commands.specs.Meaning.{AreMeant, Meaning, meaning_of, meant_reference, meant_values}
use Rattle.golden_commands.specs.Partition.{IsPartitionFor, to_run, to_save}
use Rattle.golden_commands.specs.Resumed.{CanBeResumed, HaveSamePipes, HaveSameRatios, IsRestOf, IsResumedText, rest_rows, rest_text, start_at}
use Rattle.golden_commands.specs.Run.{IsTextOf}
use Rattle.golden_commands.specs.RunText.{FeedsOnly, IsRunBy, columns_of, outputs_kept, outputs_of, run_rows, run_text, shown_ports, stops_kept}
use Rattle.golden_commands.specs.Saved.{HasRun, save_limit, state_before}
use Rattle.golden_commands.proofs.AloneLemmas.{circuit-alone, fed-alone, kept-alone, run-alone, shown-alone}
use Rattle.golden.proofs.FromLemmas.{counts-from, texts-from}
use Rattle.golden.proofs.MeantLemmas.{columns-few, columns-once, meant-faultless, meant-formed, meant-is, meant-ordered, meant-snap, reference_order}
use Rattle.golden_commands.proofs.PartitionLemmas.{DesignsAgree, fault-with-same}
use Rattle.golden_commands.proofs.TextLemmas.{only-text}

-- ---- how far a run may be saved

module _ (is_halt : ℕ → Bool) (n at : ℕ) (le : at ≤ (if row_count is_halt n == n then n else row_count is_halt n - 1)) where
  limit-within : at ≤ n
  limit-within =
      elim (cases_Bool (row_count is_halt n == n)) [
        | inl all ↦ omega (arith, le, ap (λ b. if b then n else row_count is_halt n - 1) all)
        | inr few ↦ omega (arith, le, ap (λ b. if b then n else row_count is_halt n - 1) few, rows-within is_halt n)
      ]

  -- no stop acts before cycle `at`, but for one in the last cycle
  limit-open : (t : ℕ) → t < at → t + 1 < n → is_halt t ≡ false
  limit-open t lt more = elim (cases_Bool (is_halt t)) [ inl halted ↦ absurd (never halted) | inr none ↦ none ]
    where
      never : is_halt t ≡ true → ⊥
      never halted =
          let stays : row_count is_halt n ≡ row_count is_halt (suc t) = rows-stay is_halt (suc t) n (omega (arith, more)) (or_right (has_halted is_halt t) (is_halt t) halted) in
          let few : row_count is_halt n ≤ suc t = omega (arith, stays, rows-within is_halt (suc t)) in
          elim (cases_Bool (row_count is_halt n == n)) [
            | inl all ↦ omega (arith, few, more, eqb-true (row_count is_halt n) n all)
            | inr less ↦ omega (arith, few, lt, le, ap (λ b. if b then n else row_count is_halt n - 1) less)
          ]

-- ---- what two requests with the same pipes have in common

maps-split : (f g : ℕ → ℕ) (xs ys : List ℕ) → map f (xs ++ ys) ≡ map g (xs ++ ys) → (map f xs ≡ map g xs) × (map f ys ≡ map g ys)
maps-split f g [] ys e = (refl, e)
maps-split f g (x ∷ xs) ys e =
    let first : f x ≡ g x = cc in
    let rest : map f (xs ++ ys) ≡ map g (xs ++ ys) = cc in
    let split = maps-split f g xs ys rest in
    let all : f x ∷ map f xs ≡ g x ∷ map g xs = ap (λ (y : ℕ). y ∷ map f xs) first ∙ ap (λ (l : List ℕ). g x ∷ l) split.0 in
    (all, split.1)

module _ (design : Ordered) (one other : Request) (keeps : KeepsToTree design.circuit design.tree) (circuits : plan_reference design one ≡ plan_reference design other) (starts : plan_start design one ≡ plan_start design other)
    (alone : one.bridges ≡ []) (lone : other.bridges ≡ []) where
  -- the outputs and the conditions of the stops are the same signals of the reference circuit
  kept-same : (outputs_kept design one ≡ outputs_kept design other) × (stops_kept design one ≡ stops_kept design other)
  kept-same =
      let seen : Request → ℕ → ℕ = λ r. taken_as (plan_hub design.circuit design.tree r) in
      let split = maps-split (seen one) (seen other) (outputs_of design.tree) (stop_signals design.tree)
      (ap (map (seen one)) keeps.scoped.outs ∙ ap (λ (c : FlatCircuit). c.outs) circuits ∙ ap (map (seen other)) (sym keeps.scoped.outs)) in
      (kept-alone design one alone ∙ split.0 ∙ sym (kept-alone design other lone), split.1)

  ratios-same : ratios_of design.tree one ≡ ratios_of design.tree other
  ratios-same = ap (λ (s : Start). s.ratios) starts

  -- so the text of a rest is the same for both
  rests-same : (n at : ℕ) (columns rows : List (List ℕ)) → rest_text (meaning_of design one n columns) at rows ≡ rest_text (meaning_of design other n columns) at rows
  rests-same n at columns rows =
      let text : List Port → List ℕ → List Ratio → List ℕ → List ℕ = λ ports outs clocks stops. text_from ports (columns_of outs rows) at (row_count (λ k. halts clocks (columns_of stops rows) (at + k)) (n - at)) in
      ap (λ (ports : List Port). text ports (outputs_kept design one) (plan_stops design one) (stops_kept design one)) (shown-alone design one alone ∙ sym (shown-alone design other lone))
      ∙ ap (λ (outs : List ℕ). text (shown_ports design other) outs (plan_stops design one) (stops_kept design one)) kept-same.0
      ∙ ap (λ (ratios : List Ratio). text (shown_ports design other) (outputs_kept design other) (stop_ratios design.tree ratios) (stops_kept design one)) ratios-same
      ∙ ap (λ (stops : List ℕ). text (shown_ports design other) (outputs_kept design other) (plan_stops design other) stops) kept-same.1

  -- a run of the one reference circuit from a state is one of the other
  rows-moved : (n at : ℕ) (columns rows : List (List ℕ)) (state : State) → AreRows (plan_reference design one) (start_at (meaning_of design one n columns) at state) columns n rows
      → AreRows (plan_reference design other) (start_at (meaning_of design other n columns) at state) columns n rows
  rows-moved n at columns rows state run =
      subst (λ (ratios : List Ratio). AreRows (plan_reference design other) (record { cycle = at; state = state; ratios = ratios }) columns n rows) ratios-same
      (subst (λ (c : FlatCircuit). AreRows c (start_at (meaning_of design one n columns) at state) columns n rows) circuits run)

-- ---- a run that goes on from the state before a cycle

module _ (design : Ordered) (request : Request) (is : IsDesign design) (keeps : KeepsToTree design.circuit design.tree) (held : AreHeldOnce design.circuit) (faultless : first_fault design request ≡ None)
    (columns : List (List ℕ)) (n at : ℕ) (rows rest : List (List ℕ)) (run : IsRunFrom (plan_reference design request) (plan_start design request) columns n rows) (le : at ≤ save_limit (meaning_of design request n columns) rows) where
  abbrev whole : FlatCircuit
  whole = plan_reference design request

  abbrev start : Start
  start = plan_start design request

  abbrev is_halt : ℕ → Bool
  is_halt = halts (plan_stops design request) (columns_of (stops_kept design request) rows)

  within : at ≤ n
  within = limit-within is_halt n at le

  -- where the rest starts
  abbrev begin : Start
  begin = start_at (meaning_of design request n columns) at (state_before (meaning_of design request n columns) rows at)

  -- the rows from there on are a run
  behind : IsRunFrom whole begin columns (since at n) (drop at rows)
  behind =
      let long : at ≤ length (take at rows) = omega (arith, length-take-le at rows (omega (arith, run.count, within))) in
      let front : state_at whole start (take at rows) at ≡ state_at whole start rows at =
      sym (state_at-append whole start (take at rows) (drop at rows) at long) ∙ ap (λ (l : List (List ℕ)). state_at whole start l at) (take-append-drop at rows) in
      subst (λ (s : State). IsRunFrom whole (start_at (meaning_of design request n columns) at s) columns (since at n) (drop at rows)) front
      (IsRunFrom-rest whole start columns at (since at n) rows (subst (λ (k : ℕ). IsRunFrom whole start columns k rows) (sym (since-add at n within)) run))

  module _ (own : AreRows (plan_reference design request) (start_at (meaning_of design request n columns) at (state_before (meaning_of design request n columns) rows at)) columns n rest) where
    count-so : rest_rows (meaning_of design request n columns) at rest ≡ run_rows design request rows n - at
    count-so =
        counts-from whole (reference_order design request) (plan-ordered design request is keeps held faultless) begin columns n rest rows own.run behind (plan_stops design request) (stops_kept design request) (n - at)
        ∙ rows-since is_halt at n within (limit-open is_halt n at le)

    -- so their text is the rest of the whole text
    text-so : IsRestOf at (run_text design request rows n) (rest_text (meaning_of design request n columns) at rest)
    text-so =
        let ports : List Port = shown_ports design request in
        record {
          ports = ports;
          columns = columns_of (outputs_kept design request) rows;
          rows = run_rows design request rows n;
          within = rows-before is_halt at n within (limit-open is_halt n at le);
          whole_is = refl;
          is =
              texts-from whole (reference_order design request) (plan-ordered design request is keeps held faultless) begin columns n rest rows own.run behind ports (outputs_kept design request)
              (rest_rows (meaning_of design request n columns) at rest)
              ∙ ap (text_from ports (columns_of (outputs_kept design request) rows) at) count-so;
        }

-- ---- two requests

module _ (design : Ordered) (one other : Request) (is : IsDesign design) (keeps : KeepsToTree design.circuit design.tree) (all : AllHeld design.circuit) (faultless : first_fault design one ≡ None) (none : first_fault design other ≡ None)
    (pipes : HaveSamePipes one other) where
  circuits-same : plan_reference design one ≡ plan_reference design other
  circuits-same = one-reference design one other is keeps all faultless none pipes

  module _ (ratios : HaveSameRatios one other) where
    starts-same : plan_start design one ≡ plan_start design other
    starts-same = one-start design one other is keeps all faultless none pipes ratios

    -- a run that starts from a saved state prints the rest
    pub runs-go-on : AreHeldOnce design.circuit → one.bridges ≡ [] → other.bridges ≡ [] → (models : Models) (columns : List (List ℕ)) (n at : ℕ) (rows rest : List (List ℕ)) → IsRunBy design other models columns n rows → at ≤ save_limit (meaning_of design other n columns) rows
        → AreRows (plan_reference design one) (start_at (meaning_of design one n columns) at (state_before (meaning_of design other n columns) rows at)) columns n rest
        → IsRestOf at (run_text design other rows n) (rest_text (meaning_of design one n columns) at rest)
    runs-go-on held alone lone models columns n at rows rest run le own =
        let state : State = state_before (meaning_of design other n columns) rows at in
        subst (λ (text : List ℕ). IsRestOf at (run_text design other rows n) text) (sym (rests-same design one other keeps circuits-same starts-same alone lone n at columns rest))
        (text-so design other is keeps held none columns n at rows rest (run-alone design other lone models columns n rows run) le
        (rows-moved design one other keeps circuits-same starts-same alone lone n at columns rest state own))

-- ---- the bytes of files

-- a partition for `save` or `resume` asks for no bridge
asks-alone : (models : Models) {circuit partition : List ℕ} (request : Request) → IsPartitionFor (to_save models) circuit partition → IsPartition partition request → request.bridges ≡ []
asks-alone models {partition = partition} request (design, means, (fits, cuts)) asks = ap (λ (r : Request). r.bridges) (request-once partition request fits asks cuts.asks) ∙ cuts.alone refl

-- what bytes mean with another partition
with-cut : (models : Models) → DesignsAgree → {circuit partition cut trace : List ℕ} (meant : Meaning) (request : Request) → AreMeant (to_save models) circuit cut trace meant → IsPartitionFor (to_save models) circuit partition → IsPartition partition request
    → AreMeant (to_save models) circuit partition trace (meaning_of meant.design request meant.cycles meant.columns)
with-cut models agree {circuit} {partition} {trace = trace} meant request are (design, means, (fits, cuts)) asks =
    let alone = asks-alone models request (design, means, (fits, cuts)) asks in
    record {
      is = record {
        means = are.is.means;
        cuts = record {
          asks = asks;
          faultless =
              sym (fault-with-same models design meant.design (agree circuit design meant.design means are.is.means) request)
              ∙ ap (first_fault_with design models) (request-once partition request fits asks cuts.asks) ∙ cuts.faultless;
          alone = λ saves. alone;
        };
        feeds = subst (λ (ports : List Port). Columns ports trace meant.cycles meant.columns) (fed-alone meant.design meant.request (are.is.cuts.alone refl) ∙ sym (fed-alone meant.design request alone)) are.is.feeds;
      };
      designed = are.designed;
      keeps = are.keeps;
      held = are.held;
      whole = are.whole;
    }

module _ (models : Models) (agree : DesignsAgree) {circuit partition cut trace snap : List ℕ} (one other : Request) (at : ℕ) (meant : Meaning) (rows : List (List ℕ)) (has : HasRun (to_save models) circuit cut trace meant rows) (le : at ≤ save_limit meant rows)
    (is : snap ≡ snap_text (meant_values meant) at (state_before meant rows at)) (fits : IsPartitionFor (to_save models) circuit partition) (asks : IsPartition partition one) (own : IsPartition cut other) (pipes : HaveSamePipes one other) where
  abbrev design : Ordered
  design = meant.design

  abbrev there : Meaning
  there = meaning_of meant.design one meant.cycles meant.columns

  there-are : AreMeant (to_save models) circuit partition trace (meaning_of meant.design one meant.cycles meant.columns)
  there-are = with-cut models agree meant one has.are fits asks

  -- neither request asks for a bridge
  alone : one.bridges ≡ []
  alone = asks-alone models one fits asks

  lone : meant.request.bridges ≡ []
  lone = has.are.is.cuts.alone refl

  reference-run : IsRunFrom (plan_reference meant.design meant.request) (plan_start meant.design meant.request) meant.columns meant.cycles rows
  reference-run = run-alone meant.design meant.request lone models meant.columns meant.cycles rows has.run

  same-pipes : HaveSamePipes one meant.request
  same-pipes = subst (λ (r : Request). HaveSamePipes one r) (request-once cut other meant.request own has.are.is.cuts.asks) pipes

  reference-is : plan_reference meant.design one ≡ plan_reference meant.design meant.request
  reference-is = circuits-same meant.design one meant.request has.are.designed has.are.keeps has.are.whole (meant-faultless there-are) (meant-faultless has.are) same-pipes

  few : at ≤ meant.cycles
  few = limit-within (halts (plan_stops meant.design meant.request) (columns_of (stops_kept meant.design meant.request) rows)) meant.cycles at le

  -- the saved text is a snapshot for the other partition too
  saved-snap : IsSnap (plan_reference meant.design one) meant.design.tree snap at (state_before meant rows at)
  saved-snap =
      record {
        within = omega (arith, few, columns-few _ trace meant.cycles meant.columns has.are.is.feeds);
        typed = subst (λ (c : FlatCircuit). IsState c (state_before meant rows at)) (sym reference-is)
            (IsState-at (meant_reference meant) (plan_start meant.design meant.request) meant.columns meant.cycles rows (meant-formed has.are) (plan-typed meant.design meant.request) reference-run at few);
        is = is ∙ ap (λ (c : FlatCircuit). snap_text (rows_of c meant.design.tree) at (state_before meant rows at)) (sym reference-is);
      }

  pub can-resume : CanBeResumed (to_save models) circuit partition trace snap
  can-resume = (there, at, state_before meant rows at, there-are, saved-snap, few)

  module _ (ratios : HaveSameRatios one other) (text whole : List ℕ) (resumed : IsResumedText (to_save models) circuit partition trace snap text) (runs : IsTextOf (to_run models) circuit cut trace whole) where
    same-ratios : HaveSameRatios one meant.request
    same-ratios = subst (λ (r : Request). HaveSameRatios one r) (request-once cut other meant.request own has.are.is.cuts.asks) ratios

    whole-is : whole ≡ run_text meant.design meant.request rows meant.cycles
    whole-is =
        let only : FeedsOnly meant.design.circuit meant.request trace meant.cycles meant.columns = record {
          feeds = has.are.is.feeds;
          only = λ m others fed. columns-once _ trace meant.cycles m meant.columns others has.are.is.feeds fed;
        } in
        only-text agree IsRunFrom-once (to_run models) circuit cut trace meant.design meant.request (reference_order meant.design meant.request)
        (subst (λ (f : FlatCircuit). IsOrder f (reference_order meant.design meant.request)) (sym (circuit-alone meant.design meant.request lone models)) (meant-ordered has.are)) has.are.is.means has.are.is.cuts.asks
        meant.cycles meant.columns rows has.run only whole runs

    -- the text that is written from it is the rest
    pub goes-on : IsRestOf at whole text
    goes-on = by resumed
      where
        by : IsResumedText (to_save models) circuit partition trace snap text → IsRestOf at whole text
        by (found, cycle, state, rest, y, told) =
            let same = y.only at (state_before meant rows at) (meant-snap agree there found there-are y.are snap at (state_before meant rows at) saved-snap) in
            let moved : AreRows (meant_reference there) (start_at there cycle state) meant.columns meant.cycles rest =
            subst (λ (m : Meaning). AreRows (meant_reference m) (start_at m cycle state) m.columns m.cycles rest) (meant-is agree found there y.are there-are) y.run in
            let turned : AreRows (meant_reference there) (start_at there at (state_before meant rows at)) meant.columns meant.cycles rest =
            subst (λ (k : ℕ). AreRows (meant_reference there) (start_at there k (state_before meant rows at)) meant.columns meant.cycles rest) (sym same.0)
            (subst (λ (s : State). AreRows (meant_reference there) (start_at there cycle s) meant.columns meant.cycles rest) (sym same.1) moved) in
            let written : text ≡ rest_text there at rest =
            told ∙ ap (λ (m : Meaning). rest_text m cycle rest) (meant-is agree found there y.are there-are) ∙ ap (λ (k : ℕ). rest_text there k rest) (sym same.0) in
            subst (λ (l : List ℕ). IsRestOf at whole l) (sym written)
            (subst (λ (l : List ℕ). IsRestOf at l (rest_text there at rest)) (sym whole-is)
            (runs-go-on meant.design one meant.request has.are.designed has.are.keeps has.are.whole (meant-faultless there-are) (meant-faultless has.are) same-pipes same-ratios has.are.held
            alone lone models meant.columns meant.cycles at rows rest has.run le turned))
