-- What a circuit, a partition and a trace mean is one, but for the order of evaluation.
use Rattle.std.proofs.Common.{◌≡◌, ℕ, zero, suc, ◌<◌, ◌≤◌, ◌++◌, List, [], None, length, get_or, sym, ap, ◌∙◌, subst, arith}
use Rattle.std.specs.List.{range_with_len}
use Rattle.std.proofs.lemmas.List.{get_or_default, same_lists}
use Rattle.std.proofs.lemmas.Grind.{same_number_lists}
use Rattle.gg_bits.specs.Limits.{cycle_limit}
use Rattle.gg_flat.specs.Order.{IsOrder}
use Rattle.gg_flat.specs.State.{State}
use Rattle.gg_flat.specs.WellFormed.{IsWellFormed}
use Rattle.gg_flat.specs.declared.ports.Port.{Port}
use Rattle.gg_order.specs.Design.{Ordered}
use Rattle.gg_partfile.proofs.OnceLemmas.{request-once}
use Rattle.gg_partfile.specs.declared.request.Request.{Request}
use Rattle.gg_cut_reference.specs.inside.Alike.{AreAlike}
use Rattle.gg_cut_reference.proofs.TextLemmas.SameCutLemmas.{alike-is}
use Rattle.gg_front.specs.inside.Paths.{HavePaths}
use Rattle.gg_front.proofs.FreshLemmas.{none-piped}
use Rattle.gg_front.proofs.PortLemmas.{have-paths}
use Rattle.gg_cut_plan.specs.Bridges.{Models}
use Rattle.gg_cut_plan.specs.Direct.{plan_hub}
use Rattle.gg_cut_plan.specs.Fault.{first_fault}
use Rattle.gg_cut_reference.specs.Links.{pipes_of}
use Rattle.gg_cut_reference.specs.Made.{IsFresh}
use Rattle.gg_cut_reference.proofs.PlanLemmas.{plan-formed, plan-ordered}
use Rattle.gg_snap.specs.text.Standing.{IsSnap}
use Rattle.gg_trace.specs.Header.{field}
use Rattle.gg_trace.specs.Ports.{IsNamed}
use Rattle.gg_trace.specs.Trace.{Columns, header_of}
use Rattle.golden_commands.specs.Meaning.{AreMeant, Meaning, meant_reference}
use Rattle.golden_commands.specs.Partition.{Known}
use Rattle.golden_commands.specs.RunText.{IsRunBy, fed_ports}
use Rattle.golden_commands.proofs.AloneLemmas.{faultless-first}
use Rattle.golden_commands.proofs.PartitionLemmas.{DesignsAgree}
use Rattle.golden_commands.proofs.TextLemmas.{feeds-moved}

-- ---- the columns of a trace

module _ (ports : List Port) (bytes : List ℕ) where
  -- there are no more rows than cycles that a run may have
  pub columns-few : (n : ℕ) (columns : List (List ℕ)) → Columns ports bytes n columns → n ≤ cycle_limit
  columns-few zero columns is = omega arith
  columns-few (suc k) columns is = let below = (is.rows k (omega arith)).limit in omega (arith, below)

  module _ (n m : ℕ) (one other : List (List ℕ)) (x : Columns ports bytes n one) (y : Columns ports bytes m other) where
    rows-once : n ≡ m
    rows-once = sym x.count ∙ y.count

    value-once : (i r : ℕ) → i < length ports → r < n → get_or (get_or one i []) r 0 ≡ get_or (get_or other i []) r 0
    value-once i r known lt =
        let listed = x.header.all i known in
        let named : IsNamed ports (field (header_of bytes) listed.at) i = record { within = known; is = sym listed.is } in
        x.values r listed.at i lt listed.behind listed.within named ∙ sym (y.values r listed.at i (omega (arith, lt, rows-once)) listed.behind listed.within named)

    column-once : (i : ℕ) → i < length ports → get_or one i [] ≡ get_or other i []
    column-once i known =
        same_number_lists (get_or one i []) (get_or other i []) (x.height i known ∙ rows-once ∙ sym (y.height i known)) (λ r lt. value-once i r known (omega (arith, lt, x.height i known)))

    -- a text has one number of rows and one list of columns
    pub columns-once : (n ≡ m) × (one ≡ other)
    columns-once = (
      rows-once,
      same_lists one other (x.width ∙ sym y.width)
          (λ i d lt.
          let known : i < length ports = omega (arith, lt, x.width) in
          get_or_default one i d [] lt ∙ column-once i known ∙ get_or_default other i [] d (omega (arith, lt, x.width, y.width))),
    )

-- ---- what bytes mean

-- an order of the reference circuit: its pipes, and then the design's
abbrev pub reference_order : Ordered → Request → List ℕ
reference_order design request = range_with_len (length design.circuit.signals) (length (pipes_of (plan_hub design.circuit design.tree request))) ++ design.order

module _ {known : Known} {circuit partition trace : List ℕ} {meant : Meaning} (are : AreMeant known circuit partition trace meant) where
  -- the request has no fault, its bridges aside
  pub meant-faultless : first_fault meant.design meant.request ≡ None
  meant-faultless = faultless-first meant.design meant.request known.models are.is.cuts.faultless

  -- no path of the circuit's signals begins with `pipe:`
  pub meant-fresh : IsFresh meant.design.circuit
  meant-fresh = λ s path lt. none-piped circuit are.is.means.means.text.circuit meant.design.circuit are.is.means.means.text.spelt are.is.means.means.flattened s path

  pub meant-paths : HavePaths meant.design.circuit meant.design.tree
  meant-paths =
      have-paths circuit are.is.means.means.text.circuit meant.design.circuit meant.design.tree are.is.means.means.text.spelt are.is.means.means.flattened are.is.means.grown are.keeps.fitting are.keeps.scoped

  -- the reference circuit is well formed, and has an order
  pub meant-formed : IsWellFormed (meant_reference meant)
  meant-formed = plan-formed meant.design meant.request are.designed are.keeps are.held meant-faultless meant-fresh

  pub meant-ordered : IsOrder (meant_reference meant) (reference_order meant.design meant.request)
  meant-ordered = plan-ordered meant.design meant.request are.designed are.keeps are.held meant-faultless

-- two meanings of the same bytes
module _ (agree : DesignsAgree) {known : Known} {circuit partition trace : List ℕ} (one other : Meaning) (x : AreMeant known circuit partition trace one) (y : AreMeant known circuit partition trace other) where
  meant-alike : AreAlike one.design other.design
  meant-alike = agree circuit one.design other.design x.is.means y.is.means

  meant-request : one.request ≡ other.request
  meant-request = request-once partition one.request other.request x.is.cuts.asks y.is.cuts.asks

  pub meant-given : (one.cycles ≡ other.cycles) × (one.columns ≡ other.columns)
  meant-given =
      columns-once (fed_ports other.design.circuit other.request) trace one.cycles other.cycles one.columns other.columns
      (feeds-moved one.design.circuit other.design.circuit one.request other.request meant-alike.circuit meant-request trace one.cycles one.columns x.is.feeds) y.is.feeds

  -- they differ in the order alone
  pub meant-is : one ≡ record other { design = record other.design { order = one.design.order } }
  meant-is =
      let design : Ordered = record other.design { order = one.design.order } in
      ap (λ (d : Ordered). record one { design = d }) (alike-is one.design other.design meant-alike)
      ∙ ap (λ (r : Request). record one { design = design; request = r }) meant-request
      ∙ ap (λ (n : ℕ). record one { design = design; request = other.request; cycles = n }) meant-given.0
      ∙ ap (λ (c : List (List ℕ)). record other { design = design; columns = c }) meant-given.1

  -- so a run of one is a run of the other, and a snapshot too
  pub meant-run : (models : Models) (rows : List (List ℕ)) → IsRunBy one.design one.request models one.columns one.cycles rows → IsRunBy other.design other.request models other.columns other.cycles rows
  meant-run models rows run = subst (λ (m : Meaning). IsRunBy m.design m.request models m.columns m.cycles rows) meant-is run

  pub meant-snap : (snap : List ℕ) (cycle : ℕ) (state : State) → IsSnap (meant_reference one) one.design.tree snap cycle state → IsSnap (meant_reference other) other.design.tree snap cycle state
  meant-snap snap cycle state is = subst (λ (m : Meaning). IsSnap (meant_reference m) m.design.tree snap cycle state) meant-is is
