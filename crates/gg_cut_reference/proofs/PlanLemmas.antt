-- What the plan of a request without a fault is to its reference circuit: each machine's piece is a part of it, and each channel's two
-- ends are signals of it.
use Rattle.std.proofs.Common.{◌≡◌, ℕ, ◌<◌, ◌≤◌, List, [], ◌++◌, None, length, map, take, get_or, sym, ◌∙◌, ap, subst, arith}
use Rattle.std.specs.Prelude.{Contains}
use Rattle.std.specs.List.{range_with_len}
use Rattle.std.proofs.lemmas.List.Elements.{Contains-get_or}
use Rattle.gg_flat.specs.Line.{value_at, shape_at, AreTyped}
use Rattle.gg_flat.specs.Circuit.{FlatCircuit, signal_shapes}
use Rattle.gg_flat.specs.Order.{IsOrder}
use Rattle.gg_flat.specs.WellFormed.{IsWellFormed}
use Rattle.gg_flat.specs.Run.{IsColumns, Start, inputs_at, column}
use Rattle.gg_flat.specs.State.{IsState}
use Rattle.gg_part.specs.KeepsToTree.{KeepsToTree}
use Rattle.gg_part.specs.Part.{IsPart}
use Rattle.gg_part.specs.PartRun.{part_rows, part_start}
use Rattle.gg_part.specs.inside.PartRun.{part_columns}
use Rattle.gg_part.specs.declared.part.Part.{Part}
use Rattle.gg_order.specs.Design.{Ordered, IsDesign}
use Rattle.gg_partfile.specs.declared.request.Request.{Request}
use Rattle.gg_cut_plan.specs.declared.listed.Listed.{Listed}
use Rattle.gg_cut_plan.specs.Listed.{listed_of}
use Rattle.gg_cut_plan.specs.Fault.{first_fault}
use Rattle.gg_cut_plan.specs.Plan.{wire_at, Takes, IsCutPart}
use Rattle.gg_cut_plan.specs.Direct.{Hub, is_piped, plan_hub, plan_wires}
use Rattle.gg_cut_plan.specs.Solves.{AreRows, stream}
use Rattle.gg_cut_split.specs.inside.Apart.{AreApart}
use Rattle.gg_cut_split.proofs.ClosedLemmas.FaultlessLemmas.{faultless-apart}
use Rattle.gg_cut_routes.proofs.ChoiceLemmas.{any-wire}
use Rattle.gg_cut_routes.proofs.RouteLemmas.{IsBase}
use Rattle.gg_cut_routes.proofs.RoutedLemmas.{routed-base}
use Rattle.gg_cut_reference.specs.inside.Reference.{IsReference, IsSeen, with_paths}
use Rattle.gg_cut_reference.specs.Links.{pipes_of, taken_as, maker_of}
use Rattle.gg_cut_reference.specs.inside.Links.{AreHolders}
use Rattle.gg_cut_reference.specs.Made.{holder_of, keeper_of, plan_reference, plan_seen, IsFresh}
use Rattle.gg_cut_reference.specs.inside.Made.{views_in}
use Rattle.gg_cut_plan.specs.Held.{AreHeldOnce}
use Rattle.gg_cut_reference.specs.inside.Follows.{Follows}
use Rattle.gg_cut_reference.specs.Follows.{plan_token}
use Rattle.gg_cut_reference.proofs.HolderLemmas.{holder-is, keeper-is}
use Rattle.gg_cut_reference.proofs.LinkLemmas.{given-column, seen-column}
use Rattle.gg_cut_reference.proofs.MachineLemmas.{map-agree, IsRoutedPart, cut-part, part-is, own-run}
use Rattle.gg_cut_reference.proofs.FollowLemmas.{input-column, follows}
use Rattle.gg_cut_reference.proofs.SeenLemmas.{all-seen, seen-own, takes-seen, gives-seen}
use Rattle.gg_cut_reference.proofs.WholeReference.{made, ordered, whole-formed}
use Rattle.gg_flat.specs.Renaming.{renamed_driver, signals_by}

-- lists of in-signals that have the same shapes take the same columns
columns-by : (one all : FlatCircuit) → all.ins ≡ one.ins → ((i : ℕ) → i < length one.ins → shape_at (signal_shapes one) (value_at one.ins i) ≡ shape_at (signal_shapes all) (value_at one.ins i)) → (n : ℕ) (columns : List (List ℕ)) → IsColumns one n columns → IsColumns all n columns
columns-by one all same shapes n columns given =
    record {
      count = given.count ∙ ap length (sym same);
      height = given.height;
      inputs = λ t lt. subst (λ (l : List ℕ). AreTyped (map (shape_at (signal_shapes all)) l) (inputs_at columns t)) (sym same) (subst (λ shapes. AreTyped shapes (inputs_at columns t)) (map-agree (shape_at (signal_shapes one)) (shape_at (signal_shapes all)) one.ins shapes) (given.inputs t lt));
    }

module _ (design : Ordered) (request : Request) (is : IsDesign design) (keeps : KeepsToTree design.circuit design.tree) (held : AreHeldOnce design.circuit) (none : first_fault design request ≡ None) where
  abbrev listed : Listed
  listed = listed_of design.tree request

  abbrev hub : Hub
  hub = plan_hub design.circuit design.tree request

  base : IsBase (plan_hub design.circuit design.tree request)
  base = routed-base design request is keeps none

  apart : AreApart design.tree (listed_of design.tree request)
  apart = faultless-apart design request none keeps.fitting

  -- ---- the circuit

  pub plan-made : IsReference design.circuit (plan_reference design request) (views_in design.circuit design.tree (listed_of design.tree request) (is_piped design.circuit request) request.bridges request.direct) (pipes_of (plan_hub design.circuit design.tree request))
  plan-made = made design.circuit design.tree listed is.formed keeps.fitting keeps.scoped apart (is_piped design.circuit request) request.bridges request.direct base (holder_of hub) (keeper_of design.tree listed)

  pub plan-ordered : IsOrder (plan_reference design request) (range_with_len (length design.circuit.signals) (length (pipes_of (plan_hub design.circuit design.tree request))) ++ design.order)
  plan-ordered = ordered design.circuit design.tree listed is.formed keeps.fitting keeps.scoped apart (is_piped design.circuit request) request.bridges request.direct base (holder_of hub) (keeper_of design.tree listed) design.order is.ordered

  pub plan-formed : IsFresh design.circuit → IsWellFormed (plan_reference design request)
  plan-formed fresh = whole-formed design.circuit design.tree listed is.formed keeps.fitting keeps.scoped apart (is_piped design.circuit request) request.bridges request.direct base (holder_of hub) (keeper_of design.tree listed) (keeper-is design.circuit design.tree listed keeps.fitting) fresh

  pub plan-columns : (n : ℕ) (columns : List (List ℕ)) → IsColumns design.circuit n columns → IsColumns (plan_reference design request) n columns
  plan-columns n columns given =
      columns-by design.circuit (plan_reference design request) plan-made.ins (λ i lt. sym (plan-made.shapes (value_at design.circuit.ins i) (is.formed.ins i lt).0)) n columns given

  -- ---- how machines see signals

  pub plan-seen : (m : ℕ) → IsSeen design.circuit (pipes_of (plan_hub design.circuit design.tree request)) (plan_seen design request m)
  plan-seen m = all-seen hub base m

  pub plan-own : (m s : ℕ) → ¬ Takes (plan_wires design.circuit design.tree request) m s → plan_seen design request m s ≡ s
  plan-own m s free = seen-own hub base m s free

  among : (c : ℕ) → c < length (plan_wires design.circuit design.tree request) → Contains (plan_wires design.circuit design.tree request) (wire_at (plan_wires design.circuit design.tree request) c)
  among c lt = Contains-get_or (plan_wires design.circuit design.tree request) c any-wire lt

  -- what a channel's producer gives it sees as it is
  pub plan-gives : (c : ℕ) → c < length (plan_wires design.circuit design.tree request) → plan_seen design request (wire_at (plan_wires design.circuit design.tree request) c).producer (wire_at (plan_wires design.circuit design.tree request) c).given ≡ (wire_at (plan_wires design.circuit design.tree request) c).given
  plan-gives c lt = gives-seen hub base (wire_at (plan_wires design.circuit design.tree request) c) (among c lt)

  -- what its consumer sees; a tray keeps it
  pub plan-kept : (c : ℕ) → c < length (plan_wires design.circuit design.tree request) → plan_seen design request (wire_at (plan_wires design.circuit design.tree request) c).consumer (wire_at (plan_wires design.circuit design.tree request) c).signal ≡ taken_as (plan_hub design.circuit design.tree request) (wire_at (plan_wires design.circuit design.tree request) c).signal
  plan-kept c lt = takes-seen hub base (wire_at (plan_wires design.circuit design.tree request) c) (among c lt)

  -- ---- pieces

  holders : (m : ℕ) (part : Part) → IsCutPart design (listed_of design.tree request) (plan_hub design.circuit design.tree request) m part → AreHolders (plan_hub design.circuit design.tree request) (holder_of (plan_hub design.circuit design.tree request)) (keeper_of design.tree (listed_of design.tree request)) m part.memories
  holders m part cut = record { registers = holder-is hub held; kept = λ k h. keeper-is design.circuit design.tree listed keeps.fitting m k ((cut.memories k).0 h) }

  routed : (m : ℕ) (part : Part) → IsCutPart design (listed_of design.tree request) (plan_hub design.circuit design.tree request) m part → IsRoutedPart (plan_hub design.circuit design.tree request) m part
  routed m part cut = cut-part design listed (is_piped design.circuit request) request.bridges request.direct m part cut

  pub plan-part : (m : ℕ) (part : Part) → IsCutPart design (listed_of design.tree request) (plan_hub design.circuit design.tree request) m part → IsPart (plan_reference design request) (with_paths (plan_reference design request) part.piece (map (plan_seen design request m) part.globals)) (map (plan_seen design request m) part.globals) part.held part.memories part.clocks
  plan-part m part cut = part-is hub base (plan_reference design request) (holder_of hub) (keeper_of design.tree listed) plan-made is.formed m part (routed m part cut) (holders m part cut)

  -- ---- a run from any start

  module _ (start : Start) (typed : IsState (plan_reference design request) start.state) (columns : List (List ℕ)) (end : ℕ) (rows : List (List ℕ)) (run : AreRows (plan_reference design request) start columns end rows) where
    pub rows-run : (m : ℕ) (part : Part) → IsCutPart design (listed_of design.tree request) (plan_hub design.circuit design.tree request) m part → AreRows part.piece (part_start part.held part.memories part.clocks start) (part_columns (map (plan_seen design request m) part.globals) part.piece rows) end (part_rows (map (plan_seen design request m) part.globals) rows)
    rows-run m part cut = own-run hub base (plan_reference design request) (holder_of hub) (keeper_of design.tree listed) plan-made is.formed m part (routed m part cut) (holders m part cut) start typed columns end rows run

    -- so the machine follows the run
    pub rows-follow : (m : ℕ) (part : Part) → IsCutPart design (listed_of design.tree request) (plan_hub design.circuit design.tree request) m part → Follows (plan_hub design.circuit design.tree request) m start end part rows
    rows-follow m part cut = follows hub base is.formed (holder_of hub) (keeper_of design.tree listed) m part (routed m part cut) (holders m part cut) start typed columns end rows run

    -- the signal of a channel has the column of what is given
    pub rows-given : (c : ℕ) → c < length (plan_wires design.circuit design.tree request) → column rows (wire_at (plan_wires design.circuit design.tree request) c).signal ≡ column rows (wire_at (plan_wires design.circuit design.tree request) c).given
    rows-given c lt = given-column hub base (plan_reference design request) (holder_of hub) (keeper_of design.tree listed) plan-made is.formed start typed columns end rows run (wire_at (plan_wires design.circuit design.tree request) c) (among c lt)

    -- its consumer takes that, a cycle later and behind the pipe's token if the channel is piped
    pub rows-taken : (c : ℕ) → c < length (plan_wires design.circuit design.tree request) → column rows (plan_seen design request (wire_at (plan_wires design.circuit design.tree request) c).consumer (wire_at (plan_wires design.circuit design.tree request) c).signal)
        ≡ take end (stream start.cycle (plan_token design request start.state (wire_at (plan_wires design.circuit design.tree request) c).signal) (is_piped design.circuit request (wire_at (plan_wires design.circuit design.tree request) c).signal) (column rows (wire_at (plan_wires design.circuit design.tree request) c).signal))
    rows-taken c lt =
        let s = (wire_at (plan_wires design.circuit design.tree request) c).signal in
        seen-column hub base (plan_reference design request) (holder_of hub) (keeper_of design.tree listed) plan-made is.formed start typed columns end rows run (wire_at (plan_wires design.circuit design.tree request) c) (among c lt)
        ∙ ap (λ l. take end (stream start.cycle (plan_token design request start.state s) (is_piped design.circuit request s) l)) (sym (rows-given c lt))

    -- an input of the top has, from the start on, what it was given
    pub rows-source : (p : ℕ) → p < length design.circuit.ins → IsColumns design.circuit end columns → (t : ℕ) → start.cycle ≤ t → t < end → value_at (column rows (value_at design.circuit.ins p)) t ≡ value_at (get_or columns p []) t
    rows-source p lt given t le below =
        let at = is.formed.ins p lt in
        let low = at.0 in
        let s = value_at design.circuit.ins p in
        input-column (plan_reference design request) s p lt (omega (arith, low, plan-made.signals)) (plan-made.drivers s low ∙ ap (renamed_driver (signals_by (plan_seen design request (maker_of hub s)))) at.1) start columns end rows (plan-columns end columns given) run t le below
