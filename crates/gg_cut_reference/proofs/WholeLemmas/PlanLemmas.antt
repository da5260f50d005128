-- The circuit of a plan with bridges is its reference circuit joined with the models, at the ports' signals.
use Rattle.std.proofs.Common.{◌≡◌, ℕ, suc, ◌<◌, List, [], ◌∷◌, length, map, get_or, take, Option, Some, None, refl, sym, ◌∙◌, subst, inl, inr, ◌⊎◌, arith}
use Rattle.std.specs.Prelude.{Contains, flat_map}
use Rattle.std.proofs.lemmas.List.{get_or_default, get_or-take, length-take}
use Rattle.std.proofs.lemmas.List.Elements.{Contains-append_cases}
use Rattle.gg_flat_tree.specs.Tree.{path_at}
use Rattle.gg_flat.specs.WellFormed.{IsWellFormed}
use Rattle.gg_order.specs.Design.{Ordered}
use Rattle.gg_partfile.specs.declared.request.BridgeEntry.{BridgeEntry}
use Rattle.gg_partfile.specs.declared.request.Request.{Request}
use Rattle.gg_partfile.specs.Size.{all_driven, all_seen}
use Rattle.gg_bridge.specs.inside.All.{Attached, CanAttachAll, joined_all}
use Rattle.gg_bridge.specs.inside.Joined.{HasOrder}
use Rattle.gg_bridge.proofs.AllLemmas.{all-formed, all-ordered}
use Rattle.gg_bridge.proofs.EachLemmas.{each-can}
use Rattle.gg_cut_plan.specs.Bridges.{Models, bridge_faults}
use Rattle.gg_cut_plan.specs.Channels.{channel_names}
use Rattle.gg_cut_plan.specs.Direct.{Hub, is_piped, plan_hub}
use Rattle.gg_cut_plan.specs.declared.listed.Listed.{Listed}
use Rattle.gg_cut_plan.specs.Fault.{first_fault}
use Rattle.gg_bits.specs.Lists.{first_of, or_else}
use Rattle.gg_cut_plan.specs.Listed.{listed_of}
use Rattle.gg_cut_plan.specs.Ports.{output_count}
use Rattle.gg_cut_split.specs.inside.Apart.{AreApart}
use Rattle.gg_cut_split.proofs.ClosedLemmas.FaultlessLemmas.{faultless-apart}
use Rattle.gg_cut_reference.specs.inside.Fitting.{AreFitting, attached_of}
use Rattle.gg_cut_reference.proofs.FittingLemmas.FittingLemmas.{all-fit}
use Rattle.gg_cut_reference.proofs.FittingLemmas.AttachLemmas.{all-can-attach}
use Rattle.gg_cut_routes.proofs.RouteLemmas.{IsBase}
use Rattle.gg_cut_routes.proofs.RoutedLemmas.{routed-base}
use Rattle.gg_cut_reference.specs.Links.{pipes_of}
use Rattle.gg_cut_reference.specs.Made.{holder_of, keeper_of, plan_reference}
use Rattle.gg_cut_reference.specs.inside.Made.{views_in}
use Rattle.gg_cut_reference.specs.inside.Reference.{IsReference}
use Rattle.gg_cut_reference.proofs.HolderLemmas.{keeper-is}
use Rattle.gg_cut_reference.proofs.WholeReference.{made, ordered, whole-formed}
use Rattle.gg_cut_reference.specs.whole.Whole.{CanBridge, plan_circuit}
use Rattle.gg_cut_reference.specs.inside.Whole.{CanStandAll, driven_signal, bridge_signal}
use Rattle.gg_cut_reference.proofs.WholeLemmas.NameLemmas.{ArePorts, with-joined, stand-all}
use Rattle.gg_cut_reference.proofs.WholeLemmas.SeenLemmas.{driven-only, ports-at, seen-once, seen-only}

-- ---- faults

both-none : {A : Type 0} (a b : Option A) → or_else a b ≡ None → (a ≡ None) × (b ≡ None)
both-none None b e = (refl, e)
both-none (Some x) b e = absurd (cc)

-- what holds of each port of each entry holds of all that they list
all-ports : (P : List ℕ → Type 0) (ports : BridgeEntry → List (List ℕ)) (entries : List BridgeEntry) → ((k : ℕ) (any : BridgeEntry) → k < length entries → (i : ℕ) → i < length (ports (get_or entries k any)) → P (path_at (ports (get_or entries k any)) i)) → (name : List ℕ) → Contains (flat_map ports entries) name → P name
all-ports P ports [] each name h = absurd (omega (arith, h.1))
all-ports P ports (entry ∷ entries) each name h = by (Contains-append_cases (ports entry) (flat_map ports entries) name h) (λ rest. all-ports P ports entries (λ k any lt. each (suc k) any (omega (arith, lt))) name rest)
  where
    by : Contains (ports entry) name ⊎ Contains (flat_map ports entries) name → (Contains (flat_map ports entries) name → P name) → P name
    by (inl own) more = subst P (get_or_default (ports entry) own.0 [] name own.1 ∙ own.2) (each 0 entry (omega arith) own.0 own.1)
    by (inr rest) more = more rest

-- what a list begins with is in it
pub take-in : (xs : List ℕ) (n s : ℕ) → Contains (take n xs) s → Contains xs s
take-in xs n s h =
    let low : h.0 < n = omega (arith, h.1, length-take n xs) in
    (h.0, omega (arith, h.1, length-take n xs), sym (get_or-take n xs h.0 s low) ∙ h.2)

module _ (design : Ordered) (request : Request) (models : Models) (can : CanBridge design request models) where
  abbrev hub : Hub
  hub = plan_hub design.circuit design.tree request

  abbrev listed : Listed
  listed = listed_of design.tree request

  abbrev outs : List ℕ
  outs = take (output_count design) design.circuit.outs

  none : (first_fault design request ≡ None) × (first_of (bridge_faults design.circuit (length design.tree.stops) models request.bridges) ≡ None)
  none = both-none (first_fault design request) (first_of (bridge_faults design.circuit (length design.tree.stops) models request.bridges)) can.faultless

  pub faultless : first_fault design request ≡ None
  faultless = none.0

  pub fit : AreFitting design.circuit (take (output_count design) design.circuit.outs) models request.bridges
  fit = all-fit design.circuit outs models request.bridges none.1

  -- ---- the reference circuit

  pub base : IsBase (plan_hub design.circuit design.tree request)
  base = routed-base design request can.design_is can.keeps faultless

  apart : AreApart design.tree (listed_of design.tree request)
  apart = faultless-apart design request faultless can.keeps.fitting

  pub reference-made : IsReference design.circuit (plan_reference design request) (views_in design.circuit design.tree (listed_of design.tree request) (is_piped design.circuit request) request.bridges request.direct) (pipes_of (plan_hub design.circuit design.tree request))
  reference-made =
      made design.circuit design.tree listed can.design_is.formed can.keeps.fitting can.keeps.scoped apart (is_piped design.circuit request) request.bridges request.direct base (holder_of hub) (keeper_of design.tree listed)

  pub reference-formed : IsWellFormed (plan_reference design request)
  reference-formed =
      whole-formed design.circuit design.tree listed can.design_is.formed can.keeps.fitting can.keeps.scoped apart (is_piped design.circuit request) request.bridges request.direct base (holder_of hub) (keeper_of design.tree listed)
      (keeper-is design.circuit design.tree listed can.keeps.fitting) can.free.pipe

  reference-ordered : HasOrder (plan_reference design request)
  reference-ordered =
      let is = ordered design.circuit design.tree listed can.design_is.formed can.keeps.fitting can.keeps.scoped apart (is_piped design.circuit request) request.bridges request.direct base (holder_of hub) (keeper_of design.tree listed) design.order can.design_is.ordered in
      record { order = _; is = is }

  -- ---- the ports

  pub tops : (s : ℕ) → Contains (take (output_count design) design.circuit.outs) s → Contains design.circuit.outs s
  tops s h = take-in design.circuit.outs (output_count design) s h

  pub seen-known : (name : List ℕ) → Contains (all_seen request.bridges) name → Contains (channel_names design.circuit (take (output_count design) design.circuit.outs)) name
  seen-known = all-ports (Contains (channel_names design.circuit outs)) (λ entry. entry.sees) request.bridges (λ k any lt i less. (fit.each k any lt).seen i less)

  pub driven-known : (name : List ℕ) → Contains (all_driven request.bridges) name → Contains (channel_names design.circuit design.circuit.ins) name
  driven-known = all-ports (Contains (channel_names design.circuit design.circuit.ins)) (λ entry. entry.drives) request.bridges (λ k any lt i less. (fit.each k any lt).driven i less)

  abbrev boxes : List Attached
  boxes = map (attached_of (bridge_signal design request) (driven_signal design) models) request.bridges

  are-ports : ArePorts (plan_reference design request) (bridge_signal design request) (driven_signal design) request.bridges
  are-ports =
      record {
        outs = λ name h. seen-only hub (plan_reference design request) _ can.design_is.formed can.free reference-made base outs tops refl name (seen-known name h);
        ins = λ name h. driven-only hub (plan_reference design request) _ can.design_is.formed can.free reference-made base outs tops name (driven-known name h);
        low_outs = λ s h.
            let known = reference-formed.outs h.0 h.1 in
            let same = get_or_default (plan_reference design request).outs h.0 0 s h.1 in
            let is = h.2 in
            omega (arith, known, same, is, reference-formed.named);
        low_ins = λ s h.
            let known = (reference-formed.ins h.0 h.1).0 in
            let same = get_or_default (plan_reference design request).ins h.0 0 s h.1 in
            let is = h.2 in
            omega (arith, known, same, is, reference-formed.named);
        sees = fit.sees;
        drives = fit.drives;
        seen_apart = λ a b h k same. seen-once hub (plan_reference design request) _ can.design_is.formed can.free reference-made base outs tops a b (seen-known a h) (seen-known b k) same;
        driven_apart = λ a b h k same. (ports-at hub (plan_reference design request) _ can.design_is.formed can.free reference-made base outs tops).once a b (driven-known a h) (driven-known b k) same;
      }

  -- ---- the whole

  -- the circuit of the plan is the reference circuit with the models at the ports' signals
  pub circuit-joined : plan_circuit design request models ≡ joined_all (plan_reference design request) (map (attached_of (bridge_signal design request) (driven_signal design) models) request.bridges)
  circuit-joined = with-joined (bridge_signal design request) (driven_signal design) models (plan_reference design request) request.bridges are-ports

  pub attach-all : CanAttachAll (plan_reference design request) (map (attached_of (bridge_signal design request) (driven_signal design) models) request.bridges)
  attach-all =
      each-can (plan_reference design request) boxes reference-formed
      (all-can-attach design.circuit outs models (plan_reference design request) (bridge_signal design request) (driven_signal design)
      (ports-at hub (plan_reference design request) _ can.design_is.formed can.free reference-made base outs tops) can.are request.bridges fit)

  pub circuit-formed : IsWellFormed (plan_circuit design request models)
  circuit-formed = subst IsWellFormed (sym circuit-joined) (all-formed (plan_reference design request) boxes attach-all reference-formed)

  pub circuit-ordered : HasOrder (plan_circuit design request models)
  circuit-ordered = subst HasOrder (sym circuit-joined) (all-ordered (plan_reference design request) boxes reference-ordered.order attach-all reference-formed reference-ordered.is)

  pub all-stand : CanStandAll models (plan_reference design request) request.bridges
  all-stand = stand-all (bridge_signal design request) (driven_signal design) models (plan_reference design request) request.bridges are-ports attach-all
