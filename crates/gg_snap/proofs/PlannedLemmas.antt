-- The pipes of a plan's channels are those of the reference circuit, with the same numbers.
use Rattle.std.proofs.Common.{◌≡◌, ℕ, ◌+◌, ◌<◌, ◌≤◌, List, length, get_or, true, None, Some, sym, ap, ◌∙◌, subst, arith, ◌⊎◌, inl, inr, eq-eqb, eqb-true}
use Rattle.std.specs.Prelude.{◌==◌, ◌&&◌, All}
use Rattle.std.specs.List.{range_with_len}
use Rattle.std.proofs.lemmas.Bool.{and_from, and_parts, cases_lt}
use Rattle.std.proofs.lemmas.List.{get_or_default, length-map}
use Rattle.std.proofs.lemmas.List.Elements.{Contains-get_or}
use Rattle.std.proofs.lemmas.List.Folds.{list_any_at}
use Rattle.gg_flat.specs.Line.{value_at}
use Rattle.gg_flat.specs.State.{State}
use Rattle.gg_flat.proofs.ListLemmas.{some-item}
use Rattle.gg_part.specs.KeepsToTree.{KeepsToTree}
use Rattle.gg_order.specs.Design.{IsDesign, Ordered}
use Rattle.gg_partfile.specs.declared.request.Request.{Request}
use Rattle.gg_cut_plan.specs.declared.plan.Channel.{Channel}
use Rattle.gg_cut_plan.specs.declared.plan.Plan.{Plan}
use Rattle.gg_cut_plan.specs.declared.wires.Wire.{Wire}
use Rattle.gg_cut_plan.specs.Bridges.{Models}
use Rattle.gg_cut_plan.specs.Direct.{Hub, is_piped, plan_hub, routes, plan_wires}
use Rattle.gg_cut_plan.specs.Fault.{first_fault}
use Rattle.gg_cut_plan.specs.Listed.{first_place}
use Rattle.gg_cut_plan.specs.Plan.{IsPlan, wire_at}
use Rattle.gg_cut_plan.specs.Ports.{Bridges, plan_bridges}
use Rattle.gg_cut_plan.proofs.OriginLemmas.{any-finds, finds-any}
use Rattle.gg_cut_split.proofs.ClosedLemmas.PlaceLemmas.{same-bool}
use Rattle.gg_cut_routes.proofs.ChoiceLemmas.{any-wire}
use Rattle.gg_cut_routes.proofs.RouteLemmas.{IsBase, routes-known, routes-once}
use Rattle.gg_cut_routes.proofs.RoutedLemmas.{routed-base}
use Rattle.gg_cut_reference.specs.Follows.{plan_token, token_or}
use Rattle.gg_cut_reference.specs.Links.{is_carried, pipes_of}
use Rattle.gg_snap.specs.inside.Gathered.{AreApart, is_piped_by, pipe_number}
use Rattle.gg_snap.proofs.NumberLemmas.{below-less, chosen, chosen-at, chosen-place, filter-same}
use Rattle.gg_snap.proofs.PipeLemmas.{channel-of, piped-at}

module _ (design : Ordered) (request : Request) (models : Models) (default : ℕ) (plan : Plan) (planned : IsPlan design request models default plan) (is : IsDesign design) (keeps : KeepsToTree design.circuit design.tree) (none : first_fault design request ≡ None) where
  abbrev hub : Hub
  hub = plan_hub design.circuit design.tree request

  base : IsBase (plan_hub design.circuit design.tree request)
  base = routed-base design request is keeps none

  -- the channels have the signals of the cut's
  there : (c : ℕ) → c < length plan.channels → c < length (routes (plan_hub design.circuit design.tree request))
  there c lt = omega (arith, lt, planned.channel_total)

  pub signal-at : (c : ℕ) (any : Channel) → c < length plan.channels → (get_or plan.channels c any).signal ≡ (wire_at (routes (plan_hub design.circuit design.tree request)) c).signal
  signal-at c any lt = (planned.channel c any lt).signal

  pipe-at : (c : ℕ) (any : Channel) → c < length plan.channels → (get_or plan.channels c any).pipe ≡ is_piped design.circuit request (wire_at (routes (plan_hub design.circuit design.tree request)) c).signal
  pipe-at c any lt = (planned.channel c any lt).pipe

  pub known-signals : All (λ (channel : Channel). channel.signal < length design.circuit.signals) plan.channels
  known-signals = λ c any lt. subst (λ s. s < length design.circuit.signals) (sym (signal-at c any lt)) (routes-known hub base c any-wire (there c lt))

  pub channels-apart : AreApart plan.channels
  channels-apart c d any low high pipe other e = by (cases_lt c d) (cases_lt d c)
    where
      same : (wire_at (routes (plan_hub design.circuit design.tree request)) c).signal ≡ (wire_at (routes (plan_hub design.circuit design.tree request)) d).signal
      same = sym (signal-at c any low) ∙ e ∙ signal-at d any high

      by : (c < d) ⊎ (d ≤ c) → (d < c) ⊎ (c ≤ d) → c ≡ d
      by (inl less) rest = absurd (routes-once hub base c d any-wire less (there d high) same)
      by (inr le) (inl less) = absurd (routes-once hub base d c any-wire less (there c low) (sym same))
      by (inr le) (inr more) = omega (arith, le, more)

  -- which signals have a pipe
  piped-same : (s : ℕ) → is_piped_by plan.channels s ≡ (is_piped design.circuit request s && is_carried (plan_hub design.circuit design.tree request) s)
  piped-same s = same-bool (is_piped_by plan.channels s) (is_piped design.circuit request s && is_carried hub s) only back
    where
      only : is_piped_by plan.channels s ≡ true → (is_piped design.circuit request s && is_carried (plan_hub design.circuit design.tree request) s) ≡ true
      only e =
          let own = channel-of plan.channels s e in
          let w = wire_at (routes hub) own.place in
          let of : w.signal ≡ s = sym (signal-at own.place own.any own.within) ∙ own.signal in
          and_from (is_piped design.circuit request s) (is_carried hub s) (ap (is_piped design.circuit request) (sym of) ∙ sym (pipe-at own.place own.any own.within) ∙ own.pipe)
          (finds-any (λ (r : Wire). r.signal == s) (routes hub) w (Contains-get_or (routes hub) own.place any-wire (there own.place own.within)) (eq-eqb w.signal s of))

      back : (is_piped design.circuit request s && is_carried (plan_hub design.circuit design.tree request) s) ≡ true → is_piped_by plan.channels s ≡ true
      back e =
          let parts = and_parts (is_piped design.circuit request s) (is_carried hub s) e in
          let found = any-finds (λ (r : Wire). r.signal == s) (routes hub) parts.1 in
          let at = found.among in
          let c = at.0 in
          let low = at.1 in
          let lt : c < length plan.channels = omega (arith, low, planned.channel_total) in
          let any = some-item plan.channels c lt in
          let wire : (wire_at (routes hub) c).signal ≡ s = ap (λ (r : Wire). r.signal) (get_or_default (routes hub) c any-wire found.item low ∙ at.2) ∙ eqb-true found.item.signal s found.passes in
          list_any_at (λ (x : Channel). x.pipe && (x.signal == s)) plan.channels c any lt
          (and_from (get_or plan.channels c any).pipe ((get_or plan.channels c any).signal == s) (pipe-at c any lt ∙ ap (is_piped design.circuit request) wire ∙ parts.0) (eq-eqb (get_or plan.channels c any).signal s (signal-at c any lt ∙ wire)))

  pub pipes-are : pipes_of (plan_hub design.circuit design.tree request) ≡ chosen (is_piped_by plan.channels) (length design.circuit.signals)
  pipes-are = sym (filter-same (is_piped_by plan.channels) (λ s. is_piped design.circuit request s && is_carried hub s) piped-same (range_with_len 0 (length design.circuit.signals)))

  -- ---- one pipe

  module _ (c : ℕ) (any : Channel) (lt : c < length plan.channels) (pipe : (get_or plan.channels c any).pipe ≡ true) where
    low : (get_or plan.channels c any).signal < length design.circuit.signals
    low = known-signals c any lt

    pass : is_piped_by plan.channels (get_or plan.channels c any).signal ≡ true
    pass = piped-at plan.channels c any lt pipe

    pub pipe-there : pipe_number plan.channels (get_or plan.channels c any).signal < length (pipes_of (plan_hub design.circuit design.tree request))
    pipe-there = subst (λ (l : List ℕ). pipe_number plan.channels (get_or plan.channels c any).signal < length l) (sym pipes-are) (below-less (is_piped_by plan.channels) (get_or plan.channels c any).signal (length design.circuit.signals) low pass)

    pub pipe-is : value_at (pipes_of (plan_hub design.circuit design.tree request)) (pipe_number plan.channels (get_or plan.channels c any).signal) ≡ (get_or plan.channels c any).signal
    pipe-is = ap (λ (l : List ℕ). value_at l (pipe_number plan.channels (get_or plan.channels c any).signal)) pipes-are ∙ chosen-at (is_piped_by plan.channels) (get_or plan.channels c any).signal (length design.circuit.signals) low pass

    pipe-place : first_place (λ p. p == (get_or plan.channels c any).signal) (pipes_of (plan_hub design.circuit design.tree request)) ≡ Some (pipe_number plan.channels (get_or plan.channels c any).signal)
    pipe-place = ap (first_place (λ p. p == (get_or plan.channels c any).signal)) pipes-are ∙ chosen-place (is_piped_by plan.channels) (get_or plan.channels c any).signal (length design.circuit.signals) low pass

    -- the pipe's token in a state of the reference circuit
    pub token-is : (state : State) → plan_token design request state (get_or plan.channels c any).signal ≡ value_at state.registers (length design.circuit.registers + pipe_number plan.channels (get_or plan.channels c any).signal)
    token-is state = ap (token_or hub state) pipe-place
