-- The network of a plan on a trace, in terms of the setting of its design: names, texts, and where steps lead.
use Rattle.std.proofs.Common.{◌≡◌, ℕ, suc, ◌+◌, ◌<◌, List, [], ◌∷◌, length, map, refl, sym, ap, ap₂, ◌∙◌, subst, arith}
use Rattle.std.specs.Prelude.{Option, Ok, Err, flat_map, slice_index_or, take}
use Rattle.std.specs.List.{range_with_len}
use Rattle.std.proofs.lemmas.List.{get_or-map}
use Rattle.gg_bits.specs.Shape.{Shape}
use Rattle.gg_flat.specs.Circuit.{signal_shapes}
use Rattle.gg_flat.specs.Line.{shape_at}
use Rattle.gg_flat.specs.Run.{Start, column}
use Rattle.gg_flat.specs.Streams.{Flow}
use Rattle.gg_flat_tree.specs.Tree.{path_at}
use Rattle.gg_flat.proofs.ListLemmas.{some-item}
use Rattle.gg_order.specs.Design.{Ordered}
use Rattle.gg_partfile.specs.declared.request.Request.{Request}
use Rattle.gg_cut_plan.specs.Channels.{capacity_of}
use Rattle.gg_cut_plan.specs.Direct.{is_piped, plan_wires}
use Rattle.gg_cut_plan.specs.Bridges.{Models}
use Rattle.gg_cut_plan.specs.Ports.{machine_end, plan_bridges}
use Rattle.gg_cut_plan.specs.Listed.{listed_of}
use Rattle.gg_cut_plan.specs.Plan.{IsChannel, machine_names, wire_at}
use Rattle.gg_cut_plan.specs.Solves.{stream}
use Rattle.gg_cut_plan.specs.declared.listed.Listed.{Listed}
use Rattle.gg_cut_plan.specs.declared.plan.Channel.{Channel}
use Rattle.gg_cut_plan.specs.declared.plan.Machine as planned
use Rattle.gg_cut_plan.specs.declared.plan.Plan.{Plan}
use Rattle.gg_cut_plan.specs.declared.wires.Wire.{Wire}
use Rattle.gg_cut_reference.specs.text.CheckText.{channel_name}
use Rattle.gg_cut_reference.proofs.TextLemmas.SameCutLemmas.{lines-same}
use Rattle.gg_net.specs.declared.event.Event.{Event}
use Rattle.gg_net.specs.Kept.{Kept, list_at}
use Rattle.gg_net.specs.Network.{Frame, Network, frame_of}
use Rattle.gg_net.specs.Network as network
use Rattle.gg_net.specs.inside.Fits.{HasLayout, marking_of}
use Rattle.gg_net.specs.markings.Goes.{Stopped, replayed_from}
use Rattle.gg_net.specs.markings.Marking.{Layout, opening_marking, marked_entered, marked_puts, marked_takes}
use Rattle.gg_net.specs.markings.Steps.{Steps, StopsAt}
use Rattle.gg_net.proofs.MarkingsLemmas.CountLemmas.{puts-are, entered-are, takes-are}
use Rattle.gg_net.proofs.MarkingsLemmas.OpeningLemmas.{opens-so}
use Rattle.gg_net.proofs.MarkingsLemmas.StepsLemmas.{all-done, steps-frame, stops-at}
use Rattle.gg_measure.proofs.NetLemmas.{can-run}
use Rattle.gg_net.specs.inside.Counts.{CanRun}
use Rattle.gg_cut_reference.specs.Follows.{plan_start, plan_token}
use Rattle.gg_cut_reference.proofs.StartLemmas.{start-token}
use Rattle.gg_build.specs.Build.{IsOpeningOf}
use Rattle.gg_build.specs.plan.Built.{IsGiven, body_start, flow_of, wires_of_plan}
use Rattle.gg_build.proofs.PlanLemmas.LinkLemmas.{length-from}
use Rattle.gg_build.proofs.PlanLemmas.OpeningLemmas.{built-opening}
use Rattle.gg_build.proofs.PlanLemmas.SolvedLemmas.{stream-at}
use Rattle.gg_build.specs.plan.CutLayout.{IsLayoutOf}
use Rattle.gg_build.proofs.PlanLemmas.LayoutLemmas.{plan-layout}
use Rattle.gg_replay.specs.ReplayText.{channel_line}
use Rattle.golden_commands.specs.Meaning.{meaning_of}
use Rattle.golden_commands.specs.Replay.{Setting, channel_told, naming_of, port_names, replay_text}
use Rattle.golden_commands.specs.RunText.{IsRunBy}
use Rattle.golden_commands.specs.Replayed.{name_in, net_line, net_text, plan_naming, width_in}
use Rattle.golden_commands.proofs.BeginLemmas.{run-of}

-- the setting that has these
abbrev pub setting_of : Ordered → Request → ℕ → (columns rows : List (List ℕ)) → Layout → Setting
setting_of design request n columns rows layout = record { meant = meaning_of design request n columns; rows = rows; layout = layout }

-- The run, and the layout of the request's cut, whose network can go on.
pub record AreSet (design : Ordered) (request : Request) (models : Models) (default n : ℕ) (columns rows : List (List ℕ)) (layout : Layout) : Type 0 where
  pub run : IsRunBy design request models columns n rows
  pub laid : IsLayoutOf design request default n layout
  pub able : CanRun layout

-- ---- lists by number

-- a function of the items of a list makes the same list as a function of their numbers, if they agree
map-range : {A B : Type 0} (f : A → B) (g : ℕ → B) (xs : List A) (a : ℕ) → ((k : ℕ) (any : A) → k < length xs → f (slice_index_or xs k any) ≡ g (a + k))
    → map f xs ≡ map g (range_with_len a (length xs))
map-range f g [] a h = refl
map-range f g (x ∷ xs) a h =
    let head : f x ≡ g a = h 0 x (omega arith) ∙ ap g (let e : a + 0 ≡ a = omega arith in e) in
    let rest : map f xs ≡ map g (range_with_len (a + 1) (length xs)) =
    map-range f g xs (a + 1) (λ k any lt. h (suc k) any (omega (arith, lt)) ∙ ap g (let e : a + suc k ≡ a + 1 + k = omega arith in e)) in
    cc

map-numbers : {A B : Type 0} (f : A → B) (g : ℕ → B) (xs : List A) → ((k : ℕ) (any : A) → k < length xs → f (slice_index_or xs k any) ≡ g k) → map f xs ≡ map g (range_with_len 0 (length xs))
map-numbers f g xs h = map-range f g xs 0 (λ k any lt. h k any lt ∙ ap g (let e : k ≡ 0 + k = omega arith in e))

module _ (design : Ordered) (request : Request) (models : Models) (default : ℕ) (plan : Plan) (columns : List (List ℕ)) (n : ℕ) (rows : List (List ℕ)) (given : IsGiven design request models default plan columns n (plan_start design request) rows) where
  abbrev start : Start
  start = plan_start design request

  abbrev the_listed : Listed
  the_listed = listed_of design.tree request

  abbrev the_wires : List Wire
  the_wires = plan_wires design.circuit design.tree request

  abbrev flow : Flow
  flow = flow_of design request plan start rows

  abbrev path_of : ℕ → List ℕ
  path_of = path_at (machine_names design request the_listed)

  -- ---- names

  channel-names : map (λ (channel : Channel). channel.name) plan.channels ≡ map (channel_name design.circuit the_wires) (range_with_len 0 (length the_wires))
  channel-names =
      map-numbers (λ (channel : Channel). channel.name) (channel_name design.circuit the_wires) plan.channels (λ k any lt. (given.planned.channel k any lt).name)
      ∙ ap (λ count. map (channel_name design.circuit the_wires) (range_with_len 0 count)) given.planned.channel_total

  machine-names : map (λ (machine : planned.Machine). machine.name) plan.machines ≡ map path_of (range_with_len 0 (machine_end (plan_bridges design.circuit design.tree request)))
  machine-names =
      map-numbers (λ (machine : planned.Machine). machine.name) path_of plan.machines (λ k any lt. (given.planned.machine k any lt).name)
      ∙ ap (λ count. map path_of (range_with_len 0 count)) given.planned.machine_total

  pub naming-is : plan_naming plan design.tree ≡ naming_of design request
  naming-is =
      let ports : map (port_names design.tree plan.listed) (range_with_len 0 (length plan.machines)) ≡ map (port_names design.tree the_listed) (range_with_len 0 (machine_end (plan_bridges design.circuit design.tree request))) =
      ap (λ (l : Listed). map (port_names design.tree l) (range_with_len 0 (length plan.machines))) given.planned.listed
      ∙ ap (λ count. map (port_names design.tree the_listed) (range_with_len 0 count)) given.planned.machine_total in
      let names = channel-names in
      let machines = machine-names in
      cc

  -- ---- the text

  module _ (layout : Layout) (net : Network) (has : HasLayout (frame_of net) layout) (count : length net.wires ≡ length plan.channels) where
    abbrev the_setting : Setting
    the_setting = setting_of design request n columns rows layout

    line-is : (c : ℕ) → c < length plan.channels → net_line plan flow net c ≡ channel_told the_setting (marking_of net) the_wires c
    line-is c lt =
        let any = some-item plan.channels c lt in
        let own = slice_index_or plan.channels c any in
        let w = wire_at the_wires c in
        let at : IsChannel design (capacity_of request.capacity default) (is_piped design.circuit request) plan.machines w own = given.planned.channel c any lt in
        let known : c < length net.wires = omega (arith, lt, count) in
        let name = channel_name design.circuit the_wires c in
        let wide = (shape_at (signal_shapes design.circuit) w.signal).width in
        let named : name_in plan c ≡ name = get_or-map (λ (channel : Channel). channel.name) plan.channels c any [] lt ∙ at.name in
        let width : width_in plan c ≡ wide = get_or-map (λ (channel : Channel). channel.ty.width) plan.channels c any 0 lt ∙ ap (λ (z : Shape). z.width) at.type in
        let put : network.puts net c ≡ marked_puts layout (marking_of net) c = puts-are net layout has c known in
        let have : network.entered net c ≡ marked_entered layout (marking_of net) c = entered-are net layout has c known in
        let took : network.takes net c ≡ marked_takes layout (marking_of net) c = takes-are net layout has c known in
        let token = plan_token design request start.state in
        let carried : list_at flow.lists c ≡ stream 0 0 (is_piped design.circuit request w.signal) (column rows w.signal) =
        stream-at 0 token plan.channels rows c any lt
        ∙ ap₂ (λ p s. stream 0 (token s) p (column rows s)) at.pipe at.signal
        ∙ ap (λ v. stream 0 v (is_piped design.circuit request w.signal) (column rows w.signal)) (start-token design request w.signal) in
        ap (λ x. channel_line x (width_in plan c) (network.puts net c) (network.takes net c) (take (network.entered net c) (list_at flow.lists c))) named
        ∙ ap (λ x. channel_line name x (network.puts net c) (network.takes net c) (take (network.entered net c) (list_at flow.lists c))) width
        ∙ ap (λ x. channel_line name wide x (network.takes net c) (take (network.entered net c) (list_at flow.lists c))) put
        ∙ ap (λ x. channel_line name wide (marked_puts layout (marking_of net) c) x (take (network.entered net c) (list_at flow.lists c))) took
        ∙ ap (λ x. channel_line name wide (marked_puts layout (marking_of net) c) (marked_takes layout (marking_of net) c) (take x (list_at flow.lists c))) have
        ∙ ap (λ x. channel_line name wide (marked_puts layout (marking_of net) c) (marked_takes layout (marking_of net) c) (take (marked_entered layout (marking_of net) c) x)) carried

    pub text-is : net_text plan flow net ≡ replay_text the_setting (marking_of net)
    text-is =
        lines-same (net_line plan flow net) (channel_told the_setting (marking_of net) the_wires) 0 (length plan.channels) (λ c le lt. line-is c (omega (arith, lt)))
        ∙ ap (λ k. flat_map (channel_told the_setting (marking_of net) the_wires) (range_with_len 0 k)) given.planned.channel_total

  -- ---- the steps

  module _ (opening : Network) (opens : IsOpeningOf design request plan columns n opening) (kept : Kept flow opening) where
    abbrev token : ℕ → ℕ
    token = plan_token design request start.state

    pub laid : (layout : Layout) × (IsLayoutOf design request default n layout × HasLayout (frame_of opening) layout)
    laid =
        subst (λ (net : Network). (layout : Layout) × (IsLayoutOf design request default n layout × HasLayout (frame_of net) layout)) (sym opens.is)
        (plan-layout design request models default plan columns n start rows token (body_start start) opens.machines given opens.built)

    pub begins : marking_of opening ≡ opening_marking laid.0 0
    begins =
        ap marking_of opens.is
        ∙ opens-so flow opens.machines (wires_of_plan token plan) n (built-opening design request models default plan columns n start rows opens.machines given opens.built) laid.0
        (subst (λ (net : Network). HasLayout (frame_of net) laid.0) opens.is laid.1.1)

    pub are-set : AreSet design request models default n columns rows laid.0
    are-set = record { run = run-of design request models columns n rows given.run; laid = laid.1.0; able = can-run flow opening kept laid.0 laid.1.1 }

    pub frame-has : (events : List (Option Event)) (net : Network) → Steps opening events net → HasLayout (frame_of net) laid.0
    frame-has events net steps = subst (λ (f : Frame). HasLayout f laid.0) (sym (steps-frame opening events net steps)) laid.1.1

    pub wires-count : (events : List (Option Event)) (net : Network) → Steps opening events net → length net.wires ≡ length plan.channels
    wires-count events net steps = ap (λ (f : Frame). length f.wires) (steps-frame opening events net steps) ∙ ap (λ (net : Network). length net.wires) opens.is ∙ length-from token plan 0 plan.channels

    pub went : (events : List (Option Event)) (net : Network) → Steps opening events net → replayed_from laid.0 1 (opening_marking laid.0 0) events ≡ Ok (marking_of net)
    went events net steps =
        ap (λ m. replayed_from laid.0 1 m events) (sym begins) ∙ all-done flow laid.0 1 opening events net kept laid.1.1 steps

    pub stopped-so : (events : List (Option Event)) (net : Network) (stopped : Stopped) → StopsAt 1 opening events net stopped → replayed_from laid.0 1 (opening_marking laid.0 0) events ≡ Err stopped
    stopped-so events net stopped stops =
        ap (λ m. replayed_from laid.0 1 m events) (sym begins) ∙ stops-at flow laid.0 1 opening events net stopped kept laid.1.1 stops
