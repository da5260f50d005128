-- The network of a plan has the layout of its cut.
use Rattle.std.proofs.Common.{◌≡◌, ℕ, ◌+◌, ◌<◌, ◌≤◌, List, [], length, map, get_or, Bool, true, false, refl, sym, ◌∙◌, ap, subst, inl, inr, ◌⊎◌, arith}
use Rattle.std.specs.Prelude.{Contains, ◌&&◌, if◌then◌else◌, is_some, nat_le, nat_lt}
use Rattle.std.specs.List.{range_with_len}
use Rattle.std.proofs.lemmas.Bool.{lt-leb, le-ltb, le-leb, lt-ltb}
use Rattle.std.proofs.lemmas.List.{length-map, get_or-map, same_lists}
use Rattle.std.proofs.lemmas.List.Elements.{Contains-get_or}
use Rattle.std.proofs.lemmas.List.FromFn.{length-range_with_len, get_or-range_with_len}
use Rattle.gg_flat_tree.specs.Tree.{port_count}
use Rattle.gg_flat.proofs.ListLemmas.{some-item}
use Rattle.gg_flat.specs.Run.{Start}
use Rattle.gg_order.specs.Design.{Ordered}
use Rattle.gg_partfile.specs.declared.request.Request.{Request}
use Rattle.gg_cut_plan.specs.declared.plan.Body.{Body}
use Rattle.gg_cut_plan.specs.declared.plan.Body.TheVariants.{Cut, Memory, Source, Tray, Bridge}
use Rattle.gg_cut_plan.specs.declared.plan.Channel.{Channel}
use Rattle.gg_cut_plan.specs.declared.plan.Plan.{Plan}
use Rattle.gg_cut_plan.specs.Machines.{first_memory, first_source}
use Rattle.gg_cut_plan.specs.Bridges.{Models}
use Rattle.gg_cut_plan.specs.Ports.{machine_end}
use Rattle.gg_cut_plan.specs.Plan.{wire_at, channels_to, channels_from}
use Rattle.gg_cut_reference.specs.text.CheckText.{AreChannelNeeds}
use Rattle.gg_cut_reference.proofs.TextLemmas.PlanLemmas.{channel-needs}
use Rattle.gg_node.specs.Machine.{Machine, Port, machine_at, needs_at}
use Rattle.gg_memunit.specs.MemoryUnit.{ports_of}
use Rattle.gg_net.specs.Network.{Frame, Kind, kind_of, kind_at, no_kind, wire_at as joint_at}
use Rattle.gg_net.specs.Refusal.{Turn}
use Rattle.gg_net.specs.markings.Marking.{Link, Layout, link_at, turns_at}
use Rattle.gg_net.specs.inside.Fits.{AreTaken, AreTurnsOf, HasLayout, IsLinkOf, places_of}
use Rattle.gg_build.specs.plan.Built.{machine_in, nameless, place_in, first_token, wires_of_plan, AreBuilt, IsBuilt, IsGiven, plan_frame}
use Rattle.gg_build.specs.inside.Given.{Given, IsBodyAt, cut_of, given_of}
use Rattle.gg_build.proofs.PlanLemmas.GivenLemmas.{are-links, body-at}
use Rattle.gg_build.proofs.PlanLemmas.LinkLemmas.{length-wires, linked}
use Rattle.gg_build.proofs.PlanLemmas.FitLemmas.{kind-is}
use Rattle.gg_cut_plan.specs.Machines.{is_memory}
use Rattle.gg_build.specs.plan.CutLayout.{IsChannelLink, IsLayoutBy, IsLayoutOf, machine_ports, machine_turns, memory_turns, memory_of}
use Rattle.gg_build.proofs.PlanLemmas.AscendingLemmas.{AreMadeOf, made-same}
use Rattle.gg_build.proofs.PlanLemmas.WireLemmas.{places-up, joint-capacity, place-at}
use Rattle.gg_build.proofs.PlanLemmas.MemoryLemmas.{memory-ports, memory-turns}
use Rattle.gg_build.proofs.PlanLemmas.OutNeedLemmas.{HasOutNeeds, out-needs}

-- ---- turns by the kind of a machine

either-false : {A : Type 0} (a b : Bool) (x y : A) → (a ≡ false) ⊎ (b ≡ false) → (if a && b then x else y) ≡ y
either-false false b x y is = refl
either-false true false x y is = refl
either-false true true x y (inl is) = absurd (cc)
either-false true true x y (inr is) = absurd (cc)

both-true : {A : Type 0} (a b : Bool) (x y : A) → a ≡ true → b ≡ true → (if a && b then x else y) ≡ x
both-true true true x y p q = refl
both-true true false x y p q = absurd (cc)
both-true false b x y p q = absurd (cc)

-- a channel opens with a token exactly if it has a pipe
has-token : (pipe : Bool) (token : ℕ) → pipe ≡ is_some (first_token pipe token)
has-token true token = refl
has-token false token = refl

no-turns : (frame : Frame) (m : ℕ) (turns : List Turn) → turns ≡ [] → AreTurnsOf frame m [] turns
no-turns frame m turns none = record { count = ap length none; each = λ i port turn lt. absurd (omega (arith, lt)) }

module _ (given : Given) (token : ℕ → ℕ) (starts : Body → Start) (machines : List Machine) (built : AreBuilt given.plan starts given.columns machines) where
  open given use {design, request, models, default, plan, columns, n}
  open cut_of design request use {listed, bridges as b, wires}

  abbrev frame : Frame
  frame = plan_frame token plan machines n

  -- how many machines there are
  abbrev total : ℕ
  total = machine_end b

  -- ---- the layout

  abbrev link_of : Channel → Link
  link_of channel = record { producer = channel.producer; consumer = channel.consumer; capacity = channel.capacity; needs = channel.needs; piped = channel.pipe }

  abbrev turns_of : ℕ → List Turn
  turns_of m = machine_turns design.circuit design.tree listed wires m

  abbrev ports_at : ℕ → ℕ
  ports_at m = machine_ports design.circuit design.tree listed m

  abbrev pub layout : Layout
  layout =
      record {
        links = map link_of plan.channels;
        port_counts = map ports_at (range_with_len 0 (machine_end b));
        turns = map turns_of (range_with_len 0 (machine_end b));
        end = n;
      }

  link-is : (c : ℕ) (any : Channel) → c < length plan.channels → link_at layout c ≡ link_of (get_or plan.channels c any)
  link-is c any lt = get_or-map link_of plan.channels c any (record { producer = 0; consumer = 0; capacity = 0; needs = []; piped = false }) lt

  turns-are : (m : ℕ) → m < total → turns_at layout m ≡ turns_of m
  turns-are m lt =
      let count = total in
      get_or-map turns_of (range_with_len 0 count) m 0 [] (omega (arith, lt, length-range_with_len 0 count))
      ∙ ap turns_of (get_or-range_with_len 0 count m 0 lt ∙ (let same : 0 + m ≡ m = omega arith in same))

  -- ---- it is the layout of the cut

  link-needs : (c : ℕ) → c < length wires → AreChannelNeeds design.circuit listed wires c (link_at layout c).needs
  link-needs c lt =
      let known : c < length plan.channels = omega (arith, lt, given.planned.channel_total) in
      let any = some-item plan.channels c known in
      subst (λ (link : Link). AreChannelNeeds design.circuit listed wires c link.needs) (sym (link-is c any known)) (channel-needs design request models default plan given.planned c any lt)

  cut-link : (c : ℕ) → c < length wires → IsChannelLink design request default listed wires c (link_at layout c)
  cut-link c lt =
      let known : c < length plan.channels = omega (arith, lt, given.planned.channel_total) in
      let any = some-item plan.channels c known in
      let channel = given.planned.channel c any known in
      let is = link-is c any known in
      record {
        producer = ap (λ (link : Link). link.producer) is ∙ channel.producer;
        consumer = ap (λ (link : Link). link.consumer) is ∙ channel.consumer;
        capacity = ap (λ (link : Link). link.capacity) is ∙ channel.bound;
        needs = link-needs c lt;
        piped = ap (λ (link : Link). link.piped) is ∙ channel.pipe;
      }

  pub of-cut : IsLayoutBy design request default n listed wires layout
  of-cut = record { channels = length-map plan.channels link_of ∙ given.planned.channel_total; link = cut-link; ports = refl; turns = refl; end = refl }

  -- ---- it is the layout of the network

  module _ (c : ℕ) (lt : c < length wires) where
    abbrev p : ℕ
    p = (wire_at wires c).producer

    abbrev needs : List ℕ
    needs = (link_at layout c).needs

    abbrev place : ℕ → ℕ
    place d = (joint_at (wires_of_plan token plan) d).place

    below : p < length plan.machines
    below = ((are-links given).ends c lt).0

    own-needs : HasOutNeeds wires p c needs (kind_of (machine_at machines p))
    own-needs =
        let known : c < length plan.channels = omega (arith, lt, given.planned.channel_total) in
        let any = some-item plan.channels c known in
        let machine = given.planned.machine p nameless below in
        subst (λ (link : Link). HasOutNeeds wires p c link.needs (kind_of (machine_at machines p))) (sym (link-is c any known))
        (out-needs given p c (record { known = lt; producer = refl }) columns (length (machine_in plan p).outs) (starts (machine_in plan p).body) (machine_in plan p).body (machine_at machines p) (machine_in plan p).ins (get_or plan.channels c any).needs machine.body (built.each p below) machine.ins ((given.planned.channel c any known).needs nameless))

    -- the place of a needed channel is its place among the channels that the machine takes
    place-is : (d : ℕ) → Contains needs d → place d ≡ place_in (channels_to wires p) d
    place-is d has = let need = ((link-needs c lt).each d).0 has in place-at token plan wires (are-links given) p d need.known need.taken

    grows : (d e : ℕ) → Contains needs d → Contains needs e → d < e → place d < place e
    grows d e one other less =
        let a = ((link-needs c lt).each d).0 one in
        let b = ((link-needs c lt).each e).0 other in
        let up = places-up wires p d e less b.known a.taken b.taken in
        omega (arith, up, place-is d one, place-is e other)

    made : AreMadeOf place needs (needs_at (kind_of (machine_at machines p)).needs (place_in (channels_from wires p) c))
    made =
        let all = needs_at (kind_of (machine_at machines p)).needs (place_in (channels_from wires p) c) in
        record {
          into = λ d has. subst (λ i. Contains all i) (sym (place-is d has)) (own-needs.made.into d has);
          back = λ i has. let found = own-needs.made.back i has in (found.0, (found.1.0, place-is found.0 found.1.0 ∙ found.1.1));
        }

    needs-are : places_of frame needs ≡ needs_at (kind_at frame.kinds (joint_at frame.wires c).producer).needs (joint_at frame.wires c).out
    needs-are =
        let link = linked token plan wires (are-links given) c lt in
        made-same place needs (needs_at (kind_of (machine_at machines p)).needs (place_in (channels_from wires p) c)) (link-needs c lt).ascending own-needs.up grows made
        ∙ ap (λ o. needs_at (kind_of (machine_at machines p)).needs o) (sym link.out)
        ∙ ap (λ k. needs_at k.needs (joint_at frame.wires c).out) (sym (kind-is machines p (omega (arith, below, built.count))))
        ∙ ap (λ k. needs_at (kind_at frame.kinds k).needs (joint_at frame.wires c).out) (sym link.producer)

    needs-taken : AreTaken frame (joint_at frame.wires c).producer needs
    needs-taken i d within =
        let x = get_or needs i d in
        let need = ((link-needs c lt).each x).0 (Contains-get_or needs i d within) in
        (omega (arith, need.known, length-wires token plan wires (are-links given)), (linked token plan wires (are-links given) x need.known).consumer ∙ need.taken ∙ sym (linked token plan wires (are-links given) c lt).producer)

    net-link : IsLinkOf frame c (link_at layout c)
    net-link =
        let known : c < length plan.channels = omega (arith, lt, given.planned.channel_total) in
        let any = some-item plan.channels c known in
        let link = linked token plan wires (are-links given) c lt in
        let cut = cut-link c lt in
        record {
          producer = cut.producer ∙ sym link.producer;
          consumer = cut.consumer ∙ sym link.consumer;
          capacity = ap (λ (l : Link). l.capacity) (link-is c any known) ∙ sym (joint-capacity token plan wires (are-links given) c any known);
          piped = ap (λ (l : Link). l.piped) (link-is c any known) ∙ has-token (get_or plan.channels c any).pipe (token (get_or plan.channels c any).signal) ∙ sym (ap is_some (link.first any known));
          needs = needs-are;
          taken = needs-taken;
        }

  -- ---- ports and turns

  module _ (m : ℕ) (lt : m < total) where
    otherwise : {A : Type 0} (x y : A) → (m < first_memory listed) ⊎ (first_source listed ≤ m) → (if is_memory listed m then x else y) ≡ y
    otherwise x y (inl low) = either-false (nat_le (first_memory listed) m) (nat_lt m (first_source listed)) x y (inl (lt-leb (first_memory listed) m low))
    otherwise x y (inr high) = either-false (nat_le (first_memory listed) m) (nat_lt m (first_source listed)) x y (inr (le-ltb m (first_source listed) high))

    of-memory : {A : Type 0} (x y : A) → first_memory listed ≤ m → m < first_source listed → (if is_memory listed m then x else y) ≡ x
    of-memory x y low high = both-true (nat_le (first_memory listed) m) (nat_lt m (first_source listed)) x y (le-leb (first_memory listed) m low) (lt-ltb m (first_source listed) high)

    not-memory : (m < first_memory listed) ⊎ (first_source listed ≤ m) → turns_of m ≡ []
    not-memory = otherwise (memory_turns design.circuit wires (memory_of design.tree listed m)) []

    -- a machine that is no listed memory has no ports, and serves none
    other-ports : (machine : Machine) → (m < first_memory listed) ⊎ (first_source listed ≤ m) → (kind_of machine).port_count ≡ 0 → ports_at m ≡ (kind_of machine).port_count
    other-ports machine other none = otherwise (port_count design.circuit (memory_of design.tree listed m)) 0 other ∙ sym none

    other-turns : (machine : Machine) → (m < first_memory listed) ⊎ (first_source listed ≤ m) → (kind_of machine).ports ≡ [] → AreTurnsOf frame m (kind_of machine).ports (turns_of m)
    other-turns machine other none = subst (λ (l : List Port). AreTurnsOf frame m l (turns_of m)) (sym none) (no-turns frame m (turns_of m) (not-memory other))

    body-ports : (outs : ℕ) (own : Start) (body : Body) (machine : Machine) → IsBodyAt given m body → IsBuilt columns outs own body machine → ports_at m ≡ (kind_of machine).port_count
    body-ports outs own (Cut part) machine body unit = other-ports machine (inl body.0) (ap (λ (t : Machine). (kind_of t).port_count) unit.is)
    body-ports outs own (Memory part) machine body stands =
        subst (λ (t : Machine). ports_at m ≡ (kind_of t).port_count) (sym stands.is)
        (of-memory (port_count design.circuit (memory_of design.tree listed m)) 0 body.0 body.1 ∙ memory-ports given m part body own machine stands)
    body-ports outs own (Source place) machine body is = other-ports machine (inr (omega (arith, body.1))) (ap (λ (t : Machine). (kind_of t).port_count) is)
    body-ports outs own Tray machine body is = other-ports machine (inr (omega (arith, body.0))) (ap (λ (t : Machine). (kind_of t).port_count) is)
    body-ports outs own (Bridge bridge) machine body is = other-ports machine (inr (omega (arith, body.0))) (ap (λ (t : Machine). (kind_of t).port_count) is)

    port-count : ports_at m ≡ (kind_at frame.kinds m).port_count
    port-count =
        let below : m < length plan.machines = omega (arith, lt, given.planned.machine_total) in
        subst (λ k. ports_at m ≡ k.port_count) (sym (kind-is machines m (omega (arith, below, built.count))))
        (body-ports (length (machine_in plan m).outs) (starts (machine_in plan m).body) (machine_in plan m).body (machine_at machines m) (body-at given m below) (built.each m below))

    body-turns : (outs : ℕ) (own : Start) (body : Body) (machine : Machine) → IsBodyAt given m body → IsBuilt columns outs own body machine → AreTurnsOf frame m (kind_of machine).ports (turns_of m)
    body-turns outs own (Cut part) machine body unit = other-turns machine (inl body.0) (ap (λ (t : Machine). (kind_of t).ports) unit.is)
    body-turns outs own (Memory part) machine body stands =
        let are_turns = memory-turns given m part body own machine stands token frame refl in
        let same = of-memory (memory_turns design.circuit wires (memory_of design.tree listed m)) [] body.0 body.1 in
        subst (λ (t : Machine). AreTurnsOf frame m (kind_of t).ports (turns_of m)) (sym stands.is)
        (subst (λ (l : List Turn). AreTurnsOf frame m (ports_of stands.alone.piece.memories) l) (sym same) are_turns)
    body-turns outs own (Source place) machine body is = other-turns machine (inr (omega (arith, body.1))) (ap (λ (t : Machine). (kind_of t).ports) is)
    body-turns outs own Tray machine body is = other-turns machine (inr (omega (arith, body.0))) (ap (λ (t : Machine). (kind_of t).ports) is)
    body-turns outs own (Bridge bridge) machine body is = other-turns machine (inr (omega (arith, body.0))) (ap (λ (t : Machine). (kind_of t).ports) is)

    net-turns : AreTurnsOf frame m (kind_at frame.kinds m).ports (turns_at layout m)
    net-turns =
        let below : m < length plan.machines = omega (arith, lt, given.planned.machine_total) in
        subst (λ (l : List Turn). AreTurnsOf frame m (kind_at frame.kinds m).ports l) (sym (turns-are m lt))
        (subst (λ k. AreTurnsOf frame m k.ports (turns_of m)) (sym (kind-is machines m (omega (arith, below, built.count))))
        (body-turns (length (machine_in plan m).outs) (starts (machine_in plan m).body) (machine_in plan m).body (machine_at machines m) (body-at given m below) (built.each m below)))

  net-ports : layout.port_counts ≡ map (λ (kind : Kind). kind.port_count) frame.kinds
  net-ports =
      let count = total in
      let numbers = length-map (range_with_len 0 count) ports_at in
      let range = length-range_with_len 0 count in
      let kinds = length-map machines kind_of in
      let counts = length-map frame.kinds (λ (kind : Kind). kind.port_count) in
      same_lists layout.port_counts (map (λ (kind : Kind). kind.port_count) frame.kinds) (omega (arith, numbers, range, counts, kinds, built.count, given.planned.machine_total))
      (λ m any lt.
      let low : m < count = omega (arith, lt, numbers, range) in
      get_or-map ports_at (range_with_len 0 count) m 0 any (omega (arith, low, range))
      ∙ ap ports_at (get_or-range_with_len 0 count m 0 low ∙ (let same : 0 + m ≡ m = omega arith in same))
      ∙ port-count m low
      ∙ sym (get_or-map (λ (kind : Kind). kind.port_count) frame.kinds m no_kind any (omega (arith, low, kinds, built.count, given.planned.machine_total))))

  pub of-network : HasLayout frame layout
  of-network =
      let count = total in
      let kinds = length-map machines kind_of in
      let joints = length-wires token plan wires (are-links given) in
      record {
        machines = omega (arith, length-map (range_with_len 0 count) turns_of, length-range_with_len 0 count, kinds, built.count, given.planned.machine_total);
        channels = omega (arith, length-map plan.channels link_of, joints, given.planned.channel_total);
        end = refl;
        ports = net-ports;
        link = λ c lt. net-link c (omega (arith, lt, joints));
        turns = λ m lt. net-turns m (omega (arith, lt, kinds, built.count, given.planned.machine_total));
      }

pub plan-layout : (design : Ordered) (request : Request) (models : Models) (default : ℕ) (plan : Plan) (columns : List (List ℕ)) (n : ℕ) (start : Start) (rows : List (List ℕ)) (token : ℕ → ℕ) (starts : Body → Start) (machines : List Machine) → IsGiven design request models default plan columns n start rows → AreBuilt plan starts columns machines
    → (layout : Layout) × (IsLayoutOf design request default n layout × HasLayout (plan_frame token plan machines n) layout)
plan-layout design request models default plan columns n start rows token starts machines given built =
    (layout (given_of given) token starts machines built, (of-cut (given_of given) token starts machines built, of-network (given_of given) token starts machines built))
