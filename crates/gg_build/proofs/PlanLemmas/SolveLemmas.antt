-- The columns of a run of the circuit that the network computes solve the plan.
use Rattle.std.proofs.Common.{◌≡◌, ℕ, zero, suc, ◌+◌, ◌-◌, ◌<◌, List, [], ◌∷◌, ◌++◌, Bool, drop, length, map, take, get_or, refl, sym, ◌∙◌, ap, ap₂, subst, arith}
use Rattle.std.specs.Prelude.{◌==◌, All, Contains, filter}
use Rattle.std.specs.List.{range_with_len}
use Rattle.std.proofs.lemmas.List.{ext_get_or, get_or-map, get_or-take, length-append, length-map}
use Rattle.std.proofs.lemmas.List.Elements.{All-map, Contains-get_or}
use Rattle.std.proofs.lemmas.List.FromFn.{length-range_with_len, get_or-range_with_len}
use Rattle.std.proofs.lemmas.Simd.{map-map}
use Rattle.gg_flat.specs.Circuit.{FlatCircuit}
use Rattle.gg_flat.specs.Line.{value_at}
use Rattle.gg_flat.specs.Run.{row_at, column, since}
use Rattle.gg_flat.proofs.ListLemmas.{some-item, filter-cases, range-below, Contains-map}
use Rattle.gg_order.proofs.RunsLemmas.UniqueLemmas.{IsRunFrom-once}
use Rattle.gg_cut_plan.specs.declared.plan.Body.{Body}
use Rattle.gg_cut_plan.specs.declared.plan.Body.TheVariants.{Cut, Memory, Source, Tray, Bridge}
use Rattle.gg_cut_plan.specs.declared.plan.BridgeBody.{BridgeBody}
use Rattle.gg_cut_plan.specs.declared.plan.Channel.{Channel}
use Rattle.gg_cut_plan.specs.Channels.{wire}
use Rattle.gg_cut_plan.specs.Direct.{is_piped}
use Rattle.gg_cut_plan.specs.Plan.{wire_at as link_at, channels_to, channels_from}
use Rattle.gg_cut_plan.specs.Ports.{first_kept_tray, open_outs, output_count, unseen}
use Rattle.gg_bits.specs.Lists.{count_below}
use Rattle.gg_cut_plan.specs.inside.Solves.{AgreesFrom, Answers, GivesSaid, in_order, lists_of, Solves}
use Rattle.gg_cut_plan.specs.Solves.{AreRows, columns_of, model_start, stream, streams}
use Rattle.gg_cut_reference.proofs.FittingLemmas.OpenLemmas.{outs-count, outs-place}
use Rattle.gg_cut_reference.specs.Links.{taken_as}
use Rattle.gg_cut_reference.specs.inside.Follows.{given_column, taken_column}
use Rattle.gg_cut_reference.proofs.FollowLemmas.{column-before}
use Rattle.gg_cut_reference.proofs.MachineLemmas.{map-agree}
use Rattle.gg_cut_reference.proofs.PlanLemmas.{rows-follow}
use Rattle.gg_cut_reference.specs.whole.Whole.{plan_circuit}
use Rattle.gg_cut_reference.specs.inside.Whole.{bridge_signal}
use Rattle.gg_cut_reference.proofs.WholeLemmas.PortLemmas.{plan-outs}
use Rattle.gg_build.specs.plan.Built.{place_in}
use Rattle.gg_build.specs.inside.Given.{Given, IsBodyAt, cut_of, run_of}
use Rattle.gg_build.proofs.PlanLemmas.BridgeLemmas.{bridge-model, bridge-ports, driven_place, entry, gives-port, see-count, seen_place}
use Rattle.gg_build.proofs.PlanLemmas.BridgeDoLemmas as does
use Rattle.gg_build.proofs.PlanLemmas.GivenLemmas.{is-routed, no-fault, runs-whole}
use Rattle.gg_build.proofs.PlanLemmas.ListedLemmas as links
use Rattle.gg_build.proofs.PlanLemmas.BeginLemmas.{one-number}
use Rattle.gg_build.proofs.PlanLemmas.NumberLemmas.{placed}
use Rattle.gg_build.proofs.PlanLemmas.RowLemmas.{front-column, taken-below}
use Rattle.gg_build.proofs.PlanLemmas.RunLemmas.{below, channel-signal, column-given, column-taken, own-columns, reference-run}
use Rattle.gg_build.proofs.PlanLemmas.SideLemmas.{source-at, tray-at, tray-gives-none, tray-takes}

-- what the consumers of channel c take
pub streams-at : (begin : ℕ) (token : ℕ → ℕ) (channels : List Channel) (lists : List (List ℕ)) (c : ℕ) (any : Channel) → length lists ≡ length channels → c < length channels → get_or (streams begin token channels lists) c [] ≡ stream begin (token (get_or channels c any).signal) (get_or channels c any).pipe (get_or lists c [])
streams-at begin token [] lists c any same lt = absurd (omega (arith, lt))
streams-at begin token (channel ∷ channels) [] c any same lt = absurd (omega (arith, same))
streams-at begin token (channel ∷ channels) (list ∷ lists) zero any same lt = refl
streams-at begin token (channel ∷ channels) (list ∷ lists) (suc c) any same lt = streams-at begin token channels lists c any (omega (arith, same)) (omega (arith, lt))

-- two functions that agree on the numbers below `count` make the same list of those that pass a test
chosen-agree : {B : Type 0} (f g : ℕ → B) (test : ℕ → Bool) (count : ℕ) → ((c : ℕ) → c < count → f c ≡ g c) → map f (filter test (range_with_len 0 count)) ≡ map g (filter test (range_with_len 0 count))
chosen-agree f g test count same =
    map-agree f g (filter test (range_with_len 0 count)) (λ i lt.
    let c = value_at (filter test (range_with_len 0 count)) i in
    same c (range-below count c (filter-cases test (range_with_len 0 count) c (Contains-get_or (filter test (range_with_len 0 count)) i 0 lt)).among))

none-left : (xs : List ℕ) → length xs ≡ 0 → xs ≡ []
none-left [] none = refl
none-left (x ∷ xs) none = absurd (omega (arith, none))

module _ (given : Given) where
  open given use {design, request, models, plan, columns, n, start, rows, can}
  open cut_of design request use {hub, bridges as b, wires}
  open run_of given use {own, fed, count, token}

  abbrev lists : List (List ℕ)
  lists = columns_of plan own

  abbrev taken : List (List ℕ)
  taken = streams start.cycle token plan.channels (columns_of plan own)

  -- ---- the lists of channels

  height : length (columns_of plan own) ≡ length plan.channels
  height = length-map plan.channels (λ (channel : Channel). column own channel.signal)

  list-at : (c : ℕ) → c < length wires → get_or lists c [] ≡ given_column hub own c
  list-at c lt =
      let known : c < length plan.channels = omega (arith, lt, given.planned.channel_total) in
      let some = some-item plan.channels c known in
      get_or-map (λ (channel : Channel). column own channel.signal) plan.channels c some [] known ∙ ap (column own) (channel-signal given c some known)
      ∙ column-given given c lt

  stream-at : (c : ℕ) → c < length wires → take n (get_or taken c []) ≡ taken_column hub start n own c
  stream-at c lt =
      let known : c < length plan.channels = omega (arith, lt, given.planned.channel_total) in
      let some = some-item plan.channels c known in
      let channel = get_or plan.channels c some in
      let at = given.planned.channel c some known in
      ap (take n) (streams-at start.cycle token plan.channels lists c some height known)
      ∙ ap (λ s. take n (stream start.cycle (token s) channel.pipe (get_or lists c []))) (channel-signal given c some known)
      ∙ ap₂ (λ piped l. take n (stream start.cycle (token (link_at wires c).signal) piped l)) at.pipe (list-at c lt)

  -- what a machine takes, and what it gives
  abbrev taken_by : ℕ → List (List ℕ)
  taken_by m = map (taken_column hub start n own) (channels_to wires m)

  abbrev given_by : ℕ → List (List ℕ)
  given_by m = map (given_column hub own) (channels_from wires m)

  taken-lists : (m : ℕ) → map (take n) (lists_of taken (channels_to wires m)) ≡ taken_by m
  taken-lists m =
      map-map (take n) (λ c. get_or taken c []) (channels_to wires m)
      ∙ chosen-agree (λ c. take n (get_or taken c [])) (taken_column hub start n own) (λ c. (link_at wires c).consumer == m) (length wires) (λ c lt. stream-at c (omega (arith, lt)))

  given-lists : (m : ℕ) → lists_of lists (channels_from wires m) ≡ given_by m
  given-lists m = chosen-agree (λ c. get_or lists c []) (given_column hub own) (λ c. (link_at wires c).producer == m) (length wires) (λ c lt. list-at c (omega (arith, lt)))

  -- what a channel's consumer takes is the column of the signal by which it is taken
  taken-is : (c : ℕ) → c < length wires → taken_column hub start n own c ≡ column own (taken_as hub (link_at wires c).signal)
  taken-is c lt =
      let s = (link_at wires c).signal in
      ap (λ l. take n (stream start.cycle (token s) (is_piped design.circuit request s) l)) (sym (column-given given c lt)) ∙ column-taken given c lt

  taken-column : (c : ℕ) → c < length wires → taken_column hub start n own c ≡ column rows (taken_as hub (link_at wires c).signal)
  taken-column c lt = taken-is c lt ∙ sym (front-column count rows (taken_as hub (link_at wires c).signal) (taken-below given (link_at wires c).signal ((is-routed given).known c (wire 0 0 0) lt)))

  -- ---- machines without a bridge

  source-gives : (m place : ℕ) → IsBodyAt given m (Source place) → All (AgreesFrom start n (get_or columns place [])) (given_by m)
  source-gives m place body =
      let source = source-at design request (is-routed given) m place body.0 body.1 in
      let s = value_at design.circuit.ins source.port in
      let inside = below given s (can.design_is.formed.ins source.port source.known).0 in
      let from = channels_from wires m in
      All-map (AgreesFrom start n (get_or columns place [])) (given_column hub own) from (λ k d lt t le less.
      let c = get_or from k d in
      let is : (link_at wires c).given ≡ s = source.gives.all (link_at wires c).given (Contains-map (λ j. (link_at wires j).given) from c (Contains-get_or from k d lt)) in
      ap (λ (l : List ℕ). value_at l t) (ap (column own) is ∙ sym (front-column count rows s inside) ∙ ap (column rows) (sym source.input))
      ∙ (runs-whole given).fed place t body.0 le less)

  -- ---- bridges

  module _ (m : ℕ) (bridge : BridgeBody) (body : IsBodyAt given m (Bridge bridge)) where
    abbrev to : List ℕ
    to = channels_to wires m

    abbrev from : List ℕ
    from = channels_from wires m

    abbrev model : FlatCircuit
    model = bridge.model

    abbrev place_of : ℕ → ℕ
    place_of c = seen_place given m bridge body c

    -- the rows of the model, and what it sees
    abbrev mine : List (List ℕ)
    mine = does.own given m bridge body

    abbrev sees : List (List ℕ)
    sees = does.seen_columns given m bridge body

    ins-low : (c : ℕ) → Contains to c → c < length wires
    ins-low c h = omega (arith, range-below (length wires) c (filter-cases (λ d. (link_at wires d).consumer == m) (range_with_len 0 (length wires)) c h).among)

    outs-low : (c : ℕ) → Contains from c → c < length wires
    outs-low c h = omega (arith, range-below (length wires) c (filter-cases (λ d. (link_at wires d).producer == m) (range_with_len 0 (length wires)) c h).among)

    -- the columns of what it takes, in its model's order, are those of what it sees
    in-columns : in_order bridge.ins (map (taken_column hub start n own) to) ≡ sees
    in-columns =
        let places = bridge.ins in
        let ins = map (taken_column hub start n own) to in
        let pick : ℕ → List ℕ = λ p. get_or ins (place_in places p) [] in
        let ports = bridge-ports given m bridge body in
        let long = length-map (range_with_len 0 (length places)) pick in
        let range = length-range_with_len 0 (length places) in
        let seen = length-map (entry given m bridge body).sees (λ name. column rows (bridge_signal design request name)) in
        let total : length places ≡ length model.ins = ports.takes.total in
        ext_get_or [] (map pick (range_with_len 0 (length places))) sees (omega (arith, long, range, seen, total, see-count given m bridge body))
        (λ p lt.
        let low : p < length places = omega (arith, lt, long, range) in
        let at = placed places p (ports.takes.every p (omega (arith, low, total))) in
        let i = place_in places p in
        let inside : i < length to = omega (arith, at.within, ap length body.1.ins, length-map to place_of) in
        let c = value_at to i in
        let there = Contains-get_or to i 0 inside in
        let is : place_of c ≡ p = sym (get_or-map place_of to i 0 0 inside) ∙ ap (λ (l : List ℕ). value_at l i) (sym body.1.ins) ∙ at.is in
        get_or-map pick (range_with_len 0 (length places)) p 0 [] (omega (arith, low, range))
        ∙ ap pick (get_or-range_with_len 0 (length places) p 0 low ∙ (let same : 0 + p ≡ p = omega arith in same))
        ∙ get_or-map (taken_column hub start n own) to i 0 [] inside
        ∙ taken-column c (ins-low c there)
        ∙ sym (does.seen-column given m bridge body c there)
        ∙ ap (λ k. get_or sees k []) is)

    bridge-gives : (others : List (List ℕ)) → AreRows model (model_start model start) sees n others → map (λ place. column others (value_at model.outs place)) bridge.outs ≡ map (given_column hub own) from
    bridge-gives others other =
        let is_model = bridge-model given m bridge body in
        let own_run = does.model-run given m bridge body in
        let same = IsRunFrom-once model is_model.order (model_start model start) sees (since start.cycle n) (drop start.cycle others) (drop start.cycle mine) is_model.ordered other.run own_run.run in
        let say : ℕ → List ℕ = λ place. column others (value_at model.outs place) in
        let place : ℕ → ℕ = λ c. driven_place given m bridge body c in
        ap (map say) body.1.outs
        ∙ map-map say place from
        ∙ map-agree (λ c. say (place c)) (given_column hub own) from (λ i lt.
        let c = value_at from i in
        let there = Contains-get_or from i 0 lt in
        let port = gives-port given m bridge body c there in
        let s = (link_at wires c).given in
        let low : s < count = below given s (subst (λ j. j < length design.circuit.signals) (sym port.plain) port.signal) in
        column-before model (model_start model start) sees n others mine other own_run same (value_at model.outs (place c))
        ∙ does.driven-column given m bridge body c there
        ∙ front-column count rows s low)

    bridge-answers : GivesSaid bridge start n (map (taken_column hub start n own) to) (map (given_column hub own) from)
    bridge-answers =
        record {
          rows = mine;
          run = subst (λ (l : List (List ℕ)). AreRows model (model_start model start) l n mine) (sym in-columns) (does.model-run given m bridge body);
          gives = λ others other. bridge-gives others (subst (λ (l : List (List ℕ)). AreRows model (model_start model start) l n others) in-columns other);
        }

  -- ---- all machines

  answers : (m : ℕ) (body : Body) → IsBodyAt given m body → Answers body start n columns (taken_by m) (given_by m)
  answers m (Cut part) body =
      let follows = rows-follow design request can.design_is can.keeps given.held (no-fault given) start given.typed fed n own (reference-run given) m part body.1 in
      record { rows = follows.own; run = follows.run; gives = follows.gives }
  answers m (Memory part) body =
      let follows = rows-follow design request can.design_is can.keeps given.held (no-fault given) start given.typed fed n own (reference-run given) m part body.2 in
      record { rows = follows.own; run = follows.run; gives = follows.gives }
  answers m (Source place) body = source-gives m place body
  answers m Tray body =
      let tray = tray-at design request (is-routed given) m body.0 body.1 in
      ap (map (given_column hub own)) (none-left (channels_from wires m) (tray-gives-none wires m (value_at design.circuit.outs tray.port) tray.takes))
  answers m (Bridge bridge) body = bridge-answers m bridge body

  own-solves : Solves plan start token columns n (columns_of plan own)
  own-solves =
      record {
        count = height;
        each = λ m any lt.
            let machine = get_or plan.machines m any in
            let at = given.planned.machine m any lt in
            let ins = ap (λ channels. map (take n) (lists_of taken channels)) at.ins ∙ taken-lists m in
            let outs = ap (lists_of lists) at.outs ∙ given-lists m in
            subst (λ (l : List (List ℕ)). Answers machine.body start n columns l (lists_of lists machine.outs)) (sym ins)
            (subst (Answers machine.body start n columns (taken_by m)) (sym outs)
            (answers m machine.body at.body));
      }

  pub plan-solves : Solves plan start token columns n (columns_of plan rows)
  plan-solves = subst (Solves plan start token columns n) (sym (own-columns given)) own-solves

  -- ---- channels and outputs, by cycle

  -- what a channel's consumer takes is the column of the signal by which it is taken
  pub plan-list : (c : ℕ) → c < length wires → take n (get_or (streams start.cycle token plan.channels (columns_of plan rows)) c [])
      ≡ column rows (taken_as hub (link_at wires c).signal)
  plan-list c lt = ap (λ (l : List (List ℕ)). take n (get_or (streams start.cycle token plan.channels l) c [])) (own-columns given) ∙ stream-at c lt ∙ taken-column c lt

  -- the top's outputs that no bridge sees, and the stops
  abbrev pub kept_outs : List ℕ
  kept_outs = open_outs design.circuit (output_count design) request ++ drop (output_count design) design.circuit.outs

  -- what a tray takes is the column of its output in the circuit that the network computes
  plan-output : (k c : ℕ) → k < length kept_outs → c < length wires → (link_at wires c).signal ≡ value_at kept_outs k
      → take n (get_or (streams start.cycle token plan.channels (columns_of plan rows)) c []) ≡ column rows (value_at (plan_circuit design request models).outs k)
  plan-output k c low lt same = plan-list c lt ∙ ap (column rows) (ap (taken_as hub) same ∙ sym (get_or-map (taken_as hub) kept_outs k 0 0 low) ∙ ap (λ (l : List ℕ). value_at l k) (sym (plan-outs design request models can)))

  pub plan-output-value : (k c t : ℕ) → k < length kept_outs → c < length wires → (link_at wires c).signal ≡ value_at kept_outs k → t < n
      → value_at (get_or (streams start.cycle token plan.channels (columns_of plan rows)) c []) t ≡ value_at (row_at rows t) (value_at (plan_circuit design request models).outs k)
  plan-output-value k c t low lt same inside =
      sym (get_or-take n (get_or (streams start.cycle token plan.channels (columns_of plan rows)) c []) t 0 inside) ∙ ap (λ (l : List ℕ). value_at l t) (plan-output k c low lt same)
      ∙ get_or-map (λ (row : List ℕ). value_at row (value_at (plan_circuit design request models).outs k)) rows t [] 0 (omega (arith, inside, given.run.count))

  -- The tray of the output at a place among those that are left takes one channel, which carries the output.
  pub record IsTrayOf (k : ℕ) : Type 0 where
    pub channel : ℕ
    pub known : channel < length wires
    pub into : channels_to wires (first_kept_tray b + k) ≡ channel ∷ []
    pub signal : (link_at wires channel).signal ≡ value_at kept_outs k

  pub plan-tray : (k : ℕ) → k < length kept_outs → IsTrayOf k
  plan-tray k lt =
      let opened = open_outs design.circuit (output_count design) request in
      let total = outs-count design.circuit design.tree request in
      let m = first_kept_tray b + k in
      let tray = tray-at design request (is-routed given) m (omega arith) (omega (arith, lt, total, length-append opened (drop (output_count design) design.circuit.outs))) in
      let to = channels_to wires m in
      let one = tray-takes wires m (value_at design.circuit.outs tray.port) tray.takes (is-routed given).once in
      let c = value_at to 0 in
      let has = Contains-get_or to 0 0 (omega (arith, one)) in
      let at = outs-place design.circuit design.tree request tray.port tray.known tray.kept in
      let place : count_below (unseen b) tray.port ≡ k = omega (arith, tray.count) in
      record {
        channel = c;
        known = (links.taken-is wires m c has).known;
        into = one-number to one;
        signal = tray.takes.all (link_at wires c).signal (Contains-map (λ d. (link_at wires d).signal) to c has) ∙ sym at.is ∙ ap (value_at kept_outs) place;
      }
