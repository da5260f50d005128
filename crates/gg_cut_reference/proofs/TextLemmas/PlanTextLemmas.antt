-- The text of a plan is the text of the cut.
use Rattle.std.proofs.Common.{◌≡◌, ℕ, suc, ◌+◌, ◌<◌, List, [], ◌∷◌, ◌++◌, length, map, refl, sym, ap, ◌∙◌, subst, arith}
use Rattle.std.specs.Prelude.{flat_map, Contains, slice_index_or}
use Rattle.std.specs.List.{range_with_len}
use Rattle.std.proofs.lemmas.List.{get_or-map, length-map}
use Rattle.gg_bits.specs.Shape.{Shape, shape}
use Rattle.gg_flat.specs.Circuit.{signal_shapes}
use Rattle.gg_flat.specs.Line.{shape_at}
use Rattle.gg_flat_tree.specs.Tree.{path_at}
use Rattle.gg_flat.proofs.ListLemmas.{some-item}
use Rattle.gg_order.specs.Design.{Ordered}
use Rattle.gg_partfile.specs.declared.request.Request.{Request}
use Rattle.gg_cut_plan.specs.Bridges.{Models}
use Rattle.gg_cut_plan.specs.Channels.{capacity_of}
use Rattle.gg_cut_plan.specs.Direct.{is_piped, plan_wires}
use Rattle.gg_cut_plan.specs.Ports.{machine_end, plan_bridges}
use Rattle.gg_cut_plan.specs.Listed.{listed_of}
use Rattle.gg_cut_plan.specs.Plan.{IsChannel, IsPlan, machine_names, wire_at}
use Rattle.gg_cut_plan.specs.declared.listed.Listed.{Listed}
use Rattle.gg_cut_plan.specs.declared.plan.Channel.{Channel}
use Rattle.gg_cut_plan.specs.declared.plan.Machine.{Machine}
use Rattle.gg_cut_plan.specs.declared.plan.Plan.{Plan}
use Rattle.gg_cut_plan.specs.declared.wires.Wire.{Wire}
use Rattle.gg_cut_reference.proofs.FittingLemmas.NameLemmas.{names-count}
use Rattle.gg_cut_reference.specs.text.CheckText.{AreChannelNeeds, IsTextOfCut, channel_line, channel_name, channel_text, machine_line, machine_text}
use Rattle.gg_cut_reference.specs.inside.PlanText.{channel_names, line_of_channel, line_of_machine, plan_text}
use Rattle.gg_cut_reference.specs.inside.PlanText as plans
use Rattle.gg_cut_reference.proofs.TextLemmas.PlanLemmas.{channel-needs, no_machine}

-- lines of items, by their places
flat-range : {A : Type 0} (f : A → List ℕ) (g : ℕ → List ℕ) (xs : List A) (a : ℕ) → ((k : ℕ) (any : A) → k < length xs → f (slice_index_or xs k any) ≡ g (a + k))
    → flat_map f xs ≡ flat_map g (range_with_len a (length xs))
flat-range f g [] a h = refl
flat-range f g (x ∷ xs) a h =
    let head : f x ≡ g a = h 0 x (omega arith) ∙ ap g (let e : a + 0 ≡ a = omega arith in e) in
    let rest : flat_map f xs ≡ flat_map g (range_with_len (a + 1) (length xs)) =
    flat-range f g xs (a + 1) (λ k any lt. h (suc k) any (omega (arith, lt)) ∙ ap g (let e : a + suc k ≡ a + 1 + k = omega arith in e)) in
    ap (λ l. l ++ flat_map f xs) head ∙ ap (λ l. g a ++ l) rest

list-same : (xs ys : List (List ℕ)) → length xs ≡ length ys → ((k : ℕ) → k < length xs → path_at xs k ≡ path_at ys k) → xs ≡ ys
list-same [] [] e h = refl
list-same [] (y ∷ ys) e h = absurd (omega (arith, e))
list-same (x ∷ xs) [] e h = absurd (omega (arith, e))
list-same (x ∷ xs) (y ∷ ys) e h =
    let head : x ≡ y = h 0 (omega arith) in
    let rest : xs ≡ ys = list-same xs ys (omega (arith, e)) (λ k lt. h (suc k) (omega (arith, lt))) in cc

-- two functions that agree on the elements of a list make the same of it
map-on : (f g : ℕ → List ℕ) (xs : List ℕ) → ((d : ℕ) → Contains xs d → f d ≡ g d) → map f xs ≡ map g xs
map-on f g [] h = refl
map-on f g (x ∷ xs) h =
    let head : f x ≡ g x = h x (0, omega arith, refl) in
    let rest : map f xs ≡ map g xs = map-on f g xs (λ d has. h d (suc has.0, omega (arith, has.1), has.2)) in cc

module _ (design : Ordered) (request : Request) (models : Models) (default : ℕ) (plan : Plan) (is : IsPlan design request models default plan) where
  abbrev pub the_listed : Listed
  the_listed = listed_of design.tree request

  abbrev pub the_wires : List Wire
  the_wires = plan_wires design.circuit design.tree request

  names-all : length plan.machines ≡ length (machine_names design request the_listed)
  names-all = is.machine_total ∙ sym (names-count design request)

  names-are : plans.machine_names plan.machines ≡ machine_names design request the_listed
  names-are =
      let count = length-map plan.machines (λ (x : Machine). x.name) in
      list-same (plans.machine_names plan.machines) (machine_names design request the_listed) (count ∙ names-all)
      (λ k lt. let below : k < length plan.machines = omega (arith, lt, count) in get_or-map (λ (x : Machine). x.name) plan.machines k no_machine [] below ∙ (is.machine k no_machine below).name)

  abbrev pub the_needs : List (List ℕ)
  the_needs = map (λ (channel : Channel). channel.needs) plan.channels

  needs-at : (c : ℕ) (any : Channel) → c < length plan.channels → slice_index_or the_needs c [] ≡ (slice_index_or plan.channels c any).needs
  needs-at c any lt = get_or-map (λ (channel : Channel). channel.needs) plan.channels c any [] lt

  name-at : (c : ℕ) → c < length plan.channels → path_at (channel_names plan.channels) c ≡ channel_name design.circuit the_wires c
  name-at c lt =
      let any = some-item plan.channels c lt in
      get_or-map (λ (channel : Channel). channel.name) plan.channels c any [] lt ∙ (is.channel c any lt).name

  machine-line-is : (m : ℕ) (any : Machine) → m < length plan.machines → line_of_machine (slice_index_or plan.machines m any) ≡ machine_text design request the_listed m
  machine-line-is m any lt =
      let machine = is.machine m any lt in
      ap (λ n. machine_line n (slice_index_or plan.machines m any).host) machine.name
      ∙ ap (λ h. machine_line (path_at (machine_names design request the_listed) m) h) machine.host

  channel-line-is : (c : ℕ) (any : Channel) → c < length plan.channels
      → line_of_channel (plans.machine_names plan.machines) (channel_names plan.channels) (slice_index_or plan.channels c any) ≡ channel_text design request default the_listed the_wires c (slice_index_or the_needs c [])
  channel-line-is c any lt =
      let channel = slice_index_or plan.channels c any in
      let w = wire_at the_wires c in
      let at : IsChannel design (capacity_of request.capacity default) (is_piped design.circuit request) plan.machines w channel = is.channel c any lt in
      let needs = channel-needs design request models default plan is c any (omega (arith, lt, is.channel_total)) in
      let mine = plans.machine_names plan.machines in
      let names = machine_names design request the_listed in
      let name = channel_name design.circuit the_wires c in
      let needed : map (path_at (channel_names plan.channels)) channel.needs ≡ map (channel_name design.circuit the_wires) (slice_index_or the_needs c []) =
      map-on (path_at (channel_names plan.channels)) (channel_name design.circuit the_wires) channel.needs (λ d has. let known = ((needs.each d).0 has).known in name-at d (omega (arith, known, is.channel_total)))
      ∙ ap (map (channel_name design.circuit the_wires)) (sym (needs-at c any lt)) in
      ap (λ x. channel_line x (path_at mine channel.producer) (path_at mine channel.consumer) (shape channel.ty) channel.capacity channel.pipe (map (path_at (channel_names plan.channels)) channel.needs)) at.name
      ∙ ap (λ x. channel_line name (path_at mine x) (path_at mine channel.consumer) (shape channel.ty) channel.capacity channel.pipe (map (path_at (channel_names plan.channels)) channel.needs)) at.producer
      ∙ ap (λ x. channel_line name (path_at mine w.producer) (path_at mine x) (shape channel.ty) channel.capacity channel.pipe (map (path_at (channel_names plan.channels)) channel.needs)) at.consumer
      ∙ ap (λ (x : List (List ℕ)). channel_line name (path_at x w.producer) (path_at x w.consumer) (shape channel.ty) channel.capacity channel.pipe (map (path_at (channel_names plan.channels)) channel.needs)) names-are
      ∙ ap (λ (x : Shape). channel_line name (path_at names w.producer) (path_at names w.consumer) x channel.capacity channel.pipe (map (path_at (channel_names plan.channels)) channel.needs)) at.type
      ∙ ap (λ x. channel_line name (path_at names w.producer) (path_at names w.consumer) (shape_at (signal_shapes design.circuit) w.signal) x channel.pipe (map (path_at (channel_names plan.channels)) channel.needs)) at.bound
      ∙ ap (λ x. channel_line name (path_at names w.producer) (path_at names w.consumer) (shape_at (signal_shapes design.circuit) w.signal) (capacity_of request.capacity default name) x (map (path_at (channel_names plan.channels)) channel.needs)) at.pipe
      ∙ ap (λ x. channel_line name (path_at names w.producer) (path_at names w.consumer) (shape_at (signal_shapes design.circuit) w.signal) (capacity_of request.capacity default name) (is_piped design.circuit request w.signal) x) needed

  pub plan-text-is : IsTextOfCut design request default (plan_text plan)
  plan-text-is = record {
    needs = the_needs;
    count = length-map plan.channels (λ (channel : Channel). channel.needs) ∙ is.channel_total;
    are = λ c lt.
        let below : c < length plan.channels = omega (arith, lt, is.channel_total) in
        let any = some-item plan.channels c below in
        let needs = channel-needs design request models default plan is c any lt in
        let e = needs-at c any below in
        subst (λ l. AreChannelNeeds design.circuit the_listed the_wires c l) (sym e) needs;
    is =
        ap (λ l. l ++ flat_map (line_of_channel (plans.machine_names plan.machines) (channel_names plan.channels)) plan.channels)
        (flat-range line_of_machine (machine_text design request the_listed) plan.machines 0 (λ k any lt. machine-line-is k any lt ∙ ap (machine_text design request the_listed) (let e : k ≡ 0 + k = omega arith in e))
        ∙ ap (λ n. flat_map (machine_text design request the_listed) (range_with_len 0 n)) is.machine_total)
        ∙ ap (λ l. flat_map (machine_text design request the_listed) (range_with_len 0 (machine_end (plan_bridges design.circuit design.tree request))) ++ l)
        (flat-range (line_of_channel (plans.machine_names plan.machines) (channel_names plan.channels)) (λ c. channel_text design request default the_listed the_wires c (slice_index_or the_needs c [])) plan.channels 0
        (λ k any lt. channel-line-is k any lt ∙ ap (λ c. channel_text design request default the_listed the_wires c (slice_index_or the_needs c [])) (let e : k ≡ 0 + k = omega arith in e))
        ∙ ap (λ n. flat_map (λ c. channel_text design request default the_listed the_wires c (slice_index_or the_needs c [])) (range_with_len 0 n)) is.channel_total);
  }
