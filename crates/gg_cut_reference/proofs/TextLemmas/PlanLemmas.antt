-- The needs of a plan's channels are their needs in the circuit.
use Rattle.std.proofs.Common.{◌≡◌, ℕ, ◌<◌, ◌≤◌, List, [], length, map, get_or, ◌==◌, eq-eqb, true-eqb, refl, sym, ◌∙◌, ap, subst, inl, inr, ◌⊎◌, arith, Option}
use Rattle.std.specs.Prelude.{◌↔◌, Contains, slice_index_or}
use Rattle.std.specs.List.{range_with_len}
use Rattle.std.proofs.lemmas.Bool.{cases_lt}
use Rattle.std.proofs.lemmas.List.{get_or-map, get_or_default, get_or_past, length-map}
use Rattle.gg_flat.specs.declared.piece.Driver.TheVariants.{Input}
use Rattle.gg_flat.specs.declared.piece.Driver.{Driver}
use Rattle.gg_flat.specs.Line.{value_at}
use Rattle.gg_flat.specs.Circuit.{FlatCircuit, driver_at}
use Rattle.gg_flat.specs.Reads.{IsPath}
use Rattle.gg_flat.proofs.ListLemmas.{Contains-map, Contains-filter, filter-cases, in-range, range-below, once-apart}
use Rattle.gg_order.specs.Design.{Ordered}
use Rattle.gg_part.specs.Part.{IsPart, IsFrom}
use Rattle.gg_part.specs.declared.part.Part.{Part}
use Rattle.gg_partfile.specs.declared.request.Request.{Request}
use Rattle.gg_cut_plan.specs.Machines.{first_source}
use Rattle.gg_cut_plan.specs.Bridges.{Models}
use Rattle.gg_cut_plan.specs.Channels.{capacity_of}
use Rattle.gg_cut_plan.specs.Direct.{Hub, is_piped, plan_hub, plan_wires}
use Rattle.gg_cut_plan.specs.Ports.{machine_end, plan_bridges}
use Rattle.gg_cut_plan.specs.Listed.{listed_of}
use Rattle.gg_cut_plan.specs.Plan.{AreNeedsOf, IsBody, IsChannel, IsCutPart, IsMachine, IsNeed, IsPlan, NeedsIn, channels_from, channels_to, givens_of, signals_of, wire_at}
use Rattle.gg_cut_plan.specs.declared.listed.Listed.{Listed}
use Rattle.gg_cut_plan.specs.declared.plan.Body.{Body}
use Rattle.gg_cut_plan.specs.declared.plan.Body.TheVariants.{Cut, Memory, Source, Tray, Bridge}
use Rattle.gg_cut_plan.specs.declared.plan.Channel.{Channel}
use Rattle.gg_cut_plan.specs.declared.plan.Machine.{Machine}
use Rattle.gg_cut_plan.specs.declared.plan.Plan.{Plan}
use Rattle.gg_cut_plan.specs.declared.wires.Wire.{Wire}
use Rattle.gg_cut_reference.specs.text.CheckText.{AreChannelNeeds, IsPathInside, NeedsChannel}
use Rattle.gg_cut_reference.proofs.TextLemmas.NeedLemmas.{Gets, path-back, path-out}

-- ---- channels by machine

module _ (wires : List Wire) (m : ℕ) where
  -- a channel that the machine takes
  record IsTaken (d : ℕ) : Type 0 where
    pub known : d < length wires
    pub consumer : (wire_at wires d).consumer ≡ m

  taken : (d : ℕ) → Contains (channels_to wires m) d → IsTaken d
  taken d h =
      let p = filter-cases (λ c. (wire_at wires c).consumer == m) (range_with_len 0 (length wires)) d h in
      record { known = range-below (length wires) d p.among; consumer = true-eqb (wire_at wires d).consumer m (sym p.passes) }

  takes : (d : ℕ) → d < length wires → (wire_at wires d).consumer ≡ m → Contains (channels_to wires m) d
  takes d lt e = Contains-filter (λ c. (wire_at wires c).consumer == m) (range_with_len 0 (length wires)) d (in-range (length wires) d lt) (eq-eqb (wire_at wires d).consumer m e)

  gives : (c : ℕ) → c < length wires → (wire_at wires c).producer ≡ m → Contains (channels_from wires m) c
  gives c lt e = Contains-filter (λ k. (wire_at wires k).producer == m) (range_with_len 0 (length wires)) c (in-range (length wires) c lt) (eq-eqb (wire_at wires c).producer m e)

-- y is what f makes of an element of the list
record IsMadeOf (f : ℕ → ℕ) (xs : List ℕ) (y : ℕ) : Type 0 where
  pub place : ℕ
  pub within : place < length xs
  pub is : f (value_at xs place) ≡ y

made-of : (f : ℕ → ℕ) (xs : List ℕ) (y : ℕ) → Contains (map f xs) y → IsMadeOf f xs y
made-of f xs y (k, lt, is) =
    let within : k < length xs = omega (arith, lt, length-map xs f) in
    record { place = k; within = within; is = sym (get_or-map f xs k 0 y within) ∙ is }

-- ---- a machine's piece

-- the in-signals of a piece are what it gets from outside
piece-gets : (whole piece : FlatCircuit) (globals held memories taken : List ℕ) (clocks : List (Option ℕ)) → IsPart whole piece globals held memories clocks → map (value_at globals) piece.ins ≡ taken → Gets piece globals taken
piece-gets whole piece globals held memories taken clocks is ins = record {
  not_taken = λ a place lt free e.
      let from = subst (λ (d : Driver). IsFrom piece.ins globals held memories a (driver_at whole (value_at globals a)) d) e (is.drivers a lt) in
      free (subst (λ l. Contains l (value_at globals a)) ins (Contains-map (value_at globals) piece.ins a (place, from.0, get_or_default piece.ins place a 0 from.0 ∙ from.1)));
  input = λ a lt has.
      let found = made-of (value_at globals) piece.ins (value_at globals a) (subst (λ l. Contains l (value_at globals a)) (sym ins) has) in
      let at = is.ins found.place found.within in
      (found.place, subst (λ x. driver_at piece x ≡ Input found.place) (once-apart globals 0 is.once (value_at piece.ins found.place) a at.0 lt found.is) at.1);
}

-- a machine's part takes and gives signals by these channels
record IsPartOn (design : Ordered) (wires : List Wire) (m : ℕ) (part : Part) : Type 0 where
  pub is : IsPart design.circuit part.piece part.globals part.held part.memories part.clocks
  pub ins : map (value_at part.globals) part.piece.ins ≡ signals_of wires (channels_to wires m)
  pub outs : map (value_at part.globals) part.piece.outs ≡ givens_of wires (channels_from wires m)

part-on : (design : Ordered) (request : Request) (m : ℕ) (part : Part) → IsCutPart design (listed_of design.tree request) (plan_hub design.circuit design.tree request) m part → IsPartOn design (plan_wires design.circuit design.tree request) m part
part-on design request m part cut = record { is = cut.is; ins = cut.ins; outs = cut.outs }

module _ (design : Ordered) (listed : Listed) (wires : List Wire) (m : ℕ) (part : Part) (cut : IsPartOn design wires m part) where
  -- the in-signal at a place is the signal of the channel at that place
  in-signal : (place : ℕ) → place < length part.piece.ins → value_at part.globals (value_at part.piece.ins place) ≡ (wire_at wires (value_at (channels_to wires m) place)).signal
  in-signal place lt =
      let count : length part.piece.ins ≡ length (channels_to wires m) =
      sym (length-map part.piece.ins (value_at part.globals)) ∙ ap (λ (l : List ℕ). length l) cut.ins ∙ length-map (channels_to wires m) (λ c. (wire_at wires c).signal) in
      sym (get_or-map (value_at part.globals) part.piece.ins place 0 0 lt)
      ∙ ap (λ (l : List ℕ). get_or l place 0) cut.ins
      ∙ get_or-map (λ c. (wire_at wires c).signal) (channels_to wires m) place 0 0 (omega (arith, lt, count))

  in-count : length part.piece.ins ≡ length (channels_to wires m)
  in-count = sym (length-map part.piece.ins (value_at part.globals)) ∙ ap (λ (l : List ℕ). length l) cut.ins ∙ length-map (channels_to wires m) (λ c. (wire_at wires c).signal)

  -- the number in the part of signal s of the whole
  record IsOut (s : ℕ) : Type 0 where
    pub out : ℕ
    pub within : out < length part.globals
    pub same : value_at part.globals out ≡ s

  out-of : (c : ℕ) → c < length wires → (wire_at wires c).producer ≡ m → IsOut (wire_at wires c).given
  out-of c lt e =
      let has = Contains-map (λ k. (wire_at wires k).given) (channels_from wires m) c (gives wires m c lt e) in
      let found = made-of (value_at part.globals) part.piece.outs (wire_at wires c).given (subst (λ l. Contains l (wire_at wires c).given) (sym cut.outs) has) in
      record { out = value_at part.piece.outs found.place; within = cut.is.outs found.place found.within; same = found.is }

  gets : Gets part.piece part.globals (signals_of wires (channels_to wires m))
  gets = piece-gets design.circuit part.piece part.globals part.held part.memories (signals_of wires (channels_to wires m)) part.clocks cut.is cut.ins

  -- a need of the part is one in the circuit
  need-out : (channels : List ℕ) (c d out : ℕ) → channels ≡ channels_to wires m → m < first_source listed → (wire_at wires c).producer ≡ m → value_at part.globals out ≡ (wire_at wires c).given
      → IsNeed part channels out d → NeedsChannel design.circuit listed wires c d
  need-out channels c d out same made e is need =
      let at : value_at (channels_to wires m) need.place ≡ d = ap (λ (l : List ℕ). value_at l need.place) (sym same) ∙ need.is in
      let within : need.place < length (channels_to wires m) = omega (arith, need.known, in-count) in
      let has : Contains (channels_to wires m) d = (need.place, within, get_or_default (channels_to wires m) need.place d 0 within ∙ at) in
      let t = taken wires m d has in
      let inside = path-out design.circuit part.piece part.globals part.held part.memories (signals_of wires (channels_to wires m)) part.clocks cut.is gets out (value_at part.piece.ins need.place) need.reached.path need.reached.reads in
      record {
        made = subst (λ x. x < first_source listed) (sym e) made;
        known = t.known;
        taken = t.consumer ∙ sym e;
        path = map (value_at part.globals) need.reached.path;
        reads =
            subst (λ k. IsPathInside design.circuit (signals_of wires (channels_to wires k)) (wire_at wires c).given (map (value_at part.globals) need.reached.path) (wire_at wires d).signal) (sym e)
            (subst (λ x. IsPathInside design.circuit (signals_of wires (channels_to wires m)) (wire_at wires c).given (map (value_at part.globals) need.reached.path) x) (in-signal need.place need.known ∙ ap (λ x. (wire_at wires x).signal) at)
            (subst (λ x. IsPathInside design.circuit (signals_of wires (channels_to wires m)) x (map (value_at part.globals) need.reached.path) (value_at part.globals (value_at part.piece.ins need.place))) is inside));
      }

  -- a need in the circuit is one of the part
  need-back : (channels : List ℕ) (c d out : ℕ) → channels ≡ channels_to wires m → (wire_at wires c).producer ≡ m → out < length part.globals → value_at part.globals out ≡ (wire_at wires c).given
      → NeedsChannel design.circuit listed wires c d → IsNeed part channels out d
  need-back channels c d out same e lt is needs =
      let has = takes wires m d needs.known (needs.taken ∙ e) in
      let within : has.0 < length part.piece.ins = omega (arith, has.1, in-count) in
      let at : value_at (channels_to wires m) has.0 ≡ d = get_or_default (channels_to wires m) has.0 0 d has.1 ∙ has.2 in
      let reads = subst (λ k. IsPathInside design.circuit (signals_of wires (channels_to wires k)) (wire_at wires c).given needs.path (wire_at wires d).signal) e needs.reads in
      let back = path-back design.circuit part.piece part.globals part.held part.memories (signals_of wires (channels_to wires m)) part.clocks cut.is gets out (wire_at wires c).given (wire_at wires d).signal needs.path lt is reads in
      let ends : value_at part.globals back.place ≡ value_at part.globals (value_at part.piece.ins has.0) =
      back.same ∙ ap (λ x. (wire_at wires x).signal) (sym at) ∙ sym (in-signal has.0 within) in
      let place : back.place ≡ value_at part.piece.ins has.0 = once-apart part.globals 0 cut.is.once back.place (value_at part.piece.ins has.0) back.within (cut.is.ins has.0 within).0 ends in
      record {
        place = has.0;
        known = within;
        is = ap (λ (l : List ℕ). value_at l has.0) same ∙ at;
        reached = record { path = back.path; reads = subst (λ x. IsPath part.piece out back.path x) place back.reads };
      }

  part-needs : (channels : List ℕ) (c : ℕ) (needs : List ℕ) → channels ≡ channels_to wires m → m < first_source listed → c < length wires → (wire_at wires c).producer ≡ m
      → ((out : ℕ) → out < length part.globals → value_at part.globals out ≡ (wire_at wires c).given → AreNeedsOf part channels out needs)
      → (d : ℕ) → Contains needs d ↔ NeedsChannel design.circuit listed wires c d
  part-needs channels c needs same made lt e are d =
      let o = out-of c lt e in
      let each = are o.out o.within o.same d in
      (λ h. need-out channels c d o.out same made e o.same (each.0 h), λ h. each.1 (need-back channels c d o.out same e o.within o.same h))

-- ---- a channel of the plan

none-needed : (circuit : FlatCircuit) (listed : Listed) (wires : List Wire) (c : ℕ) (needs : List ℕ) → needs ≡ [] → first_source listed ≤ (wire_at wires c).producer
    → (d : ℕ) → Contains needs d ↔ NeedsChannel circuit listed wires c d
none-needed circuit listed wires c needs none past d =
    (λ h. let e = ap (λ (l : List ℕ). length l) none in absurd (omega (arith, h.1, e)), λ h. absurd (omega (arith, h.made, past)))

module _ (design : Ordered) (request : Request) (models : Models) where
  abbrev the_listed : Listed
  the_listed = listed_of design.tree request

  abbrev the_hub : Hub
  the_hub = plan_hub design.circuit design.tree request

  abbrev the_wires : List Wire
  the_wires = plan_wires design.circuit design.tree request

  abbrev giver : ℕ → ℕ
  giver c = (wire_at the_wires c).producer

  body-needs : (body : Body) (channels : List ℕ) (c : ℕ) (needs : List ℕ) → IsBody design request models the_listed the_hub (giver c) body → channels ≡ channels_to the_wires (giver c) → c < length the_wires
      → NeedsIn body channels (wire_at the_wires c).given needs → (d : ℕ) → Contains needs d ↔ NeedsChannel design.circuit the_listed the_wires c d
  body-needs (Cut part) channels c needs is same lt are =
      let low : giver c < first_source the_listed = let first = is.0 in omega (arith, first) in
      part-needs design the_listed the_wires (giver c) part (part-on design request (giver c) part is.1) channels c needs same low lt refl are
  body-needs (Memory part) channels c needs is same lt are = part-needs design the_listed the_wires (giver c) part (part-on design request (giver c) part is.2) channels c needs same is.1 lt refl are
  body-needs (Source place) channels c needs is same lt are = none-needed design.circuit the_listed the_wires c needs are (let at = is.1 in omega (arith, at))
  body-needs Tray channels c needs is same lt are = none-needed design.circuit the_listed the_wires c needs are (let past = is.0 in omega (arith, past))
  body-needs (Bridge bridge) channels c needs is same lt are = none-needed design.circuit the_listed the_wires c needs are (let past = is.0 in omega (arith, past))

abbrev pub no_machine : Machine
no_machine = record { name = []; host = 0; body = Tray; ins = []; outs = [] }

needs-by : (design : Ordered) (request : Request) (models : Models) (plan : Plan) (c : ℕ) (needs : List ℕ) → length plan.machines ≡ machine_end (plan_bridges design.circuit design.tree request)
    → ((m : ℕ) → m < length plan.machines → IsMachine design request models (listed_of design.tree request) (plan_hub design.circuit design.tree request) m (slice_index_or plan.machines m no_machine))
    → c < length (plan_wires design.circuit design.tree request)
    → NeedsIn (slice_index_or plan.machines (wire_at (plan_wires design.circuit design.tree request) c).producer no_machine).body (slice_index_or plan.machines (wire_at (plan_wires design.circuit design.tree request) c).producer no_machine).ins (wire_at (plan_wires design.circuit design.tree request) c).given needs
    → ((wire_at (plan_wires design.circuit design.tree request) c).producer < length plan.machines) ⊎ (length plan.machines ≤ (wire_at (plan_wires design.circuit design.tree request) c).producer)
    → (d : ℕ) → Contains needs d ↔ NeedsChannel design.circuit (listed_of design.tree request) (plan_wires design.circuit design.tree request) c d
needs-by design request models plan c needs total machines lt are (inl below) =
    let m = (wire_at (plan_wires design.circuit design.tree request) c).producer in
    let machine = machines m below in
    body-needs design request models (slice_index_or plan.machines m no_machine).body (slice_index_or plan.machines m no_machine).ins c needs machine.body machine.ins lt are
needs-by design request models plan c needs total machines lt are (inr past) =
    let wires = plan_wires design.circuit design.tree request in
    none-needed design.circuit (listed_of design.tree request) wires c needs
    (subst (λ (x : Machine). NeedsIn x.body x.ins (wire_at wires c).given needs) (get_or_past plan.machines (wire_at wires c).producer no_machine past) are)
    (omega (arith, past, total))

-- the needs of a channel of the plan are its needs in the circuit
pub channel-needs : (design : Ordered) (request : Request) (models : Models) (default : ℕ) (plan : Plan) → IsPlan design request models default plan → (c : ℕ) (any : Channel)
    → c < length (plan_wires design.circuit design.tree request)
    → AreChannelNeeds design.circuit (listed_of design.tree request) (plan_wires design.circuit design.tree request) c (slice_index_or plan.channels c any).needs
channel-needs design request models default plan is c any lt =
    let wires = plan_wires design.circuit design.tree request in
    let channel : IsChannel design (capacity_of request.capacity default) (is_piped design.circuit request) plan.machines (wire_at wires c) (slice_index_or plan.channels c any) = is.channel c any (omega (arith, lt, is.channel_total)) in
    let m = (wire_at wires c).producer in
    record {
      ascending = channel.ascending;
      each = needs-by design request models plan c (slice_index_or plan.channels c any).needs is.machine_total (λ k lt. is.machine k no_machine lt) lt (channel.needs no_machine) (cases_lt m (length plan.machines));
    }
