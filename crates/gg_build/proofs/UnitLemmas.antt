-- Units with one piece as threads of one host.
use Rattle.std.proofs.Common.{◌≡◌, ℕ, ◌+◌, ◌<◌, List, [], ◌∷◌, ◌++◌, Some, length, map, take, get_or, refl, sym, ap, ap₂, subst, ◌∙◌, below_more, arith}
use Rattle.std.specs.Prelude.{All, Contains, replicate}
use Rattle.std.proofs.lemmas.Grind.{same_number_lists}
use Rattle.std.proofs.lemmas.List.{get_or-map, get_or_default, get_or_push, get_or_append_left, length-append, length-map, length-replicate, map_more}
use Rattle.std.proofs.lemmas.List.FromFn.{get_or-map-range_with_len, length-map-range_with_len}
use Rattle.gg_bits.specs.Shape.{shape}
use Rattle.gg_flat.specs.declared.piece.Driver.{Driver}
use Rattle.gg_flat.specs.declared.piece.Driver.TheVariants.{Input, Held, MemoryWord, ReadRegister, Computed}
use Rattle.gg_flat.specs.declared.memory.Memory as memories
use Rattle.gg_flat.specs.declared.piece.Register.{Register}
use Rattle.gg_flat.specs.Circuit.{FlatCircuit, driver_at}
use Rattle.gg_flat.specs.Clock.{Ratio}
use Rattle.gg_flat.specs.Line.{AreTyped, value_at}
use Rattle.gg_flat.specs.Memory.{AreBanks}
use Rattle.gg_flat.specs.Run.{Start}
use Rattle.gg_flat.specs.State.{IsState, State}
use Rattle.gg_flat.specs.Streams.{state_in}
use Rattle.gg_flat.specs.WellFormed.{IsWellFormed, MayDrive}
use Rattle.gg_cut_plan.specs.Alike.{IsAlike, IsLike}
use Rattle.gg_cut_plan.specs.declared.plan.Body.{Body}
use Rattle.gg_cut_plan.specs.declared.plan.Body.TheVariants.{Cut, Memory, Source, Tray, Bridge}
use Rattle.gg_cut_plan.specs.declared.plan.Machine as planned
use Rattle.gg_order.specs.needs.Needs.{AreNeeds, AreNeedsOfOuts}
use Rattle.gg_part.specs.declared.part.Part.{Part}
use Rattle.gg_program.specs.Programmed.{Programmed}
use Rattle.gg_node.specs.Machine.{Machine, needs_at, no_machine}
use Rattle.gg_fame5.specs.inside.Fork.{forked, chosen_outs, chosen_needs}
use Rattle.gg_fame5.specs.Machine.{started_unit}
use Rattle.gg_fame5.specs.inside.Shared.{started_machines}
use Rattle.gg_build.specs.plan.Built.{IsUnitOf, nameless}
use Rattle.gg_build.proofs.PlanLemmas.AlikeLemmas.{needs-alike}
use Rattle.gg_build.specs.declared.begin.Begin.{Begin}
use Rattle.gg_build.specs.inside.Begin.{starts_of}
use Rattle.gg_build.specs.inside.Hosts.{ArePicked, ArePickedFor, ArePlaced, AreUnits, IsUnitBody, RunUnits, CanAllBegin, CanBegin, body_at, outs_at, ratios_for, states_for}
use Rattle.gg_build.specs.inside.Wires.{IsNoted}

-- ---- the places of out-signals

module _ (piece : FlatCircuit) (places : List ℕ) (formed : IsWellFormed piece) (noted : IsNoted piece.outs (replicate (length piece.signals) 0) places) where
  pub outs-known : (outs : List ℕ) → ((s : ℕ) → Contains outs s → Contains piece.outs s) → All (λ s. s < length places) outs
  outs-known outs among = λ i d lt.
      let has = among (get_or outs i d) (i, lt, get_or_default outs i (get_or outs i d) d lt) in
      let low : get_or outs i d < length piece.signals = subst (λ s. s < length piece.signals) (get_or_default piece.outs has.0 0 (get_or outs i d) has.1 ∙ has.2) (formed.outs has.0 has.1) in
      let zero : ℕ = 0 in
      omega (arith, low, noted.count, length-replicate (length piece.signals) zero)

  pub outs-picked : (outs chosen : List ℕ) → ((s : ℕ) → Contains outs s → Contains piece.outs s) → chosen ≡ map (value_at places) outs → ArePicked piece.outs outs chosen
  outs-picked outs chosen among is =
      subst (ArePicked piece.outs outs) (sym is)
      (record {
        known = λ i d lt.
            let inside : i < length outs = omega (arith, lt, length-map outs (value_at places)) in
            let low = (noted.placed (value_at outs i) (among (value_at outs i) (i, inside, get_or_default outs i (value_at outs i) 0 inside))).known in
            subst (λ p. p < length piece.outs) (sym (get_or-map (value_at places) outs i 0 d inside)) low;
        is = same_number_lists (map (value_at piece.outs) (map (value_at places) outs)) outs count (λ k lt.
            let inside : k < length outs = omega (arith, lt, count) in
            get_or-map (value_at piece.outs) (map (value_at places) outs) k 0 0 (omega (arith, inside, length-map outs (value_at places)))
            ∙ ap (value_at piece.outs) (get_or-map (value_at places) outs k 0 0 inside)
            ∙ (noted.placed (value_at outs k) (among (value_at outs k) (k, inside, get_or_default outs k (value_at outs k) 0 inside))).is);
      })
    where
      count : length (map (value_at piece.outs) (map (value_at places) outs)) ≡ length outs
      count = length-map (map (value_at places) outs) (value_at piece.outs) ∙ length-map outs (value_at places)

-- a unit like the piece gives only out-signals of the piece
pub like-outs : (piece : FlatCircuit) (body : Body) (part : Part) → body ≡ Cut part → IsLike piece body → (s : ℕ) → Contains part.piece.outs s → Contains piece.outs s
like-outs piece body part is like s has = ((subst (IsLike piece) is like).outs s).1 has

-- picked out-signals are among all
pub picked-known : (all outs : List ℕ) (body : Body) → ArePickedFor all body outs → All (λ place. place < length all) outs
picked-known all outs (Cut part) picked = picked.known
picked-known all outs (Memory part) picked = absurd picked
picked-known all outs (Source place) picked = absurd picked
picked-known all outs Tray picked = absurd picked
picked-known all outs (Bridge bridge) picked = absurd picked

pub outs-within : (all : List ℕ) (machines : List planned.Machine) (group : List ℕ) (outs : List (List ℕ)) → ArePlaced all machines group (length group) outs → All (All (λ place. place < length all)) outs
outs-within all machines group outs placed = λ t d lt.
    let low : t < length group = omega (arith, lt, placed.total) in
    subst (All (λ place. place < length all)) (get_or_default outs t [] d lt) (picked-known all (get_or outs t []) (body_at machines (value_at group t)) (placed.each t low))

-- what one of these machines is
pub body-of : (machines : List planned.Machine) (m : ℕ) (own : planned.Machine) → m < length machines → own ≡ get_or machines m own → body_at machines m ≡ own.body
body-of machines m own lt is = ap (λ (o : planned.Machine). o.body) (get_or_default machines m nameless own lt ∙ sym is)

-- how many channels one of these machines gives
pub outs-of : (machines : List planned.Machine) (m : ℕ) (own : planned.Machine) → m < length machines → own ≡ get_or machines m own → outs_at machines m ≡ length own.outs
outs-of machines m own lt is = ap (λ (o : planned.Machine). length o.outs) (get_or_default machines m nameless own lt ∙ sym is)

-- one thread more
pub placed-more : (all : List ℕ) (machines : List planned.Machine) (group : List ℕ) (count : ℕ) (old new : List (List ℕ)) (outs : List ℕ) → new ≡ old ++ outs ∷ [] → ArePlaced all machines group count old → ArePickedFor all (body_at machines (value_at group count)) outs → ArePlaced all machines group (count + 1) new
placed-more all machines group count old new outs is was one =
    subst (ArePlaced all machines group (count + 1)) (sym is)
    (record {
      total = length-append old (outs ∷ []) ∙ ap (λ k. k + 1) was.total;
      each = below_more (λ t. ArePickedFor all (body_at machines (value_at group t)) (get_or (old ++ outs ∷ []) t [])) count
          (λ t lt. subst (ArePickedFor all (body_at machines (value_at group t))) (sym (get_or_append_left old (outs ∷ []) [] t (omega (arith, lt, was.total)))) (was.each t lt))
          (subst (ArePickedFor all (body_at machines (value_at group count))) (sym (get_or_push old outs [] count was.total)) one);
    })

-- ---- a thread

-- a driver doesn't name outs
may-drive : (circuit : FlatCircuit) (outs : List ℕ) (s : ℕ) (driver : Driver) → MayDrive circuit s driver → MayDrive (record circuit { outs = outs }) s driver
may-drive circuit outs s (Input place) is = is
may-drive circuit outs s (Held register) is = is
may-drive circuit outs s (MemoryWord memory reader addr en) is = is
may-drive circuit outs s (ReadRegister memory reader) is = is
may-drive circuit outs s (Computed line) is = is

module _ (program : Programmed) (part : Part) (outs : List ℕ) (formed : IsWellFormed program.circuit) (needed : AreNeedsOfOuts program.circuit program.needs) (alike : IsAlike program.circuit part.piece) (picked : ArePicked program.circuit.outs part.piece.outs outs) where
  abbrev own : FlatCircuit
  own = record program.circuit { outs = chosen_outs program.circuit.outs (Some outs) }

  count : length outs ≡ length part.piece.outs
  count = sym (length-map outs (value_at program.circuit.outs)) ∙ ap length picked.is

  out-low : (o : ℕ) → o < length outs → value_at outs o < length program.circuit.outs
  out-low o lt = picked.known o 0 lt

  out-at : (o : ℕ) → o < length outs → value_at program.circuit.outs (value_at outs o) ≡ value_at part.piece.outs o
  out-at o lt = sym (get_or-map (value_at program.circuit.outs) outs o 0 0 lt) ∙ ap (λ (l : List ℕ). value_at l o) picked.is

  own-formed : IsWellFormed own
  own-formed =
      record {
        named = formed.named;
        distinct = formed.distinct;
        drivers = λ s lt. may-drive program.circuit (chosen_outs program.circuit.outs (Some outs)) s (driver_at program.circuit s) (formed.drivers s lt);
        ins = formed.ins;
        outs = λ o lt.
            let low : o < length outs = omega (arith, lt, length-map outs (value_at program.circuit.outs)) in
            subst (λ s. s < length program.circuit.signals) (sym (get_or-map (value_at program.circuit.outs) outs o 0 0 low)) (formed.outs (value_at outs o) (out-low o low));
        registers = formed.registers;
        memories = formed.memories;
        reads = formed.reads;
        register_clocks = formed.register_clocks;
        memory_clocks = formed.memory_clocks;
      }

  own-alike : IsAlike own part.piece
  own-alike =
      record {
        signals = alike.signals;
        clocks = alike.clocks;
        registers = alike.registers;
        memories = alike.memories;
        ins = alike.ins;
        outs = λ s. (subst (λ (l : List ℕ). Contains l s) picked.is, subst (λ (l : List ℕ). Contains l s) (sym picked.is));
      }

  own-needs : AreNeedsOfOuts part.piece (chosen_needs program.needs (Some outs))
  own-needs =
      record {
        count = length-map outs (needs_at program.needs) ∙ count;
        each = λ o lt.
            let low : o < length outs = omega (arith, lt, count) in
            subst (AreNeeds part.piece (value_at part.piece.outs o)) (sym (get_or-map (needs_at program.needs) outs o 0 [] low))
            (subst (λ s. AreNeeds part.piece s (needs_at program.needs (value_at outs o))) (out-at o low)
            (needs-alike program.circuit part.piece alike (value_at program.circuit.outs (value_at outs o)) (needs_at program.needs (value_at outs o)) (needed.each (value_at outs o) (out-low o low))));
      }

  pub forked-unit : (own : Start) → IsUnitOf own part (started_unit (forked program (Some outs)) own.ratios own.state own.cycle)
  forked-unit start =
      record {
        circuit = own;
        needs = chosen_needs program.needs (Some outs);
        formed = own-formed;
        alike = own-alike;
        outs = picked.is;
        exact = own-needs;
        is = refl;
      }

forked-body : (starts : Body → Start) (program : Programmed) (body : Body) (outs : List ℕ) → IsWellFormed program.circuit → AreNeedsOfOuts program.circuit program.needs → IsLike program.circuit body → ArePickedFor program.circuit.outs body outs
    → IsUnitBody starts body (started_unit (forked program (Some outs)) (starts body).ratios (starts body).state (starts body).cycle)
forked-body starts program (Cut part) outs formed needed like picked = forked-unit program part outs formed needed like picked (starts (Cut part))
forked-body starts program (Memory part) outs formed needed like picked = absurd like
forked-body starts program (Source place) outs formed needed like picked = absurd like
forked-body starts program Tray outs formed needed like picked = absurd like
forked-body starts program (Bridge bridge) outs formed needed like picked = absurd like

-- ---- where all begin

-- each machine begins with the cycle
pub at-cycle : (ratios : List Ratio) (begin : Begin) (body : Body) → begin.cycle ≡ (starts_of ratios begin body).cycle
at-cycle ratios begin (Cut part) = refl
at-cycle ratios begin (Memory part) = refl
at-cycle ratios begin (Source place) = refl
at-cycle ratios begin Tray = refl
at-cycle ratios begin (Bridge bridge) = refl

-- one machine more
pub grown-by : {A : Type 0} (f : ℕ → A) (group : List ℕ) (k : ℕ) (old new : List A) (next : A) → k < length group → new ≡ old ++ next ∷ [] → next ≡ f (value_at group k) → old ≡ map f (take k group) → new ≡ map f (take (k + 1) group)
grown-by {A} f group k old new next lt grows is was = grows ∙ ap₂ (λ (l : List A) (a : A). l ++ a ∷ []) was is ∙ sym (map_more f group k 0 lt)

-- a state of a piece is one of a piece like it
state-like : (starts : Body → Start) (circuit : FlatCircuit) (body : Body) → IsLike circuit body → CanBegin starts body → IsState circuit (starts body).state
state-like starts circuit (Cut part) like can =
    let own = (starts (Cut part)).state in
    record {
      typed = subst (λ (l : List Register). AreTyped (map (λ (r : Register). shape r.ty) l) own.registers) (sym like.registers) can.typed;
      held = subst (λ (l : List memories.Memory). AreBanks l own.banks) (sym like.memories) can.held;
    }
state-like starts circuit (Memory part) like can = absurd like
state-like starts circuit (Source place) like can = absurd like
state-like starts circuit Tray like can = absurd like
state-like starts circuit (Bridge bridge) like can = absurd like

-- so the states of like units are states of their program's piece
pub states-like : (starts : Body → Start) (piece : FlatCircuit) (machines : List planned.Machine) (group : List ℕ) (states : List State) → AreUnits piece machines group → CanAllBegin starts machines group → states ≡ states_for starts machines group → All (IsState piece) states
states-like starts piece machines group states are can is =
    subst (All (IsState piece)) (sym is)
    (λ t any lt.
    let low : t < length group = omega (arith, lt, length-map group (λ m. (starts (body_at machines m)).state)) in
    subst (IsState piece) (sym (get_or-map (λ m. (starts (body_at machines m)).state) group t 0 any low)) (state-like starts piece (body_at machines (value_at group t)) (are.alike t low) (can t low)))

-- ---- all threads

module _ (starts : Body → Start) (cycle : ℕ) (piece : FlatCircuit) (program : Programmed) (machines : List planned.Machine) (group : List ℕ) (outs : List (List ℕ)) (lists : List (List Ratio)) (states : List State) (placed : ArePlaced piece.outs machines group (length group) outs) (timed : lists ≡ ratios_for starts machines group) (begun : states ≡ states_for starts machines group)
    (at_cycle : (t : ℕ) → t < length group → cycle ≡ (starts (body_at machines (value_at group t))).cycle) where
  abbrev start : ℕ → Machine
  start t = started_unit (forked program (Some (get_or outs t []))) (get_or lists t []) (state_in states t) cycle

  abbrev own_start : ℕ → Start
  own_start t = starts (body_at machines (value_at group t))

  lists-at : (t : ℕ) → t < length group → get_or lists t [] ≡ (own_start t).ratios
  lists-at t lt = ap (λ (l : List (List Ratio)). get_or l t []) timed ∙ get_or-map (λ m. (starts (body_at machines m)).ratios) group t 0 [] lt

  states-at : (t : ℕ) → t < length group → state_in states t ≡ (own_start t).state
  states-at t lt = ap (λ (l : List State). state_in l t) begun ∙ get_or-map (λ m. (starts (body_at machines m)).state) group t 0 (record { registers = []; banks = [] }) lt

  begins : (t : ℕ) → t < length group → start t ≡ started_unit (forked program (Some (get_or outs t []))) (own_start t).ratios (own_start t).state (own_start t).cycle
  begins t lt =
      ap (λ (r : List Ratio). started_unit (forked program (Some (get_or outs t []))) r (state_in states t) cycle) (lists-at t lt)
      ∙ ap (λ (s : State). started_unit (forked program (Some (get_or outs t []))) (own_start t).ratios s cycle) (states-at t lt)
      ∙ ap (started_unit (forked program (Some (get_or outs t []))) (own_start t).ratios (own_start t).state) (at_cycle t lt)

  pub run-units : (units : List Machine) → IsWellFormed piece → program.circuit ≡ piece → AreNeedsOfOuts program.circuit program.needs → AreUnits piece machines group → units ≡ started_machines program outs lists states cycle → RunUnits starts machines group units
  run-units units formed circuit needed are is =
      subst (RunUnits starts machines group) (sym is)
      (record {
        count = length-map-range_with_len start 0 (length outs) ∙ placed.total;
        each = λ t lt.
            let low : t < length outs = omega (arith, lt, placed.total) in
            subst (IsUnitBody starts (body_at machines (value_at group t))) (sym (get_or-map-range_with_len start 0 (length outs) t t no_machine low (omega arith) ∙ begins t lt))
            (forked-body starts program (body_at machines (value_at group t)) (get_or outs t [])
            (subst IsWellFormed (sym circuit) formed) needed
            (subst (λ (c : FlatCircuit). IsLike c (body_at machines (value_at group t))) (sym circuit) (are.alike t lt))
            (subst (λ (c : FlatCircuit). ArePickedFor c.outs (body_at machines (value_at group t)) (get_or outs t [])) (sym circuit) (placed.each t lt)));
      })
