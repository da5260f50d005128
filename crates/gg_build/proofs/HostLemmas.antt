-- Hosts of the machines of a plan.
use Rattle.std.proofs.Common.{◌≡◌, ℕ, ◌+◌, ◌-◌, ◌<◌, Bool, true, false, ◌&&◌, ◌⊎◌, inl, inr, List, [], ◌∷◌, ◌++◌, None, Some, length, map, get_or, slice_get, refl, sym, ap, subst, ◌∙◌, below_more, arith}
use Rattle.std.specs.Prelude.{Option, All, Contains, if◌then◌else◌, nat_le, nat_lt}
use Rattle.std.proofs.lemmas.Bool.{cases_eq}
use Rattle.std.proofs.lemmas.List.{get_or-map, get_or_push, get_or_append_left, length-append, length-map}
use Rattle.gg_flat.specs.Circuit.{FlatCircuit}
use Rattle.gg_flat.specs.Line.{value_at}
use Rattle.gg_flat.specs.Run.{Start}
use Rattle.gg_flat.specs.State.{State}
use Rattle.gg_flat.specs.WellFormed.{IsWellFormed}
use Rattle.gg_cut_plan.specs.Alike.{AreAlike, IsAlike, IsLike}
use Rattle.gg_cut_plan.specs.declared.plan.Body.{Body}
use Rattle.gg_cut_plan.specs.declared.plan.Body.TheVariants.{Cut, Memory, Source, Tray, Bridge}
use Rattle.gg_cut_plan.specs.declared.plan.BridgeBody.{BridgeBody}
use Rattle.gg_cut_plan.specs.declared.plan.Machine as planned
use Rattle.gg_cut_plan.specs.declared.plan.Plan.{Plan}
use Rattle.gg_part.specs.declared.part.Part.{Part}
use Rattle.gg_order.specs.needs.Needs.{AreNeedsOfOuts}
use Rattle.gg_program.specs.Programmed.{Programmed}
use Rattle.gg_node.specs.Machine.{Machine, first_kept, machine_at, no_machine, kept_value}
use Rattle.gg_node.specs.inside.Machine.{IsTray}
use Rattle.gg_fame5.specs.Machine.{started_unit}
use Rattle.gg_fame5.specs.inside.Lane.{Laned, lane_machine}
use Rattle.gg_fame5.specs.inside.Shared.{Sharing}
use Rattle.gg_fame5.specs.inside.Shared as shared
use Rattle.gg_net.specs.inside.Net.{entry_of}
use Rattle.gg_net.specs.declared.shape.ServedPort.{ServedPort}
use Rattle.gg_build.specs.plan.Built.{IsUnitOf, machine_in}
use Rattle.gg_build.specs.declared.node.Node.{Node}
use Rattle.gg_build.specs.declared.node.Node.TheVariants as node
use Rattle.gg_build.specs.inside.Bridges.{HasSame, Table, TellsBridges, bridge_named}
use Rattle.gg_build.specs.inside.Build.{HasBridges}
use Rattle.gg_build.specs.inside.Groups.{group_at}
use Rattle.gg_build.specs.inside.Hosts.{IsUnitPart, IsGroup, IsAlone, IsBuiltWith, IsHost, IsHostOf, IsOwnHost, AreHosts, AreOwnHosts, AreUnits, body_at, first_body, outs_at}
use Rattle.gg_build.specs.inside.Node.{machines_of}

-- ---- units

-- a piece is like itself
alike-itself : (piece : FlatCircuit) → IsAlike piece piece
alike-itself piece = record { signals = refl; clocks = refl; registers = refl; memories = refl; ins = refl; outs = λ s. (λ has. has, λ has. has) }

-- the unit of a program is alone on its host
pub alone-unit : (own : Start) (part : Part) (program : Programmed) (unit : Sharing) → IsUnitPart part → program.circuit ≡ part.piece → AreNeedsOfOuts program.circuit program.needs → shared.machines_of unit ≡ started_unit program own.ratios own.state own.cycle ∷ [] → IsAlone (IsUnitOf own part) (shared.machines_of unit)
alone-unit own part program unit can circuit needs are =
    record {
      alone = are ∙ ap (λ (m : Machine). m ∷ []) (sym first);
      is = record {
        circuit = program.circuit;
        needs = program.needs;
        formed = subst IsWellFormed (sym circuit) can.formed;
        alike = subst (λ (c : FlatCircuit). IsAlike c part.piece) (sym circuit) (alike-itself part.piece);
        outs = ap (λ (c : FlatCircuit). c.outs) circuit;
        exact = subst (λ (c : FlatCircuit). AreNeedsOfOuts c program.needs) circuit needs;
        is = first;
      };
    }
  where
    first : machine_at (shared.machines_of unit) 0 ≡ started_unit program own.ratios own.state own.cycle
    first = ap (λ (l : List Machine). machine_at l 0) are

-- ---- trays

-- what is found nowhere isn't kept
neither : (found : Option ℕ) → found ≡ None → (b : Bool) → None ≡ (if b then found else None)
neither found e true = sym e
neither found e false = refl

-- a host of units keeps no values
pub unit-keeps : (unit : Sharing) (cycle : ℕ) → IsTray (machine_at (shared.machines_of unit) 0).behaviour → None ≡ kept_value (machine_at (shared.machines_of unit) 0) cycle
unit-keeps unit cycle = by unit.lanes
  where
    nothing : (cycle : ℕ) → None ≡ kept_value no_machine cycle
    nothing cycle = neither (slice_get no_machine.kept (cycle - first_kept no_machine)) refl (nat_le (first_kept no_machine) cycle && nat_lt cycle no_machine.cycle)

    by : (lanes : List Laned) → IsTray (machine_at (map (lane_machine unit.program) lanes) 0).behaviour → None ≡ kept_value (machine_at (map (lane_machine unit.program) lanes) 0) cycle
    by [] tray = nothing cycle
    by (lane ∷ lanes) tray = absurd tray

-- ---- ports

-- units serve none
pub unit-ports : (unit : Sharing) (ports : List ServedPort) → ports ≡ [] → All (λ machine. ports ≡ map entry_of machine.ports) (shared.machines_of unit)
unit-ports unit ports none = λ i d lt.
    let low : i < length unit.lanes = omega (arith, lt, length-map unit.lanes (lane_machine unit.program)) in
    none ∙ sym (ap (λ (m : Machine). map entry_of m.ports) (get_or-map (lane_machine unit.program) unit.lanes i shared.no_lane d low))

-- ---- the host of a group

-- the first machine of a group is like the others, so it is alone if it is no unit
one-alone : (starts : Body → Start) (columns : List (List ℕ)) (machines : List planned.Machine) (group : List ℕ) → IsGroup starts columns machines group → ((other : Body) → ¬ AreAlike (body_at machines (value_at group 0)) other) → length group ≡ 1
one-alone starts columns machines group is none = by (cases_eq (length group) 1)
  where
    by : (length group ≡ 1) ⊎ (length group ≡ 1 → ⊥) → length group ≡ 1
    by (inl one) = one
    by (inr more) = absurd (none (body_at machines (value_at group 1)) (is.alike 0 1 is.some (omega (arith, is.some, more)) (λ same. absurd (omega (arith, same)))))

module _ {B : Type 0} (starts : Body → Start) (columns : List (List ℕ)) (machines : List planned.Machine) (group : List ℕ) (node : Node B) where
  abbrev outs : ℕ
  outs = outs_at machines (value_at group 0)

  alone-host : (body : Body) → length group ≡ 1 → body_at machines (value_at group 0) ≡ body → IsHost (IsBuiltWith starts columns outs body) node → IsHostOf starts columns machines group node
  alone-host body one is host =
      record {
        count = ap length host.own.alone ∙ sym one;
        each = λ t lt.
            let first : 0 ≡ t = omega (arith, lt, one) in
            subst (λ k. IsBuiltWith starts columns (outs_at machines (value_at group k)) (body_at machines (value_at group k)) (machine_at (machines_of node) k)) first
            (subst (λ (b : Body). IsBuiltWith starts columns outs b (machine_at (machines_of node) 0)) (sym is) host.own.is);
        ports = host.ports;
      }

  pub memory-hosts : (part : Part) → IsGroup starts columns machines group → body_at machines (value_at group 0) ≡ Memory part → IsHost (IsBuiltWith starts columns outs (Memory part)) node → IsHostOf starts columns machines group node
  memory-hosts part can is host = alone-host (Memory part) (one-alone starts columns machines group can (λ other alike. subst (λ (b : Body). AreAlike b other) is alike)) is host

  pub source-hosts : (place : ℕ) → IsGroup starts columns machines group → body_at machines (value_at group 0) ≡ Source place → IsHost (IsBuiltWith starts columns outs (Source place)) node → IsHostOf starts columns machines group node
  source-hosts place can is host = alone-host (Source place) (one-alone starts columns machines group can (λ other alike. subst (λ (b : Body). AreAlike b other) is alike)) is host

  pub tray-hosts : IsGroup starts columns machines group → body_at machines (value_at group 0) ≡ Tray → IsHost (IsBuiltWith starts columns outs Tray) node → IsHostOf starts columns machines group node
  tray-hosts can is host = alone-host Tray (one-alone starts columns machines group can (λ other alike. subst (λ (b : Body). AreAlike b other) is alike)) is host

  pub bridge-hosts : (bridge : BridgeBody) → IsGroup starts columns machines group → body_at machines (value_at group 0) ≡ Bridge bridge → IsHost (IsBuiltWith starts columns outs (Bridge bridge)) node → IsHostOf starts columns machines group node
  bridge-hosts bridge can is host = alone-host (Bridge bridge) (one-alone starts columns machines group can (λ other alike. subst (λ (b : Body). AreAlike b other) is alike)) is host

-- the units of a group are like the first
pub group-units : (starts : Body → Start) (columns : List (List ℕ)) (machines : List planned.Machine) (group : List ℕ) (part : Part) → IsGroup starts columns machines group → body_at machines (value_at group 0) ≡ Cut part → AreUnits part.piece machines group
group-units starts columns machines group part is first =
    record { some = is.some; few = is.few; known = is.known; alike = λ t lt. by t lt (cases_eq 0 t) }
  where
    by : (t : ℕ) → t < length group → (0 ≡ t) ⊎ (0 ≡ t → ⊥) → IsLike part.piece (body_at machines (value_at group t))
    by t lt (inl same) = subst (λ k. IsLike part.piece (body_at machines (value_at group k))) same (subst (IsLike part.piece) (sym first) (alike-itself part.piece))
    by t lt (inr other) = subst (λ (b : Body). AreAlike b (body_at machines (value_at group t))) first (is.alike 0 t is.some lt other)

-- one host more
pub hosts-more : {B : Type 0} (starts : Body → Start) (columns : List (List ℕ)) (machines : List planned.Machine) (members : List (List ℕ)) (count : ℕ) (old new : List (Node B)) (own : Node B) → new ≡ old ++ own ∷ [] → AreHosts starts columns machines members count old → IsHostOf starts columns machines (group_at members count) own → AreHosts starts columns machines members (count + 1) new
hosts-more starts columns machines members count old new own is was one =
    subst (AreHosts starts columns machines members (count + 1)) (sym is)
    (record {
      total = length-append old (own ∷ []) ∙ ap (λ k. k + 1) was.total;
      each = λ h any. below_more (λ h. IsHostOf starts columns machines (group_at members h) (get_or (old ++ own ∷ []) h any)) count
          (λ h lt. subst (IsHostOf starts columns machines (group_at members h)) (sym (get_or_append_left old (own ∷ []) any h (omega (arith, lt, was.total)))) (was.each h any lt))
          (subst (IsHostOf starts columns machines (group_at members count)) (sym (get_or_push old own any count was.total)) one) h;
    })

-- ---- which host a machine has

module _ {B : Type 0} (table : Table B) where
  abbrev Has : List ℕ → B → Type 0
  Has name bridge = bridge_named table name ≡ Some bridge

  -- what a machine asks for, by what it is
  pub own-by : (machines : List planned.Machine) (m : ℕ) (node : Node B) {body : Body} → body_at machines m ≡ body → IsOwnHost Has body node → IsOwnHost Has (body_at machines m) node
  own-by machines m node is own = subst (λ (b : Body). IsOwnHost Has b node) (sym is) own

  -- one host more
  pub own-more : (machines : List planned.Machine) (members : List (List ℕ)) (count : ℕ) (old new : List (Node B)) (own : Node B) → new ≡ old ++ own ∷ [] → length old ≡ count → AreOwnHosts table machines members count old → IsOwnHost Has (first_body machines members count) own → AreOwnHosts table machines members (count + 1) new
  own-more machines members count old new own is total was one =
      subst (AreOwnHosts table machines members (count + 1)) (sym is)
      (λ h any. below_more (λ h. IsOwnHost Has (first_body machines members h) (get_or (old ++ own ∷ []) h any)) count
      (λ h lt. subst (IsOwnHost Has (first_body machines members h)) (sym (get_or_append_left old (own ∷ []) any h (omega (arith, lt, total)))) (was h any lt))
      (subst (IsOwnHost Has (first_body machines members count)) (sym (get_or_push old own any count total)) one) h)

-- a machine's host is its own also by the table as it was at first
pub own-as-was : {B : Type 0} (body : Body) (first now : Table B) (node : Node B) → HasSame first now body → IsOwnHost (Has now) body node → IsOwnHost (Has first) body node
own-as-was (Cut part) first now node same own = own
own-as-was (Memory part) first now node same own = own
own-as-was (Source place) first now node same own = own
own-as-was Tray first now node same own = own
own-as-was (Bridge body) first now (node.Unit unit) same own = own
own-as-was (Bridge body) first now (node.Shared units) same own = own
own-as-was (Bridge body) first now (node.Memory machine) same own = own
own-as-was (Bridge body) first now (node.Source machine) same own = own
own-as-was (Bridge body) first now (node.Tray machine) same own = own
own-as-was (Bridge body) first now (node.Bridge host) same own = sym same ∙ own

module _ {B : Type 0} (Is : List ℕ → B → Type 0) where
  -- units that share a host have one of one kind
  pub own-alike : (one other : Body) (node : Node B) → AreAlike one other → IsOwnHost Is one node → IsOwnHost Is other node
  own-alike (Cut part) (Cut again) node alike own = own
  own-alike (Cut part) (Memory again) node alike own = absurd alike
  own-alike (Cut part) (Source place) node alike own = absurd alike
  own-alike (Cut part) Tray node alike own = absurd alike
  own-alike (Cut part) (Bridge bridge) node alike own = absurd alike
  own-alike (Memory part) other node alike own = absurd alike
  own-alike (Source place) other node alike own = absurd alike
  own-alike Tray other node alike own = absurd alike
  own-alike (Bridge bridge) other node alike own = absurd alike

-- the bridge that the table has under a name is the one that is handed in with it
pub own-handed : {B : Type 0} (piece : B → FlatCircuit) (state : B → State) (plan : Plan) (bridges : List (List ℕ × B)) (table : Table B) → HasBridges piece state plan bridges → TellsBridges bridges table → (m : ℕ) (body : Body) (node : Node B) → m < length plan.machines → (machine_in plan m).body ≡ body
    → IsOwnHost (Has table) body node → IsOwnHost (λ name bridge. Contains bridges (name, bridge)) body node
own-handed piece state plan bridges table has tells m (Cut part) node lt is own = own
own-handed piece state plan bridges table has tells m (Memory part) node lt is own = own
own-handed piece state plan bridges table has tells m (Source place) node lt is own = own
own-handed piece state plan bridges table has tells m Tray node lt is own = own
own-handed piece state plan bridges table has tells m (Bridge body) (node.Unit unit) lt is own = own
own-handed piece state plan bridges table has tells m (Bridge body) (node.Shared units) lt is own = own
own-handed piece state plan bridges table has tells m (Bridge body) (node.Memory machine) lt is own = own
own-handed piece state plan bridges table has tells m (Bridge body) (node.Source machine) lt is own = own
own-handed piece state plan bridges table has tells m (Bridge body) (node.Tray machine) lt is own = own
own-handed {B = B} piece state plan bridges table has tells m (Bridge body) (node.Bridge host) lt is own =
    let it = has.each m body lt is in
    let same : it.bridge ≡ host.bridge = ap there (sym (tells body.name it.bridge it.known) ∙ own) in
    subst (λ bridge. Contains bridges (body.name, bridge)) same it.known
  where
    there : Option B → B
    there (Some bridge) = bridge
    there None = host.bridge
