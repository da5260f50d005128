-- The stations of a plan's machines at their hosts.
use Rattle.std.proofs.Common.{◌≡◌, ℕ, ◌+◌, ◌<◌, ◌⊎◌, inl, inr, List, [], ◌∷◌, ◌++◌, Some, length, map, get_or, refl, sym, ap, subst, ◌∙◌, below_more, arith}
use Rattle.std.proofs.lemmas.Bool.{cases_eq}
use Rattle.std.proofs.lemmas.List.{get_or-map, get_or_default, get_or_push, get_or_append_left, length-append, length-map}
use Rattle.gg_flat.specs.Circuit.{FlatCircuit}
use Rattle.gg_flat.specs.Line.{value_at}
use Rattle.gg_flat.specs.Run.{Start}
use Rattle.gg_flat.specs.State.{State}
use Rattle.gg_cut_plan.specs.declared.plan.Body.{Body}
use Rattle.gg_cut_plan.specs.declared.plan.Machine as planned
use Rattle.gg_cut_plan.specs.declared.plan.Plan.{Plan}
use Rattle.gg_node.specs.Machine.{Machine, machine_at, no_machine}
use Rattle.gg_net.specs.declared.shape.Station.{Station}
use Rattle.gg_net.specs.inside.Net.{entry_of}
use Rattle.gg_net.specs.inside.Stations.{hosted, stationed, IsStationed, HasStation, AreStationed}
use Rattle.gg_build.specs.plan.Built.{machine_in, nameless}
use Rattle.gg_build.specs.declared.node.Node.{Node}
use Rattle.gg_build.specs.declared.node.Node.TheVariants as node
use Rattle.gg_build.specs.inside.Groups.{group_at, IsMember, AreGroups, HasEarlier}
use Rattle.gg_build.specs.inside.Bridges.{Table, HasOwn, TellsBridges, bridge_named}
use Rattle.gg_build.specs.inside.Build.{HasBridges}
use Rattle.gg_build.specs.inside.Hosts.{AreAllApart, HaveBridges, HaveNames, first_body, CanBuildAll, IsBuiltWith, IsGroup, IsHostOf, IsOwnHost, AreHosts, AreOwnHosts, HaveOwnHosts, IsStation, AreStations, IsPlaced, IsPlacement, body_at, outs_at}
use Rattle.gg_build.specs.inside.Node.{machines_of}
use Rattle.gg_build.proofs.HostLemmas.{own-alike, own-handed}

-- the plan's numbers of the hosts of these machines
abbrev pub numbers_of : List planned.Machine → List ℕ
numbers_of machines = map (λ (machine : planned.Machine). machine.host) machines

abbrev no_node : {B : Type 0} → Node B
no_node = node.Tray no_machine

abbrev pub no_station : Station
no_station = record { host = 0; thread = 0; ins = []; outs = []; ports = [] }

number-count : (machines : List planned.Machine) → length (numbers_of machines) ≡ length machines
number-count machines = length-map machines (λ (machine : planned.Machine). machine.host)

number-at : (machines : List planned.Machine) (m : ℕ) → m < length machines → value_at (numbers_of machines) m ≡ (get_or machines m nameless).host
number-at machines m lt = get_or-map (λ (machine : planned.Machine). machine.host) machines m nameless 0 lt

module _ (starts : Body → Start) (columns : List (List ℕ)) (machines : List planned.Machine) (hosts threads : List ℕ) (members : List (List ℕ)) (can : CanBuildAll starts columns machines) (groups : AreGroups (numbers_of machines) hosts threads members) where
  member-low : (h t : ℕ) → t < length (group_at members h) → value_at (group_at members h) t < length machines
  member-low h t lt = let low = groups.grouped.known h t lt in omega (arith, low, number-count machines)

  -- ---- hosts

  pub group-can : (h : ℕ) → h < length members → IsGroup starts columns machines (group_at members h)
  group-can h low =
      let group = group_at members h in
      record {
        some = groups.some h low;
        few = let most = groups.grouped.few h in let few = can.few in omega (arith, most, few, number-count machines);
        known = λ i d lt. subst (λ m. m < length machines) (get_or_default group i 0 d lt) (member-low h i lt);
        ready = λ t lt. can.ready (value_at group t) (member-low h t lt);
        begin = λ t lt. can.begin (value_at group t) (member-low h t lt);
        alike = λ t u lt less other.
            let m = value_at group t in
            let k = value_at group u in
            let one = groups.grouped.back h t lt in
            let two = groups.grouped.back h u less in
            let together : value_at (numbers_of machines) m ≡ value_at (numbers_of machines) k =
            (groups.together m k (omega (arith, member-low h t lt, number-count machines)) (omega (arith, member-low h u less, number-count machines))).1 (one.0 ∙ sym two.0) in
            can.alike m k (member-low h t lt) (member-low h u less)
            (λ same. other (sym one.1 ∙ ap (value_at threads) same ∙ two.1))
            (sym (number-at machines m (member-low h t lt)) ∙ together ∙ number-at machines k (member-low h u less));
      }

  -- ---- bridges

  first-low : (h : ℕ) → h < length members → value_at (group_at members h) 0 < length machines
  first-low h low = member-low h 0 (groups.some h low)

  pub bridges-there : {B : Type 0} (piece : B → FlatCircuit) (state : B → State) (table : Table B) → ((m : ℕ) (body : Body) → m < length machines → body_at machines m ≡ body → HasOwn piece state table body) → HaveBridges piece state table machines members 0
  bridges-there piece state table told = λ h from lt. told (value_at (group_at members h) 0) (first_body machines members h) (first-low h lt) refl

  pub bridges-apart : HaveNames machines → AreAllApart machines members
  bridges-apart names =
      λ h k less lt.
      let low : h < length members = omega (arith, less, lt) in
      let m = value_at (group_at members h) 0 in
      let other = value_at (group_at members k) 0 in
      let one = groups.grouped.back h 0 (groups.some h low) in
      let two = groups.grouped.back k 0 (groups.some k lt) in
      let same : m ≡ other → h ≡ k = λ e. sym one.0 ∙ ap (value_at hosts) e ∙ two.0 in
      names m other (first-low h low) (first-low k lt) (λ e. absurd (omega (arith, less, same e)))

  -- ---- machines

  at : (m : ℕ) → m < length machines → IsMember members (value_at hosts m) (value_at threads m) m
  at m lt = groups.grouped.at m (omega (arith, lt, number-count machines))

  module _ {B : Type 0} (nodes : List (Node B)) (are : AreHosts starts columns machines members (length members) nodes) where
    pub host-known : (m : ℕ) → m < length machines → value_at hosts m < length nodes
    host-known m lt = let low = (at m lt).host in omega (arith, low, are.total)

    pub thread-there : (m : ℕ) (any : Node B) → m < length machines → value_at threads m < length (machines_of (get_or nodes (value_at hosts m) any))
    thread-there m any lt =
        let is = at m lt in
        omega (arith, is.thread, (are.each (value_at hosts m) any is.host).count)

    -- ---- stations

    module _ (stations : List Station) (stand : AreStations machines hosts threads nodes (length machines) stations) where
      abbrev lists : List (List Machine)
      lists = map machines_of nodes

      host-of : (m : ℕ) (lt : m < length machines) → IsHostOf starts columns machines (group_at members (value_at hosts m)) (get_or nodes (value_at hosts m) no_node)
      host-of m lt = are.each (value_at hosts m) no_node (at m lt).host

      station-at : (m : ℕ) (s : Station) → m < length machines → IsStation (get_or machines m nameless) (value_at hosts m) (value_at threads m) (machine_at (machines_of (get_or nodes (value_at hosts m) no_node)) (value_at threads m)) (get_or stations m s)
      station-at m s lt = stand.each m no_node s lt

      hosted-is : (m : ℕ) (s : Station) (lt : m < length machines) → hosted lists (get_or stations m s).host ≡ machines_of (get_or nodes (value_at hosts m) no_node)
      hosted-is m s lt = ap (hosted lists) (station-at m s lt).host_is ∙ get_or-map machines_of nodes (value_at hosts m) no_node [] (host-known m lt)

      stationed-is : (m : ℕ) (s : Station) (lt : m < length machines) → stationed lists (get_or stations m s) ≡ machine_at (machines_of (get_or nodes (value_at hosts m) no_node)) (value_at threads m)
      stationed-is m s lt =
          ap (λ (l : List Machine). machine_at l (get_or stations m s).thread) (hosted-is m s lt)
          ∙ ap (machine_at (machines_of (get_or nodes (value_at hosts m) no_node))) (station-at m s lt).thread_is

      there : (m : ℕ) (s : Station) → m < length machines → IsPlaced starts columns (get_or machines m nameless) lists (get_or stations m s)
      there m s lt =
          let is = at m lt in
          let station = station-at m s lt in
          record {
            built = subst (IsBuiltWith starts columns (outs_at machines m) (body_at machines m)) (sym (stationed-is m s lt))
                (subst (λ k. IsBuiltWith starts columns (outs_at machines k) (body_at machines k) (machine_at (machines_of (get_or nodes (value_at hosts m) no_node)) (value_at threads m))) is.is ((host-of m lt).each (value_at threads m) is.thread));
            ins = station.ins;
            outs = station.outs;
            ports = station.ports ∙ ap (λ (t : Machine). map entry_of t.ports) (sym (stationed-is m s lt));
          }

      is-stationed : (m : ℕ) (s : Station) → m < length machines → IsStationed lists (get_or stations m s)
      is-stationed m s lt =
          let station = station-at m s lt in
          record {
            host = omega (arith, station.host_is, host-known m lt, length-map nodes machines_of);
            thread = omega (arith, station.thread_is, thread-there m no_node lt, ap length (hosted-is m s lt));
          }

      has-station : (h t : ℕ) → h < length lists → t < length (hosted lists h) → HasStation stations h t
      has-station h t low thread =
          let there : h < length nodes = omega (arith, low, length-map nodes machines_of) in
          let host = are.each h no_node (omega (arith, there, are.total)) in
          let inside : t < length (group_at members h) = omega (arith, thread, ap length (get_or-map machines_of nodes h no_node [] there), host.count) in
          let m = value_at (group_at members h) t in
          let is = groups.grouped.back h t inside in
          let known = member-low h t inside in
          record {
            machine = m;
            known = omega (arith, known, stand.total);
            host = λ s. (station-at m s known).host_is ∙ is.0;
            thread = λ s. (station-at m s known).thread_is ∙ is.1;
          }

      alone : (m k : ℕ) (s t : Station) → m < length machines → k < length machines → (get_or stations m s).host ≡ (get_or stations k t).host → (get_or stations m s).thread ≡ (get_or stations k t).thread → m ≡ k
      alone m k s t low high same threads_same =
          let host : value_at hosts m ≡ value_at hosts k = sym (station-at m s low).host_is ∙ same ∙ (station-at k t high).host_is in
          let thread : value_at threads m ≡ value_at threads k = sym (station-at m s low).thread_is ∙ threads_same ∙ (station-at k t high).thread_is in
          sym (at m low).is ∙ ap (λ h. value_at (group_at members h) (value_at threads m)) host ∙ ap (value_at (group_at members (value_at hosts k))) thread ∙ (at k high).is

      are-stationed : AreStationed lists stations
      are-stationed =
          record {
            each = λ m s lt. is-stationed m s (omega (arith, lt, stand.total));
            alone = λ m k s t low high same threads_same. alone m k s t (omega (arith, low, stand.total)) (omega (arith, high, stand.total)) same threads_same;
            whole = has-station;
          }

      some-thread : (h : ℕ) (any : Node B) → h < length nodes → 0 < length (machines_of (get_or nodes h any))
      some-thread h any lt =
          let low : h < length members = omega (arith, lt, are.total) in
          let some = groups.some h low in
          let count = (are.each h any low).count in
          omega (arith, some, count)

      earlier : (m h : ℕ) (s : Station) → m < length machines → h < (get_or stations m s).host → HasEarlier (λ k. (get_or stations k s).host) h m
      earlier m h s lt less =
          let was = groups.ascend m h (omega (arith, lt, number-count machines)) (subst (λ k. h < k) (station-at m s lt).host_is less) in
          record {
            machine = was.machine;
            earlier = was.earlier;
            host = (station-at was.machine s (omega (arith, was.earlier, lt))).host_is ∙ was.host;
          }

      pub placement-are : (plan : Plan) → machines ≡ plan.machines → IsPlacement plan starts columns nodes stations
      placement-are plan same =
          let count : length machines ≡ length plan.machines = ap length same in
          let own : (m : ℕ) → get_or machines m nameless ≡ machine_in plan m = λ m. ap (λ (l : List planned.Machine). get_or l m nameless) same in
          record {
            total = stand.total ∙ count;
            each = λ m s lt. subst (λ (o : planned.Machine). IsPlaced starts columns o lists (get_or stations m s)) (own m) (there m s (omega (arith, lt, count)));
            threads = are-stationed;
            used = some-thread;
            ascend = λ s m h lt less. earlier m h s (omega (arith, lt, stand.total)) less;
            together = λ m k s t lt less.
                let low : m < length machines = omega (arith, lt, count) in
                let high : k < length machines = omega (arith, less, count) in
                let one : value_at (numbers_of machines) m ≡ (machine_in plan m).host = number-at machines m low ∙ ap (λ (o : planned.Machine). o.host) (own m) in
                let two : value_at (numbers_of machines) k ≡ (machine_in plan k).host = number-at machines k high ∙ ap (λ (o : planned.Machine). o.host) (own k) in
                let both = groups.together m k (omega (arith, low, number-count machines)) (omega (arith, high, number-count machines)) in (
                  λ is. (station-at m s low).host_is ∙ both.0 (one ∙ is ∙ sym two) ∙ sym (station-at k t high).host_is,
                  λ is. sym one ∙ both.1 (sym (station-at m s low).host_is ∙ is ∙ (station-at k t high).host_is) ∙ two,
                );
          }

      -- each machine is at the host that it asks for
      pub own-hosts : (piece : B → FlatCircuit) (state : B → State) (plan : Plan) → machines ≡ plan.machines → (bridges : List (List ℕ × B)) (table : Table B) → HasBridges piece state plan bridges → TellsBridges bridges table → AreOwnHosts table machines members (length members) nodes
          → HaveOwnHosts plan bridges nodes stations
      own-hosts piece state plan same bridges table has tells all m s any lt =
          let low : m < length machines = omega (arith, lt, ap length same) in
          let h = value_at hosts m in
          let is = at m low in
          let node = get_or nodes (get_or stations m s).host any in
          let first : IsOwnHost (λ name bridge. bridge_named table name ≡ Some bridge) (first_body machines members h) node =
          subst (λ k. IsOwnHost (λ name bridge. bridge_named table name ≡ Some bridge) (first_body machines members h) (get_or nodes k any)) (sym (station-at m s low).host_is) (all h any is.host)
          in
          let own : (get_or machines m nameless).body ≡ (machine_in plan m).body = ap (λ (l : List planned.Machine). (get_or l m nameless).body) same in
          own-handed piece state plan bridges table has tells m (machine_in plan m).body node lt refl
          (subst (λ (b : Body). IsOwnHost (λ name bridge. bridge_named table name ≡ Some bridge) b node) (ap (body_at machines) is.is ∙ own) (like-first h (value_at threads m) node is.host is.thread first))
        where
          like-first : (h t : ℕ) (node : Node B) → h < length members → t < length (group_at members h) → IsOwnHost (λ name bridge. bridge_named table name ≡ Some bridge) (first_body machines members h) node
              → IsOwnHost (λ name bridge. bridge_named table name ≡ Some bridge) (body_at machines (value_at (group_at members h) t)) node
          like-first h t node low inside own = by (cases_eq 0 t)
            where
              by : (0 ≡ t) ⊎ (0 ≡ t → ⊥) → IsOwnHost (λ name bridge. bridge_named table name ≡ Some bridge) (body_at machines (value_at (group_at members h) t)) node
              by (inl first) = subst (λ k. IsOwnHost (λ name bridge. bridge_named table name ≡ Some bridge) (body_at machines (value_at (group_at members h) k)) node) first own
              by (inr other) =
                  own-alike (λ name bridge. bridge_named table name ≡ Some bridge) (first_body machines members h) (body_at machines (value_at (group_at members h) t)) node
                  ((group-can h low).alike 0 t (groups.some h low) inside other) own

-- one station more
pub stations-more : {B : Type 0} (machines : List planned.Machine) (hosts threads : List ℕ) (nodes : List (Node B)) (count : ℕ) (old new : List Station) (own : Station) → new ≡ old ++ own ∷ [] → AreStations machines hosts threads nodes count old
    → ((any : Node B) → IsStation (get_or machines count nameless) (value_at hosts count) (value_at threads count) (machine_at (machines_of (get_or nodes (value_at hosts count) any)) (value_at threads count)) own) → AreStations machines hosts threads nodes (count + 1) new
stations-more machines hosts threads nodes count old new own is was one =
    subst (AreStations machines hosts threads nodes (count + 1)) (sym is)
    (record {
      total = length-append old (own ∷ []) ∙ ap (λ k. k + 1) was.total;
      each = λ m any other. below_more (λ m. IsStation (get_or machines m nameless) (value_at hosts m) (value_at threads m) (machine_at (machines_of (get_or nodes (value_at hosts m) any)) (value_at threads m)) (get_or (old ++ own ∷ []) m other)) count
          (λ m lt. subst (IsStation (get_or machines m nameless) (value_at hosts m) (value_at threads m) (machine_at (machines_of (get_or nodes (value_at hosts m) any)) (value_at threads m))) (sym (get_or_append_left old (own ∷ []) other m (omega (arith, lt, was.total)))) (was.each m any other lt))
          (subst (IsStation (get_or machines count nameless) (value_at hosts count) (value_at threads count) (machine_at (machines_of (get_or nodes (value_at hosts count) any)) (value_at threads count))) (sym (get_or_push old own other count was.total)) (one any)) m;
    })
