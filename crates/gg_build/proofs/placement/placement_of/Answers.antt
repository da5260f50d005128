use Rattle.std.proofs.Common.{◌≡◌, ◌<◌, get_or, ℕ, List, length, map, sym, subst, arith}
use Rattle.std.specs.Prelude.{All}
use Rattle.std.proofs.lemmas.List.{length-map}
use Rattle.gg_flat.specs.Clock.{Ratio}
use Rattle.gg_flat.specs.Line.{value_at}
use Rattle.gg_cut_plan.specs.declared.plan.Body.{Body}
use Rattle.gg_cut_plan.specs.declared.plan.Machine as planned
use Rattle.gg_build.specs.declared.node.Node.{Node}
use Rattle.gg_build.specs.inside.Begin.{starts_of}
use Rattle.gg_build.specs.inside.Groups.{group_at}
use Rattle.gg_build.specs.inside.Node.{machines_of}
use Rattle.gg_build.specs.inside.Bridges.{HasOwn}
use Rattle.gg_build.specs.inside.Hosts.{CanBuildAll, IsGroup, AreHosts, AreOwnHosts, AreStations, AreAllApart, HaveBridges, HasPorts, HaveNames, body_at}
use Rattle.gg_build.proofs.BridgeLemmas.{bridge-told}
use Rattle.gg_build.proofs.PlacementLemmas.{bridges-apart, bridges-there, group-can, host-known, own-hosts, placement-are, thread-there}
use Rattle.gg_build.proofs.placement.placement_of.Goals as goal

pub hosts_of-requires-clause-groups : goal.hosts_of-requires-clause-groups
hosts_of-requires-clause-groups g c =
    let machines = c.as_slice-machines.result.now in
    let columns = c.args.trace.now.columns in
    let starts = starts_of c.args.plan.now.ratios c.args.begin.now in
    let groups = c.in_ok-groups.groups in
    let members = map (λ list. list.items) groups.members.items in
    let can = subst (CanBuildAll starts columns) (sym c.as_slice-machines.ensures) c.requires.ready in
    subst (λ (rs : List Ratio). (h : ℕ) → h < length c.deref.result.now → IsGroup (starts_of rs c.args.begin.now) columns machines (group_at (map (λ list. list.items) c.deref.result.now) h)) (sym c.as_slice.ensures)
    (subst (λ l. (h : ℕ) → h < length l → IsGroup starts columns machines (group_at (map (λ list. list.items) l) h)) (sym c.deref.ensures.value)
    (λ h lt. group-can starts columns machines groups.hosts.items groups.threads.items members can c.in_ok-groups.ensures h (omega (arith, lt, length-map groups.members.items (λ list. list.items)))))

pub returns-clause-placed : goal.returns-clause-placed
returns-clause-placed g c =
    let machines = c.as_slice-machines.result.now in
    let columns = c.args.trace.now.columns in
    let starts = starts_of c.args.plan.now.ratios c.args.begin.now in
    let groups = c.in_ok-groups.groups in
    let hosts = groups.hosts.items in
    let threads = groups.threads.items in
    let members = map (λ list. list.items) groups.members.items in
    let can = subst (CanBuildAll starts columns) (sym c.as_slice-machines.ensures) c.requires.ready in
    let nodes = c.in_ok-hosts.hosts.items in
    let stations = c.in_ok-stations.stations.items in
    let are : AreHosts starts columns machines members (length members) nodes =
    subst (λ (rs : List Ratio). AreHosts (starts_of rs c.args.begin.now) columns machines members (length members) nodes) c.as_slice.ensures
    (subst (λ k. AreHosts (starts_of c.as_slice.result.now c.args.begin.now) columns machines members k nodes) (sym (length-map groups.members.items (λ list. list.items)))
    (subst (λ l. AreHosts (starts_of c.as_slice.result.now c.args.begin.now) columns machines (map (λ list. list.items) l) (length l) nodes) c.deref.ensures.value c.in_ok-hosts.ensures.hosts))
    in
    let stand : AreStations machines hosts threads nodes (length machines) stations =
    subst (λ (hs : List ℕ). AreStations machines hs threads nodes (length machines) stations) c.deref-2.ensures.value
    (subst (λ (ts : List ℕ). AreStations machines c.deref-2.result.now ts nodes (length machines) stations) c.deref-3.ensures.value
    (subst (λ (ns : List (Node _)). AreStations machines c.deref-2.result.now c.deref-3.result.now ns (length machines) stations) c.deref-4.ensures.value c.in_ok-stations.ensures))
    in
    placement-are starts columns machines hosts threads members can c.in_ok-groups.ensures nodes are stations stand c.args.plan.now c.as_slice-machines.ensures

pub returns-clause-own : goal.returns-clause-own
returns-clause-own g c =
    let machines = c.as_slice-machines.result.now in
    let columns = c.args.trace.now.columns in
    let starts = starts_of c.args.plan.now.ratios c.args.begin.now in
    let groups = c.in_ok-groups.groups in
    let hosts = groups.hosts.items in
    let threads = groups.threads.items in
    let members = map (λ list. list.items) groups.members.items in
    let can = subst (CanBuildAll starts columns) (sym c.as_slice-machines.ensures) c.requires.ready in
    let nodes = c.in_ok-hosts.hosts.items in
    let stations = c.in_ok-stations.stations.items in
    let are : AreHosts starts columns machines members (length members) nodes =
    subst (λ (rs : List Ratio). AreHosts (starts_of rs c.args.begin.now) columns machines members (length members) nodes) c.as_slice.ensures
    (subst (λ k. AreHosts (starts_of c.as_slice.result.now c.args.begin.now) columns machines members k nodes) (sym (length-map groups.members.items (λ list. list.items)))
    (subst (λ l. AreHosts (starts_of c.as_slice.result.now c.args.begin.now) columns machines (map (λ list. list.items) l) (length l) nodes) c.deref.ensures.value c.in_ok-hosts.ensures.hosts))
    in
    let stand : AreStations machines hosts threads nodes (length machines) stations =
    subst (λ (hs : List ℕ). AreStations machines hs threads nodes (length machines) stations) c.deref-2.ensures.value
    (subst (λ (ts : List ℕ). AreStations machines c.deref-2.result.now ts nodes (length machines) stations) c.deref-3.ensures.value
    (subst (λ (ns : List (Node _)). AreStations machines c.deref-2.result.now c.deref-3.result.now ns (length machines) stations) c.deref-4.ensures.value c.in_ok-stations.ensures))
    in
    let all : AreOwnHosts c.in_ok-table.table machines members (length members) nodes =
    subst (λ k. AreOwnHosts c.in_ok-table.table machines members k nodes) (sym (length-map groups.members.items (λ list. list.items)))
    (subst (λ l. AreOwnHosts c.in_ok-table.table machines (map (λ list. list.items) l) (length l) nodes) c.deref.ensures.value c.in_ok-hosts.ensures.own)
    in
    own-hosts starts columns machines hosts threads members can c.in_ok-groups.ensures nodes are stations stand g.B.Bridge.piece g.B.Bridge.state c.args.plan.now c.as_slice-machines.ensures c.args.bridges.items c.in_ok-table.table c.requires.bridges c.in_ok-table.ensures all

pub table_of-requires : goal.table_of-requires
table_of-requires g c = c.requires.bridges.names

pub hosts_of-requires-clause-bridges : goal.hosts_of-requires-clause-bridges
hosts_of-requires-clause-bridges g c =
    let piece = g.B.Bridge.piece in
    let state = g.B.Bridge.state in
    let plan = c.args.plan.now in
    let machines = c.as_slice-machines.result.now in
    let starts = starts_of plan.ratios c.args.begin.now in
    let columns = c.args.trace.now.columns in
    let groups = c.in_ok-groups.groups in
    let members = map (λ list. list.items) groups.members.items in
    let table = c.in_ok-table.table in
    let can = subst (CanBuildAll starts columns) (sym c.as_slice-machines.ensures) c.requires.ready in
    subst (λ l. HaveBridges piece state table machines (map (λ list. list.items) l) 0) (sym c.deref.ensures.value)
    (bridges-there starts columns machines groups.hosts.items groups.threads.items members can c.in_ok-groups.ensures piece state table
    (subst (λ (l : List planned.Machine). (m : ℕ) (body : Body) → m < length l → body_at l m ≡ body → HasOwn piece state table body) (sym c.as_slice-machines.ensures)
    (bridge-told piece state plan c.args.bridges.items table c.requires.bridges c.in_ok-table.ensures)))

pub hosts_of-requires-clause-apart : goal.hosts_of-requires-clause-apart
hosts_of-requires-clause-apart g c =
    let machines = c.as_slice-machines.result.now in
    let starts = starts_of c.args.plan.now.ratios c.args.begin.now in
    let columns = c.args.trace.now.columns in
    let groups = c.in_ok-groups.groups in
    let members = map (λ list. list.items) groups.members.items in
    let can = subst (CanBuildAll starts columns) (sym c.as_slice-machines.ensures) c.requires.ready in
    subst (λ l. AreAllApart machines (map (λ list. list.items) l)) (sym c.deref.ensures.value)
    (bridges-apart starts columns machines groups.hosts.items groups.threads.items members can c.in_ok-groups.ensures (subst HaveNames (sym c.as_slice-machines.ensures) c.requires.names))

pub stations_of-requires-clause-known : goal.stations_of-requires-clause-known
stations_of-requires-clause-known g c =
    let machines = c.as_slice-machines.result.now in
    let columns = c.args.trace.now.columns in
    let starts = starts_of c.args.plan.now.ratios c.args.begin.now in
    let groups = c.in_ok-groups.groups in
    let hosts = groups.hosts.items in
    let threads = groups.threads.items in
    let members = map (λ list. list.items) groups.members.items in
    let can = subst (CanBuildAll starts columns) (sym c.as_slice-machines.ensures) c.requires.ready in
    let nodes = c.in_ok-hosts.hosts.items in
    let are : AreHosts starts columns machines members (length members) nodes =
    subst (λ (rs : List Ratio). AreHosts (starts_of rs c.args.begin.now) columns machines members (length members) nodes) c.as_slice.ensures
    (subst (λ k. AreHosts (starts_of c.as_slice.result.now c.args.begin.now) columns machines members k nodes) (sym (length-map groups.members.items (λ list. list.items)))
    (subst (λ l. AreHosts (starts_of c.as_slice.result.now c.args.begin.now) columns machines (map (λ list. list.items) l) (length l) nodes) c.deref.ensures.value c.in_ok-hosts.ensures.hosts))
    in
    subst (λ (hs : List ℕ). (m : ℕ) → m < length machines → value_at hs m < length c.deref-4.result.now) (sym c.deref-2.ensures.value)
    (subst (λ (ns : List (Node _)). (m : ℕ) → m < length machines → value_at hosts m < length ns) (sym c.deref-4.ensures.value)
    (host-known starts columns machines hosts threads members can c.in_ok-groups.ensures nodes are))

pub stations_of-requires-clause-ports : goal.stations_of-requires-clause-ports
stations_of-requires-clause-ports g c =
    let machines = c.as_slice-machines.result.now in
    let columns = c.args.trace.now.columns in
    let starts = starts_of c.args.plan.now.ratios c.args.begin.now in
    let groups = c.in_ok-groups.groups in
    let hosts = groups.hosts.items in
    let threads = groups.threads.items in
    let members = map (λ list. list.items) groups.members.items in
    let can = subst (CanBuildAll starts columns) (sym c.as_slice-machines.ensures) c.requires.ready in
    let nodes = c.in_ok-hosts.hosts.items in
    let are : AreHosts starts columns machines members (length members) nodes =
    subst (λ (rs : List Ratio). AreHosts (starts_of rs c.args.begin.now) columns machines members (length members) nodes) c.as_slice.ensures
    (subst (λ k. AreHosts (starts_of c.as_slice.result.now c.args.begin.now) columns machines members k nodes) (sym (length-map groups.members.items (λ list. list.items)))
    (subst (λ l. AreHosts (starts_of c.as_slice.result.now c.args.begin.now) columns machines (map (λ list. list.items) l) (length l) nodes) c.deref.ensures.value c.in_ok-hosts.ensures.hosts))
    in
    subst (λ (ns : List (Node _)). All HasPorts ns) (sym c.deref-4.ensures.value) (λ k d lt. (are.each k d (omega (arith, lt, are.total))).ports)

pub stations_of-requires-clause-there : goal.stations_of-requires-clause-there
stations_of-requires-clause-there g c =
    let machines = c.as_slice-machines.result.now in
    let columns = c.args.trace.now.columns in
    let starts = starts_of c.args.plan.now.ratios c.args.begin.now in
    let groups = c.in_ok-groups.groups in
    let hosts = groups.hosts.items in
    let threads = groups.threads.items in
    let members = map (λ list. list.items) groups.members.items in
    let can = subst (CanBuildAll starts columns) (sym c.as_slice-machines.ensures) c.requires.ready in
    let nodes = c.in_ok-hosts.hosts.items in
    let are : AreHosts starts columns machines members (length members) nodes =
    subst (λ (rs : List Ratio). AreHosts (starts_of rs c.args.begin.now) columns machines members (length members) nodes) c.as_slice.ensures
    (subst (λ k. AreHosts (starts_of c.as_slice.result.now c.args.begin.now) columns machines members k nodes) (sym (length-map groups.members.items (λ list. list.items)))
    (subst (λ l. AreHosts (starts_of c.as_slice.result.now c.args.begin.now) columns machines (map (λ list. list.items) l) (length l) nodes) c.deref.ensures.value c.in_ok-hosts.ensures.hosts))
    in
    subst (λ (ts : List ℕ). (m : ℕ) (any : Node _) → m < length machines → value_at ts m < length (machines_of (get_or c.deref-4.result.now (value_at c.deref-2.result.now m) any))) (sym c.deref-3.ensures.value)
    (subst (λ (hs : List ℕ). (m : ℕ) (any : Node _) → m < length machines → value_at threads m < length (machines_of (get_or c.deref-4.result.now (value_at hs m) any))) (sym c.deref-2.ensures.value)
    (subst (λ (ns : List (Node _)). (m : ℕ) (any : Node _) → m < length machines → value_at threads m < length (machines_of (get_or ns (value_at hosts m) any))) (sym c.deref-4.ensures.value)
    (thread-there starts columns machines hosts threads members can c.in_ok-groups.ensures nodes are)))
