use Rattle.std.proofs.Common.{◌≡◌, length, sym, ap, subst, ◌∙◌}
use Rattle.gg_cut_plan.specs.declared.plan.Body.{Body}
use Rattle.gg_cut_plan.specs.declared.plan.Body.TheVariants.{Source}
use Rattle.gg_flat.specs.Line.{value_at}
use Rattle.gg_build.specs.inside.Begin.{starts_of}
use Rattle.gg_build.specs.inside.Bridges.{HasOwn, KeepsOthers}
use Rattle.gg_build.specs.inside.Hosts.{IsSourceAt, CanBegin, CanBuild, IsBuiltWith, IsHost, outs_at}
use Rattle.gg_build.proofs.UnitLemmas.{body-of, outs-of}
use Rattle.gg_build.proofs.HostLemmas.{group-units, memory-hosts, own-by, source-hosts, tray-hosts, bridge-hosts}
use Rattle.gg_build.proofs.hosts.host_of.Goals as goal

pub cut_host-requires-clause-units : goal.cut_host-requires-clause-units
cut_host-requires-clause-units g c =
    let machines = c.args.machines.now in
    let group = c.args.group.now in
    let own = c.index-machines-number.result in
    group-units (starts_of c.args.ratios.now c.args.begin.now) c.args.trace.now.columns machines group c.in-Cut.part c.requires.group (body-of machines (value_at group 0) own (c.requires.group.known 0 0 c.requires.group.some) c.index-machines-number.is ∙ c.in-Cut.is)

pub cut_host-requires-clause-first : goal.cut_host-requires-clause-first
cut_host-requires-clause-first g c = body-of c.args.machines.now (value_at c.args.group.now 0) c.index-machines-number.result (c.requires.group.known 0 0 c.requires.group.some) c.index-machines-number.is ∙ c.in-Cut.is

pub returns-in_ok-node-in-Memory-clause-host : goal.returns-in_ok-node-in-Memory-clause-host
returns-in_ok-node-in-Memory-clause-host g c =
    let machines = c.args.machines.now in
    let group = c.args.group.now in
    memory-hosts (starts_of c.args.ratios.now c.args.begin.now) c.args.trace.now.columns machines group c.in_ok-node-in-Memory.node c.in-Memory.part c.requires.group
    (body-of machines (value_at group 0) c.index-machines-number.result (c.requires.group.known 0 0 c.requires.group.some) c.index-machines-number.is ∙ c.in-Memory.is) c.in_ok-node-in-Memory.ensures.host

pub source_host-requires : goal.source_host-requires
source_host-requires g c =
    let machines = c.args.machines.now in
    let m = value_at c.args.group.now 0 in
    let columns = c.args.trace.now.columns in
    let own = c.index-machines-number.result in
    let low = c.requires.group.known 0 0 c.requires.group.some in
    let can : IsSourceAt columns (outs_at machines m) c.in-Source.place = subst (CanBuild columns (outs_at machines m)) (body-of machines m own low c.index-machines-number.is ∙ c.in-Source.is) (c.requires.group.ready 0 c.requires.group.some) in
    subst (λ outs. IsSourceAt columns outs c.in-Source.place) (outs-of machines m own low c.index-machines-number.is ∙ ap length (sym c.as_slice.ensures)) can

pub returns-in_ok-node-in-Source-clause-host : goal.returns-in_ok-node-in-Source-clause-host
returns-in_ok-node-in-Source-clause-host g c =
    let machines = c.args.machines.now in
    let group = c.args.group.now in
    let columns = c.args.trace.now.columns in
    let own = c.index-machines-number.result in
    let node = c.in_ok-node-in-Source.node in
    let low = c.requires.group.known 0 0 c.requires.group.some in
    let count : length c.as_slice.result.now ≡ outs_at machines (value_at group 0) = ap length c.as_slice.ensures ∙ sym (outs-of machines (value_at group 0) own low c.index-machines-number.is) in
    source-hosts (starts_of c.args.ratios.now c.args.begin.now) columns machines group node c.in-Source.place c.requires.group (body-of machines (value_at group 0) own low c.index-machines-number.is ∙ c.in-Source.is)
    (subst (λ outs. IsHost (IsBuiltWith (starts_of c.args.ratios.now c.args.begin.now) columns outs (Source c.in-Source.place)) node) count c.in_ok-node-in-Source.ensures.host)

pub returns-in_ok-node-in-Tray-clause-host : goal.returns-in_ok-node-in-Tray-clause-host
returns-in_ok-node-in-Tray-clause-host g c =
    let machines = c.args.machines.now in
    let group = c.args.group.now in
    tray-hosts (starts_of c.args.ratios.now c.args.begin.now) c.args.trace.now.columns machines group c.in_ok-node-in-Tray.node c.requires.group
    (body-of machines (value_at group 0) c.index-machines-number.result (c.requires.group.known 0 0 c.requires.group.some) c.index-machines-number.is ∙ c.in-Tray.is) c.in_ok-node-in-Tray.ensures.host

pub memory_host-requires-clause-begin : goal.memory_host-requires-clause-begin
memory_host-requires-clause-begin g c =
    let machines = c.args.machines.now in
    let group = c.args.group.now in
    subst (CanBegin (starts_of c.args.ratios.now c.args.begin.now)) (body-of machines (value_at group 0) c.index-machines-number.result (c.requires.group.known 0 0 c.requires.group.some) c.index-machines-number.is ∙ c.in-Memory.is) (c.requires.group.begin 0 c.requires.group.some)

pub bridge_host-requires-clause-told : goal.bridge_host-requires-clause-told
bridge_host-requires-clause-told g c =
    let machines = c.args.machines.now in
    let group = c.args.group.now in
    subst (HasOwn g.B.Bridge.piece g.B.Bridge.state c.args.bridges.now) (body-of machines (value_at group 0) c.index-machines-number.result (c.requires.group.known 0 0 c.requires.group.some) c.index-machines-number.is ∙ c.in-Bridge.is) c.requires.told

pub bridge_host-requires-clause-ports : goal.bridge_host-requires-clause-ports
bridge_host-requires-clause-ports g c =
    let machines = c.args.machines.now in
    let m = value_at c.args.group.now 0 in
    subst (CanBuild c.args.trace.now.columns (outs_at machines m)) (body-of machines m c.index-machines-number.result (c.requires.group.known 0 0 c.requires.group.some) c.index-machines-number.is ∙ c.in-Bridge.is) (c.requires.group.ready 0 c.requires.group.some)

pub returns-in_ok-node-in-Bridge-clause-host : goal.returns-in_ok-node-in-Bridge-clause-host
returns-in_ok-node-in-Bridge-clause-host g c =
    let machines = c.args.machines.now in
    let group = c.args.group.now in
    bridge-hosts (starts_of c.args.ratios.now c.args.begin.now) c.args.trace.now.columns machines group c.in_ok-node-in-Bridge.node c.in-Bridge.body c.requires.group
    (body-of machines (value_at group 0) c.index-machines-number.result (c.requires.group.known 0 0 c.requires.group.some) c.index-machines-number.is ∙ c.in-Bridge.is) c.in_ok-node-in-Bridge.ensures.host

pub returns-in_ok-node-in-Bridge-clause-others : goal.returns-in_ok-node-in-Bridge-clause-others
returns-in_ok-node-in-Bridge-clause-others g c =
    let machines = c.args.machines.now in
    let group = c.args.group.now in
    subst (λ (body : Body). KeepsOthers body c.args.bridges.now c.bridge_host.new.bridges) (sym (body-of machines (value_at group 0) c.index-machines-number.result (c.requires.group.known 0 0 c.requires.group.some) c.index-machines-number.is ∙ c.in-Bridge.is)) c.in_ok-node-in-Bridge.ensures.others

pub returns-in_ok-node-in-Cut-clause-own : goal.returns-in_ok-node-in-Cut-clause-own
returns-in_ok-node-in-Cut-clause-own g c =
    let machines = c.args.machines.now in
    let group = c.args.group.now in
    own-by c.args.bridges.now machines (value_at group 0) c.in_ok-node-in-Cut.node (body-of machines (value_at group 0) c.index-machines-number.result (c.requires.group.known 0 0 c.requires.group.some) c.index-machines-number.is ∙ c.in-Cut.is) c.in_ok-node-in-Cut.ensures.kind

pub returns-in_ok-node-in-Memory-clause-own : goal.returns-in_ok-node-in-Memory-clause-own
returns-in_ok-node-in-Memory-clause-own g c =
    let machines = c.args.machines.now in
    let group = c.args.group.now in
    own-by c.args.bridges.now machines (value_at group 0) c.in_ok-node-in-Memory.node (body-of machines (value_at group 0) c.index-machines-number.result (c.requires.group.known 0 0 c.requires.group.some) c.index-machines-number.is ∙ c.in-Memory.is) c.in_ok-node-in-Memory.ensures.kind

pub returns-in_ok-node-in-Source-clause-own : goal.returns-in_ok-node-in-Source-clause-own
returns-in_ok-node-in-Source-clause-own g c =
    let machines = c.args.machines.now in
    let group = c.args.group.now in
    own-by c.args.bridges.now machines (value_at group 0) c.in_ok-node-in-Source.node (body-of machines (value_at group 0) c.index-machines-number.result (c.requires.group.known 0 0 c.requires.group.some) c.index-machines-number.is ∙ c.in-Source.is) c.in_ok-node-in-Source.ensures.kind

pub returns-in_ok-node-in-Tray-clause-own : goal.returns-in_ok-node-in-Tray-clause-own
returns-in_ok-node-in-Tray-clause-own g c =
    let machines = c.args.machines.now in
    let group = c.args.group.now in
    own-by c.args.bridges.now machines (value_at group 0) c.in_ok-node-in-Tray.node (body-of machines (value_at group 0) c.index-machines-number.result (c.requires.group.known 0 0 c.requires.group.some) c.index-machines-number.is ∙ c.in-Tray.is) c.in_ok-node-in-Tray.ensures.kind

pub returns-in_ok-node-in-Bridge-clause-own : goal.returns-in_ok-node-in-Bridge-clause-own
returns-in_ok-node-in-Bridge-clause-own g c =
    let machines = c.args.machines.now in
    let group = c.args.group.now in
    own-by c.args.bridges.now machines (value_at group 0) c.in_ok-node-in-Bridge.node (body-of machines (value_at group 0) c.index-machines-number.result (c.requires.group.known 0 0 c.requires.group.some) c.index-machines-number.is ∙ c.in-Bridge.is) c.in_ok-node-in-Bridge.ensures.own
