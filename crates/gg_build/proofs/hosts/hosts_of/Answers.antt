use Rattle.std.proofs.Common.{◌≡◌, ◌<◌, ℕ, List, Some, length, map, ap, sym, subst, ◌∙◌, arith}
use Rattle.std.proofs.lemmas.List.{length-map}
use Rattle.gg_flat.specs.Line.{value_at}
use Rattle.gg_build.specs.inside.Begin.{starts_of}
use Rattle.gg_build.specs.inside.Groups.{group_at}
use Rattle.gg_build.specs.inside.Bridges.{HasOwn, KeepsOthers, bridge_named}
use Rattle.gg_build.specs.inside.Hosts.{IsGroup, IsHostOf, IsOwnHost, body_at, first_body}
use Rattle.gg_build.proofs.BridgeLemmas.{bridges-left, same-start, same-still}
use Rattle.gg_build.proofs.GroupLemmas.{shown-at}
use Rattle.gg_build.proofs.HostLemmas.{hosts-more, own-as-was, own-more}
use Rattle.gg_build.proofs.hosts.hosts_of.Goals as goal

pub loop-host-init : goal.loop-host-init
loop-host-init g c =
    record {
      hosts = record { total = ap length c.new-nodes.ensures.items; each = λ h any lt. absurd (omega (arith, lt)) };
      own = λ h any lt. absurd (omega (arith, lt));
      left = c.requires.bridges;
      same = λ k from lt. same-start (first_body c.args.machines.now (map (λ list. list.items) c.args.members.now) k) c.args.bridges.now;
    }

pub host_of-requires-clause-group : goal.host_of-requires-clause-group
host_of-requires-clause-group g c =
    let members = c.args.members.now in
    let h = c.loop-host.host in
    let group : c.deref.result.now ≡ group_at (map (λ list. list.items) members) h = c.deref.ensures.value ∙ shown-at (λ list. list.items) members h c.index-members-host.result c.loop-host-test.true c.index-members-host.is in
    subst (IsGroup (starts_of c.args.ratios.now c.args.begin.now) c.args.trace.now.columns c.args.machines.now) (sym group) (c.requires.groups h c.loop-host-test.true)

pub loop-host-preserved : goal.loop-host-preserved
loop-host-preserved g c =
    let members = c.args.members.now in
    let machines = c.args.machines.now in
    let columns = c.args.trace.now.columns in
    let h = c.loop-host.host in
    let node = c.in_ok-node.node in
    let members' = map (λ list. list.items) members in
    let low : h < length members' = omega (arith, c.loop-host-test.true, length-map members (λ list. list.items)) in
    let group : c.deref.result.now ≡ group_at (map (λ list. list.items) members) h = c.deref.ensures.value ∙ shown-at (λ list. list.items) members h c.index-members-host.result c.loop-host-test.true c.index-members-host.is in
    let others = subst (λ (l : List ℕ). KeepsOthers (body_at machines (value_at l 0)) c.loop-host.bridges c.host_of.new.bridges) group c.in_ok-node.ensures.others in
    record {
      hosts = hosts-more (starts_of c.args.ratios.now c.args.begin.now) columns machines (map (λ list. list.items) members) h c.loop-host.nodes.items c.push.new.self.items node c.in_ok-push.ensures.items c.loop-host.invariant.hosts
          (subst (λ (l : List ℕ). IsHostOf (starts_of c.args.ratios.now c.args.begin.now) columns machines l node) group c.in_ok-node.ensures.host);
      left = bridges-left g.B.Bridge.piece g.B.Bridge.state machines (map (λ list. list.items) members) h c.loop-host.bridges c.host_of.new.bridges (omega (arith, c.loop-host-test.true, length-map members (λ list. list.items))) c.requires.apart
          others c.loop-host.invariant.left;
      own = own-more c.args.bridges.now machines members' h c.loop-host.nodes.items c.push.new.self.items node c.in_ok-push.ensures.items c.loop-host.invariant.hosts.total c.loop-host.invariant.own
          (own-as-was (first_body machines members' h) c.args.bridges.now c.loop-host.bridges node (c.loop-host.invariant.same h (omega arith) low)
          (subst (λ (l : List ℕ). IsOwnHost (λ name bridge. bridge_named c.loop-host.bridges name ≡ Some bridge) (body_at machines (value_at l 0)) node) group c.in_ok-node.ensures.own));
      same = λ k from lt. same-still (first_body machines members' h) (first_body machines members' k) c.args.bridges.now c.loop-host.bridges c.host_of.new.bridges (c.requires.apart h k (omega (arith, from)) lt) others (c.loop-host.invariant.same k (omega (arith, from)) lt);
    }

pub host_of-requires-clause-told : goal.host_of-requires-clause-told
host_of-requires-clause-told g c =
    let members = c.args.members.now in
    let machines = c.args.machines.now in
    let h = c.loop-host.host in
    let group : c.deref.result.now ≡ group_at (map (λ list. list.items) members) h = c.deref.ensures.value ∙ shown-at (λ list. list.items) members h c.index-members-host.result c.loop-host-test.true c.index-members-host.is in
    subst (λ (l : List ℕ). HasOwn g.B.Bridge.piece g.B.Bridge.state c.loop-host.bridges (body_at machines (value_at l 0))) (sym group) (c.loop-host.invariant.left h (omega arith) (omega (arith, c.loop-host-test.true, length-map members (λ list. list.items))))
