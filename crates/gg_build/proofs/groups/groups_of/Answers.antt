use Rattle.std.proofs.Common.{◌≡◌, ◌<◌, ◌≤◌, ℕ, List, Option, length, map, get_or, sym, ap, subst, ◌∙◌, arith}
use Rattle.std.proofs.lemmas.List.{length-map, get_or-map}
use Rattle.gg_flat.specs.Line.{value_at}
use Rattle.std.specs.Prelude.{All}
use Rattle.gg_flat.proofs.ListLemmas.{some-item}
use Rattle.gg_cut_plan.specs.declared.plan.Machine.{Machine}
use Rattle.gg_build.specs.inside.Groups.{IsHostFor, AreSoFar, group_at}
use Rattle.gg_build.proofs.GroupLemmas.{host-joins, so-far-more, so-far-all}
use Rattle.gg_build.proofs.groups.groups_of.Goals as goal

host-low : (machines : List Machine) (m : ℕ) (any : Machine) → m < length machines → All (λ machine. machine.host < length machines) machines → value_at (map (λ machine. machine.host) machines) m < length (map (λ machine. machine.host) machines)
host-low machines m any lt known =
    let at : value_at (map (λ machine. machine.host) machines) m ≡ (get_or machines m any).host = get_or-map (λ machine. machine.host) machines m any 0 lt in
    omega (arith, at, known m any lt, length-map machines (λ (machine : Machine). machine.host))

pub host_for-requires-clause-known : goal.host_for-requires-clause-known
host_for-requires-clause-known c =
    let machines = c.args.machines.now in
    let own = c.index-machines-number.result in
    let low = c.requires.known c.loop-number.number c.index-machines-number.result c.loop-number-test.true in
    subst (λ (m : Machine). m.host < length c.loop-number.numbers.items) (sym c.index-machines-number.is) (omega (arith, low, c.loop-number.invariant.size, length-map machines (λ (machine : Machine). machine.host)))

pub host_for-requires-clause-few : goal.host_for-requires-clause-few
host_for-requires-clause-few c =
    omega (arith, c.loop-number.invariant.most, c.loop-number-test.true, c.requires.few, length-map c.loop-number.members.items (λ list. list.items))

next-host : (machines : List Machine) (m : ℕ) (own : Machine) (host : ℕ) (numbers changed : List (Option ℕ)) (hosts threads : List ℕ) (members grown : List (List ℕ)) → m < length machines → own ≡ get_or machines m own → All (λ machine. machine.host < length machines) machines
    → AreSoFar (map (λ machine. machine.host) machines) m numbers hosts threads members → IsHostFor own.host host numbers changed members grown → (host < length grown) × (length (group_at grown host) ≤ m)
next-host machines m own host numbers changed hosts threads members grown lt is known was found =
    let planned = map (λ machine. machine.host) machines in
    let at : value_at planned m ≡ own.host = get_or-map (λ machine. machine.host) machines m own 0 lt ∙ sym (ap (λ machine. machine.host) is) in
    host-joins planned m host numbers changed hosts threads members grown (omega (arith, lt, length-map machines (λ (machine : Machine). machine.host))) (host-low machines m own lt known) was
    (subst (λ p. IsHostFor p host numbers changed members grown) (sym at) found)

pub join-requires-clause-known : goal.join-requires-clause-known
join-requires-clause-known c =
    let joins = next-host c.args.machines.now c.loop-number.number c.index-machines-number.result c.in_ok-host.host c.loop-number.numbers.items c.host_for.new.numbers.items c.loop-number.hosts.items c.loop-number.threads.items (map (λ list. list.items) c.loop-number.members.items) (map (λ list. list.items) c.host_for.new.members.items)
    c.loop-number-test.true c.index-machines-number.is c.requires.known c.loop-number.invariant c.in_ok-host.ensures in
    omega (arith, joins.0, length-map c.host_for.new.members.items (λ list. list.items))

pub join-requires-clause-few : goal.join-requires-clause-few
join-requires-clause-few c =
    let joins = next-host c.args.machines.now c.loop-number.number c.index-machines-number.result c.in_ok-host.host c.loop-number.numbers.items c.host_for.new.numbers.items c.loop-number.hosts.items c.loop-number.threads.items (map (λ list. list.items) c.loop-number.members.items) (map (λ list. list.items) c.host_for.new.members.items)
    c.loop-number-test.true c.index-machines-number.is c.requires.known c.loop-number.invariant c.in_ok-host.ensures in
    omega (arith, joins.1, c.loop-number-test.true, c.requires.few)

pub loop-number-preserved : goal.loop-number-preserved
loop-number-preserved c =
    let machines = c.args.machines.now in
    let planned = map (λ machine. machine.host) machines in
    let m = c.loop-number.number in
    let count : length planned ≡ length machines = length-map machines (λ machine. machine.host) in
    let own = c.index-machines-number.result in
    let at : value_at planned m ≡ own.host = get_or-map (λ machine. machine.host) machines m own 0 c.loop-number-test.true ∙ sym (ap (λ machine. machine.host) c.index-machines-number.is) in
    let grown = map (λ list. list.items) c.host_for.new.members.items in
    so-far-more planned m c.in_ok-host.host c.loop-number.numbers.items c.host_for.new.numbers.items c.loop-number.hosts.items c.loop-number.threads.items (map (λ list. list.items) c.loop-number.members.items) grown
    (omega (arith, c.loop-number-test.true, count)) (host-low machines m (some-item machines m c.loop-number-test.true) c.loop-number-test.true c.requires.known) c.loop-number.invariant
    c.in_ok-thread.thread c.push.new.self.items c.push-in-loop-number.new.self.items (map (λ list. list.items) c.join.new.members.items)
    (subst (λ p. IsHostFor p c.in_ok-host.host c.loop-number.numbers.items c.host_for.new.numbers.items (map (λ list. list.items) c.loop-number.members.items) grown) (sym at) c.in_ok-host.ensures)
    c.in_ok-thread.ensures.thread c.in_ok-push.ensures.items c.in_ok-push-2.ensures.items c.in_ok-thread.ensures.members

pub returns : goal.returns
returns c =
    let machines = c.args.machines.now in
    let planned = map (λ machine. machine.host) machines in
    let count : length planned ≡ length machines = length-map machines (λ machine. machine.host) in
    so-far-all planned c.loop-number.number c.loop-number.numbers.items c.loop-number.hosts.items c.loop-number.threads.items (map (λ list. list.items) c.loop-number.members.items) (omega (arith, count)) c.loop-number.invariant
