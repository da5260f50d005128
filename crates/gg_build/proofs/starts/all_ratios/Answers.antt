use Rattle.std.proofs.Common.{◌≡◌, take, length, sym, ap, ◌∙◌, arith}
use Rattle.std.proofs.Math.Seq.{take-length}
use Rattle.gg_flat.specs.Line.{value_at}
use Rattle.gg_cut_plan.specs.declared.plan.Body.{Body}
use Rattle.gg_build.specs.inside.Begin.{starts_of}
use Rattle.gg_build.specs.inside.Hosts.{body_at, ratios_for}
use Rattle.gg_build.proofs.UnitLemmas.{body-of, grown-by}
use Rattle.gg_build.proofs.starts.all_ratios.Goals as goal

pub loop-thread-preserved : goal.loop-thread-preserved
loop-thread-preserved c =
    let machines = c.args.machines.now in
    let group = c.args.group.now in
    let starts = starts_of c.args.ratios.now c.args.begin.now in
    let t = c.loop-thread.thread in
    grown-by (λ m. (starts (body_at machines m)).ratios) group t c.loop-thread.lists.items c.push.new.self.items c.in_ok-own.own c.loop-thread-test.true c.in_ok-push.ensures.items
    (c.in_ok-own.ensures ∙ ap (λ (b : Body). (starts b).ratios) (sym (body-of machines (value_at group t) c.index-machines-number.result (c.requires t 0 c.loop-thread-test.true) c.index-machines-number.is)))
    c.loop-thread.invariant

pub returns : goal.returns
returns c =
    let machines = c.args.machines.now in
    let group = c.args.group.now in
    let starts = starts_of c.args.ratios.now c.args.begin.now in
    c.loop-thread.invariant
    ∙ ap (λ t. ratios_for starts machines (take t group)) (let same : c.loop-thread.thread ≡ length group = omega arith in same)
    ∙ ap (ratios_for starts machines) (take-length group)
