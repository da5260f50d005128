use Rattle.std.proofs.Common.{◌≡◌, ℕ, ◌<◌, List, [], ◌∷◌, ◌++◌, length, sym, ap, ◌∙◌, subst, arith}
use Rattle.std.specs.Prelude.{sum_by}
use Rattle.std.proofs.lemmas.List.{get_or_read}
use Rattle.std.proofs.lemmas.List.Elements.{Contains-push}
use Rattle.gg_graph.specs.inside.Walk.{stage_at, weight}
use Rattle.gg_graph.specs.Graph.{node_at}
use Rattle.gg_graph.specs.declared.state.Stage.{Stage}
use Rattle.gg_graph.specs.declared.state.Stage.TheVariants.{New, Open, Done}
use Rattle.gg_graph.proofs.RingLemmas.{IsChain-push}
use Rattle.gg_graph.proofs.StageLemmas.{weight-smaller}
use Rattle.gg_graph.proofs.StepLemmas.{at-within, Walks-same, Walks-scan, Walks-enter, Walks-leave, IsRing-end}
use Rattle.gg_graph.proofs.descent.step.Goals as goal

pub index-start-requires : goal.index-start-requires
index-start-requires g c =
    let walk = c.args.walk.now in
    omega (arith, at-within c.args.node c.requires.walks (Contains-push walk.path.items c.args.node), c.requires.walks.place_count, walk.places.ok.0)

pub next_candidate-requires-clause-node : goal.next_candidate-requires-clause-node
next_candidate-requires-clause-node g c =
    at-within c.args.node c.requires.walks (Contains-push c.args.walk.now.path.items c.args.node)

pub next_candidate-requires-clause-scanned : goal.next_candidate-requires-clause-scanned
next_candidate-requires-clause-scanned g c = λ t below.
    let walk = c.args.walk.now in
    let lt : c.args.node < length walk.places.items = omega (arith, at-within c.args.node c.requires.walks (Contains-push walk.path.items c.args.node), c.requires.walks.place_count) in
    let start : c.index-start.result.now ≡ node_at walk.places.items c.args.node = get_or_read walk.places.items c.args.node c.index-start.result.now lt c.index-start.ensures 0 in
    ap (λ (l : List Stage). stage_at l t) c.as_slice.ensures.value
    ∙ c.requires.walks.scanned c.args.node t (subst (λ (p : ℕ). g.G.Graph.edge_below c.args.graph.now c.args.node p t) start below)

pub leave-requires : goal.leave-requires
leave-requires g c =
    omega (arith, at-within c.args.node c.requires.walks (Contains-push c.args.walk.now.path.items c.args.node), c.requires.walks.stage_count)

pub enter-requires-clause-node : goal.enter-requires-clause-node
enter-requires-clause-node g c =
    omega (arith, at-within c.args.node c.requires.walks (Contains-push c.args.walk.now.path.items c.args.node), c.requires.walks.place_count)

pub returns-in_ok-leave-in-None-clause-walks : goal.returns-in_ok-leave-in-None-clause-walks
returns-in_ok-leave-in-None-clause-walks g c =
    let walk = c.args.walk.now in
    let left = c.in_ok-leave-in-None.ensures in
    let done : (t : ℕ) → g.G.Graph.edge c.args.graph.now c.args.node t → stage_at walk.stages.items t ≡ Done =
    λ t edge. ap (λ (l : List Stage). stage_at l t) (sym c.as_slice.ensures.value) ∙ c.in-None.ensures.none t edge in
    Walks-same left.path (sym left.stages) (sym c.leave.ensures.places) (sym left.order)
    (Walks-leave walk.path.items c.args.node c.requires.walks done)

pub returns-in_ok-leave-in-None-clause-smaller : goal.returns-in_ok-leave-in-None-clause-smaller
returns-in_ok-leave-in-None-clause-smaller g c =
    let walk = c.args.walk.now in
    let at : stage_at walk.stages.items c.args.node ≡ Open = c.requires.walks.opened c.args.node (Contains-push walk.path.items c.args.node) in
    let lt : c.args.node < length walk.stages.items = omega (arith, at-within c.args.node c.requires.walks (Contains-push walk.path.items c.args.node), c.requires.walks.stage_count) in
    subst (λ (l : List Stage). sum_by weight l < sum_by weight walk.stages.items) (sym c.in_ok-leave-in-None.ensures.stages)
    (weight-smaller walk.stages.items c.args.node Done Open lt at (omega arith))

pub returns-in_ok-enter-in-New-clause-walks : goal.returns-in_ok-enter-in-New-clause-walks
returns-in_ok-enter-in-New-clause-walks g c =
    let walk = c.args.walk.now in
    let found = c.in-Some.found in
    let told = c.in-Some.ensures in
    let gone = c.in_ok-enter-in-New.ensures in
    let lt : found.node < length walk.stages.items = omega (arith, told.within, c.requires.walks.stage_count) in
    let fresh : stage_at walk.stages.items found.node ≡ New = sym (get_or_read walk.stages.items found.node c.index.result.now lt c.index.ensures New) ∙ c.in-New.is in
    let done : (t : ℕ) → g.G.Graph.edge_below c.args.graph.now c.args.node found.place t → stage_at walk.stages.items t ≡ Done =
    λ t below. ap (λ (l : List Stage). stage_at l t) (sym c.as_slice.ensures.value) ∙ told.scanned t below in
    let at = at-within c.args.node c.requires.walks (Contains-push walk.path.items c.args.node) in
    Walks-same (ap (λ (l : List ℕ). l ++ found.node ∷ []) (sym gone.path)) (sym gone.stages) (sym gone.places) (sym c.enter.ensures.order)
    (Walks-enter found.node (Walks-scan c.args.node found.place c.requires.walks at done) told.within fresh
    (IsChain-push (g.G.Graph.edge c.args.graph.now) walk.path.items c.args.node found.node c.requires.walks.chain told.edge))

pub returns-in_ok-ring_of-in-Open : goal.returns-in_ok-ring_of-in-Open
returns-in_ok-ring_of-in-Open g c = record {
  walks = tt;
  path = tt;
  stays_met = tt;
  smaller = tt;
  ring = IsRing-end c.args.walk.now.path.items c.args.node c.in-Some.found.node c.in_ok-ring_of-in-Open.field-0.items c.requires.walks c.in-Some.ensures.edge c.in_ok-ring_of-in-Open.ensures;
}
