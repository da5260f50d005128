use Rattle.std.proofs.Common.{◌≡◌, ◌<◌, ℕ, List, Option, length, sym, ap, ◌∙◌, arith}
use Rattle.std.specs.Prelude.{All, Contains, slice_index_or}
use Rattle.std.proofs.lemmas.List.{get_or_default}
use Rattle.gg_node.specs.Machine.{first_empty, needs_at}
use Rattle.gg_fame5.specs.inside.Lane.{empty_count}
use Rattle.gg_fame5.proofs.EmptyLemmas.{none-missing}
use Rattle.gg_fame5.proofs.LaneLemmas.{missing-of}
use Rattle.gg_fame5.proofs.lane.Lane.missing.Goals as goal

pub first_empty-requires : goal.first_empty-requires
first_empty-requires c = λ k d below.
    let needs = c.needs-needs.result.now in
    let place = slice_index_or needs k d in
    let has : Contains needs place = (k, below, get_or_default needs k place d below) in
    omega (arith, ((c.needs-needs.ensures.exact.exact place).0 has).0, c.requires.lane.ins, ap (λ lane. length lane.latches) c.self.view_is, ap length c.as_slice.ensures.value)

pub returns-then-self-eq0 : goal.returns-then-self-eq0
returns-then-self-eq0 c =
    let program = c.args.program.now in
    let lane = c.args.self.now in
    let needs = c.needs-needs.result.now in
    let none : empty_count lane.latches ≡ 0 = ap (λ l. empty_count l.latches) (sym c.self.view_is) ∙ sym c.self.invariant ∙ c.if-self-eq0.true in
    let known : All (λ i. i < length lane.latches) needs = λ k d below.
    let place = slice_index_or needs k d in
    let has : Contains needs place = (k, below, get_or_default needs k place d below) in
    omega (arith, ((c.needs-needs.ensures.exact.exact place).0 has).0, c.requires.lane.ins) in
    sym (none-missing lane.latches needs none known)
    ∙ ap (first_empty lane.latches) (c.needs-needs.ensures.seen ∙ ap (needs_at program.needs) c.out.ensures.out)
    ∙ missing-of program lane c.args.place c.requires.lane c.requires.place

pub returns-else-self-eq0 : goal.returns-else-self-eq0
returns-else-self-eq0 c =
    let lane = c.args.self.now in
    let needs = c.args.program.now.needs in
    c.first_empty.ensures
    ∙ ap (λ (l : List (Option ℕ)). first_empty l c.needs-needs.result.now) (c.as_slice.ensures.value ∙ ap (λ lane. lane.latches) c.self.view_is)
    ∙ ap (first_empty lane.latches) (c.needs-needs.ensures.seen ∙ ap (needs_at needs) c.out.ensures.out)
    ∙ missing-of c.args.program.now lane c.args.place c.requires.lane c.requires.place
