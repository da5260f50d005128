use Rattle.std.proofs.Common.{◌≡◌, ◌≢◌, ◌⊎◌, ℕ, List, Bool, true, length, subst, sym, ap, ◌∙◌, arith}
use Rattle.std.specs.Prelude.{All, AllPairs, Contains}
use Rattle.gg_order.specs.Marks.{is_marked}
use Rattle.gg_program.specs.Slots.{Slotted}
use Rattle.gg_program.specs.Right.{AreRight, InCycle}
use Rattle.gg_program.specs.inside.Right.{IsInner}
use Rattle.gg_program.specs.inside.Search.{IsGathered, StandBehind}
use Rattle.gg_program.proofs.GatherLemmas.{IsGathered-moved}
use Rattle.gg_program.proofs.CycleLemmas.{StandBehind-sorted, found-inner, InCycle-reached, DoneWith-gathered}
use Rattle.gg_program.specs.Unset.{unset_among}
use Rattle.gg_program.proofs.UnsetLemmas.{unset-found}
use Rattle.gg_program.proofs.slots.Slots.cone.Goals as goal

pub work_out-requires-clause-inner : goal.work_out-requires-clause-inner
work_out-requires-clause-inner g c =
    let circuit = c.args.piece.now in
    let out = c.args.signal in
    let slots = c.args.self.now in
    let search = c.sort.new.self in
    let moved = IsGathered-moved circuit out c.self.inside.search.marks c.gather.new.self search c.sort.ensures.marks c.sort.ensures.same c.gather.ensures in
    let gathered : IsGathered circuit out slots.done search = subst (λ (s : Slotted). IsGathered circuit out s.done search) c.self.view_is moved in
    subst (All (IsInner circuit)) (sym c.found.ensures) (found-inner circuit out slots search c.requires.formed c.requires.known c.requires.needed gathered)

pub returns-clause-cycle : goal.returns-clause-cycle
returns-clause-cycle g c =
    let circuit = c.args.piece.now in
    let state = c.args.state.now in
    let out = c.args.signal in
    let slots = c.args.self.now in
    let search = c.sort.new.self in
    let cells = c.work_out.new.cells in
    let moved = IsGathered-moved circuit out c.self.inside.search.marks c.gather.new.self search c.sort.ensures.marks c.sort.ensures.same c.gather.ensures in
    let gathered : IsGathered circuit out slots.done search = subst (λ (s : Slotted). IsGathered circuit out s.done search) c.self.view_is moved in
    let behind : StandBehind circuit slots.done c.found.result.now = subst (StandBehind circuit slots.done) (sym c.found.ensures) (StandBehind-sorted circuit out slots.done search c.requires.ordered c.sort.ensures.sorted gathered) in
    let lent : c.self.inside.cells.values ≡ slots.values = ap (λ (s : Slotted). s.values) c.self.view_is in
    let first : AreRight circuit state c.self.inside.cells.values (λ s. is_marked slots.done s ≡ true) = subst (λ (l : List ℕ). AreRight circuit state l (λ s. is_marked slots.done s ≡ true)) (sym lent) c.requires.cycle.right in
    let right : AreRight circuit state cells.values (λ s. (is_marked slots.done s ≡ true) ⊎ Contains search.found s) =
    subst (λ (l : List ℕ). AreRight circuit state cells.values (λ s. (is_marked slots.done s ≡ true) ⊎ Contains l s)) c.found.ensures (c.work_out.ensures.right slots.done behind first) in
    let same : cells.room ≡ slots.room = c.work_out.ensures.room ∙ ap (λ (s : Slotted). s.room) c.self.view_is in
    subst (λ (l : List Bool). InCycle circuit state (record { values = cells.values; done = l; room = cells.room })) (sym c.forget.ensures.marks)
    (InCycle-reached circuit state out slots search cells.values cells.room c.requires.cycle.held same c.work_out.ensures.typed gathered right)

pub returns-clause-steps : goal.returns-clause-steps
returns-clause-steps g c =
    let circuit = c.args.piece.now in
    let out = c.args.signal in
    let slots = c.args.self.now in
    let search = c.sort.new.self in
    let moved = IsGathered-moved circuit out c.self.inside.search.marks c.gather.new.self search c.sort.ensures.marks c.sort.ensures.same c.gather.ensures in
    let gathered : IsGathered circuit out slots.done search = subst (λ (s : Slotted). IsGathered circuit out s.done search) c.self.view_is moved in
    let inner : All (IsInner circuit) search.found = found-inner circuit out slots search c.requires.formed c.requires.known c.requires.needed gathered in
    let once : AllPairs (λ a b. a ≢ b) search.found = c.sort.ensures.once in
    omega (arith, unset-found circuit out slots.done search once inner gathered, c.work_out.ensures.steps, ap (λ (l : List ℕ). length l) c.found.ensures, ap (unset_among circuit) c.forget.ensures.marks)

pub returns-clause-done : goal.returns-clause-done
returns-clause-done g c =
    let circuit = c.args.piece.now in
    let out = c.args.signal in
    let slots = c.args.self.now in
    let search = c.sort.new.self in
    let moved = IsGathered-moved circuit out c.self.inside.search.marks c.gather.new.self search c.sort.ensures.marks c.sort.ensures.same c.gather.ensures in
    let gathered : IsGathered circuit out slots.done search = subst (λ (s : Slotted). IsGathered circuit out s.done search) c.self.view_is moved in
    let after : Slotted = record { values = c.work_out.new.cells.values; done = c.forget.new.self.marks; room = c.work_out.new.cells.room } in
    DoneWith-gathered circuit out slots after search gathered c.forget.ensures.marks
