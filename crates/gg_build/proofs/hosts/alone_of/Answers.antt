use Rattle.std.proofs.Common.{◌≡◌, ◌<◌, ◌^◌, ℕ, List, [], ◌∷◌, ◌++◌, Option, length, sym, ap₂, ◌∙◌, subst}
use Rattle.std.specs.Prelude.{All}
use Rattle.gg_part.specs.Building.{AreHeld}
use Rattle.gg_part.specs.inside.Choice.{IsChoice}
use Rattle.gg_part.specs.inside.Clocking.{AreTimed}
use Rattle.gg_cut_parts.proofs.DomainTimes.{whole-timed}
use Rattle.gg_build.proofs.hosts.alone_of.Goals as goal

pub part_of-requires-clause-timed : goal.part_of-requires-clause-timed
part_of-requires-clause-timed c =
    let piece = c.args.part.now.piece in
    let clocking = c.in_ok-clocking.clocking in
    let globals : c.deref.result.now ≡ piece.ins ++ piece.outs =
    c.deref.ensures.value ∙ c.in_ok-extend_from_slice.ensures.items ∙ ap₂ (λ (a b : List ℕ). a ++ b) (c.in_ok-globals.ensures.items ∙ c.ins.ensures) c.outs.ensures in
    let banks : c.deref-2.result.now ≡ 0 ∷ [] = c.deref-2.ensures.value ∙ c.in_ok-memories.ensures.items in
    subst (λ (l : List (Option ℕ)). AreTimed piece c.deref.result.now c.ins-2.result.now c.deref-2.result.now l clocking.registers clocking.ports) (sym (c.as_slice.ensures ∙ c.in_ok-clocks.ensures.clocks))
    (whole-timed piece c.requires.formed clocking c.in_ok-clocking.ensures c.deref.result.now c.ins-2.result.now c.deref-2.result.now
    (subst (λ (l : List ℕ). All (λ s. s < length piece.signals) l) (sym globals) c.requires.chosen.within)
    (subst (λ (l : List ℕ). All (λ m. m < length piece.memories) l) (sym banks) c.requires.chosen.memory_within))

pub part_of-requires-clause-formed : goal.part_of-requires-clause-formed
part_of-requires-clause-formed c = c.requires.formed

pub part_of-requires-clause-few : goal.part_of-requires-clause-few
part_of-requires-clause-few c = subst (λ (l : List (Option ℕ)). length l < 2 ^ 32) (sym c.as_slice.ensures) c.in_ok-clocks.ensures.few

pub part_of-requires-clause-chosen : goal.part_of-requires-clause-chosen
part_of-requires-clause-chosen c =
    let piece = c.args.part.now.piece in
    let globals : c.deref.result.now ≡ piece.ins ++ piece.outs =
    c.deref.ensures.value ∙ c.in_ok-extend_from_slice.ensures.items ∙ ap₂ (λ (a b : List ℕ). a ++ b) (c.in_ok-globals.ensures.items ∙ c.ins.ensures) c.outs.ensures in
    let banks : c.deref-2.result.now ≡ 0 ∷ [] = c.deref-2.ensures.value ∙ c.in_ok-memories.ensures.items in
    subst (λ (l : List ℕ). IsChoice piece c.deref.result.now c.ins-2.result.now c.outs-2.result.now l) (sym banks)
    (subst (λ (l : List ℕ). IsChoice piece c.deref.result.now c.ins-2.result.now l (0 ∷ [])) (sym c.outs-2.ensures)
    (subst (λ (l : List ℕ). IsChoice piece c.deref.result.now l piece.outs (0 ∷ [])) (sym c.ins-2.ensures)
    (subst (λ (l : List ℕ). IsChoice piece l piece.ins piece.outs (0 ∷ [])) (sym globals) c.requires.chosen)))

pub returns : goal.returns
returns c =
    let piece = c.args.part.now.piece in
    let made = c.in_ok-alone.ensures in
    let globals : c.deref.result.now ≡ piece.ins ++ piece.outs =
    c.deref.ensures.value ∙ c.in_ok-extend_from_slice.ensures.items ∙ ap₂ (λ (a b : List ℕ). a ++ b) (c.in_ok-globals.ensures.items ∙ c.ins.ensures) c.outs.ensures in
    record {
      is_part = made.part;
      clocks = made.clocks ∙ c.as_slice.ensures ∙ c.in_ok-clocks.ensures.clocks;
      globals = made.globals ∙ globals;
      ins = made.ins ∙ c.ins-2.ensures;
      outs = made.outs ∙ c.outs-2.ensures;
      memories = made.memories ∙ c.deref-2.ensures.value ∙ c.in_ok-memories.ensures.items;
      held = subst (λ (l : List ℕ). AreHeld piece l piece.ins c.in_ok-alone.alone.held) globals (subst (λ (l : List ℕ). AreHeld piece c.deref.result.now l c.in_ok-alone.alone.held) c.ins-2.ensures made.held);
    }
