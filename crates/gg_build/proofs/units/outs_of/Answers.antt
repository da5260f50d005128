use Rattle.std.proofs.Common.{◌<◌, length, map, sym, ap, subst, ◌∙◌}
use Rattle.std.specs.Prelude.{All}
use Rattle.gg_cut_plan.specs.declared.plan.Body.{Body}
use Rattle.gg_flat.specs.Line.{value_at}
use Rattle.gg_build.specs.inside.Hosts.{ArePickedFor}
use Rattle.gg_build.proofs.UnitLemmas.{like-outs, outs-known, outs-picked}
use Rattle.gg_build.proofs.units.outs_of.Goals as goal

pub picked-requires : goal.picked-requires
picked-requires c =
    let piece = c.args._piece.now in
    let part = c.in-Cut.part in
    subst (All (λ s. s < length c.args.places.now)) (sym c.outs.ensures) (outs-known piece c.args.places.now c.requires.formed c.requires.places part.piece.outs (like-outs piece c.args.body.now part c.in-Cut.is c.requires.like))

pub returns : goal.returns
returns c =
    let piece = c.args._piece.now in
    let part = c.in-Cut.part in
    let own = c.in_ok-outs-in-Cut in
    subst (λ (b : Body). ArePickedFor piece.outs b own.outs) (sym c.in-Cut.is)
    (outs-picked piece c.args.places.now c.requires.formed c.requires.places part.piece.outs own.outs (like-outs piece c.args.body.now part c.in-Cut.is c.requires.like) (own.ensures ∙ ap (map (value_at c.args.places.now)) c.outs.ensures))
