use Rattle.std.proofs.Common.{◌<◌, ◌≤◌, List, length, get_or, ◌∙◌, ap, arith}
use Rattle.gg_cut_plan.specs.declared.listed.Listed.{Listed}
use Rattle.gg_cut_split.specs.declared.share.Share.{Share}
use Rattle.gg_cut_parts.specs.declared.draft.Draft.{Draft}
use Rattle.gg_cut_machines.proofs.WireLemmas.{low-within}
use Rattle.gg_cut.proofs.ShareLemmas.{draft-part}
use Rattle.gg_cut.proofs.machines.part_at.Goals as goal

pub taken-requires : goal.taken-requires
taken-requires c = let low = low-within c.args.making.now.draft.now c.requires.making.draft c.args.number c.requires.known in omega (arith, low, c.requires.making.places.into.many)

pub given-requires : goal.given-requires
given-requires c = let low = low-within c.args.making.now.draft.now c.requires.making.draft c.args.number c.requires.known in omega (arith, low, c.requires.making.places.from.many)

pub part_body-requires-clause-machine : goal.part_body-requires-clause-machine
part_body-requires-clause-machine c =
    let making = c.args.making.now in
    let draft = making.draft.now in
    let n = c.args.number in
    let is = c.requires.making in
    let low = low-within draft is.draft n c.requires.known in
    let before = c.index-shares-number.result in
    record {
      draft = is.draft;
      known = c.requires.known;
      domains = is.domains;
      share = draft-part draft is.draft (record { formed = c.piece.ensures.formed; ordered = c.order.ensures.ordered }) making.hub.now before n c.taken.result.now c.given.result.now c.kept_signals.result.now c.as_slice.result.now c.requires.known is.hub
          (c.index-shares-number.is ∙ ap (λ (l : List Share). get_or l n before) c.as_slice-shares.ensures)
          (c.taken.ensures ∙ is.places.into.each n low) (c.given.ensures ∙ is.places.from.each n low) c.kept_signals.ensures c.as_slice.ensures;
    }

pub part_body-requires-clause-first : goal.part_body-requires-clause-first
part_body-requires-clause-first c =
    let making = c.args.making.now in
    let n = c.args.number in
    let hosts = c.requires.making.places.hosts in
    let low = low-within making.draft.now c.requires.making.draft n c.requires.known in
    ap (λ l. get_or l n 0) c.deref-leaders.ensures.value ∙ hosts.first n low
