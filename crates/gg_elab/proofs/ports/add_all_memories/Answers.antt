use Rattle.std.proofs.Common.{◌<◌, List, ◌++◌, map, take, length, sym, ap, ◌∙◌, subst, arith}
use Rattle.gg_elab_sites.specs.inside.Views.{IsPlaceIn, own_bank_of, site_of}
use Rattle.gg_elab.specs.inside.Building.{HasMemories}
use Rattle.gg_elab_sites.specs.Flat.{FlatMemory, flat_memory, flat_memories}
use Rattle.gg_elab_sites.specs.Known.{types_of}
use Rattle.gg_elab_sites.specs.declared.digest.Digest.{Digest}
use Rattle.gg_elab_sites.specs.declared.digest.OwnMemory.{OwnMemory}
use Rattle.gg_elab_sites.specs.declared.sites.Place.{Place}
use Rattle.gg_elab_sites.proofs.FlatLemmas.{memories-more, digest-at}
use Rattle.gg_elab.proofs.WholeLemmas.{memories-own, memories-on}
use Rattle.gg_elab.proofs.ports.add_all_memories.Goals as goal

pub loop-place-preserved : goal.loop-place-preserved
loop-place-preserved c =
    let paths = c.args.table.now.paths in
    let modules = c.args.typed.now.circuit.modules in
    let types = types_of c.args.typed.now.circuit in
    let places = c.args.places.now in
    let i = c.loop-place.place-index in
    let p = c.place-item.result in
    let digest = c.index-digests-place.result in
    let f = λ (m : OwnMemory). flat_memory modules (site_of p) (own_bank_of m) in
    let within : i < length places = omega arith in
    let inside : IsPlaceIn modules p = subst (λ (x : Place). IsPlaceIn modules x) (sym c.place-item.is) (c.requires.places i p within) in
    let d = digest-at types modules c.args.digests.now p.number digest c.requires.digests inside.own c.index-digests-place.is in
    let said = flat_memories modules (map site_of (take i places)) in
    let new = c.add_memories.new.piece in
    let own = c.in_ok-add_memories.ensures said (memories-own paths said c.args.piece.now c.loop-place.piece c.loop-place.invariant) in
    let all = memories-on paths said (said ++ map f c.as_slice-memories.result.now) c.args.piece.now c.loop-place.piece new c.loop-place.invariant own in
    subst (λ (l : List FlatMemory). HasMemories paths l c.args.piece.now new) (sym (memories-more types modules places i p digest within c.place-item.is d))
    (subst (λ (l : List OwnMemory). HasMemories paths (said ++ map f l) c.args.piece.now new) (c.as_slice-memories.ensures.value ∙ ap (λ (x : Digest). x.memories.items) (sym c.index-digests-place.is)) all)
