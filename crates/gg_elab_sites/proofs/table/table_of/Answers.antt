use Rattle.std.proofs.Common.{◌≡◌, ◌+◌, ◌<◌, List, ◌++◌, map, take, length, sym, ap, ap₂, ◌∙◌, subst, arith}
use Rattle.std.proofs.lemmas.List.{map-append}
use Rattle.std.proofs.lemmas.Simd.{map-map}
use Rattle.gg_bits.specs.Shape.{shape}
use Rattle.gg_flat_tree.specs.Tree.{joined}
use Rattle.gg_elab_sites.specs.Flat.{FlatSignal, flat_signal, signals_at, flat_signals, FlatMemory, flat_memory, memories_at, flat_memories}
use Rattle.gg_elab_sites.specs.inside.Views.{table_signals, own_of, own_bank_of, site_of}
use Rattle.gg_elab_sites.specs.IsFlat.{signals_of, memory_paths}
use Rattle.gg_elab_sites.specs.Known.{types_of}
use Rattle.gg_elab_sites.specs.Meaning.{Signals}
use Rattle.gg_elab_sites.specs.declared.digest.OwnMemory.{OwnMemory}
use Rattle.gg_elab_sites.specs.declared.own.OwnSignal.{OwnSignal}
use Rattle.gg_elab_sites.specs.declared.sites.Place.{Place}
use Rattle.gg_elab_sites.proofs.FlatLemmas.{signals-more, memories-more, digest-at, table-more, memory_paths-more}
use Rattle.gg_elab_sites.proofs.FreshLemmas.{parts-front}
use Rattle.gg_elab_sites.proofs.NameLemmas.{Differ}
use Rattle.gg_elab_sites.proofs.table.table_of.Goals as goal

pub loop-place-preserved : goal.loop-place-preserved
loop-place-preserved c =
    let modules = c.args._typed.now.circuit.modules in
    let types = types_of c.args._typed.now.circuit in
    let places = c.args.places.now in
    let i = c.loop-place.place-index in
    let p = c.place-item.result in
    let digest = c.index-digests-place.result in
    let within : i < length places = omega arith in
    let inside : p.number < length modules = subst (λ (x : Place). x.number < length modules) (sym c.place-item.is) (c.requires.numbers i p within) in
    let d = digest-at types modules c.args.digests.now p.number digest c.requires.digests inside c.index-digests-place.is in
    let xs = flat_signals types modules (map site_of (take i places)) in
    let banks = flat_memories modules (map site_of (take i places)) in
    let one = c.add_signals.new.table in
    let two = c.add_memories.new.table in
    let a = c.in_ok-add_signals.ensures in
    let b = c.in_ok-add_memories.ensures in
    let kept : table_signals two ≡ table_signals one = λ k. record { paths = b.paths k; shapes = map (λ t. shape t) (b.types k).items } in
    let signals = table-more modules xs p digest.signals.items c.loop-place.table one c.loop-place.invariant.0
    (a.paths ∙ ap (λ (l : List OwnSignal). c.loop-place.table.paths ++ map (λ s. joined p.path s.name) l) c.as_slice.ensures.value)
    (a.types ∙ ap (λ (l : List OwnSignal). map (λ t. shape t) c.loop-place.table.types.items ++ map (λ s. shape s.ty) l) c.as_slice.ensures.value) in
    let memories = memory_paths-more modules banks p digest.memories.items one.memories two.memories (a.memories ∙ c.loop-place.invariant.1)
    (b.memories ∙ ap (λ (l : List OwnMemory). one.memories ++ map (λ m. joined p.path m.name.now) l) c.as_slice-in-loop-place.ensures.value) in (
      kept ∙ signals ∙ ap signals_of (sym (signals-more types modules places i p digest within c.place-item.is d)),
      memories ∙ ap memory_paths (sym (memories-more types modules places i p digest within c.place-item.is d)),
    )

pub add_signals-requires : goal.add_signals-requires
add_signals-requires c =
    let modules = c.args._typed.now.circuit.modules in
    let types = types_of c.args._typed.now.circuit in
    let places = c.args.places.now in
    let i = c.loop-place.place-index in
    let p = c.place-item.result in
    let digest = c.index-digests-place.result in
    let within : i < length places = omega arith in
    let inside : p.number < length modules = subst (λ (x : Place). x.number < length modules) (sym c.place-item.is) (c.requires.numbers i p within) in
    let d = digest-at types modules c.args.digests.now p.number digest c.requires.digests inside c.index-digests-place.is in
    let more : map (λ (x : FlatSignal). x.path) (flat_signals types modules (map site_of (take (i + 1) places))) ≡ c.loop-place.table.paths ++ map (λ (s : OwnSignal). joined p.path s.name) c.as_slice.result.now =
    ap (λ (l : List FlatSignal). map (λ (x : FlatSignal). x.path) l) (signals-more types modules places i p digest within c.place-item.is d)
    ∙ map-append (λ (x : FlatSignal). x.path) (flat_signals types modules (map site_of (take i places))) (map (λ (o : OwnSignal). flat_signal modules (site_of p) (own_of o)) digest.signals.items)
    ∙ ap₂ (λ xs ys. xs ++ ys) (sym (ap (λ (s : Signals). s.paths) c.loop-place.invariant.0)) (map-map (λ (x : FlatSignal). x.path) (λ (o : OwnSignal). flat_signal modules (site_of p) (own_of o)) digest.signals.items)
    ∙ ap (λ (l : List OwnSignal). c.loop-place.table.paths ++ map (λ s. joined p.path s.name) l) (sym c.as_slice.ensures.value) in
    record { distinct = subst Differ more (parts-front (λ (x : FlatSignal). x.path) (signals_at types modules) site_of places (i + 1) c.requires.signals) }

pub add_memories-requires : goal.add_memories-requires
add_memories-requires c =
    let modules = c.args._typed.now.circuit.modules in
    let types = types_of c.args._typed.now.circuit in
    let places = c.args.places.now in
    let i = c.loop-place.place-index in
    let p = c.place-item.result in
    let digest = c.index-digests-place.result in
    let within : i < length places = omega arith in
    let inside : p.number < length modules = subst (λ (x : Place). x.number < length modules) (sym c.place-item.is) (c.requires.numbers i p within) in
    let d = digest-at types modules c.args.digests.now p.number digest c.requires.digests inside c.index-digests-place.is in
    let more : memory_paths (flat_memories modules (map site_of (take (i + 1) places))) ≡ c.add_signals.new.table.memories ++ map (λ (m : OwnMemory). joined p.path m.name.now) c.as_slice-in-loop-place.result.now =
    ap memory_paths (memories-more types modules places i p digest within c.place-item.is d)
    ∙ map-append (λ (x : FlatMemory). x.path) (flat_memories modules (map site_of (take i places))) (map (λ (m : OwnMemory). flat_memory modules (site_of p) (own_bank_of m)) digest.memories.items)
    ∙ ap₂ (λ xs ys. xs ++ ys) (sym (c.in_ok-add_signals.ensures.memories ∙ c.loop-place.invariant.1)) (map-map (λ (x : FlatMemory). x.path) (λ (m : OwnMemory). flat_memory modules (site_of p) (own_bank_of m)) digest.memories.items)
    ∙ ap (λ (l : List OwnMemory). c.add_signals.new.table.memories ++ map (λ m. joined p.path m.name.now) l) (sym c.as_slice-in-loop-place.ensures.value) in
    record { distinct = subst Differ more (parts-front (λ (x : FlatMemory). x.path) (memories_at modules) site_of places (i + 1) c.requires.memories) }
