use Rattle.std.proofs.Common.{refl, sym, ◌∙◌}
use Rattle.std.proofs.lemmas.Simd.{map-map}
use Rattle.gg_elab_sites.specs.IsFlat.{reader_of, writer_of}
use Rattle.gg_elab.specs.inside.Building.{memory_of}
use Rattle.gg_elab.proofs.ports.memory.Goals as goal

pub returns : goal.returns
returns c =
    let paths = c.args.site.now.table.now.paths in
    let said = memory_of c.args.site.now c.args.own.now in
    let bank = c.args.own.now.bank in
    record {
      word = refl;
      depth = refl;
      latency = refl;
      readers = c.from.ensures ∙ c.in_ok-readers.ensures ∙ sym (map-map (reader_of paths said) (λ n. n.now) bank.readers.items);
      writers = c.from-2.ensures ∙ c.in_ok-writers.ensures ∙ sym (map-map (writer_of paths said) (λ n. n.now) bank.writers.items);
    }
