-- More on Memories: what no promise of the program reaches.
-- Source: FIRRTL Specification, "Memories" (data type, depth, latencies, ports, read-under-write). This program's
-- profile: if a field occurs twice, the first counts; if read-under-write is missing, it is `undefined`.
use Rattle.std.specs.Prelude.{map}
use Rattle.gg_bits.specs.Shape.{shape}
use Rattle.gg_types.specs.declared.memory.Bank as kept
use Rattle.gg_types.specs.Memories.{Bank}

-- ---- a memory

-- a memory, as it is kept
abbrev pub bank_seen : kept.Bank → Bank
bank_seen b =
    record {
      word = shape b.word;
      depth = b.depth;
      latency = b.latency;
      readers = map (λ n. n.now) b.readers.items;
      writers = map (λ n. n.now) b.writers.items;
    }
