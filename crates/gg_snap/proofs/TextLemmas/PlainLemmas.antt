-- The paths of all rows of a table have no blank and no line feed.
use Rattle.std.proofs.Common.{◌≡◌, ℕ, zero, suc, ◌+◌, List, [], ◌++◌, length, map, Option, Some, None, codes, refl, sym, subst, inl, inr}
use Rattle.std.specs.Prelude.{All}
use Rattle.std.specs.List.{flat_map, range_with_len}
use Rattle.std.proofs.lemmas.Bool.{cases_lt}
use Rattle.std.proofs.lemmas.List.{get_or_past}
use Rattle.std.proofs.lemmas.List.Elements.{All-get_or}
use Rattle.gg_flat.specs.declared.piece.Driver.{Driver}
use Rattle.gg_flat.specs.declared.piece.Driver.TheVariants.{Held, ReadRegister}
use Rattle.gg_flat.specs.Circuit.{FlatCircuit, signal_shapes, driver_at}
use Rattle.gg_flat.specs.Line.{shape_at}
use Rattle.gg_flat_tree.specs.Tree.{InstanceTree, path_at, memory_at}
use Rattle.gg_snap.specs.declared.text.row.Kind.{Kind}
use Rattle.gg_snap.specs.declared.text.row.Kind.TheVariants as kind
use Rattle.gg_snap.specs.declared.text.row.Row.{Row}
use Rattle.gg_snap.specs.text.Known.{CanSave, IsPlain}
use Rattle.gg_snap.specs.text.Table.{by_path, channel_of, memory_row, memory_rows, pipe_named, pipe_rows, read_rows, register_named, register_rows, rows_of, signal_row, signal_rows}
use Rattle.gg_snap.proofs.TextLemmas.FeedLemmas.{IsPlainRow, no-nil}
use Rattle.gg_snap.proofs.TextLemmas.SortLemmas.{Each}
use Rattle.gg_snap.proofs.TextLemmas.RowLemmas.{all-each, by_path-each, each-append}
use Rattle.gg_snap.proofs.TextLemmas.TableLemmas.{contains-behind}

-- each of these paths, and what stands for a path that isn't there
plain-at : (paths : List (List ℕ)) → All IsPlain paths → (s : ℕ) → IsPlain (path_at paths s)
plain-at paths plain s =
    elim (cases_lt s (length paths)) [
      | inl lt ↦ All-get_or IsPlain paths s [] lt plain
      | inr past ↦ subst IsPlain (sym (get_or_past paths s [] past)) (no-nil 32, no-nil 10)
    ]

-- ---- the rows of a signal

named-plain : (path : List ℕ) (width r : ℕ) (c : Option (List ℕ)) → IsPlain path → Each IsPlainRow (register_named path width r c)
named-plain path width r None plain = (plain, tt)
named-plain path width r (Some channel) plain = tt

pipe-plain : (path : List ℕ) (width r : ℕ) (c : Option (List ℕ)) → channel_of path ≡ c → IsPlain path → Each IsPlainRow (pipe_named width r c)
pipe-plain path width r None own plain = tt
pipe-plain path width r (Some channel) own plain = (
  (λ has. plain.0 (contains-behind (codes "pipe:") path channel 32 own has), λ has. plain.1 (contains-behind (codes "pipe:") path channel 10 own has)),
  tt,
)

signal-plain : (k : Kind) (path : List ℕ) (width : ℕ) (d : Driver) → IsPlain path → Each IsPlainRow (signal_row k path width d)
signal-plain kind.Register path width (Held r) plain = named-plain path width r (channel_of path) plain
signal-plain kind.Pipe path width (Held r) plain = pipe-plain path width r (channel_of path) refl plain
signal-plain kind.Read path width (ReadRegister m r) plain = (plain, tt)
signal-plain k path width d plain = tt

flat-each : (P : Row → Type 0) (f : ℕ → List Row) (a n : ℕ) → ((s : ℕ) → Each P (f s)) → Each P (flat_map f (range_with_len a n))
flat-each P f a zero each = tt
flat-each P f a (suc n) each = each-append P (f a) (flat_map f (range_with_len (a + 1) n)) (each a) (flat-each P f (a + 1) n each)

map-each : (P : Row → Type 0) (f : ℕ → Row) (a n : ℕ) → ((s : ℕ) → P (f s)) → Each P (map f (range_with_len a n))
map-each P f a zero each = tt
map-each P f a (suc n) each = (each a, map-each P f (a + 1) n each)

-- ---- the table

module _ (circuit : FlatCircuit) (tree : InstanceTree) (can : CanSave circuit tree) where
  abbrev registers : List Row
  registers = by_path (register_rows circuit)

  abbrev reads : List Row
  reads = by_path (read_rows circuit)

  abbrev pipes : List Row
  pipes = by_path (pipe_rows circuit)

  abbrev memories : List Row
  memories = by_path (memory_rows circuit tree)

  of-kind : (k : Kind) → Each IsPlainRow (by_path (signal_rows k circuit))
  of-kind k =
      by_path-each IsPlainRow (signal_rows k circuit)
      (flat-each IsPlainRow (λ s. signal_row k (path_at circuit.paths s) (shape_at (signal_shapes circuit) s).width (driver_at circuit s)) 0 (length circuit.signals)
      (λ s. signal-plain k (path_at circuit.paths s) (shape_at (signal_shapes circuit) s).width (driver_at circuit s) (plain-at circuit.paths can.plain s)))

  pub rows-plain : All IsPlainRow (rows_of circuit tree)
  rows-plain =
      all-each IsPlainRow (rows_of circuit tree)
      (each-append IsPlainRow registers (reads ++ (pipes ++ memories)) (of-kind kind.Register)
      (each-append IsPlainRow reads (pipes ++ memories) (of-kind kind.Read)
      (each-append IsPlainRow pipes memories (of-kind kind.Pipe)
      (by_path-each IsPlainRow (memory_rows circuit tree)
      (map-each IsPlainRow (λ place. memory_row circuit (path_at tree.memory_paths place) (memory_at tree place).memory) 0 (length tree.memories) (plain-at tree.memory_paths can.plain_memories))))))
