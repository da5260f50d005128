use Rattle.std.proofs.Common.{◌+◌, ◌-◌, ◌≤◌, length}
use Rattle.std.specs.Io.KnownBytes.{Consumes}
use Rattle.gg_io.proofs.file_shelf.read_within.Given as goal

-- what was read so far is within the limit, and is what was taken from the file
abbrev pub invariant-parts : goal.invariant-parts
invariant-parts g l = record {
  within : length l.bytes.items ≤ l.limit;
  taken : Consumes (g.F.Read.remaining l.fn.file) (g.F.Read.remaining l.file) l.bytes.items;
}

abbrev pub decreases-parts : goal.decreases-parts
decreases-parts g l = l.limit + 1 - length l.bytes.items
