-- More on Partition: definitions that no promise of the program reaches.
-- Sources: RFC 8259 and ICCAD 2019, as named in the crates that read a partition and check it. The numbers of the
-- faults are this program's own: P1 is a fault of the file, P2 to P16 are faults of its request for a design and for the
-- models that are handed in, and P17 is a fault of the request for a command.
use Rattle.std.specs.Prelude.{ℕ, List}
use Rattle.gg_order.specs.Design.{Ordered}
use Rattle.gg_io.specs.Order.{File}
use Rattle.golden_commands.specs.Partition.{IsPartitionOf, Known, TellsPartitionOf, partition_file}

-- the file of a partition of a design
abbrev pub partition_file_of : Known → (design : Ordered) (name : List ℕ) → File
partition_file_of known design name = partition_file name (IsPartitionOf known design) (TellsPartitionOf known design)
