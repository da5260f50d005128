-- The partition of a command: the request in its file, and its fault for a circuit.
-- Sources: RFC 8259 and ICCAD 2019, as named in the crates that read a partition and check it. The numbers of the
-- faults are this program's own: P1 is a fault of the file, P2 to P16 are faults of its request for a design and for the
-- models that are handed in, and P17 is a fault of the request for a command.
use Rattle.std.specs.Prelude.{◌≡◌, ◌≢◌, ℕ, Bool, true, false, List, [], Some, None, codes}
use Rattle.gg_cut_plan.specs.Bridges.{Models}
use Rattle.gg_cut_plan.specs.Fault as cut
use Rattle.gg_cut_plan.specs.declared.fault.CutFault.{CutFault}
use Rattle.gg_front.specs.Meaning.{MeansDesign}
use Rattle.gg_order.specs.Design.{Ordered}
use Rattle.gg_partfile.specs.Fault as file
use Rattle.gg_partfile.specs.Partition.{IsPartition}
use Rattle.gg_partfile.specs.declared.fault.PartFault.TheVariants.{WrongKey}
use Rattle.gg_partfile.specs.declared.request.Request.{Request}
use Rattle.gg_io.specs.Said.{Said}
use Rattle.gg_bits.specs.Limits.{partition_limit}
use Rattle.golden_commands.specs.Lines.{partition_fault}
use Rattle.gg_io.specs.Order.{File}

-- Facts besides the files: the models that are handed in, each with the name of its bridge, and whether the command is `save` or `resume`. These two
-- allow no bridge in a partition.
pub record Known : Type 0 where
  pub models : Models
  pub saves : Bool

-- what is known for `save` and `resume`
abbrev pub to_save : Models → Known
to_save models = record { models = models; saves = true }

-- what is known for all other commands
abbrev pub to_run : Models → Known
to_run models = record { models = models; saves = false }

-- The bytes hold this request, and it has no fault for the design.
pub record Cuts (known : Known) (design : Ordered) (bytes : List ℕ) (request : Request) : Type 0 where
  pub asks : IsPartition bytes request
  pub faultless : cut.first_fault_with design known.models request ≡ None
  -- a command that saves or resumes allows no bridge
  pub alone : known.saves ≡ true → request.bridges ≡ []

-- The bytes have the fault with this text: they hold no request (P1); or this is the first fault of their request for the design (P2 to P16); or
-- their request has none, and has a bridge for `save` or `resume` (P17).
pub data HasFault (known : Known) (design : Ordered) (bytes text : List ℕ) : Type 0 where
  OfFile : (key : List ℕ) (wrong : file.IsRefused bytes key) (is : text ≡ file.fault_text (WrongKey key)) → HasFault known design bytes text
  OfRequest : (request : Request) (asks : IsPartition bytes request) (fault : CutFault) (first : cut.first_fault_with design known.models request ≡ Some fault) (is : text ≡ cut.fault_text fault)
      → HasFault known design bytes text
  OfBridges : (request : Request) (asks : IsPartition bytes request) (none : cut.first_fault_with design known.models request ≡ None) (saves : known.saves ≡ true) (some : request.bridges ≢ []) (is : text ≡ codes "P17")
      → HasFault known design bytes text

-- bytes that hold a request without a fault for a design
abbrev pub IsPartitionOf : Known → (design : Ordered) (bytes : List ℕ) → Type 0
IsPartitionOf known design bytes = (request : Request) × Cuts known design bytes request

-- this is reported for a partition with a fault for a design
abbrev pub TellsPartitionOf : Known → (design : Ordered) (bytes : List ℕ) → Said → Type 0
TellsPartitionOf known design bytes said = (text : List ℕ) × HasFault known design bytes text × (said ≡ partition_fault text)

-- a partition's file, which may have 1 MiB, with these bytes accepted and this reported for others
abbrev pub partition_file : (name : List ℕ) (IsGood : List ℕ → Type 0) (TellsFault : List ℕ → Said → Type 0) → File
partition_file name IsGood TellsFault = record { name = name; limit = partition_limit; accepts = IsGood; refuses = TellsFault }

-- a partition of the circuit that these bytes mean
abbrev pub IsPartitionFor : Known → (circuit bytes : List ℕ) → Type 0
IsPartitionFor known circuit bytes = (design : Ordered) × MeansDesign circuit design × IsPartitionOf known design bytes

-- this is reported for a partition with a fault for that circuit
abbrev pub TellsPartitionFor : Known → (circuit bytes : List ℕ) → Said → Type 0
TellsPartitionFor known circuit bytes said = (design : Ordered) × MeansDesign circuit design × TellsPartitionOf known design bytes said

-- the file of a partition of that circuit
abbrev pub partition_file_for : Known → (circuit name : List ℕ) → File
partition_file_for known circuit name = partition_file name (IsPartitionFor known circuit) (TellsPartitionFor known circuit)
