-- Faults of a partition that asks for a bridge, by hand.
use Rattle.std.proofs.Common.{◌≡◌, ℕ, List, [], ◌∷◌, codes, refl}
use Rattle.std.specs.Prelude.{false}
use Rattle.gg_flat.specs.Circuit.{no_circuit}
use Rattle.gg_order.specs.Design.{Ordered}
use Rattle.gg_partfile.specs.Partition.{IsPartition}
use Rattle.gg_partfile.specs.declared.request.Request.{Request}
use Rattle.gg_cut_plan.specs.Bridges.{Models}
use Rattle.gg_cut_plan.specs.declared.fault.CutFault.TheVariants.{UnknownBridge}
use Rattle.golden_commands.specs.Lines.{partition_fault}
use Rattle.golden_commands.specs.Partition.{Cuts, HasFault, OfBridges, OfRequest, to_run, to_save}
use Rattle.golden_commands.proofs.PartitionLemmas.{FileApart, OneKey, fault-once}

-- a top without ports
abbrev design : Ordered
design =
    record {
      circuit = no_circuit;
      tree = record { paths = []; instances = []; memory_paths = []; memories = []; clocks = []; register_clocks = []; stops = [] };
      order = [];
    }

-- a bridge without ports, and a model for it
abbrev request : Request
request = record { units = []; share = []; memories = []; capacity = []; direct = false; pipe = []; clocks = []; bridges = record { name = codes "b"; sees = []; drives = [] } ∷ [] }

abbrev models : Models
models = (codes "b", no_circuit) ∷ []

module _ (bytes : List ℕ) (asks : IsPartition bytes request) where
  -- where the model is known, `run` takes the partition
  run-takes : Cuts (to_run models) design bytes request
  run-takes = record { asks = asks; faultless = refl; alone = λ e. absurd (cc) }

  -- and `save` doesn't
  save-refuses : HasFault (to_save models) design bytes (codes "P17")
  save-refuses = OfBridges request asks refl refl (λ e. absurd (cc)) refl

  -- where it isn't, the name is the first fault
  name-first : HasFault (to_save []) design bytes (codes "P14 b")
  name-first = OfRequest request asks (UnknownBridge (codes "b")) refl refl

  -- a near miss: then P17 isn't told
  near-last : FileApart → OneKey → HasFault (to_save []) design bytes (codes "P17") → ⊥
  near-last apart key has =
      let same : codes "P14 b" ≡ codes "P17" = fault-once (to_save []) apart key design bytes (codes "P14 b") (codes "P17") name-first has in
      absurd (cc)

-- its line
line-17 : (partition_fault (codes "P17")).line ≡ codes "golden: partition: P17\n"
line-17 = refl

status-17 : (partition_fault (codes "P17")).status ≡ 6
status-17 = refl
