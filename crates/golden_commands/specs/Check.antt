-- The text that `check` writes.
-- Source: this program's own.
use Rattle.std.specs.Prelude.{ℕ, List}
use Rattle.gg_front.specs.Meaning.{MeansDesign}
use Rattle.gg_order.specs.Design.{Ordered}
use Rattle.gg_partfile.specs.Partition.{IsPartition}
use Rattle.gg_partfile.specs.declared.request.Request.{Request}
use Rattle.gg_cut_reference.specs.text.CheckText.{IsTextOfCut}

-- The text of the cut of a design that these bytes mean, by the partition's request. `capacity` is the capacity of the
-- channels that the request doesn't name.
abbrev pub IsCutTextOf : (circuit partition : List ℕ) (capacity : ℕ) (text : List ℕ) → Type 0
IsCutTextOf circuit partition capacity text =
    (design : Ordered) × MeansDesign circuit design × ((request : Request) × IsPartition partition request × IsTextOfCut design request capacity text)
