-- The text of a cut is the only one.
use Rattle.std.proofs.Common.{◌≡◌, ℕ, List, subst}
use Rattle.gg_cut_reference.specs.inside.Alike.{AreAlike}
use Rattle.gg_cut_reference.specs.text.CheckText.{IsTextOfCut}
use Rattle.gg_front.specs.Meaning.{MeansDesign}
use Rattle.gg_order.specs.Design.{Ordered}
use Rattle.gg_partfile.proofs.OnceLemmas.{request-once}
use Rattle.gg_partfile.specs.Partition.{IsPartition}
use Rattle.gg_partfile.specs.declared.request.Request.{Request}
use Rattle.golden_commands.specs.Check.{IsCutTextOf}
use Rattle.gg_io.specs.Order.{IsOnly}
use Rattle.golden_commands.proofs.PartitionLemmas.{DesignsAgree}

-- the cut of a request has only one text, and designs that are alike have the same one
abbrev pub OneText : Type 0
OneText = (one other : Ordered) (request : Request) (default : ℕ) (text others : List ℕ) → AreAlike one other → IsTextOfCut one request default text → IsTextOfCut other request default others → text ≡ others

pub only-cut-text : DesignsAgree → OneText → {circuit partition : List ℕ} {design : Ordered} {request : Request} {capacity : ℕ} {text : List ℕ} → MeansDesign circuit design → IsPartition partition request
    → IsTextOfCut design request capacity text → IsOnly (IsCutTextOf circuit partition capacity) text
only-cut-text agree once {circuit} {partition} {design} {request} {capacity} {text} means asks is = record {
  is = (design, means, (request, asks, is));
  only = λ other (another, meant, (same, asked, told)).
      once another design request capacity other text (agree circuit another design meant means)
      (subst (λ (r : Request). IsTextOfCut another r capacity other) (request-once partition same request asked asks) told) is;
}
