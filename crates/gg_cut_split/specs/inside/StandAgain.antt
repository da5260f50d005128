-- Units of one host have the same, with other numbers.
-- Source: ICCAD 2019 (duplicate instances that share one host unit).
use Rattle.std.specs.Prelude.{◌≡◌, ◌≢◌, ℕ, None}
use Rattle.gg_part.specs.KeepsToTree.{KeepsToTree}
use Rattle.gg_order.specs.Design.{Ordered, IsDesign}
use Rattle.gg_partfile.specs.declared.request.Request.{Request}
use Rattle.gg_cut_plan.specs.Fault.{first_fault}
use Rattle.gg_cut_plan.specs.Hosts.{leader}
use Rattle.gg_cut_plan.specs.Listed.{listed_of}
use Rattle.gg_cut_split.specs.inside.Again.{IsUnitAgain}

-- Of two machines of one host, each has what the other has.
abbrev pub UnitsStandAgain : Type 0
UnitsStandAgain =
    (design : Ordered) (request : Request) (m n : ℕ)
    -- The design keeps to its tree, and the request has no fault.
    → IsDesign design → KeepsToTree design.circuit design.tree → first_fault design request ≡ None
    -- The first machine of the host of two machines is the same.
    → m ≢ n → leader request.units request.share m ≡ leader request.units request.share n
    -- Then they are units, and the second has what the first has, with other numbers.
    → IsUnitAgain design (listed_of design.tree request) m n
