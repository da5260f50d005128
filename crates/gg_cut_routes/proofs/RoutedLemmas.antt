-- The channels of the plan of a request without a fault are routed channels.
use Rattle.std.proofs.Common.{◌≡◌, None}
use Rattle.gg_part.specs.KeepsToTree.{KeepsToTree}
use Rattle.gg_order.specs.Design.{Ordered, IsDesign}
use Rattle.gg_partfile.specs.declared.request.Request.{Request}
use Rattle.gg_cut_plan.specs.Listed.{listed_of}
use Rattle.gg_cut_plan.specs.Fault.{first_fault}
use Rattle.gg_cut_plan.specs.Direct.{is_piped, plan_hub}
use Rattle.gg_cut_split.specs.inside.Apart.{AreApart}
use Rattle.gg_cut_split.proofs.ClosedLemmas.ChoiceLemmas.{pairs-once, choice}
use Rattle.gg_cut_split.proofs.ClosedLemmas.EndLemmas.{ends}
use Rattle.gg_cut_split.proofs.ClosedLemmas.FaultlessLemmas.{faultless-apart}
use Rattle.gg_cut_routes.specs.inside.Routes.{AreRoutes}
use Rattle.gg_cut_routes.proofs.RouteLemmas.{IsBase}
use Rattle.gg_cut_routes.proofs.CutLemmas.{cut-base, are-routes}

module _ (design : Ordered) (request : Request) (is : IsDesign design) (keeps : KeepsToTree design.circuit design.tree) (none : first_fault design request ≡ None) where
  apart : AreApart design.tree (listed_of design.tree request)
  apart = faultless-apart design request none keeps.fitting

  -- what the channels of its cut are
  pub routed-base : IsBase (plan_hub design.circuit design.tree request)
  routed-base =
      let listed = listed_of design.tree request in
      cut-base design listed (is_piped design.circuit request) request.bridges request.direct is keeps apart (pairs-once design.circuit design.tree listed request.bridges is.formed keeps.fitting keeps.scoped apart) (ends design.circuit design.tree listed request.bridges keeps.fitting apart)

  pub plan-routed : AreRoutes design (listed_of design.tree request) request.bridges (plan_hub design.circuit design.tree request)
  plan-routed =
      let listed = listed_of design.tree request in
      are-routes design listed (is_piped design.circuit request) request.bridges request.direct is keeps apart (pairs-once design.circuit design.tree listed request.bridges is.formed keeps.fitting keeps.scoped apart) (ends design.circuit design.tree listed request.bridges keeps.fitting apart) (λ m globals memories low signals once banks memories-once.
      choice design.circuit design.tree listed request.bridges is.formed keeps.fitting keeps.scoped apart m globals memories low signals once banks memories-once)
