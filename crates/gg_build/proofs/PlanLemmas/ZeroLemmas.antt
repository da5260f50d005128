-- Machines and channels of the network before cycle 0, with zeros, are those of the start of the whole run.
use Rattle.std.proofs.Common.{◌≡◌, ℕ, suc, ◌<◌, List, [], ◌∷◌, length, refl, sym, ◌∙◌, ap, ap₂, subst}
use Rattle.gg_flat.specs.Clock.{Ratio}
use Rattle.gg_flat.specs.Run.{Start}
use Rattle.gg_order.specs.Design.{Ordered}
use Rattle.gg_partfile.specs.declared.request.Request.{Request}
use Rattle.gg_cut_plan.specs.declared.plan.Body.{Body}
use Rattle.gg_cut_plan.specs.declared.plan.Body.TheVariants.{Cut, Memory, Source, Tray, Bridge}
use Rattle.gg_cut_plan.specs.declared.plan.Channel.{Channel}
use Rattle.gg_cut_plan.specs.declared.plan.Plan.{Plan}
use Rattle.gg_cut_plan.specs.Bridges.{Models}
use Rattle.gg_cut_plan.specs.Clocks.{ratios_of}
use Rattle.gg_cut_plan.specs.Direct.{plan_hub}
use Rattle.gg_cut_plan.specs.Listed.{listed_of}
use Rattle.gg_cut_plan.specs.Plan.{IsBody, IsPlan}
use Rattle.gg_cut_reference.specs.Follows.{plan_start, plan_token}
use Rattle.gg_cut_reference.proofs.StartLemmas.{part-start, start-token}
use Rattle.gg_node.specs.Machine.{Machine, machine_at}
use Rattle.gg_net.specs.declared.shape.Wire.{Wire}
use Rattle.gg_build.specs.plan.Built.{AreBuilt, IsBuilt, body_start, first_token, machine_in, nameless, place_in, wires_from, wires_of_plan}
use Rattle.gg_build.specs.inside.Built.{no_token, opening_of}

-- a body begins there with zeros, and with the ratios of its clocks
pub begins-there : (design : Ordered) (request : Request) (models : Models) (m : ℕ) (body : Body) → IsBody design request models (listed_of design.tree request) (plan_hub design.circuit design.tree request) m body → opening_of (ratios_of design.tree request) body ≡ body_start (plan_start design request) body
begins-there design request models m (Cut part) is = sym (part-start design request m part is.1)
begins-there design request models m (Memory part) is = sym (part-start design request m part is.2)
begins-there design request models m (Source place) is = refl
begins-there design request models m Tray is = refl
begins-there design request models m (Bridge bridge) is = refl

-- so do the machines of a plan
module _ (design : Ordered) (request : Request) (models : Models) (default : ℕ) (plan : Plan) (columns : List (List ℕ)) (machines : List Machine) (planned : IsPlan design request models default plan) where
  zeros-are : (m : ℕ) → m < length plan.machines → opening_of plan.ratios (machine_in plan m).body ≡ body_start (plan_start design request) (machine_in plan m).body
  zeros-are m lt =
      let body = (machine_in plan m).body in
      ap (λ (ratios : List Ratio). opening_of ratios body) planned.ratios ∙ begins-there design request models m body (planned.machine m nameless lt).body

  abbrev built-from : (m : ℕ) → Start → Type 0
  built-from m own = IsBuilt columns (length (machine_in plan m).outs) own (machine_in plan m).body (machine_at machines m)

  pub built-with-zeros : AreBuilt plan (opening_of plan.ratios) columns machines → AreBuilt plan (body_start (plan_start design request)) columns machines
  built-with-zeros built = record { count = built.count; each = λ m lt. subst (built-from m) (zeros-are m lt) (built.each m lt) }

  pub zeros-with-built : AreBuilt plan (body_start (plan_start design request)) columns machines → AreBuilt plan (opening_of plan.ratios) columns machines
  zeros-with-built built = record { count = built.count; each = λ m lt. subst (built-from m) (sym (zeros-are m lt)) (built.each m lt) }

-- equal tokens make equal channels
wires-by : (one other : ℕ → ℕ) (plan : Plan) (c : ℕ) (channels : List Channel) → ((s : ℕ) → one s ≡ other s) → wires_from one plan c channels ≡ wires_from other plan c channels
wires-by one other plan c [] same = refl
wires-by one other plan c (channel ∷ channels) same =
    ap₂ (λ (wire : Wire) (wires : List Wire). wire ∷ wires)
    (ap (λ token. record { producer = channel.producer; out = place_in (machine_in plan channel.producer).outs c; consumer = channel.consumer; place = place_in (machine_in plan channel.consumer).ins c; capacity = channel.capacity; first = first_token channel.pipe token }) (same channel.signal))
    (wires-by one other plan (suc c) channels same)

pub zero-tokens : (design : Ordered) (request : Request) (plan : Plan) → wires_of_plan (plan_token design request (plan_start design request).state) plan ≡ wires_of_plan no_token plan
zero-tokens design request plan = wires-by (plan_token design request (plan_start design request).state) no_token plan 0 plan.channels (start-token design request)
