-- Two settings of the same bytes: the same steps may be done, and the same is reported for a step that isn't.
use Rattle.std.proofs.Common.{◌≡◌, ℕ, List, refl, sym, ap, ◌∙◌, subst, inl, inr}
use Rattle.std.specs.Prelude.{Result, Ok, Err}
use Rattle.gg_flat.specs.Order.{IsOrder}
use Rattle.gg_order.specs.Design.{Ordered}
use Rattle.gg_partfile.proofs.OnceLemmas.{request-once}
use Rattle.gg_partfile.specs.declared.request.Request.{Request}
use Rattle.gg_cut_reference.specs.inside.Alike.{AreAlike}
use Rattle.gg_cut_reference.proofs.TextLemmas.SameCutLemmas.{alike-is}
use Rattle.gg_net.specs.markings.Marking.{Layout, Marking, opening_marking}
use Rattle.gg_net.specs.markings.Goes.{Stopped, replayed_from}
use Rattle.gg_build.specs.plan.CutLayout.{IsLayoutOf}
use Rattle.gg_build.proofs.PlanLemmas.OneLemmas.{one-layout}
use Rattle.gg_cut_reference.specs.whole.Whole.{plan_circuit}
use Rattle.gg_replay.specs.steps_file.Naming.{Naming}
use Rattle.gg_replay.specs.steps_file.Steps.{steps_of}
use Rattle.gg_io.specs.Said.{Said}
use Rattle.gg_io.specs.Order.{IsExactFile, IsUniqueFile}
use Rattle.golden_commands.specs.Partition.{Known}
use Rattle.golden_commands.specs.Replay.{AreDone, IsSetting, Setting, TellsSteps, naming_of, replay_text, replayed, steps_file_for, stopped_by, stopped_said}
use Rattle.golden_commands.specs.RunText.{FeedsOnly}
use Rattle.gg_io.proofs.OrderLemmas.{exact-by}
use Rattle.golden_commands.proofs.PartitionLemmas.{DesignsAgree}
use Rattle.golden_commands.proofs.TextLemmas.{OneRun, circuit-same, same-run}

-- ---- names

naming-alike : (one other : Ordered) → AreAlike one other → (request : Request) → naming_of one request ≡ naming_of other request
naming-alike one other s request = ap (λ (design : Ordered). naming_of design request) (alike-is one other s)

-- ---- two settings

module _ (known : Known) (agree : DesignsAgree) (circuit partition trace : List ℕ) (capacity : ℕ) (a b : Setting) (x : IsSetting known circuit partition trace capacity a) (y : IsSetting known circuit partition trace capacity b) where
  pub designs-alike : AreAlike a.meant.design b.meant.design
  designs-alike = agree circuit a.meant.design b.meant.design x.is.means y.is.means

  pub requests-same : a.meant.request ≡ b.meant.request
  requests-same = request-once partition a.meant.request b.meant.request x.is.cuts.asks y.is.cuts.asks

  pub circuits-same : plan_circuit a.meant.design a.meant.request known.models ≡ plan_circuit b.meant.design b.meant.request known.models
  circuits-same = circuit-same known.models a.meant.design b.meant.design designs-alike a.meant.request b.meant.request requests-same

  pub cycles-same : a.meant.cycles ≡ b.meant.cycles
  cycles-same = sym x.is.feeds.count ∙ y.is.feeds.count

  pub layouts-same : a.layout ≡ b.layout
  layouts-same =
      one-layout a.meant.design b.meant.design b.meant.request capacity b.meant.cycles a.layout b.layout designs-alike
      (subst (λ (n : ℕ). IsLayoutOf a.meant.design b.meant.request capacity n a.layout) cycles-same (subst (λ (r : Request). IsLayoutOf a.meant.design r capacity a.meant.cycles a.layout) requests-same x.laid)) y.laid

  naming-same : naming_of a.meant.design a.meant.request ≡ naming_of b.meant.design b.meant.request
  naming-same = ap (naming_of a.meant.design) requests-same ∙ naming-alike a.meant.design b.meant.design designs-alike b.meant.request

  -- the steps lead to the same in both settings
  pub leads-same : (steps : List ℕ) → replayed a steps ≡ replayed b steps
  leads-same steps =
      ap (λ (l : Layout). replayed_from l 1 (opening_marking l 0) (steps_of (naming_of a.meant.design a.meant.request) steps)) layouts-same
      ∙ ap (λ (n : Naming). replayed_from b.layout 1 (opening_marking b.layout 0) (steps_of n steps)) naming-same

  -- the same is reported in both settings for a step that is refused
  pub stopped-same : (steps : List ℕ) (stopped : Stopped) → stopped_said a steps stopped ≡ stopped_said b steps stopped
  stopped-same steps stopped = ap (λ (n : Naming). stopped_by n (steps_of n steps) stopped) naming-same

-- ---- the steps file

ok-err : (r : Result Marking Stopped) (marking : Marking) (stopped : Stopped) → r ≡ Ok marking → r ≡ Err stopped → ⊥
ok-err r marking stopped e d = let h : Ok marking ≡ Err stopped = sym e ∙ d in absurd (cc)

err-same : (r s : Result Marking Stopped) (one other : Stopped) → r ≡ s → r ≡ Err one → s ≡ Err other → one ≡ other
err-same r s one other e d f = let h : Err one ≡ Err other = sym d ∙ e ∙ f in cc

pub ok-same : (r s : Result Marking Stopped) (one other : Marking) → r ≡ s → r ≡ Ok one → s ≡ Ok other → one ≡ other
ok-same r s one other e d f = let h : Ok one ≡ Ok other = sym d ∙ e ∙ f in cc

module _ (known : Known) (agree : DesignsAgree) (circuit partition trace : List ℕ) (capacity : ℕ) where
  steps-apart : (bytes : List ℕ) (said : Said) → AreDone known circuit partition trace capacity bytes → TellsSteps known circuit partition trace capacity bytes said → ⊥
  steps-apart bytes said (a, x, (marking, leads)) (b, y, (stopped, stops, is)) =
      ok-err (replayed b bytes) marking stopped (sym (leads-same known agree circuit partition trace capacity a b x y bytes) ∙ leads) stops

  steps-once : (bytes : List ℕ) (said said' : Said) → TellsSteps known circuit partition trace capacity bytes said → TellsSteps known circuit partition trace capacity bytes said' → said ≡ said'
  steps-once bytes said said' (a, x, (one, stops, is)) (b, y, (other, stops', is')) =
      let same = err-same (replayed a bytes) (replayed b bytes) one other (leads-same known agree circuit partition trace capacity a b x y bytes) stops stops' in
      is ∙ stopped-same known agree circuit partition trace capacity a b x y bytes one ∙ ap (stopped_said b bytes) same ∙ sym is'

  steps-status : (bytes : List ℕ) (said : Said) → TellsSteps known circuit partition trace capacity bytes said → said.status ≡ 9
  steps-status bytes said (a, x, (stopped, stops, is)) = ap (λ (s : Said). s.status) is

  -- nothing is reported for steps that may all be done, and all that is reported for others has the status 9
  pub steps_file-exact : (name : List ℕ) → IsExactFile (steps_file_for known circuit partition trace capacity name)
  steps_file-exact name = exact-by 9 (inr (inr (inr (inl refl)))) steps-apart steps-status

  -- at most one thing is reported for steps
  pub steps_file-unique : (name : List ℕ) → IsUniqueFile (steps_file_for known circuit partition trace capacity name)
  steps_file-unique name = steps-once

-- ---- the text

-- settings with alike designs, the same rows and the same marking have the same text
pub texts-same : (a b : Setting) (one other : Marking) → AreAlike a.meant.design b.meant.design → a.meant.request ≡ b.meant.request → a.layout ≡ b.layout → a.rows ≡ b.rows → one ≡ other
    → replay_text a one ≡ replay_text b other
texts-same a b one other s requests layouts rows same =
    ap (λ (d : Ordered). replay_text (record a { meant = record a.meant { design = d } }) one) (alike-is a.meant.design b.meant.design s)
    ∙ ap (λ (q : Request). replay_text (record a { meant = record a.meant { design = b.meant.design; request = q } }) one) requests
    ∙ ap (λ (l : Layout). replay_text (record a { meant = record a.meant { design = b.meant.design; request = b.meant.request }; layout = l }) one) layouts
    ∙ ap (λ (r : List (List ℕ)). replay_text (record a { meant = record a.meant { design = b.meant.design; request = b.meant.request }; layout = b.layout; rows = r }) one) rows
    ∙ ap (λ (m : Marking). replay_text b m) same

-- each setting of the same circuit and trace has the rows of this one
pub rows-same : (known : Known) → DesignsAgree → OneRun → (circuit partition trace : List ℕ) (capacity : ℕ) (own : Setting) (order : List ℕ) → IsOrder (plan_circuit own.meant.design own.meant.request known.models) order
    → IsSetting known circuit partition trace capacity own → FeedsOnly own.meant.design.circuit own.meant.request trace own.meant.cycles own.meant.columns
    → (other : Setting) → IsSetting known circuit partition trace capacity other → other.rows ≡ own.rows
rows-same known agree once circuit partition trace capacity own order ordered x feeds other y =
    (same-run once known.models trace own.meant.design own.meant.request order ordered own.meant.cycles own.meant.columns own.rows x.run feeds other.meant.design other.meant.request
    (designs-alike known agree circuit partition trace capacity other own y x) (requests-same known agree circuit partition trace capacity other own y x) other.meant.cycles other.meant.columns other.rows y.is.feeds y.run).1
