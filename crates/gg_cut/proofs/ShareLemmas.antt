-- What machines have by the routed channels.
use Rattle.std.proofs.Common.{◌≡◌, ℕ, ◌<◌, ◌==◌, List, length, get_or, Bool, sym, ◌∙◌, ap, subst, inl, inr, ◌⊎◌, eq-eqb, arith}
use Rattle.std.specs.Prelude.{All, if◌then◌else◌, filter}
use Rattle.std.proofs.lemmas.Bool.{cases_eq, ne_eqb}
use Rattle.std.proofs.lemmas.List.{get_or_default}
use Rattle.gg_part.specs.KeepsToTree.{KeepsToTree}
use Rattle.gg_order.specs.Design.{Ordered, IsDesign}
use Rattle.gg_order.specs.Marks.{is_marked}
use Rattle.gg_partfile.specs.declared.request.BridgeEntry.{BridgeEntry}
use Rattle.gg_cut_plan.specs.declared.listed.Listed.{Listed}
use Rattle.gg_cut_plan.specs.declared.wires.Wire.{Wire}
use Rattle.gg_cut_plan.specs.Listed.{listed_of}
use Rattle.gg_cut_plan.specs.Channels.{wires_of}
use Rattle.gg_cut_plan.specs.Machines.{first_source}
use Rattle.gg_cut_plan.specs.Direct.{Hub, hub_of, routes, is_gone, is_piped}
use Rattle.gg_cut_plan.specs.Plan.{channels_to, channels_from}
use Rattle.gg_cut_split.specs.inside.Apart.{AreApart}
use Rattle.gg_cut_split.specs.declared.share.Share.{Share}
use Rattle.gg_cut_split.specs.inside.IsShare.{IsShare, AreShares}
use Rattle.gg_cut_routes.specs.inside.Routes.{AreRoutes}
use Rattle.gg_cut_routes.specs.inside.Share.{IsPlanShare, stays_by}
use Rattle.gg_cut_routes.proofs.PlanLemmas.{hub-plan-share, other-plan-share}
use Rattle.gg_cut_parts.specs.declared.draft.Draft.{Draft}
use Rattle.gg_cut_parts.specs.inside.Draft.{IsDraft, draft_hub}
use Rattle.gg_cut_machines.specs.inside.Drafted.{draft_wires}

-- the hub's signals, before the routing, are those of the circuit
pub hub-known : (design : Ordered) (listed : Listed) (entries : List BridgeEntry) (shares : List Share) (first : Share) → AreShares design listed entries shares → first ≡ get_or shares 0 first → All (λ s. s < length design.circuit.signals) first.globals
hub-known design listed entries shares first are is = ((subst (IsShare design listed entries 0) (sym is) (are.each 0 first (omega arith))).choice (omega arith)).within

-- what a machine before the sources has by the routed channels, from what it had before
module _ (design : Ordered) (listed : Listed) (piped : ℕ → Bool) (entries : List BridgeEntry) (direct : Bool) (is : IsDesign design) (keeps : KeepsToTree design.circuit design.tree) (apart : AreApart design.tree listed) (are : AreRoutes design listed entries (hub_of design.circuit design.tree listed piped entries direct)) where
  abbrev hub : Hub
  hub = hub_of design.circuit design.tree listed piped entries direct

  abbrev base : List Wire
  base = wires_of design.circuit design.tree listed entries

  routed-share : (wires : List Wire) (gone : List Bool) (kept : List ℕ) (shares : List Share) (before : Share) (m : ℕ) (globals memories : List ℕ) → wires ≡ routes hub → ((s : ℕ) → s < length design.circuit.signals → is_marked gone s ≡ is_gone hub s) → AreShares design listed entries shares → m < first_source listed
      → ((any : Share) → kept ≡ filter (stays_by wires gone) (get_or shares 0 any).globals) → before ≡ get_or shares m before → globals ≡ (if m == 0 then kept else before.globals) → memories ≡ before.memories
      → IsPlanShare design listed hub m (channels_to (routes hub) m) (channels_from (routes hub) m) globals memories
  routed-share wires gone kept shares before m globals memories all marks have lt stay at chosen banks = by (cases_eq m 0)
    where
      as-made : (own own_banks : List ℕ) → globals ≡ own → memories ≡ own_banks → IsPlanShare design listed hub m (channels_to (routes hub) m) (channels_from (routes hub) m) own own_banks → IsPlanShare design listed hub m (channels_to (routes hub) m) (channels_from (routes hub) m) globals memories
      as-made own own_banks g b made =
          subst (λ (l : List ℕ). IsPlanShare design listed hub m (channels_to (routes hub) m) (channels_from (routes hub) m) l memories) (sym g)
          (subst (IsPlanShare design listed hub m (channels_to (routes hub) m) (channels_from (routes hub) m) own) (sym b) made)

      by : (m ≡ 0) ⊎ (m ≡ 0 → ⊥) → IsPlanShare design listed hub m (channels_to (routes hub) m) (channels_from (routes hub) m) globals memories
      by (inl zero) =
          let first = get_or shares 0 before in
          let made = hub-plan-share design listed piped entries direct is keeps apart are gone (channels_to base 0) (channels_from base 0) first.globals first.memories marks (have.each 0 before (omega arith)) in
          as-made (filter (stays_by (routes hub) gone) first.globals) first.memories
          (chosen ∙ ap (λ b. if b then kept else before.globals) (eq-eqb m 0 zero) ∙ stay before ∙ ap (λ (w : List Wire). filter (stays_by w gone) first.globals) all)
          (banks ∙ ap (λ (s : Share). s.memories) at ∙ ap (λ k. (get_or shares k before).memories) zero)
          (subst (λ k. IsPlanShare design listed hub k (channels_to (routes hub) k) (channels_from (routes hub) k) (filter (stays_by (routes hub) gone) first.globals) first.memories) (sym zero) made)
      by (inr other) =
          let there = get_or shares m before in
          let made = other-plan-share design listed piped entries direct is keeps apart are m (channels_to base m) (channels_from base m) there.globals there.memories other (have.each m before (omega (arith, lt))) in
          as-made there.globals there.memories (chosen ∙ ap (λ b. if b then kept else before.globals) (ne_eqb m 0 other) ∙ ap (λ (s : Share). s.globals) at) (banks ∙ ap (λ (s : Share). s.memories) at) made

-- the same in a draft, by the channels between the machines of the plan
pub draft-part : (draft : Draft) → IsDraft draft → IsDesign draft.design.now → (kept : List ℕ) (before : Share) (m : ℕ) (ins outs globals memories : List ℕ) → m < first_source draft.listed
    → ((any : Share) → kept ≡ filter (stays_by draft.routed.wires draft.routed.gone) (get_or draft.split.shares 0 any).globals) → before ≡ get_or draft.split.shares m before
    → ins ≡ channels_to (draft_wires draft) m → outs ≡ channels_from (draft_wires draft) m → globals ≡ (if m == 0 then kept else before.globals) → memories ≡ before.memories
    → IsPlanShare draft.design.now draft.listed (draft_hub draft) m ins outs globals memories
draft-part draft known is kept before m ins outs globals memories lt stay at to from chosen banks =
    subst (λ (l : List ℕ). IsPlanShare draft.design.now draft.listed (draft_hub draft) m l outs globals memories) (sym to)
    (subst (λ (l : List ℕ). IsPlanShare draft.design.now draft.listed (draft_hub draft) m (channels_to (routes (draft_hub draft)) m) l globals memories) (sym from) made)
  where
    made : IsPlanShare draft.design.now draft.listed (draft_hub draft) m (channels_to (routes (draft_hub draft)) m) (channels_from (routes (draft_hub draft)) m) globals memories
    made =
        subst (λ (l : Listed). AreApart draft.design.now.tree l → AreRoutes draft.design.now l draft.request.now.bridges (draft_hub draft) → AreShares draft.design.now l draft.request.now.bridges draft.split.shares → IsPlanShare draft.design.now l (draft_hub draft) m (channels_to (routes (draft_hub draft)) m) (channels_from (routes (draft_hub draft)) m) globals memories) (sym known.listed)
        (λ apart sound have. routed-share draft.design.now (listed_of draft.design.now.tree draft.request.now) (is_piped draft.design.now.circuit draft.request.now) draft.request.now.bridges draft.request.now.direct is known.keeps apart sound
        draft.routed.wires draft.routed.gone kept draft.split.shares before m globals memories known.wires known.gone have (subst (λ (l : Listed). m < first_source l) known.listed lt) stay at chosen banks)
        known.apart known.sound known.shares
