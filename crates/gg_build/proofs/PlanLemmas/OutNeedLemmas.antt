-- The ins that an out of a machine needs are the ins of the channels that the out's channel needs.
use Rattle.std.proofs.Common.{◌≡◌, ℕ, zero, suc, ◌<◌, List, [], false, length, refl, sym, ◌∙◌, ap, subst, arith}
use Rattle.std.specs.Prelude.{Contains, AllPairs, ◌==◌, replicate}
use Rattle.std.proofs.lemmas.List.{get_or-map}
use Rattle.gg_flat.specs.Line.{value_at}
use Rattle.gg_flat.specs.Run.{Start}
use Rattle.gg_order.specs.Design.{Ordered}
use Rattle.gg_part.specs.declared.part.Part.{Part}
use Rattle.gg_cut_plan.specs.declared.listed.Listed.{Listed}
use Rattle.gg_cut_plan.specs.declared.plan.Body.{Body}
use Rattle.gg_cut_plan.specs.declared.plan.Body.TheVariants.{Cut, Memory, Source, Tray, Bridge}
use Rattle.gg_cut_plan.specs.declared.wires.Wire.{Wire}
use Rattle.gg_cut_plan.specs.Direct.{Hub, plan_wires, routes}
use Rattle.gg_bridge.specs.Turned.{turned}
use Rattle.gg_cut_plan.specs.Plan.{wire_at, channels_to, channels_from, AreNeedsOf, IsCutPart, NeedsIn}
use Rattle.gg_cut_split.proofs.ClosedLemmas.ListLemmas.{pairs-nil}
use Rattle.gg_memunit.specs.MemoryUnit.{needs_of}
use Rattle.gg_node.specs.Machine.{Machine, needs_at}
use Rattle.gg_net.specs.Network.{Kind, kind_of}
use Rattle.gg_build.specs.plan.Built.{place_in, IsBuilt, IsMemoryOf, IsUnitOf}
use Rattle.gg_build.proofs.PlanLemmas.NumberLemmas.{numbers-once, place-back}
use Rattle.gg_build.specs.inside.Given.{Given, IsBodyAt, cut_of}
use Rattle.gg_build.proofs.PlanLemmas.ListedLemmas.{IsGivenBy, given-placed}
use Rattle.gg_build.proofs.PlanLemmas.FitLemmas.{ins-count, outs-count}
use Rattle.gg_build.proofs.PlanLemmas.AscendingLemmas.{AreMadeOf}
use Rattle.gg_build.proofs.PlanLemmas.ReachLemmas.{AreReached}
use Rattle.gg_build.proofs.PlanLemmas.MemoryLemmas.{memory-needs}

-- At the out of channel c a machine of this kind needs, in ascending order, the ins at which it takes the channels `needs`.
pub record HasOutNeeds (wires : List Wire) (m c : ℕ) (needs : List ℕ) (kind : Kind) : Type 0 where
  pub up : AllPairs (λ a b. a < b) (needs_at kind.needs (place_in (channels_from wires m) c))
  pub made : AreMadeOf (place_in (channels_to wires m)) needs (needs_at kind.needs (place_in (channels_from wires m) c))

-- ---- machines with a piece

module _ (design : Ordered) (listed : Listed) (hub : Hub) (m : ℕ) (part : Part) (cut : IsCutPart design listed hub m part) (c : ℕ) (is : IsGivenBy (routes hub) m c) where
  abbrev links : List Wire
  links = routes hub

  abbrev pub out_of : ℕ
  out_of = place_in (channels_from (routes hub) m) c

  pub out-low : out_of < length part.piece.outs
  out-low = let at = given-placed links m c is in let within = at.within in omega (arith, within, outs-count design listed hub m part cut)

  out-signal : value_at part.globals (value_at part.piece.outs out_of) ≡ (wire_at links c).given
  out-signal =
      let at = given-placed links m c is in
      sym (get_or-map (value_at part.globals) part.piece.outs out_of 0 0 out-low)
      ∙ ap (λ (l : List ℕ). value_at l out_of) cut.outs
      ∙ get_or-map (λ k. (wire_at links k).given) (channels_from links m) out_of 0 0 at.within
      ∙ ap (λ k. (wire_at links k).given) at.is

  pub part-made : (channels needs own : List ℕ) → channels ≡ channels_to links m → ((out : ℕ) → out < length part.globals → value_at part.globals out ≡ (wire_at links c).given → AreNeedsOf part channels out needs)
      → AreReached part.piece (value_at part.piece.outs out_of) own → AreMadeOf (place_in (channels_to links m)) needs own
  part-made channels needs own same are exact =
      let here = are (value_at part.piece.outs out_of) (cut.is.outs out_of out-low) out-signal in
      let count = ins-count design listed hub m part cut in
      let back : (i : ℕ) → i < length part.piece.ins → place_in (channels_to links m) (value_at (channels_to links m) i) ≡ i =
      λ i lt. place-back (channels_to links m) i (numbers-once (λ k. (wire_at links k).consumer == m) (length links)) (omega (arith, lt, count)) in
      record {
        into = λ d has.
            let need = (here d).0 has in
            let at : value_at (channels_to links m) need.place ≡ d = ap (λ (l : List ℕ). value_at l need.place) (sym same) ∙ need.is in
            subst (λ i. Contains own i) (sym (ap (place_in (channels_to links m)) (sym at) ∙ back need.place need.known)) ((exact.exact need.place).1 (need.known, need.reached));
        back = λ i has.
            let at = (exact.exact i).0 has in
            let d = value_at (channels_to links m) i in
            (d, ((here d).1 (record { place = i; known = at.0; is = ap (λ (l : List ℕ). value_at l i) same; reached = at.1 }), back i at.0));
      }

-- ---- machines without a piece

none-made : (f : ℕ → ℕ) (needs own : List ℕ) → needs ≡ [] → own ≡ [] → AreMadeOf f needs own
none-made f needs own none empty =
    record {
      into = λ d has. absurd (omega (arith, has.1, ap length none));
      back = λ i has. absurd (omega (arith, has.1, ap length empty));
    }

none-up : (own : List ℕ) → own ≡ [] → AllPairs (λ a b. a < b) own
none-up own empty = subst (λ (l : List ℕ). AllPairs (λ a b. a < b) l) (sym empty) (pairs-nil (λ a b. a < b))

source-needs : (outs o : ℕ) → needs_at (replicate outs []) o ≡ []
source-needs zero o = refl
source-needs (suc outs) zero = refl
source-needs (suc outs) (suc o) = source-needs outs o

-- ---- all machines

module _ (given : Given) (m c : ℕ) (gives : IsGivenBy (plan_wires given.design.circuit given.design.tree given.request) m c) where
  open given use {design, request}
  open cut_of design request use {listed, hub, wires}

  abbrev o : ℕ
  o = place_in (channels_from wires m) c

  -- a machine with a piece
  unit-out-needs : (part : Part) (cut : IsCutPart design listed hub m part) (own : Start) (machine : Machine) → IsUnitOf own part machine → (channels needs : List ℕ) → channels ≡ channels_to wires m
      → ((out : ℕ) → out < length part.globals → value_at part.globals out ≡ (wire_at wires c).given → AreNeedsOf part channels out needs) → HasOutNeeds wires m c needs (kind_of machine)
  unit-out-needs part cut own machine unit channels needs same are =
      let exact = unit.exact.each o (out-low design listed hub m part cut c gives) in
      subst (λ (t : Machine). HasOutNeeds wires m c needs (kind_of t)) (sym unit.is)
      (record { up = exact.ascending; made = part-made design listed hub m part cut c gives channels needs (needs_at unit.needs o) same are (record { ascending = exact.ascending; exact = exact.exact }) })

  memory-out-needs : (part : Part) (body : IsBodyAt given m (Memory part)) (own : Start) (machine : Machine) → IsMemoryOf own part machine → (channels needs : List ℕ) → channels ≡ channels_to wires m
      → ((out : ℕ) → out < length part.globals → value_at part.globals out ≡ (wire_at wires c).given → AreNeedsOf part channels out needs) → HasOutNeeds wires m c needs (kind_of machine)
  memory-out-needs part body own machine stands channels needs same are =
      let exact = memory-needs given m part body own machine stands o (out-low design listed hub m part body.2 c gives) in
      subst (λ (t : Machine). HasOutNeeds wires m c needs (kind_of t)) (sym stands.is)
      (record { up = exact.ascending; made = part-made design listed hub m part body.2 c gives channels needs (needs_at (needs_of stands.alone.piece.memories) o) same are exact })

  -- a machine whose outs need nothing
  none-needed : (outs : ℕ) (needs : List ℕ) (kind : Kind) → kind.needs ≡ replicate outs [] → needs ≡ [] → HasOutNeeds wires m c needs kind
  none-needed outs needs kind is none =
      let out = place_in (channels_from wires m) c in
      let empty : needs_at kind.needs out ≡ [] = ap (λ (l : List (List ℕ)). needs_at l out) is ∙ source-needs outs out in
      record { up = none-up (needs_at kind.needs out) empty; made = none-made (place_in (channels_to wires m)) needs (needs_at kind.needs out) none empty }

  pub out-needs : (columns : List (List ℕ)) (outs : ℕ) (own : Start) (body : Body) (machine : Machine) (channels needs : List ℕ) → IsBodyAt given m body → IsBuilt columns outs own body machine
      → channels ≡ channels_to wires m → NeedsIn body channels (wire_at wires c).given needs → HasOutNeeds wires m c needs (kind_of machine)
  out-needs columns outs own (Cut part) machine channels needs body built same are = unit-out-needs part body.1 own machine built channels needs same are
  out-needs columns outs own (Memory part) machine channels needs body built same are = memory-out-needs part body own machine built channels needs same are
  out-needs columns outs own (Source place) machine channels needs body built same none = none-needed (length (replicate outs false)) needs (kind_of machine) (ap (λ (t : Machine). t.needs) built) none
  out-needs columns outs own Tray machine channels needs body built same none = none-needed 0 needs (kind_of machine) (ap (λ (t : Machine). t.needs) built) none
  out-needs columns outs own (Bridge bridge) machine channels needs body built same none = none-needed (length (turned bridge.model bridge.ins bridge.outs).outs) needs (kind_of machine) (ap (λ (t : Machine). t.needs) built) none
