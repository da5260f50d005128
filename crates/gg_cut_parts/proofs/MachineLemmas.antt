-- The machines of a plan: their channels and their parts.
use Rattle.std.proofs.Common.{◌≡◌, ℕ, ◌+◌, ◌<◌, List, [], ◌∷◌, ◌++◌, Option, length, map, get_or, sym, ◌∙◌, ap, subst, below_more, arith}
use Rattle.std.specs.Prelude.{Contains, ◌==◌, ◌⊎◌, ◌↔◌}
use Rattle.std.proofs.lemmas.List.{get_or_push, get_or_append_left}
use Rattle.gg_flat.specs.Line.{value_at}
use Rattle.gg_flat.specs.Circuit.{FlatCircuit}
use Rattle.gg_flat.specs.Order.{IsOrder}
use Rattle.gg_order.specs.Design.{Ordered}
use Rattle.gg_part.specs.declared.part.Part.{Part}
use Rattle.gg_part.specs.Part.{IsPart}
use Rattle.gg_part.specs.Building.{AreHeld}
use Rattle.gg_flat.specs.inside.InOrder.{IsAlong}
use Rattle.gg_flat.specs.InOrder.{IsInOrder}
use Rattle.gg_cut_plan.specs.declared.listed.Listed.{Listed}
use Rattle.gg_cut_plan.specs.declared.wires.Wire.{Wire}
use Rattle.gg_cut_plan.specs.Plan.{wire_at, channels_to, channels_from, signals_of, givens_of, MakesBy, Takes, HasMemory, IsCutPart, machine_clocks}
use Rattle.gg_cut_plan.proofs.RangeLemmas.{filter-below}
use Rattle.gg_cut_plan.specs.Direct.{Hub, routes}
use Rattle.gg_cut_routes.specs.inside.Share.{IsPlanShare}

-- ---- channels are numbers below their count

pub to-below : (wires : List Wire) (m : ℕ) (channels : List ℕ) → channels ≡ channels_to wires m → (k d : ℕ) → k < length channels → get_or channels k d < length wires
to-below wires m channels is k d lt = let below = filter-below (λ c. (wire_at wires c).consumer == m) 0 (length wires) channels is k d lt in omega (arith, below)

pub from-below : (wires : List Wire) (m : ℕ) (channels : List ℕ) → channels ≡ channels_from wires m → (k d : ℕ) → k < length channels → get_or channels k d < length wires
from-below wires m channels is k d lt = let below = filter-below (λ c. (wire_at wires c).producer == m) 0 (length wires) channels is k d lt in omega (arith, below)

-- ---- parts

-- the part that is made of what a machine has is the part that its plan asks for
pub cut-part : (design : Ordered) (listed : Listed) (hub : Hub) (wires : List Wire) → wires ≡ routes hub → (m : ℕ) (taken given chosen banks : List ℕ) (whole : FlatCircuit) (part : Part) → IsPlanShare design listed hub m taken given chosen banks → whole ≡ design.circuit → IsPart whole part.piece part.globals part.held part.memories part.clocks → part.clocks ≡ machine_clocks design.tree listed m → part.globals ≡ chosen → part.memories ≡ banks
    → map (value_at part.globals) part.piece.ins ≡ signals_of wires taken → map (value_at part.globals) part.piece.outs ≡ givens_of wires given → AreHeld whole part.globals (signals_of wires taken) part.held → IsOrder design.circuit design.order
    → ((whole part : FlatCircuit) (globals held memories order : List ℕ) (clocks : List (Option ℕ)) → IsPart whole part globals held memories clocks → IsOrder whole order → IsAlong order globals → IsInOrder part)
    → IsCutPart design listed hub m part
cut-part design listed hub wires all m taken given chosen banks whole part own w is follows g ms i o held ordered law =
    let here = subst (λ (k : FlatCircuit). IsPart k part.piece part.globals part.held part.memories part.clocks) w is in
    record {
      is = here;
      clocks = follows;
      signals = λ s. subst (λ (l : List ℕ). Contains l s ↔ (MakesBy hub m s ⊎ Takes (routes hub) m s)) (sym g) (own.signals s);
      ins = i ∙ ap (λ (l : List Wire). signals_of l taken) all ∙ ap (signals_of (routes hub)) own.takes;
      outs = o ∙ ap (λ (l : List Wire). givens_of l given) all ∙ ap (givens_of (routes hub)) own.gives;
      held =
          subst (λ (k : FlatCircuit). AreHeld k part.globals (signals_of (routes hub) (channels_to (routes hub) m)) part.held) w
          (subst (λ (l : List ℕ). AreHeld whole part.globals (signals_of (routes hub) l) part.held) own.takes (subst (λ (l : List Wire). AreHeld whole part.globals (signals_of l taken) part.held) all held));
      memories = λ k. subst (λ (l : List ℕ). Contains l k ↔ HasMemory design.tree listed m k) (sym ms) (own.banks k);
      ordered = law design.circuit part.piece part.globals part.held part.memories design.order part.clocks here ordered (subst (λ (l : List ℕ). IsAlong design.order l) (sym g) own.along);
    }

-- ---- one more at the end

pub each-push : {A : Type 0} (P : ℕ → A → Type 0) (xs ys : List A) (x : A) (n : ℕ) → length xs ≡ n → ((k : ℕ) (any : A) → k < n → P k (get_or xs k any)) → P n x → ys ≡ xs ++ x ∷ [] → (k : ℕ) (any : A) → k < n + 1 → P k (get_or ys k any)
each-push P xs ys x n count each here made k any lt =
    below_more (λ i. P i (get_or ys i any)) n
    (λ i below. subst (P i) (sym (ap (λ l. get_or l i any) made ∙ get_or_append_left xs (x ∷ []) any i (omega (arith, below, count)))) (each i any below))
    (subst (P n) (sym (ap (λ l. get_or l n any) made ∙ get_or_push xs x any n count)) here)
    k lt
