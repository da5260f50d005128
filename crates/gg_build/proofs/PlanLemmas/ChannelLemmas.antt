-- The channel of a signal.
use Rattle.std.proofs.Common.{◌≡◌, ◌≢◌, ℕ, ◌<◌, List, length, true≢false, refl, sym, ◌∙◌, ap, Some, None, eq-eqb, true-eqb}
use Rattle.std.specs.Prelude.{Option, AllPairs, unwrap_or, ◌==◌}
use Rattle.std.proofs.lemmas.List.Folds.{list_any_at}
use Rattle.gg_cut_plan.specs.declared.wires.Wire.{Wire}
use Rattle.gg_cut_plan.specs.Listed.{first_place}
use Rattle.gg_cut_plan.specs.Channels.{wire}
use Rattle.gg_cut_plan.specs.Plan.{wire_at}
use Rattle.gg_cut_plan.proofs.PathLemmas.{first_place-Some, first_place-None}
use Rattle.gg_build.proofs.PlanLemmas.SideLemmas.{link-one}
use Rattle.gg_build.specs.plan.CutLayout.{channel_of}

-- if no two channels carry the same signal, the channel of a channel's signal is that channel
pub channel-back : (wires : List Wire) (c : ℕ) → AllPairs (λ (v w : Wire). v.signal ≢ w.signal) wires → c < length wires → channel_of wires (wire_at wires c).signal ≡ c
channel-back wires c once lt = by (first_place (λ (w : Wire). w.signal == (wire_at wires c).signal) wires) refl
  where
    by : (found : Option ℕ) → first_place (λ (w : Wire). w.signal == (wire_at wires c).signal) wires ≡ found → channel_of wires (wire_at wires c).signal ≡ c
    by None e =
        let any = list_any_at (λ (w : Wire). w.signal == (wire_at wires c).signal) wires c (wire 0 0 0) lt (eq-eqb (wire_at wires c).signal (wire_at wires c).signal refl) in
        absurd (true≢false (sym any ∙ first_place-None (λ (w : Wire). w.signal == (wire_at wires c).signal) wires e))
    by (Some i) e =
        let at = first_place-Some (λ (w : Wire). w.signal == (wire_at wires c).signal) wires i e in
        let place : channel_of wires (wire_at wires c).signal ≡ i = ap (λ (found : Option ℕ). unwrap_or found 0) e in
        place ∙ link-one wires i c once at.within lt (true-eqb (wire_at wires i).signal (wire_at wires c).signal (sym (at.passes (wire 0 0 0))))
