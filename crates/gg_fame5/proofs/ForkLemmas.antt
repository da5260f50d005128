-- A forked thread has the tokens, the needs and the next state of its program.
use Rattle.std.proofs.Common.{◌≡◌, ℕ, ◌<◌, List, [], Option, Some, None, Bool, length, refl, ap, subst, ◌∙◌}
use Rattle.std.proofs.lemmas.List.{get_or-map}
use Rattle.gg_flat.specs.Clock.{Ratio}
use Rattle.gg_flat.specs.Line.{value_at}
use Rattle.gg_flat.specs.State.{State}
use Rattle.gg_flat.specs.Settled.{Settled}
use Rattle.gg_node.specs.Machine.{RunsPiece, needs_at}
use Rattle.gg_node.specs.Token.{IsTokenOf, IsNextOf, AgreesOn}
use Rattle.gg_program.specs.Programmed.{Programmed}
use Rattle.gg_fame5.specs.Machine.{unit_machine}
use Rattle.gg_fame5.specs.inside.Fork.{out_of, out_count, chosen_outs, chosen_needs, forked}

-- what is settled doesn't look at the outs
settled-forked : (program : Programmed) (outs : Option (List ℕ)) (state : State) (inputs signals : List ℕ) → Settled (forked program outs).circuit state inputs signals → Settled program.circuit state inputs signals
settled-forked program outs state inputs signals s = record { typed = s.typed; driven = s.driven }

out-chosen : (all : List ℕ) (outs : Option (List ℕ)) (o : ℕ) → o < out_count (length all) outs → value_at (chosen_outs all outs) o ≡ value_at all (out_of outs o)
out-chosen all None o below = refl
out-chosen all (Some outs) o below = get_or-map (value_at all) outs o 0 0 below

pub needs-chosen : (all : List (List ℕ)) (n : ℕ) (outs : Option (List ℕ)) (o : ℕ) → o < out_count n outs → needs_at (chosen_needs all outs) o ≡ needs_at all (out_of outs o)
needs-chosen all n None o below = refl
needs-chosen all n (Some outs) o below = get_or-map (needs_at all) outs o 0 [] below

pub token-forked : (program : Programmed) (outs : Option (List ℕ)) (ratios : List Ratio) (cycle : ℕ) (state : State) (latches : List (Option ℕ)) (flags all : List Bool) (o value : ℕ) → o < out_count (length program.circuit.outs) outs → IsTokenOf (RunsPiece program.circuit) (unit_machine program ratios cycle state latches all) (out_of outs o) value → IsTokenOf (RunsPiece (forked program outs).circuit) (unit_machine (forked program outs) ratios cycle state latches flags) o value
token-forked program outs ratios cycle state latches flags all o value below token inputs signals settled agrees =
    ap (value_at signals) (out-chosen program.circuit.outs outs o below)
    ∙ token inputs signals (settled-forked program outs state inputs signals settled)
    (subst (λ (l : List ℕ). AgreesOn l latches inputs) (needs-chosen program.needs (length program.circuit.outs) outs o below) agrees)

pub next-forked : (program : Programmed) (outs : Option (List ℕ)) (ratios : List Ratio) (cycle : ℕ) (state next : State) (latches : List (Option ℕ)) (flags all : List Bool) → IsNextOf (RunsPiece program.circuit) [] (unit_machine program ratios cycle state latches all) next → IsNextOf (RunsPiece (forked program outs).circuit) [] (unit_machine (forked program outs) ratios cycle state latches flags) next
next-forked program outs ratios cycle state next latches flags all is signals settled = is signals (settled-forked program outs state _ signals settled)
