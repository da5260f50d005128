-- What sources and trays do.
use Rattle.std.proofs.Common.{◌≡◌, ℕ, ◌<◌, ◌≤◌, List, [], Bool, None, length, get_or, refl, sym, ◌∙◌, subst, arith}
use Rattle.gg_bits.specs.Limits.{cycle_limit, tray_rows}
use Rattle.gg_flat.specs.Line.{value_at}
use Rattle.gg_flat.specs.Run.{column}
use Rattle.gg_node.specs.Machine.{Machine, no_state, source_machine, tray_machine}
use Rattle.gg_net.specs.Network.{kind_of}
use Rattle.gg_net.proofs.StateLemmas.{column-at}
use Rattle.gg_build.proofs.PlanLemmas.DoLemmas.{DoesCycles}

-- ---- sources

-- The signals of the source's channels have, from cycle `begin` on, the values of the column of the input at this place.
pub source-does : (begin : ℕ) (rows : List (List ℕ)) (n place : ℕ) (columns : List (List ℕ)) (ins outs : List ℕ) (flags : List Bool) (machine : Machine) → length (get_or columns place []) ≡ n → length ins ≡ 0
    → ((o t : ℕ) → o < length outs → begin ≤ t → t < n → value_at (column rows (value_at outs o)) t ≡ value_at (get_or columns place []) t) → machine ≡ source_machine (get_or columns place []) begin flags → DoesCycles begin rows n ins outs (kind_of machine) no_state []
source-does begin rows n place columns ins outs flags machine long none all is =
    subst (λ (t : Machine). DoesCycles begin rows n ins outs (kind_of t) no_state []) (sym is)
    (record {
      able = omega (arith, long);
      does = (omega (arith, long), refl);
      answers = λ o t few le below. sym (all o t few le below) ∙ column-at rows (value_at outs o) t;
      asks = λ k t few le below. absurd (omega (arith, few, none));
    })

-- ---- trays

pub tray-does : (begin : ℕ) (rows : List (List ℕ)) (n : ℕ) (ins outs : List ℕ) (machine : Machine) → length ins ≡ 1 → length outs ≡ 0 → n ≤ cycle_limit → machine ≡ tray_machine tray_rows cycle_limit begin [] None → DoesCycles begin rows n ins outs (kind_of machine) no_state []
tray-does begin rows n ins outs machine one none most is =
    subst (λ (t : Machine). DoesCycles begin rows n ins outs (kind_of t) no_state []) (sym is)
    (record {
      able = most;
      does = (refl, refl, λ some. omega arith);
      answers = λ o t few le lt. absurd (omega (arith, few, none));
      asks = λ i t few le lt. tt;
    })
