-- The state and the inputs that a signal needs give it just one value.
use Rattle.std.proofs.Common.{◌≡◌, ℕ, List, sym, ◌∙◌}
use Rattle.gg_flat.specs.Circuit.{FlatCircuit}
use Rattle.gg_flat.specs.State.{State}
use Rattle.gg_program.specs.inside.ConeValue.{NeedsAlike}
use Rattle.gg_program.specs.ConeValue.{IsConeValue}

pub cone-once : (circuit : FlatCircuit) (state : State) (inputs : List ℕ) (out value other : ℕ) → IsConeValue circuit state inputs out value → IsConeValue circuit state inputs out other → value ≡ other
cone-once circuit state inputs out value other a b = sym (a.every a.some.others a.some.row a.some.settled a.some.needs) ∙ b.every a.some.others a.some.row a.some.settled a.some.needs

pub cone-needs : (circuit : FlatCircuit) (state : State) (inputs others : List ℕ) (out value : ℕ) → NeedsAlike circuit out inputs others → IsConeValue circuit state inputs out value → IsConeValue circuit state others out value
cone-needs circuit state inputs others out value same is =
    record {
      every = λ ins row settled needs. is.every ins row settled (λ place within to. needs place within to ∙ sym (same place within to));
      some = record { others = is.some.others; row = is.some.row; settled = is.some.settled; needs = λ place within to. is.some.needs place within to ∙ same place within to };
    }
