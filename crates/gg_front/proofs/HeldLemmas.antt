-- No two signals of a well-formed circuit hold one register.
use Rattle.std.proofs.Common.{◌≡◌, ℕ, ◌<◌, length, sym, ◌∙◌, subst}
use Rattle.gg_flat.specs.declared.piece.Driver.TheVariants.{Held}
use Rattle.gg_flat.specs.Circuit.{FlatCircuit, driver_at}
use Rattle.gg_flat.specs.WellFormed.{IsWellFormed, MayDrive}
use Rattle.gg_elab_tree.specs.Held.{AreHeldOnce}

pub held-once : (circuit : FlatCircuit) → IsWellFormed circuit → AreHeldOnce circuit
    → (s t r : ℕ) → s < length circuit.signals → t < length circuit.signals → driver_at circuit s ≡ Held r → driver_at circuit t ≡ Held r → s ≡ t
held-once circuit formed held s t r within other holds same =
    let drives = subst (MayDrive circuit s) holds (formed.drivers s within) in
    let one = held r drives.0 in
    one.only s within holds ∙ sym (one.only t other same)
