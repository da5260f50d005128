use Rattle.std.proofs.Common.{◌≡◌, ℕ, drop, length}
use Rattle.gg_flat.specs.Memory.{bank_at}
use Rattle.gg_snap.specs.inside.Parts.{HasSizeOf, put}
use Rattle.gg_snap.proofs.text.draft.put_banks.Given as goal

abbrev pub invariant-loop-i : goal.invariant-loop-i
invariant-loop-i l =
    (length l.old ≡ length l.initial.old) × (put l.old (drop l.i l.places) (drop l.i l.banks) ≡ put l.initial.old l.places l.banks) × ((m : ℕ) → HasSizeOf (bank_at l.old m) (bank_at l.initial.old m))
