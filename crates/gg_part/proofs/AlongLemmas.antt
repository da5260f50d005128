-- If the signals of a part are listed along an order of the whole, each stands after those that it reads; and then their numbers,
-- ascending, are an order of the part.
use Rattle.std.proofs.Common.{◌≡◌, ℕ, ◌+◌, ◌<◌, ◌≤◌, List, length, refl, sym, ◌∙◌, subst, inl, inr, ◌⊎◌, Option, arith}
use Rattle.std.specs.List.{range_with_len}
use Rattle.std.proofs.lemmas.List.{get_or-take, get_or_default, length-take}
use Rattle.std.proofs.lemmas.List.FromFn.{get_or-range_with_len, length-range_with_len}
use Rattle.std.proofs.lemmas.Bool.{cases_lt}
use Rattle.gg_flat.specs.declared.piece.Driver.{Driver}
use Rattle.gg_flat.specs.declared.piece.Driver.TheVariants.{Input, Held, MemoryWord, ReadRegister, Computed}
use Rattle.gg_flat.specs.Line.{value_at}
use Rattle.gg_flat.specs.Circuit.{FlatCircuit, driver_at}
use Rattle.gg_flat.specs.Reads.{NamesSignal, Reads}
use Rattle.gg_flat.specs.Order.{IsOrder}
use Rattle.gg_flat.proofs.OrderLemmas.{read-before, not-before, place-of}
use Rattle.gg_flat.proofs.ListLemmas.{once-apart}
use Rattle.gg_part.specs.Part.{IsPart, IsFrom}
use Rattle.gg_flat.proofs.RenamedLineLaws.{named-there}
use Rattle.gg_flat.specs.inside.InOrder.{Precedes, IsAlong}
use Rattle.gg_flat.specs.InOrder.{IsInOrder}

-- s is a signal of the part, and the driver names the whole's signal that it stands for
pub record IsNamedIn (globals : List ℕ) (driver : Driver) (s : ℕ) : Type 0 where
  pub within : s < length globals
  pub named : NamesSignal driver (value_at globals s)

pub named-in : (ins globals held memories : List ℕ) (a b : ℕ) (whole part : Driver) → IsFrom ins globals held memories a whole part → NamesSignal part b → IsNamedIn globals whole b
named-in ins globals held memories a b whole (Input place) from named = absurd named
named-in ins globals held memories a b whole (Held register) from named = absurd named
named-in ins globals held memories a b whole (MemoryWord m r addr en) from (inl is) =
    subst (λ t. IsNamedIn globals whole t) is (record { within = from.1; named = subst (λ d. NamesSignal d (value_at globals addr)) (sym from.3) (inl refl) })
named-in ins globals held memories a b whole (MemoryWord m r addr en) from (inr is) =
    subst (λ t. IsNamedIn globals whole t) is (record { within = from.2; named = subst (λ d. NamesSignal d (value_at globals en)) (sym from.3) (inr refl) })
named-in ins globals held memories a b whole (ReadRegister m r) from named = absurd named
named-in ins globals held memories a b whole (Computed line) from named =
    record { within = from.0 b named; named = subst (λ d. NamesSignal d (value_at globals b)) (sym from.1) (named-there (value_at globals) line b named) }

module _ (whole part : FlatCircuit) (globals held memories order : List ℕ) (clocks : List (Option ℕ)) (is : IsPart whole part globals held memories clocks) (ordered : IsOrder whole order) where
  -- if a signal of the part reads another, so do the signals of the whole for which they stand
  reads-in : (a b : ℕ) → Reads part a b → (b < length globals) × Reads whole (value_at globals a) (value_at globals b)
  reads-in a b reads =
      let known : a < length globals = omega (arith, reads.signal, is.count) in
      let at = named-in part.ins globals held memories a b (driver_at whole (value_at globals a)) (driver_at part a) (is.drivers a known) reads.names in
      (at.within, record { signal = is.within a known; names = at.named })

  -- a signal doesn't stand before what it reads
  no-later : (a b : ℕ) → Reads whole a b → Precedes order a b → ⊥
  no-later a b reads precedes =
      let before = read-before whole order precedes.first a b ordered (omega (arith, precedes.before, precedes.within)) precedes.first_is reads in
      let same = once-apart order 0 ordered.once before.place precedes.second before.within precedes.within (before.is ∙ sym precedes.second_is) in
      omega (arith, same, before.before, precedes.before)

  -- a signal doesn't read itself
  no-self : (a : ℕ) → Reads whole a a → ⊥
  no-self a reads =
      let at = place-of whole order a ordered reads.signal in
      not-before whole order at.place a ordered at.within at.is (read-before whole order at.place a a ordered at.within at.is reads)

  pub IsInOrder-along : IsAlong order globals → IsInOrder part
  IsInOrder-along along a b reads =
      let known : a < length globals = omega (arith, reads.signal, is.count) in
      let in_whole = reads-in a b reads in
      by in_whole.0 in_whole.1 (cases_lt b a) (cases_lt a b)
    where
      by : b < length globals → Reads whole (value_at globals a) (value_at globals b) → (b < a) ⊎ (a ≤ b) → (a < b) ⊎ (b ≤ a) → b < a
      by within read (inl lt) q = lt
      by within read (inr le) (inl lt) = absurd (no-later (value_at globals a) (value_at globals b) read (along a b 0 lt within))
      by within read (inr le) (inr ge) = absurd (no-self (value_at globals a) (subst (λ t. Reads whole (value_at globals a) (value_at globals t)) (let same : b ≡ a = omega arith in same) read))
