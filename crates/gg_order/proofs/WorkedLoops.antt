-- A loop by hand as it is reported, and lists of signals that aren't a loop or aren't reported.
use Rattle.std.proofs.Common.{◌≡◌, ◌≢◌, ℕ, zero, suc, ◌<◌, List, [], ◌∷◌, false, true≢false, inl, inr, refl, sym, ap, ◌∙◌, arith, lit<}
use Rattle.std.specs.Prelude.{Contains}
use Rattle.std.specs.List.{IsDistinct}
use Rattle.std.specs.Ordering.{nat_cmp, is_lt}
use Rattle.std.specs.Cmp.Lexicographic.{slice_cmp}
use Rattle.gg_flat.specs.declared.line.Op.TheVariants.{Ref}
use Rattle.gg_flat.specs.declared.piece.Driver.TheVariants.{Held, MemoryWord}
use Rattle.gg_flat.specs.declared.piece.Signal.{Signal}
use Rattle.gg_flat.specs.Circuit.{FlatCircuit}
use Rattle.gg_flat.specs.Order.{IsOrder}
use Rattle.gg_flat.specs.Reads.{Names, NamesSignal, IsLoop}
use Rattle.gg_flat.proofs.NameLemmas.{Contains-one}
use Rattle.gg_flat.proofs.WorkedCircuits.{eight, node}
use Rattle.gg_flat.proofs.WorkedForms.{three, apart}
use Rattle.gg_flat.proofs.WorkedMemories.{two, signal, copy, high}
use Rattle.gg_graph.proofs.WorkedRows.{distinct}
use Rattle.gg_order.specs.Loop.{IsBefore, IsToldLoop}

-- ---- three signals that read each other, and one that reads one of them

-- Signal 0 is `b`, a copy of `c`; 1 is `a`, a copy of `b`; 2 is `c`, a copy of `a`; and 3 is `0`, a copy of `a` too.
abbrev circle : FlatCircuit
circle =
    record {
      paths = (98 ∷ []) ∷ (97 ∷ []) ∷ (99 ∷ []) ∷ (48 ∷ []) ∷ [];
      signals = copy eight 2 ∷ copy eight 0 ∷ copy eight 1 ∷ copy eight 1 ∷ [];
      registers = [];
      memories = [];
      ins = [];
      outs = 3 ∷ [];
      clocks = 0;
    }

-- what a copy reads
copied : (s t : ℕ) → Names (node eight (Ref s) ∷ []) t → s ≡ t
copied s t names = let same : Ref s ≡ Ref t = Contains-one (Ref s) (Ref t) names in cc

-- a path that doesn't come before another
never : (a b : List ℕ) → is_lt (slice_cmp nat_cmp a b) ≡ false → ¬ IsBefore a b
never a b not before = true≢false (sym (ap is_lt before) ∙ not)

-- a, b, c
circle-told : IsToldLoop circle (1 ∷ 0 ∷ 2 ∷ [])
unfolding IsDistinct
circle-told = record {
  loop = (distinct (1 ∷ 0 ∷ 2 ∷ []) ((refl, (refl, tt)), ((refl, tt), (tt, tt))), (record { signal = lit< tt; names = (0, lit< tt, refl) }, (record { signal = lit< tt; names = (0, lit< tt, refl) }, record { signal = lit< tt; names = (0, lit< tt, refl) })));
  least = three _ (never (97 ∷ []) (97 ∷ []) refl) (never (98 ∷ []) (97 ∷ []) refl) (never (99 ∷ []) (97 ∷ []) refl);
}

-- b, c, a: the same loop, but its first path isn't the least
turned : IsLoop circle (0 ∷ 2 ∷ 1 ∷ [])
unfolding IsDistinct
turned = (distinct (0 ∷ 2 ∷ 1 ∷ []) ((refl, (refl, tt)), ((refl, tt), (tt, tt))), (record { signal = lit< tt; names = (0, lit< tt, refl) }, (record { signal = lit< tt; names = (0, lit< tt, refl) }, record { signal = lit< tt; names = (0, lit< tt, refl) })))

turned-not_told : ¬ IsToldLoop circle (0 ∷ 2 ∷ 1 ∷ [])
turned-not_told told = told.least 2 (lit< tt) refl

-- a, c, b: in reverse; a doesn't read c
reversed : ¬ IsLoop circle (1 ∷ 2 ∷ 0 ∷ [])
reversed loop = apart 0 2 refl (copied 0 2 loop.1.0.names)

-- 0, a, b, c: c doesn't read 0
entered : ¬ IsLoop circle (3 ∷ 1 ∷ 0 ∷ 2 ∷ [])
entered loop = apart 1 3 refl (copied 1 3 loop.1.1.1.1.names)

-- b, c: a loop without its first signal, which c reads
without-first : ¬ IsLoop circle (0 ∷ 2 ∷ [])
without-first loop = apart 1 0 refl (copied 1 0 loop.1.1.names)

-- a: a loop that has lost its end
without-end : ¬ IsLoop circle (1 ∷ [])
without-end loop = apart 0 1 refl (copied 0 1 loop.1.names)

-- ---- what a memory reads

-- Signal 0 is the data of a reader of latency 0, 1 its address and 2 its enable, which is high.
abbrev reading : Signal → FlatCircuit
reading address =
    record {
      paths = (100 ∷ []) ∷ (97 ∷ []) ∷ (101 ∷ []) ∷ [];
      signals = signal eight (MemoryWord 0 0 1 2) ∷ address ∷ high ∷ [];
      registers = [];
      memories = [];
      ins = [];
      outs = 0 ∷ [];
      clocks = 0;
    }

-- where the address is a copy of the data, there is a loop through the read
through-read : IsLoop (reading (copy two 0)) (0 ∷ 1 ∷ [])
unfolding IsDistinct
through-read = (distinct (0 ∷ 1 ∷ []) ((refl, tt), (tt, tt)), (record { signal = lit< tt; names = inl refl }, record { signal = lit< tt; names = (0, lit< tt, refl) }))

-- a number that differs from the only one, or from none, isn't there
only-one : (a b : ℕ) → a ≢ b → Contains (a ∷ []) b → ⊥
only-one a b other (zero, lt, is) = other is
only-one a b other (suc k, lt, is) = absurd (omega (arith, lt))

nowhere : (b : ℕ) → Contains [] b → ⊥
nowhere b at = let never : at.0 < 0 = at.1 in absurd (omega (arith, never))

-- the data isn't evaluated before its enable
enable-behind : ¬ IsOrder (reading high) (1 ∷ 0 ∷ 2 ∷ [])
enable-behind order = only-one 1 2 (apart 1 2 refl) (order.after 1 2 (lit< tt) (record { signal = lit< tt; names = inr refl }))

-- nor a copy before what it copies, which its last node names
copy-first : ¬ IsOrder circle (1 ∷ 0 ∷ 2 ∷ 3 ∷ [])
copy-first order = nowhere 0 (order.after 0 0 (lit< tt) (record { signal = lit< tt; names = (0, lit< tt, refl) }))

-- a signal that holds register 3 doesn't read signal 3
no-register : NamesSignal (Held 3) 3 → ⊥
no-register names = names
