-- Two registers that follow two clocks, worked by hand over six ticks.
use Rattle.std.proofs.Common.{◌≡◌, ℕ, ◌<◌, List, [], ◌∷◌, Some, None, take, refl, ap, arith, lit<, lit≤}
use Rattle.std.specs.Prelude.{Contains, slice_index_or}
use Rattle.gg_bits.specs.declared.types.Ty.{Ty}
use Rattle.gg_bits.specs.declared.ops.Op2.TheVariants.{Add}
use Rattle.gg_bits.specs.declared.ops.OpN.TheVariants.{Tail}
use Rattle.gg_flat.specs.declared.line.Op.TheVariants.{Ref, Literal, Two, Fix}
use Rattle.gg_flat.specs.declared.piece.Driver.TheVariants.{Held, Computed}
use Rattle.gg_flat.specs.Line.{value_at, HasType}
use Rattle.gg_flat.specs.Circuit.{FlatCircuit, signal_shapes, driver_at}
use Rattle.gg_flat.specs.Reads.{Reads}
use Rattle.gg_flat.specs.WellFormed.{MayDrive, IsClock, IsRegister, IsWellFormed}
use Rattle.gg_flat.specs.Order.{IsOrder}
use Rattle.gg_flat.specs.Run.{Start, IsRunFrom, clocked_start, column}
use Rattle.gg_flat.specs.Along.{rows_from}
use Rattle.gg_flat.proofs.StateLemmas.{IsState-opening}
use Rattle.gg_order.proofs.RunsLemmas.AlongLemmas.{IsRunFrom-along}
use Rattle.gg_flat.proofs.WorkedCircuits.{uint_type, one, node, value}
use Rattle.gg_flat.proofs.WorkedClocks.{two_of_three, every}
use Rattle.gg_flat.proofs.WorkedForms.{only, both, four, apart, differ, quad, same}

abbrev four_bits : Ty
four_bits = uint_type 4 (lit≤ tt) (lit≤ tt)

abbrev five_bits : Ty
five_bits = uint_type 5 (lit≤ tt) (lit≤ tt)

-- Signal 0 is the output `p`, 1 the output `q`, 2 the register `r` and 3 the register `s`. `p` is `r` and `q` is `s`. `r`
-- follows clock 0 and takes `tail(add(r, 1), 1)`; `s` follows clock 1 and takes `tail(add(s, r), 1)`.
abbrev dual : FlatCircuit
dual =
    record {
      paths = (112 ∷ []) ∷ (113 ∷ []) ∷ (114 ∷ []) ∷ (115 ∷ []) ∷ [];
      signals =
          record { ty = four_bits; driver = Computed (node four_bits (Ref 2) ∷ []) }
          ∷ record { ty = four_bits; driver = Computed (node four_bits (Ref 3) ∷ []) }
          ∷ record { ty = four_bits; driver = Held 0 }
          ∷ record { ty = four_bits; driver = Held 1 }
          ∷ [];
      registers =
          record {
            ty = four_bits;
            reset = None;
            next = Some (node four_bits (Ref 2) ∷ node one (Literal (value 1)) ∷ node five_bits (Two Add 0 1) ∷ node four_bits (Fix Tail 2 1 0) ∷ []);
            clock = Some 0;
          }
          ∷ record {
            ty = four_bits;
            reset = None;
            next = Some (node four_bits (Ref 3) ∷ node four_bits (Ref 2) ∷ node five_bits (Two Add 0 1) ∷ node four_bits (Fix Tail 2 1 0) ∷ []);
            clock = Some 1;
          }
          ∷ [];
      memories = [];
      ins = [];
      outs = 0 ∷ 1 ∷ [];
      clocks = 2;
    }

abbrev dual_order : List ℕ
dual_order = 2 ∷ 3 ∷ 0 ∷ 1 ∷ []

-- clock 0 has an edge in each tick, clock 1 in two of three
abbrev dual_start : Start
dual_start = clocked_start dual (every ∷ two_of_three ∷ [])

-- `p` is 0, 1, 2, 3, 4, 5, and `q` is 0, 0, 1, 3, 3, 7: `s` keeps its value in ticks 0 and 3
dual-p : column (rows_from dual dual_order dual_start [] 6) 0 ≡ 0 ∷ 1 ∷ 2 ∷ 3 ∷ 4 ∷ 5 ∷ []
dual-p = refl

dual-q : column (rows_from dual dual_order dual_start [] 6) 1 ≡ 0 ∷ 0 ∷ 1 ∷ 3 ∷ 3 ∷ 7 ∷ []
dual-q = refl

-- where clock 1 has an edge in each tick too, `q` goes another way
near-every-edge : column (rows_from dual dual_order (clocked_start dual []) [] 6) 1 ≡ 0 ∷ 0 ∷ 1 ∷ 3 ∷ 3 ∷ 7 ∷ [] → ⊥
near-every-edge e = apart 6 3 refl (ap (λ l. value_at l 4) e)

-- so it does where the clocks have each other's ratio
near-other-ratios : column (rows_from dual dual_order (clocked_start dual (two_of_three ∷ every ∷ [])) [] 6) 1 ≡ 0 ∷ 0 ∷ 1 ∷ 3 ∷ 3 ∷ 7 ∷ [] → ⊥
near-other-ratios e = apart 0 1 refl (ap (λ l. value_at l 2) e)

-- ---- the circuit is well formed, and the list is an order of it, so the rows are the run

dual-formed : IsWellFormed dual
dual-formed = record {
  named = refl;
  distinct = quad _ _ _ _ (differ 112 113 refl) (differ 112 114 refl) (differ 112 115 refl) (differ 113 114 refl) (differ 113 115 refl) (differ 114 115 refl);
  drivers = four (λ s. MayDrive dual s (driver_at dual s))
      (record { line = record { some = lit< tt; typed = only _ (lit< tt, refl) }; kind = refl; width = lit≤ tt })
      (record { line = record { some = lit< tt; typed = only _ (lit< tt, refl) }; kind = refl; width = lit≤ tt })
      (lit< tt, refl)
      (lit< tt, refl);
  ins = λ place lt. absurd (omega arith);
  outs = both _ (lit< tt) (lit< tt);
  registers = λ k d lt. both (λ i. IsRegister (HasType (signal_shapes dual)) (slice_index_or dual.registers i d))
      (record {
        reset = tt;
        next = record { line = record { some = lit< tt; typed = four _ (lit< tt, refl) (lit< tt) (lit< tt, lit< tt, refl) (lit< tt, refl) }; kind = refl; width = lit≤ tt };
      })
      (record {
        reset = tt;
        next = record { line = record { some = lit< tt; typed = four _ (lit< tt, refl) (lit< tt, refl) (lit< tt, lit< tt, refl) (lit< tt, refl) }; kind = refl; width = lit≤ tt };
      })
      k lt;
  memories = λ m d lt. absurd (omega arith);
  reads = λ m lt. absurd (omega arith);
  register_clocks = λ k d lt. both (λ i. IsClock 2 (slice_index_or dual.registers i d).clock) (lit< tt) (lit< tt) k lt;
  memory_clocks = λ m d lt. absurd (omega arith);
}

-- it isn't well formed with one clock alone, which the second register's isn't
near-one-clock : ¬ IsWellFormed (record dual { clocks = 1 })
near-one-clock is =
    let past : 1 < 1 = is.register_clocks 1 (record { ty = four_bits; reset = None; next = None; clock = None }) (lit< tt) in
    absurd (omega (arith, past))

dual-ordered : IsOrder dual dual_order
dual-ordered = record {
  signals = four _ (lit< tt) (lit< tt) (lit< tt) (lit< tt);
  once = quad 2 3 0 1 (apart 2 3 refl) (apart 2 0 refl) (apart 2 1 refl) (apart 3 0 refl) (apart 3 1 refl) (apart 0 1 refl);
  every = four _ (2, lit< tt, refl) (3, lit< tt, refl) (0, lit< tt, refl) (1, lit< tt, refl);
  after = λ i s lt. four (λ i. Reads dual (value_at dual_order i) s → Contains (take i dual_order) s)
      (λ r. absurd r.names)
      (λ r. absurd r.names)
      (λ r. only (λ k. slice_index_or (Ref 2 ∷ []) k (Ref s) ≡ Ref s → Contains (2 ∷ 3 ∷ []) s) (λ is. (0, lit< tt, same 2 s is)) r.names.0 r.names.1 r.names.2)
      (λ r. only (λ k. slice_index_or (Ref 3 ∷ []) k (Ref s) ≡ Ref s → Contains (2 ∷ 3 ∷ 0 ∷ []) s) (λ is. (1, lit< tt, same 3 s is)) r.names.0 r.names.1 r.names.2)
      i lt;
}

dual-run : IsRunFrom dual dual_start [] 6 (rows_from dual dual_order dual_start [] 6)
dual-run = IsRunFrom-along dual dual_order dual_start [] 6 dual-formed dual-ordered (IsState-opening dual) (λ t lt. record { count = refl; fits = λ i lt. absurd (omega arith) })
