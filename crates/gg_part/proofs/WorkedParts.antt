-- A part of a small circuit; and lists and pieces with one flaw each, which aren't choices or parts.
--
-- The whole is a counter: signal 0 is the input `reset`, 1 the output `out`, 2 the register `c`, 3 the node `n`, which is
-- `add(c, 1)`. The part has `c`, `n` and `reset`, in this order; `n` and `reset` come from outside.
use Rattle.std.proofs.Common.{◌≡◌, ◌≢◌, ℕ, ◌<◌, List, [], ◌∷◌, Option, Some, None, inl, inr, sym, refl, ap, subst, arith, lit<}
use Rattle.std.specs.Prelude.{AllPairs, Contains, slice_index_or, slice_get}
use Rattle.std.proofs.lemmas.List.Kept.{AllPairs-cons}
use Rattle.gg_bits.specs.declared.ops.OpN.TheVariants.{Bits}
use Rattle.gg_flat.specs.declared.line.Node.{Node}
use Rattle.gg_flat.specs.declared.line.Op.{Op}
use Rattle.gg_flat.specs.declared.line.Op.TheVariants.{Ref, Literal, Fix, Mux}
use Rattle.gg_flat.specs.declared.piece.Register.{Register}
use Rattle.gg_flat.specs.declared.piece.Driver.TheVariants.{Input, Held}
use Rattle.gg_flat.specs.Line.{value_at}
use Rattle.gg_flat.specs.Circuit.{FlatCircuit, driver_at}
use Rattle.gg_flat.specs.Reads.{NamesSignal, RegisterNames}
use Rattle.gg_flat.proofs.NameLemmas.{Contains-one}
use Rattle.gg_flat.proofs.WorkedCircuits.{one, eight, nine, node, value, counter}
use Rattle.gg_flat.proofs.WorkedForms.{only, both, three, five, pair, apart, other, same}
use Rattle.gg_flat.proofs.WorkedMemories.{signal, ports}
use Rattle.gg_part.specs.Part.{IsPart, IsFrom, IsRegisterFrom}
use Rattle.gg_part.specs.Building.{Holds}
use Rattle.gg_part.specs.inside.Choice.{IsChoice, NamesMemory}

-- ---- the counter's register

-- the counter's register, where the signals that it names have these numbers
abbrev counted : ℕ → ℕ → ℕ → Register
counted reset c n =
    record {
      ty = eight;
      reset = Some (record { condition = node one (Literal (value 0)) ∷ []; init = node eight (Ref c) ∷ [] });
      next = Some (node one (Ref reset) ∷ node eight (Literal (value 0)) ∷ node nine (Ref n) ∷ node eight (Fix Bits 2 7 0) ∷ node eight (Mux 0 1 3) ∷ []);
      clock = None;
    }

is-counted : counter.registers ≡ counted 0 2 3 ∷ []
is-counted = refl

-- it names these and no others
counted-names : (P : ℕ → Type 0) (reset c n t : ℕ) → P reset → P c → P n → RegisterNames (counted reset c n) t → P t
counted-names P reset c n t pr pc pn (inl (inl named)) = other (Literal (value 0)) t refl (Contains-one (Literal (value 0)) (Ref t) named)
counted-names P reset c n t pr pc pn (inl (inr named)) = subst P (same c t (Contains-one (Ref c) (Ref t) named)) pc
counted-names P reset c n t pr pc pn (inr (k, lt, is)) =
    let ops : List Op = Ref reset ∷ Literal (value 0) ∷ Ref n ∷ Fix Bits 2 7 0 ∷ Mux 0 1 3 ∷ [] in
    five (λ k. slice_index_or ops k (Ref t) ≡ Ref t → P t) (λ at. subst P (same reset t at) pr) (other (Literal (value 0)) t refl) (λ at. subst P (same n t at) pn) (other (Fix Bits 2 7 0) t refl)
    (other (Mux 0 1 3) t refl) k lt is

-- ---- the choice

abbrev globals : List ℕ
globals = 2 ∷ 3 ∷ 0 ∷ []

abbrev ins : List ℕ
ins = 3 ∷ 0 ∷ []

has-2 : Contains globals 2
has-2 = (0, lit< tt, refl)

has-3 : Contains globals 3
has-3 = (1, lit< tt, refl)

has-0 : Contains globals 0
has-0 = (2, lit< tt, refl)

-- what holds of signals 2, 3 and 0 holds of each chosen one
chosen-at : (P : ℕ → Type 0) → P 2 → P 3 → P 0 → (s : ℕ) → Contains globals s → P s
chosen-at P c n reset s (k, lt, is) = three (λ k. slice_index_or globals k s ≡ s → P s) (λ at. subst P at c) (λ at. subst P at n) (λ at. subst P at reset) k lt is

held-register : (r : ℕ) → Held 0 ≡ Held r → 0 ≡ r
held-register r is = cc

held-input : {place : ℕ} {A : Type 0} → Held 0 ≡ Input place → A
held-input is = absurd (cc)

input-held : {place r : ℕ} {A : Type 0} → Input place ≡ Held r → A
input-held is = absurd (cc)

one-register : (r : ℕ) (register : Register) → 0 ≡ r → slice_get counter.registers r ≡ Some register → counted 0 2 3 ≡ register
one-register r register at is =
    let first = subst (λ k. slice_get counter.registers k ≡ Some register) (sym at) is in
    the first
  where
    the : Some (counted 0 2 3) ≡ Some register → counted 0 2 3 ≡ register
    the same = cc

once : AllPairs (λ a b. a ≢ b) globals
once =
    AllPairs-cons (λ a b. a ≢ b) 2 (3 ∷ 0 ∷ []) (λ k d lt. both (λ i. 2 ≢ slice_index_or (3 ∷ 0 ∷ []) i d) (apart 2 3 refl) (apart 2 0 refl) k lt) (pair 3 0 (apart 3 0 refl))

chosen : IsChoice counter globals ins (2 ∷ []) []
chosen =
    record {
      within = λ k d lt. three (λ i. slice_index_or globals i d < 4) (lit< tt) (lit< tt) (lit< tt) k lt;
      once = once;
      ins = λ k d lt. both (λ i. Contains globals (slice_index_or ins i d)) has-3 has-0 k lt;
      ins_once = pair 3 0 (apart 3 0 refl);
      outs = λ k d lt. only (λ i. Contains globals (slice_index_or (2 ∷ []) i d)) has-2 k lt;
      given = λ s place is listed.
          chosen-at (λ s. driver_at counter s ≡ Input place → Contains ins s) held-input (λ at. (0, lit< tt, refl)) (λ at. (1, lit< tt, refl)) s listed is;
      closed = λ s t listed inside named.
          chosen-at (λ s. ¬ Contains ins s → NamesSignal (driver_at counter s) t → Contains globals t) (λ i h. absurd h) (λ i h. absurd (i (0, lit< tt, refl)))
          (λ i h. absurd (i (1, lit< tt, refl))) s listed inside named;
      registers = λ s r t register listed inside held is named.
          let number = chosen-at (λ s. ¬ Contains ins s → driver_at counter s ≡ Held r → 0 ≡ r) (λ i. held-register r) (λ i h. absurd (i (0, lit< tt, refl))) (λ i h. absurd (i (1, lit< tt, refl))) s listed inside held in
          counted-names (Contains globals) 0 2 3 t has-0 has-2 has-3 (subst (λ k. RegisterNames k t) (sym (one-register r register number is)) named);
      memory_within = λ k d lt. absurd (omega arith);
      memories_once = λ i j d lt within. absurd (omega arith);
      banks = λ s m listed inside named.
          chosen-at (λ s. ¬ Contains ins s → NamesMemory (driver_at counter s) m → Contains [] m) (λ i h. absurd h) (λ i h. absurd (i (0, lit< tt, refl)))
          (λ i h. absurd (i (1, lit< tt, refl))) s listed inside named;
      fields = λ m s listed. absurd (omega (arith, listed.1));
      answers = λ m r listed. absurd (omega (arith, listed.1));
    }

-- ---- the part

abbrev part : FlatCircuit
part =
    record {
      paths = (99 ∷ []) ∷ (110 ∷ []) ∷ (114 ∷ []) ∷ [];
      signals = signal eight (Held 0) ∷ signal nine (Input 0) ∷ signal one (Input 1) ∷ [];
      registers = counted 2 0 1 ∷ [];
      memories = [];
      ins = 1 ∷ 2 ∷ [];
      outs = 0 ∷ [];
      clocks = 0;
    }

part-register : IsRegisterFrom counter part globals (0 ∷ []) [] 0
part-register =
    record {
      within = lit< tt;
      is = λ any other. refl;
      below = λ any s named. counted-names (λ s. s < 3) 2 0 1 s (lit< tt) (lit< tt) (lit< tt) named;
      clocked = λ any. tt;
    }

is-part : IsPart counter part globals (0 ∷ []) [] []
is-part =
    record {
      count = refl;
      within = three (λ s. value_at globals s < 4) (lit< tt) (lit< tt) (lit< tt);
      once = once;
      paths = refl;
      types = refl;
      drivers = three (λ s. IsFrom part.ins globals (0 ∷ []) [] s (driver_at counter (value_at globals s)) (driver_at part s)) (lit< tt, refl) (lit< tt, refl) (lit< tt, refl);
      ins = both (λ place. (value_at part.ins place < 3) × (driver_at part (value_at part.ins place) ≡ Input place)) (lit< tt, refl) (lit< tt, refl);
      outs = only (λ place. value_at part.outs place < 3) (lit< tt);
      clock_count = refl;
      register_count = refl;
      register_from = only (λ r. IsRegisterFrom counter part globals (0 ∷ []) [] r) part-register;
      memory_count = refl;
      memories_once = λ i j d lt within. absurd (omega arith);
      memory_from = λ m lt. absurd (omega arith);
    }

-- ---- what is no choice

-- `reset`, which the register names, is left out
not-closed : ¬ IsChoice counter (2 ∷ 3 ∷ []) (3 ∷ []) (2 ∷ []) []
not-closed choice = out (choice.registers 2 0 0 (counted 0 2 3) (0, lit< tt, refl) (λ listed. apart 3 2 refl (Contains-one 3 2 listed)) refl refl (inr (0, lit< tt, refl)))
  where
    out : Contains {X = ℕ} (2 ∷ 3 ∷ []) 0 → ⊥
    out (k, lt, is) = let here : ℕ → ℕ = λ k. slice_index_or (2 ∷ 3 ∷ []) k 0 in both (λ k. here k ≡ 0 → ⊥) (apart 2 0 refl) (apart 3 0 refl) k lt is

-- the input `reset` doesn't come from outside
not-given : ¬ IsChoice counter globals (3 ∷ []) (2 ∷ []) []
not-given choice = apart 3 0 refl (Contains-one 3 0 (choice.given 0 0 refl has-0))

-- a signal stands twice
not-once : ¬ IsChoice counter (0 ∷ 0 ∷ []) (0 ∷ []) [] []
not-once choice = choice.once 0 1 0 (lit< tt) (lit< tt) refl

-- a memory without its fields
no-fields : ¬ IsChoice ports [] [] [] (0 ∷ [])
no-fields choice = absurd (omega (arith, (choice.fields 0 4 (0, lit< tt, refl) (0, lit< tt, refl)).1))

-- the data of a memory's first reader comes from outside
given-data : (signals : List ℕ) → ¬ IsChoice ports signals (6 ∷ []) [] (0 ∷ [])
given-data signals choice = choice.answers 0 0 (0, lit< tt, refl) (lit< tt) (0, lit< tt, refl)

-- ---- what is no part

-- it lists a clock that the counter hasn't
not-clocked : ¬ IsPart counter (record part { clocks = 1 }) globals (0 ∷ []) [] []
not-clocked is = let clocks : 1 ≡ 0 = is.clock_count in omega (arith, clocks)

-- the register has the whole's numbers
not-renamed : ¬ IsPart counter (record part { registers = counted 0 2 3 ∷ [] }) globals (0 ∷ []) [] []
not-renamed is = let past : 3 < 3 = (is.register_from 0 (lit< tt)).below (counted 0 2 3) 3 (inr (2, lit< tt, refl)) in absurd (omega (arith, past))

-- what the first node of a register's connection does
abbrev first_op : Option (List Node) → Op
first_op None = Ref 0
first_op (Some []) = Ref 0
first_op (Some (node ∷ nodes)) = node.op

-- the register's numbers are mixed up
not-mixed : ¬ IsPart counter (record part { registers = counted 1 0 2 ∷ [] }) globals (0 ∷ []) [] []
not-mixed is = apart 0 3 refl (same 0 3 (reset-is ((is.register_from 0 (lit< tt)).is (counted 1 0 2) (counted 0 2 3))))
  where
    reset-is : counted 0 2 3 ≡ counted 3 2 0 → Ref 0 ≡ Ref 3
    reset-is is = ap (λ (register : Register). first_op register.next) is

-- the in-signals stand in the other order than their drivers say
not-in-turn : ¬ IsPart counter (record part { ins = 2 ∷ 1 ∷ [] }) globals (0 ∷ []) [] []
not-in-turn is = turned (is.ins 0 (lit< tt)).1
  where
    turned : Input 1 ≡ Input 0 → ⊥
    turned is = cc

-- the counter's signal comes from outside, so the part doesn't have its register
not-outside : ¬ Holds counter (2 ∷ []) 2 0
not-outside holds = holds.inside (0, lit< tt, refl)
