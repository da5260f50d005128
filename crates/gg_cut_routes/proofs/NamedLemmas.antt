-- What is in the lists of names is named.
use Rattle.std.proofs.Common.{◌≡◌, ℕ, zero, suc, List, [], ◌∷◌, Option, Some, None, refl, ap, subst, inl, inr, ◌⊎◌, arith}
use Rattle.std.specs.Prelude.{Contains, map, slice_get}
use Rattle.std.proofs.lemmas.List.Elements.{Contains-append_cases}
use Rattle.gg_flat.specs.declared.line.Node.{Node}
use Rattle.gg_flat.specs.declared.line.Op.{Op}
use Rattle.gg_flat.specs.declared.line.Op.TheVariants.{Ref, Literal, One, Two, Fix, Mux}
use Rattle.gg_flat.specs.declared.piece.Register.{Register}
use Rattle.gg_flat.specs.declared.piece.Reset.{Reset}
use Rattle.gg_flat.specs.declared.piece.Driver.{Driver}
use Rattle.gg_flat.specs.declared.piece.Driver.TheVariants.{Input, Held, MemoryWord, ReadRegister, Computed}
use Rattle.gg_flat.specs.Circuit.{FlatCircuit, driver_at}
use Rattle.gg_flat.specs.Reads.{Names, NamesSignal, ResetNames, NextNames, RegisterNames}
use Rattle.gg_flat.proofs.ListLemmas.{Contains-map, Contains-cases}
use Rattle.gg_part.specs.inside.Choice.{IsChoice}
use Rattle.gg_cut_plan.specs.Direct.{next_names, reset_names, register_names, driver_names}
use Rattle.gg_order.specs.Found.{op_names, line_names}
use Rattle.gg_cut_routes.proofs.ListTables.{flat-out}

none-listed : (t : ℕ) → Contains [] t → ⊥
none-listed t h = omega (arith, h.1)

one-listed : (s t : ℕ) → Contains (s ∷ []) t → s ≡ t
one-listed s t (zero, lt, e) = e
one-listed s t (suc k, lt, e) = absurd (omega (arith, lt))

op-ref : (op : Op) (t : ℕ) → Contains (op_names op) t → op ≡ Ref t
op-ref (Ref s) t h = ap Ref (one-listed s t h)
op-ref (Literal value) t h = absurd (none-listed t h)
op-ref (One op i) t h = absurd (none-listed t h)
op-ref (Two op i j) t h = absurd (none-listed t h)
op-ref (Fix op i n m) t h = absurd (none-listed t h)
op-ref (Mux c i j) t h = absurd (none-listed t h)

line-names : (line : List Node) (t : ℕ) → Contains (line_names line) t → Names line t
line-names line t h =
    let m = flat-out (λ (node : Node). op_names node.op) line t h in
    subst (λ op. Contains (map (λ (node : Node). node.op) line) op) (op-ref m.item.op t m.has) (Contains-map (λ (node : Node). node.op) line m.item m.among)

reset-names : (reset : Option Reset) (t : ℕ) → Contains (reset_names reset) t → ResetNames reset t
reset-names None t h = absurd (none-listed t h)
reset-names (Some reset) t h =
    elim (Contains-append_cases (line_names reset.condition) (line_names reset.init) t h) [
      | inl a ↦ inl (line-names reset.condition t a)
      | inr b ↦ inr (line-names reset.init t b)
    ]

next-names : (next : Option (List Node)) (t : ℕ) → Contains (next_names next) t → NextNames next t
next-names None t h = absurd (none-listed t h)
next-names (Some line) t h = line-names line t h

-- the register that the driver holds names the signal
pub record HeldNames (circuit : FlatCircuit) (driver : Driver) (t : ℕ) : Type 0 where
  pub «register» : ℕ
  pub item : Register
  pub is : driver ≡ Held «register»
  pub found : slice_get circuit.registers «register» ≡ Some item
  pub names : RegisterNames item t

held-names : (circuit : FlatCircuit) (r t : ℕ) (o : Option Register) → slice_get circuit.registers r ≡ o → Contains (register_names o) t → HeldNames circuit (Held r) t
held-names circuit r t None e h = absurd (none-listed t h)
held-names circuit r t (Some register) e h =
    record {
      «register» = r;
      item = register;
      is = refl;
      found = e;
      names = elim (Contains-append_cases (reset_names register.reset) (next_names register.next) t h) [
        | inl a ↦ inl (reset-names register.reset t a)
        | inr b ↦ inr (next-names register.next t b)
      ];
    }

pub driver-names : (circuit : FlatCircuit) (driver : Driver) (t : ℕ) → Contains (driver_names circuit driver) t → NamesSignal driver t ⊎ HeldNames circuit driver t
driver-names circuit (Input place) t h = absurd (none-listed t h)
driver-names circuit (Held r) t h = inr (held-names circuit r t (slice_get circuit.registers r) refl h)
driver-names circuit (MemoryWord memory reader addr en) t h =
    elim (Contains-cases addr t (en ∷ []) h) [
      | inl a ↦ inl (inl a)
      | inr b ↦ inl (inr (one-listed en t b))
    ]
driver-names circuit (ReadRegister memory reader) t h = absurd (none-listed t h)
driver-names circuit (Computed line) t h = inl (line-names line t h)

-- what is named by the driver of a chosen signal that doesn't come from outside, or by its register, is chosen
pub names-chosen : (whole : FlatCircuit) (globals entries exits memories : List ℕ) → IsChoice whole globals entries exits memories → (s t : ℕ) → Contains globals s → ¬ Contains entries s → Contains (driver_names whole (driver_at whole s)) t → Contains globals t
names-chosen whole globals entries exits memories choice s t h free named = by (driver-names whole (driver_at whole s) t named)
  where
    by : NamesSignal (driver_at whole s) t ⊎ HeldNames whole (driver_at whole s) t → Contains globals t
    by (inl n) = choice.closed s t h free n
    by (inr n) = choice.registers s n.«register» t n.item h free n.is n.found n.names
