-- The lists of names have all that a driver, a register and a line name.
use Rattle.std.proofs.Common.{◌≡◌, ℕ, List, [], ◌∷◌, get_or, Option, Some, None, sym, subst, inl, inr}
use Rattle.std.specs.Prelude.{flat_map, Contains, slice_get}
use Rattle.std.proofs.lemmas.List.Elements.{Contains-append_left, Contains-append_right, Contains-get_or}
use Rattle.gg_flat.specs.declared.line.Node.{Node}
use Rattle.gg_flat.specs.declared.line.Op.TheVariants.{Ref}
use Rattle.gg_flat.specs.declared.piece.Register.{Register}
use Rattle.gg_flat.specs.declared.piece.Reset.{Reset}
use Rattle.gg_flat.specs.declared.piece.Driver.{Driver}
use Rattle.gg_flat.specs.declared.piece.Driver.TheVariants.{Input, Held, MemoryWord, ReadRegister, Computed}
use Rattle.gg_flat.specs.Circuit.{FlatCircuit}
use Rattle.gg_flat.specs.Reads.{Names, NamesSignal, ResetNames, NextNames, RegisterNames}
use Rattle.gg_flat.proofs.ListLemmas.{some-item, here, further}
use Rattle.gg_cut_split.proofs.ClosedLemmas.ListLemmas.{map-cases, flattened-in, flat_map-is}
use Rattle.gg_cut_plan.specs.Direct.{next_names, reset_names, register_names, driver_names}
use Rattle.gg_order.specs.Found.{op_names, line_names}

pub flat-in : {A B : Type 0} (f : A → List B) (xs : List A) (x : A) (y : B) → Contains xs x → Contains (f x) y → Contains (flat_map f xs) y
flat-in {B = B} f xs x y at h =
    subst (λ (l : List B). Contains l y) (sym (flat_map-is f xs)) (flattened-in f xs at.0 x y at.1 (subst (λ z. Contains (f z) y) (sym at.2) h))

line-named : (line : List Node) (s : ℕ) → Names line s → Contains (line_names line) s
line-named line s h =
    let at = map-cases (λ (node : Node). node.op) line (Ref s) h in
    let any = some-item line at.place at.within in
    flat-in (λ (node : Node). op_names node.op) line (get_or line at.place any) s (Contains-get_or line at.place any at.within)
    (subst (λ op. Contains (op_names op) s) (sym (at.holds any)) (here s []))

next-named : (next : Option (List Node)) (t : ℕ) → NextNames next t → Contains (next_names next) t
next-named None t h = absurd h
next-named (Some line) t h = line-named line t h

reset-named : (reset : Option Reset) (t : ℕ) → ResetNames reset t → Contains (reset_names reset) t
reset-named None t h = absurd h
reset-named (Some reset) t (inl h) = Contains-append_left (line_names reset.condition) (line_names reset.init) t (line-named reset.condition t h)
reset-named (Some reset) t (inr h) = Contains-append_right (line_names reset.condition) (line_names reset.init) t (line-named reset.init t h)

register-named : (register : Register) (t : ℕ) → RegisterNames register t → Contains (register_names (Some register)) t
register-named register t (inl h) = Contains-append_left (reset_names register.reset) (next_names register.next) t (reset-named register.reset t h)
register-named register t (inr h) = Contains-append_right (reset_names register.reset) (next_names register.next) t (next-named register.next t h)

pub driver-named : (circuit : FlatCircuit) (driver : Driver) (t : ℕ) → NamesSignal driver t → Contains (driver_names circuit driver) t
driver-named circuit (Input place) t h = absurd h
driver-named circuit (Held register) t h = absurd h
driver-named circuit (MemoryWord memory reader addr en) t (inl h) = subst (λ x. Contains (addr ∷ en ∷ []) x) h (here addr (en ∷ []))
driver-named circuit (MemoryWord memory reader addr en) t (inr h) = subst (λ x. Contains (addr ∷ en ∷ []) x) h (further addr (en ∷ []) en (here en []))
driver-named circuit (ReadRegister memory reader) t h = absurd h
driver-named circuit (Computed line) t h = line-named line t h

pub held-named : (circuit : FlatCircuit) (driver : Driver) (r t : ℕ) (register : Register) → driver ≡ Held r → slice_get circuit.registers r ≡ Some register → RegisterNames register t → Contains (driver_names circuit driver) t
held-named circuit driver r t register is found h =
    subst (λ d. Contains (driver_names circuit d) t) (sym is) (subst (λ o. Contains (register_names o) t) (sym found) (register-named register t h))
