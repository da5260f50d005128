-- Two instances of a module with an input `i`, an output `o` and a register `q`, which takes `i` and gives `o`, and a stop where `q`
-- is 1; each is fed by the other. They follow two clocks of the circuit, and are copies of each other. With one flaw each they
-- aren't.
use Rattle.std.proofs.Common.{◌≡◌, ℕ, zero, suc, ◌<◌, List, [], ◌∷◌, Option, Some, None, true, false, codes, refl, sym, ap, ◌∙◌, subst, arith, lit<, lit≤}
use Rattle.std.specs.Prelude.{slice_index_or, Contains}
use Rattle.gg_bits.specs.declared.types.Kind.TheVariants.{UInt}
use Rattle.gg_bits.specs.declared.types.Ty.{Ty}
use Rattle.gg_bits.specs.Shape.{Shape}
use Rattle.gg_flat.specs.declared.line.Op.TheVariants.{Ref}
use Rattle.gg_flat.specs.declared.piece.Driver.{Driver}
use Rattle.gg_flat.specs.declared.piece.Driver.TheVariants.{Held, Computed}
use Rattle.gg_flat.specs.declared.piece.Register.{Register}
use Rattle.gg_flat.specs.declared.piece.Signal.{Signal}
use Rattle.gg_flat_tree.specs.declared.tree.Instance.{Instance}
use Rattle.gg_flat_tree.specs.declared.tree.InstancePort.{InstancePort}
use Rattle.gg_flat_tree.specs.declared.tree.StopInstance.{StopInstance}
use Rattle.gg_flat.specs.Circuit.{FlatCircuit, driver_at, signal_shapes}
use Rattle.gg_flat.specs.Line.{shape_at}
use Rattle.gg_flat_tree.specs.Scoped.{IsInputOf}
use Rattle.gg_flat_tree.specs.Tree.{InstanceTree, instance_at, path_at, stop_at}
use Rattle.gg_part.specs.Moved.{IsMoved, moved_stop, shifted, unclocked_register}
use Rattle.gg_part.specs.Copies.{above, Start, IsCopy}
use Rattle.gg_flat.specs.Renaming.{numbers_by, renamed_driver, renamed_register, signals_by}

-- ---- the circuit

abbrev one : Ty
one = record { kind = UInt; width = 1; positive = lit≤ tt; bounded = lit≤ tt }

abbrev two : Ty
two = record { kind = UInt; width = 2; positive = lit≤ tt; bounded = lit≤ tt }

abbrev signal : Ty → Driver → Signal
signal ty driver = record { ty = ty; driver = driver }

abbrev follows : Ty → ℕ → Signal
follows ty s = signal ty (Computed (record { ty = one; op = Ref s } ∷ []))

abbrev register : ℕ → ℕ → Register
register s clock = record { ty = one; reset = None; next = Some (record { ty = one; op = Ref s } ∷ []); clock = Some clock }

-- the second instance's output and register are these
abbrev with : List ℕ → Signal → Signal → FlatCircuit
with path output state =
    record {
      paths = codes "a.i" ∷ codes "a.o" ∷ codes "a.q" ∷ codes "a.stop:0" ∷ codes "b.i" ∷ path ∷ codes "b.q" ∷ codes "b.stop:0" ∷ [];
      signals = follows one 5 ∷ follows one 2 ∷ signal one (Held 0) ∷ follows one 2 ∷ follows one 1 ∷ output ∷ state ∷ follows one 6 ∷ [];
      registers = register 0 0 ∷ register 4 1 ∷ [];
      memories = [];
      ins = [];
      outs = 3 ∷ 7 ∷ [];
      clocks = 2;
    }

abbrev circuit : FlatCircuit
circuit = with (codes "b.o") (follows one 6) (signal one (Held 1))

abbrev port : ℕ → InstancePort
port s = record { signal = s; is_input = true }

abbrev output : ℕ → InstancePort
output s = record { signal = s; is_input = false }

abbrev inner : ℕ → ℕ → ℕ → Instance
inner first end clock = record { parent = Some 0; «module» = 1; first = first; end = end; ports = port first ∷ output (suc first) ∷ []; memories = []; clocks = Some clock ∷ [] }

abbrev stop : ℕ → ℕ → StopInstance
stop instance signal = record { instance = instance; signal = signal; clock = Some 0 }

-- the tree with these stops, where registers follow these Clock inputs of their instances
abbrev tree_with : List (Option ℕ) → List StopInstance → InstanceTree
tree_with registers stops =
    record {
      paths = [] ∷ codes "a" ∷ codes "b" ∷ [];
      instances = record { parent = None; «module» = 0; first = 0; end = 8; ports = []; memories = []; clocks = Some 0 ∷ Some 1 ∷ [] } ∷ inner 0 4 0 ∷ inner 4 8 1 ∷ [];
      memory_paths = [];
      memories = [];
      clocks = codes "c" ∷ codes "d" ∷ [];
      register_clocks = registers;
      stops = stops;
    }

abbrev tree : InstanceTree
tree = tree_with (Some 0 ∷ Some 0 ∷ []) (stop 1 3 ∷ stop 2 7 ∷ [])

abbrev from : Start
from = record { signals = 0; registers = 0; memories = 0 }

abbrev to : Start
to = record { signals = 4; registers = 1; memories = 0 }

-- ---- which signals are inputs

first-input : IsInputOf tree 1 0
first-input = record { known = lit< tt; port = port 0; listed = (0, lit< tt, refl); is = refl; input = refl }

last-no-input : ¬ IsInputOf tree 1 2
last-no-input i = go i.listed.0 i.listed.1 i.listed.2
  where
    go : (k : ℕ) → k < 2 → slice_index_or (port 0 ∷ output 1 ∷ []) k i.port ≡ i.port → ⊥
    go zero lt is = let same : 0 ≡ 2 = ap (λ (p : InstancePort). p.signal) is ∙ i.is in omega (arith, same)
    go (suc zero) lt is = let same : 1 ≡ 2 = ap (λ (p : InstancePort). p.signal) is ∙ i.is in omega (arith, same)
    go (suc (suc k)) lt is = omega (arith, lt)

-- ---- the row

paths : (s : ℕ) → s < 4 → IsMoved (codes "a") (codes "b") (path_at circuit.paths s) (path_at circuit.paths (shifted 0 4 s))
paths zero lt = record { rest = codes "i"; one = refl; other = refl }
paths (suc zero) lt = record { rest = codes "o"; one = refl; other = refl }
paths (suc (suc zero)) lt = record { rest = codes "q"; one = refl; other = refl }
paths (suc (suc (suc zero))) lt = record { rest = codes "stop:0"; one = refl; other = refl }
paths (suc (suc (suc (suc s)))) lt = absurd (omega (arith, lt))

drivers : (s : ℕ) → s < 4 → ¬ IsInputOf tree 1 s → driver_at circuit (shifted 0 4 s) ≡ renamed_driver (numbers_by (shifted 0 4) (shifted 0 1) (shifted 0 0)) (driver_at circuit s)
drivers zero lt none = absurd (none first-input)
drivers (suc zero) lt none = refl
drivers (suc (suc zero)) lt none = refl
drivers (suc (suc (suc zero))) lt none = refl
drivers (suc (suc (suc (suc s)))) lt none = absurd (omega (arith, lt))

-- the register that a signal of the first instance holds is the first one
first-register : (s r : ℕ) → s < 4 → ¬ IsInputOf tree 1 s → driver_at circuit s ≡ Held r → 0 ≡ r
first-register zero r lt none is = absurd (none first-input)
first-register (suc zero) r lt none is = absurd (cc)
first-register (suc (suc zero)) r lt none is = cc
first-register (suc (suc (suc zero))) r lt none is = absurd (cc)
first-register (suc (suc (suc (suc s)))) r lt none is = absurd (omega (arith, lt))

abbrev SameRegister : ℕ → Type 0
SameRegister r = (any : Register) → unclocked_register (slice_index_or circuit.registers (shifted 0 1 r) any) ≡ unclocked_register (renamed_register (signals_by (shifted 0 4)) (slice_index_or circuit.registers r any))

abbrev SameClock : ℕ → Type 0
SameClock r = slice_index_or tree.register_clocks (shifted 0 1 r) None ≡ slice_index_or tree.register_clocks r None

copies : IsCopy circuit tree 1 2 from to
copies = record {
  size = refl;
  path = λ s h. paths s h.1;
  shape = λ s h. shapes s h.1;
  driver = λ s h none. drivers s h.1 none;
  register = λ s r any h none is. subst SameRegister (first-register s r h.1 none is) (λ d. refl) any;
  register_clock = λ s r h none is. subst SameClock (first-register s r h.1 none is) refl;
  ports = refl;
  instance = λ k lt lies. instances k lt lies.levels lies.is;
  parent = λ k lt lies other. absurd (other (alone k lt lies.levels lies.is));
  memory_path = λ m lt lies. absurd (omega (arith, lt));
  memory = λ m any lt lies. absurd (omega (arith, lt));
  memory_clocks = λ m lt lies. absurd (omega (arith, lt));
  own_clocks = refl;
  clocks = λ k lt lies other. absurd (other (alone k lt lies.levels lies.is));
  stop = λ p lt lies. stops p lt lies.levels lies.is;
}
  where
    shapes : (s : ℕ) → s < 4 → shape_at (signal_shapes circuit) (shifted 0 4 s) ≡ shape_at (signal_shapes circuit) s
    shapes zero lt = refl
    shapes (suc zero) lt = refl
    shapes (suc (suc zero)) lt = refl
    shapes (suc (suc (suc zero))) lt = refl
    shapes (suc (suc (suc (suc s)))) lt = absurd (omega (arith, lt))

    -- no other instance lies in the first
    alone : (k : ℕ) → k < 3 → (levels : ℕ) → above tree levels k ≡ Some 1 → k ≡ 1
    alone zero lt zero is = absurd (cc)
    alone zero lt (suc levels) is = absurd (cc)
    alone (suc zero) lt levels is = refl
    alone (suc (suc zero)) lt zero is = absurd (cc)
    alone (suc (suc zero)) lt (suc zero) is = absurd (cc)
    alone (suc (suc zero)) lt (suc (suc levels)) is = absurd (cc)
    alone (suc (suc (suc k))) lt levels is = absurd (omega (arith, lt))

    stops : (p : ℕ) → p < 2 → (levels : ℕ) → above tree levels (stop_at tree p).instance ≡ Some 1 → Contains tree.stops (moved_stop (shifted 1 2) (shifted 0 4) (stop_at tree p))
    stops zero lt levels is = (1, lit< tt, refl)
    stops (suc zero) lt levels is = let same : 2 ≡ 1 = alone 2 (lit< tt) levels is in absurd (omega (arith, same))
    stops (suc (suc p)) lt levels is = absurd (omega (arith, lt))

    instances : (k : ℕ) → k < 3 → (levels : ℕ) → above tree levels k ≡ Some 1 → ((instance_at tree (shifted 1 2 k)).«module» ≡ (instance_at tree k).«module») × ((instance_at tree (shifted 1 2 k)).first ≡ shifted 0 4 (instance_at tree k).first)
    instances zero lt zero is = absurd (cc)
    instances zero lt (suc levels) is = absurd (cc)
    instances (suc zero) lt levels is = (refl, refl)
    instances (suc (suc zero)) lt zero is = absurd (cc)
    instances (suc (suc zero)) lt (suc zero) is = absurd (cc)
    instances (suc (suc zero)) lt (suc (suc levels)) is = absurd (cc)
    instances (suc (suc (suc k))) lt levels is = absurd (omega (arith, lt))

-- ---- near misses

-- the second shares the first one's register
shares : IsCopy (with (codes "b.o") (follows one 6) (signal one (Held 0))) tree 1 2 from to → ⊥
shares h = let held : Held 0 ≡ Held 1 = h.driver 2 (lit≤ tt, lit< tt) last-no-input in cc

-- its register follows no Clock input
unclocked : IsCopy circuit (tree_with (Some 0 ∷ None ∷ []) (stop 1 3 ∷ stop 2 7 ∷ [])) 1 2 from to → ⊥
unclocked h = let same : ◌≡◌ {A = Option ℕ} None (Some 0) = h.register_clock 2 0 (lit≤ tt, lit< tt) (λ i. last-no-input (again i)) refl in cc
  where
    again : IsInputOf (tree_with (Some 0 ∷ None ∷ []) (stop 1 3 ∷ stop 2 7 ∷ [])) 1 2 → IsInputOf tree 1 2
    again i = record { known = i.known; port = i.port; listed = i.listed; is = i.is; input = i.input }

-- it has no stop
without : IsCopy circuit (tree_with (Some 0 ∷ Some 0 ∷ []) (stop 1 3 ∷ [])) 1 2 from to → ⊥
without h = go (h.stop 0 (lit< tt) (record { levels = 0; is = refl }))
  where
    go : Contains (stop 1 3 ∷ []) (stop 2 7) → ⊥
    go (zero, lt, is) = let signal : 3 ≡ 7 = ap (λ (s : StopInstance). s.signal) is in omega (arith, signal)
    go (suc i, lt, is) = omega (arith, lt)

-- its output is wider
wider : IsCopy (with (codes "b.o") (follows two 6) (signal one (Held 1))) tree 1 2 from to → ⊥
wider h = let width : 2 ≡ 1 = ap (λ (s : Shape). s.width) (h.shape 1 (lit≤ tt, lit< tt)) in omega (arith, width)

-- its output has another name
renamed : IsCopy (with (codes "b.p") (follows one 6) (signal one (Held 1))) tree 1 2 from to → ⊥
renamed h =
    let p = h.path 1 (lit≤ tt, lit< tt) in
    let o : codes "o" ≡ p.rest = let e = p.one in cc in
    let q : codes "p" ≡ p.rest = let e = p.other in cc in
    let same : 111 ≡ 112 = ap (λ (w : List ℕ). slice_index_or w 0 0) (o ∙ sym q) in
    omega (arith, same)
