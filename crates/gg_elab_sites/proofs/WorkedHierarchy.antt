-- The flat circuit of the circuit in WorkedText, and circuits that aren't flat circuits of it.
use Rattle.std.proofs.Common.{◌≡◌, ℕ, zero, suc, ◌<◌, List, [], ◌∷◌, ◌++◌, length, take, drop, true, Bool, Some, None, codes, refl, ap, ◌∙◌, arith, lit≤}
use Rattle.std.proofs.lemmas.Option.{none-some}
use Rattle.std.specs.Prelude.{slice_index_or, is_some}
use Rattle.gg_bits.specs.declared.types.Kind.TheVariants as kinds
use Rattle.gg_bits.specs.declared.types.Ty.{Ty}
use Rattle.gg_bits.specs.Shape.{Shape, shape, uint}
use Rattle.gg_ast.specs.declared.expression.Reference.{Reference}
use Rattle.gg_ast.specs.declared.expression.Reference.TheVariants.{Local, PortOf}
use Rattle.gg_ast.specs.Places.{place_of}
use Rattle.gg_ast.specs.Term.{NamedTerm}
use Rattle.gg_flat.specs.declared.line.Op.TheVariants as does
use Rattle.gg_flat.specs.declared.memory.Latency.TheVariants.{Zero, One}
use Rattle.gg_flat.specs.declared.memory.Memory.{Memory}
use Rattle.gg_flat.specs.declared.memory.UnderWrite.TheVariants.{New}
use Rattle.gg_flat.specs.declared.piece.Driver.TheVariants.{Held, MemoryWord, ReadRegister, Computed}
use Rattle.gg_flat.specs.declared.piece.Register.{Register}
use Rattle.gg_flat.specs.declared.piece.Signal.{Signal}
use Rattle.gg_flat.specs.Circuit.{FlatCircuit}
use Rattle.gg_flat.specs.Line.{shape_at}
use Rattle.gg_flat_tree.specs.Tree.{joined}
use Rattle.gg_elab_sites.specs.Sites.{sites_of}
use Rattle.gg_shape_names.specs.Scope.{written}
use Rattle.gg_elab_sites.specs.Connection.{ConnectedTo, Zeroed}
use Rattle.gg_elab_sites.specs.Flat.{Scope, FlatSignal, FlatMemory, flat_signals, flat_memories}
use Rattle.gg_elab_sites.specs.IsFlat.{IsComputed, IsHeld, IsRegisterOf, IsDriven, IsMemoryOf, IsFlat, signals_of, memory_paths}
use Rattle.gg_elab_sites.specs.Known.{types_of}
use Rattle.gg_elab_sites.specs.Meaning.{Signals, Bindings, in_scope, named, named_if, takes}
use Rattle.gg_types.specs.Memories.{Bank}
use Rattle.gg_elab_sites.proofs.WorkedParts.{ty_of, node, value, signal, follows, AllBelow, each_below, line_of_name, gets_name, named_other, zero_names}
use Rattle.gg_elab_sites.proofs.WorkedText.{m, k, circuit}

-- ---- the flat circuit

abbrev one : Ty
one = ty_of kinds.UInt 1 (lit≤ tt) (lit≤ tt)

abbrev two : Ty
two = ty_of kinds.UInt 2 (lit≤ tt) (lit≤ tt)

abbrev three : Ty
three = ty_of kinds.UInt 3 (lit≤ tt) (lit≤ tt)

abbrev paths : List (List ℕ)
paths =
    codes "z" ∷ codes "k.r.addr" ∷ codes "k.r.en" ∷ codes "k.r.data"
    ∷ codes "a.i" ∷ codes "a.o"
    ∷ codes "a.m.r.addr" ∷ codes "a.m.r.en" ∷ codes "a.m.r.data"
    ∷ codes "a.m.w.addr" ∷ codes "a.m.w.en" ∷ codes "a.m.w.data" ∷ codes "a.m.w.mask" ∷ codes "a.q"
    ∷ codes "b.i" ∷ codes "b.o"
    ∷ codes "b.m.r.addr" ∷ codes "b.m.r.en" ∷ codes "b.m.r.data"
    ∷ codes "b.m.w.addr" ∷ codes "b.m.w.en" ∷ codes "b.m.w.data" ∷ codes "b.m.w.mask" ∷ codes "b.q"
    ∷ []

abbrev zeroed : Signal
zeroed = signal one (Computed (node one (does.Literal (value 0)) ∷ []))

abbrev of_parent : List Signal
of_parent =
    signal three (Computed (node three (does.Ref 3) ∷ []))
    ∷ signal two (Computed (node one (does.Ref 5) ∷ []))
    ∷ follows one 15
    ∷ signal three (ReadRegister 0 0)
    ∷ []

abbrev of_a : List Signal
of_a =
    follows one 15 ∷ follows one 8
    ∷ follows one 13 ∷ follows one 13 ∷ signal one (MemoryWord 1 0 6 7)
    ∷ follows one 13 ∷ follows one 4 ∷ follows one 4 ∷ zeroed ∷ signal one (Held 0)
    ∷ []

abbrev of_b : List Signal
of_b =
    follows one 5 ∷ follows one 18
    ∷ follows one 23 ∷ follows one 23 ∷ signal one (MemoryWord 2 0 16 17)
    ∷ follows one 23 ∷ follows one 14 ∷ follows one 14 ∷ zeroed ∷ signal one (Held 1)
    ∷ []

abbrev register : ℕ → Register
register s = record { ty = one; reset = None; next = Some (node one (does.Ref s) ∷ []); clock = Some 0 }

abbrev memory_of_parent : Memory
memory_of_parent =
    record { word = three; depth = 4; latency = One New; readers = record { addr = 1; en = 2; word = 3; clock = Some 0 } ∷ []; writers = [] }

abbrev memory_of_a : Memory
memory_of_a =
    record {
      word = one;
      depth = 2;
      latency = Zero;
      readers = record { addr = 6; en = 7; word = 8; clock = Some 0 } ∷ [];
      writers = record { addr = 9; en = 10; word = 11; mask = 12; clock = Some 0 } ∷ [];
    }

abbrev memory_of_b : Memory
memory_of_b =
    record {
      word = one;
      depth = 2;
      latency = Zero;
      readers = record { addr = 16; en = 17; word = 18; clock = Some 0 } ∷ [];
      writers = record { addr = 19; en = 20; word = 21; mask = 22; clock = Some 0 } ∷ [];
    }

abbrev flat : FlatCircuit
flat =
    record {
      paths = paths;
      signals = of_parent ++ (of_a ++ of_b);
      registers = register 4 ∷ register 14 ∷ [];
      memories = memory_of_parent ∷ memory_of_a ∷ memory_of_b ∷ [];
      ins = [];
      outs = 0 ∷ [];
      clocks = 1;
    }

abbrev with_signals : List Signal → FlatCircuit
with_signals others = record flat { signals = others }

-- ---- what the circuit says

abbrev all : List FlatSignal
all = flat_signals (types_of circuit) circuit.modules (sites_of circuit)

abbrev banks : List FlatMemory
banks = flat_memories circuit.modules (sites_of circuit)

abbrev shapes : List Shape
shapes =
    uint 3 ∷ uint 2 ∷ uint 1 ∷ uint 3
    ∷ uint 1 ∷ uint 1 ∷ uint 1 ∷ uint 1 ∷ uint 1 ∷ uint 1 ∷ uint 1 ∷ uint 1 ∷ uint 1 ∷ uint 1
    ∷ uint 1 ∷ uint 1 ∷ uint 1 ∷ uint 1 ∷ uint 1 ∷ uint 1 ∷ uint 1 ∷ uint 1 ∷ uint 1 ∷ uint 1
    ∷ []

abbrev listed : Signals
listed = record { paths = paths; shapes = shapes }

-- the signals are in the order of the tree, each with its path and its shape
signals : signals_of all ≡ listed
unfolding types_of
signals = refl

-- the parent's memory comes before those of its instances, though its line comes after theirs
memories : memory_paths banks ≡ codes "k" ∷ codes "a.m" ∷ codes "b.m" ∷ []
memories = refl

-- what its names stand for
abbrev bound : Bindings
bound = record { types = types_of circuit; signals = listed; memories = memory_paths banks }

abbrev top : Scope
top = record { path = []; number = 1 }

abbrev a : Scope
a = record { path = codes "a"; number = 0 }

abbrev b : Scope
b = record { path = codes "b"; number = 0 }

-- a known name names the signal at the place of its path
names : (scope : Scope) (r : Reference) (s : ℕ) → is_some (types_of circuit scope.number r) ≡ true → place_of (joined scope.path (written r)) paths ≡ Some s → named (in_scope bound scope) r ≡ Some s
names scope r s known is = ap (λ (t : Bool). named_if t paths (joined scope.path (written r))) known ∙ is

-- a line of one reference connects the sink to the signal that a name names
gets : (scope : Scope) (ty sink : Ty) (r : Reference) (s : ℕ) → is_some (types_of circuit scope.number r) ≡ true → place_of (joined scope.path (written r)) paths ≡ Some s → shape_at shapes s ≡ shape ty → takes (shape sink) (shape ty) ≡ true → IsComputed (in_scope bound scope) (shape sink) (Some (ConnectedTo (NamedTerm r))) (Computed (node ty (does.Ref s) ∷ []))
gets scope ty sink r s known is typed fits =
    gets_name (in_scope bound scope) (shape sink) r (node ty (does.Ref s)) s
    (record { does = refl; names = names scope r s known is; typed = typed; fits = fits })

gets_zero : (scope : Scope) → IsComputed (in_scope bound scope) (shape one) (Some Zeroed) (Computed (node one (does.Literal (value 0)) ∷ []))
gets_zero scope = record {
  line = node one (does.Literal (value 0)) ∷ [];
  computed = refl;
  stands = record { value = λ values. refl; names = λ s. (λ h. zero_names s h.0 h.1 h.2, λ h. absurd h); nodes = refl };
}

abbrev registers : List Register
registers = register 4 ∷ register 14 ∷ []

-- the register that takes the value of `i`, signal s
register_of : (scope : Scope) (s : ℕ) → is_some (types_of circuit scope.number (Local (codes "i"))) ≡ true → place_of (joined scope.path (codes "i")) paths ≡ Some s → shape_at shapes s ≡ shape one → IsRegisterOf (in_scope bound scope) (shape one) None (Some (ConnectedTo (NamedTerm (Local (codes "i"))))) (Some 0) (register s)
register_of scope s known is typed = record {
  typed = refl;
  reset_is = refl;
  next_is = line_of_name (in_scope bound scope) (shape one) (Local (codes "i")) (node one (does.Ref s)) s
      (record { does = refl; names = names scope (Local (codes "i")) s known is; typed = typed; fits = refl });
  clocked = refl;
}

held_by_a : IsHeld (in_scope bound a) (shape one) None (Some (ConnectedTo (NamedTerm (Local (codes "i"))))) (Some 0) registers 0 (Held 0)
unfolding types_of
held_by_a = record { held = refl; within = lit≤ tt; register = λ any. register_of a 4 refl refl refl }

held_by_b : IsHeld (in_scope bound b) (shape one) None (Some (ConnectedTo (NamedTerm (Local (codes "i"))))) (Some 0) registers 1 (Held 1)
unfolding types_of
held_by_b = record { held = refl; within = lit≤ tt; register = λ any. register_of b 14 refl refl refl }

-- a memory without words
abbrev none : Bank
none = record { word = uint 0; depth = 0; latency = Zero; readers = []; writers = [] }

-- ---- its parts

-- signal s has the driver that the circuit says
abbrev IsDrivenAt : ℕ → Type 0
IsDrivenAt s = IsDriven bound all flat s

all_driven : AllBelow 24 IsDrivenAt
unfolding types_of
all_driven = (
  gets top three three (k (codes "data")) 3 refl refl refl refl,
  (
    gets top one two (PortOf (codes "a") (codes "o")) 5 refl refl refl refl,
    (
      gets top one one (PortOf (codes "b") (codes "o")) 15 refl refl refl refl,
      (
        refl,
        (
          gets top one one (PortOf (codes "b") (codes "o")) 15 refl refl refl refl,
          (
            gets a one one (m (codes "r") (codes "data")) 8 refl refl refl refl,
            (
              gets a one one (Local (codes "q")) 13 refl refl refl refl,
              (
                gets a one one (Local (codes "q")) 13 refl refl refl refl,
                (
                  refl,
                  (
                    gets a one one (Local (codes "q")) 13 refl refl refl refl,
                    (
                      gets a one one (Local (codes "i")) 4 refl refl refl refl,
                      (
                        gets a one one (Local (codes "i")) 4 refl refl refl refl,
                        (
                          gets_zero a,
                          (
                            held_by_a,
                            (
                              gets top one one (PortOf (codes "a") (codes "o")) 5 refl refl refl refl,
                              (
                                gets b one one (m (codes "r") (codes "data")) 18 refl refl refl refl,
                                (
                                  gets b one one (Local (codes "q")) 23 refl refl refl refl,
                                  (
                                    gets b one one (Local (codes "q")) 23 refl refl refl refl,
                                    (
                                      refl,
                                      (
                                        gets b one one (Local (codes "q")) 23 refl refl refl refl,
                                        (
                                          gets b one one (Local (codes "i")) 14 refl refl refl refl,
                                          (
                                            gets b one one (Local (codes "i")) 14 refl refl refl refl,
                                            (
                                              gets_zero b,
                                              (
                                                held_by_b,
                                                tt,
                                              ),
                                            ),
                                          ),
                                        ),
                                      ),
                                    ),
                                  ),
                                ),
                              ),
                            ),
                          ),
                        ),
                      ),
                    ),
                  ),
                ),
              ),
            ),
          ),
        ),
      ),
    ),
  ),
)

memories_are : (n : ℕ) (said : FlatMemory) (any : Memory) → n < 3 → IsMemoryOf paths (slice_index_or banks n said) (slice_index_or flat.memories n any)
memories_are zero said any lt = record { word = refl; depth = refl; latency = refl; readers = refl; writers = refl }
memories_are (suc zero) said any lt = record { word = refl; depth = refl; latency = refl; readers = refl; writers = refl }
memories_are (suc (suc zero)) said any lt = record { word = refl; depth = refl; latency = refl; readers = refl; writers = refl }
memories_are (suc (suc (suc n))) said any lt = absurd (omega (arith, lt))

-- ---- rows

-- `flat` is a flat circuit of the circuit
right : IsFlat circuit flat
unfolding types_of
right = record {
  paths = refl;
  shapes = refl;
  drivers = λ s lt. each_below 24 IsDrivenAt all_driven s lt;
  register_count = refl;
  memory_count = refl;
  memories = memories_are;
  ins = refl;
  outs = refl;
  clocks = refl;
}

-- with one signal too many it isn't
one_too_many : IsFlat circuit (record flat { paths = paths ++ codes "y" ∷ []; signals = flat.signals ++ zeroed ∷ [] }) → ⊥
unfolding types_of
one_too_many h = let counted : 25 ≡ 24 = ap length h.paths in omega (arith, counted)

-- with a path without its dot it isn't
without_dot : IsFlat circuit (record flat { paths = codes "z" ∷ codes "kr.addr" ∷ drop 2 paths }) → ⊥
unfolding types_of
without_dot h = let same : codes "kr.addr" ≡ codes "k.r.addr" = ap (λ (ps : List (List ℕ)). slice_index_or ps 1 []) h.paths in cc

-- with a's register as the address of b's memory it isn't
looked_at_other : IsFlat circuit (with_signals (of_parent ++ (of_a ++ (take 2 of_b ++ (follows one 13 ∷ drop 3 of_b))))) → ⊥
unfolding types_of
looked_at_other h =
    let same : 23 ≡ 13 = named_other (in_scope bound b) (shape one) (Local (codes "q")) (node one (does.Ref 13)) 13 23 refl refl (h.drivers 16 (lit≤ tt)) in
    omega (arith, same)

-- with an instance's input driven by its own output, and not by the other's, it isn't
own_output : IsFlat circuit (with_signals (of_parent ++ ((follows one 5 ∷ drop 1 of_a) ++ of_b))) → ⊥
unfolding types_of
own_output h =
    let same : 15 ≡ 5 = named_other (in_scope bound top) (shape one) (PortOf (codes "b") (codes "o")) (node one (does.Ref 5)) 5 15 refl refl (h.drivers 4 (lit≤ tt)) in
    omega (arith, same)

-- with a second instance that shares the first one's register it isn't
shared_register : IsFlat circuit (with_signals (of_parent ++ (of_a ++ (take 9 of_b ++ (signal one (Held 0) ∷ []))))) → ⊥
unfolding types_of
shared_register h = let held : Held 0 ≡ Held 1 = (h.drivers 23 (lit≤ tt)).held in cc

-- with the instances' memories before the parent's it isn't
children_first : IsFlat circuit (record flat { memories = memory_of_a ∷ memory_of_b ∷ memory_of_parent ∷ [] }) → ⊥
children_first h =
    let word : shape one ≡ shape three = (h.memories 0 (record { path = []; bank = none; own_clock = λ port. None; clock = λ port. None }) memory_of_a (lit≤ tt)).word in
    let width : 1 ≡ 3 = ap (λ (s : Shape). s.width) word in
    omega (arith, width)

-- with a register that goes on in every tick it isn't
unclocked : IsFlat circuit (record flat { registers = record (register 4) { clock = None } ∷ register 14 ∷ [] }) → ⊥
unfolding types_of
unclocked h = none-some 0 ((h.drivers 13 (lit≤ tt)).register (register 4)).clocked

-- with a second clock it isn't
second_clock : IsFlat circuit (record flat { clocks = 2 }) → ⊥
unfolding types_of
second_clock h = let counted : 2 ≡ 1 = h.clocks in omega (arith, counted)
