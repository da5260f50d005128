-- Tests that show of a part in full that it is a machine's part.
use Rattle.std.proofs.Common.{◌≡◌, ◌==◌, ◌&&◌, ◌||◌, ◌↔◌, ℕ, zero, suc, ◌<◌, List, [], ◌∷◌, length, map, Bool, true, false, true≢false, not, nat_lt, refl, sym, ◌∙◌, ap, subst, inl, inr, arith, ltb-true}
use Rattle.std.specs.Prelude.{Contains}
use Rattle.std.specs.List.{list_all}
use Rattle.std.proofs.lemmas.Bool.Decides.{Decides-eqb}
use Rattle.std.proofs.lemmas.List.{get_or_default}
use Rattle.std.proofs.lemmas.Bool.{and_from, and_parts, or_left, or_right, or_cases, not-true}
use Rattle.gg_flat.specs.declared.piece.Driver.{Driver}
use Rattle.gg_flat.specs.declared.piece.Driver.TheVariants.{Input, Held, MemoryWord, ReadRegister, Computed}
use Rattle.gg_flat.specs.Line.{value_at, shape_at}
use Rattle.gg_flat.specs.Circuit.{FlatCircuit, driver_at, signal_shapes}
use Rattle.gg_flat_tree.specs.Tree.{InstanceTree, path_at}
use Rattle.gg_order.specs.Design.{Ordered}
use Rattle.gg_part.specs.Part.{IsPart, IsFrom, IsRegisterFrom, IsMemoryFrom}
use Rattle.gg_part.specs.Building.{IsHeldIn, AreHeld}
use Rattle.gg_part.specs.declared.part.Part.{Part}
use Rattle.gg_cut_plan.specs.declared.listed.Listed.{Listed}
use Rattle.gg_cut_plan.specs.Direct.{Hub, routes}
use Rattle.gg_cut_plan.specs.Plan.{channels_to, channels_from, signals_of, givens_of, HasMemory, IsCutPart, machine_clocks}
use Rattle.gg_cut.proofs.WorkedTests.{Upto, each-below, has, has-contains, contains-has, test-of, all_pairs, distinct, are_known, known-at, has_signals, has-signals, in_order, in-order}

-- ---- registers

abbrev holds : Driver → ℕ → Bool
holds (Input place) r = false
holds (Held register) r = register == r
holds (MemoryWord memory reader addr en) r = false
holds (ReadRegister memory reader) r = false
holds (Computed line) r = false

-- the register of a driver is among these
abbrev is_held : List ℕ → Driver → Bool
is_held held (Input place) = true
is_held held (Held register) = has held register
is_held held (MemoryWord memory reader addr en) = true
is_held held (ReadRegister memory reader) = true
is_held held (Computed line) = true

abbrev pub holder_among : FlatCircuit → List ℕ → List ℕ → ℕ → Bool
holder_among circuit ins [] r = false
holder_among circuit ins (s ∷ globals) r = (not (has ins s) && holds (driver_at circuit s) r) || holder_among circuit ins globals r

-- just the registers that the signals hold which aren't taken
abbrev pub has_held : FlatCircuit → List ℕ → List ℕ → List ℕ → Bool
has_held circuit globals ins held = list_all (λ s. has ins s || is_held held (driver_at circuit s)) globals && list_all (holder_among circuit ins globals) held

holds-is : (driver : Driver) (r : ℕ) → holds driver r ≡ true → driver ≡ Held r
holds-is (Input place) r is = cc
holds-is (Held register) r is = ap (λ n. Held n) ((Decides-eqb register r).0 is)
holds-is (MemoryWord memory reader addr en) r is = cc
holds-is (ReadRegister memory reader) r is = cc
holds-is (Computed line) r is = cc

holder-in : (circuit : FlatCircuit) (globals ins : List ℕ) (r : ℕ) → holder_among circuit ins globals r ≡ true → IsHeldIn circuit globals ins r
holder-in circuit [] ins r is = absurd (true≢false (sym is))
holder-in circuit (s ∷ globals) ins r is = elim (or_cases (not (has ins s) && holds (driver_at circuit s) r) (holder_among circuit ins globals r) is) [
  | inl here ↦
      let parts = and_parts (not (has ins s)) (holds (driver_at circuit s) r) here in
      record {
        signal = s;
        chosen = (0, omega arith, refl);
        holds = record { inside = λ inside. true≢false (sym (contains-has ins s inside) ∙ not-true (has ins s) parts.0); holds = holds-is (driver_at circuit s) r parts.1 };
      }
  | inr later ↦
      let at = holder-in circuit globals ins r later in
      record { signal = at.signal; chosen = (suc at.chosen.0, omega (arith, at.chosen.1), at.chosen.2); holds = at.holds }
]

pub has-held : (circuit : FlatCircuit) (globals ins held : List ℕ) → has_held circuit globals ins held ≡ true → AreHeld circuit globals ins held
has-held circuit globals ins held is =
    let parts = and_parts (list_all (λ s. has ins s || is_held held (driver_at circuit s)) globals) (list_all (holder_among circuit ins globals) held) is in
    record {
      every = λ s r chosen own. elim (or_cases (has ins s) (is_held held (driver_at circuit s)) (test-of (λ t. has ins t || is_held held (driver_at circuit t)) globals parts.0 s chosen)) [
        | inl inside ↦ absurd (own.inside (has-contains ins s inside))
        | inr kept ↦ has-contains held r (subst (λ (driver : Driver). is_held held driver ≡ true) own.holds kept)
      ];
      sound = λ r among. holder-in circuit globals ins r (test-of (holder_among circuit ins globals) held parts.1 r among);
    }

holder-there : (circuit : FlatCircuit) (globals ins : List ℕ) (r : ℕ) → IsHeldIn circuit globals ins r → holder_among circuit ins globals r ≡ true
holder-there circuit globals ins r is = by globals is.chosen
  where
    here : not (has ins is.signal) && holds (driver_at circuit is.signal) r ≡ true
    here = and_from (not (has ins is.signal)) (holds (driver_at circuit is.signal) r) (free (has ins is.signal) refl) (subst (λ (driver : Driver). holds driver r ≡ true) (sym is.holds.holds) ((Decides-eqb r r).1 refl))
      where
        free : (b : Bool) → has ins is.signal ≡ b → not (has ins is.signal) ≡ true
        free true e = absurd (is.holds.inside (has-contains ins is.signal e))
        free false e = ap not e

    by : (list : List ℕ) → Contains list is.signal → holder_among circuit ins list r ≡ true
    by [] (k, lt, e) = absurd (omega arith)
    by (s ∷ list) (zero, lt, e) =
        or_left (not (has ins s) && holds (driver_at circuit s) r) (holder_among circuit ins list r) (subst (λ (t : ℕ). not (has ins t) && holds (driver_at circuit t) r ≡ true) (sym e) here)
    by (s ∷ list) (suc k, lt, e) = or_right (not (has ins s) && holds (driver_at circuit s) r) (holder_among circuit ins list r) (by list (k, omega arith, e))

-- a part can't list a register that none of its signals holds
pub idle-register : (circuit : FlatCircuit) (globals ins held : List ℕ) (r : ℕ) → has held r ≡ true → holder_among circuit ins globals r ≡ false → ¬ AreHeld circuit globals ins held
idle-register circuit globals ins held r listed idle are = true≢false (sym (holder-there circuit globals ins r (are.sound r (has-contains held r listed))) ∙ idle)

-- ---- parts

-- a part without clocks, if its registers and memories are those of the whole
pub is-part-with : (whole part : FlatCircuit) (globals held memories : List ℕ) → length part.signals ≡ length globals → are_known whole globals ≡ true → all_pairs (λ a b. not (a == b)) globals ≡ true
    → part.paths ≡ map (path_at whole.paths) globals → signal_shapes part ≡ map (shape_at (signal_shapes whole)) globals → part.clocks ≡ 0
    → Upto (λ s. IsFrom part.ins globals held memories s (driver_at whole (value_at globals s)) (driver_at part s)) (length globals)
    → Upto (λ place. (value_at part.ins place < length globals) × (driver_at part (value_at part.ins place) ≡ Input place)) (length part.ins)
    → list_all (λ s. nat_lt s (length globals)) part.outs ≡ true
    → length part.registers ≡ length held → ((r : ℕ) → r < length held → IsRegisterFrom whole part globals held [] r)
    → length part.memories ≡ length memories → all_pairs (λ a b. not (a == b)) memories ≡ true → ((m : ℕ) → m < length memories → IsMemoryFrom whole part globals memories [] m)
    → IsPart whole part globals held memories []
is-part-with whole part globals held memories count known once paths types clocks drivers ins outs register_count register_from memory_count memories_once memory_from =
    record {
      count = count;
      within = λ s lt. known-at whole globals (value_at globals s) known (s, lt, get_or_default globals s (value_at globals s) 0 lt);
      once = distinct globals once;
      paths = paths;
      types = types;
      clock_count = clocks;
      drivers = each-below (λ s. IsFrom part.ins globals held memories s (driver_at whole (value_at globals s)) (driver_at part s)) (length globals) drivers;
      ins = each-below (λ place. (value_at part.ins place < length globals) × (driver_at part (value_at part.ins place) ≡ Input place)) (length part.ins) ins;
      outs = λ place lt. ltb-true (value_at part.outs place) (length globals) (test-of (λ s. nat_lt s (length globals)) part.outs outs (value_at part.outs place) (place, lt, get_or_default part.outs place (value_at part.outs place) 0 lt));
      register_count = register_count;
      register_from = register_from;
      memory_count = memory_count;
      memories_once = distinct memories memories_once;
      memory_from = memory_from;
    }

-- a part without clocks, registers and memories
pub is-part : (whole part : FlatCircuit) (globals : List ℕ) → length part.signals ≡ length globals → are_known whole globals ≡ true → all_pairs (λ a b. not (a == b)) globals ≡ true
    → part.paths ≡ map (path_at whole.paths) globals → signal_shapes part ≡ map (shape_at (signal_shapes whole)) globals → part.clocks ≡ 0
    → Upto (λ s. IsFrom part.ins globals [] [] s (driver_at whole (value_at globals s)) (driver_at part s)) (length globals)
    → Upto (λ place. (value_at part.ins place < length globals) × (driver_at part (value_at part.ins place) ≡ Input place)) (length part.ins)
    → list_all (λ s. nat_lt s (length globals)) part.outs ≡ true → length part.registers ≡ 0 → length part.memories ≡ 0
    → IsPart whole part globals [] [] []
is-part whole part globals count known once paths types clocks drivers ins outs no_registers no_memories =
    is-part-with whole part globals [] [] count known once paths types clocks drivers ins outs no_registers (λ r lt. absurd (omega arith)) no_memories refl (λ m lt. absurd (omega arith))

-- a machine of a circuit without memories has none
pub no-memories : (tree : InstanceTree) (listed : Listed) (m : ℕ) → length tree.memories ≡ 0 → (k : ℕ) → Contains [] k ↔ HasMemory tree listed m k
no-memories tree listed m none k = (λ at. absurd (omega (arith, at.1)), λ h. absurd (omega (arith, h.known, none)))

pub is-cut-part : (design : Ordered) (listed : Listed) (hub : Hub) (m : ℕ) (part : Part) → IsPart design.circuit part.piece part.globals part.held part.memories part.clocks → part.clocks ≡ machine_clocks design.tree listed m
    → has_signals hub m part.globals ≡ true → are_known hub.circuit part.globals ≡ true
    → are_known hub.circuit (givens_of (routes hub) (channels_from (routes hub) m)) ≡ true → are_known hub.circuit (signals_of (routes hub) (channels_to (routes hub) m)) ≡ true
    → map (value_at part.globals) part.piece.ins ≡ signals_of (routes hub) (channels_to (routes hub) m) → map (value_at part.globals) part.piece.outs ≡ givens_of (routes hub) (channels_from (routes hub) m) → has_held design.circuit part.globals (signals_of (routes hub) (channels_to (routes hub) m)) part.held ≡ true
    → ((k : ℕ) → Contains part.memories k ↔ HasMemory design.tree listed m k) → in_order part.piece ≡ true → IsCutPart design listed hub m part
is-cut-part design listed hub m part is clocks test own given taken ins outs held memories ordered =
    record {
      is = is;
      clocks = clocks;
      signals = has-signals hub m part.globals test own given taken;
      ins = ins;
      outs = outs;
      held = has-held design.circuit part.globals (signals_of (routes hub) (channels_to (routes hub) m)) part.held held;
      memories = memories;
      ordered = in-order part.piece ordered;
    }
