-- What the registers and the ports of memories follow, in the circuit and inside of the units, as tables.
use Rattle.std.proofs.Common.{◌≡◌, ℕ, ◌<◌, ◌≤◌, List, [], Bool, false, Option, None, length, map, get_or, eqb-true, refl, sym, ◌∙◌, ap, subst, inl, inr, ◌⊎◌, arith}
use Rattle.std.specs.Prelude.{◌==◌}
use Rattle.std.specs.List.{list_any, range_with_len}
use Rattle.std.proofs.lemmas.Bool.{cases_eq, cases_lt, false_from_ne_true}
use Rattle.std.proofs.lemmas.List.{get_or_past}
use Rattle.std.proofs.lemmas.List.Elements.{All-contains}
use Rattle.std.proofs.lemmas.List.FromFn.{get_or-map-range_with_len, length-map-range_with_len}
use Rattle.gg_flat.specs.declared.memory.Memory.{Memory}
use Rattle.gg_flat.specs.declared.piece.Driver.{Driver}
use Rattle.gg_flat.specs.declared.piece.Driver.TheVariants.{Input, Held, MemoryWord, ReadRegister, Computed}
use Rattle.gg_flat.specs.declared.piece.Register.{Register}
use Rattle.gg_flat_tree.specs.declared.tree.MemoryInstance.{MemoryInstance}
use Rattle.gg_flat.specs.Circuit.{FlatCircuit, driver_at}
use Rattle.gg_flat_tree.specs.Clocked.{clock_at}
use Rattle.gg_flat_tree.specs.Tree.{IsInnermost}
use Rattle.gg_part.specs.inside.Domains.{FollowsInside, inner_clocks}
use Rattle.gg_part.specs.KeepsToTree.{KeepsToTree}
use Rattle.gg_order.specs.Design.{IsDesign, Ordered}
use Rattle.gg_order.specs.Marks.{is_marked}
use Rattle.gg_part.specs.declared.part.Clocking.{Clocking}
use Rattle.gg_part.specs.inside.Clocking.{clocks_of_ports}
use Rattle.gg_cut_plan.specs.declared.listed.Listed.{Listed}
use Rattle.gg_cut_plan.specs.Held.{AreHeldOnce}
use Rattle.gg_cut_plan.proofs.OriginLemmas.{any-finds}
use Rattle.gg_cut_split.specs.inside.Apart.{AreApart}
use Rattle.gg_cut_split.proofs.ClosedLemmas.TreeLemmas.{innermost, innermost-one}
use Rattle.gg_cut_split.specs.inside.Again.{AreHomes}
use Rattle.gg_cut_parts.specs.inside.Domains.{AreUnitClocks, AreWholeClocks}
use Rattle.gg_cut_parts.proofs.FollowLemmas.{ports-follow}
use Rattle.gg_cut_parts.proofs.TableLemmas.{held-known}
use Rattle.gg_cut.proofs.ExistenceLemmas.DecideLemmas.{Decided, IsAny, any-below}
use Rattle.gg_cut.proofs.ExistenceLemmas.FilledLemmas.{IsFilled, Something, filled}

-- ---- in the circuit

abbrev pub whole_clocks : FlatCircuit → Clocking
whole_clocks circuit = record { registers = map (λ (register : Register). register.clock) circuit.registers; ports = map (λ (memory : Memory). clocks_of_ports memory) circuit.memories }

pub whole-are : (circuit : FlatCircuit) → AreWholeClocks circuit (whole_clocks circuit)
whole-are circuit = record { registers = refl; ports = refl }

-- ---- inside of the units

pub record HasUnitClocks (design : Ordered) (listed : Listed) : Type 0 where
  pub clocking : Clocking
  pub are : AreUnitClocks design listed clocking

-- whether a driver is that of a register
held-by : (driver : Driver) (r : ℕ) → Decided (driver ≡ Held r)
held-by (Input place) r = inr (λ e. absurd (cc))
held-by (Held q) r = by (cases_eq q r)
  where
    by : (q ≡ r) ⊎ (q ≡ r → ⊥) → Decided (Held q ≡ Held r)
    by (inl same) = inl (ap Held same)
    by (inr other) = inr (λ e. other (let same : q ≡ r = cc in same))
held-by (MemoryWord memory reader addr en) r = inr (λ e. absurd (cc))
held-by (ReadRegister memory reader) r = inr (λ e. absurd (cc))
held-by (Computed line) r = inr (λ e. absurd (cc))

module _ (design : Ordered) (listed : Listed) (is : IsDesign design) (keeps : KeepsToTree design.circuit design.tree) (held : AreHeldOnce design.circuit) (apart : AreApart design.tree listed) where
  abbrev marks : List Bool
  marks = map (λ k. list_any (λ unit. k == unit) listed.units) (range_with_len 0 (length design.tree.instances))

  abbrev is_home : ℕ → Bool
  is_home = is_marked marks

  homes : AreHomes listed is_home
  homes k = by (cases_lt k (length design.tree.instances))
    where
      by : (k < length design.tree.instances) ⊎ (length design.tree.instances ≤ k) → get_or marks k false ≡ list_any (λ unit. k == unit) listed.units
      by (inl lt) = get_or-map-range_with_len (λ n. list_any (λ unit. n == unit) listed.units) 0 (length design.tree.instances) k k false lt (omega arith)
      by (inr ge) =
          get_or_past marks k false (omega (arith, ge, length-map-range_with_len (λ n. list_any (λ unit. n == unit) listed.units) 0 (length design.tree.instances)))
          ∙ sym (false_from_ne_true (list_any (λ unit. k == unit) listed.units) (λ e.
          let at = any-finds (λ unit. k == unit) listed.units e in
          let known = All-contains (λ n. n < length design.tree.instances) listed.units at.item apart.known at.among in
          let same = eqb-true k at.item at.passes in
          absurd (omega (arith, ge, known, same))))

  abbrev tables : List (List (Option ℕ))
  tables = map (inner_clocks is_home design.tree) (range_with_len 0 (length design.tree.instances))

  tables-are : (k : ℕ) → k < length design.tree.instances → get_or tables k [] ≡ inner_clocks is_home design.tree k
  tables-are k lt = get_or-map-range_with_len (inner_clocks is_home design.tree) 0 (length design.tree.instances) k k [] lt (omega arith)

  -- the clock for a register: that of the signal that holds it
  abbrev ClockFor : ℕ → Option ℕ → Type 0
  ClockFor r clock = (s : ℕ) → s < length design.circuit.signals → driver_at design.circuit s ≡ Held r → FollowsInside is_home design.tree s r clock

  clock-there : (r : ℕ) → Something ClockFor r
  clock-there r = by (any-below (λ s. driver_at design.circuit s ≡ Held r) (length design.circuit.signals) (λ s lt. held-by (driver_at design.circuit s) r))
    where
      by : Decided (IsAny (λ s. driver_at design.circuit s ≡ Held r) (length design.circuit.signals)) → Something ClockFor r
      by (inr none) = record { it = None; is = λ s lt here. absurd (none (record { number = s; below = lt; is = here })) }
      by (inl at) =
          let k = innermost design.circuit design.tree keeps.fitting at.number at.below in
          record {
            it = clock_at (inner_clocks is_home design.tree k.place) (get_or design.tree.register_clocks r None);
            is = λ s lt here n inside.
                let one : s ≡ at.number = held s at.number r lt at.below here at.is in
                let same : k.place ≡ n = innermost-one design.circuit design.tree keeps.fitting k.place n at.number k.is (subst (IsInnermost design.tree n) one inside) in
                ap (λ p. clock_at (inner_clocks is_home design.tree p) (get_or design.tree.register_clocks r None)) same;
          }

  unit-clocks-by : IsFilled ClockFor (length design.circuit.registers) → HasUnitClocks design listed
  unit-clocks-by table =
      record {
        clocking = record { registers = table.items; ports = map (λ (memory : MemoryInstance). map (clock_at (get_or tables memory.instance [])) memory.clocks) design.tree.memories };
        are = record {
          marks = marks;
          homes = homes;
          register = λ s r lt here. table.each r None (held-known design.circuit s r is.formed lt here) s lt here;
          ports = λ k lt. ports-follow design.circuit design.tree keeps is_home tables tables-are k lt;
        };
      }

  pub unit-clocks : HasUnitClocks design listed
  unit-clocks = unit-clocks-by (filled ClockFor (length design.circuit.registers) (λ r lt. clock-there r))
