-- What follows a Clock input of one unit, follows the same one of a copy of it.
use Rattle.std.proofs.Common.{◌≡◌, ℕ, ◌<◌, List, [], ◌∷◌, ◌++◌, length, map, Bool, Option, refl, sym, ◌∙◌, ap, ap₂, subst, subst₂, arith}
use Rattle.std.specs.Prelude.{Contains, flat_map}
use Rattle.std.proofs.lemmas.List.{length-map, nil_from_length}
use Rattle.gg_flat.specs.declared.memory.Reader.{Reader}
use Rattle.gg_flat.specs.declared.memory.Writer.{Writer}
use Rattle.gg_flat.specs.declared.piece.Driver.TheVariants.{Held}
use Rattle.gg_flat.specs.Circuit.{FlatCircuit, driver_at, readers_at}
use Rattle.gg_flat_tree.specs.Clocked.{clock_at, top_clocks}
use Rattle.gg_flat.specs.Line.{value_at}
use Rattle.gg_flat_tree.specs.Scoped.{IsFieldOf, memory_fields, reader_fields, writer_fields, writers_at}
use Rattle.gg_flat_tree.specs.Tree.{InstanceTree, IsInnermost, IsTree, Holds, instance_at, memory_at}
use Rattle.gg_flat.proofs.ListLemmas.{Contains-map}
use Rattle.gg_part.specs.Copies.{LiesIn, Start}
use Rattle.gg_part.specs.inside.Domains.{FollowsInside, inner_clocks, ports_inside}
use Rattle.gg_part.specs.Moved.{shifted}
use Rattle.gg_part.proofs.DomainLemmas.{again, top-length}
use Rattle.gg_order.specs.Design.{Ordered}
use Rattle.gg_cut_plan.specs.declared.listed.Listed.{Listed}
use Rattle.gg_cut_plan.specs.Machines.{unit_number}
use Rattle.gg_cut_plan.specs.Plan.{HasMemory, machine_clocks}
use Rattle.gg_cut_plan.specs.inside.Plan.{Makes}
use Rattle.gg_cut_plan.proofs.KnownLemmas.{parents-before}
use Rattle.gg_cut_split.proofs.ClosedLemmas.TreeLemmas.{above, innermost, lies-holder}
use Rattle.gg_cut_split.specs.inside.Again.{AreHomes, cut_wires}
use Rattle.gg_cut_split.proofs.AgainLemmas.AtAgainLemmas.{held-behind, held-moved, shifted-back}
use Rattle.gg_cut_split.proofs.AgainLemmas.BankLemmas.{own-of}
use Rattle.gg_cut_split.proofs.AgainLemmas.FieldLemmas.{fields-again}
use Rattle.gg_cut_split.proofs.AgainLemmas.HomeLemmas.{home-none, home-unit, lies-of}
use Rattle.gg_cut_split.proofs.AgainLemmas.LiesLemmas.{lies-in}
use Rattle.gg_cut_split.proofs.AgainLemmas.Pair.{ArePair, AreChannelsOver, turned}
use Rattle.gg_cut_split.proofs.AgainLemmas.SignalLemmas.{made-held, no-input}

-- ---- instances

module _ (design : Ordered) (listed : Listed) (u v : ℕ) (one other : Start) (pair : ArePair design listed u v one other) (is_home : ℕ → Bool) (homes : AreHomes listed is_home) where
  abbrev circuit : FlatCircuit
  circuit = design.circuit

  abbrev tree : InstanceTree
  tree = design.tree

  abbrev i : ℕ
  i = value_at listed.units u

  abbrev j : ℕ
  j = value_at listed.units v

  -- an instance that lies in the one unit has its counterpart in the other
  pub record StandsThere (k : ℕ) : Type 0 where
    pub within : shifted (value_at listed.units u) (value_at listed.units v) k < length design.tree.instances
    pub same : inner_clocks is_home design.tree (shifted (value_at listed.units u) (value_at listed.units v) k) ≡ inner_clocks is_home design.tree k

  pub stands-there : (k : ℕ) → k < length design.tree.instances → LiesIn design.tree (value_at listed.units u) k → StandsThere k
  stands-there k lt lies =
      let a =
      again tree (parents-before circuit tree pair.keeps.fitting) is_home circuit i j one other pair.copy (pair.apart.known u 0 pair.there.known) (pair.apart.known v 0 pair.back.known)
      (home-unit circuit tree listed pair.keeps.fitting pair.apart is_home homes u pair.there.known)
      (home-unit circuit tree listed pair.keeps.fitting pair.apart is_home homes v pair.back.known)
      (home-none circuit tree listed pair.keeps.fitting pair.apart is_home homes u pair.there.known)
      (home-none circuit tree listed pair.keeps.fitting pair.apart is_home homes v pair.back.known)
      lies.levels k lt lies.is in
      record { within = a.within; same = a.same }

  -- the counterpart has those of the signals
  pub holds-there : (k s : ℕ) → k < length design.tree.instances → LiesIn design.tree (value_at listed.units u) k → Holds (instance_at design.tree k) s
      → Holds (instance_at design.tree (shifted (value_at listed.units u) (value_at listed.units v) k)) (shifted one.signals other.signals s)
  holds-there k s lt lies holds =
      let copies = pair.keeps.copies in
      let within = (stands-there k lt lies).within in
      let at = pair.copy.instance k lt lies in
      let first = at.1 in
      let size = (copies.copy k (shifted i j k) lt within (sym at.0)).size in
      let start = copies.first k lt in
      let start' = copies.first (shifted i j k) within in
      let low = holds.0 in
      let high = holds.1 in
      let own = (above circuit tree pair.keeps.fitting k i lt (lies-of circuit tree pair.keeps.fitting lies.levels k i lt lies.is)).holds (instance_at tree k).first (omega arith, omega (arith, low, high)) in
      let behind = own.0 in
      let unit = pair.there.first in
      (omega (arith, first, low, behind, unit), omega (arith, first, low, high, behind, unit, size, start, start'))

module _ (design : Ordered) (listed : Listed) (u v : ℕ) (one other : Start) (pair : ArePair design listed u v one other) (is_home : ℕ → Bool) (homes : AreHomes listed is_home) where
  abbrev fits : IsTree design.circuit design.tree
  fits = pair.keeps.fitting

  -- the innermost instance of a counterpart is the counterpart of the innermost
  pub innermost-there : (k k' s : ℕ) → IsInnermost design.tree k s → Holds (instance_at design.tree (value_at listed.units u)) s → IsInnermost design.tree k' (shifted one.signals other.signals s)
      → k' ≡ shifted (value_at listed.units u) (value_at listed.units v) k
  innermost-there k k' s inner holds inner' =
      let circuit = design.circuit in
      let tree = design.tree in
      let i = value_at listed.units u in
      let j = value_at listed.units v in
      let t = shifted one.signals other.signals s in
      let lies = lies-holder circuit tree pair.keeps.fitting k s i inner (pair.apart.known u 0 pair.there.known) holds in
      let lies' = lies-holder circuit tree pair.keeps.fitting k' t j inner' (pair.apart.known v 0 pair.back.known) (held-moved design listed u v one other pair s holds) in
      let inside = lies-in circuit tree pair.keeps.fitting k i inner.known lies in
      let inside' = lies-in circuit tree pair.keeps.fitting k' j inner'.known lies' in
      let there = holds-there design listed u v one other pair is_home homes k s inner.known inside inner.holds in
      let back =
      subst (Holds (instance_at tree (shifted j i k'))) (shifted-back one.signals other.signals s (held-behind design listed u v one other pair s holds))
      (holds-there design listed v u other one (turned pair) is_home homes k' t inner'.known inside' inner'.holds) in
      let within = (stands-there design listed u v one other pair is_home homes k inner.known inside).within in
      let within' = (stands-there design listed v u other one (turned pair) is_home homes k' inner'.known inside').within in
      let a = (above circuit tree pair.keeps.fitting k i inner.known lies).low in
      let b = (above circuit tree pair.keeps.fitting k' j inner'.known lies').low in
      let c = (above circuit tree pair.keeps.fitting k' (shifted i j k) inner'.known (lies-holder circuit tree pair.keeps.fitting k' t (shifted i j k) inner' within there)).low in
      let d = (above circuit tree pair.keeps.fitting k (shifted j i k') inner.known (lies-holder circuit tree pair.keeps.fitting k s (shifted j i k') inner within' back)).low in
      omega (arith, a, b, c, d)

  -- so it has the same clocks inside of its unit
  pub inner-there : (k k' s : ℕ) → IsInnermost design.tree k s → Holds (instance_at design.tree (value_at listed.units u)) s → IsInnermost design.tree k' (shifted one.signals other.signals s)
      → inner_clocks is_home design.tree k ≡ inner_clocks is_home design.tree k'
  inner-there k k' s inner holds inner' =
      let lies = lies-holder design.circuit design.tree pair.keeps.fitting k s (value_at listed.units u) inner (pair.apart.known u 0 pair.there.known) holds in
      sym (stands-there design listed u v one other pair is_home homes k inner.known (lies-in design.circuit design.tree pair.keeps.fitting k (value_at listed.units u) inner.known lies)).same
      ∙ ap (inner_clocks is_home design.tree) (sym (innermost-there k k' s inner holds inner'))

-- ---- registers

module _ (design : Ordered) (listed : Listed) (u v : ℕ) (one other : Start) (pair : ArePair design listed u v one other) (channels : AreChannelsOver design listed u v one other) where
  pub register-clock-too : (is_home : ℕ → Bool) (s r : ℕ) (clock : Option ℕ) → AreHomes listed is_home → Makes design.circuit design.tree listed (cut_wires design listed) (unit_number u) s → driver_at design.circuit s ≡ Held r
      → FollowsInside is_home design.tree s r clock → FollowsInside is_home design.tree (shifted one.signals other.signals s) (shifted one.registers other.registers r) clock
  register-clock-too is_home s r clock homes makes held follows k' inner' =
      let holds = made-held design listed u v one other pair channels s makes in
      let inside = (pair.keeps.fitting.each (value_at listed.units u) (pair.apart.known u 0 pair.there.known)).inside in
      let high = holds.1 in
      let at = innermost design.circuit design.tree pair.keeps.fitting s (omega (arith, inside, high)) in
      follows at.place at.is
      ∙ ap₂ (λ (l : List (Option ℕ)) (c : Option ℕ). clock_at l c) (inner-there design listed u v one other pair is_home homes at.place k' s at.is holds inner')
      (sym (pair.copy.register_clock s r holds (no-input design listed u v one other pair channels s makes) held))

-- ---- the ports of memories

module _ (design : Ordered) (listed : Listed) (u v : ℕ) (one other : Start) (pair : ArePair design listed u v one other) where
  pub memory-clocks-too : (is_home : ℕ → Bool) (k : ℕ) → AreHomes listed is_home → HasMemory design.tree listed (unit_number u) k → ports_inside is_home design.tree (shifted one.memories other.memories k) ≡ ports_inside is_home design.tree k
  memory-clocks-too is_home k homes has = by (readers_at design.circuit m) refl (writers_at design.circuit m) refl
    where
      m : ℕ
      m = (memory_at design.tree k).memory

      there : ℕ
      there = shifted one.memories other.memories k

      known : k < length design.tree.memories
      known = (own-of design listed u v one other pair k has).known

      lies : LiesIn design.tree (value_at listed.units u) (memory_at design.tree k).instance
      lies = pair.there.lies k known (own-of design listed u v one other pair k has).inside

      clocks : (memory_at design.tree there).clocks ≡ (memory_at design.tree k).clocks
      clocks = pair.copy.memory_clocks k known lies

      of-field : (s : ℕ) → IsFieldOf design.circuit design.tree k s → ports_inside is_home design.tree there ≡ ports_inside is_home design.tree k
      of-field s field =
          let own = own-of design listed u v one other pair k has in
          let inner = (pair.keeps.scoped.fields k s known field).own in
          let field' =
          subst (λ (l : List ℕ). Contains l (shifted one.signals other.signals s)) (sym (fields-again design listed u v one other pair k known own.inside))
          (Contains-map (shifted one.signals other.signals) (memory_fields design.circuit m) s field) in
          let inner' = (pair.keeps.scoped.fields there (shifted one.signals other.signals s) (pair.there.within k known own.inside) field').own in
          let up = above design.circuit design.tree pair.keeps.fitting (memory_at design.tree k).instance (value_at listed.units u) inner.known (lies-of design.circuit design.tree pair.keeps.fitting lies.levels (memory_at design.tree k).instance (value_at listed.units u) inner.known lies.is) in
          ap₂ (λ (l c : List (Option ℕ)). map (clock_at l) c)
          (sym (inner-there design listed u v one other pair is_home homes (memory_at design.tree k).instance (memory_at design.tree there).instance s inner (up.holds s inner.holds) inner'))
          clocks

      of-none : (memory_at design.tree k).clocks ≡ [] → ports_inside is_home design.tree there ≡ ports_inside is_home design.tree k
      of-none none =
          ap (map (clock_at (inner_clocks is_home design.tree (memory_at design.tree there).instance))) (clocks ∙ none)
          ∙ sym (ap (map (clock_at (inner_clocks is_home design.tree (memory_at design.tree k).instance))) none)

      by : (rs : List Reader) → readers_at design.circuit m ≡ rs → (ws : List Writer) → writers_at design.circuit m ≡ ws → ports_inside is_home design.tree there ≡ ports_inside is_home design.tree k
      by [] e [] f =
          of-none (nil_from_length (memory_at design.tree k).clocks
          (sym (length-map (memory_at design.tree k).clocks (clock_at (top_clocks design.tree (memory_at design.tree k).instance)))
          ∙ ap (λ (l : List (Option ℕ)). length l) (sym (pair.keeps.clocked.ports k known))
          ∙ ap₂ (λ (rs : List Reader) (ws : List Writer). length (map (λ (r : Reader). r.clock) rs ++ map (λ (w : Writer). w.clock) ws)) e f))
      by (r ∷ rs) e ws f =
          of-field r.addr
          (subst (λ (l : List Reader). Contains (flat_map (λ (x : Reader). reader_fields x) l ++ flat_map (λ (x : Writer). writer_fields x) (writers_at design.circuit m)) r.addr) (sym e) (0, omega arith, refl))
      by [] e (w ∷ ws) f =
          of-field w.addr
          (subst₂ (λ (l : List Reader) (n : List Writer). Contains (flat_map (λ (x : Reader). reader_fields x) l ++ flat_map (λ (x : Writer). writer_fields x) n) w.addr) (sym e) (sym f) (0, omega arith, refl))

-- ---- the units themselves

module _ (design : Ordered) (listed : Listed) (u v : ℕ) (one other : Start) (pair : ArePair design listed u v one other) where
  pub own-clocks-too : length (machine_clocks design.tree listed (unit_number v)) ≡ length (machine_clocks design.tree listed (unit_number u))
  own-clocks-too =
      let before = parents-before design.circuit design.tree pair.keeps.fitting in
      top-length design.tree before (value_at listed.units v) (pair.apart.known v 0 pair.back.known)
      ∙ pair.copy.own_clocks
      ∙ sym (top-length design.tree before (value_at listed.units u) (pair.apart.known u 0 pair.there.known))
