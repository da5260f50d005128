-- Clocks that are numbered, and an instance that is read.
use Rattle.std.proofs.Common.{◌≡◌, ◌⊎◌, inl, inr, ℕ, zero, suc, ◌+◌, ◌<◌, List, [], ◌∷◌, ◌++◌, Bool, true, false, Option, Some, None, length, get_or, map, set, refl, sym, ap, ◌∙◌, subst, subst₂, arith}
use Rattle.std.proofs.lemmas.Bool.{cases_eq}
use Rattle.std.proofs.lemmas.List.{get_or_default, get_or-set_other, get_or-set_same}
use Rattle.std.proofs.lemmas.Option.{slice_get-get_or}
use Rattle.gg_flat.specs.declared.piece.Driver.TheVariants.{Held}
use Rattle.gg_flat.specs.Circuit.{FlatCircuit, driver_at}
use Rattle.gg_flat.specs.Line.{value_at}
use Rattle.gg_flat.specs.WellFormed.{IsClock, IsWellFormed, MayDrive}
use Rattle.gg_flat_tree.specs.declared.tree.Instance.{Instance}
use Rattle.gg_flat.specs.declared.piece.Register.{Register}
use Rattle.gg_flat_tree.specs.inside.Clocked.{AreParentsBefore}
use Rattle.gg_flat_tree.specs.Clocked.{IsClocked, clock_at, clocks_from, port_clocks, top_clocks}
use Rattle.gg_flat_tree.specs.Tree.{InstanceTree, IsInnermost, instance_at, memory_at}
use Rattle.gg_part.specs.Copies.{above}
use Rattle.gg_part.specs.inside.Domains.{inner_clocks}
use Rattle.gg_part.proofs.DomainLemmas.{clock_at-twice, inner-known, inner-leads, top-length}
use Rattle.gg_part.specs.inside.Clocking.{LeadsTo}
use Rattle.gg_cut_parts.specs.inside.Innermost.{IsLast, IsTimedBy}

-- one more
pub clocks-push : (a n m : ℕ) → a + n ≡ m → clocks_from a n ++ Some m ∷ [] ≡ clocks_from a (n + 1)
clocks-push a zero m e = let same : m ≡ a = omega (arith, e) in ap (λ k. Some k ∷ []) same
clocks-push a (suc n) m e =
    let turned : suc (n + 1) ≡ suc n + 1 = omega arith in
    ap (λ l. Some a ∷ l) (clocks-push (suc a) n m (omega (arith, e))) ∙ ap (clocks_from a) turned

pub clocks-length : (a n : ℕ) → length (clocks_from a n) ≡ n
clocks-length a zero = refl
clocks-length a (suc n) = ap suc (clocks-length (suc a) n)

-- an instance that was read stands at its place
pub read-instance : (tree : InstanceTree) (i : ℕ) (instance : Instance) → i < length tree.instances → instance ≡ get_or tree.instances i instance → instance ≡ instance_at tree i
read-instance tree i instance lt is = is ∙ get_or_default tree.instances i instance (record { parent = None; «module» = 0; first = 0; end = 0; ports = []; memories = []; clocks = [] }) lt

-- a register that a signal holds is there
pub held-known : (circuit : FlatCircuit) (s r : ℕ) → IsWellFormed circuit → s < length circuit.signals → driver_at circuit s ≡ Held r → r < length circuit.registers
held-known circuit s r formed lt is = let drives = subst (MayDrive circuit s) is (formed.drivers s lt) in drives.0

module _ (circuit : FlatCircuit) (tree : InstanceTree) (inner : List (List (Option ℕ))) (places : List ℕ) (table : List (Option ℕ)) (n : ℕ) (lt : n < length circuit.signals)
    (before : (s r : ℕ) → s < n → driver_at circuit s ≡ Held r → IsTimedBy circuit tree inner places table r) where
  -- the next signal holds a register
  pub timed-more : (r : ℕ) (value : Option ℕ) → driver_at circuit n ≡ Held r → r < length table → value ≡ clock_at (get_or inner (value_at places n) []) (get_or tree.register_clocks r None)
      → (s q : ℕ) → s < n + 1 → driver_at circuit s ≡ Held q → IsTimedBy circuit tree inner places (set table r value) q
  timed-more r value held inside is s q low holds = go (cases_eq q r)
    where
      go : (q ≡ r) ⊎ (q ≡ r → ⊥) → IsTimedBy circuit tree inner places (set table r value) q
      go (inl e) =
          record {
            signal = n;
            known = lt;
            held = held ∙ ap Held (sym e);
            clock =
                ap (λ k. get_or (set table r value) k None) e ∙ get_or-set_same table r value None inside
                ∙ is ∙ ap (λ k. clock_at (get_or inner (value_at places n) []) (get_or tree.register_clocks k None)) (sym e);
          }
      go (inr other) = old (cases_eq s n)
        where
          old : (s ≡ n) ⊎ (s ≡ n → ⊥) → IsTimedBy circuit tree inner places (set table r value) q
          old (inl e) = let same : Held q ≡ Held r = sym holds ∙ ap (driver_at circuit) e ∙ held in absurd (other (number same))
            where
              number : Held q ≡ Held r → q ≡ r
              number same = cc
          old (inr apart) =
              let t = before s q (omega (arith, low, apart)) holds in
              record { signal = t.signal; known = t.known; held = t.held; clock = get_or-set_other table r q value None other ∙ t.clock }

  -- it holds none
  pub timed-passed : ((r : ℕ) → driver_at circuit n ≡ Held r → ⊥) → (s q : ℕ) → s < n + 1 → driver_at circuit s ≡ Held q → IsTimedBy circuit tree inner places table q
  timed-passed none s q low holds = go (cases_eq s n)
    where
      go : (s ≡ n) ⊎ (s ≡ n → ⊥) → IsTimedBy circuit tree inner places table q
      go (inl e) = absurd (none q (sym (ap (driver_at circuit) e) ∙ holds))
      go (inr apart) = before s q (omega (arith, low, apart)) holds

-- ---- what registers and ports of memories follow in the circuit

module _ (circuit : FlatCircuit) (tree : InstanceTree) (before : AreParentsBefore tree) (clocked : IsClocked circuit tree) (is_home : ℕ → Bool) where
  -- the last instance that has a signal is the innermost one
  pub last-innermost : (s p : ℕ) → IsLast tree (length tree.instances) s p → IsInnermost tree p s
  last-innermost s p last =
      record {
        known = last.known;
        holds = last.holds;
        deeper = λ i lt parent holds. let after = before i p lt parent in let most = last.last i lt holds in omega (arith, after, most);
      }

  -- a Clock input inside of a home leads on to what it follows in the circuit
  pub led-on : (levels k h : ℕ) → k < length tree.instances → h < length tree.instances → is_home h ≡ true → above tree levels k ≡ Some h → ((l x : ℕ) → l < levels → above tree l k ≡ Some x → is_home x ≡ false)
      → (own : Option ℕ) → LeadsTo (top_clocks tree h) (clock_at (top_clocks tree k) own) (clock_at (inner_clocks is_home tree k) own)
  led-on levels k h lt there home up quiet own =
      record {
        known = subst (λ n. IsClock n (clock_at (inner_clocks is_home tree k) own)) (sym (top-length tree before h there)) (inner-known tree before is_home levels k h lt home up quiet own);
        leads =
            sym (clock_at-twice (top_clocks tree h) (inner_clocks is_home tree k) own)
            ∙ ap (λ (l : List (Option ℕ)). clock_at l own) (sym (inner-leads tree before is_home levels k h lt home up quiet));
      }

  -- a register follows a clock of the home in which its signal lies
  pub timed-leads : (inner : List (List (Option ℕ))) (places : List ℕ) (table : List (Option ℕ)) (r : ℕ) (any : Register) (t : IsTimedBy circuit tree inner places table r) (levels h : ℕ) → h < length tree.instances → is_home h ≡ true → r < length circuit.registers
      → IsLast tree (length tree.instances) t.signal (value_at places t.signal)
      → ((k : ℕ) → k < length tree.instances → get_or inner k [] ≡ inner_clocks is_home tree k)
      → above tree levels (value_at places t.signal) ≡ Some h → ((l x : ℕ) → l < levels → above tree l (value_at places t.signal) ≡ Some x → is_home x ≡ false)
      → LeadsTo (top_clocks tree h) (get_or circuit.registers r any).clock (get_or table r None)
  timed-leads inner places table r any t levels h there home known last each up quiet =
      let k = value_at places t.signal in
      let own = get_or tree.register_clocks r None in
      let here = t.clock ∙ ap (λ (l : List (Option ℕ)). clock_at l own) (each k last.known) in
      let follows = clocked.registers k t.signal r (get_or circuit.registers r any) (last-innermost t.signal k last) t.held (slice_get-get_or circuit.registers r any known) in
      subst₂ (LeadsTo (top_clocks tree h)) (sym follows) (sym here) (led-on levels k h last.known there home up quiet own)

  -- and so does a port of a memory
  pub port-leads : (j p : ℕ) (levels h : ℕ) → j < length tree.memories → h < length tree.instances → (memory_at tree j).instance < length tree.instances → is_home h ≡ true
      → above tree levels (memory_at tree j).instance ≡ Some h → ((l x : ℕ) → l < levels → above tree l (memory_at tree j).instance ≡ Some x → is_home x ≡ false)
      → LeadsTo (top_clocks tree h) (get_or (port_clocks circuit (memory_at tree j).memory) p None) (get_or (map (clock_at (inner_clocks is_home tree (memory_at tree j).instance)) (memory_at tree j).clocks) p None)
  port-leads j p levels h lt there held home up quiet =
      let k = (memory_at tree j).instance in
      subst₂ (LeadsTo (top_clocks tree h))
      (sym (ap (λ (l : List (Option ℕ)). get_or l p None) (clocked.ports j lt) ∙ clock_at-twice (top_clocks tree k) (memory_at tree j).clocks (Some p)))
      (sym (clock_at-twice (inner_clocks is_home tree k) (memory_at tree j).clocks (Some p)))
      (led-on levels k h held there home up quiet (get_or (memory_at tree j).clocks p None))
