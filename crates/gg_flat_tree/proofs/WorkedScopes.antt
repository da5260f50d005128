-- A small circuit keeps to the scopes of its tree, and those with one flaw each don't.
--
-- The top has the input `x` and the output `q`, which it connects to the output `b` of its instance `u`; `u.a` is connected to
-- `x`. In `u`, `b` is the node `n`, and `n` is the input `a`. `n` stands for a stop, too.
use Rattle.std.proofs.Common.{◌≡◌, ◌≢◌, ℕ, zero, suc, ◌<◌, ◌≤◌, ◌⊎◌, inl, inr, [], ◌∷◌, length, Some, None, true, false, refl, sym, ◌∙◌, ap, subst, arith, lit<, lit≤}
use Rattle.std.specs.Prelude.{Contains, AllPairs, slice_index_or}
use Rattle.std.proofs.lemmas.Bool.{cases_lt}
use Rattle.std.proofs.lemmas.List.Kept.{AllPairs-cons}
use Rattle.gg_flat.specs.declared.line.Op.TheVariants.{Ref}
use Rattle.gg_flat.specs.declared.piece.Driver.TheVariants.{Input}
use Rattle.gg_flat.specs.declared.piece.Signal.{Signal}
use Rattle.gg_flat_tree.specs.declared.tree.Instance.{Instance}
use Rattle.gg_flat_tree.specs.declared.tree.InstancePort.{InstancePort}
use Rattle.gg_flat.specs.Circuit.{FlatCircuit, driver_at}
use Rattle.gg_flat.specs.Reads.{NamesSignal}
use Rattle.gg_flat_tree.specs.Tree.{InstanceTree, IsInnermost, IsJustBelow, Holds, path_at, instance_at, parent_place}
use Rattle.gg_flat_tree.specs.Scoped.{IsPort, IsInputOf, IsChildsInput, IsOwnSink, IsWritten, IsVisible, IsOwnPort, IsStop, IsScoped}
use Rattle.gg_flat.proofs.WorkedForms.{only, both, apart, same, single, letter}
use Rattle.gg_flat.proofs.WorkedCircuits.{eight}
use Rattle.gg_flat.proofs.WorkedMemories.{signal, copy}

-- `q` and `n` have these drivers
abbrev with : Signal → Signal → FlatCircuit
with q n =
    record {
      paths = (120 ∷ []) ∷ (113 ∷ []) ∷ (117 ∷ 46 ∷ 97 ∷ []) ∷ (117 ∷ 46 ∷ 98 ∷ []) ∷ (117 ∷ 46 ∷ 110 ∷ []) ∷ [];
      signals = signal eight (Input 0) ∷ q ∷ copy eight 0 ∷ copy eight 4 ∷ n ∷ [];
      registers = [];
      memories = [];
      ins = 0 ∷ [];
      outs = 1 ∷ 4 ∷ [];
      clocks = 0;
    }

abbrev circuit : FlatCircuit
circuit = with (copy eight 3) (copy eight 2)

abbrev input : ℕ → InstancePort
input s = record { signal = s; is_input = true }

abbrev output : ℕ → InstancePort
output s = record { signal = s; is_input = false }

abbrev top : Instance
top = record { parent = None; «module» = 0; first = 0; end = 5; ports = input 0 ∷ output 1 ∷ []; memories = []; clocks = [] }

abbrev lower : Instance
lower = record { parent = Some 0; «module» = 1; first = 2; end = 5; ports = input 2 ∷ output 3 ∷ []; memories = []; clocks = [] }

abbrev tree : InstanceTree
tree = record { paths = [] ∷ (117 ∷ []) ∷ []; instances = top ∷ lower ∷ []; memory_paths = []; memories = []; clocks = []; register_clocks = []; stops = record { instance = 1; signal = 4; clock = None } ∷ [] }

-- ---- the instance that each signal belongs to

none-some : {k : ℕ} {A : Type 0} → None ≡ Some k → A
none-some e = absurd (cc)

own-top : (s : ℕ) → s < 2 → IsInnermost tree 0 s
own-top s lt = record { known = lit< tt; holds = (omega arith, omega (arith, lt)); deeper = deeper }
  where
    deeper : (i : ℕ) → i < 2 → (instance_at tree i).parent ≡ Some 0 → ¬ Holds (instance_at tree i) s
    deeper zero le is = none-some is
    deeper (suc zero) le is = λ h. absurd (omega (arith, lt, h.0))
    deeper (suc (suc i)) le is = absurd (omega arith)

own-lower : (s : ℕ) → 2 ≤ s → s < 5 → IsInnermost tree 1 s
own-lower s le lt = record { known = lit< tt; holds = (le, lt); deeper = deeper }
  where
    deeper : (i : ℕ) → i < 2 → (instance_at tree i).parent ≡ Some 1 → ¬ Holds (instance_at tree i) s
    deeper zero less is = none-some is
    deeper (suc zero) less is = let clash : 0 ≡ 1 = ap parent_place is in absurd (omega (arith, clash))
    deeper (suc (suc i)) less is = absurd (omega arith)

-- the top's own signals are the first two
of-top : (s : ℕ) → IsInnermost tree 0 s → s < 2
of-top s is = by (cases_lt s 2)
  where
    by : (s < 2) ⊎ (2 ≤ s) → s < 2
    by (inl lt) = lt
    by (inr le) = absurd (is.deeper 1 (lit< tt) refl (le, is.holds.1))

-- ---- ports

port-at : (P : ℕ → Type 0) (s : ℕ) (a b port : InstancePort) → Contains (a ∷ b ∷ []) port → port.signal ≡ s → P a.signal → P b.signal → P s
port-at P s a b port (zero, lt, is) at pa pb = subst P (ap (λ (p : InstancePort). p.signal) is ∙ at) pa
port-at P s a b port (suc zero, lt, is) at pa pb = subst P (ap (λ (p : InstancePort). p.signal) is ∙ at) pb
port-at P s a b port (suc (suc k), lt, is) at pa pb = absurd (omega arith)

ports : (k s : ℕ) → IsPort tree k s → IsOwnPort circuit tree k s
ports zero s is =
    port-at (IsOwnPort circuit tree 0) s (input 0) (output 1) is.port is.listed is.is
    (record { own = own-top 0 (lit< tt); path = record { name = 120 ∷ []; plain = letter 120 (apart 120 46 refl); is = refl } })
    (record { own = own-top 1 (lit< tt); path = record { name = 113 ∷ []; plain = letter 113 (apart 113 46 refl); is = refl } })
ports (suc zero) s is =
    port-at (IsOwnPort circuit tree 1) s (input 2) (output 3) is.port is.listed is.is
    (record { own = own-lower 2 (lit≤ tt) (lit< tt); path = record { name = 97 ∷ []; plain = letter 97 (apart 97 46 refl); is = refl } })
    (record { own = own-lower 3 (lit≤ tt) (lit< tt); path = record { name = 98 ∷ []; plain = letter 98 (apart 98 46 refl); is = refl } })
ports (suc (suc k)) s is = let past : suc (suc k) < 2 = is.known in absurd (omega (arith, past))

once : (a b : InstancePort) → a.signal ≢ b.signal → AllPairs (λ x y. x.signal ≢ y.signal) (a ∷ b ∷ [])
once a b differ = AllPairs-cons (λ x y. x.signal ≢ y.signal) a (b ∷ []) (λ k d lt. only (λ i. a.signal ≢ (slice_index_or (b ∷ []) i d).signal) differ k lt) (λ i j d lt within. absurd (omega arith))

-- ---- names

names : (k s : ℕ) → IsInnermost tree k s → IsJustBelow (path_at tree.paths k) (path_at circuit.paths s)
names zero zero is = record { name = 120 ∷ []; plain = letter 120 (apart 120 46 refl); is = refl }
names zero (suc zero) is = record { name = 113 ∷ []; plain = letter 113 (apart 113 46 refl); is = refl }
names zero (suc (suc s)) is = let past = of-top (suc (suc s)) is in absurd (omega (arith, past))
names (suc zero) zero is = let low : 2 ≤ 0 = is.holds.0 in absurd (omega (arith, low))
names (suc zero) (suc zero) is = let low : 2 ≤ 1 = is.holds.0 in absurd (omega (arith, low))
names (suc zero) (suc (suc zero)) is = record { name = 97 ∷ []; plain = letter 97 (apart 97 46 refl); is = refl }
names (suc zero) (suc (suc (suc zero))) is = record { name = 98 ∷ []; plain = letter 98 (apart 98 46 refl); is = refl }
names (suc zero) (suc (suc (suc (suc zero)))) is = record { name = 110 ∷ []; plain = letter 110 (apart 110 46 refl); is = refl }
names (suc zero) (suc (suc (suc (suc (suc s))))) is = let past : suc (suc (suc (suc (suc s)))) < 5 = is.holds.1 in absurd (omega (arith, past))
names (suc (suc k)) s is = let past : suc (suc k) < 2 = is.known in absurd (omega (arith, past))

-- ---- what drivers name

-- a copy names only the signal that it copies
named : (a t : ℕ) → Contains (Ref a ∷ []) (Ref t) → a ≡ t
named a t (zero, lt, is) = same a t is
named a t (suc k, lt, is) = absurd (omega arith)

-- the only input of an instance below the top is `u.a`, connected in the top
input-in : (k s : ℕ) → IsChildsInput tree k s → (k ≡ 0) × (s ≡ 2)
input-in k s is = by is.child is.parent is.input
  where
    by : (child : ℕ) → (instance_at tree child).parent ≡ Some k → IsInputOf tree child s → (k ≡ 0) × (s ≡ 2)
    by zero parent at = none-some parent
    by (suc zero) parent at = (sym (ap parent_place parent), first at.listed)
      where
        first : Contains (input 2 ∷ output 3 ∷ []) at.port → s ≡ 2
        first (zero, lt, is) = sym (ap (λ (p : InstancePort). p.signal) is ∙ at.is)
        first (suc zero, lt, is) = let clash : false ≡ true = ap (λ (p : InstancePort). p.is_input) is ∙ at.input in absurd (cc)
        first (suc (suc i), lt, is) = absurd (omega arith)
    by (suc (suc child)) parent at = let past : suc (suc child) < 2 = at.known in absurd (omega (arith, past))

sinks : (k s t : ℕ) → IsOwnSink tree k s → NamesSignal (driver_at circuit s) t → IsVisible tree k t
sinks zero zero t is names = absurd names
sinks zero (suc zero) t is names =
    inr (record { child = 1; parent = refl; port = record { known = lit< tt; port = output 3; listed = (1, lit< tt, refl); is = named 3 t names } })
sinks zero (suc (suc s)) t is names = let past = of-top (suc (suc s)) is.own in absurd (omega (arith, past))
sinks (suc zero) zero t is names = let low : 2 ≤ 0 = is.own.holds.0 in absurd (omega (arith, low))
sinks (suc zero) (suc zero) t is names = let low : 2 ≤ 1 = is.own.holds.0 in absurd (omega (arith, low))
sinks (suc zero) (suc (suc zero)) t is names = absurd (is.inner (record { known = lit< tt; port = input 2; listed = (0, lit< tt, refl); is = refl; input = refl }))
sinks (suc zero) (suc (suc (suc zero))) t is names = inl (subst (IsInnermost tree 1) (named 4 t names) (own-lower 4 (lit≤ tt) (lit< tt)))
sinks (suc zero) (suc (suc (suc (suc zero)))) t is names = inl (subst (IsInnermost tree 1) (named 2 t names) (own-lower 2 (lit≤ tt) (lit< tt)))
sinks (suc zero) (suc (suc (suc (suc (suc s))))) t is names = let past : suc (suc (suc (suc (suc s)))) < 5 = is.own.holds.1 in absurd (omega (arith, past))
sinks (suc (suc k)) s t is names = let past : suc (suc k) < 2 = is.own.known in absurd (omega (arith, past))

drivers : (k s t : ℕ) → IsWritten tree k s → NamesSignal (driver_at circuit s) t → IsVisible tree k t
drivers k s t (inl own) names = sinks k s t own names
drivers k s t (inr input) names =
    let at = input-in k s input in
    let t_is : 0 ≡ t = named 0 t (subst (λ x. NamesSignal (driver_at circuit x) t) at.1 names) in
    inl (subst (λ x. IsInnermost tree x t) (sym at.0) (subst (IsInnermost tree 0) t_is (own-top 0 (lit< tt))))

pub scoped : IsScoped circuit tree
scoped =
    record {
      ins = refl;
      outs = refl;
      ports = ports;
      ports_once = both (λ k. AllPairs (λ a b. a.signal ≢ b.signal) (instance_at tree k).ports) (once (input 0) (output 1) (apart 0 1 refl)) (once (input 2) (output 3) (apart 2 3 refl));
      fields = λ j s lt. absurd (omega arith);
      fields_once = λ j lt. absurd (omega arith);
      named = λ k s is. inl (names k s is);
      apart = λ k j known lt. absurd (omega arith);
      drivers = drivers;
      registers = λ k s r t register written held found. absurd (cc);
      stops = only (IsStop circuit tree) (record { own = own-lower 4 (lit≤ tt) (lit< tt); no_port = no-port; no_field = λ i lt. absurd (omega arith) });
      stops_once = single 4;
    }
  where
    no-port : (k : ℕ) → ¬ IsPort tree k 4
    no-port zero at = port-at (λ s. s ≡ 4 → ⊥) 4 (input 0) (output 1) at.port at.listed at.is (apart 0 4 refl) (apart 1 4 refl) refl
    no-port (suc zero) at = port-at (λ s. s ≡ 4 → ⊥) 4 (input 2) (output 3) at.port at.listed at.is (apart 2 4 refl) (apart 3 4 refl) refl
    no-port (suc (suc k)) at = let past : suc (suc k) < 2 = at.known in absurd (omega (arith, past))

-- ---- flaws

-- the top reads a node of `u` that isn't one of its ports
pub reads-within : ¬ IsScoped (with (copy eight 4) (copy eight 2)) tree
reads-within is =
    hidden (is.drivers 0 1 4 (inl (record { own = own-top 1 (lit< tt); inner = no-input })) (0, lit< tt, refl))
  where
    no-input : ¬ IsInputOf tree 0 1
    no-input at = first at.listed
      where
        first : Contains (input 0 ∷ output 1 ∷ []) at.port → ⊥
        first (zero, lt, is) = let clash : 0 ≡ 1 = ap (λ (p : InstancePort). p.signal) is ∙ at.is in absurd (omega (arith, clash))
        first (suc zero, lt, is) = let clash : false ≡ true = ap (λ (p : InstancePort). p.is_input) is ∙ at.input in absurd (cc)
        first (suc (suc i), lt, is) = absurd (omega arith)

    hidden : IsVisible tree 0 4 → ⊥
    hidden (inl own) = let low = of-top 4 own in absurd (omega (arith, low))
    hidden (inr below) = by below.child below.parent below.port
      where
        by : (child : ℕ) → (instance_at tree child).parent ≡ Some 0 → IsPort tree child 4 → ⊥
        by zero parent at = none-some parent
        by (suc zero) parent at = port-at (λ s. s ≡ 4 → ⊥) 4 (input 2) (output 3) at.port at.listed at.is (apart 2 4 refl) (apart 3 4 refl) refl
        by (suc (suc child)) parent at = let past : suc (suc child) < 2 = at.known in absurd (omega (arith, past))

-- `u` reads a signal of the top
pub reads-outside : ¬ IsScoped (with (copy eight 3) (copy eight 0)) tree
reads-outside is =
    hidden (is.drivers 1 4 0 (inl (record { own = own-lower 4 (lit≤ tt) (lit< tt); inner = no-input })) (0, lit< tt, refl))
  where
    no-input : ¬ IsInputOf tree 1 4
    no-input at = port-at (λ s. s ≡ 4 → ⊥) 4 (input 2) (output 3) at.port at.listed at.is (apart 2 4 refl) (apart 3 4 refl) refl

    hidden : IsVisible tree 1 0 → ⊥
    hidden (inl own) = let low : 2 ≤ 0 = own.holds.0 in absurd (omega (arith, low))
    hidden (inr below) = by below.child below.parent below.port
      where
        by : (child : ℕ) → (instance_at tree child).parent ≡ Some 1 → IsPort tree child 0 → ⊥
        by zero parent at = none-some parent
        by (suc zero) parent at = let clash : 0 ≡ 1 = ap parent_place parent in absurd (omega (arith, clash))
        by (suc (suc child)) parent at = let past : suc (suc child) < 2 = at.known in absurd (omega (arith, past))

-- an output of the top that isn't one of its ports
pub other-out : ¬ IsScoped (record circuit { outs = 3 ∷ 4 ∷ [] }) tree
other-out is = apart 1 3 refl (ap (λ l. slice_index_or l 0 0) is.outs)

-- a stop before the output
pub stop-first : ¬ IsScoped (record circuit { outs = 4 ∷ 1 ∷ [] }) tree
stop-first is = apart 1 4 refl (ap (λ l. slice_index_or l 0 0) is.outs)

-- a stop that no out-signal has
pub no-stop : ¬ IsScoped (record circuit { outs = 1 ∷ [] }) tree
no-stop is = apart 2 1 refl (ap length is.outs)
