-- The hub, a unit or a listed memory takes and gives the same, whatever bridges there are.
use Rattle.std.proofs.Common.{◌≡◌, ℕ, zero, suc, ◌<◌, ◌≤◌, List, [], ◌∷◌, ◌++◌, length, filter, get_or, Bool, ◌==◌, refl, sym, ◌∙◌, ap, ap₂, subst, inl, inr, arith}
use Rattle.std.specs.Prelude.{◌↔◌, ⊤, cond, Contains}
use Rattle.std.specs.List.{range_with_len}
use Rattle.std.proofs.lemmas.Bool.{ne_eqb}
use Rattle.std.proofs.lemmas.List.FromFn.{get_or-range_with_len, length-range_with_len}
use Rattle.gg_flat.specs.Circuit.{FlatCircuit}
use Rattle.gg_flat_tree.specs.Tree.{InstanceTree}
use Rattle.gg_partfile.specs.declared.request.BridgeEntry.{BridgeEntry}
use Rattle.gg_cut_plan.specs.declared.wires.Wire.{Wire}
use Rattle.gg_cut_plan.specs.declared.listed.Listed.{Listed}
use Rattle.gg_cut_plan.specs.Channels.{input_wires, output_wires, port_wires, field_wires, numbered, wires_of}
use Rattle.gg_cut_plan.specs.Machines.{first_memory, first_source, first_unit}
use Rattle.gg_cut_plan.specs.Plan.{wire_at, channels_to, channels_from, signals_of, givens_of, IsInner, Takes}
use Rattle.gg_cut_plan.specs.Ports.{Bridges, giver_of, keeper_of, ports_of}
use Rattle.gg_cut_plan.specs.inside.Plan.{Makes}
use Rattle.gg_cut_plan.proofs.PortLemmas.{giver-low, keeper-source}

-- ---- channels that are the same for the machines below n

-- the two channels carry the same, and each machine below n is at the same ends
pub record AreSameBelow (n : ℕ) (v w : Wire) : Type 0 where
  pub signal : v.signal ≡ w.signal
  pub given : v.given ≡ w.given
  pub producer : (m : ℕ) → m < n → (v.producer == m) ≡ (w.producer == m)
  pub consumer : (m : ℕ) → m < n → (v.consumer == m) ≡ (w.consumer == m)

-- the same of two lists, channel by channel
abbrev pub AllBelow : ℕ → List Wire → List Wire → Type 0
AllBelow n [] [] = ⊤
AllBelow n [] (w ∷ ws) = ⊥
AllBelow n (v ∷ vs) [] = ⊥
AllBelow n (v ∷ vs) (w ∷ ws) = AreSameBelow n v w × AllBelow n vs ws

same-wire : (n : ℕ) (w : Wire) → AreSameBelow n w w
same-wire n w = record { signal = refl; given = refl; producer = λ m lt. refl; consumer = λ m lt. refl }

same-all : (n : ℕ) (ws : List Wire) → AllBelow n ws ws
same-all n [] = tt
same-all n (w ∷ ws) = (same-wire n w, same-all n ws)

joined : (n : ℕ) (vs ws more rest : List Wire) → AllBelow n vs ws → AllBelow n more rest → AllBelow n (vs ++ more) (ws ++ rest)
joined n [] [] more rest first second = second
joined n [] (w ∷ ws) more rest first second = absurd first
joined n (v ∷ vs) [] more rest first second = absurd first
joined n (v ∷ vs) (w ∷ ws) more rest first second = (first.0, joined n vs ws more rest first.1 second)

-- two machines from n on are no machine below n
apart : (n a b m : ℕ) → n ≤ a → n ≤ b → m < n → (a == m) ≡ (b == m)
apart n a b m high other lt = ne_eqb a m (λ e. omega (arith, high, lt, e)) ∙ sym (ne_eqb b m (λ e. omega (arith, other, lt, e)))

filter-alike : (f g : ℕ → Bool) (xs : List ℕ) → ((i : ℕ) → i < length xs → f (get_or xs i 0) ≡ g (get_or xs i 0)) → filter f xs ≡ filter g xs
filter-alike f g [] same = refl
filter-alike f g (x ∷ xs) same = ap₂ (λ b rest. cond b (x ∷ rest) rest) (same 0 (omega arith)) (filter-alike f g xs (λ i lt. same (suc i) (omega (arith, lt))))

-- a number in a range is below its end
below : (n i : ℕ) → i < length (range_with_len 0 n) → get_or (range_with_len 0 n) i 0 < n
below n i lt = let low : i < n = omega (arith, lt, length-range_with_len 0 n) in let is = get_or-range_with_len 0 n i 0 low in omega (arith, is, low)

many : (n : ℕ) (vs ws : List Wire) → AllBelow n vs ws → length vs ≡ length ws
many n [] [] all = refl
many n [] (w ∷ ws) all = absurd all
many n (v ∷ vs) [] all = absurd all
many n (v ∷ vs) (w ∷ ws) all = ap suc (many n vs ws all.1)

at : (n : ℕ) (vs ws : List Wire) → AllBelow n vs ws → (c : ℕ) → AreSameBelow n (wire_at vs c) (wire_at ws c)
at n [] [] all c = same-wire n (wire_at [] c)
at n [] (w ∷ ws) all c = absurd all
at n (v ∷ vs) [] all c = absurd all
at n (v ∷ vs) (w ∷ ws) all zero = all.0
at n (v ∷ vs) (w ∷ ws) all (suc c) = at n vs ws all.1 c

module _ (n : ℕ) (vs ws : List Wire) (all : AllBelow n vs ws) where
  to-same : (m : ℕ) → m < n → channels_to vs m ≡ channels_to ws m
  to-same m lt =
      filter-alike (λ c. (wire_at vs c).consumer == m) (λ c. (wire_at ws c).consumer == m) (range_with_len 0 (length vs)) (λ i inside. (at n vs ws all (get_or (range_with_len 0 (length vs)) i 0)).consumer m lt)
      ∙ ap (λ k. filter (λ c. (wire_at ws c).consumer == m) (range_with_len 0 k)) (many n vs ws all)

  from-same : (m : ℕ) → m < n → channels_from vs m ≡ channels_from ws m
  from-same m lt =
      filter-alike (λ c. (wire_at vs c).producer == m) (λ c. (wire_at ws c).producer == m) (range_with_len 0 (length vs)) (λ i inside. (at n vs ws all (get_or (range_with_len 0 (length vs)) i 0)).producer m lt)
      ∙ ap (λ k. filter (λ c. (wire_at ws c).producer == m) (range_with_len 0 k)) (many n vs ws all)

  signals-same : (channels : List ℕ) → signals_of vs channels ≡ signals_of ws channels
  signals-same [] = refl
  signals-same (c ∷ channels) = ap₂ (λ s rest. s ∷ rest) (at n vs ws all c).signal (signals-same channels)

  givens-same : (channels : List ℕ) → givens_of vs channels ≡ givens_of ws channels
  givens-same [] = refl
  givens-same (c ∷ channels) = ap₂ (λ s rest. s ∷ rest) (at n vs ws all c).given (givens-same channels)

  inner-to : (s : ℕ) → IsInner vs s → IsInner ws s
  inner-to s inner c lt e = inner c (omega (arith, lt, many n vs ws all)) ((at n vs ws all c).signal ∙ e)

  inner-from : (s : ℕ) → IsInner ws s → IsInner vs s
  inner-from s inner c lt e = inner c (omega (arith, lt, many n vs ws all)) (sym (at n vs ws all c).signal ∙ e)

-- ---- the channels of a cut

module _ (circuit : FlatCircuit) (tree : InstanceTree) (listed : Listed) (entries : List BridgeEntry) where
  abbrev n : ℕ
  n = first_source listed

  abbrev b : Bridges
  b = ports_of circuit tree listed entries

  abbrev d : Bridges
  d = ports_of circuit tree listed []

  abbrev vs : List Wire
  vs = wires_of circuit tree listed entries

  abbrev ws : List Wire
  ws = wires_of circuit tree listed []

  ins-below : (k : ℕ) (signals : List ℕ) → AllBelow n (numbered (input_wires b) k signals) (numbered (input_wires d) k signals)
  ins-below k [] = tt
  ins-below k (s ∷ signals) = (record { signal = refl; given = refl; producer = λ m lt. apart n (giver_of b k) (giver_of d k) m (giver-low b k) (giver-low d k) lt; consumer = λ m lt. refl }, ins-below (suc k) signals)

  outs-below : (k : ℕ) (signals : List ℕ) → AllBelow n (numbered (output_wires circuit tree listed b) k signals) (numbered (output_wires circuit tree listed d) k signals)
  outs-below k [] = tt
  outs-below k (s ∷ signals) = (record { signal = refl; given = refl; producer = λ m lt. refl; consumer = λ m lt. apart n (keeper_of b k) (keeper_of d k) m (keeper-source b k) (keeper-source d k) lt }, outs-below (suc k) signals)

  pub wires-below : AllBelow (first_source listed) (wires_of circuit tree listed entries) (wires_of circuit tree listed [])
  wires-below =
      let units = numbered (port_wires tree listed.units) first_unit listed.units in
      let fields = numbered (field_wires circuit tree listed.units) (first_memory listed) listed.memories in
      let outs = numbered (output_wires circuit tree listed b) 0 circuit.outs in
      let others = numbered (output_wires circuit tree listed d) 0 circuit.outs in
      joined n (numbered (input_wires b) 0 circuit.ins) (numbered (input_wires d) 0 circuit.ins) (units ++ (fields ++ outs)) (units ++ (fields ++ others)) (ins-below 0 circuit.ins)
      (joined n units units (fields ++ outs) (fields ++ others) (same-all n units) (joined n fields fields outs others (same-all n fields) (outs-below 0 circuit.outs)))

  -- what a machine below the first source takes and gives
  pub ins-same : (m : ℕ) → m < first_source listed
      → signals_of (wires_of circuit tree listed entries) (channels_to (wires_of circuit tree listed entries) m) ≡ signals_of (wires_of circuit tree listed []) (channels_to (wires_of circuit tree listed []) m)
  ins-same m lt = signals-same n vs ws wires-below (channels_to vs m) ∙ ap (signals_of ws) (to-same n vs ws wires-below m lt)

  pub outs-same : (m : ℕ) → m < first_source listed
      → givens_of (wires_of circuit tree listed entries) (channels_from (wires_of circuit tree listed entries) m) ≡ givens_of (wires_of circuit tree listed []) (channels_from (wires_of circuit tree listed []) m)
  outs-same m lt = givens-same n vs ws wires-below (channels_from vs m) ∙ ap (givens_of ws) (from-same n vs ws wires-below m lt)

  pub takes-same : (m s : ℕ) → m < first_source listed → Takes (wires_of circuit tree listed entries) m s ↔ Takes (wires_of circuit tree listed []) m s
  takes-same m s lt = (subst (λ (l : List ℕ). Contains l s) (ins-same m lt), subst (λ (l : List ℕ). Contains l s) (sym (ins-same m lt)))

  -- it makes the same
  pub makes-same : (m s : ℕ) → m < first_source listed → Makes circuit tree listed (wires_of circuit tree listed entries) m s ↔ Makes circuit tree listed (wires_of circuit tree listed []) m s
  makes-same m s lt = (to, from)
    where
      to : Makes circuit tree listed vs m s → Makes circuit tree listed ws m s
      to (inl own) = inl (own.0, own.1, inner-to n vs ws wires-below s own.2)
      to (inr given) = inr (subst (λ (l : List ℕ). Contains l s) (outs-same m lt) given)

      from : Makes circuit tree listed ws m s → Makes circuit tree listed vs m s
      from (inl own) = inl (own.0, own.1, inner-from n vs ws wires-below s own.2)
      from (inr given) = inr (subst (λ (l : List ℕ). Contains l s) (sym (outs-same m lt)) given)
