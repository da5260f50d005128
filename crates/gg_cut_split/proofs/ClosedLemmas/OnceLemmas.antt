-- Each signal has at most one channel.
use Rattle.std.proofs.Common.{◌≡◌, ◌≢◌, ℕ, ◌<◌, ◌≤◌, List, ◌++◌, length, map, get_or, Bool, true, false, not, sym, ◌∙◌, ap, subst, inl, inr, ◌⊎◌, None, arith}
use Rattle.std.specs.Prelude.{filter, Contains, AllPairs}
use Rattle.std.proofs.lemmas.Bool.{cases_lt, both_ways}
use Rattle.std.proofs.lemmas.List.{get_or-map, length-map, get_or_default}
use Rattle.std.proofs.lemmas.List.Elements.{Contains-get_or, Contains-append_cases}
use Rattle.std.proofs.lemmas.List.Kept.{AllPairs-filter}
use Rattle.gg_flat_tree.specs.declared.tree.InstancePort.{InstancePort}
use Rattle.gg_flat.specs.Line.{value_at}
use Rattle.gg_flat.specs.Circuit.{FlatCircuit}
use Rattle.gg_flat_tree.specs.Tree.{InstanceTree, IsTree, instance_at, memory_at, stop_at}
use Rattle.gg_flat_tree.specs.declared.tree.StopInstance.{StopInstance}
use Rattle.gg_flat_tree.specs.Scoped.{IsScoped, IsPort, IsFieldOf, memory_fields, output_signals, stop_signals}
use Rattle.gg_flat.proofs.ListLemmas.{filter-cases, once-apart}
use Rattle.gg_partfile.specs.declared.request.BridgeEntry.{BridgeEntry}
use Rattle.gg_cut_plan.specs.declared.wires.Wire.{Wire}
use Rattle.gg_cut_plan.specs.declared.listed.Listed.{Listed}
use Rattle.gg_cut_plan.specs.Listed.{lies}
use Rattle.gg_cut_plan.proofs.ChainLemmas.{lies-self}
use Rattle.gg_cut_plan.proofs.KnownLemmas.{parents-before}
use Rattle.gg_cut_plan.specs.Channels.{wires_of, flattened}
use Rattle.gg_cut_plan.specs.inside.Channels.{port_signals, channel_signals}
use Rattle.gg_cut_plan.proofs.ChannelLemmas.{wires-signals}
use Rattle.gg_cut_split.specs.inside.Apart.{AreApart}
use Rattle.gg_cut_split.proofs.ClosedLemmas.ListLemmas.{Somewhere, map-cases, flattened-cases, AllPairs-append, AllPairs-flattened, AllPairs-map}
use Rattle.gg_cut_split.proofs.ClosedLemmas.TreeLemmas.{innermost-one}
use Rattle.gg_cut_split.proofs.ClosedLemmas.NameLemmas.{port-no-field, field-one}

some-port : InstancePort
some-port = record { signal = 0; is_input = true }

-- one of these ports passes the test and has signal s
pub record IsChosen (ports : List InstancePort) (test : InstancePort → Bool) (s : ℕ) : Type 0 where
  pub port : InstancePort
  pub among : Contains ports port
  pub passes : test port ≡ true
  pub is : port.signal ≡ s

pub chosen : (ports : List InstancePort) (test : InstancePort → Bool) (s : ℕ) → Contains (map (λ (port : InstancePort). port.signal) (filter test ports)) s → IsChosen ports test s
chosen ports test s h =
    let at = map-cases (λ (port : InstancePort). port.signal) (filter test ports) s h in
    let kept = filter-cases test ports (get_or (filter test ports) at.place some-port) (Contains-get_or (filter test ports) at.place some-port at.within) in
    record { port = get_or (filter test ports) at.place some-port; among = kept.among; passes = kept.passes; is = at.holds some-port }

not-both : (b : Bool) → b ≡ true → not b ≡ true → ⊥
not-both true e f = absurd (cc)
not-both false e f = absurd (cc)

-- signal s is that of a stop
pub record IsStopSignal (tree : InstanceTree) (s : ℕ) : Type 0 where
  pub place : ℕ
  pub known : place < length tree.stops
  pub is : (stop_at tree place).signal ≡ s

pub stop-among : (tree : InstanceTree) (s : ℕ) → Contains (stop_signals tree) s → IsStopSignal tree s
stop-among tree s h =
    let at = map-cases (λ (stop : StopInstance). stop.signal) tree.stops s h in
    record { place = at.place; known = at.within; is = at.holds (record { instance = 0; signal = 0; clock = None }) }

pub stop-in : (tree : InstanceTree) (s : ℕ) → IsStopSignal tree s → Contains (stop_signals tree) s
stop-in tree s stop =
    let inside : stop.place < length (stop_signals tree) = omega (arith, stop.known, length-map tree.stops (λ (stop : StopInstance). stop.signal)) in
    (stop.place, inside, get_or-map (λ (stop : StopInstance). stop.signal) tree.stops stop.place (record { instance = 0; signal = 0; clock = None }) s stop.known ∙ stop.is)

module _ (circuit : FlatCircuit) (tree : InstanceTree) (listed : Listed) (fits : IsTree circuit tree) (scoped : IsScoped circuit tree) (apart : AreApart tree listed) where
  pub top-input : (s : ℕ) → Contains circuit.ins s → IsChosen (instance_at tree 0).ports (λ port. port.is_input) s
  top-input s h = chosen (instance_at tree 0).ports (λ port. port.is_input) s (subst (λ (l : List ℕ). Contains l s) (sym scoped.ins) h)

  -- an out-signal is an output of the top, or that of a stop
  pub out-cases : (s : ℕ) → Contains circuit.outs s → IsChosen (instance_at tree 0).ports (λ port. not port.is_input) s ⊎ IsStopSignal tree s
  out-cases s h =
      elim (Contains-append_cases (output_signals (instance_at tree 0).ports) (stop_signals tree) s (subst (λ (l : List ℕ). Contains l s) (sym scoped.outs) h)) [
        | inl output ↦ inl (chosen (instance_at tree 0).ports (λ port. not port.is_input) s output)
        | inr stop ↦ inr (stop-among tree s stop)
      ]

  -- a stop's signal is no port, and no field of a memory
  pub stop-port : (k s : ℕ) → IsStopSignal tree s → IsPort tree k s → ⊥
  stop-port k s stop port = (scoped.stops stop.place stop.known).no_port k (subst (λ t. IsPort tree k t) (sym stop.is) port)

  pub stop-field : (j s : ℕ) → j < length tree.memories → IsStopSignal tree s → IsFieldOf circuit tree j s → ⊥
  stop-field j s lt stop field = (scoped.stops stop.place stop.known).no_field j lt (subst (λ t. IsFieldOf circuit tree j t) (sym stop.is) field)

  pub top-port : (s : ℕ) (test : InstancePort → Bool) → IsChosen (instance_at tree 0).ports test s → IsPort tree 0 s
  top-port s test c = record { known = fits.top.there; port = c.port; listed = c.among; is = c.is }

  -- two ports of an instance with the same signal are the same
  pub port-one : (k : ℕ) (p q : InstancePort) → k < length tree.instances → Contains (instance_at tree k).ports p → Contains (instance_at tree k).ports q → p.signal ≡ q.signal → p ≡ q
  port-one k p q lt a b same = by (cases_lt a.0 b.0) (cases_lt b.0 a.0)
    where
      ports : List InstancePort
      ports = (instance_at tree k).ports

      at-a : (d : InstancePort) → get_or ports a.0 d ≡ p
      at-a d = get_or_default ports a.0 d p a.1 ∙ a.2

      at-b : (d : InstancePort) → get_or ports b.0 d ≡ q
      at-b d = get_or_default ports b.0 d q b.1 ∙ b.2

      by : (a.0 < b.0) ⊎ (b.0 ≤ a.0) → (b.0 < a.0) ⊎ (a.0 ≤ b.0) → p ≡ q
      by (inl less) more = absurd (scoped.ports_once k lt a.0 b.0 p less b.1 (ap (λ (x : InstancePort). x.signal) (at-a p) ∙ same ∙ sym (ap (λ (x : InstancePort). x.signal) (at-b p))))
      by (inr le) (inl less) = absurd (scoped.ports_once k lt b.0 a.0 p less a.1 (ap (λ (x : InstancePort). x.signal) (at-b p) ∙ sym same ∙ sym (ap (λ (x : InstancePort). x.signal) (at-a p))))
      by (inr le) (inr ge) = sym (at-a p) ∙ ap (λ i. get_or ports i p) (let equal : a.0 ≡ b.0 = omega (arith, le, ge) in equal) ∙ at-b p

  -- ---- signals of listed units and memories

  pub unit-port : (i s : ℕ) → i < length listed.units → Contains (port_signals tree (value_at listed.units i)) s → IsPort tree (value_at listed.units i) s
  unit-port i s lt h =
      let ports = (instance_at tree (value_at listed.units i)).ports in
      let at = map-cases (λ (port : InstancePort). port.signal) ports s h in
      record { known = apart.known i 0 lt; port = get_or ports at.place some-port; listed = Contains-get_or ports at.place some-port at.within; is = at.holds some-port }

  pub same-instance : (k j s : ℕ) → IsPort tree k s → IsPort tree j s → k ≡ j
  same-instance k j s a b = innermost-one circuit tree fits k j s (scoped.ports k s a).own (scoped.ports j s b).own

  -- the signals of the units' ports are distinct
  ports-once : AllPairs (λ a b. a ≢ b) (flattened (port_signals tree) listed.units)
  ports-once =
      AllPairs-flattened (λ a b. a ≢ b) (port_signals tree) listed.units
      (λ i d lt. AllPairs-map (λ a b. a ≢ b) (λ (port : InstancePort). port.signal) (instance_at tree (get_or listed.units i d)).ports (scoped.ports_once (get_or listed.units i d) (apart.known i d lt)))
      (λ i j d less lt a b x y same. cross i j d less lt a b x y same)
    where
      distinct : (i j d : ℕ) → i < j → j < length listed.units → get_or listed.units i d ≡ get_or listed.units j d → ⊥
      distinct i j d less lt same = both_ways (lies tree (get_or listed.units i d) (get_or listed.units j d)) (apart.apart i j d less lt).0 (self (get_or listed.units i d) (apart.known i d (omega (arith, less, lt))) same)
        where
          self : (k : ℕ) → k < length tree.instances → k ≡ get_or listed.units j d → lies tree k (get_or listed.units j d) ≡ true
          self k known same = subst (λ u. lies tree k u ≡ true) same (lies-self tree (parents-before circuit tree fits) k known)

      port-in : (k s : ℕ) → k < length tree.instances → Contains (port_signals tree k) s → IsPort tree k s
      port-in k s lt h =
          let ports = (instance_at tree k).ports in
          let at = map-cases (λ (port : InstancePort). port.signal) ports s h in
          record { known = lt; port = get_or ports at.place some-port; listed = Contains-get_or ports at.place some-port at.within; is = at.holds some-port }

      cross : (i j d : ℕ) → i < j → j < length listed.units → (a b : ℕ) → Contains (port_signals tree (get_or listed.units i d)) a → Contains (port_signals tree (get_or listed.units j d)) b → a ≡ b → ⊥
      cross i j d less lt a b x y same =
          distinct i j d less lt
          (same-instance (get_or listed.units i d) (get_or listed.units j d) a
          (port-in (get_or listed.units i d) a (apart.known i d (omega (arith, less, lt))) x)
          (subst (IsPort tree (get_or listed.units j d)) (sym same) (port-in (get_or listed.units j d) b (apart.known j d lt) y)))

  -- the fields of the listed memories are distinct
  fields-once : AllPairs (λ a b. a ≢ b) (flattened (λ j. memory_fields circuit (memory_at tree j).memory) listed.memories)
  fields-once =
      AllPairs-flattened (λ a b. a ≢ b) (λ j. memory_fields circuit (memory_at tree j).memory) listed.memories
      (λ i d lt. scoped.fields_once (get_or listed.memories i d) (apart.memories i d lt))
      (λ i j d less lt a b x y same.
      let one = field-one circuit tree fits scoped (get_or listed.memories i d) (get_or listed.memories j d) a (apart.memories i d (omega (arith, less, lt))) (apart.memories j d lt) x
      (subst (λ s. IsFieldOf circuit tree (get_or listed.memories j d) s) (sym same) y) in
      let up = apart.ascending i j d less lt in
      absurd (omega (arith, one, up)))

  -- the signals of the top's ports that pass a test are distinct
  tops-once : (test : InstancePort → Bool) → AllPairs (λ a b. a ≢ b) (map (λ (port : InstancePort). port.signal) (filter test (instance_at tree 0).ports))
  tops-once test =
      AllPairs-map (λ a b. a ≢ b) (λ (port : InstancePort). port.signal) (filter test (instance_at tree 0).ports)
      (AllPairs-filter (λ (a b : InstancePort). a.signal ≢ b.signal) test (instance_at tree 0).ports (scoped.ports_once 0 fits.top.there))

  unit-of : (s : ℕ) → Contains (flattened (port_signals tree) listed.units) s → Somewhere (λ unit. (0 < unit) × IsPort tree unit s) listed.units
  unit-of s h =
      let at = flattened-cases (port_signals tree) listed.units s h in
      record {
        place = at.place;
        within = at.within;
        holds = λ d. (apart.lower at.place d at.within, subst (λ unit. IsPort tree unit s) (get_or_default listed.units at.place 0 d at.within) (unit-port at.place s at.within (at.holds 0)));
      }

  memory-of : (s : ℕ) → Contains (flattened (λ j. memory_fields circuit (memory_at tree j).memory) listed.memories) s → Somewhere (λ j. IsFieldOf circuit tree j s) listed.memories
  memory-of s h = flattened-cases (λ j. memory_fields circuit (memory_at tree j).memory) listed.memories s h

  no-unit : (s : ℕ) → IsPort tree 0 s → Contains (flattened (port_signals tree) listed.units) s → ⊥
  no-unit s port h =
      let at = unit-of s h in
      let p = at.holds 0 in
      let same = same-instance 0 (value_at listed.units at.place) s port p.1 in
      omega (arith, p.0, same)

  no-field : (k s : ℕ) → IsPort tree k s → Contains (flattened (λ j. memory_fields circuit (memory_at tree j).memory) listed.memories) s → ⊥
  no-field k s port h =
      let at = memory-of s h in
      port-no-field circuit tree fits scoped k (value_at listed.memories at.place) s (apart.memories at.place 0 at.within) port (at.holds 0)

  -- the out-signals are distinct
  pub outs-once : AllPairs (λ a b. a ≢ b) circuit.outs
  outs-once =
      subst (AllPairs (λ a b. a ≢ b)) scoped.outs
      (AllPairs-append (λ a b. a ≢ b) (output_signals (instance_at tree 0).ports) (stop_signals tree) (tops-once (λ port. not port.is_input)) scoped.stops_once
      (λ a b x y same. stop-port 0 a (subst (IsStopSignal tree) (sym same) (stop-among tree b y)) (top-port a (λ port. not port.is_input) (chosen (instance_at tree 0).ports (λ port. not port.is_input) a x))))

  pub signals-once : AllPairs (λ a b. a ≢ b) (channel_signals circuit tree listed)
  signals-once =
      AllPairs-append (λ a b. a ≢ b) circuit.ins (units ++ (memories ++ circuit.outs)) (subst (AllPairs (λ a b. a ≢ b)) scoped.ins (tops-once (λ port. port.is_input)))
      (AllPairs-append (λ a b. a ≢ b) units (memories ++ circuit.outs) ports-once
      (AllPairs-append (λ a b. a ≢ b) memories circuit.outs fields-once outs-once
      (λ a b x y same. memory-tray a x (subst (λ s. Contains circuit.outs s) (sym same) y)))
      (λ a b x y same. unit-rest a x (subst (λ s. Contains (memories ++ circuit.outs) s) (sym same) y)))
      (λ a b x y same. source-rest a x (subst (λ s. Contains (units ++ (memories ++ circuit.outs)) s) (sym same) y))
    where
      units : List ℕ
      units = flattened (port_signals tree) listed.units

      memories : List ℕ
      memories = flattened (λ j. memory_fields circuit (memory_at tree j).memory) listed.memories

      output : (s : ℕ) → IsChosen (instance_at tree 0).ports (λ port. not port.is_input) s → IsPort tree 0 s
      output s y = top-port s (λ port. not port.is_input) y

      input : (s : ℕ) → Contains circuit.ins s → IsPort tree 0 s
      input s y = top-port s (λ port. port.is_input) (top-input s y)

      memory-tray : (s : ℕ) → Contains memories s → Contains circuit.outs s → ⊥
      memory-tray s x y =
          elim (out-cases s y) [
            | inl out ↦ no-field 0 s (output s out) x
            | inr stop ↦ (let at = memory-of s x in stop-field (value_at listed.memories at.place) s (apart.memories at.place 0 at.within) stop (at.holds 0))
          ]

      unit-rest : (s : ℕ) → Contains units s → Contains (memories ++ circuit.outs) s → ⊥
      unit-rest s x y = by (Contains-append_cases memories circuit.outs s y)
        where
          by : Contains memories s ⊎ Contains circuit.outs s → ⊥
          by (inl m) = let at = unit-of s x in no-field (value_at listed.units at.place) s (at.holds 0).1 m
          by (inr o) =
              elim (out-cases s o) [
                | inl out ↦ no-unit s (output s out) x
                | inr stop ↦ (let at = unit-of s x in stop-port (value_at listed.units at.place) s stop (at.holds 0).1)
              ]

      both : (s : ℕ) → Contains circuit.ins s → Contains circuit.outs s → ⊥
      both s x y =
          elim (out-cases s y) [
            | inl out ↦ apart-ports (top-input s x) out
            | inr stop ↦ stop-port 0 s stop (input s x)
          ]
        where
          apart-ports : IsChosen (instance_at tree 0).ports (λ port. port.is_input) s → IsChosen (instance_at tree 0).ports (λ port. not port.is_input) s → ⊥
          apart-ports a b =
              let same = port-one 0 a.port b.port fits.top.there a.among b.among (a.is ∙ sym b.is) in
              not-both a.port.is_input a.passes (ap (λ (p : InstancePort). not p.is_input) same ∙ b.passes)

      source-rest : (s : ℕ) → Contains circuit.ins s → Contains (units ++ (memories ++ circuit.outs)) s → ⊥
      source-rest s x y = by (Contains-append_cases units (memories ++ circuit.outs) s y)
        where
          by : Contains units s ⊎ Contains (memories ++ circuit.outs) s → ⊥
          by (inl u) = no-unit s (input s x) u
          by (inr r) = at (Contains-append_cases memories circuit.outs s r)
            where
              at : Contains memories s ⊎ Contains circuit.outs s → ⊥
              at (inl m) = no-field 0 s (input s x) m
              at (inr o) = both s x o

-- ---- channels

module _ (circuit : FlatCircuit) (tree : InstanceTree) (listed : Listed) (entries : List BridgeEntry) (fits : IsTree circuit tree) (scoped : IsScoped circuit tree) (apart : AreApart tree listed) where
  pub wires-once : AllPairs (λ a b. a ≢ b) (map (λ (w : Wire). w.signal) (wires_of circuit tree listed entries))
  wires-once = subst (AllPairs (λ a b. a ≢ b)) (sym (wires-signals circuit tree listed entries)) (signals-once circuit tree listed fits scoped apart)

  -- two channels of the same signal are the same
  pub channel-one : (v w : Wire) → Contains (wires_of circuit tree listed entries) v → Contains (wires_of circuit tree listed entries) w → v.signal ≡ w.signal → v ≡ w
  channel-one v w a b same =
      let all = wires_of circuit tree listed entries in
      let count = length-map all (λ (w : Wire). w.signal) in
      let at = λ (i : ℕ) (x : Wire) (lt : i < length all) (is : get_or all i x ≡ x). get_or-map (λ (w : Wire). w.signal) all i x 0 lt ∙ ap (λ (w : Wire). w.signal) is in
      let place = once-apart (map (λ (w : Wire). w.signal) all) 0 wires-once a.0 b.0 (omega (arith, a.1, count)) (omega (arith, b.1, count)) (at a.0 v a.1 a.2 ∙ same ∙ sym (at b.0 w b.1 b.2)) in
      sym a.2 ∙ get_or_default all a.0 v w a.1 ∙ ap (λ i. get_or all i w) place ∙ b.2
