-- The paths of a cut's channels, and the paths that a request lists, are paths and can be told apart.
use Rattle.std.proofs.Common.{◌≡◌, ◌≢◌, ℕ, ◌+◌, ◌<◌, true, false, List, [], ◌∷◌, None, length, get_or, map, refl, sym, ap, ◌∙◌, subst, arith}
use Rattle.std.specs.Prelude.{All, AllPairs}
use Rattle.std.specs.List.{range_with_len}
use Rattle.std.proofs.lemmas.List.{get_or_default, length-map}
use Rattle.std.proofs.lemmas.List.FromFn.{get_or-map-range_with_len, length-map-range_with_len}
use Rattle.gg_flat.specs.Line.{value_at}
use Rattle.gg_flat_tree.specs.Tree.{path_at}
use Rattle.gg_flat.proofs.ListLemmas.{once-apart}
use Rattle.gg_part.specs.KeepsToTree.{KeepsToTree}
use Rattle.gg_order.specs.Design.{IsDesign, Ordered}
use Rattle.gg_partfile.specs.declared.request.Request.{Request}
use Rattle.gg_cut_plan.specs.Channels.{wire}
use Rattle.gg_cut_plan.specs.Direct.{plan_hub, plan_wires}
use Rattle.gg_cut_plan.specs.Fault.{first_fault}
use Rattle.gg_cut_plan.specs.Listed.{lies, listed_of}
use Rattle.gg_cut_plan.specs.Plan.{wire_at}
use Rattle.gg_cut_plan.specs.Ports.{plan_bridges}
use Rattle.gg_cut_plan.specs.declared.listed.Listed.{Listed}
use Rattle.gg_cut_plan.specs.declared.wires.Wire.{Wire}
use Rattle.gg_cut_plan.proofs.ChainLemmas.{lies-self}
use Rattle.gg_cut_plan.proofs.KnownLemmas.{parents-before}
use Rattle.gg_cut_split.specs.inside.Apart.{AreApart}
use Rattle.gg_cut_split.specs.inside.Longest.{listed_paths}
use Rattle.gg_cut_split.proofs.ClosedLemmas.FaultlessLemmas.{faultless-apart, faultless-known}
use Rattle.gg_cut_split.proofs.ClosedLemmas.ListedLemmas.{listed-are}
use Rattle.gg_cut_split.proofs.ClosedLemmas.LongestLemmas.{Among, First, Behind, ArePaths, among}
use Rattle.gg_cut_routes.specs.inside.Routes.{AreRoutes}
use Rattle.gg_cut_routes.proofs.RoutedLemmas.{plan-routed}
use Rattle.gg_cut_reference.specs.text.CheckText.{channel_name}
use Rattle.gg_front.specs.inside.Paths.{HavePaths, IsPath}
use Rattle.gg_replay.specs.inside.Spelling.{AreUsable}
use Rattle.golden_commands.proofs.UsableLemmas.{IsPlain, signal-plain, usable}

module _ (design : Ordered) (request : Request) (none : first_fault design request ≡ None) (is : IsDesign design) (keeps : KeepsToTree design.circuit design.tree) (have : HavePaths design.circuit design.tree) where
  abbrev pub listed : Listed
  listed = listed_of design.tree request

  abbrev pub wires : List Wire
  wires = plan_wires design.circuit design.tree request

  apart : AreApart design.tree listed
  apart = faultless-apart design request none keeps.fitting

  routed : AreRoutes design listed request.bridges (plan_hub design.circuit design.tree request)
  routed = plan-routed design request is keeps none

  -- ---- channels

  abbrev pub channels : List (List ℕ)
  channels = map (channel_name design.circuit wires) (range_with_len 0 (length wires))

  signal-there : (c : ℕ) → c < length wires → (wire_at wires c).signal < length design.circuit.paths
  signal-there c lt =
      let known = routed.known c (wire 0 0 0) lt in
      omega (arith, known, is.formed.named)

  channel-is : (c : ℕ) (d : List ℕ) → c < length wires → get_or channels c d ≡ path_at design.circuit.paths (wire_at wires c).signal
  channel-is c d lt = get_or-map-range_with_len (channel_name design.circuit wires) 0 (length wires) c c d lt (let same : 0 + c ≡ c = omega arith in same)

  channel-inside : (c : ℕ) → c < length channels → c < length wires
  channel-inside c lt = omega (arith, lt, length-map-range_with_len (channel_name design.circuit wires) 0 (length wires))

  channels-differ : AllPairs (λ a b. a ≢ b) channels
  channels-differ i j d less lt same =
      let below : j < length wires = channel-inside j lt in
      let before : i < length wires = omega (arith, less, below) in
      routed.once i j (wire 0 0 0) less below
      (once-apart design.circuit.paths [] is.formed.distinct (wire_at wires i).signal (wire_at wires j).signal (signal-there i before) (signal-there j below)
      (sym (channel-is i d before) ∙ same ∙ channel-is j d below))

  channels-plain : All IsPlain channels
  channels-plain c d lt =
      let below = channel-inside c lt in
      subst IsPlain (sym (channel-is c d below)) (signal-plain _ (have.signals (wire_at wires c).signal [] (signal-there c below)))

  pub channels-usable : AreUsable channels
  channels-usable = usable channels channels-differ channels-plain

  -- ---- listed paths

  abbrev pub paths : List (List ℕ)
  paths = listed_paths design.tree request

  are : ArePaths design.tree listed paths
  are = listed-are design.tree request keeps.fitting.memory_named (faultless-known design request none)

  unit-there : (i : ℕ) → i < length listed.units → value_at listed.units i < length design.tree.paths
  unit-there i lt = let known = apart.known i 0 lt in omega (arith, known, keeps.fitting.named)

  memory-there : (i : ℕ) → i < length listed.memories → value_at listed.memories i < length design.tree.memory_paths
  memory-there i lt = let known = apart.memories i 0 lt in omega (arith, known, keeps.fitting.memory_named)

  place : (i : ℕ) → i < length paths → Among (length listed.units) (length listed.memories) i
  place i lt = among (length listed.units) (length listed.memories) i (omega (arith, lt, are.count))

  memory-is : (i j : ℕ) → j < length listed.memories → i ≡ length listed.units + j → path_at paths i ≡ path_at design.tree.memory_paths (value_at listed.memories j)
  memory-is i j lt e = ap (path_at paths) e ∙ are.memory j lt

  -- two units with one path would lie in one another
  units-apart : (i j : ℕ) → i < j → j < length listed.units → path_at paths i ≡ path_at paths j → ⊥
  units-apart i j less lt same =
      let before : i < length listed.units = omega (arith, less, lt) in
      let one : value_at listed.units i ≡ value_at listed.units j =
      once-apart design.tree.paths [] keeps.fitting.distinct (value_at listed.units i) (value_at listed.units j) (unit-there i before) (unit-there j lt)
      (sym (are.unit i before) ∙ same ∙ are.unit j lt) in
      let in_itself : lies design.tree (value_at listed.units i) (value_at listed.units j) ≡ true =
      subst (λ u. lies design.tree (value_at listed.units i) u ≡ true) one
      (lies-self design.tree (parents-before design.circuit design.tree keeps.fitting) (value_at listed.units i) (apart.known i 0 before)) in
      let clash : true ≡ false = sym in_itself ∙ (apart.apart i j 0 less lt).0 in
      absurd (cc)

  paths-apart : (i j : ℕ) → i < j → j < length paths → path_at paths i ≡ path_at paths j → ⊥
  paths-apart i j less lt same = go (place i (omega (arith, less, lt))) (place j lt)
    where
      go : Among (length listed.units) (length listed.memories) i → Among (length listed.units) (length listed.memories) j → ⊥
      go (First a) (First b) = units-apart i j less b same
      go (First a) (Behind q b e) =
          keeps.scoped.apart (value_at listed.units i) (value_at listed.memories q) (apart.known i 0 a) (apart.memories q 0 b)
          (sym (are.unit i a) ∙ same ∙ memory-is j q b e)
      go (Behind p a e) (First b) = omega (arith, less, e, b)
      go (Behind p a e) (Behind q b f) =
          let order : p < q = omega (arith, less, e, f) in
          let up = apart.ascending p q 0 order b in
          let one : value_at listed.memories p ≡ value_at listed.memories q =
          once-apart design.tree.memory_paths [] keeps.fitting.memory_distinct (value_at listed.memories p) (value_at listed.memories q) (memory-there p a) (memory-there q b)
          (sym (memory-is i p a e) ∙ same ∙ memory-is j q b f) in
          omega (arith, up, one)

  pub paths-differ : AllPairs (λ a b. a ≢ b) paths
  paths-differ i j d less lt same =
      paths-apart i j less lt (get_or_default paths i [] d (omega (arith, less, lt)) ∙ same ∙ get_or_default paths j d [] lt)

  -- the path of an instance below the top isn't empty
  instance-path : (k : ℕ) → 0 < k → k < length design.tree.paths → IsPath (path_at design.tree.paths k)
  instance-path k below lt =
      record { some = some-bytes (path_at design.tree.paths k) (λ e. keeps.fitting.distinct 0 k [] below lt (keeps.fitting.top.path ∙ sym e)); bytes = have.instances k [] lt }
    where
      some-bytes : (path : List ℕ) → path ≢ [] → 0 < length path
      some-bytes [] h = absurd (h refl)
      some-bytes (b ∷ path) h = omega arith

  pub paths-are : All IsPath paths
  paths-are i d lt = subst IsPath (get_or_default paths i [] d lt) (go (place i lt))
    where
      go : Among (length listed.units) (length listed.memories) i → IsPath (path_at paths i)
      go (First a) = subst IsPath (sym (are.unit i a)) (instance-path (value_at listed.units i) (apart.lower i 0 a) (unit-there i a))
      go (Behind q b e) = subst IsPath (sym (memory-is i q b e)) (have.memories (value_at listed.memories q) [] (memory-there q b))
