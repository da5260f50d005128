-- The names of a cut can be used in the lines of a steps file.
use Rattle.std.proofs.Common.{◌≡◌, ◌≢◌, ◌⊎◌, inl, inr, ℕ, ◌+◌, ◌-◌, ◌<◌, ◌≤◌, Bool, true, false, List, [], ◌∷◌, ◌++◌, None, codes, length, get_or, map, take, drop, refl, sym, ap, ◌∙◌, subst, arith, nat_le, nat_lt, length-append, ◌&&◌}
use Rattle.std.specs.Prelude.{All, AllPairs, Contains, if◌then◌else◌, not, slice_index_or}
use Rattle.std.specs.List.{list_all, range_with_len}
use Rattle.std.proofs.lemmas.Bool.{and_parts, cases_lt, leb-true, ltb-true}
use Rattle.std.proofs.Math.Seq.{get_or-append-add}
use Rattle.std.proofs.lemmas.List.{ext_get_or, get_or-map, get_or_append_left, get_or_default, get_or_past, length-map, take-append-drop}
use Rattle.std.proofs.lemmas.List.Folds.{list_all-append}
use Rattle.std.proofs.lemmas.List.Elements.{All-append, All-cons, All-contains, All-filter, All-map, All-nil, Contains-append_cases, Contains-get_or}
use Rattle.std.proofs.lemmas.List.FromFn.{get_or-map-range_with_len, length-map-range_with_len}
use Rattle.std.proofs.lemmas.List.Kept.{AllPairs-cons, AllPairs-filter}
use Rattle.gg_flat.specs.Line.{value_at}
use Rattle.gg_cut_plan.specs.Models.{model_names}
use Rattle.gg_flat_tree.specs.Scoped.{memory_fields}
use Rattle.gg_flat_tree.specs.Tree.{memory_at, path_at}
use Rattle.gg_flat_tree.specs.declared.tree.MemoryInstance.{MemoryInstance}
use Rattle.gg_flat.proofs.ListLemmas.{once-apart}
use Rattle.gg_part.specs.KeepsToTree.{KeepsToTree}
use Rattle.gg_order.specs.Design.{IsDesign, Ordered}
use Rattle.gg_partfile.specs.Size.{all_driven, all_seen}
use Rattle.gg_partfile.specs.declared.request.BridgeEntry.{BridgeEntry}
use Rattle.gg_partfile.specs.declared.request.Request.{Request}
use Rattle.gg_cut_plan.specs.Bridges.{Models}
use Rattle.gg_cut_plan.specs.inside.Channels.{channel_signals, port_signals}
use Rattle.gg_cut_plan.specs.Channels.{flattened}
use Rattle.gg_cut_plan.specs.Machines.{first_memory, first_source, is_memory}
use Rattle.gg_cut_plan.specs.Fault.{first_fault}
use Rattle.gg_cut_plan.specs.Listed.{is_among, listed_of}
use Rattle.gg_cut_plan.specs.Plan.{machine_names}
use Rattle.gg_cut_plan.specs.Ports.{machine_end, open_ins, open_outs, output_count, plan_bridges}
use Rattle.gg_cut_plan.specs.declared.listed.Listed.{Listed}
use Rattle.gg_cut_reference.specs.inside.Fitting.{AreFitting}
use Rattle.gg_cut_reference.proofs.FittingLemmas.NameLemmas.{names-count}
use Rattle.gg_cut_plan.proofs.KnownLemmas.{signals-known}
use Rattle.gg_cut_split.specs.inside.Apart.{AreApart}
use Rattle.gg_cut_split.specs.inside.Longest.{listed_paths}
use Rattle.gg_cut_split.proofs.ClosedLemmas.FaultlessLemmas.{faultless-apart}
use Rattle.gg_cut_split.proofs.ClosedLemmas.ListLemmas.{AllPairs-append, AllPairs-map, map-cases}
use Rattle.gg_cut_split.proofs.ClosedLemmas.ListedLemmas.{memory-paths}
use Rattle.gg_cut_split.proofs.ClosedLemmas.OnceLemmas.{signals-once}
use Rattle.gg_cut_reference.specs.whole.Whole.{CanBridge}
use Rattle.gg_cut_reference.proofs.WholeLemmas.PlanLemmas.{fit}
use Rattle.gg_front.specs.inside.Paths.{HavePaths, IsPath, is_path_byte}
use Rattle.gg_replay.specs.inside.Spelling.{AreUsable, IsUsable}
use Rattle.golden_commands.specs.Handed.{IsBridgeName}
use Rattle.golden_commands.specs.Replay.{naming_of, port_names}
use Rattle.golden_commands.proofs.AloneLemmas.{faultless-first}
use Rattle.golden_commands.proofs.CutPathLemmas.{channels-usable, paths-differ, paths-are}
use Rattle.golden_commands.proofs.UsableLemmas.{IsPlain, behind-plain, bridge-plain, name-plain, path-plain, usable}

-- all that a function makes of numbers in order, if each number has the item of a list at its place
numbered-list : (f : ℕ → List ℕ) (names : List (List ℕ)) (n : ℕ) → length names ≡ n → ((k : ℕ) → k < n → f k ≡ get_or names k []) → map f (range_with_len 0 n) ≡ names
numbered-list f names n e h =
    ext_get_or [] (map f (range_with_len 0 n)) names (length-map-range_with_len f 0 n ∙ sym e)
    (λ i lt. let below : i < n = omega (arith, lt, length-map-range_with_len f 0 n) in
    get_or-map-range_with_len f 0 n i i [] below (let same : 0 + i ≡ i = omega arith in same) ∙ h i below)

first-part : (xs ys : List ℕ) → AllPairs (λ a b. a ≢ b) (xs ++ ys) → AllPairs (λ a b. a ≢ b) xs
first-part xs ys apart i j d less lt same =
    apart i j d less (omega (arith, lt, length-append xs ys)) (get_or_append_left xs ys d i (omega (arith, less, lt)) ∙ same ∙ sym (get_or_append_left xs ys d j lt))

last-part : (xs ys : List ℕ) → AllPairs (λ a b. a ≢ b) (xs ++ ys) → AllPairs (λ a b. a ≢ b) ys
last-part xs ys apart i j d less lt same =
    apart (length xs + i) (length xs + j) d (omega (arith, less)) (omega (arith, lt, length-append xs ys))
    (get_or-append-add xs ys i d ∙ same ∙ sym (get_or-append-add xs ys j d))

abbrev no_memory : MemoryInstance
no_memory = record { instance = 0; memory = 0; ports = []; clocks = [] }

abbrev no_entry : BridgeEntry
no_entry = record { name = []; sees = []; drives = [] }

abbrev head_of : List ℕ → ℕ
head_of [] = 0
head_of (b ∷ bytes) = b

abbrev tail_of : List ℕ → List ℕ
tail_of [] = []
tail_of (b ∷ bytes) = bytes

module _ (design : Ordered) (request : Request) (models : Models) (can : CanBridge design request models) (named : All (λ model. IsBridgeName model.0) models) (have : HavePaths design.circuit design.tree) where
  abbrev keeps : KeepsToTree design.circuit design.tree
  keeps = can.keeps

  abbrev is : IsDesign design
  is = can.design_is

  none : first_fault design request ≡ None
  none = faultless-first design request models can.faultless

  abbrev listed : Listed
  listed = listed_of design.tree request

  apart : AreApart design.tree listed
  apart = faultless-apart design request none keeps.fitting

  no-pairs : AllPairs {X = List ℕ} (λ a b. a ≢ b) []
  no-pairs i j d less lt same = omega (arith, lt)

  abbrev paths : List (List ℕ)
  paths = listed_paths design.tree request

  paths-apart : AllPairs (λ a b. a ≢ b) paths
  paths-apart = paths-differ design request none is keeps have

  are-paths : All IsPath paths
  are-paths = paths-are design request none is keeps have

  -- ---- machines

  abbrev source_name : ℕ → List ℕ
  source_name s = codes "in:" ++ path_at design.circuit.paths s

  abbrev out_name : ℕ → List ℕ
  out_name s = codes "out:" ++ path_at design.circuit.paths s

  abbrev halt_name : ℕ → List ℕ
  halt_name s = codes "halt:" ++ path_at design.circuit.paths s

  abbrev bridge_name : BridgeEntry → List ℕ
  bridge_name entry = codes "bridge:" ++ entry.name

  -- the inputs and the outputs that no bridge has
  abbrev inputs : List ℕ
  inputs = open_ins design.circuit request

  abbrev all_outputs : List ℕ
  all_outputs = take (output_count design) design.circuit.outs

  abbrev outputs : List ℕ
  outputs = open_outs design.circuit (output_count design) request

  abbrev stops : List ℕ
  stops = drop (output_count design) design.circuit.outs

  abbrev sources : List (List ℕ)
  sources = map source_name inputs

  abbrev trays : List (List ℕ)
  trays = map out_name outputs ++ map halt_name stops

  abbrev bridges : List (List ℕ)
  bridges = map bridge_name request.bridges

  abbrev front : List (List ℕ)
  front = (paths ++ sources) ++ trays

  abbrev names : List (List ℕ)
  names = codes "hub:" ∷ (front ++ bridges)

  names-are : machine_names design request listed ≡ names
  names-are = ap (λ l. codes "hub:" ∷ ((((request.units ++ l) ++ sources) ++ trays) ++ bridges)) (memory-paths design.tree request keeps.fitting.memory_named)

  -- the signals of the units' ports and of the memories' fields
  abbrev unit_signals : List ℕ
  unit_signals = flattened (port_signals design.tree) listed.units

  abbrev memory_signals : List ℕ
  memory_signals = flattened (λ j. memory_fields design.circuit (memory_at design.tree j).memory) listed.memories

  -- the signals of all channels
  once : AllPairs (λ a b. a ≢ b) (channel_signals design.circuit design.tree listed)
  once = signals-once design.circuit design.tree listed keeps.fitting keeps.scoped apart

  known : All (λ s. s < length design.circuit.signals) (channel_signals design.circuit design.tree listed)
  known = signals-known design.circuit design.tree is.formed keeps.fitting listed apart.known apart.memories

  in-signal : (i d : ℕ) → i < length design.circuit.ins → get_or design.circuit.ins i d < length design.circuit.paths
  in-signal i d lt =
      let at = is.formed.ins i lt in
      let same = get_or_default design.circuit.ins i 0 d lt in
      omega (arith, at.0, same, is.formed.named)

  out-signal : (i d : ℕ) → i < length design.circuit.outs → get_or design.circuit.outs i d < length design.circuit.paths
  out-signal i d lt =
      let at = is.formed.outs i lt in
      let same = get_or_default design.circuit.outs i 0 d lt in
      omega (arith, at, same, is.formed.named)

  signal-one : (s t : ℕ) → s < length design.circuit.paths → t < length design.circuit.paths → path_at design.circuit.paths s ≡ path_at design.circuit.paths t → s ≡ t
  signal-one s t a b e = once-apart design.circuit.paths [] is.formed.distinct s t a b e

  ins-once : AllPairs (λ a b. a ≢ b) design.circuit.ins
  ins-once = first-part design.circuit.ins (unit_signals ++ (memory_signals ++ design.circuit.outs)) once

  open-once : AllPairs (λ a b. a ≢ b) (open_ins design.circuit request)
  open-once = AllPairs-filter (λ a b. a ≢ b) (λ s. not (is_among (all_driven request.bridges) (path_at design.circuit.paths s))) design.circuit.ins ins-once

  open-known : All (λ s. s < length design.circuit.paths) (open_ins design.circuit request)
  open-known = All-filter (λ s. not (is_among (all_driven request.bridges) (path_at design.circuit.paths s))) (λ s. s < length design.circuit.paths) design.circuit.ins in-signal

  sources-differ : AllPairs (λ a b. a ≢ b) sources
  sources-differ =
      AllPairs-map (λ a b. a ≢ b) source_name inputs
      (λ i j d less lt same.
      open-once i j d less lt (signal-one _ _ (open-known i d (omega (arith, less, lt))) (open-known j d lt) (ap (λ l. tail_of (tail_of (tail_of l))) same)))

  outs-once : AllPairs (λ a b. a ≢ b) (all_outputs ++ stops)
  outs-once =
      subst (AllPairs (λ a b. a ≢ b)) (sym (take-append-drop (output_count design) design.circuit.outs))
      (last-part memory_signals design.circuit.outs (last-part unit_signals (memory_signals ++ design.circuit.outs) (last-part design.circuit.ins (unit_signals ++ (memory_signals ++ design.circuit.outs)) once)))

  outs-known : All (λ s. s < length design.circuit.paths) (all_outputs ++ stops)
  outs-known = subst (All (λ s. s < length design.circuit.paths)) (sym (take-append-drop (output_count design) design.circuit.outs)) out-signal

  all-known : All (λ s. s < length design.circuit.paths) all_outputs
  all-known i d lt = subst (λ s. s < length design.circuit.paths) (get_or_append_left all_outputs stops d i lt) (outs-known i d (omega (arith, lt, length-append all_outputs stops)))

  outputs-once : AllPairs (λ a b. a ≢ b) (open_outs design.circuit (output_count design) request)
  outputs-once = AllPairs-filter (λ a b. a ≢ b) (λ s. not (is_among (all_seen request.bridges) (path_at design.circuit.paths s))) all_outputs (first-part all_outputs stops outs-once)

  outputs-known : All (λ s. s < length design.circuit.paths) (open_outs design.circuit (output_count design) request)
  outputs-known = All-filter (λ s. not (is_among (all_seen request.bridges) (path_at design.circuit.paths s))) (λ s. s < length design.circuit.paths) all_outputs all-known

  stops-known : All (λ s. s < length design.circuit.paths) stops
  stops-known i d lt = subst (λ s. s < length design.circuit.paths) (get_or-append-add all_outputs stops i d) (outs-known (length all_outputs + i) d (omega (arith, lt, length-append all_outputs stops)))

  outputs-differ : AllPairs (λ a b. a ≢ b) (map out_name outputs)
  outputs-differ =
      AllPairs-map (λ a b. a ≢ b) out_name outputs
      (λ i j d less lt same.
      outputs-once i j d less lt
      (signal-one _ _ (outputs-known i d (omega (arith, less, lt))) (outputs-known j d lt) (ap (λ l. tail_of (tail_of (tail_of (tail_of l)))) same)))

  stops-differ : AllPairs (λ a b. a ≢ b) (map halt_name stops)
  stops-differ =
      AllPairs-map (λ a b. a ≢ b) halt_name stops
      (λ i j d less lt same.
      last-part all_outputs stops outs-once i j d less lt
      (signal-one _ _ (stops-known i d (omega (arith, less, lt))) (stops-known j d lt) (ap (λ l. tail_of (tail_of (tail_of (tail_of (tail_of l))))) same)))

  -- what stands in front of the name of a source, and of a tray
  record BeginsWith (word name : List ℕ) : Type 0 where
    rest : List ℕ
    is-all : name ≡ word ++ rest

  of-source : (w : List ℕ) → Contains sources w → BeginsWith (codes "in:") w
  of-source w c =
      let at = map-cases source_name inputs w c in
      record { rest = path_at design.circuit.paths (value_at inputs at.place); is-all = sym (at.holds 0) }

  of-output : (w : List ℕ) → Contains (map out_name outputs) w → BeginsWith (codes "out:") w
  of-output w c =
      let at = map-cases out_name outputs w c in
      record { rest = path_at design.circuit.paths (value_at outputs at.place); is-all = sym (at.holds 0) }

  of-stop : (w : List ℕ) → Contains (map halt_name stops) w → BeginsWith (codes "halt:") w
  of-stop w c =
      let at = map-cases halt_name stops w c in
      record { rest = path_at design.circuit.paths (value_at stops at.place); is-all = sym (at.holds 0) }

  of-bridge : (w : List ℕ) → Contains bridges w → BeginsWith (codes "bridge:") w
  of-bridge w c =
      let at = map-cases bridge_name request.bridges w c in
      record { rest = (get_or request.bridges at.place no_entry).name; is-all = sym (at.holds no_entry) }

  of-tray : (w : List ℕ) → Contains trays w → BeginsWith (codes "out:") w ⊎ BeginsWith (codes "halt:") w
  of-tray w c =
      elim (Contains-append_cases (map out_name outputs) (map halt_name stops) w c) [
        | inl a ↦ inl (of-output w a)
        | inr b ↦ inr (of-stop w b)
      ]

  trays-differ : AllPairs (λ a b. a ≢ b) trays
  trays-differ =
      AllPairs-append (λ a b. a ≢ b) (map out_name outputs) (map halt_name stops) outputs-differ stops-differ
      (λ x y a b same.
      let e : 111 ≡ 104 = ap head_of (sym (of-output x a).is-all ∙ same ∙ (of-stop y b).is-all) in omega (arith, e))

  -- a path has no colon
  no-path : (word w : List ℕ) → list_all is_path_byte word ≡ false → BeginsWith word w → Contains paths w → ⊥
  no-path word w colon b c =
      let path = All-contains IsPath paths w are-paths c in
      let bytes : list_all is_path_byte (word ++ b.rest) ≡ true = ap (list_all is_path_byte) (sym b.is-all) ∙ path.bytes in
      clash (list_all is_path_byte word) (list_all is_path_byte b.rest) colon (sym (list_all-append is_path_byte word b.rest) ∙ bytes)
    where
      clash : (x y : Bool) → x ≡ false → (x && y) ≡ true → ⊥
      clash true y e f = absurd (cc)
      clash false y e f = absurd (cc)

  source-tray : (w : List ℕ) → BeginsWith (codes "in:") w → BeginsWith (codes "out:") w ⊎ BeginsWith (codes "halt:") w → ⊥
  source-tray w a (inl b) = let e : 105 ≡ 111 = ap head_of (sym a.is-all ∙ b.is-all) in omega (arith, e)
  source-tray w a (inr b) = let e : 105 ≡ 104 = ap head_of (sym a.is-all ∙ b.is-all) in omega (arith, e)

  front-differ : AllPairs (λ a b. a ≢ b) (paths ++ sources)
  front-differ =
      AllPairs-append (λ a b. a ≢ b) paths sources paths-apart sources-differ
      (λ x y a b same. no-path (codes "in:") x refl (subst (BeginsWith (codes "in:")) (sym same) (of-source y b)) a)

  behind-differ : AllPairs (λ a b. a ≢ b) ((paths ++ sources) ++ trays)
  behind-differ =
      AllPairs-append (λ a b. a ≢ b) (paths ++ sources) trays front-differ trays-differ
      (λ x y a b same. go x (subst (λ w. BeginsWith (codes "out:") w ⊎ BeginsWith (codes "halt:") w) (sym same) (of-tray y b)) (Contains-append_cases paths sources x a))
    where
      go : (x : List ℕ) → BeginsWith (codes "out:") x ⊎ BeginsWith (codes "halt:") x → Contains paths x ⊎ Contains sources x → ⊥
      go x (inl b) (inl a) = no-path (codes "out:") x refl b a
      go x (inr b) (inl a) = no-path (codes "halt:") x refl b a
      go x b (inr a) = source-tray x (of-source x a) b

  -- ---- bridges

  fits : AreFitting design.circuit all_outputs models request.bridges
  fits = fit design request models can

  bridges-differ : AllPairs (λ a b. a ≢ b) bridges
  bridges-differ =
      AllPairs-map (λ a b. a ≢ b) bridge_name request.bridges
      (λ i j d less lt same.
      fits.names i j d.name less (omega (arith, lt, length-map request.bridges (λ entry. entry.name)))
      (get_or-map (λ (entry : BridgeEntry). entry.name) request.bridges i d d.name (omega (arith, less, lt))
      ∙ ap (λ l. tail_of (tail_of (tail_of (tail_of (tail_of (tail_of (tail_of l))))))) same
      ∙ sym (get_or-map (λ (entry : BridgeEntry). entry.name) request.bridges j d d.name lt)))

  -- what begins as a bridge's name is none of the others
  apart-bridge : (w : List ℕ) → BeginsWith (codes "bridge:") w → Contains front w → ⊥
  apart-bridge w b c = go (Contains-append_cases (paths ++ sources) trays w c)
    where
      tray : BeginsWith (codes "out:") w ⊎ BeginsWith (codes "halt:") w → ⊥
      tray (inl a) = let e : 98 ≡ 111 = ap head_of (sym b.is-all ∙ a.is-all) in omega (arith, e)
      tray (inr a) = let e : 98 ≡ 104 = ap head_of (sym b.is-all ∙ a.is-all) in omega (arith, e)

      early : Contains paths w ⊎ Contains sources w → ⊥
      early (inl a) = no-path (codes "bridge:") w refl b a
      early (inr a) = let e : 98 ≡ 105 = ap head_of (sym b.is-all ∙ (of-source w a).is-all) in omega (arith, e)

      go : Contains (paths ++ sources) w ⊎ Contains trays w → ⊥
      go (inl a) = early (Contains-append_cases paths sources w a)
      go (inr a) = tray (of-tray w a)

  all-differ : AllPairs (λ a b. a ≢ b) (front ++ bridges)
  all-differ =
      AllPairs-append (λ a b. a ≢ b) front bridges behind-differ bridges-differ
      (λ x y a b same. apart-bridge x (subst (BeginsWith (codes "bridge:")) (sym same) (of-bridge y b)) a)

  -- ---- the hub

  hub-apart : All (λ w. codes "hub:" ≢ w) ((paths ++ sources) ++ trays)
  hub-apart k d lt same = go (Contains-append_cases (paths ++ sources) trays (get_or ((paths ++ sources) ++ trays) k d) (Contains-get_or ((paths ++ sources) ++ trays) k d lt))
    where
      hub : BeginsWith (codes "hub:") (get_or ((paths ++ sources) ++ trays) k d)
      hub = record { rest = []; is-all = sym same }

      tray-case : BeginsWith (codes "out:") (get_or ((paths ++ sources) ++ trays) k d) ⊎ BeginsWith (codes "halt:") (get_or ((paths ++ sources) ++ trays) k d) → ⊥
      tray-case (inl b) = let e : 104 ≡ 111 = ap head_of (same ∙ b.is-all) in omega (arith, e)
      tray-case (inr b) = let e : 117 ≡ 97 = ap (λ l. head_of (tail_of l)) (same ∙ b.is-all) in omega (arith, e)

      front-case : Contains paths (get_or ((paths ++ sources) ++ trays) k d) ⊎ Contains sources (get_or ((paths ++ sources) ++ trays) k d) → ⊥
      front-case (inl a) = no-path (codes "hub:") _ refl hub a
      front-case (inr a) = let e : 104 ≡ 105 = ap head_of (same ∙ (of-source _ a).is-all) in omega (arith, e)

      go : Contains (paths ++ sources) (get_or ((paths ++ sources) ++ trays) k d) ⊎ Contains trays (get_or ((paths ++ sources) ++ trays) k d) → ⊥
      go (inl a) = front-case (Contains-append_cases paths sources _ a)
      go (inr b) = tray-case (of-tray _ b)

  hub-bridges : All (λ w. codes "hub:" ≢ w) bridges
  hub-bridges k d lt same =
      let e : 104 ≡ 98 = ap head_of (same ∙ (of-bridge (get_or bridges k d) (Contains-get_or bridges k d lt)).is-all) in
      omega (arith, e)

  names-differ : AllPairs (λ a b. a ≢ b) names
  names-differ = AllPairs-cons (λ a b. a ≢ b) (codes "hub:") (front ++ bridges) (All-append (λ w. codes "hub:" ≢ w) front bridges hub-apart hub-bridges) all-differ

  sources-plain : All IsPlain sources
  sources-plain = All-map IsPlain source_name inputs (λ i d lt. behind-plain (codes "in:") _ refl (have.signals (get_or inputs i d) [] (open-known i d lt)))

  trays-plain : All IsPlain trays
  trays-plain =
      All-append IsPlain (map out_name outputs) (map halt_name stops)
      (All-map IsPlain out_name outputs (λ i d lt. behind-plain (codes "out:") _ refl (have.signals (get_or outputs i d) [] (outputs-known i d lt))))
      (All-map IsPlain halt_name stops (λ i d lt. behind-plain (codes "halt:") _ refl (have.signals (get_or stops i d) [] (stops-known i d lt))))

  bridges-plain : All IsPlain bridges
  bridges-plain =
      All-map IsPlain bridge_name request.bridges
      (λ k d lt. bridge-plain (get_or request.bridges k d).name (All-contains IsBridgeName (model_names models) (get_or request.bridges k d).name (All-map IsBridgeName (λ model. model.0) models named) (fits.each k d lt).known))

  names-plain : All IsPlain names
  names-plain =
      All-cons IsPlain (codes "hub:") (front ++ bridges) (record { some = omega arith; bytes = refl })
      (All-append IsPlain front bridges
      (All-append IsPlain (paths ++ sources) trays (All-append IsPlain paths sources (λ k d lt. path-plain (get_or paths k d) (are-paths k d lt)) sources-plain) trays-plain)
      bridges-plain)

  -- how many machines there are
  abbrev end : ℕ
  end = machine_end (plan_bridges design.circuit design.tree request)

  machines-are : map (path_at (machine_names design request listed)) (range_with_len 0 end) ≡ names
  machines-are =
      numbered-list (path_at (machine_names design request listed)) (machine_names design request listed) end (names-count design request) (λ k lt. refl) ∙ names-are

  machines-usable : AreUsable (map (path_at (machine_names design request listed)) (range_with_len 0 end))
  machines-usable = subst AreUsable (sym machines-are) (usable names names-differ names-plain)

  -- ---- ports

  none-usable : AreUsable []
  none-usable = usable [] no-pairs (All-nil IsPlain)

  memory-usable : (j : ℕ) → j < length design.tree.memories → AreUsable (memory_at design.tree j).ports
  memory-usable j lt =
      usable (memory_at design.tree j).ports (have.apart j no_memory lt)
      (λ k d less. name-plain (get_or (memory_at design.tree j).ports k d) (have.ports j no_memory lt k d less))

  port-names-usable : (m : ℕ) → AreUsable (port_names design.tree listed m)
  port-names-usable m = go (is_memory listed m) refl
    where
      go : (b : Bool) → is_memory listed m ≡ b → AreUsable (if b then (memory_at design.tree (value_at listed.memories (m - first_memory listed))).ports else [])
      go true e =
          let parts = and_parts (nat_le (first_memory listed) m) (nat_lt m (first_source listed)) e in
          let low : first_memory listed ≤ m = leb-true (first_memory listed) m parts.0 in
          let high : m < first_source listed = ltb-true m (first_source listed) parts.1 in
          memory-usable (value_at listed.memories (m - first_memory listed)) (apart.memories (m - first_memory listed) 0 (omega (arith, low, high)))
      go false e = none-usable

  ports-usable : (m : ℕ) → AreUsable (slice_index_or (map (port_names design.tree listed) (range_with_len 0 end)) m [])
  ports-usable m = go (cases_lt m end)
    where
      go : (m < end) ⊎ (end ≤ m) → AreUsable (slice_index_or (map (port_names design.tree listed) (range_with_len 0 end)) m [])
      go (inl lt) =
          subst AreUsable (sym (get_or-map-range_with_len (port_names design.tree listed) 0 end m m [] lt (let same : 0 + m ≡ m = omega arith in same)))
          (port-names-usable m)
      go (inr le) =
          subst AreUsable
          (sym (get_or_past (map (port_names design.tree listed) (range_with_len 0 end)) m []
          (omega (arith, le, length-map-range_with_len (port_names design.tree listed) 0 end))))
          none-usable

  pub names-usable : IsUsable (naming_of design request)
  names-usable = record { channels = channels-usable design request none is keeps have; machines = machines-usable; ports = ports-usable }
