-- The steps of a file can be followed by one more line exactly if they are fewer than all steps of the cut.
use Rattle.std.proofs.Common.{◌≡◌, ◌⊎◌, inl, inr, ℕ, suc, ◌+◌, ◌-◌, ◌*◌, ◌<◌, ◌≤◌, Bool, true, false, ◌++◌, List, [], ◌∷◌, Option, None, Some, length, get_or, map, ap, refl, sym, subst, ◌∙◌, arith, nat_le, nat_lt}
use Rattle.std.specs.Prelude.{All, Ok, if◌then◌else◌}
use Rattle.std.specs.List.{range_with_len}
use Rattle.std.proofs.lemmas.Bool.{and_parts, cases_lt, leb-true, ltb-true}
use Rattle.std.proofs.lemmas.List.{get_or_past, length-map, map-append}
use Rattle.std.proofs.lemmas.List.FromFn.{get_or-map-range_with_len, length-map-range_with_len}
use Rattle.gg_flat.specs.Line.{value_at}
use Rattle.gg_flat_tree.specs.Tree.{memory_at, path_at, port_count}
use Rattle.gg_cut_reference.specs.whole.Whole.{CanBridge}
use Rattle.gg_order.specs.Design.{Ordered}
use Rattle.gg_partfile.specs.declared.request.Request.{Request}
use Rattle.gg_cut_plan.specs.Bridges.{Models}
use Rattle.gg_cut_plan.specs.Ports.{machine_end, plan_bridges}
use Rattle.gg_cut_plan.specs.Direct.{plan_wires}
use Rattle.gg_cut_plan.specs.Machines.{first_memory, first_source, is_memory}
use Rattle.gg_cut_plan.specs.Listed.{listed_of}
use Rattle.gg_cut_plan.specs.Plan.{machine_names}
use Rattle.gg_cut_plan.specs.declared.listed.Listed.{Listed}
use Rattle.gg_cut_plan.specs.declared.wires.Wire.{Wire}
use Rattle.gg_cut_split.proofs.ClosedLemmas.FaultlessLemmas.{faultless-apart}
use Rattle.gg_cut_reference.specs.text.CheckText.{channel_name}
use Rattle.gg_net.specs.declared.event.Event.{Event}
use Rattle.gg_net.specs.declared.event.Event.TheVariants.{Latch, Fire, Serve, Finish}
use Rattle.gg_net.specs.declared.event.StepRefusal.{StepRefusal}
use Rattle.gg_net.specs.declared.event.StepRefusal.TheVariants.{Stranger}
use Rattle.gg_net.specs.markings.Goes.{after_step, replayed_from, step_refusal}
use Rattle.gg_net.specs.Refusal.{unless}
use Rattle.gg_bits.specs.Lists.{or_else}
use Rattle.gg_net.specs.markings.Marking.{Layout, Marking, opening_marking, marked_refusal}
use Rattle.gg_net.specs.markings.Marking as marks
use Rattle.gg_net.specs.inside.Counts.{CanRun, IsAllowed, IsMarkingOf, counts_of}
use Rattle.gg_net.specs.markings.Measure.{all_dues}
use Rattle.gg_net.specs.inside.Measure.{left}
use Rattle.gg_net.proofs.MarkingsLemmas.EndLemmas.{level-shape, opening-allowed, opening-left}
use Rattle.gg_net.proofs.MarkingsLemmas.ReplayLemmas.{goes-past, left-longer, longer-left}
use Rattle.gg_build.specs.plan.CutLayout.{IsLayoutOf, machine_ports, memory_of}
use Rattle.gg_front.specs.inside.Paths.{HavePaths}
use Rattle.gg_replay.specs.steps_file.Naming.{Naming, ports_at}
use Rattle.gg_replay.specs.inside.Spelling.{HasNames}
use Rattle.gg_replay.specs.steps_file.Spelling.{IsLengthened}
use Rattle.gg_replay.specs.steps_file.Steps.{step_of, steps_of}
use Rattle.gg_replay.proofs.StepsFileLemmas.LengthenLaws.{lengthened}
use Rattle.gg_replay.proofs.StepsFileLemmas.SpellingLaws.{step-read}
use Rattle.gg_replay.proofs.StepsFileLemmas.UsableLaws.{has-line}
use Rattle.gg_trace.specs.Fields.{text_lines}
use Rattle.golden_commands.specs.Handed.{IsBridgeName}
use Rattle.golden_commands.specs.Replay.{naming_of, port_names}
use Rattle.golden_commands.proofs.AloneLemmas.{faultless-first}
use Rattle.golden_commands.proofs.CutNameLemmas.{names-usable}

-- the first condition of a step that may be done holds
first-holds : (b : Bool) (cause : StepRefusal) (rest : Option StepRefusal) → or_else (unless b cause) rest ≡ None → b ≡ true
first-holds true cause rest e = refl
first-holds false cause rest e = absurd (cc)

-- the last of some steps that are done may be done somewhere
last-free : (layout : Layout) (k : ℕ) (old : Marking) (events : List (Option Event)) (event : Event) (new : Marking) → replayed_from layout k old (events ++ Some event ∷ []) ≡ Ok new
    → (marking : Marking) × (marked_refusal layout marking event ≡ None)
last-free layout k old [] event new is = (old, (goes-past k (marked_refusal layout old event) _ new is).0)
last-free layout k old (x ∷ events) event new is =
    last-free layout (suc k) (after_step layout old x) events event new (goes-past k (step_refusal layout old x) (replayed_from layout (suc k) (after_step layout old x) (events ++ Some event ∷ [])) new is).1

module _ (design : Ordered) (request : Request) (models : Models) (default n : ℕ) (bridging : CanBridge design request models) (named : All (λ model. IsBridgeName model.0) models) (layout : Layout) (laid : IsLayoutOf design request default n layout) where
  abbrev listed : Listed
  listed = listed_of design.tree request

  abbrev wires : List Wire
  wires = plan_wires design.circuit design.tree request

  -- how many machines there are
  abbrev count : ℕ
  count = machine_end (plan_bridges design.circuit design.tree request)

  abbrev naming : Naming
  naming = naming_of design request

  -- ---- a step that may be done has names

  channel-named : (c : ℕ) → nat_lt c (length layout.links) ≡ true → c < length naming.channels
  channel-named c e =
      let known : c < length layout.links = ltb-true c (length layout.links) e in
      omega (arith, known, laid.channels, length-map-range_with_len (channel_name design.circuit wires) 0 (length wires))

  machine-named : (m : ℕ) → m < count → m < length naming.machines
  machine-named m lt = omega (arith, lt, length-map-range_with_len (path_at (machine_names design request listed)) 0 count)

  turns-count : length layout.turns ≡ count
  turns-count = ap length laid.turns ∙ length-map-range_with_len _ 0 count

  -- a machine has a name for each of its ports
  ports-counted : (m p : ℕ) → p < machine_ports design.circuit design.tree listed m → p < length (port_names design.tree listed m)
  ports-counted m p lt = go (is_memory listed m) refl lt
    where
      go : (b : Bool) → is_memory listed m ≡ b → p < (if b then port_count design.circuit (memory_of design.tree listed m) else 0)
          → p < length (if b then (memory_at design.tree (value_at listed.memories (m - first_memory listed))).ports else [])
      go true e lt =
          let parts = and_parts (nat_le (first_memory listed) m) (nat_lt m (first_source listed)) e in
          let low : first_memory listed ≤ m = leb-true (first_memory listed) m parts.0 in
          let high : m < first_source listed = ltb-true m (first_source listed) parts.1 in
          let known = (faultless-apart design request (faultless-first design request models bridging.faultless) bridging.keeps.fitting).memories (m - first_memory listed) 0 (omega (arith, low, high)) in
          let ports = (bridging.keeps.fitting.held (value_at listed.memories (m - first_memory listed)) known).ports in
          omega (arith, lt, ports)
      go false e lt = absurd (omega (arith, lt))

  port-named : (m p : ℕ) → nat_lt p (marks.port_count layout m) ≡ true → (m < length naming.machines) × (p < length (ports_at naming m))
  port-named m p e = go (cases_lt m count) (ltb-true p (marks.port_count layout m) e)
    where
      go : (m < count) ⊎ (count ≤ m) → p < marks.port_count layout m → (m < length naming.machines) × (p < length (ports_at naming m))
      go (inl lt) below =
          let zero_and : 0 + m ≡ m = omega arith in
          let own : marks.port_count layout m ≡ machine_ports design.circuit design.tree listed m =
          ap (λ l. get_or l m 0) laid.ports ∙ get_or-map-range_with_len (machine_ports design.circuit design.tree listed) 0 count m m 0 lt zero_and in
          let names = get_or-map-range_with_len (port_names design.tree listed) 0 count m m [] lt zero_and in
          (machine-named m lt, subst (λ l. p < length l) (sym names) (ports-counted m p (subst (λ k. p < k) own below)))
      go (inr le) below =
          let past : marks.port_count layout m ≡ 0 =
          ap (λ l. get_or l m 0) laid.ports
          ∙ get_or_past (map (machine_ports design.circuit design.tree listed) (range_with_len 0 count)) m 0
          (omega (arith, le, length-map-range_with_len (machine_ports design.circuit design.tree listed) 0 count)) in
          absurd (omega (arith, below, past))

  free-named : (marking : Marking) (event : Event) → marked_refusal layout marking event ≡ None → HasNames naming event
  free-named marking (Latch c) e = channel-named c (first-holds (nat_lt c (length layout.links)) Stranger _ e)
  free-named marking (Fire c) e = channel-named c (first-holds (nat_lt c (length layout.links)) Stranger _ e)
  free-named marking (Serve m p) e = port-named m p (first-holds (nat_lt p (marks.port_count layout m)) Stranger _ e)
  free-named marking (Finish m) e =
      let known : m < length layout.turns = ltb-true m (length layout.turns) (first-holds (nat_lt m (length layout.turns)) Stranger _ e) in
      machine-named m (omega (arith, known, turns-count))

  -- ---- one more line

  -- the steps of a file with one more line
  steps-more : (steps line longer : List ℕ) → IsLengthened steps line longer → steps_of naming longer ≡ steps_of naming steps ++ step_of naming line ∷ []
  steps-more steps line longer more = ap (map (step_of naming)) more.lines ∙ map-append (step_of naming) (text_lines steps) (line ∷ [])

  abbrev all : ℕ
  all = n * (2 * length layout.links + length layout.turns + all_dues layout)

  abbrev opening : Marking
  opening = opening_marking layout 0

  module _ (can : CanRun layout) (have : HavePaths design.circuit design.tree) (steps : List ℕ) (marking : Marking) (done : replayed_from layout 1 opening (steps_of naming steps) ≡ Ok marking) where
    abbrev events : List (Option Event)
    events = steps_of naming steps

    shape : IsMarkingOf layout opening
    shape = level-shape layout can 0

    allowed : IsAllowed layout (counts_of layout opening)
    allowed = opening-allowed layout can 0 (omega arith)

    measure : left layout (counts_of layout opening) ≡ all
    measure =
        opening-left layout can 0 (omega arith)
        ∙ ap (λ k. k * (2 * length layout.links + length layout.turns + all_dues layout)) (let same : layout.end - 0 ≡ n = omega (arith, laid.end) in same)

    counted : length (steps_of naming steps) ≡ length (text_lines steps)
    counted = length-map (text_lines steps) (step_of naming)

    -- this line can follow, and the file with it is this one
    abbrev Follows : (line longer : List ℕ) → Type 0
    Follows line longer = IsLengthened steps line longer × ((next : Marking) × (replayed_from layout 1 opening (steps_of naming longer) ≡ Ok next))

    spelt : (event : Event) (next : Marking) → replayed_from layout 1 opening (events ++ Some event ∷ []) ≡ Ok next → (line : List ℕ) × (longer : List ℕ) × Follows line longer
    spelt event next is_done =
        let free = last-free layout 1 opening events event next is_done in
        let line = has-line naming event (names-usable design request models bridging named have) (free-named free.0 event free.1) in
        let longer = lengthened line.0 line.1 steps in
        let same : steps_of naming longer.0 ≡ events ++ Some event ∷ [] =
        steps-more steps line.0 longer.0 longer.1 ∙ ap (λ x. events ++ x ∷ []) (step-read naming line.0 event line.2) in
        (line.0, longer.0, (longer.1, (next, ap (replayed_from layout 1 opening) same ∙ is_done)))

    pub line-follows : length (text_lines steps) < all → (line : List ℕ) × (longer : List ℕ) × Follows line longer
    line-follows lt =
        let more = left-longer layout can 1 opening events marking shape allowed done (omega (arith, lt, measure, counted)) in
        spelt more.0 more.1 more.2

    pub follows-few : (line longer : List ℕ) → Follows line longer → length (text_lines steps) < all
    follows-few line longer follows =
        let few =
        longer-left layout can 1 opening events marking shape allowed done (step_of naming line) follows.1.0
        (ap (replayed_from layout 1 opening) (sym (steps-more steps line longer follows.0)) ∙ follows.1.1) in
        omega (arith, few, measure, counted)
