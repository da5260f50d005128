-- Two machines with the same first machine of their host are a pair: two units, each a copy of the other.
use Rattle.std.proofs.Common.{◌≡◌, ◌≢◌, ℕ, suc, ◌-◌, ◌<◌, List, [], ◌∷◌, ◌++◌, length, get_or, sym, ◌∙◌, ap, subst, None, arith}
use Rattle.std.specs.Prelude.{Contains, filter}
use Rattle.std.proofs.lemmas.List.{get_or-map, length-map, get_or_append_left}
use Rattle.gg_flat.specs.Line.{value_at}
use Rattle.gg_flat_tree.specs.Tree.{InstanceTree, path_at, instance_at}
use Rattle.gg_part.specs.Copies.{Start, IsCopy}
use Rattle.gg_part.specs.KeepsToTree.{KeepsToTree}
use Rattle.gg_order.specs.Design.{Ordered, IsDesign}
use Rattle.gg_partfile.specs.declared.request.Request.{Request}
use Rattle.gg_cut_plan.specs.declared.listed.Listed.{Listed}
use Rattle.gg_cut_plan.specs.declared.fault.CutFault.TheVariants.{UnknownUnit, Doubled, OtherModule, Unmatched}
use Rattle.gg_cut_plan.specs.Fault.{first_fault, entry_faults, unshared, repeated, other_module, unmatched}
use Rattle.gg_partfile.specs.Size.{entries}
use Rattle.gg_cut_plan.specs.Hosts.{leader}
use Rattle.gg_cut_plan.specs.Listed.{is_among, instance_of, listed_of}
use Rattle.gg_cut_plan.specs.Machines.{unit_number}
use Rattle.gg_cut_plan.proofs.FindLemmas.{none-at, none-map}
use Rattle.gg_cut_split.specs.inside.Apart.{AreApart}
use Rattle.gg_cut_split.proofs.ClosedLemmas.FaultlessLemmas.{no-entry-fault, faultless-apart, faultless-known}
use Rattle.gg_cut_split.proofs.ClosedLemmas.ListedLemmas.{listed-are}
use Rattle.gg_cut_split.specs.inside.Again.{unit_first}
use Rattle.gg_cut_split.proofs.AgainLemmas.CounterpartLemmas.{inside, counterpart, memory-behind, among-too, listed-path, path-listed}
use Rattle.gg_cut_split.proofs.AgainLemmas.GroupLemmas.{HasUnit, one-list, unit-path, entry-known, entries-one}
use Rattle.gg_cut_split.proofs.AgainLemmas.Pair.{ArePair, IsUnitOver}

-- the start of the unit at place u: its signals begin with its first one
abbrev pub start_of : InstanceTree → Listed → ℕ → Start → Start
start_of tree listed u start = record start { signals = unit_first tree listed (unit_number u) }

starts : (tree : InstanceTree) (listed : Listed) (u : ℕ) → (instance_at tree (value_at listed.units u)).first ≡ unit_first tree listed (unit_number u)
starts tree listed u = ap (λ k. (instance_at tree (value_at listed.units k)).first) (let same : u ≡ suc u - 1 = omega arith in same)

-- The two machines are a pair of units.
pub record IsPaired (design : Ordered) (request : Request) (m n : ℕ) : Type 0 where
  pub u : ℕ
  pub v : ℕ
  pub first : m ≡ suc u
  pub second : n ≡ suc v
  pub one : Start
  pub other : Start
  pub pair : ArePair design (listed_of design.tree request) u v (start_of design.tree (listed_of design.tree request) u one) (start_of design.tree (listed_of design.tree request) v other)

module _ (design : Ordered) (request : Request) (meant : IsDesign design) (keeps : KeepsToTree design.circuit design.tree) (none : first_fault design request ≡ None) where
  abbrev tree : InstanceTree
  tree = design.tree

  abbrev listed : Listed
  listed = listed_of design.tree request

  apart : AreApart design.tree (listed_of design.tree request)
  apart = faultless-apart design request none keeps.fitting

  no-fault : (i : ℕ) → get_or (entry_faults design.tree request) i None ≡ None
  no-fault i = none-at (entry_faults design.tree request) i (no-entry-fault design request none)

  -- a unit of a list of `share`, by its place
  record IsAtPlace (group : List (List ℕ)) (m : ℕ) : Type 0 where
    place : ℕ
    known : place < length (listed_of design.tree request).units
    number : m ≡ suc place
    path : List ℕ
    among : Contains group path
    is : path_at design.tree.paths (value_at (listed_of design.tree request).units place) ≡ path
    instance : value_at (listed_of design.tree request).units place ≡ instance_of design.tree path

  at-place : (group : List (List ℕ)) (m : ℕ) → Contains request.share group → HasUnit request.units group m → IsAtPlace group m
  at-place group m among has =
      let known = entry-known request.units request.share group has.path (none-map UnknownUnit (unshared request.units request.share) (no-fault 1)) among has.among in
      let unit = unit-path request.units has.path known in
      let count : length (listed_of design.tree request).units ≡ length request.units = length-map request.units (instance_of design.tree) in
      let below : unit.place < length (listed_of design.tree request).units = (let lt = unit.known in omega (arith, lt, count)) in
      let are = listed-are design.tree request keeps.fitting.memory_named (faultless-known design request none) in
      record {
        place = unit.place;
        known = below;
        number = sym has.is ∙ unit.machine;
        path = has.path;
        among = has.among;
        is = sym (are.unit unit.place below) ∙ get_or_append_left request.units (filter (is_among request.memories) design.tree.memory_paths) [] unit.place unit.known ∙ unit.is;
        instance = get_or-map (instance_of design.tree) request.units unit.place [] 0 unit.known ∙ ap (instance_of design.tree) unit.is;
      }

  -- a unit begins where its instance's start says
  begins : (u : ℕ) → u < length (listed_of design.tree request).units → start_of design.tree (listed_of design.tree request) u (keeps.copies.start (value_at (listed_of design.tree request).units u)) ≡ keeps.copies.start (value_at (listed_of design.tree request).units u)
  begins u lt =
      let start = keeps.copies.start (value_at listed.units u) in
      ap (λ s. record start { signals = s }) (sym (starts tree listed u) ∙ keeps.copies.first (value_at listed.units u) (apart.known u 0 lt))

  copied : (u v : ℕ) → u < length (listed_of design.tree request).units → v < length (listed_of design.tree request).units → (instance_at design.tree (value_at (listed_of design.tree request).units u)).«module» ≡ (instance_at design.tree (value_at (listed_of design.tree request).units v)).«module»
      → IsCopy design.circuit design.tree (value_at (listed_of design.tree request).units u) (value_at (listed_of design.tree request).units v) (start_of design.tree (listed_of design.tree request) u (keeps.copies.start (value_at (listed_of design.tree request).units u))) (start_of design.tree (listed_of design.tree request) v (keeps.copies.start (value_at (listed_of design.tree request).units v)))
  copied u v lu lv same =
      let i = value_at listed.units u in
      let j = value_at listed.units v in
      subst (λ one. IsCopy design.circuit design.tree i j one (start_of design.tree listed v (keeps.copies.start j))) (sym (begins u lu))
      (subst (IsCopy design.circuit design.tree i j (keeps.copies.start i)) (sym (begins v lv)) (keeps.copies.copy i j (apart.known u 0 lu) (apart.known v 0 lv) same))

  over : (group : List (List ℕ)) (m n : ℕ) (one other : Start) → Contains request.share group → (x : IsAtPlace group m) → (y : IsAtPlace group n) → (instance_at design.tree (value_at (listed_of design.tree request).units x.place)).first ≡ one.signals → IsCopy design.circuit design.tree (value_at (listed_of design.tree request).units x.place) (value_at (listed_of design.tree request).units y.place) one other → IsCopy design.circuit design.tree (value_at (listed_of design.tree request).units y.place) (value_at (listed_of design.tree request).units x.place) other one → IsUnitOver design.tree (listed_of design.tree request) x.place y.place one other
  over group m n one other among x y first copy again =
      let there = counterpart design.circuit design.tree listed keeps.fitting keeps.scoped apart x.place y.place one other x.known y.known copy in
      record {
        known = x.known;
        first = first;
        lies = inside design.circuit design.tree listed keeps.fitting keeps.scoped apart x.place;
        behind = memory-behind design.circuit design.tree listed keeps.fitting keeps.scoped apart x.place y.place one other x.known y.known copy again;
        within = λ p lt is. (there p lt is).within;
        holder = λ p lt is. (there p lt is).holder;
        counterpart = λ p lt is h.
            let c = there p lt is in
            path-listed design.tree request _ c.within
            (ap (is_among request.memories) (c.there ∙ ap (λ front. front ++ 46 ∷ c.rest) y.is)
            ∙ among-too request.memories request.share group x.path y.path (path_at design.tree.memory_paths p) c.rest (none-map Unmatched (unmatched request.memories request.share) (no-fault 7)) among x.among y.among (listed-path design.tree request p h) (c.here ∙ ap (λ front. front ++ 46 ∷ c.rest) x.is));
      }

  pub paired : (m n : ℕ) → m ≢ n → leader request.units request.share m ≡ leader request.units request.share n → IsPaired design request m n
  paired m n differ led =
      let together = one-list request.units request.share m n (none-map UnknownUnit (unshared request.units request.share) (no-fault 1)) (none-map Doubled (repeated (entries request.share)) (no-fault 3)) differ led in
      let x = at-place together.group m together.among together.one in
      let y = at-place together.group n together.among together.other in
      let i = value_at listed.units x.place in
      let j = value_at listed.units y.place in
      let one-module : (instance_at tree i).«module» ≡ (instance_at tree j).«module» =
      ap (λ k. (instance_at tree k).«module») x.instance
      ∙ entries-one tree request.share together.group x.path y.path (none-map OtherModule (other_module tree request.share) (no-fault 5)) together.among x.among y.among
      ∙ ap (λ k. (instance_at tree k).«module») (sym y.instance) in
      let copy = copied x.place y.place x.known y.known one-module in
      let again = copied y.place x.place y.known x.known (sym one-module) in
      let one = start_of tree listed x.place (keeps.copies.start i) in
      let other = start_of tree listed y.place (keeps.copies.start j) in
      record {
        u = x.place;
        v = y.place;
        first = x.number;
        second = y.number;
        one = keeps.copies.start i;
        other = keeps.copies.start j;
        pair = record {
          meant = meant;
          keeps = keeps;
          apart = apart;
          copy = copy;
          again = again;
          there = over together.group m n one other together.among x y (starts tree listed x.place) copy again;
          back = over together.group n m other one together.among y x (starts tree listed y.place) again copy;
        };
      }
