-- Two requests without a fault that ask for the same pipes have one reference circuit.
use Rattle.std.proofs.Common.{◌≡◌, ◌≢◌, ℕ, ◌<◌, List, [], Bool, true, false, Option, Some, None, length, get_or, slice_get, refl, sym, ◌∙◌, ap, ap₂, subst, inl, inr, ◌⊎◌, eq-eqb, arith}
use Rattle.std.specs.Prelude.{◌↔◌, ◌&&◌, ◌==◌, if◌then◌else◌, filter, Contains, All}
use Rattle.std.specs.List.{range_with_len}
use Rattle.std.proofs.lemmas.Bool.{eqb-true}
use Rattle.std.proofs.lemmas.List.Elements.{All-contains, All-map, Contains-get_or}
use Rattle.std.proofs.lemmas.Option.{slice_get-get_or}
use Rattle.gg_flat.specs.declared.piece.Driver.TheVariants.{Input, Held}
use Rattle.gg_flat.specs.declared.piece.Register.{Register}
use Rattle.gg_flat.specs.declared.memory.Latency.{Latency}
use Rattle.gg_flat.specs.declared.memory.Latency.TheVariants.{Zero, One}
use Rattle.gg_flat.specs.declared.memory.Reader.{Reader}
use Rattle.gg_flat.specs.Line.{value_at}
use Rattle.gg_flat.specs.Circuit.{FlatCircuit, driver_at, readers_at, reader_at, latency_at}
use Rattle.gg_flat.specs.Reads.{NamesSignal, RegisterNames}
use Rattle.gg_flat.specs.WellFormed.{reader_driver}
use Rattle.gg_flat.specs.Run.{clocked_start}
use Rattle.gg_flat_tree.specs.Tree.{InstanceTree, memory_at, path_at}
use Rattle.gg_flat_tree.specs.Scoped.{IsFieldOf, IsVisible, IsWritten, memory_fields}
use Rattle.gg_flat.proofs.ListLemmas.{map-same}
use Rattle.gg_bits.proofs.PathLemmas.{found-path}
use Rattle.gg_part.specs.KeepsToTree.{KeepsToTree}
use Rattle.gg_order.specs.Design.{Ordered, IsDesign}
use Rattle.gg_partfile.specs.declared.request.Request.{Request}
use Rattle.gg_cut_plan.specs.declared.wires.Wire.{Wire}
use Rattle.gg_cut_plan.specs.declared.listed.Listed.{Listed}
use Rattle.gg_cut_plan.specs.Listed.{first_place, is_among, listed_of, owner_of_instance, memory_owner}
use Rattle.gg_cut_plan.specs.Channels.{channel_names}
use Rattle.gg_cut_plan.specs.Clocks.{ratio_of}
use Rattle.gg_cut_plan.specs.Direct.{Hub, is_piped, plan_hub, plan_signals, routes}
use Rattle.gg_cut_plan.specs.Fault.{first_fault}
use Rattle.gg_cut_plan.proofs.ChannelLemmas.{named-channel}
use Rattle.gg_cut_plan.proofs.OriginLemmas.{Finds, any-finds, finds-any}
use Rattle.gg_cut_plan.proofs.PathLemmas.{first_place-Some, among-contains}
use Rattle.gg_cut_split.specs.inside.Apart.{AreApart}
use Rattle.gg_cut_split.proofs.ClosedLemmas.ClosedLemmas.{reader-known}
use Rattle.gg_cut_split.proofs.ClosedLemmas.FaultlessLemmas.{faultless-apart, faultless-pipes}
use Rattle.gg_cut_split.proofs.ClosedLemmas.ListLemmas.{Somewhere, map-cases}
use Rattle.gg_cut_split.proofs.ClosedLemmas.PlaceLemmas.{same-bool}
use Rattle.gg_cut_routes.proofs.ChoiceLemmas.{any-wire}
use Rattle.gg_cut_routes.proofs.RouteLemmas.{IsBase, routes-known}
use Rattle.gg_cut_routes.proofs.RoutedLemmas.{routed-base}
use Rattle.gg_cut_reference.specs.Made.{holder_of, keeper_of, plan_reference, reference_of, AllHeld}
use Rattle.gg_cut_reference.specs.inside.Made.{views_in}
use Rattle.gg_cut_reference.specs.Follows.{plan_start}
use Rattle.gg_cut_reference.specs.Links.{is_carried, pipes_of, taken_as, seen_by, maker_of}
use Rattle.gg_bits.specs.Lists.{number_or}
use Rattle.gg_cut_reference.proofs.AgreeLemmas.{AreAgreed, filter-agree, reference-agree}
use Rattle.gg_cut_reference.proofs.HolderLemmas.{keeper-is, first_holder, holder-first, holder-found}
use Rattle.gg_cut_reference.proofs.SeenLemmas.{HasPipe, pipe-out}
use Rattle.gg_cut_reference.proofs.SideLemmas.{IsDatum, written-one}
use Rattle.gg_cut_reference.proofs.OneLemmas.{not-input, takes, Stands, Written, Datum, stands, comes, taken, field-taken, data-free, given-taken}

if-same : (b : Bool) (x y : ℕ) → x ≡ y → (if b then x else y) ≡ y
if-same true x y e = e
if-same false x y e = refl

-- the driver of a reader's data names only the reader's address and enable, and holds no register
reader-names : (latency : Latency) (m r t : ℕ) (reader : Reader) → NamesSignal (reader_driver latency m r reader) t → (reader.addr ≡ t) ⊎ (reader.en ≡ t)
reader-names Zero m r t reader named = named
reader-names (One under) m r t reader named = absurd named

reader-no-register : (latency : Latency) (m r n : ℕ) (reader : Reader) → reader_driver latency m r reader ≡ Held n → ⊥
reader-no-register Zero m r n reader e = absurd (cc)
reader-no-register (One under) m r n reader e = absurd (cc)

-- ---- the pipes of a request without a fault

module _ (design : Ordered) (request : Request) (is : IsDesign design) (keeps : KeepsToTree design.circuit design.tree) (none : first_fault design request ≡ None) where
  abbrev hub : Hub
  hub = plan_hub design.circuit design.tree request

  base : IsBase (plan_hub design.circuit design.tree request)
  base = routed-base design request is keeps none

  -- each signal that is to be piped has a channel
  carried : (s : ℕ) → s < length design.circuit.signals → is_piped design.circuit request s ≡ true → is_carried (plan_hub design.circuit design.tree request) s ≡ true
  carried s lt asked = finds-any (λ (r : Wire). r.signal == s) (routes hub) r (Contains-get_or (routes hub) at.place any-wire at.within) (eq-eqb r.signal s (at.holds any-wire ∙ sym (eqb-true s found.item found.passes)))
    where
      name : List ℕ
      name = path_at design.circuit.paths s

      signals : List ℕ
      signals = plan_signals design.circuit design.tree request

      here : s < length design.circuit.paths
      here = let long = is.formed.named in omega (arith, lt, long)

      known : All (λ t. t < length design.circuit.paths) (plan_signals design.circuit design.tree request)
      known =
          All-map (λ t. t < length design.circuit.paths) (λ (r : Wire). r.signal) (routes hub)
          (λ k d low. let below = routes-known hub base k d low in let long = is.formed.named in omega (arith, below, long))

      names : is_among (channel_names design.circuit (plan_signals design.circuit design.tree request)) name ≡ true
      names = All-contains (λ n. is_among (channel_names design.circuit signals) n ≡ true) request.pipe name (faultless-pipes design request none) (found-path request.pipe name asked)

      found : Finds (λ t. s == t) signals
      found = any-finds (λ t. s == t) signals
          (named-channel design.circuit.paths name s signals is.formed.distinct (slice_get-get_or design.circuit.paths s [] here) known ∙ names)

      at : Somewhere (λ (r : Wire). r.signal ≡ found.item) (routes hub)
      at = map-cases (λ (r : Wire). r.signal) (routes hub) found.item found.among

      r : Wire
      r = get_or (routes hub) at.place any-wire

  asked-pipes : pipes_of (plan_hub design.circuit design.tree request) ≡ filter (is_piped design.circuit request) (range_with_len 0 (length design.circuit.signals))
  asked-pipes = filter-agree (λ s. hub.piped s && is_carried hub s) (is_piped design.circuit request) 0 (length design.circuit.signals) (λ s lt. by s (omega (arith, lt)) (is_piped design.circuit request s) refl)
    where
      by : (s : ℕ) → s < length design.circuit.signals → (b : Bool) → is_piped design.circuit request s ≡ b → (is_piped design.circuit request s && is_carried hub s) ≡ is_piped design.circuit request s
      by s lt true e = ap₂ (λ a b. a && b) e (carried s lt e) ∙ sym e
      by s lt false e = ap (λ b. b && is_carried hub s) e ∙ sym e

-- ---- two requests

module _ (design : Ordered) (request other : Request) (is : IsDesign design) (keeps : KeepsToTree design.circuit design.tree) (held : AllHeld design.circuit) (none : first_fault design request ≡ None) (other-none : first_fault design other ≡ None) (same : (name : List ℕ) → Contains request.pipe name ↔ Contains other.pipe name) where
  abbrev circuit : FlatCircuit
  circuit = design.circuit

  abbrev tree : InstanceTree
  tree = design.tree

  abbrev mine : Hub
  mine = plan_hub design.circuit design.tree request

  abbrev theirs : Hub
  theirs = plan_hub design.circuit design.tree other

  my-base : IsBase (plan_hub design.circuit design.tree request)
  my-base = routed-base design request is keeps none

  their-base : IsBase (plan_hub design.circuit design.tree other)
  their-base = routed-base design other is keeps other-none

  abbrev my-listed : Listed
  my-listed = listed_of design.tree request

  abbrev their-listed : Listed
  their-listed = listed_of design.tree other

  my-apart : AreApart design.tree (listed_of design.tree request)
  my-apart = faultless-apart design request none keeps.fitting

  their-apart : AreApart design.tree (listed_of design.tree other)
  their-apart = faultless-apart design other other-none keeps.fitting

  asked-alike : (name : List ℕ) → is_among request.pipe name ≡ is_among other.pipe name
  asked-alike name =
      same-bool (is_among request.pipe name) (is_among other.pipe name)
      (λ e. among-contains other.pipe name ((same name).0 (found-path request.pipe name e)))
      (λ e. among-contains request.pipe name ((same name).1 (found-path other.pipe name e)))

  pipes-alike : pipes_of (plan_hub design.circuit design.tree request) ≡ pipes_of (plan_hub design.circuit design.tree other)
  pipes-alike =
      asked-pipes design request is keeps none
      ∙ filter-agree (is_piped circuit request) (is_piped circuit other) 0 (length circuit.signals) (λ s lt. asked-alike (path_at circuit.paths s))
      ∙ sym (asked-pipes design other is keeps other-none)

  taken-alike : (t : ℕ) → taken_as (plan_hub design.circuit design.tree request) t ≡ taken_as (plan_hub design.circuit design.tree other) t
  taken-alike t = ap (λ pipes. number_or (length circuit.signals) t (first_place (λ p. p == t) pipes)) pipes-alike

  -- a machine of the one and a machine of the other see a signal as the same, if they both take its pipe or both don't
  seen-alike : (m n t : ℕ) → (HasPipe (plan_hub design.circuit design.tree request) my-base t → HasPipe (plan_hub design.circuit design.tree other) their-base t → takes (plan_hub design.circuit design.tree request) m t ≡ takes (plan_hub design.circuit design.tree other) n t)
      → seen_by (plan_hub design.circuit design.tree request) m t ≡ seen_by (plan_hub design.circuit design.tree other) n t
  seen-alike m n t alike = by (first_place (λ p. p == t) (pipes_of mine)) refl
    where
      by : (o : Option ℕ) → first_place (λ p. p == t) (pipes_of mine) ≡ o → seen_by mine m t ≡ seen_by theirs n t
      by None e =
          let plain : taken_as mine t ≡ t = ap (number_or (length circuit.signals) t) e in
          if-same (takes mine m t) (taken_as mine t) t plain ∙ sym (if-same (takes theirs n t) (taken_as theirs t) t (sym (taken-alike t) ∙ plain))
      by (Some k) e =
          let at = first_place-Some (λ p. p == t) (pipes_of mine) k e in
          let of = eqb-true (value_at (pipes_of mine) k) t (at.passes 0) in
          let among = subst (λ s. Contains (pipes_of mine) s) of (Contains-get_or (pipes_of mine) k 0 at.within) in
          ap₂ (λ (b : Bool) v. if b then v else t)
          (alike (pipe-out mine my-base t among) (pipe-out theirs their-base t (subst (λ (l : List ℕ). Contains l t) pipes-alike among)))
          (taken-alike t)

  -- ---- drivers and registers

  -- what the driver of signal s names, or the register that it holds
  record AreNames (s t : ℕ) : Type 0 where
    pub visible : (k : ℕ) → IsWritten tree k s → IsVisible tree k t
    pub datum : (j : ℕ) (d : IsDatum circuit tree j s) → ((reader_at (readers_at circuit (memory_at tree j).memory) d.reader).addr ≡ t) ⊎ ((reader_at (readers_at circuit (memory_at tree j).memory) d.reader).en ≡ t)

  made-alike : (s t : ℕ) → s < length design.circuit.signals → ((place : ℕ) → driver_at design.circuit s ≢ Input place) → AreNames s t → seen_by (plan_hub design.circuit design.tree request) (maker_of (plan_hub design.circuit design.tree request) s) t ≡ seen_by (plan_hub design.circuit design.tree other) (maker_of (plan_hub design.circuit design.tree other) s) t
  made-alike s t lt plain names = seen-alike (maker_of mine s) (maker_of theirs s) t (λ h k. by h k
      (stands circuit tree my-listed is.formed keeps.fitting keeps.scoped my-apart mine.piped request.bridges mine.direct my-base s lt plain) (stands circuit tree their-listed is.formed keeps.fitting keeps.scoped their-apart theirs.piped other.bridges theirs.direct their-base s lt plain))
    where
      datum : HasPipe mine my-base t → HasPipe theirs their-base t → (j : ℕ) → j < length tree.memories → IsDatum circuit tree j s → takes mine (maker_of mine s) t ≡ takes theirs (maker_of theirs s) t
      datum h k j below d =
          given-taken circuit tree my-listed is.formed keeps.fitting keeps.scoped my-apart mine.piped request.bridges mine.direct my-base j s t below (d, names.datum j d) h
          ∙ sym (given-taken circuit tree their-listed is.formed keeps.fitting keeps.scoped their-apart theirs.piped other.bridges theirs.direct their-base j s t below (d, names.datum j d) k)

      homes : HasPipe mine my-base t → HasPipe theirs their-base t → (i : ℕ) → IsVisible tree i t → takes mine (owner_of_instance tree my-listed.units i) t ≡ takes theirs (owner_of_instance tree their-listed.units i) t
      homes h k i seen =
          same-bool (takes mine (owner_of_instance tree my-listed.units i) t) (takes theirs (owner_of_instance tree their-listed.units i) t)
          (λ e. comes circuit tree their-listed is.formed keeps.fitting keeps.scoped their-apart theirs.piped other.bridges theirs.direct their-base i t k (taken circuit tree my-listed is.formed keeps.fitting keeps.scoped my-apart mine.piped request.bridges mine.direct my-base i t h seen e))
          (λ e. comes circuit tree my-listed is.formed keeps.fitting keeps.scoped my-apart mine.piped request.bridges mine.direct my-base i t h (taken circuit tree their-listed is.formed keeps.fitting keeps.scoped their-apart theirs.piped other.bridges theirs.direct their-base i t k seen e))

      by : HasPipe mine my-base t → HasPipe theirs their-base t
          → Stands circuit tree my-listed is.formed keeps.fitting keeps.scoped my-apart mine.piped request.bridges mine.direct my-base s
          → Stands circuit tree their-listed is.formed keeps.fitting keeps.scoped their-apart theirs.piped other.bridges theirs.direct their-base s
          → takes mine (maker_of mine s) t ≡ takes theirs (maker_of theirs s) t
      by h k (Datum j below d) there = datum h k j below d
      by h k (Written i written at) (Datum j below d) = datum h k j below d
      by h k (Written i written at) (Written j there to) =
          let one = written-one circuit tree my-listed request.bridges is.formed keeps.fitting keeps.scoped my-apart j i s there written in
          ap (λ m. takes mine m t) at ∙ homes h k i (names.visible i written) ∙ ap (λ m. takes theirs m t) (sym (to ∙ ap (owner_of_instance tree their-listed.units) one))

  data-driver : (j s : ℕ) → (d : IsDatum design.circuit design.tree j s) → driver_at design.circuit s ≡ reader_driver (latency_at design.circuit (memory_at design.tree j).memory) (memory_at design.tree j).memory d.reader (reader_at (readers_at design.circuit (memory_at design.tree j).memory) d.reader)
  data-driver j s d =
      let m = (memory_at tree j).memory in
      ap (driver_at circuit) (sym d.is) ∙ is.formed.reads m (reader-known circuit tree my-listed is.formed keeps.fitting keeps.scoped my-apart m d.reader d.there) d.reader d.there

  driver-names : (s t : ℕ) → NamesSignal (driver_at design.circuit s) t → AreNames s t
  driver-names s t named =
      record {
        visible = λ k written. keeps.scoped.drivers k s t written named;
        datum = λ j d.
            let m = (memory_at tree j).memory in
            reader-names (latency_at circuit m) m d.reader t (reader_at (readers_at circuit m) d.reader) (subst (λ driver. NamesSignal driver t) (data-driver j s d) named);
      }

  register-names : (s r t : ℕ) (register : Register) → driver_at design.circuit s ≡ Held r → slice_get design.circuit.registers r ≡ Some register → RegisterNames register t → AreNames s t
  register-names s r t register holds found named =
      record {
        visible = λ k written. keeps.scoped.registers k s r t register written holds found named;
        datum = λ j d.
            let m = (memory_at tree j).memory in
            absurd (reader-no-register (latency_at circuit m) m d.reader r (reader_at (readers_at circuit m) d.reader) (sym (data-driver j s d) ∙ holds));
      }

  held-alike : (r t : ℕ) (register : Register) → r < length design.circuit.registers → slice_get design.circuit.registers r ≡ Some register → RegisterNames register t
      → seen_by (plan_hub design.circuit design.tree request) (holder_of (plan_hub design.circuit design.tree request) r) t ≡ seen_by (plan_hub design.circuit design.tree other) (holder_of (plan_hub design.circuit design.tree other) r) t
  held-alike r t register lt found named =
      let some = held r lt in
      let first = holder-found circuit some.signal r some.within some.holds in
      let s = first_holder circuit r in
      ap (λ m. seen_by mine m t) (holder-first mine some.signal r some.within some.holds)
      ∙ made-alike s t first.0 (λ place e. no-held r place (sym first.1 ∙ e)) (register-names s r t register first.1 found named)
      ∙ sym (ap (λ m. seen_by theirs m t) (holder-first theirs some.signal r some.within some.holds))
    where
      no-held : (n place : ℕ) → Held n ≡ Input place → ⊥
      no-held n place e = absurd (cc)

  -- ---- memories

  kept-alike : (m t : ℕ) → m < length design.circuit.memories → Contains (memory_fields design.circuit m) t → seen_by (plan_hub design.circuit design.tree request) (keeper_of design.tree (listed_of design.tree request) m) t ≡ seen_by (plan_hub design.circuit design.tree other) (keeper_of design.tree (listed_of design.tree other) m) t
  kept-alike m t lt field =
      ap (λ n. seen_by mine n t) (keeper my-listed) ∙ seen-alike (memory_owner tree my-listed m) (memory_owner tree their-listed m) t sides ∙ ap (λ n. seen_by theirs n t) (sym (keeper their-listed))
    where
      known : m < length tree.memories
      known = let count = keeps.fitting.count in omega (arith, lt, count)

      number : (memory_at tree m).memory ≡ m
      number = keeps.copies.number m known

      keeper : (listed : Listed) → keeper_of tree listed m ≡ memory_owner tree listed m
      keeper listed = keeper-is circuit tree listed keeps.fitting (memory_owner tree listed m) m (record { place = m; known = known; is = number; owner = refl })

      own : IsFieldOf circuit tree m t
      own = subst (λ n. Contains (memory_fields circuit n) t) (sym number) field

      sides : HasPipe mine my-base t → HasPipe theirs their-base t → takes mine (memory_owner tree my-listed m) t ≡ takes theirs (memory_owner tree their-listed m) t
      sides h k = same-bool (takes mine (memory_owner tree my-listed m) t) (takes theirs (memory_owner tree their-listed m) t) on back
        where
          on : takes mine (memory_owner tree my-listed m) t ≡ true → takes theirs (memory_owner tree their-listed m) t ≡ true
          on e = by (field-taken circuit tree their-listed is.formed keeps.fitting keeps.scoped their-apart theirs.piped other.bridges theirs.direct their-base m t known own k)
            where
              by : (takes theirs (memory_owner tree their-listed m) t ≡ true) ⊎ IsDatum circuit tree m t → takes theirs (memory_owner tree their-listed m) t ≡ true
              by (inl f) = f
              by (inr d) = absurd (data-free circuit tree my-listed is.formed keeps.fitting keeps.scoped my-apart mine.piped request.bridges mine.direct my-base m t known h d e)

          back : takes theirs (memory_owner tree their-listed m) t ≡ true → takes mine (memory_owner tree my-listed m) t ≡ true
          back e = by (field-taken circuit tree my-listed is.formed keeps.fitting keeps.scoped my-apart mine.piped request.bridges mine.direct my-base m t known own h)
            where
              by : (takes mine (memory_owner tree my-listed m) t ≡ true) ⊎ IsDatum circuit tree m t → takes mine (memory_owner tree my-listed m) t ≡ true
              by (inl f) = f
              by (inr d) = absurd (data-free circuit tree their-listed is.formed keeps.fitting keeps.scoped their-apart theirs.piped other.bridges theirs.direct their-base m t known k d e)

  -- ---- the circuit

  agreed : AreAgreed design.circuit (views_in design.circuit design.tree (listed_of design.tree request) (is_piped design.circuit request) request.bridges request.direct) (views_in design.circuit design.tree (listed_of design.tree other) (is_piped design.circuit other) other.bridges other.direct)
  agreed =
      record {
        maker = λ s t lt named. made-alike s t lt (not-input (driver_at circuit s) t named) (driver-names s t named);
        holder = held-alike;
        keeper = kept-alike;
        kept = taken-alike;
      }

  pub one-reference : plan_reference design request ≡ plan_reference design other
  one-reference =
      reference-agree circuit (views_in circuit tree my-listed (is_piped circuit request) request.bridges request.direct) (views_in circuit tree their-listed (is_piped circuit other) other.bridges other.direct) (pipes_of mine) agreed
      ∙ ap (reference_of circuit (views_in circuit tree their-listed (is_piped circuit other) other.bridges other.direct)) pipes-alike

  -- and their runs start alike, if their clocks have the same ratios
  pub one-start : ((clock : List ℕ) → ratio_of request.clocks clock ≡ ratio_of other.clocks clock) → plan_start design request ≡ plan_start design other
  one-start alike = ap₂ (λ all ratios. clocked_start all ratios) one-reference (map-same (ratio_of request.clocks) (ratio_of other.clocks) tree.clocks alike)
