-- What sources and trays take and give, and which port of the top each has.
use Rattle.std.proofs.Common.{◌≡◌, ◌≢◌, ℕ, ◌+◌, ◌-◌, ◌<◌, ◌≤◌, List, length, get_or, true, Option, None, Some, refl, sym, ◌∙◌, ap, subst, inl, inr, ◌⊎◌, arith}
use Rattle.std.specs.Prelude.{◌==◌, All, AllPairs, Contains, is_none}
use Rattle.std.proofs.lemmas.Bool.{cases_lt}
use Rattle.std.proofs.lemmas.List.{length-map}
use Rattle.std.proofs.lemmas.List.Elements.{Contains-get_or}
use Rattle.gg_flat.specs.Line.{value_at}
use Rattle.gg_flat.proofs.ListLemmas.{Contains-map}
use Rattle.gg_order.specs.Design.{Ordered}
use Rattle.gg_partfile.specs.declared.request.Request.{Request}
use Rattle.gg_bits.specs.Lists.{count_below}
use Rattle.gg_cut_plan.specs.declared.wires.Wire.{Wire as Link}
use Rattle.gg_cut_plan.specs.Machines.{first_source}
use Rattle.gg_cut_plan.specs.Channels.{wire}
use Rattle.gg_cut_plan.specs.Direct.{plan_hub}
use Rattle.gg_cut_plan.specs.Listed.{listed_of}
use Rattle.gg_cut_plan.specs.Plan.{wire_at as link_at, channels_to, channels_from, givens_of}
use Rattle.gg_cut_plan.specs.Ports.{first_bridge, first_kept_tray, open_ins, undriven, unseen}
use Rattle.gg_cut_plan.proofs.CountLemmas.{before-found}
use Rattle.gg_cut_plan.proofs.PortLemmas.{giver-open, keeper-open}
use Rattle.gg_cut_split.proofs.ClosedLemmas.ListLemmas.{Somewhere, map-cases}
use Rattle.gg_cut_routes.specs.inside.Routes.{GivesInput, TakesOutput, AreRoutes}
use Rattle.gg_cut_reference.proofs.FittingLemmas.OpenLemmas.{in-place, ins-count}
use Rattle.gg_build.specs.inside.Given.{cut_of}
use Rattle.gg_build.proofs.PlanLemmas.NumberLemmas.{numbers-once, none-in, one-in}
use Rattle.gg_build.proofs.PlanLemmas.ListedLemmas.{taken-is}

-- two links with the same signal are the same link
pub link-one : (links : List Link) (c d : ℕ) → AllPairs (λ (v w : Link). v.signal ≢ w.signal) links → c < length links → d < length links → (link_at links c).signal ≡ (link_at links d).signal → c ≡ d
link-one links c d once lc ld same = by (cases_lt c d) (cases_lt d c)
  where
    by : (c < d) ⊎ (d ≤ c) → (d < c) ⊎ (c ≤ d) → c ≡ d
    by (inl lt) q = absurd (once c d (wire 0 0 0) lt ld same)
    by (inr le) (inl lt) = absurd (once d c (wire 0 0 0) lt lc (sym same))
    by (inr le) (inr ge) = omega (arith, le, ge)

-- ---- what they take and give

module _ (links : List Link) (m input : ℕ) (gives : GivesInput links m input) where
  -- a source takes nothing
  pub source-takes : length (channels_to links m) ≡ 0
  source-takes = none-in (channels_to links m) (λ c has. gives.none (link_at links c).signal (Contains-map (λ k. (link_at links k).signal) (channels_to links m) c has))

  -- a source gives something
  pub source-gives : 0 < length (channels_from links m)
  source-gives =
      let first = gives.one in
      let count = length-map (channels_from links m) (λ c. (link_at links c).given) in
      omega (arith, first.1, count)

  -- all that it gives is its input
  pub source-all : All (λ s. s ≡ input) (givens_of links (channels_from links m))
  source-all o any lt = gives.all (get_or (givens_of links (channels_from links m)) o any) (Contains-get_or (givens_of links (channels_from links m)) o any lt)

module _ (links : List Link) (m output : ℕ) (takes : TakesOutput links m output) where
  -- a tray takes one channel
  pub tray-takes : AllPairs (λ (v w : Link). v.signal ≢ w.signal) links → length (channels_to links m) ≡ 1
  tray-takes once =
      one-in (channels_to links m) c (numbers-once (λ k. (link_at links k).consumer == m) (length links)) has
      (λ d other.
      let taken = taken-is links m d other in
      link-one links d c once taken.known (taken-is links m c has).known
      (takes.all (link_at links d).signal (Contains-map (λ k. (link_at links k).signal) (channels_to links m) d other) ∙ sym (at.holds 0)))
    where
      at : Somewhere (λ k. (link_at links k).signal ≡ output) (channels_to links m)
      at = map-cases (λ k. (link_at links k).signal) (channels_to links m) output takes.one

      c : ℕ
      c = get_or (channels_to links m) at.place 0

      has : Contains (channels_to links m) c
      has = Contains-get_or (channels_to links m) at.place 0 at.within

  -- a tray gives nothing
  pub tray-gives-none : length (channels_from links m) ≡ 0
  tray-gives-none = none-in (channels_from links m) (λ c has. takes.none (link_at links c).given (Contains-map (λ k. (link_at links k).given) (channels_from links m) c has))

-- ---- which port they have

none-is : (o : Option ℕ) → is_none o ≡ true → o ≡ None
none-is None e = refl
none-is (Some k) e = absurd (cc)

module _ (design : Ordered) (request : Request) (routed : AreRoutes design (listed_of design.tree request) request.bridges (plan_hub design.circuit design.tree request)) where
  open cut_of design request use {listed, bridges as b, wires}

  -- machine m is the source of an input that no bridge drives, at this place among those
  pub record IsSourceAt (m place : ℕ) : Type 0 where
    pub port : ℕ
    pub known : port < length design.circuit.ins
    pub input : value_at (open_ins design.circuit request) place ≡ value_at design.circuit.ins port
    pub gives : GivesInput wires m (value_at design.circuit.ins port)

  pub source-at : (m place : ℕ) → place < length (open_ins design.circuit request) → m ≡ first_source listed + place → IsSourceAt m place
  source-at m place lt is =
      let at = before-found (undriven b) b.ins place (omega (arith, lt, ins-count design.circuit design.tree request)) in
      let free = none-is (b.driver at.place) at.kept in
      record {
        port = at.place;
        known = at.known;
        input = ap (value_at (open_ins design.circuit request)) (sym at.is) ∙ (in-place design.circuit design.tree request at.place at.known at.kept).is;
        gives = subst (λ k. GivesInput wires k (value_at design.circuit.ins at.place)) (giver-open b at.place free ∙ ap (λ k. first_source listed + k) at.is ∙ sym is) (routed.sources at.place at.known free);
      }

  -- machine m is the tray of an output that no bridge sees, or of a stop
  pub record IsTrayAt (m : ℕ) : Type 0 where
    pub port : ℕ
    pub known : port < length design.circuit.outs
    pub kept : unseen b port ≡ true
    pub count : m ≡ first_kept_tray b + count_below (unseen b) port
    pub takes : TakesOutput wires m (value_at design.circuit.outs port)

  pub tray-at : (m : ℕ) → first_kept_tray b ≤ m → m < first_bridge b → IsTrayAt m
  tray-at m low high =
      let at = before-found (unseen b) b.outs (m - first_kept_tray b) (omega (arith, low, high)) in
      let free = none-is (b.viewer at.place) at.kept in
      let is : m ≡ first_kept_tray b + count_below (unseen b) at.place = omega (arith, at.is, low) in
      record {
        port = at.place;
        known = at.known;
        kept = at.kept;
        count = is;
        takes = subst (λ k. TakesOutput wires k (value_at design.circuit.outs at.place)) (keeper-open b at.place free ∙ sym is) (routed.trays at.place at.known free);
      }
