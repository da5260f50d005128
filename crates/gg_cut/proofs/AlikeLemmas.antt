-- The machines of a plan while they are made, and machines of one host.
use Rattle.std.proofs.Common.{◌≡◌, ◌≢◌, ℕ, ◌+◌, ◌<◌, ◌^◌, List, [], ◌∷◌, ◌++◌, length, get_or, refl, sym, ◌∙◌, ap, subst, inl, inr, ◌⊎◌, None, below_more, arith}
use Rattle.std.specs.Prelude.{Result, Ok, Err, IfOk}
use Rattle.std.proofs.lemmas.Bool.{cases_eq}
use Rattle.std.proofs.lemmas.List.{get_or_push, get_or_append_left, length_push}
use Rattle.gg_flat.specs.Circuit.{FlatCircuit}
use Rattle.gg_order.specs.Design.{Ordered}
use Rattle.gg_part.specs.declared.part.Clocking.{Clocking}
use Rattle.gg_partfile.specs.declared.request.Request.{Request}
use Rattle.gg_cut_plan.specs.declared.listed.Listed.{Listed}
use Rattle.gg_cut_plan.specs.declared.plan.Body.{Body}
use Rattle.gg_cut_plan.specs.declared.plan.Body.TheVariants.{Cut, Memory, Source, Tray, Bridge}
use Rattle.gg_cut_plan.specs.declared.plan.Machine.{Machine}
use Rattle.gg_cut_plan.specs.Bridges.{Models}
use Rattle.gg_cut_plan.specs.Direct.{Hub}
use Rattle.gg_cut_plan.specs.Alike.{IsAlike, AreAlike}
use Rattle.gg_cut_plan.specs.Fault.{first_fault}
use Rattle.gg_cut_plan.specs.Hosts.{leader}
use Rattle.gg_cut_plan.specs.Plan.{IsBody, IsMachine}
use Rattle.gg_cut_plan.specs.Ports.{machine_end, plan_bridges}
use Rattle.gg_flat_tree.specs.Tree.{path_at}
use Rattle.gg_cut_parts.specs.declared.draft.Draft.{Draft}
use Rattle.gg_cut_parts.specs.inside.Draft.{draft_hub}
use Rattle.gg_cut_machines.specs.declared.places.Places.{Places}
use Rattle.gg_cut_machines.specs.inside.Drafted.{AreDraftPlaces, draft_end}
use Rattle.gg_cut.specs.inside.Drafted.{IsDraftBody, IsPlaced}
use Rattle.gg_cut.specs.inside.Made.{HasAscending, IsTimedUnit, IsMadeBody, AreMachinesTo, AreMachines}
use Rattle.gg_cut_machines.proofs.HostLemmas.{leader-below}
use Rattle.gg_cut_machines.proofs.LeaderLemmas.{leaders-first, one-host}

-- ---- pieces that are alike

alike-back : (one other : FlatCircuit) → IsAlike one other → IsAlike other one
alike-back one other is = record { signals = sym is.signals; clocks = sym is.clocks; registers = sym is.registers; memories = sym is.memories; ins = sym is.ins; outs = λ s. ((is.outs s).1, (is.outs s).0) }

alike-on : (one two three : FlatCircuit) → IsAlike one two → IsAlike two three → IsAlike one three
alike-on one two three a b =
    record {
      signals = a.signals ∙ b.signals;
      clocks = a.clocks ∙ b.clocks;
      registers = a.registers ∙ b.registers;
      memories = a.memories ∙ b.memories;
      ins = a.ins ∙ b.ins;
      outs = λ s. (λ c. (b.outs s).0 ((a.outs s).0 c), λ c. (a.outs s).1 ((b.outs s).1 c));
    }

bodies-back : (one other : Body) → AreAlike one other → AreAlike other one
bodies-back (Cut part) (Cut other) is = alike-back part.piece other.piece is
bodies-back (Cut part) (Memory other) is = absurd is
bodies-back (Cut part) (Source place) is = absurd is
bodies-back (Cut part) Tray is = absurd is
bodies-back (Cut part) (Bridge other) is = absurd is
bodies-back (Memory part) other is = absurd is
bodies-back (Source place) other is = absurd is
bodies-back Tray other is = absurd is
bodies-back (Bridge bridge) other is = absurd is

bodies-on : (one two three : Body) → AreAlike one two → AreAlike two three → AreAlike one three
bodies-on (Cut a) (Cut b) (Cut c) x y = alike-on a.piece b.piece c.piece x y
bodies-on (Cut a) (Cut b) (Memory c) x y = absurd y
bodies-on (Cut a) (Cut b) (Source place) x y = absurd y
bodies-on (Cut a) (Cut b) Tray x y = absurd y
bodies-on (Cut a) (Cut b) (Bridge c) x y = absurd y
bodies-on (Cut a) (Memory b) three x y = absurd x
bodies-on (Cut a) (Source place) three x y = absurd x
bodies-on (Cut a) Tray three x y = absurd x
bodies-on (Cut a) (Bridge b) three x y = absurd x
bodies-on (Memory a) two three x y = absurd x
bodies-on (Source place) two three x y = absurd x
bodies-on Tray two three x y = absurd x
bodies-on (Bridge a) two three x y = absurd x

-- ---- one machine more

module _ (design : Ordered) (request : Request) (models : Models) (listed : Listed) (hub : Hub) (clocking : Clocking) where
  pub machines-none : (machines : List Machine) → machines ≡ [] → AreMachinesTo design request models listed hub clocking 0 machines
  machines-none machines is = record { counted = ap length is; each = λ m any lt. absurd (omega (arith, lt)); ascend = λ m any lt. absurd (omega (arith, lt)); timed = λ m any lt. absurd (omega (arith, lt)); alike = λ m any other lt. absurd (omega (arith, lt)) }

  pub machines-more : (old new : List Machine) (n : ℕ) (machine : Machine) (body : Body) → AreMachinesTo design request models listed hub clocking n old → IsMachine design request models listed hub n machine → machine.body ≡ body → IsMadeBody design request models listed hub clocking old n body → new ≡ old ++ machine ∷ [] → AreMachinesTo design request models listed hub clocking (n + 1) new
  machines-more old new n machine body are here same made is =
      record {
        counted = ap length is ∙ length_push old machine ∙ ap (λ k. k + 1) are.counted;
        each = λ m any lt. below_more (λ k. IsMachine design request models listed hub k (get_or new k any)) n (λ k low. subst (IsMachine design request models listed hub k) (sym (kept k any low)) (are.each k any low)) (subst (IsMachine design request models listed hub n) (sym (last any)) here) m lt;
        ascend = λ m any lt. below_more (λ k. HasAscending (get_or new k any).body) n (λ k low. subst (λ (x : Machine). HasAscending x.body) (sym (kept k any low)) (are.ascend k any low)) (subst (λ (x : Machine). HasAscending x.body) (sym (last any)) (subst HasAscending (sym same) made.ascend)) m lt;
        timed = λ m any lt. below_more (λ k. IsTimedUnit listed clocking k (get_or new k any).body) n (λ k low. subst (λ (x : Machine). IsTimedUnit listed clocking k x.body) (sym (kept k any low)) (are.timed k any low)) (subst (λ (x : Machine). IsTimedUnit listed clocking n x.body) (sym (last any)) (subst (IsTimedUnit listed clocking n) (sym same) made.timed)) m lt;
        alike = λ m any other lt. below_more (λ k. leader request.units request.share k ≢ k → AreAlike (get_or new (leader request.units request.share k) any).body (get_or new k other).body) n (before any other) (at-last any other) m lt;
      }
    where
      kept : (k : ℕ) (any : Machine) → k < n → get_or new k any ≡ get_or old k any
      kept k any low = ap (λ l. get_or l k any) is ∙ get_or_append_left old (machine ∷ []) any k (omega (arith, low, are.counted))

      last : (any : Machine) → get_or new n any ≡ machine
      last any = ap (λ l. get_or l n any) is ∙ get_or_push old machine any n are.counted

      before : (any other : Machine) (k : ℕ) → k < n → leader request.units request.share k ≢ k → AreAlike (get_or new (leader request.units request.share k) any).body (get_or new k other).body
      before any other k low differ =
          let below = leader-below request.units request.share k in
          subst (λ (x : Machine). AreAlike x.body (get_or new k other).body) (sym (kept (leader request.units request.share k) any (omega (arith, low, below))))
          (subst (λ (x : Machine). AreAlike (get_or old (leader request.units request.share k) any).body x.body) (sym (kept k other low)) (are.alike k any other low differ))

      at-last : (any other : Machine) → leader request.units request.share n ≢ n → AreAlike (get_or new (leader request.units request.share n) any).body (get_or new n other).body
      at-last any other differ =
          let below = leader-below request.units request.share n in
          let less : leader request.units request.share n < n = omega (arith, below, differ) in
          subst (λ (x : Machine). AreAlike x.body (get_or new n other).body) (sym (kept (leader request.units request.share n) any less))
          (subst (λ (x : Machine). AreAlike (get_or old (leader request.units request.share n) any).body x.body) (sym (last other))
          (subst (AreAlike (get_or old (leader request.units request.share n) any).body) (sym same) (made.alike any differ)))

  -- what a machine does that is the first of its host
  pub own-made : {E : Type 0} (machines : List Machine) (m : ℕ) (result : Result Body E) → leader request.units request.share m ≡ m → IfOk result (λ body. IsBody design request models listed hub m body) → IfOk result (λ body. HasAscending body) → IfOk result (λ body. IsTimedUnit listed clocking m body) → IfOk result (λ body. IsMadeBody design request models listed hub clocking machines m body)
  own-made machines m (Ok body) first is ascend timed = record { is = is; ascend = ascend; timed = timed; alike = λ any differ. absurd (differ first) }
  own-made machines m (Err cause) first is ascend timed = tt

  -- ---- machines of one host

  module _ (none : first_fault design request ≡ None) (machines : List Machine) (are : AreMachinesTo design request models listed hub clocking (machine_end (plan_bridges design.circuit design.tree request)) machines) where
    -- a machine's part is like that of the first machine of its host, or it is this machine
    alike-first : (m l : ℕ) (any other : Machine) → m < machine_end (plan_bridges design.circuit design.tree request) → leader request.units request.share m ≡ l → l ≢ m → AreAlike (get_or machines l any).body (get_or machines m other).body
    alike-first m l any other lt same differ =
        subst (λ k. AreAlike (get_or machines k any).body (get_or machines m other).body) same
        (are.alike m any other lt (λ e. differ (sym same ∙ e)))

    alike-two : (m n l : ℕ) (any other : Machine) → m < machine_end (plan_bridges design.circuit design.tree request) → n < machine_end (plan_bridges design.circuit design.tree request) → m ≢ n → leader request.units request.share m ≡ l → leader request.units request.share n ≡ l → AreAlike (get_or machines m any).body (get_or machines n other).body
    alike-two m n l any other lt lt' differ a b = by (cases_eq l m) (cases_eq l n)
      where
        by : (l ≡ m) ⊎ (l ≢ m) → (l ≡ n) ⊎ (l ≢ n) → AreAlike (get_or machines m any).body (get_or machines n other).body
        by (inl e) q = subst (λ k. AreAlike (get_or machines k any).body (get_or machines n other).body) e (alike-first n l any other lt' b (λ f. differ (sym e ∙ f)))
        by (inr e) (inl f) =
            subst (λ k. AreAlike (get_or machines m any).body (get_or machines k other).body) f
            (bodies-back (get_or machines l other).body (get_or machines m any).body (alike-first m l other any lt a e))
        by (inr e) (inr f) =
            bodies-on (get_or machines m any).body (get_or machines l any).body (get_or machines n other).body
            (bodies-back (get_or machines l any).body (get_or machines m any).body (alike-first m l any any lt a e))
            (alike-first n l any other lt' b f)

    pub machines-made : machine_end (plan_bridges design.circuit design.tree request) < 2 ^ 32 → AreMachines design request models listed hub machines
    machines-made few = record {
      total = are.counted;
      few = omega (arith, few, are.counted);
      each = λ m any lt. are.each m any (omega (arith, lt, are.counted));
      shared = λ m n any other lt lt' differ same.
          let low : m < machine_end (plan_bridges design.circuit design.tree request) = omega (arith, lt, are.counted) in
          let low' : n < machine_end (plan_bridges design.circuit design.tree request) = omega (arith, lt', are.counted) in
          let one = are.each m any low in
          let two = are.each n other low' in
          let led = one-host request.units request.share m n (leaders-first design request none) (sym one.host ∙ same ∙ two.host) in
          alike-two m n (leader request.units request.share n) any other low low' differ led refl;
    }

-- a machine of a draft by its number and its body
pub machine-placed : (draft : Draft) (places : Places) → AreDraftPlaces draft places → (m : ℕ) (body : Body) (machine : Machine) → m < draft_end draft → IsPlaced places m body machine → IsDraftBody draft m body
    → IsMachine draft.design.now draft.request.now draft.models.now draft.listed (draft_hub draft) m machine
machine-placed draft places are m body machine lt at is =
    record {
      name = at.name ∙ ap (λ l. path_at l m) are.names;
      host = at.host ∙ are.hosts.host m lt;
      body = subst (IsDraftBody draft m) (sym at.body) is;
      ins = at.ins ∙ are.into.each m lt;
      outs = at.outs ∙ are.from.each m lt;
    }
