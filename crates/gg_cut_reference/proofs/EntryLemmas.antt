-- A driver that isn't an input's stands in the same machine, whatever bridges there are.
use Rattle.std.proofs.Common.{◌≡◌, ◌≢◌, ℕ, ◌<◌, List, [], ◌∷◌, Bool, true, false, Some, ◌==◌, eq-eqb, true-eqb, refl, sym, ◌∙◌, ap, subst}
use Rattle.std.specs.Prelude.{cond, find}
use Rattle.gg_flat.specs.declared.piece.Driver.TheVariants.{Input}
use Rattle.gg_flat.specs.Circuit.{FlatCircuit, driver_at}
use Rattle.gg_flat.specs.WellFormed.{IsWellFormed}
use Rattle.gg_flat_tree.specs.Tree.{InstanceTree, IsTree}
use Rattle.gg_flat_tree.specs.Scoped.{IsScoped}
use Rattle.gg_partfile.specs.declared.request.BridgeEntry.{BridgeEntry}
use Rattle.gg_cut_plan.specs.declared.wires.Wire.{Wire}
use Rattle.gg_cut_plan.specs.declared.listed.Listed.{Listed}
use Rattle.gg_cut_plan.specs.Listed.{owner_of}
use Rattle.gg_cut_plan.specs.Machines.{first_source}
use Rattle.gg_cut_plan.specs.Channels.{wires_of}
use Rattle.gg_cut_plan.specs.Direct.{hub_of}
use Rattle.gg_cut_plan.proofs.EntryLemmas.{AllBelow, AreSameBelow, wires-below}
use Rattle.gg_cut_split.specs.inside.Apart.{AreApart}
use Rattle.gg_cut_routes.proofs.RouteLemmas.{IsBase}
use Rattle.gg_cut_reference.specs.Links.{maker_of, maker_or}
use Rattle.gg_cut_reference.proofs.OneLemmas.{maker-low}

-- the producer of the channel of a signal, in lists that are the same for the machines below n
found-same : (n other s : ℕ) (vs ws : List Wire) → AllBelow n vs ws → maker_or other (find (λ w. w.signal == s) vs) < n → maker_or other (find (λ w. w.signal == s) vs) ≡ maker_or other (find (λ w. w.signal == s) ws)
found-same n other s [] [] all low = refl
found-same n other s [] (w ∷ ws) all low = absurd all
found-same n other s (v ∷ vs) [] all low = absurd all
found-same n other s (v ∷ vs) (w ∷ ws) all low =
    by (v.signal == s) low (found-same n other s vs ws all.1)
    ∙ ap (λ t. maker_or other (cond (t == s) (Some w) (find (λ u. u.signal == s) ws))) all.0.signal
  where
    same : v.producer < n → v.producer ≡ w.producer
    same lt = sym (true-eqb w.producer v.producer (sym (sym (all.0.producer v.producer lt) ∙ eq-eqb v.producer v.producer refl)))

    by : (b : Bool) → maker_or other (cond b (Some v) (find (λ u. u.signal == s) vs)) < n → (maker_or other (find (λ u. u.signal == s) vs) < n → maker_or other (find (λ u. u.signal == s) vs) ≡ maker_or other (find (λ u. u.signal == s) ws))
        → maker_or other (cond b (Some v) (find (λ u. u.signal == s) vs)) ≡ maker_or other (cond b (Some w) (find (λ u. u.signal == s) ws))
    by true lt rest = same lt
    by false lt rest = rest lt

pub maker-same : (circuit : FlatCircuit) (tree : InstanceTree) (listed : Listed) (formed : IsWellFormed circuit) (fits : IsTree circuit tree) (scoped : IsScoped circuit tree) (apart : AreApart tree listed) (piped : ℕ → Bool) (entries : List BridgeEntry) (direct : Bool) (base : IsBase (hub_of circuit tree listed piped entries direct))
    → (s : ℕ) → ((place : ℕ) → driver_at circuit s ≢ Input place) → maker_of (hub_of circuit tree listed piped entries direct) s ≡ maker_of (hub_of circuit tree listed piped [] direct) s
maker-same circuit tree listed formed fits scoped apart piped entries direct base s plain =
    found-same (first_source listed) (owner_of circuit tree listed s) s (wires_of circuit tree listed entries) (wires_of circuit tree listed []) (wires-below circuit tree listed entries)
    (maker-low circuit tree listed formed fits scoped apart piped entries direct base s plain)
