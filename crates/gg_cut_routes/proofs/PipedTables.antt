-- Marks on the signals with some names, and the channels of a plan by marks on the piped channels.
use Rattle.std.proofs.Common.{◌≡◌, ◌≢◌, ℕ, ◌+◌, ◌<◌, List, [], ◌∷◌, length, take, set, get_or, slice_get, Bool, true, false, eq-eqb, sym, ◌∙◌, ap, subst, Some, inl, inr, ◌⊎◌}
use Rattle.std.specs.Prelude.{◌&&◌, ◌==◌, ◌||◌, bytes_eq, Contains, AllPairs}
use Rattle.std.specs.List.{list_any}
use Rattle.std.proofs.Math.Bool.{or-false, and-false, or_assoc, and-or_distrib_left}
use Rattle.std.proofs.lemmas.Bool.{and_parts, cases_Bool, cases_eq, eqb-true, ne_eqb}
use Rattle.std.proofs.lemmas.List.{get_or_default, take_more, append-nil}
use Rattle.std.proofs.lemmas.List.Concat.{flat_map-append}
use Rattle.std.proofs.lemmas.List.Folds.{list_any-append}
use Rattle.std.proofs.lemmas.List.Elements.{All-contains}
use Rattle.std.proofs.lemmas.Slice.Eq.{bytes_eq-Decides}
use Rattle.gg_flat.specs.Circuit.{FlatCircuit}
use Rattle.gg_flat_tree.specs.Tree.{path_at}
use Rattle.gg_flat.proofs.ListLemmas.{once-apart}
use Rattle.gg_part.specs.KeepsToTree.{KeepsToTree}
use Rattle.gg_order.specs.Design.{Ordered, IsDesign}
use Rattle.gg_order.specs.Marks.{is_marked}
use Rattle.gg_partfile.specs.declared.request.Request.{Request}
use Rattle.gg_cut_plan.specs.declared.listed.Listed.{Listed}
use Rattle.gg_cut_plan.specs.declared.wires.Wire.{Wire}
use Rattle.gg_cut_plan.specs.Listed.{is_among, listed_of}
use Rattle.gg_cut_plan.specs.Direct.{Hub, hub_of, is_taken, is_gone, is_piped, routes, plan_hub, plan_wires}
use Rattle.gg_cut_plan.proofs.ChainLemmas.{marked-more}
use Rattle.gg_cut_plan.proofs.OriginLemmas.{any-finds}
use Rattle.gg_cut_plan.proofs.PathLemmas.{HoldsPath, holds-path}
use Rattle.gg_cut_split.specs.inside.Apart.{AreApart}
use Rattle.gg_cut_routes.proofs.AgreeLemmas.{gone-same, routes-agree}
use Rattle.gg_cut_routes.proofs.PlanLemmas.{plan-base}

-- ---- marks by names

-- the signals whose paths are among the names before place i are marked, and no others
pub record MarkedBy (paths names : List (List ℕ)) (count i : ℕ) (marks : List Bool) : Type 0 where
  pub long : length marks ≡ count
  pub each : (s : ℕ) → s < count → is_marked marks s ≡ is_among (take i names) (path_at paths s)

-- one more name
pub MarkedBy-next : (paths names : List (List ℕ)) (count i : ℕ) (name : List ℕ) (old new : List Bool) → i < length names → name ≡ get_or names i name → MarkedBy paths names count i old → length new ≡ length old
    → ((s : ℕ) → s < count → is_marked new s ≡ (is_marked old s || bytes_eq (path_at paths s) name)) → MarkedBy paths names count (i + 1) new
MarkedBy-next paths names count i name old new lt is was long each =
    record {
      long = long ∙ was.long;
      each = λ s low.
          let path = path_at paths s in
          each s low ∙ ap (λ b. b || bytes_eq (path_at paths s) name) (was.each s low)
          ∙ ap (λ b. is_among (take i names) (path_at paths s) || b) (ap (bytes_eq path) is ∙ sym (or-false (bytes_eq path (get_or names i name))))
          ∙ sym (ap (list_any (bytes_eq path)) (take_more names i name lt) ∙ list_any-append (bytes_eq path) (take i names) (get_or names i name ∷ []));
    }

-- a signal has this path exactly if it is the one that a look-up finds
named-at : (paths : List (List ℕ)) (name : List ℕ) (k s : ℕ) → AllPairs (λ a b. a ≢ b) paths → slice_get paths k ≡ Some name → s < length paths → (k == s) ≡ bytes_eq (path_at paths s) name
named-at paths name k s once found lt = by (cases_eq k s)
  where
    holds : HoldsPath paths k name
    holds = holds-path paths k name found

    by : (k ≡ s) ⊎ (k ≡ s → ⊥) → (k == s) ≡ bytes_eq (path_at paths s) name
    by (inl same) = eq-eqb k s same ∙ sym ((bytes_eq-Decides (path_at paths s) name).1 (ap (path_at paths) (sym same) ∙ holds.is))
    by (inr other) = ne_eqb k s other ∙ sym (never (cases_Bool (bytes_eq (path_at paths s) name)))
      where
        never : (bytes_eq (path_at paths s) name ≡ true) ⊎ (bytes_eq (path_at paths s) name ≡ false) → bytes_eq (path_at paths s) name ≡ false
        never (inr e) = e
        never (inl e) = absurd (other (once-apart paths [] once k s holds.within lt (holds.is ∙ sym ((bytes_eq-Decides (path_at paths s) name).0 e))))

pub mark-found : (paths : List (List ℕ)) (name : List ℕ) (marks : List Bool) (k s : ℕ) → AllPairs (λ a b. a ≢ b) paths → slice_get paths k ≡ Some name → length marks ≡ length paths → s < length paths → is_marked (set marks k true) s ≡ (is_marked marks s || bytes_eq (path_at paths s) name)
mark-found paths name marks k s once found long lt =
    let holds = holds-path paths k name found in
    marked-more marks k s (subst (λ n. k < n) (sym long) holds.within) ∙ ap (λ b. is_marked marks s || b) (named-at paths name k s once found lt)

-- a path that a look-up doesn't find is that of no signal
pub mark-missing : (paths : List (List ℕ)) (name : List ℕ) (marks : List Bool) (s : ℕ) → ¬ Contains paths name → s < length paths → is_marked marks s ≡ (is_marked marks s || bytes_eq (path_at paths s) name)
mark-missing paths name marks s missing lt = sym (ap (λ b. is_marked marks s || b) (never (cases_Bool (bytes_eq (path_at paths s) name))) ∙ or-false (is_marked marks s))
  where
    never : (bytes_eq (path_at paths s) name ≡ true) ⊎ (bytes_eq (path_at paths s) name ≡ false) → bytes_eq (path_at paths s) name ≡ false
    never (inr e) = e
    never (inl e) = absurd (missing (s, lt, get_or_default paths s name [] lt ∙ (bytes_eq-Decides (path_at paths s) name).0 e))

-- ---- the channels of a plan

-- marks of a circuit are those of a design's
pub marked-as : (circuit piece : FlatCircuit) (request : Request) (marks items : List Bool) → piece ≡ circuit → marks ≡ items → ((s : ℕ) → s < length piece.signals → is_marked items s ≡ is_piped piece request s)
    → (s : ℕ) → s < length circuit.signals → is_marked marks s ≡ is_piped circuit request s
marked-as circuit piece request marks items is same marked s lt =
    ap (λ (l : List Bool). is_marked l s) same ∙ marked s (subst (λ (c : FlatCircuit). s < length c.signals) (sym is) lt)
    ∙ ap (λ (c : FlatCircuit). is_piped c request s) is

module _ (design : Ordered) (request : Request) (listed : Listed) (marks : List Bool) (is : IsDesign design) (keeps : KeepsToTree design.circuit design.tree) (apart : AreApart design.tree listed) (same : listed ≡ listed_of design.tree request) (marked : (s : ℕ) → s < length design.circuit.signals → is_marked marks s ≡ is_piped design.circuit request s) where
  abbrev hub : Hub
  hub = hub_of design.circuit design.tree listed (is_marked marks) request.bridges request.direct

  agree : (s : ℕ) → is_taken hub s ≡ true → is_marked marks s ≡ is_piped design.circuit request s
  agree s e =
      let at = any-finds (λ (w : Wire). (w.consumer == 0) && (w.signal == s)) hub.base e in
      let known = All-contains (λ (w : Wire). w.signal < length design.circuit.signals) hub.base at.item (plan-base design listed (is_marked marks) request.bridges request.direct is keeps apart).known at.among in
      marked s (subst (λ t. t < length design.circuit.signals) (eqb-true at.item.signal s (and_parts (at.item.consumer == 0) (at.item.signal == s) at.passes).1) known)

  pub planned-wires : routes (hub_of design.circuit design.tree listed (is_marked marks) request.bridges request.direct) ≡ plan_wires design.circuit design.tree request
  planned-wires =
      routes-agree design.circuit design.tree listed request.bridges request.direct (is_marked marks) (is_piped design.circuit request) agree
      ∙ ap (λ (l : Listed). routes (hub_of design.circuit design.tree l (is_piped design.circuit request) request.bridges request.direct)) same

  pub planned-gone : (s : ℕ) → is_gone (hub_of design.circuit design.tree listed (is_marked marks) request.bridges request.direct) s ≡ is_gone (plan_hub design.circuit design.tree request) s
  planned-gone s =
      gone-same design.circuit design.tree listed request.bridges request.direct (is_marked marks) (is_piped design.circuit request) agree s
      ∙ ap (λ (l : Listed). is_gone (hub_of design.circuit design.tree l (is_piped design.circuit request) request.bridges request.direct) s) same
