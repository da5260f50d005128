-- The steps of a walk.
use Rattle.std.proofs.Common.{◌≡◌, ◌≢◌, ℕ, ◌+◌, ◌<◌, List, [], ◌∷◌, ◌++◌, length, get_or, set, drop, refl, sym, ap, ◌∙◌, subst, inl, inr, arith}
use Rattle.std.specs.Prelude.{Contains}
use Rattle.std.proofs.lemmas.Bool.{cases_lt}
use Rattle.std.proofs.lemmas.List.{length-set, get_or-set_same, get_or-set_other, get_or_default, get_or-drop, length-drop}
use Rattle.std.proofs.lemmas.List.Quantifiers.{all_pairs_push}
use Rattle.std.proofs.lemmas.List.Elements.{Contains-push, Contains-append_left}
use Rattle.gg_graph.specs.Graph.{node_at, IsRing}
use Rattle.gg_graph.specs.inside.Graph.{IsOrderOf}
use Rattle.gg_graph.specs.inside.Walk.{stage_at, IsChain, Walks, IsEndFrom}
use Rattle.gg_graph.specs.declared.state.Stage.{Stage}
use Rattle.gg_graph.specs.declared.state.Stage.TheVariants.{New, Open, Done}
use Rattle.gg_graph.proofs.RingLemmas.{IsChain-pop, GoesRound-end, once-drop}
use Rattle.gg_graph.proofs.StageLemmas.{stage-within, stage_set-same, stage_set-other, stage_set-cases, contains_cases, contains_at, last-new, once-pop, after-push}

-- a new node joins the path
pub Walks-enter : {Edge : ℕ → ℕ → Type 0} {Below : ℕ → ℕ → ℕ → Type 0} {count : ℕ} {path : List ℕ} {stages : List Stage} {places order : List ℕ} (t : ℕ) → Walks Edge Below count path stages places order → t < count → stage_at stages t ≡ New → IsChain Edge (path ++ t ∷ []) → Walks Edge Below count (path ++ t ∷ []) (set stages t Open) places order
Walks-enter {Edge = Edge} {Below = Below} {count = count} {path = path} {stages = stages} {places = places} {order = order} t w lt fresh chain = record {
  stage_count = length-set stages t Open ∙ w.stage_count;
  place_count = w.place_count;
  finished = λ s is. elim (stage_set-cases stages s t Open Done within is) [
    | inl h ↦ let e : Open ≡ Done = h.1 in cc
    | inr h ↦ w.finished s h.1
  ];
  ordered = λ s h. stage_set-other stages s t Open New Done fresh (w.ordered s h) (λ e. cc);
  on_path = λ s is. elim (stage_set-cases stages s t Open Open within is) [
    | inl h ↦ subst (Contains (path ++ t ∷ [])) (sym h.0) (Contains-push path t)
    | inr h ↦ Contains-append_left path (t ∷ []) s (w.on_path s h.1)
  ];
  opened = λ s h. elim (contains_cases path t s h) [
    | inl old ↦ stage_set-other stages s t Open New Open fresh (w.opened s old) (λ e. cc)
    | inr same ↦ ap (stage_at (set stages t Open)) same ∙ stage_set-same stages t Open within
  ];
  order_once = w.order_once;
  path_once = all_pairs_push (λ (a b : ℕ). a ≢ b) path t w.path_once (λ k d less is. clash k d less is);
  after = w.after;
  chain = chain;
  scanned = λ s u below. stage_set-other stages u t Open New Done fresh (w.scanned s u below) (λ e. cc);
}
  where
    within : t < length stages
    within = omega (arith, lt, w.stage_count)

    clash : (k d : ℕ) → k < length path → get_or path k d ≡ t → ⊥
    clash k d less is =
        let at : get_or path k t ≡ t = get_or_default path k t d less ∙ is in
        let e : Open ≡ New = sym (w.opened t (k, less, at)) ∙ fresh in cc

-- the targets of a node were scanned up to a place
pub Walks-scan : {Edge : ℕ → ℕ → Type 0} {Below : ℕ → ℕ → ℕ → Type 0} {count : ℕ} {path : List ℕ} {stages : List Stage} {places order : List ℕ} (s p : ℕ) → Walks Edge Below count path stages places order → s < count → ((t : ℕ) → Below s p t → stage_at stages t ≡ Done) → Walks Edge Below count path stages (set places s p) order
Walks-scan {Edge = Edge} {Below = Below} {count = count} {path = path} {stages = stages} {places = places} {order = order} s p w lt done = record {
  stage_count = w.stage_count;
  place_count = length-set places s p ∙ w.place_count;
  finished = w.finished;
  ordered = w.ordered;
  on_path = w.on_path;
  opened = w.opened;
  order_once = w.order_once;
  path_once = w.path_once;
  after = w.after;
  chain = w.chain;
  scanned = λ a t below. scan a t below;
}
  where
    within : s < length places
    within = omega (arith, lt, w.place_count)

    other : (a t : ℕ) → a ≢ s → Below a (node_at (set places s p) a) t → stage_at stages t ≡ Done
    other a t differ below = w.scanned a t (subst (λ (q : ℕ). Below a q t) (get_or-set_other places s a p 0 differ) below)

    own : (a t : ℕ) → a ≡ s → Below a (node_at (set places s p) a) t → stage_at stages t ≡ Done
    own a t same below =
        done t (subst (λ (q : ℕ). Below s q t) (get_or-set_same places s p 0 within) (subst (λ (b : ℕ). Below b (node_at (set places s p) b) t) same below))

    scan : (a t : ℕ) → Below a (node_at (set places s p) a) t → stage_at stages t ≡ Done
    scan a t below =
        elim (cases_lt a s) [
          | inl less ↦ other a t (λ e. omega (arith, less, e)) below
          | inr ge ↦ elim (cases_lt s a) [
            | inl more ↦ other a t (λ e. omega (arith, more, e)) below
            | inr le ↦ own a t (omega (arith, ge, le)) below
          ]
        ]

-- the last node of the path goes to the end of the order
pub Walks-leave : {Edge : ℕ → ℕ → Type 0} {Below : ℕ → ℕ → ℕ → Type 0} {count : ℕ} (path : List ℕ) {stages : List Stage} {places order : List ℕ} (s : ℕ) → Walks Edge Below count (path ++ s ∷ []) stages places order → ((t : ℕ) → Edge s t → stage_at stages t ≡ Done) → Walks Edge Below count path (set stages s Done) places (order ++ s ∷ [])
Walks-leave {Edge = Edge} {Below = Below} {count = count} path {stages = stages} {places = places} {order = order} s w done = record {
  stage_count = length-set stages s Done ∙ w.stage_count;
  place_count = w.place_count;
  finished = λ a is. elim (stage_set-cases stages a s Done Done within is) [
    | inl h ↦ subst (Contains (order ++ s ∷ [])) (sym h.0) (Contains-push order s)
    | inr h ↦ Contains-append_left order (s ∷ []) a (w.finished a h.1)
  ];
  ordered = λ a h. elim (contains_cases order s a h) [
    | inl old ↦ stage_set-other stages a s Done Open Done at (w.ordered a old) (λ e. cc)
    | inr same ↦ ap (stage_at (set stages s Done)) same ∙ stage_set-same stages s Done within
  ];
  on_path = λ a is. elim (stage_set-cases stages a s Done Open within is) [
    | inl h ↦ let e : Done ≡ Open = h.1 in cc
    | inr h ↦ elim (contains_cases path s a (w.on_path a h.1)) [ inl old ↦ old | inr same ↦ absurd (h.0 same) ]
  ];
  opened = λ a h. get_or-set_other stages s a Done New (λ same. last-new path s w.path_once (subst (Contains path) same h)) ∙ w.opened a (Contains-append_left path (s ∷ []) a h);
  order_once = all_pairs_push (λ (a b : ℕ). a ≢ b) order s w.order_once (λ k d less is. clash k d less is);
  path_once = once-pop path s w.path_once;
  after = after-push Edge order s w.after (λ t edge. w.finished t (done t edge));
  chain = IsChain-pop Edge path s w.chain;
  scanned = λ a t below. stage_set-other stages t s Done Open Done at (w.scanned a t below) (λ e. cc);
}
  where
    at : stage_at stages s ≡ Open
    at = w.opened s (Contains-push path s)

    within : s < length stages
    within = stage-within stages s (λ fresh. let e : Open ≡ New = sym at ∙ fresh in cc)

    clash : (k d : ℕ) → k < length order → get_or order k d ≡ s → ⊥
    clash k d less is =
        let here : get_or order k s ≡ s = get_or_default order k s d less ∙ is in
        let e : Done ≡ Open = sym (w.ordered s (k, less, here)) ∙ at in cc

-- a node on the path is a node of the graph
pub at-within : {Edge : ℕ → ℕ → Type 0} {Below : ℕ → ℕ → ℕ → Type 0} {count : ℕ} {path : List ℕ} {stages : List Stage} {places order : List ℕ} (s : ℕ) → Walks Edge Below count path stages places order → Contains path s → s < count
at-within {Edge = Edge} {Below = Below} {count = count} {path = path} {stages = stages} {places = places} {order = order} s w h =
    let at : stage_at stages s ≡ Open = w.opened s h in
    omega (arith, w.stage_count, stage-within stages s (λ fresh. let e : Open ≡ New = sym at ∙ fresh in cc))

-- an edge from the end of the path back to a node on it closes a ring
pub IsRing-end : {Edge : ℕ → ℕ → Type 0} {Below : ℕ → ℕ → ℕ → Type 0} {count : ℕ} (path : List ℕ) {stages : List Stage} {places order : List ℕ} (s first : ℕ) (ring : List ℕ) → Walks Edge Below count (path ++ s ∷ []) stages places order → Edge s first → IsEndFrom (path ++ s ∷ []) first ring → IsRing Edge count ring
IsRing-end {Edge = Edge} {Below = Below} {count = count} path {stages = stages} {places = places} {order = order} s first ring w edge end =
    subst (IsRing Edge count) (sym end.end_is) (record {
      nodes = λ i lt. at-within (node_at (drop end.start trail) i) w (inside i lt);
      once = once-drop end.start trail w.path_once;
      round = GoesRound-end Edge path s first end.start w.chain edge end.within end.is;
    })
  where
    trail : List ℕ
    trail = path ++ s ∷ []

    inside : (i : ℕ) → i < length (drop end.start trail) → Contains trail (node_at (drop end.start trail) i)
    inside i lt =
        subst (Contains trail) (sym (get_or-drop end.start trail i 0)) (contains_at trail (end.start + i) (omega (arith, lt, length-drop end.start trail)))

-- when the path is empty and every node was met, the order is complete
pub IsOrderOf-walked : {Edge : ℕ → ℕ → Type 0} {Below : ℕ → ℕ → ℕ → Type 0} {count : ℕ} {stages : List Stage} {places order : List ℕ} → Walks Edge Below count [] stages places order → ((s : ℕ) → s < count → stage_at stages s ≢ New) → IsOrderOf Edge count order
IsOrderOf-walked {Edge = Edge} {Below = Below} {count = count} {stages = stages} {places = places} {order = order} w met = record {
  nodes = λ i lt. within i lt;
  once = w.order_once;
  every = λ s lt. w.finished s (done s (stage_at stages s) refl (met s lt));
  after = w.after;
}
  where
    within : (i : ℕ) → i < length order → node_at order i < count
    within i lt =
        let at : stage_at stages (node_at order i) ≡ Done = w.ordered (node_at order i) (contains_at order i lt) in
        omega (arith, w.stage_count, stage-within stages (node_at order i) (λ fresh. let e : Done ≡ New = sym at ∙ fresh in cc))

    none_open : (s : ℕ) → stage_at stages s ≡ Open → ⊥
    none_open s is = let h = w.on_path s is in omega (arith, h.1)

    done : (s : ℕ) (x : Stage) → stage_at stages s ≡ x → stage_at stages s ≢ New → stage_at stages s ≡ Done
    done s New is met = absurd (met is)
    done s Open is met = absurd (none_open s is)
    done s Done is met = is

-- a walk with equal lists is the same walk
pub Walks-same : {Edge : ℕ → ℕ → Type 0} {Below : ℕ → ℕ → ℕ → Type 0} {count : ℕ} {p q : List ℕ} {a b : List Stage} {c d x y : List ℕ} → p ≡ q → a ≡ b → c ≡ d → x ≡ y → Walks Edge Below count p a c x → Walks Edge Below count q b d y
Walks-same {Edge = Edge} {Below = Below} {count = count} {p = p} {q = q} {a = a} {b = b} {c = c} {d = d} {x = x} {y = y} path stages places order w =
    subst (λ (l : List ℕ). Walks Edge Below count l b d y) path
    (subst (λ (l : List Stage). Walks Edge Below count p l d y) stages
    (subst (λ (l : List ℕ). Walks Edge Below count p a l y) places
    (subst (λ (l : List ℕ). Walks Edge Below count p a c l) order w)))
