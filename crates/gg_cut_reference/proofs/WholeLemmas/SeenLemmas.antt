-- The ports of a design in its reference circuit: an output is seen as itself or as the pipe of its channel.
use Rattle.std.proofs.Common.{◌≡◌, ◌≢◌, ℕ, ◌+◌, ◌-◌, ◌<◌, ◌≤◌, List, [], ◌++◌, true, length, map, Option, Some, None, refl, sym, ◌∙◌, ap, subst, inl, inr, ◌⊎◌, arith}
use Rattle.std.specs.Prelude.{Contains, codes, option_map, unwrap_or, bytes_eq}
use Rattle.std.proofs.lemmas.Bool.{cases_lt}
use Rattle.std.proofs.lemmas.List.{get_or-map, get_or_append_left, get_or-append-add, get_or_default, length-append, length-map}
use Rattle.std.proofs.lemmas.Slice.Eq.{bytes_eq-Decides}
use Rattle.gg_flat.specs.Circuit.{FlatCircuit, signal_shapes}
use Rattle.gg_flat.specs.Line.{shape_at, value_at}
use Rattle.gg_flat_tree.specs.Tree.{path_at}
use Rattle.gg_flat.specs.WellFormed.{IsWellFormed}
use Rattle.gg_flat.proofs.ListLemmas.{Contains-map, once-apart}
use Rattle.gg_cut_split.proofs.ClosedLemmas.ListLemmas.{map-cases}
use Rattle.gg_cut_plan.specs.Direct.{Hub}
use Rattle.gg_cut_plan.specs.Listed.{is_among, place_of}
use Rattle.gg_cut_plan.specs.Channels.{channel_names}
use Rattle.gg_cut_plan.specs.Bridges.{port_shape}
use Rattle.gg_cut_plan.proofs.PathLemmas.{first_place-Some, first_place-None, among-contains}
use Rattle.gg_cut_reference.specs.inside.Fitting.{ArePortsAt}
use Rattle.gg_cut_reference.proofs.SeenLemmas.{taken-seen}
use Rattle.gg_cut_routes.proofs.RouteLemmas.{IsBase}
use Rattle.gg_cut_reference.specs.inside.Reference.{IsReference, IsPiped}
use Rattle.gg_cut_reference.specs.Reference.{Views}
use Rattle.gg_cut_reference.specs.Links.{pipes_of, taken_as}
use Rattle.gg_bridge.specs.Ports.{is_called}
use Rattle.gg_cut_reference.specs.whole.Whole.{HasFreeFronts}
use Rattle.gg_cut_reference.specs.inside.Whole.{signal_called}
use Rattle.gg_cut_reference.proofs.WholeLemmas.NameLemmas.{IsOnly, called-has, has-called}

-- ---- paths with a front

pipe-cancel : (a b : List ℕ) → codes "pipe:" ++ a ≡ codes "pipe:" ++ b → a ≡ b
pipe-cancel a b e = cc

pipe-no-bridge : (a b : List ℕ) → codes "pipe:" ++ a ≢ codes "bridge:" ++ b
pipe-no-bridge a b e = absurd (let same : 112 ≡ 98 = ap (λ l. value_at l 0) e in omega (arith, same))

-- ---- the signal with a path

module _ (circuit : FlatCircuit) (formed : IsWellFormed circuit) where
  pub same-path : (s t : ℕ) → s < length circuit.signals → t < length circuit.signals → path_at circuit.paths s ≡ path_at circuit.paths t → s ≡ t
  same-path s t low also = once-apart circuit.paths [] formed.distinct s t (omega (arith, low, formed.named)) (omega (arith, also, formed.named))

  -- a path that is there has the place that it was looked up at
  pub place-path : (s : ℕ) → s < length circuit.signals → place_of circuit.paths (path_at circuit.paths s) ≡ Some s
  place-path s low = by (place_of circuit.paths (path_at circuit.paths s)) refl
    where
      inside : s < length circuit.paths
      inside = omega (arith, low, formed.named)

      by : (o : Option ℕ) → place_of circuit.paths (path_at circuit.paths s) ≡ o → o ≡ Some s
      by None e =
          let there = among-contains circuit.paths (path_at circuit.paths s) (s, inside, sym (get_or_default circuit.paths s [] (path_at circuit.paths s) inside)) in
          let none = first_place-None (bytes_eq (path_at circuit.paths s)) circuit.paths e in
          absurd (let clash : true ≡ is_among circuit.paths (path_at circuit.paths s) = sym there in cc)
      by (Some k) e =
          let at = first_place-Some (bytes_eq (path_at circuit.paths s)) circuit.paths k e in
          ap Some (once-apart circuit.paths [] formed.distinct k s at.within inside (sym ((bytes_eq-Decides (path_at circuit.paths s) (path_at circuit.paths k)).0 (at.passes []))))

  pub called-path : (s : ℕ) → s < length circuit.signals → signal_called circuit (path_at circuit.paths s) ≡ s
  called-path s low = ap (λ (o : Option ℕ). unwrap_or o 0) (place-path s low)

  pub shape-path : (s : ℕ) → s < length circuit.signals → port_shape circuit (path_at circuit.paths s) ≡ Some (shape_at (signal_shapes circuit) s)
  shape-path s low = ap (option_map (shape_at (signal_shapes circuit))) (place-path s low)

-- A name is that of signal s of these.
pub record IsNamed (circuit : FlatCircuit) (signals : List ℕ) (name : List ℕ) : Type 0 where
  pub signal : ℕ
  pub among : Contains signals signal
  pub low : signal < length circuit.signals
  pub is : path_at circuit.paths signal ≡ name

pub named-is : (circuit : FlatCircuit) (signals : List ℕ) (name : List ℕ) → ((s : ℕ) → Contains signals s → s < length circuit.signals) → Contains (channel_names circuit signals) name → IsNamed circuit signals name
named-is circuit signals name low h =
    let at = map-cases (path_at circuit.paths) signals name h in
    let s = value_at signals at.place in
    let among : Contains signals s = (at.place, at.within, get_or_default signals at.place s 0 at.within) in
    record { signal = s; among = among; low = low s among; is = at.holds 0 }

-- ---- the reference circuit

module _ (hub : Hub) (all : FlatCircuit) (views : Views) (formed : IsWellFormed hub.circuit) (free : HasFreeFronts hub.circuit) (reference : IsReference hub.circuit all views (pipes_of hub)) (base : IsBase hub) where
  pub taken-low : (s : ℕ) → s < length hub.circuit.signals → taken_as hub s < length all.signals
  taken-low s low = by (taken-seen hub base s)
    where
      by : (taken_as hub s ≡ s) ⊎ IsPiped hub.circuit (pipes_of hub) s (taken_as hub s) → taken_as hub s < length all.signals
      by (inl own) = omega (arith, own, low, reference.signals)
      by (inr pipe) = let known = pipe.known in let is = pipe.is in omega (arith, known, is, reference.signals)

  pub taken-shape : (s : ℕ) → s < length hub.circuit.signals → shape_at (signal_shapes all) (taken_as hub s) ≡ shape_at (signal_shapes hub.circuit) s
  taken-shape s low = by (taken-seen hub base s)
    where
      by : (taken_as hub s ≡ s) ⊎ IsPiped hub.circuit (pipes_of hub) s (taken_as hub s) → shape_at (signal_shapes all) (taken_as hub s) ≡ shape_at (signal_shapes hub.circuit) s
      by (inl own) = ap (shape_at (signal_shapes all)) own ∙ reference.shapes s low
      by (inr pipe) = ap (shape_at (signal_shapes all)) pipe.is ∙ reference.pipe_shape pipe.pipe pipe.known ∙ ap (shape_at (signal_shapes hub.circuit)) pipe.of

  -- no two signals are taken as one
  pub taken-once : (s t : ℕ) → s < length hub.circuit.signals → t < length hub.circuit.signals → taken_as hub s ≡ taken_as hub t → s ≡ t
  taken-once s t low also same = by (taken-seen hub base s) (taken-seen hub base t)
    where
      by : (taken_as hub s ≡ s) ⊎ IsPiped hub.circuit (pipes_of hub) s (taken_as hub s) → (taken_as hub t ≡ t) ⊎ IsPiped hub.circuit (pipes_of hub) t (taken_as hub t) → s ≡ t
      by (inl a) (inl b) = omega (arith, a, b, same)
      by (inl a) (inr b) = let is = b.is in absurd (omega (arith, a, is, same, low))
      by (inr a) (inl b) = let is = a.is in absurd (omega (arith, b, is, same, also))
      by (inr a) (inr b) =
          let x = a.is in
          let y = b.is in
          let place : a.pipe ≡ b.pipe = omega (arith, x, y, same) in
          sym a.of ∙ ap (value_at (pipes_of hub)) place ∙ b.of

  -- ---- paths

  abbrev pipe_path : ℕ → List ℕ
  pipe_path c = codes "pipe:" ++ path_at hub.circuit.paths c

  pub path-own : (s : ℕ) → s < length hub.circuit.signals → path_at all.paths s ≡ path_at hub.circuit.paths s
  path-own s low =
      ap (λ (paths : List (List ℕ)). path_at paths s) reference.paths
      ∙ get_or_append_left hub.circuit.paths (map pipe_path (pipes_of hub)) [] s (omega (arith, low, formed.named))

  pub path-pipe : (k : ℕ) → k < length (pipes_of hub) → path_at all.paths (length hub.circuit.signals + k) ≡ pipe_path (value_at (pipes_of hub) k)
  path-pipe k lt =
      ap (λ (paths : List (List ℕ)). path_at paths (length hub.circuit.signals + k)) reference.paths
      ∙ ap (λ n. path_at (hub.circuit.paths ++ map pipe_path (pipes_of hub)) (n + k)) (sym formed.named)
      ∙ get_or-append-add hub.circuit.paths (map pipe_path (pipes_of hub)) k []
      ∙ get_or-map pipe_path (pipes_of hub) k 0 [] lt

  pub many-paths : length all.paths ≡ length all.signals
  many-paths =
      ap length reference.paths
      ∙ length-append hub.circuit.paths (map pipe_path (pipes_of hub))
      ∙ (let n = formed.named in let m = length-map (pipes_of hub) pipe_path in let k = reference.signals in omega (arith, n, m, k))

  pub no-bridge : (s : ℕ) (rest : List ℕ) → s < length all.signals → path_at all.paths s ≢ codes "bridge:" ++ rest
  no-bridge s rest lt = by (cases_lt s (length hub.circuit.signals))
    where
      by : (s < length hub.circuit.signals) ⊎ (length hub.circuit.signals ≤ s) → path_at all.paths s ≢ codes "bridge:" ++ rest
      by (inl low) same = free.bridge s rest low (sym (path-own s low) ∙ same)
      by (inr high) same =
          let k = s - length hub.circuit.signals in
          let inside : k < length (pipes_of hub) = omega (arith, lt, high, reference.signals) in
          let back : length hub.circuit.signals + k ≡ s = omega (arith, high) in
          pipe-no-bridge (path_at hub.circuit.paths (value_at (pipes_of hub) k)) rest (sym (path-pipe k inside) ∙ ap (path_at all.paths) back ∙ same)

  -- an output is called by its own name where it is taken
  pub taken-called : (s : ℕ) → s < length hub.circuit.signals → is_called all (path_at hub.circuit.paths s) (taken_as hub s) ≡ true
  taken-called s low = has-called all (path_at hub.circuit.paths s) (taken_as hub s) (omega (arith, taken-low s low, many-paths)) (record { is = by (taken-seen hub base s) })
    where
      by : (taken_as hub s ≡ s) ⊎ IsPiped hub.circuit (pipes_of hub) s (taken_as hub s) → (path_at all.paths (taken_as hub s) ≡ path_at hub.circuit.paths s) ⊎ (path_at all.paths (taken_as hub s) ≡ pipe_path s)
      by (inl own) = inl (ap (path_at all.paths) own ∙ path-own s low)
      by (inr pipe) = inr (ap (path_at all.paths) pipe.is ∙ path-pipe pipe.pipe pipe.known ∙ ap pipe_path pipe.of)

  -- and none else is
  pub taken-only : (s o : ℕ) → s < length hub.circuit.signals → o < length hub.circuit.signals → is_called all (path_at hub.circuit.paths o) (taken_as hub s) ≡ true → s ≡ o
  taken-only s o low also e = by (taken-seen hub base s) (called-has all (path_at hub.circuit.paths o) (taken_as hub s) (omega (arith, taken-low s low, many-paths)) e).is
    where
      by : (taken_as hub s ≡ s) ⊎ IsPiped hub.circuit (pipes_of hub) s (taken_as hub s) → (path_at all.paths (taken_as hub s) ≡ path_at hub.circuit.paths o) ⊎ (path_at all.paths (taken_as hub s) ≡ pipe_path o) → s ≡ o
      by (inl own) (inl same) = same-path hub.circuit formed s o low also (sym (ap (path_at all.paths) own ∙ path-own s low) ∙ same)
      by (inl own) (inr same) = absurd (free.pipe s (path_at hub.circuit.paths o) low (sym (ap (path_at all.paths) own ∙ path-own s low) ∙ same))
      by (inr pipe) (inl same) = absurd (free.pipe o (path_at hub.circuit.paths s) also (sym same ∙ (ap (path_at all.paths) pipe.is ∙ path-pipe pipe.pipe pipe.known ∙ ap pipe_path pipe.of)))
      by (inr pipe) (inr same) =
          same-path hub.circuit formed s o low also
          (pipe-cancel (path_at hub.circuit.paths s) (path_at hub.circuit.paths o) (sym (ap (path_at all.paths) pipe.is ∙ path-pipe pipe.pipe pipe.known ∙ ap pipe_path pipe.of) ∙ same))

  -- an input is called by its own name
  pub own-called : (s : ℕ) → s < length hub.circuit.signals → is_called all (path_at hub.circuit.paths s) s ≡ true
  own-called s low = has-called all (path_at hub.circuit.paths s) s (omega (arith, low, reference.signals, many-paths)) (record { is = inl (path-own s low) })

  pub own-only : (s o : ℕ) → s < length hub.circuit.signals → o < length hub.circuit.signals → is_called all (path_at hub.circuit.paths o) s ≡ true → s ≡ o
  own-only s o low also e = by (called-has all (path_at hub.circuit.paths o) s (omega (arith, low, reference.signals, many-paths)) e).is
    where
      by : (path_at all.paths s ≡ path_at hub.circuit.paths o) ⊎ (path_at all.paths s ≡ pipe_path o) → s ≡ o
      by (inl same) = same-path hub.circuit formed s o low also (sym (path-own s low) ∙ same)
      by (inr same) = absurd (free.pipe s (path_at hub.circuit.paths o) low (sym (path-own s low) ∙ same))

  -- ---- the ports

  low-ins : (s : ℕ) → Contains hub.circuit.ins s → s < length hub.circuit.signals
  low-ins s h = let same = get_or_default hub.circuit.ins h.0 0 s h.1 in let is = h.2 in let known = (formed.ins h.0 h.1).0 in omega (arith, same, is, known)

  low-outs : (s : ℕ) → Contains hub.circuit.outs s → s < length hub.circuit.signals
  low-outs s h = let same = get_or_default hub.circuit.outs h.0 0 s h.1 in let is = h.2 in let known = formed.outs h.0 h.1 in omega (arith, same, is, known)

  module _ (outs : List ℕ) (tops : (s : ℕ) → Contains outs s → Contains hub.circuit.outs s) where
    -- what a name of a port stands for
    pub seen-at : (name : List ℕ) → Contains (channel_names hub.circuit outs) name → IsNamed hub.circuit outs name
    seen-at name h = named-is hub.circuit outs name (λ s among. low-outs s (tops s among)) h

    pub driven-at : (name : List ℕ) → Contains (channel_names hub.circuit hub.circuit.ins) name → IsNamed hub.circuit hub.circuit.ins name
    driven-at name h = named-is hub.circuit hub.circuit.ins name low-ins h

    pub named-called : (signals : List ℕ) (name : List ℕ) (at : IsNamed hub.circuit signals name) → signal_called hub.circuit name ≡ at.signal
    named-called signals name at = ap (signal_called hub.circuit) (sym at.is) ∙ called-path hub.circuit formed at.signal at.low

    pub ports-at : ArePortsAt hub.circuit outs all (λ name. taken_as hub (signal_called hub.circuit name)) (λ name. signal_called hub.circuit name)
    ports-at =
        record {
          seen = λ name h.
              let at = seen-at name h in
              let s = at.signal in
              let is = named-called outs name at in (
                subst (λ k. taken_as hub k < length all.signals) (sym is) (taken-low s at.low),
                ap (port_shape hub.circuit) (sym at.is) ∙ shape-path hub.circuit formed s at.low ∙ ap Some (sym (ap (λ k. shape_at (signal_shapes all) (taken_as hub k)) is ∙ taken-shape s at.low)),
              );
          driven = λ name h.
              let at = driven-at name h in
              let s = at.signal in
              let is = named-called hub.circuit.ins name at in (
                subst (Contains all.ins) (sym is) (subst (λ (l : List ℕ). Contains l s) (sym reference.ins) at.among),
                ap (port_shape hub.circuit) (sym at.is) ∙ shape-path hub.circuit formed s at.low ∙ ap Some (sym (ap (shape_at (signal_shapes all)) is ∙ reference.shapes s at.low)),
              );
          once = λ a b h k same.
              let x = driven-at a h in
              let y = driven-at b k in
              sym x.is ∙ ap (path_at hub.circuit.paths) (sym (named-called hub.circuit.ins a x) ∙ same ∙ named-called hub.circuit.ins b y) ∙ y.is;
          fresh = no-bridge;
        }

    pub seen-once : (a b : List ℕ) → Contains (channel_names hub.circuit outs) a → Contains (channel_names hub.circuit outs) b → taken_as hub (signal_called hub.circuit a) ≡ taken_as hub (signal_called hub.circuit b) → a ≡ b
    seen-once a b h k same =
        let x = seen-at a h in
        let y = seen-at b k in
        let one = named-called outs a x in
        let two = named-called outs b y in
        sym x.is ∙ ap (path_at hub.circuit.paths) (taken-once x.signal y.signal x.low y.low (ap (taken_as hub) (sym one) ∙ same ∙ ap (taken_as hub) two)) ∙ y.is

    pub seen-only : map (taken_as hub) hub.circuit.outs ≡ all.outs → (name : List ℕ) → Contains (channel_names hub.circuit outs) name → IsOnly all all.outs name (taken_as hub (signal_called hub.circuit name))
    seen-only kept name h =
        let at = seen-at name h in
        let o = at.signal in
        let is = named-called outs name at in
        record {
          there = subst (λ (l : List ℕ). Contains l (taken_as hub (signal_called hub.circuit name))) kept (subst (λ k. Contains (map (taken_as hub) hub.circuit.outs) (taken_as hub k)) (sym is) (Contains-map (taken_as hub) hub.circuit.outs o (tops o at.among)));
          called = subst (λ k. is_called all name (taken_as hub k) ≡ true) (sym is) (subst (λ n. is_called all n (taken_as hub o) ≡ true) at.is (taken-called o at.low));
          only = λ t among e.
              let from = map-cases (taken_as hub) hub.circuit.outs t (subst (λ (l : List ℕ). Contains l t) (sym kept) among) in
              let s = value_at hub.circuit.outs from.place in
              let low : s < length hub.circuit.signals = formed.outs from.place from.within in
              let same = from.holds 0 in
              let one = taken-only s o low at.low (subst (λ n. is_called all n (taken_as hub s) ≡ true) (sym at.is) (subst (λ k. is_called all name k ≡ true) (sym same) e)) in
              sym same ∙ ap (taken_as hub) (one ∙ sym is);
        }

    pub driven-only : (name : List ℕ) → Contains (channel_names hub.circuit hub.circuit.ins) name → IsOnly all all.ins name (signal_called hub.circuit name)
    driven-only name h =
        let at = driven-at name h in
        let o = at.signal in
        let is = named-called hub.circuit.ins name at in
        record {
          there = subst (Contains all.ins) (sym is) (subst (λ (l : List ℕ). Contains l o) (sym reference.ins) at.among);
          called = subst (λ k. is_called all name k ≡ true) (sym is) (subst (λ n. is_called all n o ≡ true) at.is (own-called o at.low));
          only = λ t among e.
              let low = low-ins t (subst (λ (l : List ℕ). Contains l t) reference.ins among) in
              own-only t o low at.low (subst (λ n. is_called all n t ≡ true) (sym at.is) e) ∙ sym is;
        }
