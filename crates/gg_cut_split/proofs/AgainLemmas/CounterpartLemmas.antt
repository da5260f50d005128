-- The memories inside a unit and their counterparts inside a copy of it, by paths.
use Rattle.std.proofs.Common.{◌≡◌, ◌≢◌, ℕ, ◌+◌, ◌-◌, ◌<◌, ◌≤◌, List, [], ◌∷◌, ◌++◌, length, Bool, true, false, true≢false, refl, sym, ◌∙◌, ap, Some, None, inl, inr, ◌⊎◌, arith}
use Rattle.std.specs.Prelude.{Contains, not}
use Rattle.std.specs.List.{list_any, range_with_len}
use Rattle.std.proofs.lemmas.Bool.{cases_lt}
use Rattle.std.proofs.lemmas.List.{append_cancel_left, get_or_past}
use Rattle.std.proofs.lemmas.List.Folds.{list_any_at}
use Rattle.gg_flat.specs.Circuit.{FlatCircuit}
use Rattle.gg_flat.specs.Line.{value_at}
use Rattle.gg_flat_tree.specs.Scoped.{IsScoped}
use Rattle.gg_flat_tree.specs.Tree.{InstanceTree, IsTree, path_at, joined, memory_at}
use Rattle.gg_flat.proofs.ListLemmas.{once-apart, in-range, Contains-filter, filter-cases}
use Rattle.gg_bits.proofs.PathLemmas.{found-path}
use Rattle.gg_part.specs.Copies.{Start, IsCopy, LiesIn}
use Rattle.gg_part.specs.Moved.{shifted}
use Rattle.gg_partfile.specs.declared.request.Request.{Request}
use Rattle.gg_cut_plan.specs.declared.listed.Listed.{Listed}
use Rattle.gg_cut_plan.specs.Fault.{rest_behind, lacks_counterpart, lacks_in, unmatched}
use Rattle.gg_cut_plan.specs.Listed.{is_among, listed_of}
use Rattle.gg_cut_plan.proofs.CounterpartLemmas.{behind}
use Rattle.gg_cut_split.specs.inside.Apart.{AreApart}
use Rattle.gg_cut_split.specs.inside.Longest.{HoldsPath}
use Rattle.gg_cut_split.proofs.ClosedLemmas.BelowLemmas.{covers-lies, lower-some, memory-covers}
use Rattle.gg_cut_split.proofs.ClosedLemmas.HoldLemmas.{holds-some}
use Rattle.gg_cut_split.proofs.ClosedLemmas.NameLemmas.{same-tail}
use Rattle.gg_cut_split.proofs.ClosedLemmas.PlaceLemmas.{owner-within}
use Rattle.gg_cut_split.proofs.AgainLemmas.GroupLemmas.{find-none}
use Rattle.gg_cut_split.proofs.AgainLemmas.LiesLemmas.{lies-in, lies-owner}
use Rattle.gg_cut_split.proofs.AgainLemmas.Pair.{IsInUnit}

joined-some : (outer name : List ℕ) → outer ≢ [] → joined outer name ≡ outer ++ 46 ∷ name
joined-some [] name some = absurd (some refl)
joined-some (b ∷ outer) name some = refl

module _ (circuit : FlatCircuit) (tree : InstanceTree) (listed : Listed) (fits : IsTree circuit tree) (scoped : IsScoped circuit tree) (apart : AreApart tree listed) where
  -- a memory in a unit is in the unit's instance, or in one below it
  pub inside : (u p : ℕ) → p < length tree.memories → IsInUnit tree listed u p → LiesIn tree (value_at listed.units u) (memory_at tree p).instance
  inside u p lt is =
      let at = owner-within circuit tree listed fits apart (memory_at tree p).instance u is in
      lies-in circuit tree fits (memory_at tree p).instance (value_at listed.units u) (fits.held p lt).instance at.1

  -- The memory at place p is in the unit at place u, and that at place q in the unit at place v. Each is named by its unit's path, a
  -- dot and the same rest.
  pub record IsCounterpart (u v p q : ℕ) : Type 0 where
    pub within : q < length tree.memories
    pub holder : IsInUnit tree listed v q
    pub rest : List ℕ
    pub here : path_at tree.memory_paths p ≡ path_at tree.paths (value_at listed.units u) ++ 46 ∷ rest
    pub there : path_at tree.memory_paths q ≡ path_at tree.paths (value_at listed.units v) ++ 46 ∷ rest

  some-path : (w : ℕ) → w < length listed.units → path_at tree.paths (value_at listed.units w) ≢ []
  some-path w lw = lower-some circuit tree fits (value_at listed.units w) (apart.lower w 0 lw) (apart.known w 0 lw)

  pub counterpart : (u v : ℕ) (one other : Start) → u < length listed.units → v < length listed.units → IsCopy circuit tree (value_at listed.units u) (value_at listed.units v) one other → (p : ℕ) → p < length tree.memories → IsInUnit tree listed u p → IsCounterpart u v p (shifted one.memories other.memories p)
  counterpart u v one other lu lv copy p lt is =
      let i = value_at listed.units u in
      let j = value_at listed.units v in
      let q = shifted one.memories other.memories p in
      let moved = copy.memory_path p lt (inside u p lt is) in
      let there : path_at tree.memory_paths q ≡ path_at tree.paths j ++ 46 ∷ moved.rest = moved.other ∙ joined-some (path_at tree.paths j) moved.rest (some-path v lv) in
      let holds : HoldsPath (path_at tree.paths j) (path_at tree.memory_paths q) = record { rest = moved.rest; is = there } in
      let within = inside-tree j q holds (cases_lt q (length tree.memories)) in
      let covers = memory-covers circuit tree fits scoped j q within holds in
      let k = (memory_at tree q).instance in
      record {
        within = within;
        holder = lies-owner circuit tree listed fits apart k v (fits.held q within).instance lv (covers-lies circuit tree fits j k (apart.known v 0 lv) (fits.held q within).instance covers);
        rest = moved.rest;
        here = moved.one ∙ joined-some (path_at tree.paths i) moved.rest (some-path u lu);
        there = there;
      }
    where
      -- a memory's path that an instance's path holds is that of one of the tree's memories
      inside-tree : (j q : ℕ) → HoldsPath (path_at tree.paths j) (path_at tree.memory_paths q) → (q < length tree.memories) ⊎ (length tree.memories ≤ q) → q < length tree.memories
      inside-tree j q holds (inl lt) = lt
      inside-tree j q holds (inr le) = absurd (holds-some (path_at tree.paths j) (path_at tree.memory_paths q) holds (get_or_past tree.memory_paths q [] (omega (arith, le, fits.memory_named))))

  -- the memories of a unit stand behind the start of a copy
  pub memory-behind : (u v : ℕ) (one other : Start) → u < length listed.units → v < length listed.units → IsCopy circuit tree (value_at listed.units u) (value_at listed.units v) one other → IsCopy circuit tree (value_at listed.units v) (value_at listed.units u) other one → (p : ℕ) → p < length tree.memories → IsInUnit tree listed u p → one.memories ≤ p
  memory-behind u v one other lu lv copy again p lt is = by (cases_lt p one.memories)
    where
      by : (p < one.memories) ⊎ (one.memories ≤ p) → one.memories ≤ p
      by (inr le) = le
      by (inl less) =
          let q = shifted one.memories other.memories p in
          let there = counterpart u v one other lu lv copy p lt is in
          let back = counterpart v u other one lv lu again q there.within there.holder in
          let rests : there.rest ≡ back.rest = same-tail (append_cancel_left (path_at tree.paths (value_at listed.units v)) (46 ∷ there.rest) (46 ∷ back.rest) (sym there.there ∙ back.here)) in
          let paths : path_at tree.memory_paths p ≡ path_at tree.memory_paths (shifted other.memories one.memories q) = there.here ∙ ap (λ rest. path_at tree.paths (value_at listed.units u) ++ 46 ∷ rest) rests ∙ sym back.there in
          let same = once-apart tree.memory_paths [] fits.memory_distinct p (shifted other.memories one.memories q) (omega (arith, lt, fits.memory_named)) (let within = back.within in omega (arith, within, fits.memory_named)) paths in
          absurd (apart-from one.memories other.memories same less)
        where
          apart-from : (a b : ℕ) → p ≡ p - a + b - b + a → p < a → ⊥
          apart-from a b e less = omega (arith, e, less)

-- ---- the listed memories

any-false : {A : Type 0} (test : A → Bool) (xs : List A) (x : A) → list_any test xs ≡ false → Contains xs x → test x ≡ false
any-false test xs x e h = by (test x) refl
  where
    by : (b : Bool) → test x ≡ b → b ≡ false
    by false t = refl
    by true t = absurd (true≢false (sym (list_any_at test xs h.0 x h.1 (ap test h.2 ∙ t)) ∙ e))

-- a memory in a unit of a list has its counterpart in each unit of the list among the memories
pub among-too : (memories : List (List ℕ)) (share : List (List (List ℕ))) (group : List (List ℕ)) (one other path rest : List ℕ) → unmatched memories share ≡ None → Contains share group → Contains group one → Contains group other → Contains memories path → path ≡ one ++ 46 ∷ rest → is_among memories (other ++ 46 ∷ rest) ≡ true
among-too memories share group one other path rest none among a b listed is = by (is_among memories (other ++ 46 ∷ rest)) refl
  where
    matched : lacks_in memories path group ≡ false
    matched = any-false (lacks_in memories path) share group (find-none (λ path. list_any (lacks_in memories path) share) memories path none listed) among

    here : lacks_counterpart memories group (Some (46 ∷ rest)) ≡ false
    here = ap (lacks_counterpart memories group) (sym (behind one path (46 ∷ rest) is)) ∙ any-false (λ unit. lacks_counterpart memories group (rest_behind unit path)) group one matched a

    there : not (is_among memories (other ++ 46 ∷ rest)) ≡ false
    there = any-false (λ unit. not (is_among memories (unit ++ 46 ∷ rest))) group other here b

    by : (b : Bool) → is_among memories (other ++ 46 ∷ rest) ≡ b → b ≡ true
    by true e = refl
    by false e = absurd (true≢false (ap not (sym e) ∙ there))

-- a place of the tree is that of a listed memory exactly if its path is among those of the request
pub listed-path : (tree : InstanceTree) (request : Request) (p : ℕ) → Contains (listed_of tree request).memories p → Contains request.memories (path_at tree.memory_paths p)
listed-path tree request p h =
    let kept = filter-cases (λ j. is_among request.memories (path_at tree.memory_paths j)) (range_with_len 0 (length tree.memories)) p h in
    found-path request.memories (path_at tree.memory_paths p) kept.passes

pub path-listed : (tree : InstanceTree) (request : Request) (p : ℕ) → p < length tree.memories → is_among request.memories (path_at tree.memory_paths p) ≡ true → Contains (listed_of tree request).memories p
path-listed tree request p lt e =
    Contains-filter (λ j. is_among request.memories (path_at tree.memory_paths j)) (range_with_len 0 (length tree.memories)) p (in-range (length tree.memories) p lt) e
