-- A search with a queue finds just the signals that a signal reaches and that weren't marked before.
use Rattle.std.proofs.Common.{◌≡◌, ℕ, ◌+◌, ◌<◌, ◌≤◌, List, [], ◌++◌, length, Bool, true, false, true≢false, refl, sym, ◌∙◌, ap, subst, inl, inr, ◌⊎◌, ◌↔◌, arith, below_more}
use Rattle.std.specs.Prelude.{Contains}
use Rattle.std.proofs.lemmas.List.{get_or_append_left, get_or_default, length-append}
use Rattle.std.proofs.lemmas.List.Elements.{Contains-append_left, Contains-append_right, Contains-append_cases}
use Rattle.gg_flat.specs.Line.{value_at}
use Rattle.gg_flat.specs.Circuit.{FlatCircuit, driver_at}
use Rattle.gg_flat.specs.Reads.{Reads, NamesSignal, Reaches}
use Rattle.gg_order.specs.Marks.{is_marked}
use Rattle.gg_order.specs.inside.Walk.{IsClosed}
use Rattle.gg_order.proofs.NeedsLemmas.ReachLemmas.{Reaches-itself, Reaches-on, along-reaches}
use Rattle.gg_program.specs.inside.Search.{Searched, Finds, IsGathered}
use Rattle.gg_program.proofs.SearchLemmas.{unmarked-before}

-- The list's first places were looked at: the signals that are read there are marked.
pub record IsSearch (circuit : FlatCircuit) (out : ℕ) (first : List Bool) (place : ℕ) (now : Searched) : Type 0 where
  pub count : length now.marks ≡ length circuit.signals
  pub marked : (s : ℕ) → (is_marked now.marks s ≡ true) ↔ ((is_marked first s ≡ true) ⊎ Contains now.found s)
  pub fresh : (s : ℕ) → Contains now.found s → Reaches circuit out s × (is_marked first s ≡ false)
  pub itself : is_marked now.marks out ≡ true
  pub looked : (j t : ℕ) → j < place → Reads circuit (value_at now.found j) t → is_marked now.marks t ≡ true
  pub within : place ≤ length now.found

pub IsSearch-start : (circuit : FlatCircuit) (out : ℕ) (before after : Searched) → before.found ≡ [] → length before.marks ≡ length circuit.signals → Finds (λ s. out ≡ s) before after → IsSearch circuit out before.marks 0 after
IsSearch-start circuit out before after none count finds =
    let all : after.found ≡ finds.more = finds.grown ∙ ap (λ (l : List ℕ). l ++ finds.more) none in
    record {
      count = finds.count ∙ count;
      marked = λ s. (
        λ m. elim ((finds.marked s).0 m) [ inl was ↦ inl was | inr h ↦ inr (subst (λ (l : List ℕ). Contains l s) (sym all) h) ],
        λ e. elim e [ inl was ↦ (finds.marked s).1 (inl was) | inr h ↦ (finds.marked s).1 (inr (subst (λ (l : List ℕ). Contains l s) all h)) ],
      );
      fresh = λ s h. let of = finds.fresh s (subst (λ (l : List ℕ). Contains l s) all h) in (subst (Reaches circuit out) of.0 (Reaches-itself circuit out), of.1);
      itself = finds.named out refl;
      looked = λ j t lt. absurd (omega (arith, lt));
      within = omega arith;
    }

pub IsSearch-step : (circuit : FlatCircuit) (out : ℕ) (first : List Bool) (place : ℕ) (before after : Searched) → place < length before.found → value_at before.found place < length circuit.signals → Finds (λ s. NamesSignal (driver_at circuit (value_at before.found place)) s) before after → IsSearch circuit out first place before → IsSearch circuit out first (place + 1) after
IsSearch-step circuit out first place before after lt known finds h =
    record {
      count = finds.count ∙ h.count;
      marked = λ s. (to s, from s);
      fresh = λ s has. elim (Contains-append_cases before.found finds.more s (subst (λ (l : List ℕ). Contains l s) finds.grown has)) [
        | inl old ↦ h.fresh s old
        | inr new ↦ (
          Reaches-on circuit out (value_at before.found place) s (h.fresh (value_at before.found place) (place, lt, get_or_default before.found place (value_at before.found place) 0 lt)).0 (record { signal = known; names = (finds.fresh s new).0 }),
          unmarked-before first before.marks s (λ m. (h.marked s).1 (inl m)) (finds.fresh s new).1,
        )
      ];
      itself = (finds.marked out).1 (inl h.itself);
      looked = λ j t less reads. below_more (λ (k : ℕ). Reads circuit (value_at before.found k) t → is_marked after.marks t ≡ true) place
          (λ k old r. (finds.marked t).1 (inl (h.looked k t old r)))
          (λ r. finds.named t r.names)
          j less (subst (λ (x : ℕ). Reads circuit x t) (old-at j (omega (arith, less, lt))) reads);
      within = omega (arith, lt, grown);
    }
  where
    old-at : (j : ℕ) → j < length before.found → value_at after.found j ≡ value_at before.found j
    old-at j less = ap (λ (l : List ℕ). value_at l j) finds.grown ∙ get_or_append_left before.found finds.more 0 j less

    grown : length after.found ≡ length before.found + length finds.more
    grown = ap (λ (l : List ℕ). length l) finds.grown ∙ length-append before.found finds.more

    to : (s : ℕ) → is_marked after.marks s ≡ true → (is_marked first s ≡ true) ⊎ Contains after.found s
    to s m = elim ((finds.marked s).0 m) [
      | inl was ↦ elim ((h.marked s).0 was) [ inl f ↦ inl f | inr old ↦ inr (subst (λ (l : List ℕ). Contains l s) (sym finds.grown) (Contains-append_left before.found finds.more s old)) ]
      | inr new ↦ inr (subst (λ (l : List ℕ). Contains l s) (sym finds.grown) (Contains-append_right before.found finds.more s new))
    ]

    from : (s : ℕ) → (is_marked first s ≡ true) ⊎ Contains after.found s → is_marked after.marks s ≡ true
    from s (inl f) = (finds.marked s).1 (inl ((h.marked s).1 (inl f)))
    from s (inr has) = elim (Contains-append_cases before.found finds.more s (subst (λ (l : List ℕ). Contains l s) finds.grown has)) [
      | inl old ↦ (finds.marked s).1 (inl ((h.marked s).1 (inr old)))
      | inr new ↦ (finds.marked s).1 (inr new)
    ]

-- when all places were looked at, just the reached signals that weren't marked before are found
pub IsGathered-end : (circuit : FlatCircuit) (out : ℕ) (first : List Bool) (place : ℕ) (now : Searched) → IsClosed circuit first → length now.found ≤ place → IsSearch circuit out first place now → IsGathered circuit out first now
IsGathered-end circuit out first place now closed all h =
    record {
      count = h.count;
      found = λ s. (λ has. h.fresh s has, λ both. elim ((h.marked s).0 (reached s both.0)) [ inl f ↦ absurd (true≢false (sym f ∙ both.1)) | inr has ↦ has ]);
      marked = λ s. (
        λ m. elim ((h.marked s).0 m) [ inl f ↦ inl f | inr has ↦ inr (h.fresh s has).0 ],
        λ e. elim e [ inl f ↦ (h.marked s).1 (inl f) | inr to ↦ reached s to ],
      );
    }
  where
    on : (a b : ℕ) → is_marked now.marks a ≡ true → Reads circuit a b → is_marked now.marks b ≡ true
    on a b is reads = elim ((h.marked a).0 is) [
      | inl f ↦ (h.marked b).1 (inl (closed a b f reads))
      | inr has ↦ h.looked has.0 b (omega (arith, has.1, all)) (subst (λ (x : ℕ). Reads circuit x b) (sym (get_or_default now.found has.0 0 a has.1 ∙ has.2)) reads)
    ]

    reached : (s : ℕ) → Reaches circuit out s → is_marked now.marks s ≡ true
    reached s to = along-reaches circuit (λ (x : ℕ). is_marked now.marks x ≡ true) on out s h.itself to

-- what was found, in another order
pub IsGathered-moved : (circuit : FlatCircuit) (out : ℕ) (first : List Bool) (before after : Searched) → after.marks ≡ before.marks → ((s : ℕ) → Contains after.found s ↔ Contains before.found s) → IsGathered circuit out first before → IsGathered circuit out first after
IsGathered-moved circuit out first before after marks same h =
    record {
      count = ap (λ (l : List Bool). length l) marks ∙ h.count;
      found = λ s. (
        λ has. (h.found s).0 ((same s).0 has),
        λ both. (same s).1 ((h.found s).1 both),
      );
      marked = λ s. subst (λ (l : List Bool). (is_marked l s ≡ true) ↔ ((is_marked first s ≡ true) ⊎ Reaches circuit out s)) (sym marks) (h.marked s);
    }
