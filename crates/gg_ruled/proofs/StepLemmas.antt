-- Each kind of step keeps the queue's rule.
use Rattle.std.proofs.Common.{◌≡◌, ◌≢◌, ℕ, ◌+◌, ◌≤◌, true, false, true≢false, List, [], ◌∷◌, ◌++◌, length, set, slice_get, Some, sym, refl, ap, ◌∙◌, subst, ⊎_elim, arith, append_assoc, length-append}
use Rattle.std.proofs.lemmas.List.{nil_from_length}
use Rattle.std.proofs.lemmas.Option.{same_Some}
use mathlib.Core.Option.{some}
use lib.ListN.{get_elem?}
use Rattle.crossbeam_queue.specs.Fifo.{Pushes, Pops, Forks, Merges, Learns}
use Rattle.crossbeam_queue.proofs.Lists.{at_set, at_snoc}
use Rattle.gg_link.proofs.StreamLemmas.{value-behind}
use Rattle.gg_link.proofs.ViewLemmas.{OfEach, of_each-set, at_end, only_first}
use Rattle.gg_ruled.specs.declared.rule.View.{View}
use Rattle.gg_ruled.specs.inside.Rule.{putter, taker, whole, spent, has_put, has_taken, FitsPut, FitsTake, Fits, Keeps}

-- what stands behind a front part, where its first value is known
rest_is : (xs ys : List ℕ) (v : ℕ) → slice_get (xs ++ ys) (length xs) ≡ Some v → (after : List ℕ) × (ys ≡ v ∷ after)
rest_is [] [] v e = absurd (cc)
rest_is [] (y ∷ ys) v e = (ys, λ i. same_Some y v e i ∷ ys)
rest_is (x ∷ xs) ys v e = rest_is xs ys v e

pub opens : Keeps [] (whole [] 0 0 0 ∷ [])
opens =
    let v : View = whole [] 0 0 0 in
    record {
      putter = 0;
      taker = 0;
      stream = [];
      room = 0;
      done = [];
      rest = [];
      stream_is = refl;
      few = omega arith;
      fits = of_each-set (Fits [] 0 0 0 0 0) (v ∷ []) 0 v
          ((λ _. (refl, record { stream_is = refl; capacity_is = refl; count = refl })), (λ _. (refl, record { stream_is = refl; capacity_is = refl; count = refl; known = omega arith })))
          (λ j u other e. absurd (other (only_first v u j e)));
    }

pub pushes : (n id : ℕ) (v : View) (x : ℕ) → v.puts ≡ true → v.takes ≡ false → v.capacity ≡ n → slice_get v.stream v.put ≡ Some x → Pushes Keeps n id v x (λ w. w ≡ has_put v)
pushes n id v x may not cap_is next items views few h at =
    let w : View = has_put v in
    let mine = (h.fits id v at).0 may in
    let long : length (h.done ++ items) ≡ length h.done + length items = length-append h.done items in
    let whole : h.stream ≡ (h.done ++ items) ++ h.rest = h.stream_is ∙ sym (append_assoc h.done items h.rest) in
    let there : slice_get ((h.done ++ items) ++ h.rest) (length (h.done ++ items)) ≡ Some x =
    ap (λ (p : List ℕ × ℕ). slice_get p.0 p.1) (λ i. (sym whole i, (long ∙ sym mine.1.count) i)) ∙ ap (λ s. slice_get s v.put) (sym mine.1.stream_is) ∙ next in
    let r = rest_is (h.done ++ items) h.rest x there in
    let longer : length (items ++ x ∷ []) ≡ length items + 1 = length-append items (x ∷ []) in
    let more : length h.done + length (items ++ x ∷ []) ≡ length h.done + length items + 1 = omega arith in
    let F : ℕ → View → Type 0 = Fits h.stream h.room (length h.done) (length h.done + length (items ++ x ∷ [])) h.putter h.taker in (
      w,
      record {
        putter = h.putter;
        taker = h.taker;
        stream = h.stream;
        room = h.room;
        done = h.done;
        rest = r.0;
        stream_is = h.stream_is ∙ ap (λ q. h.done ++ (items ++ q)) r.1 ∙ ap (λ q. h.done ++ q) (sym (append_assoc items (x ∷ []) r.0));
        few = let c = mine.1.capacity_is in omega arith;
        fits = of_each-set F views id w
            ((λ _. (mine.0, record { stream_is = mine.1.stream_is; capacity_is = mine.1.capacity_is; count = let c = mine.1.count in omega arith })), (λ t. absurd (true≢false (sym t ∙ not))))
            (λ j u other e. (
              (λ p. absurd (other (((h.fits j u e).0 p).0 ∙ sym mine.0))),
              (λ t. let theirs = (h.fits j u e).1 t in (theirs.0, record { stream_is = theirs.1.stream_is; capacity_is = theirs.1.capacity_is; count = theirs.1.count; known = (let k = theirs.1.known in omega arith) })),
            ));
      },
      refl,
    )

pub pops : (id : ℕ) (v : View) → v.takes ≡ true → Pops Keeps id v (λ x w. (w ≡ has_taken v) × (slice_get v.stream v.taken ≡ Some x))
pops id v may x items views h at =
    let w : View = has_taken v in
    let mine = (h.fits id v at).1 may in
    let there : slice_get v.stream v.taken ≡ Some x =
    ap (λ (p : List ℕ × ℕ). slice_get p.0 p.1) (λ i. ((mine.1.stream_is ∙ h.stream_is) i, mine.1.count i)) ∙ value-behind h.done x (items ++ h.rest) in
    let done = h.done ++ x ∷ [] in
    let longer : length done ≡ length h.done + 1 = length-append h.done (x ∷ []) in
    let F : ℕ → View → Type 0 = Fits h.stream h.room (length done) (length done + length items) h.putter h.taker in (
      w,
      record {
        putter = h.putter;
        taker = h.taker;
        stream = h.stream;
        room = h.room;
        done = done;
        rest = h.rest;
        stream_is = h.stream_is ∙ sym (append_assoc h.done (x ∷ []) (items ++ h.rest));
        few = let c = h.few in omega arith;
        fits = of_each-set F views id w
            ((λ p. let m = (h.fits id v at).0 p in (m.0, record { stream_is = m.1.stream_is; capacity_is = m.1.capacity_is; count = (let c = m.1.count in omega arith) })), (λ _. (mine.0, record { stream_is = mine.1.stream_is; capacity_is = mine.1.capacity_is; count = (let c = mine.1.count in omega arith); known = (let k = mine.1.known in omega arith) })))
            (λ j u other e. (
              (λ p. let theirs = (h.fits j u e).0 p in (theirs.0, record { stream_is = theirs.1.stream_is; capacity_is = theirs.1.capacity_is; count = (let c = theirs.1.count in omega arith) })),
              (λ t. absurd (other (((h.fits j u e).1 t).0 ∙ sym mine.0))),
            ));
      },
      (refl, there),
    )

-- the whole view of an empty queue is cut in two, with any stream and capacity
pub splits : (id : ℕ) (v : View) (stream : List ℕ) (room : ℕ) → v.puts ≡ true → v.takes ≡ true → v.put ≡ 0 → Forks Keeps id v (putter stream room 0) (taker stream room 0 0)
splits id v stream room may may' none_put items views h at =
    let l : View = putter stream room 0 in
    let r : View = taker stream room 0 0 in
    let mine = (h.fits id v at).0 may in
    let mine' = (h.fits id v at).1 may' in
    let vs = set views id l in
    let tail : length h.done + length items ≡ 0 = sym mine.1.count ∙ none_put in
    let empty : length items ≡ 0 = omega arith in
    let Old : ℕ → View → Type 0 = λ j u. (u.puts ≡ true → (j ≡ id) × FitsPut stream room (0 + length items) u) × (u.takes ≢ true) in
    let old : OfEach Old vs = of_each-set Old views id l
    ((λ _. (refl, record { stream_is = refl; capacity_is = refl; count = omega arith })), (λ t. true≢false (sym t)))
    (λ j u other e. ((λ p. absurd (other (((h.fits j u e).0 p).0 ∙ sym mine.0))), (λ t. other (((h.fits j u e).1 t).0 ∙ sym mine'.0)))) in
    record {
      putter = id;
      taker = length vs;
      stream = stream;
      room = room;
      done = [];
      rest = stream;
      stream_is = ap (λ q. q ++ stream) (sym (nil_from_length items empty));
      few = omega arith;
      fits = λ j u e. ⊎_elim (λ x. ((old j u x).0, λ t. absurd ((old j u x).1 t)))
          (λ (is : r ≡ u). (
            (λ p. absurd (true≢false (sym (ap (λ (y : View). y.puts) is ∙ p)))),
            (λ t. (at_end vs r u j (λ x. (old j u x).1 t) e, subst (λ (y : View). FitsTake stream room 0 (0 + length items) y) is record { stream_is = refl; capacity_is = refl; count = refl; known = omega arith })),
          )) (at_snoc vs r u j e);
    }

pub splits_again : (id : ℕ) (v : View) → v.puts ≡ true → v.takes ≡ true → Forks Keeps id v (putter v.stream v.capacity v.put) (taker v.stream v.capacity v.taken v.put)
splits_again id v may may' items views h at =
    let l : View = putter v.stream v.capacity v.put in
    let r : View = taker v.stream v.capacity v.taken v.put in
    let mine = (h.fits id v at).0 may in
    let mine' = (h.fits id v at).1 may' in
    let vs = set views id l in
    let head = length h.done in
    let tail = length h.done + length items in
    let Old : ℕ → View → Type 0 = λ j u. (u.puts ≡ true → (j ≡ id) × FitsPut h.stream h.room tail u) × (u.takes ≢ true) in
    let old : OfEach Old vs = of_each-set Old views id l
    ((λ _. (refl, record { stream_is = mine.1.stream_is; capacity_is = mine.1.capacity_is; count = mine.1.count })), (λ t. true≢false (sym t)))
    (λ j u other e. ((λ p. absurd (other (((h.fits j u e).0 p).0 ∙ sym mine.0))), (λ t. other (((h.fits j u e).1 t).0 ∙ sym mine'.0)))) in
    record {
      putter = id;
      taker = length vs;
      stream = h.stream;
      room = h.room;
      done = h.done;
      rest = h.rest;
      stream_is = h.stream_is;
      few = h.few;
      fits = λ j u e. ⊎_elim (λ x. ((old j u x).0, λ t. absurd ((old j u x).1 t)))
          (λ (is : r ≡ u). (
            (λ p. absurd (true≢false (sym (ap (λ (y : View). y.puts) is ∙ p)))),
            (λ t. (
              at_end vs r u j (λ x. (old j u x).1 t) e,
              subst (λ (y : View). FitsTake h.stream h.room head tail y) is record { stream_is = mine.1.stream_is; capacity_is = mine.1.capacity_is; count = mine'.1.count; known = (let q = mine.1.count in omega arith) },
            )),
          )) (at_snoc vs r u j e);
    }

pub joins : (id : ℕ) (v : View) (other : ℕ) (u : View) → v.puts ≡ true → u.takes ≡ true → Merges Keeps id v other u (whole v.stream v.capacity v.put u.taken) spent
joins id v other u may may' items views h at two at' =
    let both : View = whole v.stream v.capacity v.put u.taken in
    let mine = (h.fits id v at).0 may in
    let vs = set views id both in
    let was : get_elem? views other ≡ some u = ⊎_elim (λ x. absurd (two x.0)) (λ x. x.1) (at_set views id other both u at') in
    let theirs = (h.fits other u was).1 may' in
    let F : ℕ → View → Type 0 = Fits h.stream h.room (length h.done) (length h.done + length items) id id in
    let Now : ℕ → View → Type 0 = λ j y. j ≢ other → F j y in
    let now : OfEach Now vs = of_each-set Now views id both
    (λ _. (
      (λ _. (refl, record { stream_is = mine.1.stream_is; capacity_is = mine.1.capacity_is; count = mine.1.count })),
      (λ _. (refl, record { stream_is = mine.1.stream_is; capacity_is = mine.1.capacity_is; count = theirs.1.count; known = omega arith })),
    ))
    (λ j y no e apart. ((λ p. absurd (no (((h.fits j y e).0 p).0 ∙ sym mine.0))), (λ t. absurd (apart (((h.fits j y e).1 t).0 ∙ sym theirs.0))))) in
    record {
      putter = id;
      taker = id;
      stream = h.stream;
      room = h.room;
      done = h.done;
      rest = h.rest;
      stream_is = h.stream_is;
      few = h.few;
      fits = of_each-set F vs other spent ((λ p. absurd (true≢false (sym p))), (λ t. absurd (true≢false (sym t)))) (λ j y apart e. now j y e apart);
    }

pub put_learns : (id : ℕ) (v : View) → v.puts ≡ true → Learns Keeps id v (λ items. length items ≤ v.put)
put_learns id v may items views h at = let mine = ((h.fits id v at).0 may).1 in let c = mine.count in omega arith

pub take_learns : (id : ℕ) (v : View) → v.takes ≡ true
    → Learns Keeps id v (λ items. (v.known ≤ v.taken + length items) × (length items ≤ v.capacity) × (v.puts ≡ true → v.put ≡ v.taken + length items))
take_learns id v may items views h at = let mine = ((h.fits id v at).1 may).1 in let c = mine.count in let k = mine.known in let f = h.few in let r = mine.capacity_is in (
  omega arith,
  omega arith,
  (λ p. let m = ((h.fits id v at).0 p).1 in let d = m.count in omega arith),
)
