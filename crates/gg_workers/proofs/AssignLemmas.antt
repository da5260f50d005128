-- One host is assigned, or collected.
use Rattle.std.proofs.Common.{◌≡◌, ◌≢◌, ℕ, ◌+◌, ◌-◌, ◌<◌, ◌≤◌, ◌%◌, List, [], ◌∷◌, ◌++◌, length, map, slice_index_or, slice_set, sym, refl, ap, ◌∙◌, subst, arith, add-one, true, false, inl, inr, length-append, length-set, rules, nat_eq, append-nil}
use Rattle.std.proofs.lemmas.Bool.{cases_eq}
use Rattle.std.proofs.lemmas.List.{length-map, get_or_append_left, same_from_push, map-append}
use Rattle.std.specs.Prelude.{if◌then◌else◌}
use Rattle.std.specs.Vec.{vec_capacity}
use Rattle.gg_workers.specs.declared.worker.LinkedHost.{LinkedHost}
use Rattle.gg_workers.specs.declared.worker.Worker.{Worker}
use Rattle.gg_workers.specs.inside.Making.{AreIdle}
use Rattle.gg_workers.specs.inside.Assigned.{share_of, IsOf, Assigning, IsFrom, Collecting}
use Rattle.std.proofs.Math.Nat.{mod-lt}
use Rattle.std.proofs.Common.{Some}
use Rattle.std.proofs.lemmas.Option.{same_Some}
use Rattle.gg_workers.proofs.ListLemmas.{set_cases, read_at, last_is}

test_yes : (a b : ℕ) → a ≡ b → nat_eq a b ≡ true
test_yes a b e = search (rules, e)

test_no : (a b : ℕ) → a ≢ b → nat_eq a b ≡ false
test_no a b e = search (rules, e)

pub share_yes : (w j h d : ℕ) → h % w ≡ j → share_of w j h (d + 1) ≡ share_of w j (h + 1) d ++ h ∷ []
share_yes w j h d e = rw add-one (ap (λ b. share_of w j (h + 1) d ++ (if b then h ∷ [] else [])) (test_yes (h % w) j e))

pub share_no : (w j h d : ℕ) → h % w ≢ j → share_of w j h (d + 1) ≡ share_of w j (h + 1) d
share_no w j h d e = rw add-one (ap (λ b. share_of w j (h + 1) d ++ (if b then h ∷ [] else [])) (test_no (h % w) j e) ∙ append-nil (share_of w j (h + 1) d))

module _ {H S T : Type 0} where
  -- no host is assigned yet
  pub assign_begin : (ss : List (LinkedHost H S T)) (ws : List (Worker H S T)) (w hosts : ℕ) → AreIdle w hosts ws → length ss ≡ hosts → Assigning ss (length ws) (length ss) 0 ss ws
  assign_begin ss ws w hosts idle count =
      record {
        count = refl;
        long = refl;
        whole = omega arith;
        same = λ k e lt. refl;
        numbers = λ j e lt. ap (map (λ s. s.number)) (idle.none j e lt);
        of_all = λ j k e f lt low. absurd (omega (arith, low, ap length (idle.none j e lt)));
        room = λ j e lt. omega (arith, ap length (idle.none j e lt), idle.room j e lt, count);
      }

  pub assign_step : (ss0 : List (LinkedHost H S T)) (w h d : ℕ) (old rest : List (LinkedHost H S T)) (s : LinkedHost H S T) (ws : List (Worker H S T)) (v u : Worker H S T)
      → Assigning ss0 w (h + 1) d old ws → old ≡ rest ++ s ∷ [] → length rest ≡ h → h % w < w → ((k : ℕ) (e : LinkedHost H S T) → k < length ss0 → (slice_index_or ss0 k e).number ≡ k)
      → ((e : Worker H S T) → slice_index_or ws (h % w) e ≡ v) → u.linked_hosts.items ≡ v.linked_hosts.items ++ s ∷ [] → vec_capacity u.linked_hosts ≡ vec_capacity v.linked_hosts
      → Assigning ss0 w h (d + 1) rest (slice_set ws (h % w) u)
  assign_step ss0 w h d old rest s ws v u a popped long inside numbered was items capped =
      let in_ws : h % w < length ws = rw a.count inside in
      let low : h < length ss0 = (let x = a.whole in omega arith) in
      let last : (e : LinkedHost H S T) → slice_index_or ss0 h e ≡ s =
      (λ e. sym (a.same h e (omega arith)) ∙ ap (λ l. slice_index_or l h e) popped ∙ ap (λ k. slice_index_or (rest ++ s ∷ []) k e) (sym long) ∙ last_is rest s e) in
      let is : s.number ≡ h = sym (ap (λ x. x.number) (last s)) ∙ numbered h s low in
      record {
        count = length-set ws (h % w) u ∙ a.count;
        long = long;
        whole = (let x = a.whole in omega arith);
        same = λ k e lt. sym (get_or_append_left rest (s ∷ []) e k (rw long lt)) ∙ ap (λ l. slice_index_or l k e) (sym popped) ∙ a.same k e (omega arith);
        numbers = λ j e lt. set_cases (λ i x. map (λ s. s.number) x.linked_hosts.items ≡ share_of w i h (d + 1)) ws (h % w) u in_ws j e
            (λ at. rw items (map-append (λ s. s.number) v.linked_hosts.items (s ∷ []) ∙ ap (λ l. l ++ s.number ∷ []) (ap (λ x. map (λ s. s.number) x.linked_hosts.items) (sym (was v)) ∙ a.numbers (h % w) v inside) ∙ ap (λ k. share_of w (h % w) (h + 1) d ++ k ∷ []) is ∙ sym (share_yes w (h % w) h d refl)))
            (λ ne. a.numbers j e lt ∙ sym (share_no w j h d (λ f. ne (sym f))));
        of_all = λ j k e f lt. set_cases (λ i x. k < length x.linked_hosts.items → IsOf ss0 (slice_index_or x.linked_hosts.items k f)) ws (h % w) u in_ws j e
            (λ at. rw items (λ le. elim (cases_eq k (length v.linked_hosts.items)) [
              | inl end ↦
                  let last_at : slice_index_or (v.linked_hosts.items ++ s ∷ []) k f ≡ s = ap (λ i. slice_index_or (v.linked_hosts.items ++ s ∷ []) i f) end ∙ last_is v.linked_hosts.items s f in
                  let mine : IsOf ss0 s = record { below = rw is low; there = λ e. subst (λ (k : ℕ). slice_index_or ss0 k e ≡ s) (sym is) (last e) } in
                  subst (λ (x : LinkedHost H S T). IsOf ss0 x) (sym last_at) mine
              | inr ne ↦
                  let small : k < length v.linked_hosts.items = omega (arith, length-append v.linked_hosts.items (s ∷ [])) in
                  let P : Worker H S T → Type 0 = λ x. k < length x.linked_hosts.items → IsOf ss0 (slice_index_or x.linked_hosts.items k f) in
                  subst (λ (x : LinkedHost H S T). IsOf ss0 x) (sym (get_or_append_left v.linked_hosts.items (s ∷ []) f k small)) (subst P (was v) (a.of_all (h % w) k v f inside) small)
            ]))
            (λ ne. a.of_all j k e f lt);
        room = λ j e lt. set_cases (λ i x. length x.linked_hosts.items + h ≤ vec_capacity x.linked_hosts) ws (h % w) u in_ws j e
            (λ at.
            let P : Worker H S T → Type 0 = λ x. length x.linked_hosts.items + (h + 1) ≤ vec_capacity x.linked_hosts in
            let old_room = subst P (was v) (a.room (h % w) v inside) in
            let more : length u.linked_hosts.items ≡ length v.linked_hosts.items + 1 = rw items (length-append v.linked_hosts.items (s ∷ [])) in
            omega arith)
            (λ ne. let x = a.room j e lt in omega arith);
      }

  pub collect_some : (ws0 : List (Worker H S T)) (w m d : ℕ) (ws : List (Worker H S T)) (ss : List (LinkedHost H S T)) (v : Worker H S T) → Collecting ws0 w m (d + 1) ws ss → m % w < w → ((e : Worker H S T) → slice_index_or ws (m % w) e ≡ v)
      → map (λ s. s.number) v.linked_hosts.items ≡ share_of w (m % w) (m + 1) d ++ m ∷ []
  collect_some ws0 w m d ws ss v a inside was = ap (λ x. map (λ s. s.number) x.linked_hosts.items) (sym (was v)) ∙ a.numbers (m % w) v inside ∙ share_yes w (m % w) m d refl

  pub collect_long : (v : Worker H S T) (l : List ℕ) (m : ℕ) → map (λ s. s.number) v.linked_hosts.items ≡ l ++ m ∷ [] → 0 < length v.linked_hosts.items
  collect_long v l m e = let x : length v.linked_hosts.items ≡ length l + 1 = sym (length-map v.linked_hosts.items (λ s. s.number)) ∙ ap length e ∙ length-append l (m ∷ []) in omega arith

  pub collect_step : (ws0 : List (Worker H S T)) (w m d : ℕ) (ws : List (Worker H S T)) (ss : List (LinkedHost H S T)) (v u : Worker H S T) (s : LinkedHost H S T)
      → Collecting ws0 w m (d + 1) ws ss → m % w < w → ((e : Worker H S T) → slice_index_or ws (m % w) e ≡ v) → v.linked_hosts.items ≡ u.linked_hosts.items ++ s ∷ []
      → Collecting ws0 w (m + 1) d (slice_set ws (m % w) u) (ss ++ s ∷ [])
  collect_step ws0 w m d ws ss v u s a inside was items =
      let in_ws : m % w < length ws = rw a.count inside in
      let both : (map (λ s. s.number) u.linked_hosts.items ≡ share_of w (m % w) (m + 1) d) × (s.number ≡ m) =
      same_from_push (map (λ s. s.number) u.linked_hosts.items) (share_of w (m % w) (m + 1) d) s.number m
      (sym (map-append (λ s. s.number) u.linked_hosts.items (s ∷ [])) ∙ ap (λ l. map (λ s. s.number) l) (sym items) ∙ collect_some ws0 w m d ws ss v a inside was) in
      let more : length v.linked_hosts.items ≡ length u.linked_hosts.items + 1 = rw items (length-append u.linked_hosts.items (s ∷ [])) in
      let front : (k : ℕ) (e : Worker H S T) (f : LinkedHost H S T) → k < length v.linked_hosts.items → (k < length (slice_index_or ws0 (m % w) e).linked_hosts.items) × (slice_index_or v.linked_hosts.items k f ≡ slice_index_or (slice_index_or ws0 (m % w) e).linked_hosts.items k f) =
      (λ k e f. subst (λ (x : Worker H S T). k < length x.linked_hosts.items → (k < length (slice_index_or ws0 (m % w) e).linked_hosts.items) × (slice_index_or x.linked_hosts.items k f ≡ slice_index_or (slice_index_or ws0 (m % w) e).linked_hosts.items k f)) (was e) (a.fronts (m % w) k e f inside)) in
      record {
        count = length-set ws (m % w) u ∙ a.count;
        count0 = a.count0;
        long = (let l = a.long in omega (arith, length-append ss (s ∷ [])));
        numbers = λ j e lt. set_cases (λ i x. map (λ s. s.number) x.linked_hosts.items ≡ share_of w i (m + 1) d) ws (m % w) u in_ws j e
            (λ at. both.0)
            (λ ne. a.numbers j e lt ∙ share_no w j m d (λ f. ne (sym f)));
        fronts = λ j k e f lt. set_cases (λ i x. k < length x.linked_hosts.items → (k < length (slice_index_or ws0 i e).linked_hosts.items) × (slice_index_or x.linked_hosts.items k f ≡ slice_index_or (slice_index_or ws0 i e).linked_hosts.items k f)) ws (m % w) u in_ws j e
            (λ at le. let old = front k e f (omega (arith, more)) in (old.0, sym (get_or_append_left u.linked_hosts.items (s ∷ []) f k le) ∙ ap (λ l. slice_index_or l k f) (sym items) ∙ old.1))
            (λ ne. a.fronts j k e f lt);
        got = λ i f lt. elim (cases_eq i (length ss)) [
          | inl end ↦
              let at : slice_index_or (ss ++ s ∷ []) i f ≡ s = ap (λ k. slice_index_or (ss ++ s ∷ []) k f) end ∙ last_is ss s f in
              let place : ℕ = length u.linked_hosts.items in
              let last : (g : LinkedHost H S T) → slice_index_or v.linked_hosts.items (length u.linked_hosts.items) g ≡ s = (λ g. ap (λ l. slice_index_or l (length u.linked_hosts.items) g) items ∙ last_is u.linked_hosts.items s g) in
              let from : IsFrom ws0 s = record {
                worker = m % w;
                place = length u.linked_hosts.items;
                worker_in = rw a.count0 inside;
                place_in = λ e. (front (length u.linked_hosts.items) e s (omega (arith, more))).0;
                there = λ e g. sym (front (length u.linked_hosts.items) e g (omega (arith, more))).1 ∙ last g;
              } in
              (ap (λ x. x.number) at ∙ both.1 ∙ sym a.long ∙ sym end, subst (λ (x : LinkedHost H S T). IsFrom ws0 x) (sym at) from)
          | inr ne ↦
              let l = a.long in
              let small : i < length ss = omega arith in
              let old = a.got i f (omega arith) in
              let at : slice_index_or (ss ++ s ∷ []) i f ≡ slice_index_or ss i f = get_or_append_left ss (s ∷ []) f i small in
              (ap (λ x. x.number) at ∙ old.0, subst (λ (x : LinkedHost H S T). IsFrom ws0 x) (sym at) old.1)
        ];
      }

  -- a turn of the loop that assigns, over what the code has
  pub assign_turn : (ss0 old rest : List (LinkedHost H S T)) (s : LinkedHost H S T) (ws : List (Worker H S T)) (v u : Worker H S T) (w m len : ℕ)
      → Assigning ss0 w (length old) (length ss0 - length old) old ws → old ≡ rest ++ s ∷ [] → m ≡ length rest → len ≡ w → 0 < w → ((k : ℕ) (e : LinkedHost H S T) → k < length ss0 → (slice_index_or ss0 k e).number ≡ k)
      → v ≡ slice_index_or ws (m % len) v → u.linked_hosts.items ≡ v.linked_hosts.items ++ s ∷ [] → vec_capacity u.linked_hosts ≡ vec_capacity v.linked_hosts
      → Assigning ss0 w (length rest) (length ss0 - length rest) rest (slice_set ws (m % len) u)
  assign_turn ss0 old rest s ws v u w m len a popped mi li some numbered read items capped =
      let more : length old ≡ length rest + 1 = rw popped (length-append rest (s ∷ [])) in
      let at : m % len ≡ length rest % w = ap (λ k. k % len) mi ∙ ap (λ k. length rest % k) li in
      let inside : length rest % w < w = mod-lt (length rest) some in
      let d : ℕ = length ss0 - length old in
      let whole = a.whole in
      let rest_is : length ss0 - length rest ≡ (length ss0 - length old) + 1 = omega arith in
      let was : (e : Worker H S T) → slice_index_or ws (length rest % w) e ≡ v =
      read_at ws (length rest % w) v (rw a.count inside) (let P : ℕ → Type 0 = λ k. v ≡ slice_index_or ws k v in subst P at read) in
      let start : Assigning ss0 w (length rest + 1) (length ss0 - length old) old ws = subst (λ (k : ℕ). Assigning ss0 w k (length ss0 - length old) old ws) more a in
      let done : Assigning ss0 w (length rest) ((length ss0 - length old) + 1) rest (slice_set ws (length rest % w) u) = assign_step ss0 w (length rest) (length ss0 - length old) old rest s ws v u start popped refl inside numbered was items capped in
      let P : ℕ → ℕ → Type 0 = λ k i. Assigning ss0 w (length rest) k rest (slice_set ws i u) in
      subst (λ (i : ℕ). P (length ss0 - length rest) i) (sym at) (subst (λ (k : ℕ). P k (length rest % w)) (sym rest_is) done)

  module _ (ws0 : List (Worker H S T)) (w m n len : ℕ) (ws : List (Worker H S T)) (ss : List (LinkedHost H S T)) (v : Worker H S T) (a : Collecting ws0 w m (n - m) ws ss) (low : m < n) (li : len ≡ w) (some : 0 < w) (read : v ≡ slice_index_or ws (m % len) v) where
    g_at : m % len ≡ m % w
    g_at = ap (λ k. m % k) li

    g_left : n - m ≡ (n - (m + 1)) + 1
    g_left = omega arith

    g_start : Collecting ws0 w m ((n - (m + 1)) + 1) ws ss
    g_start = subst (λ (k : ℕ). Collecting ws0 w m k ws ss) g_left a

    g_inside : m % w < w
    g_inside = mod-lt m some

    g_was : (e : Worker H S T) → slice_index_or ws (m % w) e ≡ v
    g_was = read_at ws (m % w) v (rw a.count g_inside) (let P : ℕ → Type 0 = λ k. v ≡ slice_index_or ws k v in subst P g_at read)

    pub collect_turn_some : 0 < length v.linked_hosts.items
    collect_turn_some = collect_long v (share_of w (m % w) (m + 1) (n - (m + 1))) m (collect_some ws0 w m (n - (m + 1)) ws ss v g_start g_inside g_was)

    pub collect_turn : (u : Worker H S T) (s : LinkedHost H S T) → v.linked_hosts.items ≡ u.linked_hosts.items ++ s ∷ [] → Collecting ws0 w (m + 1) (n - (m + 1)) (slice_set ws (m % len) u) (ss ++ s ∷ [])
    collect_turn u s items = subst (λ (i : ℕ). Collecting ws0 w (m + 1) (n - (m + 1)) (slice_set ws i u) (ss ++ s ∷ [])) (sym g_at) (collect_step ws0 w m (n - (m + 1)) ws ss v u s g_start g_inside g_was items)

pub nothing_left : {A : Type 0} (xs : List A) → length xs ≡ 0 → xs ≡ []
nothing_left [] e = refl
nothing_left (x ∷ xs) e = absurd (omega arith)

-- the seat or station that came
pub came : {A : Type 0} (a : A) (l m : List A) → (x : A) × (Some a ≡ Some x) × (l ≡ m ++ x ∷ []) → l ≡ m ++ a ∷ []
came {A = A} a l m h = h.2 ∙ ap (λ y. m ++ y ∷ []) (sym (same_Some a h.0 h.1))

pub assign_end : {H S T : Type 0} (ss0 old : List (LinkedHost H S T)) (w : ℕ) (ws : List (Worker H S T)) → Assigning ss0 w (length old) (length ss0 - length old) old ws → length old ≡ 0 → Assigning ss0 w 0 (length ss0) [] ws
assign_end {H = H} {S = S} {T = T} ss0 old w ws a e =
    let none : old ≡ [] = nothing_left old e in
    let b : Assigning ss0 w 0 (length ss0 - 0) [] ws = subst (λ (l : List (LinkedHost H S T)). Assigning ss0 w (length l) (length ss0 - length l) l ws) none a in
    let f : length ss0 - 0 ≡ length ss0 = omega arith in
    subst (λ (k : ℕ). Assigning ss0 w 0 k [] ws) f b
