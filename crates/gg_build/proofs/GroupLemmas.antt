-- The machines of a plan are grouped by hosts, one after another.
use Rattle.std.proofs.Common.{◌≡◌, ◌≢◌, ◌⊎◌, inl, inr, ℕ, zero, suc, ◌+◌, ◌<◌, ◌≤◌, List, [], ◌∷◌, ◌++◌, Option, None, Some, length, map, get_or, refl, sym, ap, subst, ◌∙◌, below_more, arith}
use Rattle.std.specs.Prelude.{slice_set}
use Rattle.std.proofs.lemmas.Bool.{cases_eq}
use Rattle.std.proofs.lemmas.List.{get_or_push, get_or_append_left, get_or-set_same, get_or-set_other, get_or-map, length-append, length-set, map-set}
use Rattle.std.proofs.lemmas.Option.{none-some, same_Some}
use Rattle.gg_flat.specs.Line.{value_at}
use Rattle.gg_build.specs.inside.Groups.{group_at, IsMember, AreGrouped, AllHaveSome, AreGroups, host_for, AreNumbered, AreSoFar, IsHostFor, FirstsAscend, HasEarlier}

-- ---- a host more

group-open : (members : List (List ℕ)) (h : ℕ) → group_at (members ++ [] ∷ []) h ≡ group_at members h
group-open [] zero = refl
group-open [] (suc h) = refl
group-open (group ∷ members) zero = refl
group-open (group ∷ members) (suc h) = group-open members h

grouped-open : (count : ℕ) (hosts threads : List ℕ) (members : List (List ℕ)) → AreGrouped count hosts threads members → AreGrouped count hosts threads (members ++ [] ∷ [])
grouped-open count hosts threads members was =
    record {
      host_count = was.host_count;
      thread_count = was.thread_count;
      at = λ m lt.
          let at = was.at m lt in
          let same = sym (group-open members (value_at hosts m)) in
          record {
            host = omega (arith, at.host, length-append members ([] ∷ []));
            thread = subst (λ (l : List ℕ). value_at threads m < length l) same at.thread;
            is = subst (λ (l : List ℕ). value_at l (value_at threads m) ≡ m) same at.is;
          };
      known = λ h. subst (λ (l : List ℕ). (t : ℕ) → t < length l → value_at l t < count) (sym (group-open members h)) (was.known h);
      back = λ h. subst (λ (l : List ℕ). (t : ℕ) → t < length l → (value_at hosts (value_at l t) ≡ h) × (value_at threads (value_at l t) ≡ t)) (sym (group-open members h)) (was.back h);
      few = λ h. subst (λ (l : List ℕ). length l ≤ count) (sym (group-open members h)) (was.few h);
    }

numbered-open : (planned : List ℕ) (count : ℕ) (numbers : List (Option ℕ)) (hosts : List ℕ) (total p : ℕ) → p < length numbers → host_for numbers p ≡ None → AreNumbered planned count numbers hosts total → AreNumbered planned count (slice_set numbers p (Some total)) hosts (total + 1)
numbered-open planned count numbers hosts total p lt none was =
    record {
      each = λ m low. each m low (cases_eq (value_at planned m) p);
      known = λ q h is. known q h is (cases_eq q p);
      once = λ q r h one other. once q r h one other (cases_eq q p) (cases_eq r p);
    }
  where
    here : host_for (slice_set numbers p (Some total)) p ≡ Some total
    here = get_or-set_same numbers p (Some total) None lt

    there : (q : ℕ) → q ≢ p → host_for (slice_set numbers p (Some total)) q ≡ host_for numbers q
    there q other = get_or-set_other numbers p q (Some total) None other

    is-total : (q h : ℕ) → q ≡ p → host_for (slice_set numbers p (Some total)) q ≡ Some h → total ≡ h
    is-total q h same is = same_Some total h (sym here ∙ ap (host_for (slice_set numbers p (Some total))) (sym same) ∙ is)

    each : (m : ℕ) → m < count → (value_at planned m ≡ p) ⊎ (value_at planned m ≢ p) → host_for (slice_set numbers p (Some total)) (value_at planned m) ≡ Some (value_at hosts m)
    each m low (inl same) = absurd (none-some (value_at hosts m) (sym none ∙ ap (host_for numbers) (sym same) ∙ was.each m low))
    each m low (inr other) = there (value_at planned m) other ∙ was.each m low

    known : (q h : ℕ) → host_for (slice_set numbers p (Some total)) q ≡ Some h → (q ≡ p) ⊎ (q ≢ p) → h < total + 1
    known q h is (inl same) = let at = is-total q h same is in omega (arith, at)
    known q h is (inr other) = let low = was.known q h (sym (there q other) ∙ is) in omega (arith, low)

    once : (q r h : ℕ) → host_for (slice_set numbers p (Some total)) q ≡ Some h → host_for (slice_set numbers p (Some total)) r ≡ Some h → (q ≡ p) ⊎ (q ≢ p) → (r ≡ p) ⊎ (r ≢ p) → q ≡ r
    once q r h one two (inl same) (inl also) = same ∙ sym also
    once q r h one two (inl same) (inr other) = let low = was.known r h (sym (there r other) ∙ two) in absurd (omega (arith, low, is-total q h same one))
    once q r h one two (inr other) (inl also) = let low = was.known q h (sym (there q other) ∙ one) in absurd (omega (arith, low, is-total r h also two))
    once q r h one two (inr other) (inr third) = was.once q r h (sym (there q other) ∙ one) (sym (there r third) ∙ two)

-- ---- a machine more

module _ (count host : ℕ) (hosts threads : List ℕ) (members : List (List ℕ)) (known : host < length members) (was : AreGrouped count hosts threads members) where
  abbrev own : List ℕ
  own = group_at members host

  abbrev joined : List (List ℕ)
  joined = slice_set members host (group_at members host ++ count ∷ [])

  joined-here : (h : ℕ) → h ≡ host → group_at joined h ≡ own ++ count ∷ []
  joined-here h same = ap (group_at joined) same ∙ get_or-set_same members host (own ++ count ∷ []) [] known

  joined-there : (h : ℕ) → h ≢ host → group_at joined h ≡ group_at members h
  joined-there h other = get_or-set_other members host h (own ++ count ∷ []) [] other

  own-count : length (own ++ count ∷ []) ≡ length own + 1
  own-count = length-append own (count ∷ [])

  last : value_at (own ++ count ∷ []) (length own) ≡ count
  last = get_or_push own count 0 (length own) refl

  earlier : (t : ℕ) → t < length own → value_at (own ++ count ∷ []) t ≡ value_at own t
  earlier t lt = get_or_append_left own (count ∷ []) 0 t lt

  host-before : (m : ℕ) → m < count → value_at (hosts ++ host ∷ []) m ≡ value_at hosts m
  host-before m lt = get_or_append_left hosts (host ∷ []) 0 m (omega (arith, lt, was.host_count))

  thread-before : (m : ℕ) → m < count → value_at (threads ++ length own ∷ []) m ≡ value_at threads m
  thread-before m lt = get_or_append_left threads (length own ∷ []) 0 m (omega (arith, lt, was.thread_count))

  host-now : value_at (hosts ++ host ∷ []) count ≡ host
  host-now = get_or_push hosts host 0 count was.host_count

  thread-now : value_at (threads ++ length own ∷ []) count ≡ length own
  thread-now = get_or_push threads (length own) 0 count was.thread_count

  member-on : (h t m : ℕ) → IsMember members h t m → (h ≡ host) ⊎ (h ≢ host) → IsMember joined h t m
  member-on h t m is (inl same) =
      let low : t < length own = subst (λ k. t < length (group_at members k)) same is.thread in
      record {
        host = omega (arith, is.host, length-set members host (own ++ count ∷ []));
        thread = omega (arith, low, own-count, ap length (joined-here h same));
        is = ap (λ (l : List ℕ). value_at l t) (joined-here h same) ∙ earlier t low ∙ ap (λ k. value_at (group_at members k) t) (sym same) ∙ is.is;
      }
  member-on h t m is (inr other) =
      record {
        host = omega (arith, is.host, length-set members host (own ++ count ∷ []));
        thread = omega (arith, is.thread, ap length (joined-there h other));
        is = ap (λ (l : List ℕ). value_at l t) (joined-there h other) ∙ is.is;
      }

  member-now : IsMember joined host (length own) count
  member-now =
      record {
        host = omega (arith, known, length-set members host (own ++ count ∷ []));
        thread = omega (arith, own-count, ap length (joined-here host refl));
        is = ap (λ (l : List ℕ). value_at l (length own)) (joined-here host refl) ∙ last;
      }

  -- a property of the machine at a thread, which holds of the earlier threads and of the new one
  of-joined : (P : ℕ → ℕ → ℕ → Type 0) → ((h t : ℕ) → t < length (group_at members h) → P h t (value_at (group_at members h) t)) → P host (length own) count → (h t : ℕ) → t < length (group_at joined h) → P h t (value_at (group_at joined h) t)
  of-joined P before now h t lt = by (cases_eq h host)
    where
      by : (h ≡ host) ⊎ (h ≢ host) → P h t (value_at (group_at joined h) t)
      by (inr other) = subst (λ (l : List ℕ). P h t (value_at l t)) (sym (joined-there h other)) (before h t (omega (arith, lt, ap length (joined-there h other))))
      by (inl same) =
          subst (λ (l : List ℕ). P h t (value_at l t)) (sym (joined-here h same))
          (subst (λ k. P k t (value_at (own ++ count ∷ []) t)) (sym same)
          (below_more (λ i. P host i (value_at (own ++ count ∷ []) i)) (length own)
          (λ i low. subst (P host i) (sym (earlier i low)) (before host i low))
          (subst (P host (length own)) (sym last) now)
          t (omega (arith, lt, own-count, ap length (joined-here h same)))))

  pub grouped-join : AreGrouped (count + 1) (hosts ++ host ∷ []) (threads ++ length own ∷ []) joined
  grouped-join =
      record {
        host_count = length-append hosts (host ∷ []) ∙ ap (λ k. k + 1) was.host_count;
        thread_count = length-append threads (length own ∷ []) ∙ ap (λ k. k + 1) was.thread_count;
        at = below_more (λ m. IsMember joined (value_at (hosts ++ host ∷ []) m) (value_at (threads ++ length own ∷ []) m) m) count
            (λ m lt.
            subst (λ h. IsMember joined h (value_at (threads ++ length own ∷ []) m) m) (sym (host-before m lt))
            (subst (λ t. IsMember joined (value_at hosts m) t m) (sym (thread-before m lt)) (member-on (value_at hosts m) (value_at threads m) m (was.at m lt) (cases_eq (value_at hosts m) host))))
            (subst (λ h. IsMember joined h (value_at (threads ++ length own ∷ []) count) count) (sym host-now) (subst (λ t. IsMember joined host t count) (sym thread-now) member-now));
        known = of-joined (λ h t m. m < count + 1) (λ h t lt. let low = was.known h t lt in omega (arith, low)) (omega arith);
        back = of-joined (λ h t m. (value_at (hosts ++ host ∷ []) m ≡ h) × (value_at (threads ++ length own ∷ []) m ≡ t))
            (λ h t lt. let low = was.known h t lt in let is = was.back h t lt in (host-before (value_at (group_at members h) t) low ∙ is.0, thread-before (value_at (group_at members h) t) low ∙ is.1))
            (host-now, thread-now);
        few = λ h. few h (cases_eq h host);
      }
    where
      few : (h : ℕ) → (h ≡ host) ⊎ (h ≢ host) → length (group_at joined h) ≤ count + 1
      few h (inl same) = let le = was.few host in omega (arith, le, own-count, ap length (joined-here h same))
      few h (inr other) = let le = was.few h in omega (arith, le, ap length (joined-there h other))

  pub some-join : ((h : ℕ) → h < length members → h ≢ host → 0 < length (group_at members h)) → AllHaveSome joined
  some-join some = λ h lt. by h (omega (arith, lt, length-set members host (own ++ count ∷ []))) (cases_eq h host)
    where
      by : (h : ℕ) → h < length members → (h ≡ host) ⊎ (h ≢ host) → 0 < length (group_at joined h)
      by h lt (inl same) = omega (arith, own-count, ap length (joined-here h same))
      by h lt (inr other) = let more = some h lt other in omega (arith, more, ap length (joined-there h other))

  pub numbered-join : (planned : List ℕ) (numbers : List (Option ℕ)) (total : ℕ) → host_for numbers (value_at planned count) ≡ Some host → AreNumbered planned count numbers hosts total → AreNumbered planned (count + 1) numbers (hosts ++ host ∷ []) total
  numbered-join planned numbers total found are =
      record {
        each = below_more (λ m. host_for numbers (value_at planned m) ≡ Some (value_at (hosts ++ host ∷ []) m)) count
            (λ m lt. are.each m lt ∙ ap (λ (h : ℕ). Some h) (sym (host-before m lt)))
            (found ∙ ap (λ (h : ℕ). Some h) (sym host-now));
        known = are.known;
        once = are.once;
      }

  -- a host below that of the new machine has one already, its first
  pub ascend-join : ((h : ℕ) → h < length members → h ≢ host → 0 < length (group_at members h)) → FirstsAscend (value_at hosts) count → FirstsAscend (value_at (hosts ++ host ∷ [])) (count + 1)
  ascend-join some are = λ m h lt. below_more (λ m. (h : ℕ) → h < value_at (hosts ++ host ∷ []) m → HasEarlier (value_at (hosts ++ host ∷ [])) h m) count before now m lt h
    where
      before : (m : ℕ) → m < count → (h : ℕ) → h < value_at (hosts ++ host ∷ []) m → HasEarlier (value_at (hosts ++ host ∷ [])) h m
      before m lt h less =
          let old = are m h lt (subst (λ k. h < k) (host-before m lt) less) in
          record { machine = old.machine; earlier = old.earlier; host = host-before old.machine (omega (arith, old.earlier, lt)) ∙ old.host }

      now : (h : ℕ) → h < value_at (hosts ++ host ∷ []) count → HasEarlier (value_at (hosts ++ host ∷ [])) h count
      now h less =
          let low : h < host = subst (λ k. h < k) host-now less in
          let have = some h (omega (arith, low, known)) (λ same. absurd (omega (arith, low, same))) in
          let first = value_at (group_at members h) 0 in
          record { machine = first; earlier = was.known h 0 have; host = host-before first (was.known h 0 have) ∙ (was.back h 0 have).0 }

-- ---- all machines

module _ (planned : List ℕ) (count host : ℕ) (numbers changed : List (Option ℕ)) (hosts threads : List ℕ) (members grown : List (List ℕ)) (lt : count < length planned) (few : value_at planned count < length planned) (was : AreSoFar planned count numbers hosts threads members) where
  abbrev more : List (List ℕ)
  more = slice_set grown host (group_at grown host ++ count ∷ [])

  record IsReady : Type 0 where
    low : host < length grown
    grouped : AreGrouped count hosts threads grown
    some : (h : ℕ) → h < length grown → h ≢ host → 0 < length (group_at grown h)
    numbered : AreNumbered planned count changed hosts (length grown)
    found : host_for changed (value_at planned count) ≡ Some host
    size : length changed ≡ length planned
    most : length grown ≤ count + 1

  ready : IsHostFor (value_at planned count) host numbers changed members grown → IsReady
  ready (inl is) =
      let found : host_for changed (value_at planned count) ≡ Some host = ap (λ l. host_for l (value_at planned count)) is.numbers ∙ is.found in
      record {
        low = subst (λ (l : List (List ℕ)). host < length l) (sym is.same) (was.numbered.known (value_at planned count) host is.found);
        grouped = subst (AreGrouped count hosts threads) (sym is.same) was.grouped;
        some = λ h. subst (λ (l : List (List ℕ)). h < length l → h ≢ host → 0 < length (group_at l h)) (sym is.same) (λ low other. was.some h low);
        numbered = subst (λ (l : List (List ℕ)). AreNumbered planned count changed hosts (length l)) (sym is.same) (subst (λ l. AreNumbered planned count l hosts (length members)) (sym is.numbers) was.numbered);
        found = found;
        size = ap length is.numbers ∙ was.size;
        most = let most = was.most in omega (arith, most, ap length is.same);
      }
  ready (inr is) =
      let p = value_at planned count in
      let within : p < length numbers = omega (arith, few, was.size) in
      let total : length grown ≡ length members + 1 = ap length is.longer ∙ length-append members ([] ∷ []) in
      let set : changed ≡ slice_set numbers p (Some (length members)) = is.numbers ∙ ap (λ (h : ℕ). slice_set numbers p (Some h)) is.next in
      record {
        low = omega (arith, total, is.next);
        grouped = subst (AreGrouped count hosts threads) (sym is.longer) (grouped-open count hosts threads members was.grouped);
        some = λ h low other.
            let less : h < length members = omega (arith, low, total, is.next, other) in
            subst (λ (l : List ℕ). 0 < length l) (sym (ap (λ l. group_at l h) is.longer ∙ group-open members h)) (was.some h less);
        numbered = subst (AreNumbered planned count changed hosts) (sym total) (subst (λ l. AreNumbered planned count l hosts (length members + 1)) (sym set) (numbered-open planned count numbers hosts (length members) p within is.none was.numbered));
        found = ap (λ l. host_for l p) is.numbers ∙ get_or-set_same numbers p (Some host) None within;
        size = ap length is.numbers ∙ length-set numbers p (Some host) ∙ was.size;
        most = let most = was.most in omega (arith, most, total);
      }

  -- the host of the next machine is known, and has no more threads than machines came before
  pub host-joins : IsHostFor (value_at planned count) host numbers changed members grown → (host < length grown) × (length (group_at grown host) ≤ count)
  host-joins is = let now = ready is in (now.low, now.grouped.few host)

  pub so-far-more : (thread : ℕ) (new_hosts new_threads : List ℕ) (new : List (List ℕ)) → IsHostFor (value_at planned count) host numbers changed members grown → thread ≡ length (group_at grown host) → new_hosts ≡ hosts ++ host ∷ [] → new_threads ≡ threads ++ thread ∷ [] → new ≡ more
      → AreSoFar planned (count + 1) changed new_hosts new_threads new
  so-far-more thread new_hosts new_threads new is at host_is thread_is new_is =
      let now = ready is in
      subst (AreSoFar planned (count + 1) changed new_hosts new_threads) (sym new_is)
      (subst (λ l. AreSoFar planned (count + 1) changed l new_threads more) (sym host_is)
      (subst (λ l. AreSoFar planned (count + 1) changed (hosts ++ host ∷ []) l more) (sym (thread_is ∙ ap (λ t. threads ++ t ∷ []) at))
      (record {
        grouped = grouped-join count host hosts threads grown now.low now.grouped;
        some = some-join count host hosts threads grown now.low now.grouped now.some;
        numbered = subst (AreNumbered planned (count + 1) changed (hosts ++ host ∷ [])) (sym (length-set grown host (group_at grown host ++ count ∷ [])))
            (numbered-join count host hosts threads grown now.low now.grouped planned changed (length grown) now.found now.numbered);
        ascend = ascend-join count host hosts threads grown now.low now.grouped now.some was.ascend;
        size = now.size;
        most = let most = now.most in omega (arith, most, length-set grown host (group_at grown host ++ count ∷ []));
      })))

pub so-far-all : (planned : List ℕ) (count : ℕ) (numbers : List (Option ℕ)) (hosts threads : List ℕ) (members : List (List ℕ)) → count ≡ length planned → AreSoFar planned count numbers hosts threads members → AreGroups planned hosts threads members
so-far-all planned count numbers hosts threads members all are =
    record {
      grouped = subst (λ k. AreGrouped k hosts threads members) all are.grouped;
      some = are.some;
      ascend = subst (FirstsAscend (value_at hosts)) all are.ascend;
      together = λ m k low less.
          let one = are.numbered.each m (omega (arith, low, all)) in
          let other = are.numbered.each k (omega (arith, less, all)) in (
            λ same. same_Some (value_at hosts m) (value_at hosts k) (sym one ∙ ap (host_for numbers) same ∙ other),
            λ same. are.numbered.once (value_at planned m) (value_at planned k) (value_at hosts k) (one ∙ ap (λ (h : ℕ). Some h) same) other,
          );
    }

-- ---- lists that are shown by a function, as the items of a `Vec`

module _ {X : Type 0} (shown : X → List ℕ) (parts : List X) where
  pub shown-at : (i : ℕ) (part : X) → i < length parts → part ≡ get_or parts i part → shown part ≡ group_at (map shown parts) i
  shown-at i part lt is = ap shown is ∙ sym (get_or-map shown parts i part [] lt)

  pub shown-pushed : (i item : ℕ) (old new : X) → i < length parts → old ≡ get_or parts i old → shown new ≡ shown old ++ item ∷ [] → map shown (slice_set parts i new) ≡ slice_set (map shown parts) i (group_at (map shown parts) i ++ item ∷ [])
  shown-pushed i item old new lt is more =
      map-set shown parts i new ∙ ap (slice_set (map shown parts) i) (more ∙ ap (λ l. l ++ item ∷ []) (shown-at i old lt is))
