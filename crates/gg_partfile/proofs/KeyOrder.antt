-- The keys of an object that was read are in the order of their bytes.
use Rattle.std.proofs.Common.{◌≡◌, ℕ, List, [], ◌∷◌, Bool, true, false, true≢false, Option, Some, None, Ordering, Less, Equal, Greater, refl, sym, ap, ◌∙◌, subst, cond, arith}
use Rattle.std.specs.Prelude.{IfSome, AllPairs, All, option_map, option_and_then, is_some, codes}
use Rattle.std.specs.Ordering.{nat_cmp, match_ordering, ordering_reverse}
use Rattle.std.specs.Cmp.Lexicographic.{slice_cmp}
use Rattle.std.proofs.lemmas.Cmp.{nat_list_cmp_total}
use Rattle.std.proofs.lemmas.Map.Lookups.{exact_bytes}
use Rattle.std.proofs.lemmas.Option.{none-some, same_Some}
use Rattle.std.proofs.lemmas.List.Elements.{All-nil, All-cons}
use Rattle.std.proofs.lemmas.List.Kept.{AllPairs-cons}
use Rattle.json.specs.Lex.{tokens}
use Rattle.json.specs.Json as json
use Rattle.serde_json.specs.Data.{Data, null, boolean, number, string, array, object, Items, no_items, item, Members, no_members, member, put}
use Rattle.serde_json.specs.Find.{get, get_member}
use Rattle.serde_json.specs.Read.{number_of, of_json, of_items, of_members, max_depth, read}
use Rattle.gg_partfile.specs.inside.Order.{IsBefore, IsLeastUnknown}
use Rattle.gg_partfile.specs.Keys.{key_names, is_known, unknown, held, or_default, under}
use Rattle.gg_partfile.specs.Partition.{IsPartition}
use Rattle.gg_partfile.specs.Shapes.{whole, ratio, each_member, named, other_member}
use Rattle.gg_partfile.specs.declared.request.Request.{Request}

-- a key comes before all keys of an object
abbrev IsBeforeAll : List ℕ → Members → Type 0
IsBeforeAll k no_members = Unit {0}
IsBeforeAll k (member l e ms) = IsBefore k l × IsBeforeAll k ms

-- the keys of an object, and of the objects in it, are in order
abbrev mutual
  InOrder : Data → Type 0
  InOrder null = Unit {0}
  InOrder (boolean b) = Unit {0}
  InOrder (number n) = Unit {0}
  InOrder (string s) = Unit {0}
  InOrder (array ds) = ItemsInOrder ds
  InOrder (object ms) = MembersInOrder ms

  ItemsInOrder : Items → Type 0
  ItemsInOrder no_items = Unit {0}
  ItemsInOrder (item d ds) = InOrder d × ItemsInOrder ds

  MembersInOrder : Members → Type 0
  MembersInOrder no_members = Unit {0}
  MembersInOrder (member k d ms) = IsBeforeAll k ms × InOrder d × MembersInOrder ms

before-trans : (a b c : List ℕ) → IsBefore a b → IsBefore b c → IsBefore a c
before-trans a b c = nat_list_cmp_total.trans a b c

before-all : (k l : List ℕ) (ms : Members) → IsBefore k l → IsBeforeAll l ms → IsBeforeAll k ms
before-all k l no_members less h = tt
before-all k l (member m e ms) less h = (before-trans k l m less h.0, before-all k l ms less h.1)

-- ---- a member that is put into an object

put-before-at : (o : Ordering) (j k l : List ℕ) (d e : Data) (ms : Members) → IsBefore j k → IsBefore j l → IsBeforeAll j ms → IsBeforeAll j (put k d ms) → IsBeforeAll j (match_ordering o (member k d (member l e ms)) (member l d ms) (member l e (put k d ms)))
put-before-at Less j k l d e ms jk jl rest later = (jk, (jl, rest))
put-before-at Equal j k l d e ms jk jl rest later = (jl, rest)
put-before-at Greater j k l d e ms jk jl rest later = (jl, later)

put-before : (j k : List ℕ) (d : Data) (ms : Members) → IsBefore j k → IsBeforeAll j ms → IsBeforeAll j (put k d ms)
put-before j k d no_members jk h = (jk, tt)
put-before j k d (member l e ms) jk h = put-before-at (slice_cmp nat_cmp k l) j k l d e ms jk h.0 h.1 (put-before j k d ms jk h.1)

put-ordered-at : (o : Ordering) (k l : List ℕ) (d e : Data) (ms : Members) → slice_cmp nat_cmp k l ≡ o → InOrder d → MembersInOrder (member l e ms) → MembersInOrder (put k d ms) → MembersInOrder (match_ordering o (member k d (member l e ms)) (member l d ms) (member l e (put k d ms)))
put-ordered-at Less k l d e ms is own h later = ((is, before-all k l ms is h.0), own, h)
put-ordered-at Equal k l d e ms is own h later = (h.0, own, h.2)
put-ordered-at Greater k l d e ms is own h later =
    (put-before l k d ms (nat_list_cmp_total.antisymm l k ∙ ap ordering_reverse is) h.0, h.1, later)

put-ordered : (k : List ℕ) (d : Data) (ms : Members) → InOrder d → MembersInOrder ms → MembersInOrder (put k d ms)
put-ordered k d no_members own h = (tt, own, tt)
put-ordered k d (member l e ms) own h = put-ordered-at (slice_cmp nat_cmp k l) k l d e ms refl own h (put-ordered k d ms own h.2)

-- ---- values that are read

some-map : {A B : Type 0} (P : A → Type 0) (Q : B → Type 0) (f : A → B) → ((a : A) → P a → Q (f a)) → (o : Option A) → IfSome o P → IfSome (option_map f o) Q
some-map P Q f step None h = tt
some-map P Q f step (Some a) h = step a h

some-then : {A B : Type 0} (P : A → Type 0) (Q : B → Type 0) (f : A → Option B) → ((a : A) → P a → IfSome (f a) Q) → (o : Option A) → IfSome o P → IfSome (option_and_then f o) Q
some-then P Q f step None h = tt
some-then P Q f step (Some a) h = step a h

any-some : {A : Type 0} (o : Option A) → IfSome o (λ a. Unit {0})
any-some None = tt
any-some (Some a) = tt

mutual
  json-ordered : (j : json.Json) → IfSome (of_json j) InOrder
  json-ordered json.null = tt
  json-ordered (json.boolean b) = tt
  json-ordered (json.number s) = some-map (λ n. Unit {0}) InOrder number (λ n h. tt) (number_of s) (any-some (number_of s))
  json-ordered (json.string s) = tt
  json-ordered (json.array js) = some-map ItemsInOrder InOrder array (λ ds h. h) (of_items js) (items-ordered js)
  json-ordered (json.object ms) = some-map MembersInOrder InOrder object (λ found h. h) (of_members ms no_members) (members-ordered ms no_members tt)

  items-ordered : (js : json.Items) → IfSome (of_items js) ItemsInOrder
  items-ordered json.no_items = tt
  items-ordered (json.item j js) =
      some-then InOrder ItemsInOrder (λ d. option_map (item d) (of_items js)) (λ d own. some-map ItemsInOrder ItemsInOrder (item d) (λ ds h. (own, h)) (of_items js) (items-ordered js)) (of_json j) (json-ordered j)

  members-ordered : (ms : json.Members) (found : Members) → MembersInOrder found → IfSome (of_members ms found) MembersInOrder
  members-ordered json.no_members found h = h
  members-ordered (json.member k j ms) found h =
      some-then InOrder MembersInOrder (λ d. of_members ms (put k d found)) (λ d own. members-ordered ms (put k d found) (put-ordered k d found own h)) (of_json j) (json-ordered j)

-- the keys of all objects in a text that was read are in order
read-ordered : (text : List ℕ) (d : Data) → read text ≡ Some d → InOrder d
read-ordered text d is =
    subst (λ (o : Option Data). IfSome o InOrder) is
    (some-then (λ j. Unit {0}) InOrder of_json (λ j h. json-ordered j) (option_and_then (λ p. json.if_last p.0 p.1) (json.value max_depth (tokens text))) (any-some (option_and_then (λ p. json.if_last p.0 p.1) (json.value max_depth (tokens text)))))

-- ---- the first unknown key is the least

not-before-itself : (k : List ℕ) → ¬ IsBefore k k
not-before-itself k is =
    let e : Less ≡ Greater = sym is ∙ nat_list_cmp_total.antisymm k k ∙ ap ordering_reverse is in cc

-- a key that comes before all keys of an object comes before each key that is found in it
before-member-at : (o : Ordering) (k l other : List ℕ) (e : Data) (ms : Members) → slice_cmp nat_cmp other l ≡ o → IsBefore k l → (is_some (get_member other ms) ≡ true → IsBefore k other) → is_some (match_ordering o (get_member other ms) (Some e) (get_member other ms)) ≡ true → IsBefore k other
before-member-at Less k l other e ms is less later held = later held
before-member-at Equal k l other e ms is less later held = subst (IsBefore k) (sym (exact_bytes other l is)) less
before-member-at Greater k l other e ms is less later held = later held

before-member : (k other : List ℕ) (ms : Members) → IsBeforeAll k ms → is_some (get_member other ms) ≡ true → IsBefore k other
before-member k other no_members h held = absurd (true≢false (sym held))
before-member k other (member l e ms) h held = before-member-at (slice_cmp nat_cmp other l) k l other e ms refl h.0 (before-member k other ms h.1) held

-- if the first key is known, an unknown key is among the others, and comes before `key` neither
behind-known : (o : Ordering) (k key other : List ℕ) (d : Data) (ms : Members) → slice_cmp nat_cmp other k ≡ o → is_known k ≡ true → is_known other ≡ false → (is_some (get_member other ms) ≡ true → ¬ IsBefore other key) → is_some (match_ordering o (get_member other ms) (Some d) (get_member other ms)) ≡ true → ¬ IsBefore other key
behind-known Less k key other d ms is known unknown later held = later held
behind-known Equal k key other d ms is known unknown later held = absurd (true≢false (sym known ∙ ap is_known (sym (exact_bytes other k is)) ∙ unknown))
behind-known Greater k key other d ms is known unknown later held = later held

-- if the first key is unknown, no other key comes before it
behind-unknown : (o : Ordering) (k other : List ℕ) (d : Data) (ms : Members) → slice_cmp nat_cmp other k ≡ o → IsBeforeAll k ms → is_some (match_ordering o (get_member other ms) (Some d) (get_member other ms)) ≡ true → ¬ IsBefore other k
behind-unknown Less k other d ms is h held less = not-before-itself k (before-trans k other k (before-member k other ms h held) less)
behind-unknown Equal k other d ms is h held less = let e : Equal ≡ Less = sym is ∙ less in cc
behind-unknown Greater k other d ms is h held less = let e : Greater ≡ Less = sym is ∙ less in cc

least-at : (b : Bool) (k key other : List ℕ) (d : Data) (ms : Members) → is_known k ≡ b → MembersInOrder (member k d ms) → cond b (other_member key_names ms) (Some k) ≡ Some key → is_some (get_member other (member k d ms)) ≡ true → is_known other ≡ false → (other_member key_names ms ≡ Some key → is_some (get_member other ms) ≡ true → ¬ IsBefore other key) → ¬ IsBefore other key
least-at true k key other d ms known h is held unknown later =
    behind-known (slice_cmp nat_cmp other k) k key other d ms refl known unknown (later is) held
least-at false k key other d ms known h is held unknown later =
    subst (λ (l : List ℕ). ¬ IsBefore other l) (same_Some k key is) (behind-unknown (slice_cmp nat_cmp other k) k other d ms refl h.0 held)

least-member : (key other : List ℕ) (ms : Members) → MembersInOrder ms → other_member key_names ms ≡ Some key → is_some (get_member other ms) ≡ true → is_known other ≡ false → ¬ IsBefore other key
least-member key other no_members h is held unknown = absurd (true≢false (sym held))
least-member key other (member k d ms) h is held unknown =
    least-at (is_known k) k key other d ms refl h is held unknown (λ later found. least-member key other ms h.2 later found unknown)

least-of : (d : Data) (key : List ℕ) → InOrder d → unknown d ≡ Some key → IsLeastUnknown d key
least-of null key h is = absurd (none-some key is)
least-of (boolean b) key h is = absurd (none-some key is)
least-of (number n) key h is = absurd (none-some key is)
least-of (string s) key h is = absurd (none-some key is)
least-of (array ds) key h is = absurd (none-some key is)
least-of (object ms) key h is = λ other held unknown. least-member key other ms h is held unknown

pub least_unknown : (text key : List ℕ) (d : Data) → read text ≡ Some d → unknown d ≡ Some key → IsLeastUnknown d key
least_unknown text key d is found = least-of d key (read-ordered text d is) found

-- ---- capacities are in the order of their names

member-ordered-at : (o : Ordering) (k : List ℕ) (d e : Data) (ms : Members) → InOrder d → (get_member k ms ≡ Some e → InOrder e) → match_ordering o (get_member k ms) (Some d) (get_member k ms) ≡ Some e → InOrder e
member-ordered-at Less k d e ms own later is = later is
member-ordered-at Equal k d e ms own later is = subst InOrder (same_Some d e is) own
member-ordered-at Greater k d e ms own later is = later is

member-ordered : (k : List ℕ) (e : Data) (ms : Members) → MembersInOrder ms → get_member k ms ≡ Some e → InOrder e
member-ordered k e no_members h is = absurd (none-some e is)
member-ordered k e (member l d ms) h is = member-ordered-at (slice_cmp nat_cmp k l) k d e ms h.1 (member-ordered k e ms h.2) is

value-ordered : (k : List ℕ) (d e : Data) → InOrder d → get k d ≡ Some e → InOrder e
value-ordered k null e h is = absurd (none-some e is)
value-ordered k (boolean b) e h is = absurd (none-some e is)
value-ordered k (number n) e h is = absurd (none-some e is)
value-ordered k (string s) e h is = absurd (none-some e is)
value-ordered k (array ds) e h is = absurd (none-some e is)
value-ordered k (object ms) e h is = member-ordered k e ms h is

-- if the members of an object were read, the first gives the first pair, and the others the rest
members-parts : {A P : Type 0} (k : List ℕ) (o : Option A) (r : Option (List (List ℕ × A))) (ps : List (List ℕ × A)) → option_and_then (λ a. option_map (λ rest. (k, a) ∷ rest) r) o ≡ Some ps → ((a : A) (rest : List (List ℕ × A)) → r ≡ Some rest → ((k, a) ∷ rest) ≡ ps → P) → P
members-parts k None r ps is next = absurd (none-some ps is)
members-parts k (Some a) None ps is next = absurd (none-some ps is)
members-parts k (Some a) (Some rest) ps is next = next a rest refl (same_Some ((k, a) ∷ rest) ps is)

members-before : {A : Type 0} (f : Data → Option A) (j : List ℕ) (ms : Members) (ps : List (List ℕ × A)) → IsBeforeAll j ms → each_member f ms ≡ Some ps → All (λ q. IsBefore j q.0) ps
members-before f j no_members ps h is = subst (All (λ q. IsBefore j q.0)) (same_Some [] ps is) (All-nil (λ q. IsBefore j q.0))
members-before f j (member k d ms) ps h is =
    members-parts k (f d) (each_member f ms) ps is
    (λ a rest later same. subst (All (λ q. IsBefore j q.0)) same (All-cons (λ q. IsBefore j q.0) (k, a) rest h.0 (members-before f j ms rest h.1 later)))

pairs-ordered : {A : Type 0} (f : Data → Option A) (ms : Members) (ps : List (List ℕ × A)) → MembersInOrder ms → each_member f ms ≡ Some ps → AllPairs (λ p q. IsBefore p.0 q.0) ps
pairs-ordered f no_members ps h is = subst (AllPairs (λ p q. IsBefore p.0 q.0)) (same_Some [] ps is) (λ i j d lt within. absurd (omega (arith, within)))
pairs-ordered f (member k d ms) ps h is =
    members-parts k (f d) (each_member f ms) ps is
    (λ a rest later same. subst (AllPairs (λ p q. IsBefore p.0 q.0)) same
    (AllPairs-cons (λ p q. IsBefore p.0 q.0) (k, a) rest (members-before f k ms rest h.0 later) (pairs-ordered f ms rest h.2 later)))

named-ordered : {A : Type 0} (f : Data → Option A) (d : Data) (ps : List (List ℕ × A)) → InOrder d → named f d ≡ Some ps → AllPairs (λ p q. IsBefore p.0 q.0) ps
named-ordered f null ps h is = absurd (none-some ps is)
named-ordered f (boolean b) ps h is = absurd (none-some ps is)
named-ordered f (number n) ps h is = absurd (none-some ps is)
named-ordered f (string s) ps h is = absurd (none-some ps is)
named-ordered f (array ds) ps h is = absurd (none-some ps is)
named-ordered f (object ms) ps h is = pairs-ordered f ms ps h is

default-ordered : {A : Type 0} (f : Data → Option A) (o : Option Data) (ps : List (List ℕ × A)) → ((d : Data) → o ≡ Some d → InOrder d) → or_default [] (named f) o ≡ Some ps → AllPairs (λ p q. IsBefore p.0 q.0) ps
default-ordered f None ps h is = subst (AllPairs (λ p q. IsBefore p.0 q.0)) (same_Some [] ps is) (λ i j d lt within. absurd (omega (arith, within)))
default-ordered f (Some d) ps h is = named-ordered f d ps (h d refl) is

held-at : (b : Bool) (o : Option Data) (d : Data) → cond b o None ≡ Some d → o ≡ Some d
held-at true o d is = is
held-at false o d is = absurd (none-some d is)

-- what was read of an object under a key is in the order of the members' keys
under-ordered : {A : Type 0} (f : Data → Option A) (key : List ℕ) (d : Data) (ps : List (List ℕ × A)) → InOrder d → under [] (named f) key d ≡ Some ps → AllPairs (λ p q. IsBefore p.0 q.0) ps
under-ordered f key d ps h is = default-ordered f (held key d) ps (λ e at. value-ordered key d e h (held-at (is_known key) (get key d) e at)) is

pub capacities_ordered : (bytes : List ℕ) (request : Request) → IsPartition bytes request → AllPairs (λ p q. IsBefore p.0 q.0) request.capacity
capacities_ordered bytes request p = under-ordered whole (codes "capacity") p.value request.capacity (read-ordered bytes p.value p.is) p.asks.capacity

pub clocks_ordered : (bytes : List ℕ) (request : Request) → IsPartition bytes request → AllPairs (λ p q. IsBefore p.0 q.0) request.clocks
clocks_ordered bytes request p = under-ordered ratio (codes "clocks") p.value request.clocks (read-ordered bytes p.value p.is) p.asks.clocks
