-- A request has no more entries than its file has bytes.
use Rattle.std.proofs.Common.{◌≡◌, ℕ, suc, ◌+◌, ◌≤◌, Bool, true, false, List, [], ◌∷◌, length, Option, None, Some, Result, Ok, Err, option_and_then, refl, ap, subst, cond, arith}
use Rattle.std.specs.Prelude.{IfOk, codes, option_map, is_some}
use Rattle.std.specs.Ordering.{nat_cmp, match_ordering}
use Rattle.std.specs.Cmp.Lexicographic.{slice_cmp}
use Rattle.std.specs.declared.cmp.Ordering.{Ordering}
use Rattle.std.specs.declared.cmp.Ordering.TheVariants.{Less, Equal, Greater}
use Rattle.std.proofs.lemmas.List.{length-append}
use Rattle.std.proofs.lemmas.Option.{none-some, same_Some}
use Rattle.serde_json.specs.Data.{Data, null, boolean, number, string, array, object, Items, no_items, item, Members, no_members, member}
use Rattle.serde_json.specs.Find.{get, get_member, as_array, as_str}
use Rattle.serde_json.specs.Read.{read}
use Rattle.gg_partfile.specs.Keys.{is_known, held, or_default, under}
use Rattle.gg_partfile.specs.Partition.{Asks}
use Rattle.gg_partfile.specs.Shapes.{each, texts, groups, whole, ratio, each_member, named, numbers, ratios, other_key, required, bridge_keys, bridge, bridges}
use Rattle.gg_partfile.specs.Size.{HasAtMost, entries, all_seen, all_driven}
use Rattle.gg_partfile.specs.declared.fault.PartFault.{PartFault}
use Rattle.gg_partfile.specs.declared.request.BridgeEntry.{BridgeEntry}
use Rattle.gg_partfile.specs.declared.request.Request.{Request}
use Rattle.gg_partfile.proofs.SizeLemmas.{AtMost, more, size, items_size, members_size, read-light}

some-part : (d : Data) → 1 ≤ size d
some-part null = omega arith
some-part (boolean b) = omega arith
some-part (number n) = omega arith
some-part (string s) = omega arith
some-part (array ds) = omega arith
some-part (object ms) = omega arith

found-by : (o : Ordering) (n m : ℕ) (e : Data) (rest : Option Data) → size e ≤ n → m ≤ n → AtMost size m rest → AtMost size n (match_ordering o rest (Some e) rest)
found-by Less n m e rest h le k = more size m n rest le k
found-by Equal n m e rest h le k = h
found-by Greater n m e rest h le k = more size m n rest le k

member-light : (k : List ℕ) (ms : Members) → AtMost size (members_size ms) (get_member k ms)
member-light k no_members = tt
member-light k (member l e ms) =
    found-by (slice_cmp nat_cmp k l) (size e + members_size ms) (members_size ms) e (get_member k ms) (omega arith) (omega arith) (member-light k ms)

get-light : (k : List ℕ) (d : Data) → AtMost (λ e. suc (size e)) (size d) (get k d)
get-light k null = tt
get-light k (boolean b) = tt
get-light k (number n) = tt
get-light k (string s) = tt
get-light k (array ds) = tt
get-light k (object ms) = below (members_size ms) (get_member k ms) (member-light k ms)
  where
    below : (n : ℕ) (o : Option Data) → AtMost size n o → AtMost (λ e. suc (size e)) (suc n) o
    below n None h = tt
    below n (Some e) h = omega (arith, h)

-- what f reads of a list's items weighs at most as much as the items
each-next : {A : Type 0} (w : List A → ℕ) (n m : ℕ) (o : Option A) (rest : Option (List A)) → ((a : A) (xs : List A) → o ≡ Some a → w (a ∷ xs) ≤ n + w xs) → AtMost w m rest
    → AtMost w (n + m) (option_and_then (λ a. option_map (λ xs. a ∷ xs) rest) o)
each-next w n m None rest h k = tt
each-next w n m (Some a) None h k = tt
each-next w n m (Some a) (Some xs) h k = omega (arith, h a xs refl, k)

each-light : {A : Type 0} (w : List A → ℕ) (f : Data → Option A) → w [] ≡ 0 → ((d : Data) (a : A) (xs : List A) → f d ≡ Some a → w (a ∷ xs) ≤ size d + w xs)
    → (ds : Items) → AtMost w (items_size ds) (each f ds)
each-light w f z h no_items = omega (arith, z)
each-light w f z h (item d ds) = each-next w (size d) (items_size ds) (f d) (each f ds) (h d) (each-light w f z h ds)

array-light : {A : Type 0} (w : List A → ℕ) (f : Items → Option (List A)) → ((ds : Items) → AtMost w (items_size ds) (f ds)) → (d : Data) → AtMost w (size d) (option_and_then f (as_array d))
array-light w f h null = tt
array-light w f h (boolean b) = tt
array-light w f h (number n) = tt
array-light w f h (string s) = tt
array-light w f h (array ds) = more w (items_size ds) (suc (items_size ds)) (f ds) (omega arith) (h ds)
array-light w f h (object ms) = tt

texts-light : (d : Data) → AtMost (λ (xs : List (List ℕ)). length xs) (size d) (texts d)
texts-light d =
    array-light (λ (xs : List (List ℕ)). length xs) (each as_str)
    (each-light (λ (xs : List (List ℕ)). length xs) as_str refl (λ e a xs is. omega (arith, some-part e))) d

group-light : (n : ℕ) (o : Option (List (List ℕ))) (a : List (List ℕ)) (xs : List (List (List ℕ))) → AtMost (λ (x : List (List ℕ)). length x) n o → o ≡ Some a → length (entries (a ∷ xs)) ≤ n + length (entries xs)
group-light n o a xs h is =
    let few : length a ≤ n = subst (λ (x : Option (List (List ℕ))). AtMost (λ (y : List (List ℕ)). length y) n x) is h in
    omega (arith, few, length-append a (entries xs))

groups-light : (d : Data) → AtMost (λ (xs : List (List (List ℕ))). length (entries xs)) (size d) (groups d)
groups-light d =
    array-light (λ (xs : List (List (List ℕ))). length (entries xs)) (each texts)
    (each-light (λ (xs : List (List (List ℕ))). length (entries xs)) texts refl (λ e a xs is. group-light (size e) (texts e) a xs (texts-light e) is)) d

-- an object has at most as many entries as members
members-next : {A : Type 0} (k : List ℕ) (n m : ℕ) (o : Option A) (rest : Option (List (List ℕ × A))) → 1 ≤ n → AtMost (λ (xs : List (List ℕ × A)). length xs) m rest
    → AtMost (λ (xs : List (List ℕ × A)). length xs) (n + m) (option_and_then (λ v. option_map (λ (xs : List (List ℕ × A)). (k, v) ∷ xs) rest) o)
members-next k n m None rest some h = tt
members-next k n m (Some v) None some h = tt
members-next k n m (Some v) (Some xs) some h = omega (arith, some, h)

members-light : {A : Type 0} (f : Data → Option A) (ms : Members) → AtMost (λ (xs : List (List ℕ × A)). length xs) (members_size ms) (each_member f ms)
members-light f no_members = omega arith
members-light f (member k d ms) = members-next k (size d) (members_size ms) (f d) (each_member f ms) (some-part d) (members-light f ms)

named-light : {A : Type 0} (f : Data → Option A) (d : Data) → AtMost (λ (xs : List (List ℕ × A)). length xs) (size d) (named f d)
named-light f null = tt
named-light f (boolean b) = tt
named-light f (number n) = tt
named-light f (string s) = tt
named-light f (array ds) = tt
named-light {A = A} f (object ms) = more (λ (xs : List (List ℕ × A)). length xs) (members_size ms) (suc (members_size ms)) (each_member f ms) (omega arith) (members-light f ms)

-- ---- bridges

known-light : {A : Type 0} (w : A → ℕ) (n : ℕ) (o : Option A) (a : A) → AtMost w n o → o ≡ Some a → w a ≤ n
known-light w n o a h is = subst (λ x. AtMost w n x) is h

-- the texts under a key are at most as many as the value's parts
required-light : (key : List ℕ) (n : ℕ) (o : Option Data) (xs : List (List ℕ)) → AtMost (λ e. suc (size e)) n o → option_and_then texts o ≡ Some xs → length xs ≤ n
required-light key n None xs h is = absurd (none-some xs is)
required-light key n (Some d) xs h is = let few = known-light (λ (l : List (List ℕ)). length l) (size d) (texts d) xs (texts-light d) is in omega (arith, few, h)

-- what a bridge sees and drives was read under its keys
bridge-parts : (b : Bool) (n : Option (List ℕ)) (s d : Option (List (List ℕ))) (entry : BridgeEntry)
    → cond b None (option_and_then (λ name. option_and_then (λ sees. option_map (λ drives. record { name = name; sees = sees; drives = drives }) d) s) n) ≡ Some entry → (s ≡ Some entry.sees) × (d ≡ Some entry.drives)
bridge-parts true n s d entry is = absurd (none-some entry is)
bridge-parts false None s d entry is = absurd (none-some entry is)
bridge-parts false (Some name) None d entry is = absurd (none-some entry is)
bridge-parts false (Some name) (Some sees) None entry is = absurd (none-some entry is)
bridge-parts false (Some name) (Some sees) (Some drives) entry is =
    let same : (record { name = name; sees = sees; drives = drives }) ≡ entry = same_Some _ entry is in
    (ap (λ (x : BridgeEntry). Some x.sees) same, ap (λ (x : BridgeEntry). Some x.drives) same)

parts : (d : Data) (entry : BridgeEntry) → bridge d ≡ Some entry → (required texts (codes "sees") d ≡ Some entry.sees) × (required texts (codes "drives") d ≡ Some entry.drives)
parts d entry is = bridge-parts (is_some (other_key bridge_keys d)) (required as_str (codes "name") d) (required texts (codes "sees") d) (required texts (codes "drives") d) entry is

bridges-light : (d : Data) → AtMost (λ (xs : List BridgeEntry). length xs) (size d) (bridges d)
bridges-light d =
    array-light (λ (xs : List BridgeEntry). length xs) (each bridge)
    (each-light (λ (xs : List BridgeEntry). length xs) bridge refl (λ e a xs is. omega (arith, some-part e))) d

seen-light : (d : Data) → AtMost (λ (xs : List BridgeEntry). length (all_seen xs)) (size d) (bridges d)
seen-light d =
    array-light (λ (xs : List BridgeEntry). length (all_seen xs)) (each bridge)
    (each-light (λ (xs : List BridgeEntry). length (all_seen xs)) bridge refl
    (λ e a xs is. omega (arith, required-light (codes "sees") (size e) (get (codes "sees") e) a.sees (get-light (codes "sees") e) (parts e a is).0, length-append a.sees (all_seen xs)))) d

driven-light : (d : Data) → AtMost (λ (xs : List BridgeEntry). length (all_driven xs)) (size d) (bridges d)
driven-light d =
    array-light (λ (xs : List BridgeEntry). length (all_driven xs)) (each bridge)
    (each-light (λ (xs : List BridgeEntry). length (all_driven xs)) bridge refl
    (λ e a xs is. omega (arith, required-light (codes "drives") (size e) (get (codes "drives") e) a.drives (get-light (codes "drives") e) (parts e a is).1, length-append a.drives (all_driven xs)))) d

-- ---- requests

held-light : (k : List ℕ) (d : Data) → AtMost (λ e. suc (size e)) (size d) (held k d)
held-light k d = at (is_known k)
  where
    at : (b : Bool) → AtMost (λ e. suc (size e)) (size d) (cond b (get k d) None)
    at true = get-light k d
    at false = tt

-- what is read under a key weighs less than the whole value
or-light : {A : Type 0} (w : A → ℕ) (default : A) (f : Data → Option A) → w default ≡ 0 → ((d : Data) → AtMost w (size d) (f d))
    → (n : ℕ) (o : Option Data) → 1 ≤ n → AtMost (λ e. suc (size e)) n o → (a : A) → or_default default f o ≡ Some a → suc (w a) ≤ n
or-light w default f z h n None some k a is = omega (arith, z, ap w (same_Some default a is), some)
or-light w default f z h n (Some d) some k a is = omega (arith, known-light w (size d) (f d) a (h d) is, k)

under-light : {A : Type 0} (w : A → ℕ) (default : A) (f : Data → Option A) (key : List ℕ) (d : Data) (a : A) → w default ≡ 0 → ((e : Data) → AtMost w (size e) (f e)) → under default f key d ≡ Some a → suc (w a) ≤ size d
under-light w default f key d a z h is = or-light w default f z h (size d) (held key d) (some-part d) (held-light key d) a is

-- a request has at most as many entries as its file has bytes
few-entries : (bytes : List ℕ) (d : Data) (request : Request) → read bytes ≡ Some d → Asks d request → HasAtMost (length bytes) request
few-entries bytes d request is asks =
    let all : size d ≤ suc (length bytes) = known-light size (suc (length bytes)) (read bytes) d (read-light bytes) is in
    record {
      units = omega (arith, all, under-light (λ (xs : List (List ℕ)). length xs) [] texts (codes "units") d request.units refl texts-light asks.units);
      share = omega (arith, all, under-light (λ (xs : List (List (List ℕ))). length (entries xs)) [] groups (codes "share") d request.share refl groups-light asks.share);
      memories = omega (arith, all, under-light (λ (xs : List (List ℕ)). length xs) [] texts (codes "memories") d request.memories refl texts-light asks.memories);
      capacity = omega (arith, all, under-light (λ (xs : List (List ℕ × ℕ)). length xs) [] numbers (codes "capacity") d request.capacity refl (named-light whole) asks.capacity);
      pipe = omega (arith, all, under-light (λ (xs : List (List ℕ)). length xs) [] texts (codes "pipe") d request.pipe refl texts-light asks.pipe);
      clocks = omega (arith, all, under-light (λ (xs : List (List ℕ × (ℕ × ℕ))). length xs) [] ratios (codes "clocks") d request.clocks refl (named-light ratio) asks.clocks);
      bridges = omega (arith, all, under-light (λ (xs : List BridgeEntry). length xs) [] bridges (codes "bridges") d request.bridges refl bridges-light asks.bridges);
      seen = omega (arith, all, under-light (λ (xs : List BridgeEntry). length (all_seen xs)) [] bridges (codes "bridges") d request.bridges refl seen-light asks.bridges);
      driven = omega (arith, all, under-light (λ (xs : List BridgeEntry). length (all_driven xs)) [] bridges (codes "bridges") d request.bridges refl driven-light asks.bridges);
    }

-- the same for a request that was read from the bytes' value, if one was
pub few-read : (bytes : List ℕ) (d : Data) (r : Result Request PartFault) → read bytes ≡ Some d → IfOk r (Asks d) → IfOk r (HasAtMost (length bytes))
few-read bytes d (Ok request) is asks = few-entries bytes d request is asks
few-read bytes d (Err fault) is asks = tt
