-- The value of a JSON text has no more parts than the text has bytes.
use Rattle.std.proofs.Common.{ℕ, zero, suc, ◌+◌, ◌≤◌, Bool, true, false, List, [], ◌∷◌, length, Option, None, Some, option_and_then, arith}
use Rattle.std.specs.Prelude.{⊤, option_map}
use Rattle.std.specs.Ordering.{nat_cmp, match_ordering}
use Rattle.std.specs.Cmp.Lexicographic.{slice_cmp}
use Rattle.std.specs.declared.cmp.Ordering.{Ordering}
use Rattle.std.specs.declared.cmp.Ordering.TheVariants.{Less, Equal, Greater}
use Rattle.json.specs.Token.{Token}
use Rattle.json.specs.Lex.{Lexeme, token, comma, colon, Class, quote, backslash, operator, space, other, Mode, between, in_word, in_string, in_escape, class, lex_byte, lex, Place, fresh, after_value, after_comma, after_key, begins_colon, if_allowed, may_begin, may_close, place_token, punctuate, tokens}
use Rattle.json.specs.Json.{Json, Parse, parse_map, after_end_array, read_key, items_step, members_step, items, members, value_with, value, if_last}
use Rattle.json.specs.Json as json
use Rattle.serde_json.specs.Data.{Data, null, boolean, number, string, array, object, Items, no_items, item, Members, no_members, member, put}
use Rattle.serde_json.specs.Read.{of_json, of_items, of_members, number_of, max_depth, read}

-- if something was read, it has at most this weight
abbrev pub AtMost : {A : Type 0} → (A → ℕ) → ℕ → Option A → Type 0
AtMost w n None = ⊤
AtMost w n (Some x) = w x ≤ n

pub more : {A : Type 0} (w : A → ℕ) (n m : ℕ) (o : Option A) → n ≤ m → AtMost w n o → AtMost w m o
more w n m None le h = tt
more w n m (Some x) le h = omega arith

-- ---- tokens: at most one for each byte, and one at the end

lexed : (n : ℕ) (m : Mode) (c : Class) (x : ℕ) (xs : List ℕ) (k : Mode → List Lexeme) → ((next : Mode) → length (k next) ≤ n) → length (lex_byte m c x xs k) ≤ suc n
lexed n between quote x xs k h = omega (arith, h in_string)
lexed n between backslash x xs k h = omega (arith, h in_word)
lexed n between operator x xs k h = omega (arith, h between)
lexed n between space x xs k h = omega (arith, h between)
lexed n between other x xs k h = omega (arith, h in_word)
lexed n in_word quote x xs k h = omega (arith, h in_word)
lexed n in_word backslash x xs k h = omega (arith, h in_word)
lexed n in_word operator x xs k h = omega (arith, h between)
lexed n in_word space x xs k h = omega (arith, h between)
lexed n in_word other x xs k h = omega (arith, h in_word)
lexed n in_string quote x xs k h = omega (arith, h between)
lexed n in_string backslash x xs k h = omega (arith, h in_escape)
lexed n in_string operator x xs k h = omega (arith, h in_string)
lexed n in_string space x xs k h = omega (arith, h in_string)
lexed n in_string other x xs k h = omega (arith, h in_string)
lexed n in_escape c x xs k h = omega (arith, h in_string)

lex-short : (m : Mode) (xs : List ℕ) → length (lex m xs) ≤ length xs
unfolding lex
lex-short m [] = omega arith
lex-short m (x ∷ xs) = lexed (length xs) m (class x) x xs (λ next. lex next xs) (λ next. lex-short next xs)

allowed : (n : ℕ) (b : Bool) (t : Token) (k : Place → List Token) (next : Place) → length (k next) ≤ n → length (if_allowed b t k next) ≤ suc n
allowed n true t k next h = omega (arith, h)
allowed n false t k next h = omega arith

placed : (n : ℕ) (p : Place) (t : Token) (b : Bool) (k : Place → List Token) → ((next : Place) → length (k next) ≤ n) → length (place_token p t b k) ≤ suc n
placed n p Token.begin_object b k h = allowed n (may_begin p) Token.begin_object k fresh (h fresh)
placed n p Token.end_object b k h = allowed n (may_close p) Token.end_object k after_value (h after_value)
placed n p Token.begin_array b k h = allowed n (may_begin p) Token.begin_array k fresh (h fresh)
placed n p Token.end_array b k h = allowed n (may_close p) Token.end_array k after_value (h after_value)
placed n p (Token.key s) b k h = omega arith
placed n p (Token.string s) true k h = allowed n (may_begin p) (Token.key s) k after_key (h after_key)
placed n p (Token.string s) false k h = allowed n (may_begin p) (Token.string s) k after_value (h after_value)
placed n p (Token.number s) b k h = allowed n (may_begin p) (Token.number s) k after_value (h after_value)
placed n p (Token.boolean c) b k h = allowed n (may_begin p) (Token.boolean c) k after_value (h after_value)
placed n p Token.null b k h = allowed n (may_begin p) Token.null k after_value (h after_value)
placed n p Token.bad b k h = omega arith

punctuate-short : (p : Place) (ls : List Lexeme) → length (punctuate p ls) ≤ suc (length ls)
unfolding punctuate
punctuate-short fresh [] = omega arith
punctuate-short after_value [] = omega arith
punctuate-short after_comma [] = omega arith
punctuate-short after_key [] = omega arith
punctuate-short fresh (token t ∷ ls) = placed (suc (length ls)) fresh t (begins_colon ls) (λ next. punctuate next ls) (λ next. punctuate-short next ls)
punctuate-short after_value (token t ∷ ls) = placed (suc (length ls)) after_value t (begins_colon ls) (λ next. punctuate next ls) (λ next. punctuate-short next ls)
punctuate-short after_comma (token t ∷ ls) = placed (suc (length ls)) after_comma t (begins_colon ls) (λ next. punctuate next ls) (λ next. punctuate-short next ls)
punctuate-short after_key (token t ∷ ls) = placed (suc (length ls)) after_key t (begins_colon ls) (λ next. punctuate next ls) (λ next. punctuate-short next ls)
punctuate-short fresh (comma ∷ ls) = omega arith
punctuate-short after_value (comma ∷ ls) = omega (arith, punctuate-short after_comma ls)
punctuate-short after_comma (comma ∷ ls) = omega arith
punctuate-short after_key (comma ∷ ls) = omega arith
punctuate-short fresh (colon ∷ ls) = omega arith
punctuate-short after_value (colon ∷ ls) = omega arith
punctuate-short after_comma (colon ∷ ls) = omega arith
punctuate-short after_key (colon ∷ ls) = omega (arith, punctuate-short fresh ls)

tokens-short : (text : List ℕ) → length (tokens text) ≤ suc (length text)
tokens-short text = omega (arith, punctuate-short fresh (lex between text), lex-short between text)

-- ---- values: at most one for each token

abbrev mutual
  weight : Json → ℕ
  weight json.null = 1
  weight (json.boolean b) = 1
  weight (json.number s) = 1
  weight (json.string s) = 1
  weight (json.array js) = suc (items_weight js)
  weight (json.object ms) = suc (members_weight ms)

  items_weight : json.Items → ℕ
  items_weight json.no_items = 0
  items_weight (json.item j js) = weight j + items_weight js

  members_weight : json.Members → ℕ
  members_weight json.no_members = 0
  members_weight (json.member k j ms) = weight j + members_weight ms

-- the weight of what was read, with one for each token that is left
abbrev with_rest : {A : Type 0} → (A → ℕ) → A × List Token → ℕ
with_rest w p = w p.0 + length p.1

-- what a parser reads weighs at most as much as the tokens that it takes
abbrev Takes : {A : Type 0} → (A → ℕ) → Parse A → Type 0
Takes w p = (ts : List Token) → AtMost (with_rest w) (length ts) (p ts)

ends : (ts : List Token) → AtMost (λ (r : List Token). suc (length r)) (length ts) (after_end_array ts)
ends [] = tt
ends (Token.begin_object ∷ ts) = tt
ends (Token.end_object ∷ ts) = tt
ends (Token.begin_array ∷ ts) = tt
ends (Token.end_array ∷ ts) = omega arith
ends (Token.key s ∷ ts) = tt
ends (Token.string s ∷ ts) = tt
ends (Token.number s ∷ ts) = tt
ends (Token.boolean b ∷ ts) = tt
ends (Token.null ∷ ts) = tt
ends (Token.bad ∷ ts) = tt

keys : (ts : List Token) → AtMost (λ (p : Option (List ℕ) × List Token). length p.1) (length ts) (read_key ts)
keys [] = tt
keys (Token.begin_object ∷ ts) = tt
keys (Token.end_object ∷ ts) = omega arith
keys (Token.begin_array ∷ ts) = tt
keys (Token.end_array ∷ ts) = tt
keys (Token.key s ∷ ts) = omega arith
keys (Token.string s ∷ ts) = tt
keys (Token.number s ∷ ts) = tt
keys (Token.boolean b ∷ ts) = tt
keys (Token.null ∷ ts) = tt
keys (Token.bad ∷ ts) = tt

-- a value, and then what f makes of it
then : {A B : Type 0} (w : A → ℕ) (v : B → ℕ) (f : A → B) (n m k : ℕ) (r : Option (A × List Token)) → ((a : A) → v (f a) ≤ k + w a) → k + n ≤ m
    → AtMost (with_rest w) n r → AtMost (with_rest v) m (parse_map f r)
then w v f n m k None g le h = tt
then w v f n m k (Some p) g le h = omega (arith, g p.0)

items-next : (p : Parse Json) (q : Parse json.Items) (n : ℕ) (r : Option (Json × List Token)) → Takes items_weight q → AtMost (with_rest weight) n r
    → AtMost (with_rest items_weight) n (option_and_then (λ x. parse_map (json.item x.0) (q x.1)) r)
items-next p q n None h a = tt
items-next p q n (Some x) h a = then items_weight items_weight (json.item x.0) (length x.1) n (weight x.0) (q x.1) (λ js. omega arith) a (h x.1)

items-take : (p : Parse Json) (q : Parse json.Items) (ts : List Token) (o : Option (List Token)) → Takes weight p → Takes items_weight q
    → AtMost (λ (r : List Token). suc (length r)) (length ts) o → AtMost (with_rest items_weight) (length ts) (items_step p q ts o)
items-take p q ts (Some rest) h k e = omega (arith, e)
items-take p q ts None h k e = items-next p q (length ts) (p ts) k (h ts)

items-short : (p : Parse Json) → Takes weight p → (n : ℕ) → Takes items_weight (items p n)
unfolding items
items-short p h zero ts = tt
items-short p h (suc n) ts = items-take p (items p n) ts (after_end_array ts) h (items-short p h n) (ends ts)

members-next : (k : List ℕ) (q : Parse json.Members) (n : ℕ) (r : Option (Json × List Token)) → Takes members_weight q → AtMost (with_rest weight) n r
    → AtMost (with_rest members_weight) n (option_and_then (λ x. parse_map (json.member k x.0) (q x.1)) r)
members-next k q n None h a = tt
members-next k q n (Some x) h a = then members_weight members_weight (json.member k x.0) (length x.1) n (weight x.0) (q x.1) (λ ms. omega arith) a (h x.1)

members-take : (p : Parse Json) (q : Parse json.Members) (n : ℕ) (o : Option (List ℕ)) (ts : List Token) → Takes weight p → Takes members_weight q → length ts ≤ n
    → AtMost (with_rest members_weight) n (members_step p q o ts)
members-take p q n None ts h k le = omega (arith, le)
members-take p q n (Some key) ts h k le = members-next key q n (p ts) k (more (with_rest weight) (length ts) n (p ts) le (h ts))

members-keyed : (p : Parse Json) (q : Parse json.Members) (n : ℕ) (o : Option (Option (List ℕ) × List Token)) → Takes weight p → Takes members_weight q
    → AtMost (λ (x : Option (List ℕ) × List Token). length x.1) n o → AtMost (with_rest members_weight) n (option_and_then (λ x. members_step p q x.0 x.1) o)
members-keyed p q n None h k e = tt
members-keyed p q n (Some x) h k e = members-take p q n x.0 x.1 h k e

members-short : (p : Parse Json) → Takes weight p → (n : ℕ) → Takes members_weight (members p n)
unfolding members
members-short p h zero ts = tt
members-short p h (suc n) ts = members-keyed p (members p n) (length ts) (read_key ts) h (members-short p h n) (keys ts)

value-with : (a : Parse json.Items) (o : Parse json.Members) → Takes items_weight a → Takes members_weight o → Takes weight (value_with a o)
value-with a o h k [] = tt
value-with a o h k (Token.begin_object ∷ ts) = then members_weight weight json.object (length ts) (suc (length ts)) 1 (o ts) (λ ms. omega arith) (omega arith) (k ts)
value-with a o h k (Token.end_object ∷ ts) = tt
value-with a o h k (Token.begin_array ∷ ts) = then items_weight weight json.array (length ts) (suc (length ts)) 1 (a ts) (λ js. omega arith) (omega arith) (h ts)
value-with a o h k (Token.end_array ∷ ts) = tt
value-with a o h k (Token.key s ∷ ts) = tt
value-with a o h k (Token.string s ∷ ts) = omega arith
value-with a o h k (Token.number s ∷ ts) = omega arith
value-with a o h k (Token.boolean b ∷ ts) = omega arith
value-with a o h k (Token.null ∷ ts) = omega arith
value-with a o h k (Token.bad ∷ ts) = tt

value-short : (depth : ℕ) → Takes weight (value depth)
unfolding value
value-short zero ts = value-with (λ ts. None) (λ ts. None) (λ ts. tt) (λ ts. tt) ts
value-short (suc depth) ts =
    value-with (λ ts. items (value depth) (length ts) ts) (λ ts. members (value depth) (length ts) ts)
    (λ ts. items-short (value depth) (value-short depth) (length ts) ts) (λ ts. members-short (value depth) (value-short depth) (length ts) ts) ts

-- ---- data: at most as much as its values

abbrev mutual
  pub size : Data → ℕ
  size null = 1
  size (boolean b) = 1
  size (number n) = 1
  size (string s) = 1
  size (array ds) = suc (items_size ds)
  size (object ms) = suc (members_size ms)

  pub items_size : Items → ℕ
  items_size no_items = 0
  items_size (item d ds) = size d + items_size ds

  pub members_size : Members → ℕ
  members_size no_members = 0
  members_size (member k d ms) = size d + members_size ms

mapped : {A B : Type 0} (w : A → ℕ) (v : B → ℕ) (f : A → B) (n m k : ℕ) (o : Option A) → ((a : A) → v (f a) ≤ k + w a) → k + n ≤ m → AtMost w n o → AtMost v m (option_map f o)
mapped w v f n m k None g le h = tt
mapped w v f n m k (Some x) g le h = omega (arith, g x)

anything : {A : Type 0} (o : Option A) → AtMost (λ x. 0) 0 o
anything None = tt
anything (Some x) = omega arith

put-by : (o : Ordering) (k l : List ℕ) (d e : Data) (ms rest : Members) → members_size rest ≤ size d + members_size ms
    → members_size (match_ordering o (member k d (member l e ms)) (member l d ms) (member l e rest)) ≤ size d + (size e + members_size ms)
put-by Less k l d e ms rest h = omega arith
put-by Equal k l d e ms rest h = omega arith
put-by Greater k l d e ms rest h = omega arith

put-light : (k : List ℕ) (d : Data) (ms : Members) → members_size (put k d ms) ≤ size d + members_size ms
put-light k d no_members = omega arith
put-light k d (member l e ms) = put-by (slice_cmp nat_cmp k l) k l d e ms (put k d ms) (put-light k d ms)

item-then : (n m : ℕ) (a : Option Data) (b : Option Items) → AtMost size n a → AtMost items_size m b → AtMost items_size (n + m) (option_and_then (λ d. option_map (item d) b) a)
item-then n m None b h k = tt
item-then n m (Some d) b h k = mapped items_size items_size (item d) m (n + m) (size d) b (λ ds. omega arith) (omega (arith, h)) k

members-then : (n m : ℕ) (k : List ℕ) (f : Members → Option Members) (found : Members) (a : Option Data) → AtMost size n a
    → ((others : Members) → AtMost members_size (m + members_size others) (f others)) → AtMost members_size ((n + m) + members_size found) (option_and_then (λ d. f (put k d found)) a)
members-then n m k f found None h g = tt
members-then n m k f found (Some d) h g =
    more members_size (m + members_size (put k d found)) ((n + m) + members_size found) (f (put k d found)) (omega (arith, put-light k d found, h)) (g (put k d found))

mutual
  json-light : (j : Json) → AtMost size (weight j) (of_json j)
  json-light json.null = omega arith
  json-light (json.boolean b) = omega arith
  json-light (json.number s) = mapped (λ n. 0) size number 0 1 1 (number_of s) (λ n. omega arith) (omega arith) (anything (number_of s))
  json-light (json.string s) = omega arith
  json-light (json.array js) = mapped items_size size array (items_weight js) (suc (items_weight js)) 1 (of_items js) (λ ds. omega arith) (omega arith) (items-light js)
  json-light (json.object ms) = mapped members_size size object (members_weight ms) (suc (members_weight ms)) 1 (of_members ms no_members) (λ ds. omega arith) (omega arith) (more members_size (members_weight ms + 0) (members_weight ms) (of_members ms no_members) (omega arith) (members-light ms no_members))

  items-light : (js : json.Items) → AtMost items_size (items_weight js) (of_items js)
  items-light json.no_items = omega arith
  items-light (json.item j js) = item-then (weight j) (items_weight js) (of_json j) (of_items js) (json-light j) (items-light js)

  members-light : (ms : json.Members) (found : Members) → AtMost members_size (members_weight ms + members_size found) (of_members ms found)
  members-light json.no_members found = omega arith
  members-light (json.member k j ms) found = members-then (weight j) (members_weight ms) k (of_members ms) found (of_json j) (json-light j) (λ others. members-light ms others)

-- a value with no token left after it weighs at most as much as all tokens, which are at most the text's bytes and one
last-light : (n : ℕ) (r : Option (Json × List Token)) → AtMost (with_rest weight) n r → AtMost weight n (option_and_then (λ p. if_last p.0 p.1) r)
last-light n None h = tt
last-light n (Some (j, [])) h = omega (arith, h)
last-light n (Some (j, t ∷ ts)) h = tt

data-light : (n : ℕ) (o : Option Json) → AtMost weight n o → AtMost size n (option_and_then of_json o)
data-light n None h = tt
data-light n (Some j) h = more size (weight j) n (of_json j) h (json-light j)

pub read-light : (text : List ℕ) → AtMost size (suc (length text)) (read text)
read-light text =
    data-light (suc (length text)) (option_and_then (λ p. if_last p.0 p.1) (value max_depth (tokens text)))
    (last-light (suc (length text)) (value max_depth (tokens text)) (more (with_rest weight) (length (tokens text)) (suc (length text)) (value max_depth (tokens text)) (tokens-short text) (value-short max_depth (tokens text))))
