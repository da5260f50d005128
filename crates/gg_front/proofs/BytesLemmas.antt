-- The bytes of paths.
use Rattle.std.proofs.Common.{◌≡◌, ℕ, zero, suc, ◌/◌, ◌%◌, ◌<◌, Bool, true, false, ◌||◌, ◌==◌, eqb, if◌then◌else◌, List, [], ◌∷◌, ◌++◌, codes, decimal, refl, ◌∙◌, arith, length-append}
use Rattle.std.specs.Fmt.{digits, digits_onto, digit_glyph}
use Rattle.std.specs.Int.{is_in_range}
use Rattle.std.specs.List.{list_all}
use Rattle.std.proofs.lemmas.Bool.{and_parts, and_from}
use Rattle.std.proofs.lemmas.List.Folds.{list_all-append}
use Rattle.gg_ast.specs.Names.{IsName, begins_name, is_name_byte}
use Rattle.gg_flat_tree.specs.Tree.{joined}
use Rattle.gg_elab_sites.specs.Signals.{stop_name}
use Rattle.gg_front.specs.inside.Paths.{HasPathBytes, IsPath, IsSignalPath, is_path_byte, is_signal_byte}

or-first : (a b : Bool) → a ≡ true → (a || b) ≡ true
or-first true b e = refl
or-first false b e = absurd (cc)

-- a letter is a letter or a digit
first-byte : (digit upper lower underscore dollar : Bool) → ((upper || lower) || underscore) ≡ true → ((((digit || upper) || lower) || underscore) || dollar) ≡ true
first-byte true upper lower underscore dollar e = refl
first-byte false true lower underscore dollar e = refl
first-byte false false true underscore dollar e = refl
first-byte false false false true dollar e = refl
first-byte false false false false dollar e = absurd (cc)

begins-byte : (b : ℕ) → begins_name b ≡ true → is_name_byte b ≡ true
begins-byte b e = first-byte (is_in_range 48 57 b) (is_in_range 65 90 b) (is_in_range 97 122 b) (b == 95) (b == 36) e

name-bytes : (bs : List ℕ) → list_all is_name_byte bs ≡ true → HasPathBytes bs
name-bytes [] e = refl
name-bytes (b ∷ bs) e =
    let parts = and_parts (is_name_byte b) (list_all is_name_byte bs) e in
    and_from (is_path_byte b) (list_all is_path_byte bs) (or-first (is_name_byte b) (b == 46) parts.0) (name-bytes bs parts.1)

-- a name is a path
pub name-path : (name : List ℕ) → IsName name → IsPath name
name-path [] h = absurd (cc)
name-path (b ∷ bs) h =
    let parts = and_parts (begins_name b) (list_all is_name_byte bs) h in
    record {
      some = omega arith;
      bytes = and_from (is_path_byte b) (list_all is_path_byte bs) (or-first (is_name_byte b) (b == 46) (begins-byte b parts.0)) (name-bytes bs parts.1);
    }

-- bytes of paths with a dot between them are bytes of a path
dotted-bytes : (a b : List ℕ) → HasPathBytes a → HasPathBytes b → HasPathBytes (a ++ 46 ∷ b)
dotted-bytes a b x y = list_all-append is_path_byte a (46 ∷ b) ∙ and_from (list_all is_path_byte a) (list_all is_path_byte (46 ∷ b)) x y

pub dotted-path : (a b : List ℕ) → IsPath a → IsPath b → IsPath (a ++ 46 ∷ b)
dotted-path a b x y = record { some = omega (arith, length-append a (46 ∷ b)); bytes = dotted-bytes a b x.bytes y.bytes }

-- a path after bytes of a path, or alone
pub joined-path : (outer path : List ℕ) → HasPathBytes outer → IsPath path → IsPath (joined outer path)
joined-path [] path x y = y
joined-path (b ∷ outer) path x y =
    record { some = omega (arith, length-append (b ∷ outer) (46 ∷ path)); bytes = dotted-bytes (b ∷ outer) path x y.bytes }

-- ---- paths of signals

path-signal-bytes : (bs : List ℕ) → HasPathBytes bs → list_all is_signal_byte bs ≡ true
path-signal-bytes [] e = refl
path-signal-bytes (b ∷ bs) e =
    let parts = and_parts (is_path_byte b) (list_all is_path_byte bs) e in
    and_from (is_signal_byte b) (list_all is_signal_byte bs) (or-first (is_path_byte b) (b == 58) parts.0) (path-signal-bytes bs parts.1)

-- a path can be that of a signal
pub path-signal : (path : List ℕ) → IsPath path → IsSignalPath path
path-signal path is = record { some = is.some; bytes = path-signal-bytes path is.bytes }

pub joined-signal : (outer path : List ℕ) → HasPathBytes outer → IsSignalPath path → IsSignalPath (joined outer path)
joined-signal [] path x y = y
joined-signal (b ∷ outer) path x y = record {
  some = omega (arith, length-append (b ∷ outer) (46 ∷ path));
  bytes =
      list_all-append is_signal_byte (b ∷ outer) (46 ∷ path)
      ∙ and_from (list_all is_signal_byte (b ∷ outer)) (list_all is_signal_byte (46 ∷ path)) (path-signal-bytes (b ∷ outer) x) y.bytes;
}

-- ---- names of stops

digit-byte : (d : ℕ) → d < 10 → is_signal_byte (digit_glyph false d) ≡ true
digit-byte zero lt = refl
digit-byte (suc zero) lt = refl
digit-byte (suc (suc zero)) lt = refl
digit-byte (suc (suc (suc zero))) lt = refl
digit-byte (suc (suc (suc (suc zero)))) lt = refl
digit-byte (suc (suc (suc (suc (suc zero))))) lt = refl
digit-byte (suc (suc (suc (suc (suc (suc zero)))))) lt = refl
digit-byte (suc (suc (suc (suc (suc (suc (suc zero))))))) lt = refl
digit-byte (suc (suc (suc (suc (suc (suc (suc (suc zero)))))))) lt = refl
digit-byte (suc (suc (suc (suc (suc (suc (suc (suc (suc zero))))))))) lt = refl
digit-byte (suc (suc (suc (suc (suc (suc (suc (suc (suc (suc d)))))))))) lt = absurd (omega (arith, lt))

onto-bytes : (k n : ℕ) (acc : List ℕ) → list_all is_signal_byte acc ≡ true → list_all is_signal_byte (digits_onto k 10 false n acc) ≡ true
onto-bytes zero n acc bytes = bytes
onto-bytes (suc k) n acc bytes = go (eqb (n / 10) 0) (onto-bytes k (n / 10) (digit_glyph false (n % 10) ∷ acc) more)
  where
    more : list_all is_signal_byte (digit_glyph false (n % 10) ∷ acc) ≡ true
    more = and_from (is_signal_byte (digit_glyph false (n % 10))) (list_all is_signal_byte acc) (digit-byte (n % 10) (omega arith)) bytes

    go : (b : Bool) → list_all is_signal_byte (digits_onto k 10 false (n / 10) (digit_glyph false (n % 10) ∷ acc)) ≡ true → list_all is_signal_byte (if b then digit_glyph false (n % 10) ∷ acc else digits_onto k 10 false (n / 10) (digit_glyph false (n % 10) ∷ acc)) ≡ true
    go true rest = more
    go false rest = rest

decimal-bytes : (n : ℕ) → list_all is_signal_byte (decimal n) ≡ true
unfolding digits
decimal-bytes n = onto-bytes 64 n [] refl

-- the name of a stop is the path of a signal
pub stop-path : (n : ℕ) → IsSignalPath (stop_name n)
stop-path n = record {
  some = omega (arith, length-append (codes "stop:") (decimal n));
  bytes = list_all-append is_signal_byte (codes "stop:") (decimal n) ∙ and_from (list_all is_signal_byte (codes "stop:")) (list_all is_signal_byte (decimal n)) refl (decimal-bytes n);
}
