-- Names that can be used in a line of a steps file: their bytes are those of paths, or colons.
use Rattle.std.proofs.Common.{◌≡◌, ◌≢◌, ℕ, ◌<◌, Bool, true, false, ◌||◌, ◌==◌, List, [], ◌∷◌, ◌++◌, length, get_or, refl, sym, ap, ◌∙◌, arith, length-append}
use Rattle.std.specs.Prelude.{All, AllPairs, codes}
use Rattle.std.specs.Char.{is_ascii_alphanumeric}
use Rattle.std.specs.List.{list_all}
use Rattle.std.proofs.lemmas.Bool.{and_from, and_parts, eqb-true}
use Rattle.std.proofs.lemmas.List.Folds.{list_all-append}
use Rattle.std.proofs.lemmas.List.Sums.{AllPass-from_list_all}
use Rattle.gg_ast.specs.Names.{IsName}
use Rattle.gg_front.specs.inside.Paths.{HasPathBytes, IsPath, IsSignalPath, is_path_byte, is_signal_byte}
use Rattle.gg_front.proofs.BytesLemmas.{name-path}
use Rattle.gg_trace.specs.Fields.{is_blank}
use Rattle.gg_trace.specs.inside.Lined.{HasNoFeed}
use Rattle.gg_trace.specs.inside.Parted.{HasNoBlank}
use Rattle.gg_replay.specs.inside.Spelling.{AreUsable}
use Rattle.golden_commands.specs.Handed.{IsBridgeName, is_word_byte}

-- a byte of a path, or a colon
abbrev pub is_plain_byte : ℕ → Bool
is_plain_byte = is_signal_byte

-- A name that isn't empty, and has only such bytes.
pub record IsPlain (name : List ℕ) : Type 0 where
  pub some : 0 < length name
  pub bytes : list_all is_plain_byte name ≡ true

-- ---- a plain name is usable

-- a plain byte is no other byte
plain-apart : (b n : ℕ) → is_plain_byte b ≡ true → is_plain_byte n ≡ false → b ≡ n → ⊥
plain-apart b n is fails same = let clash : true ≡ false = sym is ∙ ap is_plain_byte same ∙ fails in absurd (cc)

no-blank : (b : ℕ) → is_plain_byte b ≡ true → is_blank b ≡ false
no-blank b is = go (b == 32) (b == 9) refl refl
  where
    go : (x y : Bool) → b == 32 ≡ x → b == 9 ≡ y → (x || y) ≡ false
    go true y e f = absurd (plain-apart b 32 is refl (eqb-true b 32 e))
    go false true e f = absurd (plain-apart b 9 is refl (eqb-true b 9 f))
    go false false e f = refl

blankless : (name : List ℕ) → IsPlain name → HasNoBlank name
blankless name is k lt = no-blank (get_or name k 0) (AllPass-from_list_all is_plain_byte name is.bytes k 0 lt)

feedless : (name : List ℕ) → IsPlain name → HasNoFeed name
feedless name is k lt = plain-apart (get_or name k 0) 10 (AllPass-from_list_all is_plain_byte name is.bytes k 0 lt) refl

-- plain names that differ can be used
pub usable : (names : List (List ℕ)) → AllPairs (λ a b. a ≢ b) names → All IsPlain names → AreUsable names
usable names differ plain =
    record {
      differ = differ;
      some = λ k d lt. (plain k d lt).some;
      plain = λ k d lt. blankless (get_or names k d) (plain k d lt);
      inline = λ k d lt. feedless (get_or names k d) (plain k d lt);
    }

-- ---- names that are plain

path-byte : (b : ℕ) → is_path_byte b ≡ true → is_plain_byte b ≡ true
path-byte b e = go (is_path_byte b) e
  where
    go : (x : Bool) → x ≡ true → (x || b == 58) ≡ true
    go true e = refl
    go false e = absurd (cc)

plain-bytes : (bytes : List ℕ) → HasPathBytes bytes → list_all is_plain_byte bytes ≡ true
plain-bytes [] e = refl
plain-bytes (b ∷ bytes) e =
    let parts = and_parts (is_path_byte b) (list_all is_path_byte bytes) e in
    and_from (is_plain_byte b) (list_all is_plain_byte bytes) (path-byte b parts.0) (plain-bytes bytes parts.1)

pub path-plain : (path : List ℕ) → IsPath path → IsPlain path
path-plain path is = record { some = is.some; bytes = plain-bytes path is.bytes }

pub name-plain : (name : List ℕ) → IsName name → IsPlain name
name-plain name is = path-plain name (name-path name is)

pub signal-plain : (path : List ℕ) → IsSignalPath path → IsPlain path
signal-plain path is = record { some = is.some; bytes = is.bytes }

-- the path of a signal behind a word of plain bytes
pub behind-plain : (word path : List ℕ) → list_all is_plain_byte word ≡ true → IsSignalPath path → IsPlain (word ++ path)
behind-plain word path plain is =
    record {
      some = omega (arith, is.some, length-append word path);
      bytes = list_all-append is_plain_byte word path ∙ and_from (list_all is_plain_byte word) (list_all is_plain_byte path) plain is.bytes;
    }

-- the name of a bridge behind its word
word-byte : (b : ℕ) → is_word_byte b ≡ true → is_plain_byte b ≡ true
word-byte b e = go (is_ascii_alphanumeric b) (b == 95) e
  where
    go : (x y : Bool) → (x || y) ≡ true → (((x || y || b == 36) || b == 46) || b == 58) ≡ true
    go true y e = refl
    go false true e = refl
    go false false e = absurd (cc)

word-bytes : (bytes : List ℕ) → list_all is_word_byte bytes ≡ true → list_all is_plain_byte bytes ≡ true
word-bytes [] e = refl
word-bytes (b ∷ bytes) e =
    let parts = and_parts (is_word_byte b) (list_all is_word_byte bytes) e in
    and_from (is_plain_byte b) (list_all is_plain_byte bytes) (word-byte b parts.0) (word-bytes bytes parts.1)

pub bridge-plain : (name : List ℕ) → IsBridgeName name → IsPlain (codes "bridge:" ++ name)
bridge-plain name is = record { some = omega (arith, is.some, length-append (codes "bridge:") name); bytes = list_all-append is_plain_byte (codes "bridge:") name ∙ and_from (list_all is_plain_byte (codes "bridge:")) (list_all is_plain_byte name) refl (word-bytes name is.bytes) }
