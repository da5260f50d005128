-- No path of a signal begins with `pipe:` or `bridge:`. A name has no colon, and what is before the colon of a stop is no such word.
use Rattle.std.proofs.Common.{◌≡◌, ◌≢◌, ◌⊎◌, inl, inr, ℕ, zero, suc, Bool, true, List, [], ◌∷◌, ◌++◌, codes, refl, sym, ap, ◌∙◌, subst, arith}
use Rattle.std.specs.Prelude.{All, Contains}
use Rattle.std.specs.List.{list_all}
use Rattle.std.proofs.lemmas.Bool.{and_parts}
use Rattle.gg_ast.specs.inside.Names.{AreNamesOfCircuit}
use Rattle.gg_ast.specs.Names.{is_name_byte}
use Rattle.gg_ast.specs.Tree.{CircuitTree}
use Rattle.gg_read.specs.Text.{Spells}
use Rattle.gg_flat.specs.Circuit.{FlatCircuit}
use Rattle.gg_flat_tree.specs.Tree.{joined, path_at}
use Rattle.gg_elab_sites.proofs.AmongLemmas.{from-map, from-flat_map}
use Rattle.gg_elab_sites.specs.Flat.{FlatSignal, flat_signal, signals_at, flat_signals}
use Rattle.gg_elab_sites.specs.IsFlat.{IsFlat}
use Rattle.gg_elab_sites.specs.Known.{types_of}
use Rattle.gg_elab_sites.specs.Signals.{own_signals, stop_name}
use Rattle.gg_elab_sites.specs.Sites.{module_at, sites_of}
use Rattle.gg_elab_tree.specs.IsTreeOf.{signal_paths}
use Rattle.gg_front.specs.inside.Paths.{HasPathBytes, IsPath, is_path_byte}
use Rattle.gg_front.proofs.PathLemmas.{all-of, own-name, site-bytes}
use Rattle.gg_front.proofs.SpeltLemmas.{names-spelt}

abbrev head_of : List ℕ → ℕ
head_of [] = 0
head_of (b ∷ bs) = b

abbrev tail_of : List ℕ → List ℕ
tail_of [] = []
tail_of (b ∷ bs) = bs

-- a byte that has a property isn't one that hasn't
differs : (p : ℕ → Bool) (a b : ℕ) → p a ≡ true → p b ≢ true → a ≢ b
differs p a b is other same = other (subst (λ (x : ℕ). p x ≡ true) same is)

-- bytes of a path and a dot don't begin with a word and a colon
dot-apart : (word outer name rest : List ℕ) → list_all is_name_byte word ≡ true → HasPathBytes outer → outer ++ 46 ∷ name ≡ word ++ 58 ∷ rest → ⊥
dot-apart [] [] name rest named bytes e = let same : 46 ≡ 58 = ap head_of e in absurd (omega (arith, same))
dot-apart [] (b ∷ outer) name rest named bytes e =
    differs is_path_byte b 58 (and_parts (is_path_byte b) (list_all is_path_byte outer) bytes).0 (λ is. absurd (cc)) (ap head_of e)
dot-apart (w ∷ word) [] name rest named bytes e =
    differs is_name_byte w 46 (and_parts (is_name_byte w) (list_all is_name_byte word) named).0 (λ is. absurd (cc)) (sym (ap head_of e))
dot-apart (w ∷ word) (b ∷ outer) name rest named bytes e =
    dot-apart word outer name rest (and_parts (is_name_byte w) (list_all is_name_byte word) named).1 (and_parts (is_path_byte b) (list_all is_path_byte outer) bytes).1 (ap tail_of e)

-- a path has no colon
no-colon : (word rest : List ℕ) → list_all is_path_byte (word ++ 58 ∷ rest) ≡ true → ⊥
no-colon [] rest e = let is : is_path_byte 58 ≡ true = (and_parts (is_path_byte 58) (list_all is_path_byte rest) e).0 in absurd (cc)
no-colon (b ∷ word) rest e = no-colon word rest (and_parts (is_path_byte b) (list_all is_path_byte (word ++ 58 ∷ rest)) e).1

-- a word that doesn't begin as `stop` does, with a colon behind it
module _ (word : List ℕ) (named : list_all is_name_byte word ≡ true) (other : (rest : List ℕ) → 115 ≢ head_of (word ++ 58 ∷ rest)) where
  -- the path doesn't begin so
  abbrev IsFree : List ℕ → Type 0
  IsFree path = (rest : List ℕ) → path ≢ word ++ 58 ∷ rest

  path-free : (path : List ℕ) → HasPathBytes path → IsFree path
  path-free path bytes rest e = no-colon word rest (subst HasPathBytes e bytes)

  stop-free : (n : ℕ) → IsFree (stop_name n)
  stop-free n rest e = other rest (ap head_of e)

  joined-free : (outer name : List ℕ) → HasPathBytes outer → IsFree name → IsFree (joined outer name)
  joined-free [] name bytes h = h
  joined-free (b ∷ outer) name bytes h = λ rest e. dot-apart word (b ∷ outer) name rest named bytes e

  module _ (circuit : CircuitTree) (names : AreNamesOfCircuit circuit) where
    signal-free : (path : List ℕ) → Contains (signal_paths circuit) path → IsFree path
    signal-free path c =
        let x = from-map (λ (s : FlatSignal). s.path) (flat_signals (types_of circuit) circuit.modules (sites_of circuit)) path c in
        let s = from-flat_map (signals_at (types_of circuit) circuit.modules) (sites_of circuit) x.of x.among in
        let o = from-map (flat_signal circuit.modules s.of) (own_signals (types_of circuit) s.of.number (module_at circuit.modules s.of.number)) x.of s.made in
        subst IsFree (ap (λ (z : FlatSignal). z.path) o.made ∙ x.made)
        (joined-free s.of.path o.of.name (site-bytes circuit names s.of s.among) (go o.of.name (own-name circuit names s.of.number o.of o.among)))
      where
        go : (name : List ℕ) → IsPath name ⊎ ((n : ℕ) × (name ≡ stop_name n)) → IsFree name
        go name (inl is) = path-free name is.bytes
        go name (inr stop) = subst IsFree (sym stop.1) (stop-free stop.0)

  -- the path with any number is one of them, or empty
  none-free : (rest : List ℕ) → [] ≢ word ++ 58 ∷ rest
  none-free rest = none word
    where
      none : (w : List ℕ) → [] ≢ w ++ 58 ∷ rest
      none [] e = absurd (cc)
      none (b ∷ w) e = absurd (cc)

  at-free : (paths : List (List ℕ)) → All IsFree paths → (s : ℕ) → IsFree (path_at paths s)
  at-free [] h s = none-free
  at-free (path ∷ paths) h zero = h 0 [] (omega arith)
  at-free (path ∷ paths) h (suc s) = at-free paths (λ k d lt. h (suc k) d (omega (arith, lt))) s

  none-begins : (text : List ℕ) (circuit : CircuitTree) (flat : FlatCircuit) → Spells text circuit → IsFlat circuit flat → (s : ℕ) (path : List ℕ) → path_at flat.paths s ≢ word ++ 58 ∷ path
  none-begins text circuit flat spelt is s =
      at-free flat.paths (subst (All IsFree) (sym is.paths) (all-of circuit (names-spelt text circuit spelt) IsFree (signal_paths circuit) (signal-free circuit (names-spelt text circuit spelt)))) s

pub none-piped : (text : List ℕ) (circuit : CircuitTree) (flat : FlatCircuit) → Spells text circuit → IsFlat circuit flat → (s : ℕ) (path : List ℕ) → path_at flat.paths s ≢ codes "pipe:" ++ path
none-piped = none-begins (codes "pipe") refl (λ rest e. absurd (omega (arith, e)))

pub none-bridged : (text : List ℕ) (circuit : CircuitTree) (flat : FlatCircuit) → Spells text circuit → IsFlat circuit flat → (s : ℕ) (path : List ℕ) → path_at flat.paths s ≢ codes "bridge:" ++ path
none-bridged = none-begins (codes "bridge") refl (λ rest e. absurd (omega (arith, e)))
