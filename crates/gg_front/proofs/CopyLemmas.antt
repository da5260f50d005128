-- Two instances of one module have the same signals and memories, but for the front of their paths.
use Rattle.std.proofs.Common.{◌≡◌, ◌≢◌, inl, inr, ℕ, zero, suc, List, [], ◌∷◌, ◌++◌, Option, Some, map, refl, sym, ap, ap₂, ◌∙◌, subst, arith, codes}
use Rattle.std.specs.Prelude.{flat_map, Contains}
use Rattle.gg_ast.specs.Tree.{ModuleTree}
use Rattle.gg_flat_tree.specs.Tree.{joined}
use Rattle.gg_flat.proofs.ListLemmas.{further}
use Rattle.gg_elab_sites.specs.Sites.{Held, Outer, Site, site_below, sites, held_at, module_at}
use Rattle.gg_flat_tree.specs.Clocked.{clock_at}
use Rattle.gg_elab_sites.specs.Clocks.{clock_of, port_clock, site_clocks}
use Rattle.gg_elab_sites.specs.Connection.{Connection, ConnectedTo, connection_in}
use Rattle.gg_elab_sites.specs.Flat.{Drive, scope_at, scope_around, Gets, Holds, flat_signal, drive_of, signals_at, flat_signals, input_drive, flat_memory, memories_at, flat_memories}
use Rattle.gg_elab_sites.specs.Signals.{Types, Cause, FromOutside, Connected, Expressed, Kept, Answered, Own, own_signals, OwnBank, own_banks, dotted, field_name}
use Rattle.gg_elab_tree.specs.IsTreeOf.{Pairwise}
use Rattle.gg_elab_tree.proofs.NamesLemmas.JoinLemmas.{joined-twice}
use Rattle.gg_elab_tree.proofs.PairwiseLemmas.{Pairwise-append}
use Rattle.gg_front.proofs.LikeSites.{AreLikeScopes, AreLikeDrives, AreLikeSignals, AreLikeMemories, AreLikeSites}
use Rattle.gg_front.proofs.LikeSites as like

-- no instance has an empty name
abbrev pub HasSomeNames : List ModuleTree → Type 0
HasSomeNames modules = (k : ℕ) (h : Held) → Contains (held_at modules k) h → h.name ≢ []

-- a relation holds of what is made of the same elements, if it holds for each element
Pairwise-same : {A B C : Type 0} (R : B → C → Type 0) (f : A → B) (g : A → C) → (xs : List A) → ((x : A) → Contains xs x → R (f x) (g x)) → Pairwise R (map f xs) (map g xs)
Pairwise-same R f g [] h = tt
Pairwise-same R f g (x ∷ xs) h = (h x (0, omega arith, refl), Pairwise-same R f g xs (λ y c. h y (further x xs y c)))

pub Pairwise-parts : {A B C : Type 0} (R : B → C → Type 0) (f : A → List B) (g : A → List C) → (xs : List A) → ((x : A) → Contains xs x → Pairwise R (f x) (g x)) → Pairwise R (flat_map f xs) (flat_map g xs)
Pairwise-parts R f g [] h = tt
Pairwise-parts R f g (x ∷ xs) h =
    Pairwise-append R (f x) (flat_map f xs) (g x) (flat_map g xs) (h x (0, omega arith, refl)) (Pairwise-parts R f g xs (λ y c. h y (further x xs y c)))

-- a relation holds of the parts of related elements
Pairwise-flat : {A B C D : Type 0} (R : A → B → Type 0) (S : C → D → Type 0) (f : A → List C) (g : B → List D) → ((x : A) (y : B) → R x y → Pairwise S (f x) (g y)) → (xs : List A) (ys : List B) → Pairwise R xs ys → Pairwise S (flat_map f xs) (flat_map g ys)
Pairwise-flat R S f g h [] [] p = tt
Pairwise-flat R S f g h [] (y ∷ ys) p = absurd p
Pairwise-flat R S f g h (x ∷ xs) [] p = absurd p
Pairwise-flat R S f g h (x ∷ xs) (y ∷ ys) p = Pairwise-append S (f x) (flat_map f xs) (g y) (flat_map g ys) (h x y p.0) (Pairwise-flat R S f g h xs ys p.1)

module _ (modules : List ModuleTree) (some : HasSomeNames modules) (u v : Site) where
  -- ---- sites

  below-like : (x y : Site) (h : Held) → h.name ≢ [] → AreLikeSites u v x y → AreLikeSites u v (site_below x h) (site_below y h)
  below-like x y h named l = record {
    number = refl;
    moved = λ name.
        let m = l.moved (h.name ++ 46 ∷ name) in
        record { rest = m.rest; one = sym (joined-twice x.path h.name name named) ∙ m.one; other = sym (joined-twice y.path h.name name named) ∙ m.other };
    outer = inr (record { path = x.path; number = x.number; name = h.name }, record { path = y.path; number = y.number; name = h.name }, refl, refl, refl, record { number = l.number; moved = l.moved });
  }

  pub sites-like : (n : ℕ) (x y : Site) → AreLikeSites u v x y → Pairwise (AreLikeSites u v) (sites n modules x) (sites n modules y)
  sites-like zero x y l = (l, tt)
  sites-like (suc n) x y l = (
    l,
    subst (λ (k : ℕ). Pairwise (AreLikeSites u v) (flat_map (λ h. sites n modules (site_below x h)) (held_at modules x.number)) (flat_map (λ h. sites n modules (site_below y h)) (held_at modules k))) l.number
        (Pairwise-parts (AreLikeSites u v) (λ h. sites n modules (site_below x h)) (λ h. sites n modules (site_below y h)) (held_at modules x.number)
        (λ h c. sites-like n (site_below x h) (site_below y h) (below-like x y h (some x.number h c) l))),
  )

  -- ---- signals

  scopes-like : (x y : Site) → AreLikeSites u v x y → AreLikeScopes u.path v.path (scope_at x) (scope_at y)
  scopes-like x y l = record { number = l.number; moved = l.moved }

  -- a connection in the module of one is that in the module of the other
  connection-same : (a b : ℕ) (name : List ℕ) → a ≡ b → connection_in (module_at modules b).statements name ≡ connection_in (module_at modules a).statements name
  connection-same a b name e = ap (λ (k : ℕ). connection_in (module_at modules k).statements name) (sym e)

  module _ (types : Types) where
    abbrev own_of : Site → List Own
    own_of x = own_signals types x.number (module_at modules x.number)

    abbrev Drives : List ℕ → Drive → Drive → Type 0
    Drives path d e = AreLikeDrives types modules u v path d e

    drive-like : (x y : Site) (o : Own) → Contains (own_of x) o → (cause : Cause) → o.cause ≡ cause → AreLikeSites u v x y → Drives (joined x.path o.name) (drive_of modules x o.name cause) (drive_of modules y o.name cause)
    drive-like x y o c FromOutside is l = elim l.outer [
      | inl e ↦
          like.AtPort o (subst (λ (z : Site). Contains (own_of z) o) e.0 c) is (ap (λ (z : Site). joined z.path o.name) e.0)
          (ap (λ (z : Site). input_drive modules z.outer o.name) e.0) (ap (λ (z : Site). input_drive modules z.outer o.name) e.1)
      | inr (a, b, one, other, named, s) ↦
          like.Connected (scope_around a) (scope_around b) (connection_in (module_at modules a.number).statements (dotted a.name o.name)) s
          (ap (λ (z : Option Outer). input_drive modules z o.name) one)
          (ap (λ (z : Option Outer). input_drive modules z o.name) other
          ∙ ap (λ (c : Option Connection). Gets (scope_around b) c)
          (connection-same a.number b.number (dotted b.name o.name) s.number ∙ ap (λ (n : List ℕ). connection_in (module_at modules a.number).statements (dotted n o.name)) (sym named)))
    ]
    drive-like x y o c Connected is l =
        like.Connected (scope_at x) (scope_at y) (connection_in (module_at modules x.number).statements o.name) (scopes-like x y l) refl
        (ap (λ (c : Option Connection). Gets (scope_at y) c) (connection-same x.number y.number o.name l.number))
    drive-like x y o c (Expressed value) is l = like.Connected (scope_at x) (scope_at y) (Some (ConnectedTo value)) (scopes-like x y l) refl refl
    drive-like x y o c (Kept clock reset) is l =
        like.Kept (scope_at x) (scope_at y) reset (connection_in (module_at modules x.number).statements o.name) (clock_of (module_at modules x.number) clock)
        (clock_at (site_clocks modules x) (clock_of (module_at modules x.number) clock)) (clock_at (site_clocks modules y) (clock_of (module_at modules y.number) clock)) (scopes-like x y l) refl
        (ap₂ (λ (c : Option Connection) (own : Option ℕ). Holds (scope_at y) reset c own (clock_at (site_clocks modules y) (clock_of (module_at modules y.number) clock))) (connection-same x.number y.number o.name l.number)
        (ap (λ (k : ℕ). clock_of (module_at modules k) clock) (sym l.number)))
    drive-like x y o c (Answered memory port place latency) is l =
        like.Answered (joined x.path memory) (joined y.path memory) place latency _ _ _ _ (l.moved memory) (l.moved (field_name memory port (codes "addr"))) (l.moved (field_name memory port (codes "en"))) refl refl

    signal-like : (x y : Site) (o : Own) → Contains (own_of x) o → AreLikeSites u v x y → AreLikeSignals types modules u v (flat_signal modules x o) (flat_signal modules y o)
    signal-like x y o c l = record { path = l.moved o.name; shape = refl; drive = drive-like x y o c o.cause refl l }

  pub signals-like : (types : Types) (xs ys : List Site) → Pairwise (AreLikeSites u v) xs ys → Pairwise (AreLikeSignals types modules u v) (flat_signals types modules xs) (flat_signals types modules ys)
  signals-like types xs ys p =
      Pairwise-flat (AreLikeSites u v) (AreLikeSignals types modules u v) (signals_at types modules) (signals_at types modules)
      (λ x y l.
      subst (λ (k : ℕ). Pairwise (AreLikeSignals types modules u v) (signals_at types modules x) (map (flat_signal modules y) (own_signals types k (module_at modules k)))) l.number
      (Pairwise-same (AreLikeSignals types modules u v) (flat_signal modules x) (flat_signal modules y) (own_signals types x.number (module_at modules x.number)) (λ o c. signal-like types x y o c l)))
      xs ys p

  -- ---- memories

  pub memories-like : (xs ys : List Site) → Pairwise (AreLikeSites u v) xs ys → Pairwise (AreLikeMemories u v) (flat_memories modules xs) (flat_memories modules ys)
  memories-like xs ys p =
      Pairwise-flat (AreLikeSites u v) (AreLikeMemories u v) (memories_at modules) (memories_at modules)
      (λ x y l.
      subst (λ (k : ℕ). Pairwise (AreLikeMemories u v) (memories_at modules x) (map (flat_memory modules y) (own_banks (module_at modules k).statements))) l.number
      (Pairwise-same (AreLikeMemories u v) (flat_memory modules x) (flat_memory modules y) (own_banks (module_at modules x.number).statements)
      (λ (b : OwnBank) c. record { path = l.moved b.name; bank = refl; own = λ port. ap (λ (k : ℕ). port_clock (module_at modules k) b.name port) l.number })))
      xs ys p

  -- ---- the two instances

  pub whole-like : u.number ≡ v.number → (n : ℕ) → Pairwise (AreLikeSites u v) (sites n modules u) (sites n modules v)
  whole-like same n = sites-like n u v (record { number = same; moved = λ name. record { rest = name; one = refl; other = refl }; outer = inl (refl, refl) })
