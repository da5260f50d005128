-- Origins: what a chain of copies is, step by step.
use Rattle.std.proofs.Common.{◌≡◌, ℕ, zero, suc, List, [], ◌∷◌, Bool, true, false, not, Option, Some, None, length, sym, ◌∙◌, ap, subst, inl, inr, ◌⊎◌, refl, true≢false, arith}
use Rattle.std.specs.Prelude.{◌&&◌, ◌==◌, if◌then◌else◌, Contains, option_and_then}
use Rattle.std.specs.List.{list_any}
use Rattle.std.proofs.lemmas.Bool.{cases_Bool, and_parts, not-true}
use Rattle.std.proofs.lemmas.List.Folds.{Any-from_list_any, list_any-from_Any}
use Rattle.gg_flat.specs.declared.line.Node.{Node}
use Rattle.gg_flat.specs.declared.line.Op.{Op}
use Rattle.gg_flat.specs.declared.line.Op.TheVariants.{Ref, Literal, One, Two, Fix, Mux}
use Rattle.gg_flat.specs.declared.piece.Driver.{Driver}
use Rattle.gg_flat.specs.declared.piece.Driver.TheVariants.{Input, Held, MemoryWord, ReadRegister, Computed}
use Rattle.gg_flat.specs.Line.{shape_at}
use Rattle.gg_flat.specs.Circuit.{FlatCircuit, signal_shapes, driver_at}
use Rattle.gg_cut_plan.specs.declared.wires.Wire.{Wire}
use Rattle.gg_cut_plan.specs.Direct.{Hub, is_taken, is_own, origin_within, origin, copied, if_wide, bare_of, bare_op, driver_names}

-- ---- tests of lists

-- an item of the list passes the test
pub record Finds {A : Type 0} (test : A → Bool) (xs : List A) : Type 0 where
  pub item : A
  pub among : Contains xs item
  pub passes : test item ≡ true

pub any-finds : {A : Type 0} (test : A → Bool) (xs : List A) → list_any test xs ≡ true → Finds test xs
any-finds test xs e = let a = Any-from_list_any test xs e in record { item = a.1; among = (a.0, a.2, a.3); passes = a.4 }

pub finds-any : {A : Type 0} (test : A → Bool) (xs : List A) (x : A) → Contains xs x → test x ≡ true → list_any test xs ≡ true
finds-any test xs x h e = list_any-from_Any test xs (h.0, x, h.1, h.2, e)

pub clash : (b : Bool) → b ≡ true → b ≡ false → ⊥
clash b e f = true≢false (sym e ∙ f)

pub some-clash : {A : Type 0} (x : A) (o : Option A) → o ≡ Some x → o ≡ None → ⊥
some-clash x o e f = absurd (cc)

pub same-value : (x y : ℕ) (o : Option ℕ) → o ≡ Some x → o ≡ Some y → x ≡ y
same-value x y o e f = cc

-- ---- bare references

-- the driver is a bare reference to signal t
pub record IsBare (driver : Driver) (t : ℕ) : Type 0 where
  pub node : Node
  pub is : driver ≡ Computed (node ∷ [])
  pub op : node.op ≡ Ref t

bare-ref : (op : Op) (t : ℕ) → bare_op op ≡ Some t → op ≡ Ref t
bare-ref (Ref s) t e = ap Ref (same-value s t (Some s) refl e)
bare-ref (Literal value) t e = absurd (some-clash t None e refl)
bare-ref (One op i) t e = absurd (some-clash t None e refl)
bare-ref (Two op i j) t e = absurd (some-clash t None e refl)
bare-ref (Fix op i n m) t e = absurd (some-clash t None e refl)
bare-ref (Mux c i j) t e = absurd (some-clash t None e refl)

pub bare-driver : (driver : Driver) (t : ℕ) → bare_of driver ≡ Some t → IsBare driver t
bare-driver (Input place) t e = absurd (some-clash t None e refl)
bare-driver (Held register) t e = absurd (some-clash t None e refl)
bare-driver (MemoryWord memory reader addr en) t e = absurd (some-clash t None e refl)
bare-driver (ReadRegister memory reader) t e = absurd (some-clash t None e refl)
bare-driver (Computed []) t e = absurd (some-clash t None e refl)
bare-driver (Computed (node ∷ [])) t e = record { node = node; is = refl; op = bare-ref node.op t e }
bare-driver (Computed (node ∷ next ∷ rest)) t e = absurd (some-clash t None e refl)

-- signal s is a bare reference to signal t, which is as wide
pub record IsCopied (circuit : FlatCircuit) (s t : ℕ) : Type 0 where
  pub bare : IsBare (driver_at circuit s) t
  pub wide : (shape_at (signal_shapes circuit) t).width == (shape_at (signal_shapes circuit) s).width ≡ true

pub copied-is : (circuit : FlatCircuit) (s t : ℕ) → copied circuit s ≡ Some t → IsCopied circuit s t
copied-is circuit s t e = by (bare_of (driver_at circuit s)) refl e
  where
    at : (u : ℕ) (b : Bool) → bare_of (driver_at circuit s) ≡ Some u → ((shape_at (signal_shapes circuit) u).width == (shape_at (signal_shapes circuit) s).width) ≡ b → (if b then Some u else None) ≡ Some t → IsCopied circuit s t
    at u true f w e =
        let same = same-value u t (Some u) refl e in
        record {
          bare = bare-driver (driver_at circuit s) t (f ∙ ap Some same);
          wide = subst (λ n. ((shape_at (signal_shapes circuit) n).width == (shape_at (signal_shapes circuit) s).width) ≡ true) same w;
        }
    at u false f w e = absurd (some-clash t None e refl)

    by : (o : Option ℕ) → bare_of (driver_at circuit s) ≡ o → if_wide circuit s o ≡ Some t → IsCopied circuit s t
    by None f e = absurd (some-clash t None e refl)
    by (Some u) f e = at u ((shape_at (signal_shapes circuit) u).width == (shape_at (signal_shapes circuit) s).width) f refl e

-- a copy names just what it is a copy of
pub copy-names : (circuit : FlatCircuit) (s t : ℕ) → IsCopied circuit s t → driver_names circuit (driver_at circuit s) ≡ t ∷ []
copy-names circuit s t is = ap (driver_names circuit) is.bare.is ∙ one is.bare.node.op is.bare.op
  where
    one : (op : Op) → op ≡ Ref t → driver_names circuit (Computed (record is.bare.node { op = op } ∷ [])) ≡ t ∷ []
    one op e = ap (λ o. driver_names circuit (Computed (record is.bare.node { op = o } ∷ []))) e

-- ---- chains

module _ (hub : Hub) where
  -- The chain from signal s to the in-channel x, in at most n signals: s is x, or it is a copy of the next in the chain.
  pub data Chain (n s x : ℕ) : Type 0 where
    Here : (more : ℕ) → n ≡ suc more → is_taken hub s ≡ true → hub.piped s ≡ false → s ≡ x → Chain n s x
    Copy : (more t : ℕ) → n ≡ suc more → is_taken hub s ≡ false → is_own hub s ≡ true → copied hub.circuit s ≡ Some t → origin_within hub more t ≡ Some x → Chain n s x

  pub chain : (n s x : ℕ) → origin_within hub n s ≡ Some x → Chain n s x
  chain zero s x e = absurd (some-clash x None e refl)
  chain (suc more) s x e = by (is_taken hub s) (hub.piped s) (is_own hub s) (copied hub.circuit s) refl refl refl refl e
    where
      by : (taken piped own : Bool) (to : Option ℕ) → is_taken hub s ≡ taken → hub.piped s ≡ piped → is_own hub s ≡ own → copied hub.circuit s ≡ to
          → (if taken then (if piped then None else Some s) else (if own then option_and_then (origin_within hub more) to else None)) ≡ Some x → Chain (suc more) s x
      by true true own to a b c d e = absurd (some-clash x None e refl)
      by true false own to a b c d e = Here more refl a b (same-value s x (Some s) refl e)
      by false piped true (Some t) a b c d e = Copy more t refl a c d e
      by false piped true None a b c d e = absurd (some-clash x None e refl)
      by false piped false to a b c d e = absurd (some-clash x None e refl)

  pub chain-here : (n s : ℕ) → is_taken hub s ≡ true → hub.piped s ≡ false → origin_within hub (suc n) s ≡ Some s
  chain-here n s taken plain =
      ap (λ b. if b then (if hub.piped s then None else Some s) else (if is_own hub s then option_and_then (origin_within hub n) (copied hub.circuit s) else None)) taken
      ∙ ap (λ b. if b then None else Some s) plain

  pub chain-copy : (n s t : ℕ) → is_taken hub s ≡ false → is_own hub s ≡ true → copied hub.circuit s ≡ Some t → origin_within hub (suc n) s ≡ origin_within hub n t
  chain-copy n s t taken own is =
      ap (λ b. if b then (if hub.piped s then None else Some s) else (if is_own hub s then option_and_then (origin_within hub n) (copied hub.circuit s) else None)) taken
      ∙ ap (λ b. if b then option_and_then (origin_within hub n) (copied hub.circuit s) else None) own
      ∙ ap (option_and_then (origin_within hub n)) is

  -- a chain has room for more
  pub chain-more : (n s x : ℕ) → origin_within hub n s ≡ Some x → origin_within hub (suc n) s ≡ Some x
  chain-more zero s x e = absurd (some-clash x None e refl)
  chain-more (suc n) s x e = by (chain (suc n) s x e) (λ t h. chain-more n t x h)
    where
      by : Chain (suc n) s x → ((t : ℕ) → origin_within hub n t ≡ Some x → origin_within hub (suc n) t ≡ Some x) → origin_within hub (suc (suc n)) s ≡ Some x
      by (Here more same taken plain is) rest = chain-here (suc n) s taken plain ∙ ap Some is
      by (Copy more t same taken own to e) rest =
          let less : more ≡ n = omega (arith, same) in
          chain-copy (suc n) s t taken own to ∙ rest t (subst (λ k. origin_within hub k t ≡ Some x) less e)

  -- an origin is an in-channel of the hub that isn't piped
  pub record IsOrigin (x : ℕ) : Type 0 where
    pub taken : is_taken hub x ≡ true
    pub plain : hub.piped x ≡ false

  pub chain-end : (n s x : ℕ) → origin_within hub n s ≡ Some x → IsOrigin x
  chain-end zero s x e = absurd (some-clash x None e refl)
  chain-end (suc n) s x e = by (chain (suc n) s x e) (λ t h. chain-end n t x h)
    where
      by : Chain (suc n) s x → ((t : ℕ) → origin_within hub n t ≡ Some x → IsOrigin x) → IsOrigin x
      by (Here more same taken plain is) rest = subst IsOrigin is (record { taken = taken; plain = plain })
      by (Copy more t same taken own to e) rest =
          let less : more ≡ n = omega (arith, same) in
          rest t (subst (λ k. origin_within hub k t ≡ Some x) less e)

  -- a signal without a channel isn't taken
  pub own-free : (s : ℕ) → is_own hub s ≡ true → list_any (λ (w : Wire). w.signal == s) hub.base ≡ false
  own-free s own = not-true (list_any (λ (w : Wire). w.signal == s) hub.base) (and_parts (hub.owner s == 0) (not (list_any (λ (w : Wire). w.signal == s) hub.base)) own).1

  pub own-untaken : (s : ℕ) → is_own hub s ≡ true → is_taken hub s ≡ false
  own-untaken s own = by (cases_Bool (is_taken hub s))
    where
      by : (is_taken hub s ≡ true) ⊎ (is_taken hub s ≡ false) → is_taken hub s ≡ false
      by (inl e) =
          let w = any-finds (λ (w : Wire). (w.consumer == 0) && (w.signal == s)) hub.base e in
          let at = finds-any (λ (w : Wire). w.signal == s) hub.base w.item w.among (and_parts (w.item.consumer == 0) (w.item.signal == s) w.passes).1 in
          absurd (clash (list_any (λ (w : Wire). w.signal == s) hub.base) at (own-free s own))
      by (inr e) = e

  -- A copy of signal t has the origin of t, if t has one.
  pub origin-copy : (s t x : ℕ) → is_own hub s ≡ true → copied hub.circuit s ≡ Some t → origin hub s ≡ Some x → origin hub t ≡ Some x
  origin-copy s t x own to e = by (chain (length hub.circuit.signals) s x e)
    where
      by : Chain (length hub.circuit.signals) s x → origin hub t ≡ Some x
      by (Here more same taken plain is) = absurd (clash (is_taken hub s) taken (own-untaken s own))
      by (Copy more u same taken own too e) =
          let t-is = same-value u t (copied hub.circuit s) too to in
          subst (λ k. origin_within hub k t ≡ Some x) (sym same) (chain-more more t x (subst (λ v. origin_within hub more v ≡ Some x) t-is e))
