-- The bytes of a file have one answer: a request, or one key with which they are refused.
use Rattle.std.proofs.Common.{◌≡◌, ℕ, List, [], ◌∷◌, ◌++◌, Bool, true, false, Option, Some, None, refl, sym, ap, ◌∙◌, subst, cond, inl, inr}
use Rattle.std.specs.Prelude.{⊤, is_some, codes}
use Rattle.std.proofs.lemmas.Option.{none-some, same_Some}
use Rattle.serde_json.specs.Data.{Data}
use Rattle.serde_json.specs.Find.{get, as_bool, as_object}
use Rattle.gg_partfile.specs.Fault.{IfKey, first_wrong, wrong_key, IsRefused}
use Rattle.gg_bits.specs.Lists.{or_else}
use Rattle.gg_partfile.specs.Keys.{Key, keys, is_known, has_shape, held, misshapen, or_default, under, unknown}
use Rattle.gg_partfile.specs.Partition.{Asks, IsPartition}
use Rattle.gg_partfile.specs.Shapes.{texts, groups, numbers, ratios, bridges}
use Rattle.gg_partfile.specs.declared.fault.PartFault.{PartFault}
use Rattle.gg_partfile.specs.declared.fault.PartFault.TheVariants.{WrongKey, NoMemory}
use Rattle.gg_partfile.specs.declared.request.Request.{Request}

-- ---- keys

-- the value under a known key is read, or the key is absent, exactly where it has the key's shape
shape-read : {A : Type 0} (default : A) (f : Data → Option A) (o : Option Data) → has_shape (λ d. is_some (f d)) o ≡ is_some (or_default default f o)
shape-read default f None = refl
shape-read default f (Some d) = refl

fits-under : {A : Type 0} (default : A) (f : Data → Option A) (key : List ℕ) (d : Data) → is_known key ≡ true → has_shape (λ e. is_some (f e)) (get key d) ≡ is_some (under default f key d)
fits-under default f key d known = shape-read default f (get key d) ∙ sym (ap (λ (b : Bool). is_some (or_default default f (cond b (get key d) None))) known)

-- what is read under a known key has its shape
fits : {A : Type 0} (default : A) (f : Data → Option A) (key : List ℕ) (d : Data) (found : A) → is_known key ≡ true → under default f key d ≡ Some found → has_shape (λ e. is_some (f e)) (get key d) ≡ true
fits default f key d found known is = fits-under default f key d known ∙ ap (λ (o : Option _). is_some o) is

-- the first key is passed over if its value has its shape
misshapen-next : (key : Key) (rest : List Key) (d : Data) → has_shape key.fits (get key.name d) ≡ true → misshapen (key ∷ rest) d ≡ misshapen rest d
misshapen-next key rest d is = ap (λ b. cond b (misshapen rest d) (Some key.name)) is

-- each of these keys is absent or has its shape
abbrev pub AllFit : List Key → Data → Type 0
AllFit [] d = ⊤
AllFit (key ∷ rest) d = (has_shape key.fits (get key.name d) ≡ true) × AllFit rest d

all-fit : (ks : List Key) (d : Data) → AllFit ks d → misshapen ks d ≡ None
all-fit [] d h = refl
all-fit (key ∷ rest) d h = misshapen-next key rest d h.0 ∙ all-fit rest d h.1

-- where all keys before a key have their shapes and the key hasn't, it is the first
first-misfits : (before : List Key) (key : Key) (after : List Key) (d : Data) → AllFit before d → has_shape key.fits (get key.name d) ≡ false → misshapen (before ++ key ∷ after) d ≡ Some key.name
first-misfits [] key after d h isnt = ap (λ b. cond b (misshapen after d) (Some key.name)) isnt
first-misfits (other ∷ rest) key after d h isnt = misshapen-next other (rest ++ key ∷ after) d h.0 ∙ first-misfits rest key after d h.1 isnt

-- ---- the key that is told

told-last : (d : Data) → is_some (as_object d) ≡ true → AllFit keys d → wrong_key d ≡ unknown d
told-last d object fit = ap (λ b. cond b (first_wrong d) (Some (codes "-"))) object ∙ ap (λ o. or_else o (unknown d)) (all-fit keys d fit)

-- if the value under a key has another shape, and no value under a key before it, it is the key that is told
pub first-told : {A : Type 0} (before : List Key) (name : List ℕ) (f : Data → Option A) (after : List Key) (d : Data) (fault : PartFault)
    → keys ≡ before ++ record { name = name; fits = λ e. is_some (f e) } ∷ after → is_known name ≡ true → is_some (as_object d) ≡ true → AllFit before d
    → IfKey (λ told. (told ≡ name) × (has_shape (λ e. is_some (f e)) (held name d) ≡ false)) fault → IfKey (λ key. wrong_key d ≡ Some key) fault
first-told before name f after d NoMemory all known object fit h = tt
first-told before name f after d (WrongKey key) all known object fit (is, isnt) =
    ap (λ b. cond b (first_wrong d) (Some (codes "-"))) object
    ∙ ap (λ (ks : List Key). or_else (misshapen ks d) (unknown d)) all
    ∙ ap (λ o. or_else o (unknown d))
    (first-misfits before (record { name = name; fits = λ e. is_some (f e) }) after d fit
    (sym (ap (λ (b : Bool). has_shape (λ e. is_some (f e)) (cond b (get name d) None)) known) ∙ isnt))
    ∙ ap (λ k. Some k) (sym is)

-- a value that asks for a request has no wrong key
asked : (d : Data) (request : Request) → Asks d request → wrong_key d ≡ None
asked d request a =
    told-last d a.object
    (fits [] texts (codes "units") d request.units refl a.units, (fits [] groups (codes "share") d request.share refl a.share, (fits [] texts (codes "memories") d request.memories refl a.memories, (fits [] numbers (codes "capacity") d request.capacity refl a.capacity, (fits false as_bool (codes "direct") d request.direct refl a.direct, (fits [] texts (codes "pipe") d request.pipe refl a.pipe, (fits [] ratios (codes "clocks") d request.clocks refl a.clocks, (fits [] bridges (codes "bridges") d request.bridges refl a.bridges, tt))))))))
    ∙ a.known

pub refused-apart : (bytes key : List ℕ) (request : Request) → IsPartition bytes request → ¬ IsRefused bytes key
refused-apart bytes key request p (inl (none, dash)) = none-some p.value (sym (none p.utf8) ∙ p.is)
refused-apart bytes key request p (inr (d, utf8, is, wrong)) =
    let same : p.value ≡ d = same_Some p.value d (sym p.is ∙ is) in
    none-some key (sym (asked d request (subst (λ (e : Data). Asks e request) same p.asks)) ∙ wrong)

pub refused-once : (bytes first second : List ℕ) → IsRefused bytes first → IsRefused bytes second → first ≡ second
refused-once bytes first second (inl (none, dash)) (inl (other, minus)) = dash ∙ sym minus
refused-once bytes first second (inl (none, dash)) (inr (d, utf8, is, wrong)) = absurd (none-some d (sym (none utf8) ∙ is))
refused-once bytes first second (inr (d, utf8, is, wrong)) (inl (none, dash)) = absurd (none-some d (sym (none utf8) ∙ is))
refused-once bytes first second (inr (d, utf8, is, wrong)) (inr (e, other, at, later)) =
    let same : d ≡ e = same_Some d e (sym is ∙ at) in
    same_Some first second (sym wrong ∙ ap wrong_key same ∙ later)
