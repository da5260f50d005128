-- The signals that the outside drives are the input ports of the top, in port order.
use Rattle.std.proofs.Common.{◌≡◌, ℕ, zero, suc, ◌+◌, ◌<◌, Bool, true, false, ◌&&◌, List, [], ◌∷◌, ◌++◌, Option, Some, None, is_some, length, get_or, map, refl, sym, ap, ap₂, ◌∙◌, subst, arith, append-nil, append_assoc, unwrap_or, if◌then◌else◌}
use Rattle.std.specs.Prelude.{Contains, flat_map, filter_map, option_map, option_to_list, slice_get}
use Rattle.std.proofs.lemmas.List.{length-append, length-map, map-append}
use Rattle.std.proofs.lemmas.Grind.{flat_map-append}
use Rattle.std.proofs.lemmas.Option.{slice_get-get_or}
use Rattle.std.proofs.Math.Seq.{get_or-append_seam}
use Rattle.gg_bits.specs.Shape.{Shape}
use Rattle.gg_ast.specs.declared.expression.Reference.TheVariants as reference
use Rattle.gg_ast.specs.declared.module.Direction.{Direction}
use Rattle.gg_ast.specs.declared.module.Direction.TheVariants.{Input, Output}
use Rattle.gg_ast.specs.declared.module.Port.{Port}
use Rattle.gg_ast.specs.declared.statement.Stmt.{Stmt}
use Rattle.gg_ast.specs.declared.statement.StmtKind.{StmtKind}
use Rattle.gg_ast.specs.declared.statement.StmtKind.TheVariants as says
use Rattle.gg_ast.specs.Tree.{ModuleTree}
use Rattle.gg_elab_sites.specs.Sites.{Held, Site, Outer, top_site, site_below, sites, all_sites, module_at, held_at}
use Rattle.gg_elab_sites.specs.Flat.{FlatSignal, flat_signal, drive_of, signals_at, flat_signals}
use Rattle.gg_elab_sites.specs.IsFlat.{number_of, is_outside, port_name, port_names, same_direction}
use Rattle.gg_types.specs.Memories.{Bank, bank_of, type_shape}
use Rattle.gg_elab_sites.specs.Signals.{Types, Cause, FromOutside, Connected, Expressed, Kept, Answered, Own, own, own_of_port, cause_of_port, own_of_kind, own_signals, own_stops, statement_signals, stop_signal, memory_signals, readers_signals, writer_signals}
use Rattle.gg_elab_sites.proofs.AmongLemmas.{MadeOf, in-filter_map, from-filter_map}
use Rattle.gg_elab_sites.proofs.NameLemmas.{Differ, place_of-at}
use Rattle.gg_elab_sites.proofs.PassingLemmas.{passing, passing-append, passing-none}

-- whether the outside drives a signal
abbrev pub from_outside : FlatSignal → Bool
from_outside x = is_outside x.drive

-- ---- facts that hold of each element of a list

abbrev Each : {A : Type 0} → (A → Type 0) → List A → Type 0
Each P xs = (i : ℕ) (d : _) → i < length xs → P (get_or xs i d)

each-append : {A : Type 0} (P : A → Type 0) (xs ys : List A) → Each P xs → Each P ys → Each P (xs ++ ys)
each-append P [] ys h k i d lt = k i d lt
each-append P (x ∷ xs) ys h k zero d lt = h 0 x (omega arith)
each-append P (x ∷ xs) ys h k (suc i) d lt = each-append P xs ys (λ j e inside. h (suc j) e (omega (arith, inside))) k i d (omega (arith, lt))

each-flat_map : {A B : Type 0} (P : B → Type 0) (f : A → List B) (xs : List A) → ((x : A) → Each P (f x)) → Each P (flat_map f xs)
each-flat_map P f [] h i d lt = absurd (omega (arith, lt))
each-flat_map P f (x ∷ xs) h i d lt = each-append P (f x) (flat_map f xs) (h x) (each-flat_map P f xs h) i d lt

each-map : {A B : Type 0} (P : B → Type 0) (f : A → B) (xs : List A) → Each (λ x. P (f x)) xs → Each P (map f xs)
each-map P f [] h i d lt = absurd (omega (arith, lt))
each-map P f (x ∷ xs) h zero d lt = h 0 x (omega arith)
each-map P f (x ∷ xs) h (suc i) d lt = each-map P f xs (λ j e inside. h (suc j) e (omega (arith, inside))) i d (omega (arith, lt))

-- ---- the outside drives nothing that a statement declares

abbrev is_from_outside : Cause → Bool
is_from_outside FromOutside = true
is_from_outside Connected = false
is_from_outside (Expressed value) = false
is_from_outside (Kept clock reset) = false
is_from_outside (Answered memory port place latency) = false

abbrev IsInside : Own → Type 0
IsInside o = is_from_outside o.cause ≡ false

one-inside : (name : List ℕ) (cause : Cause) (shape : Option Shape) → is_from_outside cause ≡ false → Each IsInside (option_to_list (option_map (own name cause) shape))
one-inside name cause None h i d lt = absurd (omega (arith, lt))
one-inside name cause (Some s) h zero d lt = h
one-inside name cause (Some s) h (suc i) d lt = absurd (omega (arith, lt))

readers-inside : (memory : List ℕ) (bank : Bank) (place : ℕ) (ports : List (List ℕ)) → Each IsInside (readers_signals memory bank place ports)
readers-inside memory bank place [] i d lt = absurd (omega (arith, lt))
readers-inside memory bank place (p ∷ ps) zero d lt = refl
readers-inside memory bank place (p ∷ ps) (suc zero) d lt = refl
readers-inside memory bank place (p ∷ ps) (suc (suc zero)) d lt = refl
readers-inside memory bank place (p ∷ ps) (suc (suc (suc i))) d lt = readers-inside memory bank (suc place) ps i d (omega (arith, lt))

writer-inside : (memory : List ℕ) (bank : Bank) (p : List ℕ) → Each IsInside (writer_signals memory bank p)
writer-inside memory bank p zero d lt = refl
writer-inside memory bank p (suc zero) d lt = refl
writer-inside memory bank p (suc (suc zero)) d lt = refl
writer-inside memory bank p (suc (suc (suc zero))) d lt = refl
writer-inside memory bank p (suc (suc (suc (suc i)))) d lt = absurd (omega (arith, lt))

memory-inside : (memory : List ℕ) (bank : Option Bank) → Each IsInside (memory_signals memory bank)
memory-inside memory None i d lt = absurd (omega (arith, lt))
memory-inside memory (Some bank) i d lt =
    each-append IsInside (readers_signals memory bank 0 bank.readers) (flat_map (writer_signals memory bank) bank.writers)
    (readers-inside memory bank 0 bank.readers) (each-flat_map IsInside (writer_signals memory bank) bank.writers (writer-inside memory bank)) i d lt

kind-inside : (types : Types) (k : ℕ) (kind : StmtKind) → Each IsInside (own_of_kind types k kind)
kind-inside types k (says.Wire name ty) i d lt = one-inside name Connected (type_shape ty) refl i d lt
kind-inside types k (says.Node name value) i d lt = one-inside name (Expressed value) (types k (reference.Local name)) refl i d lt
kind-inside types k (says.Register name ty clock reset) i d lt = one-inside name (Kept clock reset) (type_shape ty) refl i d lt
kind-inside types k (says.Instance name m) i d lt = absurd (omega (arith, lt))
kind-inside types k (says.Memory name fields) i d lt = memory-inside name (bank_of fields) i d lt
kind-inside types k (says.Connect sink source) i d lt = absurd (omega (arith, lt))
kind-inside types k (says.Invalid sink) i d lt = absurd (omega (arith, lt))
kind-inside types k says.Skip i d lt = absurd (omega (arith, lt))
kind-inside types k (says.Stop clock condition code label) i d lt = absurd (omega (arith, lt))
kind-inside types k (says.Report word arguments label) i d lt = absurd (omega (arith, lt))

inside-drive : (modules : List ModuleTree) (x : Site) (name : List ℕ) (cause : Cause) → is_from_outside cause ≡ false → is_outside (drive_of modules x name cause) ≡ false
inside-drive modules x name FromOutside h = absurd (cc)
inside-drive modules x name Connected h = refl
inside-drive modules x name (Expressed value) h = refl
inside-drive modules x name (Kept clock reset) h = refl
inside-drive modules x name (Answered memory port place latency) h = refl

stops-inside : (ss : List Stmt) → Each IsInside (map stop_signal (own_stops ss))
stops-inside ss = each-map IsInside stop_signal (own_stops ss) (λ i d lt. refl)

statements-inside : (types : Types) (modules : List ModuleTree) (x : Site) (ss : List Stmt) → Each (λ (y : FlatSignal). from_outside y ≡ false) (map (flat_signal modules x) (statement_signals types x.number ss))
statements-inside types modules x ss =
    each-map (λ (y : FlatSignal). from_outside y ≡ false) (flat_signal modules x) (statement_signals types x.number ss)
    (λ i d lt. inside-drive modules x (get_or (statement_signals types x.number ss) i d).name (get_or (statement_signals types x.number ss) i d).cause
    (each-append IsInside (flat_map (λ (s : Stmt). own_of_kind types x.number s.kind) ss) (map stop_signal (own_stops ss))
    (each-flat_map IsInside (λ (s : Stmt). own_of_kind types x.number s.kind) ss (λ s. kind-inside types x.number s.kind)) (stops-inside ss) i d lt))

-- ---- below the top nothing is driven by the outside

abbrev has_outer : Site → Bool
has_outer x = is_some x.outer

held-drive : (modules : List ModuleTree) (x : Site) (name : List ℕ) (cause : Cause) → has_outer x ≡ true → is_outside (drive_of modules x name cause) ≡ false
held-drive modules x name FromOutside h = go x.outer h
  where
    go : (o : Option Outer) → is_some o ≡ true → is_outside (drive_of modules (record x { outer = o }) name FromOutside) ≡ false
    go None h = absurd (cc)
    go (Some outer) h = refl
held-drive modules x name Connected h = refl
held-drive modules x name (Expressed value) h = refl
held-drive modules x name (Kept clock reset) h = refl
held-drive modules x name (Answered memory port place latency) h = refl

held-signals : (types : Types) (modules : List ModuleTree) (x : Site) → has_outer x ≡ true → Each (λ (y : FlatSignal). from_outside y ≡ false) (signals_at types modules x)
held-signals types modules x h =
    each-map (λ (y : FlatSignal). from_outside y ≡ false) (flat_signal modules x) (own_signals types x.number (module_at modules x.number))
    (λ i d lt. held-drive modules x (get_or (own_signals types x.number (module_at modules x.number)) i d).name (get_or (own_signals types x.number (module_at modules x.number)) i d).cause h)

-- along the instances of a site, if it is so from each of them on
along-inside : (types : Types) (modules : List ModuleTree) (n : ℕ) (x : Site) → ((y : Site) → has_outer y ≡ true → Each (λ (z : FlatSignal). from_outside z ≡ false) (flat_signals types modules (sites n modules y))) → (hs : List Held) → Each (λ (y : FlatSignal). from_outside y ≡ false) (flat_signals types modules (flat_map (λ k. sites n modules (site_below x k)) hs))
along-inside types modules n x below [] = λ i d lt. absurd (omega (arith, lt))
along-inside types modules n x below (h ∷ hs) =
    subst (Each (λ (y : FlatSignal). from_outside y ≡ false)) (sym (flat_map-append (signals_at types modules) (sites n modules (site_below x h)) (flat_map (λ k. sites n modules (site_below x k)) hs)))
    (each-append (λ (y : FlatSignal). from_outside y ≡ false) (flat_signals types modules (sites n modules (site_below x h))) (flat_signals types modules (flat_map (λ k. sites n modules (site_below x k)) hs))
    (below (site_below x h) refl) (along-inside types modules n x below hs))

below-inside : (types : Types) (modules : List ModuleTree) (n : ℕ) (x : Site) → has_outer x ≡ true → Each (λ (y : FlatSignal). from_outside y ≡ false) (flat_signals types modules (sites n modules x))
below-inside types modules zero x h = each-append (λ (y : FlatSignal). from_outside y ≡ false) (signals_at types modules x) [] (held-signals types modules x h) (λ j e none. absurd (omega (arith, none)))
below-inside types modules (suc n) x h =
    each-append (λ (y : FlatSignal). from_outside y ≡ false) (signals_at types modules x) (flat_signals types modules (flat_map (λ k. sites n modules (site_below x k)) (held_at modules x.number)))
    (held-signals types modules x h) (along-inside types modules n x (below-inside types modules n) (held_at modules x.number))

-- the sites below a site
abbrev rest_of : ℕ → List ModuleTree → Site → List Site
rest_of zero modules x = []
rest_of (suc n) modules x = flat_map (λ k. sites n modules (site_below x k)) (held_at modules x.number)

sites-split : (n : ℕ) (modules : List ModuleTree) (x : Site) → sites n modules x ≡ x ∷ rest_of n modules x
sites-split zero modules x = refl
sites-split (suc n) modules x = refl

rest-inside : (types : Types) (modules : List ModuleTree) (n : ℕ) (x : Site) → Each (λ (y : FlatSignal). from_outside y ≡ false) (flat_signals types modules (rest_of n modules x))
rest-inside types modules zero x = λ i d lt. absurd (omega (arith, lt))
rest-inside types modules (suc n) x = along-inside types modules n x (below-inside types modules n) (held_at modules x.number)

-- ---- the inputs of the top

-- the number of a signal's path is how many signals come before it
number-here : (paths : List (List ℕ)) (before : List FlatSignal) (x : FlatSignal) (rest : List FlatSignal) → Differ paths → map (λ (y : FlatSignal). y.path) (before ++ x ∷ rest) ≡ paths → number_of paths x.path ≡ length before
number-here paths before x rest differ is = ap (λ o. unwrap_or o 0) (place_of-at paths x.path (length before) found differ)
  where
    size : length (map (λ (y : FlatSignal). y.path) before) ≡ length before
    size = length-map before (λ (y : FlatSignal). y.path)

    parts : paths ≡ map (λ (y : FlatSignal). y.path) before ++ x.path ∷ map (λ (y : FlatSignal). y.path) rest
    parts = sym is ∙ map-append (λ (y : FlatSignal). y.path) before (x ∷ rest)

    known : length before < length paths
    known = let a : length paths ≡ length (map (λ (y : FlatSignal). y.path) before ++ x.path ∷ map (λ (y : FlatSignal). y.path) rest) = ap (λ (l : List (List ℕ)). length l) parts in
        omega (arith, a, size, length-append (map (λ (y : FlatSignal). y.path) before) (x.path ∷ map (λ (y : FlatSignal). y.path) rest))

    found : slice_get paths (length before) ≡ Some x.path
    found =
        slice_get-get_or paths (length before) [] known
        ∙ ap Some (ap (λ (l : List (List ℕ)). get_or l (length before) []) parts ∙ ap (λ i. get_or (map (λ (y : FlatSignal). y.path) before ++ x.path ∷ map (λ (y : FlatSignal). y.path) rest) i []) (sym size) ∙ get_or-append_seam (map (λ (y : FlatSignal). y.path) before) x.path (map (λ (y : FlatSignal). y.path) rest) [])

module _ (modules : List ModuleTree) (top : ℕ) (paths : List (List ℕ)) (differ : Differ paths) where
  abbrev of_port : Own → FlatSignal
  of_port o = flat_signal modules (top_site top) o

  abbrev StandAt : List FlatSignal → List Port → List FlatSignal → Type 0
  StandAt before ports rest = map (λ (y : FlatSignal). y.path) (before ++ (map of_port (filter_map own_of_port ports) ++ rest)) ≡ paths

  abbrev ArePlaces : List FlatSignal → List Port → Type 0
  ArePlaces before ports = passing from_outside (length before) (map of_port (filter_map own_of_port ports)) ≡ map (number_of paths) (port_names Input ports)

  port-places : (ports : List Port) (before rest : List FlatSignal) → StandAt before ports rest → ArePlaces before ports
  port-places [] before rest h = refl
  port-places (p ∷ ps) before rest h = go (type_shape p.ty) refl p.direction refl h (port-places ps)
    where
      next_to : (x : FlatSignal) → map (λ (y : FlatSignal). y.path) (before ++ (x ∷ (map of_port (filter_map own_of_port ps) ++ rest))) ≡ paths → ((before rest : List FlatSignal) → StandAt before ps rest → ArePlaces before ps) → passing from_outside (suc (length before)) (map of_port (filter_map own_of_port ps)) ≡ map (number_of paths) (port_names Input ps)
      next_to x h next =
          let size : suc (length before) ≡ length (before ++ x ∷ []) = omega (arith, length-append before (x ∷ [])) in
          ap (λ i. passing from_outside i (map of_port (filter_map own_of_port ps))) size
          ∙ next (before ++ x ∷ []) rest (ap (λ (l : List FlatSignal). map (λ (y : FlatSignal). y.path) l) (append_assoc before (x ∷ []) (map of_port (filter_map own_of_port ps) ++ rest)) ∙ h)

      go : (o : Option Shape) → type_shape p.ty ≡ o → (way : Direction) → p.direction ≡ way → StandAt before (p ∷ ps) rest → ((before rest : List FlatSignal) → StandAt before ps rest → ArePlaces before ps) → ArePlaces before (p ∷ ps)
      go None e Input w h next = rw (e, w) (next before rest (rw e at h))
      go None e Output w h next = rw (e, w) (next before rest (rw e at h))
      go (Some s) e Input w h next =
          let k = rw (e, w) at h in
          rw (e, w) (ap₂ (λ n l. n ∷ l) (sym (number-here paths before (of_port (own p.name FromOutside s)) (map of_port (filter_map own_of_port ps) ++ rest) differ k)) (next_to (of_port (own p.name FromOutside s)) k next))
      go (Some s) e Output w h next =
          let k = rw (e, w) at h in
          rw (e, w) (next_to (of_port (own p.name Connected s)) k next)

-- the numbers of the top's input ports are the places of the signals that the outside drives
pub inputs-are : (types : Types) (modules : List ModuleTree) (top : ℕ) → Differ (map (λ (x : FlatSignal). x.path) (flat_signals types modules (all_sites modules top))) → map (number_of (map (λ (x : FlatSignal). x.path) (flat_signals types modules (all_sites modules top)))) (port_names Input (module_at modules top).ports) ≡ passing from_outside 0 (flat_signals types modules (all_sites modules top))
inputs-are types modules top differ =
    sym (ap (passing from_outside 0) parts
    ∙ passing-append from_outside ports (others ++ below) 0
    ∙ ap (λ l. passing from_outside 0 ports ++ l) (passing-none from_outside (others ++ below) (0 + length ports) (each-append (λ (y : FlatSignal). from_outside y ≡ false) others below (statements-inside types modules (top_site top) (module_at modules top).statements) (rest-inside types modules (length modules) (top_site top))))
    ∙ append-nil (passing from_outside 0 ports)
    ∙ port-places modules top paths differ (module_at modules top).ports [] (others ++ below) (ap (λ (l : List FlatSignal). map (λ (y : FlatSignal). y.path) l) (sym parts)))
  where
    paths : List (List ℕ)
    paths = map (λ (x : FlatSignal). x.path) (flat_signals types modules (all_sites modules top))

    ports : List FlatSignal
    ports = map (flat_signal modules (top_site top)) (filter_map own_of_port (module_at modules top).ports)

    others : List FlatSignal
    others = map (flat_signal modules (top_site top)) (statement_signals types top (module_at modules top).statements)

    below : List FlatSignal
    below = flat_signals types modules (rest_of (length modules) modules (top_site top))

    parts : flat_signals types modules (all_sites modules top) ≡ ports ++ (others ++ below)
    parts =
        ap (λ (l : List Site). flat_signals types modules l) (sites-split (length modules) modules (top_site top))
        ∙ ap (λ (l : List FlatSignal). l ++ below) (map-append (flat_signal modules (top_site top)) (filter_map own_of_port (module_at modules top).ports) (statement_signals types top (module_at modules top).statements))
        ∙ append_assoc ports others below

-- ---- the ports of the top are signals

-- each name among those of the ports of a direction is the name of a port's signal
pub port-named : (way : Direction) (ports : List Port) (name : List ℕ) → Contains (port_names way ports) name → MadeOf (λ (o : Own) n. o.name ≡ n) (filter_map own_of_port ports) name
port-named way ports name c =
    let m = from-filter_map (port_name way) ports name c in
    go m.of (same_direction way m.of.direction) (type_shape m.of.ty) refl m.among m.made
  where
    go : (p : Port) (b : Bool) (s : Option Shape) → type_shape p.ty ≡ s → Contains ports p → (if b && is_some s then Some p.name else None) ≡ Some name → MadeOf (λ (o : Own) n. o.name ≡ n) (filter_map own_of_port ports) name
    go p false s is c e = absurd (cc)
    go p true None is c e = absurd (cc)
    go p true (Some s) is c e = record {
      of = own p.name (cause_of_port p.direction) s;
      among = in-filter_map own_of_port ports p (own p.name (cause_of_port p.direction) s) c (ap (option_map (own p.name (cause_of_port p.direction))) is);
      made = ap (λ (o : Option (List ℕ)). unwrap_or o []) e;
    }
