-- The drivers and the registers of one instance are those of another instance of its module, with other numbers.
use Rattle.std.proofs.Common.{◌≡◌, ℕ, zero, suc, ◌+◌, ◌<◌, ◌≤◌, List, [], ◌∷◌, ◌++◌, length, map, take, get_or, Option, Some, None, refl, sym, ap, ap₂, ◌∙◌, subst, arith, inl, inr, ◌⊎◌, Bool, true, false, cond, unwrap_or, lit≤, true≢false}
use Rattle.std.specs.Prelude.{slice_get, slice_index_or, count_by, Contains, codes}
use Rattle.std.proofs.lemmas.Simd.{map-map}
use Rattle.std.proofs.lemmas.List.{map-append, length-map, length-append, get_or-append-add, get_or_append_left, take-append-le, get_or-map}
use Rattle.std.proofs.lemmas.List.Sums.{sum_by-append, sum_by-cons}
use Rattle.std.proofs.lemmas.Option.{slice_get-get_or}
use Rattle.std.proofs.Math.Seq.{take-append-add}
use Rattle.gg_bits.specs.declared.types.Ty.{Ty}
use Rattle.gg_bits.specs.Shape.{Shape, uint}
use Rattle.gg_ast.specs.declared.module.Port.{Port}
use Rattle.gg_ast.specs.declared.statement.Reset as given
use Rattle.gg_ast.specs.Places.{place_of}
use Rattle.gg_ast.specs.Tree.{ModuleTree}
use Rattle.gg_flat.specs.declared.line.Node.{Node}
use Rattle.gg_flat.specs.declared.memory.Latency.{Latency}
use Rattle.gg_flat.specs.declared.memory.Latency.TheVariants.{Zero, One}
use Rattle.gg_flat.specs.declared.memory.Memory.{Memory}
use Rattle.gg_flat.specs.declared.memory.Reader.{Reader}
use Rattle.gg_flat.specs.declared.memory.Writer.{Writer}
use Rattle.gg_flat.specs.declared.piece.Driver.{Driver}
use Rattle.gg_flat.specs.declared.piece.Driver.TheVariants.{Input, Held, MemoryWord, ReadRegister, Computed}
use Rattle.gg_flat.specs.declared.piece.Register.{Register}
use Rattle.gg_flat.specs.declared.piece.Reset as kept
use Rattle.gg_flat.specs.Circuit.{FlatCircuit, driver_at}
use Rattle.gg_flat.specs.Line.{shape_at}
use Rattle.gg_flat.specs.Reads.{NamesSignal, ResetNames, NextNames, RegisterNames}
use Rattle.gg_flat_tree.specs.Tree.{joined}
use Rattle.gg_flat.proofs.ListLemmas.{further}
use Rattle.gg_elab_sites.specs.Sites.{Site, Outer, module_at}
use Rattle.gg_elab_sites.specs.Connection.{Connection}
use Rattle.gg_elab_sites.specs.Flat.{Scope, Drive, Outside, Gets, Holds, Answers, FlatSignal, FlatMemory, input_drive}
use Rattle.gg_elab_sites.specs.IsFlat.{IsFlatOf, bindings_of, IsDrivenBy, HasReset, HasNext, IsRegisterOf, IsMemoryOf, reader_of, writer_of, answer, number_of, is_outside, is_register, count_before, signals_of, memory_paths}
use Rattle.gg_elab_sites.specs.Lines.{taken_line, connected_line}
use Rattle.gg_elab_sites.specs.Meaning.{Bindings, in_scope}
use Rattle.gg_types.specs.Memories.{Bank}
use Rattle.gg_elab_sites.specs.Signals.{Types, Own, own_signals, FromOutside, field_name}
use Rattle.gg_elab_sites.proofs.AmongLemmas.{element-at}
use Rattle.gg_elab_sites.proofs.NameLemmas.{Differ, place_of-at}
use Rattle.gg_elab_tree.specs.IsTreeOf.{Pairwise, clocks_held}
use Rattle.gg_elab_tree.proofs.WellFormedLemmas.RegisterClockLemmas.{clocks-at}
use Rattle.gg_elab_tree.proofs.NamesLemmas.JoinLemmas.{joined-behind}
use Rattle.gg_elab_tree.proofs.OwnLemmas.{Pairwise-at}
use Rattle.gg_elab_tree.proofs.PairwiseLemmas.{Pairwise-length}
use Rattle.gg_part.specs.Moved.{IsMoved, shifted, unclocked_memory, unclocked_reader, unclocked_register, unclocked_writer}
use Rattle.gg_front.proofs.LikeSites.{AreLikeScopes, AreLikeDrives, AreLikeSignals, AreLikeMemories}
use Rattle.gg_front.proofs.LikeSites as like
use Rattle.gg_front.proofs.CopyLineLemmas.{SamePaths, number-moved, moved_laid, line-moved, taken-moved, condition-moved, connected-moved}
use Rattle.gg_elab_sites.proofs.TyLemmas.{ty-equal}
use Rattle.gg_flat.specs.Renaming.{numbers_by, renamed_driver, renamed_line, renamed_memory, renamed_next, renamed_reader, renamed_register, renamed_reset, renamed_writer, signals_by}

-- ---- a stretch of a list

-- The part stands in the list from this place on.
pub record Stretch {A : Type 0} (all : List A) (first : ℕ) (part : List A) : Type 0 where
  pub before : List A
  pub after : List A
  pub is : all ≡ before ++ (part ++ after)
  pub at : length before ≡ first

pub stretch-map : {A B : Type 0} (h : A → B) (all : List A) (first : ℕ) (part : List A) → Stretch all first part → Stretch (map h all) first (map h part)
stretch-map h all first part s = record {
  before = map h s.before;
  after = map h s.after;
  is = ap (map h) s.is ∙ map-append h s.before (part ++ s.after) ∙ ap (λ l. map h s.before ++ l) (map-append h part s.after);
  at = length-map s.before h ∙ s.at;
}

pub stretch-at : {A : Type 0} (all : List A) (first : ℕ) (part : List A) → Stretch all first part → (k : ℕ) (d : A) → k < length part → get_or all (first + k) d ≡ get_or part k d
stretch-at all first part s k d lt =
    ap₂ (λ (l : List _) (n : ℕ). get_or l (n + k) d) s.is (sym s.at)
    ∙ get_or-append-add s.before (part ++ s.after) k d
    ∙ get_or_append_left part s.after d k lt

pub stretch-inside : {A : Type 0} (all : List A) (first : ℕ) (part : List A) → Stretch all first part → first + length part ≤ length all
stretch-inside all first part s =
    let e : length all ≡ length s.before + (length part + length s.after) = ap length s.is ∙ length-append s.before (part ++ s.after) ∙ ap (λ n. length s.before + n) (length-append part s.after) in
    omega (arith, e, s.at)

-- how many pass a test before a place of the stretch
pub stretch-count : {A : Type 0} (test : A → Bool) (all : List A) (first : ℕ) (part : List A) → Stretch all first part → (k : ℕ) → k ≤ length part → count_by test (take (first + k) all) ≡ count_by test (take first all) + count_by test (take k part)
stretch-count test all first part s k le =
    ap₂ (λ (l : List _) (n : ℕ). count_by test (take (n + k) l)) s.is (sym s.at)
    ∙ ap (λ l. count_by test l) (take-append-add s.before (part ++ s.after) k ∙ ap (λ l. s.before ++ l) (take-append-le k part s.after le))
    ∙ sum_by-append (λ x. cond (test x) 1 0) s.before (take k part)
    ∙ ap (λ n. n + count_by test (take k part)) (sym start)
  where
    start : count_by test (take first all) ≡ count_by test s.before
    start =
        ap₂ (λ (l : List _) (n : ℕ). count_by test (take n l)) s.is (sym s.at ∙ zero-behind (length s.before))
        ∙ ap (λ l. count_by test l) (take-append-add s.before (part ++ s.after) 0 ∙ nothing s.before (part ++ s.after))
      where
        zero-behind : (n : ℕ) → n ≡ n + 0
        zero-behind n = omega arith

        nothing : {A : Type 0} (xs ys : List A) → xs ++ take 0 ys ≡ xs
        nothing [] ys = refl
        nothing (x ∷ xs) ys = ap (λ l. x ∷ l) (nothing xs ys)

-- ---- related lists

pub Pairwise-map : {A B C D : Type 0} (R : A → B → Type 0) (S : C → D → Type 0) (f : A → C) (g : B → D) → ((x : A) (y : B) → R x y → S (f x) (g y)) → (xs : List A) (ys : List B) → Pairwise R xs ys → Pairwise S (map f xs) (map g ys)
Pairwise-map R S f g h [] [] p = tt
Pairwise-map R S f g h [] (y ∷ ys) p = absurd p
Pairwise-map R S f g h (x ∷ xs) [] p = absurd p
Pairwise-map R S f g h (x ∷ xs) (y ∷ ys) p = (h x y p.0, Pairwise-map R S f g h xs ys p.1)

abbrev one_if : Bool → ℕ
one_if b = cond b 1 0

-- as many pass a test in both lists
count-same : {A : Type 0} (test : A → Bool) (xs ys : List A) → Pairwise (λ x y. test x ≡ test y) xs ys → (k : ℕ) → count_by test (take k xs) ≡ count_by test (take k ys)
count-same test [] [] p k = refl
count-same test [] (y ∷ ys) p k = absurd p
count-same test (x ∷ xs) [] p k = absurd p
count-same test (x ∷ xs) (y ∷ ys) p zero = refl
count-same test (x ∷ xs) (y ∷ ys) p (suc k) =
    sum_by-cons (λ z. cond (test z) 1 0) x (take k xs)
    ∙ ap₂ (λ (b : Bool) (n : ℕ). one_if b + n) p.0 (count-same test xs ys p.1 k)
    ∙ sym (sum_by-cons (λ z. cond (test z) 1 0) y (take k ys))

abbrev register_made : Ty → Option kept.Reset → Option (List Node) → Register
register_made ty reset next = record { ty = ty; reset = reset; next = next; clock = None }

abbrev reset_made : List Node → List Node → kept.Reset
reset_made condition init = record { condition = condition; init = init }

abbrev memory_made : Ty → ℕ → Latency → List Reader → List Writer → Memory
memory_made word depth latency readers writers = record { word = word; depth = depth; latency = latency; readers = readers; writers = writers }

abbrev reader_made : ℕ → ℕ → ℕ → Reader
reader_made addr en word = record { addr = addr; en = en; word = word; clock = None }

abbrev writer_made : ℕ → ℕ → ℕ → ℕ → Writer
writer_made addr en word mask = record { addr = addr; en = en; word = word; mask = mask; clock = None }

abbrev unclocked_readers : List Reader → List Reader
unclocked_readers readers = map (λ reader. unclocked_reader reader) readers

abbrev unclocked_writers : List Writer → List Writer
unclocked_writers writers = map (λ writer. unclocked_writer writer) writers

-- two functions make the same of a list if they make the same of each of its elements
pub map-among : {A B : Type 0} (h k : A → B) (xs : List A) → ((x : A) → Contains xs x → h x ≡ k x) → map h xs ≡ map k xs
map-among h k [] e = refl
map-among h k (x ∷ xs) e = ap₂ (λ y ys. y ∷ ys) (e x (0, omega arith, refl)) (map-among h k xs (λ y c. e y (further x xs y c)))

-- This path is that of an input port of the instance.
pub record AtInput (types : Types) (modules : List ModuleTree) (u : Site) (path : List ℕ) : Type 0 where
  pub port : Own
  pub among : Contains (own_signals types u.number (module_at modules u.number)) port
  pub cause : port.cause ≡ FromOutside
  pub is : path ≡ joined u.path port.name

-- the paths of two stretches are the same behind two paths
pub stretch-paths : {A : Type 0} (path : A → List ℕ) (from to : List ℕ) (all : List A) (f g : ℕ) (p q : List A) → Stretch all f p → Stretch all g q → Pairwise (λ x y. IsMoved from to (path x) (path y)) p q → SamePaths (map path all) from to f g (length p)
stretch-paths path from to all f g p q one other same = record {
  at = λ s lt.
      let lt' : s < length q = omega (arith, lt, Pairwise-length (λ x y. IsMoved from to (path x) (path y)) p q same) in
      let a = element-at p s lt in
      let b = element-at q s lt' in
      let m = Pairwise-at (λ x y. IsMoved from to (path x) (path y)) p q s a.element b.element same lt in
      (m.rest, there f p one s a.element lt ∙ ap Some m.one, there g q other s b.element lt' ∙ ap Some m.other);
}
  where
    there : (first : ℕ) (part : List _) → Stretch all first part → (s : ℕ) (d : _) → s < length part → slice_get (map path all) (first + s) ≡ Some (path (get_or part s d))
    there first part at s d lt =
        slice_get-get_or (map path all) (first + s) [] (omega (arith, lt, stretch-inside all first part at, length-map all path))
        ∙ ap Some (stretch-at (map path all) first (map path part) (stretch-map path all first part at) s [] (omega (arith, lt, length-map part path)) ∙ get_or-map path part s d [] lt)

-- ---- two instances

abbrev pub none : FlatSignal
none = record { path = []; shape = uint 0; drive = Outside }

abbrev pub paths_of : List FlatSignal → List (List ℕ)
paths_of all = map (λ x. x.path) all

port-no-register : (modules : List ModuleTree) (outer : Option Outer) (name : List ℕ) → is_register (input_drive modules outer name) ≡ false
port-no-register modules None name = refl
port-no-register modules (Some outer) name = refl

register-same : (types : Types) (modules : List ModuleTree) (u v : Site) (path : List ℕ) (d e : Drive) → AreLikeDrives types modules u v path d e → is_register d ≡ is_register e
register-same types modules u v path d e (like.AtPort o c is at one other) = ap is_register one ∙ port-no-register modules u.outer o.name ∙ sym (port-no-register modules v.outer o.name) ∙ sym (ap is_register other)
register-same types modules u v path d e (like.Connected a b c l one other) = ap is_register one ∙ sym (ap is_register other)
register-same types modules u v path d e (like.Kept a b reset next own clock clock' l one other) = ap is_register one ∙ sym (ap is_register other)
register-same types modules u v path d e (like.Answered m n place latency addr addr' en en' lm la le one other) = ap is_register one ∙ sym (ap is_register other)

answer-moved : (to registers memories : ℕ → ℕ) (latency : Latency) (m place addr en : ℕ) → answer latency (memories m) place (to addr) (to en) ≡ renamed_driver (numbers_by to registers memories) (answer latency m place addr en)
answer-moved to registers memories Zero m place addr en = refl
answer-moved to registers memories (One under) m place addr en = refl

-- the number of a path that stands in the one instance, and that of the same in the other
pub found-moved : (paths : List (List ℕ)) (from to : List ℕ) (f g size : ℕ) → Differ paths → SamePaths paths from to f g size → (a b : List ℕ) → IsMoved from to a b → (k : ℕ) → k < size → slice_get paths (f + k) ≡ Some a → number_of paths b ≡ shifted f g (number_of paths a)
found-moved paths from to f g size differ same a b m k lt there =
    let at : place_of a paths ≡ Some (f + k) = place_of-at paths a (f + k) there differ in
    let moved : place_of (joined to m.rest) paths ≡ Some (shifted f g (f + k)) =
    number-moved paths from to f g size differ same m.rest (f + k) (ap (λ (w : List ℕ). place_of w paths) (sym m.one) ∙ at) (omega arith) (omega (arith, lt)) in
    ap (λ (w : List ℕ). number_of paths w) m.other
    ∙ ap (λ (o : Option ℕ). unwrap_or o 0) moved
    ∙ ap (λ (o : Option ℕ). shifted f g (unwrap_or o 0)) (sym at)

module _ (types : Types) (modules : List ModuleTree) (u v : Site) (all : List FlatSignal) (banks : List FlatMemory) (ports : List Port) (stops : List (List ℕ)) (flat : FlatCircuit) (is_flat : IsFlatOf types all banks ports stops flat) (differ : Differ (paths_of all)) (f g : ℕ) (p q : List FlatSignal) (one : Stretch all f p) (other : Stretch all g q) (same : Pairwise (AreLikeSignals types modules u v) p q) where
  abbrev size : ℕ
  size = length p

  -- what the circuit's names stand for
  abbrev bound : Bindings
  bound = bindings_of types all banks

  like-at : (s : ℕ) → s < size → AreLikeSignals types modules u v (get_or p s none) (get_or q s none)
  like-at s lt = Pairwise-at (AreLikeSignals types modules u v) p q s none none same lt

  size-same : length p ≡ length q
  size-same = Pairwise-length (AreLikeSignals types modules u v) p q same

  -- what a signal of the stretch is, by its place in the stretch
  part-at : {B : Type 0} (h : FlatSignal → B) (first : ℕ) (part : List FlatSignal) → Stretch all first part → (s : ℕ) → s < length part → (d : B) → get_or (map h all) (first + s) d ≡ h (get_or part s none)
  part-at h first part at s lt d =
      stretch-at (map h all) first (map h part) (stretch-map h all first part at) s d (omega (arith, lt, length-map part h)) ∙ get_or-map h part s none d lt

  pub path-there : (first : ℕ) (part : List FlatSignal) → Stretch all first part → (s : ℕ) → s < length part → slice_get (paths_of all) (first + s) ≡ Some (get_or part s none).path
  path-there first part at s lt =
      slice_get-get_or (paths_of all) (first + s) [] (omega (arith, lt, stretch-inside all first part at, length-map all (λ (x : FlatSignal). x.path)))
      ∙ ap Some (part-at (λ x. x.path) first part at s lt [])

  pub paths-same : SamePaths (paths_of all) u.path v.path f g size
  paths-same = record {
    at = λ s lt.
        let l = like-at s lt in
        (l.path.rest, path-there f p one s lt ∙ ap Some l.path.one, path-there g q other s (omega (arith, lt, size-same)) ∙ ap Some l.path.other);
  }

  pub shapes-same : (s : ℕ) → s < size → shape_at (signals_of all).shapes (g + s) ≡ shape_at (signals_of all).shapes (f + s)
  shapes-same s lt =
      part-at (λ x. x.shape) g q other s (omega (arith, lt, size-same)) (uint 0)
      ∙ sym (like-at s lt).shape
      ∙ sym (part-at (λ x. x.shape) f p one s lt (uint 0))

  -- ---- numbers of registers

  abbrev registers_before : ℕ → ℕ
  registers_before first = count_before is_register all first

  count-at : (first : ℕ) (part : List FlatSignal) → Stretch all first part → (s : ℕ) → s < length part → count_before is_register all (first + s) ≡ registers_before first + count_by is_register (take s (map (λ x. x.drive) part))
  count-at first part at s lt =
      stretch-count is_register (map (λ x. x.drive) all) first (map (λ x. x.drive) part) (stretch-map (λ x. x.drive) all first part at) s (omega (arith, lt, length-map part (λ (x : FlatSignal). x.drive)))

  register-moved : (s : ℕ) → s < size → count_before is_register all (g + s) ≡ shifted (registers_before f) (registers_before g) (count_before is_register all (f + s))
  register-moved s lt =
      let here = count-at f p one s lt in
      let there = count-at g q other s (omega (arith, lt, size-same)) in
      let drives : Pairwise (λ d e. is_register d ≡ is_register e) (map (λ x. x.drive) p) (map (λ x. x.drive) q) =
      Pairwise-map (AreLikeSignals types modules u v) (λ d e. is_register d ≡ is_register e) (λ x. x.drive) (λ x. x.drive) (λ x y l. register-same types modules u v x.path x.drive y.drive l.drive) p q same in
      omega (arith, here, there, count-same is_register (map (λ x. x.drive) p) (map (λ x. x.drive) q) drives s)

  -- ---- drivers

  abbrev Driven : ℕ → Drive → Type 0
  Driven s drive = IsDrivenBy bound flat.registers (count_before is_outside all s) (count_before is_register all s) (shape_at (signals_of all).shapes s) drive (driver_at flat s)

  driven-at : (first : ℕ) (part : List FlatSignal) → Stretch all first part → (s : ℕ) → s < length part → (drive : Drive) → (get_or part s none).drive ≡ drive → Driven (first + s) drive
  driven-at first part at s lt drive e =
      subst (Driven (first + s)) (part-at (λ x. x.drive) first part at s lt Outside ∙ e)
      (is_flat.drivers (first + s) (omega (arith, lt, stretch-inside all first part at)))

  -- what a driver names is in the instance
  abbrev Closed : ℕ → ℕ → Type 0
  Closed first s = (t : ℕ) → NamesSignal (driver_at flat (first + s)) t → (first ≤ t) × (t < first + size)

  -- a path stands in the first instance, or among its memories
  abbrev IsThere : List (List ℕ) → ℕ → ℕ → List ℕ → Type 0
  IsThere paths first count path = (k : ℕ) × (k < count) × (slice_get paths (first + k) ≡ Some path)

  module _ (mf mg memories : ℕ) (banks_differ : Differ (memory_paths banks)) (banks_same : SamePaths (memory_paths banks) u.path v.path mf mg memories)
      (fields : (s place : ℕ) (latency : Latency) (m addr en : List ℕ) → s < size → (get_or p s none).drive ≡ Answers m place latency addr en → IsThere (memory_paths banks) mf memories m × (IsThere (paths_of all) f size addr × IsThere (paths_of all) f size en)) where
    abbrev moved : Driver → Driver
    moved driver = renamed_driver (numbers_by (shifted f g) (shifted (registers_before f) (registers_before g)) (shifted mf mg)) driver

    computed-moved : (s : ℕ) → s < size → Closed f s → Closed g s → (a b : Scope) (c : Option Connection) → AreLikeScopes u.path v.path a b → Driven (f + s) (Gets a c) → Driven (g + s) (Gets b c) → driver_at flat (g + s) ≡ moved (driver_at flat (f + s))
    computed-moved s lt here there a b c l hu hv =
        let nodes =
        hv.stands.nodes
        ∙ ap (λ (sink : Shape). connected_line (in_scope bound b) sink c) (shapes-same s lt)
        ∙ connected-moved bound u.path v.path f g size differ paths-same shapes-same a b l (shape_at (signals_of all).shapes (f + s)) c (record {
          here = λ t n. here t (subst (λ (d : Driver). NamesSignal d t) (sym hu.computed) ((hu.stands.names t).1 n));
          there = λ t n. there t (subst (λ (d : Driver). NamesSignal d t) (sym hv.computed) ((hv.stands.names t).1 n));
        })
        ∙ ap (map (moved_laid (shifted f g))) (sym hu.stands.nodes) in
        hv.computed ∙ ap Computed (line-moved (shifted f g) hu.line hv.line nodes) ∙ sym (ap moved hu.computed)

    -- each driver moves, but for those of the two instances' own input ports
    pub driver-moved : (s : ℕ) → s < size → Closed f s → Closed g s → AtInput types modules u (get_or p s none).path ⊎ (driver_at flat (g + s) ≡ moved (driver_at flat (f + s)))
    driver-moved s lt here there = go (like-at s lt).drive
      where
        lt' : s < length q
        lt' = omega (arith, lt, size-same)

        go : AreLikeDrives types modules u v (get_or p s none).path (get_or p s none).drive (get_or q s none).drive → AtInput types modules u (get_or p s none).path ⊎ (driver_at flat (g + s) ≡ moved (driver_at flat (f + s)))
        go (like.AtPort o c is at d e) = inl (record { port = o; among = c; cause = is; is = at })
        go (like.Connected a b c l d e) = inr (computed-moved s lt here there a b c l (driven-at f p one s lt (Gets a c) d) (driven-at g q other s lt' (Gets b c) e))
        go (like.Kept a b reset next own clock clock' l d e) =
            let hu = driven-at f p one s lt (Holds a reset next own clock) d in
            let hv = driven-at g q other s lt' (Holds b reset next own clock') e in
            inr (hv.held ∙ ap Held (register-moved s lt) ∙ sym (ap moved hu.held))
        go (like.Answered m n place latency addr addr' en en' lm la le d e) =
            let hu = driven-at f p one s lt (Answers m place latency addr en) d in
            let hv = driven-at g q other s lt' (Answers n place latency addr' en') e in
            let known = fields s place latency m addr en lt d in
            inr
            (hv
            ∙ ap (λ (k : ℕ). answer latency k place (number_of (paths_of all) addr') (number_of (paths_of all) en')) (found-moved (memory_paths banks) u.path v.path mf mg memories banks_differ banks_same m n lm known.0.0 known.0.1 known.0.2)
            ∙ ap₂ (λ (k j : ℕ). answer latency (shifted mf mg (number_of (memory_paths banks) m)) place k j)
            (found-moved (paths_of all) u.path v.path f g size differ paths-same addr addr' la known.1.0.0 known.1.0.1 known.1.0.2)
            (found-moved (paths_of all) u.path v.path f g size differ paths-same en en' le known.1.1.0 known.1.1.1 known.1.1.2)
            ∙ answer-moved (shifted f g) (shifted (registers_before f) (registers_before g)) (shifted mf mg) latency (number_of (memory_paths banks) m) place (number_of (paths_of all) addr) (number_of (paths_of all) en)
            ∙ sym (ap moved hu))

    -- ---- registers

    abbrev ClosedBy : (ℕ → Type 0) → ℕ → Type 0
    ClosedBy NamesIt first = (t : ℕ) → NamesIt t → (first ≤ t) × (t < first + size)

    abbrev to_there : ℕ → ℕ
    to_there t = shifted f g t

    module _ (a b : Scope) (l : AreLikeScopes u.path v.path a b) (sink sink' : Shape) (sinks : sink' ≡ sink) where
      next-same : (asked : Option Connection) (x y : Option (List Node)) → HasNext (in_scope bound a) sink asked x → HasNext (in_scope bound b) sink' asked y → ClosedBy (NextNames x) f → ClosedBy (NextNames y) g → y ≡ renamed_next to_there x
      next-same None x y h k here there = k ∙ sym (ap (renamed_next to_there) h)
      next-same (Some c) None y h k here there = absurd h
      next-same (Some c) (Some x) None h k here there = absurd k
      next-same (Some c) (Some x) (Some y) h k here there =
          ap Some
          (line-moved to_there x y
          (k.nodes
          ∙ ap (λ (s : Shape). connected_line (in_scope bound b) s (Some c)) sinks
          ∙ connected-moved bound u.path v.path f g size differ paths-same shapes-same a b l sink (Some c)
          (record { here = λ t n. here t ((h.names t).1 n); there = λ t n. there t ((k.names t).1 n) })
          ∙ ap (map (moved_laid to_there)) (sym h.nodes)))

      reset-same : (asked : Option given.Reset) (x y : Option kept.Reset) → HasReset (in_scope bound a) sink asked x → HasReset (in_scope bound b) sink' asked y → ClosedBy (ResetNames x) f → ClosedBy (ResetNames y) g → y ≡ renamed_reset to_there x
      reset-same None x y h k here there = k ∙ sym (ap (renamed_reset to_there) h)
      reset-same (Some asked) None y h k here there = absurd h
      reset-same (Some asked) (Some x) None h k here there = absurd k
      reset-same (Some asked) (Some x) (Some y) h k here there =
          let condition : y.condition ≡ renamed_line to_there x.condition =
          line-moved to_there x.condition y.condition
          (k.0.nodes
          ∙ condition-moved bound u.path v.path f g size differ paths-same shapes-same a b l asked.condition
          (record { here = λ t n. here t (inl ((h.0.names t).1 n)); there = λ t n. there t (inl ((k.0.names t).1 n)) })
          ∙ ap (map (moved_laid to_there)) (sym h.0.nodes)) in
          let init : y.init ≡ renamed_line to_there x.init =
          line-moved to_there x.init y.init
          (k.1.nodes
          ∙ ap (λ (s : Shape). taken_line (in_scope bound b) s asked.init) sinks
          ∙ taken-moved bound u.path v.path f g size differ paths-same shapes-same a b l sink asked.init
          (record { here = λ t n. here t (inr ((h.1.names t).1 n)); there = λ t n. there t (inr ((k.1.names t).1 n)) })
          ∙ ap (map (moved_laid to_there)) (sym h.1.nodes)) in
          ap₂ (λ c i. Some (reset_made c i)) condition init

      register-of : (reset : Option given.Reset) (next : Option Connection) (clock clock' : Option ℕ) (x y : Register) → IsRegisterOf (in_scope bound a) sink reset next clock x → IsRegisterOf (in_scope bound b) sink' reset next clock' y → ClosedBy (RegisterNames x) f → ClosedBy (RegisterNames y) g → unclocked_register y ≡ unclocked_register (renamed_register (signals_by to_there) x)
      register-of reset next clock clock' x y h k here there =
          ap (λ t. register_made t y.reset y.next) (ty-equal y.ty x.ty (k.typed ∙ sinks ∙ sym h.typed))
          ∙ ap₂ (λ r n. register_made x.ty r n)
          (reset-same reset x.reset y.reset h.reset_is k.reset_is (λ t n. here t (inl n)) (λ t n. there t (inl n)))
          (next-same next x.next y.next h.next_is k.next_is (λ t n. here t (inr n)) (λ t n. there t (inr n)))

    -- the register of a signal moves, but for its clock
    register-copied : (s : ℕ) → s < size → (a b : Scope) (reset : Option given.Reset) (next : Option Connection) (own clock clock' : Option ℕ) → AreLikeScopes u.path v.path a b → (get_or p s none).drive ≡ Holds a reset next own clock → (get_or q s none).drive ≡ Holds b reset next own clock' → (any : Register)
        → ClosedBy (RegisterNames (slice_index_or flat.registers (count_before is_register all (f + s)) any)) f
        → ClosedBy (RegisterNames (slice_index_or flat.registers (count_before is_register all (g + s)) any)) g
        → unclocked_register (slice_index_or flat.registers (count_before is_register all (g + s)) any) ≡ unclocked_register (renamed_register (signals_by to_there) (slice_index_or flat.registers (count_before is_register all (f + s)) any))
    register-copied s lt a b reset next own clock clock' l d e any here there =
        let hu = driven-at f p one s lt (Holds a reset next own clock) d in
        let hv = driven-at g q other s (omega (arith, lt, size-same)) (Holds b reset next own clock') e in
        register-of a b l (shape_at (signals_of all).shapes (f + s)) (shape_at (signals_of all).shapes (g + s)) (shapes-same s lt) reset next clock clock' _ _ (hu.register any) (hv.register any) here there

    -- The register that a signal of the one instance holds is that of the other, with other numbers. Each follows the same Clock input
    -- of its own site.
    pub record IsHeldAgain (r : ℕ) (any : Register) : Type 0 where
      pub own : Option ℕ
      pub again : unclocked_register (slice_index_or flat.registers (shifted (registers_before f) (registers_before g) r) any) ≡ unclocked_register (renamed_register (signals_by to_there) (slice_index_or flat.registers r any))
      pub here : get_or (clocks_held all) r None ≡ own
      pub there : get_or (clocks_held all) (shifted (registers_before f) (registers_before g) r) None ≡ own

    -- what the register of a signal follows
    followed-at : (first : ℕ) (part : List FlatSignal) → Stretch all first part → (s : ℕ) → s < length part → (a : Scope) (reset : Option given.Reset) (next : Option Connection) (own clock : Option ℕ) → (get_or part s none).drive ≡ Holds a reset next own clock → get_or (clocks_held all) (count_before is_register all (first + s)) None ≡ own
    followed-at first part at s lt a reset next own clock is =
        clocks-at all (first + s) own clock None (omega (arith, lt, stretch-inside all first part at))
        (record { scope = a; reset = reset; next = next; is = part-at (λ (x : FlatSignal). x.drive) first part at s lt Outside ∙ is })

    abbrev is_held : Driver → Bool
    is_held (Held r) = true
    is_held (Input place) = false
    is_held (MemoryWord m r addr en) = false
    is_held (ReadRegister m r) = false
    is_held (Computed line) = false

    not-held : {B : Type 0} (d e : Driver) → d ≡ e → is_held d ≡ true → is_held e ≡ false → B
    not-held d e same here there = absurd (true≢false (sym here ∙ ap is_held same ∙ there))

    answer-not-held : (latency : Latency) (m place addr en : ℕ) → is_held (answer latency m place addr en) ≡ false
    answer-not-held Zero m place addr en = refl
    answer-not-held (One under) m place addr en = refl

    number-same : (r k : ℕ) → Held r ≡ Held k → r ≡ k
    number-same r k e = cc

    pub held-copied : (s r : ℕ) → s < size → driver_at flat (f + s) ≡ Held r → (any : Register)
        → (r < length flat.registers → ClosedBy (RegisterNames (slice_index_or flat.registers r any)) f)
        → (shifted (registers_before f) (registers_before g) r < length flat.registers → ClosedBy (RegisterNames (slice_index_or flat.registers (shifted (registers_before f) (registers_before g) r) any)) g)
        → AtInput types modules u (get_or p s none).path ⊎ IsHeldAgain r any
    held-copied s r lt is any here there = go (like-at s lt).drive
      where
        go : AreLikeDrives types modules u v (get_or p s none).path (get_or p s none).drive (get_or q s none).drive → AtInput types modules u (get_or p s none).path ⊎ IsHeldAgain r any
        go (like.AtPort o c cause at d e) = inl (record { port = o; among = c; cause = cause; is = at })
        go (like.Connected a b c l d e) = not-held (Held r) (Computed (driven-at f p one s lt (Gets a c) d).line) (sym is ∙ (driven-at f p one s lt (Gets a c) d).computed) refl refl
        go (like.Answered m n place latency addr addr' en en' lm la le d e) =
            not-held (Held r) _ (sym is ∙ driven-at f p one s lt (Answers m place latency addr en) d) refl (answer-not-held latency (number_of (memory_paths banks) m) place (number_of (paths_of all) addr) (number_of (paths_of all) en))
        go (like.Kept a b reset next own clock clock' l d e) =
            let hu = driven-at f p one s lt (Holds a reset next own clock) d in
            let hv = driven-at g q other s (omega (arith, lt, size-same)) (Holds b reset next own clock') e in
            let r_is : count_before is_register all (f + s) ≡ r = sym (number-same r (count_before is_register all (f + s)) (sym is ∙ hu.held)) in
            let r_there : count_before is_register all (g + s) ≡ shifted (registers_before f) (registers_before g) r = register-moved s lt ∙ ap (shifted (registers_before f) (registers_before g)) r_is in
            inr (record {
              own = own;
              again =
                  ap (λ (k : ℕ). unclocked_register (slice_index_or flat.registers k any)) (sym r_there)
                  ∙ register-copied s lt a b reset next own clock clock' l d e any
                  (subst (λ (k : ℕ). ClosedBy (RegisterNames (slice_index_or flat.registers k any)) f) (sym r_is) (here (subst (λ (k : ℕ). k < length flat.registers) r_is hu.within)))
                  (subst (λ (k : ℕ). ClosedBy (RegisterNames (slice_index_or flat.registers k any)) g) (sym r_there) (there (subst (λ (k : ℕ). k < length flat.registers) r_there hv.within)))
                  ∙ ap (λ (k : ℕ). unclocked_register (renamed_register (signals_by to_there) (slice_index_or flat.registers k any))) r_is;
              here = ap (λ (k : ℕ). get_or (clocks_held all) k None) (sym r_is) ∙ followed-at f p one s lt a reset next own clock d;
              there = ap (λ (k : ℕ). get_or (clocks_held all) k None) (sym r_there) ∙ followed-at g q other s (omega (arith, lt, size-same)) b reset next own clock' e;
            })

    -- ---- memories

    -- a memory moves, but for its clocks, if the fields of its ports are in the instance
    pub memory-copied : (x y : FlatMemory) (m n : Memory) → AreLikeMemories u v x y → IsMemoryOf (paths_of all) x m → IsMemoryOf (paths_of all) y n
        → ((port word : List ℕ) → Contains x.bank.readers port → Contains (codes "addr" ∷ codes "en" ∷ codes "data" ∷ []) word → IsThere (paths_of all) f size (field_name x.path port word))
        → ((port word : List ℕ) → Contains x.bank.writers port → Contains (codes "addr" ∷ codes "en" ∷ codes "data" ∷ codes "mask" ∷ []) word → IsThere (paths_of all) f size (field_name x.path port word))
        → unclocked_memory n ≡ unclocked_memory (renamed_memory (signals_by to_there) m)
    memory-copied x y m n l h k readers writers =
        ap (λ t. memory_made t n.depth n.latency (unclocked_readers n.readers) (unclocked_writers n.writers)) (ty-equal n.word m.word (k.word ∙ ap (λ (b : Bank). b.word) (sym l.bank) ∙ sym h.word))
        ∙ ap (λ t. memory_made m.word t n.latency (unclocked_readers n.readers) (unclocked_writers n.writers)) (k.depth ∙ ap (λ (b : Bank). b.depth) (sym l.bank) ∙ sym h.depth)
        ∙ ap (λ t. memory_made m.word m.depth t (unclocked_readers n.readers) (unclocked_writers n.writers)) (k.latency ∙ ap (λ (b : Bank). b.latency) (sym l.bank) ∙ sym h.latency)
        ∙ ap (λ t. memory_made m.word m.depth m.latency t (unclocked_writers n.writers))
        (ap unclocked_readers k.readers
        ∙ ap (λ (b : Bank). unclocked_readers (map (reader_of (paths_of all) y) b.readers)) (sym l.bank)
        ∙ map-map unclocked_reader (reader_of (paths_of all) y) x.bank.readers
        ∙ map-among (λ port. unclocked_reader (reader_of (paths_of all) y port)) (λ port. unclocked_reader (renamed_reader (signals_by to_there) (reader_of (paths_of all) x port))) x.bank.readers (λ port c. reader-same port (λ word w. readers port word c w))
        ∙ sym (map-map (λ (r : Reader). unclocked_reader (renamed_reader (signals_by to_there) r)) (reader_of (paths_of all) x) x.bank.readers)
        ∙ sym (map-map unclocked_reader (renamed_reader (signals_by to_there)) (map (reader_of (paths_of all) x) x.bank.readers))
        ∙ ap (λ (rs : List Reader). unclocked_readers (map (renamed_reader (signals_by to_there)) rs)) (sym h.readers))
        ∙ ap (λ t. memory_made m.word m.depth m.latency (unclocked_readers (map (renamed_reader (signals_by to_there)) m.readers)) t)
        (ap unclocked_writers k.writers
        ∙ ap (λ (b : Bank). unclocked_writers (map (writer_of (paths_of all) y) b.writers)) (sym l.bank)
        ∙ map-map unclocked_writer (writer_of (paths_of all) y) x.bank.writers
        ∙ map-among (λ port. unclocked_writer (writer_of (paths_of all) y port)) (λ port. unclocked_writer (renamed_writer (signals_by to_there) (writer_of (paths_of all) x port))) x.bank.writers (λ port c. writer-same port (λ word w. writers port word c w))
        ∙ sym (map-map (λ (w : Writer). unclocked_writer (renamed_writer (signals_by to_there) w)) (writer_of (paths_of all) x) x.bank.writers)
        ∙ sym (map-map unclocked_writer (renamed_writer (signals_by to_there)) (map (writer_of (paths_of all) x) x.bank.writers))
        ∙ ap (λ (ws : List Writer). unclocked_writers (map (renamed_writer (signals_by to_there)) ws)) (sym h.writers))
      where
        field-moved : (port word : List ℕ) → IsMoved u.path v.path (field_name x.path port word) (field_name y.path port word)
        field-moved port word = record {
          rest = l.path.rest ++ 46 ∷ (port ++ 46 ∷ word);
          one = ap (λ (w : List ℕ). w ++ 46 ∷ (port ++ 46 ∷ word)) l.path.one ∙ sym (joined-behind u.path l.path.rest (port ++ 46 ∷ word));
          other = ap (λ (w : List ℕ). w ++ 46 ∷ (port ++ 46 ∷ word)) l.path.other ∙ sym (joined-behind v.path l.path.rest (port ++ 46 ∷ word));
        }

        moved_at : List ℕ → List ℕ → ℕ
        moved_at port word = to_there (number_of (paths_of all) (field_name x.path port word))

        number : (port word : List ℕ) → IsThere (paths_of all) f size (field_name x.path port word) → number_of (paths_of all) (field_name y.path port word) ≡ to_there (number_of (paths_of all) (field_name x.path port word))
        number port word t = found-moved (paths_of all) u.path v.path f g size differ paths-same (field_name x.path port word) (field_name y.path port word) (field-moved port word) t.0 t.1 t.2

        reader-same : (port : List ℕ) → ((word : List ℕ) → Contains (codes "addr" ∷ codes "en" ∷ codes "data" ∷ []) word → IsThere (paths_of all) f size (field_name x.path port word)) → unclocked_reader (reader_of (paths_of all) y port) ≡ unclocked_reader (renamed_reader (signals_by to_there) (reader_of (paths_of all) x port))
        reader-same port there =
            ap₂ (λ a e. reader_made a e (number_of (paths_of all) (field_name y.path port (codes "data"))))
            (number port (codes "addr") (there (codes "addr") (0, lit≤ tt, refl))) (number port (codes "en") (there (codes "en") (1, lit≤ tt, refl)))
            ∙ ap (λ d. reader_made (moved_at port (codes "addr")) (moved_at port (codes "en")) d) (number port (codes "data") (there (codes "data") (2, lit≤ tt, refl)))

        writer-same : (port : List ℕ) → ((word : List ℕ) → Contains (codes "addr" ∷ codes "en" ∷ codes "data" ∷ codes "mask" ∷ []) word → IsThere (paths_of all) f size (field_name x.path port word)) → unclocked_writer (writer_of (paths_of all) y port) ≡ unclocked_writer (renamed_writer (signals_by to_there) (writer_of (paths_of all) x port))
        writer-same port there =
            ap₂ (λ a e. writer_made a e (number_of (paths_of all) (field_name y.path port (codes "data"))) (number_of (paths_of all) (field_name y.path port (codes "mask"))))
            (number port (codes "addr") (there (codes "addr") (0, lit≤ tt, refl))) (number port (codes "en") (there (codes "en") (1, lit≤ tt, refl)))
            ∙ ap₂ (λ d k. writer_made (moved_at port (codes "addr")) (moved_at port (codes "en")) d k)
            (number port (codes "data") (there (codes "data") (2, lit≤ tt, refl))) (number port (codes "mask") (there (codes "mask") (3, lit≤ tt, refl)))
