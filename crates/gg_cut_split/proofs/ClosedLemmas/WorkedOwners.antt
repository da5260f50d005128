-- Owners by paths alone, worked by hand, compared with those by the tree; and machines that aren't owners.
--
-- The top has the output `top`, an instance `c` and an instance `cc` with the output `x` each. In `c` there are two memories, `m` and
-- `n`, with one reader `r` each, and an instance `d` with the output `y`.
use Rattle.std.proofs.Common.{◌≡◌, ◌≢◌, ℕ, ◌+◌, ◌<◌, List, [], ◌∷◌, ◌++◌, Some, None, refl, sym, ◌∙◌, ap, inl, inr, length, eq-eqb, lit<, arith}
use Rattle.std.specs.Prelude.{codes, map, if◌then◌else◌}
use Rattle.gg_flat.specs.declared.memory.Latency.TheVariants.{Zero}
use Rattle.gg_flat.specs.declared.memory.Memory.{Memory}
use Rattle.gg_flat_tree.specs.declared.tree.Instance.{Instance}
use Rattle.gg_flat.specs.Line.{value_at}
use Rattle.gg_flat.specs.Circuit.{FlatCircuit}
use Rattle.gg_flat_tree.specs.Tree.{InstanceTree, path_at}
use Rattle.gg_flat.proofs.WorkedCircuits.{eight}
use Rattle.gg_flat.proofs.WorkedForms.{only, both, three, apart}
use Rattle.gg_order.specs.Design.{Ordered}
use Rattle.gg_partfile.specs.declared.request.Request.{Request}
use Rattle.gg_partfile.specs.Request.{no_request}
use Rattle.gg_cut_plan.specs.Listed.{listed_of, owner_of, owner_of_instance, memory_owner}
use Rattle.gg_cut_plan.specs.Fault.{rest_behind, fault_in}
use Rattle.gg_cut_plan.specs.Plan.{machine_names}
use Rattle.gg_cut_plan.proofs.WorkedPair.{output}
use Rattle.gg_cut_split.specs.inside.Longest.{HoldsPath, Covers, listed_paths, IsLongestHolder, IsLongestCover}

-- ---- what a path doesn't hold

behind-held : (p rest : List ℕ) → rest_behind p (p ++ 46 ∷ rest) ≡ Some (46 ∷ rest)
behind-held [] rest = refl
behind-held (a ∷ p) rest = ap (λ b. if b then rest_behind p (p ++ 46 ∷ rest) else None) (eq-eqb a a refl) ∙ behind-held p rest

-- a path doesn't hold what doesn't begin with the path and a dot
not-held : (p q : List ℕ) → rest_behind p q ≡ None → ¬ HoldsPath p q
not-held p q none h = clash (sym none ∙ ap (rest_behind p) h.is ∙ behind-held p h.rest)
  where
    clash : None ≡ Some (46 ∷ h.rest) → ⊥
    clash e = absurd (cc)

itself : ¬ HoldsPath (codes "c") (codes "c")
itself = not-held (codes "c") (codes "c") refl

longer-name : ¬ HoldsPath (codes "c") (codes "cc.x")
longer-name = not-held (codes "c") (codes "cc.x") refl

below : ¬ HoldsPath (codes "c.m") (codes "c.x")
below = not-held (codes "c.m") (codes "c.x") refl

above : HoldsPath (codes "c") (codes "c.m.r.addr")
above = record { rest = codes "m.r.addr"; is = refl }

-- ---- the circuit

abbrev memory : ℕ → Memory
memory s = record { word = eight; depth = 4; latency = Zero; readers = record { addr = s; en = s + 1; word = s + 2; clock = None } ∷ []; writers = [] }

abbrev circuit : FlatCircuit
circuit =
    record {
      paths = codes "top" ∷ codes "c.x" ∷ codes "c.m.r.addr" ∷ codes "c.m.r.en" ∷ codes "c.m.r.data" ∷ codes "c.n.r.addr" ∷ codes "c.n.r.en" ∷ codes "c.n.r.data" ∷ codes "c.d.y" ∷ codes "cc.x" ∷ [];
      signals = [];
      registers = [];
      memories = memory 2 ∷ memory 5 ∷ [];
      ins = [];
      outs = 0 ∷ [];
      clocks = 0;
    }

abbrev instance : ℕ → ℕ → ℕ → ℕ → List ℕ → Instance
instance above kind first end memories = record { parent = Some above; «module» = kind; first = first; end = end; ports = output first ∷ []; memories = memories; clocks = [] }

abbrev tree : InstanceTree
tree =
    record {
      paths = [] ∷ codes "c" ∷ codes "c.d" ∷ codes "cc" ∷ [];
      instances = record { parent = None; «module» = 0; first = 0; end = 10; ports = output 0 ∷ []; memories = []; clocks = [] } ∷ instance 0 1 1 9 (0 ∷ 1 ∷ []) ∷ instance 1 2 8 9 [] ∷ instance 0 3 9 10 [] ∷ [];
      memory_paths = codes "c.m" ∷ codes "c.n" ∷ [];
      memories = record { instance = 1; memory = 0; ports = codes "r" ∷ []; clocks = [] } ∷ record { instance = 1; memory = 1; ports = codes "r" ∷ []; clocks = [] } ∷ [];
      clocks = [];
      register_clocks = [];
      stops = [];
    }

abbrev design : Ordered
design = record { circuit = circuit; tree = tree; order = [] }

abbrev asks : List (List ℕ) → List (List ℕ) → Request
asks units memories = record no_request { units = units; share = []; memories = memories; capacity = [] }

-- the unit `c`, machine 1, and the memory `c.m` in it, machine 2
abbrev one : Request
one = asks (codes "c" ∷ []) (codes "c.m" ∷ [])

-- both memories, `c.n` asked for first
abbrev two : Request
two = asks (codes "c" ∷ []) (codes "c.n" ∷ codes "c.m" ∷ [])

accepted : fault_in circuit tree one ∷ fault_in circuit tree two ∷ [] ≡ None ∷ None ∷ []
accepted = refl

paths-of-one : listed_paths tree one ≡ codes "c" ∷ codes "c.m" ∷ []
paths-of-one = refl

-- the listed memories stand in the order of the tree
paths-of-two : listed_paths tree two ≡ codes "c" ∷ codes "c.m" ∷ codes "c.n" ∷ []
paths-of-two = refl

-- the names of the machines after the hub
names-of-two : map (path_at (machine_names design two (listed_of tree two))) (1 ∷ 2 ∷ 3 ∷ []) ≡ listed_paths tree two
names-of-two = refl

-- owners by the tree: of `top`, `c.x`, `c.m.r.addr`, `c.m.r.data`, `c.n.r.addr`, `c.d.y`, `cc.x`
by-tree : map (owner_of circuit tree (listed_of tree one)) (0 ∷ 1 ∷ 2 ∷ 4 ∷ 5 ∷ 8 ∷ 9 ∷ []) ≡ 0 ∷ 1 ∷ 2 ∷ 2 ∷ 1 ∷ 1 ∷ 0 ∷ []
by-tree = refl

two-by-tree : map (owner_of circuit tree (listed_of tree two)) (0 ∷ 1 ∷ 2 ∷ 4 ∷ 5 ∷ 8 ∷ 9 ∷ []) ≡ 0 ∷ 1 ∷ 2 ∷ 2 ∷ 3 ∷ 1 ∷ 0 ∷ []
two-by-tree = refl

-- ---- owners by paths

-- a signal whose path neither `c` nor `c.m` holds is the hub's
hub : (s : ℕ) → rest_behind (codes "c") (path_at circuit.paths s) ≡ None → rest_behind (codes "c.m") (path_at circuit.paths s) ≡ None → IsLongestHolder design one s 0
hub s unit memory = both (λ i. ¬ HoldsPath (path_at (listed_paths tree one) i) (path_at circuit.paths s)) (not-held (codes "c") (path_at circuit.paths s) unit) (not-held (codes "c.m") (path_at circuit.paths s) memory)

-- a signal whose path `c` holds and `c.m` doesn't is the unit's
unit : (s : ℕ) → HoldsPath (codes "c") (path_at circuit.paths s) → rest_behind (codes "c.m") (path_at circuit.paths s) ≡ None → IsLongestHolder design one s 1
unit s holds memory =
    record {
      known = lit< tt;
      has = holds;
      longest = both (λ i. i ≢ 0 → HoldsPath (path_at (listed_paths tree one) i) (path_at circuit.paths s) → length (path_at (listed_paths tree one) i) < 1) (λ ne h. absurd (ne refl)) (λ ne h. absurd (not-held (codes "c.m") (path_at circuit.paths s) memory h));
    }

-- a signal whose path `c.m` holds is the memory's, though `c` holds the path too
field : (s : ℕ) → HoldsPath (codes "c.m") (path_at circuit.paths s) → IsLongestHolder design one s 2
field s holds =
    record {
      known = lit< tt;
      has = holds;
      longest = both (λ i. i ≢ 1 → HoldsPath (path_at (listed_paths tree one) i) (path_at circuit.paths s) → length (path_at (listed_paths tree one) i) < 3) (λ ne h. lit< tt) (λ ne h. absurd (ne refl));
    }

owner-top : IsLongestHolder design one 0 0
owner-top = hub 0 refl refl

owner-own : IsLongestHolder design one 1 1
owner-own = unit 1 (record { rest = codes "x"; is = refl }) refl

owner-field : IsLongestHolder design one 2 2
owner-field = field 2 (record { rest = codes "r.addr"; is = refl })

owner-word : IsLongestHolder design one 4 2
owner-word = field 4 (record { rest = codes "r.data"; is = refl })

-- the memory `c.n` isn't listed: its address is the unit's
owner-unlisted : IsLongestHolder design one 5 1
owner-unlisted = unit 5 (record { rest = codes "n.r.addr"; is = refl }) refl

owner-deeper : IsLongestHolder design one 8 1
owner-deeper = unit 8 (record { rest = codes "d.y"; is = refl }) refl

owner-beside : IsLongestHolder design one 9 0
owner-beside = hub 9 refl refl

-- where both memories are listed, it belongs to `c.n`, machine 3
owner-later : IsLongestHolder design two 5 3
owner-later =
    record {
      known = lit< tt;
      has = record { rest = codes "r.addr"; is = refl };
      longest = three (λ i. i ≢ 2 → HoldsPath (path_at (listed_paths tree two) i) (codes "c.n.r.addr") → length (path_at (listed_paths tree two) i) < 3) (λ ne h. lit< tt) (λ ne h. absurd (not-held (codes "c.m") (codes "c.n.r.addr") refl h)) (λ ne h. absurd (ne refl));
    }

-- ---- instances

instances-by-tree : map (owner_of_instance tree (listed_of tree one).units) (0 ∷ 1 ∷ 2 ∷ 3 ∷ []) ≡ 0 ∷ 1 ∷ 1 ∷ 0 ∷ []
instances-by-tree = refl

-- a path doesn't cover one that differs from it and that it doesn't hold
not-covered : (p q : List ℕ) → p ≢ q → rest_behind p q ≡ None → ¬ Covers p q
not-covered p q differ none (inl same) = differ same
not-covered p q differ none (inr holds) = not-held p q none holds

-- the unit's own instance, whose path is the unit's
cover-itself : IsLongestCover design one (codes "c") 1
cover-itself =
    record {
      known = lit< tt;
      has = inl refl;
      longest = both (λ i. i ≢ 0 → Covers (path_at (listed_paths tree one) i) (codes "c") → length (path_at (listed_paths tree one) i) < 1) (λ ne h. absurd (ne refl)) (λ ne h. absurd (not-covered (codes "c.m") (codes "c") (λ e. absurd (cc)) refl h));
    }

-- the instance `d` below it, whose path the unit's holds
cover-deeper : IsLongestCover design one (codes "c.d") 1
cover-deeper =
    record {
      known = lit< tt;
      has = inr (record { rest = codes "d"; is = refl });
      longest = both (λ i. i ≢ 0 → Covers (path_at (listed_paths tree one) i) (codes "c.d") → length (path_at (listed_paths tree one) i) < 1) (λ ne h. absurd (ne refl)) (λ ne h. absurd (not-covered (codes "c.m") (codes "c.d") (λ e. apart 109 100 refl (ap (λ (l : List ℕ). value_at l 2) e)) refl h));
    }

cover-beside : IsLongestCover design one (codes "cc") 0
cover-beside = both (λ i. ¬ Covers (path_at (listed_paths tree one) i) (codes "cc")) (not-covered (codes "c") (codes "cc") (λ e. absurd (cc)) refl) (not-covered (codes "c.m") (codes "cc") (λ e. absurd (cc)) refl)

-- ---- memories

memories-by-tree : map (memory_owner tree (listed_of tree one)) (0 ∷ 1 ∷ []) ≡ 2 ∷ 1 ∷ []
memories-by-tree = refl

cover-listed : IsLongestCover design one (codes "c.m") 2
cover-listed =
    record {
      known = lit< tt;
      has = inl refl;
      longest = both (λ i. i ≢ 1 → Covers (path_at (listed_paths tree one) i) (codes "c.m") → length (path_at (listed_paths tree one) i) < 3) (λ ne h. lit< tt) (λ ne h. absurd (ne refl));
    }

-- the memory `c.n` isn't listed, so it is the unit's
cover-unlisted : IsLongestCover design one (codes "c.n") 1
cover-unlisted =
    record {
      known = lit< tt;
      has = inr (record { rest = codes "n"; is = refl });
      longest = both (λ i. i ≢ 0 → Covers (path_at (listed_paths tree one) i) (codes "c.n") → length (path_at (listed_paths tree one) i) < 1) (λ ne h. absurd (ne refl)) (λ ne h. absurd (not-covered (codes "c.m") (codes "c.n") (λ e. apart 109 110 refl (ap (λ (l : List ℕ). value_at l 2) e)) refl h));
    }

-- ---- no owners

-- the unit isn't the owner of the listed memory in it
no-unit-memory : ¬ IsLongestCover design one (codes "c.m") 1
no-unit-memory is = let less : 3 < 1 = is.longest 1 (lit< tt) (λ e. absurd (omega (arith, e))) (inl refl) in absurd (omega (arith, less))

-- the unit isn't the owner of a field of the listed memory in it
no-unit : ¬ IsLongestHolder design one 2 1
no-unit is = let less : 3 < 1 = is.longest 1 (lit< tt) (λ e. absurd (omega (arith, e))) (record { rest = codes "r.addr"; is = refl }) in absurd (omega (arith, less))

-- but it is where that memory isn't listed
no-memory : IsLongestHolder design (asks (codes "c" ∷ []) []) 2 1
no-memory = record { known = lit< tt; has = above; longest = only (λ i. i ≢ 0 → HoldsPath (path_at (codes "c" ∷ []) i) (codes "c.m.r.addr") → length (path_at (codes "c" ∷ []) i) < 1) (λ ne h. absurd (ne refl)) }

-- a listed memory isn't the owner of its unit's other signals
no-field : ¬ IsLongestHolder design one 1 2
no-field is = below is.has

-- the hub isn't the owner of what a unit holds
no-hub : ¬ IsLongestHolder design one 1 0
no-hub is = is 0 (lit< tt) (record { rest = codes "x"; is = refl })

-- a unit isn't the owner of what has a name that only begins like its own
no-prefix : ¬ IsLongestHolder design one 9 1
no-prefix is = longer-name is.has

-- no machine after the listed ones is an owner
no-source : ¬ IsLongestHolder design one 1 3
no-source is = let less : 2 < 2 = is.known in absurd (omega (arith, less))
