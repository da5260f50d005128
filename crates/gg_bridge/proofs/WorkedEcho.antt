-- An echo at the ports of a circuit, worked by hand: which ports it can stand at, and the rows. A mirror, which is no model.
use Rattle.std.proofs.Common.{◌≡◌, ◌≢◌, ℕ, zero, suc, ◌<◌, List, [], ◌∷◌, ◌++◌, map, codes, Some, None, refl, ap, arith}
use Rattle.std.specs.Prelude.{All, AllPairs, Contains}
use Rattle.gg_bits.specs.Shape.{Shape}
use Rattle.gg_bits.specs.declared.ops.Op1.TheVariants.{Not}
use Rattle.gg_bits.specs.declared.ops.Op2.TheVariants.{Add}
use Rattle.gg_bits.specs.declared.ops.OpN.TheVariants.{Bits}
use Rattle.gg_flat.specs.declared.line.Node.{Node}
use Rattle.gg_flat.specs.declared.line.Op.TheVariants.{Ref, One, Two, Fix}
use Rattle.gg_flat.specs.declared.piece.Driver.TheVariants.{Input, Held, Computed}
use Rattle.gg_flat.specs.Circuit.{FlatCircuit, signal_shapes}
use Rattle.gg_flat.specs.Line.{value_at, shape_at}
use Rattle.gg_flat_tree.specs.Tree.{path_at}
use Rattle.gg_flat.specs.inside.Along.{rows_along}
use Rattle.gg_flat.proofs.WorkedCircuits.{eight, nine, node}
use Rattle.gg_flat.proofs.WorkedMemories.{signal, copy}
use Rattle.gg_bridge.specs.Model.{IsModel}
use Rattle.gg_bridge.specs.inside.Joined.{CanJoin}
use Rattle.gg_bridge.specs.Joined.{joined}
use Rattle.gg_bridge.specs.inside.Echo.{echo_piece}
use Rattle.gg_bridge.specs.inside.Ports.{CanStand, IsAmong}
use Rattle.gg_bridge.specs.Ports.{joined_at, seen_at}

-- `bits(add(r, a), 7, 0)`
abbrev pub sum : ℕ → ℕ → List Node
sum r a = node eight (Ref r) ∷ node eight (Ref a) ∷ node nine (Two Add 0 1) ∷ node eight (Fix Bits 2 7 0) ∷ []

-- Two sums, of the input `x` and of its complement. Signals: 0 `x`, 1 `p`, 2 `q`, 3 `u.a`, 4 `u.s`, 5 `v.a`, 6 `v.s`.
abbrev pub two : FlatCircuit
two =
    record {
      paths = codes "x" ∷ codes "p" ∷ codes "q" ∷ codes "u.a" ∷ codes "u.s" ∷ codes "v.a" ∷ codes "v.s" ∷ [];
      signals =
          signal eight (Input 0) ∷ copy eight 4 ∷ copy eight 6 ∷ copy eight 0 ∷ signal eight (Held 0)
          ∷ signal eight (Computed (node eight (Ref 0) ∷ node eight (One Not 0) ∷ [])) ∷ signal eight (Held 1) ∷ [];
      registers = record { ty = eight; reset = None; next = Some (sum 4 3); clock = None } ∷ record { ty = eight; reset = None; next = Some (sum 6 5); clock = None } ∷ [];
      memories = [];
      ins = 0 ∷ [];
      outs = 1 ∷ 2 ∷ [];
      clocks = 0;
    }

abbrev front : List ℕ
front = codes "bridge:echo8."

-- ---- the ports

-- the echo can see `q` and drive `x`: no path of the circuit begins with a `b`
fits : CanJoin two front (echo_piece eight) (2 ∷ []) (0 ∷ [])
fits =
    record {
      seen_count = refl;
      seen = seen;
      seen_type = seen-type;
      driven_count = refl;
      driven = driven;
      driven_type = driven-type;
      once = once;
      fresh = fresh;
    }
  where
    seen : (i : ℕ) → i < 1 → value_at (2 ∷ []) i < 7
    seen zero lt = omega arith
    seen (suc i) lt = absurd (omega (arith, lt))

    seen-type : (i : ℕ) → i < 1 → shape_at (signal_shapes two) (value_at (2 ∷ []) i) ≡ shape_at (signal_shapes (echo_piece eight)) (value_at (0 ∷ []) i)
    seen-type zero lt = refl
    seen-type (suc i) lt = absurd (omega (arith, lt))

    driven : (i : ℕ) → i < 1 → Contains {X = ℕ} (0 ∷ []) (value_at (0 ∷ []) i)
    driven zero lt = (0, omega arith, refl)
    driven (suc i) lt = absurd (omega (arith, lt))

    driven-type : (i : ℕ) → i < 1 → shape_at (signal_shapes two) (value_at (0 ∷ []) i) ≡ shape_at (signal_shapes (echo_piece eight)) (value_at (1 ∷ []) i)
    driven-type zero lt = refl
    driven-type (suc i) lt = absurd (omega (arith, lt))

    once : AllPairs {X = ℕ} (λ a b. a ≢ b) (0 ∷ [])
    once i j d less lt same = absurd (omega (arith, less, lt))

    first : (path rest : List ℕ) → path ≡ front ++ rest → value_at path 0 ≡ 98
    first path rest same = ap (λ l. value_at l 0) same

    fresh : (s i : ℕ) → s < 7 → i < 2 → path_at two.paths s ≢ front ++ path_at (echo_piece eight).paths i
    fresh zero i lt less same = absurd (let e = first (codes "x") (path_at (echo_piece eight).paths i) same in omega (arith, e))
    fresh (suc zero) i lt less same = absurd (let e = first (codes "p") (path_at (echo_piece eight).paths i) same in omega (arith, e))
    fresh (suc (suc zero)) i lt less same = absurd (let e = first (codes "q") (path_at (echo_piece eight).paths i) same in omega (arith, e))
    fresh (suc (suc (suc zero))) i lt less same = absurd (let e = first (codes "u.a") (path_at (echo_piece eight).paths i) same in omega (arith, e))
    fresh (suc (suc (suc (suc zero)))) i lt less same = absurd (let e = first (codes "u.s") (path_at (echo_piece eight).paths i) same in omega (arith, e))
    fresh (suc (suc (suc (suc (suc zero))))) i lt less same = absurd (let e = first (codes "v.a") (path_at (echo_piece eight).paths i) same in omega (arith, e))
    fresh (suc (suc (suc (suc (suc (suc zero)))))) i lt less same = absurd (let e = first (codes "v.s") (path_at (echo_piece eight).paths i) same in omega (arith, e))
    fresh (suc (suc (suc (suc (suc (suc (suc s))))))) i lt less same = absurd (omega (arith, lt))

-- an output can't be driven
no-output : CanJoin two front (echo_piece eight) (2 ∷ []) (1 ∷ []) → ⊥
no-output can = by (can.driven 0 (omega arith))
  where
    by : Contains {X = ℕ} (0 ∷ []) 1 → ⊥
    by (zero, lt, is) = absurd (omega (arith, is))
    by (suc k, lt, is) = absurd (omega (arith, lt))

-- an echo of another width doesn't fit
no-width : CanJoin two front (echo_piece nine) (2 ∷ []) (0 ∷ []) → ⊥
no-width can = let e = ap (λ (s : Shape). s.width) (can.seen_type 0 (omega arith)) in absurd (omega (arith, e))

-- ---- the rows

-- an echo sees `q` and drives `x`
abbrev both : FlatCircuit
both = joined two front (echo_piece eight) (2 ∷ []) (0 ∷ [])

-- signals 7 and 8 are the echo's
abbrev order : List ℕ
order = 8 ∷ 0 ∷ 3 ∷ 4 ∷ 5 ∷ 6 ∷ 1 ∷ 2 ∷ 7 ∷ []

-- by the names of the ports
by-names : joined_at two (codes "echo8") (echo_piece eight) (codes "q" ∷ []) (codes "x" ∷ []) ≡ both
by-names = refl

stands : CanStand two (codes "echo8") (echo_piece eight) (codes "q" ∷ []) (codes "x" ∷ [])
stands = record { outputs = one (IsAmong two two.outs) (codes "q") refl; inputs = one (IsAmong two two.ins) (codes "x") refl; can = fits }
  where
    one : (P : List ℕ → Type 0) (x : List ℕ) → P x → All P (x ∷ [])
    one P x is zero d lt = is
    one P x is (suc k) d lt = absurd (omega (arith, lt))

-- no input and one output are left
ports-in : both.ins ≡ []
ports-in = refl

ports-out : both.outs ≡ 1 ∷ []
ports-out = refl

names : both.paths ≡ codes "x" ∷ codes "p" ∷ codes "q" ∷ codes "u.a" ∷ codes "u.s" ∷ codes "v.a" ∷ codes "v.s" ∷ codes "bridge:echo8.in" ∷ codes "bridge:echo8.out" ∷ []
names = refl

-- `p` in five cycles
row : map (λ values. value_at values 1) (rows_along both order [] 5) ≡ 0 ∷ 0 ∷ 0 ∷ 255 ∷ 253 ∷ []
row = refl

-- an output behind a pipe is called by its own name
abbrev piped : FlatCircuit
piped = record two { paths = two.paths ++ codes "pipe:q" ∷ []; signals = two.signals ++ signal eight (Held 2) ∷ []; outs = 1 ∷ 7 ∷ [] }

behind-pipe : seen_at piped (codes "q" ∷ codes "p" ∷ []) ≡ 7 ∷ 1 ∷ []
behind-pipe = refl

-- ---- a mirror

-- it says what it sees in the same cycle
abbrev mirror : FlatCircuit
mirror =
    record {
      paths = codes "in" ∷ codes "out" ∷ [];
      signals = signal eight (Input 0) ∷ copy eight 0 ∷ [];
      registers = [];
      memories = [];
      ins = 0 ∷ [];
      outs = 1 ∷ [];
      clocks = 0;
    }

-- its out-signal reaches its in-signal
no-model : IsModel mirror → ⊥
no-model is = is.apart 1 0 (0, omega arith, refl) (0, omega arith, refl) (record { path = 0 ∷ []; reads = (record { signal = omega arith; names = (0, omega arith, refl) }, refl) })
