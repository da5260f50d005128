-- The texts of small demos, worked out by hand.
use Rattle.std.proofs.Common.{◌≡◌, [], ◌∷◌, codes, refl, arith}
use Rattle.std.specs.Fmt.{digits}
use Rattle.gg_rows.specs.CircuitText.{demo_circuit}
use Rattle.gg_rows.specs.PartitionText.{demo_partition}
use Rattle.gg_rows.specs.TraceText.{demo_trace, number_at}
use Rattle.gg_rows.specs.SummaryText.{demo_summary}

-- the numbers of the smallest demo
smallest-trace : demo_trace 0 1 ≡ codes "cycle x\n0 00000000\n1 3c6ef35f\n2 47502932\n3 d1ccf6e9\n"
unfolding digits
smallest-trace = refl

-- the number behind the greatest seed
greatest-seed : number_at 4294967295 1 ≡ 1012239698
greatest-seed = refl

-- a near miss: the first row has the seed, and not the number behind it
first-is-seed : number_at 0 0 ≡ 1013904223 → ⊥
first-is-seed e = absurd (omega (arith, e))

-- two stages: the second takes what the first gives, and gives the outputs
two-stages : demo_circuit 2
    ≡ codes "circuit Demo :\nmodule Stage :\ninput clock : Clock\ninput a : UInt<32>\noutput p : UInt<32>\noutput q : UInt<32>\nreg r : UInt<32>, clock\np <= xor(a, r)\nq <= r\nr <= bits(add(a, r), 31, 0)\nmodule Demo :\ninput clock : Clock\ninput x : UInt<32>\noutput y : UInt<32>\noutput z : UInt<32>\ninst s0 of Stage\ninst s1 of Stage\ns0.clock <= clock\ns1.clock <= clock\ns0.a <= x\ns1.a <= s0.p\ny <= s1.p\nz <= s1.q\n"
unfolding digits
two-stages = refl

-- one stage alone shares its host with none, and three share two hosts
one-unit : demo_partition 1 ≡ codes "{\"units\":[\"s0\"],\"share\":[[\"s0\"],[]],\"capacity\":{\"x\":1,\"y\":1,\"z\":1,\"s0.a\":1,\"s0.p\":1,\"s0.q\":1}}\n"
unfolding digits
one-unit = refl

three-units : demo_partition 3
    ≡ codes "{\"units\":[\"s0\",\"s1\",\"s2\"],\"share\":[[\"s0\",\"s2\"],[\"s1\"]],\"capacity\":{\"x\":1,\"y\":1,\"z\":1,\"s0.a\":1,\"s0.p\":1,\"s0.q\":1,\"s1.a\":1,\"s1.p\":1,\"s1.q\":1,\"s2.a\":1,\"s2.p\":1,\"s2.q\":1}}\n"
unfolding digits
three-units = refl

-- the smallest demo, whose outputs were worked out by hand: y is the exclusive or of x and the register, and z is the register
smallest-summary : demo_summary 0 1 5 6 68 (0 ∷ 0x3c6ef35f ∷ 0x7b3eda6d ∷ 0x5273ea78 ∷ []) (0 ∷ 0 ∷ 0x3c6ef35f ∷ 0x83bf1c91 ∷ [])
    ≡ codes "demo seed 0 size 1 cycles 4\nmachines 5 channels 6 steps 68\nlast 5273ea78 83bf1c91\nfold 1523c34a bfd1efce\n"
unfolding digits
smallest-summary = refl
