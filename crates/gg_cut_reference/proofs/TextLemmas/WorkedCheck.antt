-- The lines of `check` for two units that feed each other in one cycle (gg_cut_plan's WorkedPair), and needs of their channels, worked by
-- hand. The channels are, from 0 on: `x`, `a.x`, `a.k`, `a.p`, `a.q`, `b.m`, `b.n`, `q`. If they are to be direct, `a.x`, `a.k`,
-- `b.m` and `q` are left.
use Rattle.std.proofs.Common.{◌≡◌, ℕ, zero, suc, List, [], ◌∷◌, ◌++◌, refl, ap, subst, arith}
use Rattle.std.specs.Prelude.{codes, flat_map, Contains}
use Rattle.std.specs.Fmt.{digits}
use Rattle.std.proofs.lemmas.Fmt.{decimal_digit}
use Rattle.gg_flat.specs.Circuit.{driver_at}
use Rattle.gg_flat.specs.Reads.{NamesSignal}
use Rattle.gg_order.specs.Design.{Ordered}
use Rattle.gg_cut_plan.specs.Channels.{wires_of}
use Rattle.gg_cut_plan.specs.Direct.{plan_wires}
use Rattle.gg_cut_plan.specs.Plan.{channels_to, signals_of}
use Rattle.gg_cut_plan.specs.declared.wires.Wire.{Wire}
use Rattle.gg_cut_plan.proofs.WorkedPair.{circuit, tree, listed, both_units, direct_units, piped_units}
use Rattle.gg_cut_reference.specs.text.CheckText.{IsPathInside, NeedsChannel, channel_text, machine_text}

abbrev pub design : Ordered
design = record { circuit = circuit; tree = tree; order = 0 ∷ 2 ∷ 4 ∷ 6 ∷ 7 ∷ 3 ∷ 5 ∷ 1 ∷ [] }

abbrev pub wires : List Wire
wires = wires_of circuit tree listed []

hub : machine_text design both_units listed 0 ≡ codes "machine hub: host 0\n"
hub = ap (λ (h : List ℕ). codes "machine hub: host " ++ h ++ codes "\n") (decimal_digit 0 (omega arith))

others : flat_map (machine_text design both_units listed) (1 ∷ 2 ∷ 3 ∷ 4 ∷ []) ≡ codes "machine a host 1\nmachine b host 2\nmachine in:x host 3\nmachine out:q host 4\n"
unfolding digits
others = refl

-- a line with two needs, one with one need, and one with none
two-needs : channel_text design both_units 1 listed wires 4 (1 ∷ 2 ∷ []) ≡ codes "channel a.q a hub: UInt<8> capacity 1 needs a.x a.k\n"
unfolding digits
two-needs = refl

one-need : channel_text design both_units 1 listed wires 7 (4 ∷ []) ≡ codes "channel q hub: out:q UInt<8> capacity 1 needs a.q\n"
unfolding digits
one-need = refl

no-need : channel_text design both_units 1 listed wires 0 [] ≡ codes "channel x in:x hub: UInt<8> capacity 1 needs -\n"
unfolding digits
no-need = refl

-- a channel with a pipe; its needs are as before
pipe-line : channel_text design (piped_units (codes "a.k" ∷ [])) 1 listed wires 2 (6 ∷ []) ≡ codes "channel a.k hub: a UInt<8> capacity 1 pipe needs b.n\n"
unfolding digits
pipe-line = refl

-- a channel that isn't named has none
no-pipe-line : channel_text design (piped_units (codes "a.k" ∷ [])) 1 listed wires 6 (5 ∷ []) ≡ codes "channel b.n b hub: UInt<8> capacity 1 needs b.m\n"
unfolding digits
no-pipe-line = refl

-- ---- needs

-- `a` takes the channels of the signals 2 and 3
abbrev pub two_three : List ℕ
two_three = 2 ∷ 3 ∷ []

a-takes : signals_of wires (channels_to wires 1) ≡ two_three
a-takes = refl

five-free : Contains two_three 5 → ⊥
five-free (zero, lt, is) = absurd (omega (arith, is))
five-free (suc zero, lt, is) = absurd (omega (arith, is))
five-free (suc (suc k), lt, is) = absurd (omega (arith, lt))

-- `a.q` needs `a.x`, which it reads
q-needs-x : NeedsChannel circuit listed wires 4 1
q-needs-x = record {
  made = omega arith;
  known = omega arith;
  taken = refl;
  path = 2 ∷ [];
  reads = (five-free, record { signal = omega arith; names = (0, omega arith, refl) }, refl);
}

-- `a.p` reads only `a.x`, from which no path goes on: so it doesn't need `a.k`
two-ends : (path : List ℕ) → IsPathInside circuit two_three 2 path 3 → ⊥
two-ends [] e = absurd (omega (arith, e))
two-ends (next ∷ path) h = h.0 (0, omega arith, refl)

reads-two : (next : ℕ) → NamesSignal (driver_at circuit 4) next → 2 ≡ next
reads-two next (zero, lt, is) = cc
reads-two next (suc k, lt, is) = absurd (omega (arith, lt))

p-path : (path : List ℕ) → IsPathInside circuit two_three 4 path 3 → ⊥
p-path [] e = absurd (omega (arith, e))
p-path (next ∷ path) h = two-ends path (subst (λ s. IsPathInside circuit two_three s path 3) (let same : next ≡ 2 = let e = reads-two next h.1.names in omega (arith, e) in same) h.2)

p-needs-no-k : NeedsChannel circuit listed wires 3 2 → ⊥
p-needs-no-k needs = p-path needs.path needs.reads

-- a source's channel needs nothing
x-needs-none : (d : ℕ) → NeedsChannel circuit listed wires 0 d → ⊥
x-needs-none d needs = let made = needs.made in absurd (omega (arith, made))

-- ---- direct channels

abbrev pub direct : List Wire
direct = plan_wires circuit tree direct_units

hub-stays : machine_text design direct_units listed 0 ≡ codes "machine hub: host 0\n"
hub-stays = ap (λ (h : List ℕ). codes "machine hub: host " ++ h ++ codes "\n") (decimal_digit 0 (omega arith))

others-stay : flat_map (machine_text design direct_units listed) (1 ∷ 2 ∷ 3 ∷ 4 ∷ []) ≡ codes "machine a host 1\nmachine b host 2\nmachine in:x host 3\nmachine out:q host 4\n"
unfolding digits
others-stay = refl

-- a channel has the name of the signal that its consumer takes, and the machine that gives its value
direct-lines : channel_text design direct_units 1 listed direct 0 [] ++ channel_text design direct_units 1 listed direct 1 (2 ∷ []) ++ channel_text design direct_units 1 listed direct 2 (0 ∷ []) ++ channel_text design direct_units 1 listed direct 3 (0 ∷ 1 ∷ [])
    ≡ codes "channel a.x in:x a UInt<8> capacity 1 needs -\nchannel a.k b a UInt<8> capacity 1 needs b.m\nchannel b.m a b UInt<8> capacity 1 needs a.x\nchannel q a out:q UInt<8> capacity 1 needs a.x a.k\n"
unfolding digits
direct-lines = refl

-- a direct channel may have a pipe
direct-pipe-line : channel_text design (record direct_units { pipe = codes "a.k" ∷ [] }) 1 listed direct 1 (2 ∷ []) ≡ codes "channel a.k b a UInt<8> capacity 1 pipe needs b.m\n"
unfolding digits
direct-pipe-line = refl

-- `b` takes the channel of the signal 6
abbrev pub only_six : List ℕ
only_six = 6 ∷ []

b-takes : signals_of direct (channels_to direct 2) ≡ only_six
b-takes = refl

seven-free : Contains only_six 7 → ⊥
seven-free (zero, lt, is) = absurd (omega (arith, is))
seven-free (suc k, lt, is) = absurd (omega (arith, lt))

-- `a.k` needs what `b.n` needs, by which `b` gives it
k-needs-m : NeedsChannel circuit listed direct 1 2
k-needs-m = record {
  made = omega arith;
  known = omega arith;
  taken = refl;
  path = 6 ∷ [];
  reads = (seven-free, record { signal = omega arith; names = (0, omega arith, refl) }, refl);
}

-- `b.m` needs what `a.p` needs
m-needs-no-k : NeedsChannel circuit listed direct 2 1 → ⊥
m-needs-no-k needs = p-path needs.path needs.reads

-- what a source gives straight to a unit needs nothing
straight-needs-none : (d : ℕ) → NeedsChannel circuit listed direct 0 d → ⊥
straight-needs-none d needs = let made = needs.made in absurd (omega (arith, made))
