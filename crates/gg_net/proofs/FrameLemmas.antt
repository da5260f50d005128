-- A network and its frame have the same machines.
use Rattle.std.proofs.Common.{◌≡◌, ℕ, ◌<◌, length, arith}
use Rattle.std.proofs.lemmas.List.{length-map}
use Rattle.std.proofs.Math.ListN as exact
use Rattle.gg_node.specs.Machine.{no_machine, machine_at}
use Rattle.gg_net.specs.Network.{Network, kind_of, kind_at, frame_of}

pub machine-known : (net : Network) (m : ℕ) → m < length net.machines → m < length (frame_of net).kinds
machine-known net m there = omega (arith, there, length-map net.machines kind_of)

pub machine-there : (net : Network) (m : ℕ) → m < length (frame_of net).kinds → m < length net.machines
machine-there net m below = omega (arith, below, length-map net.machines kind_of)

pub kind-is : (net : Network) (m : ℕ) → kind_at (frame_of net).kinds m ≡ kind_of (machine_at net.machines m)
kind-is net m = exact.get_or-map kind_of net.machines m no_machine
