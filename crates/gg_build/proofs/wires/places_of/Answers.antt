use Rattle.std.proofs.Common.{◌≡◌, ◌^◌, ◌<◌, ◌≤◌, ℕ, List, length, map, get_or, sym, subst, arith}
use Rattle.std.specs.Prelude.{All}
use Rattle.std.proofs.lemmas.List.{length-map}
use Rattle.gg_cut_plan.specs.declared.plan.Machine.{Machine}
use Rattle.gg_build.specs.inside.Wires.{IsNoted, channels_at, AreListed}
use Rattle.gg_build.proofs.PlaceLemmas.{ArePlacedTo, placed-none, placed-more, placed-all, listed-at}
use Rattle.gg_build.proofs.wires.places_of.Goals as goal

-- the list of one machine: it is short enough, and its channels exist
record IsOneOf (lists : List (List ℕ)) (count m : ℕ) (list : List ℕ) : Type 0 where
  there : m < length lists
  is : channels_at lists m ≡ list
  few : length list ≤ 2 ^ 32
  known : All (λ c. c < count) list

one-of : (f : Machine → List ℕ) (machines : List Machine) (count m : ℕ) (machine : Machine) (list : List ℕ) → AreListed (map f machines) count → m < length machines → machine ≡ get_or machines m machine → list ≡ f machine → IsOneOf (map f machines) count m list
one-of f machines count m machine list are lt is same =
    let there : m < length (map f machines) = omega (arith, lt, length-map machines f) in
    let at = listed-at f machines m machine list lt is same in
    record {
      there = there;
      is = at;
      few = subst (λ (l : List ℕ). length l ≤ 2 ^ 32) at (are.few m there);
      known = subst (λ (l : List ℕ). All (λ c. c < count) l) at (are.known m there);
    }

abbrev outs_of : Machine → List ℕ
outs_of machine = machine.outs

abbrev ins_of : Machine → List ℕ
ins_of machine = machine.ins

pub loop-machine-init : goal.loop-machine-init
loop-machine-init c = (
  placed-none (map outs_of c.args.machines.now) c.args.count c.in_ok-outs.outs.items (omega (arith, c.in_ok-outs.ensures.len, c.in_ok-outs.outs.ok.0)),
  placed-none (map ins_of c.args.machines.now) c.args.count c.in_ok-ins.ins.items (omega (arith, c.in_ok-ins.ensures.len, c.in_ok-ins.ins.ok.0)),
)

pub note-requires : goal.note-requires
note-requires c =
    let own = one-of outs_of c.args.machines.now c.args.count c.loop-machine.machine-index c.machine-item.result c.as_slice.result.now c.requires.outs c.loop-machine-test.true c.machine-item.is c.as_slice.ensures in
    record { few = own.few; known = subst (λ n. All (λ c. c < n) c.as_slice.result.now) (sym c.loop-machine.invariant.0.total) own.known }

pub note-requires-in-loop-machine : goal.note-requires-in-loop-machine
note-requires-in-loop-machine c =
    let own = one-of ins_of c.args.machines.now c.args.count c.loop-machine.machine-index c.machine-item.result c.as_slice-in-loop-machine.result.now c.requires.ins c.loop-machine-test.true c.machine-item.is c.as_slice-in-loop-machine.ensures in
    record { few = own.few; known = subst (λ n. All (λ c. c < n) c.as_slice-in-loop-machine.result.now) (sym c.loop-machine.invariant.1.total) own.known }

pub loop-machine-preserved : goal.loop-machine-preserved
loop-machine-preserved c =
    let machines = c.args.machines.now in
    let m = c.loop-machine.machine-index in
    let outs = one-of outs_of machines c.args.count m c.machine-item.result c.as_slice.result.now c.requires.outs c.loop-machine-test.true c.machine-item.is c.as_slice.ensures in
    let ins = one-of ins_of machines c.args.count m c.machine-item.result c.as_slice-in-loop-machine.result.now c.requires.ins c.loop-machine-test.true c.machine-item.is c.as_slice-in-loop-machine.ensures in (
      placed-more (map outs_of machines) c.args.count m c.loop-machine.outs.items c.note.new.places.items outs.there c.loop-machine.invariant.0
          (subst (λ (l : List ℕ). IsNoted l c.loop-machine.outs.items c.note.new.places.items) (sym outs.is) c.note.ensures),
      placed-more (map ins_of machines) c.args.count m c.loop-machine.ins.items c.note-in-loop-machine.new.places.items ins.there c.loop-machine.invariant.1
          (subst (λ (l : List ℕ). IsNoted l c.loop-machine.ins.items c.note-in-loop-machine.new.places.items) (sym ins.is) c.note-in-loop-machine.ensures),
    )

pub returns : goal.returns
returns c =
    let machines = c.args.machines.now in
    let m = c.loop-machine.machine-index in
    record {
      outs = placed-all (map outs_of machines) c.args.count c.loop-machine.outs.items c.requires.outs
          (subst (λ k. ArePlacedTo (map outs_of machines) c.args.count k c.loop-machine.outs.items) (let same : m ≡ length (map outs_of machines) = omega (arith, length-map machines outs_of) in same) c.loop-machine.invariant.0);
      ins = placed-all (map ins_of machines) c.args.count c.loop-machine.ins.items c.requires.ins
          (subst (λ k. ArePlacedTo (map ins_of machines) c.args.count k c.loop-machine.ins.items) (let same : m ≡ length (map ins_of machines) = omega (arith, length-map machines ins_of) in same) c.loop-machine.invariant.1);
    }
