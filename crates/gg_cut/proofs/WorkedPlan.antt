-- The plan of two units that feed each other in one cycle, in full.
--
-- The circuit, its tree and the request are those of WorkedPair: the hub is machine 0, `a` and `b` are 1 and 2, the source of `x` is
-- 3 and the tray of `q` is 4.
use Rattle.std.proofs.Common.{◌≡◌, false, ℕ, ◌<◌, ◌≤◌, List, [], ◌∷◌, length, set, Ok, Err, refl, sym, ap, inl, inr, arith, lit<, lit≤}
use Rattle.std.specs.Prelude.{codes, slice_index_or}
use Rattle.gg_bits.specs.declared.ops.Op2.TheVariants.{Xor}
use Rattle.gg_bits.specs.declared.ops.OpN.TheVariants.{Bits, Shl}
use Rattle.gg_flat.specs.declared.line.Op.TheVariants.{Ref, Two, Fix}
use Rattle.gg_flat.specs.declared.piece.Driver.TheVariants.{Input, Computed}
use Rattle.gg_flat.proofs.WorkedCircuits.{eight, nine, node}
use Rattle.gg_flat.proofs.WorkedMemories.{signal, copy}
use Rattle.gg_flat.proofs.WorkedForms.{five}
use Rattle.gg_order.specs.Design.{Ordered}
use Rattle.gg_part.specs.Part.{IsPart}
use Rattle.gg_part.specs.declared.part.Part.{Part}
use Rattle.gg_partfile.specs.declared.request.Request.{Request}
use Rattle.gg_partfile.specs.Request.{no_request}
use Rattle.gg_cut_plan.specs.declared.fault.CutFault.TheVariants.{UnknownUnit, Doubled}
use Rattle.gg_cut_plan.specs.declared.plan.Body.TheVariants.{Cut, Source, Tray}
use Rattle.gg_cut_plan.specs.declared.plan.Machine.{Machine}
use Rattle.gg_cut_plan.specs.declared.plan.Channel.{Channel}
use Rattle.gg_cut_plan.specs.declared.plan.Plan.{Plan}
use Rattle.gg_cut_plan.specs.Channels.{wires_of, capacity_of}
use Rattle.gg_cut_plan.specs.declared.wires.Wire.{Wire}
use Rattle.gg_cut_plan.specs.Direct.{Hub, plan_hub}
use Rattle.gg_cut_plan.specs.Hosts.{host_of}
use Rattle.gg_cut_plan.specs.Fault.{Tells, first_fault}
use Rattle.gg_cut_plan.specs.Plan.{IsPlan, IsMachine, IsChannel, IsCutPart, wire_at}
use Rattle.gg_cut_plan.proofs.WorkedPair.{circuit, tree, asks, both_units, listed}
use Rattle.gg_cut.proofs.WorkedTests.{Upto, each-below, ascending, names-below, has-needs, extra-need, lacks-need}
use Rattle.gg_cut.proofs.WorkedHosts.{unshared}
use Rattle.gg_cut.proofs.WorkedParts.{is-part, no-memories, is-cut-part}

abbrev pub design : Ordered
design = record { circuit = circuit; tree = tree; order = 0 ∷ 2 ∷ 4 ∷ 6 ∷ 7 ∷ 3 ∷ 5 ∷ 1 ∷ [] }

-- ---- the parts

-- all signals: `x`, `a.x`, `a.p`, `b.m`, `b.n`, `a.k`, `a.q`, `q`; it gets `x` from its source, `a.p` and `a.q` from `a`, `b.n` from `b`
abbrev pub hub : Part
hub =
    record {
      piece =
          record {
            paths = codes "x" ∷ codes "a.x" ∷ codes "a.p" ∷ codes "b.m" ∷ codes "b.n" ∷ codes "a.k" ∷ codes "a.q" ∷ codes "q" ∷ [];
            signals =
                signal eight (Input 0) ∷ copy eight 0 ∷ signal eight (Input 1) ∷ copy eight 2
                ∷ signal eight (Input 3) ∷ copy eight 4 ∷ signal eight (Input 2) ∷ copy eight 6 ∷ [];
            registers = [];
            memories = [];
            ins = 0 ∷ 2 ∷ 6 ∷ 4 ∷ [];
            outs = 1 ∷ 5 ∷ 3 ∷ 7 ∷ [];
            clocks = 0;
          };
      globals = 0 ∷ 2 ∷ 4 ∷ 6 ∷ 7 ∷ 3 ∷ 5 ∷ 1 ∷ [];
      held = [];
      memories = [];
      clocks = [];
    }

abbrev pub part_a : Part
part_a =
    record {
      piece =
          record {
            paths = codes "a.x" ∷ codes "a.k" ∷ codes "a.p" ∷ codes "a.q" ∷ [];
            signals =
                signal eight (Input 0) ∷ signal eight (Input 1) ∷ copy eight 0
                ∷ signal eight (Computed (node eight (Ref 0) ∷ node eight (Ref 1) ∷ node eight (Two Xor 0 1) ∷ [])) ∷ [];
            registers = [];
            memories = [];
            ins = 0 ∷ 1 ∷ [];
            outs = 2 ∷ 3 ∷ [];
            clocks = 0;
          };
      globals = 2 ∷ 3 ∷ 4 ∷ 5 ∷ [];
      held = [];
      memories = [];
      clocks = [];
    }

abbrev pub part_b : Part
part_b =
    record {
      piece =
          record {
            paths = codes "b.m" ∷ codes "b.n" ∷ [];
            signals =
                signal eight (Input 0)
                ∷ signal eight (Computed (node eight (Ref 0) ∷ node nine (Fix Shl 0 1 0) ∷ node eight (Fix Bits 1 7 0) ∷ [])) ∷ [];
            registers = [];
            memories = [];
            ins = 0 ∷ [];
            outs = 1 ∷ [];
            clocks = 0;
          };
      globals = 6 ∷ 7 ∷ [];
      held = [];
      memories = [];
      clocks = [];
    }

-- ---- the plan

abbrev pub machines : List Machine
machines =
    record { name = codes "hub:"; host = 0; body = Cut hub; ins = 0 ∷ 3 ∷ 4 ∷ 6 ∷ []; outs = 1 ∷ 2 ∷ 5 ∷ 7 ∷ [] }
    ∷ record { name = codes "a"; host = 1; body = Cut part_a; ins = 1 ∷ 2 ∷ []; outs = 3 ∷ 4 ∷ [] }
    ∷ record { name = codes "b"; host = 2; body = Cut part_b; ins = 5 ∷ []; outs = 6 ∷ [] }
    ∷ record { name = codes "in:x"; host = 3; body = Source 0; ins = []; outs = 0 ∷ [] }
    ∷ record { name = codes "out:q"; host = 4; body = Tray; ins = 7 ∷ []; outs = [] } ∷ []

-- a channel that carries eight bits
abbrev pub channel : ℕ → List ℕ → ℕ → ℕ → ℕ → List ℕ → Channel
channel s name producer consumer capacity needs =
    record { signal = s; name = name; ty = eight; producer = producer; consumer = consumer; capacity = capacity; pipe = false; needs = needs }

-- all have capacity 1, except `a.x`
abbrev pub channels : ℕ → List Channel
channels n =
    channel 0 (codes "x") 3 0 1 []
    ∷ channel 2 (codes "a.x") 0 1 n (0 ∷ [])
    ∷ channel 3 (codes "a.k") 0 1 1 (6 ∷ [])
    ∷ channel 4 (codes "a.p") 1 0 1 (1 ∷ [])
    ∷ channel 5 (codes "a.q") 1 0 1 (1 ∷ 2 ∷ [])
    ∷ channel 6 (codes "b.m") 0 2 1 (3 ∷ [])
    ∷ channel 7 (codes "b.n") 2 0 1 (5 ∷ [])
    ∷ channel 1 (codes "q") 0 4 1 (4 ∷ []) ∷ []

abbrev pub plan : Plan
plan = record { machines = machines; channels = channels 1; listed = listed; ratios = [] }

-- ---- it is a plan of the cut

hub-part : IsPart circuit hub.piece hub.globals [] [] []
hub-part =
    is-part circuit hub.piece hub.globals refl refl refl refl refl refl
    ((lit< tt, refl), ((names-below 8 (node eight (Ref 0) ∷ []) refl, refl), ((lit< tt, refl), ((names-below 8 (node eight (Ref 2) ∷ []) refl, refl), ((lit< tt, refl), ((names-below 8 (node eight (Ref 4) ∷ []) refl, refl), ((lit< tt, refl), ((names-below 8 (node eight (Ref 6) ∷ []) refl, refl), tt))))))))
    ((lit< tt, refl), ((lit< tt, refl), ((lit< tt, refl), ((lit< tt, refl), tt)))) refl refl refl

a-part : IsPart circuit part_a.piece part_a.globals [] [] []
a-part =
    is-part circuit part_a.piece part_a.globals refl refl refl refl refl refl
    ((lit< tt, refl), ((lit< tt, refl), ((names-below 4 (node eight (Ref 0) ∷ []) refl, refl), ((names-below 4 (node eight (Ref 0) ∷ node eight (Ref 1) ∷ node eight (Two Xor 0 1) ∷ []) refl, refl), tt))))
    ((lit< tt, refl), ((lit< tt, refl), tt)) refl refl refl

b-part : IsPart circuit part_b.piece part_b.globals [] [] []
b-part =
    is-part circuit part_b.piece part_b.globals refl refl refl refl refl refl
    ((lit< tt, refl), ((names-below 2 (node eight (Ref 0) ∷ node nine (Fix Shl 0 1 0) ∷ node eight (Fix Bits 1 7 0) ∷ []) refl, refl), tt))
    ((lit< tt, refl), tt) refl refl refl

-- the channels of the cut
abbrev pub wires : List Wire
wires = wires_of circuit tree listed []

abbrev pub routed : Hub
routed = plan_hub circuit tree both_units

hub-cut : IsCutPart design listed routed 0 hub
hub-cut = is-cut-part design listed routed 0 hub hub-part refl refl refl refl refl refl refl refl (no-memories tree listed 0 refl) refl

a-cut : IsCutPart design listed routed 1 part_a
a-cut = is-cut-part design listed routed 1 part_a a-part refl refl refl refl refl refl refl refl (no-memories tree listed 1 refl) refl

b-cut : IsCutPart design listed routed 2 part_b
b-cut = is-cut-part design listed routed 2 part_b b-part refl refl refl refl refl refl refl refl (no-memories tree listed 2 refl) refl

-- a request for `a` and `b`, with these lists of shared hosts and these capacities
abbrev pub asked : List (List (List ℕ)) → List (List ℕ × ℕ) → Request
asked share capacity = record no_request { units = codes "a" ∷ codes "b" ∷ []; share = share; memories = []; capacity = capacity }

-- for all lists of `share` by which `a` and `b` have hosts of their own
module _ (share : List (List (List ℕ))) (hosts : Upto (λ m. host_of (codes "a" ∷ codes "b" ∷ []) share m ≡ m) 5) (capacity : List (List ℕ × ℕ)) where
  host : (m : ℕ) → m < 5 → m ≡ host_of (codes "a" ∷ codes "b" ∷ []) share m
  host m lt = sym (each-below (λ k. host_of (codes "a" ∷ codes "b" ∷ []) share k ≡ k) 5 hosts m lt)

  is-machine : (m : ℕ) (any : Machine) → m < 5 → IsMachine design (asked share capacity) [] listed routed m (slice_index_or machines m any)
  is-machine m any =
      five (λ k. IsMachine design (asked share capacity) [] listed routed k (slice_index_or machines k any))
      (record { name = refl; host = host 0 (lit< tt); body = (lit< tt, hub-cut); ins = refl; outs = refl })
      (record { name = refl; host = host 1 (lit< tt); body = (lit< tt, a-cut); ins = refl; outs = refl })
      (record { name = refl; host = host 2 (lit< tt); body = (lit< tt, b-cut); ins = refl; outs = refl })
      (record { name = refl; host = host 3 (lit< tt); body = (lit< tt, refl); ins = refl; outs = refl })
      (record { name = refl; host = host 4 (lit< tt); body = (lit≤ tt, lit< tt); ins = refl; outs = refl })
      m

-- what the capacities are
abbrev bounds : (List ℕ → ℕ) → ℕ → Type 0
bounds capacity n =
    (1 ≡ capacity (codes "x")) × (n ≡ capacity (codes "a.x")) × (1 ≡ capacity (codes "a.k")) × (1 ≡ capacity (codes "a.p"))
    × (1 ≡ capacity (codes "a.q")) × (1 ≡ capacity (codes "b.m")) × (1 ≡ capacity (codes "b.n")) × (1 ≡ capacity (codes "q"))

is-channel : (capacity : List ℕ → ℕ) (n : ℕ) → bounds capacity n → (c : ℕ) (any : Channel) → c < 8 → IsChannel design capacity (λ s. false) machines (wire_at wires c) (slice_index_or (channels n) c any)
is-channel capacity n b c any =
    each-below (λ k. IsChannel design capacity (λ s. false) machines (wire_at wires k) (slice_index_or (channels n) k any)) 8 (
      record { signal = refl; name = refl; type = refl; producer = refl; consumer = refl; bound = b.0; pipe = refl; ascending = ascending [] refl; needs = λ other. refl },
      (
        record { signal = refl; name = refl; type = refl; producer = refl; consumer = refl; bound = b.1; pipe = refl; ascending = ascending (0 ∷ []) refl; needs = λ other. has-needs hub (0 ∷ 3 ∷ 4 ∷ 6 ∷ []) 2 (0 ∷ []) refl },
        (
          record { signal = refl; name = refl; type = refl; producer = refl; consumer = refl; bound = b.2; pipe = refl; ascending = ascending (6 ∷ []) refl; needs = λ other. has-needs hub (0 ∷ 3 ∷ 4 ∷ 6 ∷ []) 3 (6 ∷ []) refl },
          (
            record { signal = refl; name = refl; type = refl; producer = refl; consumer = refl; bound = b.3; pipe = refl; ascending = ascending (1 ∷ []) refl; needs = λ other. has-needs part_a (1 ∷ 2 ∷ []) 4 (1 ∷ []) refl },
            (
              record { signal = refl; name = refl; type = refl; producer = refl; consumer = refl; bound = b.4; pipe = refl; ascending = ascending (1 ∷ 2 ∷ []) refl; needs = λ other. has-needs part_a (1 ∷ 2 ∷ []) 5 (1 ∷ 2 ∷ []) refl },
              (
                record { signal = refl; name = refl; type = refl; producer = refl; consumer = refl; bound = b.5; pipe = refl; ascending = ascending (3 ∷ []) refl; needs = λ other. has-needs hub (0 ∷ 3 ∷ 4 ∷ 6 ∷ []) 6 (3 ∷ []) refl },
                (
                  record { signal = refl; name = refl; type = refl; producer = refl; consumer = refl; bound = b.6; pipe = refl; ascending = ascending (5 ∷ []) refl; needs = λ other. has-needs part_b (5 ∷ []) 7 (5 ∷ []) refl },
                  (record { signal = refl; name = refl; type = refl; producer = refl; consumer = refl; bound = b.7; pipe = refl; ascending = ascending (4 ∷ []) refl; needs = λ other. has-needs hub (0 ∷ 3 ∷ 4 ∷ 6 ∷ []) 1 (4 ∷ []) refl }, tt),
                ),
              ),
            ),
          ),
        ),
      ),
    ) c

pub is-plan : IsPlan design both_units [] 1 plan
is-plan = record { listed = refl; ratios = refl; machine_total = refl; few = lit< tt; channel_total = refl; machine = is-machine [] (refl, (refl, (refl, (refl, (refl, tt))))) []; channel = is-channel (capacity_of [] 1) 1 (refl, refl, refl, refl, refl, refl, refl, refl); shared = unshared machines refl }

-- a capacity of the file takes the place of the default
of-the-file : IsPlan design (asked [] ((codes "a.x", 7) ∷ [])) [] 1 (record { machines = machines; channels = channels 7; listed = listed; ratios = [] })
of-the-file =
    record {
      listed = refl;
      ratios = refl;
      machine_total = refl;
      few = lit< tt;
      channel_total = refl;
      machine = is-machine [] (refl, (refl, (refl, (refl, (refl, tt))))) ((codes "a.x", 7) ∷ []);
      channel = is-channel (capacity_of ((codes "a.x", 7) ∷ []) 1) 7 (refl, refl, refl, refl, refl, refl, refl, refl);
      shared = unshared machines refl;
    }

-- hosts are numbered by their machines, in whatever order `share` lists them
abbrev b_first : List (List (List ℕ))
b_first = (codes "b" ∷ []) ∷ (codes "a" ∷ []) ∷ []

by-machines : IsPlan design (asked b_first []) [] 1 plan
by-machines = record { listed = refl; ratios = refl; machine_total = refl; few = lit< tt; channel_total = refl; machine = is-machine b_first (refl, (refl, (refl, (refl, (refl, tt))))) []; channel = is-channel (capacity_of [] 1) 1 (refl, refl, refl, refl, refl, refl, refl, refl); shared = unshared machines refl }

-- ---- what is no plan of the cut

abbrev any_machine : Machine
any_machine = record { name = []; host = 0; body = Tray; ins = []; outs = [] }

abbrev any_channel : Channel
any_channel = channel 0 [] 0 0 0 []

-- the default doesn't take the place of a capacity of the file
overridden : ¬ IsPlan design (asked [] ((codes "a.x", 7) ∷ [])) [] 1 plan
overridden is = let bound : 1 ≡ 7 = (is.channel 1 any_channel (lit< tt)).bound in absurd (omega (arith, bound))

-- hosts numbered in the order of `share`
abbrev in_share_order : Plan
in_share_order =
    record {
      machines =
          set (set machines 1 (record { name = codes "a"; host = 2; body = Cut part_a; ins = 1 ∷ 2 ∷ []; outs = 3 ∷ 4 ∷ [] }))
          2 (record { name = codes "b"; host = 1; body = Cut part_b; ins = 5 ∷ []; outs = 6 ∷ [] });
      channels = channels 1;
      listed = listed;
      ratios = [];
    }

share-order : ¬ IsPlan design (asked b_first []) [] 1 in_share_order
share-order is = let host : 2 ≡ 1 = (is.machine 1 any_machine (lit< tt)).host in absurd (omega (arith, host))

-- a plan in which a channel has other needs
abbrev with_needs : ℕ → Channel → Plan
with_needs c other = record { machines = machines; channels = set (channels 1) c other; listed = listed; ratios = [] }

-- `a.p` needs just one of the two inputs of `a`
all-inputs : ¬ IsPlan design both_units [] 1 (with_needs 3 (channel 4 (codes "a.p") 1 0 1 (1 ∷ 2 ∷ [])))
all-inputs is = extra-need part_a (1 ∷ 2 ∷ []) 2 (1 ∷ 2 ∷ []) 2 refl refl refl ((is.channel 3 any_channel (lit< tt)).needs any_machine 2 (lit< tt) refl)

-- `a.q` needs both
one-input : ¬ IsPlan design both_units [] 1 (with_needs 4 (channel 5 (codes "a.q") 1 0 1 (1 ∷ [])))
one-input is = lacks-need part_a (1 ∷ 2 ∷ []) 3 (1 ∷ []) 2 refl refl refl ((is.channel 4 any_channel (lit< tt)).needs any_machine 3 (lit< tt) refl)

-- needs stand in ascending order
reversed : ¬ IsPlan design both_units [] 1 (with_needs 4 (channel 5 (codes "a.q") 1 0 1 (2 ∷ 1 ∷ [])))
reversed is = let less : 2 < 1 = (is.channel 4 any_channel (lit< tt)).ascending 0 1 0 (lit< tt) (lit< tt) in absurd (omega (arith, less))

-- what the hub takes from `a` needs nothing of `b`: the hub's needs don't go on in the units
through-a-unit : ¬ IsPlan design both_units [] 1 (with_needs 7 (channel 1 (codes "q") 0 4 1 (4 ∷ 6 ∷ [])))
through-a-unit is = extra-need hub (0 ∷ 3 ∷ 4 ∷ 6 ∷ []) 7 (4 ∷ 6 ∷ []) 6 refl refl refl ((is.channel 7 any_channel (lit< tt)).needs any_machine 7 (lit< tt) refl)

-- `a` with its output `p` as an in-signal
abbrev given_p : Part
given_p =
    record {
      piece =
          record {
            paths = part_a.piece.paths;
            signals =
                signal eight (Input 0) ∷ signal eight (Input 1) ∷ signal eight (Input 2)
                ∷ signal eight (Computed (node eight (Ref 0) ∷ node eight (Ref 1) ∷ node eight (Two Xor 0 1) ∷ [])) ∷ [];
            registers = [];
            memories = [];
            ins = 0 ∷ 1 ∷ 2 ∷ [];
            outs = 2 ∷ 3 ∷ [];
            clocks = 0;
          };
      globals = 2 ∷ 3 ∷ 4 ∷ 5 ∷ [];
      held = [];
      memories = [];
      clocks = [];
    }

-- it is a part, but no part of this cut
given-part : IsPart circuit given_p.piece given_p.globals [] [] []
given-part =
    is-part circuit given_p.piece given_p.globals refl refl refl refl refl refl
    ((lit< tt, refl), ((lit< tt, refl), ((lit< tt, refl), ((names-below 4 (node eight (Ref 0) ∷ node eight (Ref 1) ∷ node eight (Two Xor 0 1) ∷ []) refl, refl), tt))))
    ((lit< tt, refl), ((lit< tt, refl), ((lit< tt, refl), tt))) refl refl refl

out-taken : ¬ IsPlan design both_units [] 1 (record { machines = set machines 1 (record { name = codes "a"; host = 1; body = Cut given_p; ins = 1 ∷ 2 ∷ []; outs = 3 ∷ 4 ∷ [] }); channels = channels 1; listed = listed; ratios = [] })
out-taken is = let body = (is.machine 1 any_machine (lit< tt)).body in let count : 3 ≡ 2 = ap (λ (l : List ℕ). length l) body.1.ins in absurd (omega (arith, count))

-- nor with the out-channel among the in-channels
out-channel-taken : ¬ IsPlan design both_units [] 1 (record { machines = set machines 1 (record { name = codes "a"; host = 1; body = Cut given_p; ins = 1 ∷ 2 ∷ 3 ∷ []; outs = 3 ∷ 4 ∷ [] }); channels = channels 1; listed = listed; ratios = [] })
out-channel-taken is = let count : 3 ≡ 2 = ap (λ (l : List ℕ). length l) (is.machine 1 any_machine (lit< tt)).ins in absurd (omega (arith, count))

-- nor with a tray for its source
source-keeps : ¬ IsPlan design both_units [] 1 (record { machines = set machines 3 (record { name = codes "in:x"; host = 3; body = Tray; ins = []; outs = 0 ∷ [] }); channels = channels 1; listed = listed; ratios = [] })
source-keeps is = let least : 4 ≤ 3 = (is.machine 3 any_machine (lit< tt)).body.0 in absurd (omega (arith, least))

-- ---- an entry that names nothing is reported before one that stands twice

late-double : ¬ Tells {A = Plan} (first_fault design (asks (codes "a" ∷ codes "a" ∷ codes "c" ∷ []) [])) (Err (Doubled (codes "a")))
late-double (inl is) = cc
late-double (inr is) = cc

first-unknown : Tells {A = Plan} (first_fault design (asks (codes "a" ∷ codes "a" ∷ codes "c" ∷ []) [])) (Err (UnknownUnit (codes "c")))
first-unknown = inr refl

no-fault : Tells (first_fault design both_units) (Ok plan)
no-fault = refl
