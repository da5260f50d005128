-- The marking of a network in which one machine was changed.
use Rattle.std.proofs.Common.{◌≡◌, ◌≢◌, ℕ, suc, ◌<◌, List, Option, Bool, false, length, refl, sym, ap, ◌∙◌, ⊎_elim, arith, get_or-set_same, get_or-set_other}
use Rattle.std.specs.Prelude.{is_some, slice_set}
use Rattle.std.proofs.lemmas.Bool.{cases_eq}
use Rattle.std.proofs.lemmas.List.{map-set, ext_get_or}
use Rattle.std.proofs.lemmas.List.FromFn.{length-map-range_with_len}
use Rattle.std.proofs.Math.Seq.{map-set_same}
use Rattle.gg_node.specs.Machine.{Machine, no_machine, machine_at, latch_at, flag_at}
use Rattle.gg_net.specs.Network.{Network, Kind, wire_at, kind_of, frame_of}
use Rattle.gg_net.specs.Step.{latch_of, flag_of}
use Rattle.gg_net.specs.markings.Marking.{Marking, is_set, one_more}
use Rattle.gg_net.specs.inside.Fits.{marking_of}
use Rattle.gg_net.proofs.MarkingsLemmas.CountLemmas.{cycle-at, served-at, taken-at, given-at}

-- markings with the same parts are the same
pub same-parts : (a b : Marking) → a.cycles ≡ b.cycles → a.served ≡ b.served → a.taken ≡ b.taken → a.given ≡ b.given → a ≡ b
same-parts a b cycles served taken given =
    ap (λ (x : List ℕ). record { cycles = x; served = a.served; taken = a.taken; given = a.given }) cycles
    ∙ ap (λ (x : List ℕ). record { cycles = b.cycles; served = x; taken = a.taken; given = a.given }) served
    ∙ ap (λ (x : List Bool). record { cycles = b.cycles; served = b.served; taken = x; given = a.given }) taken
    ∙ ap (λ (x : List Bool). record { cycles = b.cycles; served = b.served; taken = b.taken; given = x }) given

pub taken-count : (net : Network) → length (marking_of net).taken ≡ length net.wires
taken-count net = length-map-range_with_len (λ d. is_some (latch_of net d)) 0 (length net.wires)

pub given-count : (net : Network) → length (marking_of net).given ≡ length net.wires
given-count net = length-map-range_with_len (flag_of net) 0 (length net.wires)

module _ (net : Network) (m : ℕ) (y : Machine) (queues : List (List ℕ)) where
  abbrev changed : Network
  changed = record net { machines = slice_set net.machines m y; queues = queues }

  abbrev x : Machine
  x = machine_at net.machines m

  -- ---- what stays

  pub same-frame : kind_of y ≡ kind_of x → frame_of changed ≡ frame_of net
  same-frame kind = ap (λ (kinds : List Kind). record { kinds = kinds; wires = net.wires; end = net.end }) (map-set_same kind_of net.machines m y no_machine kind)

  pub same-cycles : y.cycle ≡ x.cycle → (marking_of changed).cycles ≡ (marking_of net).cycles
  same-cycles is = map-set_same (λ (z : Machine). z.cycle) net.machines m y no_machine is

  pub same-served : y.served ≡ x.served → (marking_of changed).served ≡ (marking_of net).served
  same-served is = map-set_same (λ (z : Machine). z.served) net.machines m y no_machine is

  -- ---- what changes

  pub next-cycles : y.cycle ≡ suc x.cycle → (marking_of changed).cycles ≡ one_more (marking_of net).cycles m
  next-cycles is = map-set (λ (z : Machine). z.cycle) net.machines m y ∙ ap (slice_set (marking_of net).cycles m) (is ∙ ap suc (sym (cycle-at net m)))

  pub next-served : y.served ≡ suc x.served → (marking_of changed).served ≡ one_more (marking_of net).served m
  next-served is = map-set (λ (z : Machine). z.served) net.machines m y ∙ ap (slice_set (marking_of net).served m) (is ∙ ap suc (sym (served-at net m)))

  pub none-served : y.served ≡ 0 → (marking_of changed).served ≡ slice_set (marking_of net).served m 0
  none-served is = map-set (λ (z : Machine). z.served) net.machines m y ∙ ap (slice_set (marking_of net).served m) is

  module _ (there : m < length net.machines) where
    -- which channels are taken afterwards: the marks agree with the machine's latches, and elsewhere with the marks before
    pub taken-by : (marks : List Bool) → length marks ≡ length net.wires
        → ((d : ℕ) → d < length net.wires → (wire_at net.wires d).consumer ≡ m → is_some (latch_at y.latches (wire_at net.wires d).place) ≡ is_set marks d)
        → ((d : ℕ) → d < length net.wires → (wire_at net.wires d).consumer ≢ m → is_set (marking_of net).taken d ≡ is_set marks d)
        → (marking_of changed).taken ≡ marks
    taken-by marks count own others =
        ext_get_or false (marking_of changed).taken marks (taken-count changed ∙ sym count) (λ d lt.
        let known : d < length net.wires = omega (arith, lt, taken-count changed) in
        let has : Machine → Bool = λ z. is_some (latch_at z.latches (wire_at net.wires d).place) in
        taken-at changed d known ∙ ⊎_elim
        (λ (same : (wire_at net.wires d).consumer ≡ m). ap (λ k. has (machine_at (slice_set net.machines m y) k)) same ∙ ap has (get_or-set_same net.machines m y no_machine there) ∙ own d known same)
        (λ other. ap has (get_or-set_other net.machines m (wire_at net.wires d).consumer y no_machine other) ∙ sym (taken-at net d known) ∙ others d known other)
        (cases_eq (wire_at net.wires d).consumer m))

    -- which channels were given afterwards: the marks agree with the machine's flags, and elsewhere with the marks before
    pub given-by : (marks : List Bool) → length marks ≡ length net.wires
        → ((d : ℕ) → d < length net.wires → (wire_at net.wires d).producer ≡ m → flag_at y.flags (wire_at net.wires d).out ≡ is_set marks d)
        → ((d : ℕ) → d < length net.wires → (wire_at net.wires d).producer ≢ m → is_set (marking_of net).given d ≡ is_set marks d)
        → (marking_of changed).given ≡ marks
    given-by marks count own others =
        ext_get_or false (marking_of changed).given marks (given-count changed ∙ sym count) (λ d lt.
        let known : d < length net.wires = omega (arith, lt, given-count changed) in
        let has : Machine → Bool = λ z. flag_at z.flags (wire_at net.wires d).out in
        given-at changed d known ∙ ⊎_elim
        (λ (same : (wire_at net.wires d).producer ≡ m). ap (λ k. has (machine_at (slice_set net.machines m y) k)) same ∙ ap has (get_or-set_same net.machines m y no_machine there) ∙ own d known same)
        (λ other. ap has (get_or-set_other net.machines m (wire_at net.wires d).producer y no_machine other) ∙ sym (given-at net d known) ∙ others d known other)
        (cases_eq (wire_at net.wires d).producer m))

    -- if the machine's latches or flags are as before, so are the marks
    pub same-taken : y.latches ≡ x.latches → (marking_of changed).taken ≡ (marking_of net).taken
    same-taken is =
        taken-by (marking_of net).taken (taken-count net)
        (λ d known same.
        ap (λ (latches : List (Option ℕ)). is_some (latch_at latches (wire_at net.wires d).place)) is
        ∙ ap (λ k. is_some (latch_at (machine_at net.machines k).latches (wire_at net.wires d).place)) (sym same)
        ∙ sym (taken-at net d known))
        (λ d known other. refl)

    pub same-given : y.flags ≡ x.flags → (marking_of changed).given ≡ (marking_of net).given
    same-given is =
        given-by (marking_of net).given (given-count net)
        (λ d known same.
        ap (λ (flags : List Bool). flag_at flags (wire_at net.wires d).out) is
        ∙ ap (λ k. flag_at (machine_at net.machines k).flags (wire_at net.wires d).out) (sym same)
        ∙ sym (given-at net d known))
        (λ d known other. refl)
