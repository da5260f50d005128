-- The marking after `Finish`.
use Rattle.std.proofs.Common.{◌≡◌, ◌≢◌, ℕ, ◌<◌, List, None, Bool, false, length, refl, sym, ap, ◌∙◌, arith}
use Rattle.std.specs.Prelude.{is_some, replicate, ◌==◌, if◌then◌else◌}
use Rattle.std.proofs.lemmas.Bool.{eq-eqb, ne_eqb}
use Rattle.std.proofs.lemmas.List.{length-replicate}
use Rattle.std.proofs.lemmas.List.FromFn.{length-map-range_with_len, get_or-map-range_with_len}
use Rattle.gg_flat.specs.State.{State}
use Rattle.gg_node.specs.Machine.{Machine, machine_at}
use Rattle.gg_node.specs.Step.{finished}
use Rattle.gg_node.proofs.EmptyLemmas.{empty-after}
use Rattle.gg_net.specs.declared.event.Event.TheVariants.{Finish}
use Rattle.gg_net.specs.Network.{Network, wire_at, frame_of}
use Rattle.gg_net.specs.Step.{after_finish}
use Rattle.gg_net.proofs.StepLemmas.{clear-after}
use Rattle.gg_net.specs.markings.Marking.{Link, Layout, link_at, is_set, cleared, after}
use Rattle.gg_net.specs.inside.Fits.{HasLayout, marking_of}
use Rattle.gg_net.proofs.MarkingsLemmas.ChangeLemmas.{same-parts, same-frame, next-cycles, none-served, taken-by, given-by}

-- the frame stays
pub finish-frame : (net : Network) (m : ℕ) (next : State) → frame_of (after_finish net m next) ≡ frame_of net
finish-frame net m next =
    let x : Machine = machine_at net.machines m in
    same-frame net m (finished x next) net.queues
    (ap (λ n. record { behaviour = x.behaviour; limit = x.limit; ratios = x.ratios; needs = x.needs; port_count = x.port_count; ports = x.ports; ins = n; outs = length (replicate (length x.flags) false) }) (length-replicate (length x.latches) None)
    ∙ ap (λ n. record { behaviour = x.behaviour; limit = x.limit; ratios = x.ratios; needs = x.needs; port_count = x.port_count; ports = x.ports; ins = length x.latches; outs = n }) (length-replicate (length x.flags) false))

-- ---- marks that are cleared

module _ (machine_of : Link → ℕ) (layout : Layout) (m : ℕ) (marks : List Bool) where
  cleared-count : length (cleared machine_of layout m marks) ≡ length layout.links
  cleared-count = length-map-range_with_len (λ c. if machine_of (link_at layout c) == m then false else is_set marks c) 0 (length layout.links)

  cleared-at : (c : ℕ) → c < length layout.links → is_set (cleared machine_of layout m marks) c ≡ (if machine_of (link_at layout c) == m then false else is_set marks c)
  cleared-at c lt = get_or-map-range_with_len (λ d. if machine_of (link_at layout d) == m then false else is_set marks d) 0 (length layout.links) c c false lt (omega arith)

  cleared-here : (c : ℕ) → c < length layout.links → machine_of (link_at layout c) ≡ m → is_set (cleared machine_of layout m marks) c ≡ false
  cleared-here c lt is = cleared-at c lt ∙ ap (λ b. if b then false else is_set marks c) (eq-eqb (machine_of (link_at layout c)) m is)

  cleared-other : (c : ℕ) → c < length layout.links → machine_of (link_at layout c) ≢ m → is_set (cleared machine_of layout m marks) c ≡ is_set marks c
  cleared-other c lt other = cleared-at c lt ∙ ap (λ b. if b then false else is_set marks c) (ne_eqb (machine_of (link_at layout c)) m other)

pub finish-step : (net : Network) (layout : Layout) (m : ℕ) (next : State) → HasLayout (frame_of net) layout → m < length net.machines → marking_of (after_finish net m next) ≡ after layout (marking_of net) (Finish m)
finish-step net layout m next has there =
    let x : Machine = machine_at net.machines m in
    let y : Machine = finished x next in
    let listed : (d : ℕ) → d < length net.wires → d < length layout.links = λ d lt. omega (arith, lt, has.channels) in
    let taken : List Bool = cleared (λ link. link.consumer) layout m (marking_of net).taken in
    let given : List Bool = cleared (λ link. link.producer) layout m (marking_of net).given in
    same-parts (marking_of (after_finish net m next)) (after layout (marking_of net) (Finish m))
    (next-cycles net m y net.queues refl)
    (none-served net m y net.queues refl)
    (taken-by net m y net.queues there taken (cleared-count (λ link. link.consumer) layout m (marking_of net).taken ∙ has.channels)
    (λ d lt is. ap is_some (empty-after (length x.latches) (wire_at net.wires d).place) ∙ sym (cleared-here (λ link. link.consumer) layout m (marking_of net).taken d (listed d lt) ((has.link d lt).consumer ∙ is)))
    (λ d lt other. sym (cleared-other (λ link. link.consumer) layout m (marking_of net).taken d (listed d lt) (λ same. other (sym (has.link d lt).consumer ∙ same)))))
    (given-by net m y net.queues there given (cleared-count (λ link. link.producer) layout m (marking_of net).given ∙ has.channels)
    (λ d lt is. clear-after (length x.flags) (wire_at net.wires d).out ∙ sym (cleared-here (λ link. link.producer) layout m (marking_of net).given d (listed d lt) ((has.link d lt).producer ∙ is)))
    (λ d lt other. sym (cleared-other (λ link. link.producer) layout m (marking_of net).given d (listed d lt) (λ same. other (sym (has.link d lt).producer ∙ same)))))
