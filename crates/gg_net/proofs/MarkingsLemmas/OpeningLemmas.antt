-- The marking before the first cycle.
use Rattle.std.proofs.Common.{◌≡◌, ℕ, ◌<◌, ◌≤◌, List, None, false, length, map, sym, ap, ◌∙◌, ⊎_elim, arith}
use Rattle.std.specs.Prelude.{is_some, replicate}
use Rattle.std.proofs.lemmas.Bool.{cases_lt}
use Rattle.std.proofs.lemmas.List.{length-map, length-replicate, get_or-map, get_or-replicate, get_or_past, ext_get_or}
use Rattle.gg_flat.specs.Streams.{Flow}
use Rattle.gg_node.specs.Machine.{Machine, no_machine, machine_at, latch_at, flag_at}
use Rattle.gg_node.proofs.EmptyLemmas.{empty-after}
use Rattle.gg_net.specs.declared.shape.Wire.{Wire}
use Rattle.gg_net.specs.Network.{Network, wire_at, and_one, puts, kind_of, frame_of}
use Rattle.gg_net.specs.inside.Net.{IsOpening}
use Rattle.gg_net.specs.Net.{opening_net}
use Rattle.gg_net.proofs.StepLemmas.{clear-after}
use Rattle.gg_net.specs.markings.Marking.{Layout, opening_marking}
use Rattle.gg_net.specs.inside.Fits.{HasLayout, marking_of}
use Rattle.gg_net.proofs.MarkingsLemmas.CountLemmas.{taken-at, given-at}
use Rattle.gg_net.proofs.MarkingsLemmas.ChangeLemmas.{same-parts, taken-count, given-count}

-- if each machine has this count, the list of the counts is made of it
all-count : (count : Machine → ℕ) (xs : List Machine) (n begin : ℕ) → length xs ≡ n → ((m : ℕ) → m < length xs → count (machine_at xs m) ≡ begin) → map count xs ≡ replicate n begin
all-count count xs n begin size is =
    ext_get_or 0 (map count xs) (replicate n begin) (length-map xs count ∙ size ∙ sym (length-replicate n begin)) (λ i lt.
    let within : i < length xs = omega (arith, lt, length-map xs count) in
    get_or-map count xs i no_machine 0 within ∙ is i within ∙ sym (get_or-replicate n i begin 0 (omega (arith, within, size))))

module _ (flow : Flow) (machines : List Machine) (wires : List Wire) (end : ℕ) (opening : (m : ℕ) → m < length machines → IsOpening flow m (machine_at machines m)) where
  abbrev net : Network
  net = opening_net machines wires end

  -- no latch holds a token, and no flag is set
  no-latch : (m i : ℕ) → latch_at (machine_at machines m).latches i ≡ None
  no-latch m i =
      ⊎_elim
      (λ (there : m < length machines). ap (λ latches. latch_at latches i) (opening m there).latches ∙ empty-after (length (machine_at machines m).latches) i)
      (λ (past : length machines ≤ m). ap (λ (x : Machine). latch_at x.latches i) (get_or_past machines m no_machine past))
      (cases_lt m (length machines))

  no-flag : (m o : ℕ) → flag_at (machine_at machines m).flags o ≡ false
  no-flag m o =
      ⊎_elim
      (λ (there : m < length machines). ap (λ flags. flag_at flags o) (opening m there).flags ∙ clear-after (length (machine_at machines m).flags) o)
      (λ (past : length machines ≤ m). ap (λ (x : Machine). flag_at x.flags o) (get_or_past machines m no_machine past))
      (cases_lt m (length machines))

  -- no token was put since the first cycle
  pub none-put : (c : ℕ) → (wire_at wires c).producer < length machines → puts net c ≡ flow.begin
  none-put c there =
      let x : Machine = machine_at machines (wire_at wires c).producer in
      ap (and_one x.cycle) (no-flag (wire_at wires c).producer (wire_at wires c).out) ∙ (opening (wire_at wires c).producer there).cycle

  pub opens-so : (layout : Layout) → HasLayout (frame_of net) layout → marking_of net ≡ opening_marking layout flow.begin
  opens-so layout has =
      let machine_count : length machines ≡ length layout.turns = sym (length-map machines kind_of) ∙ sym has.machines in
      let channel_count : length wires ≡ length layout.links = sym has.channels in
      same-parts (marking_of net) (opening_marking layout flow.begin)
      (all-count (λ (x : Machine). x.cycle) machines (length layout.turns) flow.begin machine_count (λ m lt. (opening m lt).cycle))
      (all-count (λ (x : Machine). x.served) machines (length layout.turns) 0 machine_count (λ m lt. (opening m lt).served))
      (ext_get_or false (marking_of net).taken (opening_marking layout flow.begin).taken (taken-count net ∙ channel_count ∙ sym (length-replicate (length layout.links) false)) (λ c lt.
      let known : c < length wires = omega (arith, lt, taken-count net) in
      taken-at net c known ∙ ap is_some (no-latch (wire_at wires c).consumer (wire_at wires c).place) ∙ sym (get_or-replicate (length layout.links) c false false (omega (arith, known, channel_count)))))
      (ext_get_or false (marking_of net).given (opening_marking layout flow.begin).given (given-count net ∙ channel_count ∙ sym (length-replicate (length layout.links) false)) (λ c lt.
      let known : c < length wires = omega (arith, lt, given-count net) in
      given-at net c known ∙ no-flag (wire_at wires c).producer (wire_at wires c).out ∙ sym (get_or-replicate (length layout.links) c false false (omega (arith, known, channel_count)))))
