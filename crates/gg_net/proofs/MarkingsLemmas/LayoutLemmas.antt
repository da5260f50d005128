-- Each network that is wired has a layout.
use Rattle.std.proofs.Common.{◌≡◌, ℕ, suc, ◌<◌, List, [], ◌∷◌, false, length, map, refl, ap, sym, subst, ◌∙◌, arith}
use Rattle.std.specs.Prelude.{slice_index_or}
use Rattle.std.proofs.lemmas.List.{length-map, get_or-map, get_or_default}
use Rattle.std.proofs.lemmas.List.FromFn.{length-map-range_with_len, get_or-map-range_with_len}
use Rattle.gg_node.specs.Machine.{Port, needs_at}
use Rattle.gg_node.specs.Step.{fields_of}
use Rattle.gg_net.specs.Network.{Frame, IsAtIn, wire_at, kind_at}
use Rattle.gg_net.specs.Kept.{IsWired}
use Rattle.gg_net.specs.Refusal.{Turn}
use Rattle.gg_net.specs.inside.Fits.{HasLayout, IsLinkOf, IsTurnOf, AreTurnsOf, AreTaken, places_of}
use Rattle.gg_net.specs.Step.{channel_into, turn_of}
use Rattle.gg_net.proofs.WireLemmas.{channel-is}
use Rattle.gg_net.specs.inside.LayoutOf.{link_of, layout_of}

module _ (frame : Frame) (wired : IsWired frame) where
  -- the channels at these ins are at these ins
  places-are : (m : ℕ) (ins : List ℕ) → m < length frame.kinds → ((k any : ℕ) → k < length ins → slice_index_or ins k any < (kind_at frame.kinds m).ins) → places_of frame (map (channel_into frame.wires m) ins) ≡ ins
  places-are m [] known within = refl
  places-are m (i ∷ ins) known within =
      ap (λ p. p ∷ places_of frame (map (channel_into frame.wires m) ins)) (channel-is frame wired m i known (within 0 0 (omega arith))).place
      ∙ ap (λ rest. i ∷ rest) (places-are m ins known (λ k any lt. within (suc k) any (omega (arith, lt))))

  are-taken : (m : ℕ) (ins : List ℕ) → m < length frame.kinds → ((k any : ℕ) → k < length ins → slice_index_or ins k any < (kind_at frame.kinds m).ins) → AreTaken frame m (map (channel_into frame.wires m) ins)
  are-taken m ins known within k any lt =
      let small : k < length ins = omega (arith, lt, length-map ins (channel_into frame.wires m)) in
      let is : slice_index_or (map (channel_into frame.wires m) ins) k any ≡ channel_into frame.wires m (slice_index_or ins k 0) = get_or-map (channel_into frame.wires m) ins k 0 any small in
      let at : IsAtIn frame.wires m (slice_index_or ins k 0) (channel_into frame.wires m (slice_index_or ins k 0)) = channel-is frame wired m (slice_index_or ins k 0) known (within k 0 small) in
      subst (λ d. (d < length frame.wires) × ((wire_at frame.wires d).consumer ≡ m)) (sym is) (at.known, at.machine)

  link-is : (c : ℕ) → c < length frame.wires → IsLinkOf frame c (link_of frame c)
  link-is c known =
      let p : ℕ = (wire_at frame.wires c).producer in
      let needed : List ℕ = needs_at (kind_at frame.kinds p).needs (wire_at frame.wires c).out in
      let within : (k any : ℕ) → k < length needed → slice_index_or needed k any < (kind_at frame.kinds p).ins =
      λ k any lt. wired.needs p (wire_at frame.wires c).out (slice_index_or needed k any) (wired.producer c known) (k, lt, get_or_default needed k (slice_index_or needed k any) any lt) in
      record {
        producer = refl;
        consumer = refl;
        capacity = refl;
        piped = refl;
        needs = places-are p needed (wired.producer c known) within;
        taken = are-taken p needed (wired.producer c known) within;
      }

  turn-is : (m : ℕ) (i : ℕ) (port : Port) (turn : Turn) → m < length frame.kinds → i < length (kind_at frame.kinds m).ports → IsTurnOf frame m (slice_index_or (kind_at frame.kinds m).ports i port) (slice_index_or (map (turn_of frame.wires m) (kind_at frame.kinds m).ports) i turn)
  turn-is m i port turn known lt =
      let ports : List Port = (kind_at frame.kinds m).ports in
      let this : Port = slice_index_or ports i port in
      let within : (k any : ℕ) → k < length (fields_of this.access) → slice_index_or (fields_of this.access) k any < (kind_at frame.kinds m).ins = λ k any k_lt. wired.fields m known i port lt k any k_lt in
      subst (IsTurnOf frame m this) (sym (get_or-map (turn_of frame.wires m) ports i port turn lt))
      (record { number = refl; fields = places-are m (fields_of this.access) known within; taken = are-taken m (fields_of this.access) known within })

  pub has-layout : HasLayout frame (layout_of frame)
  has-layout =
      record {
        machines = length-map-range_with_len (λ m. map (turn_of frame.wires m) (kind_at frame.kinds m).ports) 0 (length frame.kinds);
        channels = length-map-range_with_len (link_of frame) 0 (length frame.wires);
        end = refl;
        ports = refl;
        link = λ c known. subst (IsLinkOf frame c) (sym (get_or-map-range_with_len (link_of frame) 0 (length frame.wires) c c (record { producer = 0; consumer = 0; capacity = 0; needs = []; piped = false }) known (omega arith))) (link-is c known);
        turns = λ m known.
            let ports : List Port = (kind_at frame.kinds m).ports in
            subst (AreTurnsOf frame m ports) (sym (get_or-map-range_with_len (λ k. map (turn_of frame.wires k) (kind_at frame.kinds k).ports) 0 (length frame.kinds) m m [] known (omega arith)))
            (record { count = length-map ports (turn_of frame.wires m); each = λ i port turn lt. turn-is m i port turn known lt });
      }
