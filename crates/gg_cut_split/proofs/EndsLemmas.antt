-- The machines at the ports of the top, as a whole.
use Rattle.std.proofs.Common.{◌≡◌, ℕ, ◌-◌, ◌<◌, ◌^◌, List, length, map, ◌∙◌, ap, arith}
use Rattle.std.specs.List.{range_with_len}
use Rattle.gg_bits.specs.Lists.{count_below}
use Rattle.gg_flat.specs.Line.{value_at}
use Rattle.gg_flat.specs.Circuit.{FlatCircuit}
use Rattle.gg_flat_tree.specs.Tree.{InstanceTree}
use Rattle.gg_partfile.specs.declared.request.BridgeEntry.{BridgeEntry}
use Rattle.gg_cut_plan.specs.declared.listed.Listed.{Listed}
use Rattle.gg_cut_plan.specs.Ports.{Bridges, undriven, unseen, first_bridge, first_kept_tray, machine_end, ports_of}
use Rattle.gg_cut_plan.specs.inside.Machines.{Counts}
use Rattle.gg_cut_plan.specs.inside.Ports.{AreBridges, counts_of}
use Rattle.gg_cut_plan.proofs.PortLemmas.{are-bridges, giver-few, keeper-few}
use Rattle.gg_cut_split.specs.declared.ends.Ends.{Ends}
use Rattle.gg_cut_split.specs.inside.Ends.{AreEndsOf, AreTakers, at_places, is_open, number_by}
use Rattle.gg_cut_split.proofs.NumberLemmas.{drivers-open, giver-by, keeper-by, number-there, numbers-many, open-test, places-same, viewers-open}

module _ (circuit : FlatCircuit) (tree : InstanceTree) (listed : Listed) (entries : List BridgeEntry) (drivers viewers : List ℕ) (takers : AreTakers (ports_of circuit tree listed entries) drivers viewers) where
  abbrev b : Bridges
  b = ports_of circuit tree listed entries

  are : AreBridges (ports_of circuit tree listed entries)
  are = are-bridges circuit (length circuit.outs - length tree.stops) listed entries

  -- the counts are those of the open ports
  pub counts-made : (sources trays : ℕ) → sources ≡ count_below (is_open drivers) (length drivers) → trays ≡ count_below (is_open viewers) (length viewers)
      → ◌≡◌ {A = Counts} (record { units = length listed.units; memories = length listed.memories; sources = sources; trays = trays; bridges = length entries }) (counts_of listed (ports_of circuit tree listed entries))
  counts-made sources trays s t =
      ap (λ n. record { units = length listed.units; memories = length listed.memories; sources = n; trays = trays; bridges = length entries })
      (s ∙ ap (count_below (is_open drivers)) takers.ins ∙ drivers-open b drivers viewers takers (length circuit.ins) (omega arith))
      ∙ ap (λ n. record { units = length listed.units; memories = length listed.memories; sources = count_below (undriven b) (length circuit.ins); trays = n; bridges = length entries })
      (t ∙ ap (count_below (is_open viewers)) takers.outs ∙ viewers-open b drivers viewers takers (length circuit.outs) (omega arith))

  -- the machine of each port has a number of 32 bits
  pub givers-small : machine_end (ports_of circuit tree listed entries) < 2 ^ 32 → (p : ℕ) → p < length drivers → number_by (ports_of circuit tree listed entries).first (first_bridge (ports_of circuit tree listed entries)) drivers p < 2 ^ 32
  givers-small few p lt =
      let inside : p < length circuit.ins = omega (arith, lt, takers.ins) in
      let known = giver-few b are p inside in
      let is = giver-by b drivers viewers takers p inside in
      omega (arith, known, is, few)

  pub keepers-small : machine_end (ports_of circuit tree listed entries) < 2 ^ 32 → (p : ℕ) → p < length viewers → number_by (first_kept_tray (ports_of circuit tree listed entries)) (first_bridge (ports_of circuit tree listed entries)) viewers p < 2 ^ 32
  keepers-small few p lt =
      let inside : p < length circuit.outs = omega (arith, lt, takers.outs) in
      let known = keeper-few b are p inside in
      let is = keeper-by b drivers viewers takers p inside in
      omega (arith, known, is, few)

  pub ends-made : (ends : Ends) → ends.numbering ≡ counts_of listed (ports_of circuit tree listed entries) → machine_end (ports_of circuit tree listed entries) < 2 ^ 32
      → ends.givers.items ≡ map (number_by (ports_of circuit tree listed entries).first (first_bridge (ports_of circuit tree listed entries)) drivers) (range_with_len 0 (length drivers))
      → ends.keepers.items ≡ map (number_by (first_kept_tray (ports_of circuit tree listed entries)) (first_bridge (ports_of circuit tree listed entries)) viewers) (range_with_len 0 (length viewers))
      → ends.ins ≡ at_places (is_open drivers) circuit.ins → ends.outs ≡ at_places (is_open viewers) circuit.outs
      → AreEndsOf circuit tree listed entries ends
  ends-made ends numbers few g k i o =
      record {
        numbers = numbers;
        few = few;
        givers_many = numbers-many (number_by b.first (first_bridge b) drivers) (length drivers) ends.givers.items g ∙ takers.ins;
        giver = λ p lt. number-there (number_by b.first (first_bridge b) drivers) (length drivers) p ends.givers.items g (omega (arith, lt, takers.ins)) ∙ giver-by b drivers viewers takers p lt;
        keepers_many = numbers-many (number_by (first_kept_tray b) (first_bridge b) viewers) (length viewers) ends.keepers.items k ∙ takers.outs;
        keeper = λ p lt. number-there (number_by (first_kept_tray b) (first_bridge b) viewers) (length viewers) p ends.keepers.items k (omega (arith, lt, takers.outs)) ∙ keeper-by b drivers viewers takers p lt;
        ins = i ∙ places-same (is_open drivers) (undriven b) circuit.ins (λ p lt. open-test (b.driver p) (value_at drivers p) (takers.driver p lt));
        outs = o ∙ places-same (is_open viewers) (unseen b) circuit.outs (λ p lt. open-test (b.viewer p) (value_at viewers p) (takers.viewer p lt));
      }
