-- The tree of the circuit in WorkedStops, and two that aren't its tree.
use Rattle.std.proofs.Common.{◌≡◌, ℕ, List, [], ◌∷◌, Option, Some, None, false, true, codes, refl, ap, arith}
use Rattle.std.proofs.lemmas.Option.{same_Some}
use Rattle.std.specs.Fmt.{digits}
use Rattle.std.specs.Prelude.{slice_index_or}
use Rattle.gg_flat_tree.specs.declared.tree.StopInstance.{StopInstance}
use Rattle.gg_flat_tree.specs.Tree.{InstanceTree}
use Rattle.gg_elab_sites.specs.Known.{types_of}
use Rattle.gg_elab_tree.specs.IsTreeOf.{IsTreeOf}
use Rattle.gg_elab_sites.proofs.WorkedStops.{circuit}

abbrev tree_with : List (Option ℕ) → List StopInstance → InstanceTree
tree_with clocks stops =
    record {
      paths = [] ∷ codes "mid" ∷ codes "mid.low" ∷ [];
      instances =
          record {
            parent = None;
            «module» = 2;
            first = 0;
            end = 9;
            ports = record { signal = 0; is_input = true } ∷ record { signal = 1; is_input = false } ∷ [];
            memories = [];
            clocks = Some 0 ∷ Some 1 ∷ [];
          }
          ∷ record { parent = Some 0; «module» = 1; first = 5; end = 9; ports = record { signal = 5; is_input = true } ∷ []; memories = []; clocks = clocks }
          ∷ record { parent = Some 1; «module» = 0; first = 7; end = 9; ports = record { signal = 7; is_input = true } ∷ []; memories = []; clocks = Some 0 ∷ [] }
          ∷ [];
      memory_paths = [];
      memories = [];
      clocks = codes "c" ∷ codes "d" ∷ [];
      register_clocks = Some 1 ∷ [];
      stops = stops;
    }

abbrev stops : List StopInstance
stops =
    record { instance = 0; signal = 3; clock = Some 0 }
    ∷ record { instance = 0; signal = 4; clock = Some 1 }
    ∷ record { instance = 1; signal = 6; clock = Some 1 }
    ∷ record { instance = 2; signal = 8; clock = Some 0 }
    ∷ []

-- this is the tree of the circuit
right : IsTreeOf circuit (tree_with (Some 1 ∷ Some 0 ∷ []) stops)
unfolding types_of digits
right = record {
  paths = refl;
  instances = (
    record {
      parent = tt;
      number = refl;
      begins = refl;
      ends = refl;
      ports = (record { signal = record { is = refl }; goes = refl }, (record { signal = record { is = refl }; goes = refl }, tt));
      memories = tt;
      clocks = refl;
    },
    (
      record { parent = record { is = refl }; number = refl; begins = refl; ends = refl; ports = (record { signal = record { is = refl }; goes = refl }, tt); memories = tt; clocks = refl },
      (record { parent = record { is = refl }; number = refl; begins = refl; ends = refl; ports = (record { signal = record { is = refl }; goes = refl }, tt); memories = tt; clocks = refl }, tt),
    ),
  );
  memory_names = refl;
  memories = tt;
  clocks = refl;
  register_clocks = refl;
  stops = (
    record { holder = record { is = refl }; signal = record { is = refl }; clock = refl },
    (
      record { holder = record { is = refl }; signal = record { is = refl }; clock = refl },
      (
        record { holder = record { is = refl }; signal = record { is = refl }; clock = refl },
        (record { holder = record { is = refl }; signal = record { is = refl }; clock = refl }, tt),
      ),
    ),
  );
}

-- it isn't, where the clocks of `mid` aren't exchanged
same_order : IsTreeOf circuit (tree_with (Some 0 ∷ Some 1 ∷ []) stops) → ⊥
unfolding types_of digits
same_order h = let first : ◌≡◌ {A = ℕ} 0 1 = same_Some 0 1 (ap (λ (l : List (Option ℕ)). slice_index_or l 0 None) h.instances.1.0.clocks) in omega (arith, first)

-- nor without the stop of `mid.low`
no_low : IsTreeOf circuit (tree_with (Some 1 ∷ Some 0 ∷ []) (record { instance = 0; signal = 3; clock = Some 0 } ∷ record { instance = 0; signal = 4; clock = Some 1 } ∷ record { instance = 1; signal = 6; clock = Some 1 } ∷ [])) → ⊥
unfolding types_of digits
no_low h = h.stops.1.1.1
