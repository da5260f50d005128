-- The tree of the circuit in WorkedText, and two that aren't its tree.
use Rattle.std.proofs.Common.{◌≡◌, ℕ, List, [], ◌∷◌, Some, None, false, true, codes, refl, arith}
use Rattle.gg_flat_tree.specs.declared.tree.Instance.{Instance}
use Rattle.gg_flat_tree.specs.Tree.{InstanceTree}
use Rattle.gg_elab_sites.specs.Known.{types_of}
use Rattle.gg_elab_tree.specs.IsTreeOf.{IsTreeOf}
use Rattle.gg_elab_sites.proofs.WorkedText.{circuit}

abbrev top : Instance
top =
    record { parent = None; «module» = 1; first = 0; end = 24; ports = record { signal = 0; is_input = false } ∷ []; memories = 0 ∷ []; clocks = Some 0 ∷ [] }

-- an instance of the child: its first two signals, where its signals end, its parent and its memory
abbrev child_at : ℕ → ℕ → ℕ → ℕ → ℕ → Instance
child_at first second end parent memory =
    record {
      parent = Some parent;
      «module» = 0;
      first = first;
      end = end;
      ports = record { signal = first; is_input = true } ∷ record { signal = second; is_input = false } ∷ [];
      memories = memory ∷ [];
      clocks = Some 0 ∷ [];
    }

abbrev with_instances : List Instance → InstanceTree
with_instances instances =
    record {
      paths = [] ∷ codes "a" ∷ codes "b" ∷ [];
      instances = instances;
      memory_paths = codes "k" ∷ codes "a.m" ∷ codes "b.m" ∷ [];
      memories =
          record { instance = 0; memory = 0; ports = codes "r" ∷ []; clocks = Some 0 ∷ [] }
          ∷ record { instance = 1; memory = 1; ports = codes "r" ∷ codes "w" ∷ []; clocks = Some 0 ∷ Some 0 ∷ [] }
          ∷ record { instance = 2; memory = 2; ports = codes "r" ∷ codes "w" ∷ []; clocks = Some 0 ∷ Some 0 ∷ [] }
          ∷ [];
      clocks = codes "clock" ∷ [];
      register_clocks = Some 0 ∷ Some 0 ∷ [];
      stops = [];
    }

abbrev tree : InstanceTree
tree = with_instances (top ∷ child_at 4 5 14 0 1 ∷ child_at 14 15 24 0 2 ∷ [])

-- ---- rows

-- this is the tree of the circuit
right : IsTreeOf circuit tree
unfolding types_of
right = record {
  paths = refl;
  instances = (
    record {
      parent = tt;
      number = refl;
      begins = refl;
      ends = refl;
      ports = (record { signal = record { is = refl }; goes = refl }, tt);
      memories = (record { number = record { is = refl } }, tt);
      clocks = refl;
    },
    (
      record {
        parent = record { is = refl };
        number = refl;
        begins = refl;
        ends = refl;
        ports = (record { signal = record { is = refl }; goes = refl }, (record { signal = record { is = refl }; goes = refl }, tt));
        memories = (record { number = record { is = refl } }, tt);
        clocks = refl;
      },
      (
        record {
          parent = record { is = refl };
          number = refl;
          begins = refl;
          ends = refl;
          ports = (record { signal = record { is = refl }; goes = refl }, (record { signal = record { is = refl }; goes = refl }, tt));
          memories = (record { number = record { is = refl } }, tt);
          clocks = refl;
        },
        tt,
      ),
    ),
  );
  memory_names = refl;
  memories = (
    record { holder = record { is = refl }; number = record { is = refl }; ports = refl; clocks = refl },
    (
      record { holder = record { is = refl }; number = record { is = refl }; ports = refl; clocks = refl },
      (record { holder = record { is = refl }; number = record { is = refl }; ports = refl; clocks = refl }, tt),
    ),
  );
  clocks = refl;
  register_clocks = refl;
  stops = tt;
}

-- it isn't, where the second child lies in the first
in_sister : IsTreeOf circuit (with_instances (top ∷ child_at 4 5 14 0 1 ∷ child_at 14 15 24 1 2 ∷ [])) → ⊥
unfolding types_of
in_sister h = let parent = h.instances.1.1.0.parent.is in cc

-- nor where the range of the top has only the top's own signals
only_own : IsTreeOf circuit (with_instances ((record top { end = 4 }) ∷ child_at 4 5 14 0 1 ∷ child_at 14 15 24 0 2 ∷ [])) → ⊥
unfolding types_of
only_own h = let end : 4 ≡ 24 = h.instances.0.ends in omega (arith, end)

-- nor where a register's clock is missing
register_missing : IsTreeOf circuit (record tree { register_clocks = Some 0 ∷ [] }) → ⊥
unfolding types_of
register_missing h = let clocks = h.register_clocks in cc
