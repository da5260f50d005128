-- The owner of a signal, and of an instance, by the paths that a request without a fault lists.
use Rattle.std.proofs.Common.{◌≡◌, ℕ, suc, ◌+◌, ◌<◌, List, [], ◌++◌, length, map, ◌∙◌, ap, subst, None, length-append, arith}
use Rattle.std.specs.Prelude.{◌↔◌, codes, filter}
use Rattle.std.proofs.lemmas.List.{get_or_append_left}
use Rattle.gg_flat_tree.specs.Tree.{path_at}
use Rattle.gg_part.specs.KeepsToTree.{KeepsToTree}
use Rattle.gg_order.specs.Design.{Ordered}
use Rattle.gg_partfile.specs.declared.request.Request.{Request}
use Rattle.gg_cut_plan.specs.Fault.{first_fault}
use Rattle.gg_cut_plan.specs.Plan.{machine_names, open_tray_names}
use Rattle.gg_cut_plan.specs.Ports.{open_ins}
use Rattle.gg_cut_plan.specs.Listed.{is_among, listed_of, owner_of, owner_of_instance, memory_owner}
use Rattle.gg_cut_split.specs.inside.Apart.{AreApart}
use Rattle.gg_cut_split.specs.inside.Longest.{HoldsPath, Covers, IsOfLongest, listed_paths, IsLongestHolder, IsLongestCover}
use Rattle.gg_cut_split.proofs.ClosedLemmas.FaultlessLemmas.{faultless-apart, faultless-known}
use Rattle.gg_cut_split.proofs.ClosedLemmas.TreeLemmas.{innermost}
use Rattle.gg_cut_split.proofs.ClosedLemmas.LongestLemmas.{ArePaths, longest-one, instance-longest, signal-longest, memory-longest}
use Rattle.gg_cut_split.proofs.ClosedLemmas.ListedLemmas.{listed-are, memory-paths}

-- a machine has the longest path exactly if it is the owner
only : (Has : List ℕ → Type 0) (paths : List (List ℕ)) (owner m : ℕ) → IsOfLongest Has paths owner → IsOfLongest Has paths m ↔ (owner ≡ m)
only Has paths owner m is = (λ other. longest-one Has paths owner m is other, λ same. subst (IsOfLongest Has paths) same is)

module _ (design : Ordered) (request : Request) (keeps : KeepsToTree design.circuit design.tree) (none : first_fault design request ≡ None) where
  apart : AreApart design.tree (listed_of design.tree request)
  apart = faultless-apart design request none keeps.fitting

  are : ArePaths design.tree (listed_of design.tree request) (listed_paths design.tree request)
  are = listed-are design.tree request keeps.fitting.memory_named (faultless-known design request none)

  pub signal-owner : (s m : ℕ) → s < length design.circuit.signals → IsLongestHolder design request s m ↔ (owner_of design.circuit design.tree (listed_of design.tree request) s ≡ m)
  signal-owner s m lt =
      let at = innermost design.circuit design.tree keeps.fitting s lt in
      only (λ path. HoldsPath path (path_at design.circuit.paths s)) (listed_paths design.tree request) (owner_of design.circuit design.tree (listed_of design.tree request) s) m
      (signal-longest design.circuit design.tree (listed_of design.tree request) keeps.fitting keeps.scoped apart (listed_paths design.tree request) are at.place s at.is)

  pub instance-owner : (k m : ℕ) → k < length design.tree.instances → IsLongestCover design request (path_at design.tree.paths k) m ↔ (owner_of_instance design.tree (listed_of design.tree request).units k ≡ m)
  instance-owner k m lt =
      only (λ path. Covers path (path_at design.tree.paths k)) (listed_paths design.tree request) (owner_of_instance design.tree (listed_of design.tree request).units k) m
      (instance-longest design.circuit design.tree (listed_of design.tree request) keeps.fitting keeps.scoped apart (listed_paths design.tree request) are k lt)

  pub memory-owner : (j m : ℕ) → j < length design.tree.memories → IsLongestCover design request (path_at design.tree.memory_paths j) m ↔ (memory_owner design.tree (listed_of design.tree request) j ≡ m)
  memory-owner j m lt =
      only (λ path. Covers path (path_at design.tree.memory_paths j)) (listed_paths design.tree request) (memory_owner design.tree (listed_of design.tree request) j) m
      (memory-longest design.circuit design.tree (listed_of design.tree request) keeps.fitting keeps.scoped apart (listed_paths design.tree request) are j lt)

-- the name of a listed path's machine is that path
pub machine-name : (design : Ordered) (request : Request) (k : ℕ) → KeepsToTree design.circuit design.tree → k < length (listed_paths design.tree request) → path_at (machine_names design request (listed_of design.tree request)) (k + 1) ≡ path_at (listed_paths design.tree request) k
machine-name design request k keeps lt =
    ap (path_at (machine_names design request (listed_of design.tree request))) (let next : k + 1 ≡ suc k = omega arith in next)
    ∙ ap (λ l. path_at ((((request.units ++ l) ++ sources) ++ trays) ++ bridges) k) (memory-paths design.tree request keeps.fitting.memory_named)
    ∙ get_or_append_left (((request.units ++ kept) ++ sources) ++ trays) bridges [] k (omega (arith, lt, length-append (request.units ++ kept) sources, length-append ((request.units ++ kept) ++ sources) trays))
    ∙ get_or_append_left ((request.units ++ kept) ++ sources) trays [] k (omega (arith, lt, length-append (request.units ++ kept) sources))
    ∙ get_or_append_left (request.units ++ kept) sources [] k lt
  where
    kept : List (List ℕ)
    kept = filter (is_among request.memories) design.tree.memory_paths

    sources : List (List ℕ)
    sources = map (λ s. codes "in:" ++ path_at design.circuit.paths s) (open_ins design.circuit request)

    trays : List (List ℕ)
    trays = open_tray_names design request

    bridges : List (List ℕ)
    bridges = map (λ entry. codes "bridge:" ++ entry.name) request.bridges
