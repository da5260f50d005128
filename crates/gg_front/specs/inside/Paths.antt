-- Paths: names with dots between them.
-- Source: FIRRTL Specification, "Notes on Syntax" (the bytes of a name); "Instances" and "Memories" (what is in an
-- instance or a memory is called by its name, a dot and a name in it). The name of a stop is this program's own.
use Rattle.std.specs.Prelude.{◌≡◌, ◌≢◌, ℕ, ◌<◌, Bool, true, ◌||◌, ◌==◌, List, length, All, AllPairs}
use Rattle.std.specs.List.{list_all}
use Rattle.gg_ast.specs.Names.{IsName, is_name_byte}
use Rattle.gg_flat.specs.Circuit.{FlatCircuit}
use Rattle.gg_flat_tree.specs.Tree.{InstanceTree}

-- a byte of a name, or a dot
abbrev pub is_path_byte : ℕ → Bool
is_path_byte b = is_name_byte b || b == 46

-- all bytes are dots or bytes of names
abbrev pub HasPathBytes : List ℕ → Type 0
HasPathBytes path = list_all is_path_byte path ≡ true

-- a path isn't empty, and all its bytes are dots or bytes of names
pub record IsPath (path : List ℕ) : Type 0 where
  pub some : 0 < length path
  pub bytes : HasPathBytes path

-- a byte of a path, or the colon in the name of a stop
abbrev pub is_signal_byte : ℕ → Bool
is_signal_byte b = is_path_byte b || b == 58

-- the path of a signal isn't empty, and all its bytes are dots, colons or bytes of names
pub record IsSignalPath (path : List ℕ) : Type 0 where
  pub some : 0 < length path
  pub bytes : list_all is_signal_byte path ≡ true

-- Signals have paths of signals, and memories have paths. Instances have paths too, except the top with its empty path. The ports of a
-- memory have names, and no two have the same.
pub record HavePaths (circuit : FlatCircuit) (tree : InstanceTree) : Type 0 where
  pub signals : All IsSignalPath circuit.paths
  pub instances : All HasPathBytes tree.paths
  pub memories : All IsPath tree.memory_paths
  pub ports : All (λ memory. All IsName memory.ports) tree.memories
  pub apart : All (λ memory. AllPairs (λ a b. a ≢ b) memory.ports) tree.memories
