-- More on Tree: what no promise of the program reaches.
-- Source: FIRRTL Specification, "Instances": the top and, below it, the instances of each module.
use Rattle.std.specs.Prelude.{[]}
use Rattle.gg_flat_tree.specs.Tree.{InstanceTree}

-- the tree without an instance
abbrev pub no_tree : InstanceTree
no_tree = record { paths = []; instances = []; memory_paths = []; memories = []; clocks = []; register_clocks = []; stops = [] }
