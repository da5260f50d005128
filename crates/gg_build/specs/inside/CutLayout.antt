-- More on CutLayout: definitions that no promise of the program reaches.
-- Sources: MEMOCODE 2009 for channels, their bounds and what an output of a machine depends on; ICCAD 2019 for memories
-- of a target that are served port by port.
use Rattle.std.specs.Prelude.{◌≡◌, ℕ, ◌-◌}
use Rattle.gg_order.specs.Design.{Ordered}
use Rattle.gg_partfile.specs.declared.request.Request.{Request}
use Rattle.gg_net.specs.markings.Marking.{Layout}
use Rattle.gg_build.specs.plan.CutLayout.{IsLayoutOf}

-- ---- the layout

-- all layouts of the cuts of two designs for n cycles, with one request and one default capacity, are the same
abbrev pub HaveOneLayout : Ordered → Ordered → Request → (default n : ℕ) → Type 0
HaveOneLayout one other request default n =
    (layout others : Layout) → IsLayoutOf one request default n layout → IsLayoutOf other request default n others → layout ≡ others
