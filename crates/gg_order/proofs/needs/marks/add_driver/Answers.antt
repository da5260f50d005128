use Rattle.std.proofs.Common.{List, refl, inl, inr, subst, sym, arith}
use Rattle.gg_flat.specs.declared.line.Node.{Node}
use Rattle.gg_flat.specs.declared.piece.Driver.{Driver}
use Rattle.gg_flat.specs.Reads.{Names, NamesSignal}
use Rattle.gg_order.proofs.needs.marks.add_driver.Goals as goal

pub add_nodes-requires : goal.add_nodes-requires
add_nodes-requires c =
    λ s h. c.requires s (subst (λ (d : Driver). NamesSignal d s) (sym c.in-Computed.is) (subst (λ (l : List Node). Names l s) c.as_slice.ensures h))

pub add_mark-requires : goal.add_mark-requires
add_mark-requires c =
    let addr = c.in-MemoryWord.addr in c.requires addr (subst (λ (d : Driver). NamesSignal d addr) (sym c.in-MemoryWord.is) (inl refl))

pub add_mark-requires-in-MemoryWord : goal.add_mark-requires-in-MemoryWord
add_mark-requires-in-MemoryWord c =
    let en = c.in-MemoryWord.en in
    let within = c.requires en (subst (λ (d : Driver). NamesSignal d en) (sym c.in-MemoryWord.is) (inr refl)) in
    omega (arith, within, c.add_mark.auto.marks)
