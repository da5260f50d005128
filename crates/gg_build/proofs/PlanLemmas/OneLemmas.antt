-- A cut has only one layout, and designs that are alike have the same one.
use Rattle.std.proofs.Common.{◌≡◌, ℕ, ◌<◌, List, [], false, length, sym, ◌∙◌, ap, subst, arith}
use Rattle.std.proofs.lemmas.List.{same_lists, get_or_default}
use Rattle.gg_order.specs.Design.{Ordered}
use Rattle.gg_partfile.specs.declared.request.Request.{Request}
use Rattle.gg_cut_plan.specs.declared.listed.Listed.{Listed}
use Rattle.gg_cut_plan.specs.declared.wires.Wire.{Wire}
use Rattle.gg_cut_plan.specs.Listed.{listed_of}
use Rattle.gg_cut_plan.specs.Direct.{plan_wires}
use Rattle.gg_cut_reference.specs.inside.Alike.{AreAlike}
use Rattle.gg_cut_reference.proofs.TextLemmas.SameCutLemmas.{alike-is, needs-same}
use Rattle.gg_net.specs.markings.Marking.{Link, Layout, link_at}
use Rattle.gg_build.specs.plan.CutLayout.{IsLayoutBy, IsLayoutOf}

-- ---- a cut has only one layout

link-same : (a b : Link) → a.producer ≡ b.producer → a.consumer ≡ b.consumer → a.capacity ≡ b.capacity → a.needs ≡ b.needs → a.piped ≡ b.piped → a ≡ b
link-same a b producer consumer capacity needs piped =
    ap (λ x. record { producer = x; consumer = a.consumer; capacity = a.capacity; needs = a.needs; piped = a.piped }) producer
    ∙ ap (λ x. record { producer = b.producer; consumer = x; capacity = a.capacity; needs = a.needs; piped = a.piped }) consumer
    ∙ ap (λ x. record { producer = b.producer; consumer = b.consumer; capacity = x; needs = a.needs; piped = a.piped }) capacity
    ∙ ap (λ x. record { producer = b.producer; consumer = b.consumer; capacity = b.capacity; needs = x; piped = a.piped }) needs
    ∙ ap (λ x. record { producer = b.producer; consumer = b.consumer; capacity = b.capacity; needs = b.needs; piped = x }) piped

layout-same : (a b : Layout) → a.links ≡ b.links → a.port_counts ≡ b.port_counts → a.turns ≡ b.turns → a.end ≡ b.end → a ≡ b
layout-same a b links ports turns end =
    ap (λ x. record { links = x; port_counts = a.port_counts; turns = a.turns; end = a.end }) links
    ∙ ap (λ x. record { links = b.links; port_counts = x; turns = a.turns; end = a.end }) ports
    ∙ ap (λ x. record { links = b.links; port_counts = b.port_counts; turns = x; end = a.end }) turns
    ∙ ap (λ x. record { links = b.links; port_counts = b.port_counts; turns = b.turns; end = x }) end

abbrev no_link : Link
no_link = record { producer = 0; consumer = 0; capacity = 0; needs = []; piped = false }

layout-once : (design : Ordered) (request : Request) (default n : ℕ) (listed : Listed) (wires : List Wire) (layout other : Layout) → IsLayoutBy design request default n listed wires layout → IsLayoutBy design request default n listed wires other → layout ≡ other
layout-once design request default n listed wires layout other a b =
    let links : layout.links ≡ other.links =
    same_lists layout.links other.links (a.channels ∙ sym b.channels)
    (λ c d lt.
    let low : c < length wires = omega (arith, lt, a.channels) in
    let high : c < length other.links = omega (arith, low, b.channels) in
    let one = a.link c low in
    let two = b.link c low in
    get_or_default layout.links c d no_link lt
    ∙ link-same (link_at layout c) (link_at other c) (one.producer ∙ sym two.producer) (one.consumer ∙ sym two.consumer) (one.capacity ∙ sym two.capacity)
    (needs-same design.circuit listed wires c (link_at layout c).needs (link_at other c).needs one.needs two.needs)
    (one.piped ∙ sym two.piped)
    ∙ sym (get_or_default other.links c d no_link high)) in
    layout-same layout other links (a.ports ∙ sym b.ports) (a.turns ∙ sym b.turns) (a.end ∙ sym b.end)

-- ---- designs that are alike have the same layout

-- the layout of a request's cut of one design is the layout of its cut of a design that is alike
layout-of-cut-carried : (one other : Ordered) → AreAlike one other → (request : Request) (default n : ℕ) (layout : Layout) → IsLayoutOf one request default n layout → IsLayoutOf other request default n layout
layout-of-cut-carried one other s request default n layout a =
    let b = subst (λ (design : Ordered). IsLayoutOf design request default n layout) (alike-is one other s) a in
    record {
      channels = b.channels;
      link = λ c lt. let l = b.link c lt in record { producer = l.producer; consumer = l.consumer; capacity = l.capacity; needs = l.needs; piped = l.piped };
      ports = b.ports;
      turns = b.turns;
      end = b.end;
    }

pub one-layout : (one other : Ordered) (request : Request) (default n : ℕ) (layout others : Layout) → AreAlike one other → IsLayoutOf one request default n layout → IsLayoutOf other request default n others → layout ≡ others
one-layout one other request default n layout others s a b =
    layout-once other request default n (listed_of other.tree request) (plan_wires other.circuit other.tree request) layout others (layout-of-cut-carried one other s request default n layout a) b
