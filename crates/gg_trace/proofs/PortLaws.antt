-- Names and widths of ports, read from a list of ports.
use Rattle.std.proofs.Common.{◌≡◌, ℕ, ◌<◌, List, [], get_or, length, sym, ap, ◌∙◌}
use Rattle.std.proofs.lemmas.List.{get_or-map}
use Rattle.gg_flat.specs.declared.ports.Port.{Port}
use Rattle.gg_trace.specs.Ports.{name_at, width_at}

pub name_at-read : (ports : List Port) (i : ℕ) (port : Port) → i < length ports → port ≡ get_or ports i port → name_at ports i ≡ port.name
name_at-read ports i port h e = get_or-map (λ p. p.name) ports i port [] h ∙ ap (λ (p : Port). p.name) (sym e)

pub width_at-get : (ports : List Port) (i : ℕ) (port : Port) → i < length ports → width_at ports i ≡ (get_or ports i port).ty.width
width_at-get ports i port h = get_or-map (λ p. p.ty.width) ports i port 0 h
