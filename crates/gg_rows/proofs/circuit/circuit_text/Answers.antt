use Rattle.std.proofs.Common.{◌≡◌, ◌-◌, ap, ap₂, ◌∙◌, ◌++◌, codes, string_bytes}
use Rattle.std.specs.List.{range_with_len, flat_map}
use Rattle.gg_rows.specs.CircuitText.{clock_line, instance_line, link_line, stage_module, top_ports}
use Rattle.gg_rows.proofs.circuit.circuit_text.Goals as goal

pub returns : goal.returns
returns c =
    let size = c.args.size in
    let made : string_bytes c.push_instances.new.text ≡ stage_module ++ top_ports ++ flat_map instance_line (range_with_len 0 size) =
    c.in_ok-push_instances.ensures ∙ ap (λ t. t ++ flat_map instance_line (range_with_len 0 size)) c.in_ok-text.ensures in
    let clocked : string_bytes c.push_clocks.new.text ≡ stage_module ++ top_ports ++ flat_map instance_line (range_with_len 0 size) ++ flat_map clock_line (range_with_len 0 size) =
    c.in_ok-push_clocks.ensures ∙ ap (λ t. t ++ flat_map clock_line (range_with_len 0 size)) made in
    c.in_ok-push_str-2.ensures.bytes ∙ ap₂ (λ t u. t ++ u)
    (c.in_ok-push_links.ensures ∙ ap (λ t. t ++ flat_map link_line (range_with_len 1 (size - 1))) (c.in_ok-push_str.ensures.bytes ∙ ap (λ t. t ++ codes "s0.a <= x\n") clocked))
    (c.as_str.ensures.value ∙ c.in_ok-outputs.ensures.ok)
