use Rattle.std.proofs.Common.{◌≡◌, ℕ, ◌<◌, ◌^◌, List, ◌∙◌, [], length, get_or, sym, ap, subst, arith}
use Rattle.std.specs.Prelude.{All}
use Rattle.std.proofs.lemmas.Grind.{common_steps}
use Rattle.std.proofs.lemmas.List.{length-set, get_or-set_other}
use Rattle.gg_flat.specs.Circuit.{FlatCircuit}
use Rattle.gg_flat.specs.Line.{value_at}
use Rattle.gg_cut_plan.specs.declared.plan.Channel.{Channel}
use Rattle.gg_flat_tree.specs.Tree.{path_at}
use Rattle.gg_order.specs.Marks.{is_marked}
use Rattle.gg_cut_plan.specs.Channels.{capacity_of}
use Rattle.gg_cut_plan.specs.Direct.{is_piped}
use Rattle.gg_cut_plan.specs.Listed.{is_among}
use Rattle.gg_cut_plan.specs.Plan.{wire_at}
use Rattle.gg_cut_split.proofs.ClosedLemmas.FaultlessLemmas.{range-free}
use Rattle.gg_cut.specs.inside.Made.{AreWired, IsWired}
use Rattle.gg_cut.proofs.FaultlessLemmas.{capacities-small}
use Rattle.gg_cut_parts.proofs.MachineLemmas.{each-push}
use Rattle.gg_cut.proofs.channels.channels_of.Goals as goal

pub loop-number-preserved : goal.loop-number-preserved
loop-number-preserved c =
    let wires = c.args.wires.now in
    let request = c.args.draft.now.request.now in
    let n = c.loop-number.number in
    let was = c.loop-number.invariant in
    let old = c.loop-number.table.items in
    let first = c.args.table.now.items in
    let channel = c.in_ok-channel.channel in
    let rest = c.take_list-needs.ensures.rest in (
      ap length rest ∙ length-set old n [] ∙ was.0,
      λ k le. ap (λ l. get_or l k []) rest ∙ get_or-set_other old n k [] [] (λ same. absurd (omega (arith, le, same))) ∙ was.1 k (omega (arith, le)),
      grind (arith, common_steps),
      each-push (λ k ch. IsWired c.piece-piece.result.now (capacity_of request.capacity c.args.draft.now.default_capacity) (is_piped c.piece-piece.result.now request) (wire_at wires k) ch) c.loop-number.channels.items c.push.new.self.items channel n was.2 was.3
          (c.in_ok-channel.ensures.wired (capacity_of request.capacity c.args.draft.now.default_capacity) (is_piped c.piece-piece.result.now request)
          (λ s lt. ap (λ l. value_at l s) c.deref.ensures.value ∙ c.in_ok-bounds.ensures.capacities s lt ∙ ap (λ l. capacity_of l c.args.draft.now.default_capacity (path_at c.piece-piece.result.now.paths s)) c.as_slice.ensures)
          (λ s lt. ap (λ l. is_marked l s) c.deref-in-loop-number.ensures.value ∙ c.in_ok-piped.ensures.marks s lt ∙ ap (λ l. is_among l (path_at c.piece-piece.result.now.paths s)) c.as_slice-2.ensures))
          c.in_ok-push.ensures.items,
      each-push (λ k (ch : Channel). ch.needs ≡ get_or first k []) c.loop-number.channels.items c.push.new.self.items channel n was.2 was.4
          (c.in_ok-channel.ensures.needs ∙ c.take_list-needs.ensures.list ∙ was.1 n (omega arith))
          c.in_ok-push.ensures.items,
    )

pub capacity_table-requires : goal.capacity_table-requires
capacity_table-requires c =
    let draft = c.args.draft.now in
    subst (λ (l : List (List ℕ × ℕ)). All (λ pair. pair.1 < 2 ^ 32) l) (sym c.as_slice.ensures) (capacities-small draft.request.now.capacity (range-free draft.design.now draft.request.now c.requires.draft.faultless))

pub channel_at-requires-clause-known : goal.channel_at-requires-clause-known
channel_at-requires-clause-known c =
    let known = c.requires.known c.loop-number.number c.loop-number-test.true in
    omega (arith, known, ap (λ (k : FlatCircuit). length k.signals) c.piece-piece.ensures.circuit)

pub returns : goal.returns
returns c =
    let draft = c.args.draft.now in
    let request = draft.request.now in
    let was = c.loop-number.invariant in
    let done : c.loop-number.number ≡ length c.args.wires.now = omega (arith, c.loop-number-test.false, c.loop-number.auto.number-end) in
    subst (λ (k : FlatCircuit). AreWired k (capacity_of request.capacity draft.default_capacity) (is_piped k request) c.args.wires.now c.args.table.now.items c.loop-number.channels.items) c.piece-piece.ensures.circuit
    (record {
      count = was.2 ∙ done;
      each = λ k any lt. was.3 k any (omega (arith, lt, was.2));
      needs = λ k any lt. was.4 k any (omega (arith, lt, was.2));
    })
