use Rattle.std.proofs.Common.{◌≡◌, ℕ, ◌+◌, ◌*◌, ◌++◌, List, ◌∷◌, [], ap, sym, ◌∙◌, map, codes, string_bytes, arith}
use Rattle.std.proofs.lemmas.Result.{IfOk-weaker}
use Rattle.std.proofs.lemmas.List.{map-append}
use Rattle.std.proofs.lemmas.List.FromFn.{map-range_with_len_more}
use Rattle.std.specs.List.{join_by, range_with_len}
use Rattle.gg_rows.specs.PartitionText.{quoted_stage}
use Rattle.gg_rows.proofs.RangeLemmas.{joined-same}
use Rattle.gg_rows.proofs.partition.stage_list.Goals as goal

pub loop-k-init : goal.loop-k-init
loop-k-init c = ap (map string_bytes) c.new-names.ensures.items

pub loop-k-preserved : goal.loop-k-preserved
loop-k-preserved c =
    let k = c.loop-k.k in
    let name : ℕ → List ℕ = λ n. quoted_stage (c.args.first + c.args.step * n) in
    let place : 0 + k ≡ k = omega arith in
    ap (map string_bytes) c.in_ok-push.ensures.items ∙ map-append string_bytes c.loop-k.names.items (c.in_ok-format.field-0 ∷ [])
    ∙ ap (λ l. l ++ string_bytes c.in_ok-format.field-0 ∷ []) c.loop-k.invariant ∙ ap (λ t. map name (range_with_len 0 k) ++ t ∷ []) c.in_ok-format.ensures.ok
    ∙ sym (map-range_with_len_more name 0 k k place)

pub returns : goal.returns
returns c =
    let name : ℕ → List ℕ = λ n. quoted_stage (c.args.first + c.args.step * n) in
    let all : map string_bytes c.loop-k.names.items ≡ map name (range_with_len 0 c.args.count) = c.loop-k.invariant ∙ ap (λ k. map name (range_with_len 0 k)) (let e : c.loop-k.k ≡ c.args.count = omega arith in e) in
    let joined : string_bytes c.in_ok-joined.joined ≡ join_by name (codes ",") (range_with_len 0 c.args.count) =
    c.in_ok-joined.ensures.ok ∙ ap (join_by string_bytes (codes ",")) c.as_slice.ensures.value
    ∙ joined-same string_bytes name (codes ",") c.loop-k.names.items (range_with_len 0 c.args.count) all in
    IfOk-weaker c.format-2.result _ _ (λ text e. e ∙ ap (λ t. codes "[" ++ (t ++ codes "]")) joined) c.format-2.ensures.ok
