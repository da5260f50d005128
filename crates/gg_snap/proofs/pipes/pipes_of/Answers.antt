use Rattle.std.proofs.Common.{◌≡◌, ◌<◌, ℕ, List, ◌++◌, drop, take, length, sym, ap, ◌∙◌, subst, arith}
use Rattle.std.proofs.lemmas.List.{get_or_default, take_at}
use Rattle.gg_flat.specs.Line.{value_at}
use Rattle.gg_snap.specs.inside.Gathered.{ArePipes, HaveNumbers}
use Rattle.gg_snap.proofs.PipeLemmas.{have-numbers, long, number-at}
use Rattle.gg_snap.proofs.pipes.pipes_of.Goals as goal

pub index-requires : goal.index-requires
index-requires c = omega (arith, long c.args.channels.now c.args.signals c.in_ok-numbers.numbers.items c.requires.known c.in_ok-numbers.ensures, c.in_ok-numbers.numbers.ok.0)

pub fill-requires-clause-numbers : goal.fill-requires-clause-numbers
fill-requires-clause-numbers c =
    let items = c.in_ok-numbers.numbers.items in
    let signals = c.args.signals in
    let there : signals < length items = omega (arith, long c.args.channels.now signals items c.requires.known c.in_ok-numbers.ensures) in
    let count = c.index.ensures ∙ get_or_default items signals c.index.result.now 0 there in
    let room : value_at c.deref.result.now signals ≡ length c.deref_mut.result.now = omega (arith, ap (λ (l : List ℕ). value_at l signals) c.deref.ensures.value, count, c.in_ok-pipes.ensures.len, c.deref_mut.ensures.len) in
    subst (HaveNumbers c.args.channels.now c.deref.result.now) room (have-numbers c.args.channels.now signals c.deref.result.now c.requires.known (c.deref.ensures.value ∙ c.in_ok-numbers.ensures))

pub returns : goal.returns
returns c =
    let new = c.fill.new.pipes in
    let items = c.in_ok-numbers.numbers.items in
    let signals = c.args.signals in
    let there : signals < length items = omega (arith, long c.args.channels.now signals items c.requires.known c.in_ok-numbers.ensures) in
    let count = c.index.ensures ∙ get_or_default items signals c.index.result.now 0 there in
    let number = number-at c.args.channels.now signals items c.requires.known c.in_ok-numbers.ensures signals (omega arith) in
    let size : length new ≡ c.in_ok-pipes.pipes.len = omega (arith, c.fill.ensures.count, c.deref_mut.ensures.len, c.in_ok-pipes.pipes.ok.0) in
    let same : take c.in_ok-pipes.pipes.len (new ++ drop (length new) c.in_ok-pipes.pipes.items) ≡ new = take_at new _ c.in_ok-pipes.pipes.len size in
    subst (ArePipes c.args.channels.now signals c.args.tokens.now) (sym same) (record {
      count = omega (arith, c.fill.ensures.count, c.deref_mut.ensures.len, c.in_ok-pipes.ensures.len, count, number);
      each = c.fill.ensures.each;
    })
