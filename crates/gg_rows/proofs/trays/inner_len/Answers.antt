use Rattle.std.proofs.Common.{◌≡◌, ◌+◌, ◌<◌, suc, length, sym, ap, ◌∙◌, arith}
use Rattle.std.specs.Prelude.{drop}
use Rattle.std.specs.List.{prefix_len}
use Rattle.gg_rows.specs.inside.Trays.{is_inner}
use Rattle.gg_rows.proofs.CountLemmas.{len-ends, len-more, len-none}
use Rattle.gg_rows.proofs.trays.inner_len.Goals as goal

pub loop-number-init : goal.loop-number-init
loop-number-init c = omega arith

pub loop-number-preserved : goal.loop-number-preserved
loop-number-preserved c =
    let lt : c.loop-number.«number» < length c.args.machines.now = c.loop-number-test.true in
    let x = c.index-machines-number.result in
    let next = ap (λ k. prefix_len is_inner (drop k c.args.machines.now)) (let same : c.loop-number.«number» + 1 ≡ suc c.loop-number.«number» = omega arith in same) in
    omega (arith, c.loop-number.invariant, next, len-more is_inner c.loop-number.«number» c.args.machines.now x lt (sym c.index-machines-number.is) (sym c.is_inner-inner.ensures ∙ grind (arith, c.if-not-inner.false)))

pub returns-then-not-inner-clause-length : goal.returns-then-not-inner-clause-length
returns-then-not-inner-clause-length c =
    let lt : c.loop-number.«number» < length c.args.machines.now = c.loop-number-test.true in
    let x = c.index-machines-number.result in
    omega (arith, c.loop-number.invariant, len-ends is_inner c.loop-number.«number» c.args.machines.now x lt (sym c.index-machines-number.is) (sym c.is_inner-inner.ensures ∙ grind (arith, c.if-not-inner.true)))

pub returns-clause-length : goal.returns-clause-length
returns-clause-length c = omega (arith, c.loop-number.invariant, c.loop-number.auto.number-end, c.loop-number-test.false, len-none is_inner c.loop-number.«number» c.args.machines.now c.loop-number-test.false)
