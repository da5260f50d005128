use Rattle.std.proofs.Common.{◌≡◌, ◌<◌, ℕ, List, length, drop, get_or, set, ◌+◌, sym, ap, ◌∙◌, subst, arith}
use Rattle.std.proofs.lemmas.List.{get_or_default, length-set}
use Rattle.gg_flat.specs.Line.{value_at}
use Rattle.gg_flat.specs.Memory.{Bank, bank_at}
use Rattle.gg_snap.specs.inside.Parts.{HasSizeOf, put}
use Rattle.gg_snap.proofs.TextLemmas.PartLemmas.{size-then, sizes-set, no_bank, put-more}
use Rattle.gg_snap.proofs.text.draft.put_banks.Goals as goal

sized : (banks old first : List Bank) (i p : ℕ) (any other : Bank) → i < length banks → p < length old → HasSizeOf (bank_at banks i) (bank_at first p) → HasSizeOf (bank_at old p) (bank_at first p) → any ≡ get_or banks i any → HasSizeOf any (get_or old p other)
sized banks old first i p any other low high one two is =
    let here : bank_at banks i ≡ any = get_or_default banks i no_bank any low ∙ sym is in
    let there : bank_at old p ≡ get_or old p other = get_or_default old p no_bank other high in
    subst (λ b. HasSizeOf b (get_or old p other)) here (subst (HasSizeOf (bank_at banks i)) there (size-then (bank_at banks i) (bank_at first p) (bank_at old p) one two))

pub put_bank-requires-clause-words : goal.put_bank-requires-clause-words
put_bank-requires-clause-words c =
    let lt = c.loop-i-test.true in
    let p = value_at c.args.places.now c.loop-i.i in
    (sized c.args.banks.now c.loop-i.old c.args.old.now c.loop-i.i p c.index-banks-i.result c.index-old-places.result (omega (arith, lt, c.requires.count)) (let known = c.requires.known c.loop-i.i 0 lt in omega (arith, known, c.loop-i.invariant.0)) (c.requires.fit c.loop-i.i lt) (c.loop-i.invariant.2 p) c.index-banks-i.is).words

pub put_bank-requires-clause-reads : goal.put_bank-requires-clause-reads
put_bank-requires-clause-reads c =
    let lt = c.loop-i-test.true in
    let p = value_at c.args.places.now c.loop-i.i in
    (sized c.args.banks.now c.loop-i.old c.args.old.now c.loop-i.i p c.index-banks-i.result c.index-old-places.result (omega (arith, lt, c.requires.count)) (let known = c.requires.known c.loop-i.i 0 lt in omega (arith, known, c.loop-i.invariant.0)) (c.requires.fit c.loop-i.i lt) (c.loop-i.invariant.2 p) c.index-banks-i.is).reads

pub loop-i-preserved : goal.loop-i-preserved
loop-i-preserved c =
    let lt = c.loop-i-test.true in
    let i = c.loop-i.i in
    let p = value_at c.args.places.now i in
    let high : i < length c.args.banks.now = omega (arith, lt, c.requires.count) in
    let one : bank_at c.args.banks.now i ≡ c.index-banks-i.result = get_or_default c.args.banks.now i no_bank c.index-banks-i.result high ∙ sym c.index-banks-i.is in
    let bank : c.put_bank.new.old ≡ bank_at c.args.banks.now i = c.put_bank.ensures ∙ sym one in
    let own = size-then (bank_at c.args.banks.now i) (bank_at c.args.old.now p) (bank_at c.loop-i.old p) (c.requires.fit i lt) (c.loop-i.invariant.2 p) in (
      length-set c.loop-i.old p c.put_bank.new.old ∙ c.loop-i.invariant.0,
      ap (λ b. put (set c.loop-i.old p b) (drop (i + 1) c.args.places.now) (drop (i + 1) c.args.banks.now)) bank
          ∙ sym (put-more c.loop-i.old c.args.places.now c.args.banks.now i 0 no_bank lt high) ∙ c.loop-i.invariant.1,
      sizes-set c.loop-i.old c.args.old.now p c.put_bank.new.old (subst (λ b. HasSizeOf b (bank_at c.loop-i.old p)) (sym bank) own) c.loop-i.invariant.2,
    )
