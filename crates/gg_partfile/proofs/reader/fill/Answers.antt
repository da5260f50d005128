use Rattle.std.proofs.Common.{refl, sym, ap}
use Rattle.std.specs.Prelude.{codes, drop, is_some, take}
use Rattle.std.proofs.lemmas.Result.{err_from_is_err_and}
use Rattle.serde_json.specs.Find.{as_bool}
use Rattle.serde_json.specs.View.{view}
use Rattle.gg_partfile.specs.Keys.{keys}
use Rattle.gg_partfile.specs.Shapes.{bridges, groups, numbers, ratios, texts}
use Rattle.gg_partfile.proofs.FaultLemmas.{first-told}
use Rattle.gg_partfile.proofs.reader.fill.Goals as goal

pub returns-in_err-put_under-clause-wrong : goal.returns-in_err-put_under-clause-wrong
returns-in_err-put_under-clause-wrong c =
    let p = err_from_is_err_and c.from_residual.result c.from_residual.ensures.1 in
    rw (p.1, p.2)
    (first-told (take 0 keys) (codes "units") texts (drop 1 keys) (view c.args.value.now) c.in_err-put_under.field-0.0 refl refl (ap (λ o. is_some o) (sym c.in-Some.ensures))
    tt c.in_err-put_under.ensures.wrong)

pub returns-in_err-put_under-2-clause-wrong : goal.returns-in_err-put_under-2-clause-wrong
returns-in_err-put_under-2-clause-wrong c =
    let p = err_from_is_err_and c.from_residual-in_err-put_under-2.result c.from_residual-in_err-put_under-2.ensures.1 in
    rw (p.1, p.2)
    (first-told (take 1 keys) (codes "share") groups (drop 2 keys) (view c.args.value.now) c.in_err-put_under-2.field-0.0 refl refl (ap (λ o. is_some o) (sym c.in-Some.ensures))
    (c.in_ok-put_under.ensures.fits, tt) c.in_err-put_under-2.ensures.wrong)

pub returns-in_err-put_under-3-clause-wrong : goal.returns-in_err-put_under-3-clause-wrong
returns-in_err-put_under-3-clause-wrong c =
    let p = err_from_is_err_and c.from_residual-in_err-put_under-3.result c.from_residual-in_err-put_under-3.ensures.1 in
    rw (p.1, p.2)
    (first-told (take 2 keys) (codes "memories") texts (drop 3 keys) (view c.args.value.now) c.in_err-put_under-3.field-0.0 refl refl (ap (λ o. is_some o) (sym c.in-Some.ensures))
    (c.in_ok-put_under.ensures.fits, (c.in_ok-put_under-2.ensures.fits, tt)) c.in_err-put_under-3.ensures.wrong)

pub returns-in_err-put_under-4-clause-wrong : goal.returns-in_err-put_under-4-clause-wrong
returns-in_err-put_under-4-clause-wrong c =
    let p = err_from_is_err_and c.from_residual-in_err-put_under-4.result c.from_residual-in_err-put_under-4.ensures.1 in
    rw (p.1, p.2)
    (first-told (take 3 keys) (codes "capacity") numbers (drop 4 keys) (view c.args.value.now) c.in_err-put_under-4.field-0.0 refl refl (ap (λ o. is_some o) (sym c.in-Some.ensures))
    (c.in_ok-put_under.ensures.fits, (c.in_ok-put_under-2.ensures.fits, (c.in_ok-put_under-3.ensures.fits, tt))) c.in_err-put_under-4.ensures.wrong)

pub returns-in_err-put_under-5-clause-wrong : goal.returns-in_err-put_under-5-clause-wrong
returns-in_err-put_under-5-clause-wrong c =
    let p = err_from_is_err_and c.from_residual-in_err-put_under-5.result c.from_residual-in_err-put_under-5.ensures.1 in
    rw (p.1, p.2)
    (first-told (take 4 keys) (codes "direct") as_bool (drop 5 keys) (view c.args.value.now) c.in_err-put_under-5.field-0.0 refl refl (ap (λ o. is_some o) (sym c.in-Some.ensures))
    (c.in_ok-put_under.ensures.fits, (c.in_ok-put_under-2.ensures.fits, (c.in_ok-put_under-3.ensures.fits, (c.in_ok-put_under-4.ensures.fits, tt)))) c.in_err-put_under-5.ensures.wrong)

pub returns-in_err-put_under-6-clause-wrong : goal.returns-in_err-put_under-6-clause-wrong
returns-in_err-put_under-6-clause-wrong c =
    let p = err_from_is_err_and c.from_residual-in_err-put_under-6.result c.from_residual-in_err-put_under-6.ensures.1 in
    rw (p.1, p.2)
    (first-told (take 5 keys) (codes "pipe") texts (drop 6 keys) (view c.args.value.now) c.in_err-put_under-6.field-0.0 refl refl (ap (λ o. is_some o) (sym c.in-Some.ensures))
    (c.in_ok-put_under.ensures.fits, (c.in_ok-put_under-2.ensures.fits, (c.in_ok-put_under-3.ensures.fits, (c.in_ok-put_under-4.ensures.fits, (c.in_ok-put_under-5.ensures.fits, tt))))) c.in_err-put_under-6.ensures.wrong)

pub returns-in_err-put_under-7-clause-wrong : goal.returns-in_err-put_under-7-clause-wrong
returns-in_err-put_under-7-clause-wrong c =
    let p = err_from_is_err_and c.from_residual-in_err-put_under-7.result c.from_residual-in_err-put_under-7.ensures.1 in
    rw (p.1, p.2)
    (first-told (take 6 keys) (codes "clocks") ratios (drop 7 keys) (view c.args.value.now) c.in_err-put_under-7.field-0.0 refl refl (ap (λ o. is_some o) (sym c.in-Some.ensures))
    (c.in_ok-put_under.ensures.fits, (c.in_ok-put_under-2.ensures.fits, (c.in_ok-put_under-3.ensures.fits, (c.in_ok-put_under-4.ensures.fits, (c.in_ok-put_under-5.ensures.fits, (c.in_ok-put_under-6.ensures.fits, tt)))))) c.in_err-put_under-7.ensures.wrong)

pub returns-in_err-put_under-8-clause-wrong : goal.returns-in_err-put_under-8-clause-wrong
returns-in_err-put_under-8-clause-wrong c =
    let p = err_from_is_err_and c.from_residual-in_err-put_under-8.result c.from_residual-in_err-put_under-8.ensures.1 in
    rw (p.1, p.2)
    (first-told (take 7 keys) (codes "bridges") bridges (drop 8 keys) (view c.args.value.now) c.in_err-put_under-8.field-0.0 refl refl (ap (λ o. is_some o) (sym c.in-Some.ensures))
    (c.in_ok-put_under.ensures.fits, (c.in_ok-put_under-2.ensures.fits, (c.in_ok-put_under-3.ensures.fits, (c.in_ok-put_under-4.ensures.fits, (c.in_ok-put_under-5.ensures.fits, (c.in_ok-put_under-6.ensures.fits, (c.in_ok-put_under-7.ensures.fits, tt))))))) c.in_err-put_under-8.ensures.wrong)
