use Rattle.std.proofs.Common.{◌≡◌, [], ◌∷◌, ◌++◌, Some, ap, subst, ◌∙◌}
use Rattle.gg_shape.specs.declared.fault.Word.TheVariants as words
use Rattle.gg_shape.specs.inside.Faults.{Answers}
use Rattle.gg_shape.proofs.FlatLemmas.{decided_next}
use Rattle.gg_types.specs.declared.sort.Own.TheVariants.{Single}
use Rattle.gg_types_rules.specs.inside.Known.{roles_seen, traced_seen, owned_seen}
use Rattle.gg_types.specs.Sorts.{sort_of}
use Rattle.gg_types.specs.Types.{stored_type_faults, clock_faults_in, reset_faults}
use Rattle.gg_types_rules.proofs.KnownLemmas.{roles-same, traced-same}
use Rattle.gg_types_rules.proofs.statement.judge_register.Goals as goal

pub returns-clause-answers : goal.returns-clause-answers
returns-clause-answers c = λ name next.
    let old = c.args.known.now in
    let new = c.declare.new.known in
    let r = roles_seen old in
    let t = traced_seen old in
    let s = sort_of c.args.ty in
    let reset = c.args.reset.now in
    let d = c.declare.ensures in
    let o = owned_seen old ++ (name, Some (Single s)) ∷ [] in
    let own = c.in_ok-declare.ensures.own name next ∙ ap (λ x. owned_seen old ++ (name, Some (Single x)) ∷ []) c.sort_of-sort.ensures in
    let e : reset_faults (roles_seen new) (traced_seen new) (owned_seen new) (Some c.sort_of-sort.result) reset ≡ reset_faults r t o (Some s) reset =
    ap (λ x. reset_faults x (traced_seen new) (owned_seen new) (Some c.sort_of-sort.result) reset) (roles-same new old d.names d.number)
    ∙ ap (λ x. reset_faults r x (owned_seen new) (Some c.sort_of-sort.result) reset) (traced-same new old d.names d.number d.traced)
    ∙ ap (λ x. reset_faults r t x (Some c.sort_of-sort.result) reset) own
    ∙ ap (λ x. reset_faults r t o (Some x) reset) c.sort_of-sort.ensures in
    let clock = clock_faults_in r t (owned_seen old) c.args.line words.Register c.args.tick.now in
    decided_next (stored_type_faults c.args.line words.Register c.args.ty) (clock ++ reset_faults r t o (Some s) reset) c.judge_reset.result c.in_ok-stored_type.ensures
    (decided_next clock (reset_faults r t o (Some s) reset) c.judge_reset.result c.in_ok-clock.ensures
    (subst (λ l. Answers l c.judge_reset.result) e c.judge_reset.ensures))
