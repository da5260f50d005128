use Rattle.std.proofs.Common.{ℕ, ◌<◌, ◌++◌, List, length, map, sym, ◌∙◌, ap, ap₂, subst}
use Rattle.std.specs.Prelude.{◌==◌, All, Contains, flat_map}
use Rattle.std.specs.List.{list_any}
use Rattle.std.specs.Option.{option_to_list}
use Rattle.std.proofs.lemmas.List.Elements.{All-filter}
use Rattle.gg_flat.specs.Circuit.{driver_at}
use Rattle.gg_flat_tree.specs.Scoped.{memory_fields}
use Rattle.gg_flat.proofs.ListLemmas.{filter-cases}
use Rattle.gg_cut_plan.specs.Direct.{driver_names}
use Rattle.gg_cut_routes.specs.inside.Tables.{side_at, entry_at, AreKnown, is_kept, is_left}
use Rattle.gg_cut_routes.proofs.FoundTables.{found-known, names-all}
use Rattle.gg_cut_routes.proofs.gone.gone_of.Goals as goal

pub marks_of-requires : goal.marks_of-requires
marks_of-requires c =
    subst (λ (l : List ℕ). All (λ x. x < c.signal_count-count.result) l) (sym (c.deref.ensures.value ∙ c.in_ok-ends.ensures {u = tt}))
    (found-known c.args.straight.now c.args.made.now c.signal_count-count.result (subst (λ n. AreKnown n c.args.straight.now) (sym c.signal_count-count.ensures.count) c.requires.direct))

pub names_of-requires-clause-signals : goal.names_of-requires-clause-signals
names_of-requires-clause-signals c =
    subst (λ (l : List ℕ). All (λ s. s < length c.args.piece.now.signals) l) (sym (c.deref-2.ensures.value ∙ c.in_ok-kept.ensures {u = tt}))
    (All-filter (λ s. is_kept (side_at c.args.sides.now s) (entry_at c.args.origins.now s) (entry_at c.args.straight.now s)) (λ s. s < length c.args.piece.now.signals) c.args.made.now c.requires.made)

pub found_in-requires-2 : goal.found_in-requires-2
found_in-requires-2 c =
    let test = λ (s : ℕ). is_kept (side_at c.args.sides.now s) (entry_at c.args.origins.now s) (entry_at c.args.straight.now s) in
    subst (λ (l : List ℕ). All (λ t. t < length c.args.origins.now) l) (sym (c.deref-3.ensures.value ∙ c.in_ok-names.ensures {u = tt}))
    (names-all c.args.piece.now c.deref-2.result.now c.args.memories.now (length c.args.origins.now)
    (λ s t h named.
    subst (λ n. t < n) (sym c.requires.origins)
    (c.requires.named s t (filter-cases test c.args.made.now s (subst (λ (l : List ℕ). Contains l s) (c.deref-2.ensures.value ∙ c.in_ok-kept.ensures {u = tt}) h)).among named))
    (λ m t h field. subst (λ n. t < n) (sym c.requires.origins) (c.requires.fields m t h field)))

pub marks_of-requires-2 : goal.marks_of-requires-2
marks_of-requires-2 c =
    subst (λ (l : List ℕ). All (λ x. x < c.signal_count-count.result) l) (sym (c.deref-4.ensures.value ∙ c.in_ok-needs.ensures {u = tt}))
    (found-known c.args.origins.now c.deref-3.result.now c.signal_count-count.result (subst (λ n. AreKnown n c.args.origins.now) (sym c.signal_count-count.ensures.count) c.requires.known))

pub returns-clause-gone : goal.returns-clause-gone
returns-clause-gone c =
    let kept = c.deref-2.ensures.value ∙ c.in_ok-kept.ensures {u = tt} in
    let names = c.deref-3.ensures.value ∙ c.in_ok-names.ensures {u = tt} ∙ ap (λ (l : List ℕ). flat_map (λ s. driver_names c.args.piece.now (driver_at c.args.piece.now s)) l ++ flat_map (memory_fields c.args.piece.now) c.args.memories.now) kept in
    record {
      left = c.in_ok-left.left.items;
      needed = c.in_ok-needed.needed.items;
      ends = λ x. c.in_ok-left.ensures.marks x ∙ ap (λ (l : List ℕ). list_any (λ t. x == t) l) (c.deref.ensures.value ∙ c.in_ok-ends.ensures {u = tt});
      needs = λ x.
          c.in_ok-needed.ensures.marks x
          ∙ ap (λ (l : List ℕ). list_any (λ t. x == t) l) (c.deref-4.ensures.value ∙ c.in_ok-needs.ensures {u = tt} ∙ ap (λ (l : List ℕ). flat_map (λ t. option_to_list (entry_at c.args.origins.now t)) l) names);
      is = c.in_ok-gone.ensures {u = tt} ∙ ap₂ (λ a b. map (is_left a b) c.args.origins.now) c.deref-5.ensures.value c.deref-6.ensures.value;
    }
