use Rattle.std.proofs.Common.{◌≡◌, ◌∷◌, ◌++◌, [], List, ℕ, Some, ap, ◌∙◌}
use Rattle.std.specs.Prelude.{string_bytes}
use Rattle.serde_json.specs.View.{view, members_view}
use Rattle.gg_partfile.specs.Shapes.{each_member}
use Rattle.gg_partfile.proofs.ListSteps.{behind, member-more}
use Rattle.gg_partfile.proofs.lists.each_member.Goals as goal

pub loop-key-preserved : goal.loop-key-preserved
loop-key-preserved g c =
    let reads = g.T.FromValue.reads in
    let splits : c.loop-key.key-iterator ≡ (c.in-Some.key.now, c.in-Some.value.now) ∷ c.next.new.self = c.in-Some.ensures.steps in
    let some : reads (view c.in-Some.value.now) ≡ Some c.in-Some-2.read = cc (c.in_ok-read.ensures) in
    let name : c.in_ok-from_str-in-Some-2.field-0 ≡ string_bytes c.in-Some.key.now = c.in_ok-from_str-in-Some-2.ensures ∙ c.as_str.ensures.value in
    record {
      next = tt;
      finite = tt;
      reads =
          ap (λ (l : List (List ℕ × _)). behind l (each_member reads (members_view c.next.new.self)))
          (c.in_ok-push-in-Some-2.ensures.items ∙ ap (λ (name : List ℕ). c.loop-key.found.items ++ (name, c.in-Some-2.read) ∷ []) name)
          ∙ member-more reads c.loop-key.key-iterator c.next.new.self c.in-Some.key.now c.in-Some.value.now c.in-Some-2.read c.loop-key.found.items (each_member reads (members_view c.args.members.now.entries)) splits some c.loop-key.invariant.reads;
    }
