use Rattle.std.proofs.Common.{◌≡◌, List, [], ◌∷◌, ◌++◌, Some, None, Option, refl}
use Rattle.std.specs.Option.{IsSome, option_to_list}
use Rattle.gg_workers.proofs.assign.give_back.Goals as goal

popped : {A : Type 0} (r : Option A) (old new : List A) → IsSome r → old ≡ new ++ option_to_list r → (s : A) × (r ≡ Some s) × (old ≡ new ++ s ∷ [])
popped None old new i e = absurd cc
popped (Some s) old new i e = (s, refl, e)

pub returns : goal.returns
returns g c = popped c.pop.result c.args.worker.now.linked_hosts.items c.pop.new.self.items (c.pop.ensures.variant.1 (rw c.args.worker.now.linked_hosts.ok.0 c.requires)) c.pop.ensures.items
