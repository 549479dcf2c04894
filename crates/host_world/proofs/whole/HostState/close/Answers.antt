use Rattle.std.proofs.Common.{◌≡◌, ◌∙◌, OnOk, List, [], ◌∷◌, ap, subst, ℕ}
use Rattle.host_world.specs.Events.{after}
use Rattle.host_world.specs.declared.event.JournalEvent.TheVariants.{Stop}
use Rattle.host_world.proofs.WholeCode.{on_host}
use Rattle.host_world.proofs.whole.HostState.close.Goals as goal

pub returns : goal.returns
returns c = λ stories budget.
    let images : c.in_ok-images.images ≡ c.args.self.now.host.disk.seen ∷ [] =
    c.in_ok-images.ensures ∙ ap (λ (l : List ℕ). l ∷ []) c.seen.ensures in
    on_host c.stop.result c.args.self.now c.stop.new.self
    (after stories budget c.args.self.now.host (Stop (c.args.self.now.host.disk.seen ∷ [])))
    (subst (λ (l : List (List ℕ)). OnOk c.stop.result
    (c.stop.new.self ≡ after stories budget c.args.self.now.host (Stop l))) images
    (c.stop.ensures.ok stories budget))
