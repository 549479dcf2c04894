use Rattle.std.proofs.Common.{rules, ◌≡◌, not, nat_eq, ap, sym, ◌∙◌}
use Rattle.std.specs.Prelude.{filter}
use Rattle.std.proofs.lemmas.Fn.{filter_same}
use Rattle.vm_heap.specs.History.{Holding, holding_after_call, block_given_back}
use Rattle.vm_heap.proofs.history.play.Goals as goal

pub returns-in-Ok : goal.returns-in-Ok
returns-in-Ok c =
    let kept : c.retain.new.self.items
    ≡ filter (λ b. not (nat_eq b.at c.in-Free.at)) c.args.held.now.items =
    filter_same _ _ _ (λ x b f' k. search rules) _ _ c.retain.ensures.filtered in
    let old : Holding = record { heap = c.args.heap.now; held = c.args.held.now.items } in
    record {
      ok = ap (λ call. holding_after_call c.args.end call old) c.in-Free.is
          ∙ ap (block_given_back c.in-Free.at old) c.in-Ok.ensures.value
          ∙ ap (λ xs. record { heap = c.free.new.self; held = xs }) (sym kept);
    }
