use Rattle.std.proofs.Common.{ap, sym, ◌∙◌}
use Rattle.session_desk.specs.Shared.{DeskTag}
use Rattle.host_serve.proofs.EndLemmas.{brings_in, own_number}
use Rattle.host_serve.proofs.ListLemmas.{same_some}
use Rattle.host_serve.proofs.end.bring_in.Goals as goal

pub returns-clause-value : goal.returns-clause-value
returns-clause-value g c =
    let parts = c.into_parts-journal_pass.ensures in
    brings_in _ _ _ _ _ c.enter-desk.result
    c.into_parts-journal_pass.result.0 _ _ c.enter-desk.ensures.value c.enter-desk.ensures.alone
    c.enter-desk.ensures.complete c.enter-desk.ensures.tag
    (ap (λ (t : DeskTag g.row.D.Denot). t.session)
    (same_some _ _ (sym c.enter-desk.ensures.tag ∙ c.requires.tag.4)))
    parts.shared parts.store
    (c.into_disk.ensures.value ∙ ap (λ x. x.1.disk) parts.value)
    (ap (λ x. x.0) parts.value) c.join.ensures.second

pub returns-clause-grows : goal.returns-clause-grows
returns-clause-grows g c = record {
  holds_both = c.join.ensures.holds ∙ own_number _ c.enter-desk.result
      c.into_parts-journal_pass.result.0
      c.args.root.now (ap (λ (t : DeskTag g.row.D.Denot). t.session)
      (same_some _ _ (sym c.enter-desk.ensures.tag ∙ c.requires.tag.4)))
      c.into_parts-journal_pass.ensures.shared
      (ap (λ x. x.0) c.into_parts-journal_pass.ensures.value);
  since = c.join.ensures.first;
  kept = (c.join.ensures.kept.1, c.join.ensures.kept.3);
}
