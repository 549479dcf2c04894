use Rattle.std.proofs.Common.{subst, sym, ap, ◌∙◌, Bool, IsTrue, length}
use Rattle.host_serve.proofs.AloneLemmas.{many_histories}
use Rattle.host_drill.proofs.OpenLemmas.{made_agree, no_rows, none_seen}
use Rattle.host_drill.proofs.opening.open_host.Goals as goal

pub returns-in-Ok-open-clause-drilled : goal.returns-in-Ok-open-clause-drilled
returns-in-Ok-open-clause-drilled g c =
    let opened = c.in-Ok-open.ensures.ok.3 in
    record {
      of = opened.of;
      sound = c.in-Ok-open.ensures.sound (made_agree _ _ _ _ c.requires.made);
      alone = opened.alone;
      many = ap length opened.histories ∙ many_histories c.in-Ok-open.ensures.ok.0;
      stories = opened.stories ∙ c.requires.stories;
      budget = opened.budget;
    }

pub returns-in-Ok-open-clause-fresh : goal.returns-in-Ok-open-clause-fresh
returns-in-Ok-open-clause-fresh g c =
    let holds =
    (c.in-Ok.ensures.ok c.requires.tells).1 _ (g.met.D.Disk.seen_may_stay c.init.new.disk) in
    let spells =
    c.in-Ok-open.ensures.ok.2
    (subst (λ (b : Bool). IsTrue b) (sym c.in-Ok.ensures.kept.telling) c.requires.tells) in
    λ k high. none_seen c.in-Ok-open.ensures.ok.0 _
    (no_rows _ _ holds spells) c.in-Ok-open.ensures.ok.3.histories k
