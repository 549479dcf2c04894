use Rattle.std.proofs.Common.{◌≡◌, sym, ◌∙◌}
use Rattle.session_desk.specs.Inside.{state_of}
use Rattle.session_desk.specs.Verdict.{verdict}
use Rattle.session_desk.proofs.LawLemmas.{cold_told}
use Rattle.session_desk.proofs.desk.Desk.check.Goals as goal

pub returns : goal.returns
returns g c =
    let desk = (state_of c.self.inside).desk in
    let said : c.verdict_of.result ≡ verdict desk c.args.request.now =
    rw (c.as_slice-commands.ensures.value, c.now-now.ensures) at c.verdict_of.ensures in
    rw (← c.self.view_is)
    (record {
      value = said;
      cold = λ e. cold_told desk c.args.request.now (sym said ∙ e);
      own = λ sound. (c.self.invariant.2.own sound).holds;
    })
