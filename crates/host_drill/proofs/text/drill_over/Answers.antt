use Rattle.std.proofs.Common.{◌≡◌, List, ℕ, ◌++◌, ◌∙◌, ap, arith, codes, sym}
use Rattle.std.specs.List.{flat_map, range_with_len}
use Rattle.host_drill.specs.Drill.{drill_text, session_line}
use Rattle.host_drill.proofs.PlayLemmas.{text_more}
use Rattle.host_drill.proofs.text.drill_over.Goals as goal

pub loop-session-init : goal.loop-session-init
loop-session-init g c = record {
  told = c.new-text.ensures.items;
  fresh = c.in_ok-host.ensures.fresh;
  drilled = c.in_ok-host.ensures.drilled;
}

pub loop-session-preserved : goal.loop-session-preserved
loop-session-preserved g c =
    record {
      told =
          c.in_ok-add_session.ensures.told
          ∙ ap (λ (text : List ℕ). text ++ session_line c.args.number c.loop-session.session)
          c.loop-session.invariant.told
          ∙ sym (text_more (session_line c.args.number) c.loop-session.session);
      fresh = c.in_ok-add_session.ensures.fresh;
      drilled = c.in_ok-add_session.ensures.kept;
    }

pub returns : goal.returns
unfolding drill_text
returns g c =
    let all : c.loop-session.session ≡ 8 =
    omega (arith, c.loop-session-test.false, c.loop-session.auto.session-end) in
    record {
      value = c.in_ok-extend_from_slice.ensures.items
          ∙ ap (λ (text : List ℕ). text ++ codes "done\n")
          (c.loop-session.invariant.told
          ∙ ap (λ (n : ℕ). flat_map (session_line c.args.number) (range_with_len 0 n)) all);
    }
