use Rattle.std.proofs.Common.{inl, inr, refl, ap, ◌∙◌}
use Rattle.story_replay.specs.Text.{transcript}
use Rattle.story_replay.proofs.TextLemmas.{transcript_unnumbered}
use Rattle.host_top.proofs.replay.replay_over.Goals as goal

pub returns-in-Ok-write_transcript-clause-value : goal.returns-in-Ok-write_transcript-clause-value
returns-in-Ok-write_transcript-clause-value g c =
    let ok = c.in-Ok.ensures.ok in
    let text =
    ap (transcript c.args.stories.now) ok.2 ∙ transcript_unnumbered c.args.stories.now ok.0 in
    record {
      looks = c.scan.ensures.kept;
      seen = λ told. inr (c.in-Ok.ensures.seen told);
      does =
          inl (record {
            rows = ok.0;
            spelled = ok.3;
            count = c.in-Ok.ensures.cause;
            says = inl (refl, rw text at c.in-Ok-write_transcript.ensures.ok);
          });
    }

pub returns-in-Err-write_transcript-clause-value : goal.returns-in-Err-write_transcript-clause-value
returns-in-Err-write_transcript-clause-value g c =
    let ok = c.in-Ok.ensures.ok in
    let text =
    ap (transcript c.args.stories.now) ok.2 ∙ transcript_unnumbered c.args.stories.now ok.0 in
    record {
      looks = c.scan.ensures.kept;
      seen = λ told. inr (c.in-Ok.ensures.seen told);
      does =
          inl (record {
            rows = ok.0;
            spelled = ok.3;
            count = c.in-Ok.ensures.cause;
            says =
                inr (
                  c.in-Err-write_transcript.stop,
                  c.of_stop.ensures,
                  rw text at c.in-Err-write_transcript.ensures.err,
                );
          });
    }
