use Rattle.std.proofs.Common.{ap, inl, inr, refl, ◌∙◌}
use Rattle.line_talk.specs.declared.sink.Stop.TheVariants.{Memory}
use Rattle.line_talk.proofs.WritingLemmas.{stopped_at_once}
use Rattle.host_top.specs.Packed.{packed_line}
use Rattle.host_top.proofs.PackLemmas.{is_packed, seen_unless_old}
use Rattle.host_top.proofs.pack.pack_over.Goals as goal

pub returns-in-Err-clause-value : goal.returns-in-Err-clause-value
returns-in-Err-clause-value g c = record {
  looks = c.pack.ensures.old;
  seen = seen_unless_old c.in-Err.fault _ _ _ _ _ c.say_pack_fault.ensures.value
      c.in-Err.ensures.old_seen;
  meanwhile = c.pack.ensures.crash;
  reaches = c.pack.ensures.reach;
  does =
      inr (record {
        fault = c.in-Err.fault;
        refuses = c.in-Err.ensures.exact;
        cause = c.in-Err.ensures.cause;
        looks = λ before.
            let left = c.in-Err.ensures.refused before in (left.0.asked, left.0.moments);
        says = c.say_pack_fault.ensures.value;
      });
}

pub returns-in-Ok-packed_line-clause-value : goal.returns-in-Ok-packed_line-clause-value
returns-in-Ok-packed_line-clause-value g c =
    let ok = c.in-Ok.ensures.ok in
    let line =
    c.as_bytes.ensures.value ∙ c.in-Ok-packed_line.ensures
    ∙ ap (λ p. packed_line p.kept p.all) ok.2 in
    record {
      looks = c.pack.ensures.old;
      seen = λ told. inr (c.in-Ok.ensures.old_seen told);
      meanwhile = c.pack.ensures.crash;
      reaches = c.pack.ensures.reach;
      does =
          inl (is_packed g.D.Disk _ ok.0 ok.1 ok.3 c.in-Ok.ensures.cause _ _ _
          (rw line at c.say_line.ensures.value));
    }

pub returns-in-Err-packed_line-clause-value : goal.returns-in-Err-packed_line-clause-value
returns-in-Err-packed_line-clause-value g c =
    let ok = c.in-Ok.ensures.ok in
    record {
      looks = c.pack.ensures.old;
      seen = λ told. inr (c.in-Ok.ensures.old_seen told);
      meanwhile = c.pack.ensures.crash;
      reaches = c.pack.ensures.reach;
      does =
          inl (is_packed g.D.Disk _ ok.0 ok.1 ok.3 c.in-Ok.ensures.cause _ _ _
          (inr (Memory, refl, stopped_at_once _ _)));
    }
