use Rattle.std.proofs.Common.{◌≡◌, ◌∙◌, [], ap, map, string_bytes, sym, true}
use Rattle.std.specs.Option.{option_map}
use Rattle.command_words.specs.Words.{command_asked, asked_by}
use Rattle.host_top.proofs.CauseLemmas.{failed_six, failed_nine, coded_zero, coded_two, coded_four}
use Rattle.host_top.proofs.CauseLemmas.{coded_five, coded_seven}
use Rattle.host_top.proofs.CompleteLemmas.{completes, completes_unlisted, complete_no_memory}
use Rattle.host_top.proofs.LoadsLemmas.{loads_no_memory}
use Rattle.line_talk.specs.Causes.{Rose}
use Rattle.host_top.proofs.HasCauseLemmas.{cause_no_memory, has_cause}
use Rattle.host_top.proofs.WritesLemmas.{writes_all, writes_no_memory}
use Rattle.host_top.proofs.ToldLemmas.{tells, told_no_memory, done_no_memory, whatever_is_asked}
use Rattle.host_top.specs.Speech.{writes_once}
use Rattle.line_talk.proofs.StreamsLemmas.{wrote_none}
use Rattle.line_talk.specs.Streams.{Wrote}
use Rattle.host_top.proofs.program.top.Goals as goal

pub returns-in-Err-clause-told : goal.returns-in-Err-clause-told
returns-in-Err-clause-told g c =
    told_no_memory _ (asked_by (map string_bytes c.args.words.now)) c.code-in-Err.result
    (g.O.Outside.outside c.args.outside.now) (g.S.Source.source c.args.input.now)
    (g.K.Sink.sink c.args.output.now)
    c.code-in-Err.ensures

pub returns-in-Err-clause-writes : goal.returns-in-Err-clause-writes
returns-in-Err-clause-writes g c =
    writes_no_memory g.O.Disk.Disk (asked_by (map string_bytes c.args.words.now)) c.code-in-Err.result
    (g.O.Outside.outside c.args.outside.now) (g.O.Outside.outside c.args.outside.now)
    (g.S.Source.source c.args.input.now) (g.S.Source.source c.args.input.now)
    (g.K.Sink.sink c.args.output.now) (g.K.Sink.sink c.args.output.now)
    c.code-in-Err.ensures

pub returns-in-Err-clause-causes : goal.returns-in-Err-clause-causes
returns-in-Err-clause-causes g c =
    cause_no_memory g.O.Disk.Disk (asked_by (map string_bytes c.args.words.now)) c.code-in-Err.result
    (g.O.Outside.outside c.args.outside.now) (g.O.Outside.outside c.args.outside.now)
    (g.S.Source.source c.args.input.now) (g.S.Source.source c.args.input.now)
    (g.K.Sink.sink c.args.output.now) (g.K.Sink.sink c.args.output.now)
    c.code-in-Err.ensures

pub returns-in-Err-clause-done : goal.returns-in-Err-clause-done
returns-in-Err-clause-done g c =
    done_no_memory _ _ (asked_by (map string_bytes c.args.words.now)) c.code-in-Err.result
    (g.O.Outside.outside c.args.outside.now) (g.S.Source.source c.args.input.now)
    (g.K.Sink.sink c.args.output.now)
    c.code-in-Err.ensures

pub returns-clause-done : goal.returns-clause-done
returns-clause-done g c =
    let is = sym c.in-Ok-Some.ensures ∙ ap (option_map command_asked) c.in-Ok-Some.field-0-is in
    rw (is, c.code-2.ensures) c.follow-status.ensures.done

pub returns-clause-told : goal.returns-clause-told
returns-clause-told g c =
    let is = sym c.in-Ok-Some.ensures ∙ ap (option_map command_asked) c.in-Ok-Some.field-0-is in
    rw (is, c.code-2.ensures) (tells _ _ _ _ _ _ _ _ _ c.follow-status.ensures.done)

pub returns-clause-writes : goal.returns-clause-writes
returns-clause-writes g c =
    let is = sym c.in-Ok-Some.ensures ∙ ap (option_map command_asked) c.in-Ok-Some.field-0-is in
    rw is (λ zero. writes_all _ _ _ _ _ _ _ _ _ c.follow-status.ensures.done
    (coded_zero _ _ c.code-2.ensures zero))

pub returns-clause-causes : goal.returns-clause-causes
returns-clause-causes g c =
    let is = sym c.in-Ok-Some.ensures ∙ ap (option_map command_asked) c.in-Ok-Some.field-0-is in
    rw (is, c.code-2.ensures) (has_cause _ _ _ c.code-2.result _ _ _ _ _ _
    c.follow-status.ensures.done
    c.code-2.ensures c.follow-status.ensures.read_fault c.follow-status.ensures.write_fault)

pub returns-clause-bad_words : goal.returns-clause-bad_words
returns-clause-bad_words g c =
    λ e. absurd (c.follow-status.ensures.bad_words (coded_two _ _ c.code-2.ensures e))

pub returns-clause-read_fault : goal.returns-clause-read_fault
returns-clause-read_fault g c =
    λ e. c.follow-status.ensures.read_fault (coded_four _ _ c.code-2.ensures e)

pub returns-clause-write_fault : goal.returns-clause-write_fault
returns-clause-write_fault g c =
    λ e. c.follow-status.ensures.write_fault (coded_five _ _ c.code-2.ensures e)

pub returns-clause-disk_fault : goal.returns-clause-disk_fault
returns-clause-disk_fault g c =
    failed_six _ _ _ _ _ _ _ _ _ _ c.follow-status.ensures.done c.code-2.ensures

pub returns-clause-door_fault : goal.returns-clause-door_fault
returns-clause-door_fault g c =
    failed_nine _ _ _ _ _ _ _ _ _ _ c.follow-status.ensures.done c.code-2.ensures

pub returns-clause-kept : goal.returns-clause-kept
returns-clause-kept g c = c.follow-status.ensures.kept

pub returns-in-Err-clause-unsaid : goal.returns-in-Err-clause-unsaid
returns-in-Err-clause-unsaid g c =
    let sink = g.K.Sink.sink c.args.output.now in
    whatever_is_asked (asked_by (map string_bytes c.args.words.now))
    (λ asked. writes_once asked.action ≡ true → c.code-in-Err.result ≡ 7 → Wrote sink sink [])
    (λ asked once seven. wrote_none sink)

pub returns-clause-unsaid : goal.returns-clause-unsaid
returns-clause-unsaid g c =
    let is = sym c.in-Ok-Some.ensures ∙ ap (option_map command_asked) c.in-Ok-Some.field-0-is in
    rw is (λ once seven. c.follow-status.ensures.unsaid once
    (coded_seven _ _ c.code-2.ensures seven))

pub returns-in-Err-clause-complete : goal.returns-in-Err-clause-complete
returns-in-Err-clause-complete g c =
    complete_no_memory _ (asked_by (map string_bytes c.args.words.now)) c.code-in-Err.result
    (g.O.Outside.outside c.args.outside.now) (g.O.Outside.outside c.args.outside.now)
    (g.S.Source.source c.args.input.now) (g.S.Source.source c.args.input.now)
    (g.K.Sink.sink c.args.output.now) (g.K.Sink.sink c.args.output.now) _ _
    c.code-in-Err.ensures

pub returns-in-Err-clause-unprovoked : goal.returns-in-Err-clause-unprovoked
returns-in-Err-clause-unprovoked g c =
    complete_no_memory _ (asked_by (map string_bytes c.args.words.now)) c.code-in-Err.result
    (g.O.Outside.outside c.args.outside.now) (g.O.Outside.outside c.args.outside.now)
    (g.S.Source.source c.args.input.now) (g.S.Source.source c.args.input.now)
    (g.K.Sink.sink c.args.output.now) (g.K.Sink.sink c.args.output.now) _ _
    c.code-in-Err.ensures

pub returns-clause-complete : goal.returns-clause-complete
returns-clause-complete g c =
    let is = sym c.in-Ok-Some.ensures ∙ ap (option_map command_asked) c.in-Ok-Some.field-0-is in
    rw is
    (completes _ _ _ _ _ _ _ _ _ _ c.follow-status.ensures.done c.code-2.ensures
    c.follow-status.ensures.read_fault c.follow-status.ensures.write_fault)

pub returns-clause-unprovoked : goal.returns-clause-unprovoked
returns-clause-unprovoked g c =
    let is = sym c.in-Ok-Some.ensures ∙ ap (option_map command_asked) c.in-Ok-Some.field-0-is in
    rw is
    (completes_unlisted _ _ _ _ _ _ _ _ _ _ _ _ c.follow-status.ensures.done c.code-2.ensures
    c.follow-status.ensures.unprovoked c.follow-status.ensures.stood
    c.follow-status.ensures.write_fault)

pub returns-in-Err-clause-loads : goal.returns-in-Err-clause-loads
returns-in-Err-clause-loads g c =
    loads_no_memory (asked_by (map string_bytes c.args.words.now)) c.code-in-Err.result
    (g.O.Outside.outside c.args.outside.now).file
    (g.O.Outside.failing_loads c.args.outside.now)
    (Rose (g.S.Source.source c.args.input.now).faults (g.S.Source.source c.args.input.now).faults)
    c.code-in-Err.ensures

pub returns-clause-loads : goal.returns-clause-loads
returns-clause-loads g c =
    let is = sym c.in-Ok-Some.ensures ∙ ap (option_map command_asked) c.in-Ok-Some.field-0-is in
    rw (is, c.code-2.ensures) c.follow-status.ensures.loads
