use Rattle.std.proofs.Common.{rules, ◌≡◌, map, refl}
use Rattle.std.specs.List.{list_all}
use Rattle.std.proofs.lemmas.Result.{err_from_is_err_and}
use Rattle.glk_streams.specs.Laws.{AreValidStreams}
use Rattle.glk_streams.specs.Streams.{table_of}
use Rattle.snap_glk.specs.Made.{file_made, streams_made}
use Rattle.snap_glk.specs.Making.{is_valid_file}
use Rattle.snap_glk.specs.Texts.{AreTexts}
use Rattle.snap_glk.proofs.FitLemmas.{are-files, unsound}
use Rattle.snap_glk.proofs.fields.make_streams.Goals as goal

pub returns-in_err-files : goal.returns-in_err-files
returns-in_err-files c =
    let fields = c.args.fields.now in
    let list = c.as_slice-3.result.now in
    let p = err_from_is_err_and c.from_residual-in_err-files.result
    c.from_residual-in_err-files.ensures.1 in
    rw (p.1, p.2) (unsound (map file_made) (list_all is_valid_file) list (AreTexts fields)
    AreValidStreams (streams_made fields) c.in_err-files.field-0.0 c.in_err-files.ensures
    (λ t v. rw c.as_slice-3.ensures
    (are-files (streams_made fields) fields.files refl v t.files)))

pub returns : goal.returns
returns c =
    let fields = c.args.fields.now in
    let n = fields.numbers in
    let table : table_of n.stream n.current c.into_vec.result.items n.fileref
    c.into_vec-2.result.items c.into_vec-3.result.items ≡ streams_made fields =
    rw (
      c.into_vec.ensures,
      c.into_vec-2.ensures,
      c.into_vec-3.ensures,
      c.in_ok-streams.ensures,
      c.in_ok-refs.ensures,
      c.in_ok-files.ensures,
      c.as_slice.ensures,
      c.as_slice-2.ensures,
      c.as_slice-3.ensures,
      c.as_slice-list.ensures,
    ) refl in
    rw (← table) (search rules)
