use Rattle.std.proofs.Common.{◌≡◌, ◌++◌, [], ◌∷◌, List, ℕ, length, map, sym, ◌∙◌, ap, subst, arith}
use Rattle.std.specs.Prelude.{vec_len}
use Rattle.gate_journal.specs.declared.row.Row.{Row}
use Rattle.gate_journal.specs.Rows.{rows_behind_open_gates}
use Rattle.gate_journal.specs.Scan.{unnumbered}
use Rattle.journal_pack.specs.Live.{live_rows, HaveRanges}
use Rattle.journal_pack.proofs.PlainLemmas.{plain_bytes, plain_length, plain_ranges, plain_rows}
use Rattle.journal_pack.proofs.packing.find.Goals as goal

-- what is kept of rows as they are looked at
kept_plain : (rows spelled kept : List Row) → rows ≡ map unnumbered spelled → kept ≡ live_rows rows
    → kept ≡ map unnumbered (live_rows spelled)
kept_plain rows spelled kept is live = live ∙ ap live_rows is ∙ plain_rows spelled

pub bytes_behind_header-requires : goal.bytes_behind_header-requires
bytes_behind_header-requires g c =
    let found = c.in_ok-rows.ensures.ok in
    subst (λ (l : List Row). HaveRanges l)
    (sym (c.deref.ensures.value ∙ c.in_ok-kept.ensures ∙ ap live_rows found.2))
    (plain_ranges found.0 found.1)

pub returns-clause-ok : goal.returns-clause-ok
returns-clause-ok g c =
    let found = c.in_ok-rows.ensures.ok in
    let kept =
    kept_plain c.in_ok-rows.rows.items found.0 c.in_ok-kept.kept.items found.2
    c.in_ok-kept.ensures in
    let kept_many : vec_len c.in_ok-kept.kept ≡ length c.in_ok-kept.kept.items =
    omega (arith, c.in_ok-kept.kept.ok.0) in
    let rows_many : vec_len c.in_ok-rows.rows ≡ length c.in_ok-rows.rows.items =
    omega (arith, c.in_ok-rows.rows.ok.0) in (
      found.0,
      record { journal = found.1; spells = found.3 },
      cc (
        c.len.ensures ∙ kept_many ∙ ap length kept
            ∙ plain_length (live_rows found.0),
        c.len-all.ensures ∙ rows_many ∙ ap length found.2
            ∙ plain_length found.0,
      ),
      c.in_ok-body.ensures
          ∙ ap (λ (l : List Row). rows_behind_open_gates l ++ 0 ∷ []) (c.deref.ensures.value ∙ kept)
          ∙ ap (λ (l : List ℕ). l ++ 0 ∷ []) (plain_bytes (live_rows found.0)),
    )
