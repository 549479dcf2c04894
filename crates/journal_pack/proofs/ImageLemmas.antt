-- What the writes of a packed journal leave, whole or cut short.
use Rattle.std.proofs.Common.{◌≡◌, ◌⊎◌, inl, inr, ℕ, ◌+◌, ◌≤◌, true, List, [], ◌∷◌, ◌++◌, length}
use Rattle.std.proofs.Common.{get_or, drop, refl, sym, ◌∙◌, ap, subst, arith, append_assoc}
use Rattle.std.specs.Prelude.{nat_eq}
use Rattle.std.specs.List.{starts_with}
use Rattle.std.proofs.Math.ListN.{drop_of_length-le}
use Rattle.std.proofs.lemmas.Bool.{cases_Bool}
use Rattle.std.proofs.lemmas.Bool.Decides.{Decides-eqb}
use Rattle.std.proofs.lemmas.Slice.Eq.{starts_is}
use Rattle.std.proofs.lemmas.List.{append-nil, length-drop, nil_from_length, get_or-append_right}
use Rattle.disk_model.specs.Disk.{Holds, Torn, file_written}
use Rattle.disk_model.proofs.Torn.{holds_both, holds_front}
use Rattle.gate_journal.specs.declared.row.Row.{Row}
use Rattle.gate_journal.specs.Rows.{journal_header, rows_behind_open_gates, IsJournal}
use Rattle.gate_journal.specs.Rows.{header_with, version_byte, HasNoHeader}
use Rattle.gate_journal.proofs.RowLemmas.{holds_all}
use Rattle.gate_journal.proofs.CorruptLemmas.{corrupt_end, no_header}
use Rattle.gate_journal.proofs.VersionLemmas.{are_second}
use Rattle.journal_pack.specs.Laws.{IsSpelled}
use Rattle.journal_pack.specs.Live.{packed}
use Rattle.journal_pack.proofs.LiveLemmas.{live_journal}
use Rattle.journal_pack.proofs.VersionLemmas.{closed, in_any_version}
use Rattle.journal_pack.specs.Images.{IsRefused, NoneOrAll, blank, closed_journal}

-- a header, or there is none
has_header : (c : List ℕ) → (c ≡ header_with (version_byte c) ++ drop 16 c) ⊎ HasNoHeader c
has_header c = elim (cases_Bool (starts_with nat_eq c (header_with (version_byte c)))) [
  | inr other ↦ inr (no_header (version_byte c) c other)
  | inl begins ↦
      inl ((starts_is Decides-eqb c (header_with (version_byte c)) true (sym begins)).0 refl)
]

-- Bytes that end with their first 16 are no journal: where these are a header the first gate is
-- missing.
pub short_refused : (c : List ℕ) → length c ≤ 16 → IsRefused c
short_refused c le = elim (has_header c) [
  | inr none ↦ inl none
  | inl begins ↦
      let rest : drop 16 c ≡ [] =
      nil_from_length (drop 16 c) (omega (arith, length-drop 16 c, le)) in
      inr (
        16,
        corrupt_end (version_byte c) [] c 16 tt tt
            (begins ∙ ap (λ (l : List ℕ). header_with (version_byte c) ++ l) rest) refl,
      )
]

-- where the first byte is 0 there is no header
pub blank_refused : (c : List ℕ) → get_or c 0 0 ≡ 0 → IsRefused c
blank_refused c first = inl none
  where
    none : HasNoHeader c
    none holds = absurd (omega (arith, holds.each 0 (omega arith), first))

-- the first step: zeros on an empty disk
pub first_torn : (c d : List ℕ) → d ≡ [] → Torn 0 16 d c → IsRefused c
first_torn c d is torn =
    short_refused c (omega (arith, torn.no_longer, ap length is))

pub first_written : (d : List ℕ) → d ≡ [] → file_written d 0 blank ≡ blank
first_written d is = ap (λ (l : List ℕ). file_written l 0 blank) is

-- the second: a piece behind them
pub second_torn : (n : ℕ) (c d : List ℕ) → d ≡ blank → Torn 16 n d c → IsRefused c
second_torn n c d is torn =
    blank_refused c
    (torn.below 0 (omega (arith, ap length is)) (omega arith)
    ∙ ap (λ (l : List ℕ). get_or l 0 0) is)

pub second_written : (body d : List ℕ) → d ≡ blank → file_written d 16 body ≡ blank ++ body
second_written body d is =
    ap (λ (l : List ℕ). file_written l 16 body) is
    ∙ ap (λ (l : List ℕ). (blank ++ body) ++ l) (drop_of_length-le blank {i = 16 + length body} (omega arith))
    ∙ append-nil (blank ++ body)

-- the third: the header before the piece, whole
pub third_written : (body d : List ℕ) → d ≡ blank ++ body
    → file_written d 0 journal_header ≡ journal_header ++ body
third_written body d is = ap (λ (l : List ℕ). file_written l 0 journal_header) is

-- the header and the piece are the journal of the rows
pub whole : (rows : List Row) (body : List ℕ) → body ≡ rows_behind_open_gates rows ++ 0 ∷ []
    → journal_header ++ body ≡ closed_journal rows
whole rows body bytes =
    ap (λ (l : List ℕ). journal_header ++ l) bytes
    ∙ sym (append_assoc journal_header (rows_behind_open_gates rows) (0 ∷ []))

-- or in part: whatever version the header then tells
pub third_torn : (rows : List Row) → IsJournal rows → (body : List ℕ)
    → body ≡ rows_behind_open_gates rows ++ 0 ∷ []
    → (c d : List ℕ) → d ≡ blank ++ body → Torn 0 16 d c → NoneOrAll rows c
third_torn rows all body bytes c d is torn = elim (has_header c) [
  | inr none ↦ inl (inl none)
  | inl begins ↦
      let v = version_byte c in
      let size : length d ≡ 16 + length body = omega (arith, ap length is) in
      let header : Holds c 0 (header_with v) =
      holds_front (header_with v) (drop 16 c)
      (subst (λ (l : List ℕ). Holds c 0 l) begins (holds_all c)) in
      let behind : Holds c 16 body = record {
        within = omega (arith, torn.no_shorter, size);
        each = λ i lt.
            torn.above (16 + i) (omega (arith, size, lt)) (omega arith)
            ∙ ap (λ (l : List ℕ). get_or l (16 + i) 0) is
            ∙ get_or-append_right blank body 16 (16 + i) 0 refl (omega arith)
            ∙ ap (λ (k : ℕ). get_or body k 0) (omega arith);
      } in
      in_any_version rows c all
      (subst (λ (l : List ℕ). Holds c 0 l) (ap (λ (l : List ℕ). header_with v ++ l) bytes)
      (holds_both {p = 0} (header_with v) body (omega arith) header behind))
]

-- a packed journal as it is written
pub packed_spells : IsSpelled
packed_spells rows all =
    closed (packed rows) (closed_journal (packed rows)) (live_journal rows all)
    (are_second (packed rows))
    (record {
      within = omega arith;
      each = λ i lt. ap (λ (k : ℕ). get_or (closed_journal (packed rows)) k 0) (omega arith);
    })
