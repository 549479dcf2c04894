-- What files of rows spell.
use Rattle.std.proofs.Common.{◌≡◌, ◌≢◌, ◌⊎◌, inl, inr, ℕ, zero, suc, ◌+◌, ◌*◌, ◌/◌, ◌%◌}
use Rattle.std.proofs.Common.{◌<◌, ◌≤◌, List, [], ◌∷◌, ◌++◌, length, get_or, take}
use Rattle.std.proofs.Common.{drop, refl, sym, ◌∙◌, ap, subst, arith, length-append, append_assoc}
use Rattle.std.proofs.lemmas.List.{append-nil, take_at, drop_at, get_or-take, get_or-drop}
use Rattle.std.proofs.lemmas.List.{length-take, length-drop, ext_get_or, drop_more, drop-drop}
use Rattle.std.proofs.lemmas.List.{take-append-drop}
use Rattle.disk_model.specs.Disk.{Holds}
use Rattle.disk_model.proofs.Torn.{holds_front, holds_rest, holds_both}
use Rattle.gate_journal.specs.declared.row.Row.{Row}
use Rattle.gate_journal.specs.Command.{IsCommand}
use Rattle.gate_journal.specs.Gate.{IsShut}
use Rattle.gate_journal.specs.Log.{StandsInEither}
use Rattle.gate_journal.specs.Rows.{header_with, command_kind, payload_of, row_body}
use Rattle.gate_journal.specs.Rows.{journal_front, version_byte, IsInVersion, AreInVersion}
use Rattle.gate_journal.specs.Rows.{rows_behind_open_gates, journal_bytes, IsNext}
use Rattle.gate_journal.specs.Rows.{EachNext, IsJournal, SpellsRows, IsCorrupt, NoRowBehind}
use Rattle.gate_journal.specs.Parsing.{BeginsWithRow}
use Rattle.gate_journal.proofs.PayloadLemmas.{same_command}
use Rattle.gate_journal.proofs.LimitLemmas.{payload_most}
use Rattle.gate_journal.proofs.VersionLemmas.{are_front, are_push, version_of}
use Rattle.std.specs.Prelude.{Some, None}

pub length-body : (r : Row) → length (row_body r) ≡ 4 + length (payload_of r.command)
length-body r = omega arith

pub opened-push : (rows : List Row) (r : Row)
    → rows_behind_open_gates (rows ++ r ∷ []) ≡ rows_behind_open_gates rows ++ 1 ∷ row_body r
opened-push [] r = ap (λ (l : List ℕ). 1 ∷ l) (append-nil (row_body r))
opened-push (x ∷ rows) r =
    ap (λ (l : List ℕ). 1 ∷ row_body x ++ l) (opened-push rows r)
    ∙ ap (λ (l : List ℕ). 1 ∷ l)
    (sym (append_assoc (row_body x) (rows_behind_open_gates rows) (1 ∷ row_body r)))

pub front-push : (v : ℕ) (rows : List Row) (r : Row)
    → journal_front v (rows ++ r ∷ []) ≡ journal_front v rows ++ 1 ∷ row_body r
front-push v rows r =
    ap (λ (l : List ℕ). header_with v ++ l) (opened-push rows r)
    ∙ sym (append_assoc (header_with v) (rows_behind_open_gates rows) (1 ∷ row_body r))

pub spelled-push : (rows : List Row) (r : Row)
    → journal_bytes (rows ++ r ∷ []) ≡ journal_bytes rows ++ 1 ∷ row_body r
spelled-push rows r = front-push 1 rows r

each_push : (more rows : List Row) (r : Row)
    → EachNext rows more → IsNext (rows ++ more) r
    → EachNext rows (more ++ r ∷ [])
each_push [] rows r each next = (rw append-nil at next, tt)
each_push (x ∷ more) rows r each next =
    (each.0, each_push more (rows ++ x ∷ []) r each.1 (rw (append_assoc rows (x ∷ []) more) next))

-- one row more that may stand there
pub journal_push : (rows : List Row) (r : Row)
    → IsJournal rows → IsNext rows r
    → IsJournal (rows ++ r ∷ [])
journal_push rows r each next = each_push rows [] r each next

-- what a file begins with, and its rest
pub holds_split : (c a : List ℕ) → Holds c 0 a → c ≡ a ++ drop (length a) c
holds_split c a holds =
    sym (take-append-drop (length a) c)
    ∙ ap (λ (l : List ℕ). l ++ drop (length a) c)
    (ext_get_or 0 (take (length a) c) a (omega (arith, holds.within, length-take (length a) c))
    (λ i lt. get_or-take (length a) c i 0 (omega (arith, lt, length-take (length a) c))
    ∙ ap (λ (k : ℕ). get_or c k 0) (omega arith)
    ∙ holds.each i (omega (arith, lt, length-take (length a) c))))

-- a list has its own bytes
pub holds_all : (c : List ℕ) → Holds c 0 c
holds_all c = record {
  within = omega arith;
  each = λ i lt. ap (λ (k : ℕ). get_or c k 0) (omega arith);
}

-- and so has what stands from a place on
pub holds_past : {k : ℕ} {c bytes : List ℕ} → Holds c k bytes → Holds (drop k c) 0 bytes
holds_past {k = k} {c = c} holds = record {
  within = omega (arith, holds.within, length-drop k c);
  each = λ i lt.
      get_or-drop k c (0 + i) 0 ∙ ap (λ (j : ℕ). get_or c (k + j) 0) (omega arith)
      ∙ holds.each i lt;
}

-- what stands past a gate, where it begins with a row
pub body_parts :
    (r : Row) (rest past : List ℕ) → IsCommand r.command → past ≡ row_body r ++ rest
    → (get_or past 1 0 ≡ command_kind r.command)
    × (256 * get_or past 2 0 + get_or past 3 0 ≡ length (payload_of r.command))
    × (take (256 * get_or past 2 0 + get_or past 3 0) (drop 4 past) ≡ payload_of r.command)
body_parts r rest past ranges is = (
  ap (λ (l : List ℕ). get_or l 1 0) is,
  size,
  ap (λ (l : List ℕ). take (256 * get_or past 2 0 + get_or past 3 0) (drop 4 l)) is
      ∙ take_at (payload_of r.command) rest (256 * get_or past 2 0 + get_or past 3 0) (sym size),
)
  where
    high : get_or past 2 0 ≡ length (payload_of r.command) / 256 % 256
    high = ap (λ (l : List ℕ). get_or l 2 0) is

    low : get_or past 3 0 ≡ length (payload_of r.command) % 256
    low = ap (λ (l : List ℕ). get_or l 3 0) is

    size : 256 * get_or past 2 0 + get_or past 3 0 ≡ length (payload_of r.command)
    size = omega (arith, high, low, payload_most r.command ranges)

-- rows are told apart by their bytes
same_body :
    (r s : Row) (x y : List ℕ) → IsCommand r.command
    → IsCommand s.command → row_body r ++ x ≡ row_body s ++ y
    → (r.session ≡ s.session) × (r.command ≡ s.command) × (x ≡ y)
same_body r s x y first second is =
    let past = row_body s ++ y in
    let one = body_parts r x past first (sym is) in
    let other = body_parts s y past second refl in
    let sizes : length (row_body s) ≡ length (row_body r) = omega (arith, one.1, other.1) in (
      ap (λ (l : List ℕ). get_or l 0 0) is,
      same_command r.command s.command first second (sym one.0 ∙ other.0) (sym one.2 ∙ other.2),
      sym (drop_at (row_body r) x (length (row_body r)) refl)
          ∙ ap (λ (l : List ℕ). drop (length (row_body r)) l) is
          ∙ drop_at (row_body s) y (length (row_body r)) sizes,
    )

same_row : (rows : List Row) (r s : Row)
    → IsNext rows r → IsNext rows s → r.session ≡ s.session
    → r.command ≡ s.command → r ≡ s
same_row rows r s first second sessions commands =
    let whole : record { place = r.place; session = r.session; by = r.by; command = r.command }
    ≡ record { place = s.place; session = s.session; by = s.by; command = s.command } =
    cc (first.place, second.place, first.by, second.by) in
    whole

-- no row of this version that may stand behind these begins here
abbrev Ends : ℕ → List Row → List ℕ → Type 0
Ends v rows x =
    (r : Row) (rest : List ℕ) → IsNext rows r → IsInVersion v r.command
    → x ≡ 1 ∷ (row_body r ++ rest) → ⊥

-- rows that end so are told by their bytes
same_rows :
    (v : ℕ) (a b front : List Row) (x y : List ℕ) → EachNext front a → EachNext front b
    → AreInVersion v a → AreInVersion v b → Ends v (front ++ a) x → Ends v (front ++ b) y
    → rows_behind_open_gates a ++ x ≡ rows_behind_open_gates b ++ y → a ≡ b
same_rows v [] [] front x y first second are too ends others is = refl
same_rows v [] (s ∷ b) front x y first second are too ends others is =
    absurd (ends s (rows_behind_open_gates b ++ y)
    (rw (append-nil front) second.0) too.0
    (is ∙ ap (λ (l : List ℕ). 1 ∷ l) (append_assoc (row_body s) (rows_behind_open_gates b) y)))
same_rows v (r ∷ a) [] front x y first second are too ends others is =
    absurd (others r (rows_behind_open_gates a ++ x)
    (rw (append-nil front) first.0) are.0
    (sym is ∙ ap (λ (l : List ℕ). 1 ∷ l) (append_assoc (row_body r) (rows_behind_open_gates a) x)))
same_rows v (r ∷ a) (s ∷ b) front x y first second are too ends others is =
    let past : row_body r ++ (rows_behind_open_gates a ++ x)
    ≡ row_body s ++ (rows_behind_open_gates b ++ y) =
    sym (append_assoc (row_body r) (rows_behind_open_gates a) x)
    ∙ ap (λ (l : List ℕ). drop 1 l) is
    ∙ append_assoc (row_body s) (rows_behind_open_gates b) y in
    let parts = same_body r s _ _ first.0.stands.ranges second.0.stands.ranges past in
    let same : s ≡ r = sym (same_row front r s first.0 second.0 parts.0 parts.1) in
    let later : a ≡ b =
    same_rows v a b (front ++ r ∷ []) x y first.1
    (rw same at second.1) are.1 too.1 (rw (append_assoc front (r ∷ []) a) ends)
    (rw (append_assoc front (r ∷ []) b) (rw same at others)) parts.2 in
    cc

-- the rows that a file begins with end in it
abbrev EndsIn : List ℕ → List Row → Type 0
EndsIn c rows = Ends (version_byte c) rows (drop (length (journal_bytes rows)) c)

-- the file begins with these rows, of its version
pub record HasRows (c : List ℕ) (rows : List Row) : Type 0 where
  pub journal : IsJournal rows
  pub versions : AreInVersion (version_byte c) rows
  pub front : Holds c 0 (journal_front (version_byte c) rows)

pub spelled_rows : (c : List ℕ) (rows : List Row) → SpellsRows c rows → HasRows c rows
spelled_rows c rows spells = record {
  journal = spells.journal;
  versions = spells.versions;
  front = spells.front;
}

pub corrupt_rows : (c : List ℕ) (p : ℕ) (corrupt : IsCorrupt c p) → HasRows c corrupt.rows
corrupt_rows c p corrupt = record {
  journal = corrupt.journal;
  versions = corrupt.versions;
  front = corrupt.front;
}

-- such rows are told by the file
pub same_front :
    (c : List ℕ) (a b : List Row) → HasRows c a → HasRows c b → EndsIn c a → EndsIn c b → a ≡ b
same_front c a b first second ends others =
    let v = version_byte c in
    same_rows v a b [] (drop (length (journal_bytes a)) c) (drop (length (journal_bytes b)) c)
    first.journal second.journal first.versions second.versions ends others
    (ap (λ (l : List ℕ). drop 16 l)
    (sym (holds_split c (journal_front v a) first.front)
    ∙ holds_split c (journal_front v b) second.front))

-- the first byte behind a file's front
first_behind : (c : List ℕ) (n : ℕ) → get_or (drop n c) 0 0 ≡ get_or c n 0
first_behind c n = get_or-drop n c 0 0 ∙ ap (λ (k : ℕ). get_or c k 0) (omega arith)

spelled_ends : (c : List ℕ) (rows : List Row) → SpellsRows c rows → EndsIn c rows
spelled_ends c rows spells r rest next in_version is =
    spells.closed (sym (first_behind c (length (journal_bytes rows)))
    ∙ ap (λ (l : List ℕ). get_or l 0 0) is)

pub corrupt_ends : (c : List ℕ) (place : ℕ) (corrupt : IsCorrupt c place) → EndsIn c corrupt.rows
corrupt_ends c place corrupt r rest next in_version is = stops corrupt.gate
  where
    front : List ℕ
    front = journal_front (version_byte c) corrupt.rows

    whole : Holds c 0 (front ++ 1 ∷ (row_body r ++ rest))
    whole =
        subst (λ (l : List ℕ). Holds c 0 l)
        (holds_split c front corrupt.front ∙ ap (λ (l : List ℕ). front ++ l) is) (holds_all c)

    row : Holds c (place + 1) (row_body r)
    row =
        holds_front (row_body r) rest
        (holds_rest {p = place} (1 ∷ []) (row_body r ++ rest) (omega arith)
        (holds_rest {p = 0} front (1 ∷ (row_body r ++ rest)) (omega (arith, corrupt.behind)) whole))

    stops : (length c ≤ place) ⊎ ((get_or c place 0 ≡ 1) × NoRowBehind c place corrupt.rows) → ⊥
    stops (inl past) = absurd (omega (arith, past, row.within))
    stops (inr gate) = gate.1 r next in_version row

-- a file spells one list of rows
pub one_list : (c : List ℕ) (a b : List Row) → SpellsRows c a → SpellsRows c b → a ≡ b
one_list c a b first second =
    same_front c a b (spelled_rows c a first) (spelled_rows c b second)
    (spelled_ends c a first) (spelled_ends c b second)

-- and then it has no corrupt place
pub never_both : (c : List ℕ) (a : List Row) (p : ℕ) → SpellsRows c a → IsCorrupt c p → ⊥
never_both c a p first second = meets second.gate
  where
    at : length (journal_bytes a) ≡ p
    at =
        ap (λ (l : List Row). length (journal_bytes l))
        (same_front c a second.rows (spelled_rows c a first) (corrupt_rows c p second)
        (spelled_ends c a first) (corrupt_ends c p second))
        ∙ sym second.behind

    meets : (length c ≤ p) ⊎ ((get_or c p 0 ≡ 1) × NoRowBehind c p second.rows) → ⊥
    meets (inl past) = absurd (omega (arith, past, at, first.within))
    meets (inr gate) = first.closed (ap (λ (k : ℕ). get_or c k 0) at ∙ gate.0)

-- a closed gate is 0
pub shut_zero : (front c : List ℕ) → IsShut front c → get_or c (length front) 0 ≡ 0
shut_zero front c shut =
    let gate = holds_rest {p = 0} {q = length front} front (0 ∷ []) (omega arith) shut in
    ap (λ (k : ℕ). get_or c k 0) (omega arith) ∙ gate.each 0 (omega arith)

-- such a gate behind rows
pub spells_shut : (rows : List Row) (c : List ℕ)
    → IsJournal rows → StandsInEither rows None c
    → SpellsRows c rows
spells_shut rows c all (are, shut) =
    let front = journal_front (version_byte c) rows in
    record {
      journal = all;
      versions = are;
      front = holds_front front (0 ∷ []) shut;
      within = omega (arith, shut.within, length-append front (0 ∷ []));
      closed = λ is_open. absurd (omega (arith, shut_zero front c shut, is_open));
    }

-- a row and a closed gate, behind an open one
pub shut_behind : (v : ℕ) (rows : List Row) (r : Row) (c : List ℕ)
    → Holds c 0 (journal_front v rows ++ 1 ∷ (row_body r ++ 0 ∷ []))
    → IsShut (journal_front v (rows ++ r ∷ [])) c
shut_behind v rows r c holds =
    subst (λ (l : List ℕ). Holds c 0 l)
    (sym (ap (λ (l : List ℕ). l ++ 0 ∷ []) (front-push v rows r)
    ∙ append_assoc (journal_front v rows) (1 ∷ row_body r) (0 ∷ []))) holds

-- a gate that is open, and a row behind it
pub opens : (rows : List Row) (r : Row) (c : List ℕ)
    → StandsInEither rows (Some r) c
    → get_or c (length (journal_bytes rows)) 0 ≡ 1
    → StandsInEither (rows ++ r ∷ []) None c
opens rows r c (are, unsure) is_open =
    let at = length (journal_bytes rows) in
    let front = journal_front (version_byte c) rows in
    let gate : Holds c at (1 ∷ []) = record {
      within = omega (arith, unsure.behind.within);
      each = one;
    } in (
      are,
      shut_behind (version_byte c) rows r c
          (holds_both {p = 0} front (1 ∷ (row_body r ++ 0 ∷ [])) (omega arith) unsure.before
          (holds_both {q = at + 1} (1 ∷ []) (row_body r ++ 0 ∷ []) (omega arith) gate
          unsure.behind)),
    )
  where
    one : (i : ℕ) → i < 1 → get_or c (length (journal_bytes rows) + i) 0 ≡ get_or (1 ∷ []) i 0
    one zero lt = ap (λ (k : ℕ). get_or c k 0) (omega arith) ∙ is_open
    one (suc i) lt = absurd (omega arith)

pub spells_not_open : (rows : List Row) (r : Row) (c : List ℕ)
    → IsJournal rows → StandsInEither rows (Some r) c
    → get_or c (length (journal_bytes rows)) 0 ≢ 1 → SpellsRows c rows
spells_not_open rows r c all (are, unsure) shut = record {
  journal = all;
  versions = (are_front (version_byte c) rows r are).0;
  front = unsure.before;
  within = omega (arith, unsure.behind.within);
  closed = shut;
}

-- what stands behind the rows, and the byte at the gate
pub behind_rows : (v : ℕ) (rows : List Row) (bytes rest : List ℕ)
    → bytes ≡ journal_front v rows ++ rest
    → drop (length (journal_bytes rows)) bytes ≡ rest
behind_rows v rows bytes rest split =
    ap (λ (l : List ℕ). drop (length (journal_bytes rows)) l) split
    ∙ drop_at (journal_front v rows) rest (length (journal_bytes rows)) refl

pub gate_at : (v : ℕ) (rows : List Row) (bytes rest : List ℕ)
    → bytes ≡ journal_front v rows ++ rest
    → get_or bytes (length (journal_bytes rows)) 0 ≡ get_or rest 0 0
gate_at v rows bytes rest split =
    sym (first_behind bytes (length (journal_bytes rows)))
    ∙ ap (λ (l : List ℕ). get_or l 0 0) (behind_rows v rows bytes rest split)

-- the file begins with them
pub rows_split : (v : ℕ) (rows : List Row) (bytes rest : List ℕ)
    → IsJournal rows → AreInVersion v rows → bytes ≡ journal_front v rows ++ rest
    → HasRows bytes rows
rows_split v rows bytes rest journal are split =
    let holds = subst (λ (l : List ℕ). Holds bytes 0 l) split (holds_all bytes) in
    let same : version_byte bytes ≡ v = version_of v (rows_behind_open_gates rows ++ rest) bytes
    holds in
    record {
      journal = journal;
      versions = subst (λ (k : ℕ). AreInVersion k rows) (sym same) are;
      front =
          subst (λ (k : ℕ). Holds bytes 0 (journal_front k rows)) (sym same)
          (holds_front (journal_front v rows) rest holds);
    }

-- the rows end at a gate that isn't open
pub spells_split : (v : ℕ) (rows : List Row) (bytes rest : List ℕ)
    → IsJournal rows → AreInVersion v rows → bytes ≡ journal_front v rows ++ rest
    → 1 ≤ length rest → get_or rest 0 0 ≢ 1
    → SpellsRows bytes rows
spells_split v rows bytes rest journal are split some shut =
    let has = rows_split v rows bytes rest journal are split in
    record {
      journal = journal;
      versions = has.versions;
      front = has.front;
      within = omega (arith, some, ap length split, length-append (journal_front v rows) rest);
      closed = λ is_open. shut (sym (gate_at v rows bytes rest split) ∙ is_open);
    }

-- one row more
pub parse_step :
    (v : ℕ) (bytes rest after : List ℕ) (rows later : List Row) (r : Row) (place next : ℕ)
    → bytes ≡ journal_front v rows ++ rest → IsJournal rows → AreInVersion v rows
    → place ≡ length (journal_bytes rows) → get_or rest 0 0 ≡ 1
    → 1 ≤ length rest
    → BeginsWithRow v rows (drop 1 rest) r
    → later ≡ rows ++ r ∷ []
    → next ≡ place + (5 + length (payload_of r.command))
    → after ≡ drop (5 + length (payload_of r.command)) rest
    → (bytes ≡ journal_front v later ++ after) × IsJournal later × AreInVersion v later
    × (next ≡ length (journal_bytes later))
parse_step v bytes rest after rows later r place next split all are at_place is_open some
    found is_later is_next is_after =
    let past = drop (length (row_body r)) (drop 1 rest) in
    let whole : rest ≡ 1 ∷ (row_body r ++ past) =
    drop_more rest 0 0 (omega arith)
    ∙ ap (λ (k : ℕ). k ∷ drop 1 rest) is_open
    ∙ ap (λ (l : List ℕ). 1 ∷ l) found.bytes in
    let behind : past ≡ after =
    drop-drop (length (row_body r)) 1 rest
    ∙ ap (λ (k : ℕ). drop k rest) (omega (arith, length-body r))
    ∙ sym is_after in
    rw is_later (
      split
          ∙ ap (λ (l : List ℕ). journal_front v rows ++ l) whole
          ∙ sym (append_assoc (journal_front v rows) (1 ∷ row_body r) past)
          ∙ cc (front-push v rows r),
      journal_push rows r all found.next,
      are_push v rows r are found.in_version,
      omega (
        arith,
        is_next,
        at_place,
        length-body r,
        ap length (spelled-push rows r),
        length-append (journal_bytes rows) (1 ∷ row_body r),
      ),
    )
