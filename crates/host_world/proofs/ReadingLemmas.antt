-- Reading finds exactly the rows that bytes spell.
use Rattle.std.proofs.Common.{Bool, List, None, Some, [], ap, append_assoc, arith, drop, false}
use Rattle.std.proofs.Common.{get_or, length, length-append, refl, subst, suc, sym, take, true}
use Rattle.std.proofs.Common.{zero, ℕ, ◌*◌, ◌++◌, ◌+◌, ◌==◌, ◌∙◌, ◌∷◌, ◌≡◌, ◌≢◌, ◌≤◌}
use Rattle.std.proofs.lemmas.Bool.{and_from, and_parts, eq-eqb, eqb-true, le-leb, leb-true}
use Rattle.std.proofs.lemmas.Bool.{lt-ltb, ltb-true}
use Rattle.std.proofs.lemmas.Bool.Decides.{nat_tests}
use Rattle.std.proofs.lemmas.List.{append-nil, drop_at, get_or-drop, length-drop, take-append-drop}
use Rattle.std.proofs.lemmas.List.{take_at}
use Rattle.std.proofs.lemmas.Option.{none-some}
use Rattle.std.specs.Prelude.{if◌then◌else◌, nat_le, nat_lt, ◌&&◌, ◌||◌}
use Rattle.std.specs.Str.{all_scalars}
use Rattle.gate_journal.proofs.PayloadLemmas.{only_char, only_file, only_line, only_open, only_size}
use Rattle.gate_journal.proofs.RowLemmas.{body_parts, holds_split, length-body, parse_step}
use Rattle.gate_journal.proofs.RowLemmas.{spells_split}
use Rattle.gate_journal.specs.Command.{IsCommand}
use Rattle.gate_journal.specs.Log.{next_row}
use Rattle.gate_journal.specs.Parsing.{BeginsWithRow}
use Rattle.gate_journal.specs.Rows.{EachNext, IsJournal, IsNext, MayStand, SpellsRows, row_body}
use Rattle.gate_journal.specs.Rows.{commands_of, header_with, is_open, command_kind}
use Rattle.gate_journal.specs.Rows.{journal_front, version_byte, AreInVersion, IsInVersion}
use Rattle.gate_journal.specs.Rows.{may_follow, rows_behind_open_gates, payload_of, journal_bytes}
use Rattle.gate_journal.specs.declared.command.Command.{Command}
use Rattle.gate_journal.specs.declared.command.Command.TheVariants.{Char, Close, File, Line, Open}
use Rattle.gate_journal.specs.declared.command.Command.TheVariants.{Size}
use Rattle.gate_journal.specs.declared.row.Row.{Row}
use Rattle.line_words.specs.Field.{is_key}
use Rattle.story_text.specs.Keycode.{is_terminator}
use Rattle.line_words.specs.Keycode.{is_code}
use Rattle.story_text.specs.Text.{IsText, is_short}
use Rattle.host_world.specs.Reading.{begins_with, command_in, has_row, is_command, is_text}
use Rattle.host_world.specs.Reading.{is_in_version, may_stand, row_at, rows_from, rows_in}
use Rattle.host_world.proofs.Lists.{some_same}
use Rattle.std.proofs.lemmas.Slice.Eq.{bytes_eq-Decides}

-- a command is read from its payload
command_is : (c : Command) → IsCommand c → command_in (command_kind c) (payload_of c) ≡ c
command_is (Open key story digest seed cols rows budget) ranges =
    sym (only_open (payload_of (Open key story digest seed cols rows budget))
    (Open key story digest seed cols rows budget)
    (record { ranges = ranges; number = refl; bytes = refl })).1
command_is (Line win term text) ranges =
    sym (only_line (payload_of (Line win term text)) (Line win term text)
    (record { ranges = ranges; number = refl; bytes = refl })).1
command_is (Char win code) ranges =
    sym (only_char (payload_of (Char win code)) (Char win code)
    (record { ranges = ranges; number = refl; bytes = refl })).1
command_is (File name) ranges =
    sym (only_file (payload_of (File name)) (File name)
    (record { ranges = ranges; number = refl; bytes = refl }))
command_is Close ranges = refl
command_is (Size cols rows) ranges =
    sym (only_size (payload_of (Size cols rows)) (Size cols rows)
    (record { ranges = ranges; number = refl; bytes = refl })).1

-- the tests of a command's fields say what they are to say
text_told : (t : List ℕ) → is_text t ≡ true → IsText t
text_told t is = let both =
    and_parts (all_scalars t) (is_short t) is in record { scalars = both.0; short = both.1 }

text_test : (t : List ℕ) → IsText t → is_text t ≡ true
text_test t is = and_from (all_scalars t) (is_short t) is.scalars is.short

pub command_told : (c : Command) → is_command c ≡ true → IsCommand c
command_told (Open key story digest seed cols rows budget) is =
    let i = and_parts _ (nat_le budget 1000000000000) is in
    let h = and_parts _ (nat_le 1 budget) i.0 in
    let g = and_parts _ (nat_le rows 255) h.0 in
    let f = and_parts _ (nat_le 1 rows) g.0 in
    let e = and_parts _ (nat_le cols 255) f.0 in
    let d = and_parts _ (nat_le 1 cols) e.0 in
    let c = and_parts _ (nat_le seed 18446744073709551615) d.0 in
    let b = and_parts _ (length digest == 32) c.0 in
    let a = and_parts (is_key key) (nat_le story 65535) b.0 in (
      a.0,
      leb-true story 65535 a.1,
      thirty_two b.1,
      leb-true seed 18446744073709551615 c.1,
      leb-true 1 cols d.1,
      leb-true cols 255 e.1,
      leb-true 1 rows f.1,
      leb-true rows 255 g.1,
      (leb-true 1 budget h.1, leb-true budget 1000000000000 i.1),
    )
  where
    thirty_two : (length digest == 32) ≡ true → length digest ≡ 32
    thirty_two same = grind (arith, nat_tests)
command_told (Line win term text) is =
    let b = and_parts (nat_le win 4294967295 && (term == 0 || is_terminator term))
    (is_text text) is in
    let a = and_parts (nat_le win 4294967295) (term == 0 || is_terminator term) b.0 in
    (leb-true win 4294967295 a.0, a.1, text_told text b.1)
command_told (Char win code) is =
    let a = and_parts (nat_le win 4294967295) (is_code code) is in
    (leb-true win 4294967295 a.0, a.1)
command_told (File name) is = text_told name is
command_told Close is = tt
command_told (Size cols rows) is =
    let c = and_parts (nat_le 1 cols && nat_le cols 255 && nat_le 1 rows) (nat_le rows 255) is in
    let b = and_parts (nat_le 1 cols && nat_le cols 255) (nat_le 1 rows) c.0 in
    let a = and_parts (nat_le 1 cols) (nat_le cols 255) b.0 in
    (leb-true 1 cols a.0, leb-true cols 255 a.1, leb-true 1 rows b.1, leb-true rows 255 c.1)

pub command_test : (c : Command) → IsCommand c → is_command c ≡ true
command_test (Open key story digest seed cols rows budget) is =
    let a = and_from (is_key key) (nat_le story 65535) is.0 (le-leb story 65535 is.1) in
    let b = and_from _ (length digest == 32) a (thirty_two is.2) in
    let c = and_from _ (nat_le seed 18446744073709551615) b (le-leb seed 18446744073709551615 is.3)
    in
    let d = and_from _ (nat_le 1 cols) c (le-leb 1 cols is.4) in
    let e = and_from _ (nat_le cols 255) d (le-leb cols 255 is.5) in
    let f = and_from _ (nat_le 1 rows) e (le-leb 1 rows is.6) in
    let g = and_from _ (nat_le rows 255) f (le-leb rows 255 is.7) in
    let h = and_from _ (nat_le 1 budget) g (le-leb 1 budget is.8.0) in
    and_from _ (nat_le budget 1000000000000) h (le-leb budget 1000000000000 is.8.1)
  where
    thirty_two : length digest ≡ 32 → (length digest == 32) ≡ true
    thirty_two same = grind (arith, nat_tests)
command_test (Line win term text) is =
    and_from (nat_le win 4294967295 && (term == 0 || is_terminator term)) (is_text text)
    (and_from (nat_le win 4294967295) (term == 0 || is_terminator term)
    (le-leb win 4294967295 is.0) is.1) (text_test text is.2)
command_test (Char win code) is =
    and_from (nat_le win 4294967295) (is_code code) (le-leb win 4294967295 is.0) is.1
command_test (File name) is = text_test name is
command_test Close is = refl
command_test (Size cols rows) is =
    and_from (nat_le 1 cols && nat_le cols 255 && nat_le 1 rows) (nat_le rows 255)
    (and_from (nat_le 1 cols && nat_le cols 255) (nat_le 1 rows)
    (and_from (nat_le 1 cols) (nat_le cols 255) (le-leb 1 cols is.0) (le-leb cols 255 is.1))
    (le-leb 1 rows is.2)) (le-leb rows 255 is.3)

-- and so does that of a version
version_told : (v : ℕ) (c : Command) → is_in_version v c ≡ true → IsInVersion v c
version_told v (Size cols rows) is = eqb-true v 1 is
version_told v c is = tt

version_test : (v : ℕ) (c : Command) → IsInVersion v c → is_in_version v c ≡ true
version_test v (Size cols rows) is = eq-eqb v 1 is
version_test v c is = refl

stand_test : (rows : List Row) (s : ℕ) (c : Command) → MayStand rows s c → may_stand rows s c ≡ true
stand_test rows s c is =
    and_from (nat_lt s 64 && is_command c && may_follow (commands_of rows s) c)
    (nat_lt (length (commands_of rows s)) 8192)
    (and_from (nat_lt s 64 && is_command c) (may_follow (commands_of rows s) c)
    (and_from (nat_lt s 64) (is_command c) (lt-ltb s 64 is.below)
    (command_test c is.ranges)) is.follows)
    (lt-ltb (length (commands_of rows s)) 8192 is.fewer)

stand_told : (rows : List Row) (s : ℕ) (c : Command) → may_stand rows s c ≡ true → MayStand rows s c
stand_told rows s c is =
    let d = and_parts (nat_lt s 64 && is_command c && may_follow (commands_of rows s) c)
    (nat_lt (length (commands_of rows s)) 8192) is in
    let b = and_parts (nat_lt s 64 && is_command c) (may_follow (commands_of rows s) c) d.0 in
    let a = and_parts (nat_lt s 64) (is_command c) b.0 in
    record {
      below = ltb-true s 64 a.0;
      ranges = command_told c a.1;
      follows = b.1;
      fewer = ltb-true (length (commands_of rows s)) 8192 d.1;
    }

-- the row that stands behind a gate is found
pub row_is : (rows : List Row) (r : Row) (rest past : List ℕ)
    → IsNext rows r → past ≡ row_body r ++ rest
    → row_at rows past ≡ r
row_is rows r rest past next is =
    let parts = body_parts r rest past next.stands.ranges is in
    ap (λ (n : ℕ). next_row rows n (command_in (get_or past 1 0)
    (take (256 * get_or past 2 0 + get_or past 3 0) (drop 4 past))))
    (ap (λ (l : List ℕ). get_or l 0 0) is)
    ∙ ap (λ (k : ℕ). next_row rows r.session
    (command_in k (take (256 * get_or past 2 0 + get_or past 3 0) (drop 4 past)))) parts.0
    ∙ ap (λ (l : List ℕ). next_row rows r.session (command_in (command_kind r.command) l)) parts.2
    ∙ ap (λ (c : Command). next_row rows r.session c) (command_is r.command next.stands.ranges)
    ∙ ap (λ (k : ℕ). record {
      place = k;
      session = r.session;
      by = r.session + 1;
      command =
          r.command;
    }) (sym next.place)
    ∙ ap (λ (k : ℕ). record { place = r.place; session = r.session; by = k; command = r.command })
    (sym next.by)

pub front_test : (front rest past : List ℕ) → past ≡ front ++ rest → begins_with past front ≡ true
front_test front rest past is =
    (bytes_eq-Decides (take (length front) past) front).1
    (ap (λ (l : List ℕ). take (length front) l) is ∙ take_at front rest (length front) refl)

pub front_told : (front past : List ℕ) → begins_with past front ≡ true
    → past ≡ front ++ drop (length front) past
front_told front past is =
    sym (take-append-drop (length front) past)
    ∙ ap (λ (l : List ℕ). l ++ drop (length front) past)
    ((bytes_eq-Decides (take (length front) past) front).0 is)

-- a row that stands behind a gate passes the test
pub has_found : (v : ℕ) (rows : List Row) (r : Row) (rest past : List ℕ)
    → IsNext rows r → IsInVersion v r.command → past ≡ row_body r ++ rest
    → has_row v rows past r ≡ true
has_found v rows r rest past next in_version is =
    and_from (is_in_version v r.command && may_stand rows r.session r.command)
    (begins_with past (row_body r))
    (and_from (is_in_version v r.command) (may_stand rows r.session r.command)
    (version_test v r.command in_version) (stand_test rows r.session r.command next.stands))
    (front_test (row_body r) rest past is)

-- and one that passes it stands there
pub has_told : (v : ℕ) (rows : List Row) (past : List ℕ) (r : Row) → r ≡ row_at rows past
    → has_row v rows past r ≡ true → BeginsWithRow v rows past r
has_told v rows past r is test =
    let both =
    and_parts (is_in_version v r.command && may_stand rows r.session r.command)
    (begins_with past (row_body r)) test in
    let fits = and_parts (is_in_version v r.command) (may_stand rows r.session r.command) both.0 in
    record {
      next = record {
        place = ap (λ (q : Row). q.place) is;
        by = ap (λ (q : Row). q.by) is ∙ sym (ap (λ (q : Row). q.session + 1) is);
        stands = stand_told rows r.session r.command fits.1;
      };
      in_version = version_told v r.command fits.0;
      bytes = front_told (row_body r) past both.1;
    }

-- what an opened row leaves to be read
pub rows_on : (v n : ℕ) (rows : List Row) (r : Row) (rest : List ℕ)
    → IsNext rows r → IsInVersion v r.command
    → rows_from v (suc n) rows (1 ∷ (row_body r ++ rest)) ≡ rows_from v n (rows ++ r ∷ []) rest
rows_on v n rows r rest next in_version =
    ap (λ (q : Row). if has_row v rows (row_body r ++ rest) q then rows_from v n (rows ++ q ∷ [])
    (drop (length (row_body q)) (row_body r ++ rest)) else None)
    (row_is rows r rest (row_body r ++ rest) next refl)
    ∙ ap (λ (b : Bool). if b then rows_from v n (rows ++ r ∷ [])
    (drop (length (row_body r)) (row_body r ++ rest)) else None)
    (has_found v rows r rest (row_body r ++ rest) next in_version refl)
    ∙ ap (λ (l : List ℕ). rows_from v n (rows ++ r ∷ []) l)
    (drop_at (row_body r) rest (length (row_body r)) refl)

ends_here : (v n : ℕ) (rows : List Row) (gate : ℕ) (past : List ℕ) → gate ≢ 1
    → rows_from v n rows (gate ∷ past) ≡ Some rows
ends_here v n rows gate past shut = of n
  where
    test : (gate == 1) ≡ false
    test = grind (arith, nat_tests)

    of : (k : ℕ) → rows_from v k rows (gate ∷ past) ≡ Some rows
    of zero = rw test refl
    of (suc k) = rw test refl

end_found : (v n : ℕ) (rows : List Row) (x : List ℕ) → 1 ≤ length x → get_or x 0 0 ≢ 1
    → rows_from v n rows x ≡ Some rows
end_found v n rows [] some shut = absurd (omega (arith, some))
end_found v n rows (gate ∷ past) some shut = ends_here v n rows gate past shut

rows_found : (more : List Row) (v n : ℕ) (rows : List Row) (x : List ℕ) → length more ≤ n
    → EachNext rows more → AreInVersion v more → 1 ≤ length x → get_or x 0 0 ≢ 1
    → rows_from v n rows (rows_behind_open_gates more ++ x) ≡ Some (rows ++ more)
rows_found [] v n rows x le each are some shut = end_found v n rows x some shut
    ∙ ap (λ (l : List Row). Some l) (sym (append-nil rows))
rows_found (r ∷ more) v zero rows x le each are some shut = absurd (omega (arith, le))
rows_found (r ∷ more) v (suc n) rows x le each are some shut =
    ap (λ (l : List ℕ). rows_from v (suc n) rows (1 ∷ l))
    (append_assoc (row_body r) (rows_behind_open_gates more) x)
    ∙ rows_on v n rows r (rows_behind_open_gates more ++ x) each.0 are.0
    ∙ rows_found more v n (rows ++ r ∷ []) x (omega (arith, le)) each.1 are.1 some shut
    ∙ ap (λ (l : List Row). Some l) (append_assoc rows (r ∷ []) more)

opened_size : (rows : List Row) → length rows ≤ length (rows_behind_open_gates rows)
opened_size [] = omega arith
opened_size (r ∷ rows) =
    omega (arith, opened_size rows, length-append (row_body r) (rows_behind_open_gates rows))

first_behind : (c : List ℕ) (n : ℕ) → get_or (drop n c) 0 0 ≡ get_or c n 0
first_behind c n = get_or-drop n c 0 0 ∙ ap (λ (k : ℕ). get_or c k 0) (omega arith)

-- what bytes spell, reading finds
pub reads_rows : (c : List ℕ) (rows : List Row) → SpellsRows c rows → rows_in c ≡ Some rows
unfolding rows_in
reads_rows c rows spells =
    let v = version_byte c in
    let n = length (journal_bytes rows) in
    let x = drop (length (journal_bytes rows)) c in
    let whole : c ≡ journal_front v rows ++ drop (length (journal_bytes rows)) c =
    holds_split c (journal_front v rows) spells.front in
    let split : c ≡ header_with v
    ++ (rows_behind_open_gates rows ++ drop (length (journal_bytes rows)) c) = whole
    ∙ append_assoc (header_with v) (rows_behind_open_gates rows)
    (drop (length (journal_bytes rows)) c) in
    let size : length rows ≤ length c =
    omega (
      arith,
      opened_size rows,
      spells.within,
      length-append (header_with v) (rows_behind_open_gates rows),
    ) in
    ap (λ (b : Bool). if b then rows_from v (length c) [] (drop 16 c) else None)
    (front_test (header_with v)
    (rows_behind_open_gates rows ++ drop (length (journal_bytes rows)) c) c split)
    ∙ ap (λ (l : List ℕ). rows_from v (length c) [] (drop 16 l)) split
    ∙ rows_found rows v (length c) [] x size spells.journal spells.versions
    (omega (arith, length-drop n c, spells.within))
    (λ is. spells.closed (sym (first_behind c n) ∙ is))

-- and nothing else
not_open : (v : ℕ) (c : List ℕ) (rows those : List Row) (gate : ℕ) (past : List ℕ)
    → IsJournal rows → AreInVersion v rows
    → c ≡ journal_front v rows ++ gate ∷ past → (gate == 1) ≡ false → Some rows ≡ Some those
    → SpellsRows c those
not_open v c rows those gate past journal are split shut said =
    subst (λ (l : List Row). SpellsRows c l) (some_same rows those said)
    (spells_split v rows c (gate ∷ past) journal are split (omega arith)
    (λ is. grind (arith, nat_tests)))

-- what reading finds behind these rows, they spell
abbrev Spelt : ℕ → List ℕ → List Row → ℕ → Type 0
Spelt v c those n =
    (rows : List Row) (rest : List ℕ) → rows_from v n rows rest ≡ Some those → IsJournal rows
    → AreInVersion v rows → c ≡ journal_front v rows ++ rest → SpellsRows c those

one_more :
    (v : ℕ) (c : List ℕ) (those : List Row) (n : ℕ) (rows : List Row) (gate : ℕ) (past : List ℕ)
    (r : Row)
    → r ≡ row_at rows past → Spelt v c those n → IsJournal rows → AreInVersion v rows
    → c ≡ journal_front v rows ++ gate ∷ past
    → (gate == 1) ≡ true
    → (b : Bool) → has_row v rows past r ≡ b
    → (if b then rows_from v n (rows ++ r ∷ []) (drop (length (row_body r)) past) else None)
    ≡ Some those → SpellsRows c those
one_more v c those n rows gate past r is later journal are split is_open false test said =
    absurd (none-some those said)
one_more v c those n rows gate past r is later journal are split is_open true test said =
    let size : suc (length (row_body r)) ≡ 5 + length (payload_of r.command) =
    omega (arith, length-body r) in
    let step =
    parse_step v c (gate ∷ past) (drop (length (row_body r)) past) rows (rows ++ r ∷ []) r
    (length (journal_bytes rows)) (length (journal_bytes rows) +
    (5 + length (payload_of r.command))) split journal are refl (grind (arith, nat_tests))
    (omega arith) (has_told v rows past r is test) refl refl
    (ap (λ (k : ℕ). drop k (gate ∷ past)) size) in
    later (rows ++ r ∷ []) (drop (length (row_body r)) past) said step.1 step.2 step.0

at_gate :
    (v : ℕ) (c : List ℕ) (those : List Row) (n : ℕ) (rows : List Row) (gate : ℕ) (past : List ℕ)
    → Spelt v c those n → IsJournal rows → AreInVersion v rows
    → c ≡ journal_front v rows ++ gate ∷ past → (b : Bool) → (gate == 1) ≡ b
    → (if b then (if has_row v rows past (row_at rows past) then rows_from v n
    (rows ++ row_at rows past ∷ []) (drop
    (length (row_body (row_at rows past))) past) else None) else Some rows) ≡ Some those
    → SpellsRows c those
at_gate v c those n rows gate past later journal are split true test said =
    one_more v c those n rows gate past (row_at rows past) refl later journal are split test
    (has_row v rows past (row_at rows past)) refl said
at_gate v c those n rows gate past later journal are split false test said =
    not_open v c rows those gate past journal are split test said

at_last : (v : ℕ) (c : List ℕ) (those rows : List Row) (gate : ℕ) (past : List ℕ)
    → IsJournal rows → AreInVersion v rows
    → c ≡ journal_front v rows ++ gate ∷ past → (b : Bool) → (gate == 1) ≡ b
    → (if b then None else Some rows) ≡ Some those → SpellsRows c those
at_last v c those rows gate past journal are split true test said = absurd (none-some those said)
at_last v c those rows gate past journal are split false test said =
    not_open v c rows those gate past journal are split test said

found_spell : (v : ℕ) (c : List ℕ) (those : List Row) (n : ℕ) → Spelt v c those n
found_spell v c those n rows [] is journal are split = absurd (none-some those is)
found_spell v c those zero rows (gate ∷ past) is journal are split =
    at_last v c those rows gate past journal are split (gate == 1) refl is
found_spell v c those (suc n) rows (gate ∷ past) is journal are split =
    at_gate v c those n rows gate past (found_spell v c those n) journal are split (gate == 1) refl
    is

with_header : (v : ℕ) (c : List ℕ) (rows : List Row) (b : Bool) → begins_with c (header_with v) ≡ b
    → (if b then rows_from v (length c) [] (drop 16 c) else None) ≡ Some rows → SpellsRows c rows
with_header v c rows true test said =
    found_spell v c rows (length c) [] (drop 16 c) said tt tt (front_told (header_with v) c test)
with_header v c rows false test said = absurd (none-some rows said)

pub found_rows : (c : List ℕ) (rows : List Row) → rows_in c ≡ Some rows → SpellsRows c rows
unfolding rows_in
found_rows c rows is =
    with_header (version_byte c) c rows (begins_with c (header_with (version_byte c))) refl is
