-- Any bytes have one reading: rows, a corrupt place, or no header.
use Rattle.std.proofs.Common.{◌≡◌, ◌⊎◌, inl, inr, ⊎_elim, ℕ, zero, suc, ◌+◌, ◌*◌, ◌/◌, ◌%◌}
use Rattle.std.proofs.Common.{◌<◌, ◌≤◌, Bool, true, false, List, [], ◌∷◌, ◌++◌, length, get_or}
use Rattle.std.proofs.Common.{take, drop, refl, sym, ◌∙◌, ap, subst, arith, length-append}
use Rattle.std.specs.Prelude.{Option, Some, None, nat_eq}
use Rattle.std.specs.List.{starts_with}
use Rattle.std.specs.Int.{w16, to_be_bytes}
use Rattle.std.proofs.lemmas.Bool.{cases_lt, cases_eq, cases_Bool}
use Rattle.std.proofs.lemmas.Bool.Decides.{Decides-eqb}
use Rattle.std.proofs.lemmas.Slice.Eq.{starts_is}
use Rattle.std.proofs.lemmas.List.{length-take, length-drop, drop_more}
use Rattle.byteorder.specs.Endian.{big_number}
use Rattle.line_words.specs.Field.{is_key}
use Rattle.line_words.specs.Keycode.{is_code}
use Rattle.story_text.specs.Text.{IsText}
use Rattle.story_text.specs.Reading.{text_of_bytes}
use Rattle.disk_model.proofs.Torn.{holds_front}
use Rattle.gate_journal.specs.declared.command.Command.{Command}
use Rattle.gate_journal.specs.declared.command.Command.TheVariants.{Close}
use Rattle.gate_journal.specs.declared.row.Row.{Row}
use Rattle.gate_journal.specs.Command.{IsCommand}
use Rattle.gate_journal.specs.Rows.{header_with, command_kind, payload_of}
use Rattle.gate_journal.specs.Rows.{journal_front, version_byte, AreInVersion, IsInVersion}
use Rattle.gate_journal.specs.Rows.{row_body, rows_behind_open_gates, journal_bytes}
use Rattle.gate_journal.specs.Rows.{may_follow, commands_of, MayStand, IsJournal}
use Rattle.gate_journal.specs.Payload.{IsPayload, IsNoPayload, open_in, line_in, char_in, file_in}
use Rattle.gate_journal.specs.Payload.{screen_in}
use Rattle.gate_journal.specs.Parsing.{BeginsWithRow, IsNoNext}
use Rattle.gate_journal.specs.Laws.{Reading, Rows, CorruptAt, NoHeader, IsReading, HasOneReading}
use Rattle.gate_journal.proofs.PayloadLemmas.{AreBytes, key_in, after_in, only_open, only_line}
use Rattle.gate_journal.proofs.PayloadLemmas.{only_char, only_file, only_close, only_size}
use Rattle.gate_journal.proofs.PayloadLemmas.{spells_size, spells_whole, spells_line, spells_char}
use Rattle.gate_journal.proofs.PayloadLemmas.{spells_file, text_found, text_missing, line_text}
use Rattle.gate_journal.proofs.PayloadLemmas.{file_text, same_command, bytes_drop, bytes_take, seam}
use Rattle.gate_journal.proofs.RowLemmas.{length-body, body_parts, behind_rows, spells_split}
use Rattle.gate_journal.proofs.RowLemmas.{parse_step, one_list, never_both}
use Rattle.gate_journal.proofs.VersionLemmas.{has_it}
use Rattle.gate_journal.proofs.CorruptLemmas.{corrupt_end, corrupt_row, no_header, one_place}

-- it holds, or it doesn't
abbrev Decided : Type 0 → Type 0
Decided P = P ⊎ (P → ⊥)

both : {P Q : Type 0} → Decided P → Decided Q → Decided (P × Q)
both (inl p) (inl q) = inl (p, q)
both (inl p) (inr q) = inr (λ two. q two.1)
both (inr p) q = inr (λ two. p two.0)

-- said in other words
again : {P Q : Type 0} → (P → Q) → (Q → P) → Decided P → Decided Q
again to from (inl p) = inl (to p)
again to from (inr out) = inr (λ q. out (from q))

at_most : (a b : ℕ) → Decided (a ≤ b)
at_most a b =
    ⊎_elim (λ past. inr (λ le. absurd (omega (arith, past, le)))) (λ le. inl le) (cases_lt b a)

below : (a b : ℕ) → Decided (a < b)
below a b =
    ⊎_elim (λ lt. inl lt) (λ past. inr (λ lt. absurd (omega (arith, past, lt)))) (cases_lt a b)

same : (a b : ℕ) → Decided (a ≡ b)
same a b = ⊎_elim (λ is. inl is) (λ other. inr other) (cases_eq a b)

said : (b : Bool) → Decided (b ≡ true)
said true = inl refl
said false = inr (λ is. cc)

-- a payload has a command of its kind, or none
abbrev HasCommand : ℕ → List ℕ → Type 0
HasCommand kind p = ((c : Command) × IsPayload kind p c) ⊎ IsNoPayload kind p

-- where it has one candidate
checked :
    (kind : ℕ) (p : List ℕ) (x : Command) → command_kind x ≡ kind → payload_of x ≡ p
    → ((c : Command) → IsPayload kind p c → c ≡ x) → Decided (IsCommand x) → HasCommand kind p
checked kind p x number bytes only (inl is) =
    inl (x, record { ranges = is; number = number; bytes = bytes })
checked kind p x number bytes only (inr out) =
    inr (λ c is. out (subst (λ (k : Command). IsCommand k) (only c is) is.ranges))

an_open : (p : List ℕ) → AreBytes p → HasCommand 1 p
an_open p are = elim (cases_eq (length p) (get_or p 0 0 + 53)) [
  | inr other ↦ inr (λ c is. other (only_open p c is).0)
  | inl size ↦
      let key = key_in p in
      let after = after_in p in
      checked 1 p (open_in key after) refl (spells_whole p are size) (λ c is. (only_open p c is).1)
      (again (λ n. assumption) (λ r. assumption)
      (both (said (is_key key))
      (both (at_most (big_number 2 after) 65535) (both (same (length (take 32 (drop 2 after))) 32)
      (both (at_most (big_number 8 (drop 34 after)) 18446744073709551615)
      (both (at_most 1 (get_or after 42 0)) (both (at_most (get_or after 42 0) 255)
      (both (at_most 1 (get_or after 43 0)) (both (at_most (get_or after 43 0) 255)
      (both (at_most 1 (big_number 8 (drop 44 after)))
      (at_most (big_number 8 (drop 44 after)) 1000000000000)))))))))))
]

a_line : (p : List ℕ) → AreBytes p → HasCommand 2 p
a_line p are = elim (cases_lt (length p) 8) [
  | inl short ↦ inr (λ c is. absurd (omega (arith, short, (only_line p c is).0)))
  | inr long ↦ with_text (text_of_bytes (drop 8 p)) refl long
]
  where
    with_text : (o : Option (List ℕ)) → text_of_bytes (drop 8 p) ≡ o → 8 ≤ length p → HasCommand 2 p
    with_text None none long =
        inr
        (λ c is. let text = line_text p c is in text_missing (drop 8 p) text.0 none text.1 text.2)
    with_text (Some text) some long =
        let found = text_found (drop 8 p) text some in
        checked 2 p (line_in p) refl (spells_line p are long found.0) (λ c is. (only_line p c is).1)
        (again (λ n. (n.0, n.1.0, n.1.1)) (λ r. (r.0, (r.1, r.2)))
        (both (at_most (big_number 4 p) 4294967295)
        (both (said _) (inl (subst (λ (l : List ℕ). IsText l) found.2 found.1)))))

a_char : (p : List ℕ) → AreBytes p → HasCommand 3 p
a_char p are = elim (cases_eq (length p) 8) [
  | inr other ↦ inr (λ c is. other (only_char p c is).0)
  | inl size ↦
      checked 3 p (char_in p) refl (spells_char p are size) (λ c is. (only_char p c is).1)
      (both (at_most (big_number 4 p) 4294967295) (said (is_code (big_number 4 (drop 4 p)))))
]

a_file : (p : List ℕ) → HasCommand 4 p
a_file p = with_text (text_of_bytes p) refl
  where
    with_text : (o : Option (List ℕ)) → text_of_bytes p ≡ o → HasCommand 4 p
    with_text None none =
        inr (λ c is. let text = file_text p c is in text_missing p text.0 none text.1 text.2)
    with_text (Some text) some =
        let found = text_found p text some in
        checked 4 p (file_in p) refl (spells_file p found.0) (only_file p)
        (inl (subst (λ (l : List ℕ). IsText l) found.2 found.1))

a_close : (p : List ℕ) → HasCommand 5 p
a_close [] = inl (Close, record { ranges = tt; number = refl; bytes = refl })
a_close (x ∷ p) = inr (λ c is. not_empty (only_close (x ∷ p) c is).0)
  where
    not_empty : x ∷ p ≡ [] → ⊥
    not_empty is = cc

a_size : (p : List ℕ) → HasCommand 6 p
a_size p = elim (cases_eq (length p) 2) [
  | inr other ↦ inr (λ c is. other (only_size p c is).0)
  | inl size ↦
      checked 6 p (screen_in p) refl (spells_size p size) (λ c is. (only_size p c is).1)
      (again (λ n. assumption) (λ r. assumption)
      (both (at_most 1 (get_or p 0 0)) (both (at_most (get_or p 0 0) 255)
      (both (at_most 1 (get_or p 1 0)) (at_most (get_or p 1 0) 255)))))
]

-- the numbers of kinds
kinds : (c : Command) → (1 ≤ command_kind c) × (command_kind c ≤ 6)
kinds Close = omega arith
kinds c = omega arith

has_command : (kind : ℕ) (p : List ℕ) → AreBytes p → HasCommand kind p
has_command zero p are = inr (λ c is. absurd (omega (arith, is.number, kinds c)))
has_command (suc zero) p are = an_open p are
has_command (suc (suc zero)) p are = a_line p are
has_command (suc (suc (suc zero))) p are = a_char p are
has_command (suc (suc (suc (suc zero)))) p are = a_file p
has_command (suc (suc (suc (suc (suc zero))))) p are = a_close p
has_command (suc (suc (suc (suc (suc (suc zero)))))) p are = a_size p
has_command (suc (suc (suc (suc (suc (suc (suc n))))))) p are =
    inr (λ c is. absurd (omega (arith, is.number, kinds c)))

-- what stands past an open gate: its payload's length, and its payload
abbrev size_in : List ℕ → ℕ
size_in past = 256 * get_or past 2 0 + get_or past 3 0

abbrev payload_in : List ℕ → List ℕ
payload_in past = take (size_in past) (drop 4 past)

-- the four bytes before a payload, and it
whole_row :
    (past : List ℕ) (c : Command) → AreBytes past → 4 + size_in past ≤ length past
    → command_kind c ≡ get_or past 1 0 → payload_of c ≡ payload_in past
    → past ≡ (get_or past 0 0 ∷ command_kind c ∷ to_be_bytes w16 (length (payload_of c))
    ++ payload_of c)
    ++ drop (4 + size_in past) past
whole_row past c are long kind payload =
    cc (
      drop_more past 0 0 (omega arith),
      drop_more past 1 0 (omega arith),
      drop_more past 2 0 (omega arith),
      drop_more past 3 0 (omega arith),
      high,
      low,
      seam (size_in past) 4 past payload refl,
    )
  where
    size : length (payload_of c) ≡ size_in past
    size =
        ap length payload
        ∙ (omega (arith, long, length-take (size_in past) (drop 4 past), length-drop 4 past))

    high : length (payload_of c) / 256 % 256 ≡ get_or past 2 0
    high = omega (arith, size, are 2, are 3)

    low : length (payload_of c) % 256 ≡ get_or past 3 0
    low = omega (arith, size, are 2, are 3)

-- the row past an open gate
abbrev HasRow : ℕ → List Row → List ℕ → Type 0
HasRow v rows past = ((r : Row) × BeginsWithRow v rows past r) ⊎ IsNoNext v rows past

stands : (rows : List Row) (session : ℕ) (c : Command)
    → IsCommand c → Decided (MayStand rows session c)
stands rows session c ranges =
    ⊎_elim
    (λ all. inl (record { below = all.0; ranges = ranges; follows = all.1.0; fewer = all.1.1 }))
    (λ out. inr (λ is. out (is.below, (is.follows, is.fewer))))
    (both (below session 64) (both (said (may_follow (commands_of rows session) c))
    (below (length (commands_of rows session)) 8192)))

stands_in : (v : ℕ) (rows : List Row) (session : ℕ) (c : Command)
    → IsCommand c → Decided (MayStand rows session c × IsInVersion v c)
stands_in v rows session c ranges = both (stands rows session c ranges) (has_it v c)

has_row : (v : ℕ) (rows : List Row) (past : List ℕ) → AreBytes past → HasRow v rows past
has_row v rows past are = elim (cases_lt (length past) (4 + size_in past)) [
  | inl short ↦ inr (λ r rest next in_version is.
      let parts = body_parts r rest past next.stands.ranges is in
      absurd
      (omega (arith, short, parts.1, ap length is, length-append (row_body r) rest, length-body r)))
  | inr long ↦
      with_command long (has_command (get_or past 1 0) (payload_in past)
      (bytes_take (size_in past) (drop 4 past) (bytes_drop 4 past are)))
]
  where
    with_command : 4 + size_in past ≤ length past
        → HasCommand (get_or past 1 0) (payload_in past)
        → HasRow v rows past
    with_command long (inr none) = inr (λ r rest next in_version is.
        let parts = body_parts r rest past next.stands.ranges is in
        none r.command
        (record { ranges = next.stands.ranges; number = sym parts.0; bytes = sym parts.2 }))
    with_command long (inl (c, is)) = elim (stands_in v rows (get_or past 0 0) c is.ranges) [
      | inl may ↦
          let r : Row = record {
            place = length (journal_bytes rows);
            session = get_or past 0 0;
            by = get_or past 0 0 + 1;
            command = c;
          } in
          let whole = whole_row past c are long is.number is.bytes in
          let size : 4 + size_in past ≡ length (row_body r) =
          omega (
            arith,
            long,
            length-body r,
            ap length is.bytes,
            length-take (size_in past) (drop 4 past),
            length-drop 4 past,
          ) in
          inl (
            r,
            record {
              next = record { place = refl; by = refl; stands = may.0 };
              in_version = may.1;
              bytes = whole ∙ ap (λ (k : ℕ). row_body r ++ drop k past) size;
            },
          )
      | inr out ↦ inr (λ r rest next in_version bytes.
          let parts = body_parts r rest past next.stands.ranges bytes in
          let same_one : r.command ≡ c =
          same_command r.command c next.stands.ranges is.ranges (sym parts.0 ∙ sym is.number)
          (sym parts.2 ∙ sym is.bytes) in
          let session : r.session ≡ get_or past 0 0 =
          sym (ap (λ (l : List ℕ). get_or l 0 0) bytes) in
          out (rw (← session, ← same_one) (next.stands, in_version)))
    ]

-- of bytes that begin with these rows
read_from :
    (fuel v : ℕ) (rows : List Row) (bytes rest : List ℕ)
    → AreBytes bytes → bytes ≡ journal_front v rows ++ rest
    → IsJournal rows → AreInVersion v rows
    → length rest ≤ fuel → (reading : Reading) × IsReading bytes reading
read_from fuel v rows bytes [] are split all of_it le = (
  CorruptAt (length (journal_bytes rows)),
  corrupt_end v rows bytes (length (journal_bytes rows)) all of_it split refl,
)
read_from zero v rows bytes (gate ∷ past) are split all of_it le = absurd (omega (arith, le))
read_from (suc fuel) v rows bytes (gate ∷ past) are split all of_it le = elim (cases_eq gate 1) [
  | inr shut ↦
      (Rows rows, spells_split v rows bytes (gate ∷ past) all of_it split (omega arith) shut)
  | inl is_open ↦
      after_gate (λ later after. read_from fuel v later bytes after are) is_open
      (has_row v rows past past_are)
]
  where
    past_are : AreBytes past
    past_are =
        subst (λ (l : List ℕ). AreBytes (drop 1 l)) (behind_rows v rows bytes (gate ∷ past) split)
        (bytes_drop 1 _ (bytes_drop (length (journal_bytes rows)) bytes are))

    after_gate :
        ((later : List Row) (after : List ℕ)
        → bytes ≡ journal_front v later ++ after → IsJournal later → AreInVersion v later
        → length after ≤ fuel
        → (reading : Reading) × IsReading bytes reading)
        → gate ≡ 1 → HasRow v rows past → (reading : Reading) × IsReading bytes reading
    after_gate go is_open (inr none) = (
      CorruptAt (length (journal_bytes rows)),
      corrupt_row v rows bytes (gate ∷ past)
          (length (journal_bytes rows)) all of_it split refl is_open none,
    )
    after_gate go is_open (inl (r, first)) =
        let n = length (payload_of r.command) in
        let after = drop (5 + n) (gate ∷ past) in
        let step =
        parse_step v bytes (gate ∷ past) after rows (rows ++ r ∷ []) r (length (journal_bytes rows))
        (length (journal_bytes rows) + (5 + n))
        split all of_it refl is_open (omega arith) first refl refl refl in
        go (rows ++ r ∷ []) after step.0 step.1 step.2
        (omega (arith, le, length-drop (5 + n) (gate ∷ past)))

-- any bytes
reading_of : (bytes : List ℕ) → AreBytes bytes → (reading : Reading) × IsReading bytes reading
reading_of bytes are =
    let v = version_byte bytes in
    elim (cases_Bool (starts_with nat_eq bytes (header_with v))) [
      | inr other ↦ (NoHeader, no_header v bytes other)
      | inl begins ↦
          read_from (length bytes) v [] bytes (drop 16 bytes) are
          ((starts_is Decides-eqb bytes (header_with v) true (sym begins)).0 refl) tt tt
          (omega (arith, length-drop 16 bytes))
    ]

-- no bytes have two
only_reading : (bytes : List ℕ) (a b : Reading) → IsReading bytes a → IsReading bytes b → b ≡ a
only_reading bytes (Rows rows) (Rows others) first second =
    ap (λ (l : List Row). Rows l) (one_list bytes others rows second first)
only_reading bytes (Rows rows) (CorruptAt place) first second =
    absurd (never_both bytes rows place first second)
only_reading bytes (Rows rows) NoHeader first second =
    absurd (second (holds_front (header_with _) (rows_behind_open_gates rows) first.front))
only_reading bytes (CorruptAt place) (Rows rows) first second =
    absurd (never_both bytes rows place second first)
only_reading bytes (CorruptAt place) (CorruptAt other) first second =
    ap (λ (k : ℕ). CorruptAt k) (one_place bytes other place second first)
only_reading bytes (CorruptAt place) NoHeader first second =
    absurd (second (holds_front (header_with _) (rows_behind_open_gates first.rows) first.front))
only_reading bytes NoHeader (Rows rows) first second =
    absurd (first (holds_front (header_with _) (rows_behind_open_gates rows) second.front))
only_reading bytes NoHeader (CorruptAt place) first second =
    absurd (first (holds_front (header_with _) (rows_behind_open_gates second.rows) second.front))
only_reading bytes NoHeader NoHeader first second = refl

pub one_reading : HasOneReading
one_reading bytes are =
    let found = reading_of bytes are in
    (found.0, found.1, λ other is. only_reading bytes found.0 other found.1 is)
