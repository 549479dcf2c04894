-- The live rows, by the commands of each session, and at their new places.
use Rattle.std.proofs.Common.{◌≡◌, ◌≢◌, inl, inr, ℕ, ◌+◌, ◌<◌, ◌≤◌, Bool, true, false, List, []}
use Rattle.std.proofs.Common.{◌∷◌, ◌++◌, length, refl, sym, ◌∙◌, ap, subst, arith, length-append}
use Rattle.std.proofs.Common.{map}
use Rattle.std.specs.Prelude.{if◌then◌else◌, ◌&&◌, not, ◌==◌}
use Rattle.std.proofs.lemmas.Bool.{cases_eq, eq-eqb, eqb-true, ne_eqb}
use Rattle.gate_journal.specs.declared.command.Command.{Command}
use Rattle.gate_journal.specs.declared.row.Row.{Row}
use Rattle.gate_journal.specs.Command.{IsCommand}
use Rattle.gate_journal.specs.Rows.{commands_of, is_free, is_close, is_open, may_follow}
use Rattle.gate_journal.specs.Rows.{rows_behind_open_gates, row_body, EachNext, IsJournal}
use Rattle.gate_journal.specs.Log.{next_row}
use Rattle.gate_journal.proofs.SeatLemmas.{commands_of-same, commands_of-other, is_free-push}
use Rattle.journal_pack.specs.Live.{has_open, is_live, live_rows, placed_behind, rebuilt}
use Rattle.journal_pack.specs.Laws.{move_of, KeepsMoves}
use Rattle.journal_pack.proofs.CommandLemmas.{kept, IsLegal, may_open, may_be_next, kept_from_start}
use Rattle.journal_pack.proofs.CommandLemmas.{length-kept}

abbrev pub are_live_of : List Row → ℕ → Type 0
are_live_of rows s = commands_of (live_rows rows) s ≡ kept (commands_of rows s)

-- one row more before these
live_step :
    (r : Row) (rows : List Row) (s : ℕ) (same : Bool)
    → (r.session == s) ≡ same → (same ≡ true → r.session ≡ s)
    → are_live_of rows s
    → commands_of (if is_live r rows then r ∷ live_rows rows else live_rows rows) s
    ≡ kept (if same then r.command ∷ commands_of rows s else commands_of rows s)
live_step r rows s true test is so =
    subst (λ (k : ℕ).
    commands_of (if not (has_open (commands_of rows k)) && not (is_free (r.command ∷ commands_of rows k))
    then r ∷ live_rows rows else live_rows rows) s
    ≡ kept (r.command ∷ commands_of rows s)) (sym (is refl))
    (by (has_open (commands_of rows s)) (is_free (r.command ∷ commands_of rows s)))
  where
    with_it : commands_of (r ∷ live_rows rows) s ≡ r.command ∷ kept (commands_of rows s)
    with_it =
        ap (λ (b : Bool). if b then r.command ∷ commands_of (live_rows rows) s
        else commands_of (live_rows rows) s) test
        ∙ ap (λ (l : List Command). r.command ∷ l) so

    by : (h f : Bool)
        → commands_of (if not h && not f then r ∷ live_rows rows else live_rows rows) s
        ≡ (if not h && not f then r.command ∷ kept (commands_of rows s)
        else kept (commands_of rows s))
    by true f = so
    by false true = so
    by false false = with_it
live_step r rows s false test is so = by (is_live r rows)
  where
    by : (b : Bool)
        → commands_of (if b then r ∷ live_rows rows else live_rows rows) s
        ≡ kept (commands_of rows s)
    by true =
        ap (λ (b : Bool). if b then r.command ∷ commands_of (live_rows rows) s
        else commands_of (live_rows rows) s) test
        ∙ so
    by false = so

-- of each session those of its commands are live that its own commands say
pub live_commands : (rows : List Row) (s : ℕ) → commands_of (live_rows rows) s ≡ kept (commands_of rows s)
live_commands [] s = refl
live_commands (r ∷ rows) s =
    live_step r rows s (r.session == s) refl (eqb-true r.session s) (live_commands rows s)

-- a place changes no command
pub placed_commands : (front rows : List Row) (s : ℕ)
    → commands_of (placed_behind front rows) s ≡ commands_of rows s
placed_commands front [] s = refl
placed_commands front (r ∷ rows) s =
    ap (λ (l : List Command). if r.session == s then r.command ∷ l else l)
    (placed_commands (front ++ next_row front r.session r.command ∷ []) rows s)

-- and no byte
pub placed_bytes : (front rows : List Row)
    → rows_behind_open_gates (placed_behind front rows) ≡ rows_behind_open_gates rows
placed_bytes front [] = refl
placed_bytes front (r ∷ rows) =
    ap (λ (l : List ℕ). 1 ∷ row_body r ++ l)
    (placed_bytes (front ++ next_row front r.session r.command ∷ []) rows)

-- the fields of each row's command are in their ranges, and its session is below 64
pub record IsInRange (r : Row) : Type 0 where
  pub below : r.session < 64
  pub ranges : IsCommand r.command

abbrev pub AreInRange : List Row → Type 0
AreInRange [] = Unit {0}
AreInRange (r ∷ rows) = IsInRange r × AreInRange rows

pub in_range : (front rows : List Row) → EachNext front rows → AreInRange rows
in_range front [] each = tt
in_range front (r ∷ rows) each = (
  record { below = each.0.stands.below; ranges = each.0.stands.ranges },
  in_range (front ++ r ∷ []) rows each.1,
)

live_range_step : (b : Bool) (r : Row) (rows : List Row)
    → IsInRange r → AreInRange rows → AreInRange (if b then r ∷ rows else rows)
live_range_step true r rows one all = (one, all)
live_range_step false r rows one all = all

-- the live ones are too
pub live_in_range : (rows : List Row) → AreInRange rows → AreInRange (live_rows rows)
live_in_range [] are = tt
live_in_range (r ∷ rows) are =
    live_range_step (is_live r rows) r (live_rows rows) are.0 (live_in_range rows are.1)

-- of one session: each command may follow those before it, and there are not too many
abbrev pub AreGood : List Command → List Command → Type 0
AreGood before commands =
    IsLegal (is_free before) commands × (length before + length commands ≤ 8192)

of_this : (r : Row) (rows : List Row) (s : ℕ) → r.session ≡ s
    → commands_of (r ∷ rows) s ≡ r.command ∷ commands_of rows s
of_this r rows s is =
    ap (λ (b : Bool). if b then r.command ∷ commands_of rows s else commands_of rows s)
    (eq-eqb r.session s is)

of_other : (r : Row) (rows : List Row) (s : ℕ) → r.session ≢ s
    → commands_of (r ∷ rows) s ≡ commands_of rows s
of_other r rows s isnt =
    ap (λ (b : Bool). if b then r.command ∷ commands_of rows s else commands_of rows s)
    (ne_eqb r.session s isnt)

-- what a journal's rows say of one session
pub good : (rows front : List Row) (s : ℕ)
    → EachNext front rows → length (commands_of front s) ≤ 8192
    → AreGood (commands_of front s) (commands_of rows s)
good [] front s each few = (tt, omega arith)
good (r ∷ rows) front s each few = elim (cases_eq r.session s) [
  | inl same ↦
      let next = each.0.stands in
      let fewer : length (commands_of front s) < 8192 =
      subst (λ (k : ℕ). length (commands_of front k) < 8192) same next.fewer in
      let one = commands_of-same front r s same in
      let count : length (commands_of (front ++ r ∷ []) s) ≡ length (commands_of front s) + 1 =
      omega (arith, ap length one, length-append (commands_of front s) (r.command ∷ [])) in
      let rest = good rows (front ++ r ∷ []) s each.1 (omega (arith, count, fewer)) in
      let free : is_free (commands_of (front ++ r ∷ []) s) ≡ is_close r.command =
      ap is_free one ∙ is_free-push (commands_of front s) r.command in
      let first : is_open r.command ≡ is_free (commands_of front s) =
      may_open (commands_of front s) r.command
      (subst (λ (k : ℕ). may_follow (commands_of front k) r.command ≡ true) same next.follows) in
      subst (λ (l : List Command). AreGood (commands_of front s) l) (sym (of_this r rows s same)) (
        (first, subst (λ (b : Bool). IsLegal b (commands_of rows s)) free rest.0),
        omega (arith, count, rest.1),
      )
  | inr other ↦
      let none = commands_of-other front r s other in
      let rest = good rows (front ++ r ∷ []) s each.1 (omega (arith, few, ap length none)) in
      subst (λ (l : List Command). AreGood (commands_of front s) l) (sym (of_other r rows s other))
      (subst (λ (l : List Command). AreGood l (commands_of rows s)) none rest)
]

later_good : (front rows : List Row) (r n : Row) (s : ℕ)
    → n.session ≡ r.session → n.command ≡ r.command
    → AreGood (commands_of front s) (commands_of (r ∷ rows) s)
    → AreGood (commands_of (front ++ n ∷ []) s) (commands_of rows s)
later_good front rows r n s session command are = elim (cases_eq r.session s) [
  | inl same ↦
      let here : AreGood (commands_of front s) (r.command ∷ commands_of rows s) =
      subst (λ (l : List Command). AreGood (commands_of front s) l) (of_this r rows s same) are in
      let one = commands_of-same front n s (session ∙ same) in
      let count : length (commands_of (front ++ n ∷ []) s) ≡ length (commands_of front s) + 1 =
      omega (arith, ap length one, length-append (commands_of front s) (n.command ∷ [])) in
      let free : is_close r.command ≡ is_free (commands_of (front ++ n ∷ []) s) =
      ap is_close (sym command) ∙ sym (is_free-push (commands_of front s) n.command)
      ∙ ap is_free (sym one) in (
        subst (λ (b : Bool). IsLegal b (commands_of rows s)) free here.0.1,
        omega (arith, count, here.1),
      )
  | inr other ↦
      let here : AreGood (commands_of front s) (commands_of rows s) =
      subst (λ (l : List Command). AreGood (commands_of front s) l) (of_other r rows s other) are in
      subst (λ (l : List Command). AreGood l (commands_of rows s))
      (sym (commands_of-other front n s (λ is. other (sym session ∙ is)))) here
]

-- such rows, each at its new place, may stand there
pub placed_next : (rows front : List Row)
    → AreInRange rows → ((s : ℕ) → AreGood (commands_of front s) (commands_of rows s))
    → EachNext front (placed_behind front rows)
placed_next [] front are each = tt
placed_next (r ∷ rows) front are each =
    let here : AreGood (commands_of front r.session) (r.command ∷ commands_of rows r.session) =
    subst (λ (l : List Command). AreGood (commands_of front r.session) l)
    (of_this r rows r.session refl) (each r.session) in (
      record {
        place = refl;
        by = refl;
        stands = record {
          below = are.0.below;
          ranges = are.0.ranges;
          follows = may_be_next (commands_of front r.session) r.command here.0.0;
          fewer = omega (arith, here.1);
        };
      },
      placed_next rows (front ++ next_row front r.session r.command ∷ []) are.1
          (λ s. later_good front rows r (next_row front r.session r.command) s refl refl (each s)),
    )

-- the live rows are rows that a journal may have
pub live_journal : (rows : List Row) → IsJournal rows → IsJournal (rebuilt (live_rows rows))
live_journal rows all =
    placed_next (live_rows rows) [] (live_in_range rows (in_range [] rows all)) each
  where
    each : (s : ℕ) → AreGood [] (commands_of (live_rows rows) s)
    each s =
        let were = good rows [] s all (omega arith) in
        subst (λ (l : List Command). AreGood [] l) (sym (live_commands rows s)) (
          kept_from_start (commands_of rows s) were.0,
          omega (arith, were.1, length-kept (commands_of rows s)),
        )

moves_from : (front rows : List Row) → map move_of (placed_behind front rows) ≡ map move_of rows
moves_from front [] = refl
moves_from front (r ∷ rows) =
    ap (λ (l : List (ℕ × Command)). (r.session, r.command) ∷ l)
    (moves_from (front ++ next_row front r.session r.command ∷ []) rows)

-- a place changes neither session nor command
pub placed_moves : KeepsMoves
placed_moves rows = moves_from [] (live_rows rows)
