-- A row more, as a session is told of it.
use Rattle.std.proofs.Common.{◌≡◌, ◌≢◌, inl, inr, ◌∙◌, ℕ, ◌<◌, Bool, true, false, List, [], ◌∷◌}
use Rattle.std.proofs.Common.{◌++◌, length, refl, sym, ap, subst, append_assoc, arith}
use Rattle.std.specs.Prelude.{◌&&◌, ◌==◌, ◌≤◌, Some, if◌then◌else◌, not}
use Rattle.std.specs.List.{Contains}
use Rattle.std.proofs.lemmas.Bool.{cases_Bool, cases_eq, eq-eqb, ne_eqb}
use Rattle.std.proofs.lemmas.List.{append-nil, length-append}
use Rattle.std.proofs.lemmas.List.Elements.{Contains-append_cases, Contains-push_cases}
use Rattle.gate_journal.specs.Rows.{is_open}
use Rattle.gate_journal.specs.declared.command.Command.{Command}
use Rattle.gate_journal.specs.declared.command.Command.TheVariants.{Open, Line, Char, File, Close}
use Rattle.gate_journal.specs.declared.command.Command.TheVariants.{Size}
use Rattle.gate_journal.specs.declared.row.Row.{Row}
use Rattle.gate_journal.specs.Rows.{EachNext, IsJournal, IsNext, row_body, commands_of}
use Rattle.gate_journal.specs.Rows.{may_follow, journal_bytes, is_open as opens_there}
use Rattle.gate_journal.proofs.RowLemmas.{spelled-push}
use Rattle.gate_journal.proofs.SeatLemmas.{commands_of-other, commands_of-same}
use Rattle.story_run.specs.declared.story.Story.{Story}
use Rattle.session_core.specs.History.{game_of, later}
use Rattle.session_core.proofs.RepeatLemmas.{game_of-append, game_of-append-open, joined}
use Rattle.store_events.specs.declared.state.StoreState.{StoreState}
use Rattle.session_saves.specs.Agreement.{last_row, opens_of}
use Rattle.store_events.specs.Rows.{BeginsByRows, RowsAreTold, session_in_rows, told_of}
use Rattle.store_events.specs.Session.{Begins, EachMayCome, FileHappening}
use Rattle.store_events.specs.Session.{SessionState, Takes, lived}
use Rattle.store_events.proofs.SessionLemmas.{last_behind, stays_in_agreement}

-- ---- a session's commands begin with an OPEN

same_word : (c : Command) → opens_there c ≡ is_open c
same_word (Open key story digest seed cols rows budget) = refl
same_word (Line win term text) = refl
same_word (Char win code) = refl
same_word (File name) = refl
same_word (Size cols rows) = refl
same_word Close = refl

abbrev pub IsBegun : List Command → Type 0
IsBegun [] = Unit {0}
IsBegun (c ∷ cs) = is_open c ≡ true

first_opens : (opens : Bool) → (if opens then true else not true) ≡ true → opens ≡ true
first_opens true is = refl
first_opens false is = absurd cc

begun_more : (cs : List Command) (c : Command) → IsBegun cs → may_follow cs c ≡ true
    → IsBegun (cs ++ c ∷ [])
begun_more [] c begun follows = sym (same_word c) ∙ first_opens (opens_there c) follows
begun_more (d ∷ cs) c begun follows = begun

later_some : (c : Command) (cs g : List Command) → later (c ∷ cs) g ≡ [] → ⊥
later_some c cs [] is = cc
later_some c cs (d ∷ g) is = cc

game_some : (c : Command) (cs : List Command) → is_open c ≡ true → game_of (c ∷ cs) ≡ [] → ⊥
game_some c cs opens is =
    later_some c cs (game_of cs)
    (sym (ap (λ (b : Bool). later (if b then c ∷ cs else []) (game_of cs)) opens) ∙ is)

joined_more : (g : List Command) (c : Command) → (g ≡ [] → ⊥) → joined g c ≡ g ++ c ∷ []
joined_more [] c some = absurd (some refl)
joined_more (d ∷ g) c some = refl

shut_free : (opens : Bool) → opens ≡ false → (if opens then true else not true) ≡ true → ⊥
shut_free true is follows = cc
shut_free false is follows = cc

-- a command that is no OPEN joins the game
game_more : (cs : List Command) (c : Command) → IsBegun cs → may_follow cs c ≡ true
    → is_open c ≡ false → game_of (cs ++ c ∷ []) ≡ game_of cs ++ c ∷ []
game_more [] c begun follows shut =
    absurd (shut_free (opens_there c) (same_word c ∙ shut) follows)
game_more (d ∷ cs) c begun follows shut =
    game_of-append (d ∷ cs) c shut
    ∙ joined_more (game_of (d ∷ cs)) c (λ none. game_some d cs begun none)

-- ---- the places of OPEN rows

abbrev own : Row → ℕ → Bool
own r s = r.session == s && is_open r.command

abbrev one_of : Bool → ℕ → List ℕ
one_of true place = place ∷ []
one_of false place = []

cons_if : (b : Bool) (x : ℕ) (xs ys zs : List ℕ) → ys ≡ xs ++ zs
    → (if b then x ∷ ys else ys) ≡ (if b then x ∷ xs else xs) ++ zs
cons_if true x xs ys zs is = ap (λ (l : List ℕ). x ∷ l) is
cons_if false x xs ys zs is = is

last_if : (b : Bool) (place : ℕ) → (if b then place ∷ [] else []) ≡ one_of b place
last_if true place = refl
last_if false place = refl

opens_of-push : (rows : List Row) (r : Row) (s : ℕ)
    → opens_of (rows ++ r ∷ []) s ≡ opens_of rows s ++ one_of (own r s) r.place
opens_of-push [] r s = last_if (own r s) r.place
opens_of-push (x ∷ rows) r s =
    cons_if (own x s) x.place (opens_of rows s) (opens_of (rows ++ r ∷ []) s)
    (one_of (own r s) r.place) (opens_of-push rows r s)

-- ---- what holds of each front of a journal

abbrev IsBefore : ℕ → List Row → Type 0
IsBefore s rows = (row : ℕ) → Contains (opens_of rows s) row → row < length (journal_bytes rows)

abbrev IsKnown : ℕ → List Row → Type 0
IsKnown s rows = IsBegun (commands_of rows s) × IsBefore s rows

one_there : (b : Bool) (place row : ℕ) → Contains (one_of b place) row → row ≡ place
one_there true place row at = elim (Contains-push_cases [] place row at) [
  | inl none ↦ absurd (omega (arith, none.1))
  | inr here ↦ sym here
]
one_there false place row at = absurd (omega (arith, at.1))

longer : (rows : List Row) (r : Row)
    → length (journal_bytes rows) < length (journal_bytes (rows ++ r ∷ []))
longer rows r =
    let is = ap (λ (l : List ℕ). length l) (spelled-push rows r)
    ∙ length-append (journal_bytes rows) (1 ∷ row_body r) in
    omega (arith, is)

known_more : (s : ℕ) (rows : List Row) (r : Row) → IsNext rows r → IsKnown s rows
    → IsKnown s (rows ++ r ∷ [])
known_more s rows r next known = (begun, before)
  where
    begun : IsBegun (commands_of (rows ++ r ∷ []) s)
    begun = elim (cases_eq r.session s) [
      | inl same ↦
          subst IsBegun (sym (commands_of-same rows r s same))
          (begun_more (commands_of rows s) r.command known.0
          (subst (λ (n : ℕ). may_follow (commands_of rows n) r.command ≡ true) same
          next.stands.follows))
      | inr apart ↦ subst IsBegun (sym (commands_of-other rows r s apart)) known.0
    ]

    before : IsBefore s (rows ++ r ∷ [])
    before row there =
        let at = subst (λ (l : List ℕ). Contains l row) (opens_of-push rows r s) there in
        elim (Contains-append_cases (opens_of rows s) (one_of (own r s) r.place) row at) [
          | inl old ↦ omega (arith, known.1 row old, longer rows r)
          | inr new ↦ omega (arith, one_there (own r s) r.place row new, next.place, longer rows r)
        ]

each_known : (s : ℕ) (front more : List Row) → EachNext front more → IsKnown s front
    → IsKnown s (front ++ more)
each_known s front [] each known = subst (IsKnown s) (sym (append-nil front)) known
each_known s front (r ∷ more) each known =
    subst (IsKnown s) (append_assoc front (r ∷ []) more)
    (each_known s (front ++ r ∷ []) more each.1 (known_more s front r each.0 known))

none_there : (s row : ℕ) → Contains (opens_of [] s) row → row < length (journal_bytes [])
none_there s row at = absurd (omega (arith, at.1))

pub journal_known : (s : ℕ) (rows : List Row) → IsJournal rows → IsKnown s rows
journal_known s rows all = each_known s [] rows all (tt, none_there s)

-- ---- the last OPEN row stands behind the others

abbrev IsLast : ℕ → List ℕ → Type 0
IsLast s places =
    (last : ℕ) → last_row places ≡ Some last → (row : ℕ) → Contains places row → row ≤ last

last_if_own : (stories : List Story) (s : ℕ) (rows : List Row) (r : Row) → IsNext rows r
    → IsBefore s rows → IsLast s (opens_of rows s) → (b : Bool)
    → IsLast s (opens_of rows s ++ one_of b r.place)
last_if_own stories s rows r next before old true =
    last_behind stories (opens_of rows s) r.place
    (λ row there. omega (arith, before row there, next.place))
last_if_own stories s rows r next before old false =
    subst (IsLast s) (sym (append-nil (opens_of rows s))) old

each_last : (stories : List Story) (s : ℕ) (front more : List Row) → EachNext front more
    → IsKnown s front → IsLast s (opens_of front s) → IsLast s (opens_of (front ++ more) s)
each_last stories s front [] each known old =
    subst (λ (rows : List Row). IsLast s (opens_of rows s)) (sym (append-nil front)) old
each_last stories s front (r ∷ more) each known old =
    subst (λ (rows : List Row). IsLast s (opens_of rows s)) (append_assoc front (r ∷ []) more)
    (each_last stories s (front ++ r ∷ []) more each.1 (known_more s front r each.0 known)
    (subst (IsLast s) (sym (opens_of-push front r s))
    (last_if_own stories s front r each.0 known.1 old (own r s))))

no_last : (s last : ℕ) → last_row [] ≡ Some last → (row : ℕ) → Contains [] row → row ≤ last
no_last s last is row at = absurd (omega (arith, at.1))

pub begins_by_rows : BeginsByRows
begins_by_rows stories rows s bytes all agreed =
    (stays_in_agreement stories).begins (opens_of rows s) (game_of (commands_of rows s)) bytes
    (each_last stories s [] rows all (tt, none_there s) (no_last s)) agreed

-- ---- a row more

module _ (stories : List Story) (rows : List Row) (r : Row) (s : ℕ) (store : StoreState)
    (all : IsJournal rows) (next : IsNext rows r) where
  abbrev x : SessionState
  x = session_in_rows rows s store

  abbrev Told : List FileHappening → Type 0
  Told past =
      (session_in_rows (rows ++ r ∷ []) s store ≡ lived x past) × EachMayCome stories x past

  known : IsKnown s rows
  known = journal_known s rows all

  parts_are : (places : List ℕ) (game : List Command)
      → opens_of (rows ++ r ∷ []) s ≡ places → game_of (commands_of (rows ++ r ∷ []) s) ≡ game
      → session_in_rows (rows ++ r ∷ []) s store
      ≡ record { rows = places; game = game; store = store }
  parts_are places game is_places is_game = rw (is_places, is_game) refl

  places_by : (b : Bool) → own r s ≡ b
      → opens_of (rows ++ r ∷ []) s ≡ opens_of rows s ++ one_of b r.place
  places_by b is =
      opens_of-push rows r s ∙ ap (λ (t : Bool). opens_of rows s ++ one_of t r.place) is

  other : r.session ≢ s → Told []
  other apart =
      let own_is : own r s ≡ false =
      ap (λ (t : Bool). t && is_open r.command) (ne_eqb r.session s apart) in (
        parts_are (opens_of rows s) (game_of (commands_of rows s))
            (places_by false own_is ∙ append-nil (opens_of rows s))
            (ap game_of (commands_of-other rows r s apart)),
        tt,
      )

  own_opens : r.session ≡ s → is_open r.command ≡ true → Told (Begins r.place r.command ∷ [])
  own_opens same opens =
      let own_is : own r s ≡ true =
      ap (λ (t : Bool). t && is_open r.command) (eq-eqb r.session s same) ∙ opens in (
        parts_are (opens_of rows s ++ r.place ∷ []) (r.command ∷ []) (places_by true own_is)
            (ap game_of (commands_of-same rows r s same)
            ∙ game_of-append-open (commands_of rows s) r.command opens),
        ((λ row there. omega (arith, known.1 row there, next.place)), tt),
      )

  own_more : r.session ≡ s → is_open r.command ≡ false → Told (Takes r.command ∷ [])
  own_more same shut =
      let own_is : own r s ≡ false =
      ap (λ (t : Bool). t && is_open r.command) (eq-eqb r.session s same) ∙ shut in
      let follows : may_follow (commands_of rows s) r.command ≡ true =
      subst (λ (n : ℕ). may_follow (commands_of rows n) r.command ≡ true) same
      next.stands.follows in (
        parts_are (opens_of rows s) (game_of (commands_of rows s) ++ r.command ∷ [])
            (places_by false own_is ∙ append-nil (opens_of rows s))
            (ap game_of (commands_of-same rows r s same)
            ∙ game_more (commands_of rows s) r.command known.0 follows shut),
        (shut, tt),
      )

  as_told : (here opens : Bool) → (r.session == s) ≡ here → is_open r.command ≡ opens
      → (if here then (if opens then Begins r.place r.command else Takes r.command) ∷ [] else [])
      ≡ told_of r s
  as_told here opens is_here is_opens = rw (is_here, is_opens) refl

  told : Told (told_of r s)
  told = elim (cases_eq r.session s) [
    | inr apart ↦
        subst Told (as_told false (is_open r.command) (ne_eqb r.session s apart) refl)
        (other apart)
    | inl same ↦ elim (cases_Bool (is_open r.command)) [
      | inl opens ↦
          subst Told (as_told true true (eq-eqb r.session s same) opens) (own_opens same opens)
      | inr shut ↦
          subst Told (as_told true false (eq-eqb r.session s same) shut) (own_more same shut)
    ]
  ]

pub rows_are_told : RowsAreTold
rows_are_told stories rows r s store all next = told stories rows r s store all next
