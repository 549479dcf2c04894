-- Runs compose.
use Rattle.std.proofs.Common.{◌≡◌, ◌⊎◌, ℕ, ◌==◌, Bool, true, false, cond, List, [], ◌∷◌, ◌++◌}
use Rattle.std.proofs.Common.{Option, Some, None, IfSome, ap, sym, refl, subst, ◌∙◌, inl, inr}
use Rattle.std.proofs.Common.{append_assoc, append-nil, arith, get_or, length}
use Rattle.std.proofs.lemmas.Bool.{cases_eq}
use Rattle.std.proofs.lemmas.Bool.Decides.{nat_tests}
use Rattle.std.specs.List.{Contains}
use Rattle.turn_cell.specs.History.{Each}
use Rattle.turn_cell.proofs.HistoryLemmas.{each_append, each_map}
use Rattle.gate_journal.specs.Log.{MayFind, MayOpen, StandsInEither}
use Rattle.gate_journal.specs.Rows.{IsJournal, IsNext, SpellsRows, commands_of, journal_bytes}
use Rattle.gate_journal.specs.declared.command.Command.{Command}
use Rattle.gate_journal.specs.declared.row.Row.{Row}
use Rattle.gate_journal.proofs.RowLemmas.{journal_push, one_list, opens, spells_not_open}
use Rattle.gate_journal.proofs.RowLemmas.{spells_shut}
use Rattle.gate_journal.proofs.StopLemmas.{finds_rows, found_in}
use Rattle.story_run.specs.declared.story.Story.{Story}
use Rattle.folder_runs.specs.Folder.{AgreeWith, FolderImage}
use Rattle.folder_runs.specs.Runs.{Follow, StandsInRows, Keeps, NextRunBegins, NextRunGoesOn, Run}
use Rattle.folder_runs.specs.Runs.{RunLeaves, RunRefused, RunsCompose, Shown, left_by, shows_of}
use Rattle.folder_runs.proofs.AgreeLemmas.{agree_more}

-- ---- commands of rows behind rows

one_front : (own : Bool) (c : Command) (xs ys : List Command)
    → cond own (c ∷ (xs ++ ys)) (xs ++ ys) ≡ cond own (c ∷ xs) xs ++ ys
one_front true c xs ys = refl
one_front false c xs ys = refl

pub commands_of-both : (xs ys : List Row) (s : ℕ)
    → commands_of (xs ++ ys) s ≡ commands_of xs s ++ commands_of ys s
commands_of-both [] ys s = refl
commands_of-both (r ∷ xs) ys s =
    rw (commands_of-both xs ys s)
    (one_front (r.session == s) r.command (commands_of xs s) (commands_of ys s))

-- ---- what is kept stays kept

kept_on : (stories : List Story) (rows more : List Row) (one : Shown)
    → StandsInRows stories rows one → StandsInRows stories (rows ++ more) one
kept_on stories rows more one k = record {
  alone = k.alone;
  begins = (
    k.begins.0 ++ commands_of more one.session,
    commands_of-both rows more one.session
        ∙ (ap (λ (cs : List Command). cs ++ commands_of more one.session) k.begins.1
        ∙ append_assoc one.commands k.begins.0 (commands_of more one.session)),
  );
}

all_kept_on : (stories : List Story) (rows more : List Row) (shows : List Shown)
    → Each (StandsInRows stories rows) shows → Each (StandsInRows stories (rows ++ more)) shows
all_kept_on stories rows more shows kept =
    each_map (StandsInRows stories rows) (StandsInRows stories (rows ++ more)) shows
    (λ one k. kept_on stories rows more one k) kept

-- ---- a sound folder keeps the shows that its rows keep

-- what an opening may meet has the rows, or these and the row behind their open gate
settled : (rows : List Row) (c : List ℕ) → IsJournal rows → MayOpen rows c
    → SpellsRows c rows
    ⊎ ((r : Row) × IsNext rows r × StandsInEither (rows ++ r ∷ []) None c)
settled rows c journal (inl shut) = inl (spells_shut rows c journal shut)
settled rows c journal (inr (r, next, unsure)) =
    elim (cases_eq (get_or c (length (journal_bytes rows)) 0) 1) [
      | inl is_open ↦ inr (r, next, opens rows r c unsure is_open)
      | inr shut ↦
          inl (spells_not_open rows r c journal unsure shut)
    ]

pub keeps : (stories : List Story) (folder : FolderImage) (rows : List Row) (shows : List Shown)
    → IsJournal rows → MayOpen rows folder.journal → AgreeWith stories rows folder.snaps
    → Each (StandsInRows stories rows) shows → Keeps stories folder shows
keeps stories folder rows shows journal may agree kept =
    let finds = finds_rows rows folder.journal journal may in
    elim (settled rows folder.journal journal may) [
      | inl spells ↦ record {
        rows = rows;
        journal = journal;
        spells = spells;
        only = λ others its. one_list folder.journal others rows its spells;
        opens = may;
        never = finds.1;
        agree = agree;
        kept = kept;
      }
      | inr (r, next, shut) ↦
          let all = journal_push rows r journal next in
          let spells = spells_shut (rows ++ r ∷ []) folder.journal all shut in record {
            rows = rows ++ r ∷ [];
            journal = all;
            spells = spells;
            only = λ others its. one_list folder.journal others (rows ++ r ∷ []) its spells;
            opens = inl shut;
            never = finds.1;
            agree = agree_more stories rows r folder.snaps journal next agree;
            kept = all_kept_on stories rows (r ∷ []) shows kept;
          }
    ]

-- ---- one run more

module _ (stories : List Story) (given : FolderImage) (before : List Shown) (run : Run)
    (k : Keeps stories given before) where
  one_leaves : RunLeaves stories given run → Keeps stories run.left (before ++ run.shows)
  one_leaves r =
      let same : r.rows ≡ k.rows = k.only r.rows r.found in
      let agreed : AgreeWith stories r.rows given.snaps =
      subst (λ (rows : List Row). AgreeWith stories rows given.snaps) (sym same) k.agree in
      keeps stories run.left (r.rows ++ r.accepted) (before ++ run.shows) r.journal r.opens
      (r.agree agreed)
      (each_append (StandsInRows stories (r.rows ++ r.accepted)) before run.shows
      (all_kept_on stories r.rows r.accepted before
      (subst (λ (rows : List Row). Each (StandsInRows stories rows) before) (sym same) k.kept))
      (r.shown agreed))

  one_refused : RunRefused given run → Keeps stories run.left (before ++ run.shows)
  one_refused r =
      subst (λ (shows : List Shown). Keeps stories run.left (before ++ shows)) (sym r.silent)
      (subst (Keeps stories run.left) (sym (append-nil before))
      (keeps stories run.left k.rows before k.journal (r.opens k.rows k.journal k.opens)
      (subst (AgreeWith stories k.rows) (sym r.snaps) k.agree) k.kept))

  pub one_run : RunLeaves stories given run ⊎ RunRefused given run
      → Keeps stories run.left (before ++ run.shows)
  one_run (inl r) = one_leaves r
  one_run (inr r) = one_refused r

all_runs : (stories : List Story) (given : FolderImage) (before : List Shown) (runs : List Run)
    → Keeps stories given before → Follow stories given runs
    → Keeps stories (left_by given runs) (before ++ shows_of runs)
all_runs stories given before [] k follow =
    subst (Keeps stories given) (sym (append-nil before)) k
all_runs stories given before (run ∷ runs) k follow =
    subst (Keeps stories (left_by run.left runs)) (append_assoc before run.shows (shows_of runs))
    (all_runs stories run.left (before ++ run.shows) runs
    (one_run stories given before run k follow.0) follow.1)

pub compose : RunsCompose
compose stories first runs sound follow =
    all_runs stories first [] runs
    (keeps stories first sound.rows [] sound.journal sound.opens sound.agree tt) follow

-- ---- what the next run finds

own_more : (own : Bool) (s t : ℕ) (c : Command) (cs : List Command) (begun : List (ℕ × Command))
    → (t == s) ≡ own → Contains begun (t, c)
    → (cs ++ cond own (c ∷ []) [] ≡ cs)
    ⊎ ((command : Command) × Contains begun (s, command)
    × (cs ++ cond own (c ∷ []) [] ≡ cs ++ command ∷ []))
own_more true s t c cs begun is there =
    inr (c, subst (λ (n : ℕ). Contains begun (n, c)) (grind (arith, nat_tests, is)) there, refl)
own_more false s t c cs begun is there = inl (append-nil cs)

next_found : (rows accepted next : List Row) (one_more : Option Row)
    (begun : List (ℕ × Command)) (s : ℕ)
    → IfSome one_more (λ (r : Row). Contains begun (r.session, r.command))
    → MayFind (rows ++ accepted) one_more next
    → (commands_of next s ≡ commands_of rows s ++ commands_of accepted s)
    ⊎ ((command : Command) × Contains begun (s, command)
    × (commands_of next s ≡ commands_of rows s ++ commands_of accepted s ++ command ∷ []))
next_found rows accepted next None begun s owner is =
    inl (ap (λ (l : List Row). commands_of l s) is ∙ commands_of-both rows accepted s)
next_found rows accepted next (Some r) begun s owner (inl is) =
    inl (ap (λ (l : List Row). commands_of l s) is ∙ commands_of-both rows accepted s)
next_found rows accepted next (Some r) begun s owner (inr is) =
    let all : commands_of next s
    ≡ (commands_of rows s ++ commands_of accepted s)
    ++ cond (r.session == s) (r.command ∷ []) [] =
    ap (λ (l : List Row). commands_of l s) is
    ∙ (commands_of-both (rows ++ accepted) (r ∷ []) s
    ∙ ap (λ (cs : List Command). cs ++ commands_of (r ∷ []) s)
    (commands_of-both rows accepted s)) in
    elim (own_more (r.session == s) s r.session r.command
    (commands_of rows s ++ commands_of accepted s) begun refl owner) [
      | inl none ↦ inl (all ∙ none)
      | inr (command, there, more) ↦ inr (
        command,
        there,
        all ∙ more,
      )
    ]

pub next_begins : NextRunBegins
next_begins stories given run r next spells s =
    next_found r.rows r.accepted next r.one_more run.begun s r.owner
    (found_in (r.rows ++ r.accepted) r.one_more next run.left.journal r.spells spells)

-- ---- and with which commands they begin

next_kept : (stories : List Story) (rows : List Row) (one_more : Option Row) (next : List Row)
    (shows : List Shown)
    → MayFind rows one_more next → Each (StandsInRows stories rows) shows
    → Each (StandsInRows stories next) shows
next_kept stories rows None next shows is kept =
    subst (λ (l : List Row). Each (StandsInRows stories l) shows) (sym is) kept
next_kept stories rows (Some r) next shows (inl is) kept =
    subst (λ (l : List Row). Each (StandsInRows stories l) shows) (sym is) kept
next_kept stories rows (Some r) next shows (inr is) kept =
    subst (λ (l : List Row). Each (StandsInRows stories l) shows) (sym is)
    (all_kept_on stories rows (r ∷ []) shows kept)

pub next_goes_on : NextRunGoesOn
next_goes_on stories given run r next spells agree =
    next_kept stories (r.rows ++ r.accepted) r.one_more next run.shows
    (found_in (r.rows ++ r.accepted) r.one_more next run.left.journal r.spells spells)
    (r.shown agree)
