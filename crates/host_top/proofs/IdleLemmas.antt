-- Where no history has an entry more, the journal has no row more.
use Rattle.std.proofs.Common.{◌≡◌, ◌<◌, ◌+◌, ◌==◌, ℕ, List, [], ◌∷◌, ◌++◌, length, map, sym, ap, ◌∙◌}
use Rattle.std.proofs.Common.{arith, cond, Bool, true, false, refl, subst}
use Rattle.std.proofs.lemmas.Bool.Decides.{nat_tests}
use Rattle.std.proofs.lemmas.List.{length-append, length-map}
use Rattle.disk_model.specs.declared.disk.Disk.{Ghosts as DiskWords}
use Rattle.gate_journal.specs.Log.{rows_kept, rows_of}
use Rattle.gate_journal.specs.Rows.{EachNext, IsJournal}
use Rattle.gate_journal.specs.declared.entry.Entry.{Entry as JournalEntry}
use Rattle.gate_journal.specs.declared.entry.Entry.TheVariants.{Kept, Faulted}
use Rattle.gate_journal.specs.declared.row.Row.{Row}
use Rattle.host_serve.specs.Holders.{seen_at, seens}
use Rattle.host_serve.specs.Opening.{IsOpenedHost, histories_in_rows}
use Rattle.host_serve.specs.declared.host.Host.{Host}
use Rattle.host_serve.specs.declared.host.Passes.{Passes}
use Rattle.host_serve.proofs.AloneLemmas.{history_there}
use Rattle.session_core.specs.declared.entry.Entry.{Entry}
use Rattle.session_core.specs.declared.entry.Entry.TheVariants as entries
use Rattle.session_desk.specs.Shared.{unnumbered}
use Rattle.session_desk.specs.Turn.{history_in}
use Rattle.session_desk.proofs.HistoryLemmas.{history_in-append}
use Rattle.story_run.specs.declared.story.Story.{Story}
use Rattle.host_top.specs.DoorServed.{AddsNoEntry}
use Rattle.host_top.specs.Rejoining.{AreAllHeld, SeeNoMore}
use Rattle.host_top.proofs.CrewLemmas.{holds_all}
use Rattle.host_top.proofs.ConversedLemmas.{EndsOn, grows}

-- the later ones of rows that may stand
ahead : (front rows more : List Row) → EachNext front (rows ++ more)
    → (new : List Row) × EachNext new more
ahead front [] more each = (front, each)
ahead front (r ∷ rows) more each = ahead (front ++ r ∷ []) rows more each.1

fewer : (own : Bool) (x : Entry) (xs : List Entry) → length (cond own (x ∷ xs) xs) ≡ 0
    → length xs ≡ 0
fewer true x xs none = absurd (omega arith)
fewer false x xs none = none

-- entries that give no session an entry have no row
no_rows : (front : List Row) (added : List JournalEntry) → EachNext front (rows_of added)
    → ((s : ℕ) → s < 64 → length (history_in added s) ≡ 0) → rows_of added ≡ []
no_rows front [] each none = refl
no_rows front (Kept r ∷ added) each none =
    let h = history_in added r.session in
    let own : (r.session == r.session) ≡ true = grind (arith, nat_tests) in
    let there : length (cond true (entries.Accepted 0 r.command ∷ h) h) ≡ 0 =
    subst (λ (b : Bool). length (cond b (entries.Accepted 0 r.command ∷ h) h) ≡ 0)
    own (none r.session each.0.stands.below) in
    absurd (omega arith)
no_rows front (Faulted r from to ∷ added) each none =
    no_rows front added each
    (λ s low. fewer (r.by == s + 1) (entries.Faulted 0 from to) (history_in added s) (none s low))

-- a journal that has of each session what the rows give has no row more
no_more_rows : (journal added : List JournalEntry) (rows : List Row) (finals : List (List Entry))
    → journal ≡ rows_kept rows ++ added → rows_of journal ≡ rows ++ rows_of added
    → IsJournal (rows_of journal)
    → ((s : ℕ) → s < 64 → history_in journal s ≡ map unnumbered (seen_at finals s))
    → AddsNoEntry rows finals → rows_of added ≡ []
no_more_rows journal added rows finals all grown stands kept idle =
    let behind = ahead [] rows (rows_of added) (subst IsJournal grown stands) in
    no_rows behind.0 added behind.1 none
  where
    none : (s : ℕ) → s < 64 → length (history_in added s) ≡ 0
    none s low =
        let was = history_in (rows_kept rows) s in
        let long : length (history_in journal s) ≡ length was + length (history_in added s) =
        ap (λ (es : List JournalEntry). length (history_in es s)) all
        ∙ (ap (λ (l : List Entry). length l) (history_in-append (rows_kept rows) added s)
        ∙ length-append was (history_in added s)) in
        let same_long : length (history_in journal s) ≡ length was =
        ap (λ (l : List Entry). length l) (kept s low)
        ∙ (length-map (seen_at finals s) unnumbered
        ∙ ap (λ (l : List Entry). length l) (idle s low ∙ history_there rows s low)) in
        omega arith

module _ {D : Type 0} (disks : DiskWords D) (given back : D) (givens backs : List D)
    (stories : List Story) (budget : ℕ) (rows : List Row) (host : Host D) (first last : Passes D)
    (opened : IsOpenedHost stories budget rows (record { disk = given; found = length rows }) host
    first)
    (end : EndsOn disks host last back backs) (whole : AreAllHeld last (last ∷ []))
    (none : SeeNoMore first last) where
  -- roots that hold all numbers again, and have seen no more
  pub no_entry : AddsNoEntry rows end.2.finals
  no_entry s low =
      (end.2.each s low).complete (holds_all last s low whole)
      ∙ (none s low ∙ ap (λ (hs : List (List Entry)). seen_at hs s) opened.histories)

  pub no_row : rows_of end.2.grows.0 ≡ []
  no_row =
      no_more_rows end.0.entries end.2.grows.0 rows end.2.finals
      (end.2.grows.1 ∙ ap (λ (es : List JournalEntry). es ++ end.2.grows.0) opened.begins)
      (grows disks given back givens backs stories budget rows host first last opened end) end.3
      end.2.kept no_entry
