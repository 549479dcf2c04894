-- The desks of a host that ends, and their entries of the journal.
use Rattle.std.proofs.Common.{◌≡◌, ℕ, ◌+◌, ◌<◌, ◌≤◌, List, [], ◌∷◌, ◌++◌}
use Rattle.std.proofs.Common.{length, map, get_or, set, refl, ap, sym, ◌∙◌, subst, inl, inr}
use Rattle.std.proofs.Common.{arith, append_assoc, Option, Some, None}
use Rattle.std.specs.Prelude.{slice_get}
use Rattle.std.specs.List.{AllZip}
use Rattle.std.proofs.lemmas.List.{get_or-map, get_or-set_other}
use Rattle.std.proofs.lemmas.Option.{get_or_from_slice_get, slice_get-get_or, slice_get_within}
use Rattle.turn_cell.specs.History.{Continues, IsAmong, IsForeign}
use Rattle.turn_cell.specs.declared.pass.Pass.{Pass}
use Rattle.turn_cell.specs.Passes.{pass_numbers, seen, tag_of}
use Rattle.turn_cell.specs.Views.{tag_in}
use Rattle.turn_cell.proofs.HistoryLemmas.{among_first, among_second, continues_all, continues_map}
use Rattle.turn_cell.proofs.HistoryLemmas.{nil_right}
use Rattle.gate_journal.specs.Log.{Log, entry_number, rows_of}
use Rattle.disk_model.specs.Work.{EachImage}
use Rattle.disk_model.specs.declared.disk.Disk.{Ghosts as DiskWords}
use Rattle.disk_model.proofs.Moments.{weaker}
use Rattle.gate_journal.specs.Rows.{IsJournal, commands_of}
use Rattle.gate_journal.specs.declared.command.Command.{Command}
use Rattle.gate_journal.specs.declared.row.Row.{Row}
use Rattle.snap_store.specs.Store.{Snapshots}
use Rattle.story_run.specs.declared.story.Story.{Story}
use Rattle.gate_journal.specs.declared.entry.Entry.{Entry as JournalEntry}
use Rattle.session_core.specs.declared.entry.Entry.{Entry}
use Rattle.session_core.specs.History.{game_of}
use Rattle.session_core.specs.Turning.{commands_in, entry_by}
use Rattle.session_saves.specs.Agreement.{AgreesWithBeginning, IsAgreedFile, last_row}
use Rattle.session_desk.specs.Shared.{DeskTag, IsShared, SharedState, desk_tag, unnumbered}
use Rattle.session_desk.specs.Sound.{EndsStore, IsSoundDesk, open_rows}
use Rattle.session_desk.specs.Turn.{history_in}
use Rattle.session_desk.proofs.FileLemmas.{first_rows}
use Rattle.session_desk.proofs.HistoryLemmas.{commands_in-history}
use Rattle.session_desk.proofs.OpensLemmas.{opens_of-since, rows_of-append}
use Rattle.session_desk.proofs.SharedLemmas.{commands_in-unnumbered, commands_of-since, history_in-since}
use Rattle.host_serve.specs.declared.host.Host.{Host}
use Rattle.host_serve.specs.declared.host.Passes.{Passes}
use Rattle.host_serve.specs.Ending.{AreAgreedDisks, EndsAt, EndsWith, GivesBack, IsAgreedDisk}
use Rattle.host_serve.specs.Ending.{KeepFiles, KeepsFileOf}
use Rattle.host_serve.specs.Gathering.{BringsIn, Gathers, Heard, KeepsRoot, Returns}
use Rattle.host_serve.specs.Holders.{Holder, IsWholeHolder, IsAloneHolder, holder_at, holder_of, holders}
use Rattle.host_serve.specs.Holders.{seen_at, seens}
use Rattle.host_serve.specs.Hosts.{AreOf, IsHost, IsSound, cell_id, rows_at_opening, opened_stores}
use Rattle.host_serve.specs.Hosts.{tag_at}
use Rattle.host_serve.proofs.ListLemmas.{goes_on, length_more, one_more, same_some}
use Rattle.host_serve.proofs.PassLemmas.{holder_there, seen_of_pass, tag_of_store}
use Rattle.host_serve.proofs.StoreLemmas.{get_below, zip_of}

-- an entry of none of these numbers is of none of some of them
fewer : (e : JournalEntry) (n : ℕ) (numbers : List ℕ) → IsAmong n numbers
    → IsForeign entry_number numbers e → IsForeign entry_number (n ∷ []) e
fewer e n numbers there foreign (inl is) = foreign (subst (λ (k : ℕ). IsAmong k numbers) is there)
fewer e n numbers there foreign (inr none) = none

-- what a desk's pass had seen goes on by others' entries, where its number is among these
since_to : (s : ℕ) (numbers : List ℕ) (seen mid new : List JournalEntry)
    → Continues (IsForeign entry_number ((s + 1) ∷ [])) mid seen → IsAmong (s + 1) numbers
    → Continues (IsForeign entry_number numbers) new mid
    → Continues (IsForeign entry_number ((s + 1) ∷ [])) new seen
since_to s numbers seen mid new first held since =
    goes_on (IsForeign entry_number ((s + 1) ∷ [])) seen mid new first
    (continues_map (IsForeign entry_number numbers) (IsForeign entry_number ((s + 1) ∷ [])) new mid
    (λ e foreign. fewer e (s + 1) numbers held foreign) since)

heard_to : (s : ℕ) (final : List Entry) (numbers : List ℕ) (mid new : List JournalEntry)
    → Heard s mid final → IsAmong (s + 1) numbers
    → Continues (IsForeign entry_number numbers) new mid → Heard s new final
heard_to s final numbers mid new h held since = record {
  seen = h.seen;
  since = since_to s numbers h.seen mid new h.since held since;
  entries = h.entries;
}

module _ {D : Type 0} where
  -- the number that the root holds then
  pub own_number : (s : ℕ) (desk : SharedState D) (other root : Pass (Log D) JournalEntry)
      → desk.desk.session ≡ s → IsShared desk → other ≡ desk.pass
      → pass_numbers root ++ pass_numbers other ≡ pass_numbers root ++ (s + 1) ∷ []
  own_number s desk other root same shared is = ap (λ (l : List ℕ). pass_numbers root ++ l)
      (ap (λ (p : Pass (Log D) JournalEntry). pass_numbers p) is ∙ (shared.pass.only
      ∙ ap (λ (k : ℕ). (k + 1) ∷ []) same))

  -- the root joins no pass
  pub keeps_none : (root : Pass (Log D) JournalEntry) → KeepsRoot [] root root
  keeps_none root = record {
    holds_both = sym (nil_right (pass_numbers root));
    since = continues_all (IsForeign entry_number (pass_numbers root)) (seen root);
    kept = (refl, refl);
  }

  -- what the root had seen goes on as what it has seen since does
  root_on : (more : List ℕ) (old root : Pass (Log D) JournalEntry) (journal : List JournalEntry)
      → KeepsRoot more old root
      → Continues (IsForeign entry_number (pass_numbers root)) journal (seen root)
      → Continues (IsForeign entry_number (pass_numbers old)) journal (seen old)
  root_on more old root journal k since =
      goes_on (IsForeign entry_number (pass_numbers old)) (seen old) (seen root) journal k.since
      (continues_map (IsForeign entry_number (pass_numbers root))
      (IsForeign entry_number (pass_numbers old)) journal (seen root)
      (λ e foreign there. foreign (subst (λ (n : List ℕ). IsAmong (entry_number e) n)
      (sym k.holds_both) (among_first (entry_number e) (pass_numbers old) more there))) since)

  -- and then one more
  keeps_more : (a b : List ℕ) (first mid new : Pass (Log D) JournalEntry)
      → KeepsRoot a first mid → KeepsRoot b mid new → KeepsRoot (a ++ b) first new
  keeps_more a b first mid new k l = record {
    holds_both = l.holds_both ∙ (ap (λ (n : List ℕ). n ++ b) k.holds_both
        ∙ append_assoc (pass_numbers first) a b);
    since = root_on a first mid (seen new) k l.since;
    kept = (l.kept.0 ∙ k.kept.0, l.kept.1 ∙ k.kept.1);
  }

  -- so it does as the root joins more
  heard_on : (s : ℕ) (final : List Entry) (more : List ℕ) (mid new : Pass (Log D) JournalEntry)
      → Heard s (seen mid) final → IsAmong (s + 1) (pass_numbers mid) → KeepsRoot more mid new
      → Heard s (seen new) final
  heard_on s final more mid new h held k =
      heard_to s final (pass_numbers mid) (seen mid) (seen new) h held k.since

  -- the commands of a desk are those of its session in what its pass has seen
  own_commands : (desk : SharedState D) → IsShared desk
      → desk.desk.commands ≡ commands_of (rows_of (seen desk.pass)) desk.desk.session
  own_commands desk shared = sym shared.commands ∙ (sym (commands_in-unnumbered desk.history)
      ∙ (ap commands_in shared.entries
      ∙ commands_in-history (seen desk.pass) desk.desk.session))

module _ {D : Type 0} (disks : DiskWords D) where
  -- what a desk leaves of its store
  desk_returns : (s : ℕ) (desk : SharedState D) (its : DeskTag D) (back : D)
      (other : Pass (Log D) JournalEntry) (journal : List JournalEntry) → desk_tag desk ≡ its
      → desk.desk.session ≡ s → IsShared desk
      → EndsStore disks desk → back ≡ desk.saves.store.disk → other ≡ desk.pass
      → Continues (IsForeign entry_number ((s + 1) ∷ [])) journal (seen other)
      → Returns disks s its back journal
  desk_returns s desk its back other journal tag same shared e is_back is since = record {
    gives = subst (λ (x : DeskTag D × D). GivesBack disks x.0.store x.1)
        (λ i. (tag i, sym is_back i)) (record {
          same = e.store.same;
          counts = e.store.counts;
          reaches = e.store.reaches;
        });
    seen = seen other;
    since = since;
    agreed = λ sound.
        subst (λ (x : List Story × Pass (Log D) JournalEntry × ℕ
        × D). IsAgreedDisk disks x.0 (rows_of (seen x.1)) x.2 x.3)
        (λ i. (
          ap (λ (t : DeskTag D). t.stories) tag i,
          sym is i,
          same i,
          sym is_back i,
        ))
        (subst (λ (cs : List Command). EachImage disks desk.saves.store.disk
        (IsAgreedFile desk.desk.stories (open_rows desk) (game_of cs)))
        (own_commands desk shared)
        (e.agreed (subst (IsSoundDesk disks) (sym tag) sound)));
    file = λ sound.
        let f = e.file (subst (IsSoundDesk disks) (sym tag) sound) in
        subst (λ (x : DeskTag D × Pass (Log D) JournalEntry × ℕ × D). KeepsFileOf disks
        x.0.stories x.0.rows (rows_of (seen x.1)) x.2 x.0.store x.3)
        (λ i. (tag i, sym is i, same i, sym is_back i))
        (record {
          agreed = f.agreed;
          newest = λ journal none place least last has.
              (f.newest journal none place least last has).images;
        });
  }

  -- a session's desk, and its pass joined into the root
  pub brings_in : (s : ℕ) (h : Holder) (old : List Entry) (tag : Option (DeskTag D))
      (desk : SharedState D) (other root : Pass (Log D) JournalEntry) (back : D)
      → Continues (IsForeign entry_by h.holds) desk.history old
      → (IsAloneHolder h → desk.history ≡ old) → (IsWholeHolder h → desk.history ≡ old)
      → tag ≡ Some (desk_tag desk)
      → desk.desk.session ≡ s → IsShared desk
      → EndsStore disks desk → back ≡ desk.saves.store.disk → other ≡ desk.pass
      → Continues (IsForeign entry_number (pass_numbers other)) (seen root) (seen other)
      → BringsIn disks s h old tag root back
  brings_in s h old tag desk other root back since alone complete tagged same shared e is_back is
      joined =
      let after = subst (λ (l : List ℕ). Continues (IsForeign entry_number l) (seen root)
      (seen other)) (ap (λ (p : Pass (Log D) JournalEntry). pass_numbers p) is ∙ (shared.pass.only
      ∙ ap (λ (k : ℕ). (k + 1) ∷ []) same)) joined in
      record {
        final = desk.history;
        ends = record { since = since; alone = alone; complete = complete };
        heard = record {
          seen = seen other;
          since = after;
          entries = shared.entries
              ∙ ap (λ (x : List JournalEntry × ℕ). history_in x.0 x.1)
              (λ i. (sym (ap (λ (p : Pass (Log D) JournalEntry). seen p) is) i, same i));
        };
        returns = λ its there. desk_returns s desk its back other (seen root)
            (same_some (desk_tag desk) its (sym tagged ∙ there)) same shared e is_back is after;
      }

  -- a store that came back is as it was, as the root joins more
  returns_on : (s : ℕ) (tag : DeskTag D) (back : D) (numbers : List ℕ)
      (mid new : List JournalEntry)
      → Returns disks s tag back mid
      → IsAmong (s + 1) numbers → Continues (IsForeign entry_number numbers) new mid
      → Returns disks s tag back new
  returns_on s tag back numbers mid new r held since = record {
    gives = r.gives;
    seen = r.seen;
    since = since_to s numbers r.seen mid new r.since held since;
    agreed = r.agreed;
    file = r.file;
  }

module _ {D : Type 0} (words : DiskWords D) (holders : List Holder) (old : List (List Entry))
    (tags : List (Option (DeskTag D))) (first : Pass (Log D) JournalEntry) where
  pub gathers_none : (backs : List D) → backs ≡ []
      → Gathers words 0 holders old tags first first backs
  gathers_none backs none = record {
    finals = [];
    many = refl;
    ends = λ s low. absurd (omega arith);
    heard = λ s low. absurd (omega arith);
    held = λ s low. absurd (omega arith);
    grows = ([], keeps_none first);
    disks = ap (λ (l : List D). length l) none;
    returns = λ s tag back low. absurd (omega arith);
  }

  -- one session more
  pub gathers_more : (n : ℕ) (mid new : Pass (Log D) JournalEntry) (backs backs' : List D)
      (back : D)
      → Gathers words n holders old tags first mid backs → BringsIn words n (holder_at holders n)
      (seen_at old n) (get_or tags n None) new back
      → KeepsRoot ((n + 1) ∷ []) mid new → backs' ≡ backs ++ back ∷ []
      → Gathers words (n + 1) holders old tags first new backs'
  gathers_more n mid new backs backs' back g b k pushed = record {
    finals = g.finals ++ b.final ∷ [];
    many = length_more g.finals b.final ∙ ap (λ (m : ℕ). m + 1) g.many;
    ends = one_more (λ (s : ℕ) (l : List Entry). EndsAt (holder_at holders s) (seen_at old s) l)
        g.finals b.final [] n g.many g.ends b.ends;
    heard = one_more (λ (s : ℕ) (l : List Entry). Heard s (seen new) l) g.finals b.final [] n
        g.many (λ s below. heard_on s (seen_at g.finals s) ((n + 1) ∷ []) mid new
        (g.heard s below) (g.held s below) k) b.heard;
    held = one_more (λ (s : ℕ) (l : List Entry). IsAmong (s + 1) (pass_numbers new)) g.finals
        b.final [] n g.many (λ s below. subst (λ (l : List ℕ). IsAmong (s + 1) l)
        (sym k.holds_both)
        (among_first (s + 1) (pass_numbers mid) ((n + 1) ∷ []) (g.held s below)))
        (subst (λ (l : List ℕ). IsAmong (n + 1) l) (sym k.holds_both)
        (among_second (n + 1) (pass_numbers mid) ((n + 1) ∷ []) (inl refl)));
    grows = (
      g.grows.0 ++ (n + 1) ∷ [],
      keeps_more g.grows.0 ((n + 1) ∷ []) first mid new g.grows.1 k,
    );
    disks = ap (λ (l : List D). length l) pushed
        ∙ (length_more backs back ∙ ap (λ (m : ℕ). m + 1) g.disks);
    returns = λ s tag there low tagged at.
        subst (λ (d : D). Returns words s tag d (seen new))
        (get_or_from_slice_get (backs ++ back ∷ []) s there there
        (ap (λ (l : List D). slice_get l s) (sym pushed) ∙ at))
        (one_more (λ (s : ℕ) (d : D). (tag : DeskTag D) → get_or tags s None ≡ Some tag
        → Returns words s tag d (seen new)) backs back there n g.disks (λ s below tag tagged.
        returns_on words s tag (get_or backs s there)
        (pass_numbers mid) (seen mid) (seen new) (g.returns s tag (get_or backs s there) below
        tagged (slice_get-get_or backs s there (let many = g.disks in omega arith)))
        (g.held s below) k.since) b.returns s low tag tagged);
  }

-- one of the passes in the place of another
pub later_on : {A : Type 0} (now old : List A) (s : ℕ) (q : A)
    → ((t : ℕ) (d : A) → s ≤ t → get_or now t d ≡ get_or old t d)
    → (t : ℕ) (d : A) → s + 1 ≤ t → get_or (set now s q) t d ≡ get_or old t d
later_on now old s q later t d low =
    get_or-set_other now s t q d (λ (e : t ≡ s). omega arith) ∙ later t d (omega arith)

-- what was brought in of a session, by its place among the passes
pub brought_at : {D : Type 0} (disks : DiskWords D)
    (passes : List (Pass (SharedState D) Entry)) (s : ℕ) (p : Pass (SharedState D) Entry)
    (root : Pass (Log D) JournalEntry) (back : D) → s < length passes → p ≡ get_or passes s p
    → BringsIn disks s (holder_of p) (seen p) (tag_of desk_tag p) root back
    → BringsIn disks s (holder_at (holders passes) s)
    (seen_at (seens passes) s) (get_or (map (tag_of desk_tag) passes) s None) root back
brought_at disks passes s p root back low at_p =
    subst (λ (x : Holder × List Entry × Option (DeskTag _)).
    BringsIn disks s x.0 x.1 x.2 root back)
    (λ i. (
      sym (holder_there passes s p low at_p) i,
      sym (seen_of_pass passes s p low at_p) i,
      sym (get_or-map (tag_of desk_tag) passes s p None low
          ∙ ap (tag_of desk_tag) (sym at_p)) i,
    ))

-- the journal has of a session what its desk has
pub heard_kept : (s : ℕ) (journal : List JournalEntry) (final : List Entry)
    → IsJournal (rows_of journal) → Heard s journal final
    → history_in journal s ≡ map unnumbered final
heard_kept s journal final rows h =
    history_in-since s journal h.seen rows h.since ∙ sym h.entries

-- what a host ends with
module _ {D : Type 0} (words : DiskWords D) (host : Host D) (passes : Passes D)
    (root : Pass (Log D) JournalEntry) (backs : List D) where
  -- all desks were brought in
  abbrev pub AllIn : Type 0
  AllIn = Gathers words 64 (holders passes.desks.items)
      (seens passes.desks.items) (map (tag_of desk_tag) passes.desks.items) host.root root backs

  pub ends_with : (log : Log D) → IsHost host → AllIn
      → Continues (IsForeign entry_number (pass_numbers root)) log.entries (seen root)
      → tag_of (λ (j : Log D). j.opening) root ≡ Some log.opening → IsJournal (rows_of log.entries)
      → EndsWith host passes log
  ends_with log whole g since tagged rows =
      let k = g.grows.1 in
      record {
        finals = g.finals;
        many = g.many;
        each = g.ends;
        kept = λ s low. heard_kept s log.entries (seen_at g.finals s) rows
            (heard_to s (seen_at g.finals s) (pass_numbers root) (seen root) log.entries
            (g.heard s low)
            (g.held s low) since);
        opening = ap (λ (x : Option (Log D)). tag_in (λ (j : Log D). j.opening) x) (sym k.kept.1)
            ∙ tagged;
        grows = subst (λ (l : List ℕ). Continues (IsForeign entry_number l) log.entries
            (seen host.root)) whole.numbered.1
            (root_on g.grows.0 host.root root log.entries k since);
      }

  -- the store of a session, and its disk
  store_returns : AreOf host passes → AllIn → (s : ℕ) (store : Snapshots D) (back : D)
      → slice_get (opened_stores host) s ≡ Some store → slice_get backs s ≡ Some back
      → Returns words s
      (tag_at host.stories.now host.budget (cell_id host.journal) (rows_at_opening host) s store)
      back (seen root)
  store_returns of g s store back there there' =
      let low = slice_get_within backs s back there' in
      let many = g.disks in
      g.returns s _ back (omega arith)
      (ap (λ (l : List (Option (DeskTag D))). get_or l s None) of.each.tagged
      ∙ tag_of_store host.stories.now host.budget (cell_id host.journal) (rows_at_opening host)
      (opened_stores host) s store there) there'

  -- the stores' disks
  pub gives_back : AreOf host passes → AllIn
      → AllZip (GivesBack words) (opened_stores host) backs
  gives_back of g = zip_of (GivesBack words) (opened_stores host) backs
      (g.disks ∙ sym of.whole.stores)
      (λ s store back there there'. (store_returns of g s store back there there').gives)

  -- which agree with the rows, where the host is sound
  pub agrees_back : (log : Log D) → AreOf host passes → AllIn
      → Continues (IsForeign entry_number (pass_numbers root)) log.entries (seen root)
      → IsJournal (rows_of log.entries) → IsSound words host
      → AreAgreedDisks words host.stories.now (rows_of log.entries) backs
  agrees_back log of g since rows sound = λ s back there.
      let low = slice_get_within backs s back there in
      let many = g.disks in
      let whole = of.whole.stores in
      let low' : s < 64 = omega arith in
      let store = get_below (opened_stores host) s (omega arith) in
      let r = store_returns of g s store.0 back store.1 there in
      let since' =
      since_to s (pass_numbers root) r.seen (seen root) log.entries r.since (g.held s low')
      since in
      subst (λ (x : List ℕ × List Command). EachImage words back
      (IsAgreedFile host.stories.now x.0 (game_of x.1)))
      (λ i. (
        sym (opens_of-since s log.entries r.seen rows since') i,
        sym (commands_of-since s log.entries r.seen rows since') i,
      ))
      (r.agreed (sound s store.0 store.1))

  -- and did since they were opened
  pub files_back : (log : Log D) → AreOf host passes → AllIn
      → Continues (IsForeign entry_number (pass_numbers root)) log.entries (seen root)
      → IsJournal (rows_of log.entries) → IsSound words host
      → KeepFiles words host.stories.now (rows_at_opening host) (rows_of log.entries)
      (opened_stores host) backs
  files_back log of g since rows sound = λ s store back there there'.
      let low = slice_get_within backs s back there' in
      let many = g.disks in
      let low' : s < 64 = omega arith in
      let r = store_returns of g s store back there there' in
      let since' =
      since_to s (pass_numbers root) r.seen (seen root) log.entries r.since (g.held s low')
      since in
      let grew : rows_of log.entries ≡ rows_of r.seen ++ rows_of since'.0 =
      ap rows_of since'.1 ∙ rows_of-append r.seen since'.0 in
      let opens = opens_of-since s log.entries r.seen rows since' in
      let f = r.file (sound s store there) in
      record {
        agreed =
            weaker words store.disk back (AgreesWithBeginning host.stories.now (rows_of r.seen) s)
            (AgreesWithBeginning host.stories.now (rows_of log.entries) s) f.agreed
            (λ file a. record {
              first = a.first;
              more = a.more ++ rows_of since'.0;
              all = grew ∙ ap (λ (x : List Row). x ++ rows_of since'.0) a.all
                  ∙ append_assoc a.first a.more (rows_of since'.0);
              agreed = a.agreed;
            });
        newest = λ journal none place least last has.
            f.newest
            (first_rows (rows_of r.seen) (rows_of since'.0) (subst IsJournal grew journal))
            (sym opens ∙ none) place least (ap last_row (sym opens) ∙ last) has;
      }
