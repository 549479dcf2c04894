-- The desks of a host as it is opened.
use Rattle.std.proofs.Common.{◌≡◌, ℕ, ◌+◌, ◌≤◌, List, [], ◌∷◌, ◌++◌, length, map, refl, ap, sym}
use Rattle.std.proofs.Common.{◌∙◌, subst, arith, append_assoc, Some, vec_capacity}
use Rattle.std.proofs.lemmas.List.{length-map, map-append}
use Rattle.std.proofs.lemmas.List.FromFn.{map-range_with_len_more}
use Rattle.atomic_table.specs.Seated.{TableId}
use Rattle.turn_cell.specs.declared.cell.Cell.{Cell}
use Rattle.turn_cell.specs.declared.pass.Pass.{Pass}
use Rattle.turn_cell.specs.Passes.{IsOf, IsOutside, pass_numbers, made, pass_number, seen, tag_of}
use Rattle.turn_cell.proofs.HistoryLemmas.{each_append}
use Rattle.gate_journal.specs.Command.{IsBudget}
use Rattle.gate_journal.specs.Log.{Log, Opening, rows_kept, rows_of}
use Rattle.gate_journal.proofs.LogLemmas.{rows_of-all}
use Rattle.gate_journal.specs.declared.entry.Entry.{Entry as JournalEntry}
use Rattle.gate_journal.specs.declared.entry.Entry.TheVariants.{Kept}
use Rattle.gate_journal.specs.declared.row.Row.{Row}
use Rattle.story_run.specs.declared.story.Story.{Story}
use Rattle.session_core.specs.declared.entry.Entry.{Entry}
use Rattle.session_desk.specs.Shared.{SharedState, desk_tag}
use Rattle.session_desk.specs.Turn.{history_in}
use Rattle.snap_store.specs.Store.{Snapshots}
use Rattle.host_serve.specs.declared.host.Host.{Host}
use Rattle.host_serve.specs.declared.host.Passes.{Passes}
use Rattle.host_serve.specs.Holders.{holder_of, holders, seens}
use Rattle.host_serve.specs.Hosts.{ArePasses, cell_id, pass_id, rows_at_opening, sessions_below}
use Rattle.host_serve.specs.Hosts.{opened_stores, tag_at, tags_from}
use Rattle.host_serve.specs.Opening.{AreOpenedDesks, IsOpenedHost, IsOpenedDesk, lone}
use Rattle.host_serve.proofs.ListLemmas.{length_more}
use Rattle.host_serve.proofs.PassLemmas.{tags_more}

-- one value more for the next session
map_more : {A : Type 0} (f : ℕ → A) (n : ℕ) (all : List A) (x : A)
    → all ≡ map f (sessions_below n) → x ≡ f n
    → all ++ x ∷ [] ≡ map f (sessions_below (n + 1))
unfolding sessions_below
map_more f n all x is there =
    (λ i. is i ++ there i ∷ []) ∙ sym (map-range_with_len_more f 0 n n (omega arith))

from_none : (n : ℕ) → n ≡ 0 + n
from_none n = omega arith

module _ {D : Type 0} (stories : List Story) (budget : ℕ) (journal : TableId) (rows : List Row)
  where
    -- one desk more
    pub desks_more : (stores : List (Snapshots D)) (store : Snapshots D)
        (cells : List (Cell (SharedState D) Entry)) (passes : List (Pass (SharedState D) Entry))
        (c : Cell (SharedState D) Entry) (p : Pass (SharedState D) Entry)
        → AreOpenedDesks stories budget journal rows stores cells passes
        → IsOpenedDesk stories budget journal rows (length stores) store c p
        → AreOpenedDesks stories budget journal rows (stores ++ store ∷ []) (cells ++ c ∷ [])
        (passes ++ p ∷ [])
    desks_more stores store cells passes c p are is = let long =
        length_more stores store in record {
          many = length_more cells c ∙ (ap (λ (k : ℕ). k + 1) are.many ∙ sym long);
          each = record {
            same = map-append cell_id cells (c ∷ []) ∙ ((λ i. are.each.same i ++ sym is.of i ∷ [])
                ∙ sym (map-append pass_id passes (p ∷ [])));
            outside = each_append IsOutside passes (p ∷ []) are.each.outside (is.outside, tt);
            tagged = map-append (tag_of desk_tag) passes (p ∷ [])
                ∙ ((λ i. are.each.tagged i ++ is.tagged i ∷ [])
                ∙ (ap (λ (k : ℕ). tags_from stories budget journal rows 0 stores
                ++ Some (tag_at stories budget journal rows k store) ∷ [])
                (from_none (length stores))
                ∙ sym (tags_more stories budget journal rows 0 stores store)));
          };
          roots = map-append holder_of passes (p ∷ [])
              ∙ (map_more (λ (s : ℕ). lone) (length stores) (holders passes) (holder_of p) are.roots
              is.root ∙ ap (λ (k : ℕ). map (λ (s : ℕ). lone) (sessions_below k)) (sym long));
          histories = map-append seen passes (p ∷ [])
              ∙ (map_more (history_in (rows_kept rows)) (length stores) (seens passes) (seen p)
              are.histories is.history
              ∙ ap (λ (k : ℕ). map (history_in (rows_kept rows)) (sessions_below k)) (sym long));
        }

    pub desks_none : (cells : List (Cell (SharedState D) Entry))
        (passes : List (Pass (SharedState D) Entry)) → cells ≡ [] → passes ≡ []
        → AreOpenedDesks stories budget journal rows [] cells passes
    unfolding sessions_below
    desks_none cells passes no_cells no_passes =
        subst (λ (x : List (Cell (SharedState D) Entry) × List (Pass (SharedState D) Entry)).
        AreOpenedDesks stories budget journal rows [] x.0 x.1)
        (λ i. (sym no_cells i, sym no_passes i))
        (record {
          many = refl;
          each = record { same = refl; outside = tt; tagged = refl };
          roots = refl;
          histories = refl;
        })

    pub desks_pushed : (stores : List (Snapshots D)) (store : Snapshots D)
        (cells cells' : List (Cell (SharedState D) Entry))
        (passes passes' : List (Pass (SharedState D) Entry)) (c : Cell (SharedState D) Entry)
        (p : Pass (SharedState D) Entry) → cells' ≡ cells ++ c ∷ [] → passes' ≡ passes ++ p ∷ []
        → AreOpenedDesks stories budget journal rows stores cells passes
        → IsOpenedDesk stories budget journal rows (length stores) store c p
        → AreOpenedDesks stories budget journal rows (stores ++ store ∷ []) cells' passes'
    desks_pushed stores store cells cells' passes passes' c p more more' are is =
        subst (λ (x : List (Cell (SharedState D) Entry) × List (Pass (SharedState D) Entry)).
        AreOpenedDesks stories budget journal rows (stores ++ store ∷ []) x.0 x.1)
        (λ i. (sym more i, sym more' i)) (desks_more stores store cells passes c p are is)

    -- the desk of the next store, whose session has this number
    pub stores_next : (all done rest : List (Snapshots D)) (store : Snapshots D)
        (cells cells' : List (Cell (SharedState D) Entry))
        (passes passes' : List (Pass (SharedState D) Entry)) (c : Cell (SharedState D) Entry)
        (p : Pass (SharedState D) Entry) (s : ℕ) (root : Pass (Log D) JournalEntry)
        → all ≡ done ++ store ∷ rest → cells' ≡ cells ++ c ∷ [] → passes' ≡ passes ++ p ∷ []
        → s ≡ length done → AreOpenedDesks stories budget journal rows done cells passes
        → IsOpenedDesk stories budget journal rows s store c p × (made root ≡ s + 1)
        → (opened : List (Snapshots D)) × (all ≡ opened ++ rest)
        × AreOpenedDesks stories budget journal rows opened cells' passes'
        × (made root ≡ length opened)
    stores_next all done rest store cells cells' passes passes' c p s root is more more' at are
        its = (
          done ++ store ∷ [],
          is ∙ sym (append_assoc done (store ∷ []) rest),
          desks_pushed done store cells cells' passes passes' c p more more' are
              (subst (λ (n : ℕ). IsOpenedDesk stories budget journal rows n store c p) at its.0),
          its.1 ∙ (ap (λ (n : ℕ). n + 1) at ∙ sym (length_more done store)),
        )

module _ {D : Type 0} where
  -- the host of a journal that was just opened, and of these stores
  pub opened_host : (stories : List Story) (budget : ℕ) (copies rows : List Row)
      (stores : List (Snapshots D)) (opening : Opening D) (host : Host D) (passes : Passes D)
      → IsBudget budget
      → host.stories.now ≡ stories → host.budget ≡ budget → copies ≡ rows
      → opened_stores host ≡ stores → length stores ≡ 64
      → (host.room.items ≡ []) × (64 ≤ vec_capacity host.room)
      → AreOpenedDesks stories budget (cell_id host.journal) copies stores host.desks.items
      passes.desks.items
      → IsOf host.journal host.root × IsOutside host.root
      → (pass_number host.root ≡ 0) × (pass_numbers host.root ≡ 0 ∷ [])
      → tag_of (λ (j : Log D). j.opening) host.root ≡ Some opening → seen host.root ≡ rows_kept rows
      → IsOpenedHost stories budget rows opening host passes
  opened_host stories budget copies rows stores opening host passes within is_stories is_budget same
      is_stores many room had root own tagged begins =
      let are = subst (λ (l : List Row). AreOpenedDesks stories budget (cell_id host.journal) l
      stores host.desks.items passes.desks.items) same had in
      let is_rows : rows_at_opening host ≡ rows =
      ap (λ (l : List JournalEntry). rows_of l) begins ∙ rows_of-all rows in
      record {
        of = record {
          whole = record {
            many = are.many ∙ many;
            stores = ap (λ (l : List (Snapshots D)). length l) is_stores ∙ many;
            budget = subst IsBudget (sym is_budget) within;
            root = root;
            numbered = own;
            room = room;
          };
          each = subst (λ (x : List Story × ℕ × List Row × List (Snapshots D)). ArePasses desk_tag
              (tags_from x.0 x.1 (cell_id host.journal) x.2 0 x.3) host.desks.items
              passes.desks.items)
              (λ i. (sym is_stories i, sym is_budget i, sym is_rows i, sym is_stores i)) are.each;
        };
        stories = is_stories;
        budget = is_budget;
        root = tagged;
        begins = begins;
        alone = are.roots ∙ ap (λ (k : ℕ). map (λ (s : ℕ). lone) (sessions_below k)) many;
        histories = are.histories
            ∙ ap (λ (k : ℕ). map (history_in (rows_kept rows)) (sessions_below k)) many;
      }

  -- the opening of a journal, by its rows
  pub opening_on : (disk : D) (log : Log D) → log.entries ≡ rows_kept (rows_of log.entries)
      → log.opening ≡ record { disk = disk; found = length log.entries }
      → log.opening ≡ record { disk = disk; found = length (rows_of log.entries) }
  opening_on disk log fresh is = is
      ∙ ap (λ (n : ℕ). record { disk = disk; found = n })
      (ap (λ (l : List JournalEntry). length l) fresh
      ∙ length-map (rows_of log.entries) Kept)
