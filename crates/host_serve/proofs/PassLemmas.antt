-- The passes of all sessions, and one of them in the place of another.
use Rattle.std.proofs.Common.{◌≡◌, ℕ, zero, suc, ◌+◌, ◌<◌, ◌≤◌, List, [], ◌∷◌, ◌++◌, length, get_or}
use Rattle.std.proofs.Common.{set, ap, sym, ◌∙◌, refl, subst, inl, arith, Option, Some, None}
use Rattle.std.specs.Prelude.{slice_get}
use Rattle.std.proofs.lemmas.List.{length-map, map-set, get_or-map}
use Rattle.std.proofs.lemmas.Option.{slice_get_within}
use Rattle.std.proofs.Math.Seq.{map-set_same}
use Rattle.atomic_table.specs.Seated.{TableId}
use Rattle.turn_cell.specs.declared.pass.Pass.{Pass}
use Rattle.turn_cell.specs.declared.cell.Cell.{Cell}
use Rattle.turn_cell.specs.Passes.{IsOf, IsOutside, KeepsNumbers, made, sample, seen, tag_of}
use Rattle.turn_cell.specs.Views.{tag_in}
use Rattle.gate_journal.specs.declared.row.Row.{Row}
use Rattle.snap_store.specs.Store.{Snapshots}
use Rattle.story_run.specs.declared.story.Story.{Story}
use Rattle.session_core.specs.declared.entry.Entry.{Entry}
use Rattle.session_core.specs.Hosts.{session_on}
use Rattle.session_desk.specs.Shared.{DeskTag}
use Rattle.host_serve.specs.Holders.{Holder, nobody, holder_of, holder_at, seen_at, holders, seens}
use Rattle.host_serve.specs.declared.host.Host.{Host}
use Rattle.host_serve.specs.Hosts.{ArePasses, IsTagOf, cell_id, pass_id, rows_at_opening}
use Rattle.host_serve.specs.Hosts.{opened_stores, tag_at, tags_from, tags_in}
use Rattle.host_serve.specs.Serves.{AnsweredLine}
use Rattle.host_serve.specs.Chain.{TurnsIn, Answers}
use Rattle.host_serve.proofs.ListLemmas.{each_at, each_set, same_some}

plus_none : (n : ℕ) → n ≡ n + 0
plus_none n = omega arith

module _ {D : Type 0} (stories : List Story) (budget : ℕ) (journal : TableId) (rows : List Row)
  where
    -- the tag of each session's desk, from this session on
    pub tag_there : (first : ℕ) (stores : List (Snapshots D)) (s : ℕ)
        (other : Option (DeskTag D)) → s < length stores
        → (store : Snapshots D) × (slice_get stores s ≡ Some store)
        × (get_or (tags_from stories budget journal rows first stores) s other
        ≡ Some (tag_at stories budget journal rows (first + s) store))
    tag_there first [] s other low = absurd (omega arith)
    tag_there first (store ∷ stores) zero other low = (
      store,
      refl,
      ap (λ (k : ℕ). Some (tag_at stories budget journal rows k store)) (plus_none first),
    )
    tag_there first (store ∷ stores) (suc s) other low =
        let more = tag_there (first + 1) stores s other (omega arith) in
        let next : (first + 1) + s ≡ first + suc s = omega arith in (
          more.0,
          more.1,
          more.2 ∙ ap (λ (k : ℕ). Some (tag_at stories budget journal rows k more.0)) next,
        )

    pub tag_of_store : (stores : List (Snapshots D)) (s : ℕ) (store : Snapshots D)
        → slice_get stores s ≡ Some store
        → get_or (tags_from stories budget journal rows 0 stores) s None
        ≡ Some (tag_at stories budget journal rows s store)
    tag_of_store stores s store is =
        let there = tag_there 0 stores s None (slice_get_within stores s store is) in
        let same : 0 + s ≡ s = omega arith in
        there.2 ∙ (λ i. Some (tag_at stories budget journal rows (same i)
        (same_some there.0 store (sym there.1 ∙ is) i)))

    -- with one store more
    pub tags_more : (first : ℕ) (stores : List (Snapshots D)) (store : Snapshots D)
        → tags_from stories budget journal rows first (stores ++ store ∷ [])
        ≡ tags_from stories budget journal rows first stores
        ++ Some (tag_at stories budget journal rows (first + length stores) store) ∷ []
    tags_more first [] store =
        ap (λ (k : ℕ). Some (tag_at stories budget journal rows k store) ∷ [])
        (plus_none first)
    tags_more first (x ∷ stores) store =
        let next : (first + 1) + length stores ≡ first + suc (length stores) = omega arith in
        ap (λ (l : List (Option (DeskTag D))). Some
        (tag_at stories budget journal rows first x) ∷ l)
        (tags_more (first + 1) stores store
        ∙ ap (λ (k : ℕ). tags_from stories budget journal rows (first + 1) stores
        ++ Some (tag_at stories budget journal rows k store) ∷ []) next)

-- the tag of a host's desk
pub tag_in_host : {D : Type 0} (host : Host D) (s n : ℕ) (tag : Option (DeskTag D))
    → length (opened_stores host) ≡ 64 → s < 64 → s ≡ n → tag ≡ get_or (tags_in host) s None
    → IsTagOf host n tag
tag_in_host host s n tag many low named is =
    let there = tag_there host.stories.now host.budget (cell_id host.journal)
    (rows_at_opening host) 0 (opened_stores host) s None (omega arith) in
    let same : 0 + s ≡ n = omega arith in (
      there.0,
      ap (λ (k : ℕ). slice_get (opened_stores host) k) (sym named) ∙ there.1,
      is ∙ (there.2 ∙ ap (λ (k : ℕ). Some (tag_at host.stories.now host.budget
          (cell_id host.journal) (rows_at_opening host) k there.0)) same),
    )

module _ {T E G : Type 0} (tag : T → G) (tags : List (Option G)) where
  pub as_many : (cells : List (Cell T E)) (passes : List (Pass T E))
      → ArePasses tag tags cells passes → length passes ≡ length cells
  as_many cells passes a = sym (length-map passes pass_id)
      ∙ (ap (λ (l : List TableId). length l) (sym a.same) ∙ length-map cells cell_id)

  pub pass_ready : (cells : List (Cell T E)) (passes : List (Pass T E)) (s : ℕ) (c : Cell T E)
      (p : Pass T E) → ArePasses tag tags cells passes → s < length cells → c ≡ get_or cells s c
      → p ≡ get_or passes s p → IsOf c p × IsOutside p
  pass_ready cells passes s c p a low at_c at_p = let many = as_many cells passes a in
      let low' : s < length passes = omega arith in (
        ap (λ (q : Pass T E). pass_id q) at_p
            ∙ (sym (get_or-map (λ (q : Pass T E). pass_id q) passes s p (cell_id c) low')
            ∙ (ap (λ (l : List TableId). get_or l s (cell_id c)) (sym a.same)
            ∙ (get_or-map (λ (d : Cell T E). cell_id d) cells s c (cell_id c) low
            ∙ ap (λ (d : Cell T E). cell_id d) (sym at_c)))),
        subst IsOutside (sym at_p) (each_at IsOutside passes s p a.outside low'),
      )

  pub pass_tagged : (cells : List (Cell T E)) (passes : List (Pass T E)) (s : ℕ) (p : Pass T E)
      → ArePasses tag tags cells passes → s < length cells → p ≡ get_or passes s p
      → tag_of tag p ≡ get_or tags s None
  pass_tagged cells passes s p a low at_p = let many = as_many cells passes a in
      ap (λ (q : Pass T E). tag_of tag q) at_p
      ∙ (sym (get_or-map (λ (q : Pass T E). tag_of tag q) passes s p None (omega arith))
      ∙ ap (λ (l : List (Option G)). get_or l s None) a.tagged)

  -- another pass of the same cell in the place of one of them
  pub are_put : (cells : List (Cell T E)) (passes : List (Pass T E)) (s : ℕ) (c : Cell T E)
      (p q : Pass T E) → ArePasses tag tags cells passes → s < length cells
      → c ≡ get_or cells s c → p ≡ get_or passes s p → IsOf c q → IsOutside q
      → sample q ≡ sample p → ArePasses tag tags cells (set passes s q)
  are_put cells passes s c p q a low at_c at_p of outside kept =
      let ready = pass_ready cells passes s c p a low at_c at_p in
      record {
        same = a.same ∙ sym (map-set_same (λ (r : Pass T E). pass_id r) passes s q p
            (of ∙ (sym ready.0 ∙ ap (λ (r : Pass T E). pass_id r) at_p)));
        outside = each_set IsOutside passes s q a.outside outside;
        tagged = map-set_same (λ (r : Pass T E). tag_of tag r) passes s q p
            (ap (λ (x : Option T). tag_in tag x) kept
            ∙ ap (λ (r : Pass T E). tag_of tag r) at_p) ∙ a.tagged;
      }

  pub are_still : (cells : List (Cell T E)) (passes : List (Pass T E)) (s : ℕ) (c : Cell T E)
      (p q : Pass T E) → ArePasses tag tags cells passes → s < length cells
      → c ≡ get_or cells s c → p ≡ get_or passes s p → IsOf c q → IsOutside q → KeepsNumbers p q
      → ArePasses tag tags cells (set passes s q)
  are_still cells passes s c p q a low at_c at_p of outside kept =
      are_put cells passes s c p q a low at_c at_p of outside kept.2

  pub holders_many : (cells : List (Cell T E)) (passes : List (Pass T E))
      → ArePasses tag tags cells passes → length cells ≡ 64 → length (holders passes) ≡ 64
  holders_many cells passes a many =
      length-map passes holder_of ∙ (as_many cells passes a ∙ many)

  pub seens_many : (cells : List (Cell T E)) (passes : List (Pass T E))
      → ArePasses tag tags cells passes → length cells ≡ 64 → length (seens passes) ≡ 64
  seens_many cells passes a many = length-map passes seen ∙ (as_many cells passes a ∙ many)

pub holders_still : {T E : Type 0} (passes : List (Pass T E)) (s : ℕ) (p q : Pass T E)
    → p ≡ get_or passes s p → KeepsNumbers p q → made q ≡ made p
    → holders (set passes s q) ≡ holders passes
holders_still passes s p q at_p kept made_kept =
    let same : holder_of q ≡ holder_of p =
    λ i. record { number = kept.0 i; made = made_kept i; holds = kept.1 i } in
    map-set_same holder_of passes s q p (same ∙ ap holder_of at_p)

-- who holds a session's pass, and what that has seen
pub holder_there : {T E : Type 0} (passes : List (Pass T E)) (s : ℕ) (p : Pass T E)
    → s < length passes → p ≡ get_or passes s p → holder_at (holders passes) s ≡ holder_of p
holder_there passes s p low at_p =
    get_or-map holder_of passes s p nobody low ∙ ap holder_of (sym at_p)

pub seen_of_pass : {T : Type 0} (passes : List (Pass T Entry)) (s : ℕ) (p : Pass T Entry)
    → s < length passes → p ≡ get_or passes s p → seen_at (seens passes) s ≡ seen p
seen_of_pass passes s p low at_p = get_or-map seen passes s p [] low ∙ ap seen (sym at_p)

-- a pass that stands where it stood
pub pass_at : {A : Type 0} (now old : List A) (s : ℕ) (p : A) → p ≡ get_or now s p
    → ((t : ℕ) (d : A) → s ≤ t → get_or now t d ≡ get_or old t d)
    → get_or now s p ≡ get_or old s (get_or now s p)
pass_at now old s p is later =
    ap (λ (d : _). get_or now s d) is ∙ later s (get_or now s p) (omega arith)

-- a turn by one of the passes
pub answers_in : {T : Type 0} (stories : List Story) (budget : ℕ) (sound : Type 0)
    (passes : List (Pass T Entry))
    (s : ℕ) (p q : Pass T Entry) (t : AnsweredLine) → length passes ≡ 64 → p ≡ get_or passes s p
    → s < 64 → t.mark.session ≡ s → session_on t.line ≡ s
    → TurnsIn stories budget sound (holder_of p) (seen p) t (seen q)
    → Answers stories budget sound (holders passes) (seens passes) t (seens (set passes s q))
answers_in stories budget sound passes s p q t many at_p low marked named turn =
    let low' : s < length passes = omega arith in
    let h : holder_at (holders passes) t.mark.session ≡ holder_of p =
    ap (λ (k : ℕ). holder_at (holders passes) k) marked ∙ holder_there passes s p low' at_p in
    let l : seen_at (seens passes) t.mark.session ≡ seen p =
    ap (λ (k : ℕ). seen_at (seens passes) k) marked ∙ seen_of_pass passes s p low' at_p in
    inl (record {
      session = (omega arith, marked ∙ sym named);
      after = seen q;
      turn = subst (λ (x : Holder × List Entry). TurnsIn stories budget sound x.0 x.1 t (seen q))
          (λ i. (sym h i, sym l i)) turn;
      seen = map-set seen passes s q
          ∙ ap (λ (k : ℕ). set (seens passes) k (seen q)) (sym marked);
    })
