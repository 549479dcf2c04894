-- A desk that is made warm.
use Rattle.std.proofs.Common.{◌≡◌, ◌≢◌, ℕ, ◌+◌, ◌≤◌, true, false, IsTrue, List, length}
use Rattle.std.proofs.Common.{Option, Some, IsSome, Result, Ok, Err, refl, sym, ◌∙◌}
use Rattle.std.specs.Prelude.{OnOk}
use Rattle.std.proofs.lemmas.Bool.{and_parts}
use Rattle.disk_model.specs.Disk.{Rose}
use Rattle.disk_model.specs.Work.{OnlyLooks}
use Rattle.disk_model.specs.declared.disk.Disk.{Ghosts as DiskWords}
use Rattle.turn_cell.specs.Passes.{seen}
use Rattle.gate_journal.specs.Log.{rows_of}
use Rattle.gate_journal.specs.declared.command.Command.{Command}
use Rattle.line_words.specs.declared.request.Request.{Request}
use Rattle.story_run.specs.World.{WorldState}
use Rattle.session_core.specs.Checks.{is_other_story}
use Rattle.session_core.specs.History.{is_in_use, world_of}
use Rattle.snap_store.specs.File.{area_given, newest_area}
use Rattle.snap_store.specs.Store.{store_area}
use Rattle.snap_store.specs.declared.side.Side.{Side}
use Rattle.session_saves.specs.Agreement.{IsAgreed, last_row}
use Rattle.session_saves.specs.Game.{inputs_of, turns_after}
use Rattle.session_saves.specs.Saves.{SavesState}
use Rattle.session_saves.specs.Warming.{WarmsFrom, count_in}
use Rattle.session_desk.specs.declared.held.Held.TheVariants.{Current}
use Rattle.session_desk.specs.declared.desk.mark.Mark.{Mark}
use Rattle.session_desk.specs.declared.verdict.Verdict.TheVariants.{Cold}
use Rattle.session_desk.specs.Desk.{DeskState, game, HoldsOwnWorld, is_cold, warmed}
use Rattle.session_desk.specs.Keeping.{IsWarmed}
use Rattle.session_desk.specs.Shared.{desk_tag, SharedState}
use Rattle.session_desk.specs.Sound.{IsSoundDesk, IsWhole, open_rows}
use Rattle.session_desk.specs.Verdict.{verdict}
use Rattle.session_desk.proofs.LawLemmas.{warm_tells}
use Rattle.session_desk.proofs.OpensLemmas.{in_use_row}
use Rattle.session_desk.proofs.SharedLemmas.{rows-seen}
use Rattle.session_desk.proofs.SoundLemmas.{still_tells, whole-looked}

pub cold_used : (desk : DeskState) → is_cold desk ≡ true → is_in_use (game desk) ≡ true
cold_used desk cold = (and_parts (is_in_use (game desk)) _ cold).0

is_some : (o : Option ℕ) (q : ℕ) → o ≡ Some q → IsSome o
is_some o q e = rw e refl

-- it isn't cold to any request then
warms_tell : {D : Type 0} (disks : DiskWords D) (request : Request) (old new : SharedState D)
    (before after : ℕ) → IsWarmed disks old new before after → verdict new.desk request ≢ Cold
warms_tell disks request old new before after w =
    λ e. let no = warm_tells new.desk request (rw w.holds refl) e in absurd cc

pub warms_tell_ok : {D T E : Type 0} (disks : DiskWords D) (request : Request)
    (old new : SharedState D) (before after : ℕ) (done : Result T E)
    → OnOk done (IsWarmed disks old new before after) → OnOk done (verdict new.desk request ≢ Cold)
warms_tell_ok disks request old new before after (Ok x) w =
    warms_tell disks request old new before after w
warms_tell_ok disks request old new before after (Err e) w = tt

module _ {D : Type 0} (disks : DiskWords D) where
  abbrev Whole : List Mark → Option ℕ → SharedState D → Type 0
  Whole l place state =
      IsWhole disks l place state

  -- a session in use has an OPEN row
  pub has_place : (l : List Mark) (place : Option ℕ) (old : SharedState D)
      → Whole l place old → is_in_use (game old.desk) ≡ true
      → IsSome place
  has_place l place old w used =
      let q =
      in_use_row (rows_of (seen old.pass)) old.desk.session old.desk.commands
      (rows-seen l old.desk old.pass w.marked) used in
      is_some place q.0 (w.row ∙ q.1)

  pub warms_held : (l : List Mark) (place : Option ℕ) (old : SharedState D) (saves : SavesState D)
      (g : List Command) (row : ℕ) (o : Option WorldState) (world : WorldState) (before after : ℕ)
      → Whole l place old → place ≡ Some row → g ≡ game old.desk → o ≡ Some world
      → WarmsFrom (disks.tells old.saves.store.disk) (disks.seen old.saves.store.disk) row
      (disks.faults old.saves.store.disk) (disks.faults saves.store.disk) old.desk.stories g o
      before after
      → IsWarmed disks old
      (record old { desk = warmed old.desk world; saves = saves }) before after
  warms_held l place old saves g row o world before after w at game_is is warms = record {
    world = world;
    holds = refl;
    place = row;
    row = sym w.row ∙ at;
    warms = rw (game_is, is) at warms;
  }

  -- on a sound desk with the session's own world
  pub warm_own : (l : List Mark) (place : Option ℕ) (old : SharedState D)
      (g : List Command) (row : ℕ) (o : Option WorldState) (world : WorldState)
      → Whole l place old → place ≡ Some row → g ≡ game old.desk → o ≡ Some world
      → is_other_story old.desk.stories (game old.desk) ≡ false
      → ((rows : List ℕ) → IsTrue (disks.tells old.saves.store.disk) → last_row rows ≡ Some row
      → is_other_story old.desk.stories g ≡ false
      → IsAgreed disks.seen old.desk.stories rows g old.saves.store
      → o ≡ world_of old.desk.stories g)
      → IsSoundDesk disks (desk_tag old)
      → HoldsOwnWorld old.desk.stories (game old.desk) (Current world)
  warm_own l place old g row o world w at game_is is other value sound =
      let told =
      still_tells disks old.store old.saves.store w.store sound.0 in
      let own =
      sym (value (open_rows old) told (sym w.row ∙ at) (rw game_is other)
      (rw game_is (w.own sound).agreed)) ∙ is in
      rw game_is at own

  -- and in so many steps
  pub warm_cost : (l : List Mark) (place : Option ℕ) (old : SharedState D) (saves : SavesState D)
      (g : List Command) (row : ℕ) (before after : ℕ)
      → Whole l place old → place ≡ Some row → g ≡ game old.desk
      → is_other_story old.desk.stories (game old.desk) ≡ false
      → ((rows : List ℕ) → IsTrue (disks.tells old.saves.store.disk)
      → (Rose (disks.faults old.saves.store.disk) (disks.faults saves.store.disk) → ⊥)
      → last_row rows ≡ Some row
      → is_other_story old.desk.stories g ≡ false
      → IsAgreed disks.seen old.desk.stories rows g old.saves.store
      → after ≡ before + turns_after old.desk.stories g (count_in
      (area_given (newest_area row (length (inputs_of g)) (disks.seen old.saves.store.disk)))))
      → (p : ℕ) → IsSoundDesk disks (desk_tag old)
      → (Rose (disks.faults old.saves.store.disk) (disks.faults saves.store.disk) → ⊥)
      → last_row (open_rows old) ≡ Some p
      → after ≡ before + turns_after old.desk.stories (game old.desk)
      (count_in (area_given
      (newest_area p (length (inputs_of (game old.desk))) (disks.seen old.saves.store.disk))))
  warm_cost l place old saves g row before after w at game_is other cost p sound steady last =
      let told =
      still_tells disks old.store old.saves.store w.store sound.0 in
      let both = sym at ∙ w.row ∙ last in
      let is : row ≡ p = cc in
      let taken =
      cost (open_rows old) told steady (sym w.row ∙ at) (rw game_is other)
      (rw game_is (w.own sound).agreed) in
      rw (game_is, is) at taken

  pub whole_warmed :
      (counts_now : (d : D) (t : ℕ) (c : List ℕ) → t ≤ disks.moment d → disks.may_leave d c
      → disks.left_since d t c)
      (l : List Mark) (place : Option ℕ) (old : SharedState D) (saves : SavesState D)
      (world : WorldState)
      → Whole l place old
      → OnlyLooks disks old.saves.store.disk saves.store.disk
      → disks.faults old.saves.store.disk ≤ disks.faults saves.store.disk
      → ((side : Side) → IsTrue (disks.tells old.saves.store.disk)
      → store_area disks.seen saves.store side ≡ store_area disks.seen old.saves.store side)
      → (saves.store.made ≡ old.saves.store.made)
      × (saves.store.slots ≡ old.saves.store.slots)
      × (saves.missed ≡ old.saves.missed)
      × (saves.last ≡ old.saves.last)
      → (IsSoundDesk disks (desk_tag old)
      → HoldsOwnWorld old.desk.stories (game old.desk) (Current world))
      → Whole l place (record old { desk = warmed old.desk world; saves = saves })
  whole_warmed counts_now l place old saves world w looks counts areas slots holds =
      whole-looked disks counts_now l
      place old (Current world) saves w looks counts areas slots.0 slots.1 slots.2 holds

  -- where memory ran out
  pub whole_cold :
      (counts_now : (d : D) (t : ℕ) (c : List ℕ) → t ≤ disks.moment d → disks.may_leave d c
      → disks.left_since d t c)
      (l : List Mark) (place : Option ℕ) (old : SharedState D) (saves : SavesState D)
      → Whole l place old
      → OnlyLooks disks old.saves.store.disk saves.store.disk
      → disks.faults old.saves.store.disk ≤ disks.faults saves.store.disk
      → ((side : Side) → IsTrue (disks.tells old.saves.store.disk)
      → store_area disks.seen saves.store side ≡ store_area disks.seen old.saves.store side)
      → (saves.store.made ≡ old.saves.store.made)
      × (saves.store.slots ≡ old.saves.store.slots)
      × (saves.missed ≡ old.saves.missed)
      × (saves.last ≡ old.saves.last)
      → Whole l place (record old { saves = saves })
  whole_cold counts_now l place old saves w looks counts areas slots =
      whole-looked disks counts_now l
      place old old.desk.held saves w looks counts areas slots.0 slots.1 slots.2
      (λ sound. (w.own sound).holds)
