-- A session that is warmed from an area that agrees with its commands comes to its own world.
use Rattle.std.proofs.Common.{◌≡◌, ◌∙◌, ◌+◌, ℕ, Bool, false, List, length, take, drop, Option, Some}
use Rattle.std.proofs.Common.{None, inl, inr, refl, sym, ap, subst, arith}
use Rattle.std.specs.Prelude.{IfSome}
use Rattle.story_text.specs.declared.input.Input.{Input}
use Rattle.gate_journal.specs.declared.command.Command.{Command}
use Rattle.story_run.specs.declared.story.Story.{Story}
use Rattle.story_run.specs.World.{WorldState}
use Rattle.story_run.specs.Solo.{opening, turned_by, world_after}
use Rattle.story_snap.specs.Bytes.{HasBytes}
use Rattle.story_snap.specs.Laws.{HasOneWorld}
use Rattle.session_core.specs.Checks.{is_other_story}
use Rattle.session_core.specs.History.{world_of}
use Rattle.session_core.specs.Turns.{turns_by}
use Rattle.snap_store.specs.File.{area_given, newest_area}
use Rattle.snap_store.specs.Store.{Snapshots, IsGiven}
use Rattle.snap_store.specs.declared.area.Area.{Area}
use Rattle.session_saves.specs.Agreement.{IsAgreed, last_row}
use Rattle.session_saves.specs.Game.{inputs_of, played, opening_setup, opened_story}
use Rattle.session_saves.specs.Game.{turns_after, turns_of_inputs, world_at}
use Rattle.session_saves.specs.Warming.{Beginning, BeginsWith, Warms, WarmsFrom, WarmsIn, at_start}
use Rattle.session_saves.specs.Warming.{count_in}
use Rattle.session_saves.proofs.GameLemmas.{image-world_after, turned_by-rest, world_at-all}
use Rattle.std.proofs.Math.Seq.{take-length}

-- the world of a story that is there
pub at_story : (stories : List Story) (game : List Command) (story : Story) (n : ℕ)
    → opened_story stories game ≡ Some story
    → world_at stories game n ≡ Some
    (world_after story.image (opening_setup game) (take n (inputs_of game)))
at_story stories game story n e =
    ap (λ (o : Option Story). played o (opening_setup game) (take n (inputs_of game))) e

-- a beginning that is the game's own world after so many inputs
pub record IsOwn (stories : List Story) (game : List Command) (story : Story) (area : Option Area)
    (b : Beginning) : Type 0 where
  pub count : b.count ≡ count_in area
  pub world : b.world ≡ world_after story.image (opening_setup game) (take b.count (inputs_of game))

starts : (stories : List Story) (game : List Command) (story : Story) (area : Option Area)
    (b : Beginning)
    → count_in area ≡ 0 → b ≡ at_start story (opening_setup game) → IsOwn stories game story area b
starts stories game story area b none e = rw e (record { count = sym none; world = refl })

begins_none : (stories : List Story) (game : List Command) (story : Story) (b : Beginning)
    → BeginsWith story (opening_setup game) None b
    → IsOwn stories game story None b
begins_none stories game story b e = starts stories game story None b refl e

module _ {D : Type 0} (seen : D
    → List ℕ) (one : HasOneWorld) (stories : List Story) (rows : List ℕ) (game : List Command)
    (place : ℕ) (store : Snapshots D)
    (last : last_row rows ≡ Some place) (same : is_other_story stories game ≡ false)
    (agreed : IsAgreed seen stories rows game store)
    (story : Story) (there : opened_story stories game ≡ Some story) where
  -- the bytes that were given are those of the game's own world
  own_bytes : (most : ℕ) (area : Area) → IsGiven seen store place most area
      → HasBytes story.image area.bytes
      (world_after story.image (opening_setup game) (take area.count (inputs_of game)))
  own_bytes most area given =
      let own = world_after story.image (opening_setup game) (take area.count (inputs_of game)) in
      let agrees = agreed given.side given.area given.kept in
      let at = ap (λ (n : ℕ). world_at stories game n) (sym given.count)
      ∙ at_story stories game story area.count there in
      let has = agrees.holds (last ∙ ap (λ (p : ℕ). Some p) (sym given.row)) same own at in
      subst (λ (l : List ℕ). HasBytes l area.bytes own)
      (image-world_after story.image (opening_setup game) (take area.count (inputs_of game)))
      (subst (λ (l : List ℕ). HasBytes own.image l own) (sym given.bytes) has)

  begins_some : (most : ℕ) (area : Area) (b : Beginning) → IsGiven seen store place most area
      → BeginsWith story (opening_setup game) (Some area) b
      → IsOwn stories game story (Some area) b
  begins_some most area b given (inl (counts, has)) =
      let own = own_bytes most area given in
      record {
        count = counts;
        world = one story.image area.bytes b.world _ has own
            ∙ ap (λ (n : ℕ). world_after story.image (opening_setup game) (take n (inputs_of game)))
            (sym counts);
      }
  begins_some most area b given (inr (none, _)) = absurd (none _ (own_bytes most area given))

  pub begins_own : (most : ℕ) (area : Option Area) (b : Beginning)
      → IfSome area (IsGiven seen store place most) → BeginsWith story (opening_setup game) area b
      → IsOwn stories game story area b
  begins_own most None b given begins = begins_none stories game story b begins
  begins_own most (Some area) b given begins = begins_some most area b given begins

  pub warms_own : (most : ℕ) (area : Option Area) (world : WorldState) (before after : ℕ)
      → IfSome area (IsGiven seen store place most)
      → Warms story (opening_setup game) (inputs_of game) area world before after
      → (Some world ≡ world_of stories game)
      × (after ≡ before + turns_after stories game (count_in area))
  warms_own most area world before after given warms =
      let b = warms.begins in
      let own = begins_own most area b given warms.with_area in
      let comes : world ≡ world_after story.image (opening_setup game) (inputs_of game) =
      warms.comes_to ∙ ap (λ (w : WorldState). turned_by w (drop b.count (inputs_of game)))
      own.world
      ∙ turned_by-rest (opening story.image (opening_setup game)) b.count (inputs_of game) in
      let all : Some (world_after story.image (opening_setup game)
      (take (length (inputs_of game)) (inputs_of game))) ≡ world_of stories game =
      sym (at_story stories game story (length (inputs_of game)) there)
      ∙ world_at-all stories game in
      let turns : turns_of_inputs (world_at stories game b.count)
      (drop b.count (inputs_of game)) ≡ turns_by b.world (drop b.count (inputs_of game)) =
      ap (λ (o : Option WorldState). turns_of_inputs o (drop b.count (inputs_of game)))
      (at_story stories game story b.count there
      ∙ ap (λ (w : WorldState). Some w) (sym own.world)) in (
        ap (λ (w : WorldState). Some w) comes
            ∙ ap (λ (l : List Input). Some (world_after story.image (opening_setup game) l))
            (sym (take-length (inputs_of game)))
            ∙ all,
        warms.takes ∙ ap (λ (n : ℕ). before + n) (sym turns
            ∙ ap (λ (n : ℕ). turns_after stories game n) own.count),
      )

-- ---- where its story isn't there

pub no_story :
    (told : Bool) (file : List ℕ) (place faults : ℕ) (stories : List Story) (game : List Command)
    (steps : ℕ) → opened_story stories game ≡ None
    → WarmsFrom told file place faults faults stories game None steps steps
no_story told file place faults stories game steps e =
    record {
      area = area_given (newest_area place (length (inputs_of game)) file);
      finds = record { newest = λ _ _. refl; failed = λ rose. absurd (omega (arith, rose)) };
      warms = subst (λ (o : Option Story).
          WarmsIn o (opening_setup game) (inputs_of game)
          (area_given (newest_area place (length (inputs_of game)) file)) None steps steps) (sym e)
          refl;
    }
