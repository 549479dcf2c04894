-- What is held of a game with one command more.
use Rattle.std.proofs.Common.{◌≡◌, ◌==◌, ◌<◌, arith, Bool, true, false, cond, List, [], ◌∷◌}
use Rattle.std.proofs.Common.{◌++◌, length, Option, Some, None, refl, sym, ap, ◌∙◌}
use Rattle.std.proofs.lemmas.List.{length-append}
use Rattle.gate_journal.specs.Rows.{is_open}
use Rattle.gate_journal.specs.declared.command.Command.{Command}
use Rattle.gate_journal.specs.declared.command.Command.TheVariants as commands
use Rattle.story_run.specs.declared.story.Story.{Story}
use Rattle.story_run.specs.World.{WorldState}
use Rattle.story_run.specs.Solo.{last_lines}
use Rattle.session_core.specs.History.{game_of, input_of, is_in_use, game_goes_on, last_of}
use Rattle.session_core.specs.History.{turned_on, world_of}
use Rattle.session_core.specs.Checks.{input_given}
use Rattle.session_core.specs.Answer.{turned_in}
use Rattle.session_core.proofs.RepeatLemmas.{joined, game_of-append, last_of-joined}
use Rattle.session_core.proofs.WorldLemmas.{world_of-joined}
use Rattle.session_desk.specs.declared.held.Held.{Held}
use Rattle.session_desk.specs.declared.held.Held.TheVariants.{Nothing, Current, Previous}
use Rattle.session_desk.specs.Desk.{aside, world_held, show_at, DeskState, HoldsOwnWorld}
use Rattle.session_desk.specs.Desk.{committed, held_then, IsDesk, IsHeldInUse}

-- ---- a world is held while the session is in use

joined_used : (g : List Command) (c : Command)
    → game_goes_on (Some c) ≡ true → is_in_use g ≡ true
    → is_in_use (joined g c) ≡ true
joined_used [] c goes used = absurd cc
joined_used (d ∷ ds) c goes used = rw (last_of-joined d ds c) goes

used_on : (history : List Command) (c : Command)
    → is_open c ≡ false → game_goes_on (Some c) ≡ true
    → is_in_use (game_of history) ≡ true
    → is_in_use (game_of (history ++ c ∷ [])) ≡ true
used_on history c shut goes used =
    rw (game_of-append history c shut) (joined_used (game_of history) c goes used)

aside-used : (history : List Command) (c : Command) (held : Held)
    → IsHeldInUse (game_of history) held
    → IsHeldInUse (game_of (history ++ c ∷ [])) (aside c held)
aside-used history (commands.Open key story digest seed cols rows budget) held h = tt
aside-used history commands.Close held h = tt
aside-used history (commands.Line win term text) Nothing h = tt
aside-used history (commands.Line win term text) (Previous w) h = tt
aside-used history (commands.Line win term text) (Current w) h =
    used_on history (commands.Line win term text) refl refl h
aside-used history (commands.Char win code) Nothing h = tt
aside-used history (commands.Char win code) (Previous w) h = tt
aside-used history (commands.Char win code) (Current w) h =
    used_on history (commands.Char win code) refl refl h
aside-used history (commands.File name) Nothing h = tt
aside-used history (commands.File name) (Previous w) h = tt
aside-used history (commands.File name) (Current w) h =
    used_on history (commands.File name) refl refl h
aside-used history (commands.Size cols rows) Nothing h = tt
aside-used history (commands.Size cols rows) (Previous w) h = tt
aside-used history (commands.Size cols rows) (Current w) h =
    used_on history (commands.Size cols rows) refl refl h

-- ---- the session's own world

more : (stories : List Story) (history : List Command) (c : Command) (w : WorldState)
    → is_open c ≡ false → input_given (Some c) ≡ input_of c
    → last_of (game_of (history ++ c ∷ [])) ≡ Some c → world_of stories (game_of history) ≡ Some w
    → world_of stories (game_of (history ++ c ∷ []))
    ≡ Some (turned_on w (input_given (last_of (game_of (history ++ c ∷ [])))))
more stories history c w shut same last e =
    ap (world_of stories) (game_of-append history c shut)
    ∙ sym (world_of-joined stories (game_of history) c)
    ∙ ap (λ (now : Option WorldState). turned_in now (input_of c)) e
    ∙ sym (ap (λ (o : Option Command). Some (turned_on w (input_given o))) last)

has_last : (stories : List Story) (g : List Command) (c : Command) (w : WorldState)
    → world_of stories g ≡ Some w
    → last_of (joined g c) ≡ Some c
has_last stories [] c w e = absurd cc
has_last stories (d ∷ ds) c w e = last_of-joined d ds c

joins : (stories : List Story) (history : List Command) (c : Command) (w : WorldState)
    → is_open c ≡ false
    → world_of stories (game_of history) ≡ Some w
    → HoldsOwnWorld stories (game_of (history ++ c ∷ [])) (Previous w)
joins stories history c w shut e =
    more stories history c w shut refl
    (ap last_of (game_of-append history c shut) ∙ has_last stories (game_of history) c w e) e

-- what is set aside as a command comes is held of the game with that command
pub holds-aside : (stories : List Story) (history : List Command) (c : Command) (held : Held)
    → HoldsOwnWorld stories (game_of history) held
    → HoldsOwnWorld stories (game_of (history ++ c ∷ [])) (aside c held)
holds-aside stories history (commands.Open key story digest seed cols rows budget) held h = tt
holds-aside stories history commands.Close held h = tt
holds-aside stories history (commands.Line win term text) Nothing h = tt
holds-aside stories history (commands.Line win term text) (Previous w) h = tt
holds-aside stories history (commands.Line win term text) (Current w) h =
    joins stories history (commands.Line win term text) w refl h
holds-aside stories history (commands.Char win code) Nothing h = tt
holds-aside stories history (commands.Char win code) (Previous w) h = tt
holds-aside stories history (commands.Char win code) (Current w) h =
    joins stories history (commands.Char win code) w refl h
holds-aside stories history (commands.File name) Nothing h = tt
holds-aside stories history (commands.File name) (Previous w) h = tt
holds-aside stories history (commands.File name) (Current w) h =
    joins stories history (commands.File name) w refl h
holds-aside stories history (commands.Size cols rows) Nothing h = tt
holds-aside stories history (commands.Size cols rows) (Previous w) h = tt
holds-aside stories history (commands.Size cols rows) (Current w) h =
    joins stories history (commands.Size cols rows) w refl h

begun-holds : (stories : List Story) (game : List Command) (used : Bool) (now : Option WorldState)
    → world_of stories game ≡ now
    → HoldsOwnWorld stories game (cond used (world_held now) Nothing)
begun-holds stories game true None e = tt
begun-holds stories game true (Some w) e = e
begun-holds stories game false now e = tt

-- and so is what a run makes of that
pub holds-then : (stories : List Story) (game : List Command) (held : Held)
    → HoldsOwnWorld stories game held
    → HoldsOwnWorld stories game (held_then stories game held)
holds-then stories game Nothing h =
    begun-holds stories game (is_in_use game) (world_of stories game) refl
holds-then stories game (Current w) h = h
holds-then stories game (Previous w) h = h

-- and while it is in use once the last command was run
begun-used : (game : List Command) (used : Bool) (now : Option WorldState)
    → is_in_use game ≡ used → IsHeldInUse game (cond used (world_held now) Nothing)
begun-used game true None e = tt
begun-used game true (Some w) e = e
begun-used game false now e = tt

pub used-then : (stories : List Story) (game : List Command) (held : Held)
    → IsHeldInUse game held → IsHeldInUse game (held_then stories game held)
used-then stories game Nothing h =
    begun-used game (is_in_use game) (world_of stories game) refl
used-then stories game (Current w) h = h
used-then stories game (Previous w) h = h

-- what holds of every desk holds of one with a command more
pub is_desk-committed : (desk : DeskState) (c : Command)
    → IsDesk desk → length desk.commands < 8192 → IsDesk (committed desk c)
is_desk-committed desk c is room = record {
  numbered = is.numbered;
  within = omega (arith, room, length-append desk.commands (c ∷ []));
  in_use = aside-used desk.commands c desk.held is.in_use;
}

-- ---- what is shown

pub shown-held : (g : List Command) (w : WorldState)
    → is_in_use g ≡ true → last_lines w ≡ show_at g (Some w)
shown-held [] w used = absurd cc
shown-held (c ∷ cs) w used = rw used refl

pub shown-closed : (g : List Command) (now : Option WorldState)
    → is_in_use g ≡ false → (length g == 0) ≡ false
    → 69 ∷ 32 ∷ 99 ∷ 108 ∷ 111 ∷ 115 ∷ 101 ∷ 100 ∷ 10 ∷ [] ≡ show_at g now
shown-closed [] now e some = absurd cc
shown-closed (c ∷ cs) now e some = rw e refl
