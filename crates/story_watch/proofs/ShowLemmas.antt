-- The shows of a game, one more at a time.
use Rattle.std.proofs.Common.{◌≡◌, ℕ, zero, suc, ◌+◌, ◌-◌, ◌<◌, ◌≤◌, List, [], ◌∷◌, ◌++◌, length, take}
use Rattle.std.proofs.Common.{get_or, Option, Some, None, refl, ap, sym, ◌∙◌, arith, append_assoc}
use Rattle.std.proofs.Common.{append-nil}
use Rattle.std.proofs.lemmas.List.{take_more}
use Rattle.gate_journal.specs.declared.command.Command.{Command}
use Rattle.line_words.specs.Reply.{print_show}
use Rattle.story_run.specs.declared.story.Story.{Story}
use Rattle.story_run.specs.World.{WorldState}
use Rattle.session_core.specs.History.{input_of, world_of}
use Rattle.session_core.specs.Answer.{show_in, solo_show, turned_in}
use Rattle.session_core.proofs.WorldLemmas.{world_of-joined}
use Rattle.story_watch.specs.Watch.{shows_from}

-- one show more behind so many
pub shows_more : (stories : List Story) (game : List Command) (s n more k : ℕ)
    → k ≡ n + more
    → shows_from stories game s n more ++ print_show s k (solo_show stories game k)
    ≡ shows_from stories game s n (suc more)
shows_more stories game s n zero k e =
    let same : k ≡ n = omega (arith, e) in
    ap (λ (m : ℕ). print_show s m (solo_show stories game m)) same
    ∙ sym (append-nil (print_show s n (solo_show stories game n)))
shows_more stories game s n (suc more) k e =
    append_assoc (print_show s n (solo_show stories game n))
    (shows_from stories game s (n + 1) more) (print_show s k (solo_show stories game k))
    ∙ ap (λ (t : List ℕ). print_show s n (solo_show stories game n) ++ t)
    (shows_more stories game s (n + 1) more k (omega (arith, e)))

-- the world behind one command more
pub world_more : (stories : List Story) (game : List Command) (n : ℕ) (d : Command)
    → 0 < n → n < length game
    → turned_in (world_of stories (take n game)) (input_of (get_or game n d))
    ≡ world_of stories (take (n + 1) game)
world_more stories [] n d some lt = absurd (omega (arith, lt))
world_more stories (c ∷ cs) zero d some lt = absurd (omega (arith, some))
world_more stories (c ∷ cs) (suc n) d some lt =
    let on : suc (n + 1) ≡ suc n + 1 = omega arith in
    world_of-joined stories (c ∷ take n cs) (get_or cs n d)
    ∙ ap (λ (more : List Command). world_of stories (c ∷ more))
    (sym (take_more cs n d (omega (arith, lt))))
    ∙ ap (λ (k : ℕ). world_of stories (take k (c ∷ cs))) on

-- the first show of a reply
pub first_show : (stories : List Story) (game : List Command) (s from : ℕ) (text : List ℕ)
    (world : Option WorldState)
    → world ≡ world_of stories (take (from + 1) game)
    → text ≡ print_show s from (show_in world)
    → text ≡ shows_from stories game s from (from + 1 - from)
first_show stories game s from text world own is =
    let one : suc zero ≡ from + 1 - from = omega arith in
    is
    ∙ ap (λ (w : Option WorldState). print_show s from (show_in w)) own
    ∙ sym (append-nil (print_show s from (solo_show stories game from)))
    ∙ ap (shows_from stories game s from) one

-- and the next one, by the world behind one command more
pub next_world : (stories : List Story) (game : List Command) (n : ℕ) (d : Command)
    (before after : Option WorldState)
    → 0 < n → n < length game
    → before ≡ world_of stories (take n game)
    → after ≡ turned_in before (input_of (get_or game n d))
    → after ≡ world_of stories (take (n + 1) game)
next_world stories game n d before after some lt own is =
    is
    ∙ ap (λ (w : Option WorldState). turned_in w (input_of (get_or game n d))) own
    ∙ world_more stories game n d some lt

pub next_show : (stories : List Story) (game : List Command) (s from n : ℕ)
    (before text : List ℕ) (world : Option WorldState)
    → from ≤ n
    → before ≡ shows_from stories game s from (n - from)
    → world ≡ world_of stories (take (n + 1) game)
    → text ≡ before ++ print_show s n (show_in world)
    → text ≡ shows_from stories game s from (n + 1 - from)
next_show stories game s from n before text world le so own is =
    let more : suc (n - from) ≡ n + 1 - from = omega (arith, le) in
    is
    ∙ ap (λ (t : List ℕ). t ++ print_show s n (show_in world)) so
    ∙ ap (λ (w : Option WorldState).
    shows_from stories game s from (n - from) ++ print_show s n (show_in w)) own
    ∙ shows_more stories game s from (n - from) n (omega (arith, le))
    ∙ ap (shows_from stories game s from) more
