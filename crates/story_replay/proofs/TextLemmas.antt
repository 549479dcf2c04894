-- The text of a game, one show after the other.
use Rattle.std.proofs.Common.{◌≡◌, ℕ, zero, suc, ◌+◌, ◌<◌, List, [], ◌∷◌, ◌++◌, length, get_or}
use Rattle.std.proofs.Common.{take, map, refl, sym, ap, ◌∙◌, append_assoc, arith, Option}
use Rattle.std.specs.Prelude.{is_ok}
use Rattle.std.proofs.Common.{cond, OnOk, Bool, true, Result, Ok, Err, IfOk, MatchResult, codes}
use Rattle.std.proofs.lemmas.List.{take_more}
use Rattle.std.specs.List.{AllZip, Contains}
use Rattle.gate_journal.specs.Scan.{unnumbered}
use Rattle.gate_journal.specs.declared.command.Command.{Command}
use Rattle.gate_journal.specs.declared.row.Row.{Row}
use Rattle.session_core.specs.Answer.{game_show, show_while, turned_in}
use Rattle.session_core.specs.Checks.{is_other_story}
use Rattle.session_core.specs.History.{input_of, is_in_use, world_of}
use Rattle.session_core.proofs.RepeatLemmas.{joined}
use Rattle.session_core.proofs.WorldLemmas.{world_of-joined}
use Rattle.story_run.specs.World.{WorldState}
use Rattle.story_run.specs.declared.story.Story.{Story}
use Rattle.story_replay.specs.Text.{game_body, game_text, shows_below, shown, transcript}
use Rattle.story_replay.specs.declared.game.Game.{Game}
use Rattle.line_words.specs.Reply.{print_reply, print_show}
use Rattle.line_words.specs.declared.reply.No.TheVariants.{Changed}
use Rattle.line_words.specs.declared.reply.Reply.TheVariants.{No}
use Rattle.story_replay.proofs.GameLemmas.{games_unnumbered}
use Rattle.std.specs.List.{flat_map}

-- ---- the world with a command more

joined_whole : (game : List Command) (n : ℕ) (x : Command) → 0 < n → n < length game
    → joined (take n game) x ≡ take n game ++ x ∷ []
joined_whole [] n x some within = absurd (omega (arith, within))
joined_whole (c ∷ cs) zero x some within = absurd (omega (arith, some))
joined_whole (c ∷ cs) (suc n) x some within = refl

pub world_more : (stories : List Story) (game : List Command) (n : ℕ) (c : Command) → 0 < n
    → n < length game → c ≡ get_or game n c
    → turned_in (world_of stories (take n game)) (input_of c)
    ≡ world_of stories (take (n + 1) game)
world_more stories game n c some within is =
    world_of-joined stories (take n game) c
    ∙ ap (world_of stories) (joined_whole game n c some within
    ∙ ap (λ (x : Command). take n game ++ x ∷ []) is ∙ sym (take_more game n c within))

-- ---- the shows

pub show_written : (text line a b body : List ℕ)
    → line ≡ codes "SHOW " ++ (a ++ (codes " " ++ (b ++ codes "\n")))
    → ((text ++ line) ++ body) ++ codes ".\n"
    ≡ text ++ (codes "SHOW" ++ ((32 ∷ a) ++ ((32 ∷ b) ++ ((10 ∷ []) ++ (body ++ codes ".\n")))))
show_written text line a b body is =
    let rest : List ℕ = body ++ codes ".\n" in
    append_assoc (text ++ line) body (codes ".\n")
    ∙ append_assoc text line rest
    ∙ ap (λ (l : List ℕ). text ++ (l ++ rest)) is
    ∙ ap (λ (l : List ℕ). text ++ (codes "SHOW " ++ l))
    (append_assoc a (32 ∷ (b ++ 10 ∷ [])) rest
    ∙ ap (λ (l : List ℕ). a ++ 32 ∷ l) (append_assoc b (10 ∷ []) rest))

pub shows_more : (stories : List Story) (game : Game) (n : ℕ) (old text : List ℕ)
    → text ≡ old ++ shows_below stories game n
    → text ++ print_reply (shown stories game n) ≡ old ++ shows_below stories game (n + 1)
shows_more stories game n old text is =
    let next : n + 1 ≡ suc n = omega arith in
    ap (λ (l : List ℕ). l ++ print_reply (shown stories game n)) is
    ∙ append_assoc old (shows_below stories game n) (print_reply (shown stories game n))
    ∙ ap (λ (k : ℕ). old ++ shows_below stories game k) (sym next)

pub one_show : (stories : List Story) (game : Game) (n : ℕ) (used : Bool)
    (world : Option WorldState) (body old text new : List ℕ)
    → text ≡ old ++ shows_below stories game n
    → new ≡ text ++ print_show game.session n body
    → body ≡ show_while used world
    → used ≡ is_in_use (take (n + 1) game.commands)
    → world ≡ world_of stories (take (n + 1) game.commands)
    → new ≡ old ++ shows_below stories game (n + 1)
unfolding game_show
one_show stories game n used world body old text new text_is new_is body_is used_is world_is =
    new_is
    ∙ ap (λ (b : List ℕ). text ++ print_show game.session n b)
    (body_is ∙ ap (λ (u : Bool). show_while u world) used_is
    ∙ ap (show_while (is_in_use (take (n + 1) game.commands))) world_is)
    ∙ shows_more stories game n old text text_is

-- a text that grew where that was answered by Ok
pub extended : {T E : Type 0} (r : Result T E) (new more old : List ℕ)
    → new ≡ cond (is_ok r) more old → OnOk r (new ≡ more)
extended (Ok v) new more old is = is
extended (Err e) new more old is = tt

-- what stands in the place of all shows
pub other_body : (stories : List Story) (game : Game)
    → is_other_story stories game.commands ≡ true
    → print_reply (No Changed) ≡ game_body stories game
unfolding game_body
other_body stories game other = rw other refl

-- ---- texts that were made side by side

pub all_texts : {A B : Type 0} (E : Type 0) (f : A → B) (xs : List A) (ys : List B)
    → AllZip (λ x (y : Result B E). IfOk y (λ t. t ≡ f x)) xs (map Ok ys) → ys ≡ map f xs
all_texts E f [] [] all = refl
all_texts E f [] (y ∷ ys) all = absurd all
all_texts E f (x ∷ xs) [] all = absurd all
all_texts E f (x ∷ xs) (y ∷ ys) all = rw (all.0, all_texts E f xs ys all.1) refl

pub collected : {A B V : Type 0} (E : Type 0) (items : V → List B) (f : A → B) (xs : List A)
    (made : List (Result B E)) (v : Result V E)
    → MatchResult v (λ c. (ys : List B) × (made ≡ map Ok ys) × (items c ≡ ys))
    (λ e. Contains made (Err e))
    → AllZip (λ x (y : Result B E). IfOk y (λ t. t ≡ f x)) xs made
    → IfOk v (λ c. items c ≡ map f xs)
collected E items f xs made (Ok c) m all = m.2 ∙ all_texts E f xs m.0 (rw m.1 at all)
collected E items f xs made (Err e) m all = tt

-- ---- the numbers of rows have no part in a transcript

pub transcript_unnumbered : (stories : List Story) (rows : List Row)
    → transcript stories (map unnumbered rows) ≡ transcript stories rows
unfolding transcript
transcript_unnumbered stories rows =
    ap (λ (games : List Game). flat_map (game_text stories) games ++ codes "done\n")
    (games_unnumbered rows)
