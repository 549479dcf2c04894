-- The answers of a history and of its last game.
use Rattle.std.proofs.Common.{◌≡◌, ◌⊎◌, inl, inr, ℕ, ◌≤◌, Bool, true, false, ◌&&◌, nat_le, cond}
use Rattle.std.proofs.Common.{length, List, [], ◌∷◌, ◌++◌, Option, Some, None, refl, ap, sym, ◌∙◌, arith}
use Rattle.std.proofs.Common.{append_assoc}
use Rattle.std.proofs.lemmas.Bool.Decides.{nat_tests}
use Rattle.std.proofs.lemmas.List.{append-nil}
use Rattle.gate_journal.specs.Rows.{is_open}
use Rattle.gate_journal.specs.declared.command.Command.{Command}
use Rattle.line_words.specs.declared.request.Request.{Request}
use Rattle.line_words.specs.declared.reply.No.{No}
use Rattle.line_words.specs.declared.reply.No.TheVariants.{Full}
use Rattle.story_run.specs.declared.story.Story.{Story}
use Rattle.story_run.specs.World.{WorldState}
use Rattle.session_core.specs.History.{later, game_of, world_of}
use Rattle.session_core.specs.Checks.{is_fresh, is_full}
use Rattle.session_core.specs.Answer.{accepted_by, answer, decided, first_refusal, game_show}
use Rattle.session_core.specs.Answer.{history_extended, plain_checks, refusal_in, refusal_of}
use Rattle.session_core.specs.Answer.{show_reply, story_checks}
use Rattle.session_core.proofs.AnswerLemmas.{first_of-append-some, first_of-append-none}
use Rattle.pack_laws.specs.Laws.{full}
use Rattle.session_core.proofs.RepeatLemmas.{game_of-append, game_of-append-open, joined}

-- what is later is a game of its own
later_again : (opens : Bool) (c : Command) (cs g : List Command)
    → is_open c ≡ opens → game_of g ≡ g → g ≡ game_of cs
    → game_of (later (cond opens (c ∷ cs) []) g) ≡ later (cond opens (c ∷ cs) []) g
later_again true c cs [] op again is =
    ap (λ (x : List Command). later (cond (is_open c) (c ∷ cs) []) x) (sym is)
    ∙ ap (λ (b : Bool). cond b (c ∷ cs) []) op
later_again false c cs [] op again is = refl
later_again opens c cs (d ∷ ds) op again is = again

-- a game is the game of itself
pub game_of-game : (history : List Command) → game_of (game_of history) ≡ game_of history
game_of-game [] = refl
game_of-game (c ∷ cs) = later_again (is_open c) c cs (game_of cs) refl (game_of-game cs) refl

later_length : (opens : Bool) (c : Command) (cs g : List Command)
    → length g ≤ length cs → length (later (cond opens (c ∷ cs) []) g) ≤ length (c ∷ cs)
later_length true c cs [] le = omega arith
later_length false c cs [] le = omega arith
later_length opens c cs (d ∷ ds) le = omega arith

-- and no longer than the history
pub length-game_of : (history : List Command) → length (game_of history) ≤ length history
length-game_of [] = omega arith
length-game_of (c ∷ cs) = later_length (is_open c) c cs (game_of cs) (length-game_of cs)

one_more : (a b : List Command) (opens : Bool) (x : Command) → is_open x ≡ opens
    → game_of a ≡ game_of b → game_of (a ++ x ∷ []) ≡ game_of (b ++ x ∷ [])
one_more a b true x op same = game_of-append-open a x op ∙ sym (game_of-append-open b x op)
one_more a b false x op same =
    game_of-append a x op ∙ ap (λ (g : List Command). joined g x) same
    ∙ sym (game_of-append b x op)

-- histories of one game come to one game
same_extended : (a b : List Command) (accepted : Option Command) → game_of a ≡ game_of b
    → game_of (history_extended a accepted) ≡ game_of (history_extended b accepted)
same_extended a b None same = same
same_extended a b (Some x) same = one_more a b (is_open x) x refl same

-- however they go on
pub same_more : (a b more : List Command) → game_of a ≡ game_of b
    → game_of (a ++ more) ≡ game_of (b ++ more)
same_more a b [] same =
    ap game_of (append-nil a) ∙ same ∙ ap game_of (sym (append-nil b))
same_more a b (x ∷ more) same =
    ap game_of (sym (append_assoc a (x ∷ []) more))
    ∙ same_more (a ++ x ∷ []) (b ++ x ∷ []) more (one_more a b (is_open x) x refl same)
    ∙ ap game_of (append_assoc b (x ∷ []) more)

-- a list of checks whose last one is this
with_last : (xs : List (Bool × No)) (o : Option No) (some other : Bool) (why : No)
    → first_refusal xs ≡ o → (some ≡ false → other ≡ false)
    → (first_refusal (xs ++ (some, why) ∷ []) ≡ first_refusal (xs ++ (other, why) ∷ []))
    ⊎ ((some ≡ true) × (first_refusal (xs ++ (some, why) ∷ []) ≡ Some why))
with_last xs (Some earlier) some other why is so =
    inl (first_of-append-some xs ((some, why) ∷ []) earlier is
    ∙ sym (first_of-append-some xs ((other, why) ∷ []) earlier is))
with_last xs None true other why is so =
    inr (refl, first_of-append-none xs ((true, why) ∷ []) is)
with_last xs None false other why is so =
    inl (ap (λ (b : Bool). first_refusal (xs ++ (b, why) ∷ [])) (sym (so refl)))

fewer : (fresh : Bool) (n m : ℕ) → m ≤ n
    → (fresh && nat_le 8192 n) ≡ false → (fresh && nat_le 8192 m) ≡ false
fewer true n m le is = grind (arith, nat_tests)
fewer false n m le is = refl

many : (fresh : Bool) (n : ℕ) → (fresh && nat_le 8192 n) ≡ true → 8192 ≤ n
many true n is = grind (arith, nat_tests)
many false n is = absurd (none is)
  where
    none : false ≡ true → ⊥
    none e = cc

-- the refusals of two histories of one game
abbrev Refuses : Option WorldState → List Story → List Command → List Command → Request → Type 0
Refuses now stories longer shorter request =
    (refusal_in now stories longer (game_of longer) request
    ≡ refusal_in now stories shorter (game_of longer) request)
    ⊎ ((8192 ≤ length longer)
    × (refusal_in now stories longer (game_of longer) request ≡ Some Full))

refusals :
    (now : Option WorldState) (stories : List Story) (longer shorter : List Command)
    (request : Request) → length shorter ≤ length longer
    → Refuses now stories longer shorter request
unfolding refusal_in
refusals now stories longer shorter request le =
    let game = game_of longer in
    let plain = plain_checks stories game request in
    let rest = story_checks now stories game request in
    let together = λ (b : Bool). sym (append_assoc plain rest ((b, Full) ∷ [])) in
    elim (with_last (plain ++ rest) (first_refusal (plain ++ rest)) (is_full longer game request)
    (is_full shorter game request) Full refl
    (fewer (is_fresh game request) (length longer) (length shorter) le)) [
      | inl same ↦
          inl (ap first_refusal (together (is_full longer game request)) ∙ same
          ∙ sym (ap first_refusal (together (is_full shorter game request))))
      | inr other ↦
          inr (
            many (is_fresh game request) (length longer) other.0,
            ap first_refusal (together (is_full longer game request)) ∙ other.1,
          )
    ]

decided_same :
    (stories : List Story) (game : List Command) (s t : Option Command → List ℕ)
    (request : Request) (o : Option No)
    → ((a : Option Command) → s a ≡ t a)
    → decided stories game s request o ≡ decided stories game t request o
decided_same stories game s t request (Some why) same = refl
decided_same stories game s t request None same =
    ap (λ (l : List ℕ). record {
      reply = show_reply game l request;
      accepted = accepted_by stories game request;
    }) (same (accepted_by stories game request))

-- what the shorter one answers, by the longer one's game
shorter_answers :
    (stories : List Story) (longer shorter : List Command) (request : Request)
    → game_of shorter ≡ game_of longer
    → answer stories shorter request
    ≡ decided stories (game_of longer)
    (λ accepted. game_show stories (game_of (history_extended longer accepted))) request
    (refusal_in (world_of stories (game_of longer)) stories shorter (game_of longer) request)
unfolding answer refusal_of
shorter_answers stories longer shorter request same =
    let game = game_of longer in
    ap (λ (x : List Command). decided stories x
    (λ accepted. game_show stories (game_of (history_extended shorter accepted))) request
    (refusal_in (world_of stories x) stories shorter x request)) same
    ∙ decided_same stories game
    (λ accepted. game_show stories (game_of (history_extended shorter accepted)))
    (λ accepted. game_show stories (game_of (history_extended longer accepted))) request
    (refusal_in (world_of stories game) stories shorter game request)
    (λ accepted.
    ap (λ (x : List Command). game_show stories x) (same_extended shorter longer accepted same))

-- histories of one game answer alike, or the longer one is full
pub as_shorter :
    (stories : List Story) (longer shorter : List Command) (request : Request)
    → game_of shorter ≡ game_of longer → length shorter ≤ length longer
    → (answer stories shorter request ≡ answer stories longer request)
    ⊎ ((8192 ≤ length longer) × (answer stories longer request ≡ full))
unfolding answer refusal_of
as_shorter stories longer shorter request alike le =
    let game = game_of longer in
    let show = λ (accepted : Option Command).
    game_show stories (game_of (history_extended longer accepted)) in
    elim (refusals (world_of stories game) stories longer shorter request le) [
      | inl same ↦
          inl (shorter_answers stories longer shorter request alike
          ∙ sym (ap (λ (o : Option No). decided stories game show request o) same))
      | inr full_one ↦
          inr (
            full_one.0,
            ap (λ (o : Option No). decided stories game show request o) full_one.1,
          )
    ]
