-- What the drill's host answers to the lines of a session's script.
use Rattle.std.proofs.Common.{◌≡◌, ◌≢◌, ℕ, zero, suc, ◌+◌, ◌-◌, ◌^◌, ◌<◌, ◌||◌, List}
use Rattle.std.proofs.Common.{[], ◌∷◌, ◌++◌, length, map, append-nil, append_assoc, refl}
use Rattle.std.proofs.Common.{sym, ap, ◌∙◌, subst, arith, inl, inr, false, true, Bool}
use Rattle.std.specs.Prelude.{Some, slice_get}
use Rattle.std.specs.List.{All, AllByRecursion, flat_map, list_any, range_with_len}
use Rattle.std.proofs.lemmas.List.Elements.{All-from_recursion}
use Rattle.disk_model.specs.declared.disk.Disk.{Ghosts as DiskWords}
use Rattle.hex.specs.Hex.{encode_lower}
use Rattle.turn_cell.specs.History.{Each}
use Rattle.host_serve.specs.Chain.{Answers, AnswersInOrder}
use Rattle.host_serve.specs.Holders.{Holder, holders, seen_at, seens}
use Rattle.host_serve.specs.Hosts.{AreOf, IsSound}
use Rattle.host_serve.specs.Opening.{roots}
use Rattle.host_serve.specs.Serves.{AnsweredLine}
use Rattle.host_serve.specs.declared.host.Host.{Host}
use Rattle.host_serve.specs.declared.host.Passes.{Passes}
use Rattle.host_serve.specs.declared.mark.Mark.{Mark}
use Rattle.host_serve.proofs.AloneLemmas.{alone_there, met_one}
use Rattle.host_serve.proofs.ChainLemmas.{answer_wide, chain_wide}
use Rattle.host_serve.proofs.SaidLemmas.{turn_player}
use Rattle.line_talk.specs.Conversation.{texts_joined}
use Rattle.line_talk.specs.Lines.{lines}
use Rattle.line_words.specs.Reply.{print_reply}
use Rattle.line_words.specs.declared.reply.Reply.{Reply}
use Rattle.line_words.specs.declared.reply.Reply.TheVariants as replies
use Rattle.reply_tally.specs.Refusals.{is_failure, refusals_in}
use Rattle.reply_tally.specs.ShowLines.{HasShowLines}
use Rattle.reply_tally.specs.Tally.{IsTallyOf}
use Rattle.reply_tally.specs.declared.tally.Tally.{Tally}
use Rattle.reply_tally.proofs.TurnLemmas.{turn_lines}
use Rattle.sha2.specs.Sha256.{sha256}
use Rattle.session_core.specs.declared.entry.Entry.{Entry}
use Rattle.session_core.specs.Hosts.{session_on}
use Rattle.session_core.specs.Turning.{commands_in, Turned, turn_of}
use Rattle.story_make.specs.Script.{script_bytes}
use Rattle.story_run.specs.declared.story.Story.{Story}
use Rattle.host_drill.specs.Alone.{history_alone, replies_alone}
use Rattle.host_drill.specs.Drill.{counts_line, echo, drilled_history}
use Rattle.host_drill.specs.Drill.{lines_of, drilled_replies, session_line}
use Rattle.host_drill.specs.Drilled.{AnswersAll, IsDrilled, IsPlayed, history_seen}
use Rattle.host_drill.proofs.ScriptLemmas.{IsOnLine, script_names}
use Rattle.host_drill.proofs.SessionLemmas.{IsAlone, IsOn, alone_all}
use Rattle.host_drill.proofs.SessionLemmas.{are_commands, is_failing, others_all}

module _ {A B : Type 0} where
  each_map : (P : B → Type 0) (f : A → B) (xs : List A)
      → Each P (map f xs) → Each (λ (x : A). P (f x)) xs
  each_map P f [] all = tt
  each_map P f (x ∷ xs) all = (all.0, each_map P f xs all.1)

module _ {A : Type 0} where
  by_recursion : (P : A → Type 0) (xs : List A) → Each P xs → AllByRecursion P xs
  by_recursion P [] all = tt
  by_recursion P (x ∷ xs) all = (all.0, by_recursion P xs all.1)

neither : (a b : Bool) → (a || b) ≡ false → (a ≡ false) × (b ≡ false)
neither true b e = cc
neither false b e = (refl, e)

-- no reply says that the host failed
fine_replies : (rs : List Reply)
    → list_any is_failure (refusals_in rs) ≡ false
    → Each (λ (r : Reply). is_failing r ≡ false) rs
fine_replies [] e = tt
fine_replies (replies.Show s n body ∷ rs) e = (refl, fine_replies rs e)
fine_replies (replies.No why ∷ rs) e =
    let p = neither (is_failure why) (list_any is_failure (refusals_in rs)) e in
    (p.0, fine_replies rs p.1)
fine_replies (replies.Seen s from to text ∷ rs) e = (refl, fine_replies rs e)

module _ (stories : List Story) (budget : ℕ) (sound : Type 0) where
  -- the shows of replies are lines of shows
  show_lines : (sure : sound) (s : ℕ) (old : List (List Entry)) (turns : List AnsweredLine)
      (new : List (List Entry))
      → length old ≡ 64
      → AnswersInOrder stories budget sound roots old turns new
      → Each (IsOn s) turns
      → Each HasShowLines (map (λ (t : AnsweredLine). t.reply) turns)
  show_lines sure s old [] new wide c on = tt
  show_lines sure s old (t ∷ turns) new wide c on =
      let h : List Entry = seen_at old (session_on t.line) in
      let said : t.reply ≡ (turn_of stories budget h 0 t.line t.outcome).reply =
      (met_one stories budget sound sure old t c.0 wide c.1).said
      ∙ ap (λ (u : Turned). u.reply) (turn_player stories budget h 0 t.line t.outcome on.0.1) in (
        subst HasShowLines (sym said) (turn_lines stories budget 0 h t.line t.outcome),
        show_lines sure s c.0 turns new
            (answer_wide stories budget sound roots old t c.0 wide c.1) c.2 on.1,
      )

  -- the mark of the first line has the length of its session's history
  one_mark : (old : List (List Entry)) (t : AnsweredLine) (mid : List (List Entry)) (s : ℕ)
      → s < 64 → t.mark.session ≡ s
      → Answers stories budget sound roots old t mid → t.mark.length ≡ length (seen_at old s)
  one_mark old t mid s below is (inl o) =
      o.turn.length
      ∙ ap (λ (h : List Entry). length h) (o.turn.alone (alone_there t.mark.session o.session.0))
      ∙ ap (λ (k : ℕ). length (seen_at old k)) is
  one_mark old t mid s below is (inr n) = absurd (omega (arith, below, is, n.none.0))

  pub first_mark : (old : List (List Entry)) (turns : List AnsweredLine) (new : List (List Entry))
      (s : ℕ) (mark : Mark)
      → s < 64
      → AnswersInOrder stories budget sound roots old turns new
      → slice_get (map (λ (t : AnsweredLine). t.mark) turns) 0 ≡ Some mark
      → mark.session ≡ s
      → mark.length ≡ length (seen_at old s)
  first_mark old [] new s mark below c e is = cc
  first_mark old (t ∷ turns) new s mark below c e is =
      let same : mark ≡ t.mark = cc in
      ap (λ (m : Mark). m.length) same
      ∙ one_mark old t c.0 s below (ap (λ (m : Mark). m.session) (sym same) ∙ is) c.1

module _ {D : Type 0} (disks : DiskWords D) (host : Host D) (old new : Passes D)
    (drilled : IsDrilled disks host old) (bytes written : List ℕ) (marks : List Mark)
    (a : AnswersAll disks host old new bytes written marks) where
  abbrev Sound : Type 0
  Sound = IsSound disks host

  -- the turns of the Echo story by passes that were never split
  abbrev IsChain : List Story → ℕ → List Holder → Type 0
  IsChain stories budget held =
      AnswersInOrder stories budget Sound held (seens old.desks.items) a.turns
      (seens new.desks.items)

  chain : IsChain (echo ∷ []) 50000000 roots
  chain = subst (λ (h : List Holder). IsChain (echo ∷ []) 50000000 h) drilled.alone
      (subst (λ (b : ℕ). IsChain (echo ∷ []) b (holders old.desks.items)) drilled.budget
      (subst (λ (ss : List Story). IsChain ss host.budget (holders old.desks.items))
      drilled.stories a.chain))

  -- the host stays the drill's
  pub still_drilled : AreOf host new
      → holders new.desks.items ≡ holders old.desks.items
      → IsDrilled disks host new
  still_drilled of same = record {
    of = of;
    sound = drilled.sound;
    alone = same ∙ drilled.alone;
    many =
        chain_wide (echo ∷ []) 50000000 Sound roots (seens old.desks.items) a.turns
        (seens new.desks.items) drilled.many chain;
    stories = drilled.stories;
    budget = drilled.budget;
  }

  module _ (number s turns : ℕ) (below : s < 64) (fits : number < 2 ^ 64)
      (few : turns < 2 ^ 32 - 1) (is : bytes ≡ script_bytes number s turns) where
    on : Each (IsOn s) a.turns
    on = each_map (IsOnLine s) (λ (t : AnsweredLine). t.line) a.turns
        (subst (λ (ls : List (List ℕ)). Each (IsOnLine s) ls)
        (sym (a.answered ∙ ap lines is)) (script_names s below number turns fits few))

    -- other sessions have what they had
    pub others : (k : ℕ) → k ≢ s → history_seen new k ≡ history_seen old k
    others =
        others_all (echo ∷ []) 50000000 Sound drilled.sound s below (seens old.desks.items) a.turns
        (seens new.desks.items) drilled.many chain on

    -- the length of what was seen of the session
    pub length_told : (mark : Mark)
        → slice_get marks 0 ≡ Some mark → mark.session ≡ s
        → mark.length ≡ length (history_seen old s)
    length_told mark e there =
        first_mark (echo ∷ []) 50000000 Sound (seens old.desks.items) a.turns
        (seens new.desks.items) s mark below chain
        (subst (λ (ms : List Mark). slice_get ms 0 ≡ Some mark) a.marked e) there

    module _ (tally : Tally)
        (counts : (rs : List Reply)
        → All HasShowLines rs
        → written ≡ texts_joined (map print_reply rs)
        → IsTallyOf rs tally)
        (fine : tally.failed ≡ false) where
      abbrev said : List Reply
      said = map (λ (t : AnsweredLine). t.reply) a.turns

      tallied : IsTallyOf said tally
      tallied = counts said (All-from_recursion HasShowLines said (by_recursion HasShowLines said
          (show_lines (echo ∷ []) 50000000 Sound drilled.sound s (seens old.desks.items) a.turns
          (seens new.desks.items) drilled.many chain on))) a.replies

      alone : IsAlone (echo ∷ []) 50000000 (history_seen old s) a.turns (history_seen new s)
      alone =
          alone_all (echo ∷ []) 50000000 Sound drilled.sound s below (seens old.desks.items) a.turns
          (seens new.desks.items) drilled.many chain on
          (each_map (λ (r : Reply). is_failing r ≡ false) (λ (t : AnsweredLine). t.reply) a.turns
          (fine_replies said (sym tallied.failed ∙ fine)))

      -- a session of which nothing was seen has the replies and the history of its script alone
      pub played : (sum : List ℕ)
          → turns ≡ 1000 → history_seen old s ≡ []
          → sum ≡ sha256 written
          → IsPlayed old new number s tally.refusals sum
      unfolding lines_of drilled_replies drilled_history
      played sum all fresh digest =
          let read : map (λ (t : AnsweredLine). t.line) a.turns ≡ lines_of number s
          = a.answered ∙ ap lines (is ∙ ap (λ (n : ℕ). script_bytes number s n) all) in
          let told : said ≡ drilled_replies number s = alone.replies
          ∙ ap (λ (h : List Entry).
          replies_alone (echo ∷ []) 50000000 h (map (λ (t : AnsweredLine). t.line) a.turns)) fresh
          ∙ ap (λ (ls : List (List ℕ)). replies_alone (echo ∷ []) 50000000 [] ls) read in
          record {
            refused = tallied.refusals ∙ ap (λ (rs : List Reply). length (refusals_in rs)) told;
            digest =
                digest
                ∙ ap (λ (bs : List ℕ). sha256 bs)
                (a.replies ∙ ap (λ (rs : List Reply). texts_joined (map print_reply rs)) told);
            history = alone.history
                ∙ ap (λ (h : List Entry).
                history_alone (echo ∷ []) 50000000 h (map (λ (t : AnsweredLine). t.line) a.turns))
                fresh
                ∙ ap (λ (ls : List (List ℕ)). history_alone (echo ∷ []) 50000000 [] ls) read;
            others = others;
          }

-- the history of a session has commands alone
pub accepted_all : (number s : ℕ)
    → length (commands_in (drilled_history number s)) ≡ length (drilled_history number s)
unfolding drilled_history
accepted_all number s = are_commands (echo ∷ []) 50000000 [] (lines_of number s) refl

-- the line of a session that was played
pub line_told : (number s accepted refused : ℕ) (digest text line : List ℕ)
    → line ≡ counts_line s accepted refused text
    → accepted ≡ length (drilled_history number s)
    → refused ≡ length (refusals_in (drilled_replies number s))
    → text ≡ encode_lower digest
    → digest ≡ sha256 (texts_joined (map print_reply (drilled_replies number s)))
    → line ≡ session_line number s
line_told number s accepted refused digest text line is count refusals spelled sum =
    is ∙ ap (λ (n : ℕ). counts_line s n refused text) (count ∙ sym (accepted_all number s))
    ∙ ap (λ (n : ℕ). counts_line s (length (commands_in (drilled_history number s))) n text)
    refusals
    ∙ ap (λ (bs : List ℕ). counts_line s (length (commands_in (drilled_history number s)))
    (length (refusals_in (drilled_replies number s))) bs)
    (spelled ∙ ap (λ (bs : List ℕ). encode_lower bs) sum)

-- one more of a row of texts
text_behind : (f : ℕ → List ℕ) (a n k : ℕ)
    → a + n ≡ k
    → flat_map f (range_with_len a (suc n)) ≡ flat_map f (range_with_len a n) ++ f k
text_behind f a zero k e = append-nil (f a) ∙ ap f (omega (arith, e))
text_behind f a (suc n) k e =
    ap (λ (l : List ℕ). f a ++ l) (text_behind f (a + 1) n k (omega (arith, e)))
    ∙ sym (append_assoc (f a) (flat_map f (range_with_len (a + 1) n)) (f k))

pub text_more : (f : ℕ → List ℕ) (n : ℕ)
    → flat_map f (range_with_len 0 (n + 1)) ≡ flat_map f (range_with_len 0 n) ++ f n
text_more f n =
    let next : n + 1 ≡ suc n = omega arith in
    ap (λ (m : ℕ). flat_map f (range_with_len 0 m)) next ∙ text_behind f 0 n n (omega arith)
