-- What a line to one session changes, and what a line to another leaves.
use Rattle.std.proofs.Common.{◌≡◌, ℕ, true, false, ◌==◌, List, [], ◌∷◌, ◌++◌, length, filter}
use Rattle.std.proofs.Common.{Option, Some, None, refl, ap, sym, ◌∙◌, inl, inr, arith, ◌≢◌}
use Rattle.std.proofs.Common.{slice_set}
use Rattle.std.proofs.lemmas.Bool.{cases_lt, cases_Bool}
use Rattle.std.proofs.lemmas.Bool.Decides.{nat_tests}
use Rattle.std.proofs.Math.ListN.{get_or-eq_default}
use Rattle.std.proofs.lemmas.List.{get_or-set_same, get_or-set_other, length-set}
use Rattle.gate_journal.specs.declared.command.Command.{Command}
use Rattle.line_words.specs.declared.request.Request.{Request}
use Rattle.line_words.specs.Request.{request_of}
use Rattle.story_run.specs.declared.story.Story.{Story}
use Rattle.session_core.specs.Checks.{session_of}
use Rattle.session_core.specs.Answer.{answer}
use Rattle.session_core.specs.Sessions.{history_of, with_budget, answer_of, accepting, reply_of}
use Rattle.session_core.specs.Sessions.{histories_of, after_line, replies_to}
use Rattle.session_core.specs.Isolation.{names, is_on, replies_on, AgreesOnSession}

abbrev grown : ℕ → List (List Command) → Command → List Command
grown s histories command = history_of histories s ++ command ∷ []

-- the same command joins two histories of one session
agrees_accepting : (s : ℕ) (histories others : List (List Command)) (accepted : Option Command)
    → AgreesOnSession s histories others
    → AgreesOnSession s (accepting histories s accepted) (accepting others s accepted)
agrees_accepting s histories others None a = a
agrees_accepting s histories others (Some command) a =
    let xs = slice_set histories s (grown s histories command) in
    let ys = slice_set others s (grown s others command) in
    let long : length xs ≡ length histories =
    length-set histories s (grown s histories command) in
    let many : length xs ≡ length ys =
    long ∙ a.many ∙ sym (length-set others s (grown s others command)) in
    record {
      many = many;
      history = elim (cases_lt s (length histories)) [
        | inl lt ↦
            get_or-set_same histories s (grown s histories command) [] lt
            ∙ ap (λ (h : List Command). h ++ command ∷ []) a.history
            ∙ sym (get_or-set_same others s (grown s others command) [] (omega (arith, a.many, lt)))
        | inr le ↦
            get_or-eq_default xs [] (omega (arith, le, long))
            ∙ sym (get_or-eq_default ys [] (omega (arith, le, long, many)))
      ];
    }

is_apart : (s t : ℕ) → (t == s) ≡ false → s ≢ t
is_apart s t e same = grind (arith, nat_tests)

agree_on : (s : ℕ) (stories : List Story) (budget : ℕ) (histories others : List (List Command))
    (line : List ℕ) (read : Option Request)
    → names s read ≡ true → AgreesOnSession s histories others
    → (reply_of stories budget histories line read ≡ reply_of stories budget others line read)
    × AgreesOnSession s (histories_of stories budget histories read)
    (histories_of stories budget others read)
agree_on s stories budget histories others line None e a = absurd cc
agree_on s stories budget histories others line (Some request) e a =
    let same : session_of request ≡ s = grind (arith, nat_tests, e) in
    let history : history_of histories (session_of request)
    ≡ history_of others (session_of request) =
    rw same a.history in (
      ap (λ (h : List Command). (answer stories h (with_budget budget request)).reply) history,
      rw (same, a.history) (agrees_accepting s histories others _ a),
    )

agrees_apart : (s t : ℕ) (histories others : List (List Command)) (accepted : Option Command)
    → s ≢ t → AgreesOnSession s histories others
    → AgreesOnSession s (accepting histories t accepted) others
agrees_apart s t histories others None apart a = a
agrees_apart s t histories others (Some command) apart a = record {
  many = length-set histories t (grown t histories command) ∙ a.many;
  history = get_or-set_other histories t s (grown t histories command) [] apart ∙ a.history;
}

agree_off : (s : ℕ) (stories : List Story) (budget : ℕ) (histories others : List (List Command))
    (read : Option Request)
    → names s read ≡ false → AgreesOnSession s histories others
    → AgreesOnSession s (histories_of stories budget histories read) others
agree_off s stories budget histories others None e a = a
agree_off s stories budget histories others (Some request) e a =
    agrees_apart s (session_of request) histories others
    (answer_of stories budget histories request).accepted (is_apart s (session_of request) e) a

pub isolated : (s : ℕ) (stories : List Story) (budget : ℕ) (histories others : List (List Command))
    (lines : List (List ℕ))
    → AgreesOnSession s histories others
    → replies_on s stories budget histories lines
    ≡ replies_to stories budget others (filter (is_on s) lines)
isolated s stories budget histories others [] a = refl
isolated s stories budget histories others (line ∷ lines) a =
    elim (cases_Bool (is_on s line)) [
      | inl e ↦
          let on = agree_on s stories budget histories others line (request_of line) e a in
          let more =
          isolated s stories budget (after_line stories budget histories line)
          (after_line stories budget others line) lines on.1 in
          rw (e, on.0, more) refl
      | inr e ↦
          let off = agree_off s stories budget histories others (request_of line) e a in
          rw e
          (isolated s stories budget (after_line stories budget histories line) others lines off)
    ]
