-- Changes keep the order of windows and their requests valid.
use native.Mathlib.Numerals.{unary_clauses}
use Rattle.std.proofs.Common.{◌≡◌, ℕ, ◌+◌, ◌<◌, ◌≤◌, ◌==◌, ◌&&◌, not, nat_lt, nat_le, Bool, true}
use Rattle.std.proofs.Common.{false, List, [], ◌∷◌, length, refl, arith, Option, Some, None, cond}
use Rattle.std.proofs.Common.{inl, inr, ◌∙◌}
use Rattle.std.proofs.lemmas.Bool.{and_from, and_parts, cases_Bool, le-leb}
use Rattle.std.proofs.lemmas.Grind.{common_steps}
use Rattle.std.specs.List.{insert}
use Rattle.glk_numbers.specs.Numbered.{ascends, has}
use Rattle.glk_numbers.proofs.EachLemmas.{all-changed, all-inserted, all-kept}
use Rattle.glk_numbers.proofs.OrderLemmas.{ascends-changed, ascends-kept}
use Rattle.glk_input.specs.Request.{asked, char_asked, char_ended}
use Rattle.glk_input.specs.Request.{count_below, request_ended, window_without_request}
use Rattle.glk_input.specs.Request.{line_asked, line_ended, input_window_number, with_echo}
use Rattle.glk_input.specs.Request.{with_keys, without_char, without_line}
use Rattle.glk_input.specs.Valid.{are_windows, is_request, are_valid_inputs, is_window_input}
use Rattle.glk_input.specs.Laws.{KeepsInputsValid, InputsStayValid}
use Rattle.glk_input.specs.declared.request.LineRequest.{LineRequest}
use Rattle.glk_input.specs.declared.request.Request.{Request}
use Rattle.glk_input.specs.declared.request.Request.TheVariants.{Line, Char}
use Rattle.glk_input.specs.declared.request.WindowInput.{WindowInput}

-- a change of one window that keeps its number and keeps it valid keeps all valid
keeps : (f : WindowInput → WindowInput) → ((w : WindowInput) → (f w).win ≡ w.win)
    → ((w : WindowInput) → is_window_input w ≡ true → is_window_input (f w) ≡ true)
    → KeepsInputsValid f
keeps f same k ws win e =
    let h = and_parts _ _ e in
    and_from _ _
    (ascends-changed input_window_number f win (λ w n. same w ∙ n) ws 0 4294967295 ∙ h.0)
    (all-changed input_window_number are_windows is_window_input refl (λ w ws. refl) f k ws win h.1)

insert-more : (w x : WindowInput) (ws : List WindowInput) (k : ℕ)
    → insert (w ∷ ws) (k + 1) x ≡ w ∷ insert ws k x
insert-more w x ws k = simp unary_clauses

ascends-inserted : (ws : List WindowInput) (win low high : ℕ) → low < win → win < high
    → has input_window_number ws win ≡ false
    → ascends input_window_number low high ws ≡ true
    → ascends input_window_number low high
    (insert ws (count_below ws win) (window_without_request win))
    ≡ true
unfolding count_below ascends has
ascends-inserted [] win low high l h k e = grind (arith, common_steps, l, h)
ascends-inserted (w ∷ ws) win low high l h k e = elim (cases_Bool (nat_lt w.win win)) [
  | inl t ↦
      let rest = ascends-inserted ws win w.win high in
      rw (t, insert-more w (window_without_request win) ws (count_below ws win))
      (grind (arith, common_steps, t, h, k, e, rest))
  | inr t ↦ rw t (grind (arith, common_steps, t, l, h, k, e))
]

valid-begun : (t : Bool) (ws : List WindowInput) (win : ℕ)
    → has input_window_number ws win ≡ t → 0 < win
    → win < 4294967295 → are_valid_inputs ws ≡ true
    → are_valid_inputs (cond t ws (insert ws (count_below ws win) (window_without_request win)))
    ≡ true
valid-begun true ws win k l h e = e
valid-begun false ws win k l h e =
    let a = and_parts _ _ e in
    and_from _ _ (ascends-inserted ws win 0 4294967295 l h k a.0)
    (all-inserted input_window_number are_windows is_window_input refl (λ w ws. refl) ws
    (count_below ws win) (window_without_request win) refl a.1)

line-good : (keys : List ℕ) (o : Option Request) (r : LineRequest) → r.keys ≡ keys → r.init ≤ r.max
    → r.init ≤ 1024
    → (nat_le (length keys) 13 && is_request o) ≡ true
    → (nat_le (length keys) 13 && is_request (asked o (Line r))) ≡ true
line-good keys (Some x) r k a b e = e
line-good keys None r k a b e =
    let l = (and_parts (nat_le (length keys) 13) true e).0 in
    and_from _ _ l (and_from _ _ (and_from _ _ (le-leb r.init r.max a) (le-leb r.init 1024 b))
    (rw k l))

char-good : (n : ℕ) (o : Option Request) (u : Bool) → (nat_le n 13 && is_request o) ≡ true
    → (nat_le n 13 && is_request (asked o (Char u))) ≡ true
char-good n (Some x) u e = e
char-good n None u e = e

line_ended-good : (n : ℕ) (o : Option Request) → (nat_le n 13 && is_request o) ≡ true
    → (nat_le n 13 && is_request (line_ended o)) ≡ true
line_ended-good n None e = e
line_ended-good n (Some (Line r)) e = and_from _ _ (and_parts (nat_le n 13) _ e).0 refl
line_ended-good n (Some (Char u)) e = e

char_ended-good : (n : ℕ) (o : Option Request) → (nat_le n 13 && is_request o) ≡ true
    → (nat_le n 13 && is_request (char_ended o)) ≡ true
char_ended-good n None e = e
char_ended-good n (Some (Line r)) e = e
char_ended-good n (Some (Char u)) e = e

none-valid : are_valid_inputs [] ≡ true
unfolding ascends
none-valid = refl

pub stays_valid : InputsStayValid
stays_valid = record {
  none = none-valid;
  begun = λ ws win l h e. valid-begun (has input_window_number ws win) ws win refl l h e;
  line = λ buf max init u a b. keeps (line_asked buf max init u) (λ w. refl)
      (λ w e. line-good w.keys w.request
      (record { buf = buf; max = max; init = init; unicode = u; echo = w.echo; keys = w.keys }) refl
      a b e);
  char = λ u. keeps (char_asked u) (λ w. refl) (λ w e. char-good (length w.keys) w.request u e);
  echo = λ on. keeps (with_echo on) (λ w. refl) (λ w e. e);
  keys = λ list h. keeps (with_keys list) (λ w. refl)
      (λ w e. let asks = (and_parts (nat_le (length w.keys) 13) _ e).1 in
      and_from _ _ (le-leb (length list) 13 h) asks);
  line_ended = keeps without_line (λ w. refl) (λ w e. line_ended-good (length w.keys) w.request e);
  char_ended = keeps without_char (λ w. refl) (λ w e. char_ended-good (length w.keys) w.request e);
  over = keeps request_ended (λ w. refl)
      (λ w e. and_from _ _ (and_parts (nat_le (length w.keys) 13) _ e).0 refl);
  dropped = λ ws win e.
      let h = and_parts _ _ e in
      let stays : WindowInput → Bool = λ w. not (w.win == win) in
      and_from _ _ (ascends-kept input_window_number stays ws 0 4294967295 h.0)
      (all-kept input_window_number are_windows is_window_input refl (λ w ws. refl) stays ws h.1);
}
