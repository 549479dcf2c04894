-- The lines of a script name its session, and are players'.
use Rattle.std.proofs.Common.{◌≡◌, ℕ, ◌+◌, ◌-◌, ◌%◌, ◌^◌, ◌<◌, ◌==◌, cond, Bool, true, false, List}
use Rattle.std.proofs.Common.{[], ◌∷◌, map, codes, min, Some, refl, ap, sym, subst, ◌∙◌, arith}
use Rattle.turn_cell.specs.History.{Each}
use Rattle.line_talk.specs.Lines.{lines}
use Rattle.line_words.specs.Request.{request_of}
use Rattle.line_words.specs.declared.request.Request.{Request}
use Rattle.session_core.specs.Checks.{is_watch, session_of}
use Rattle.session_core.specs.Hosts.{session_in, session_on}
use Rattle.host_serve.proofs.SaidLemmas.{IsPlayers}
use Rattle.story_make.specs.Script.{Place, script_start, letters, requests, script_bytes}
use Rattle.story_make.specs.Script.{place_after_turn, requests_from, typed_line, script_words}
use Rattle.story_make.proofs.ScriptLaws.{reads}

module _ (s : ℕ) where
  abbrev Names : Request → Type 0
  Names request = (session_of request ≡ s) × (is_watch request ≡ false)

  -- the three ways of a turn
  one_turn : (word : ℕ) (place : Place) → Names place.last → (again skips : Bool)
      → Names (cond again place
      (cond skips (record place { last = typed_line s (place.sent + 2) (codes "x") })
      (record { sent = place.sent + 1; last = typed_line s (place.sent + 1) (letters word) }))).last
  one_turn word place names true skips = names
  one_turn word place names false true = (refl, refl)
  one_turn word place names false false = (refl, refl)

  all_turns : (words : List ℕ) (place : Place)
      → Names place.last
      → Each Names (requests_from s place words)
  all_turns [] place names = tt
  all_turns (word ∷ words) place names =
      let after = one_turn word place names (word % 10 == 0) (word % 10 == 1) in
      (after, all_turns words (place_after_turn s word place) after)

  all_requests : (number turns : ℕ) → Each Names (requests number s turns)
  unfolding requests
  all_requests number turns =
      ((refl, refl), all_turns (script_words number s turns) (script_start number s) (refl, refl))

  -- a line names the session, and is a player's
  abbrev pub IsOnLine : List ℕ → Type 0
  IsOnLine line = (session_on line ≡ s) × IsPlayers (request_of line)

  module _ (below : s < 64) where
    same_number : min s 64 ≡ s
    same_number = omega (arith, below)

    of_requests : (ls : List (List ℕ)) (rs : List Request)
        → map request_of ls ≡ map (λ (r : Request). Some r) rs
        → Each Names rs → Each IsOnLine ls
    of_requests [] rs e names = tt
    of_requests (l ∷ ls) [] e names = cc
    of_requests (l ∷ ls) (r ∷ rs) e names =
        let first : request_of l ≡ Some r = cc in
        let more : map request_of ls ≡ map (λ (q : Request). Some q) rs = cc in (
          (
            ap session_in first ∙ ap (λ (n : ℕ). min n 64) names.0.0 ∙ same_number,
            subst IsPlayers (sym first) names.0.1,
          ),
          of_requests ls rs more names.1,
        )

    -- each line of the script does
    pub script_names : (number turns : ℕ)
        → number < 2 ^ 64 → turns < 2 ^ 32 - 1
        → Each IsOnLine (lines (script_bytes number s turns))
    script_names number turns fits few =
        of_requests (lines (script_bytes number s turns)) (requests number s turns)
        (reads number s turns fits (omega (arith, below)) few) (all_requests number turns)
