-- What the passes of all sessions know, session by session (own).
use Rattle.std.specs.Prelude.{◌≡◌, ◌≤◌, ℕ, List, [], map, get_or}
use Rattle.turn_cell.specs.History.{IsAmong}
use Rattle.turn_cell.specs.declared.pass.Pass.{Pass}
use Rattle.turn_cell.specs.Passes.{pass_number, made, pass_numbers, seen}
use Rattle.session_core.specs.declared.entry.Entry.{Entry}

-- who holds a session's pass: its number, how many were split from it, the numbers that it holds
pub record Holder : Type 0 where
  pub number : ℕ
  pub made : ℕ
  pub holds : List ℕ

-- the root that was never split
abbrev pub IsAloneHolder : Holder → Type 0
IsAloneHolder h = (h.number ≡ 0) × (h.made ≡ 0)

-- it holds its own number and those of all that were split from it
abbrev pub IsWholeHolder : Holder → Type 0
IsWholeHolder h = (n : ℕ) → n ≤ h.made → IsAmong n h.holds

-- no session has this holder
abbrev pub nobody : Holder
nobody = record { number = 0; made = 0; holds = [] }

-- the session's holder
abbrev pub holder_at : List Holder → ℕ → Holder
holder_at holders s = get_or holders s nobody

-- what the pass of the session has seen; empty where there is no such session
abbrev pub seen_at : List (List Entry) → ℕ → List Entry
seen_at seens s = get_or seens s []

module _ {T E : Type 0} where
  abbrev pub holder_of : Pass T E → Holder
  holder_of p = record { number = pass_number p; made = made p; holds = pass_numbers p }

  -- the holders of all sessions' passes
  abbrev pub holders : List (Pass T E) → List Holder
  holders passes = map holder_of passes

  -- what the passes of all sessions have seen
  abbrev pub seens : List (Pass T E) → List (List E)
  seens passes = map seen passes
