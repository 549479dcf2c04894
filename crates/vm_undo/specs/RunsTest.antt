-- Which bytes are runs as the writer codes them (Quetzal 1.4, "Content of dynamic memory").
use Rattle.std.specs.Prelude.{ℕ, ◌+◌, ◌-◌, Bool, true, false, ◌&&◌, ◌==◌, nat_le, nat_lt}
use Rattle.std.specs.Prelude.{if◌then◌else◌, List, [], ◌∷◌, Option, Some, None}
use Rattle.vm_undo.specs.declared.runs.Behind.{Behind}
use Rattle.vm_undo.specs.declared.runs.Behind.TheVariants.{Change, Full, Short, Zero}

-- Runs over n bytes, behind a change, a full run of 256, a shorter run, or a zero whose run's length
-- is next. A run stands before a change or, where it is full, before another run; so none stands at
-- the end. No byte passes the n.
abbrev pub are_runs_behind : Behind → ℕ → List ℕ → Bool
are_runs_behind Change n [] = true
are_runs_behind Full n [] = false
are_runs_behind Short n [] = false
are_runs_behind Zero n [] = false
are_runs_behind Change n (b ∷ bs) =
    if b == 0 then are_runs_behind Zero n bs else nat_lt 0 n && are_runs_behind Change (n - 1) bs
are_runs_behind Full n (b ∷ bs) =
    if b == 0 then are_runs_behind Zero n bs else nat_lt 0 n && are_runs_behind Change (n - 1) bs
are_runs_behind Short n (b ∷ bs) =
    if b == 0 then false else nat_lt 0 n && are_runs_behind Change (n - 1) bs
are_runs_behind Zero n (b ∷ bs) =
    if b == 255 then nat_le 256 n && are_runs_behind Full (n - 256) bs
    else nat_lt b 255 && (nat_le (b + 1) n && are_runs_behind Short (n - (b + 1)) bs)

-- runs over n bytes
abbrev pub are_runs : ℕ → List ℕ → Bool
are_runs n bytes = are_runs_behind Change n bytes

-- the same of bytes behind a place, if there is one, over what is left there
abbrev pub are_runs_from : Option (Behind × ℕ) → List ℕ → Bool
are_runs_from None bytes = false
are_runs_from (Some place) bytes = are_runs_behind place.0 place.1 bytes
