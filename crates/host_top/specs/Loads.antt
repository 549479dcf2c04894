-- Loads, one after the other, where it is told which of them are to fail (own).
use Rattle.std.specs.Prelude.{◌≡◌, ◌⊎◌, ℕ, zero, suc, ◌<◌, Bool, true, false, ◌||◌, List, []}
use Rattle.std.specs.Prelude.{length, get_or, Option, Some, IsOk}
use Rattle.line_talk.specs.Failing.{Failing, is_to_fail, one_call_more}
use Rattle.host_top.specs.Files.{Told, is_told_missing}
use Rattle.host_top.specs.Stories.{AreFiles, IsLoadSettled, stories_of}
use Rattle.host_top.specs.declared.status.Status.{Status}
use Rattle.host_top.specs.declared.status.Status.TheVariants.{ReadFault, NoMemory}

-- behind so many calls more
abbrev pub calls_behind : ℕ → Failing → Failing
calls_behind zero calls = calls
calls_behind (suc n) calls = one_call_more (calls_behind n calls)

module _ (file : List ℕ → Told (List ℕ)) (names : List (List ℕ)) (calls : Failing) where
  -- where names are loaded in their order, the load of this one fails: its call is to fail, or its
  -- file is told to be missing
  abbrev pub fails_at : ℕ → Bool
  fails_at n = is_told_missing (file (get_or names n [])) || is_to_fail (calls_behind n calls)

  -- none of the first loads fails
  abbrev pub NoneFails : ℕ → Type 0
  NoneFails n = (k : ℕ) → k < n → fails_at k ≡ false

  -- so many loads were made, and none failed
  pub record MakesLoads (now : Option Failing) (n : ℕ) : Type 0 where
    pub made : now ≡ Some (calls_behind n calls)
    pub none_failed : NoneFails n

  -- a load failed: the first that does; those before it gave stories alone
  pub record LoadFails : Type 0 where
    pub front : List (List ℕ)
    pub are_files : AreFiles file names front
    pub are_stories : IsOk (stories_of front)
    pub none_before : NoneFails (length front)
    pub within : length front < length names
    pub fails : fails_at (length front) ≡ true

  -- no load failed, up to the last or to a file that is refused
  pub record LoadsAll : Type 0 where
    pub files : List (List ℕ)
    pub are_files : AreFiles file names files
    pub settled : IsLoadSettled names files
    pub none_failed : NoneFails (length files)

  -- the loads of a command that ended so; the last says that its input failed
  abbrev pub LoadsInOrder : Status → Type 0 → Type 0
  LoadsInOrder status Failed =
      (LoadsAll × (status ≡ ReadFault → Failed))
      ⊎ (LoadFails × (status ≡ ReadFault))
      ⊎ (status ≡ NoMemory)
