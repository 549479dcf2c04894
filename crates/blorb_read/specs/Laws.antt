-- Which entry of a container's index names the story (Blorb 2.0.4, "Contents of the Resource Index
-- Chunk").
use Rattle.std.specs.Prelude.{◌≡◌, ℕ, ◌+◌, ◌*◌, ◌<◌, true, false, List, MatchOption}
use Rattle.blorb_read.specs.Container.{word, is_executable, story_start}

-- where the i-th of the entries stands that begin at a place
abbrev pub entry_at : ℕ → ℕ → ℕ
entry_at from i = from + 12 * i

-- of so many entries, the i-th is that of the story, none before it is, and it gives this start
pub record IsFirstStory (count from : ℕ) (bytes : List ℕ) (start i : ℕ) : Type 0 where
  pub inside : i < count
  pub found : is_executable bytes (entry_at from i) ≡ true
  pub first : (j : ℕ) → j < i → is_executable bytes (entry_at from j) ≡ false
  pub gives : start ≡ word bytes (entry_at from i + 8)

-- no entry is that of a story
abbrev pub HasNone : ℕ → ℕ → List ℕ → Type 0
HasNone count from bytes =
    (j : ℕ) → j < count → is_executable bytes (entry_at from j) ≡ false

-- the start that is read is that of the first entry of usage `Exec` and number 0
abbrev pub FindsFirst : Type 0
FindsFirst =
    (count from : ℕ) (bytes : List ℕ)
    → MatchOption (story_start count from bytes) (HasNone count from bytes)
    (λ start. (i : ℕ) × IsFirstStory count from bytes start i)
