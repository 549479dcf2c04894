-- The states that undo keeps (Glulx 3.1.3, "Game State"; how many, and how heavy, is own).
use Rattle.std.specs.Prelude.{◌≡◌, ◌≤◌, ℕ, ◌+◌, ◌-◌, ◌*◌, Bool, true, ◌&&◌, nat_le, nat_lt, IsTrue}
use Rattle.std.specs.Prelude.{if◌then◌else◌, List, [], ◌∷◌, ◌++◌, length, map, take, All}
use Rattle.std.specs.Prelude.{Option, Some, None, slice_get}
use Rattle.std.specs.List.{list_all, sum_by}
use Rattle.vm_memory.specs.MemoryMap.{MemoryMap, Origin, memory_of, number_at}
use Rattle.vm_memory.specs.declared.memory.TheConstants.{MAX_SIZE}
use Rattle.vm_heap.specs.HeapMap.{is_heap}
use Rattle.vm_stack.specs.Saved.{SavedStack}
use Rattle.vm_undo.specs.Contents.{IsContents, IsMemoryOf, contents, is_contents}
use Rattle.vm_undo.specs.Contents.{memory_of_contents}
use Rattle.vm_undo.specs.SavedState.{IsHeapOver, IsSavedWithin}
use Rattle.vm_undo.specs.declared.kept.KeptState.{KeptState}
use Rattle.vm_undo.specs.declared.saved.Saved.{Saved}
use Rattle.vm_undo.specs.declared.undo.Kept.{Kept}
use Rattle.vm_undo.specs.declared.undo.Kept.TheVariants as kept
use Rattle.vm_undo.specs.declared.undo.TheConstants.{MAX_STATES, MAX_WEIGHT}

-- saved states of one image, the oldest first
pub record UndoList : Type 0 where
  pub origin : Origin
  pub states : List Saved

-- ---- limits

-- what a state weighs: the contents of its memory, the stack's bytes, and 8 bytes for each block
unfoldable pub weight : Saved → ℕ
weight s = length (contents s.memory) + length s.stack + 8 * length s.heap

-- whether things that weigh so much are few enough and light enough
abbrev pub are_within : {X : Type 0} → (X → ℕ) → List X → Bool
are_within weigh xs = nat_le (length xs) MAX_STATES && nat_le (sum_by weigh xs) MAX_WEIGHT

-- the same without the first ones, up to the first at which both limits hold
abbrev pub within_limits : {X : Type 0} → (X → ℕ) → List X → List X
within_limits weigh [] = []
within_limits weigh (x ∷ xs) =
    if are_within weigh (x ∷ xs) then x ∷ xs else within_limits weigh xs

-- there are sixteen states at most, and together they weigh 16,777,216 at most
pub record KeepLimits (states : List Saved) : Type 0 where
  pub few : length states ≤ MAX_STATES
  pub light : sum_by weight states ≤ MAX_WEIGHT

-- ---- what the calls do

-- whether a state is kept
abbrev pub answer : Saved → Kept
answer s = if nat_lt MAX_WEIGHT (weight s) then kept.TooLarge else kept.Kept

-- the list with one state more, if it isn't too large; then the oldest go until both limits hold
abbrev pub saved : UndoList → Saved → UndoList
saved u s =
    if nat_lt MAX_WEIGHT (weight s) then u
    else record u { states = within_limits weight (u.states ++ s ∷ []) }

-- the last of a list, and what stands before it
abbrev pub newest : {X : Type 0} → List X → Option X
newest xs = slice_get xs (length xs - 1)

abbrev pub before_newest : {X : Type 0} → List X → List X
before_newest xs = take (length xs - 1) xs

-- the list without the newest state
abbrev pub without_newest : UndoList → UndoList
without_newest u = record u { states = before_newest u.states }

-- whether any state is kept
abbrev pub has_any : List Saved → Bool
has_any states = nat_lt 0 (length states)

-- ---- how states are kept

abbrev pub memory_or_first : Origin → Option MemoryMap → MemoryMap
memory_or_first o (Some m) = m
memory_or_first o None = memory_of o.rom o.ramstart o.endmem

-- a state with the contents of its memory in place of the memory
unfoldable pub kept_of : Saved → KeptState
kept_of s = record {
  contents = contents s.memory;
  stack = s.stack;
  heap = s.heap;
  heap_start = s.heap_start;
}

-- the state that is kept so
unfoldable pub state_of : Origin → KeptState → Saved
state_of o k = record {
  memory = memory_or_first o (memory_of_contents o k.contents);
  stack = k.stack;
  heap = k.heap;
  heap_start = k.heap_start;
}

-- a state that undo may keep: memory of this image, and a heap by the heap's own rules
pub record IsOfImage (o : Origin) (s : Saved) : Type 0 where
  pub memory : IsMemoryOf o s.memory
  pub heap : IsTrue (is_heap s.heap_start s.heap)

-- what a state weighs as it is kept
abbrev pub kept_weight : KeptState → ℕ
kept_weight k = length k.contents + length k.stack + 8 * length k.heap

-- a state that is kept of this image: contents of a memory of it, and a heap by the heap's own rules
pub record IsKept (o : Origin) (k : KeptState) : Type 0 where
  pub contents : IsContents o k.contents
  pub heap : IsTrue (is_heap k.heap_start k.heap)

-- the same as a test, which needs no byte of the image
abbrev pub is_kept : ℕ → ℕ → KeptState → Bool
is_kept ramstart endmem k = is_contents ramstart endmem k.contents && is_heap k.heap_start k.heap

-- the list whose states are kept as these, the oldest first; none where one of them isn't kept so of
-- this image, or where they pass a limit
unfoldable pub undo_of : Origin → List KeptState → Option UndoList
undo_of o ks =
    if list_all (is_kept o.ramstart o.endmem) ks && are_within kept_weight ks
    then Some (record { origin = o; states = map (state_of o) ks }) else None

-- a kept state whose stack is a saved one of at most so many bytes, and whose heap is one over its
-- memory, with whose size the contents begin
pub record IsHeld (endmem size : ℕ) (k : KeptState) : Type 0 where
  pub sized : 4 ≤ length k.contents
  pub stack : SavedStack k.stack
  pub within : length k.stack ≤ size
  pub heap : IsHeapOver endmem (number_at 4 k.contents 0) k.heap_start k.heap

-- a list over this image, whose states are saved states of the story with it, each with a stack of
-- at most so many bytes
pub record KeepsOf (origin : Origin) (size : ℕ) (u : UndoList) : Type 0 where
  pub image : u.origin ≡ origin
  pub states : All (IsSavedWithin origin size) u.states

-- what holds of a list of kept states at all times
pub record KeepsStates (o : Origin) (states : List KeptState) : Type 0 where
  pub ram : o.ramstart ≤ length o.rom
  pub extent : length o.rom ≤ o.endmem
  pub some : 1 ≤ o.endmem
  pub limit : o.endmem ≤ MAX_SIZE
  pub all : All (IsKept o) states
  pub within : are_within kept_weight states ≡ true

-- ---- laws

-- after each save both limits hold
abbrev pub HoldsLimits : Type 0
HoldsLimits = (states : List Saved) → KeepLimits (within_limits weight states)

-- a state that isn't too large is the newest after its save
abbrev pub KeepsTheNewest : Type 0
KeepsTheNewest = (states : List Saved) (s : Saved) → weight s ≤ MAX_WEIGHT
    → newest (within_limits weight (states ++ s ∷ [])) ≡ Some s

-- a list of states of its image within the limits is the one of what is kept of them
abbrev pub GivesListBack : Type 0
GivesListBack = (u : UndoList) → All (IsOfImage u.origin) u.states → KeepLimits u.states
    → undo_of u.origin (map kept_of u.states) ≡ Some u
