-- Values that the formats give, so that a wrong rule in the specs doesn't check.
use Rattle.std.specs.Prelude.{◌≡◌, ◌++◌, refl, [], ◌∷◌, true, false, replicate, Some, None}
use Rattle.vm_memory.specs.MemoryMap.{MemoryMap}
use Rattle.vm_undo.specs.Contents.{contents}
use Rattle.vm_undo.specs.Runs.{runs_coded, runs_decoded, zeros}
use Rattle.vm_undo.specs.RunsTest.{are_runs}
use Rattle.vm_undo.specs.UndoList.{weight}
use Rattle.vm_undo.specs.declared.undo.TheConstants.{MAX_STATES, MAX_WEIGHT}

-- a memory of 512 bytes that differs from its story's by `go` at 0x100 and by an event at 0x120
abbrev example : MemoryMap
example = record {
  bytes = replicate 256 0 ++ (0x67 ∷ 0x6F ∷ replicate 30 0 ++ 0 ∷ 0 ∷ 0 ∷ 3 ∷ 0 ∷ 0 ∷ 0 ∷ 1 ∷ 0
      ∷ 0 ∷ 0 ∷ 2 ∷ replicate 212 0);
  ramstart = 256;
  rom = replicate 256 0;
  endmem = 512;
}

the_contents_of_a_memory : contents example
    ≡ 0 ∷ 0 ∷ 2 ∷ 0 ∷ 0x67 ∷ 0x6F ∷ 0 ∷ 0x20 ∷ 3 ∷ 0 ∷ 2 ∷ 1 ∷ 0 ∷ 2 ∷ 2 ∷ []
unfolding zeros
the_contents_of_a_memory = refl

-- with a stack of 28 bytes and no block
the_weight_of_a_state : weight (record {
  memory = example;
  stack = replicate 28 0;
  heap = [];
  heap_start = 0;
}) ≡ 43
unfolding weight zeros
the_weight_of_a_state = refl

sixteen_states : MAX_STATES ≡ 16
sixteen_states = refl

sixteen_mebibytes : MAX_WEIGHT ≡ 16777216
sixteen_mebibytes = refl

a_run_of_257_and_a_change : are_runs 258 (0 ∷ 255 ∷ 0 ∷ 0 ∷ 7 ∷ []) ≡ true
a_run_of_257_and_a_change = refl

a_short_run_before_a_run : are_runs 300 (0 ∷ 0 ∷ 0 ∷ 255 ∷ 7 ∷ []) ≡ false
a_short_run_before_a_run = refl

a_run_at_the_end : are_runs 300 (7 ∷ 0 ∷ 5 ∷ []) ≡ false
a_run_at_the_end = refl

a_change_past_the_end : are_runs 1 (7 ∷ 7 ∷ []) ≡ false
a_change_past_the_end = refl

a_change_behind_zeros : runs_coded 0 (0 ∷ 0 ∷ 7 ∷ 0 ∷ []) ≡ 0 ∷ 1 ∷ 7 ∷ []
unfolding zeros
a_change_behind_zeros = refl

a_run_of_257 : zeros 257 ≡ 0 ∷ 255 ∷ 0 ∷ 0 ∷ []
unfolding zeros
a_run_of_257 = refl

a_run_and_a_change : runs_decoded false (1 ∷ 2 ∷ 3 ∷ []) (0 ∷ 1 ∷ 4 ∷ [])
    ≡ Some (1 ∷ 2 ∷ 7 ∷ [])
a_run_and_a_change = refl

a_run_past_the_end : runs_decoded false (1 ∷ 2 ∷ []) (0 ∷ 2 ∷ []) ≡ None
a_run_past_the_end = refl
