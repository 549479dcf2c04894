-- Values that the format gives, so that a wrong rule in the specs doesn't check.
use Rattle.std.specs.Prelude.{◌≡◌, ◌++◌, refl, [], ◌∷◌, true, false, replicate}
use Rattle.snap_fields.specs.Numbers.{n1, n4, n8, list_of, bytes_with_count, text_codes}
use Rattle.snap_fields.specs.Printing.{print_waiting, print_window, print_stream}
use Rattle.snap_fields.specs.Printing.{print_fields, print_undo_state}
use Rattle.snap_fields.specs.declared.fields.SnapWaiting.TheVariants.{Quit, Fault, Prompt}
use Rattle.snap_fields.specs.declared.glk.SnapContent.TheVariants.{Grid}
use Rattle.snap_fields.specs.declared.glk.SnapRequest.TheVariants.{Char}
use Rattle.snap_fields.specs.declared.glk.SnapTarget.TheVariants as target

pub numbers : n1 7 ++ (n4 258 ++ n8 1) ≡ 7 ∷ 0 ∷ 0 ∷ 1 ∷ 2 ∷ 0 ∷ 0 ∷ 0 ∷ 0 ∷ 0 ∷ 0 ∷ 0 ∷ 1 ∷ []
numbers = refl

pub no_bytes : bytes_with_count [] ≡ 0 ∷ 0 ∷ 0 ∷ 0 ∷ []
no_bytes = refl

-- contents of one byte, a stack of one, and a heap of one block of 5 bytes from 512 on
pub one_undo_state : list_of print_undo_state (record {
  contents = 70 ∷ [];
  stack = 71 ∷ [];
  heap_start = 512;
  heap = record { at = 512; length = 5 } ∷ [];
} ∷ [])
    ≡ 0 ∷ 0 ∷ 0 ∷ 1 ∷ 0 ∷ 0 ∷ 0 ∷ 1 ∷ 70 ∷ 0 ∷ 0 ∷ 0 ∷ 1 ∷ 71 ∷ 0 ∷ 0 ∷ 2 ∷ 0
    ∷ 0 ∷ 0 ∷ 0 ∷ 1 ∷ 0 ∷ 0 ∷ 2 ∷ 0 ∷ 0 ∷ 0 ∷ 0 ∷ 5 ∷ []
one_undo_state = refl

pub a_text : text_codes (0xE9 ∷ []) ≡ 0 ∷ 0 ∷ 0 ∷ 1 ∷ 0 ∷ 0 ∷ 0 ∷ 0xE9 ∷ []
a_text = refl

pub a_fault : print_waiting (Fault 24) ≡ 1 ∷ 24 ∷ []
a_fault = refl

pub a_prompt : print_waiting (Prompt 1 2 0 (record { kind = 3; address = 4 }))
    ≡ 3 ∷ 0 ∷ 0 ∷ 0 ∷ 1 ∷ 0 ∷ 0 ∷ 0 ∷ 2 ∷ replicate 4 0 ++ (0 ∷ 0 ∷ 0 ∷ 3 ∷ 0 ∷ 0 ∷ 0 ∷ 4 ∷ [])
a_prompt = refl

-- a grid of one cell, which waits for a Unicode character
pub a_grid : print_window (record {
  number = 2;
  rock = 0;
  stream = 3;
  echo_stream = 0;
  parent = 1;
  echo = true;
  terminators = [];
  area = record { x = 0; y = 5; w = 1; h = 1 };
  content = Grid 1 0 (72 ∷ []);
  request = Char true;
}) ≡ 0 ∷ 0 ∷ 0 ∷ 2 ∷ 0 ∷ 0 ∷ 0 ∷ 4 ∷ 0 ∷ 0 ∷ 0 ∷ 0 ∷ 0 ∷ 0 ∷ 0 ∷ 3 ∷ 0 ∷ 0 ∷ 0 ∷ 0
    ∷ 0 ∷ 0 ∷ 0 ∷ 1 ∷ 0 ∷ 0 ∷ 0 ∷ 1 ∷ 0 ∷ 0 ∷ 0 ∷ 0
    ∷ 0 ∷ 0 ∷ 0 ∷ 0 ∷ 0 ∷ 0 ∷ 0 ∷ 5 ∷ 0 ∷ 0 ∷ 0 ∷ 1 ∷ 0 ∷ 0 ∷ 0 ∷ 1
    ∷ 0 ∷ 0 ∷ 0 ∷ 1 ∷ 0 ∷ 0 ∷ 0 ∷ 0 ∷ 0 ∷ 0 ∷ 0 ∷ 72 ∷ 2 ∷ 1 ∷ []
a_grid = refl

-- a stream to the file `a`
pub a_file_stream : print_stream (record {
  number = 4;
  rock = 0;
  mode = 5;
  style = 0;
  read = 0;
  written = 6;
  position = 6;
  unicode = false;
  target = target.File 1 (97 ∷ []);
}) ≡ 0 ∷ 0 ∷ 0 ∷ 4 ∷ 2 ∷ 0 ∷ 0 ∷ 0 ∷ 0 ∷ 0 ∷ 0 ∷ 0 ∷ 5 ∷ 0 ∷ 0 ∷ 0 ∷ 0 ∷ 0 ∷ 0 ∷ 0 ∷ 0
    ∷ 0 ∷ 0 ∷ 0 ∷ 6 ∷ 0 ∷ 0 ∷ 0 ∷ 6 ∷ 0
    ∷ 0 ∷ 0 ∷ 0 ∷ 1 ∷ 0 ∷ 0 ∷ 0 ∷ 1 ∷ 0 ∷ 0 ∷ 0 ∷ 97 ∷ []
a_file_stream = refl

-- a story that has quit at once, with seed 1 on a screen of 80 by 24
pub a_world_that_has_quit : print_fields (record {
  setup = record { seed = 1; cols = 80; rows = 24; budget = 50000000 };
  machine = record {
    pc = 0;
    frame = 0;
    memory = 0 ∷ 0 ∷ 1 ∷ 0 ∷ [];
    stack = [];
    heap_start = 0;
    heap = [];
  };
  settings = record { mode = 0; rock = 0; string_table = 0; protect_start = 0; protect_length = 0 };
  random = record { start = 0; stream = 0; taken = 0; fresh = 0 };
  undo = [];
  waiting = Quit;
  numbers = record { window = 1; stream = 1; fileref = 1; root = 0; current = 0 };
  windows = [];
  streams = [];
  filerefs = [];
  files = [];
  show = 69 ∷ 32 ∷ 113 ∷ 117 ∷ 105 ∷ 116 ∷ 10 ∷ [];
}) ≡ 0x53 ∷ 0x54 ∷ 0x57 ∷ 0x32 ∷ 0 ∷ 0 ∷ 0 ∷ 0 ∷ 0 ∷ 0 ∷ 0 ∷ 1 ∷ 80 ∷ 24
    ∷ 0 ∷ 0 ∷ 0 ∷ 0 ∷ 0x02 ∷ 0xFA ∷ 0xF0 ∷ 0x80
    ∷ (replicate 8 0 ++ (0 ∷ 0 ∷ 0 ∷ 4 ∷ 0 ∷ 0 ∷ 1 ∷ 0 ∷ replicate 69 0))
    ++ (0 ∷ 0 ∷ 0 ∷ 1 ∷ 0 ∷ 0 ∷ 0 ∷ 1 ∷ 0 ∷ 0 ∷ 0 ∷ 1 ∷ replicate 24 0)
    ++ (0 ∷ 0 ∷ 0 ∷ 7 ∷ 69 ∷ 32 ∷ 113 ∷ 117 ∷ 105 ∷ 116 ∷ 10 ∷ [])
unfolding print_fields
a_world_that_has_quit = refl
