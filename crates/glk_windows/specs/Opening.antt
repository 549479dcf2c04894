-- Windows that are opened (Glk 0.7.5, "Window Opening, Closing, and Constraints").
use Rattle.std.specs.Prelude.{ℕ, ◌+◌, ◌==◌, nat_lt, nat_le, not, length, ◌++◌, ◌||◌, ◌&&◌}
use Rattle.std.specs.Prelude.{if◌then◌else◌, Bool, false, List, [], ◌∷◌, ◌≡◌, true, ◌⊎◌}
use Rattle.glk_windows.specs.Arranging.{is_method}
use Rattle.glk_windows.specs.declared.window.Window.{Window}
use Rattle.glk_windows.specs.declared.window.Content.{Content}
use Rattle.glk_windows.specs.declared.window.Content.TheVariants.{Pair, Blank, Buffer, Grid}
use Rattle.glk_windows.specs.Tree.{WindowTree, IsLive, set_at, parent_of, swapped}

-- a blank, a buffer or a grid window
abbrev pub is_kind : ℕ → Bool
is_kind kind = nat_le 2 kind && nat_le kind 4

-- a new window's content: a buffer without text, a grid without cells
abbrev pub new_content : ℕ → Content
new_content kind =
    if kind == 3 then Buffer (record { cleared = false; runs = [] })
    else (if kind == 4 then Grid (record { w = 0; h = 0; x = 0; y = 0; cells = [] }) else Blank)

-- a new window, with no rectangle yet
abbrev pub unplaced_window : ℕ → ℕ → ℕ → Content → Window
unplaced_window number rock parent content = record {
  number = number;
  rock = rock;
  stream = 0;
  echo = 0;
  parent = parent;
  area = record { x = 0; y = 0; w = 0; h = 0 };
  content = content;
}

-- the first window, or 0 where there is one, the type can't be opened, or a limit is met
abbrev pub first_opened : WindowTree → ℕ → ℕ → WindowTree × ℕ
first_opened t kind rock =
    if not (t.root == 0) || not (is_kind kind) || nat_lt 4294967294 t.next
    || nat_lt 64 (length t.slots + 1)
    then (t, 0)
    else (
      record {
        slots = t.slots ++ unplaced_window t.next rock 0 (new_content kind) ∷ [];
        next = t.next + 1;
        root = t.next;
      },
      t.next,
    )

-- the windows with a pair in the place of one of them
abbrev pub pair_joined : List Window → ℕ → ℕ → List Window
pair_joined ws from pair =
    set_at (λ w. record w { parent = pair })
    (set_at (λ w. record w { content = swapped w.content from pair }) ws (parent_of ws from)) from

-- a window beside another, under a new pair in whose place that one stood, or 0 as above
abbrev pub beside_opened : WindowTree → ℕ → ℕ → ℕ → ℕ → ℕ → WindowTree × ℕ
beside_opened t from method size kind rock =
    if not (is_kind kind) || nat_le 4294967294 t.next || nat_lt 64 (length t.slots + 2)
    then (t, 0)
    else (
      record {
        slots = pair_joined t.slots from (t.next + 1)
            ++ unplaced_window t.next rock (t.next + 1) (new_content kind)
            ∷ unplaced_window (t.next + 1) 0 (parent_of t.slots from)
            (Pair (record {
              method = method;
              size = size;
              key = t.next;
              first = from;
              second = t.next;
            })) ∷ [];
        next = t.next + 2;
        root = if t.root == from then t.next + 1 else t.root;
      },
      t.next,
    )

-- the first window is wanted, or one beside a live window by a method that divides
abbrev pub MaySplit : WindowTree → ℕ → ℕ → Type 0
MaySplit t from method = (from ≡ 0) ⊎ (IsLive t from × (is_method method ≡ true))

-- the new window, or 0 where nothing is made
abbrev pub split : WindowTree → ℕ → ℕ → ℕ → ℕ → ℕ → WindowTree × ℕ
split t from method size kind rock =
    if from == 0 then first_opened t kind rock else beside_opened t from method size kind rock
