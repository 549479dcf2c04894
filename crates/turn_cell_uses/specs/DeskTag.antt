-- The tag of a desk: its session, its stories and the cell of its book (own).
use Rattle.std.specs.Prelude.{◌≡◌, ℕ, ◌<◌, List, Some}
use Rattle.atomic_table.specs.Seated.{TableId}
use Rattle.turn_cell.specs.declared.pass.Pass.{Pass}
use Rattle.turn_cell.specs.declared.cell.Cell.{Cell}
use Rattle.turn_cell.specs.Passes.{tag_of}
use Rattle.turn_cell_uses.specs.declared.book.Disk.{Ghosts}
use Rattle.turn_cell_uses.specs.declared.desk.Desk.{Desk}

pub record BookDeskTag : Type 0 where
  pub session : ℕ
  pub stories : List ℕ
  pub cell : TableId

abbrev pub book_desk_tag : {D : Type 0} {g : Ghosts D} → Desk D g → BookDeskTag
book_desk_tag s =
    record { session = s.session; stories = s.stories.now; cell = s.pass.known.place.table_id }

-- the pass is of a desk of this book, with a session below 64
abbrev pub IsDeskOfBook : {B E D F : Type 0} {g : Ghosts D} → Cell B E → Pass (Desk D g) F → Type 0
IsDeskOfBook c p = (session : ℕ) × (stories : List ℕ) × (session < 64) × (tag_of book_desk_tag p
    ≡ Some (record { session = session; stories = stories; cell = c.table.shared.table_id }))
