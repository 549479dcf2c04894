-- What a string is: the list of its pieces (Glulx 3.1.3, "Strings").
use Rattle.std.specs.Prelude.{ℕ, zero, suc, ◌≡◌, ◌+◌, ◌*◌, ◌/◌, ◌%◌, ◌^◌, ◌==◌, nat_le}
use Rattle.std.specs.Prelude.{if◌then◌else◌, List, [], ◌∷◌, ◌++◌, length, drop, Result, Ok, Err}
use Rattle.byteorder.specs.Endian.{big_number}
use Rattle.vm_memory.specs.Chaining.{◌>>=◌}
use Rattle.vm_memory.specs.Access.{read}
use Rattle.vm_memory.specs.Fault as memory
use Rattle.vm_memory.specs.MemoryMap.{MemoryMap}
use Rattle.vm_string.specs.Fault.{string_coded}
use Rattle.vm_string.specs.Node.{node_at}
use Rattle.vm_string.specs.declared.node.Node.{Node}
use Rattle.vm_string.specs.declared.node.Node.TheVariants as node
use Rattle.vm_string.specs.declared.piece.Cursor.{Cursor}
use Rattle.vm_string.specs.declared.piece.Piece.{Piece}
use Rattle.vm_string.specs.declared.piece.Piece.TheVariants as piece
use Rattle.vm_string.specs.declared.stop.StringStop.{StringStop}

-- the bits of a byte, the low bit first
abbrev pub bits_in : ℕ → List ℕ
bits_in b =
    b / 2 ^ 0 % 2 ∷ b / 2 ^ 1 % 2 ∷ b / 2 ^ 2 % 2 ∷ b / 2 ^ 3 % 2
    ∷ b / 2 ^ 4 % 2 ∷ b / 2 ^ 5 % 2 ∷ b / 2 ^ 6 % 2 ∷ b / 2 ^ 7 % 2 ∷ []

-- the bits of bytes, one list
unfoldable pub bits : List ℕ → List ℕ
bits [] = []
bits (b ∷ bytes) = bits_in b ++ bits bytes

-- what is left of a string: an object that isn't read yet; characters of so many bytes; bits, with
-- how many characters are taken of the node of characters that they lead to
pub data Rest : Type 0 where
  Object : ℕ → Rest
  Plain : ℕ → List ℕ → Rest
  Coded : List ℕ → ℕ → Rest
  Nothing : Rest

-- where bits lead in the table as a tree: a node, the bits with which its path began, and those
-- behind it; and how many characters are taken at the path's end
pub record Trail : Type 0 where
  pub node : ℕ
  pub start : List ℕ
  pub here : List ℕ
  pub taken : ℕ

-- a node is a leaf, with the next piece and what is left; or the path goes on, by a bit, or behind
-- the last of a leaf's characters
pub data Leads : Type 0 where
  Leaf : Piece → Rest → Leads
  Fork : ℕ → ℕ → Leads
  Over : Leads

-- a character of a leaf, or the end of its characters
abbrev pub one_of : Trail → ℕ → Leads
one_of t x = if x == 0 then Over else Leaf (piece.Char x) (Coded t.start (t.taken + 1))

unfoldable pub led : MemoryMap → Trail → Node → Result Leads ℕ
led m t (node.Fork left right) = Ok (Fork left right)
led m t node.End = Ok (Leaf piece.End (Coded t.here 0))
led m t (node.One x) = Ok (Leaf (piece.Char x) (Coded t.here 0))
led m t (node.Bytes at) = memory.coded (read 1 m (at + t.taken)) >>= (λ x. Ok (one_of t x))
led m t (node.Words at) = memory.coded (read 4 m (at + 4 * t.taken)) >>= (λ x. Ok (one_of t x))
led m t (node.Refers at args_at args) = Ok (Leaf (piece.Call at args_at args) (Coded t.here 0))

-- 0 goes left, 1 right; the bits end with memory
abbrev pub trail_forked : Trail → ℕ → ℕ → List ℕ → Result Trail ℕ
trail_forked t left right [] = Err 1
trail_forked t left right (bit ∷ bits) =
    Ok (record t { node = if bit == 0 then left else right; here = bits })

-- a piece, or else the piece of the path that goes on
abbrev pub gone_on : ℕ → Trail → (Trail → Result (Piece × Rest) ℕ) → Leads
    → Result (Piece × Rest) ℕ
gone_on root t go (Leaf p r) = Ok (p, r)
gone_on root t go (Fork left right) = trail_forked t left right t.here >>= go
gone_on root t go Over = go (record { node = root; start = t.here; here = t.here; taken = 0 })

-- a path that is too long
abbrev pub given_up : Leads → Result (Piece × Rest) ℕ
given_up (Leaf p r) = Ok (p, r)
given_up (Fork left right) = Err 15
given_up Over = Err 15

-- the piece to which at most n branches lead
unfoldable pub descend : ℕ → MemoryMap → ℕ → Trail → Result (Piece × Rest) ℕ
descend zero m root t = string_coded (node_at m t.node) >>= (λ x. led m t x >>= given_up)
descend (suc n) m root t =
    string_coded (node_at m t.node) >>= (λ x. led m t x >>= gone_on root t (descend n m root))

-- the next character of n bytes
abbrev pub plain : ℕ → List ℕ → Result (Piece × Rest) ℕ
plain n bytes =
    if nat_le n (length bytes)
    then Ok (
      if big_number n bytes == 0 then piece.End else piece.Char (big_number n bytes),
      Plain n (drop n bytes),
    )
    else Err 1

-- the next piece of bits under a table
unfoldable pub decoded : MemoryMap → ℕ → List ℕ → ℕ → Result (Piece × Rest) ℕ
decoded m table bits taken =
    if table == 0 then Err 16
    else memory.coded (read 4 m ((table + 8) % 2 ^ 32)) >>= (λ root. descend 65536 m root
    (record { node = root; start = bits; here = bits; taken = taken }))

-- the string in an object
abbrev pub string_in : MemoryMap → ℕ → ℕ → Result Rest ℕ
string_in m at kind =
    if kind == 0xE0 then Ok (Plain 1 (drop (at + 1) m.bytes))
    else (if kind == 0xE1 then Ok (Coded (drop (8 * (at + 1)) (bits m.bytes)) 0)
    else (if kind == 0xE2 then Ok (Plain 4 (drop (at + 4) m.bytes))
    else Err 15))

abbrev pub string_begun : MemoryMap → Rest → Result Rest ℕ
string_begun m (Object at) = memory.coded (read 1 m at) >>= string_in m at
string_begun m (Plain n bytes) = Ok (Plain n bytes)
string_begun m (Coded bits taken) = Ok (Coded bits taken)
string_begun m Nothing = Ok Nothing

abbrev pub piece_of : MemoryMap → ℕ → Rest → Result (Piece × Rest) ℕ
piece_of m table (Plain n bytes) = plain n bytes
piece_of m table (Coded bits taken) = decoded m table bits taken
piece_of m table (Object at) = Err 15
piece_of m table Nothing = Err 15

-- the first piece, and what is left
abbrev pub first : MemoryMap → ℕ → Rest → Result (Piece × Rest) ℕ
first m table r = string_begun m r >>= (λ s. piece_of m table s)

-- an item of a string's list: a piece, or the fault that ends it
pub data Item : Type 0 where
  Is : Piece → Item
  Stops : ℕ → Item

-- nothing follows the end
abbrev pub items : Piece → List Item → List Item
items piece.End more = Is piece.End ∷ []
items (piece.Char x) more = Is (piece.Char x) ∷ more
items (piece.Call at args_at args) more = Is (piece.Call at args_at args) ∷ more

abbrev pub items_listed : {S : Type 0} → Result (Piece × S) ℕ → (S → List Item) → List Item
items_listed (Err n) more = Stops n ∷ []
items_listed (Ok x) more = items x.0 (more x.1)

-- the first n pieces of what is left
unfoldable pub pieces_of : ℕ → MemoryMap → ℕ → Rest → List Item
pieces_of zero m table r = []
pieces_of (suc n) m table r = items_listed (first m table r) (pieces_of n m table)

-- the first n pieces of the string at an address
abbrev pub pieces : MemoryMap → ℕ → ℕ → ℕ → List Item
pieces m table at n = pieces_of n m table (Object at)

-- what a cursor stands for
abbrev pub rest_of_string : MemoryMap → Cursor → Rest
rest_of_string m c =
    if c.kind == 0 then Object c.at
    else (if c.kind == 0xE0 then Plain 1 (drop c.at m.bytes)
    else (if c.kind == 0xE1 then Coded (drop (8 * c.at + c.bit % 8) (bits m.bytes)) (c.bit / 8)
    else (if c.kind == 0xE2 then Plain 4 (drop c.at m.bytes)
    else Nothing)))

-- for every n a cursor stands for what the call gave, and then for what the new cursor stands for
abbrev pub SpellsPiece : MemoryMap → ℕ → Cursor → Result (Piece × Cursor) StringStop → Type 0
SpellsPiece m table c result =
    (n : ℕ)
    → items_listed (string_coded result) (λ d. pieces_of n m table (rest_of_string m d))
    ≡ pieces_of (suc n) m table (rest_of_string m c)
