-- Values that the standard's tables of nodes and objects give, so that a wrong rule in the specs
-- doesn't check.
use Rattle.std.proofs.Common.{◌≡◌, refl, List, [], ◌∷◌, ℕ, Ok, Err}
use Rattle.vm_memory.specs.MemoryMap.{MemoryMap}
use Rattle.vm_string.specs.Node.{node_at, contents}
use Rattle.vm_string.specs.Meaning.{bits, pieces, pieces_of, decoded, descend, led, Is, Stops}
use Rattle.vm_string.specs.declared.node.Node.TheVariants as node
use Rattle.vm_string.specs.declared.piece.Piece.TheVariants.{Char, End}
use Rattle.vm_string.specs.declared.stop.StringStop.TheVariants.{BadString}

abbrev memory_of : List ℕ → MemoryMap
memory_of bytes = record { bytes = bytes; ramstart = 0; rom = bytes; endmem = 0 }

the_low_bit_is_first : bits (0x0E ∷ []) ≡ 0 ∷ 1 ∷ 1 ∷ 1 ∷ 0 ∷ 0 ∷ 0 ∷ 0 ∷ []
unfolding bits
the_low_bit_is_first = refl

a_fork : node_at (memory_of (0 ∷ 0 ∷ 0 ∷ 0 ∷ 9 ∷ 0 ∷ 0 ∷ 1 ∷ 2 ∷ [])) 0 ≡ Ok (node.Fork 9 258)
unfolding node_at contents
a_fork = refl

a_word_is_a_character : node_at (memory_of (4 ∷ 0 ∷ 1 ∷ 0xF6 ∷ 0 ∷ [])) 0 ≡ Ok (node.One 0x1F600)
unfolding node_at contents
a_word_is_a_character = refl

an_address_behind_an_address : node_at (memory_of (9 ∷ 0 ∷ 0 ∷ 0 ∷ 5 ∷ 0 ∷ 0 ∷ 0 ∷ 7 ∷ [])) 0
    ≡ Ok (node.Refers 7 0 0)
unfolding node_at contents
an_address_behind_an_address = refl

arguments_stand_behind_their_count :
    node_at (memory_of (0x0A ∷ 0 ∷ 0 ∷ 0 ∷ 5 ∷ 0 ∷ 0 ∷ 0 ∷ 2 ∷ [])) 0 ≡ Ok (node.Refers 5 9 2)
unfolding node_at contents
arguments_stand_behind_their_count = refl

no_node_has_type_6 : node_at (memory_of (6 ∷ [])) 0 ≡ Err (BadString 0)
unfolding node_at contents
no_node_has_type_6 = refl

a_string_of_bytes : pieces (memory_of (0xE0 ∷ 72 ∷ 105 ∷ 0 ∷ [])) 0 0 9
    ≡ Is (Char 72) ∷ Is (Char 105) ∷ Is End ∷ []
unfolding pieces_of
a_string_of_bytes = refl

a_string_of_words : pieces (memory_of (0xE2 ∷ 9 ∷ 9 ∷ 9 ∷ 0 ∷ 1 ∷ 2 ∷ 3 ∷ [])) 0 0 9
    ≡ Is (Char 0x010203) ∷ Stops 1 ∷ []
unfolding pieces_of
a_string_of_words = refl

-- at 1 a table: its root at 13 is a fork to the end and to the character a
abbrev table : List ℕ
table =
    0 ∷ 0 ∷ 0 ∷ 0 ∷ 0 ∷ 0 ∷ 0 ∷ 0 ∷ 0 ∷ 0 ∷ 0 ∷ 0 ∷ 13 ∷
    0 ∷ 0 ∷ 0 ∷ 0 ∷ 22 ∷ 0 ∷ 0 ∷ 0 ∷ 23 ∷ 1 ∷ 2 ∷ 97 ∷ 0xE1 ∷ 3 ∷ []

a_compressed_string : pieces (memory_of table) 1 25 9 ≡ Is (Char 97) ∷ Is (Char 97) ∷ Is End ∷ []
unfolding pieces_of decoded descend led node_at contents bits
a_compressed_string = refl

one_without_a_table : pieces (memory_of table) 0 25 9 ≡ Stops 16 ∷ []
unfolding pieces_of decoded
one_without_a_table = refl
