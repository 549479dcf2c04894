-- The next piece at a cursor is the first of what the cursor stands for.
use Rattle.std.proofs.Common.{◌≡◌, ℕ, ◌+◌, ◌*◌, ◌/◌, ◌%◌, ◌^◌, ◌<◌, ◌≤◌, zero, suc, List, length}
use Rattle.std.proofs.Common.{drop, Result, Ok, Err, refl, arith, ◌∙◌, sym, ap, length-drop}
use Rattle.std.proofs.Common.{drop-drop, nat_le, nat_eq, true, false, Bool, cond, subst}
use Rattle.std.proofs.lemmas.Bool.{eqb-true}
use Rattle.std.proofs.lemmas.Bool.Decides.{nat_tests}
use Rattle.byteorder.specs.Endian.{big_number}
use Rattle.vm_memory.specs.Chaining.{◌>>=◌}
use Rattle.vm_memory.specs.Access.{read}
use Rattle.vm_memory.specs.Fault as memory
use Rattle.vm_memory.specs.MemoryMap.{MemoryMap}
use Rattle.vm_memory.specs.declared.fault.MemFault.{MemFault}
use Rattle.vm_memory.specs.declared.fault.MemFault.TheVariants.{BadRead, BadWrite}
use Rattle.vm_string.specs.Fault.{string_read, string_fault_code, string_coded}
use Rattle.vm_string.specs.Node.{node_at}
use Rattle.vm_string.specs.Walk.{met, branch_followed, piece_or_branch}
use Rattle.vm_string.specs.Walk.{walk, cursor_at, next_of_run}
use Rattle.vm_string.specs.Next.{piece_after, at_first_piece, piece_in}
use Rattle.vm_string.specs.Next.{coded_piece, plain_piece, way_at}
use Rattle.vm_string.specs.Meaning as x
use Rattle.vm_string.specs.Meaning.{bits, Rest, Plain, Coded, Trail, Leads, Leaf, Over}
use Rattle.vm_string.specs.Meaning.{trail_forked, gone_on, given_up, one_of, led, descend}
use Rattle.vm_string.specs.Meaning.{plain, decoded, first, piece_of, rest_of_string}
use Rattle.vm_string.specs.Meaning.{Item, items_listed, pieces_of, SpellsPiece}
use Rattle.vm_string.specs.declared.node.Node.{Node}
use Rattle.vm_string.specs.declared.node.Node.TheVariants as node
use Rattle.vm_string.specs.declared.walk.Branch.{Branch}
use Rattle.vm_string.specs.declared.walk.Branch.TheVariants as b
use Rattle.vm_string.specs.declared.walk.Way.{Way}
use Rattle.vm_string.specs.declared.walk.Turn.{Turn}
use Rattle.vm_string.specs.declared.walk.Turn.TheVariants as t
use Rattle.vm_string.specs.declared.piece.Cursor.{Cursor}
use Rattle.vm_string.specs.declared.piece.Piece.{Piece}
use Rattle.vm_string.specs.declared.piece.Piece.TheVariants as piece
use Rattle.vm_string.specs.declared.stop.StringStop.{StringStop}
use Rattle.vm_string.specs.declared.stop.StringStop.TheVariants.{NoTable, BadString}
use Rattle.vm_string.proofs.BitLemmas.{bit_here, bit_past}

-- a piece, with what its cursor stands for
abbrev pub stands : MemoryMap → Result (Piece × Cursor) StringStop → Result (Piece × Rest) ℕ
stands m (Ok p) = Ok (p.0, rest_of_string m p.1)
stands m (Err e) = Err (string_fault_code e)

abbrev trail_of : MemoryMap → Way → Trail
trail_of m w = record {
  node = w.node;
  start = drop w.start (bits m.bytes);
  here = drop w.here (bits m.bytes);
  taken = w.taken;
}

abbrev branch_of : Branch → Leads
branch_of (b.Fork left right) = x.Fork left right
branch_of b.NewPath = Over

abbrev lead_of : MemoryMap → Turn → Leads
lead_of m (t.Gives p c) = Leaf p (rest_of_string m c)
lead_of m (t.Branches k) = branch_of k

abbrev mapped : MemoryMap → Result Turn StringStop → Result Leads ℕ
mapped m (Ok k) = Ok (lead_of m k)
mapped m (Err e) = Err (string_fault_code e)

abbrev trails : MemoryMap → Result Way StringStop → Result Trail ℕ
trails m (Ok w) = Ok (trail_of m w)
trails m (Err e) = Err (string_fault_code e)

cursor_is : (m : MemoryMap) (p k : ℕ)
    → rest_of_string m (cursor_at p k) ≡ Coded (drop p (bits m.bytes)) k
cursor_is m p k =
    ap (λ (i : ℕ). Coded (drop i (bits m.bytes)) ((p % 8 + 8 * k) / 8))
    (let e : 8 * (p / 8) + (p % 8 + 8 * k) % 8 ≡ p = omega arith in e)
    ∙ ap (λ (j : ℕ). Coded (drop p (bits m.bytes)) j)
    (let e : (p % 8 + 8 * k) / 8 ≡ k = omega arith in e)

gives_is : (m : MemoryMap) (q : Piece) (p k : ℕ)
    → ◌≡◌ {A = Result Leads ℕ} (Ok (Leaf q (rest_of_string m (cursor_at p k))))
    (Ok (Leaf q (Coded (drop p (bits m.bytes)) k)))
gives_is m q p k = ap (λ (r : Rest). Ok (Leaf q r)) (cursor_is m p k)

run_if : (m : MemoryMap) (c : ℕ) (w : Way) (z : Bool)
    → lead_of m
    (cond z (t.Branches b.NewPath) (t.Gives (piece.Char c) (cursor_at w.start (w.taken + 1))))
    ≡ cond z Over (Leaf (piece.Char c) (Coded (drop w.start (bits m.bytes)) (w.taken + 1)))
run_if m c w true = refl
run_if m c w false = ap (λ (r : Rest). Leaf (piece.Char c) r) (cursor_is m w.start (w.taken + 1))

run_read : (m : MemoryMap) (w : Way) (r : Result ℕ MemFault)
    → mapped m (string_read r >>= (λ c. Ok (next_of_run w c)))
    ≡ memory.coded r >>= (λ c. Ok (one_of (trail_of m w) c))
run_read m w (Ok c) = ap (λ (f : Leads). Ok f) (run_if m c w (nat_eq c 0))
run_read m w (Err (BadRead at)) = refl
run_read m w (Err (BadWrite at)) = refl

met_is : (m : MemoryMap) (w : Way) (n : Node) → mapped m (met m w n) ≡ led m (trail_of m w) n
unfolding met led
met_is m w (node.Fork left right) = refl
met_is m w node.End = gives_is m piece.End w.here 0
met_is m w (node.One c) = gives_is m (piece.Char c) w.here 0
met_is m w (node.Bytes at) = run_read m w (read 1 m (at + w.taken))
met_is m w (node.Words at) = run_read m w (read 4 m (at + 4 * w.taken))
met_is m w (node.Refers at args_at args) = gives_is m (piece.Call at args_at args) w.here 0

fork_if : (m : MemoryMap) (w : Way) (left right : ℕ) (z : Bool)
    → (z ≡ true → w.here / 8 < length m.bytes)
    → (z ≡ false → length m.bytes ≤ w.here / 8)
    → trails m ((string_read
    (cond z (Ok (big_number 1 (drop (w.here / 8) m.bytes))) (Err (BadRead (w.here / 8))))
    >>= (λ byte. Ok (byte / 2 ^ (w.here % 8) % 2)))
    >>= (λ bit. Ok (record w { node = cond (nat_eq bit 0) left right; here = w.here + 1 })))
    ≡ trail_forked (trail_of m w) left right (drop w.here (bits m.bytes))
fork_if m w left right true inside past =
    ap (λ (l : List ℕ). trail_forked (trail_of m w) left right l)
    (sym (bit_here w.here m.bytes (inside refl)))
fork_if m w left right false inside past =
    ap (λ (l : List ℕ). trail_forked (trail_of m w) left right l)
    (sym (bit_past w.here m.bytes (past refl)))

inside_of : (a n : ℕ) → nat_le (a + 1) n ≡ true → a < n
inside_of a n e = grind (arith, nat_tests)

past_of : (a n : ℕ) → nat_le (a + 1) n ≡ false → n ≤ a
past_of a n e = grind (arith, nat_tests)

fork_is : (m : MemoryMap) (root : ℕ) (w : Way) (left right : ℕ)
    → trails m (branch_followed m root w (b.Fork left right))
    ≡ trail_forked (trail_of m w) left right (drop w.here (bits m.bytes))
fork_is m root w left right =
    fork_if m w left right (nat_le (w.here / 8 + 1) (length m.bytes))
    (inside_of (w.here / 8) (length m.bytes)) (past_of (w.here / 8) (length m.bytes))

way_is : (m : MemoryMap) (root n : ℕ) (v : Result Way StringStop)
    → ((w : Way) → stands m (walk n m root w) ≡ descend n m root (trail_of m w))
    → stands m (v >>= (λ u. walk n m root u)) ≡ trails m v >>= descend n m root
way_is m root n (Ok w) ih = ih w
way_is m root n (Err e) ih = refl

branch_is : (m : MemoryMap) (root n : ℕ) (w : Way) (k : Branch)
    → ((u : Way) → stands m (walk n m root u) ≡ descend n m root (trail_of m u))
    → stands m (branch_followed m root w k >>= (λ u. walk n m root u))
    ≡ gone_on root (trail_of m w) (descend n m root) (branch_of k)
branch_is m root n w (b.Fork left right) ih =
    way_is m root n (branch_followed m root w (b.Fork left right)) ih
    ∙ ap (λ (r : Result Trail ℕ). r >>= descend n m root) (fork_is m root w left right)
branch_is m root n w b.NewPath ih = way_is m root n (branch_followed m root w b.NewPath) ih

on_is : (m : MemoryMap) (root n : ℕ) (w : Way) (v : Result Turn StringStop)
    → ((u : Way) → stands m (walk n m root u) ≡ descend n m root (trail_of m u))
    → stands m
    (v >>= (λ k. piece_or_branch k (λ j. branch_followed m root w j >>= (λ u. walk n m root u))))
    ≡ mapped m v >>= gone_on root (trail_of m w) (descend n m root)
on_is m root n w (Ok (t.Gives p c)) ih = refl
on_is m root n w (Ok (t.Branches k)) ih = branch_is m root n w k ih
on_is m root n w (Err e) ih = refl

off_is : (m : MemoryMap) (w : Way) (v : Result Turn StringStop)
    → stands m (v >>= (λ k. piece_or_branch k (λ j. Err (BadString w.node))))
    ≡ mapped m v >>= given_up
off_is m w (Ok (t.Gives p c)) = refl
off_is m w (Ok (t.Branches (b.Fork left right))) = refl
off_is m w (Ok (t.Branches b.NewPath)) = refl
off_is m w (Err e) = refl

last_node : (m : MemoryMap) (w : Way) (r : Result Node StringStop)
    → stands m (r >>= (λ n. met m w n >>= (λ k. piece_or_branch k (λ j. Err (BadString w.node)))))
    ≡ string_coded r >>= (λ n. led m (trail_of m w) n >>= given_up)
last_node m w (Ok n) =
    off_is m w (met m w n) ∙ ap (λ (r : Result Leads ℕ). r >>= given_up) (met_is m w n)
last_node m w (Err e) = refl

from_node : (m : MemoryMap) (root n : ℕ) (w : Way) (r : Result Node StringStop)
    → ((v : Way) → stands m (walk n m root v) ≡ descend n m root (trail_of m v))
    → stands m (r >>= (λ y. met m w y
    >>= (λ k. piece_or_branch k (λ j. branch_followed m root w j >>= (λ u. walk n m root u)))))
    ≡ string_coded r
    >>= (λ y. led m (trail_of m w) y >>= gone_on root (trail_of m w) (descend n m root))
from_node m root n w (Ok y) ih =
    on_is m root n w (met m w y) ih
    ∙ ap (λ (r : Result Leads ℕ). r >>= gone_on root (trail_of m w) (descend n m root))
    (met_is m w y)
from_node m root n w (Err e) ih = refl

pub walk_is : (n : ℕ) (m : MemoryMap) (root : ℕ) (w : Way)
    → stands m (walk n m root w) ≡ descend n m root (trail_of m w)
unfolding walk descend
walk_is zero m root w = last_node m w (node_at m w.node)
walk_is (suc n) m root w = from_node m root n w (node_at m w.node) (λ v. walk_is n m root v)

root_is : (m : MemoryMap) (c : Cursor) (r : Result ℕ MemFault)
    → stands m (string_read r >>= (λ root. walk 65536 m root (way_at root c)))
    ≡ memory.coded r >>= (λ root. descend 65536 m root
    (record {
      node = root;
      start = drop (8 * c.at + c.bit % 8) (bits m.bytes);
      here = drop (8 * c.at + c.bit % 8) (bits m.bytes);
      taken = c.bit / 8;
    }))
root_is m c (Ok root) = walk_is 65536 m root (way_at root c)
root_is m c (Err (BadRead at)) = refl
root_is m c (Err (BadWrite at)) = refl

table_is : (m : MemoryMap) (table : ℕ) (c : Cursor)
    → stands m (coded_piece m table c)
    ≡ decoded m table (drop (8 * c.at + c.bit % 8) (bits m.bytes)) (c.bit / 8)
unfolding coded_piece decoded
table_is m table c =
    elim (nat_eq table 0) as (λ b. stands m (cond b (Err NoTable)
    (string_read (read 4 m ((table + 8) % 2 ^ 32)) >>= (λ root. walk 65536 m root (way_at root c))))
    ≡ cond b (Err 16) (memory.coded (read 4 m ((table + 8) % 2 ^ 32))
    >>= (λ root. descend 65536 m root (record {
      node = root;
      start = drop (8 * c.at + c.bit % 8) (bits m.bytes);
      here = drop (8 * c.at + c.bit % 8) (bits m.bytes);
      taken = c.bit / 8;
    })))) [
      | true ↦ refl
      | false ↦ root_is m c (read 4 m ((table + 8) % 2 ^ 32))
    ]

-- a string of characters of n bytes
at_end : (n a : ℕ) (bytes : List ℕ)
    → 0 < n
    → nat_le (a + n) (length bytes) ≡ nat_le n (length (drop a bytes))
at_end n a bytes h = grind (arith, nat_tests, length-drop)

plain_if : (m : MemoryMap) (n k a b : ℕ) (inside : Bool)
    → rest_of_string m (record { kind = k; at = a + n; bit = b })
    ≡ Plain n (drop n (drop a m.bytes))
    → stands m (string_read (cond inside (Ok (big_number n (drop a m.bytes))) (Err (BadRead a)))
    >>= (λ x.
    Ok (cond (nat_eq x 0) piece.End (piece.Char x), record { kind = k; at = a + n; bit = b })))
    ≡ cond inside (Ok (
      cond (nat_eq (big_number n (drop a m.bytes)) 0) piece.End
          (piece.Char (big_number n (drop a m.bytes))),
      Plain n (drop n (drop a m.bytes)),
    )) (Err 1)
plain_if m n k a b true e =
    ap (λ (r : Rest). Ok (
      cond (nat_eq (big_number n (drop a m.bytes)) 0) piece.End
          (piece.Char (big_number n (drop a m.bytes))),
      r,
    )) e
plain_if m n k a b false e = refl

plain_is : (m : MemoryMap) (n k a b : ℕ)
    → 0 < n
    → rest_of_string m (record { kind = k; at = a + n; bit = b })
    ≡ Plain n (drop n (drop a m.bytes))
    → stands m (plain_piece n m (record { kind = k; at = a; bit = b })) ≡ plain n (drop a m.bytes)
plain_is m n k a b h e =
    plain_if m n k a b (nat_le (a + n) (length m.bytes)) e
    ∙ ap (λ (i : Bool). cond i (Ok (
      cond (nat_eq (big_number n (drop a m.bytes)) 0) piece.End
          (piece.Char (big_number n (drop a m.bytes))),
      Plain n (drop n (drop a m.bytes)),
    ))
    (Err 1)) (at_end n a m.bytes h)

more : (n a : ℕ) (bytes : List ℕ) → Plain n (drop (a + n) bytes) ≡ Plain n (drop n (drop a bytes))
more n a bytes = ap (λ (l : List ℕ). Plain n l) (simp drop-drop)

decide : (k n : ℕ) {P : Type 0} → (k ≡ n → P) → (nat_eq k n ≡ false → P) → P
decide k n {P} same other =
    elim (nat_eq k n) as (λ b. (b ≡ true → k ≡ n) → nat_eq k n ≡ b → P)
    [ true ↦ (λ e is. same (e refl)) | false ↦ (λ e is. other is) ] (eqb-true k n) refl

bytes_in : (m : MemoryMap) (table a b : ℕ)
    → stands m (piece_in m table (record { kind = 0xE0; at = a; bit = b }))
    ≡ plain 1 (drop a m.bytes)
unfolding piece_in
bytes_in m table a b = plain_is m 1 0xE0 a b (omega arith) (more 1 a m.bytes)

words_in : (m : MemoryMap) (table a b : ℕ)
    → stands m (piece_in m table (record { kind = 0xE2; at = a; bit = b }))
    ≡ plain 4 (drop a m.bytes)
unfolding piece_in
words_in m table a b = plain_is m 4 0xE2 a b (omega arith) (more 4 a m.bytes)

bits_in : (m : MemoryMap) (table a b : ℕ)
    → stands m (piece_in m table (record { kind = 0xE1; at = a; bit = b }))
    ≡ decoded m table (drop (8 * a + b % 8) (bits m.bytes)) (b / 8)
unfolding piece_in
bits_in m table a b = table_is m table (record { kind = 0xE1; at = a; bit = b })

object_if : (m : MemoryMap) (table a : ℕ) (x y z : Bool)
    → stands m (cond x (Ok (record { kind = 0xE0; at = a + 1; bit = 0 }))
    (cond y (Ok (record { kind = 0xE1; at = a + 1; bit = 0 }))
    (cond z (Ok (record { kind = 0xE2; at = a + 4; bit = 0 })) (Err (BadString a))))
    >>= (λ (d : Cursor). piece_in m table d))
    ≡ cond x (Ok (Plain 1 (drop (a + 1) m.bytes)))
    (cond y (Ok (Coded (drop (8 * (a + 1)) (bits m.bytes)) 0))
    (cond z (Ok (Plain 4 (drop (a + 4) m.bytes))) (Err 15)))
    >>= (λ r. piece_of m table r)
object_if m table a true y z = bytes_in m table (a + 1) 0
object_if m table a false true z =
    bits_in m table (a + 1) 0
    ∙ ap (λ (i : ℕ). decoded m table (drop i (bits m.bytes)) 0)
    (let e : 8 * (a + 1) + 0 ≡ 8 * (a + 1) = omega arith in e)
object_if m table a false false true = words_in m table (a + 4) 0
object_if m table a false false false = refl

object_is : (m : MemoryMap) (table a b : ℕ) (r : Result ℕ MemFault)
    → stands m ((string_read r >>= (λ k. cond (nat_eq k 0xE0)
    (Ok (record { kind = 0xE0; at = a + 1; bit = 0 }))
    (cond (nat_eq k 0xE1) (Ok (record { kind = 0xE1; at = a + 1; bit = 0 }))
    (cond (nat_eq k 0xE2) (Ok (record { kind = 0xE2; at = a + 4; bit = 0 })) (Err (BadString a))))))
    >>= (λ (d : Cursor). piece_in m table d))
    ≡ (memory.coded r >>= (λ k. cond (nat_eq k 0xE0) (Ok (Plain 1 (drop (a + 1) m.bytes)))
    (cond (nat_eq k 0xE1) (Ok (Coded (drop (8 * (a + 1)) (bits m.bytes)) 0))
    (cond (nat_eq k 0xE2) (Ok (Plain 4 (drop (a + 4) m.bytes))) (Err 15)))))
    >>= (λ r. piece_of m table r)
object_is m table a b (Ok k) = object_if m table a (nat_eq k 0xE0) (nat_eq k 0xE1) (nat_eq k 0xE2)
object_is m table a b (Err (BadRead at)) = refl
object_is m table a b (Err (BadWrite at)) = refl

-- the claim at a cursor of this kind
abbrev Claim : MemoryMap → ℕ → ℕ → ℕ → ℕ → Type 0
Claim m table a b k =
    stands m (piece_after m table (record { kind = k; at = a; bit = b }))
    ≡ first m table (rest_of_string m (record { kind = k; at = a; bit = b }))

at_object : (m : MemoryMap) (table a b : ℕ) → Claim m table a b 0
unfolding at_first_piece
at_object m table a b = object_is m table a b (read 1 m a)

at_bytes : (m : MemoryMap) (table a b : ℕ) → Claim m table a b 0xE0
unfolding at_first_piece
at_bytes m table a b = bytes_in m table a b

at_bits : (m : MemoryMap) (table a b : ℕ) → Claim m table a b 0xE1
unfolding at_first_piece
at_bits m table a b = bits_in m table a b

at_words : (m : MemoryMap) (table a b : ℕ) → Claim m table a b 0xE2
unfolding at_first_piece
at_words m table a b = words_in m table a b

nowhere : (m : MemoryMap) (table a b k : ℕ)
    → nat_eq k 0 ≡ false → nat_eq k 0xE0 ≡ false
    → nat_eq k 0xE1 ≡ false → nat_eq k 0xE2 ≡ false
    → Claim m table a b k
unfolding at_first_piece piece_in
nowhere m table a b k n0 n1 n2 n3 = rw (n0, n1, n2, n3) refl

pub next_is : (m : MemoryMap) (table : ℕ) (c : Cursor)
    → stands m (piece_after m table c) ≡ first m table (rest_of_string m c)
next_is m table c =
    decide c.kind 0 (λ e. subst (Claim m table c.at c.bit) (sym e) (at_object m table c.at c.bit))
    (λ n0.
    decide c.kind 0xE0 (λ e. subst (Claim m table c.at c.bit) (sym e) (at_bytes m table c.at c.bit))
    (λ n1.
    decide c.kind 0xE1 (λ e. subst (Claim m table c.at c.bit) (sym e) (at_bits m table c.at c.bit))
    (λ n2.
    decide c.kind 0xE2 (λ e. subst (Claim m table c.at c.bit) (sym e) (at_words m table c.at c.bit))
    (λ n3.
    nowhere m table c.at c.bit c.kind n0 n1 n2 n3))))

listed_is : (m : MemoryMap) (more : Rest → List Item) (r : Result (Piece × Cursor) StringStop)
    → items_listed (string_coded r) (λ d. more (rest_of_string m d))
    ≡ items_listed (stands m r) more
listed_is m more (Ok x) = refl
listed_is m more (Err e) = refl

pub spells : (m : MemoryMap) (table : ℕ) (c : Cursor)
    → SpellsPiece m table c (piece_after m table c)
unfolding pieces_of
spells m table c n =
    listed_is m (pieces_of n m table) (piece_after m table c)
    ∙ ap (λ (r : Result (Piece × Rest) ℕ). items_listed r (pieces_of n m table)) (next_is m table c)
