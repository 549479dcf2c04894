-- Memory below RAMSTART, and what a walk does there.
use Rattle.std.proofs.Common.{◌≡◌, ℕ, ◌+◌, ◌-◌, ◌/◌, ◌%◌, ◌^◌, ◌<◌, ◌≤◌, List}
use Rattle.std.proofs.Common.{◌++◌, length, take, drop, Result, Ok, refl, ap}
use Rattle.std.proofs.Common.{sym, ◌∙◌, arith, cond, nat_eq, nat_le, true, false}
use Rattle.std.proofs.lemmas.Bool.Decides.{nat_tests}
use Rattle.std.proofs.lemmas.List.{take-append-drop, drop-append-le, length-take, length-drop}
use Rattle.byteorder.specs.Endian.{big_number}
use Rattle.byteorder.specs.Numbers.{big_from-append}
use Rattle.vm_memory.specs.Access.{read}
use Rattle.vm_memory.specs.MemoryMap.{MemoryMap, number_at}
use Rattle.vm_string.specs.Node.{node_at, contents}
use Rattle.vm_string.specs.Walk.{met, branch_followed, walk, cursor_at}
use Rattle.vm_string.specs.declared.node.Node.{Node}
use Rattle.vm_string.specs.declared.node.Node.TheVariants as node
use Rattle.vm_string.specs.declared.walk.Branch.TheVariants.{Fork}
use Rattle.vm_string.specs.declared.walk.Way.{Way}
use Rattle.vm_string.specs.declared.stop.StringStop.{StringStop}
use Rattle.vm_string.specs.declared.piece.Cursor.{Cursor}
use Rattle.vm_string.specs.declared.piece.Piece.{Piece}
use Rattle.vm_string.specs.declared.piece.Piece.TheVariants.{Char, End}
use Rattle.vm_string.specs.declared.walk.Turn.{Turn}
use Rattle.vm_string.specs.declared.walk.Turn.TheVariants.{Gives}
use Rattle.vm_string.proofs.WalkLemmas.{walk_on, walk_gives}

-- the front is no longer than memory
front_within : (front bytes : List ℕ)
    → front ≡ take (length front) bytes
    → length front ≤ length bytes
front_within front bytes is =
    let n = ap length is in
    let t = length-take (length front) bytes in
    omega arith

-- a number that stands in the front is memory's
number_front : (n at : ℕ) (front bytes : List ℕ)
    → front ≡ take (length front) bytes → at + n ≤ length front
    → number_at n bytes at ≡ number_at n front at
number_front n at front bytes is inside =
    let rest = drop (length front) bytes in
    let whole : front ++ rest ≡ bytes =
    ap (λ (l : List ℕ). l ++ rest) is ∙ take-append-drop (length front) bytes in
    let d = length-drop at front in
    ap (λ (l : List ℕ). number_at n l at) (sym whole)
    ∙ ap (λ (l : List ℕ). big_number n l) (drop-append-le at front rest (omega arith))
    ∙ big_from-append n (drop at front) rest (omega arith)

-- a number below RAMSTART is read there
pub read_front : (n at : ℕ) (front : List ℕ) (m : MemoryMap)
    → front ≡ take (length front) m.bytes
    → at + n ≤ length front
    → read n m at ≡ Ok (number_at n front at)
read_front n at front m is inside =
    let w = front_within front m.bytes is in
    let t : nat_le (at + n) (length m.bytes) ≡ true = grind (arith, nat_tests) in
    rw t (ap (λ (x : ℕ). Ok x) (number_front n at front m.bytes is inside))

-- a fork below RAMSTART
fork_front : (at : ℕ) (front : List ℕ) (m : MemoryMap)
    → front ≡ take (length front) m.bytes
    → at + 9 ≤ length front → number_at 1 front at ≡ 0
    → ◌≡◌ {A = Result Node StringStop}
    (Ok (node.Fork (number_at 4 front (at + 1)) (number_at 4 front (at + 5)))) (node_at m at)
unfolding node_at contents
fork_front at front m is inside kind =
    let k = read_front 1 at front m is (omega arith) in
    let l = read_front 4 (at + 1) front m is (omega arith) in
    let r = read_front 4 (at + 5) front m is (omega arith) in
    rw (k, kind, l, r) refl

-- the way behind a fork below RAMSTART
pub followed_front : (front : List ℕ) (m : MemoryMap) (root left right bit : ℕ) (w : Way)
    → front ≡ take (length front) m.bytes
    → w.here / 8 < length front → bit ≡ number_at 1 front (w.here / 8) / 2 ^ (w.here % 8) % 2
    → ◌≡◌ {A = Result Way StringStop}
    (Ok (record w { node = cond (nat_eq bit 0) left right; here = w.here + 1 }))
    (branch_followed m root w (Fork left right))
followed_front front m root left right bit w is inside b =
    let r = read_front 1 (w.here / 8) front m is (omega arith) in
    rw (r, b) refl

-- the walk behind a fork below RAMSTART
pub walk_fork : (n : ℕ) (front : List ℕ) (m : MemoryMap) (root bit : ℕ) (w : Way)
    → 0 < n → front ≡ take (length front) m.bytes
    → w.node + 9 ≤ length front → number_at 1 front w.node ≡ 0
    → w.here / 8 < length front → bit ≡ number_at 1 front (w.here / 8) / 2 ^ (w.here % 8) % 2
    → walk (n - 1) m root (record w {
      node = cond (nat_eq bit 0) (number_at 4 front (w.node + 1)) (number_at 4 front (w.node + 5));
      here = w.here + 1;
    })
    ≡ walk n m root w
unfolding met
walk_fork n front m root bit w some is inside kind low b =
    walk_on n m root w _ _
    (Fork (number_at 4 front (w.node + 1)) (number_at 4 front (w.node + 5))) some
    (fork_front w.node front m is inside kind) refl
    (followed_front front m root _ _ bit w is low b)

-- the leaves that end a string, give a character of one byte, or begin a run of them
end_front : (at : ℕ) (front : List ℕ) (m : MemoryMap)
    → front ≡ take (length front) m.bytes
    → at + 2 ≤ length front → number_at 1 front at ≡ 1
    → ◌≡◌ {A = Result Node StringStop} (Ok node.End) (node_at m at)
unfolding node_at contents
end_front at front m is inside kind =
    let k = read_front 1 at front m is (omega arith) in
    rw (k, kind) refl

one_front : (at : ℕ) (front : List ℕ) (m : MemoryMap)
    → front ≡ take (length front) m.bytes
    → at + 2 ≤ length front → number_at 1 front at ≡ 2
    → ◌≡◌ {A = Result Node StringStop} (Ok (node.One (number_at 1 front (at + 1)))) (node_at m at)
unfolding node_at contents
one_front at front m is inside kind =
    let k = read_front 1 at front m is (omega arith) in
    let x = read_front 1 (at + 1) front m is (omega arith) in
    rw (k, kind, x) refl

run_front : (at : ℕ) (front : List ℕ) (m : MemoryMap)
    → front ≡ take (length front) m.bytes
    → at + 2 ≤ length front → number_at 1 front at ≡ 3
    → ◌≡◌ {A = Result Node StringStop} (Ok (node.Bytes (at + 1))) (node_at m at)
unfolding node_at contents
run_front at front m is inside kind =
    let k = read_front 1 at front m is (omega arith) in
    rw (k, kind) refl

-- what a walk gives at each of them
pub walk_end : (n : ℕ) (front : List ℕ) (m : MemoryMap) (root : ℕ) (w : Way)
    → front ≡ take (length front) m.bytes
    → w.node + 2 ≤ length front → number_at 1 front w.node ≡ 1
    → ◌≡◌ {A = Result (Piece × Cursor) StringStop} (Ok (End, cursor_at w.here 0)) (walk n m root w)
unfolding met
walk_end n front m root w is inside kind =
    walk_gives n m root w node.End End (cursor_at w.here 0)
    (end_front w.node front m is inside kind) refl

pub walk_one : (n : ℕ) (front : List ℕ) (m : MemoryMap) (root : ℕ) (w : Way)
    → front ≡ take (length front) m.bytes
    → w.node + 2 ≤ length front → number_at 1 front w.node ≡ 2
    → ◌≡◌ {A = Result (Piece × Cursor) StringStop}
    (Ok (Char (number_at 1 front (w.node + 1)), cursor_at w.here 0)) (walk n m root w)
unfolding met
walk_one n front m root w is inside kind =
    walk_gives n m root w (node.One (number_at 1 front (w.node + 1)))
    (Char (number_at 1 front (w.node + 1))) (cursor_at w.here 0)
    (one_front w.node front m is inside kind) refl

-- a character of the run, before its end
run_met : (front : List ℕ) (m : MemoryMap) (w : Way) → front ≡ take (length front) m.bytes
    → w.node + 1 + w.taken < length front → 0 < number_at 1 front (w.node + 1 + w.taken)
    → ◌≡◌ {A = Result Turn StringStop}
    (Ok (Gives (Char (number_at 1 front (w.node + 1 + w.taken))) (cursor_at w.start (w.taken + 1))))
    (met m w (node.Bytes (w.node + 1)))
unfolding met
run_met front m w is inside some =
    let x = read_front 1 (w.node + 1 + w.taken) front m is (omega arith) in
    let z : nat_eq (number_at 1 front (w.node + 1 + w.taken)) 0 ≡ false =
    grind (arith, nat_tests) in
    rw (x, z) refl

pub walk_run : (n : ℕ) (front : List ℕ) (m : MemoryMap) (root : ℕ) (w : Way)
    → front ≡ take (length front) m.bytes
    → w.node + 2 ≤ length front → number_at 1 front w.node ≡ 3
    → w.node + 1 + w.taken < length front → 0 < number_at 1 front (w.node + 1 + w.taken)
    → ◌≡◌ {A = Result (Piece × Cursor) StringStop}
    (Ok (Char (number_at 1 front (w.node + 1 + w.taken)), cursor_at w.start (w.taken + 1)))
    (walk n m root w)
walk_run n front m root w is inside kind below some =
    walk_gives n m root w (node.Bytes (w.node + 1))
    (Char (number_at 1 front (w.node + 1 + w.taken))) (cursor_at w.start (w.taken + 1))
    (run_front w.node front m is inside kind) (run_met front m w is below some)
