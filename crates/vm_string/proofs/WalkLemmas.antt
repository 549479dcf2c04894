-- One node of a walk.
use Rattle.std.proofs.Common.{◌≡◌, ℕ, ◌-◌, ◌<◌, zero, suc, Result, Ok, Err, refl, arith, ap}
use Rattle.vm_memory.specs.Chaining.{◌>>=◌}
use Rattle.vm_memory.specs.MemoryMap.{MemoryMap}
use Rattle.vm_string.specs.Node.{node_at}
use Rattle.vm_string.specs.Walk.{met, branch_followed, walk}
use Rattle.vm_string.specs.declared.node.Node.{Node}
use Rattle.vm_string.specs.declared.walk.Branch.{Branch}
use Rattle.vm_string.specs.declared.walk.Way.{Way}
use Rattle.vm_string.specs.declared.walk.Turn.TheVariants.{Gives, Branches}
use Rattle.vm_string.specs.declared.piece.Cursor.{Cursor}
use Rattle.vm_string.specs.declared.piece.Piece.{Piece}
use Rattle.vm_string.specs.declared.stop.StringStop.{StringStop}
use Rattle.vm_string.specs.declared.stop.StringStop.TheVariants.{BadString}

pub walk_unread : (n : ℕ) (m : MemoryMap) (root : ℕ) (w : Way) (e : StringStop)
    → Err e ≡ node_at m w.node → Err e ≡ walk n m root w
unfolding walk
walk_unread zero m root w e is = rw (← is) refl
walk_unread (suc n) m root w e is = rw (← is) refl

pub walk_unmet : (n : ℕ) (m : MemoryMap) (root : ℕ) (w : Way) (x : Node) (e : StringStop)
    → Ok x ≡ node_at m w.node → Err e ≡ met m w x → Err e ≡ walk n m root w
unfolding walk
walk_unmet zero m root w x e is seen = rw (← is, ← seen) refl
walk_unmet (suc n) m root w x e is seen = rw (← is, ← seen) refl

pub walk_gives : (n : ℕ) (m : MemoryMap) (root : ℕ) (w : Way) (x : Node) (p : Piece) (c : Cursor)
    → Ok x ≡ node_at m w.node → Ok (Gives p c) ≡ met m w x → Ok (p, c) ≡ walk n m root w
unfolding walk
walk_gives zero m root w x p c is seen = rw (← is, ← seen) refl
walk_gives (suc n) m root w x p c is seen = rw (← is, ← seen) refl

pub walk_ends : (n : ℕ) (m : MemoryMap) (root : ℕ) (w : Way) (x : Node) (b : Branch) → n ≡ 0
    → Ok x ≡ node_at m w.node → Ok (Branches b) ≡ met m w x
    → Err (BadString w.node) ≡ walk n m root w
unfolding walk
walk_ends zero m root w x b h is seen = rw (← is, ← seen) refl
walk_ends (suc n) m root w x b h is seen = absurd (omega arith)

pub walk_lost : (n : ℕ) (m : MemoryMap) (root : ℕ) (w : Way) (x : Node) (b : Branch)
    (e : StringStop)
    → 0 < n
    → Ok x ≡ node_at m w.node → Ok (Branches b) ≡ met m w x
    → Err e ≡ branch_followed m root w b
    → Err e ≡ walk n m root w
unfolding walk
walk_lost zero m root w x b e h is seen lost = absurd (omega arith)
walk_lost (suc n) m root w x b e h is seen lost =
    rw (← is, ← seen) (ap (λ (r : Result Way StringStop). r >>= (λ v. walk n m root v)) lost)

pub walk_on : (n : ℕ) (m : MemoryMap) (root : ℕ) (w v : Way) (x : Node) (b : Branch) → 0 < n
    → Ok x ≡ node_at m w.node → Ok (Branches b) ≡ met m w x → Ok v ≡ branch_followed m root w b
    → walk (n - 1) m root v ≡ walk n m root w
unfolding walk
walk_on zero m root w v x b h is seen on = absurd (omega arith)
walk_on (suc n) m root w v x b h is seen on =
    rw (← is, ← seen)
    (let less : suc n - 1 ≡ n = omega arith in
    rw less (ap (λ (r : Result Way StringStop). r >>= (λ u. walk n m root u)) on))
