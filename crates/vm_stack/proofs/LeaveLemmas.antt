-- The current frame and the stub below it, dropped in one.
use Rattle.std.proofs.Common.{◌≡◌, ℕ, ◌+◌, ◌-◌, ◌≤◌, List, length, take, refl}
use Rattle.std.proofs.Common.{Ok, arith, ap, sym, ◌∙◌, subst}
use Rattle.std.proofs.lemmas.Bool.{le-leb}
use Rattle.std.proofs.lemmas.List.{take-take, length-take}
use Rattle.vm_stack.specs.StackState.{StackState, number, value_bytes}
use Rattle.vm_stack.specs.Frame.{frame_left}
use Rattle.vm_stack.specs.Stub.{stub_at, stub_taken}
use Rattle.vm_stack.specs.Values.{without_top}
use Rattle.vm_stack.specs.Chain.{Chain, HasFrame}
use Rattle.vm_stack.proofs.ChainLemmas.{left_keeps, taken_keeps, without_there, has_frame}

-- what is left: where the stub on top begins, and the frame that it names
pub record Left (s : StackState) (b : List ℕ) (at frame : ℕ) : Type 0 where
  pub bytes : b ≡ take s.frame s.bytes
  pub some : 16 ≤ length b
  pub place : at ≡ length b - 16
  pub named : frame ≡ number 4 b (at + 12)

named_on_top : (s : StackState) (b : List ℕ) (at frame : ℕ) → Left s b at frame
    → frame ≡ (frame_left s).frame
named_on_top s b at frame l =
    let some = l.some in
    let place = l.place in
    l.named
    ∙ (ap (λ (n : ℕ). number 4 b n) (omega (arith, some, place))
    ∙ ap (λ (xs : List ℕ). number 4 xs (length xs - 4)) l.bytes)

held_by : (s : StackState) (b : List ℕ) (at frame : ℕ) → Left s b at frame
    → value_bytes (frame_left s) ≡ length b - (frame + number 4 b frame)
held_by s b at frame l =
    ap (λ (n : ℕ). length (take s.frame s.bytes) - (n + number 4 (take s.frame s.bytes) n))
    (sym (named_on_top s b at frame l))
    ∙ ap (λ (xs : List ℕ). length xs - (frame + number 4 xs frame)) (sym l.bytes)

-- that frame holds a stub
holds : (s : StackState) (b : List ℕ) (at frame : ℕ) → Left s b at frame
    → frame + number 4 b frame ≤ at
    → 16 ≤ value_bytes (frame_left s)
holds s b at frame l le =
    let held = held_by s b at frame l in
    let some = l.some in
    let place = l.place in
    omega (arith, held, some, place, le)

-- without that stub too
dropped : (s : StackState) (b : List ℕ) (at frame : ℕ) → Left s b at frame
    → (without_top (frame_left s) 16).bytes ≡ take at s.bytes
dropped s b at frame l =
    let place = l.place in
    let size = ap (λ (xs : List ℕ). length xs) l.bytes in
    let long = length-take s.frame s.bytes in
    ap (λ (n : ℕ). take n (take s.frame s.bytes)) (omega (arith, place, size))
    ∙ take-take at s.frame s.bytes (omega (arith, place, size, long))

pub left_taken : (s : StackState) (b : List ℕ) (at frame : ℕ) → Left s b at frame
    → frame + number 4 b frame ≤ at
    → stub_taken (frame_left s)
    ≡ Ok (record s { bytes = take at s.bytes; frame = frame }, stub_at b at)
left_taken s b at frame l le =
    rw (le-leb 16 (value_bytes (frame_left s)) (holds s b at frame l le))
    (rw (← dropped s b at frame l) (rw (l.named, l.place) (rw l.bytes refl)))

-- a chain stays one, with a frame
pub left_taken_keeps : (s : StackState) (b : List ℕ) (at frame : ℕ) → Left s b at frame
    → frame + number 4 b frame ≤ at → Chain s
    → Chain (record s { bytes = take at s.bytes; frame = frame })
left_taken_keeps s b at frame l le c =
    let h = holds s b at frame l le in
    subst (λ (xs : List ℕ). Chain (record s { bytes = xs; frame = frame }))
    (dropped s b at frame l)
    (taken_keeps (frame_left s) frame h (named_on_top s b at frame l) (left_keeps s c)
    (has_frame (frame_left s) 16 (omega arith) h))

pub left_taken_there : (s : StackState) (b : List ℕ) (at frame : ℕ) → Left s b at frame
    → frame + number 4 b frame ≤ at → Chain s
    → HasFrame (record s { bytes = take at s.bytes; frame = frame })
left_taken_there s b at frame l le c =
    let h = holds s b at frame l le in
    subst (λ (xs : List ℕ). HasFrame (record s { bytes = xs; frame = frame }))
    (dropped s b at frame l)
    (without_there (frame_left s) 16 h (left_keeps s c)
    (has_frame (frame_left s) 16 (omega arith) h))
