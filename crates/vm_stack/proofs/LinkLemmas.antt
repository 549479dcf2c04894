-- Frames on one another: a frame more, and the current one apart from those below it.
use Rattle.std.proofs.Common.{◌≡◌, ◌≢◌, ℕ, ◌+◌, ◌-◌, ◌≤◌, ◌<◌, List, [], ◌∷◌, ◌++◌}
use Rattle.std.proofs.Common.{length, take, drop, refl, arith, sym, ap, ◌∙◌, subst, append_assoc}
use Rattle.std.proofs.Common.{length-append, length-drop}
use Rattle.std.proofs.lemmas.List.{take_all, length-take-le, take-append-drop, drop-take, take-take}
use Rattle.std.proofs.Math.Seq.{take-append_seam, drop-append_seam}
use Rattle.vm_stack.specs.StackState.{StackState, number}
use Rattle.vm_stack.specs.Frame.{frame_head}
use Rattle.vm_stack.specs.Chain.{Frame, IsBelow, IsChain, Chain, HasFrame, bytes_of_frames, start}
use Rattle.vm_stack.specs.Saved.{LinkedFrames, SavedStack, OneFrame}
use Rattle.vm_stack.proofs.FrameLemmas.{aligned_up, length_before}
use Rattle.vm_stack.proofs.ChainLemmas.{named_below, ends_named}

under : (low h z l v : List ℕ) → low ++ h ++ z ++ l ++ v ≡ low ++ (h ++ z ++ l ++ v)
under low h z l v = simp append_assoc refl

-- from a place on the bytes are one frame, and below it they are linked frames
pub record Parted (room : ℕ) (xs : List ℕ) (at : ℕ) : Type 0 where
  pub inside : at < length xs
  pub frame : OneFrame room (drop at xs)
  pub low : LinkedFrames (take at xs)

joined : (room : ℕ) (xs : List ℕ) (at : ℕ) (p : Parted room xs at)
    → (xs ≡ bytes_of_frames (p.frame.frame ∷ p.low.frames))
    × (at ≡ start (p.frame.frame ∷ p.low.frames))
joined room xs at p =
    let fr = p.frame.frame in
    let inside = p.inside in (
      sym (take-append-drop at xs)
          ∙ (ap (λ (ys : List ℕ). ys ++ drop at xs) p.low.bytes
          ∙ (ap (λ (ys : List ℕ). bytes_of_frames p.low.frames ++ ys) p.frame.bytes
          ∙ sym (under (bytes_of_frames p.low.frames)
          (frame_head fr.format) fr.padding fr.locals fr.values))),
      sym (length-take-le at xs (omega (arith, inside))) ∙ ap length p.low.bytes,
    )

parted : (room : ℕ) (xs : List ℕ) (at : ℕ) (fr : Frame) (below : List Frame)
    → room ≤ length fr.values → IsChain (fr ∷ below)
    → xs ≡ bytes_of_frames (fr ∷ below) → at ≡ start (fr ∷ below)
    → Parted room xs at
parted room xs at fr below least linked bytes place =
    let over = frame_head fr.format ++ fr.padding ++ fr.locals ++ fr.values in
    let split : xs ≡ bytes_of_frames below ++ over =
    bytes ∙ under (bytes_of_frames below) (frame_head fr.format) fr.padding fr.locals fr.values in
    let l = ap length bytes in
    let b = length_before fr below linked.0 in
    let u = aligned_up (8 + length fr.format) in
    record {
      inside = omega (arith, place, l, length-append {A = ℕ}, b, u);
      frame = record {
        frame = fr;
        is = linked.0;
        least = least;
        bytes = rw (place, split) (drop-append_seam (bytes_of_frames below) over);
      };
      low = record {
        frames = below;
        ends = linked.1.0;
        linked = linked.1.1;
        bytes = rw (place, split) (take-append_seam (bytes_of_frames below) over);
      };
    }

-- a frame on a chain
pub link_up : (xs : List ℕ) (at : ℕ)
    → at < length xs → number 4 xs (length xs - 4) ≡ at
    → OneFrame 16 (drop at xs) → LinkedFrames (take at xs)
    → LinkedFrames xs
link_up xs at inside names h c =
    let both = joined 16 xs at (record { inside = inside; frame = h; low = c }) in
    record {
      frames = h.frame ∷ c.frames;
      ends = ends_named h.frame c.frames xs at h.least both.0 names both.1;
      linked = (h.is, (c.ends, c.linked));
      bytes = both.0;
    }

down_in : (xs : List ℕ) (at : ℕ) (frames : List Frame)
    → 0 < length xs → number 4 xs (length xs - 4) ≡ at
    → IsBelow frames → IsChain frames
    → xs ≡ bytes_of_frames frames → Parted 16 xs at
down_in xs at [] some names ends linked bytes =
    absurd (let l = ap length bytes in omega (arith, l, some))
down_in xs at (fr ∷ below) some names ends linked bytes =
    parted 16 xs at fr below ends.four linked bytes
    (sym names
    ∙ (ap (λ (ys : List ℕ). number 4 ys (length ys - 4)) bytes
    ∙ named_below (fr ∷ below) ends linked))

pub link_down : (xs : List ℕ) (at : ℕ)
    → 0 < length xs → number 4 xs (length xs - 4) ≡ at
    → LinkedFrames xs → Parted 16 xs at
link_down xs at some names c = down_in xs at c.frames some names c.ends c.linked c.bytes

part_is : (b : List ℕ) (at end : ℕ)
    → at ≤ end
    → drop at (take end b) ≡ take (end - at) (drop at b)
part_is b at end h =
    let back : end ≡ at + (end - at) = omega (arith, h) in
    ap (λ (n : ℕ). drop at (take n b)) back ∙ drop-take at (end - at) b

named_end : (b : List ℕ) (at end : ℕ)
    → end ≤ length b → at ≡ number 4 (take end b) (end - 4)
    → number 4 (take end b) (length (take end b) - 4) ≡ at
named_end b at end h e =
    ap (λ (n : ℕ). number 4 (take end b) (n - 4)) (length-take-le end b h) ∙ sym e

-- one step of the walk
pub step_up : (b : List ℕ) (at end : ℕ)
    → at < end → end ≤ length b
    → at ≡ number 4 (take end b) (end - 4)
    → OneFrame 16 (take (end - at) (drop at b))
    → LinkedFrames (take at b) → LinkedFrames (take end b)
step_up b at end lt le e h low =
    let l = length-take-le end b le in
    link_up (take end b) at (omega (arith, l, lt)) (named_end b at end le e)
    (subst (OneFrame 16) (sym (part_is b at end (omega (arith, lt)))) h)
    (subst LinkedFrames (sym (take-take at end b (omega (arith, lt)))) low)

pub record Step (b : List ℕ) (at end : ℕ) : Type 0 where
  pub inside : at < end
  pub frame : OneFrame 16 (take (end - at) (drop at b))
  pub low : LinkedFrames (take at b)

pub step_down : (b : List ℕ) (at end : ℕ)
    → 0 < end → end ≤ length b
    → at ≡ number 4 (take end b) (end - 4)
    → LinkedFrames (take end b) → Step b at end
step_down b at end some le e c =
    let l = length-take-le end b le in
    let below = link_down (take end b) at (omega (arith, l, some)) (named_end b at end le e) c in
    let inside = below.inside in
    let lt : at < end = omega (arith, inside, l) in
    record {
      inside = lt;
      frame = subst (OneFrame 16) (part_is b at end (omega (arith, lt))) below.frame;
      low = subst LinkedFrames (take-take at end b (omega (arith, lt))) below.low;
    }

top_in : (xs : List ℕ) (at : ℕ) (frames : List Frame)
    → 0 < length xs → IsChain frames
    → xs ≡ bytes_of_frames frames → at ≡ start frames
    → Parted 0 xs at
top_in xs at [] some linked bytes place =
    absurd (let l = ap length bytes in omega (arith, l, some))
top_in xs at (fr ∷ below) some linked bytes place =
    parted 0 xs at fr below (omega arith) linked bytes place

tail_whole : (b : List ℕ) (at : ℕ) → take (length b - at) (drop at b) ≡ drop at b
tail_whole b at =
    let l = length-drop at b in take_all (length b - at) (drop at b) (omega (arith, l))

-- the current frame of a stack, by the bytes and the place that the code holds
pub framed_down : (s : StackState) (b : List ℕ) (at : ℕ)
    → b ≡ s.bytes → at ≡ s.frame → Chain s → HasFrame s
    → Parted 0 b at
framed_down s b at is place c has =
    top_in b at c.frames (rw is has) c.linked (is ∙ c.bytes) (place ∙ c.frame)

pub framed_up : (s : StackState) (b : List ℕ) (at : ℕ) → b ≡ s.bytes → at ≡ s.frame → at < length b
    → OneFrame 0 (take (length b - at) (drop at b))
    → LinkedFrames (take at b) → Chain s × HasFrame s
framed_up s b at is place inside h low =
    let top = subst (OneFrame 0) (tail_whole b at) h in
    let both = joined 0 b at (record { inside = inside; frame = top; low = low }) in
    let l = ap length is in (
      record {
        frames = top.frame ∷ low.frames;
        linked = (top.is, (low.ends, low.linked));
        bytes = sym is ∙ both.0;
        frame = sym place ∙ both.1;
      },
      omega (arith, l, inside),
    )

pub framed_low : (s : StackState) (b : List ℕ) (at : ℕ)
    → b ≡ s.bytes → at ≡ s.frame → at ≢ 0
    → Chain s → HasFrame s → SavedStack (take at b)
framed_low s b at is place some c has =
    let p = framed_down s b at is place c has in
    let inside = p.inside in
    let l = length-take-le at b (omega (arith, inside)) in
    record { some = omega (arith, l, some); linked = p.low }

pub framed_top : (s : StackState) (b : List ℕ) (at : ℕ)
    → b ≡ s.bytes → at ≡ s.frame → Chain s → HasFrame s
    → OneFrame 0 (take (length b - at) (drop at b))
framed_top s b at is place c has =
    subst (OneFrame 0) (sym (tail_whole b at)) (framed_down s b at is place c has).frame

pub no_frames : (xs : List ℕ) → length xs ≡ 0 → LinkedFrames xs
no_frames [] e = record { frames = []; ends = tt; linked = tt; bytes = refl }
no_frames (x ∷ xs) e = absurd (omega (arith, e))
