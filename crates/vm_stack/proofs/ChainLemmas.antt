-- What the calls of a stack do to its chain.
use Rattle.std.proofs.Common.{◌≡◌, ℕ, ◌+◌, ◌-◌, ◌*◌, ◌≤◌, ◌<◌, List, [], ◌∷◌}
use Rattle.std.proofs.Common.{◌++◌, length, take, drop, refl, arith, sym, ap, ◌∙◌, append_assoc}
use Rattle.std.proofs.Common.{length-append, length-drop, replicate, subst, inl, inr}
use Rattle.std.proofs.lemmas.List.{length-replicate, length-take, length-take-le, append-nil}
use Rattle.std.proofs.lemmas.List.{nil_from_length}
use Rattle.std.proofs.lemmas.Bool.{cases_lt}
use Rattle.std.proofs.Math.Seq.{take-append-add, drop-append-add, take-append_seam}
use Rattle.byteorder.specs.Endian.{big_bytes}
use Rattle.byteorder.specs.Numbers.{length-bytes_high_first}
use Rattle.vm_stack.specs.StackState.{StackState, number, frame_len, value_bytes}
use Rattle.vm_stack.specs.Values.{without_top, rotated}
use Rattle.vm_stack.specs.Frame.{frame_head, fresh_frame, padding_len, locals_pos_of}
use Rattle.vm_stack.specs.Frame.{locals_len, frame_len_of, frame_left, in_named_frame}
use Rattle.vm_stack.specs.Chain.{Frame, IsFormat, IsChain, IsBelow, Chain}
use Rattle.vm_stack.specs.Chain.{HasFrame, IsReady, bytes_of_frames, start}
use Rattle.vm_stack.specs.Saved.{LinkedFrames}
use Rattle.vm_stack.proofs.NumberLemmas.{number_behind, number_taken, number_within, number_first}
use Rattle.vm_stack.proofs.FrameLemmas.{top, before, length_before, held_in, seam}

-- the chain of a stack with other bytes, by an equation of the bytes
moved : (s : StackState) (xs ys : List ℕ)
    → xs ≡ ys → Chain (record s { bytes = ys })
    → Chain (record s { bytes = xs })
moved s xs ys e c = subst (λ (zs : List ℕ). Chain (record s { bytes = zs })) (sym e) c

pub appended_keeps : (s : StackState) (new : List ℕ) (n : ℕ)
    → length new ≡ 4 * n → Chain s → HasFrame s
    → Chain (record s { bytes = s.bytes ++ new })
appended_keeps s new n e c has =
    let t = top s c has in
    let v = t.size in
    moved s (s.bytes ++ new) (t.before ++ (t.values ++ new))
    (ap (λ (b : List ℕ). b ++ new) t.bytes ∙ append_assoc t.before t.values new)
    (t.again (t.values ++ new) (t.count + n) (omega (arith, length-append t.values new, e, v)))

shorter : (b v : List ℕ) (n : ℕ)
    → n ≤ length v
    → take (length (b ++ v) - n) (b ++ v) ≡ b ++ take (length v - n) v
shorter b v n h =
    let l : length (b ++ v) - n ≡ length b + (length v - n) = omega (arith, length-append b v, h) in
    rw l (take-append-add b v (length v - n))

above : (b v : List ℕ) (n : ℕ)
    → n ≤ length v
    → drop (length (b ++ v) - n) (b ++ v) ≡ drop (length v - n) v
above b v n h =
    let l : length (b ++ v) - n ≡ length b + (length v - n) = omega (arith, length-append b v, h) in
    rw l (drop-append-add b v (length v - n))

pub without_keeps : (s : StackState) (n : ℕ)
    → 4 * n ≤ value_bytes s → Chain s → HasFrame s
    → Chain (without_top s (4 * n))
without_keeps s n le c has =
    let t = top s c has in
    let v = t.size in
    let held = t.held in
    let fits : 4 * n ≤ length t.values = omega (arith, le, held) in
    let short = length-take-le (length t.values - 4 * n) t.values (omega arith) in
    moved s (take (length s.bytes - 4 * n) s.bytes)
    (t.before ++ take (length t.values - 4 * n) t.values)
    (ap (λ (b : List ℕ). take (length b - 4 * n) b) t.bytes
    ∙ shorter t.before t.values (4 * n) fits)
    (t.again (take (length t.values - 4 * n) t.values) (t.count - n)
    (omega (arith, short, v, fits)))

-- without values a frame is still there
pub without_there : (s : StackState) (n : ℕ)
    → n ≤ value_bytes s → Chain s → HasFrame s
    → HasFrame (without_top s n)
without_there s n le c has =
    let t = top s c has in
    let held = t.held in
    let head = t.head in
    let ends = t.ends in
    let l = ap length t.bytes in
    let short = length-take-le (length s.bytes - n) s.bytes (omega arith) in
    omega (arith, le, held, head, ends, l, length-append {A = ℕ}, short)

length_rotated : (xs : List ℕ) (k : ℕ) → length (rotated xs k) ≡ length xs
length_rotated xs k = omega (arith, length-append {A = ℕ}, length-drop {A = ℕ}, length-take {A = ℕ})

pub length_rolled : (xs : List ℕ) (n k : ℕ)
    → length (take (length xs - n) xs ++ rotated (drop (length xs - n) xs) k) ≡ length xs
length_rolled xs n k =
    let turned = length_rotated (drop (length xs - n) xs) k in
    omega (arith, length-append {A = ℕ}, length-drop {A = ℕ}, length-take {A = ℕ}, turned)

rolled_keeps : (s : StackState) (n k : ℕ) → 4 * n ≤ value_bytes s → Chain s → HasFrame s
    → Chain (record s {
      bytes =
          take (length s.bytes - 4 * n) s.bytes
          ++ rotated (drop (length s.bytes - 4 * n) s.bytes) k;
    })
rolled_keeps s n k le c has =
    let t = top s c has in
    let v = t.size in
    let held = t.held in
    let fits : 4 * n ≤ length t.values = omega (arith, le, held) in
    let low = take (length t.values - 4 * n) t.values in
    let high = rotated (drop (length t.values - 4 * n) t.values) k in
    let size = length_rolled t.values (4 * n) k in
    let e : take (length s.bytes - 4 * n) s.bytes
    ++ rotated (drop (length s.bytes - 4 * n) s.bytes) k
    ≡ t.before ++ (low ++ high) =
    ap (λ (b : List ℕ). take (length b - 4 * n) b ++ rotated (drop (length b - 4 * n) b) k) t.bytes
    ∙ (rw (shorter t.before t.values (4 * n) fits, above t.before t.values (4 * n) fits)
    (append_assoc t.before low high)) in
    moved s _ _ e (t.again (low ++ high) t.count (size ∙ v))

-- the last number of a chain is that of its current frame's values
last_number : (fr : Frame) (below : List Frame)
    → 16 ≤ length fr.values
    → number 4 (bytes_of_frames (fr ∷ below)) (length (bytes_of_frames (fr ∷ below)) - 4)
    ≡ number 4 fr.values (length fr.values - 4)
last_number fr below four =
    number_behind (before fr below) fr.values 4 (length (bytes_of_frames (fr ∷ below)) - 4)
    (length fr.values - 4) (omega (arith, length-append (before fr below) fr.values, four))

-- the frames below a chain's end name themselves
pub named_below : (below : List Frame)
    → IsBelow below → IsChain below
    → number 4 (bytes_of_frames below) (length (bytes_of_frames below) - 4) ≡ start below
named_below [] is c = refl
named_below (fr ∷ below) is c = last_number fr below is.four ∙ is.names

pub ends_named : (fr : Frame) (below : List Frame) (xs : List ℕ) (at : ℕ)
    → 16 ≤ length fr.values → xs ≡ bytes_of_frames (fr ∷ below)
    → number 4 xs (length xs - 4) ≡ at → at ≡ start (fr ∷ below)
    → IsBelow (fr ∷ below)
ends_named fr below xs at four bytes names place = record {
  four = four;
  names =
      sym (last_number fr below four)
      ∙ (ap (λ (ys : List ℕ). number 4 ys (length ys - 4)) (sym bytes) ∙ (names ∙ place));
}

-- what is left is spelled by the frames below
pub left_bytes : (s : StackState) (fr : Frame) (below : List Frame)
    → s.bytes ≡ bytes_of_frames (fr ∷ below)
    → s.frame ≡ start (fr ∷ below)
    → (frame_left s).bytes ≡ bytes_of_frames below
left_bytes s fr below bytes frame =
    ap (λ (n : ℕ). take n s.bytes) frame
    ∙ (ap (λ (xs : List ℕ). take (length (bytes_of_frames below)) xs)
    (bytes
    ∙ seam (bytes_of_frames below) (big_bytes 4 (frame_len_of fr.format))
    (big_bytes 4 (locals_pos_of fr.format)) fr.format fr.padding fr.locals fr.values)
    ∙ take-append_seam (bytes_of_frames below) _)

pub left_frame : (s : StackState) (fr : Frame) (below : List Frame)
    → IsBelow below → IsChain below
    → s.bytes ≡ bytes_of_frames (fr ∷ below)
    → s.frame ≡ start (fr ∷ below)
    → (frame_left s).frame ≡ start below
left_frame s fr below is c bytes frame =
    ap (λ (xs : List ℕ). number 4 xs (length xs - 4)) (left_bytes s fr below bytes frame)
    ∙ named_below below is c

left_linked : (s : StackState) (frames : List Frame)
    → IsChain frames → s.bytes ≡ bytes_of_frames frames
    → s.frame ≡ start frames → LinkedFrames (frame_left s).bytes
left_linked s [] c bytes frame =
    record { frames = []; ends = tt; linked = tt; bytes = rw (bytes, frame) refl }
left_linked s (fr ∷ below) c bytes frame = record {
  frames = below;
  ends = c.1.0;
  linked = c.1.1;
  bytes = left_bytes s fr below bytes frame;
}

-- the frame that a stub on top of such frames names
named_frame : (b : List ℕ) (c : LinkedFrames b) → number 4 b (length b - 4) ≡ start c.frames
named_frame b c =
    ap (λ (ys : List ℕ). number 4 ys (length ys - 4)) c.bytes
    ∙ named_below c.frames c.ends c.linked

pub linked_keeps : (s : StackState) (b : List ℕ) → LinkedFrames b → Chain (in_named_frame s b)
linked_keeps s b c =
    record { frames = c.frames; linked = c.linked; bytes = c.bytes; frame = named_frame b c }

pub left_keeps : (s : StackState) → Chain s → Chain (frame_left s)
left_keeps s c =
    linked_keeps s (frame_left s).bytes (left_linked s c.frames c.linked c.bytes c.frame)

-- on a stub for the current frame, or on nothing, a new frame may be entered
ready_from : (s : StackState) (frames : List Frame)
    → IsChain frames → IsBelow frames
    → s.bytes ≡ bytes_of_frames frames → s.frame ≡ start frames
    → IsReady s
ready_from s [] c is bytes frame = inl bytes
ready_from s (fr ∷ below) c is bytes frame =
    let held = held_in s fr below c.0 bytes frame in
    let four = is.four in
    inr (
      omega (arith, held, four),
      ap (λ (xs : List ℕ). number 4 xs (length xs - 4)) bytes
          ∙ (named_below (fr ∷ below) is c ∙ sym frame),
    )

pub left_ready : (s : StackState) → Chain s → IsReady (frame_left s)
left_ready s c =
    let low = left_linked s c.frames c.linked c.bytes c.frame in
    ready_from (frame_left s) low.frames low.linked low.ends low.bytes
    (named_frame (frame_left s).bytes low)

-- a stub for the current frame is taken
pub taken_keeps : (s : StackState) (frame : ℕ)
    → 16 ≤ value_bytes s → frame ≡ s.frame → Chain s
    → HasFrame s
    → Chain (record (without_top s 16) { frame = frame })
taken_keeps s frame le e c has =
    subst (λ (f : ℕ). Chain (record (without_top s 16) { frame = f })) (sym e)
    (without_keeps s 4 le c has)

-- a new frame
pub ready_in : (s : StackState) (frames : List Frame)
    → IsChain frames → s.bytes ≡ bytes_of_frames frames
    → s.frame ≡ start frames → IsReady s → IsBelow frames
ready_in s [] c bytes frame ready = tt
ready_in s (fr ∷ below) c bytes frame (inl none) =
    absurd (
    let l = ap length bytes in
    let n = ap length none in
    let b = length_before fr below c.0 in
    omega (arith, l, n, length-append {A = ℕ}, b))
ready_in s (fr ∷ below) c bytes frame (inr ready) =
    let held = held_in s fr below c.0 bytes frame in
    let many = ready.0 in
    ends_named fr below s.bytes s.frame (omega (arith, held, many)) bytes ready.1 frame

fresh_on : (low h z l : List ℕ) → low ++ (h ++ z ++ l) ≡ low ++ h ++ z ++ l
fresh_on low h z l = simp append_assoc refl

-- with this padding, and these locals
pub new_keeps : (s : StackState) (format z l : List ℕ)
    → Chain s → IsReady s → IsFormat format
    → length z ≡ padding_len format → length l ≡ locals_len format
    → frame_len_of format < 4294967296
    → Chain (record s { bytes = s.bytes ++ (frame_head format ++ z ++ l); frame = length s.bytes })
new_keeps s format z l c ready is padding locals fits = record {
  frames =
      record { format = format; padding = z; locals = l; values = []; count = 0 } ∷ c.frames;
  linked = (
    record { format = is; padding = padding; locals = locals; values = refl; fits = fits },
    (ready_in s c.frames c.linked c.bytes c.frame ready, c.linked),
  );
  bytes =
      ap (λ (b : List ℕ). b ++ (frame_head format ++ z ++ l)) c.bytes
      ∙ (fresh_on (bytes_of_frames c.frames) (frame_head format) z l
      ∙ sym (append-nil (bytes_of_frames c.frames ++ frame_head format ++ z ++ l)));
  frame = ap length c.bytes;
}

-- with zeros
pub entered_keeps : (s : StackState) (format : List ℕ)
    → Chain s → IsReady s → IsFormat format
    → frame_len_of format < 4294967296
    → Chain (record s { bytes = s.bytes ++ fresh_frame format; frame = length s.bytes })
entered_keeps s format c ready is fits =
    new_keeps s format (replicate (padding_len format) 0) (replicate (locals_len format) 0) c ready
    is (length-replicate (padding_len format) 0) (length-replicate (locals_len format) 0) fits

-- after a stub for the current frame a new one may stand
pub stub_readies : (s : StackState) (new : List ℕ) (x : ℕ)
    → Chain s → HasFrame s → length new ≡ 12 → x ≡ s.frame
    → x < 4294967296
    → IsReady (record s { bytes = s.bytes ++ (new ++ big_bytes 4 x) })
stub_readies s new x c has n e small =
    let t = top s c has in
    let head = t.head in
    let ends = t.ends in
    let w = length-bytes_high_first 4 x in
    let a = length-append new (big_bytes 4 x) in
    let l = ap length t.bytes in
    let all = length-append s.bytes (new ++ big_bytes 4 x) in
    let len =
    number_within s.bytes (new ++ big_bytes 4 x) s.frame
    (omega (arith, head, ends, l, length-append {A = ℕ})) in
    inr (
      omega (arith, len, ends, l, length-append {A = ℕ}, a, w, all, n),
      number_behind s.bytes (new ++ big_bytes 4 x) 4
          (length (s.bytes ++ (new ++ big_bytes 4 x)) - 4) 12 (omega (arith, all, a, w, n))
          ∙ (number_behind new (big_bytes 4 x) 4 12 0 (omega (arith, n))
          ∙ (ap (λ (xs : List ℕ). number 4 xs 0) (sym (append-nil (big_bytes 4 x)))
          ∙ (number_first x [] small ∙ e))),
    )

-- where a value is held a frame is there
pub has_frame : (s : StackState) (n : ℕ) → 0 < n → n ≤ value_bytes s → HasFrame s
has_frame s n some le = omega (arith, some, le)

pub roll_keeps : (s : StackState) (n k : ℕ) → 4 * n ≤ value_bytes s → Chain s
    → Chain (record s {
      bytes =
          take (length s.bytes - 4 * n) s.bytes
          ++ rotated (drop (length s.bytes - 4 * n) s.bytes) k;
    })
roll_keeps s n k le c = elim (cases_lt 0 (length s.bytes)) [
  | inl has ↦ rolled_keeps s n k le c has
  | inr none ↦
      let size = length_rolled s.bytes (4 * n) k in
      moved s _ s.bytes
      (nil_from_length _ (omega (arith, size, none))
      ∙ sym (nil_from_length s.bytes (omega arith))) c
]

pub length_word : (n x : ℕ) → length (big_bytes n x) ≡ n
length_word n x = length-bytes_high_first n x

-- the FramePtr of the stub on top
pub frame_on_top : (s : StackState)
    → 16 ≤ value_bytes s
    → number 4 s.bytes (length s.bytes - 16 + 12) ≡ number 4 s.bytes (length s.bytes - 4)
frame_on_top s le = ap (λ (n : ℕ). number 4 s.bytes n) (omega (arith, le))

pub number_before : (xs : List ℕ) (n : ℕ)
    → 4 ≤ n → n ≤ length xs
    → number 4 (take n xs) (n - 4) ≡ number 4 xs (n - 4)
number_before xs n four le = number_taken xs n (n - 4) (omega (arith, four)) le

-- what stands up to the end of a stub for the current frame
pub cut_keeps : (s : StackState) (token n : ℕ)
    → s.frame + frame_len s + 16 ≤ token
    → token ≤ length s.bytes → token ≡ 4 * n
    → number 4 s.bytes (token - 4) ≡ s.frame
    → Chain s → Chain (in_named_frame s (take token s.bytes))
cut_keeps s token n low high four names c =
    let t = top s c (omega (arith, low, high)) in
    let l = ap length t.bytes in
    let fours = t.aligns in
    let m = t.ends in
    let size =
    length-take-le (token - length t.before) t.values
    (omega (arith, l, length-append {A = ℕ}, high)) in
    let short : take token s.bytes ≡ t.before ++ take (token - length t.before) t.values =
    ap (λ (b : List ℕ). take token b) t.bytes
    ∙ (ap (λ (k : ℕ). take k (t.before ++ t.values))
    (let above : length t.before ≤ token = omega (arith, m, low) in omega (arith, above))
    ∙ take-append-add t.before t.values (token - length t.before)) in
    let cut = length-take-le token s.bytes high in
    let frame : number 4 (take token s.bytes) (length (take token s.bytes) - 4) ≡ s.frame =
    ap (λ (k : ℕ). number 4 (take token s.bytes) (k - 4)) cut
    ∙ (number_before s.bytes token (omega (arith, low)) high ∙ names) in
    subst (λ (f : ℕ). Chain (record s { bytes = take token s.bytes; frame = f })) (sym frame)
    (moved s (take token s.bytes) _ short
    (t.again (take (token - length t.before) t.values) (n - t.fours)
    (omega (arith, size, four, fours, m, low))))
