-- A chain, opened at the values of its current frame.
use Rattle.std.proofs.Common.{◌≡◌, ℕ, ◌+◌, ◌*◌, ◌/◌, ◌≤◌, ◌<◌, List, [], ◌∷◌, ◌++◌}
use Rattle.std.proofs.Common.{length, refl, arith, ap, ◌∙◌, append_assoc, length-append}
use Rattle.byteorder.specs.Endian.{big_bytes}
use Rattle.byteorder.specs.Numbers.{length-bytes_high_first}
use Rattle.vm_stack.specs.StackState.{StackState, number, frame_len, locals_pos, value_bytes}
use Rattle.vm_stack.specs.Frame.{frame_head, locals_end, locals_pos_of, frame_len_of, aligned}
use Rattle.vm_stack.specs.Chain.{Frame, IsFrame, IsChain, IsBelow}
use Rattle.vm_stack.specs.Chain.{Chain, HasFrame, bytes_of_frames, start}
use Rattle.vm_stack.proofs.NumberLemmas.{number_behind, number_first}

pub aligned_up : (at : ℕ) → at ≤ aligned 4 at
aligned_up at = omega arith

pub seam : (low a b f z l v : List ℕ)
    → low ++ (a ++ b ++ f) ++ z ++ l ++ v ≡ low ++ (a ++ (b ++ (f ++ (z ++ (l ++ v)))))
seam low a b f z l v = simp append_assoc refl

-- what stands of a frame before its values
abbrev pub before : Frame → List Frame → List ℕ
before fr below = bytes_of_frames below ++ frame_head fr.format ++ fr.padding ++ fr.locals

pub length_before : (fr : Frame) (below : List Frame)
    → IsFrame fr
    → length (before fr below) ≡ length (bytes_of_frames below) + frame_len_of fr.format
length_before fr below h =
    let z = h.padding in
    let l = h.locals in
    let u = aligned_up (8 + length fr.format) in
    omega (arith, length-append {A = ℕ}, z, l, u)

pub first_word : (low a rest : List ℕ) (x : ℕ)
    → a ≡ big_bytes 4 x → x < 4294967296
    → number 4 (low ++ (a ++ rest)) (length low) ≡ x
first_word low a rest x e h =
    number_behind low (a ++ rest) 4 (length low) 0 (omega arith) ∙ (rw e (number_first x rest h))

pub second_word : (low a b rest : List ℕ) (x : ℕ)
    → length a ≡ 4 → b ≡ big_bytes 4 x → x < 4294967296
    → number 4 (low ++ (a ++ (b ++ rest))) (length low + 4) ≡ x
second_word low a b rest x n e h =
    number_behind low (a ++ (b ++ rest)) 4 (length low + 4) 4 (omega arith)
    ∙ (number_behind a (b ++ rest) 4 4 0 (omega (arith, n)) ∙ (rw e (number_first x rest h)))

pub frame_len_is : (s : StackState) (fr : Frame) (below : List Frame)
    → IsFrame fr → s.bytes ≡ bytes_of_frames (fr ∷ below)
    → s.frame ≡ start (fr ∷ below)
    → frame_len s ≡ frame_len_of fr.format
frame_len_is s fr below h bytes frame =
    ap (λ (xs : List ℕ). number 4 xs s.frame) bytes
    ∙ (ap (λ (n : ℕ). number 4 (bytes_of_frames (fr ∷ below)) n) frame
    ∙ (ap (λ (xs : List ℕ). number 4 xs (length (bytes_of_frames below)))
    (seam (bytes_of_frames below) (big_bytes 4 (frame_len_of fr.format))
    (big_bytes 4 (locals_pos_of fr.format)) fr.format fr.padding fr.locals fr.values)
    ∙ first_word (bytes_of_frames below) (big_bytes 4 (frame_len_of fr.format)) _
    (frame_len_of fr.format) refl h.fits))

pub locals_pos_is : (s : StackState) (fr : Frame) (below : List Frame)
    → IsFrame fr → s.bytes ≡ bytes_of_frames (fr ∷ below)
    → s.frame ≡ start (fr ∷ below)
    → locals_pos s ≡ locals_pos_of fr.format
locals_pos_is s fr below h bytes frame =
    let f = h.fits in
    ap (λ (xs : List ℕ). number 4 xs (s.frame + 4)) bytes
    ∙ (ap (λ (n : ℕ). number 4 (bytes_of_frames (fr ∷ below)) (n + 4)) frame
    ∙ (ap (λ (xs : List ℕ). number 4 xs (length (bytes_of_frames below) + 4))
    (seam (bytes_of_frames below) (big_bytes 4 (frame_len_of fr.format))
    (big_bytes 4 (locals_pos_of fr.format)) fr.format fr.padding fr.locals fr.values)
    ∙ second_word (bytes_of_frames below) (big_bytes 4 (frame_len_of fr.format))
    (big_bytes 4 (locals_pos_of fr.format)) _ (locals_pos_of fr.format)
    (length-bytes_high_first 4 (frame_len_of fr.format)) refl (omega (arith, f))))

-- the values of the current frame, and that others may stand in their place
pub record Top (s : StackState) : Type 0 where
  pub before : List ℕ
  pub values : List ℕ
  pub count : ℕ
  pub head : 8 ≤ frame_len s
  pub ends : s.frame + frame_len s ≡ length before
  pub fours : ℕ
  pub aligns : length before ≡ 4 * fours
  pub bytes : s.bytes ≡ before ++ values
  pub size : length values ≡ 4 * count
  pub held : value_bytes s ≡ length values
  pub again : (ys : List ℕ) (n : ℕ) → length ys ≡ 4 * n → Chain (record s { bytes = before ++ ys })

pub held_in : (s : StackState) (fr : Frame) (below : List Frame)
    → IsFrame fr → s.bytes ≡ bytes_of_frames (fr ∷ below)
    → s.frame ≡ start (fr ∷ below)
    → value_bytes s ≡ length fr.values
held_in s fr below h bytes frame =
    let len = frame_len_is s fr below h bytes frame in
    let b = length_before fr below h in
    let l = ap length bytes in
    omega (arith, len, b, l, length-append {A = ℕ}, frame)

-- lengths are multiples of four
fours_of : List ℕ → ℕ
fours_of format = (8 + length format + 3) / 4 + (locals_end 0 format + 3) / 4

fours_of_is : (format : List ℕ) → frame_len_of format ≡ 4 * fours_of format
unfolding fours_of
fours_of_is format = omega arith

pub fours_below : (frames : List Frame)
    → IsChain frames
    → (n : ℕ) × (length (bytes_of_frames frames) ≡ 4 * n)
fours_below [] c = (0, refl)
fours_below (fr ∷ below) c =
    let rest = fours_below below c.1.1 in
    let low = rest.1 in
    let b = length_before fr below c.0 in
    let f = fours_of_is fr.format in
    let v = c.0.values in
    (rest.0 + fours_of fr.format + fr.count, omega (arith, length-append {A = ℕ}, low, b, f, v))

inside_in : (s : StackState) (frames : List Frame)
    → IsChain frames → s.bytes ≡ bytes_of_frames frames
    → s.frame ≡ start frames → s.frame ≤ length s.bytes
inside_in s [] c bytes frame = omega (arith, frame)
inside_in s (fr ∷ below) c bytes frame =
    let l = ap length bytes in
    let b = length_before fr below c.0 in
    omega (arith, l, length-append {A = ℕ}, b, frame)

pub frame_inside : (s : StackState) → Chain s → s.frame ≤ length s.bytes
frame_inside s c = inside_in s c.frames c.linked c.bytes c.frame

top_of : (s : StackState) (fr : Frame) (below : List Frame)
    → IsFrame fr → IsBelow below → IsChain below
    → s.bytes ≡ bytes_of_frames (fr ∷ below) → s.frame ≡ start (fr ∷ below) → Top s
top_of s fr below h is chain bytes frame = record {
  before = before fr below;
  values = fr.values;
  count = fr.count;
  head =
      let len = frame_len_is s fr below h bytes frame in
      let u = aligned_up (8 + length fr.format) in
      omega (arith, len, u);
  ends =
      let len = frame_len_is s fr below h bytes frame in
      let b = length_before fr below h in
      omega (arith, len, b, frame);
  fours = (fours_below below chain).0 + fours_of fr.format;
  aligns =
      let low = (fours_below below chain).1 in
      let b = length_before fr below h in
      let f = fours_of_is fr.format in
      omega (arith, low, b, f);
  bytes = bytes;
  size = h.values;
  held = held_in s fr below h bytes frame;
  again = λ ys n e. record {
    frames = record fr { values = ys; count = n } ∷ below;
    linked = (
      record {
        format = h.format;
        padding = h.padding;
        locals = h.locals;
        values = e;
        fits = h.fits;
      },
      (is, chain),
    );
    bytes = refl;
    frame = frame;
  };
}

top_in : (s : StackState) (frames : List Frame)
    → IsChain frames → s.bytes ≡ bytes_of_frames frames
    → s.frame ≡ start frames → HasFrame s → Top s
top_in s [] c bytes frame has = absurd (let l = ap length bytes in omega (arith, l, has))
top_in s (fr ∷ below) c bytes frame has = top_of s fr below c.0 c.1.0 c.1.1 bytes frame

pub top : (s : StackState) → Chain s → HasFrame s → Top s
top s c has = top_in s c.frames c.linked c.bytes c.frame has
