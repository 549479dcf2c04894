-- Locals that are set.
use Rattle.std.proofs.Common.{◌≡◌, ℕ, false, ◌+◌, ◌-◌, ◌≤◌, ◌<◌, List, [], ◌∷◌}
use Rattle.std.proofs.Common.{◌++◌, length, take, drop, refl, arith, ap, ◌∙◌, append_assoc}
use Rattle.std.proofs.Common.{length-append, length-drop, true, nat_le, inl, inr}
use Rattle.std.proofs.lemmas.List.{length-take, drop-append-le, take-append-le}
use Rattle.std.proofs.lemmas.Bool.{cases_Bool, le-leb, leb-true}
use Rattle.std.proofs.lemmas.Bool.Decides.{nat_tests}
use Rattle.std.proofs.Math.Seq.{take-append-add, drop-append-add}
use Rattle.byteorder.specs.Endian.{big_bytes}
use Rattle.vm_stack.specs.StackState.{StackState, number, replaced_within, frame_len, locals_pos}
use Rattle.vm_stack.specs.Locals.{local_at, IsWidth}
use Rattle.vm_stack.specs.Frame.{frame_head}
use Rattle.vm_stack.specs.Chain.{Frame, IsChain, Chain, HasFrame, bytes_of_frames, start}
use Rattle.vm_stack.proofs.FrameLemmas.{length_before, frame_len_is, locals_pos_is}
use Rattle.vm_stack.proofs.ChainLemmas.{length_word}

put_in : (p l v new : List ℕ) (o : ℕ) → o + length new ≤ length l
    → replaced_within (p ++ l ++ v) (length p + o) new
    ≡ p ++ (take o l ++ new ++ drop (o + length new) l) ++ v
put_in p l v new o h =
    let fits : nat_le (length p + o + length new) (length (p ++ l ++ v)) ≡ true =
    le-leb _ _ (omega (arith, length-append {A = ℕ}, h)) in
    let first : take (length p + o) (p ++ l ++ v) ≡ p ++ take o l =
    take-append-le (length p + o) (p ++ l) v (omega (arith, length-append p l, h))
    ∙ take-append-add p l o in
    let last : drop (length p + o + length new) (p ++ l ++ v) ≡ drop (o + length new) l ++ v =
    ap (λ (n : ℕ). drop n (p ++ l ++ v)) (omega arith)
    ∙ (drop-append-le (length p + (o + length new)) (p ++ l) v (omega (arith, length-append p l, h))
    ∙ ap (λ (xs : List ℕ). xs ++ v) (drop-append-add p l (o + length new))) in
    rw (fits, first, last) (simp append_assoc refl)

length_put : (l new : List ℕ) (o : ℕ)
    → o + length new ≤ length l
    → length (take o l ++ new ++ drop (o + length new) l) ≡ length l
length_put l new o h =
    omega (arith, length-append {A = ℕ}, length-take {A = ℕ}, length-drop {A = ℕ}, h)

pub length_replaced : (bytes : List ℕ) (at : ℕ) (new : List ℕ)
    → length (replaced_within bytes at new) ≡ length bytes
length_replaced bytes at new =
    elim (cases_Bool (nat_le (at + length new) (length bytes))) [
      | inl e ↦ rw e (length_put bytes new at (leb-true _ _ e))
      | inr e ↦ rw e refl
    ]

set_in : (s : StackState) (frames : List Frame) (offset : ℕ) (new : List ℕ)
    → IsChain frames → s.bytes ≡ bytes_of_frames frames
    → s.frame ≡ start frames → HasFrame s
    → offset + length new ≤ frame_len s - locals_pos s
    → Chain (record s { bytes = replaced_within s.bytes (local_at s offset) new })
set_in s [] offset new c bytes frame has le =
    absurd (let l = ap length bytes in omega (arith, l, has))
set_in s (fr ∷ below) offset new c bytes frame has le =
    let h = c.0 in
    let len = frame_len_is s fr below h bytes frame in
    let pos = locals_pos_is s fr below h bytes frame in
    let size = h.locals in
    let fits : offset + length new ≤ length fr.locals = omega (arith, le, len, pos, size) in
    let b = length_before fr below h in
    let p = length-append (bytes_of_frames below ++ frame_head fr.format ++ fr.padding) fr.locals in
    let at : local_at s offset
    ≡ length (bytes_of_frames below ++ frame_head fr.format ++ fr.padding) + offset =
    omega (arith, pos, frame, b, p, size) in
    let e : replaced_within s.bytes (local_at s offset) new
    ≡ bytes_of_frames (record fr {
      locals = take offset fr.locals ++ new ++ drop (offset + length new) fr.locals;
    } ∷ below) =
    ap (λ (xs : List ℕ). replaced_within xs (local_at s offset) new) bytes
    ∙ (ap (λ (n : ℕ). replaced_within (bytes_of_frames (fr ∷ below)) n new) at
    ∙ put_in (bytes_of_frames below ++ frame_head fr.format ++ fr.padding)
    fr.locals fr.values new offset fits) in
    record {
      frames =
          record fr {
            locals = take offset fr.locals ++ new ++ drop (offset + length new) fr.locals;
          } ∷ below;
      linked = (
        record {
          format = h.format;
          padding = h.padding;
          locals = length_put fr.locals new offset fits ∙ h.locals;
          values = h.values;
          fits = h.fits;
        },
        c.1,
      );
      bytes = e;
      frame = frame;
    }

set_keeps : (s : StackState) (offset : ℕ) (new : List ℕ)
    → offset + length new ≤ frame_len s - locals_pos s → Chain s
    → HasFrame s
    → Chain (record s { bytes = replaced_within s.bytes (local_at s offset) new })
set_keeps s offset new le c has = set_in s c.frames offset new c.linked c.bytes c.frame has le

number_none : (at : ℕ) → number 4 [] at ≡ 0
number_none at = let t : nat_le (at + 4) 0 ≡ false = grind (arith, nat_tests) in rw t refl

has_in : (bytes : List ℕ) (frame n : ℕ) → 0 < n → n ≤ number 4 bytes frame → 0 < length bytes
has_in [] frame n some le = let none = number_none frame in absurd (omega (arith, some, le, none))
has_in (x ∷ xs) frame n some le = omega arith

has_local : (s : StackState) (n offset : ℕ)
    → 0 < n → offset + n ≤ frame_len s - locals_pos s
    → HasFrame s
has_local s n offset some le = has_in s.bytes s.frame n some (omega (arith, some, le))

has_width : (n : ℕ) → IsWidth n → 0 < n
has_width n (inl e) = omega (arith, e)
has_width n (inr (inl e)) = omega (arith, e)
has_width n (inr (inr e)) = omega (arith, e)

-- the bytes of a number in a local
pub local_keeps : (s : StackState) (offset width value : ℕ)
    → IsWidth width → offset + width ≤ frame_len s - locals_pos s
    → Chain s
    → Chain (record s {
      bytes = replaced_within s.bytes (local_at s offset) (big_bytes width value);
    })
local_keeps s offset width value is inside c =
    let size = length_word width value in
    set_keeps s offset (big_bytes width value) (rw size inside) c
    (has_local s width offset (has_width width is) inside)
