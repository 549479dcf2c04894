-- What a stack keeps of its frame, as its bytes change.
use Rattle.std.proofs.Common.{◌≡◌, ℕ, ◌+◌, ◌≤◌, ◌∙◌, List, ◌++◌, length, take, drop, refl}
use Rattle.std.proofs.Common.{arith, sym, ap, length-append, nat_le, inl, inr, subst}
use Rattle.std.proofs.Common.{append_assoc, replicate}
use Rattle.std.proofs.Math.Seq.{take-length, drop-length}
use Rattle.std.proofs.lemmas.Bool.{cases_Bool, leb-true}
use Rattle.std.proofs.lemmas.List.{length-replicate, length-take-le, append-nil}
use Rattle.byteorder.specs.Endian.{big_bytes}
use Rattle.byteorder.specs.Numbers.{length-bytes_high_first}
use Rattle.vm_stack.specs.Frame.{frame_head, fresh_frame, frame_len_of, locals_len}
use Rattle.vm_stack.specs.Frame.{locals_pos_of, padding_len}
use Rattle.vm_stack.specs.StackState.{number, replaced_within}
use Rattle.vm_stack.specs.Head.{StandsWhole, IsHead}
use Rattle.vm_stack.specs.declared.head.Head.{Head}
use Rattle.vm_stack.proofs.NumberLemmas.{number_within, number_taken}
use Rattle.vm_stack.proofs.FrameLemmas.{aligned_up, first_word, second_word}
use Rattle.vm_stack.proofs.LocalLemmas.{length_replaced}

-- a number before what is put at a place
number_before : (xs new : List ℕ) (at place : ℕ) → place + 4 ≤ at
    → number 4 (replaced_within xs at new) place ≡ number 4 xs place
number_before xs new at place le =
    elim (cases_Bool (nat_le (at + length new) (length xs))) [
      | inl e ↦ (
          let inside = leb-true _ _ e in
          let size = length-take-le at xs (omega (arith, inside)) in
          let more = length-append (take at xs) new in
          rw e (sym (number_within (take at xs ++ new) (drop (at + length new) xs) place
          (omega (arith, le, size, more)))
          ∙ (sym (number_within (take at xs) new place (omega (arith, le, size)))
          ∙ number_taken xs at place le (omega (arith, inside))))
          )
      | inr e ↦ rw e refl
    ]

-- a frame stands whole in other bytes that have its two numbers and reach to its values
stands_alike : (xs ys : List ℕ) (frame : ℕ) (head : Head)
    → head.values ≤ length ys
    → ((place : ℕ) → place + 4 ≤ frame + 8 → number 4 ys place ≡ number 4 xs place)
    → StandsWhole xs frame head → StandsWhole ys frame head
stands_alike xs ys frame head below same s = record {
  above = s.above;
  span = s.span;
  below = below;
  locals = ap (λ (n : ℕ). frame + n) (same (frame + 4) (omega arith)) ∙ s.locals;
  values = ap (λ (n : ℕ). frame + n) (same frame (omega arith)) ∙ s.values;
}

-- with more bytes on top
pub head_below : (xs ys : List ℕ) (frame : ℕ) (head : Head)
    → IsHead xs frame head → IsHead (xs ++ ys) frame head
head_below xs ys frame head h = record {
  whole = λ small.
      let s = h.whole small in
      let above = s.above in
      let span = s.span in
      let below = s.below in
      let size = length-append xs ys in
      stands_alike xs (xs ++ ys) frame head (omega (arith, below, size))
      (λ place low. sym (number_within xs ys place (omega (arith, above, span, below, low)))) s;
  spans = h.spans;
}

-- in bytes that begin with those below its values
pub head_in : (xs : List ℕ) (m n frame : ℕ) (head : Head) → m ≤ length xs → n ≤ m → head.values ≤ n
    → IsHead (take m xs) frame head → IsHead (take n xs) frame head
head_in xs m n frame head room le within h = record {
  whole = λ small.
      let s = h.whole small in
      let above = s.above in
      let span = s.span in
      let size = length-take-le n xs (omega (arith, room, le)) in
      stands_alike (take m xs) (take n xs) frame head (omega (arith, size, within))
      (λ place low.
      number_taken xs n place (omega (arith, above, span, within, low)) (omega (arith, room, le))
      ∙ sym (number_taken xs m place (omega (arith, above, span, within, le, low)) room)) s;
  spans = h.spans;
}

-- with bytes put above its two numbers
pub head_around : (xs new : List ℕ) (at frame : ℕ) (head : Head) → frame + 8 ≤ at
    → IsHead xs frame head → IsHead (replaced_within xs at new) frame head
head_around xs new at frame head le h = record {
  whole = λ small.
      let s = h.whole small in
      stands_alike xs (replaced_within xs at new) frame head
      (rw (length_replaced xs at new) s.below)
      (λ place low. number_before xs new at place (omega (arith, le, low))) s;
  spans = h.spans;
}

-- a buffer that was lent as a slice is what stands in the slice then
restored : (items buf : List ℕ) (n : ℕ) → length items ≡ n → length buf ≡ length items
    → take n (buf ++ drop (length buf) items) ≡ buf
restored items buf n room size =
    rw (size, drop-length items, append-nil buf, sym room, sym size) (take-length buf)

-- what is true of a stack's fields once its buffer, of which these first bytes stand, was lent
pub closed : (items old buf now : List ℕ) (n m frame : ℕ) (head : Head)
    → old ≡ items → length old ≡ n
    → length buf ≡ length old → m ≤ length items → length items ≤ 1048576 → take m buf ≡ now
    → IsHead now frame head
    → (m ≤ length (take n (buf ++ drop (length buf) items)))
    × ((length (take n (buf ++ drop (length buf) items)) ≤ 1048576)
    × IsHead (take m (take n (buf ++ drop (length buf) items))) frame head)
closed items old buf now n m frame head same room size within small e h =
    let len = ap length same in
    rw (restored items buf n (sym len ∙ room) (size ∙ len)) (
      omega (arith, len, size, within),
      (
        omega (arith, len, size, small),
        subst (λ (xs : List ℕ). IsHead xs frame head) (sym e) h,
      ),
    )

fresh_seam : (low a b f z l : List ℕ)
    → low ++ ((a ++ b ++ f) ++ z ++ l) ≡ low ++ (a ++ (b ++ (f ++ (z ++ l))))
fresh_seam low a b f z l = simp append_assoc refl

length_new : (low format z l : List ℕ)
    → length z ≡ padding_len format → length l ≡ locals_len format
    → length (low ++ (frame_head format ++ z ++ l)) ≡ length low + frame_len_of format
length_new low format z l padding many =
    let a = length-append low (frame_head format ++ z ++ l) in
    let b = length-append (frame_head format ++ z) l in
    let d = length-append (frame_head format) z in
    let up = aligned_up (8 + length format) in
    omega (arith, a, padding, many, b, d, up)

-- what is known of a new frame, of this padding and with these locals
pub new_head : (low format z l : List ℕ) (head locals : ℕ)
    → head ≡ locals_pos_of format → locals ≡ locals_len format
    → length z ≡ padding_len format → length l ≡ locals_len format
    → length low + frame_len_of format ≤ 1048576
    → IsHead (low ++ (frame_head format ++ z ++ l)) (length low) (record {
      locals = length low + head;
      span = locals;
      values = length low + head + locals;
    })
new_head low format z l head locals at many padding long fits =
    let a = big_bytes 4 (frame_len_of format) in
    let b = big_bytes 4 (locals_pos_of format) in
    let bytes = fresh_seam low a b format z l in
    let up = aligned_up (8 + length format) in
    let size = length_new low format z l padding long in
    record {
      whole = λ _. record {
        above = omega (arith, up, at);
        span = refl;
        below = omega (arith, size, at, many);
        locals = ap (λ (n : ℕ). length low + n)
            (ap (λ (xs : List ℕ). number 4 xs (length low + 4)) bytes
            ∙ (second_word low a b (format ++ (z ++ l)) (locals_pos_of format)
            (length-bytes_high_first 4 (frame_len_of format)) refl (omega (arith, fits)) ∙ sym at));
        values = omega (
          arith,
          at,
          many,
          ap (λ (xs : List ℕ). number 4 xs (length low)) bytes
              ∙ first_word low a (b ++ (format ++ (z ++ l))) (frame_len_of format) refl
              (omega (arith, fits)),
        );
      };
      spans = λ _. omega (arith, fits, at, many);
    }

-- the same where its locals are zero
pub fresh_head : (low format : List ℕ) (head locals : ℕ)
    → head ≡ locals_pos_of format → locals ≡ locals_len format
    → length low + frame_len_of format ≤ 1048576
    → IsHead (low ++ fresh_frame format) (length low) (record {
      locals = length low + head;
      span = locals;
      values = length low + head + locals;
    })
fresh_head low format head locals at many fits =
    new_head low format (replicate (padding_len format) 0) (replicate (locals_len format) 0)
    head locals at many (length-replicate (padding_len format) 0)
    (length-replicate (locals_len format) 0) fits
