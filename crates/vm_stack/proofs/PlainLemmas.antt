-- Frames whose locals all have four bytes.
use Rattle.std.proofs.Common.{◌≡◌, inl, inr, ℕ, zero, suc, ◌+◌, ◌*◌, ◌≤◌, ◌<◌, List, [], ◌∷◌, ◌++◌}
use Rattle.std.proofs.Common.{length, take, replicate, get_or, slice_index, refl, arith, ap, sym, ◌∙◌}
use Rattle.std.proofs.Common.{append_assoc, length-append, subst}
use Rattle.std.proofs.lemmas.List.{length-replicate, length-take-le, take_more, flat_map_more}
use Rattle.byteorder.specs.Endian.{big_bytes}
use Rattle.byteorder.specs.Numbers.{length-bytes_high_first}
use Rattle.vm_stack.specs.StackState.{StackState, words}
use Rattle.vm_stack.specs.Frame.{IsPlain, filled, frame_of_words, frame_len_of, locals_pos_of}
use Rattle.vm_stack.specs.Frame.{locals_len, padding_len}
use Rattle.vm_stack.specs.Head.{IsHead}
use Rattle.vm_stack.specs.Chain.{Chain, IsFormat, IsReady}
use Rattle.vm_stack.proofs.ChainLemmas.{new_keeps}
use Rattle.vm_stack.proofs.HeadLemmas.{new_head}

-- the value at a place, or 0 where there is none
zeros_at : (count at : ℕ) → get_or (replicate {A = ℕ} count 0) at 0 ≡ 0
zeros_at zero at = refl
zeros_at (suc count) zero = refl
zeros_at (suc count) (suc at) = zeros_at count at

filled_at : (values : List ℕ) (count at : ℕ)
    → get_or (values ++ replicate count 0) at 0 ≡ get_or values at 0
filled_at [] count at = zeros_at count at
filled_at (x ∷ xs) count zero = refl
filled_at (x ∷ xs) count (suc at) = filled_at xs count at

-- one word more
pub word_more : (low values : List ℕ) (count put x : ℕ) → put < count → x ≡ get_or values put 0
    → (low ++ words (take put (values ++ replicate count 0))) ++ big_bytes 4 x
    ≡ low ++ words (take (put + 1) (values ++ replicate count 0))
word_more low values count put x h e =
    let ys : List ℕ = values ++ replicate count 0 in
    let a = length-append values (replicate count 0) in
    let z = length-replicate {A = ℕ} count 0 in
    flat_map_more (big_bytes 4) low (take put ys) x
    ∙ ap (λ (zs : List ℕ). low ++ words zs)
    (ap (λ (v : ℕ). take put ys ++ v ∷ []) (e ∙ sym (filled_at values count put))
    ∙ sym (take_more ys put 0 (omega (arith, h, a, z))))

length_words : (xs : List ℕ) → length (words xs) ≡ 4 * length xs
length_words [] = refl
length_words (x ∷ xs) =
    let a = length-append (big_bytes 4 x) (words xs) in
    let b = length-bytes_high_first 4 x in
    let c = length_words xs in
    omega (arith, a, b, c)

pub length_filled : (count : ℕ) (values : List ℕ) → length (words (filled count values)) ≡ 4 * count
length_filled count values =
    let a = length-append values (replicate count 0) in
    let z = length-replicate {A = ℕ} count 0 in
    let t = length-take-le count (values ++ replicate count 0) (omega (arith, a, z)) in
    let w = length_words (filled count values) in
    omega (arith, t, w)

-- the sizes of such a frame
none_of : (format : List ℕ) (count : ℕ) → format ≡ 0 ∷ 0 ∷ [] → count ≡ slice_index format 1
    → count ≡ 0
none_of format count e is = is ∙ ap (λ (xs : List ℕ). slice_index xs 1) e

pub some_len : (n : ℕ) → locals_len (4 ∷ n ∷ 0 ∷ 0 ∷ []) ≡ 4 * n
some_len n = omega arith

pub plain_pos : (format : List ℕ) → IsPlain format → locals_pos_of format ≡ 12
plain_pos format (inl e) = ap (λ (xs : List ℕ). locals_pos_of xs) e
plain_pos format (inr e) = ap (λ (xs : List ℕ). locals_pos_of xs) e

pub plain_locals : (format : List ℕ) (count : ℕ) → IsPlain format → count ≡ slice_index format 1
    → locals_len format ≡ 4 * count
plain_locals format count (inl e) is =
    let l : locals_len format ≡ 0 = ap (λ (xs : List ℕ). locals_len xs) e in
    let n = none_of format count e is in
    omega (arith, l, n)
plain_locals format count (inr e) is =
    ap (λ (xs : List ℕ). locals_len xs) e
    ∙ (some_len (slice_index format 1) ∙ ap (λ (n : ℕ). 4 * n) (sym is))

pub plain_len : (format : List ℕ) (count : ℕ) → IsPlain format → count ≡ slice_index format 1
    → frame_len_of format ≡ 12 + 4 * count
plain_len format count plain is =
    let p = plain_pos format plain in
    let l = plain_locals format count plain is in
    omega (arith, p, l)

pub plain_size : (format : List ℕ) → IsPlain format
    → frame_len_of format ≡ 12 + 4 * slice_index format 1
plain_size format plain = plain_len format (slice_index format 1) plain refl

-- the pair, with what follows it up to the locals
pair_some : (format : List ℕ) (n : ℕ) → format ≡ 4 ∷ n ∷ 0 ∷ 0 ∷ []
    → slice_index format 0 ∷ n ∷ 0 ∷ 0 ∷ [] ≡ format ++ replicate (padding_len format) 0
pair_some format n e = rw e refl

pair_none : (format : List ℕ) → format ≡ 0 ∷ 0 ∷ []
    → slice_index format 0 ∷ 0 ∷ 0 ∷ 0 ∷ [] ≡ format ++ replicate (padding_len format) 0
pair_none format e = rw e refl

pair_is : (format : List ℕ) (count : ℕ) → IsPlain format → count ≡ slice_index format 1
    → slice_index format 0 ∷ count ∷ 0 ∷ 0 ∷ [] ≡ format ++ replicate (padding_len format) 0
pair_is format count (inl e) is =
    ap (λ (n : ℕ). slice_index format 0 ∷ n ∷ 0 ∷ 0 ∷ []) (none_of format count e is)
    ∙ pair_none format e
pair_is format count (inr e) is =
    ap (λ (n : ℕ). slice_index format 0 ∷ n ∷ 0 ∷ 0 ∷ []) is
    ∙ pair_some format (slice_index format 1) e

seam : (low a b f z l : List ℕ)
    → (((low ++ a) ++ b) ++ (f ++ z)) ++ l ≡ low ++ ((a ++ b ++ f) ++ z ++ l)
seam low a b f z l = simp append_assoc refl

pub plain_bytes : (low format values : List ℕ) (count : ℕ) → IsPlain format
    → count ≡ slice_index format 1
    → (((low ++ big_bytes 4 (12 + 4 * count)) ++ (0 ∷ 0 ∷ 0 ∷ 12 ∷ []))
    ++ (slice_index format 0 ∷ count ∷ 0 ∷ 0 ∷ [])) ++ words (filled count values)
    ≡ low ++ frame_of_words format (filled count values)
plain_bytes low format values count plain is =
    let ws = words (filled count values) in
    let z : List ℕ = replicate (padding_len format) 0 in
    let a : big_bytes 4 (12 + 4 * count) ≡ big_bytes 4 (frame_len_of format) =
    ap (λ (n : ℕ). big_bytes 4 n) (sym (plain_len format count plain is)) in
    let b : 0 ∷ 0 ∷ 0 ∷ 12 ∷ [] ≡ big_bytes 4 (locals_pos_of format) =
    ap (λ (n : ℕ). big_bytes 4 n) (sym (plain_pos format plain)) in
    ap (λ (xs : List ℕ). (((low ++ xs) ++ (0 ∷ 0 ∷ 0 ∷ 12 ∷ []))
    ++ (slice_index format 0 ∷ count ∷ 0 ∷ 0 ∷ [])) ++ ws) a
    ∙ (ap (λ (xs : List ℕ). (((low ++ big_bytes 4 (frame_len_of format)) ++ xs)
    ++ (slice_index format 0 ∷ count ∷ 0 ∷ 0 ∷ [])) ++ ws) b
    ∙ (ap (λ (xs : List ℕ). (((low ++ big_bytes 4 (frame_len_of format))
    ++ big_bytes 4 (locals_pos_of format)) ++ xs) ++ ws) (pair_is format count plain is)
    ∙ seam low (big_bytes 4 (frame_len_of format)) (big_bytes 4 (locals_pos_of format)) format z
    ws))

pub plain_format : (format : List ℕ) → IsPlain format → IsFormat format
plain_format format (inl e) = subst IsFormat (sym e) (inl (refl, refl, refl))
plain_format format (inr e) =
    subst IsFormat (sym e) (inr (inr (inr refl), inl (refl, refl, refl)))

-- what is kept of it
pub plain_head : (low format values : List ℕ) (count : ℕ) → IsPlain format
    → count ≡ slice_index format 1
    → length low + 12 + 4 * count ≤ 1048576
    → IsHead (low ++ frame_of_words format (filled count values)) (length low) (record {
      locals = length low + 12;
      span = 4 * count;
      values = length low + 12 + 4 * count;
    })
plain_head low format values count plain is fits =
    let l = plain_locals format count plain is in
    let len = plain_len format count plain is in
    new_head low format (replicate (padding_len format) 0) (words (filled count values)) 12
    (4 * count) (sym (plain_pos format plain)) (sym l) (length-replicate (padding_len format) 0)
    (length_filled count values ∙ sym l) (omega (arith, len, fits))

-- a chain stays one
pub plain_keeps : (s : StackState) (format values : List ℕ) (count : ℕ) → IsPlain format
    → count ≡ slice_index format 1 → length s.bytes + 12 + 4 * count ≤ 1048576
    → Chain s → IsReady s
    → Chain (record s {
      bytes = s.bytes ++ frame_of_words format (filled count values);
      frame = length s.bytes;
    })
plain_keeps s format values count plain is fits chain ready =
    let l = plain_locals format count plain is in
    let len = plain_len format count plain is in
    new_keeps s format (replicate (padding_len format) 0) (words (filled count values)) chain ready
    (plain_format format plain) (length-replicate (padding_len format) 0)
    (length_filled count values ∙ sym l) (omega (arith, len, fits))
