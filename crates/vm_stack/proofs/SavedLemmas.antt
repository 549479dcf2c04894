-- Stacks in saves, by lists: formats before other bytes, and a frame.
use Rattle.std.proofs.Common.{◌≡◌, ◌≢◌, inl, inr, ℕ, suc, ◌+◌, ◌-◌, ◌*◌, ◌/◌, ◌%◌, ◌≤◌}
use Rattle.std.proofs.Common.{◌<◌, Bool, true, false, ◌==◌, ◌||◌, List, [], ◌∷◌, ◌++◌}
use Rattle.std.proofs.Common.{length, take, drop, slice_index, refl, arith, sym, ap}
use Rattle.std.proofs.Common.{◌∙◌, subst, append_assoc, length-append, length-drop}
use Rattle.std.proofs.lemmas.Bool.{or_cases, eqb-true}
use Rattle.std.proofs.lemmas.List.{take_all, length-take-le, take-append-drop, take-take}
use Rattle.std.proofs.Math.Seq.{take-append_seam, drop-append_seam, take-add}
use Rattle.vm_stack.specs.StackState.{StackState}
use Rattle.vm_stack.specs.Locals.{IsWidth}
use Rattle.vm_stack.specs.Frame.{frame_head, padding_len, locals_pos_of, locals_len, frame_len_of}
use Rattle.vm_stack.specs.Chain.{IsFormat, Chain, HasFrame, IsReady}
use Rattle.vm_stack.specs.Saved.{SavedStack, OneFrame, format_from, is_type}
use Rattle.vm_stack.proofs.FrameLemmas.{aligned_up, before, length_before}
use Rattle.vm_stack.proofs.ChainLemmas.{ready_in}
use Rattle.vm_stack.proofs.FormatLemmas.{no_zero, two}

-- formats

pub width_is : (x : ℕ) → is_type x ≡ true → IsWidth x
width_is x e =
    elim (or_cases (x == 1 || x == 2) (x == 4) e) [
      | inl p ↦ elim (or_cases (x == 1) (x == 2) p) [
        | inl q ↦ inl (eqb-true x 1 q)
        | inr q ↦ inr (inl (eqb-true x 2 q))
      ]
      | inr p ↦ inr (inr (eqb-true x 4 p))
    ]

-- where a format is found
pub record Found (n : ℕ) (xs : List ℕ) (r : ℕ) : Type 0 where
  pub size : ℕ
  pub is : r ≡ n + size
  pub format : IsFormat (take size xs)

found_pair : (n x y : ℕ) (rest : List ℕ) (a b w : Bool)
    → (x == 0) ≡ a → (y == 0) ≡ b → is_type x ≡ w
    → (format_from (n + 2) rest ≢ 0 → Found (n + 2) rest (format_from (n + 2) rest))
    → format_from n (x ∷ y ∷ rest) ≢ 0 → Found n (x ∷ y ∷ rest) (format_from n (x ∷ y ∷ rest))
found_pair n x y rest true true w ex ey ew next h = record {
  size = 2;
  is = rw (ex, ey) refl;
  format = inl (eqb-true x 0 ex, eqb-true y 0 ey, refl);
}
found_pair n x y rest true false w ex ey ew next h = absurd (h (rw (ex, ey) refl))
found_pair n x y rest false b false ex ey ew next h = absurd (h (rw (ex, ew) refl))
found_pair n x y rest false b true ex ey ew next h =
    let e : format_from n (x ∷ y ∷ rest) ≡ format_from (n + 2) rest = rw (ex, ew) refl in
    let f = next (λ z. h (e ∙ z)) in
    let is = f.is in
    record {
      size = suc (suc f.size);
      is = e ∙ (is ∙ omega arith);
      format = inr (width_is x ew, f.format);
    }

pub found : (n : ℕ) (xs : List ℕ) → format_from n xs ≢ 0 → Found n xs (format_from n xs)
found n [] h = absurd (h refl)
found n (x ∷ []) h = absurd (h refl)
found n (x ∷ y ∷ rest) h =
    found_pair n x y rest (x == 0) (y == 0) (is_type x) refl refl refl (found (n + 2) rest) h

read_width : (n x y : ℕ) (rest : List ℕ)
    → IsWidth x
    → format_from n (x ∷ y ∷ rest) ≡ format_from (n + 2) rest
read_width n x y rest (inl e) = rw e refl
read_width n x y rest (inr (inl e)) = rw e refl
read_width n x y rest (inr (inr e)) = rw e refl

pub only : (n : ℕ) (f rest : List ℕ) → IsFormat f → format_from n (f ++ rest) ≡ n + length f
only n [] rest is = absurd is
only n (x ∷ []) rest is = absurd is
only n (x ∷ y ∷ g) rest (inl e) = rw (e.0, e.1, e.2) refl
only n (x ∷ y ∷ g) rest (inr is) =
    read_width n x y (g ++ rest) is.0 ∙ (only (n + 2) g rest is.1 ∙ omega arith)

-- heads

pub head_whole : (b p q f : List ℕ) → length b ≡ 8 + length f
    → take 4 b ≡ p → take 4 (drop 4 b) ≡ q → take (length f) (drop 8 b) ≡ f → b ≡ p ++ q ++ f
head_whole b p q f l ep eq ef =
    sym (take_all (8 + length f) b (omega (arith, l)))
    ∙ (take-add 8 (length f) b ∙ rw (ef, take-add 4 4 b, ep, eq) refl)

pub part_stands : (b p r : List ℕ) (n : ℕ)
    → b ≡ p ++ r → n ≡ length p → take (length r) (drop n b) ≡ r
part_stands b p r n e l = rw (e, l, drop-append_seam p r) (take_all (length r) r (omega arith))

-- frames

pub length_head : (format : List ℕ) → length (frame_head format) ≡ 8 + length format
length_head format = omega arith

-- a frame begins with its head and its padding
pub head_then_padding : (format : List ℕ)
    → locals_pos_of format ≡ 8 + length format + padding_len format
head_then_padding format = let u = aligned_up (8 + length format) in omega (arith, u)

four_times : (a b : ℕ) → a % 4 ≡ 0 → b % 4 ≡ 0 → b ≤ a → a - b ≡ 4 * ((a - b) / 4)
four_times a b ha hb h = omega (arith, ha, hb, h)

length_fours : (format : List ℕ) → frame_len_of format % 4 ≡ 0
length_fours format = omega arith

pub framed : (room : ℕ) (b f : List ℕ)
    → IsFormat f → frame_len_of f + room ≤ length b
    → length b % 4 ≡ 0 → length b ≤ 1048576
    → take (8 + length f) b ≡ frame_head f → OneFrame room b
framed room b f is long fours small h =
    let u = head_then_padding f in
    let m = 8 + length f in
    let p = padding_len f in
    let n = locals_len f in
    let dm = length-drop m b in
    let dp = length-drop (m + p) b in
    let dn = length-drop (m + p + n) b in
    let ff = length_fours f in
    let size : frame_len_of f ≡ m + p + n = omega (arith, u) in
    record {
      frame = record {
        format = f;
        padding = take p (drop m b);
        locals = take n (drop (m + p) b);
        values = drop (m + p + n) b;
        count = (length b - frame_len_of f) / 4;
      };
      is = record {
        format = is;
        padding = length-take-le p (drop m b) (omega (arith, dm, long, size));
        locals = length-take-le n (drop (m + p) b) (omega (arith, dp, long, size));
        values =
            rw (dn, ← size) (four_times (length b) (frame_len_of f) fours ff (omega (arith, long)));
        fits = omega (arith, long, small);
      };
      least = omega (arith, dn, long, size);
      bytes =
          sym (take-append-drop (m + p + n) b)
          ∙ rw (take-add (m + p) n b, take-add m p b, h) refl;
    }

after_head : (h z l v : List ℕ) → h ++ z ++ l ++ v ≡ h ++ (z ++ (l ++ v))
after_head h z l v = simp append_assoc refl

-- what a frame's bytes say
pub record Parts (room : ℕ) (b f : List ℕ) : Type 0 where
  pub format : IsFormat f
  pub size : format_from 0 (drop 8 b) ≡ length f
  pub taken : take (length f) (drop 8 b) ≡ f
  pub long : frame_len_of f + room ≤ length b
  pub fours : length b % 4 ≡ 0
  pub head : take (8 + length f) b ≡ frame_head f

pub parts : (room : ℕ) (b : List ℕ) (h : OneFrame room b) → Parts room b h.frame.format
parts room b h =
    let fr = h.frame in
    let a = length-append (before fr []) fr.values in
    let n = length_before fr [] h.is in
    let l = length_head fr.format in
    let v = h.is.values in
    let four = h.least in
    let e = ap length h.bytes in
    let ff = length_fours fr.format in
    let tail = fr.padding ++ (fr.locals ++ fr.values) in
    let whole : b ≡ frame_head fr.format ++ tail =
    h.bytes ∙ after_head (frame_head fr.format) fr.padding fr.locals fr.values in
    let rest : drop 8 b ≡ fr.format ++ tail = ap (λ (ys : List ℕ). drop 8 ys) whole in
    record {
      format = h.is.format;
      size =
          ap (λ (ys : List ℕ). format_from 0 ys) rest
          ∙ (only 0 fr.format tail h.is.format ∙ omega arith);
      taken =
          ap (λ (ys : List ℕ). take (length fr.format) ys) rest ∙ take-append_seam fr.format tail;
      long = omega (arith, a, n, e, four);
      fours = omega (arith, a, n, e, v, ff);
      head =
          ap (λ (n : ℕ). take n b) (sym l)
          ∙ (ap (λ (ys : List ℕ). take (length (frame_head fr.format)) ys) whole
          ∙ take-append_seam (frame_head fr.format) tail);
    }

-- what the code reads

pub rest_whole : (b : List ℕ) → take (length b - 8) (drop 8 b) ≡ drop 8 b
rest_whole b = let l = length-drop 8 b in take_all (length b - 8) (drop 8 b) (omega (arith, l))

pub rest_size : (b : List ℕ) (n : ℕ)
    → n ≡ format_from 0 (take (length b - 8) (drop 8 b))
    → n ≡ format_from 0 (drop 8 b)
rest_size b n e = e ∙ ap (λ (ys : List ℕ). format_from 0 ys) (rest_whole b)

pub turned : (b p r : List ℕ) → p ≡ r → take (length p) b ≡ p → take (length r) b ≡ r
turned b p r e h = subst (λ (ys : List ℕ). take (length ys) b ≡ ys) e h

pub more : (b : List ℕ) (at : ℕ)
    → at + 1 < length b → slice_index b at ≢ 0
    → is_type (slice_index b at) ≡ true
    → format_from at (drop at b) ≡ format_from (at + 2) (drop (at + 2) b)
more b at h some w =
    ap (λ (ys : List ℕ). format_from at ys) (two b at h)
    ∙ (rw (no_zero (slice_index b at) some, w) refl)

pub none : (n : ℕ) (xs : List ℕ) → length xs < 2 → format_from n xs ≡ 0
none n [] h = refl
none n (x ∷ []) h = refl
none n (x ∷ y ∷ rest) h = absurd (omega (arith, h))

pub some_format : (f : List ℕ) → IsFormat f → 2 ≤ length f
some_format [] is = absurd is
some_format (x ∷ []) is = absurd is
some_format (x ∷ y ∷ g) is = omega arith

pub no_frame : (room : ℕ) (b : List ℕ) (n : ℕ)
    → n ≡ format_from 0 (drop 8 b) → n ≡ 0 → OneFrame room b
    → false ≡ true
no_frame room b n e z h =
    let p = parts room b h in
    let two = some_format h.frame.format p.format in
    let size = p.size in
    absurd (omega (arith, e, z, two, size))

pub read_frame : (room : ℕ) (b f : List ℕ) (n : ℕ)
    → n ≡ format_from 0 (drop 8 b) → n ≢ 0
    → f ≡ take n (drop 8 b)
    → frame_len_of f + room ≤ length b → length b % 4 ≡ 0
    → length b ≤ 1048576 → take (8 + length f) b ≡ frame_head f
    → OneFrame room b
read_frame room b f n e some is long fours small h =
    let k = found 0 (drop 8 b) (λ z. some (e ∙ z)) in
    let size : n ≡ k.size = let z = k.is in omega (arith, e, z) in
    framed room b f (subst IsFormat (sym (is ∙ ap (λ (m : ℕ). take m (drop 8 b)) size)) k.format)
    long fours small h

pub frame_read : (room : ℕ) (b f : List ℕ) (n : ℕ) (r : Bool)
    → n ≡ format_from 0 (drop 8 b) → f ≡ take n (drop 8 b)
    → (frame_len_of f + room ≤ length b → length b % 4 ≡ 0
    → take (8 + length f) b ≡ frame_head f → r ≡ true)
    → OneFrame room b → r ≡ true
frame_read room b f n r e is all h =
    let p = parts room b h in
    let same : f ≡ h.frame.format =
    is ∙ (ap (λ (m : ℕ). take m (drop 8 b)) (e ∙ p.size) ∙ p.taken) in
    all (rw same p.long) p.fours (rw same p.head)

pub take_within : (b : List ℕ) (at end : ℕ)
    → at ≤ end → end ≤ length b
    → take at (take end b) ≡ take at b
take_within b at end h g = take-take at end b h

-- a chain with a stub of its own on top is one that can be loaded
pub ready_saved : (s : StackState) → Chain s → HasFrame s → IsReady s → SavedStack s.bytes
ready_saved s c has ready = record {
  some = has;
  linked = record {
    frames = c.frames;
    ends = ready_in s c.frames c.linked c.bytes c.frame ready;
    linked = c.linked;
    bytes = c.bytes;
  };
}
