-- The locals of a C1's new frame, as one list of bytes.
use Rattle.std.proofs.Common.{◌≡◌, ◌≢◌, inl, inr, ℕ, zero, suc, ◌+◌, ◌-◌, ◌*◌, ◌≤◌, Bool, true}
use Rattle.std.proofs.Common.{false, cond, nat_le, List, [], ◌∷◌, ◌++◌, length, take, drop}
use Rattle.std.proofs.Common.{replicate, refl, arith, Result, Ok, Err, ap, sym, ◌∙◌, subst}
use Rattle.std.proofs.Common.{append_assoc, length-append, slice_index}
use Rattle.std.specs.List.{flat_map}
use Rattle.std.proofs.lemmas.Bool.{le-leb, ne_eqb}
use Rattle.std.proofs.lemmas.List.{append-nil, length-replicate, replicate-append-replicate}
use Rattle.std.proofs.lemmas.List.{take-replicate, drop-replicate}
use Rattle.std.proofs.lemmas.Grind.{flat_map-append}
use Rattle.std.proofs.Math.Seq.{take-append_seam, drop-append-add}
use Rattle.byteorder.specs.Endian.{big_bytes}
use Rattle.vm_stack.specs.StackState.{StackState, number, replaced_within, frame_len, locals_pos}
use Rattle.vm_stack.specs.StackState.{words}
use Rattle.vm_stack.specs.Locals.{IsWidth, local_at, local_set}
use Rattle.vm_stack.specs.Frame.{aligned, locals_end, entered, fresh_frame, frame_head}
use Rattle.vm_stack.specs.Frame.{frame_len_of, locals_pos_of, locals_len, padding_len}
use Rattle.vm_stack.specs.Frame.{IsPlain, filled as filled_to, frame_of_words}
use Rattle.vm_stack.proofs.PlainLemmas.{length_filled, some_len}
use Rattle.vm_stack.specs.declared.fault.StackFault.TheVariants.{Overflow}
use Rattle.vm_stack.proofs.FrameLemmas.{first_word, second_word, aligned_up as align_up}
use Rattle.vm_stack.proofs.SavedLemmas.{length_head, head_then_padding}
use Rattle.vm_stack.specs.Chain.{IsFormat}
use Rattle.vm_stack.specs.declared.fault.StackFault.{StackFault}
use Rattle.vm_stack.proofs.NumberLemmas.{number_within}
use Rattle.vm_stack.proofs.ChainLemmas.{length_word}
use Rattle.vm_flow.specs.Answer.{from_stack, and_then}
use Rattle.vm_flow.specs.Call.{pair_set, locals_set, arguments_given}
use Rattle.vm_flow.specs.Call.{locals_of, frame_with, with_frame}
use Rattle.vm_flow.specs.declared.stop.FlowStop.{FlowStop}
use Rattle.vm_flow.proofs.ArgumentLemmas.{aligned_up, grows, next_end}

-- what stands up to the locals of the frame at f, which are so many bytes
pub record Base (p : List ℕ) (f total : ℕ) : Type 0 where
  pub low : f + 8 ≤ length p
  pub pos : f + number 4 p (f + 4) ≡ length p
  pub len : number 4 p f - number 4 p (f + 4) ≡ total

-- a stack whose locals begin with these bytes, and then are n zeros
abbrev pub partly : List ℕ → ℕ → ℕ → List ℕ → ℕ → StackState
partly p f limit done n = record { bytes = p ++ (done ++ replicate n 0); frame = f; limit = limit }

partly_is : (p : List ℕ) (f limit : ℕ) (a b : List ℕ) (m n : ℕ) → a ≡ b → m ≡ n
    → partly p f limit a m ≡ partly p f limit b n
partly_is p f limit a b m n e g = rw (e, g) refl

-- one local

put_at_seam : (q new : List ℕ) (n w : ℕ) → length new ≡ w → w ≤ n
    → replaced_within (q ++ replicate n 0) (length q) new ≡ q ++ new ++ replicate (n - w) 0
put_at_seam q new n w e h =
    let z = length-replicate {A = ℕ} n 0 in
    let a = length-append q (replicate n 0) in
    let fits : nat_le (length q + length new) (length (q ++ replicate n 0)) ≡ true =
    le-leb _ _ (omega (arith, a, z, e, h)) in
    let rest : drop (length q + length new) (q ++ replicate n 0) ≡ replicate (n - w) 0 =
    drop-append-add q (replicate n 0) (length new)
    ∙ (drop-replicate (length new) n 0 ∙ ap (λ (k : ℕ). replicate (n - k) 0) e) in
    rw (fits, take-append_seam q (replicate n 0), rest) refl

inner : (p done new z : List ℕ) → (p ++ done) ++ new ++ z ≡ p ++ ((done ++ new) ++ z)
inner p done new z = simp append_assoc refl

put_zeros : (p done new : List ℕ) (n w : ℕ) → length new ≡ w → w ≤ n
    → replaced_within (p ++ (done ++ replicate n 0)) (length p + length done) new ≡ p ++
    ((done ++ new) ++ replicate (n - w) 0)
put_zeros p done new n w e h =
    ap (λ (b : List ℕ). replaced_within b (length p + length done) new)
    (sym (append_assoc p done (replicate n 0)))
    ∙ (ap (λ (k : ℕ). replaced_within ((p ++ done) ++ replicate n 0) k new)
    (sym (length-append p done))
    ∙ (put_at_seam (p ++ done) new n w e h ∙ inner p done new (replicate (n - w) 0)))

number_in : (p rest : List ℕ) (at : ℕ) → at + 4 ≤ length p → number 4 (p ++ rest) at ≡ number 4 p at
number_in p rest at h = sym (number_within p rest at h)

pub local_is : (p done : List ℕ) (f limit n w x total : ℕ) → Base p f total
    → length done + n ≡ total → w ≤ n
    → local_set (partly p f limit done n) (length done) w x ≡ Ok
    (partly p f limit (done ++ big_bytes w x) (n - w))
local_is p done f limit n w x total base sum h =
    let s = partly p f limit done n in
    let low = base.low in
    let b_pos = base.pos in
    let b_len = base.len in
    let len : frame_len s ≡ number 4 p f =
    number_in p (done ++ replicate n 0) f (omega (arith, low)) in
    let pos : locals_pos s ≡ number 4 p (f + 4) =
    number_in p (done ++ replicate n 0) (f + 4) (omega (arith, low)) in
    let fits : nat_le (length done + w) (frame_len s - locals_pos s) ≡ true =
    le-leb _ _ (omega (arith, len, pos, b_len, sum, h)) in
    let at : local_at s (length done) ≡ length p + length done = omega (arith, pos, b_pos) in
    let put : replaced_within s.bytes (local_at s (length done)) (big_bytes w x) ≡ p ++
    ((done ++ big_bytes w x) ++ replicate (n - w) 0) =
    ap (λ (k : ℕ). replaced_within s.bytes k (big_bytes w x)) at
    ∙ put_zeros p done (big_bytes w x) n w (length_word w x) h in
    rw (fits, put) refl

add_back : (k n : ℕ) → k ≤ n → n ≡ k + (n - k)
add_back k n h = omega (arith, h)

split : (done : List ℕ) (n k : ℕ) → k ≤ n
    → done ++ replicate n 0 ≡ (done ++ replicate k 0) ++ replicate (n - k) 0
split done n k h =
    ap (λ (m : ℕ). done ++ replicate m 0) (add_back k n h)
    ∙ (ap (λ (z : List ℕ). done ++ z) (sym (replicate-append-replicate k (n - k) 0))
    ∙ sym (append_assoc done (replicate k 0) (replicate (n - k) 0)))

-- a local that gets nothing is zero
pub skip_is : (p : List ℕ) (f limit : ℕ) (done : List ℕ) (n k : ℕ) → k ≤ n
    → partly p f limit done n ≡ partly p f limit (done ++ replicate k 0) (n - k)
skip_is p f limit done n k h =
    ap (λ (z : List ℕ). record { bytes = p ++ z; frame = f; limit = limit }) (split done n k h)

-- locals of one type

length_words : (w : ℕ) (xs : List ℕ) → length (flat_map (big_bytes w) xs) ≡ w * length xs
length_words w [] = omega arith
length_words w (x ∷ xs) =
    let a = length-append (big_bytes w x) (flat_map (big_bytes w) xs) in
    let b = length_word w x in
    let c = length_words w xs in
    omega (arith, a, b, c)

pair_is : (p : List ℕ) (f limit total : ℕ) (done : List ℕ) (n w : ℕ) (xs : List ℕ) → Base p f total
    → length done + n ≡ total → w * length xs ≤ n
    → pair_set (partly p f limit done n) (length done) w xs ≡ Ok
    (partly p f limit (done ++ flat_map (big_bytes w) xs) (n - w * length xs))
pair_is p f limit total done n w [] base sum h =
    ap (λ (s : StackState). Ok s)
    (partly_is p f limit done (done ++ []) n (n - w * 0) (sym (append-nil done)) (omega arith))
pair_is p f limit total done n w (x ∷ xs) base sum h =
    let room : w ≤ n = omega (arith, h) in
    let big = length_word w x in
    let a = length-append done (big_bytes w x) in
    let next : length (done ++ big_bytes w x) ≡ length done + w = omega (arith, a, big) in
    ap (λ (r : Result StackState StackFault). and_then (from_stack r)
    (λ t. pair_set t (length done + w) w xs))
    (local_is p done f limit n w x total base sum room)
    ∙ (ap (λ (k : ℕ). pair_set (partly p f limit (done ++ big_bytes w x) (n - w)) k w xs) (sym next)
    ∙ (pair_is p f limit total (done ++ big_bytes w x) (n - w) w xs base
    (omega (arith, next, sum, room)) (omega (arith, h))
    ∙ ap (λ (s : StackState). Ok s)
    (partly_is p f limit _ _ _ _ (append_assoc done (big_bytes w x) (flat_map (big_bytes w) xs))
    (omega arith))))

-- arguments that are missing

none_less : (c : ℕ) → c ≡ c - 0
none_less c = omega arith

take_filled : (c m : ℕ) (args : List ℕ) → c ≤ m
    → take c (args ++ replicate m 0) ≡ take c args ++ replicate (c - length (take c args)) 0
take_filled zero m args h = refl
take_filled (suc c) m [] h =
    take-replicate {X = ℕ} (suc c) m 0 h ∙ ap (λ (k : ℕ). replicate {A = ℕ} k 0) (none_less (suc c))
take_filled (suc c) m (x ∷ xs) h =
    ap (λ (ys : List ℕ). x ∷ ys)
    (take_filled c m xs (omega (arith, h)) ∙ ap (λ (k : ℕ). take c xs ++ replicate k 0)
    (omega arith))

zero_word : (w : ℕ) → IsWidth w → big_bytes w 0 ≡ replicate w 0
zero_word w (inl e) = rw e refl
zero_word w (inr (inl e)) = rw e refl
zero_word w (inr (inr e)) = rw e refl

no_words : (w : ℕ) → 0 ≡ w * 0
no_words w = omega arith

zero_words : (w k : ℕ) → IsWidth w → flat_map (big_bytes w) (replicate k 0) ≡ replicate (w * k) 0
zero_words w zero is = ap (λ (n : ℕ). replicate n 0) (no_words w)
zero_words w (suc k) is =
    ap (λ (ys : List ℕ). ys ++ flat_map (big_bytes w) (replicate k 0)) (zero_word w is)
    ∙ (ap (λ (ys : List ℕ). replicate w 0 ++ ys) (zero_words w k is)
    ∙ (replicate-append-replicate w (w * k) 0 ∙ ap (λ (n : ℕ). replicate n 0) (omega arith)))

filled : (w c : ℕ) (args : List ℕ) → IsWidth w
    → flat_map (big_bytes w) (take c (args ++ replicate c 0)) ≡ flat_map (big_bytes w)
    (take c args) ++ replicate (w * (c - length (take c args))) 0
filled w c args is =
    ap (λ (ys : List ℕ). flat_map (big_bytes w) ys) (take_filled c c args (omega arith))
    ∙ (flat_map-append (big_bytes w) (take c args) (replicate (c - length (take c args)) 0)
    ∙ ap (λ (ys : List ℕ). flat_map (big_bytes w) (take c args) ++ ys)
    (zero_words w (c - length (take c args)) is))

take_few : (n : ℕ) (xs : List ℕ) → length (take n xs) ≤ n
take_few zero xs = omega arith
take_few (suc n) [] = omega arith
take_few (suc n) (x ∷ xs) = let h = take_few n xs in omega (arith, h)

-- all pairs

width_some : (x : ℕ) → IsWidth x → x ≢ 0
width_some x (inl e) = λ z. omega (arith, e, z)
width_some x (inr (inl e)) = λ z. omega (arith, e, z)
width_some x (inr (inr e)) = λ z. omega (arith, e, z)

first_pair : (s : StackState) (at x y : ℕ) (rest args : List ℕ) → x ≢ 0
    → locals_set s at (x ∷ y ∷ rest) args
    ≡ and_then (pair_set s (aligned x at) x (take y args))
    (λ t. locals_set t (aligned x at + x * y) rest (drop y args))
first_pair s at x y rest args some = rw (ne_eqb x 0 some) refl

first_bytes : (at x y : ℕ) (rest args : List ℕ) → x ≢ 0
    → locals_of at (x ∷ y ∷ rest) args
    ≡ replicate (aligned x at - at) 0 ++ flat_map (big_bytes x)
    (take y (args ++ replicate y 0)) ++ locals_of (aligned x at + x * y) rest (drop y args)
first_bytes at x y rest args some = rw (ne_eqb x 0 some) refl

inner_pair : (done a b z r : List ℕ) → (((done ++ a) ++ b) ++ z) ++ r ≡ done ++ (a ++ (b ++ z) ++ r)
inner_pair done a b z r = simp append_assoc refl

sum_times : (x l m : ℕ) → x * (l + m) ≡ x * l + x * m
sum_times x l m = omega arith

area_is : (x y l : ℕ) → l ≤ y → x * y ≡ x * l + x * (y - l)
area_is x y l h = ap (λ (i : ℕ). x * i) (add_back l y h) ∙ sum_times x l (y - l)

pub set_is : (p : List ℕ) (f limit total : ℕ) (format done args : List ℕ) (n : ℕ) → Base p f total
    → length done + n ≡ total → IsFormat format
    → locals_end (length done) format ≤ total
    → locals_set (partly p f limit done n) (length done) format args
    ≡ Ok (partly p f limit (done ++ locals_of (length done) format args)
    (total - length (done ++ locals_of (length done) format args)))
set_is p f limit total [] done args n base sum is top = absurd is
set_is p f limit total (x ∷ []) done args n base sum is top = absurd is
set_is p f limit total (x ∷ y ∷ rest) done args n base sum (inl e) top =
    let a = ap length (append-nil done) in
    rw (e.0)
    (ap (λ (s : StackState). Ok s)
    (partly_is p f limit done (done ++ []) n (total - length (done ++ [])) (sym (append-nil done))
    (omega (arith, a, sum))))
set_is p f limit total (x ∷ y ∷ rest) done args n base sum (inr is) top =
    let some = width_some x is.0 in
    let at = length done in
    let begin = aligned x at in
    let k = begin - at in
    let xs = take y args in
    let m = y - length xs in
    let area = area_is x y (length xs) (take_few y args) in
    let up = aligned_up x at is.0 in
    let end : locals_end (begin + x * y) rest ≤ total = rw (← next_end at x y rest some) top in
    let g = grows (begin + x * y) rest is.1 in
    let one = done ++ replicate k 0 in
    let z1 = length-replicate {A = ℕ} k 0 in
    let a1 = length-append done (replicate k 0) in
    let l1 : length one ≡ begin = omega (arith, a1, z1, up) in
    let two = one ++ flat_map (big_bytes x) xs in
    let a2 = length-append one (flat_map (big_bytes x) xs) in
    let w2 = length_words x xs in
    let three = two ++ replicate (x * m) 0 in
    let z3 = length-replicate {A = ℕ} (x * m) 0 in
    let a3 = length-append two (replicate (x * m) 0) in
    let l3 : length three ≡ begin + x * y = omega (arith, l1, a2, w2, a3, z3, area) in
    let skips : k ≤ n = omega (arith, up, g, end, sum) in
    let given : pair_set (partly p f limit done n) begin x xs ≡ Ok
    (partly p f limit two (n - k - x * length xs)) =
    ap (λ (t : StackState). pair_set t begin x xs) (skip_is p f limit done n k skips)
    ∙ (ap (λ (i : ℕ). pair_set (partly p f limit one (n - k)) i x xs) (sym l1)
    ∙ pair_is p f limit total one (n - k) x xs base (omega (arith, l1, up, skips, sum))
    (omega (arith, area, up, g, end, sum))) in
    let here : partly p f limit two (n - k - x * length xs) ≡ partly p f limit three
    (n - k - x * length xs - x * m) =
    skip_is p f limit two (n - k - x * length xs) (x * m) (omega (arith, area, up, g, end, sum)) in
    let whole : three ++ locals_of (length three) rest (drop y args) ≡ done ++ locals_of at
    (x ∷ y ∷ rest) args =
    ap (λ (i : ℕ). three ++ locals_of i rest (drop y args)) l3
    ∙ (inner_pair done (replicate k 0) (flat_map (big_bytes x) xs) (replicate (x * m) 0)
    (locals_of (begin + x * y) rest (drop y args))
    ∙ (ap (λ (ys : List ℕ). done ++
    (replicate k 0 ++ ys ++ locals_of (begin + x * y) rest (drop y args)))
    (sym (filled x y args is.0))
    ∙ ap (λ (ys : List ℕ). done ++ ys) (sym (first_bytes at x y rest args some)))) in
    first_pair (partly p f limit done n) at x y rest args some
    ∙ (ap (λ (r : Result StackState FlowStop). and_then r
    (λ t. locals_set t (begin + x * y) rest (drop y args))) given
    ∙ (ap (λ (t : StackState). locals_set t (begin + x * y) rest (drop y args)) here
    ∙ (ap (λ (i : ℕ). locals_set (partly p f limit three (n - k - x * length xs - x * m)) i rest
    (drop y args)) (sym l3)
    ∙ (set_is p f limit total rest three (drop y args) (n - k - x * length xs - x * m) base
    (omega (arith, l3, area, up, g, end, sum)) is.1
    (subst (λ (i : ℕ). locals_end i rest ≤ total) (sym l3) end)
    ∙ ap (λ (ys : List ℕ). Ok (partly p f limit ys (total - length ys))) whole))))

-- a new frame

abbrev value_in : StackState → Result StackState FlowStop → StackState
value_in s (Ok t) = t
value_in s (Err e) = s

abbrev IsEntered : Result StackState StackFault → Type 0
IsEntered (Ok x) = Unit {0}
IsEntered (Err e) = ⊥

abbrev state_or : StackState → Result StackState StackFault → StackState
state_or s (Ok t) = t
state_or s (Err e) = s

pub entered_in : (b : Bool) (s x t : StackState) → cond b (Ok x) (Err Overflow) ≡ Ok t → t ≡ x
entered_in true s x t h = sym (ap (λ (r : Result StackState StackFault). state_or s r) h)
entered_in false s x t h = absurd (subst IsEntered (sym h) tt)

pub entered_is : (s t : StackState) (format : List ℕ) → entered s format ≡ Ok t
    → t ≡ with_frame s (fresh_frame format)
entered_is s t format h =
    entered_in (nat_le (length s.bytes + frame_len_of format) s.limit) s
    (with_frame s (fresh_frame format)) t h

-- what stands before the locals of a new frame
abbrev below_locals : List ℕ → List ℕ → List ℕ
below_locals bytes format = bytes ++ (frame_head format ++ replicate (padding_len format) 0)

head_seam : (low a b f z : List ℕ) → low ++ ((a ++ b ++ f) ++ z) ≡ low ++ (a ++ (b ++ (f ++ z)))
head_seam low a b f z = simp append_assoc refl

base_is : (bytes format : List ℕ) → frame_len_of format ≤ 1048576
    → Base (below_locals bytes format) (length bytes) (locals_len format)
base_is bytes format small =
    let a = big_bytes 4 (frame_len_of format) in
    let b = big_bytes 4 (locals_pos_of format) in
    let z : List ℕ = replicate (padding_len format) 0 in
    let whole = head_seam bytes a b format z in
    let first : number 4 (below_locals bytes format) (length bytes) ≡ frame_len_of format =
    ap (λ (xs : List ℕ). number 4 xs (length bytes)) whole
    ∙ first_word bytes a (b ++ (format ++ z)) (frame_len_of format) refl (omega (arith, small)) in
    let second : number 4 (below_locals bytes format) (length bytes + 4) ≡ locals_pos_of format =
    ap (λ (xs : List ℕ). number 4 xs (length bytes + 4)) whole
    ∙ second_word bytes a b (format ++ z) (locals_pos_of format)
    (length_word 4 (frame_len_of format)) refl (omega (arith, small)) in
    let h = length_head format in
    let l = length-append bytes (frame_head format ++ z) in
    let m = length-append (frame_head format) z in
    let r = length-replicate {A = ℕ} (padding_len format) 0 in
    let u = head_then_padding format in
    record {
      low = omega (arith, h, l, m, r);
      pos = omega (arith, second, h, l, m, r, u);
      len = omega (arith, first, second);
    }

-- the locals of a new frame get arguments
sets_are : (s : StackState) (format args : List ℕ) → IsFormat format
    → frame_len_of format ≤ 1048576
    → locals_set (with_frame s (fresh_frame format)) 0 format args
    ≡ Ok (with_frame s (frame_with format (locals_of 0 format args)))
sets_are s format args is small =
    let p = below_locals s.bytes format in
    let f = length s.bytes in
    let total = locals_len format in
    let x = locals_of 0 format args in
    let fresh : with_frame s (fresh_frame format) ≡ partly p f s.limit [] total =
    ap (λ (b : List ℕ). record { bytes = b; frame = f; limit = s.limit })
    (sym (append_assoc s.bytes (frame_head format ++ replicate (padding_len format) 0)
    (replicate total 0))) in
    ap (λ (v : StackState). locals_set v 0 format args) fresh
    ∙ (set_is p f s.limit total format [] args total (base_is s.bytes format small) (omega arith) is
    (align_up (locals_end 0 format))
    ∙ ap (λ (v : StackState). Ok v)
    (ap (λ (b : List ℕ). record { bytes = b; frame = f; limit = s.limit })
    (append_assoc s.bytes (frame_head format ++ replicate (padding_len format) 0)
    (x ++ replicate (total - length x) 0))))

pub locals_are : (s t u : StackState) (format args : List ℕ) → IsFormat format
    → frame_len_of format ≤ 1048576 → entered s format ≡ Ok t
    → locals_set t 0 format args ≡ Ok u
    → u ≡ with_frame s (frame_with format (locals_of 0 format args))
locals_are s t u format args is small enters sets =
    ap (λ (r : Result StackState FlowStop). value_in s r)
    (sym sets
    ∙ (ap (λ (v : StackState). locals_set v 0 format args) (entered_is s t format enters)
    ∙ sets_are s format args is small))

-- a C1 gets its arguments

given_locals : (kind : ℕ) (s : StackState) (format args : List ℕ) → kind ≡ 193
    → arguments_given kind s format args ≡ locals_set s 0 format args
given_locals kind s format args e = rw e refl

pub c1_begun : (s t u : StackState) (kind : ℕ) (format args : List ℕ) → IsFormat format
    → frame_len_of format ≤ 1048576 → entered s format ≡ Ok t
    → arguments_given kind t format args ≡ Ok u → kind ≡ 193
    → u ≡ with_frame s (frame_with format (locals_of 0 format args))
c1_begun s t u kind format args is small enters gives c1 =
    locals_are s t u format args is small enters (sym (given_locals kind t format args c1) ∙ gives)

-- a frame whose locals all have four bytes

some_words : (format args : List ℕ) (n : ℕ) → format ≡ 4 ∷ n ∷ 0 ∷ 0 ∷ []
    → words (filled_to n args) ≡ locals_of 0 format args
    ++ replicate (locals_len format - length (locals_of 0 format args)) 0
some_words format args n e =
    let w = words (filled_to n args) in
    let x = locals_of 0 (4 ∷ n ∷ 0 ∷ 0 ∷ []) args in
    let same : x ≡ w = append-nil w in
    let long = ap (λ (xs : List ℕ). length xs) same in
    let size = length_filled n args in
    let all = some_len n in
    let none : locals_len (4 ∷ n ∷ 0 ∷ 0 ∷ []) - length x ≡ 0 = omega (arith, long, size, all) in
    rw e
    (sym (ap (λ (k : ℕ). x ++ replicate k 0) none ∙ (append-nil x ∙ same)))

plain_words : (format args : List ℕ) → IsPlain format
    → words (filled_to (slice_index format 1) args) ≡ locals_of 0 format args
    ++ replicate (locals_len format - length (locals_of 0 format args)) 0
plain_words format args (inl e) = rw e refl
plain_words format args (inr e) = some_words format args (slice_index format 1) e

pub plain_frame : (s u : StackState) (format args : List ℕ) → IsPlain format
    → u ≡ with_frame s (frame_of_words format (filled_to (slice_index format 1) args))
    → u ≡ with_frame s (frame_with format (locals_of 0 format args))
plain_frame s u format args plain e =
    e ∙ ap (λ (xs : List ℕ). with_frame s (frame_head format ++ replicate (padding_len format) 0 ++ xs))
    (plain_words format args plain)

-- a C1 begins with that frame
pub c1_begins : (s u : StackState) (kind at : ℕ) (format args : List ℕ) → IsFormat format
    → frame_len_of format ≤ 1048576 → length s.bytes + frame_len_of format ≤ s.limit → kind ≡ 193
    → u ≡ with_frame s (frame_with format (locals_of 0 format args))
    → and_then {B = StackState × ℕ} (from_stack (entered s format)) (λ t.
    and_then {B = StackState × ℕ} (arguments_given kind t format args) (λ v. Ok (v, at + 1 + length format)))
    ≡ Ok (u, at + 1 + length format)
c1_begins s u kind at format args is small room c1 e =
    let t = with_frame s (fresh_frame format) in
    let enters : entered s format ≡ Ok t =
    rw (le-leb (length s.bytes + frame_len_of format) s.limit room) refl in
    ap (λ (r : Result StackState StackFault). and_then {B = StackState × ℕ} (from_stack r) (λ t.
    and_then {B = StackState × ℕ} (arguments_given kind t format args) (λ v. Ok (v, at + 1 + length format)))) enters
    ∙ (ap (λ (r : Result StackState FlowStop). and_then {B = StackState × ℕ} r
    (λ v. Ok (v, at + 1 + length format)))
    (given_locals kind t format args c1 ∙ sets_are s format args is small)
    ∙ ap (λ (v : StackState). Ok (v, at + 1 + length format)) (sym e))
