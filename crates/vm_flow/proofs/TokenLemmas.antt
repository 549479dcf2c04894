-- A throw is refused exactly where no frame of the chain has its token.
use Rattle.std.proofs.Common.{◌≡◌, inl, inr, ℕ, zero, suc, ◌+◌, ◌-◌, ◌*◌, ◌%◌, ◌≤◌, true, false}
use Rattle.std.proofs.Common.{◌==◌, ◌&&◌, nat_le, List, [], ◌∷◌, length, length-append, take, drop}
use Rattle.std.proofs.Common.{refl, arith, Result, Ok, Err, ap, sym, ◌∙◌}
use Rattle.std.proofs.lemmas.Bool.{and_parts, and_from, leb-true, le-leb, eqb-true, eq-eqb}
use Rattle.std.proofs.lemmas.Bool.{cases_Bool}
use Rattle.std.proofs.lemmas.List.{length-take-le, take-append-drop}
use Rattle.vm_stack.specs.StackState.{StackState, number, frame_len, value_bytes}
use Rattle.vm_stack.specs.Frame.{frame_left, cut_to, in_named_frame}
use Rattle.vm_stack.specs.Values.{without_top}
use Rattle.vm_stack.specs.Stub.{stub_at, stub_taken}
use Rattle.vm_stack.specs.declared.fault.StackFault.{StackFault}
use Rattle.vm_stack.proofs.NumberLemmas.{number_within}
use Rattle.vm_stack.proofs.SavedLemmas.{take_within}
use Rattle.vm_flow.specs.Answer.{from_stack, and_then}
use Rattle.vm_stack.specs.Token.{ends_stub}
use Rattle.vm_stack.specs.Chain.{Frame, IsFrame, IsChain, Chain, HasFrame}
use Rattle.vm_stack.specs.Chain.{IsReady, bytes_of_frames, start}
use Rattle.vm_stack.specs.declared.stub.Stub.{Stub}
use Rattle.vm_stack.proofs.FrameLemmas.{before, length_before, frame_len_is, fours_below}
use Rattle.vm_stack.proofs.ChainLemmas.{left_bytes, left_frame, number_before}
use Rattle.vm_flow.specs.Throw.{thrown, thrown_in, stub_taken_at}
use Rattle.vm_flow.specs.Token.{EndsAmong, IsToken, thrown_to}
use Rattle.vm_flow.specs.declared.stop.FlowStop.{FlowStop}
use Rattle.vm_flow.specs.declared.stop.FlowStop.TheVariants as stop
use Rattle.vm_flow.proofs.ThrowLemmas.{thrown_here}

-- what the test says
record Ends (s : StackState) (token : ℕ) : Type 0 where
  low : s.frame + frame_len s + 16 ≤ token
  high : token ≤ length s.bytes
  four : token % 4 ≡ 0
  names : number 4 s.bytes (token - 4) ≡ s.frame

ends_is : (s : StackState) (token : ℕ) → ends_stub s token ≡ true → Ends s token
ends_is s token e =
    let a = nat_le (s.frame + frame_len s + 16) token in
    let b = nat_le token (length s.bytes) in
    let p = and_parts (a && b && token % 4 == 0) (number 4 s.bytes (token - 4) == s.frame) e in
    let q = and_parts (a && b) (token % 4 == 0) p.0 in
    let r = and_parts a b q.0 in
    record {
      low = leb-true _ _ r.0;
      high = leb-true _ _ r.1;
      four = eqb-true _ _ q.1;
      names = eqb-true _ _ p.1;
    }

ends_from : (s : StackState) (token : ℕ) → Ends s token → ends_stub s token ≡ true
ends_from s token e =
    let a = nat_le (s.frame + frame_len s + 16) token in
    let b = nat_le token (length s.bytes) in
    and_from (a && b && token % 4 == 0) (number 4 s.bytes (token - 4) == s.frame)
    (and_from (a && b) (token % 4 == 0) (and_from a b (le-leb _ _ e.low) (le-leb _ _ e.high))
    (eq-eqb _ _ e.four))
    (eq-eqb _ _ e.names)

here_is : (s : StackState) (fr : Frame) (below : List Frame) (token : ℕ) → IsFrame fr
    → s.bytes ≡ bytes_of_frames (fr ∷ below) → s.frame ≡ start (fr ∷ below)
    → Ends s token → EndsAmong fr below token
here_is s fr below token h bytes frame e =
    let len = frame_len_is s fr below h bytes frame in
    let b = length_before fr below h in
    let l = ap length bytes in
    let low = e.low in
    let high = e.high in
    record {
      low = omega (arith, len, b, low, frame);
      high = omega (arith, l, high);
      four = e.four;
      names = ap (λ (xs : List ℕ). number 4 xs (token - 4)) (sym bytes) ∙ (e.names ∙ frame);
    }

among_is : (s : StackState) (fr : Frame) (below : List Frame) (token : ℕ) → IsFrame fr
    → s.bytes ≡ bytes_of_frames (fr ∷ below) → s.frame ≡ start (fr ∷ below)
    → EndsAmong fr below token → Ends s token
among_is s fr below token h bytes frame e =
    let len = frame_len_is s fr below h bytes frame in
    let b = length_before fr below h in
    let l = ap length bytes in
    let low = e.low in
    let high = e.high in
    record {
      low = omega (arith, len, b, low, frame);
      high = omega (arith, l, high);
      four = e.four;
      names = ap (λ (xs : List ℕ). number 4 xs (token - 4)) bytes ∙ (e.names ∙ sym frame);
    }

below_is : (n : ℕ) (s : StackState) (token : ℕ) → ends_stub s token ≡ false
    → thrown_in (suc n) s token ≡ thrown_in n (frame_left s) token
below_is n s token e = rw e refl

bad_in : (frames : List Frame) (n : ℕ) (s : StackState) (token : ℕ) → IsChain frames
    → s.bytes ≡ bytes_of_frames frames → s.frame ≡ start frames
    → (IsToken frames token → ⊥) → thrown_in n s token ≡ Err (stop.BadToken token)
bad_in frames zero s token c bytes frame bad = refl
bad_in [] (suc n) s token c bytes frame bad =
    elim (cases_Bool (ends_stub s token)) [
      | inl e ↦ absurd (let p = ends_is s token e in let low = p.low in let high = p.high in
          let l = ap length bytes in omega (arith, low, high, l))
      | inr e ↦ below_is n s token e ∙ bad_in [] n (frame_left s) token tt (rw (bytes, frame) refl)
          (rw (bytes, frame) refl) bad
    ]
bad_in (fr ∷ below) (suc n) s token c bytes frame bad =
    elim (cases_Bool (ends_stub s token)) [
      | inl e ↦ absurd (bad (inl (here_is s fr below token c.0 bytes frame (ends_is s token e))))
      | inr e ↦
          below_is n s token e
          ∙ bad_in below n (frame_left s) token c.1.1 (left_bytes s fr below bytes frame)
          (left_frame s fr below c.1.0 c.1.1 bytes frame) (λ g. bad (inr g))
    ]

-- a throw to no token is refused
pub refused : (s : StackState) (c : Chain s) (token : ℕ) → (IsToken c.frames token → ⊥)
    → thrown s token ≡ Err (stop.BadToken token)
refused s c token bad = bad_in c.frames (length s.bytes) s token c.linked c.bytes c.frame bad

-- the frame whose values hold the stub that ends at a token, as the current one of what stands
record Reached (n : ℕ) (s : StackState) (token : ℕ) : Type 0 where
  at : StackState
  ends : Ends at token
  limit : at.limit ≡ s.limit
  bytes : take token at.bytes ≡ take token s.bytes
  is : thrown_in n s token ≡ stub_taken_at at token

-- a token is a place of the stack
token_inside : (frames : List Frame) (token : ℕ) → IsChain frames → IsToken frames token
    → token ≤ length (bytes_of_frames frames)
token_inside [] token c good = absurd good
token_inside (fr ∷ below) token c (inl g) = g.high
token_inside (fr ∷ below) token c (inr g) =
    let r = token_inside below token c.1.1 g in
    let b = length_before fr below c.0 in
    let a = length-append (before fr below) fr.values in
    omega (arith, r, b, a)

-- the frames below stand before the current one
take_below : (s : StackState) (fr : Frame) (below : List Frame) (token : ℕ) → IsFrame fr
    → IsChain below → s.bytes ≡ bytes_of_frames (fr ∷ below)
    → s.frame ≡ start (fr ∷ below) → IsToken below token
    → take token (frame_left s).bytes ≡ take token s.bytes
take_below s fr below token h c bytes frame good =
    let r = token_inside below token c good in
    let b = length_before fr below h in
    let a = length-append (before fr below) fr.values in
    let l = ap length bytes in
    take_within s.bytes token s.frame (omega (arith, r, frame)) (omega (arith, frame, l, a, b))

good_in : (frames : List Frame) (n : ℕ) (s : StackState) (token : ℕ) → IsChain frames
    → s.bytes ≡ bytes_of_frames frames → s.frame ≡ start frames
    → length frames ≤ n → IsToken frames token → Reached n s token
good_in [] n s token c bytes frame le good = absurd good
good_in (fr ∷ below) zero s token c bytes frame le good = absurd (omega (arith, le))
good_in (fr ∷ below) (suc n) s token c bytes frame le good =
    elim (cases_Bool (ends_stub s token)) [
      | inl e ↦ record {
        at = s;
        ends = ends_is s token e;
        limit = refl;
        bytes = refl;
        is = thrown_here (suc n) s token (omega arith) e;
      }
      | inr e ↦ elim good [
        | inl g ↦
            let ends = among_is s fr below token c.0 bytes frame g in
            record {
              at = s;
              ends = ends;
              limit = refl;
              bytes = refl;
              is = thrown_here
                  (suc n) s token (omega arith) (ends_from s token ends);
            }
        | inr g ↦
            let r = good_in below n (frame_left s) token c.1.1 (left_bytes s fr below bytes frame)
            (left_frame s fr below c.1.0 c.1.1 bytes frame) (omega (arith, le)) g in
            record {
              at = r.at;
              ends = r.ends;
              limit = r.limit;
              bytes = r.bytes ∙ take_below s fr below token c.0 c.1.1 bytes frame g;
              is = below_is n s token e ∙ r.is;
            }
      ]
    ]

few : (frames : List Frame) → IsChain frames → length frames ≤ length (bytes_of_frames frames)
few [] c = omega arith
few (fr ∷ below) c =
    let r = few below c.1.1 in
    let b = length_before fr below c.0 in
    let a = length-append (before fr below) fr.values in
    omega (arith, r, b, a)

-- a stack that is cut to the end of a stub, and that stub taken

cut_is : (at : StackState) (token : ℕ) → Ends at token
    → cut_to at token ≡ Ok (in_named_frame at (take token at.bytes))
cut_is at token ends = rw (le-leb _ _ ends.high, eq-eqb _ _ ends.four) refl

taken_is : (s : StackState) → 16 ≤ value_bytes s
    → stub_taken s ≡ Ok (
      record
          (without_top s 16) { frame = number 4 s.bytes (length s.bytes - 16 + 12) },
      stub_at s.bytes
          (length s.bytes - 16),
    )
taken_is s le = rw (le-leb _ _ le) refl

-- a frame's length stands before its values
number_kept : (xs : List ℕ) (at token : ℕ) → at + 4 ≤ token → token ≤ length xs
    → number 4 (take token xs) at ≡ number 4 xs at
number_kept xs at token le inside =
    let size = length-take-le token xs inside in
    number_within (take token xs) (drop token xs) at (omega (arith, size, le))
    ∙ ap (λ (ys : List ℕ). number 4 ys at) (take-append-drop token xs)

held_above : (at : StackState) (token : ℕ) → Ends at token
    → 16 ≤ value_bytes (in_named_frame at (take token at.bytes))
held_above at token ends =
    let low = ends.low in
    let size = length-take-le token at.bytes ends.high in
    let frame : number 4 (take token at.bytes) (length (take token at.bytes) - 4) ≡ at.frame =
    ap (λ (k : ℕ). number 4 (take token at.bytes) (k - 4)) size
    ∙ (number_before at.bytes token (omega (arith, low)) ends.high ∙ ends.names) in
    let len : number 4 (take token at.bytes)
    (number 4 (take token at.bytes) (length (take token at.bytes) - 4)) ≡ frame_len at =
    ap (λ (k : ℕ). number 4 (take token at.bytes) k) frame
    ∙ number_kept at.bytes at.frame token (omega (arith, low)) ends.high in
    omega (arith, low, size, frame, len)

stub_is : (a b c d e f g h : ℕ) → a ≡ e → b ≡ f → c ≡ g → d ≡ h
    → ◌≡◌ {A = Stub} (record { kind = a; at = b; pc = c; frame = d })
    (record { kind = e; at = f; pc = g; frame = h })
stub_is a b c d e f g h p q r s = rw (p, q, r, s) refl

stub_kept : (xs : List ℕ) (token : ℕ) → 16 ≤ token → token ≤ length xs
    → stub_at (take token xs) (token - 16) ≡ stub_at xs (token - 16)
stub_kept xs token le inside =
    stub_is _ _ _ _ _ _ _ _
    (number_kept xs (token - 16) token (omega (arith, le)) inside)
    (number_kept xs (token - 16 + 4) token (omega (arith, le)) inside)
    (number_kept xs (token - 16 + 8) token (omega (arith, le)) inside)
    (number_kept xs (token - 16 + 12) token (omega (arith, le)) inside)

pair_is : (a b : List ℕ) (c d e f : ℕ) (x y : Stub) → a ≡ b → c ≡ d → e ≡ f → x ≡ y
    → ◌≡◌ {A = Result (StackState × Stub) FlowStop}
    (Ok (record { bytes = a; frame = c; limit = e }, x))
    (Ok (record { bytes = b; frame = d; limit = f }, y))
pair_is a b c d e f x y p q r t = rw (p, q, r, t) refl

-- what is left, in the words of the stack below
left_of : (xs ys : List ℕ) (token limit m : ℕ) → xs ≡ take token ys → 16 ≤ token → token ≤ length ys
    → limit ≡ m
    → ◌≡◌ {A = Result (StackState × Stub) FlowStop}
    (Ok (
      record {
        bytes = take (length xs - 16) xs;
        frame = number 4 xs
            (length xs - 16 + 12);
        limit = limit;
      },
      stub_at xs (length xs - 16),
    ))
    (Ok (
      record { bytes = take (token - 16) ys; frame = number 4 ys (token - 4); limit = m },
      stub_at ys (token - 16),
    ))
left_of xs ys token limit m e le inside same =
    let size : length xs ≡ token = ap length e ∙ length-take-le token ys inside in
    pair_is _ _ _ _ _ _ _ _
    (rw (size, e) (take_within ys (token - 16) token (omega arith) inside))
    (ap (λ (k : ℕ). number 4 xs (k - 16 + 12)) size
    ∙ (ap (λ (zs : List ℕ). number 4 zs (token - 16 + 12)) e
    ∙ (number_kept ys (token - 16 + 12) token (omega (arith, le)) inside
    ∙ ap (λ (k : ℕ). number 4 ys k) (omega (arith, le)))))
    same
    (ap (λ (k : ℕ). stub_at xs (k - 16)) size
    ∙ (ap (λ (zs : List ℕ). stub_at zs (token - 16)) e ∙ stub_kept ys token le inside))

taken_from : (s at : StackState) (token : ℕ) → Ends at token → at.limit ≡ s.limit
    → take token at.bytes ≡ take token s.bytes
    → token ≤ length s.bytes → stub_taken_at at token ≡ Ok (thrown_to s token)
taken_from s at token ends limit bytes inside =
    let low = ends.low in
    ap (λ (r : Result StackState StackFault). and_then (from_stack r)
    (λ t. from_stack (stub_taken t))) (cut_is at token ends)
    ∙ (ap (λ (r : Result (StackState × Stub) StackFault). from_stack r)
    (taken_is (in_named_frame at (take token at.bytes)) (held_above at token ends))
    ∙ left_of (take token at.bytes) s.bytes token at.limit s.limit bytes
    (omega (arith, low)) inside limit)

-- a throw to a token takes its stub
pub reached : (s : StackState) (c : Chain s) (token : ℕ) → IsToken c.frames token
    → thrown s token ≡ Ok (thrown_to s token)
reached s c token good =
    let f = few c.frames c.linked in
    let l = ap length c.bytes in
    let i = token_inside c.frames token c.linked good in
    let r = good_in c.frames (length s.bytes) s token c.linked c.bytes c.frame
    (omega (arith, f, l)) good in
    r.is ∙ taken_from s r.at token r.ends r.limit r.bytes (omega (arith, i, l))

-- a stub for the current frame on top ends at a token

ready_ends : (s : StackState) (n : ℕ) → length s.bytes ≡ 4 * n → HasFrame s → IsReady s
    → Ends s (length s.bytes)
ready_ends s n fours has (inl none) = absurd (let l = ap length none in omega (arith, l, has))
ready_ends s n fours has (inr ready) =
    let many = ready.0 in
    record {
      low = omega (arith, many);
      high = omega arith;
      four = omega
          (arith, fours);
      names = ready.1;
    }

top_in : (s : StackState) (frames : List Frame) → IsChain frames → s.bytes ≡ bytes_of_frames frames
    → s.frame ≡ start frames → HasFrame s
    → IsReady s → IsToken frames (length s.bytes)
top_in s [] c bytes frame has ready = absurd (let l = ap length bytes in omega (arith, l, has))
top_in s (fr ∷ below) c bytes frame has ready =
    let fours = fours_below (fr ∷ below) c in
    inl (here_is s fr below (length s.bytes) c.0 bytes frame
    (ready_ends s fours.0 (ap length bytes ∙ fours.1) has ready))

pub top_is_token : (s : StackState) (c : Chain s) → HasFrame s → IsReady s
    → IsToken c.frames (length s.bytes)
top_is_token s c has ready = top_in s c.frames c.linked c.bytes c.frame has ready
