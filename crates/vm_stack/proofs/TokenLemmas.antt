-- What a good token says.
use Rattle.std.proofs.Common.{◌≡◌, ℕ, ◌+◌, ◌-◌, ◌/◌, ◌%◌, ◌≤◌, ◌<◌, true}
use Rattle.std.proofs.Common.{◌&&◌, ◌==◌, nat_le, length, take, arith}
use Rattle.std.proofs.lemmas.List.{length-take-le}
use Rattle.std.proofs.lemmas.Bool.{and_parts, leb-true, eqb-true}
use Rattle.vm_stack.specs.StackState.{StackState, number, frame_len}
use Rattle.vm_stack.specs.Frame.{in_named_frame}
use Rattle.vm_stack.specs.Chain.{Chain}
use Rattle.vm_stack.specs.Token.{ends_stub}
use Rattle.vm_stack.proofs.ChainLemmas.{cut_keeps}

token_parts : (s : StackState) (token : ℕ)
    → ends_stub s token ≡ true
    → (s.frame + frame_len s + 16 ≤ token) × (token ≤ length s.bytes) × (token % 4 ≡ 0)
    × (number 4 s.bytes (token - 4) ≡ s.frame)
token_parts s token e =
    let a = nat_le (s.frame + frame_len s + 16) token in
    let b = nat_le token (length s.bytes) in
    let p = and_parts (a && b && token % 4 == 0) (number 4 s.bytes (token - 4) == s.frame) e in
    let q = and_parts (a && b) (token % 4 == 0) p.0 in
    let r = and_parts a b q.0 in
    (leb-true _ _ r.0, leb-true _ _ r.1, eqb-true _ _ q.1, eqb-true _ _ p.1)

pub token_keeps : (s : StackState) (token : ℕ)
    → ends_stub s token ≡ true → Chain s
    → Chain (in_named_frame s (take token s.bytes))
token_keeps s token e c =
    let p = token_parts s token e in
    let fours = p.2 in
    cut_keeps s token (token / 4) p.0 p.1 (omega (arith, fours)) p.3 c

pub token_there : (s : StackState) (token : ℕ)
    → ends_stub s token ≡ true → 0 < length (take token s.bytes)
token_there s token e =
    let p = token_parts s token e in
    let low = p.0 in
    let size = length-take-le token s.bytes p.1 in
    omega (arith, low, size)
