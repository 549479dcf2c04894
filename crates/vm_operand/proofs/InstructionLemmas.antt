-- Modes read two at a time, and operands read one after the other.
use Rattle.std.proofs.Common.{◌≡◌, refl, sym, ◌∙◌, ap, ℕ, ◌+◌, ◌<◌, ◌≤◌, ◌%◌, ◌/◌, List, [], ◌∷◌}
use Rattle.std.proofs.Common.{◌++◌, length, take, drop, Result, Ok, Err, IfErr, IsErrAnd, rules}
use Rattle.std.proofs.Common.{drop-cons, add-one, append_assoc, append-nil}
use Rattle.std.proofs.Math.ListN.{get_or, set, drop_of_length-le}
use Rattle.std.proofs.lemmas.Grind.{common_steps, take-set_at}
use Rattle.std.proofs.Common.{arith}
use Rattle.vm_memory.specs.Chaining.{◌>>=◌}
use Rattle.vm_memory.specs.MemoryMap.{MemoryMap}
use Rattle.vm_memory.specs.Access.{read}
use Rattle.vm_memory.specs.declared.fault.MemFault.{MemFault}
use Rattle.vm_operand.specs.Instruction.{modes_at, operand, operands}
use Rattle.vm_operand.specs.Opcode.{loads_in, stores_in}
use Rattle.vm_operand.specs.declared.instruction.Instr.{Instr}
use Rattle.vm_operand.specs.declared.mode.Mode.TheVariants.{Zero}
use Rattle.vm_operand.specs.Mode.{mode_of}
use Rattle.vm_operand.specs.declared.operand.Kind.{Kind}
use Rattle.vm_operand.specs.declared.operand.Kind.TheVariants.{Load, Store}
use Rattle.vm_operand.specs.declared.mode.Mode.{Mode}
use Rattle.vm_operand.specs.declared.fault.OpFault.{OpFault}
use Rattle.vm_operand.specs.declared.fault.OpFault.TheVariants.{Read}

-- the modes that were read before, and then these
abbrev pub after : List Mode → Result (List Mode) OpFault → Result (List Mode) OpFault
after before (Ok rest) = Ok (before ++ rest)
after before (Err f) = Err f

pub after-after : (xs ys : List Mode) (r : Result (List Mode) OpFault)
    → after xs (after ys r) ≡ after (xs ++ ys) r
after-after xs ys (Ok zs) = ap Ok (sym (append_assoc xs ys zs))
after-after xs ys (Err f) = refl

-- what is left of a list at a place before its end
pub left_one : (ks : List Kind) (i : ℕ) → i < length ks
    → drop i ks ≡ get_or ks i Load ∷ drop (i + 1) ks
left_one ks i h = rw (add-one, drop-cons ks i Load) refl

-- the same with two places before the end, or with one
pub left_two : (ks : List Kind) (i : ℕ) → i + 1 < length ks
    → drop i ks ≡ get_or ks i Load ∷ get_or ks (i + 1) Load ∷ drop (i + 2) ks
left_two ks i h = search (rules, left_one)

nothing_left : (ks : List Kind) (i : ℕ) → length ks ≤ i → drop i ks ≡ []
nothing_left ks i h = drop_of_length-le ks h

-- the byte can't be read
no_byte : (m : MemoryMap) (p : ℕ) (k : Kind) (ks : List Kind) (f : MemFault) → read 1 m p ≡ Err f
    → modes_at m p (k ∷ ks) ≡ Err (Read f)
unfolding modes_at
no_byte m p k [] f e = rw e refl
no_byte m p k (k' ∷ ks) f e = rw e refl

pub modes_at-no_byte : (m : MemoryMap) (p i : ℕ) (ks : List Kind) (f : MemFault) → i < length ks
    → read 1 m p ≡ Err f → modes_at m p (drop i ks) ≡ Err (Read f)
modes_at-no_byte m p i ks f h e = ap (modes_at m p) (left_one ks i h) ∙ no_byte m p _ _ f e

-- the low half is no mode of the operand
no_low : (m : MemoryMap) (p byte : ℕ) (k : Kind) (ks : List Kind) (f : OpFault)
    → read 1 m p ≡ Ok byte → mode_of k (byte % 16) ≡ Err f → modes_at m p (k ∷ ks) ≡ Err f
unfolding modes_at
no_low m p byte k [] f e g = rw e (rw g refl)
no_low m p byte k (k' ∷ ks) f e g = rw e (rw g refl)

pub modes_at-no_low : (m : MemoryMap) (p i byte : ℕ) (ks : List Kind) (f : OpFault) → i < length ks
    → read 1 m p ≡ Ok byte → mode_of (get_or ks i Load) (byte % 16) ≡ Err f
    → modes_at m p (drop i ks) ≡ Err f
modes_at-no_low m p i byte ks f h e g =
    ap (modes_at m p) (left_one ks i h) ∙ no_low m p byte _ _ f e g

-- the high half is none of the next
no_high : (m : MemoryMap) (p byte : ℕ) (k k' : Kind) (ks : List Kind) (low : Mode) (f : OpFault)
    → read 1 m p ≡ Ok byte → mode_of k (byte % 16) ≡ Ok low → mode_of k' (byte / 16) ≡ Err f
    → modes_at m p (k ∷ k' ∷ ks) ≡ Err f
unfolding modes_at
no_high m p byte k k' ks low f e g h = rw e (rw g (rw h refl))

pub modes_at-no_high : (m : MemoryMap) (p i byte : ℕ) (ks : List Kind) (low : Mode) (f : OpFault)
    → i + 1 < length ks → read 1 m p ≡ Ok byte → mode_of (get_or ks i Load) (byte % 16) ≡ Ok low
    → mode_of (get_or ks (i + 1) Load) (byte / 16) ≡ Err f → modes_at m p (drop i ks) ≡ Err f
modes_at-no_high m p i byte ks low f h e g g' =
    ap (modes_at m p) (left_two ks i h) ∙ no_high m p byte _ _ _ low f e g g'

in_front : (low high : Mode) (r : Result (List Mode) OpFault)
    → (r >>= (λ xs. Ok (low ∷ high ∷ xs))) ≡ after (low ∷ high ∷ []) r
in_front low high (Ok xs) = refl
in_front low high (Err f) = refl

-- two modes, and then the rest
pub two_modes : (m : MemoryMap) (p byte : ℕ) (k k' : Kind) (ks : List Kind) (low high : Mode)
    → read 1 m p ≡ Ok byte → mode_of k (byte % 16) ≡ Ok low → mode_of k' (byte / 16) ≡ Ok high
    → modes_at m p (k ∷ k' ∷ ks) ≡ after (low ∷ high ∷ []) (modes_at m (p + 1) ks)
unfolding modes_at
two_modes m p byte k k' ks low high e g h =
    rw e (rw g (rw h (in_front low high (modes_at m (p + 1) ks))))

pub modes_at-two : (m : MemoryMap) (p i byte : ℕ) (ks : List Kind) (low high : Mode)
    → i + 1 < length ks → read 1 m p ≡ Ok byte → mode_of (get_or ks i Load) (byte % 16) ≡ Ok low
    → mode_of (get_or ks (i + 1) Load) (byte / 16) ≡ Ok high
    → modes_at m p (drop i ks) ≡ after (low ∷ high ∷ []) (modes_at m (p + 1) (drop (i + 2) ks))
modes_at-two m p i byte ks low high h e g g' =
    ap (modes_at m p) (left_two ks i h) ∙ two_modes m p byte _ _ _ low high e g g'

-- the last mode of an odd number
pub last_mode : (m : MemoryMap) (p byte : ℕ) (k : Kind) (low : Mode) → read 1 m p ≡ Ok byte
    → mode_of k (byte % 16) ≡ Ok low → modes_at m p (k ∷ []) ≡ Ok (low ∷ [])
unfolding modes_at
last_mode m p byte k low e g = rw e (rw g refl)

pub modes_at-last : (m : MemoryMap) (p i byte : ℕ) (ks : List Kind) (low : Mode) → i + 1 ≡ length ks
    → read 1 m p ≡ Ok byte → mode_of (get_or ks i Load) (byte % 16) ≡ Ok low
    → modes_at m p (drop i ks) ≡ Ok (low ∷ [])
modes_at-last m p i byte ks low h e g =
    ap (modes_at m p) (left_one ks i (omega arith)
    ∙ ap (λ xs. get_or ks i Load ∷ xs) (nothing_left ks (i + 1) (omega arith)))
    ∙ last_mode m p byte _ low e g

pub modes_at-none : (m : MemoryMap) (p i : ℕ) (ks : List Kind) → length ks ≤ i
    → modes_at m p (drop i ks) ≡ Ok []
unfolding modes_at
modes_at-none m p i ks h = rw (nothing_left ks i h) refl

-- a fault behind modes that were read is the fault of all
pub stops : {whole rest : Result (List Mode) OpFault} {f : OpFault} (before : List Mode)
    → whole ≡ after before rest → rest ≡ Err f → whole ≡ Err f
stops before h e = h ∙ ap (after before) e

-- the answer of a call that hands on a fault
pub handed_on : {A B : Type 0} {whole : Result B OpFault} {f : OpFault} (r : Result A OpFault)
    → IsErrAnd r (λ g. g ≡ f) → whole ≡ Err f → IfErr r (λ g. whole ≡ Err g)
handed_on (Ok x) h e = tt
handed_on (Err g) h e = e ∙ ap Err (sym h)

-- the places before i + 2 once these two are set
pub take-two : (xs : List Mode) (i : ℕ) (x y : Mode) → i + 1 < length xs
    → take (i + 2) (set (set xs i x) (i + 1) y) ≡ take i xs ++ x ∷ y ∷ []
take-two xs i x y h = grind (arith, common_steps)

-- a step of the loop
pub sofar_two : {whole : Result (List Mode) OpFault} (before : List Mode)
    (left rest : Result (List Mode) OpFault) (x y : Mode) (more : List Mode)
    → whole ≡ after before left → left ≡ after (x ∷ y ∷ []) rest → more ≡ before ++ x ∷ y ∷ []
    → whole ≡ after more rest
sofar_two before left rest x y more h e s =
    h ∙ ap (after before) e ∙ after-after before (x ∷ y ∷ []) rest
    ∙ ap (λ xs. after xs rest) (sym s)

-- the end of the loop with one place more, or none
pub whole_last : {whole left : Result (List Mode) OpFault} (modes : List Mode) (i n : ℕ) (x : Mode)
    → n ≡ i + 1 → i < length modes → whole ≡ after (take i modes) left → left ≡ Ok (x ∷ [])
    → whole ≡ Ok (take n (set modes i x))
whole_last modes i n x e h s l =
    s ∙ ap (after (take i modes)) l ∙ ap Ok (sym (take-set_at modes i n x e h))

pub whole_none : {whole left : Result (List Mode) OpFault} (modes : List Mode) (i n : ℕ) → n ≡ i
    → whole ≡ after (take i modes) left → left ≡ Ok [] → whole ≡ Ok (take n modes)
whole_none modes i n e s l =
    s ∙ ap (after (take i modes)) l
    ∙ ap Ok (append-nil (take i modes) ∙ ap (λ k. take k modes) (sym e))

left_mode : (ms : List Mode) (i : ℕ) → i < length ms
    → drop i ms ≡ get_or ms i Zero ∷ drop (i + 1) ms
left_mode ms i h = rw (add-one, drop-cons ms i Zero) refl

pub first_operand : (m : MemoryMap) (k : Kind) (ks : List Kind) (x : Mode) (ms : List Mode)
    (s more : Instr) → operand m k x s ≡ Ok more
    → operands m (k ∷ ks) (x ∷ ms) s ≡ operands m ks ms more
unfolding operands
first_operand m k ks x ms s more e = rw e refl

no_operand : (m : MemoryMap) (k : Kind) (ks : List Kind) (x : Mode) (ms : List Mode) (s : Instr)
    (f : OpFault) → operand m k x s ≡ Err f → operands m (k ∷ ks) (x ∷ ms) s ≡ Err f
unfolding operands
no_operand m k ks x ms s f e = rw e refl

both_left : {A : Type 0} (f : List Kind → List Mode → A) (ks : List Kind) (ms : List Mode) (i : ℕ)
    → i < length ks → i < length ms
    → f (drop i ks) (drop i ms) ≡ f (get_or ks i Load ∷ drop (i + 1) ks)
    (get_or ms i Zero ∷ drop (i + 1) ms)
both_left f ks ms i h g = ap (λ xs. f xs (drop i ms)) (left_one ks i h)
    ∙ ap (f (get_or ks i Load ∷ drop (i + 1) ks)) (left_mode ms i g)

-- an operand is taken
pub operands-one : (m : MemoryMap) (ks : List Kind) (ms : List Mode) (i : ℕ) (s more : Instr)
    → i < length ks → i < length ms → operand m (get_or ks i Load) (get_or ms i Zero) s ≡ Ok more
    → operands m (drop i ks) (drop i ms) s ≡ operands m (drop (i + 1) ks) (drop (i + 1) ms) more
operands-one m ks ms i s more h g e = both_left (λ xs ys. operands m xs ys s) ks ms i h g
    ∙ first_operand m _ _ _ _ s more e

-- an operand has a fault
pub operands-fault : (m : MemoryMap) (ks : List Kind) (ms : List Mode) (i : ℕ) (s : Instr)
    (f : OpFault) → i < length ks → i < length ms
    → operand m (get_or ks i Load) (get_or ms i Zero) s ≡ Err f
    → operands m (drop i ks) (drop i ms) s ≡ Err f
operands-fault m ks ms i s f h g e = both_left (λ xs ys. operands m xs ys s) ks ms i h g
    ∙ no_operand m _ _ _ _ s f e

-- no operand is left
pub operands-none : (m : MemoryMap) (ks : List Kind) (ms : List Mode) (i : ℕ) (s : Instr)
    → length ks ≤ i → operands m (drop i ks) ms s ≡ Ok s
unfolding operands
operands-none m ks ms i s h = rw (nothing_left ks i h) refl

loads_in-cons : (k : Kind) (ks : List Kind) → loads_in (k ∷ ks) ≡ loads_in (k ∷ []) + loads_in ks
loads_in-cons Load ks = omega arith
loads_in-cons Store ks = omega arith

stores_in-cons : (k : Kind) (ks : List Kind)
    → stores_in (k ∷ ks) ≡ stores_in (k ∷ []) + stores_in ks
stores_in-cons Load ks = omega arith
stores_in-cons Store ks = omega arith

-- the loads and the stores that are left, the next first
pub loads_in-drop : (ks : List Kind) (i : ℕ) → i < length ks
    → loads_in (drop i ks) ≡ loads_in (get_or ks i Load ∷ []) + loads_in (drop (i + 1) ks)
loads_in-drop ks i h = ap loads_in (left_one ks i h) ∙ loads_in-cons _ (drop (i + 1) ks)

pub stores_in-drop : (ks : List Kind) (i : ℕ) → i < length ks
    → stores_in (drop i ks) ≡ stores_in (get_or ks i Load ∷ []) + stores_in (drop (i + 1) ks)
stores_in-drop ks i h = ap stores_in (left_one ks i h) ∙ stores_in-cons _ (drop (i + 1) ks)
