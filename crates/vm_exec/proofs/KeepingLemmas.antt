-- What is kept of a machine: what memory has of its image, and the greatest size of the stack.
use Rattle.std.proofs.Common.{◌≡◌, ◌≤◌, refl, arith, length-append, ℕ, zero, suc, ◌+◌, ◌-◌, ◌*◌}
use Rattle.std.proofs.Common.{◌%◌, ◌==◌, ◌||◌, ◌&&◌, nat_le, Bool, true, false, List, [], ◌∷◌, ◌++◌}
use Rattle.std.proofs.Common.{length, take, drop, Result, Ok, Err, cond}
use Rattle.std.specs.Prelude.{All, IfOk, IsTrue}
use Rattle.std.proofs.lemmas.Bool.Decides.{nat_tests}
use Rattle.std.specs.Int.{bytes_high_first}
use Rattle.vm_memory.specs.Chaining.{◌>>=◌}
use Rattle.vm_memory.specs.Access.{read, written}
use Rattle.vm_memory.specs.Fault.{coded}
use Rattle.vm_memory.specs.MemoryMap.{MemoryMap, Origin, origin_of}
use Rattle.vm_memory.specs.declared.fault.MemFault.{MemFault}
use Rattle.vm_stack.specs.StackState.{StackState, value_bytes, frame_len, locals_pos}
use Rattle.vm_stack.specs.Frame.{aligned, cut_to, frame_len_of, frame_left}
use Rattle.vm_stack.specs.Locals.{local_set}
use Rattle.vm_stack.specs.Stub.{stub_taken}
use Rattle.vm_stack.specs.Token.{ends_stub}
use Rattle.vm_stack.specs.Values.{appended, popped, pushed}
use Rattle.vm_stack.specs.declared.fault.StackFault.{StackFault}
use Rattle.vm_stack.specs.declared.fault.StackFault.TheVariants.{Overflow}
use Rattle.vm_flow.specs.Answer.{from_memory, from_stack}
use Rattle.vm_flow.specs.Call.{all_pushed, function_called, arguments_given, locals_set, pair_set}
use Rattle.vm_flow.specs.Function.{format_in}
use Rattle.vm_flow.specs.Return.{given_back}
use Rattle.vm_flow.specs.Throw.{thrown, thrown_in}
use Rattle.vm_flow.specs.declared.stop.FlowStop.{FlowStop}
use Rattle.vm_undo.specs.declared.saved.Saved.{Saved}
use Rattle.vm_exec.specs.Fault.{flowed, stacked}
use Rattle.vm_exec.specs.Machine.{IsWithin}
use Rattle.vm_exec.specs.Rules.{Rule}
use Rattle.vm_exec.specs.declared.machine.Machine.{Machine}

-- what no opcode changes beside memory and stack
pub record Fixed : Type 0 where
  pub verified : ℕ
  pub start_function : ℕ
  pub first_table : ℕ
  pub seed : ℕ

abbrev pub fixed_of : Machine → Fixed
fixed_of m = record {
  verified = m.verified;
  start_function = m.start_function;
  first_table = m.first_table;
  seed = m.random.seed;
}

-- what is kept, and whether the machine is known to be within its limits
pub record Base : Type 0 where
  pub origin : Origin
  pub limit : ℕ
  pub fixed : Fixed
  pub bounded : Bool

-- memory of this image, a saved state of it, and a stack of this greatest size
abbrev pub Lies : Origin → MemoryMap → Type 0
Lies i m = i ≡ origin_of m

abbrev pub SavedOver : Origin → Saved → Type 0
SavedOver i s = Lies i s.memory

abbrev pub Has : ℕ → StackState → Type 0
Has n s = n ≡ s.limit

abbrev pub HasFirst : {A : Type 0} → ℕ → StackState × A → Type 0
HasFirst n p = Has n p.0

-- the image's part of memory, the stack's size, and the image of each state that undo keeps
pub record Kept (o : Base) (image : Origin) (size : ℕ) (states : List Saved) (own : Fixed)
    (mode : ℕ) : Type 0 where
  pub memory : o.origin ≡ image
  pub limit : o.limit ≡ size
  pub undo : All (SavedOver o.origin) states
  pub fixed : o.fixed ≡ own
  pub within : IsTrue o.bounded → IsWithin o.limit mode states

-- of a machine; any other part of it may change
abbrev pub Over : Base → Machine → Type 0
Over o m = Kept o (origin_of m.memory) m.stack.limit m.undo.states (fixed_of m) m.mode

abbrev pub OverFirst : {A : Type 0} → Base → Machine × A → Type 0
OverFirst o p = Over o p.0

-- what is true of a result that is no fault
pub record Gives {A E : Type 0} (r : Result A E) (P : A → Type 0) : Type 0 where
  pub holds : IfOk r P

-- a rule keeps it
abbrev pub RuleOver : Base → Rule → Type 0
RuleOver o r = Gives r (OverFirst o)

pub ok-done : {A E : Type 0} {P : A → Type 0} {x : A} → P x → Gives {E = E} (Ok x) P
ok-done h = record { holds = h }

pub ok-fault : {A E : Type 0} {P : A → Type 0} {e : E} → Gives {A = A} (Err e) P
ok-fault = record { holds = tt }

pub ok-bind : {A B E : Type 0} {P : A → Type 0} {Q : B → Type 0} {r : Result A E}
    {f : A → Result B E}
    → Gives r P → ((x : A) → P x → Gives (f x) Q) → Gives (r >>= f) Q
ok-bind {r = Ok x} h k = k x h.holds
ok-bind {r = Err e} h k = ok-fault

pub ok-then : {A B E : Type 0} {Q : B → Type 0} {f : A → Result B E} (r : Result A E)
    → ((x : A) → Gives (f x) Q) → Gives (r >>= f) Q
ok-then (Ok x) k = k x
ok-then (Err e) k = ok-fault

pub ok-if : {A E : Type 0} {P : A → Type 0} {x y : Result A E} (b : Bool)
    → Gives x P → Gives y P → Gives (cond b x y) P
ok-if true h k = h
ok-if false h k = k

pub ok-both : {A E : Type 0} {P Q : A → Type 0} {r : Result A E}
    → Gives r P → Gives r Q → Gives r (λ x. P x × Q x)
ok-both {r = Ok x} h k = ok-done (h.holds, k.holds)
ok-both {r = Err e} h k = ok-fault

pub ok-coded : {A : Type 0} {P : A → Type 0} {r : Result A MemFault}
    → Gives r P → Gives (coded r) P
ok-coded {r = Ok x} h = ok-done h.holds
ok-coded {r = Err e} h = ok-fault

pub ok-stacked : {A : Type 0} {P : A → Type 0} {r : Result A StackFault}
    → Gives r P → Gives (stacked r) P
ok-stacked {r = Ok x} h = ok-done h.holds
ok-stacked {r = Err e} h = ok-fault

pub ok-flowed : {A : Type 0} {P : A → Type 0} {r : Result A FlowStop}
    → Gives r P → Gives (flowed r) P
ok-flowed {r = Ok x} h = ok-done h.holds
ok-flowed {r = Err e} h = ok-fault

ok-from_stack : {A : Type 0} {P : A → Type 0} {r : Result A StackFault}
    → Gives r P → Gives (from_stack r) P
ok-from_stack {r = Ok x} h = ok-done h.holds
ok-from_stack {r = Err e} h = ok-fault

-- another stack, another memory, another I/O system, and other states that undo keeps
pub on_stack : {o : Base} {i : Origin} {n size mode : ℕ} {us : List Saved} {f : Fixed}
    → Kept o i n us f mode → o.limit ≡ size → Kept o i size us f mode
on_stack k h =
    record { memory = k.memory; limit = h; undo = k.undo; fixed = k.fixed; within = k.within }

pub in_memory : {o : Base} {i new : Origin} {n mode : ℕ} {us : List Saved} {f : Fixed}
    → Kept o i n us f mode → o.origin ≡ new → Kept o new n us f mode
in_memory k h =
    record { memory = h; limit = k.limit; undo = k.undo; fixed = k.fixed; within = k.within }

pub keeping : {o : Base} {i : Origin} {n mode : ℕ} {us new : List Saved} {f : Fixed}
    → Kept o i n us f mode → All (SavedOver o.origin) new
    → (IsTrue o.bounded → IsWithin o.limit mode new)
    → Kept o i n new f mode
keeping k h w =
    record { memory = k.memory; limit = k.limit; undo = h; fixed = k.fixed; within = w }

pub in_mode : {o : Base} {i : Origin} {n mode new : ℕ} {us : List Saved} {f : Fixed}
    → Kept o i n us f mode → new ≤ 2 → Kept o i n us f new
in_mode k h = record {
  memory = k.memory;
  limit = k.limit;
  undo = k.undo;
  fixed = k.fixed;
  within = λ t. record { system = h; limits = (k.within t).limits; held = (k.within t).held };
}

-- ---- memory and stack

pub lies-written : {i : Origin} (w : ℕ) (m : MemoryMap) (at x : ℕ)
    → Lies i m → Gives (written w m at x) (Lies i)
lies-written w m at x h =
    ok-if (nat_le m.ramstart at && nat_le (at + w) (length m.bytes)) (ok-done h) ok-fault

pub has-appended : {n : ℕ} (s : StackState) (new : List ℕ)
    → Has n s → Gives (appended s new) (Has n)
has-appended s new h =
    ok-if (nat_le (length s.bytes + length new) s.limit) (ok-done h) ok-fault

-- bytes were put on top, so there was room for them
pub appended-within : {n : ℕ} (s : StackState) (new : List ℕ)
    → Has n s → Gives (appended s new) (λ t. length t.bytes ≤ n)
appended-within {n} s new h = fits (nat_le (length s.bytes + length new) s.limit) refl
  where
    fits : (b : Bool) → nat_le (length s.bytes + length new) s.limit ≡ b
        → Gives (cond b (Ok (record s { bytes = s.bytes ++ new })) (Err Overflow))
        (λ t. length t.bytes ≤ n)
    fits true e =
        let l = length-append s.bytes new in
        let room : length s.bytes + length new ≤ s.limit = grind (arith, nat_tests, e) in
        ok-done (omega (arith, l, room, h))
    fits false e = ok-fault

pub has-pushed : {n : ℕ} (s : StackState) (x : ℕ) → Has n s → Gives (pushed s x) (Has n)
has-pushed s x h = has-appended s (bytes_high_first 4 x) h

pub has-popped : {n : ℕ} (s : StackState) → Has n s → Gives (popped s) (HasFirst n)
has-popped s h = ok-if (nat_le 4 (value_bytes s)) (ok-done h) ok-fault

pub has-stub_taken : {n : ℕ} (s : StackState) → Has n s → Gives (stub_taken s) (HasFirst n)
has-stub_taken s h = ok-if (nat_le 16 (value_bytes s)) (ok-done h) ok-fault

pub has-local_set : {n : ℕ} (s : StackState) (offset w x : ℕ)
    → Has n s → Gives (local_set s offset w x) (Has n)
has-local_set s offset w x h =
    ok-if (nat_le (offset + w) (frame_len s - locals_pos s)) (ok-done h) ok-fault

has-cut_to : {n : ℕ} (s : StackState) (to : ℕ) → Has n s → Gives (cut_to s to) (Has n)
has-cut_to s to h =
    ok-if (nat_le to (length s.bytes)) (ok-if (to % 4 == 0) (ok-done h) ok-fault) ok-fault

-- ---- calls, returns and throws

has-pair_set : {n : ℕ} (xs : List ℕ) (s : StackState) (at size : ℕ)
    → Has n s → Gives (pair_set s at size xs) (Has n)
has-pair_set [] s at size h = ok-done h
has-pair_set (x ∷ xs) s at size h =
    ok-bind (ok-from_stack (has-local_set s at size x h)) (λ t. has-pair_set xs t (at + size) size)

has-locals_set : {n : ℕ} (format : List ℕ) (s : StackState) (at : ℕ) (args : List ℕ)
    → Has n s → Gives (locals_set s at format args) (Has n)
has-locals_set [] s at args h = ok-done h
has-locals_set (size ∷ []) s at args h = ok-done h
has-locals_set (size ∷ count ∷ rest) s at args h =
    ok-if (size == 0) (ok-done h)
    (ok-bind (has-pair_set (take count args) s (aligned size at) size h)
    (λ t. has-locals_set rest t (aligned size at + size * count) (drop count args)))

has-all_pushed : {n : ℕ} (xs : List ℕ) (s : StackState) → Has n s → Gives (all_pushed s xs) (Has n)
has-all_pushed [] s h = ok-done h
has-all_pushed (x ∷ xs) s h =
    ok-bind (has-all_pushed xs s h) (λ t k. ok-from_stack (has-pushed t x k))

has-given : {n : ℕ} (kind : ℕ) (s : StackState) (format args : List ℕ)
    → Has n s → Gives (arguments_given kind s format args) (Has n)
has-given kind s format args h =
    ok-if (kind == 193) (has-locals_set format s 0 args h)
    (ok-bind (has-all_pushed args s h) (λ t k. ok-from_stack (has-pushed t (length args) k)))

pub has-called : {n : ℕ} (m : MemoryMap) (s : StackState) (at : ℕ) (args : List ℕ)
    → Has n s → Gives (function_called m s at args) (HasFirst n)
has-called m s at args h =
    ok-then (from_memory (read 1 m at))
    (λ kind. ok-if (kind == 192 || kind == 193)
    (ok-then (format_in at (at + 1) (drop (at + 1) m.bytes))
    (λ format. ok-bind
    (ok-from_stack
    (ok-if (nat_le (length s.bytes + frame_len_of format) s.limit) (ok-done h) ok-fault))
    (λ t k. ok-bind (has-given kind t format args k) (λ u e. ok-done e))))
    ok-fault)

pub has-given_back : {n : ℕ} (s : StackState) → Has n s → Gives (given_back s) (HasFirst n)
has-given_back s h =
    ok-if (length (frame_left s).bytes == 0) (ok-done h)
    (ok-bind (ok-from_stack (has-stub_taken (frame_left s) h)) (λ x k. ok-done k))

has-thrown_in : {n : ℕ} (steps : ℕ) (s : StackState) (token : ℕ)
    → Has n s → Gives (thrown_in steps s token) (HasFirst n)
has-thrown_in zero s token h = ok-fault
has-thrown_in (suc steps) s token h =
    ok-if (ends_stub s token)
    (ok-bind (ok-from_stack (has-cut_to s token h)) (λ t k. ok-from_stack (has-stub_taken t k)))
    (has-thrown_in steps (frame_left s) token h)

pub has-thrown : {n : ℕ} (s : StackState) (token : ℕ)
    → Has n s → Gives (thrown s token) (HasFirst n)
has-thrown s token h = has-thrown_in (length s.bytes) s token h
