-- What opcodes are made of keeps what memory has of its image: loads, stores, calls and texts.
use Rattle.std.proofs.Common.{ℕ, zero, suc, ◌+◌, ◌==◌, ◌||◌, nat_le, nat_lt, Bool, true, false}
use Rattle.std.proofs.Common.{List, [], ◌∷◌, length, Option, Some, None, Result, Ok, cond}
use Rattle.std.proofs.Common.{slice_set, slice_index}
use Rattle.vm_memory.specs.Chaining.{◌>>=◌}
use Rattle.vm_memory.specs.Access.{read}
use Rattle.vm_memory.specs.Fault.{coded}
use Rattle.vm_stack.specs.StackState.{StackState}
use Rattle.vm_stack.specs.Locals.{local}
use Rattle.vm_stack.specs.Stub.{stub_bytes, stub_pushed}
use Rattle.vm_stack.specs.declared.stub.Stub.{Stub}
use Rattle.vm_operand.specs.declared.operand.Load as l
use Rattle.vm_operand.specs.declared.operand.Load.TheVariants as load
use Rattle.vm_operand.specs.declared.operand.Dest as d
use Rattle.vm_operand.specs.declared.operand.Dest.TheVariants as dest
use Rattle.vm_exec.specs.Fault.{stacked}
use Rattle.vm_exec.specs.Rules as rules
use Rattle.vm_exec.specs.Rules.{Rule}
use Rattle.vm_exec.specs.declared.text.Text.TheVariants.{Number}
use Rattle.vm_exec.specs.Number.{number_text}
use Rattle.vm_exec.specs.declared.machine.Machine.{Machine}
use Rattle.vm_memory.specs.Fault as memory
use Rattle.vm_string.specs.Fault as string
use Rattle.vm_string.specs.Next.{piece_after}
use Rattle.vm_string.specs.declared.piece.Cursor.{Cursor}
use Rattle.vm_string.specs.declared.piece.Piece.{Piece}
use Rattle.vm_string.specs.declared.piece.Piece.TheVariants as piece
use Rattle.vm_exec.specs.Rows.Text as texts
use Rattle.vm_exec.specs.TextStub as stubs
use Rattle.vm_exec.proofs.KeepingLemmas.{Base, Gives, Has, HasFirst, Over, OverFirst, RuleOver}
use Rattle.vm_exec.proofs.KeepingLemmas.{has-appended, has-called, has-given_back, has-local_set}
use Rattle.vm_exec.proofs.KeepingLemmas.{has-popped, has-pushed, has-stub_taken, in_memory}
use Rattle.vm_exec.proofs.KeepingLemmas.{lies-written, ok-bind, ok-coded, ok-done, ok-fault}
use Rattle.vm_exec.proofs.KeepingLemmas.{ok-flowed, ok-if, ok-stacked, ok-then, on_stack}

-- ---- loads and stores

over-loaded : {o : Base} (w : ℕ) (m : Machine) (x : l.Load)
    → Over o m → Gives (rules.operand_loaded w m x) (OverFirst o)
over-loaded w m (load.Value x) k = ok-done k
over-loaded w m (load.At a) k = ok-then (coded (read w m.memory a)) (λ x. ok-done k)
over-loaded w m (load.Local a) k = ok-then (stacked (local m.stack a w)) (λ x. ok-done k)
over-loaded w m load.Pop k =
    ok-bind (ok-stacked (has-popped m.stack k.limit)) (λ p h. ok-done (on_stack k h))

pub over-loaded_all : {o : Base} (w : ℕ) (xs : List l.Load) (m : Machine) (i : ℕ) (args : List ℕ)
    → Over o m → Gives (rules.loaded_all w m xs i args) (OverFirst o)
unfolding rules.loaded_all
over-loaded_all w [] m i args k = ok-done k
over-loaded_all w (x ∷ xs) m i args k =
    ok-bind (over-loaded w m x k)
    (λ a. over-loaded_all w xs a.0 (i + 1) (slice_set args i a.1))

pub over-stored_in : {o : Base} (w : ℕ) (m : Machine) (to : d.Dest) (x : ℕ)
    → Over o m → Gives (rules.stored_in w m to x) (Over o)
over-stored_in w m dest.Discard x k = ok-done k
over-stored_in w m (dest.At a) x k =
    ok-bind (ok-coded (lies-written w m.memory a x k.memory)) (λ r h. ok-done (in_memory k h))
over-stored_in w m (dest.Local a) x k =
    ok-bind (ok-stacked (has-local_set m.stack a w x k.limit))
    (λ s h. ok-done (on_stack k h))
over-stored_in w m dest.Push x k =
    ok-bind (ok-stacked (has-pushed m.stack x k.limit)) (λ s h. ok-done (on_stack k h))

-- nothing more is told
pub over-goes : {o : Base} {r : Result Machine ℕ} → Gives r (Over o) → RuleOver o (r >>= rules.goes)
over-goes h = ok-bind h (λ m k. ok-done k)

pub over-puts : {o : Base} (m : Machine) (to : d.Dest) (x : ℕ)
    → Over o m → RuleOver o (rules.puts m to x)
over-puts m to x k = over-goes (over-stored_in 4 m to x k)

-- a value is read first
pub over-reads : {o : Base} (m : Machine) (to : d.Dest) (r : Result ℕ ℕ)
    → Over o m → RuleOver o (r >>= rules.puts m to)
over-reads m to r k = ok-then r (λ x. over-puts m to x k)

pub over-writes : {o : Base} (m : Machine) (w at x : ℕ)
    → Over o m → RuleOver o (rules.writes m w at x)
over-writes m w at x k =
    ok-bind (ok-coded (lies-written w m.memory at x k.memory)) (λ r h. ok-done (in_memory k h))

-- ---- calls, returns and branches

pub over-enters : {o : Base} (m : Machine) (at : ℕ) (args : List ℕ)
    → Over o m → RuleOver o (rules.enters m at args)
over-enters m at args k =
    ok-bind (ok-flowed (has-called m.memory m.stack at args k.limit))
    (λ x h. ok-done (on_stack k h))

over-stub : {o : Base} (m : Machine) (x : Stub) → Over o m
    → Gives (stacked (stub_pushed m.stack x) >>= (λ s. Ok (record m { stack = s }))) (Over o)
over-stub m x k =
    ok-bind (ok-stacked (has-appended m.stack (stub_bytes x) k.limit))
    (λ s h. ok-done (on_stack k h))

pub over-with_stub : {o : Base} (m : Machine) (to : d.Dest)
    → Over o m → Gives (rules.with_stub m to) (Over o)
over-with_stub m to k = over-stub m (rules.stub_for m to) k

pub over-calls : {o : Base} (m : Machine) (at : ℕ) (args : List ℕ) (to : d.Dest)
    → Over o m → RuleOver o (rules.calls m at args to)
over-calls m at args to k = ok-bind (over-with_stub m to k) (λ r. over-enters r at args)

over-with_end : {o : Base} (m : Machine) (held : Bool)
    → Over o m → Gives (stubs.with_end m held) (Over o)
over-with_end m true k = ok-done k
over-with_end m false k =
    over-stub m (record { kind = 0x11; at = 0; pc = m.pc; frame = m.stack.frame }) k

over-suspended : {o : Base} (m : Machine) (held : Bool) (kind at pc : ℕ)
    → Over o m → Gives (stubs.suspended m held kind at pc) (Over o)
over-suspended m held kind at pc k =
    ok-bind (over-with_end m held k)
    (λ r. over-stub r (record { kind = kind; at = at; pc = pc; frame = r.stack.frame }))

over-unstubbed : {o : Base} (m : Machine)
    → Over o m → Gives (stubs.unstubbed m) (OverFirst o)
over-unstubbed m k =
    ok-bind (ok-stacked (has-stub_taken m.stack k.limit))
    (λ x h. ok-if (x.1.frame == m.stack.frame) (ok-done (on_stack k h)) ok-fault)

pub over-number_over : {o : Base} (m : Machine) (held : Bool)
    → Over o m → Gives (stubs.number_over m held) (Over o)
over-number_over m false k = ok-done k
over-number_over m true k =
    ok-bind (over-unstubbed m k) (λ x h. ok-if (x.1.kind == 0x11) (ok-done h) ok-fault)

over-number_on : {o : Base} (m : Machine) (value place : ℕ) (held : Bool)
    → Over o m → Gives (stubs.number_on m value place held) (Over o)
over-number_on m value place held k =
    ok-if (nat_lt place (length (number_text value))) (ok-done k) (over-number_over m held k)

over-number_left : {o : Base} (m : Machine) (value place : ℕ) (held : Bool)
    → Over o m → Over o (stubs.number_left m value place held)
over-number_left {o} m value place held k =
    picks (held || nat_lt place (length (number_text value)))
  where
    picks : (b : Bool) → Over o (cond b (record m { text = Number value place held }) m)
    picks true = k
    picks false = k

over-text_on : {o : Base} (m : Machine) (s : Stub)
    → Over o m → Gives (stubs.text_on m s) (Over o)
unfolding stubs.text_on
over-text_on m s k =
    ok-if (s.kind == 0x10) (ok-done k)
    (ok-if (s.kind == 0x11) (ok-done k)
    (ok-if (s.kind == 0x12) (over-number_on m s.pc s.at true k)
    (ok-if (s.kind == 0x13) (ok-done k) (ok-if (s.kind == 0x14) (ok-done k) ok-fault))))

pub over-resumes : {o : Base} (m : Machine) (s : Stub) (x : ℕ)
    → Over o m → RuleOver o (rules.resumes m s x)
over-resumes m s x k =
    ok-if (nat_le s.kind 3)
    (ok-then (rules.stub_dest s) (λ to. over-puts (record m { pc = s.pc }) to x k))
    (over-goes (over-text_on m s k))

over-goes_on : {o : Base} (m : Machine) (s : Option Stub) (x : ℕ)
    → Over o m → RuleOver o (rules.goes_on m s x)
over-goes_on m None x k = ok-done k
over-goes_on m (Some s) x k = over-resumes m s x k

pub over-returns : {o : Base} (m : Machine) (x : ℕ) → Over o m → RuleOver o (rules.returns m x)
over-returns m x k =
    ok-bind (ok-flowed (has-given_back m.stack k.limit))
    (λ s h. over-goes_on (record m { stack = s.0 }) s.1 x (on_stack k h))

pub over-branches : {o : Base} (m : Machine) (offset : ℕ)
    → Over o m → RuleOver o (rules.branches m offset)
over-branches m offset k =
    ok-if (offset == 0 || offset == 1) (over-returns m offset k) (ok-done k)

pub over-when : {o : Base} (m : Machine) (b : Bool) (offset : ℕ)
    → Over o m → RuleOver o (rules.when m b offset)
over-when m b offset k = ok-if b (over-branches m offset k) (ok-done k)

has-arguments : {n : ℕ} (count : ℕ) (s : StackState)
    → Has n s → Gives (rules.arguments s count) (HasFirst n)
unfolding rules.arguments
has-arguments zero s h = ok-done h
has-arguments (suc count) s h =
    ok-bind (ok-stacked (has-popped s h))
    (λ p k. ok-bind (has-arguments count p.0 k) (λ q e. ok-done e))

pub over-with_arguments : {o : Base} (m : Machine) (count : ℕ) (f : Machine → List ℕ → Rule)
    → Over o m → ((r : Machine) (args : List ℕ) → Over o r → RuleOver o (f r args))
    → RuleOver o (rules.with_arguments m count f)
over-with_arguments m count f k g =
    ok-bind (has-arguments count m.stack k.limit)
    (λ q h. g (record m { stack = q.0 }) q.1 (on_stack k h))

pub over-streams : {o : Base} (m : Machine) (x : ℕ) → Over o m → RuleOver o (rules.streams m x)
over-streams m x k =
    ok-if (m.mode == 2) (ok-done k)
    (ok-if (m.mode == 1) (over-calls m m.rock (x ∷ []) dest.Discard k) (ok-done k))

-- ---- texts in progress

over-calls_from : {o : Base} (m : Machine) (at : ℕ) (args : List ℕ) (c : Cursor) (held : Bool)
    → Over o m → RuleOver o (texts.calls_from m at args c held)
over-calls_from m at args c held k =
    ok-bind (over-suspended m held (stubs.string_stub c.kind) c.bit c.at k)
    (λ r. over-enters r at args)

over-refers : {o : Base} (m : Machine) (at args_at count : ℕ) (c : Cursor) (held : Bool)
    → Over o m → RuleOver o (texts.refers_to_object m at args_at count c held)
over-refers m at args_at count c held k =
    ok-then (memory.coded (read 1 m.memory at))
    (λ kind. ok-if (kind == 0xE0 || kind == 0xE1 || kind == 0xE2)
    (ok-bind (over-suspended m held (stubs.string_stub c.kind) c.bit c.at k) (λ r h. ok-done h))
    (ok-if (kind == 0xC0 || kind == 0xC1)
    (ok-then (texts.words_at m.memory args_at count)
    (λ args. over-calls_from m at args c held k))
    ok-fault))

over-ends : {o : Base} (m : Machine) (held : Bool)
    → Over o m → RuleOver o (texts.ends_string m held)
over-ends m false k = ok-done k
over-ends m true k = ok-bind (over-unstubbed m k) (λ x h. over-goes (over-text_on x.0 x.1 h))

over-pieced : {o : Base} (m : Machine) (held : Bool) (p : Piece) (c : Cursor)
    → Over o m → RuleOver o (texts.pieced m held p c)
over-pieced m held (piece.Char x) c k =
    ok-if (m.mode == 1) (over-calls_from m m.rock (x ∷ []) c held k) (ok-done k)
over-pieced m held (piece.Call at args_at args) c k = over-refers m at args_at args c held k
over-pieced m held piece.End c k = over-ends m held k

pub over-string_rule : {o : Base} (m : Machine) (c : Cursor) (held : Bool)
    → Over o m → RuleOver o (texts.string_rule m c held)
over-string_rule m c held k =
    ok-then (string.string_coded (piece_after m.memory m.string_table c))
    (λ x. over-pieced m held x.0 x.1 k)

pub over-number_rule : {o : Base} (m : Machine) (value place : ℕ) (held : Bool)
    → Over o m → RuleOver o (texts.number_rule m value place held)
over-number_rule m value place held k =
    ok-if (m.mode == 1)
    (ok-bind (over-suspended m held 0x12 (rules.wrap (place + 1)) value k)
    (λ r. over-enters r r.rock (slice_index (number_text value) place ∷ [])))
    (ok-done (over-number_left m value (rules.wrap (place + 1)) held k))
