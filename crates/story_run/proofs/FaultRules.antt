-- What opcodes are made of is refused by numbers of faults: loads, stores, calls and texts.
use Rattle.std.proofs.Common.{ℕ, zero, suc, ◌+◌, ◌==◌, ◌||◌, nat_le, nat_lt, Bool, true, false}
use Rattle.std.proofs.Common.{List, [], ◌∷◌, length, Option, Some, None, Result, Ok, refl}
use Rattle.std.proofs.Common.{slice_set, slice_index}
use Rattle.vm_memory.specs.Access.{read, written}
use Rattle.vm_memory.specs.Chaining.{◌>>=◌}
use Rattle.vm_memory.specs.MemoryMap.{MemoryMap}
use Rattle.vm_stack.specs.StackState.{StackState}
use Rattle.vm_stack.specs.Locals.{local, local_set}
use Rattle.vm_stack.specs.Stub.{stub_pushed, stub_taken}
use Rattle.vm_stack.specs.Values.{popped, pushed}
use Rattle.vm_stack.specs.declared.stub.Stub.{Stub}
use Rattle.vm_operand.specs.declared.operand.Load as l
use Rattle.vm_operand.specs.declared.operand.Load.TheVariants as load
use Rattle.vm_operand.specs.declared.operand.Dest as d
use Rattle.vm_operand.specs.declared.operand.Dest.TheVariants as dest
use Rattle.vm_string.specs.Next.{piece_after}
use Rattle.vm_string.specs.declared.piece.Cursor.{Cursor}
use Rattle.vm_string.specs.declared.piece.Piece.{Piece}
use Rattle.vm_string.specs.declared.piece.Piece.TheVariants as piece
use Rattle.vm_exec.specs.Fault.{stacked}
use Rattle.vm_exec.specs.Number.{number_text}
use Rattle.vm_exec.specs.Rows.Text as texts
use Rattle.vm_exec.specs.Rules as rules
use Rattle.vm_exec.specs.Rules.{Rule}
use Rattle.vm_exec.specs.TextStub as stubs
use Rattle.vm_exec.specs.declared.machine.Machine.{Machine}
use Rattle.story_run.proofs.FaultLemmas.{Numbered, called-fails, fails-bind, fails-by, fails-if}
use Rattle.story_run.proofs.FaultLemmas.{fails-ok, given_back-fails, of-flow, of-memory, of-stack}
use Rattle.story_run.proofs.FaultLemmas.{of-string}

-- ---- loads and stores

of-load : (w : ℕ) (m : Machine) (x : l.Load) → Numbered (rules.operand_loaded w m x)
of-load w m (load.Value x) = fails-ok
of-load w m (load.At a) = fails-bind (of-memory (read w m.memory a)) (λ x. fails-ok)
of-load w m (load.Local a) = fails-bind (of-stack (local m.stack a w)) (λ x. fails-ok)
of-load w m load.Pop = fails-bind (of-stack (popped m.stack)) (λ p. fails-ok)

pub of-loads : (w : ℕ) (xs : List l.Load) (m : Machine) (i : ℕ) (args : List ℕ)
    → Numbered (rules.loaded_all w m xs i args)
unfolding rules.loaded_all
of-loads w [] m i args = fails-ok
of-loads w (x ∷ xs) m i args =
    fails-bind (of-load w m x) (λ a. of-loads w xs a.0 (i + 1) (slice_set args i a.1))

pub of-store : (w : ℕ) (m : Machine) (to : d.Dest) (x : ℕ) → Numbered (rules.stored_in w m to x)
of-store w m dest.Discard x = fails-ok
of-store w m (dest.At a) x = fails-bind (of-memory (written w m.memory a x)) (λ r. fails-ok)
of-store w m (dest.Local a) x = fails-bind (of-stack (local_set m.stack a w x)) (λ s. fails-ok)
of-store w m dest.Push x = fails-bind (of-stack (pushed m.stack x)) (λ s. fails-ok)

-- nothing more is told
pub of-goes : {r : Result Machine ℕ} → Numbered r → Numbered (r >>= rules.goes)
of-goes h = fails-bind h (λ m. fails-ok)

pub of-puts : (m : Machine) (to : d.Dest) (x : ℕ) → Numbered (rules.puts m to x)
of-puts m to x = of-goes (of-store 4 m to x)

-- a value is found first
pub of-reads : {r : Result ℕ ℕ} (m : Machine) (to : d.Dest)
    → Numbered r → Numbered (r >>= rules.puts m to)
of-reads m to h = fails-bind h (λ x. of-puts m to x)

pub of-writes : (m : Machine) (w at x : ℕ) → Numbered (rules.writes m w at x)
of-writes m w at x = fails-bind (of-memory (written w m.memory at x)) (λ r. fails-ok)

-- ---- calls, returns and branches

pub of-enters : (m : Machine) (at : ℕ) (args : List ℕ) → Numbered (rules.enters m at args)
of-enters m at args =
    fails-bind (of-flow (called-fails m.memory m.stack at args)) (λ x. fails-ok)

of-stub : (m : Machine) (x : Stub)
    → Numbered (stacked (stub_pushed m.stack x) >>= (λ s. Ok (record m { stack = s })))
of-stub m x = fails-bind (of-stack (stub_pushed m.stack x)) (λ s. fails-ok)

pub of-with_stub : (m : Machine) (to : d.Dest) → Numbered (rules.with_stub m to)
of-with_stub m to = of-stub m (rules.stub_for m to)

pub of-calls : (m : Machine) (at : ℕ) (args : List ℕ) (to : d.Dest)
    → Numbered (rules.calls m at args to)
of-calls m at args to = fails-bind (of-with_stub m to) (λ r. of-enters r at args)

of-with_end : (m : Machine) (held : Bool) → Numbered (stubs.with_end m held)
of-with_end m true = fails-ok
of-with_end m false = of-stub m (record { kind = 0x11; at = 0; pc = m.pc; frame = m.stack.frame })

of-suspended : (m : Machine) (held : Bool) (kind at pc : ℕ)
    → Numbered (stubs.suspended m held kind at pc)
of-suspended m held kind at pc =
    fails-bind (of-with_end m held)
    (λ r. of-stub r (record { kind = kind; at = at; pc = pc; frame = r.stack.frame }))

of-unstubbed : (m : Machine) → Numbered (stubs.unstubbed m)
of-unstubbed m =
    fails-bind (of-stack (stub_taken m.stack))
    (λ x. fails-if (x.1.frame == m.stack.frame) fails-ok (fails-by refl))

pub of-number_over : (m : Machine) (held : Bool) → Numbered (stubs.number_over m held)
of-number_over m false = fails-ok
of-number_over m true =
    fails-bind (of-unstubbed m) (λ x. fails-if (x.1.kind == 0x11) fails-ok (fails-by refl))

of-number_on : (m : Machine) (value place : ℕ) (held : Bool)
    → Numbered (stubs.number_on m value place held)
of-number_on m value place held =
    fails-if (nat_lt place (length (number_text value))) fails-ok (of-number_over m held)

of-text_on : (m : Machine) (s : Stub) → Numbered (stubs.text_on m s)
unfolding stubs.text_on
of-text_on m s =
    fails-if (s.kind == 0x10) fails-ok
    (fails-if (s.kind == 0x11) fails-ok
    (fails-if (s.kind == 0x12) (of-number_on m s.pc s.at true)
    (fails-if (s.kind == 0x13) fails-ok
    (fails-if (s.kind == 0x14) fails-ok (fails-by refl)))))

pub of-stub_dest : (s : Stub) → Numbered (rules.stub_dest s)
of-stub_dest s =
    fails-if (s.kind == 0) fails-ok
    (fails-if (s.kind == 1) fails-ok
    (fails-if (s.kind == 2) fails-ok
    (fails-if (s.kind == 3) fails-ok (fails-by refl))))

pub of-resumes : (m : Machine) (s : Stub) (x : ℕ) → Numbered (rules.resumes m s x)
of-resumes m s x =
    fails-if (nat_le s.kind 3)
    (fails-bind (of-stub_dest s) (λ to. of-puts (record m { pc = s.pc }) to x))
    (of-goes (of-text_on m s))

of-goes_on : (m : Machine) (s : Option Stub) (x : ℕ) → Numbered (rules.goes_on m s x)
of-goes_on m None x = fails-ok
of-goes_on m (Some s) x = of-resumes m s x

pub of-returns : (m : Machine) (x : ℕ) → Numbered (rules.returns m x)
of-returns m x =
    fails-bind (of-flow (given_back-fails m.stack))
    (λ s. of-goes_on (record m { stack = s.0 }) s.1 x)

pub of-branches : (m : Machine) (offset : ℕ) → Numbered (rules.branches m offset)
of-branches m offset = fails-if (offset == 0 || offset == 1) (of-returns m offset) fails-ok

pub of-when : (m : Machine) (b : Bool) (offset : ℕ) → Numbered (rules.when m b offset)
of-when m b offset = fails-if b (of-branches m offset) fails-ok

of-arguments : (count : ℕ) (s : StackState) → Numbered (rules.arguments s count)
unfolding rules.arguments
of-arguments zero s = fails-ok
of-arguments (suc count) s =
    fails-bind (of-stack (popped s))
    (λ p. fails-bind (of-arguments count p.0) (λ q. fails-ok))

pub of-with_arguments : (m : Machine) (count : ℕ) (f : Machine → List ℕ → Rule)
    → ((r : Machine) (args : List ℕ) → Numbered (f r args))
    → Numbered (rules.with_arguments m count f)
of-with_arguments m count f g =
    fails-bind (of-arguments count m.stack) (λ q. g (record m { stack = q.0 }) q.1)

pub of-streams : (m : Machine) (x : ℕ) → Numbered (rules.streams m x)
of-streams m x =
    fails-if (m.mode == 2) fails-ok
    (fails-if (m.mode == 1) (of-calls m m.rock (x ∷ []) dest.Discard) fails-ok)

-- ---- texts in progress

of-calls_from : (m : Machine) (at : ℕ) (args : List ℕ) (c : Cursor) (held : Bool)
    → Numbered (texts.calls_from m at args c held)
of-calls_from m at args c held =
    fails-bind (of-suspended m held (stubs.string_stub c.kind) c.bit c.at)
    (λ r. of-enters r at args)

of-words : (n : ℕ) (m : MemoryMap) (at : ℕ) → Numbered (texts.words_at m at n)
unfolding texts.words_at
of-words zero m at = fails-ok
of-words (suc n) m at =
    fails-bind (of-memory (read 4 m at))
    (λ x. fails-bind (of-words n m (at + 4)) (λ xs. fails-ok))

of-refers : (m : Machine) (at args_at count : ℕ) (c : Cursor) (held : Bool)
    → Numbered (texts.refers_to_object m at args_at count c held)
of-refers m at args_at count c held =
    fails-bind (of-memory (read 1 m.memory at))
    (λ kind. fails-if (kind == 0xE0 || kind == 0xE1 || kind == 0xE2)
    (fails-bind (of-suspended m held (stubs.string_stub c.kind) c.bit c.at) (λ r. fails-ok))
    (fails-if (kind == 0xC0 || kind == 0xC1)
    (fails-bind (of-words count m.memory args_at) (λ args. of-calls_from m at args c held))
    (fails-by refl)))

of-ends : (m : Machine) (held : Bool) → Numbered (texts.ends_string m held)
of-ends m false = fails-ok
of-ends m true = fails-bind (of-unstubbed m) (λ x. of-goes (of-text_on x.0 x.1))

of-pieced : (m : Machine) (held : Bool) (p : Piece) (c : Cursor)
    → Numbered (texts.pieced m held p c)
of-pieced m held (piece.Char x) c =
    fails-if (m.mode == 1) (of-calls_from m m.rock (x ∷ []) c held) fails-ok
of-pieced m held (piece.Call at args_at args) c = of-refers m at args_at args c held
of-pieced m held piece.End c = of-ends m held

pub of-string_rule : (m : Machine) (c : Cursor) (held : Bool)
    → Numbered (texts.string_rule m c held)
of-string_rule m c held =
    fails-bind (of-string (piece_after m.memory m.string_table c)) (λ x. of-pieced m held x.0 x.1)

pub of-number_rule : (m : Machine) (value place : ℕ) (held : Bool)
    → Numbered (texts.number_rule m value place held)
of-number_rule m value place held =
    fails-if (m.mode == 1)
    (fails-bind (of-suspended m held 0x12 (rules.wrap (place + 1)) value)
    (λ r. of-enters r r.rock (slice_index (number_text value) place ∷ [])))
    fails-ok
