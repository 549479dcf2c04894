-- Every row of the table is refused by numbers of faults, and so is a step of the machine.
use Rattle.std.proofs.Common.{ℕ, zero, suc, ◌-◌, ◌%◌, ◌^◌, ◌==◌, ◌||◌, not, nat_lt, Bool, true}
use Rattle.std.proofs.Common.{false, List, [], length, take, replicate, refl, cond, Option, Some}
use Rattle.std.proofs.Common.{None, Result, Ok, Err, slice_index}
use Rattle.vm_memory.specs.Access.{copied, read, zeroed}
use Rattle.vm_memory.specs.Chaining.{◌>>=◌}
use Rattle.vm_memory.specs.MemoryMap.{reset, resized}
use Rattle.vm_memory.specs.declared.memory.TheConstants.{MAX_SIZE}
use Rattle.vm_stack.specs.Frame as frame
use Rattle.vm_stack.specs.StackState.{StackState}
use Rattle.vm_stack.specs.Stub.{stub_taken}
use Rattle.vm_stack.specs.Values.{peeked, rolled}
use Rattle.vm_heap.specs.Allocation.{freed}
use Rattle.vm_heap.specs.declared.fault.HeapFault.{HeapFault}
use Rattle.vm_heap.specs.declared.fault.HeapFault.TheVariants.{BadBlock}
use Rattle.vm_search.specs.Binary.{binary_ends}
use Rattle.vm_search.specs.Ending.{Ending, first_ending}
use Rattle.vm_search.specs.Key.{is_search}
use Rattle.vm_search.specs.Linear.{linear_ends}
use Rattle.vm_search.specs.Linked.{linked_ends}
use Rattle.vm_search.specs.declared.query.Query.{Query}
use Rattle.vm_undo.specs.UndoList.{newest, without_newest}
use Rattle.vm_undo.specs.declared.saved.Saved.{Saved}
use Rattle.vm_operand.specs.Arithmetic.{applied}
use Rattle.vm_operand.specs.Branch.{holds}
use Rattle.vm_operand.specs.Instruction.{instruction_at}
use Rattle.vm_operand.specs.Opcode.{op_of}
use Rattle.vm_operand.specs.declared.opcode.Array.{Array}
use Rattle.vm_operand.specs.declared.opcode.Array.TheVariants.{Aload, Aloads, Aloadb, Aloadbit}
use Rattle.vm_operand.specs.declared.opcode.Array.TheVariants.{Astore, Astores, Astoreb, Astorebit}
use Rattle.vm_operand.specs.declared.opcode.Branch.{Branch}
use Rattle.vm_operand.specs.declared.opcode.Branch.TheVariants.{Jump, Jz, Jnz, Jeq, Jne, Jlt, Jge}
use Rattle.vm_operand.specs.declared.opcode.Branch.TheVariants.{Jgt, Jle, Jltu, Jgeu, Jgtu, Jleu}
use Rattle.vm_operand.specs.declared.opcode.Branch.TheVariants.{Jumpabs}
use Rattle.vm_operand.specs.declared.opcode.Flow.{Flow}
use Rattle.vm_operand.specs.declared.opcode.Flow.TheVariants.{Call, Return, Catch, Throw, Tailcall}
use Rattle.vm_operand.specs.declared.opcode.Flow.TheVariants.{Callf, Callfi, Callfii, Callfiii}
use Rattle.vm_operand.specs.declared.opcode.Math.{Math}
use Rattle.vm_operand.specs.declared.opcode.Move.{Move}
use Rattle.vm_operand.specs.declared.opcode.Move.TheVariants.{Copy, Copys, Copyb, Sexs, Sexb}
use Rattle.vm_operand.specs.declared.opcode.Op.{Op}
use Rattle.vm_operand.specs.declared.opcode.Op.TheVariants as op
use Rattle.vm_operand.specs.declared.opcode.Search.{Search}
use Rattle.vm_operand.specs.declared.opcode.Search.TheVariants.{Linearsearch, Binarysearch}
use Rattle.vm_operand.specs.declared.opcode.Search.TheVariants.{Linkedsearch, Mzero, Mcopy, Malloc}
use Rattle.vm_operand.specs.declared.opcode.Search.TheVariants.{Mfree}
use Rattle.vm_operand.specs.declared.opcode.State.{State}
use Rattle.vm_operand.specs.declared.opcode.State.TheVariants.{Quit, Verify, Restart, Save, Restore}
use Rattle.vm_operand.specs.declared.opcode.State.TheVariants.{Saveundo, Restoreundo, Protect}
use Rattle.vm_operand.specs.declared.opcode.State.TheVariants.{Hasundo, Discardundo}
use Rattle.vm_operand.specs.declared.opcode.Stream.{Stream}
use Rattle.vm_operand.specs.declared.opcode.Stream.TheVariants.{Streamchar, Streamnum, Streamstr}
use Rattle.vm_operand.specs.declared.opcode.Stream.TheVariants.{Streamunichar, Getstringtbl}
use Rattle.vm_operand.specs.declared.opcode.Stream.TheVariants.{Setstringtbl, Getiosys, Setiosys}
use Rattle.vm_operand.specs.declared.opcode.System.{System}
use Rattle.vm_operand.specs.declared.opcode.System.TheVariants.{Nop, Gestalt, Debugtrap, Getmemsize}
use Rattle.vm_operand.specs.declared.opcode.System.TheVariants.{Setmemsize, Random, Setrandom, Glk}
use Rattle.vm_operand.specs.declared.opcode.System.TheVariants.{Accelfunc, Accelparam}
use Rattle.vm_operand.specs.declared.opcode.Values.{Values}
use Rattle.vm_operand.specs.declared.opcode.Values.TheVariants.{Stkcount, Stkpeek, Stkswap, Stkroll}
use Rattle.vm_operand.specs.declared.opcode.Values.TheVariants.{Stkcopy}
use Rattle.vm_operand.specs.declared.operand.Dest as d
use Rattle.vm_operand.specs.declared.operand.Dest.TheVariants as dest
use Rattle.vm_exec.specs.Number.{number_text}
use Rattle.vm_exec.specs.Row as row
use Rattle.vm_exec.specs.Rows.Array as arrays
use Rattle.vm_exec.specs.Rows.Branch.{branch_work}
use Rattle.vm_exec.specs.Rows.Function as functions
use Rattle.vm_exec.specs.Rows.Heap as heaps
use Rattle.vm_exec.specs.Rows.Math.{math_work}
use Rattle.vm_exec.specs.Rows.Moving as moving
use Rattle.vm_exec.specs.Rows.Output as output
use Rattle.vm_exec.specs.Rows.Search as search
use Rattle.vm_exec.specs.Rows.Searching as searching
use Rattle.vm_exec.specs.Rows.State.{state_work}
use Rattle.vm_exec.specs.Rows.System as system
use Rattle.vm_exec.specs.Rows.Undo as undo
use Rattle.vm_exec.specs.Rows.Values as values
use Rattle.vm_exec.specs.Rows.Work.{Work, Free, Costs}
use Rattle.vm_exec.specs.Start.{empty_stack, finished, finished_at, image_memory, started}
use Rattle.vm_exec.specs.declared.machine.Machine.{Machine}
use Rattle.vm_exec.specs.declared.step.Waiting as w
use Rattle.vm_exec.specs.declared.step.Waiting.TheVariants as waiting
use Rattle.vm_exec.specs.declared.text.Text as t
use Rattle.vm_exec.specs.declared.text.Text.TheVariants as text
use Rattle.glulx_image.specs.Header.{start_function}
use Rattle.story_run.proofs.FaultLemmas.{Numbered, called-fails, fails-bind, fails-by, fails-if}
use Rattle.story_run.proofs.FaultLemmas.{fails-ok, of-flow, of-memory, of-operation, of-stack}
use Rattle.story_run.proofs.FaultLemmas.{thrown-fails}
use Rattle.story_run.proofs.FaultRules.{of-branches, of-calls, of-enters, of-goes, of-loads}
use Rattle.story_run.proofs.FaultRules.{of-number_over, of-number_rule, of-puts, of-reads}
use Rattle.story_run.proofs.FaultRules.{of-resumes, of-returns, of-store, of-streams}
use Rattle.story_run.proofs.FaultRules.{of-string_rule, of-stub_dest, of-when, of-with_arguments}
use Rattle.story_run.proofs.FaultRules.{of-with_stub, of-writes}

-- the work of an opcode is refused by numbers of faults, whatever it costs
abbrev pub NumberedWork : Work → Type 0
NumberedWork (Free r) = Numbered r
NumberedWork (Costs cost r) = Numbered r

of-math : (x : Math) (m : Machine) (l : ℕ → ℕ) (d : ℕ → d.Dest) → NumberedWork (math_work x m l d)
unfolding math_work
of-math x m l d = of-reads m (d 0) (of-operation (applied x (l 0) (l 1)))

of-branch : (x : Branch) (m : Machine) (l : ℕ → ℕ) (d : ℕ → d.Dest)
    → NumberedWork (branch_work x m l d)
unfolding branch_work
of-branch Jump m l d = of-branches m (l 0)
of-branch Jumpabs m l d = fails-ok
of-branch Jz m l d = of-when m (holds Jz (l 0) (l 1)) (l 1)
of-branch Jnz m l d = of-when m (holds Jnz (l 0) (l 1)) (l 1)
of-branch Jeq m l d = of-when m (holds Jeq (l 0) (l 1)) (l 2)
of-branch Jne m l d = of-when m (holds Jne (l 0) (l 1)) (l 2)
of-branch Jlt m l d = of-when m (holds Jlt (l 0) (l 1)) (l 2)
of-branch Jge m l d = of-when m (holds Jge (l 0) (l 1)) (l 2)
of-branch Jgt m l d = of-when m (holds Jgt (l 0) (l 1)) (l 2)
of-branch Jle m l d = of-when m (holds Jle (l 0) (l 1)) (l 2)
of-branch Jltu m l d = of-when m (holds Jltu (l 0) (l 1)) (l 2)
of-branch Jgeu m l d = of-when m (holds Jgeu (l 0) (l 1)) (l 2)
of-branch Jgtu m l d = of-when m (holds Jgtu (l 0) (l 1)) (l 2)
of-branch Jleu m l d = of-when m (holds Jleu (l 0) (l 1)) (l 2)

of-catches : (m : Machine) (to : d.Dest) (offset : ℕ) → Numbered (functions.catches m to offset)
of-catches m to offset =
    fails-bind (of-with_stub m to)
    (λ r. fails-bind (of-store 4 r to (length r.stack.bytes)) (λ q. of-branches q offset))

of-throws : (m : Machine) (value token : ℕ) → Numbered (functions.throws m value token)
of-throws m value token =
    fails-bind (of-flow (thrown-fails m.stack token))
    (λ s. of-resumes (record m { stack = s.0 }) s.1 value)

of-flow_work : (x : Flow) (m : Machine) (l : ℕ → ℕ) (d : ℕ → d.Dest)
    → NumberedWork (functions.flow_work x m l d)
unfolding functions.flow_work
of-flow_work Call m l d = of-with_arguments m (l 1) _ (λ r args. of-calls r (l 0) args (d 0))
of-flow_work Return m l d = of-returns m (l 0)
of-flow_work Catch m l d = of-catches m (d 0) (l 0)
of-flow_work Throw m l d = of-throws m (l 0) (l 1)
of-flow_work Tailcall m l d =
    of-with_arguments m (l 1) (functions.tailcalls (l 0))
    (λ r args. of-enters (record r { stack = frame.frame_left r.stack }) (l 0) args)
of-flow_work Callf m l d = of-calls m (l 0) _ (d 0)
of-flow_work Callfi m l d = of-calls m (l 0) _ (d 0)
of-flow_work Callfii m l d = of-calls m (l 0) _ (d 0)
of-flow_work Callfiii m l d = of-calls m (l 0) _ (d 0)

of-move : (x : Move) (m : Machine) (l : ℕ → ℕ) (d : ℕ → d.Dest)
    → NumberedWork (moving.move_work x m l d)
unfolding moving.move_work
of-move Copy m l d = of-puts m (d 0) (l 0)
of-move Copys m l d = of-goes (of-store 2 m (d 0) (l 0))
of-move Copyb m l d = of-goes (of-store 1 m (d 0) (l 0))
of-move Sexs m l d = of-puts m (d 0) _
of-move Sexb m l d = of-puts m (d 0) _

of-array : (x : Array) (m : Machine) (l : ℕ → ℕ) (d : ℕ → d.Dest)
    → NumberedWork (arrays.array_work x m l d)
unfolding arrays.array_work
of-array Aload m l d = of-reads m (d 0) (of-memory _)
of-array Aloads m l d = of-reads m (d 0) (of-memory _)
of-array Aloadb m l d = of-reads m (d 0) (of-memory _)
of-array Aloadbit m l d =
    fails-bind (of-memory (read 1 m.memory (arrays.byte_with_bit (l 0) (l 1))))
    (λ byte. of-puts m (d 0) (arrays.bit byte (l 1 % 8)))
of-array Astore m l d = of-writes m 4 _ (l 2)
of-array Astores m l d = of-writes m 2 _ (l 2)
of-array Astoreb m l d = of-writes m 1 _ (l 2)
of-array Astorebit m l d =
    fails-bind (of-memory (read 1 m.memory (arrays.byte_with_bit (l 0) (l 1))))
    (λ byte. of-writes m 1 (arrays.byte_with_bit (l 0) (l 1))
    (arrays.with_bit byte (l 1 % 8) (l 2)))

of-rolls : (m : Machine) (c by : ℕ) → Numbered (values.rolls m c by)
of-rolls m c by = fails-bind (of-stack (rolled m.stack c by)) (λ s. fails-ok)

of-copied_up : (c : ℕ) (s : StackState) (depth : ℕ) → Numbered (values.copied_up s depth c)
unfolding values.copied_up
of-copied_up zero s depth = fails-ok
of-copied_up (suc c) s depth =
    fails-bind (of-stack (values.copied_one s depth)) (λ u. of-copied_up c u depth)

of-values : (x : Values) (m : Machine) (l : ℕ → ℕ) (d : ℕ → d.Dest)
    → NumberedWork (values.values_work x m l d)
unfolding values.values_work
of-values Stkcount m l d = of-puts m (d 0) _
of-values Stkpeek m l d = of-reads m (d 0) (of-stack (peeked m.stack (l 0)))
of-values Stkswap m l d = of-rolls m 2 1
of-values Stkroll m l d = of-rolls m (l 0) (l 1)
of-values Stkcopy m l d = fails-bind (of-copied_up (l 0) m.stack (l 0 - 1)) (λ s. fails-ok)

of-stream : (x : Stream) (m : Machine) (l : ℕ → ℕ) (d : ℕ → d.Dest)
    → NumberedWork (output.streaming_work x m l d)
unfolding output.streaming_work
of-stream Streamchar m l d = of-streams m _
of-stream Streamunichar m l d = of-streams m (l 0)
of-stream Getstringtbl m l d = of-puts m (d 0) m.string_table
of-stream Setstringtbl m l d = fails-ok
of-stream Getiosys m l d = fails-bind (of-store 4 m (d 0) m.mode) (λ r. of-puts r (d 1) m.rock)
of-stream Setiosys m l d = fails-ok
of-stream Streamnum m l d = fails-ok
of-stream Streamstr m l d = fails-ok

of-size_set : (m : Machine) (size : ℕ) (to : d.Dest) → Numbered (heaps.size_set m size to)
of-size_set m size to =
    fails-if (not (m.heap.start == 0) || not (size % 256 == 0) || nat_lt size m.memory.endmem)
    (fails-by refl)
    (fails-if (nat_lt MAX_SIZE size) (of-store 4 m to 1)
    (of-store 4 (record m { memory = resized m.memory size }) to 0))

of-system : (x : System) (m : Machine) (l : ℕ → ℕ) (d : ℕ → d.Dest)
    → NumberedWork (system.system_work x m l d)
unfolding system.system_work
of-system Nop m l d = fails-ok
of-system Gestalt m l d = of-puts m (d 0) _
of-system Debugtrap m l d = fails-by refl
of-system Getmemsize m l d = of-puts m (d 0) _
of-system Glk m l d = fails-ok
of-system Accelfunc m l d = fails-ok
of-system Accelparam m l d = fails-ok
of-system Setmemsize m l d = of-goes (of-size_set m (l 0) (d 0))
of-system Random m l d = of-puts (record m { random = _ }) (d 0) _
of-system Setrandom m l d = fails-ok

-- ---- undo, restart and saves

pub of-came_back : (m : Machine) (x : ℕ) → Numbered (undo.came_back m x)
of-came_back m x =
    fails-bind (of-stack (stub_taken m.stack))
    (λ s. fails-bind (of-stub_dest s.1)
    (λ to. of-store 4 (record m { stack = s.0; pc = s.1.pc }) to x))

pub of-resumed : (m : Machine) (s : Saved) → Numbered (undo.resumed m s)
of-resumed m s =
    fails-bind {r = undo.with_state m s}
    (fails-bind (of-stack (frame.stack_loaded m.stack s.stack)) (λ stack. fails-ok))
    (λ r. of-came_back r (2 ^ 32 - 1))

of-undo_saved : (m : Machine) (to : d.Dest) → Numbered (undo.undo_saved m to)
of-undo_saved m to =
    fails-bind (of-with_stub m to)
    (λ r. of-came_back (undo.state_kept r).0 (undo.save_answer (undo.state_kept r).1))

of-from : (m : Machine) (to : d.Dest) (taken : Option Saved)
    → Numbered (undo.restored_from m to taken)
of-from m to None = of-store 4 m to 1
of-from m to (Some s) = of-resumed m s

of-restarted : (m : Machine) → Numbered (undo.restarted m)
of-restarted m =
    fails-bind (of-flow (called-fails (undo.sparing m (reset m.memory))
    (undo.stack_emptied m.stack) m.start_function [])) (λ x. fails-ok)

of-asks_save : (m : Machine) (stream : ℕ) (to : d.Dest) → Numbered (undo.asks_save m stream to)
of-asks_save m stream to =
    fails-if (m.mode == 2) (fails-bind (of-with_stub m to) (λ r. fails-ok)) (of-puts m to 1)

of-asks_restore : (m : Machine) (stream : ℕ) (to : d.Dest)
    → Numbered (undo.asks_restore m stream to)
of-asks_restore m stream to = fails-if (m.mode == 2) fails-ok (of-puts m to 1)

of-state : (x : State) (m : Machine) (l : ℕ → ℕ) (d : ℕ → d.Dest)
    → NumberedWork (state_work x m l d)
unfolding state_work
of-state Quit m l d = fails-ok
of-state Verify m l d = of-puts m (d 0) m.verified
of-state Restart m l d = of-goes (of-restarted m)
of-state Saveundo m l d = of-goes (of-undo_saved m (d 0))
of-state Restoreundo m l d =
    of-goes (of-from (record m { undo = without_newest m.undo }) (d 0) (newest m.undo.states))
of-state Protect m l d = fails-ok
of-state Hasundo m l d = of-puts m (d 0) _
of-state Discardundo m l d = fails-ok
of-state Save m l d = of-asks_save m (l 0) (d 0)
of-state Restore m l d = of-asks_restore m (l 0) (d 0)

-- ---- searches, blocks and the heap

of-answered : (m : Machine) (to : d.Dest) (e : Option Ending)
    → NumberedWork (searching.search_answered m to e)
of-answered m to None = fails-by refl
of-answered m to (Some e) = of-reads m to (of-memory e.answer)

of-searched : (m : Machine) (to : d.Dest) (q : Query) (ends : ℕ → Option Ending)
    → NumberedWork (searching.searched m to q ends)
of-searched m to q ends = picks (is_search q)
  where
    e : Option Ending
    e = first_ending ends 0 (2 ^ 32)

    picks : (b : Bool) → NumberedWork (cond b (searching.search_answered m to e) (Free (Err 10)))
    picks true = of-answered m to e
    picks false = fails-by refl

of-heap : {A : Type 0} (r : Result A HeapFault) → Numbered (heaps.heap_coded r)
of-heap (Ok x) = fails-ok
of-heap (Err (BadBlock at)) = fails-by refl

of-mallocs : (m : Machine) (size : ℕ) (to : d.Dest) → Numbered (heaps.mallocs m size to)
of-mallocs m size to =
    let x = heaps.allocated m size in fails-if (size == 0) (fails-by refl) (of-puts x.0 to x.1)

of-frees : (m : Machine) (at : ℕ) → Numbered (heaps.frees m at)
of-frees m at =
    of-goes {r = heaps.freed_at m at} (fails-bind (of-heap (freed m.heap at)) (λ h. fails-ok))

of-search : (x : Search) (m : Machine) (l : ℕ → ℕ) (d : ℕ → d.Dest)
    → NumberedWork (search.search_work x m l d)
unfolding search.search_work
of-search Mzero m l d = fails-bind (of-memory (zeroed m.memory (l 1) (l 0))) (λ x. fails-ok)
of-search Mcopy m l d = fails-bind (of-memory (copied m.memory (l 0) (l 1) (l 2))) (λ x. fails-ok)
of-search Linearsearch m l d =
    let q = searching.query_of l 0 in of-searched m (d 0) q (linear_ends m.memory q)
of-search Binarysearch m l d =
    let q = searching.query_of l 0 in of-searched m (d 0) q (binary_ends m.memory q)
of-search Linkedsearch m l d =
    let q = searching.linked_query l 0 in of-searched m (d 0) q (linked_ends m.memory q)
of-search Malloc m l d = of-mallocs m (l 0) (d 0)
of-search Mfree m l d = of-frees m (l 0)

-- ---- a step

of-work : (x : Op) (m : Machine) (l : ℕ → ℕ) (d : ℕ → d.Dest) → NumberedWork (row.work x m l d)
of-work (op.Math x) m l d = of-math x m l d
of-work (op.Branch x) m l d = of-branch x m l d
of-work (op.Flow x) m l d = of-flow_work x m l d
of-work (op.Move x) m l d = of-move x m l d
of-work (op.Array x) m l d = of-array x m l d
of-work (op.Values x) m l d = of-values x m l d
of-work (op.Stream x) m l d = of-stream x m l d
of-work (op.System x) m l d = of-system x m l d
of-work (op.State x) m l d = of-state x m l d
of-work (op.Search x) m l d = of-search x m l d

of-work_of : (x : Option Op) (m : Machine) (args : List ℕ) (to : List d.Dest)
    → NumberedWork (row.work_of x m args to)
of-work_of None m args to = fails-by refl
of-work_of (Some x) m args to = of-work x m (slice_index args) (row.dest_by_index to)

-- what is due is refused by a number of a fault, and so is its work
record NumberedDue (r : Result Work ℕ) : Type 0 where
  due : Numbered (row.charged r).gives

due-bind : {A : Type 0} {r : Result A ℕ} {f : A → Result Work ℕ}
    → Numbered r → ((x : A) → NumberedDue (f x)) → NumberedDue (r >>= f)
due-bind {r = Ok x} h k = k x
due-bind {r = Err n} h k = record { due = record { holds = h.holds } }

due-if : {x y : Result Work ℕ} (b : Bool)
    → NumberedDue x → NumberedDue y → NumberedDue (cond b x y)
due-if true h k = h
due-if false h k = k

due-work : {x : Work} → NumberedWork x → NumberedDue (Ok x)
due-work {x = Free r} h = record { due = h }
due-work {x = Costs cost r} h = record { due = h }

of-prepared : (m : Machine) → Numbered (row.prepared m)
of-prepared m =
    fails-bind (of-operation (instruction_at m.memory m.pc))
    (λ i. fails-bind
    (of-loads (row.width_of (op_of i.op)) (take i.loads.count i.loads.items) m 0 (replicate 8 0))
    (λ x. fails-ok))

of-fetched : (m : Machine) → NumberedDue (row.fetched m)
of-fetched m =
    due-bind (of-prepared m) (λ p. due-work (of-work_of p.op p.machine p.loads p.stores))

of-due : (m : Machine) (x : t.Text) → NumberedDue (row.due m x)
of-due m text.Off = of-fetched m
of-due m (text.Pieces cursor held) =
    record { due = of-string_rule (record m { text = text.Off }) cursor held }
of-due m (text.Number value place held) =
    due-if (nat_lt place (length (number_text value)))
    (record { due = of-number_rule (record m { text = text.Off }) value place held })
    (due-bind (of-number_over (record m { text = text.Off }) held) (λ r. of-fetched r))

-- the faults of a step
pub of-step : (left : ℕ) (m : Machine) → Numbered (row.step_within left (row.row m))
of-step left m =
    fails-if (nat_lt left (row.row m).cost) (fails-by refl)
    (fails-bind (of-due m m.text).due (λ x. fails-ok))

-- ---- results that are stored, and a start

of-finished_at : (m : Machine) (x : w.Waiting) (value : ℕ) → Numbered (finished_at m x value)
of-finished_at m (waiting.Store to) value = of-store 4 m to value
of-finished_at m waiting.Stub value =
    of-came_back (record m { waiting = waiting.Store dest.Discard }) value

pub of-finished : (m : Machine) (value : ℕ) → Numbered (finished m value)
of-finished m value = of-finished_at m m.waiting value

pub of-started : (image : List ℕ) (seed : ℕ) → Numbered (started image seed)
of-started image seed =
    fails-bind (of-flow (called-fails (image_memory image) (empty_stack image)
    (start_function image) [])) (λ x. fails-ok)
