-- Every row of the table keeps what memory has of its image, and the greatest size of the stack.
use Rattle.std.proofs.Common.{◌≡◌, arith, ℕ, zero, suc, ◌+◌, ◌-◌, ◌*◌, ◌%◌, ◌^◌, ◌==◌, ◌&&◌, nat_le}
use Rattle.std.proofs.Common.{nat_lt, Bool, true, false, List, length, take, replicate, refl, sym}
use Rattle.std.proofs.Common.{subst, Option, Some, None, Result, Ok, Err, cond, slice_index}
use Rattle.std.proofs.lemmas.Bool.Decides.{nat_tests}
use Rattle.vm_memory.specs.Chaining.{◌>>=◌}
use Rattle.vm_memory.specs.Access.{copied, read, zeroed}
use Rattle.vm_memory.specs.Fault.{coded}
use Rattle.vm_memory.specs.MemoryMap.{MemoryMap, Origin}
use Rattle.vm_memory.specs.declared.fault.MemFault.{MemFault}
use Rattle.vm_stack.specs.StackState.{StackState, value_bytes}
use Rattle.vm_stack.specs.Frame as frame
use Rattle.vm_stack.specs.Values.{peeked, rolled}
use Rattle.vm_search.specs.Ending.{Ending, first_ending}
use Rattle.vm_search.specs.Key.{is_search}
use Rattle.vm_search.specs.Linear.{linear_ends}
use Rattle.vm_search.specs.Binary.{binary_ends}
use Rattle.vm_search.specs.Linked.{linked_ends}
use Rattle.vm_search.specs.declared.query.Query.{Query}
use Rattle.vm_operand.specs.Branch.{holds}
use Rattle.vm_operand.specs.Fault as operand
use Rattle.vm_operand.specs.Instruction.{instruction_at}
use Rattle.vm_operand.specs.Opcode.{op_of}
use Rattle.vm_operand.specs.declared.opcode.Array.{Array}
use Rattle.vm_operand.specs.declared.opcode.Array.TheVariants.{Aload, Aloads, Aloadb, Aloadbit}
use Rattle.vm_operand.specs.declared.opcode.Array.TheVariants.{Astore, Astores, Astoreb, Astorebit}
use Rattle.vm_operand.specs.declared.opcode.Branch.{Branch}
use Rattle.vm_operand.specs.declared.opcode.Branch.TheVariants.{Jump, Jz, Jnz, Jeq, Jne, Jlt, Jge}
use Rattle.vm_operand.specs.declared.opcode.Branch.TheVariants.{Jgt, Jle, Jltu, Jgeu, Jgtu, Jleu}
use Rattle.vm_operand.specs.declared.opcode.Branch.TheVariants.{Jumpabs}
use Rattle.vm_operand.specs.declared.opcode.Flow.{Flow}
use Rattle.vm_operand.specs.declared.opcode.Flow.TheVariants.{Call, Return, Catch, Throw, Tailcall}
use Rattle.vm_operand.specs.declared.opcode.Flow.TheVariants.{Callf, Callfi, Callfii, Callfiii}
use Rattle.vm_operand.specs.declared.opcode.Math.{Math}
use Rattle.vm_operand.specs.declared.opcode.Move.{Move}
use Rattle.vm_operand.specs.declared.opcode.Move.TheVariants.{Copy, Copys, Copyb, Sexs, Sexb}
use Rattle.vm_operand.specs.declared.opcode.Op.{Op}
use Rattle.vm_operand.specs.declared.opcode.Op.TheVariants as op
use Rattle.vm_operand.specs.declared.opcode.Search.{Search}
use Rattle.vm_operand.specs.declared.opcode.Search.TheVariants.{Linearsearch, Binarysearch}
use Rattle.vm_operand.specs.declared.opcode.Search.TheVariants.{Linkedsearch, Mzero, Mcopy, Malloc}
use Rattle.vm_operand.specs.declared.opcode.Search.TheVariants.{Mfree}
use Rattle.vm_operand.specs.declared.opcode.State.{State}
use Rattle.vm_operand.specs.declared.opcode.State.TheVariants.{Quit, Verify, Restart, Save, Restore}
use Rattle.vm_operand.specs.declared.opcode.State.TheVariants.{Saveundo, Restoreundo, Protect}
use Rattle.vm_operand.specs.declared.opcode.State.TheVariants.{Hasundo, Discardundo}
use Rattle.vm_operand.specs.declared.opcode.Stream.{Stream}
use Rattle.vm_operand.specs.declared.opcode.Stream.TheVariants.{Streamchar, Streamnum, Streamstr}
use Rattle.vm_operand.specs.declared.opcode.Stream.TheVariants.{Streamunichar, Getstringtbl}
use Rattle.vm_operand.specs.declared.opcode.Stream.TheVariants.{Setstringtbl, Getiosys, Setiosys}
use Rattle.vm_operand.specs.declared.opcode.System.{System}
use Rattle.vm_operand.specs.declared.opcode.System.TheVariants.{Nop, Gestalt, Debugtrap, Getmemsize}
use Rattle.vm_operand.specs.declared.opcode.System.TheVariants.{Setmemsize, Random, Setrandom, Glk}
use Rattle.vm_operand.specs.declared.opcode.System.TheVariants.{Accelfunc, Accelparam}
use Rattle.vm_operand.specs.declared.opcode.Values.{Values}
use Rattle.vm_operand.specs.declared.opcode.Values.TheVariants.{Stkcount, Stkpeek, Stkswap, Stkroll}
use Rattle.vm_operand.specs.declared.opcode.Values.TheVariants.{Stkcopy}
use Rattle.vm_operand.specs.declared.operand.Dest as d
use Rattle.vm_exec.specs.Number.{number_text}
use Rattle.vm_exec.specs.Random.{bounded, next_word, refreshed}
use Rattle.vm_exec.specs.declared.random.Random as r
use Rattle.vm_exec.specs.Row as row
use Rattle.vm_exec.specs.Rows.Array as arrays
use Rattle.vm_exec.specs.Rows.Branch.{branch_work}
use Rattle.vm_exec.specs.Rows.Function as functions
use Rattle.vm_exec.specs.Rows.Math.{math_work}
use Rattle.vm_exec.specs.Rows.Moving as moving
use Rattle.vm_exec.specs.Rows.Output as output
use Rattle.vm_exec.specs.Rows.Search as search
use Rattle.vm_exec.specs.Rows.Searching as searching
use Rattle.vm_exec.specs.Rows.State.{state_work}
use Rattle.vm_exec.specs.Rows.System as system
use Rattle.vm_exec.specs.Rows.Values as values
use Rattle.vm_exec.specs.Rows.Work.{Work, Free, Costs}
use Rattle.vm_exec.specs.Rules as rules
use Rattle.vm_exec.specs.declared.machine.Machine.{Machine}
use Rattle.vm_exec.specs.declared.text.Text as t
use Rattle.vm_exec.specs.declared.text.Text.TheVariants as text
use Rattle.vm_exec.proofs.KeepingLemmas.{Base, Gives, Has, Lies, Over, OverFirst, RuleOver}
use Rattle.vm_exec.proofs.KeepingLemmas.{has-pushed, has-thrown, in_memory, in_mode, ok-bind}
use Rattle.vm_exec.proofs.KeepingLemmas.{ok-coded, ok-done, ok-fault, ok-flowed, ok-if, ok-stacked}
use Rattle.vm_exec.proofs.KeepingLemmas.{ok-then, on_stack}
use Rattle.vm_exec.proofs.KeepingRules.{over-branches, over-calls, over-enters, over-goes}
use Rattle.vm_exec.proofs.KeepingRules.{over-loaded_all, over-number_over, over-number_rule}
use Rattle.vm_exec.proofs.KeepingRules.{over-puts, over-reads, over-resumes, over-returns}
use Rattle.vm_exec.proofs.KeepingRules.{over-stored_in, over-streams, over-string_rule, over-when}
use Rattle.vm_exec.proofs.KeepingRules.{over-with_arguments, over-with_stub, over-writes}
use Rattle.vm_exec.proofs.KeepingStates.{over-asks_restore, over-asks_save, over-discards}
use Rattle.vm_exec.proofs.KeepingStates.{over-frees, over-mallocs, over-restarted, over-restored}
use Rattle.vm_exec.proofs.KeepingStates.{over-size_set, over-undo_saved}

-- the work of an opcode keeps it, whatever it costs
abbrev pub WorkOver : Base → Work → Type 0
WorkOver o (Free r) = RuleOver o r
WorkOver o (Costs cost r) = RuleOver o r

over-math : {o : Base} (x : Math) (m : Machine) (l : ℕ → ℕ) (d : ℕ → d.Dest)
    → Over o m → WorkOver o (math_work x m l d)
unfolding math_work
over-math x m l d k = over-reads m _ _ k

over-branch : {o : Base} (x : Branch) (m : Machine) (l : ℕ → ℕ) (d : ℕ → d.Dest)
    → Over o m → WorkOver o (branch_work x m l d)
unfolding branch_work
over-branch Jump m l d k = over-branches m (l 0) k
over-branch Jumpabs m l d k = ok-done k
over-branch Jz m l d k = over-when m (holds Jz (l 0) (l 1)) (l 1) k
over-branch Jnz m l d k = over-when m (holds Jnz (l 0) (l 1)) (l 1) k
over-branch Jeq m l d k = over-when m (holds Jeq (l 0) (l 1)) (l 2) k
over-branch Jne m l d k = over-when m (holds Jne (l 0) (l 1)) (l 2) k
over-branch Jlt m l d k = over-when m (holds Jlt (l 0) (l 1)) (l 2) k
over-branch Jge m l d k = over-when m (holds Jge (l 0) (l 1)) (l 2) k
over-branch Jgt m l d k = over-when m (holds Jgt (l 0) (l 1)) (l 2) k
over-branch Jle m l d k = over-when m (holds Jle (l 0) (l 1)) (l 2) k
over-branch Jltu m l d k = over-when m (holds Jltu (l 0) (l 1)) (l 2) k
over-branch Jgeu m l d k = over-when m (holds Jgeu (l 0) (l 1)) (l 2) k
over-branch Jgtu m l d k = over-when m (holds Jgtu (l 0) (l 1)) (l 2) k
over-branch Jleu m l d k = over-when m (holds Jleu (l 0) (l 1)) (l 2) k

over-catches : {o : Base} (m : Machine) (to : d.Dest) (offset : ℕ)
    → Over o m → RuleOver o (functions.catches m to offset)
over-catches m to offset k =
    ok-bind (over-with_stub m to k)
    (λ r h. ok-bind (over-stored_in 4 r to (length r.stack.bytes) h)
    (λ q. over-branches q offset))

over-throws : {o : Base} (m : Machine) (value token : ℕ)
    → Over o m → RuleOver o (functions.throws m value token)
over-throws m value token k =
    ok-bind (ok-flowed (has-thrown m.stack token k.limit))
    (λ s h. over-resumes (record m { stack = s.0 }) s.1 value (on_stack k h))

over-flow : {o : Base} (x : Flow) (m : Machine) (l : ℕ → ℕ) (d : ℕ → d.Dest)
    → Over o m → WorkOver o (functions.flow_work x m l d)
unfolding functions.flow_work
over-flow Call m l d k = over-with_arguments m _ _ k (λ r args. over-calls r (l 0) args (d 0))
over-flow Return m l d k = over-returns m (l 0) k
over-flow Catch m l d k = over-catches m (d 0) (l 0) k
over-flow Throw m l d k = over-throws m _ _ k
over-flow Tailcall m l d k =
    over-with_arguments m _ (functions.tailcalls (l 0)) k
    (λ r. over-enters (record r { stack = frame.frame_left r.stack }) (l 0))
over-flow Callf m l d k = over-calls m _ _ _ k
over-flow Callfi m l d k = over-calls m _ _ _ k
over-flow Callfii m l d k = over-calls m _ _ _ k
over-flow Callfiii m l d k = over-calls m _ _ _ k

over-move : {o : Base} (x : Move) (m : Machine) (l : ℕ → ℕ) (d : ℕ → d.Dest)
    → Over o m → WorkOver o (moving.move_work x m l d)
unfolding moving.move_work
over-move Copy m l d k = over-puts m _ _ k
over-move Copys m l d k = over-goes (over-stored_in 2 m (d 0) (l 0) k)
over-move Copyb m l d k = over-goes (over-stored_in 1 m (d 0) (l 0) k)
over-move Sexs m l d k = over-puts m _ _ k
over-move Sexb m l d k = over-puts m _ _ k

over-array : {o : Base} (x : Array) (m : Machine) (l : ℕ → ℕ) (d : ℕ → d.Dest)
    → Over o m → WorkOver o (arrays.array_work x m l d)
unfolding arrays.array_work
over-array Aload m l d k = over-reads m _ _ k
over-array Aloads m l d k = over-reads m _ _ k
over-array Aloadb m l d k = over-reads m _ _ k
over-array Aloadbit m l d k =
    ok-then (coded (read 1 m.memory (arrays.byte_with_bit (l 0) (l 1))))
    (λ byte. over-puts m (d 0) (arrays.bit byte (l 1 % 8)) k)
over-array Astore m l d k = over-writes m _ _ _ k
over-array Astores m l d k = over-writes m _ _ _ k
over-array Astoreb m l d k = over-writes m _ _ _ k
over-array Astorebit m l d k =
    ok-then (coded (read 1 m.memory (arrays.byte_with_bit (l 0) (l 1))))
    (λ byte. over-writes m 1 (arrays.byte_with_bit (l 0) (l 1))
    (arrays.with_bit byte (l 1 % 8) (l 2)) k)

over-rolls : {o : Base} (m : Machine) (c by : ℕ) → Over o m → RuleOver o (values.rolls m c by)
over-rolls {o} m c by k =
    let kept : Gives (rolled m.stack c by) (Has o.limit) =
    ok-if (nat_le (4 * c) (value_bytes m.stack)) (ok-done k.limit) ok-fault in
    ok-bind (ok-stacked kept) (λ s h. ok-done (on_stack k h))

has-copied_up : {n : ℕ} (c : ℕ) (s : StackState) (depth : ℕ)
    → Has n s → Gives (values.copied_up s depth c) (Has n)
unfolding values.copied_up
has-copied_up zero s depth h = ok-done h
has-copied_up (suc c) s depth h =
    ok-bind (ok-stacked (ok-then (peeked s depth) (λ x. has-pushed s x h)))
    (λ t. has-copied_up c t depth)

over-values : {o : Base} (x : Values) (m : Machine) (l : ℕ → ℕ) (d : ℕ → d.Dest)
    → Over o m → WorkOver o (values.values_work x m l d)
unfolding values.values_work
over-values Stkcount m l d k = over-puts m _ _ k
over-values Stkpeek m l d k = over-reads m _ _ k
over-values Stkswap m l d k = over-rolls m 2 1 k
over-values Stkroll m l d k = over-rolls m _ _ k
over-values Stkcopy m l d k =
    ok-bind (has-copied_up (l 0) m.stack (l 0 - 1) k.limit) (λ s h. ok-done (on_stack k h))

over-io : {o : Base} (m : Machine) (known : Bool) (mode rock : ℕ)
    → nat_le mode 2 ≡ known → Over o m
    → Over o (cond known (record m { mode = mode; rock = rock }) (record m { mode = 0; rock = 0 }))
over-io m true mode rock e k = in_mode k (grind (arith, nat_tests, e))
over-io m false mode rock e k = in_mode k (omega arith)

over-stream : {o : Base} (x : Stream) (m : Machine) (l : ℕ → ℕ) (d : ℕ → d.Dest)
    → Over o m → WorkOver o (output.streaming_work x m l d)
unfolding output.streaming_work
over-stream Streamchar m l d k = over-streams m _ k
over-stream Streamunichar m l d k = over-streams m _ k
over-stream Getstringtbl m l d k = over-puts m _ _ k
over-stream Setstringtbl m l d k = ok-done k
over-stream Getiosys m l d k =
    ok-bind (over-stored_in 4 m (d 0) m.mode k) (λ r. over-puts r (d 1) m.rock)
over-stream Setiosys m l d k = ok-done (over-io m (nat_le (l 0) 2) (l 0) (l 1) refl k)
over-stream Streamnum m l d k = ok-done k
over-stream Streamstr m l d k = ok-done k

over-reseeded : {o : Base} (m : Machine) (b : Bool) (x y : r.Random)
    → x.seed ≡ m.random.seed → y.seed ≡ m.random.seed
    → Over o m → Over o (record m { random = cond b x y })
over-reseeded {o} m true x y e f k =
    subst (λ (i : ℕ). Over o (record m { random = record x { seed = i } })) (sym e) k
over-reseeded {o} m false x y e f k =
    subst (λ (i : ℕ). Over o (record m { random = record y { seed = i } })) (sym f) k

over-system : {o : Base} (x : System) (m : Machine) (l : ℕ → ℕ) (d : ℕ → d.Dest)
    → Over o m → WorkOver o (system.system_work x m l d)
unfolding system.system_work
over-system Nop m l d k = ok-done k
over-system Gestalt m l d k = over-puts m _ _ k
over-system Debugtrap m l d k = ok-fault
over-system Getmemsize m l d k = over-puts m _ _ k
over-system Glk m l d k = ok-done k
over-system Accelfunc m l d k = ok-done k
over-system Accelparam m l d k = ok-done k
over-system Setmemsize m l d k = over-goes (over-size_set m (l 0) (d 0) k)
over-system Random m l d k =
    over-puts (record m { random = _ }) (d 0) (bounded (l 0) (next_word m.random)) k
over-system Setrandom m l d k =
    ok-done (over-reseeded m (l 0 == 0) (refreshed m.random)
    (record m.random { start = l 0; stream = 54; taken = 0 }) refl refl k)

over-state : {o : Base} (x : State) (m : Machine) (l : ℕ → ℕ) (d : ℕ → d.Dest)
    → Over o m → WorkOver o (state_work x m l d)
unfolding state_work
over-state Quit m l d k = ok-done k
over-state Verify m l d k = over-puts m _ _ k
over-state Restart m l d k = over-goes (over-restarted m k)
over-state Saveundo m l d k = over-goes (over-undo_saved m (d 0) k)
over-state Restoreundo m l d k =
    over-goes (over-restored m (d 0) k)
over-state Protect m l d k = ok-done k
over-state Hasundo m l d k = over-puts m _ _ k
over-state Discardundo m l d k = ok-done (over-discards m k)
over-state Save m l d k = over-asks_save m _ _ k
over-state Restore m l d k = over-asks_restore m _ _ k

over-answered : {o : Base} (m : Machine) (to : d.Dest) (e : Option Ending)
    → Over o m → WorkOver o (searching.search_answered m to e)
over-answered m to None k = ok-fault
over-answered m to (Some e) k = over-reads m to (coded e.answer) k

over-searched : {o : Base} (m : Machine) (to : d.Dest) (q : Query) (ends : ℕ → Option Ending)
    → Over o m → WorkOver o (searching.searched m to q ends)
over-searched {o} m to q ends k = picks (is_search q)
  where
    e : Option Ending
    e = first_ending ends 0 (2 ^ 32)

    picks : (b : Bool) → WorkOver o (cond b (searching.search_answered m to e) (Free (Err 10)))
    picks true = over-answered m to e k
    picks false = ok-fault

over-block : {o : Base} {r : Result MemoryMap MemFault} (m : Machine)
    → Over o m → Gives r (Lies o.origin)
    → RuleOver o (coded r >>= (λ x. rules.goes (record m { memory = x })))
over-block m k h = ok-bind (ok-coded h) (λ x e. ok-done (in_memory k e))

lies-zeroed : {i : Origin} (m : MemoryMap) (at c : ℕ)
    → Lies i m → Gives (zeroed m at c) (Lies i)
lies-zeroed m at c h =
    ok-if (c == 0) (ok-done h)
    (ok-if (nat_le m.ramstart at && nat_le (at + c) (length m.bytes)) (ok-done h) ok-fault)

lies-copied : {i : Origin} (m : MemoryMap) (c from to : ℕ)
    → Lies i m → Gives (copied m c from to) (Lies i)
lies-copied m c from to h =
    ok-if (c == 0) (ok-done h)
    (ok-if (nat_le (from + c) (length m.bytes))
    (ok-if (nat_le m.ramstart to && nat_le (to + c) (length m.bytes)) (ok-done h) ok-fault)
    ok-fault)

over-search : {o : Base} (x : Search) (m : Machine) (l : ℕ → ℕ) (d : ℕ → d.Dest)
    → Over o m → WorkOver o (search.search_work x m l d)
unfolding search.search_work
over-search Mzero m l d k = over-block m k (lies-zeroed m.memory (l 1) (l 0) k.memory)
over-search Mcopy m l d k = over-block m k (lies-copied m.memory (l 0) (l 1) (l 2) k.memory)
over-search Linearsearch m l d k =
    let q = searching.query_of l 0 in over-searched m (d 0) q (linear_ends m.memory q) k
over-search Binarysearch m l d k =
    let q = searching.query_of l 0 in over-searched m (d 0) q (binary_ends m.memory q) k
over-search Linkedsearch m l d k =
    let q = searching.linked_query l 0 in over-searched m (d 0) q (linked_ends m.memory q) k
over-search Malloc m l d k = over-mallocs m _ _ k
over-search Mfree m l d k = over-frees m _ k

over-work : {o : Base} (x : Op) (m : Machine) (l : ℕ → ℕ) (d : ℕ → d.Dest)
    → Over o m → WorkOver o (row.work x m l d)
over-work (op.Math x) m l d k = over-math x m l d k
over-work (op.Branch x) m l d k = over-branch x m l d k
over-work (op.Flow x) m l d k = over-flow x m l d k
over-work (op.Move x) m l d k = over-move x m l d k
over-work (op.Array x) m l d k = over-array x m l d k
over-work (op.Values x) m l d k = over-values x m l d k
over-work (op.Stream x) m l d k = over-stream x m l d k
over-work (op.System x) m l d k = over-system x m l d k
over-work (op.State x) m l d k = over-state x m l d k
over-work (op.Search x) m l d k = over-search x m l d k

over-work_of : {o : Base} (x : Option Op) (m : Machine) (args : List ℕ) (to : List d.Dest)
    → Over o m → WorkOver o (row.work_of x m args to)
over-work_of None m args to k = ok-fault
over-work_of (Some x) m args to k = over-work x m (slice_index args) (row.dest_by_index to) k

-- ---- a step

over-prepared : {o : Base} (m : Machine) → Over o m
    → Gives (row.prepared m) (λ p. Over o p.machine)
over-prepared m k =
    ok-then (operand.operation_coded (instruction_at m.memory m.pc))
    (λ i. ok-bind
    (over-loaded_all (row.width_of (op_of i.op)) (take i.loads.count i.loads.items) m 0
    (replicate 8 0) k)
    (λ x h. ok-done h))

over-fetched : {o : Base} (m : Machine) → Over o m → Gives (row.fetched m) (WorkOver o)
over-fetched m k =
    ok-bind (over-prepared m k) (λ p h. ok-done (over-work_of p.op p.machine p.loads p.stores h))

over-due : {o : Base} (m : Machine) (x : t.Text) → Over o m → Gives (row.due m x) (WorkOver o)
over-due m text.Off k = over-fetched m k
over-due m (text.Pieces cursor held) k =
    ok-done (over-string_rule (record m { text = text.Off }) cursor held k)
over-due m (text.Number value place held) k =
    ok-if (nat_lt place (length (number_text value)))
    (ok-done (over-number_rule (record m { text = text.Off }) value place held k))
    (ok-bind (over-number_over (record m { text = text.Off }) held k) (λ r. over-fetched r))

over-charged : (o : Base) (x : Result Work ℕ)
    → Gives x (WorkOver o) → RuleOver o (row.charged x).gives
over-charged o (Ok (Free r)) h = h.holds
over-charged o (Ok (Costs c r)) h = h.holds
over-charged o (Err e) h = ok-fault

pub over-told : {o : Base} (left : ℕ) (m : Machine) (x : t.Text)
    → Over o m → Gives (row.step_within left (row.charged (row.due m x))) (OverFirst o)
over-told {o} left m x k =
    ok-if (nat_lt left (row.charged (row.due m x)).cost) ok-fault
    (ok-bind (over-charged o (row.due m x) (over-due m x k)) (λ y h. ok-done h))
