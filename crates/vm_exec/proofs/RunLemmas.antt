-- Quick instructions: what they do is told by their row.
use Rattle.std.proofs.Common.{IsErrAnd, IsOkAnd, ◌≡◌, ℕ, suc, ◌+◌, Result, Ok, Err, List, refl, ap, sym, ◌∙◌}
use Rattle.std.proofs.Common.{subst, add-one}
use Rattle.vm_memory.specs.Chaining.{◌>>=◌}
use Rattle.vm_memory.specs.declared.fault.Trap.{Trap}
use Rattle.vm_memory.specs.declared.fault.Trap.TheVariants.{Fault, NoMemory}
use Rattle.vm_operand.specs.declared.opcode.Op.{Op}
use Rattle.vm_exec.specs.Answer.{Does}
use Rattle.vm_exec.specs.Fetch.{Fetches, prepared_by, work_for}
use Rattle.vm_exec.specs.Machine.{IsFit, IsSoundMachine, KeepsImage, StaysFit}
use Rattle.vm_exec.specs.Row.{Prepared, charged, due, fetched, row, step_of, step_within, work}
use Rattle.vm_exec.specs.Row.{work_of}
use Rattle.vm_exec.specs.Rows.Work.{Work, Free, Costs, budgeted, costing}
use Rattle.vm_exec.specs.Rules.{Rule}
use Rattle.vm_exec.specs.Run.{GoesBy, RunsTo, StaysOn, Tells, WorkGives, went_of, IsQuickOpcode}
use Rattle.vm_exec.specs.Start.{IsOver}
use Rattle.vm_exec.specs.Want.{InstructionMayWant}
use Rattle.vm_exec.specs.declared.fetch.Fetched.{Fetched}
use Rattle.vm_exec.specs.declared.machine.Machine.{Machine}
use Rattle.vm_exec.specs.declared.quick.Went.{Went}
use Rattle.vm_exec.specs.declared.quick.Went.TheVariants as went
use Rattle.vm_exec.specs.declared.step.Done.{Done}
use Rattle.vm_exec.specs.declared.step.Out.{Out}
use Rattle.vm_exec.specs.declared.step.Out.TheVariants.{Ran, Char, Glk, Save, Restore, Quit}
use Rattle.vm_exec.specs.declared.text.Text as t
use Rattle.vm_exec.specs.declared.text.Text.TheVariants.{Off}
use Rattle.vm_exec.proofs.KeepingCalls.{step_keeps, step_over}
use Rattle.vm_operand.specs.declared.opcode.Move.TheVariants.{Copy, Copys, Copyb, Sexs, Sexb}
use Rattle.vm_operand.specs.declared.opcode.Op.TheVariants as op
use Rattle.vm_operand.specs.declared.operand.Dest as d
use Rattle.vm_exec.proofs.QuietLemmas.{IsQuietOut, IsQuietWork, array_quiet, branch_quiet}
use Rattle.vm_exec.proofs.QuietLemmas.{copy_quiet, flow_quiet, math_quiet}

-- the work of a quick opcode tells no more
pub work_quiet : (o : Op) (m : Machine) (l : ℕ → ℕ) (to : ℕ → d.Dest) → IsQuickOpcode o
    → IsQuietWork (work o m l to)
work_quiet (op.Math o) m l to h = math_quiet o m l to
work_quiet (op.Array o) m l to h = array_quiet o m l to
work_quiet (op.Move Copy) m l to h = copy_quiet m l to
work_quiet (op.Branch o) m l to h = branch_quiet o m l to
work_quiet (op.Flow o) m l to h = flow_quiet o m l to h
work_quiet (op.Move Copys) m l to h = absurd h
work_quiet (op.Move Copyb) m l to h = absurd h
work_quiet (op.Move Sexs) m l to h = absurd h
work_quiet (op.Move Sexb) m l to h = absurd h
work_quiet (op.Values _) m l to h = absurd h
work_quiet (op.Stream _) m l to h = absurd h
work_quiet (op.State _) m l to h = absurd h
work_quiet (op.System _) m l to h = absurd h
work_quiet (op.Search _) m l to h = absurd h

both : (x : Machine × Out) (new : Machine) (done : Done) → costing 0 (Ok x) ≡ Ok (new, done)
    → x ≡ (new, done.out)
both x new done e =
    let p : ◌≡◌ {A = Machine × Done} (x.0, record { out = x.1; cost = 0 }) (new, done) = cc in
    ap (λ (y : Machine × Done). (y.0, y.1.out)) p

works_by : (o : Out) (n : Machine) (w : Work) → w ≡ Free (Ok (n, o)) → IsQuietOut o
    → WorkGives w n (Ok (went_of o)) × (StaysFit n o → StaysOn n (went_of o))
works_by Ran n w e q = (e, λ s. s)
works_by Quit n w e q = (e, λ s. tt)
works_by (Char x) n w e q = absurd q
works_by (Glk s a) n w e q = absurd q
works_by (Save s) n w e q = absurd q
works_by (Restore s) n w e q = absurd q

-- what such work did is what its row says, it told no more, and it leaves a sound machine
pub works_ok : (w : Work) (new : Machine) (done : Done) → IsQuietWork w
    → budgeted 0 w ≡ Ok (new, done)
    → WorkGives w new (Ok (went_of done.out))
    × (StaysFit new done.out → StaysOn new (went_of done.out))
works_ok (Free (Ok x)) new done q e =
    let same = both x new done e in
    works_by done.out new (Free (Ok x)) (ap (λ (y : Machine × Out). Free (Ok y)) same)
    (subst (λ (y : Machine × Out). IsQuietOut y.1) same q.holds)
works_ok (Free (Err n)) new done q e = absurd cc
works_ok (Costs n r) new done q e = absurd q

pub works_err : (w : Work) (new : Machine) (e : Trap) → IsQuietWork w
    → Does {A = Done} (budgeted 0 w) new (Err e) → WorkGives w new (Err e)
works_err (Free (Ok x)) new (Fault k) q e = absurd cc
works_err (Free (Err n)) new (Fault k) q e = cc
works_err (Costs n r) new (Fault k) q e = absurd q
works_err w new NoMemory q e = tt

-- a refusal that is handed on
pub works_handed : (w : Work) (n : Machine) (e : Trap) (r : Result Went Trap)
    → WorkGives w n (Err e)
    → IsErrAnd r (λ f. f ≡ e) → WorkGives w n r
works_handed w n e (Ok g) why same = absurd same
works_handed w n e (Err f) why same = subst (λ (t : Trap). WorkGives w n (Err t)) (sym same) why

-- the work of an instruction with its loads taken
works_of : (m n : Machine) (o : Op) (q : Fetched) → Fetches m o n (Ok q)
    → fetched m ≡ Ok (work_for o n q)
works_of m n o q f =
    ap (λ (r : Result Prepared ℕ). r >>= (λ p. Ok (work_of p.op p.machine p.loads p.stores))) f

-- where memory may be wanting for an opcode with these loads and this store
abbrev WantsFor : Op → Machine → Fetched → Type 0
WantsFor o n q = InstructionMayWant (prepared_by o n q)

-- an instruction that was fetched goes by its work
pub goes_by : (m n new : Machine) (o : Op) (q : Fetched) (r : Result Went Trap)
    → Fetches m o n (Ok q) → WorkGives (work_for o n q) new r
    → (r ≡ Err NoMemory → WantsFor o n q) → GoesBy m new r
goes_by m n new o q (Ok went.On) f e want =
    ap charged (works_of m n o q f) ∙ ap (λ (x : Work). charged (Ok x)) e
goes_by m n new o q (Ok went.Quits) f e want =
    ap charged (works_of m n o q f) ∙ ap (λ (x : Work). charged (Ok x)) e
goes_by m n new o q (Ok went.Aside) f e want = absurd e
goes_by m n new o q (Err (Fault k)) f e want =
    ap charged (works_of m n o q f) ∙ ap (λ (x : Work). charged (Ok x)) e
goes_by m n new o q (Err NoMemory) f e want =
    subst (λ (r : Result Prepared ℕ). IsOkAnd r InstructionMayWant) (sym f) (want refl)

-- what is known of a machine that so many quick steps led to
pub record GoneOn (k : ℕ) (m n : Machine) : Type 0 where
  pub runs : RunsTo k m n
  pub fit : IsSoundMachine m → IsSoundMachine n
  pub kept : IsSoundMachine m → KeepsImage m n
  pub over : (image : List ℕ) → IsSoundMachine m → IsOver image m → IsOver image n

keeps_same : (m : Machine) → KeepsImage m m
keeps_same m = record {
  origin = refl;
  limit = refl;
  verified = refl;
  start_function = refl;
  first_table = refl;
  seed = refl;
}

keeps_both : (m n o : Machine) → KeepsImage m n → KeepsImage n o → KeepsImage m o
keeps_both m n o a b = record {
  origin = a.origin ∙ b.origin;
  limit = a.limit ∙ b.limit;
  verified = a.verified ∙ b.verified;
  start_function = a.start_function ∙ b.start_function;
  first_table = a.first_table ∙ b.first_table;
  seed = a.seed ∙ b.seed;
}

pub fit_of : (m : Machine) → IsSoundMachine m → m.text ≡ Off → IsFit m
fit_of m s e = record {
  map = s.map;
  frames = s.frames;
  frame = s.frame;
  waits = s.waits;
  still = e;
}

none_runs : (m : Machine) → RunsTo 0 m m
unfolding RunsTo
none_runs m = refl

pub none_gone : (m : Machine) → GoneOn 0 m m
none_gone m =
    record { runs = none_runs m; fit = λ s. s; kept = λ s. keeps_same m; over = λ image s o. o }

runs_more : (k : ℕ) (m o n : Machine) → RunsTo k m o
    → row o ≡ record { cost = 1; gives = Ok (n, Ran) } → RunsTo (suc k) m n
unfolding RunsTo
runs_more k m o n runs e = (o, (runs, e))

-- a quick step while no text is in progress is a step of the table
row_is : (m : Machine) (r : Rule) → m.text ≡ Off → Tells m r
    → row m ≡ record { cost = 1; gives = r }
row_is m r text tells = ap (λ (t : t.Text). charged (due m t)) text ∙ tells

-- what one that goes on, or quits, keeps
pub kept_behind : (k : ℕ) (m o n : Machine) (out : Out) → GoneOn k m o → Tells o (Ok (n, out))
    → (IsSoundMachine m → KeepsImage m n)
    × ((image : List ℕ) → IsSoundMachine m → IsOver image m → IsOver image n)
kept_behind k m o n out g tells =
    let does : Does (step_within 1 (charged (due o Off))) n (Ok (step_of out 1)) =
    ap (step_within 1) tells in (
      λ s. keeps_both m o n (g.kept s) (step_keeps 1 o n Off (Ok (step_of out 1)) does (g.fit s)),
      λ image s v.
          step_over image 1 o n Off (Ok (step_of out 1)) does (g.fit s) (g.over image s v),
    )

pub one_more : (k : ℕ) (m o n : Machine) → GoneOn k m o → o.text ≡ Off → Tells o (Ok (n, Ran))
    → (IsFit o → IsSoundMachine n) → GoneOn (k + 1) m n
one_more k m o n g text tells fit =
    let keeps = kept_behind k m o n Ran g tells in
    record {
      runs = rw (add-one k) (runs_more k m o n g.runs (row_is o (Ok (n, Ran)) text tells));
      fit = λ s. fit (fit_of o (g.fit s) text);
      kept = keeps.0;
      over = keeps.1;
    }
