-- The items: each is read exactly as it is printed.
use Rattle.std.proofs.Common.{◌≡◌, ℕ, ◌==◌, true, false, List, [], ◌++◌, refl, sym, arith}
use Rattle.std.proofs.lemmas.Bool.Decides.{nat_tests}
use Rattle.vm_heap.specs.declared.block.Block.{Block}
use Rattle.snap_fields.specs.Numbers.{n1, n4, IsByte, IsWord}
use Rattle.snap_fields.specs.Reading.{n1_at}
use Rattle.snap_fields.specs.declared.fields.SnapMachine.{SnapMachine}
use Rattle.snap_fields.specs.declared.fields.Numbers.{Numbers}
use Rattle.snap_fields.specs.declared.fields.SnapRandom.{SnapRandom}
use Rattle.snap_fields.specs.declared.fields.Settings.{Settings}
use Rattle.snap_fields.specs.declared.fields.SnapSetup.{SnapSetup}
use Rattle.snap_fields.specs.declared.fields.SnapStub.{SnapStub}
use Rattle.snap_fields.specs.declared.fields.UndoState.{UndoState}
use Rattle.snap_fields.specs.declared.fields.SnapWaiting.{SnapWaiting}
use Rattle.snap_fields.specs.declared.fields.SnapWaiting.TheVariants.{Quit, Fault, Select, Prompt}
use Rattle.snap_fields.specs.Printing.{print_setup, print_block, print_machine, print_settings}
use Rattle.snap_fields.specs.Printing.{print_random, print_store, print_waiting, print_numbers}
use Rattle.snap_fields.specs.Printing.{print_undo_state}
use Rattle.snap_fields.specs.Printable.{IsSetup, IsBlock, IsMachine, IsSettings, IsRandom}
use Rattle.snap_fields.specs.Printable.{IsStoreFields, IsUndoState, IsWaitingFields, IsNumbers}
use Rattle.snap_fields.specs.Items.{setup_item, setup_at, block_of, block_at, machine_item}
use Rattle.snap_fields.specs.Items.{machine_at, settings_item, settings_at, random_of}
use Rattle.snap_fields.specs.Items.{random_at, store_item, store_at, select_of, prompt_of}
use Rattle.snap_fields.specs.Items.{undo_state_at, undo_state_item, waiting_with, waiting_at}
use Rattle.snap_fields.specs.Items.{numbers_of, numbers_at}
use Rattle.snap_fields.proofs.Readers.{IsReader, ◌before◌, made_reads, led_reads, none_reads}
use Rattle.snap_fields.proofs.Readers.{pure_reads, if_reads, n1_reads, n4_reads, n8_reads}
use Rattle.snap_fields.proofs.Lists.{list_reads, bytes_reads}

-- ---- 1. the beginning

pub setup_reads : IsReader SnapSetup print_setup IsSetup setup_at
unfolding setup_at
setup_reads =
    made_reads print_setup IsSetup setup_item
    (n8_reads before n1_reads before n1_reads before n8_reads)
    (λ s h. ((s.seed, (s.cols, (s.rows, s.budget))), refl, (h.seed, (h.cols, (h.rows, h.budget)))))
    (λ x h. record { seed = h.0; cols = h.1.0; rows = h.1.1.0; budget = h.1.1.1 })
    (λ x h. refl)

-- ---- 2. the machine

pub block_reads : IsReader Block print_block IsBlock block_at
unfolding block_at
block_reads =
    made_reads print_block IsBlock block_of (n4_reads before n4_reads)
    (λ b h. ((b.at, b.length), refl, h)) (λ x h. h) (λ x h. refl)

pub machine_reads : IsReader SnapMachine print_machine IsMachine machine_at
unfolding machine_at
machine_reads =
    made_reads print_machine IsMachine machine_item
    (n4_reads before n4_reads before bytes_reads before bytes_reads before n4_reads
    before list_reads print_block IsBlock block_at block_reads)
    (λ m h. (
      (m.pc, (m.frame, (m.memory, (m.stack, (m.heap_start, m.heap))))),
      refl,
      (h.pc, (h.frame, (h.memory, (h.stack, (h.heap_start, h.heap))))),
    ))
    (λ x h. record {
      pc = h.0;
      frame = h.1.0;
      memory = h.1.1.0;
      stack = h.1.1.1.0;
      heap_start = h.1.1.1.1.0;
      heap = h.1.1.1.1.1;
    })
    (λ x h. refl)

-- ---- 3. its settings, and its random words

pub settings_reads : IsReader Settings print_settings IsSettings settings_at
unfolding settings_at
settings_reads =
    made_reads print_settings IsSettings settings_item
    (n4_reads before n4_reads before n4_reads before n4_reads before n4_reads)
    (λ s h. (
      (s.mode, (s.rock, (s.string_table, (s.protect_start, s.protect_length)))),
      refl,
      (h.mode, (h.rock, (h.string_table, (h.protect_start, h.protect_length)))),
    ))
    (λ x h. record {
      mode = h.0;
      rock = h.1.0;
      string_table = h.1.1.0;
      protect_start = h.1.1.1.0;
      protect_length = h.1.1.1.1;
    })
    (λ x h. refl)

pub random_reads : IsReader SnapRandom print_random IsRandom random_at
unfolding random_at
random_reads =
    made_reads print_random IsRandom random_of
    (n8_reads before n8_reads before n8_reads before n8_reads)
    (λ r h. (
      (r.start, (r.stream, (r.taken, r.fresh))),
      refl,
      (h.start, (h.stream, (h.taken, h.fresh))),
    ))
    (λ x h. record { start = h.0; stream = h.1.0; taken = h.1.1.0; fresh = h.1.1.1 })
    (λ x h. refl)

-- ---- 4. the states that undo keeps

pub undo_state_reads : IsReader UndoState print_undo_state IsUndoState undo_state_at
unfolding undo_state_at
undo_state_reads =
    made_reads print_undo_state IsUndoState undo_state_item
    (bytes_reads before bytes_reads before n4_reads
    before list_reads print_block IsBlock block_at block_reads)
    (λ s h. (
      (s.contents, (s.stack, (s.heap_start, s.heap))),
      refl,
      (h.contents, (h.stack, (h.heap_start, h.heap))),
    ))
    (λ x h. record { contents = h.0; stack = h.1.0; heap_start = h.1.1.0; heap = h.1.1.1 })
    (λ x h. refl)

-- ---- 5. what the story waits for, or how it ended

pub store_reads : IsReader SnapStub print_store IsStoreFields store_at
unfolding store_at
store_reads =
    made_reads print_store IsStoreFields store_item (n4_reads before n4_reads)
    (λ s h. ((s.kind, s.address), refl, h)) (λ x h. h) (λ x h. refl)

abbrev kind_in : SnapWaiting → ℕ
kind_in Quit = 0
kind_in (Fault code) = 1
kind_in (Select reference store) = 2
kind_in (Prompt usage mode rock store) = 3

abbrev behind_kind : SnapWaiting → List ℕ
behind_kind Quit = []
behind_kind (Fault code) = n1 code
behind_kind (Select reference store) = n4 reference ++ print_store store
behind_kind (Prompt usage mode rock store) =
    n4 usage ++ (n4 mode ++ (n4 rock ++ print_store store))

abbrev Waits : ℕ → SnapWaiting → Type 0
Waits kind w = (kind_in w ≡ kind) × IsWaitingFields w

kind_small : (w : SnapWaiting) → IsWaitingFields w → IsByte (kind_in w)
kind_small Quit h = omega arith
kind_small (Fault code) h = omega arith
kind_small (Select reference store) h = omega arith
kind_small (Prompt usage mode rock store) h = omega arith

led : (w : SnapWaiting) → print_waiting w ≡ n1 (kind_in w) ++ behind_kind w
led Quit = refl
led (Fault code) = refl
led (Select reference store) = refl
led (Prompt usage mode rock store) = refl

quit_only : (n : ℕ) → n ≡ 0 → (w : SnapWaiting) → Waits n w → Quit ≡ w
quit_only n e Quit h = refl
quit_only n e w h = absurd (omega (arith, e, h.0))

fault_only : (n : ℕ) → n ≡ 1 → (w : SnapWaiting) → Waits n w
    → (code : ℕ) × (Fault code ≡ w) × IsByte code
fault_only n e (Fault code) h = (code, refl, h.1)
fault_only n e w h = absurd (omega (arith, e, h.0))

select_only : (n : ℕ) → n ≡ 2 → (w : SnapWaiting) → Waits n w
    → (x : ℕ × SnapStub) × (select_of x ≡ w) × (IsWord x.0 × IsStoreFields x.1)
select_only n e (Select reference store) h = ((reference, store), refl, h.1)
select_only n e w h = absurd (omega (arith, e, h.0))

prompt_only : (n : ℕ) → n ≡ 3 → (w : SnapWaiting) → Waits n w
    → (x : ℕ × (ℕ × (ℕ × SnapStub))) × (prompt_of x ≡ w)
    × (IsWord x.0 × (IsWord x.1.0 × (IsWord x.1.1.0 × IsStoreFields x.1.1.1)))
prompt_only n e (Prompt usage mode rock store) h =
    ((usage, (mode, (rock, store))), refl, (h.1.0, (h.1.1, (h.1.2, h.1.3))))
prompt_only n e w h = absurd (omega (arith, e, h.0))

no_kind : (n : ℕ) → (n == 0) ≡ false → (n == 1) ≡ false → (n == 2) ≡ false → (n == 3) ≡ false
    → (w : SnapWaiting) → Waits n w → ⊥
no_kind n a b c d Quit h = grind (arith, nat_tests, a, h.0)
no_kind n a b c d (Fault code) h = grind (arith, nat_tests, b, h.0)
no_kind n a b c d (Select reference store) h = grind (arith, nat_tests, c, h.0)
no_kind n a b c d (Prompt usage mode rock store) h = grind (arith, nat_tests, d, h.0)

pub equal : (n k : ℕ) → (n == k) ≡ true → n ≡ k
equal n k e = grind (arith, nat_tests, e)

waiting_with_reads : (n : ℕ) → IsReader SnapWaiting behind_kind (Waits n) (waiting_with n)
waiting_with_reads n =
    if_reads behind_kind (Waits n) (n == 0) _ _
    (λ e. let is = equal n 0 e in
    pure_reads behind_kind (Waits n) Quit refl (sym is, tt) (quit_only n is))
    (λ a. if_reads behind_kind (Waits n) (n == 1) _ _
    (λ e. let is = equal n 1 e in
    made_reads behind_kind (Waits n) Fault n1_reads (fault_only n is)
    (λ x h. (sym is, h)) (λ x h. refl))
    (λ b. if_reads behind_kind (Waits n) (n == 2) _ _
    (λ e. let is = equal n 2 e in
    made_reads behind_kind (Waits n) select_of (n4_reads before store_reads) (select_only n is)
    (λ x h. (sym is, h)) (λ x h. refl))
    (λ c. if_reads behind_kind (Waits n) (n == 3) _ _
    (λ e. let is = equal n 3 e in
    made_reads behind_kind (Waits n) prompt_of
    (n4_reads before n4_reads before n4_reads before store_reads) (prompt_only n is)
    (λ x h. (sym is, (h.0, h.1.0, h.1.1.0, h.1.1.1))) (λ x h. refl))
    (λ d. none_reads behind_kind (Waits n) (no_kind n a b c d)))))

pub waiting_reads : IsReader SnapWaiting print_waiting IsWaitingFields waiting_at
unfolding waiting_at
waiting_reads =
    led_reads n1 IsByte print_waiting behind_kind IsWaitingFields kind_in n1_at waiting_with
    kind_small led n1_reads (λ n h. waiting_with_reads n)

-- ---- 6. numbers of objects

pub numbers_reads : IsReader Numbers print_numbers IsNumbers numbers_at
unfolding numbers_at
numbers_reads =
    made_reads print_numbers IsNumbers numbers_of
    (n4_reads before n4_reads before n4_reads before n4_reads before n4_reads)
    (λ n h. (
      (n.window, (n.stream, (n.fileref, (n.root, n.current)))),
      refl,
      (h.window, (h.stream, (h.fileref, (h.root, h.current)))),
    ))
    (λ x h. record {
      window = h.0;
      stream = h.1.0;
      fileref = h.1.1.0;
      root = h.1.1.1.0;
      current = h.1.1.1.1;
    })
    (λ x h. refl)
