-- All of the bytes: what is read is spelled so, and what is spelled so is read.
use Rattle.std.proofs.Common.{◌≡◌, ℕ, ◌==◌, Bool, true, false, cond, List, [], ◌++◌, length}
use Rattle.std.proofs.Common.{Option, Some, None, Result, Ok, Err, refl, sym, ap, subst, ◌∙◌, arith}
use Rattle.std.specs.Prelude.{IfOk, IfErr}
use Rattle.std.proofs.lemmas.Bool.Decides.{nat_tests}
use Rattle.std.proofs.lemmas.List.{append-nil, nil_from_length}
use Rattle.snap_fields.specs.Numbers.{n4, IsWord, list_of, bytes_with_count}
use Rattle.snap_fields.specs.Reading.{reader_made, n4_at}
use Rattle.snap_fields.specs.declared.fault.SnapFault.{SnapFault}
use Rattle.snap_fields.specs.declared.fault.SnapFault.TheVariants.{BadSnap, NoMemory}
use Rattle.snap_fields.specs.declared.fields.Fields.{Fields}
use Rattle.snap_fields.specs.Printing.{print_setup, print_machine, print_settings, print_random}
use Rattle.snap_fields.specs.Printing.{print_waiting, print_numbers, print_window, print_stream}
use Rattle.snap_fields.specs.Printing.{print_fileref, print_file, print_fields, print_undo_state}
use Rattle.snap_fields.specs.Printable.{IsWindow, IsStream, IsFileRef, IsFile, IsPrintable}
use Rattle.snap_fields.specs.Printable.{IsUndoState}
use Rattle.snap_fields.specs.Items.{undo_state_at}
use Rattle.snap_fields.specs.GlkItems.{window_item_at, stream_item_at, fileref_at, file_at}
use Rattle.snap_fields.specs.Whole.{objects_at, after_machine_at, parts_at, fields_of_parts}
use Rattle.snap_fields.specs.Whole.{signed_fields, fields_at, if_all_read, FindsWhole}
use Rattle.snap_fields.specs.Laws.{SpellsFields, RefusesFields, ReadsFields}
use Rattle.snap_fields.specs.Laws.{ReadsEachSpellingOfFields, FieldsHaveOneSpelling, BeginsNoOther}
use Rattle.snap_fields.proofs.Readers.{IsBytes, IsReader, ◌before◌, made_reads, led_reads}
use Rattle.snap_fields.proofs.Readers.{none_reads, if_reads, n4_reads, some_is}
use Rattle.snap_fields.proofs.Lists.{list_reads, bytes_reads}
use Rattle.snap_fields.proofs.ItemLaws.{equal, setup_reads, machine_reads, settings_reads}
use Rattle.snap_fields.proofs.ItemLaws.{random_reads, undo_state_reads, waiting_reads, numbers_reads}
use Rattle.snap_fields.proofs.GlkLaws.{window_reads}
use Rattle.snap_fields.proofs.StreamLaws.{stream_reads, fileref_reads, file_reads}

-- what stands behind the signature
abbrev behind : Fields → List ℕ
behind f =
    print_setup f.setup ++ (print_machine f.machine
    ++ (print_settings f.settings ++ (print_random f.random ++ (list_of print_undo_state f.undo
    ++ (print_waiting f.waiting ++ (print_numbers f.numbers
    ++ (list_of print_window f.windows ++ (list_of print_stream f.streams
    ++ (list_of print_fileref f.filerefs ++ (list_of print_file f.files
    ++ bytes_with_count f.show))))))))))

abbrev Signed : ℕ → Fields → Type 0
Signed n f = (0x53545732 ≡ n) × IsPrintable f

made_of : (n : ℕ)
    → 0x53545732 ≡ n
    → IsReader Fields behind (Signed n) (reader_made fields_of_parts parts_at)
unfolding after_machine_at objects_at
made_of n is =
    made_reads behind (Signed n) fields_of_parts
    (setup_reads before machine_reads before settings_reads before random_reads
    before list_reads print_undo_state IsUndoState undo_state_at undo_state_reads
    before waiting_reads before numbers_reads
    before list_reads print_window IsWindow window_item_at window_reads
    before list_reads print_stream IsStream stream_item_at stream_reads
    before list_reads print_fileref IsFileRef fileref_at fileref_reads
    before list_reads print_file IsFile file_at file_reads before bytes_reads)
    (λ f h. let g = h.1 in (
      (
        f.setup,
        (
          f.machine,
          (
            f.settings,
            (
              f.random,
              (
                f.undo,
                (
                  f.waiting,
                  (
                    f.numbers,
                    (f.windows, (f.streams, (f.filerefs, (f.files, f.show)))),
                  ),
                ),
              ),
            ),
          ),
        ),
      ),
      refl,
      (
        g.setup,
        (
          g.machine,
          (
            g.settings,
            (
              g.random,
              (
                g.undo,
                (
                  g.waiting,
                  (
                    g.numbers,
                    (g.windows, (g.streams, (g.filerefs, (g.files, g.show)))),
                  ),
                ),
              ),
            ),
          ),
        ),
      ),
    ))
    (λ x h. (
      is,
      record {
        setup = h.0;
        machine = h.1.0;
        settings = h.1.1.0;
        random = h.1.1.1.0;
        undo = h.1.1.1.1.0;
        waiting = h.1.1.1.1.1.0;
        numbers = h.1.1.1.1.1.1.0;
        windows = h.1.1.1.1.1.1.1.0;
        streams = h.1.1.1.1.1.1.1.1.0;
        filerefs = h.1.1.1.1.1.1.1.1.1.0;
        files = h.1.1.1.1.1.1.1.1.1.1.0;
        show = h.1.1.1.1.1.1.1.1.1.1.1;
      },
    ))
    (λ x h. refl)

signed_reads : (n : ℕ) → IsReader Fields behind (Signed n) (signed_fields n)
signed_reads n =
    if_reads behind (Signed n) (n == 0x53545732) _ _
    (λ e. made_of n (sym (equal n 0x53545732 e)))
    (λ e. none_reads behind (Signed n) (λ f h. grind (arith, nat_tests, e, h.0)))

fields_reads : IsReader Fields print_fields IsPrintable fields_at
unfolding fields_at print_fields
fields_reads =
    led_reads n4 IsWord print_fields behind IsPrintable (λ f. 0x53545732) n4_at signed_fields
    (λ f h. omega arith) (λ f. refl) n4_reads (λ n h. signed_reads n)

-- ---- all of the bytes

ended : {A : Type 0} (b : Bool) (x y : A) → cond b (Some x) None ≡ Some y → (b ≡ true) × (x ≡ y)
ended true x y e = (refl, some_is x y e)
ended false x y e = absurd cc

abbrev done : Fields → List ℕ → Option (Fields × List ℕ)
done f rest = Some (f, rest)

same : (y : Fields) (rest : List ℕ) (f : Fields) → y ≡ f → rest ≡ [] → done y rest ≡ done f []
same y rest f a b = rw (a, b) refl

-- what was read, with its rest
with_rest : (read : Option (Fields × List ℕ)) (f : Fields) → if_all_read read ≡ Some f
    → read ≡ Some (f, [])
with_rest None f e = absurd cc
with_rest (Some x) f e =
    let g = ended (length x.1 == 0) x.0 f e in
    let nil : x.1 ≡ [] = nil_from_length x.1 (equal (length x.1) 0 g.0) in
    same x.0 x.1 f g.1 nil

spelled : (bytes : List ℕ) (f : Fields) → IsBytes bytes → if_all_read (fields_at bytes) ≡ Some f
    → SpellsFields bytes f
spelled bytes f fits e =
    let t = fields_reads.only bytes [] f fits (with_rest (fields_at bytes) f e) in
    record { ranges = t.good; printed = t.parts ∙ append-nil (print_fields f) }

again : (f : Fields) → IsPrintable f → if_all_read (fields_at (print_fields f)) ≡ Some f
again f h =
    let one : fields_at (print_fields f) ≡ Some (f, []) =
    subst (λ t. fields_at t ≡ Some (f, [])) (append-nil (print_fields f))
    (fields_reads.again f [] h) in
    rw one refl

pub reads_fields : (bytes : List ℕ) (result : Result Fields SnapFault) → IsBytes bytes
    → FindsWhole (if_all_read (fields_at bytes)) result → ReadsFields bytes result
reads_fields bytes (Ok f) fits h = spelled bytes f fits h
reads_fields bytes (Err NoMemory) fits h = tt
reads_fields bytes (Err BadSnap) fits h = λ f s.
    let one : if_all_read (fields_at bytes) ≡ Some f =
    ap (λ t. if_all_read (fields_at t)) s.printed ∙ again f s.ranges in
    absurd (not_both (if_all_read (fields_at bytes)) f h one)
  where
    not_both : (o : Option Fields) (f : Fields) → o ≡ None → o ≡ Some f → ⊥
    not_both None f a b = absurd cc
    not_both (Some x) f a b = absurd cc

pub one_spelling : FieldsHaveOneSpelling
one_spelling f g a b e =
    some_is f g (sym (again f a) ∙ ap (λ t. if_all_read (fields_at t)) e ∙ again g b)

pub each_spelling : ReadsEachSpellingOfFields
each_spelling f (Ok g) h r = sym (one_spelling f g h r.ranges r.printed)
each_spelling f (Err NoMemory) h r = refl
each_spelling f (Err BadSnap) h r = absurd (r f (record { ranges = h; printed = refl }))

pub found : (bytes : List ℕ) (result : Result Fields SnapFault) → ReadsFields bytes result
    → IfOk result (SpellsFields bytes)
found bytes (Ok f) h = h
found bytes (Err e) h = tt

pub exact : (bytes : List ℕ) (result : Result Fields SnapFault) → ReadsFields bytes result
    → IfErr result (RefusesFields bytes)
exact bytes (Ok f) h = tt
exact bytes (Err e) h = h

rest_of : (f g : Fields) (r s : List ℕ) → done f r ≡ done g s → r ≡ s
rest_of f g r s e =
    ap (λ (p : Fields × List ℕ). p.1) (some_is {A = Fields × List ℕ} (f, r) (g, s) e)

pub no_other : BeginsNoOther
no_other f g rest a b e =
    let whole : fields_at (print_fields g) ≡ done g [] =
    subst (λ t. fields_at t ≡ done g []) (append-nil (print_fields g))
    (fields_reads.again g [] b) in
    rest_of f g rest [] (sym (fields_reads.again f rest a) ∙ ap fields_at e ∙ whole)
