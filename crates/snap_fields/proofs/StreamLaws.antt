-- Streams, file references and files: each is read exactly as it is printed.
use Rattle.std.proofs.Common.{◌≡◌, ℕ, ◌==◌, false, List, ◌++◌, refl, sym, arith}
use Rattle.std.proofs.lemmas.Bool.Decides.{nat_tests}
use Rattle.snap_fields.specs.Numbers.{n1, n4, flag, IsByte, IsWord, IsListOf}
use Rattle.snap_fields.specs.declared.glk.SnapFile.{SnapFile}
use Rattle.snap_fields.specs.declared.glk.SnapFileRef.{SnapFileRef}
use Rattle.snap_fields.specs.declared.glk.SnapStream.{SnapStream}
use Rattle.snap_fields.specs.declared.glk.SnapTarget.{SnapTarget}
use Rattle.snap_fields.specs.declared.glk.SnapTarget.TheVariants as target
use Rattle.snap_fields.specs.Printing.{target_kind, print_target, print_stream}
use Rattle.snap_fields.specs.Printing.{print_fileref, print_file}
use Rattle.snap_fields.specs.Printable.{IsTarget, IsStream, IsFileRef, IsFile}
use Rattle.snap_fields.specs.GlkItems.{memory_item, file_target_of, target_at, StreamHead}
use Rattle.snap_fields.specs.GlkItems.{stream_head_at, behind_stream, stream_item, stream_item_at}
use Rattle.snap_fields.specs.GlkItems.{fileref_of, fileref_at, file_item, file_at}
use Rattle.snap_fields.proofs.Readers.{IsReader, ◌before◌, made_reads, joined_reads}
use Rattle.snap_fields.proofs.Readers.{none_reads, pure_reads, if_reads, n1_reads, n4_reads}
use Rattle.snap_fields.proofs.Lists.{bytes_reads, flag1_reads}
use Rattle.snap_fields.proofs.ItemLaws.{equal}
use Rattle.snap_fields.proofs.GlkLaws.{codes_reads}

-- ---- 8. streams

abbrev GoesTo : ℕ → SnapTarget → Type 0
GoesTo kind t = (target_kind t ≡ kind) × IsTarget t

window_only : (n : ℕ) → n ≡ 0 → (t : SnapTarget) → GoesTo n t → target.Window ≡ t
window_only n e target.Window h = refl
window_only n e t h = absurd (omega (arith, e, h.0))

memory_only : (n : ℕ) → n ≡ 1 → (t : SnapTarget) → GoesTo n t
    → (x : ℕ × ℕ) × (memory_item x ≡ t) × (IsWord x.0 × IsWord x.1)
memory_only n e (target.Memory buffer size) h = ((buffer, size), refl, h.1)
memory_only n e t h = absurd (omega (arith, e, h.0))

file_only : (n : ℕ) → n ≡ 2 → (t : SnapTarget) → GoesTo n t
    → (x : ℕ × List ℕ) × (file_target_of x ≡ t) × (IsWord x.0 × IsListOf IsWord x.1)
file_only n e (target.File usage name) h = ((usage, name), refl, h.1)
file_only n e t h = absurd (omega (arith, e, h.0))

no_target : (n : ℕ) → (n == 0) ≡ false → (n == 1) ≡ false → (n == 2) ≡ false
    → (t : SnapTarget) → GoesTo n t → ⊥
no_target n a b c target.Window h = grind (arith, nat_tests, a, h.0)
no_target n a b c (target.Memory buffer size) h = grind (arith, nat_tests, b, h.0)
no_target n a b c (target.File usage name) h = grind (arith, nat_tests, c, h.0)

target_reads : (n : ℕ) → IsReader SnapTarget print_target (GoesTo n) (target_at n)
unfolding target_at
target_reads n =
    if_reads print_target (GoesTo n) (n == 0) _ _
    (λ e. let is = equal n 0 e in
    pure_reads print_target (GoesTo n) target.Window refl (sym is, tt) (window_only n is))
    (λ a. if_reads print_target (GoesTo n) (n == 1) _ _
    (λ e. let is = equal n 1 e in
    made_reads print_target (GoesTo n) memory_item (n4_reads before n4_reads) (memory_only n is)
    (λ x h. (sym is, h)) (λ x h. refl))
    (λ b. if_reads print_target (GoesTo n) (n == 2) _ _
    (λ e. let is = equal n 2 e in
    made_reads print_target (GoesTo n) file_target_of (n4_reads before codes_reads)
    (file_only n is) (λ x h. (sym is, h)) (λ x h. refl))
    (λ c. none_reads print_target (GoesTo n) (no_target n a b c))))

-- a stream up to its target
abbrev print_stream_head : StreamHead → List ℕ
print_stream_head
    (number, (kind, (rock, (mode, (style, (read, (written, (position, unicode)))))))) =
    n4 number ++ (n1 kind ++ (n4 rock ++ (n4 mode ++ (n4 style ++ (n4 read ++ (n4 written
    ++ (n4 position ++ n1 (flag unicode))))))))

abbrev IsStreamHead : StreamHead → Type 0
IsStreamHead (number, (kind, (rock, (mode, (style, (read, (written, (position, unicode)))))))) =
    IsWord number × (IsByte kind × (IsWord rock × (IsWord mode × (IsWord style × (IsWord read
    × (IsWord written × (IsWord position × Unit {0})))))))

stream_head_reads : IsReader StreamHead print_stream_head IsStreamHead stream_head_at
stream_head_reads =
    n4_reads before n1_reads before n4_reads before n4_reads before n4_reads before n4_reads
    before n4_reads before n4_reads before flag1_reads

abbrev IsBehindStream : StreamHead → SnapTarget → Type 0
IsBehindStream head t = GoesTo head.1.0 t

behind_stream_reads : (head : StreamHead)
    → IsReader SnapTarget print_target (IsBehindStream head) (behind_stream head)
behind_stream_reads head = target_reads head.1.0

target_small : (t : SnapTarget) → IsByte (target_kind t)
target_small target.Window = omega arith
target_small (target.Memory buffer size) = omega arith
target_small (target.File usage name) = omega arith

pub stream_reads : IsReader SnapStream print_stream IsStream stream_item_at
unfolding stream_item_at
stream_reads =
    made_reads print_stream IsStream stream_item
    (joined_reads print_stream_head IsStreamHead print_target IsBehindStream stream_head_at
    behind_stream stream_head_reads (λ head h. behind_stream_reads head))
    (λ s h. (
      (
        (
          s.number,
          (
            target_kind s.target,
            (
              s.rock,
              (
                s.mode,
                (
                  s.style,
                  (
                    s.read,
                    (
                      s.written,
                      (s.position, s.unicode),
                    ),
                  ),
                ),
              ),
            ),
          ),
        ),
        s.target,
      ),
      refl,
      (
        (
          h.number,
          (
            target_small s.target,
            (
              h.rock,
              (
                h.mode,
                (
                  h.style,
                  (
                    h.read,
                    (
                      h.written,
                      (h.position, tt),
                    ),
                  ),
                ),
              ),
            ),
          ),
        ),
        (refl, h.target),
      ),
    ))
    (λ x h. record {
      number = h.0.0;
      rock = h.0.1.1.0;
      mode = h.0.1.1.1.0;
      style = h.0.1.1.1.1.0;
      read = h.0.1.1.1.1.1.0;
      written = h.0.1.1.1.1.1.1.0;
      position = h.0.1.1.1.1.1.1.1.0;
      target = h.1.1;
    })
    (λ x h. rw h.1.0 refl)

-- ---- 9. file references and files

pub fileref_reads : IsReader SnapFileRef print_fileref IsFileRef fileref_at
unfolding fileref_at
fileref_reads =
    made_reads print_fileref IsFileRef fileref_of
    (n4_reads before n4_reads before n4_reads before codes_reads)
    (λ r h. (
      (r.number, (r.usage, (r.rock, r.name))),
      refl,
      (h.number, (h.usage, (h.rock, h.name))),
    ))
    (λ x h. record { number = h.0; usage = h.1.0; rock = h.1.1.0; name = h.1.1.1 })
    (λ x h. refl)

pub file_reads : IsReader SnapFile print_file IsFile file_at
unfolding file_at
file_reads =
    made_reads print_file IsFile file_item (n4_reads before codes_reads before bytes_reads)
    (λ f h. ((f.usage, (f.name, f.bytes)), refl, (h.usage, (h.name, h.bytes))))
    (λ x h. record { usage = h.0; name = h.1.0; bytes = h.1.1 })
    (λ x h. refl)
