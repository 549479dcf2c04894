-- Windows, streams, file references and files: each is read exactly as it is printed.
use Rattle.std.proofs.Common.{◌≡◌, ℕ, ◌*◌, ◌==◌, Bool, false, List, [], ◌++◌, length}
use Rattle.std.proofs.Common.{refl, sym, arith, append_assoc}
use Rattle.std.specs.List.{AllByRecursion}
use Rattle.std.proofs.lemmas.Bool.Decides.{nat_tests}
use Rattle.snap_fields.specs.Numbers.{n1, n4, flag, IsByte, IsWord, IsListOf, list_of}
use Rattle.snap_fields.specs.Reading.{n1_at, n4_at, list_at}
use Rattle.snap_fields.specs.declared.glk.SnapArea.{SnapArea}
use Rattle.snap_fields.specs.declared.glk.SnapContent.{SnapContent}
use Rattle.snap_fields.specs.declared.glk.SnapContent.TheVariants.{Pair, Blank, Buffer, Grid}
use Rattle.snap_fields.specs.declared.glk.SnapRequest.{SnapRequest}
use Rattle.snap_fields.specs.declared.glk.SnapRequest.TheVariants.{Nothing, Line, Char}
use Rattle.snap_fields.specs.declared.glk.SnapWindow.{SnapWindow}
use Rattle.snap_fields.specs.Printing.{type_of, print_area, print_content, print_glk_request}
use Rattle.snap_fields.specs.Printing.{print_window}
use Rattle.snap_fields.specs.Printable.{IsArea, IsContent, IsGlkRequest, IsWindow}
use Rattle.snap_fields.specs.GlkItems.{area_item, area_at, pair_item, grid_of, content_at}
use Rattle.snap_fields.specs.GlkItems.{line_item, request_with, request_at, Head}
use Rattle.snap_fields.specs.GlkItems.{head_at, behind_head, window_item, window_item_at}
use Rattle.snap_fields.proofs.Readers.{IsReader, ◌before◌, made_reads, led_reads, joined_reads}
use Rattle.snap_fields.proofs.Readers.{none_reads, pure_reads, if_reads, n1_reads, n4_reads}
use Rattle.snap_fields.proofs.Lists.{list_reads, many_reads, flag1_reads, flag4_reads}
use Rattle.snap_fields.proofs.ItemLaws.{equal}

pub codes_reads : IsReader (List ℕ) (list_of n4) (IsListOf IsWord) (list_at n4_at)
codes_reads = list_reads n4 IsWord n4_at n4_reads

-- ---- 7. windows

pub area_reads : IsReader SnapArea print_area IsArea area_at
unfolding area_at
area_reads =
    made_reads print_area IsArea area_item
    (n4_reads before n4_reads before n4_reads before n4_reads)
    (λ a h. ((a.x, (a.y, (a.w, a.h))), refl, (h.x, (h.y, (h.w, h.h)))))
    (λ x h. record { x = h.0; y = h.1.0; w = h.1.1.0; h = h.1.1.1 })
    (λ x h. refl)

abbrev Holds : SnapArea → ℕ → SnapContent → Type 0
Holds area type content = (type_of content ≡ type) × IsContent area content

pair_only : (area : SnapArea) (n : ℕ) → n ≡ 1 → (c : SnapContent) → Holds area n c
    → (x : ℕ × (ℕ × (ℕ × (ℕ × ℕ)))) × (pair_item x ≡ c)
    × (IsWord x.0 × (IsWord x.1.0 × (IsWord x.1.1.0 × (IsWord x.1.1.1.0 × IsWord x.1.1.1.1))))
pair_only area n e (Pair method size key first second) h =
    ((method, (size, (key, (first, second)))), refl, (h.1.0, (h.1.1, (h.1.2, (h.1.3, h.1.4)))))
pair_only area n e c h = absurd (omega (arith, e, h.0))

blank_only : (area : SnapArea) (n : ℕ) → n ≡ 2 → (c : SnapContent) → Holds area n c → Blank ≡ c
blank_only area n e Blank h = refl
blank_only area n e c h = absurd (omega (arith, e, h.0))

buffer_only : (area : SnapArea) (n : ℕ) → n ≡ 3 → (c : SnapContent) → Holds area n c → Buffer ≡ c
buffer_only area n e Buffer h = refl
buffer_only area n e c h = absurd (omega (arith, e, h.0))

abbrev Cells : SnapArea → List ℕ → Type 0
Cells area cells = (length cells ≡ area.w * area.h) × AllByRecursion IsWord cells

grid_only : (area : SnapArea) (n : ℕ) → n ≡ 4 → (c : SnapContent) → Holds area n c
    → (x : ℕ × (ℕ × List ℕ)) × (grid_of x ≡ c)
    × (IsWord x.0 × (IsWord x.1.0 × Cells area x.1.1))
grid_only area n e (Grid x y cells) h =
    ((x, (y, cells)), refl, (h.1.0, (h.1.1, (h.1.2, h.1.3))))
grid_only area n e c h = absurd (omega (arith, e, h.0))

no_type : (area : SnapArea) (n : ℕ) → (n == 1) ≡ false → (n == 2) ≡ false → (n == 3) ≡ false
    → (n == 4) ≡ false → (c : SnapContent) → Holds area n c → ⊥
no_type area n a b c d (Pair method size key first second) h = grind (arith, nat_tests, a, h.0)
no_type area n a b c d Blank h = grind (arith, nat_tests, b, h.0)
no_type area n a b c d Buffer h = grind (arith, nat_tests, c, h.0)
no_type area n a b c d (Grid x y cells) h = grind (arith, nat_tests, d, h.0)

pub content_reads : (n : ℕ) (area : SnapArea)
    → IsReader SnapContent print_content (Holds area n) (content_at n area)
unfolding content_at
content_reads n area =
    if_reads print_content (Holds area n) (n == 1) _ _
    (λ e. let is = equal n 1 e in
    made_reads print_content (Holds area n) pair_item
    (n4_reads before n4_reads before n4_reads before n4_reads before n4_reads)
    (pair_only area n is)
    (λ x h. (sym is, (h.0, h.1.0, h.1.1.0, h.1.1.1.0, h.1.1.1.1))) (λ x h. refl))
    (λ a. if_reads print_content (Holds area n) (n == 2) _ _
    (λ e. let is = equal n 2 e in
    pure_reads print_content (Holds area n) Blank refl (sym is, tt) (blank_only area n is))
    (λ b. if_reads print_content (Holds area n) (n == 3) _ _
    (λ e. let is = equal n 3 e in
    pure_reads print_content (Holds area n) Buffer refl (sym is, tt) (buffer_only area n is))
    (λ c. if_reads print_content (Holds area n) (n == 4) _ _
    (λ e. let is = equal n 4 e in
    made_reads print_content (Holds area n) grid_of
    (n4_reads before n4_reads before many_reads n4 IsWord n4_at (area.w * area.h) n4_reads)
    (grid_only area n is)
    (λ x h. (sym is, (h.0, h.1.0, h.1.1.0, h.1.1.1))) (λ x h. refl))
    (λ d. none_reads print_content (Holds area n) (no_type area n a b c d)))))

abbrev kind_in : SnapRequest → ℕ
kind_in Nothing = 0
kind_in (Line unicode buffer maximum initial echo terminators) = 1
kind_in (Char unicode) = 2

abbrev behind_kind : SnapRequest → List ℕ
behind_kind Nothing = []
behind_kind (Line unicode buffer maximum initial echo terminators) =
    n1 (flag unicode) ++ (n4 buffer ++ (n4 maximum ++ (n4 initial
    ++ (n1 (flag echo) ++ list_of n4 terminators))))
behind_kind (Char unicode) = n1 (flag unicode)

abbrev Asks : ℕ → SnapRequest → Type 0
Asks kind r = (kind_in r ≡ kind) × IsGlkRequest r

kind_small : (r : SnapRequest) → IsGlkRequest r → IsByte (kind_in r)
kind_small Nothing h = omega arith
kind_small (Line unicode buffer maximum initial echo terminators) h = omega arith
kind_small (Char unicode) h = omega arith

led : (r : SnapRequest) → print_glk_request r ≡ n1 (kind_in r) ++ behind_kind r
led Nothing = refl
led (Line unicode buffer maximum initial echo terminators) = refl
led (Char unicode) = refl

nothing_only : (n : ℕ) → n ≡ 0 → (r : SnapRequest) → Asks n r → Nothing ≡ r
nothing_only n e Nothing h = refl
nothing_only n e r h = absurd (omega (arith, e, h.0))

line_only : (n : ℕ) → n ≡ 1 → (r : SnapRequest) → Asks n r
    → (x : Bool × (ℕ × (ℕ × (ℕ × (Bool × List ℕ))))) × (line_item x ≡ r)
    × (Unit {0} × (IsWord x.1.0 × (IsWord x.1.1.0 × (IsWord x.1.1.1.0
    × (Unit {0} × IsListOf IsWord x.1.1.1.1.1)))))
line_only n e (Line unicode buffer maximum initial echo terminators) h = (
  (unicode, (buffer, (maximum, (initial, (echo, terminators))))),
  refl,
  (tt, (h.1.0, (h.1.1, (h.1.2, (tt, h.1.3))))),
)
line_only n e r h = absurd (omega (arith, e, h.0))

char_only : (n : ℕ) → n ≡ 2 → (r : SnapRequest) → Asks n r
    → (unicode : Bool) × (Char unicode ≡ r) × Unit {0}
char_only n e (Char unicode) h = (unicode, refl, tt)
char_only n e r h = absurd (omega (arith, e, h.0))

no_request : (n : ℕ) → (n == 0) ≡ false → (n == 1) ≡ false → (n == 2) ≡ false
    → (r : SnapRequest) → Asks n r → ⊥
no_request n a b c Nothing h = grind (arith, nat_tests, a, h.0)
no_request n a b c (Line unicode buffer maximum initial echo terminators) h =
    grind (arith, nat_tests, b, h.0)
no_request n a b c (Char unicode) h = grind (arith, nat_tests, c, h.0)

request_with_reads : (n : ℕ) → IsReader SnapRequest behind_kind (Asks n) (request_with n)
request_with_reads n =
    if_reads behind_kind (Asks n) (n == 0) _ _
    (λ e. let is = equal n 0 e in
    pure_reads behind_kind (Asks n) Nothing refl (sym is, tt) (nothing_only n is))
    (λ a. if_reads behind_kind (Asks n) (n == 1) _ _
    (λ e. let is = equal n 1 e in
    made_reads behind_kind (Asks n) line_item
    (flag1_reads before n4_reads before n4_reads before n4_reads before flag1_reads
    before codes_reads)
    (line_only n is)
    (λ x h. (sym is, (h.1.0, h.1.1.0, h.1.1.1.0, h.1.1.1.1.1))) (λ x h. refl))
    (λ b. if_reads behind_kind (Asks n) (n == 2) _ _
    (λ e. let is = equal n 2 e in
    made_reads behind_kind (Asks n) Char flag1_reads (char_only n is)
    (λ x h. (sym is, tt)) (λ x h. refl))
    (λ c. none_reads behind_kind (Asks n) (no_request n a b c))))

pub request_reads : IsReader SnapRequest print_glk_request IsGlkRequest request_at
unfolding request_at
request_reads =
    led_reads n1 IsByte print_glk_request behind_kind IsGlkRequest kind_in n1_at request_with
    kind_small led n1_reads (λ n h. request_with_reads n)

-- a window up to its rectangle, and what stands behind it
abbrev print_head : Head → List ℕ
print_head
    (number, (type, (rock, (stream, (echo_stream, (parent, (echo, (terminators, area)))))))) =
    n4 number ++ (n4 type ++ (n4 rock ++ (n4 stream ++ (n4 echo_stream ++ (n4 parent
    ++ (n4 (flag echo) ++ (list_of n4 terminators ++ print_area area)))))))

abbrev IsHead : Head → Type 0
IsHead (number, (type, (rock, (stream, (echo_stream, (parent, (echo, (terminators, area)))))))) =
    IsWord number × (IsWord type × (IsWord rock × (IsWord stream × (IsWord echo_stream
    × (IsWord parent × (Unit {0} × (IsListOf IsWord terminators × IsArea area)))))))

head_reads : IsReader Head print_head IsHead head_at
head_reads =
    n4_reads before n4_reads before n4_reads before n4_reads before n4_reads before n4_reads
    before flag4_reads before codes_reads before area_reads

abbrev print_behind : SnapContent × SnapRequest → List ℕ
print_behind p = print_content p.0 ++ print_glk_request p.1

abbrev IsBehind : Head → SnapContent × SnapRequest → Type 0
IsBehind (number, (type, (rock, (stream, (echo_stream, (parent, (echo, (terminators, area))))))))
    p = Holds area type p.0 × IsGlkRequest p.1

behind_reads : (head : Head) → IsReader (SnapContent × SnapRequest) print_behind (IsBehind head)
    (behind_head head)
behind_reads
    (number, (type, (rock, (stream, (echo_stream, (parent, (echo, (terminators, area)))))))) =
    content_reads type area before request_reads

type_small : (content : SnapContent) → IsWord (type_of content)
type_small (Pair method size key first second) = omega arith
type_small Blank = omega arith
type_small Buffer = omega arith
type_small (Grid x y cells) = omega arith

pub window_reads : IsReader SnapWindow print_window IsWindow window_item_at
unfolding window_item_at
window_reads =
    made_reads print_window IsWindow window_item
    (joined_reads print_head IsHead print_behind IsBehind head_at behind_head head_reads
    (λ head h. behind_reads head))
    (λ w h. (
      (
        (
          w.number,
          (
            type_of w.content,
            (
              w.rock,
              (
                w.stream,
                (
                  w.echo_stream,
                  (
                    w.parent,
                    (w.echo, (w.terminators, w.area)),
                  ),
                ),
              ),
            ),
          ),
        ),
        (w.content, w.request),
      ),
      refl,
      (
        (
          h.number,
          (
            type_small w.content,
            (
              h.rock,
              (
                h.stream,
                (
                  h.echo_stream,
                  (
                    h.parent,
                    (tt, (h.terminators, h.area)),
                  ),
                ),
              ),
            ),
          ),
        ),
        ((refl, h.content), h.request),
      ),
    ))
    (λ x h. record {
      number = h.0.0;
      rock = h.0.1.1.0;
      stream = h.0.1.1.1.0;
      echo_stream = h.0.1.1.1.1.0;
      parent = h.0.1.1.1.1.1.0;
      terminators = h.0.1.1.1.1.1.1.1.0;
      area = h.0.1.1.1.1.1.1.1.1;
      content = h.1.0.1;
      request = h.1.1;
    })
    (λ x h. rw (
      h.1.0.0,
      append_assoc (list_of n4 x.0.1.1.1.1.1.1.1.0)
          (print_area x.0.1.1.1.1.1.1.1.1) (print_behind x.1),
    ) refl)
