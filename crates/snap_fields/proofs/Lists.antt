-- Flags and lists: they are read exactly as they are printed.
use Rattle.std.proofs.Common.{◌≡◌, ℕ, zero, suc, ◌≤◌, Bool, true, false}
use Rattle.std.proofs.Common.{◌==◌, nat_lt, List, [], ◌∷◌, ◌++◌, length, take, drop}
use Rattle.std.proofs.Common.{Some, refl, ap, sym, subst, ◌∙◌, arith, append_assoc}
use Rattle.std.specs.List.{flat_map, AllByRecursion}
use Rattle.std.proofs.lemmas.Bool.{ltb-false, le-ltb}
use Rattle.std.proofs.lemmas.Bool.Decides.{nat_tests}
use Rattle.std.proofs.lemmas.List.{length-append, length-take, take-append-drop, take_at, drop_at}
use Rattle.std.proofs.lemmas.List.Concat.{flat_map-cons}
use Rattle.snap_fields.specs.Numbers.{n1, n4, IsByte, IsWord, IsListOf}
use Rattle.snap_fields.specs.Numbers.{flag, list_of, bytes_with_count}
use Rattle.snap_fields.specs.Reading.{Reader, ◌>>=◌, none_at, pure_at, n1_at, n4_at, bool_at}
use Rattle.snap_fields.specs.Reading.{flag1_at, flag4_at, many_at, taken_at, list_at, bytes_at}
use Rattle.snap_fields.proofs.Readers.{bind_some, some_is, else_some, IsBytes, bytes_take}
use Rattle.snap_fields.proofs.Readers.{rest_bytes, Takes, IsReader, led_reads, none_reads}
use Rattle.snap_fields.proofs.Readers.{pure_reads, if_reads, n1_reads, n4_reads}

-- ---- flags

abbrev IsFlag : Bool → Type 0
IsFlag b = Unit {0}

abbrev FlagIs : ℕ → Bool → Type 0
FlagIs n b = (flag b ≡ n) × IsFlag b

abbrev nothing : Bool → List ℕ
nothing b = []

flag_false : (n : ℕ) (b : Bool) → n ≡ 0 → FlagIs n b → false ≡ b
flag_false n false e h = refl
flag_false n true e h = absurd (omega (arith, h.0, e))

flag_true : (n : ℕ) (b : Bool) → n ≡ 1 → FlagIs n b → true ≡ b
flag_true n true e h = refl
flag_true n false e h = absurd (omega (arith, h.0, e))

flag_none : (n : ℕ) (b : Bool) → (n == 0) ≡ false → (n == 1) ≡ false → FlagIs n b → ⊥
flag_none n false e f h = grind (arith, nat_tests, e, h.0)
flag_none n true e f h = grind (arith, nat_tests, f, h.0)

bool_reads : (n : ℕ) → IsReader Bool nothing (FlagIs n) (bool_at n)
bool_reads n =
    if_reads nothing (FlagIs n) (n == 0) (pure_at false) _
    (λ e. let is : n ≡ 0 = grind (arith, nat_tests, e) in
    pure_reads nothing (FlagIs n) false refl (sym is, tt) (λ b h. flag_false n b is h))
    (λ e. if_reads nothing (FlagIs n) (n == 1) (pure_at true) none_at
    (λ f. let is : n ≡ 1 = grind (arith, nat_tests, f) in
    pure_reads nothing (FlagIs n) true refl (sym is, tt) (λ b h. flag_true n b is h))
    (λ f. none_reads nothing (FlagIs n) (λ b h. flag_none n b e f h)))

flag_byte : (b : Bool) → IsFlag b → IsByte (flag b)
flag_byte false h = omega arith
flag_byte true h = omega arith

flag_word : (b : Bool) → IsFlag b → IsWord (flag b)
flag_word false h = omega arith
flag_word true h = omega arith

pub flag1_reads : IsReader Bool (λ b. n1 (flag b)) IsFlag flag1_at
unfolding flag1_at
flag1_reads =
    led_reads n1 IsByte (λ b. n1 (flag b)) nothing IsFlag flag n1_at bool_at flag_byte
    (λ b. refl) n1_reads (λ n h. bool_reads n)

pub flag4_reads : IsReader Bool (λ b. n4 (flag b)) IsFlag flag4_at
unfolding flag4_at
flag4_reads =
    led_reads n4 IsWord (λ b. n4 (flag b)) nothing IsFlag flag n4_at bool_at flag_word
    (λ b. refl) n4_reads (λ n h. bool_reads n)

-- ---- so many values

abbrev Many : {A : Type 0} → (A → Type 0) → ℕ → List A → Type 0
Many Is n xs = (length xs ≡ n) × AllByRecursion Is xs

many_again : {A : Type 0} (print : A → List ℕ) (Is : A → Type 0) (read : Reader A)
    → IsReader A print Is read → (xs : List A) (rest : List ℕ) → AllByRecursion Is xs
    → many_at read (length xs) (flat_map print xs ++ rest) ≡ Some (xs, rest)
unfolding many_at
many_again print Is read r [] rest h = refl
many_again print Is read r (x ∷ xs) rest h =
    let split : flat_map print (x ∷ xs) ++ rest ≡ print x ++ (flat_map print xs ++ rest) =
    ap (λ t. t ++ rest) (flat_map-cons print x xs)
    ∙ append_assoc (print x) (flat_map print xs) rest in
    ap (many_at read (suc (length xs))) split
    ∙ rw (r.again x (flat_map print xs ++ rest) h.0, many_again print Is read r xs rest h.1) refl

many_only : {A : Type 0} (print : A → List ℕ) (Is : A → Type 0) (read : Reader A)
    → IsReader A print Is read → (n : ℕ) (bytes rest : List ℕ) (xs : List A) → IsBytes bytes
    → many_at read n bytes ≡ Some (xs, rest)
    → Takes (List A) (flat_map print) (Many Is n) bytes rest xs
unfolding many_at
many_only {A} print Is read r zero bytes rest xs fits e =
    subst (λ (q : List A × List ℕ). Takes (List A) (flat_map print) (Many Is 0) bytes q.1 q.0)
    (some_is ([], bytes) (xs, rest) e) (record { parts = refl; good = (refl, tt) })
many_only {A} print Is read r (suc n) bytes rest xs fits e =
    let a = bind_some (read bytes) (λ x. many_at read n x.1 >>= λ xs. Some (x.0 ∷ xs.0, xs.1))
    (xs, rest) e in
    let b = bind_some (many_at read n a.0.1) (λ xs. Some (a.0.0 ∷ xs.0, xs.1)) (xs, rest) a.2 in
    let one = r.only bytes a.0.1 a.0.0 fits a.1 in
    let more = rest_bytes bytes (print a.0.0) a.0.1 one.parts fits in
    let two = many_only print Is read r n a.0.1 b.0.1 b.0.0 more b.1 in
    let whole : bytes ≡ flat_map print (a.0.0 ∷ b.0.0) ++ b.0.1 =
    one.parts ∙ ap (λ t. print a.0.0 ++ t) two.parts
    ∙ sym (append_assoc (print a.0.0) (flat_map print b.0.0) b.0.1)
    ∙ ap (λ t. t ++ b.0.1) (sym (flat_map-cons print a.0.0 b.0.0)) in
    subst (λ (q : List A × List ℕ). Takes (List A) (flat_map print) (Many Is (suc n)) bytes q.1 q.0)
    (some_is (a.0.0 ∷ b.0.0, b.0.1) (xs, rest) b.2)
    (record { parts = whole; good = (ap suc two.good.0, (one.good, two.good.1)) })

pub many_reads : {A : Type 0} (print : A → List ℕ) (Is : A → Type 0) (read : Reader A) (n : ℕ)
    → IsReader A print Is read
    → IsReader (List A) (flat_map print) (Many Is n) (many_at read n)
many_reads print Is read n r = record {
  again = λ xs rest h. subst (λ k. many_at read k (flat_map print xs ++ rest) ≡ Some (xs, rest)) h.0
      (many_again print Is read r xs rest h.1);
  only = λ bytes rest xs fits e. many_only print Is read r n bytes rest xs fits e;
}

pub list_reads : {A : Type 0} (print : A → List ℕ) (Is : A → Type 0) (read : Reader A)
    → IsReader A print Is read → IsReader (List A) (list_of print) (IsListOf Is) (list_at read)
unfolding list_at
list_reads print Is read r =
    led_reads n4 IsWord (list_of print) (flat_map print) (IsListOf Is) length n4_at (many_at read)
    (λ xs h. h.0) (λ xs. refl) n4_reads (λ n small. widened n small)
  where
    widened : (n : ℕ) → IsWord n
        → IsReader (List _) (flat_map print) (λ xs. (length xs ≡ n) × IsListOf Is xs)
        (many_at read n)
    widened n small =
        let m = many_reads print Is read n r in
        record {
          again = λ xs rest h. m.again xs rest (h.0, h.1.1);
          only = λ bytes rest xs fits e.
              let t = m.only bytes rest xs fits e in
              record { parts = t.parts; good = (t.good.0, (rw t.good.0 small, t.good.1)) };
        }

-- ---- lists of bytes

all_bytes : (bytes : List ℕ) → IsBytes bytes → AllByRecursion IsByte bytes
all_bytes [] h = tt
all_bytes (b ∷ bs) h = (h 0, all_bytes bs (λ i. h (suc i)))

abbrev itself : List ℕ → List ℕ
itself bytes = bytes

abbrev So : ℕ → List ℕ → Type 0
So n bytes = (length bytes ≡ n) × IsListOf IsByte bytes

taken_reads : (n : ℕ) → IsWord n → IsReader (List ℕ) itself (So n) (taken_at n)
taken_reads n small = record {
  again = λ bytes rest h.
      let long : nat_lt (length (bytes ++ rest)) n ≡ false =
      le-ltb _ _ (omega (arith, length-append bytes rest, h.0)) in
      rw (long, take_at bytes rest n h.0, drop_at bytes rest n h.0) refl;
  only = λ bytes rest xs fits e.
      let g = else_some (nat_lt (length bytes) n) (Some (take n bytes, drop n bytes)) (xs, rest)
      e in
      let long : n ≤ length bytes = ltb-false _ _ g.0 in
      let len : length (take n bytes) ≡ n = omega (arith, length-take n bytes) in
      subst (λ (q : List ℕ × List ℕ). Takes (List ℕ) itself (So n) bytes q.1 q.0)
      (some_is (take n bytes, drop n bytes) (xs, rest) g.1)
      (record {
        parts = sym (take-append-drop n bytes);
        good = (len, (rw len small, all_bytes (take n bytes) (bytes_take n bytes fits)));
      });
}

pub bytes_reads : IsReader (List ℕ) bytes_with_count (IsListOf IsByte) bytes_at
unfolding bytes_at
bytes_reads =
    led_reads n4 IsWord bytes_with_count itself (IsListOf IsByte) length n4_at taken_at
    (λ bytes h. h.0)
    (λ bytes. refl) n4_reads taken_reads
