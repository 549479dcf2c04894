-- Readers and what they read: each takes exactly what is printed, and these laws compose.
use Rattle.std.proofs.Common.{◌≡◌, ℕ, ◌+◌, ◌^◌, ◌<◌, ◌≤◌, Bool, true, false, cond, nat_lt, List, []}
use Rattle.std.proofs.Common.{◌∷◌, ◌++◌, length, get_or, take, drop, Option, Some, None, refl, ap}
use Rattle.std.proofs.Common.{sym, subst, ◌∙◌, arith, append_assoc, inl, inr}
use Rattle.std.specs.Int.{Width, w32, w64, byte_len, from_be_bytes, to_be_bytes}
use Rattle.std.proofs.lemmas.List.{length-append, length-take, take-append-drop, take_at, drop_at}
use Rattle.std.proofs.lemmas.List.{get_or-append-add, get_or-drop, get_or-take, get_or_past}
use Rattle.std.proofs.lemmas.Bool.{cases_lt, ltb-false, le-ltb}
use Rattle.std.proofs.lemmas.Nat.{be_bytes_4, be_bytes_8, from_be_bytes-to_be_bytes_4}
use Rattle.std.proofs.lemmas.Nat.{from_be_bytes-to_be_bytes_8}
use Rattle.snap_fields.specs.Numbers.{n1, n4, n8, IsByte, IsWord, IsLong}
use Rattle.snap_fields.specs.Reading.{Reader, ◌>>=◌, readers_joined, ◌then◌, led_by, reader_made}
use Rattle.snap_fields.specs.Reading.{none_at, pure_at, number_of_width, n1_at, n4_at, n8_at}

-- ---- tools

pub bind_some : {A B : Type 0} (r : Option A) (f : A → Option B) (y : B)
    → (r >>= f) ≡ Some y → (x : A) × (r ≡ Some x) × (f x ≡ Some y)
bind_some (Some x) f y e = (x, refl, e)
bind_some None f y e = absurd cc

abbrev some : {A : Type 0} → A → Option A
some x = Some x

pub some_is : {A : Type 0} (x y : A) → some x ≡ some y → x ≡ y
some_is x y e = cc

pub else_some : {A : Type 0} (b : Bool) (x : Option A) (y : A)
    → cond b None x ≡ Some y → (b ≡ false) × (x ≡ Some y)
else_some true x y e = absurd cc
else_some false x y e = (refl, e)

abbrev pub IsBytes : List ℕ → Type 0
IsBytes bytes = (i : ℕ) → get_or bytes i 0 < 256

-- what follows is bytes again
pub rest_bytes : (bytes front rest : List ℕ) → bytes ≡ front ++ rest → IsBytes bytes → IsBytes rest
rest_bytes bytes front rest e h i =
    subst (λ n. n < 256) (get_or-append-add front rest i 0)
    (subst (λ t. get_or t (length front + i) 0 < 256) e (h (length front + i)))

-- ---- the law

-- what a reader took from the front
pub record Takes (A : Type 0) (print : A → List ℕ) (Is : A → Type 0) (bytes rest : List ℕ)
    (x : A) : Type 0 where
  pub parts : bytes ≡ print x ++ rest
  pub good : Is x

-- the reader takes exactly what is printed of such values
pub record IsReader (A : Type 0) (print : A → List ℕ) (Is : A → Type 0)
    (read : Reader A) : Type 0 where
  pub again : (x : A) (rest : List ℕ) → Is x → read (print x ++ rest) ≡ Some (x, rest)
  pub only : (bytes rest : List ℕ) (x : A) → IsBytes bytes → read bytes ≡ Some (x, rest)
      → Takes A print Is bytes rest x

pub joined_reads : {A B : Type 0} (print : A → List ℕ) (Is : A → Type 0) (behind : B → List ℕ)
    (Fits : A → B → Type 0) (first : Reader A) (second : A → Reader B)
    → IsReader A print Is first
    → ((x : A) → Is x → IsReader B behind (Fits x) (second x))
    → IsReader (A × B) (λ p. print p.0 ++ behind p.1) (λ p. Is p.0 × Fits p.0 p.1)
    (readers_joined first second)
joined_reads {A} {B} print Is behind Fits first second f s = record {
  again = λ p rest h.
      let split : (print p.0 ++ behind p.1) ++ rest ≡ print p.0 ++ (behind p.1 ++ rest) =
      append_assoc (print p.0) (behind p.1) rest in
      rw (split, f.again p.0 (behind p.1 ++ rest) h.0, (s p.0 h.0).again p.1 rest h.1) refl;
  only = λ bytes rest p fits e.
      let a = bind_some (first bytes) (λ x. second x.0 x.1 >>= λ y. Some ((x.0, y.0), y.1))
      (p, rest) e in
      let b = bind_some (second a.0.0 a.0.1) (λ y. Some ((a.0.0, y.0), y.1)) (p, rest) a.2 in
      let one = f.only bytes a.0.1 a.0.0 fits a.1 in
      let more = rest_bytes bytes (print a.0.0) a.0.1 one.parts fits in
      let two = (s a.0.0 one.good).only a.0.1 b.0.1 b.0.0 more b.1 in
      let whole : bytes ≡ (print a.0.0 ++ behind b.0.0) ++ b.0.1 =
      one.parts ∙ ap (λ t. print a.0.0 ++ t) two.parts
      ∙ sym (append_assoc (print a.0.0) (behind b.0.0) b.0.1) in
      subst (λ (q : (A × B) × List ℕ). Takes (A × B) (λ p. print p.0 ++ behind p.1)
      (λ p. Is p.0 × Fits p.0 p.1) bytes q.1 q.0)
      (some_is ((a.0.0, b.0.0), b.0.1) (p, rest) b.2)
      (record { parts = whole; good = (one.good, two.good) });
}

infixr 20 ◌before◌
pub ◌before◌ : {A B : Type 0} {print : A → List ℕ} {Is : A → Type 0} {behind : B → List ℕ}
    {Fits : B → Type 0} {first : Reader A} {second : Reader B}
    → IsReader A print Is first → IsReader B behind Fits second
    → IsReader (A × B) (λ p. print p.0 ++ behind p.1) (λ p. Is p.0 × Fits p.1) (first then second)
◌before◌ {print = print} {Is = Is} {behind = behind} {Fits = Fits} {first = first}
    {second = second} f s =
    joined_reads print Is behind (λ _. Fits) first (λ _. second) f (λ _ _. s)

-- a value made of others: each such value is made of some
pub made_reads : {A B : Type 0} {print : A → List ℕ} {Is : A → Type 0} {read : Reader A}
    (whole : B → List ℕ) (Fits : B → Type 0) (f : A → B) (r : IsReader A print Is read)
    → ((y : B) → Fits y → (x : A) × (f x ≡ y) × Is x)
    → ((x : A) → Is x → Fits (f x))
    → ((x : A) → Is x → whole (f x) ≡ print x)
    → IsReader B whole Fits (reader_made f read)
made_reads {A} {B} {print = print} {Is = Is} {read = read} whole Fits f r view good same = record {
  again = λ y rest h.
      let v = view y h in
      let one : read (whole (f v.0) ++ rest) ≡ Some (v.0, rest) =
      ap (λ t. read (t ++ rest)) (same v.0 v.2) ∙ r.again v.0 rest v.2 in
      subst (λ z. reader_made f read (whole z ++ rest) ≡ Some (z, rest)) v.1 (rw one refl);
  only = λ bytes rest y fits e.
      let a = bind_some (read bytes) (λ x. Some (f x.0, x.1)) (y, rest) e in
      let one = r.only bytes a.0.1 a.0.0 fits a.1 in
      subst (λ (q : B × List ℕ). Takes B whole Fits bytes q.1 q.0)
      (some_is (f a.0.0, a.0.1) (y, rest) a.2)
      (record {
        parts = one.parts ∙ ap (λ t. t ++ a.0.1) (sym (same a.0.0 one.good));
        good = good a.0.0 one.good;
      });
}

-- a value that is led by a number
pub led_reads : {A : Type 0} (lead : ℕ → List ℕ) (IsLead : ℕ → Type 0) (whole behind : A → List ℕ)
    (Is : A → Type 0) (number : A → ℕ) (first : Reader ℕ) (second : ℕ → Reader A)
    → ((x : A) → Is x → IsLead (number x))
    → ((x : A) → whole x ≡ lead (number x) ++ behind x)
    → IsReader ℕ lead IsLead first
    → ((n : ℕ) → IsLead n → IsReader A behind (λ x. (number x ≡ n) × Is x) (second n))
    → IsReader A whole Is (led_by first second)
led_reads {A} lead IsLead whole behind Is number first second small text f s = record {
  again = λ x rest h.
      let split : whole x ++ rest ≡ lead (number x) ++ (behind x ++ rest) =
      ap (λ t. t ++ rest) (text x) ∙ append_assoc (lead (number x)) (behind x) rest in
      rw (split, f.again (number x) (behind x ++ rest) (small x h))
      ((s (number x) (small x h)).again x rest (refl, h));
  only = λ bytes rest x fits e.
      let a = bind_some (first bytes) (λ n. second n.0 n.1) (x, rest) e in
      let one = f.only bytes a.0.1 a.0.0 fits a.1 in
      let more = rest_bytes bytes (lead a.0.0) a.0.1 one.parts fits in
      let two = (s a.0.0 one.good).only a.0.1 rest x more a.2 in
      record {
        parts = one.parts ∙ ap (λ t. lead a.0.0 ++ t) two.parts
            ∙ ap (λ n. lead n ++ (behind x ++ rest)) (sym two.good.0)
            ∙ sym (append_assoc (lead (number x)) (behind x) rest)
            ∙ ap (λ t. t ++ rest) (sym (text x));
        good = two.good.1;
      };
}

pub none_reads : {A : Type 0} (print : A → List ℕ) (Is : A → Type 0)
    → ((x : A) → Is x → ⊥) → IsReader A print Is none_at
none_reads print Is never = record {
  again = λ x rest h. absurd (never x h);
  only = λ bytes rest x fits e. absurd cc;
}

pub pure_reads : {A : Type 0} (print : A → List ℕ) (Is : A → Type 0) (y : A)
    → print y ≡ [] → Is y → ((x : A) → Is x → y ≡ x) → IsReader A print Is (pure_at y)
pure_reads {A} print Is y empty good one = record {
  again = λ x rest h. subst (λ z. pure_at y (print z ++ rest) ≡ Some (z, rest)) (one x h)
      (rw empty refl);
  only = λ bytes rest x fits e.
      subst (λ (q : A × List ℕ). Takes A print Is bytes q.1 q.0)
      (some_is (y, bytes) (x, rest) e) (record { parts = rw empty refl; good = good });
}

-- one of two readers, by a test
pub if_reads : {A : Type 0} (print : A → List ℕ) (Is : A → Type 0) (b : Bool) (r s : Reader A)
    → (b ≡ true → IsReader A print Is r) → (b ≡ false → IsReader A print Is s)
    → IsReader A print Is (cond b r s)
if_reads print Is true r s one other = one refl
if_reads print Is false r s one other = other refl

-- ---- numbers

bytes_drop : (n : ℕ) (bytes : List ℕ) → IsBytes bytes → IsBytes (drop n bytes)
bytes_drop n bytes h i = rw get_or-drop (h (n + i))

pub bytes_take : (n : ℕ) (bytes : List ℕ) → IsBytes bytes → IsBytes (take n bytes)
bytes_take n bytes h i =
    elim (cases_lt i n) [
      | inl lt ↦ rw (get_or-take n bytes i 0 lt) (h i)
      | inr le ↦ rw (get_or_past (take n bytes) i 0 (omega (arith, length-take n bytes)))
          (omega arith)
    ]

record IsWide (w : Width) (limit : ℕ) : Type 0 where
  pub len : (n : ℕ) → length (to_be_bytes w n) ≡ byte_len w
  pub back : (bytes : List ℕ) → length bytes ≡ byte_len w → IsBytes bytes
      → to_be_bytes w (from_be_bytes w bytes) ≡ bytes
  pub again : (n : ℕ) → n < limit → from_be_bytes w (to_be_bytes w n) ≡ n
  pub below : (bytes : List ℕ) → IsBytes bytes → from_be_bytes w bytes < limit

wide32 : IsWide w32 (2 ^ 32)
wide32 = record {
  len = λ n. refl;
  back = λ bytes len fits. be_bytes_4 bytes _ len fits refl;
  again = λ n lt. from_be_bytes-to_be_bytes_4 n lt;
  below = λ bytes fits. omega (arith, fits 0, fits 1, fits 2, fits 3);
}

wide64 : IsWide w64 (2 ^ 64)
wide64 = record {
  len = λ n. refl;
  back = λ bytes len fits. be_bytes_8 bytes _ len fits refl;
  again = λ n lt. from_be_bytes-to_be_bytes_8 n lt;
  below = λ bytes fits.
      omega (arith, fits 0, fits 1, fits 2, fits 3, fits 4, fits 5, fits 6, fits 7);
}

number_reads : (w : Width) (limit : ℕ) → IsWide w limit
    → IsReader ℕ (to_be_bytes w) (λ n. n < limit) (number_of_width w)
number_reads w limit wide = record {
  again = λ n rest lt.
      let len = wide.len n in
      let long : nat_lt (length (to_be_bytes w n ++ rest)) (byte_len w) ≡ false =
      le-ltb _ _ (omega (arith, length-append (to_be_bytes w n) rest, len)) in
      rw (
        long,
        take_at (to_be_bytes w n) rest (byte_len w) len,
        drop_at (to_be_bytes w n) rest (byte_len w) len,
        wide.again n lt,
      ) refl;
  only = λ bytes rest n fits e.
      let size = byte_len w in
      let front = take size bytes in
      let g = else_some (nat_lt (length bytes) size)
      (Some (from_be_bytes w front, drop size bytes)) (n, rest) e in
      let long : size ≤ length bytes = ltb-false _ _ g.0 in
      let len : length front ≡ size = omega (arith, length-take size bytes) in
      let fit = bytes_take size bytes fits in
      subst (λ (q : ℕ × List ℕ). Takes ℕ (to_be_bytes w) (λ n. n < limit) bytes q.1 q.0)
      (some_is (from_be_bytes w front, drop size bytes) (n, rest) g.1)
      (record {
        parts = rw (wide.back front len fit) (sym (take-append-drop size bytes));
        good = wide.below front fit;
      });
}

pub n4_reads : IsReader ℕ n4 IsWord n4_at
unfolding n4_at
n4_reads = number_reads w32 (2 ^ 32) wide32

pub n8_reads : IsReader ℕ n8 IsLong n8_at
unfolding n8_at
n8_reads = number_reads w64 (2 ^ 64) wide64

n1_only : (bytes rest : List ℕ) (n : ℕ) → IsBytes bytes → n1_at bytes ≡ Some (n, rest)
    → Takes ℕ n1 IsByte bytes rest n
unfolding n1_at
n1_only [] rest n fits e = absurd cc
n1_only (b ∷ bs) rest n fits e =
    subst (λ (q : ℕ × List ℕ). Takes ℕ n1 IsByte (b ∷ bs) q.1 q.0) (some_is (b, bs) (n, rest) e)
    (record { parts = refl; good = fits 0 })

pub n1_reads : IsReader ℕ n1 IsByte n1_at
unfolding n1_at
n1_reads = record { again = λ n rest h. refl; only = n1_only }
