-- Lemmas on bytes in place of others.
use Rattle.std.proofs.Common.{◌≡◌, ◌≢◌, ℕ, ◌+◌, ◌-◌, ◌/◌, ◌%◌, ◌<◌, ◌≤◌, List, ◌++◌, length}
use Rattle.std.proofs.Common.{get_or, take, drop, slice_index, refl, ap, sym, ◌∙◌, arith, subst}
use Rattle.std.proofs.Common.{Bool, true, false, inl, inr, length-take-le}
use Rattle.std.proofs.lemmas.List.{same_lists, places, get_or_append_left, get_or-append_right}
use Rattle.std.proofs.lemmas.List.{get_or_default, length-append, length-replicate, take-replicate}
use Rattle.std.proofs.lemmas.List.{replicate-append-replicate}
use Rattle.std.proofs.lemmas.Bool.{cases_lt, cases_eq, leb-true}
use Rattle.std.specs.Prelude.{nat_le, replicate}
use Rattle.vm_memory.specs.MemoryMap.{replaced}
use Rattle.vm_memory.specs.Pages.{Rows, page_in, shown, PutsBytes, Shows, page_after_write}
use Rattle.vm_memory.proofs.RowLemmas.{shows_alike}

pub length_replaced : (bytes : List ℕ) (at : ℕ) (new : List ℕ) → at + length new ≤ length bytes
    → length (replaced bytes at new) ≡ length bytes
length_replaced bytes at new within = grind (arith, places)

pub byte_before : (bytes : List ℕ) (at : ℕ) (new : List ℕ) (k d : ℕ)
    → at + length new ≤ length bytes → k < at
    → get_or (replaced bytes at new) k d ≡ get_or bytes k d
byte_before bytes at new k d within low = grind (arith, places)

pub byte_within : (bytes : List ℕ) (at : ℕ) (new : List ℕ) (k d : ℕ)
    → at + length new ≤ length bytes → at ≤ k → k < at + length new
    → get_or (replaced bytes at new) k d ≡ slice_index new (k - at)
byte_within bytes at new k d within low high =
    let n = length-take-le at bytes (omega arith) in
    get_or_append_left (take at bytes ++ new) (drop (at + length new) bytes) d k (omega
    (arith, n, length-append (take at bytes) new))
    ∙ get_or-append_right (take at bytes) new at k d n low
    ∙ get_or_default new (k - at) d 0 (omega arith)

pub byte_after : (bytes : List ℕ) (at : ℕ) (new : List ℕ) (k d : ℕ)
    → at + length new ≤ length bytes → at + length new ≤ k
    → get_or (replaced bytes at new) k d ≡ get_or bytes k d
byte_after bytes at new k d within high = grind (arith, places)

-- bytes that are written into a page
pub puts_page : (rom : List ℕ) (old new : Rows) (at : ℕ) (bytes : List ℕ)
    → at % 256 + length bytes ≤ 256 → at % 256 + length bytes ≤ length (page_in old (at / 256))
    → page_in new (at / 256) ≡ replaced (page_in old (at / 256)) (at % 256) bytes → ((k : ℕ)
    → k ≢ at / 256 → page_in new k ≡ page_in old k) → PutsBytes rom old new at bytes
unfolding shown
puts_page rom old new at bytes within fits put kept =
    let page = page_in old (at / 256) in
    let here : (i : ℕ) → i / 256 ≡ at / 256
    → shown rom new i ≡ get_or (replaced page (at % 256) bytes) (i % 256)
    (slice_index rom i) = λ i e. rw (e, put) refl in
    let was : (i : ℕ) → i / 256 ≡ at / 256
    → shown rom old i ≡ get_or page (i % 256) (slice_index rom i) = λ i e. rw e refl in
    let other : (i : ℕ) → i / 256 ≢ at / 256
    → shown rom new i ≡ shown rom old i = λ i q. rw (kept (i / 256) q) refl in
    record {
      inside = λ i low high.
          here i (omega arith)
          ∙ byte_within page (at % 256) bytes (i % 256) (slice_index rom i) fits (omega arith)
          (omega arith) ∙ ap (slice_index bytes) (omega arith);
      below = λ i low. elim (cases_eq (i / 256) (at / 256)) [
        | inl e ↦ here i e
            ∙ byte_before page (at % 256) bytes (i % 256) (slice_index rom i) fits (omega arith)
            ∙ sym (was i e)
        | inr q ↦ other i q
      ];
      past = λ i high. elim (cases_eq (i / 256) (at / 256)) [
        | inl e ↦ here i e
            ∙ byte_after page (at % 256) bytes (i % 256) (slice_index rom i) fits (omega arith)
            ∙ sym (was i e)
        | inr q ↦ other i q
      ];
      held = λ n h. elim (cases_eq n (at / 256)) [
        | inl e ↦
            let whole : 256 ≤ length page = rw e at h in
            rw e (omega (arith, ap length put, length_replaced page (at % 256) bytes fits, whole))
        | inr q ↦ rw (kept n q) h
      ];
    }

pub put_in_puts : (rom : List ℕ) (old new : Rows) (at : ℕ) (bytes : List ℕ) (r : Bool)
    → at % 256 + length bytes ≤ 256
    → r ≡ nat_le (at % 256 + length bytes) (length (page_in old (at / 256)))
    → page_in new (at / 256) ≡ page_after_write (at % 256) bytes (page_in old (at / 256)) → ((k : ℕ)
    → k ≢ at / 256 → page_in new k ≡ page_in old k) → r ≡ true → PutsBytes rom old new at bytes
put_in_puts rom old new at bytes r within is put kept t =
    let fits = sym is ∙ t in
    puts_page rom old new at bytes within (leb-true _ _ fits) (rw fits at put) kept

pub put_in_shows : (rom : List ℕ) (old new : Rows) (at : ℕ) (bytes : List ℕ) (r : Bool)
    → r ≡ nat_le (at % 256 + length bytes) (length (page_in old (at / 256)))
    → page_in new (at / 256) ≡ page_after_write (at % 256) bytes (page_in old (at / 256)) → ((k : ℕ)
    → k ≢ at / 256 → page_in new k ≡ page_in old k) → r ≡ false → Shows rom old new
put_in_shows rom old new at bytes r is put kept f =
    let past = sym is ∙ f in
    let here : page_in new (at / 256) ≡ page_in old (at / 256) = rw past at put in
    shows_alike rom old new (λ k. elim (cases_eq k (at / 256)) [
      | inl e ↦ rw e here
      | inr q ↦ kept k q
    ])

-- bytes after bytes
pub puts_more : (rom : List ℕ) (a b d : Rows) (at to : ℕ) (front next : List ℕ)
    → PutsBytes rom a b at front → to ≡ at + length front → PutsBytes rom b d to next
    → PutsBytes rom a d at (front ++ next)
puts_more rom a b d at to front next f e g =
    let n = length-append front next in
    record {
      inside = λ i low high. elim (cases_lt i to) [
        | inl before ↦ g.below i before ∙ f.inside i low (omega arith)
            ∙ sym (get_or_append_left front next 0 (i - at) (omega arith))
        | inr after ↦ g.inside i after (omega arith) ∙ ap (slice_index next) (omega arith)
            ∙ sym (get_or-append_right front next (length front) (i - at) 0 refl (omega arith))
      ];
      below = λ i low. g.below i (omega arith) ∙ f.below i low;
      past = λ i high. g.past i (omega arith) ∙ f.past i (omega arith);
      held = λ k h. g.held k (f.held k h);
    }

pub take_join : {X : Type 0} → (m n : ℕ) (xs : List X) → m ≤ n
    → take m xs ++ take (n - m) (drop m xs) ≡ take n xs
take_join m n xs l = same_lists _ _ (grind (arith, places)) (λ k d h. grind (arith, places))

pub puts_take : (rom : List ℕ) (a b d : Rows) (at to done end : ℕ) (new : List ℕ)
    → PutsBytes rom a b at (take done new) → done ≤ end → end ≤ length new → to ≡ at + done
    → PutsBytes rom b d to (take (end - done) (drop done new)) → PutsBytes rom a d at (take end new)
puts_take rom a b d at to done end new f l m e g =
    subst (PutsBytes rom a d at) (take_join done end new l) (puts_more rom a b d at to
    (take done new) _ f (omega (arith, length-take-le done new)) g)

pub puts_zeros : (rom : List ℕ) (a b d : Rows) (at to done n : ℕ)
    → PutsBytes rom a b at (replicate done 0) → to ≡ at + done → n ≤ 256
    → PutsBytes rom b d to (take n (replicate 256 0))
    → PutsBytes rom a d at (replicate (done + n) 0)
puts_zeros rom a b d at to done n f e l g =
    subst (PutsBytes rom a d at) (replicate-append-replicate done n 0)
    (puts_more rom a b d at to (replicate done 0) (replicate n 0) f (omega
    (arith, length-replicate {A = ℕ} done 0)) (subst (PutsBytes rom b d to)
    (take-replicate n 256 0 l) g))

-- pages that are held, and then bytes
pub puts_after : (rom : List ℕ) (a b d : Rows) (at : ℕ) (bytes : List ℕ) → Shows rom a b
    → PutsBytes rom b d at bytes → PutsBytes rom a d at bytes
puts_after rom a b d at bytes f g = record {
  inside = g.inside;
  below = λ i low. g.below i low ∙ f.same i;
  past = λ i high. g.past i high ∙ f.same i;
  held = λ n h. g.held n (f.held n h);
}
