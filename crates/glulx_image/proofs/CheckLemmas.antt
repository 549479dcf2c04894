-- The five checks, both ways.
use Rattle.std.proofs.Common.{◌≡◌, ◌≤◌, ◌==◌, ◌&&◌, ◌||◌, ◌%◌, ℕ, Bool, true, false, nat_le}
use Rattle.std.proofs.Common.{nat_lt, List, length, arith, refl, Result, Ok, Err, if◌then◌else◌}
use Rattle.std.proofs.lemmas.Bool.{and_from, and_parts, eq-eqb, eqb-true, le-ltb, ltb-false}
use Rattle.std.proofs.lemmas.Bool.Decides.{nat_tests}
use Rattle.glulx_image.specs.Header.{magic, version, has_version, is_page, has_pages, has_order}
use Rattle.glulx_image.specs.Header.{is_too_large, extstart, ramstart, endmem, stack_size}
use Rattle.glulx_image.specs.Image.{image_of}
use Rattle.glulx_image.specs.Laws.{IsImage, AcceptsImages}
use Rattle.glulx_image.specs.declared.fault.ImageFault.{ImageFault}
use Rattle.glulx_image.specs.declared.fault.ImageFault.TheVariants.{Short, Magic, Version}
use Rattle.glulx_image.specs.declared.fault.ImageFault.TheVariants.{Layout, TooLarge}

-- the tests in a row, for any answers
abbrev tested : Bool → Bool → Bool → Bool → Bool → Bool → List ℕ → Result (List ℕ) ImageFault
tested short named known laid large cut file =
    if short then Err Short
    else (if named
    then (if known
    then (if laid then (if large then Err TooLarge else (if cut then Err Short else Ok file))
    else Err Layout) else Err Version) else Err Magic)

pub record Passed (short n k l large cut : Bool) : Type 0 where
  pub long : short ≡ false
  pub named : n ≡ true
  pub known : k ≡ true
  pub laid : l ≡ true
  pub small : large ≡ false
  pub whole : cut ≡ false

passes : (short n k l large cut : Bool) (file : List ℕ)
    → tested short n k l large cut file ≡ Ok file
    → Passed short n k l large cut
passes true n k l g c file e = absurd cc
passes false false k l g c file e = absurd cc
passes false true false l g c file e = absurd cc
passes false true true false g c file e = absurd cc
passes false true true true true c file e = absurd cc
passes false true true true false true file e = absurd cc
passes false true true true false false file e =
    record { long = refl; named = refl; known = refl; laid = refl; small = refl; whole = refl }

taken : (short n k l large cut : Bool) (file : List ℕ) → Passed short n k l large cut
    → tested short n k l large cut file ≡ Ok file
taken short n k l large cut file p = rw (p.long, p.named, p.known, p.laid, p.small, p.whole) refl

pages : (a b c d : ℕ) → ((is_page a && is_page b) && (is_page c && is_page d)) ≡ true
    → (a % 256 ≡ 0) × (b % 256 ≡ 0) × (c % 256 ≡ 0) × (d % 256 ≡ 0)
pages a b c d h = grind (arith, nat_tests)

are_pages : (a b c d : ℕ) → a % 256 ≡ 0 → b % 256 ≡ 0 → c % 256 ≡ 0 → d % 256 ≡ 0
    → ((is_page a && is_page b) && (is_page c && is_page d)) ≡ true
are_pages a b c d e f g h = grind (arith, nat_tests)

order : (a b c : ℕ)
    → (nat_le 256 a && (nat_le a b && nat_le b c)) ≡ true
    → (256 ≤ a) × (a ≤ b) × (b ≤ c)
order a b c h = grind (arith, nat_tests)

in_order : (a b c : ℕ)
    → 256 ≤ a → a ≤ b → b ≤ c
    → (nat_le 256 a && (nat_le a b && nat_le b c)) ≡ true
in_order a b c e f g = grind (arith, nat_tests)

limits : (n a b : ℕ) → (nat_lt 67108864 n || (nat_lt 16777216 a || nat_lt 1048576 b)) ≡ false
    → (n ≤ 67108864) × (a ≤ 16777216) × (b ≤ 1048576)
limits n a b h = grind (arith, nat_tests)

in_limits : (n a b : ℕ) → n ≤ 67108864 → a ≤ 16777216 → b ≤ 1048576
    → (nat_lt 67108864 n || (nat_lt 16777216 a || nat_lt 1048576 b)) ≡ false
in_limits n a b e f g = grind (arith, nat_tests)

between : (v : ℕ)
    → (nat_le 0x00020000 v && nat_le v 0x000301FF) ≡ true
    → (0x00020000 ≤ v) × (v ≤ 0x000301FF)
between v h = grind (arith, nat_tests)

in_between : (v : ℕ)
    → 0x00020000 ≤ v → v ≤ 0x000301FF
    → (nat_le 0x00020000 v && nat_le v 0x000301FF) ≡ true
in_between v e f = grind (arith, nat_tests)

keeps : (file : List ℕ) → image_of file ≡ Ok file → IsImage file
keeps file e =
    let p =
    passes (nat_lt (length file) 36) (magic file == 0x476C756C) (has_version file)
    (has_pages file && has_order file)
    (is_too_large file) (nat_lt (length file) (extstart file)) file e in
    let l = and_parts (has_pages file) (has_order file) p.laid in
    record {
      whole = (ltb-false (length file) 36 p.long, ltb-false (length file) (extstart file) p.whole);
      named = eqb-true (magic file) 0x476C756C p.named;
      known = between (version file) p.known;
      pages = pages (ramstart file) (extstart file) (endmem file) (stack_size file) l.0;
      order = order (ramstart file) (extstart file) (endmem file) l.1;
      sizes = limits (length file) (endmem file) (stack_size file) p.small;
    }

takes : (file : List ℕ) → IsImage file → image_of file ≡ Ok file
takes file i =
    taken (nat_lt (length file) 36) (magic file == 0x476C756C) (has_version file)
    (has_pages file && has_order file)
    (is_too_large file) (nat_lt (length file) (extstart file)) file
    (record {
      long = le-ltb (length file) 36 i.whole.0;
      named = eq-eqb (magic file) 0x476C756C i.named;
      known = in_between (version file) i.known.0 i.known.1;
      laid = and_from (has_pages file) (has_order file)
          (are_pages (ramstart file) (extstart file) (endmem file)
          (stack_size file) i.pages.0 i.pages.1 i.pages.2 i.pages.3)
          (in_order (ramstart file) (extstart file) (endmem file) i.order.0 i.order.1 i.order.2);
      small = in_limits (length file) (endmem file) (stack_size file) i.sizes.0 i.sizes.1 i.sizes.2;
      whole = le-ltb (length file) (extstart file) i.whole.1;
    })

pub accepts_images : AcceptsImages
accepts_images file = (keeps file, takes file)
