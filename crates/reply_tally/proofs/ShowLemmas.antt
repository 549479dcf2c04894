-- A show that is written has show lines.
use Rattle.std.proofs.Common.{◌≡◌, ◌≢◌, ℕ, ◌/◌, ◌%◌, Bool, true, false, ◌==◌, cond, List, [], ◌∷◌}
use Rattle.std.proofs.Common.{◌++◌, map, refl, sym, ap, ◌∙◌, subst, arith, append_assoc}
use Rattle.std.specs.Prelude.{codes}
use Rattle.std.specs.List.{flat_map, list_any}
use Rattle.std.specs.Str.{encode_utf8_all}
use Rattle.std.proofs.lemmas.Bool.Decides.{nat_tests}
use Rattle.std.proofs.lemmas.List.{append-nil}
use Rattle.std.proofs.lemmas.List.Concat.{flat_map-append}
use Rattle.std.proofs.lemmas.List.Elements.{All-from_recursion, All-append}
use Rattle.percent_encoding.specs.Percent.{percent_encode_byte}
use Rattle.story_text.specs.Escape.{is_plain, escaped_byte, escaped}
use Rattle.story_show.specs.Words.{number_after_space, shown_code, text}
use Rattle.story_show.specs.Lines.{place_line, part_line, end_line, text_of_show}
use Rattle.story_show.specs.declared.show.Place.{Place}
use Rattle.story_show.specs.declared.show.Part.{Part}
use Rattle.story_show.specs.declared.show.Part.TheVariants.{Clear, Run, GridRow}
use Rattle.story_show.specs.declared.show.End.{End}
use Rattle.story_show.specs.declared.show.End.TheVariants.{Quit, Fault, Prompt, WantLine, WantChar}
use Rattle.story_show.specs.declared.show.Show.{Show}
use Rattle.reply_tally.specs.ShowLines.{begins_show, IsShowLine, with_lf, AreShowLines}
use Rattle.reply_tally.proofs.LineLemmas.{NoLf, NoLf-append, NoLf-flat_map, checked_no_lf}
use Rattle.reply_tally.proofs.LineLemmas.{letter_no_lf, glyph_no_lf, decimal_no_lf}

-- ---- lines, one and many

pub are_none : AreShowLines []
are_none = record { lines = []; each = All-from_recursion IsShowLine [] tt; spelled = refl }

pub are_one : (line : List ℕ) → begins_show line ≡ true → NoLf line → AreShowLines (line ++ 10 ∷ [])
are_one line begins h =
    let whole = All-from_recursion (λ byte. byte ≢ 10) line h in
    let is : IsShowLine line = record { begins = begins; whole = whole } in
    record {
      lines = line ∷ [];
      each = All-from_recursion IsShowLine (line ∷ []) (is, tt);
      spelled = sym (append-nil (line ++ 10 ∷ []));
    }

are_append : (xs ys : List ℕ) → AreShowLines xs → AreShowLines ys → AreShowLines (xs ++ ys)
are_append xs ys a b = record {
  lines = a.lines ++ b.lines;
  each = All-append IsShowLine a.lines b.lines a.each b.each;
  spelled = ap (λ (t : List ℕ). t ++ ys) a.spelled
      ∙ ap (λ (t : List ℕ). with_lf a.lines ++ t) b.spelled
      ∙ sym (flat_map-append (λ (line : List ℕ). line ++ 10 ∷ []) a.lines b.lines);
}

are_flat_map : {X : Type 0} (f : X → List ℕ) (xs : List X) → ((x : X) → AreShowLines (f x))
    → AreShowLines (flat_map f xs)
are_flat_map f [] h = are_none
are_flat_map f (x ∷ xs) h = are_append (f x) (flat_map f xs) (h x) (are_flat_map f xs h)

-- ---- words

field_no_lf : (n : ℕ) → NoLf (number_after_space n)
field_no_lf n = (λ e. omega arith, decimal_no_lf n)

plain_no_lf : (byte : ℕ) → is_plain byte ≡ true → byte ≢ 10
plain_no_lf byte h e = grind (arith, nat_tests)

coded_no_lf : (byte : ℕ) → NoLf (percent_encode_byte byte)
unfolding percent_encode_byte
coded_no_lf byte =
    (λ e. omega arith, (glyph_no_lf true (byte / 16 % 16), (glyph_no_lf true (byte % 16), tt)))

byte_no_lf : (byte : ℕ) → NoLf (escaped_byte byte)
byte_no_lf byte = by (is_plain byte) refl where
  by : (plain : Bool) → is_plain byte ≡ plain
      → NoLf (cond plain (byte ∷ []) (percent_encode_byte byte))
  by true e = (plain_no_lf byte e, tt)
  by false e = coded_no_lf byte

escaped_no_lf : (cs : List ℕ) → NoLf (escaped cs)
unfolding escaped
escaped_no_lf cs = (λ e. omega arith, NoLf-flat_map escaped_byte (encode_utf8_all cs) byte_no_lf)

-- a line that ends in a text
ends_in_text : (front cs : List ℕ)
    → begins_show (front ++ 32 ∷ escaped (map shown_code cs)) ≡ true → NoLf front
    → AreShowLines (front ++ text cs)
ends_in_text front cs begins h =
    let word : List ℕ = 32 ∷ escaped (map shown_code cs) in
    let word_no_lf : NoLf word = (λ e. omega arith, escaped_no_lf (map shown_code cs)) in
    subst AreShowLines (append_assoc front word (10 ∷ []))
    (are_one (front ++ word) begins (NoLf-append front word h word_no_lf))

-- ---- each kind of line

with_field : (front : List ℕ) (n : ℕ) → NoLf front → NoLf (front ++ number_after_space n)
with_field front n h = NoLf-append front (number_after_space n) h (field_no_lf n)

with_field_2 : (front : List ℕ) (m n : ℕ)
    → NoLf front
    → NoLf (front ++ number_after_space m ++ number_after_space n)
with_field_2 front m n h = with_field (front ++ number_after_space m) n (with_field front m h)

place_lines : (p : Place) → AreShowLines (place_line p)
unfolding place_line
place_lines p =
    let two = codes "W" ++ number_after_space p.id ++ number_after_space p.kind in
    let four = two ++ number_after_space p.x ++ number_after_space p.y in
    are_one (four ++ number_after_space p.w ++ number_after_space p.h) refl
    (with_field_2 four p.w p.h (with_field_2 two p.x p.y
    (with_field_2 (codes "W") p.id p.kind (letter_no_lf 87 refl))))

part_lines : (p : Part) → AreShowLines (part_line p)
unfolding part_line
part_lines (Clear id) =
    are_one (codes "C" ++ number_after_space id) refl
    (with_field (codes "C") id (letter_no_lf 67 refl))
part_lines (Run id style cs) =
    ends_in_text (codes "T" ++ number_after_space id ++ number_after_space style) cs refl
    (with_field_2 (codes "T") id style (letter_no_lf 84 refl))
part_lines (GridRow id y cs) =
    ends_in_text (codes "G" ++ number_after_space id ++ number_after_space y) cs refl
    (with_field_2 (codes "G") id y (letter_no_lf 71 refl))

input_word : (id : ℕ) (word : List ℕ) → list_any (λ byte. byte == 10) word ≡ false
    → NoLf (codes "I" ++ number_after_space id ++ word)
input_word id word h =
    let front = codes "I" ++ number_after_space id in
    let begun = with_field (codes "I") id (letter_no_lf 73 refl) in
    NoLf-append front word begun (checked_no_lf word h)

end_lines : (e : End) → AreShowLines (end_line e)
unfolding end_line
end_lines Quit = are_one (codes "E quit") refl (checked_no_lf (codes "E quit") refl)
end_lines (Fault code) =
    are_one (codes "E fault" ++ number_after_space code) refl
    (with_field (codes "E fault") code (checked_no_lf (codes "E fault") refl))
end_lines (Prompt usage mode) =
    are_one (codes "P" ++ number_after_space usage ++ number_after_space mode) refl
    (with_field_2 (codes "P") usage mode (letter_no_lf 80 refl))
end_lines (WantLine id max cs) =
    let front = codes "I" ++ number_after_space id ++ codes " line" in
    ends_in_text (front ++ number_after_space max) cs refl
    (with_field front max (input_word id (codes " line") refl))
end_lines (WantChar id) =
    let front = codes "I" ++ number_after_space id in
    subst AreShowLines (append_assoc front (codes " char") (10 ∷ []))
    (are_one (front ++ codes " char") refl (input_word id (codes " char") refl))

-- the line of a session that was closed
pub closed_lines : AreShowLines (codes "E closed" ++ 10 ∷ [])
closed_lines = are_one (codes "E closed") refl (checked_no_lf (codes "E closed") refl)

pub text_lines : (s : Show) → AreShowLines (text_of_show s)
text_lines s =
    let places = flat_map place_line s.places in
    let parts = flat_map part_line s.parts in
    are_append (places ++ parts) (flat_map end_line s.ends)
    (are_append places parts (are_flat_map place_line s.places place_lines)
    (are_flat_map part_line s.parts part_lines))
    (are_flat_map end_line s.ends end_lines)
