use Rattle.std.proofs.Common.{◌≡◌, ◌-◌, ◌≤◌, ℕ, List, length, take, drop}
use Rattle.std.proofs.Common.{refl, sym, ◌∙◌, ap, arith, rules}
use Rattle.std.specs.Prelude.{Some, None}
use Rattle.std.proofs.lemmas.List.{take_rest}
use Rattle.byteorder.specs.Endian.{big_number}
use Rattle.story_text.specs.Reading.{text_of_bytes}
use Rattle.gate_journal.specs.declared.command.Command.TheVariants.{Line}
use Rattle.gate_journal.specs.Payload.{line_in}
use Rattle.gate_journal.proofs.PayloadLemmas.{AreBytes, only_line, spells_line, checked_is}
use Rattle.gate_journal.proofs.PayloadLemmas.{text_found, text_missing, line_text}
use Rattle.gate_journal.proofs.payload.read_line.Goals as goal

pub returns-in_default : goal.returns-in_default
returns-in_default c d is =
    let p = c.args.payload.now in
    let none : text_of_bytes (take (length p - 8) (drop 8 p)) ≡ None =
    rw c.in_default.is at c.in_ok-text.ensures in
    let text = line_text p d is in
    text_missing (drop 8 p) text.0 (ap text_of_bytes (sym (take_rest p 8)) ∙ none) text.1 text.2

pub returns : goal.returns
returns c =
    let p = c.args.payload.now in
    let are : AreBytes p = λ i. omega (arith, (c.type_inv.payload i).fits) in
    let size : 8 ≤ length p = search rules in
    let found : text_of_bytes (take (length p - 8) (drop 8 p)) ≡ Some c.in-Some.text =
    rw c.in-Some.is at c.in_ok-text.ensures in
    let text =
    text_found (drop 8 p) c.in-Some.text (ap text_of_bytes (sym (take_rest p 8)) ∙ found) in
    let second : c.read_u32-term.result ≡ big_number 4 (drop 4 p) =
    c.read_u32-term.ensures ∙ ap (λ (l : List ℕ). big_number 4 l) (take_rest p 4) in
    let same : Line c.read_u32-win.result c.read_u32-term.result c.in-Some.text ≡ line_in p =
    cc (c.read_u32-win.ensures, second, text.2) in
    checked_is 2 p (line_in p) _ _ refl (spells_line p are size text.0)
    (λ d is. (only_line p d is).1) same c.checked.ensures
