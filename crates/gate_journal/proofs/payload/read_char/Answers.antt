use Rattle.std.proofs.Common.{◌≡◌, ℕ, List, length, drop, refl, ◌∙◌, ap, arith, rules}
use Rattle.std.proofs.lemmas.List.{take_rest}
use Rattle.byteorder.specs.Endian.{big_number}
use Rattle.gate_journal.specs.declared.command.Command.TheVariants.{Char}
use Rattle.gate_journal.specs.Payload.{char_in}
use Rattle.gate_journal.proofs.PayloadLemmas.{AreBytes, only_char, spells_char, checked_is}
use Rattle.gate_journal.proofs.payload.read_char.Goals as goal

pub returns : goal.returns
returns c =
    let p = c.args.payload.now in
    let are : AreBytes p = λ i. omega (arith, (c.type_inv.payload i).fits) in
    let size : length p ≡ 8 = search rules in
    let second : c.read_u32-code.result ≡ big_number 4 (drop 4 p) =
    c.read_u32-code.ensures ∙ ap (λ (l : List ℕ). big_number 4 l) (take_rest p 4) in
    let same : Char c.read_u32-win.result c.read_u32-code.result ≡ char_in p =
    cc (c.read_u32-win.ensures, second) in
    checked_is 3 p (char_in p) _ _ refl (spells_char p are size) (λ d is. (only_char p d is).1) same
    c.checked.ensures
