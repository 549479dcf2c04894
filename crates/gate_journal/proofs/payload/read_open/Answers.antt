use Rattle.std.proofs.Common.{◌≡◌, ◌+◌, ◌-◌, ◌≤◌, ℕ, List, length, get_or}
use Rattle.std.proofs.Common.{take, drop, refl, ◌∙◌, ap, arith}
use Rattle.std.proofs.lemmas.List.{take_rest, length-take, length-drop}
use Rattle.gate_journal.specs.Payload.{open_in}
use Rattle.gate_journal.proofs.PayloadLemmas.{AreBytes, only_open, spells_whole}
use Rattle.gate_journal.proofs.PayloadLemmas.{checked_is, key_in, after_in}
use Rattle.gate_journal.proofs.payload.read_open.Goals as goal

pub returns : goal.returns
returns c =
    let p = c.args.payload.now in
    let are : AreBytes p = λ i. omega (arith, (c.type_inv.payload i).fits) in
    let some : 1 ≤ length p = c.in-len1-up.len_at_least in
    let size : length p ≡ get_or p 0 0 + 53 =
    omega (
      arith,
      some,
      c.if-rest-size.false,
      c.from-size.ensures,
      length-take (length p - 1) (drop 1 p),
      length-drop 1 p,
    ) in
    let key : c.split_at.result.0.now ≡ key_in p =
    c.split_at.ensures.front
    ∙ ap (λ (l : List ℕ). take c.from-size.result l) (take_rest p 1)
    ∙ ap (λ (n : ℕ). take n (drop 1 p)) c.from-size.ensures in
    let after : c.split_at.result.1.now ≡ after_in p =
    c.split_at.ensures.back
    ∙ ap (λ (l : List ℕ). drop c.from-size.result l) (take_rest p 1)
    ∙ ap (λ (n : ℕ). drop n (drop 1 p)) c.from-size.ensures in
    let same : c.in_ok-command.command ≡ open_in (key_in p) (after_in p) =
    c.in_ok-command.ensures
    ∙ ap (λ (l : List ℕ). open_in l c.split_at.result.1.now) key
    ∙ ap (λ (l : List ℕ). open_in (key_in p) l) after in
    checked_is 1 p (open_in (key_in p) (after_in p)) _ _ refl (spells_whole p are size)
    (λ d is. (only_open p d is).1) same c.checked.ensures
