use Rattle.std.proofs.Common.{◌≡◌, ℕ, List, min, take, length, arith, ap, ◌∙◌, rules}
use Rattle.std.proofs.lemmas.Grind.{common_steps}
use Rattle.host_top.proofs.memory_outside.MemoryOutsideOutside.load.Goals as goal

take_capped : (xs : List ℕ) (n most : ℕ) → most ≡ min (length xs) n → take most xs ≡ take n xs
take_capped xs n most is = grind (arith, common_steps)

pub returns-in-Ok-clause-value : goal.returns-in-Ok-clause-value
returns-in-Ok-clause-value c =
    let front : c.in-Ok.bytes.items ≡ take c.min-most.result c.in-Some.bytes.now.items =
    search (rules, common_steps) in
    rw (← c.in-Some.ensures.value)
    (front ∙ take_capped c.in-Some.bytes.now.items 67108865 c.min-most.result
    (omega (
      arith,
      c.min-most.ensures,
      c.len.ensures,
      c.deref-in-Some.ensures.len,
      ap length
          c.deref-in-Some.ensures.value,
    )))
