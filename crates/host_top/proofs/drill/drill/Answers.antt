use Rattle.host_top.proofs.drill.drill.Goals as goal

pub returns-in-Ok-clause-value : goal.returns-in-Ok-clause-value
returns-in-Ok-clause-value g c = λ input.
    let said =
    c.say_once.ensures.value input in rw (c.deref.ensures.value, c.in-Ok.ensures.value) at said
