use Rattle.std.proofs.Common.{◌≡◌, ◌/◌, sym, ◌∙◌, subst, arith}
use Rattle.std.proofs.lemmas.Bool.{le-leb}
use Rattle.std.proofs.lemmas.List.{with_items_is}
use Rattle.std.specs.Vec.{with_items}
use Rattle.vm_memory.specs.Pages.{IsHeld, PutsBytes, Shows}
use Rattle.vm_memory.proofs.PutLemmas.{put_in_puts, put_in_shows}
use Rattle.vm_memory.proofs.pages.put_at.Goals as goal

rows_is : (c : goal.After-rows-1)
    → (with_items c.args.rows.now c.put_in_page.new.rows).items ≡ c.put_in_page.new.rows
rows_is c =
    with_items_is c.args.rows.now c.put_in_page.new.rows
    (grind (arith, c.put_in_page.auto.rows, c.deref_mut.ensures.len, c.deref_mut.ensures.value))

pub returns-then-new-offset-clause-puts : goal.returns-then-new-offset-clause-puts
returns-then-new-offset-clause-puts c = λ t rom.
    subst (λ rows. PutsBytes rom c.args.rows.now.items rows c.args.at c.args.new.now)
    (sym (rows_is c))
    (subst (λ was. PutsBytes rom was c.put_in_page.new.rows c.args.at c.args.new.now)
    c.deref_mut.ensures.value
    (put_in_puts rom _ _ c.args.at c.args.new.now c.put_in_page.result (omega arith)
    c.put_in_page.ensures.held c.put_in_page.ensures.puts c.put_in_page.ensures.kept t))

pub returns-then-new-offset-clause-none : goal.returns-then-new-offset-clause-none
returns-then-new-offset-clause-none c = λ f rom.
    subst (Shows rom c.args.rows.now.items) (sym (rows_is c))
    (subst (λ was. Shows rom was c.put_in_page.new.rows) c.deref_mut.ensures.value
    (put_in_shows rom _ _ c.args.at c.args.new.now c.put_in_page.result
    c.put_in_page.ensures.held c.put_in_page.ensures.puts c.put_in_page.ensures.kept f))

pub returns-then-new-offset-clause-held : goal.returns-then-new-offset-clause-held
returns-then-new-offset-clause-held c = λ within held.
    let whole = subst (λ rows. IsHeld rows (c.args.at / 256))
    (sym c.deref_mut.ensures.value) held in
    c.put_in_page.ensures.held ∙ le-leb _ _ (omega (arith, within, whole))
