use Rattle.std.proofs.Common.{ℕ, List, ◌+◌, ◌*◌, length, ap, sym, subst}
use Rattle.vm_stack.specs.Head.{IsHead}
use Rattle.vm_stack.proofs.PlainLemmas.{plain_bytes, plain_head}
use Rattle.vm_stack.proofs.stack.Stack.add_plain.Goals as goal

pub set_whole_frame-requires : goal.set_whole_frame-requires
set_whole_frame-requires c =
    let low = c.args.self.now.bytes in
    rw (
      c.add_words.ensures,
      c.add-3.ensures,
      c.add-2.ensures,
      c.add.ensures,
      c.to_be_bytes.ensures,
      c.from-span.ensures,
      c.length-start.ensures,
    )
    (subst (λ (xs : List ℕ). IsHead xs (length low) (record {
      locals = length low + 12;
      span = 4 * c.args.count;
      values = length low + 12 + 4 * c.args.count;
    }))
    (sym (plain_bytes low c.args.format.now c.args.values.now c.args.count c.requires.plain
    c.requires.count))
    (plain_head low c.args.format.now c.args.values.now c.args.count c.requires.plain
    c.requires.count c.requires.size))

pub returns : goal.returns
returns c =
    rw (
      c.set_whole_frame.ensures,
      c.add_words.ensures,
      c.add-3.ensures,
      c.add-2.ensures,
      c.add.ensures,
      c.to_be_bytes.ensures,
      c.from-span.ensures,
      c.length-start.ensures,
    )
    (ap (λ (xs : List ℕ). record {
      bytes = xs;
      frame = length c.args.self.now.bytes;
      limit = c.args.self.now.limit;
    })
    (plain_bytes c.args.self.now.bytes c.args.format.now c.args.values.now c.args.count
    c.requires.plain c.requires.count))
