use Rattle.vm_stack.proofs.HeadLemmas.{fresh_head}
use Rattle.vm_stack.proofs.stack.Stack.add_frame.Goals as goal

pub set_whole_frame-requires : goal.set_whole_frame-requires
set_whole_frame-requires c =
    rw (c.add_frame_bytes.ensures, c.length-start.ensures)
    (fresh_head c.args.self.now.bytes c.args.format.now c.args.head c.args.locals c.requires.head
    c.requires.locals c.requires.size)
