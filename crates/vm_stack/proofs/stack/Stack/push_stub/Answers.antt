use Rattle.std.proofs.Common.{[], ◌∷◌, refl, sym, arith, subst}
use Rattle.vm_stack.specs.StackState.{words}
use Rattle.vm_stack.specs.Stub.{stub_bytes}
use Rattle.vm_stack.specs.Chain.{Chain, IsReady}
use Rattle.vm_stack.proofs.ChainLemmas.{stub_readies, appended_keeps}
use Rattle.vm_stack.proofs.FrameLemmas.{frame_inside}
use Rattle.vm_stack.proofs.stack.Stack.push_stub.Goals as goal

pub returns-clause-kept : goal.returns-clause-kept
returns-clause-kept c = λ chain has.
    subst Chain (sym c.add_stub.ensures)
    (appended_keeps c.args.self.now (stub_bytes c.args.stub) 4 refl chain has)

pub returns-clause-ready : goal.returns-clause-ready
returns-clause-ready c = λ chain has own.
    subst IsReady (sym c.add_stub.ensures)
    (stub_readies c.args.self.now (words (c.args.stub.kind ∷ c.args.stub.at ∷ c.args.stub.pc ∷ []))
    c.args.stub.frame chain has refl own
    (let room = c.has_room.ensures.limit in
    let inside = frame_inside c.args.self.now chain in
    omega (arith, room, own, inside)))
