-- What ended the writing of a text, as the program's status.
use Rattle.std.proofs.Common.{◌≡◌, refl, arith}
use Rattle.host_top.specs.Status.{status_of_stop}
use Rattle.line_talk.specs.declared.sink.Stop.{Stop}
use Rattle.line_talk.specs.declared.sink.Stop.TheVariants.{Output, Memory}
use Rattle.host_top.specs.declared.status.Status.TheVariants.{ReadFault, WriteFault}

pub stop_is_no_read : (stop : Stop) (A : Type 0) → status_of_stop stop ≡ ReadFault → A
stop_is_no_read Output A e = absurd (grind (arith, e))
stop_is_no_read Memory A e = absurd (grind (arith, e))

pub stop_is_write : (stop : Stop) (A : Type 0) → (stop ≡ Output → A)
    → status_of_stop stop ≡ WriteFault → A
stop_is_write Output A f e = f refl
stop_is_write Memory A f e = absurd (grind (arith, e))
