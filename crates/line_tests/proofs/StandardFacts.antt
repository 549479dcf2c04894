-- Values of docs/FORMATS.md that no row can show: ends of a show that one story doesn't reach, a reply
-- after a disk's fault, and scripts with a repeat and a gap.
use Rattle.std.proofs.Common.{◌≡◌, ◌∷◌, [], ◌++◌, codes, refl}
use Rattle.std.proofs.Math.Utf8.{encode}
use Rattle.std.specs.Fmt.{digits}
use Rattle.percent_encoding.specs.Percent.{percent_encode_byte}
use Rattle.rand_core.specs.Steps.{first_words}
use Rattle.line_words.specs.Reply.{print_reply}
use Rattle.line_words.specs.declared.reply.No.TheVariants.{DiskFault}
use Rattle.line_words.specs.declared.reply.Reply.TheVariants as replies
use Rattle.story_make.specs.Script.{requests, script_bytes}
use Rattle.story_text.specs.Escape.{escaped}
use Rattle.story_show.specs.Lines.{end_line, text_of_show}
use Rattle.story_show.specs.declared.show.End.TheVariants.{Fault, Prompt, WantLine, WantChar}

each_end_has_its_line : text_of_show (record {
  places = [];
  parts = [];
  ends = Fault 24 ∷ Prompt 1 2 ∷ WantLine 1 20 (97 ∷ 0 ∷ []) ∷ WantChar 4294967294 ∷ [];
}) ≡ codes "E fault 24\nP 1 2\nI 1 line 20 =a%00\nI 4294967294 char\n"
unfolding end_line digits escaped encode percent_encode_byte
each_end_has_its_line = refl

a_fault_of_a_disk_is_told : print_reply (replies.No (DiskFault 0 1)) ≡ codes "NO 11 0 1\n"
unfolding digits
a_fault_of_a_disk_is_told = refl

a_script_of_no_turns : script_bytes 7 0 0 ≡ codes "OPEN 0 k 0 7 80 24\n"
unfolding script_bytes requests first_words digits
a_script_of_no_turns = refl

a_script_of_three_lines : script_bytes 42 54 3
    ≡ codes "OPEN 54 k 0 42 80 24\nLINE 54 k 1 1 =bnjtkehwlsqpkqmlks\nLINE 54 k 2 1 =twpythrz\n"
    ++ codes "LINE 54 k 3 1 =aaiaur\n"
unfolding script_bytes requests first_words digits escaped encode
a_script_of_three_lines = refl

a_script_with_a_repeat_and_a_gap : script_bytes 2032 0 5
    ≡ codes "OPEN 0 k 0 2032 80 24\nOPEN 0 k 0 2032 80 24\nLINE 0 k 1 1 =anrguvaqf\nLINE 0 k 3 1 =x\n"
    ++ codes "LINE 0 k 3 1 =x\nLINE 0 k 2 1 =bnrtfvwwfcvxwy\n"
unfolding script_bytes requests first_words digits escaped encode
a_script_with_a_repeat_and_a_gap = refl
