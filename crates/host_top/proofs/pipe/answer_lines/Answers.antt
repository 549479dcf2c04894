use Rattle.std.proofs.Common.{rules}
use Rattle.host_top.proofs.pipe.answer_lines.Goals as goal

pub returns-clause-value : goal.returns-clause-value
returns-clause-value g c =
    let told = c.serve.ensures.value.1 in
    record {
      turns = c.serve.ensures.value.0;
      marks = c.serve.new.marks.items;
      tells = search (rules);
      chain = c.serve.ensures.value.2;
    }
