use Rattle.std.proofs.Common.{◌≡◌, Some, rules}
use Rattle.line_words.specs.Request.{request_of}
use Rattle.host_serve.proofs.read.read.Goals as goal

pub returns-in-Ok-clause-ok : goal.returns-in-Ok-clause-ok
returns-in-Ok-clause-ok c =
    let spelled : request_of c.args.line.now ≡ Some c.in-Ok.request = search rules in
    record {
      given = c.in-Ok.request;
      spelled = spelled;
      budgeted = c.with_budget.ensures;
      ranges = rw c.with_budget.ensures
          (c.reads_in_range.ensures c.args.line.now c.in-Ok.request c.args.budget spelled
          c.requires).1;
    }
