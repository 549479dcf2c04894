use Rattle.line_words.proofs.RequestLaws.{request_again}
use Rattle.line_words.proofs.laws.reads_each_request.Goals as goal

pub returns : goal.returns
returns c = request_again
