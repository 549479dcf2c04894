use Rattle.line_words.proofs.RequestLaws.{request_only}
use Rattle.line_words.proofs.laws.reads_requests_only.Goals as goal

pub returns : goal.returns
returns c = request_only
