use Rattle.line_words.proofs.RequestLaws.{prints}
use Rattle.line_words.proofs.laws.prints_spellings.Goals as goal

pub returns : goal.returns
returns c = prints
