use Rattle.session_saves.proofs.AgreementLemmas.{more_commands}
use Rattle.session_saves.proofs.laws.more_commands_stay_agreed.Goals as goal

pub returns : goal.returns
returns c = more_commands
