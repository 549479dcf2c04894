use Rattle.glk_streams.proofs.RoundTripLemmas as lemmas
use Rattle.glk_streams.proofs.laws.round_trip.Goals as goal

pub returns : goal.returns
returns c = lemmas.round_trip
