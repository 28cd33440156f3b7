use Rattle.x_positions.proofs.PositionLemmas as lemmas
use Rattle.x_positions.proofs.laws.positions_lead_back.Goals as goal

pub returns : goal.returns
returns c encoding text at h = lemmas.positions_lead_back encoding text at h
