use Rattle.h41_lines.proofs.HexadecimalDigits as lemma
use Rattle.h41_lines.proofs.laws.hexadecimal_round_trip.Goals as goal

pub returns : goal.returns
returns c = lemma.read_hexadecimal
