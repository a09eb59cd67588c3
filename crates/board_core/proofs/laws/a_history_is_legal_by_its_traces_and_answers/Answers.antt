use Rattle.board_core.proofs.Legal.{legal_by_traces, traces_submit}
use Rattle.board_core.proofs.laws.a_history_is_legal_by_its_traces_and_answers.Goals as goal

pub returns : goal.returns
returns c = record { submits = traces_submit; legal = legal_by_traces }
