use Rattle.stream_run.proofs.OneReply as replies
use Rattle.stream_run.proofs.laws.some_reply.Goals as goal

pub returns : goal.returns
returns c = λ hosts bytes. replies.some_reply hosts bytes
