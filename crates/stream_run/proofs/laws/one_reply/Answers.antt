use Rattle.stream_run.proofs.OneReply as replies
use Rattle.stream_run.proofs.laws.one_reply.Goals as goal

pub returns : goal.returns
returns c = λ hosts bytes a b h k. replies.one_reply hosts bytes a b h k
