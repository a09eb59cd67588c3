use Rattle.journal_check.proofs.Twins.{twins_fail_alike, twins_pass_alike, twins_read_alike, twins_stop_alike}
use Rattle.journal_check.proofs.checking_laws.twins_have_the_same_journals.Goals as goal

pub returns : goal.returns
returns c = record { read = twins_read_alike; stop = twins_stop_alike; pass = twins_pass_alike; fail = twins_fail_alike }
