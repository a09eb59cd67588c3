use Rattle.stim_report.proofs.BatchesJoined.{parts_join, batches_join}
use Rattle.stim_report.proofs.laws.a_report_is_made_in_parts.Goals as goal

pub returns : goal.returns
returns c = record { part = parts_join; batches = batches_join }
