use Rattle.std.proofs.Common.{◌≡◌, sym, ◌∙◌, rules}
use Rattle.std.proofs.lemmas.Bool.{not-false}
use Rattle.attempt_log.specs.contracts.entry.Taken.{the_type}
use Rattle.journal_check.proofs.Replays.{submit_answers}
use Rattle.journal_check.proofs.replay.submit.Goals as goal
use denote.Enum.Bare.{same_true}

pub returns-clause-ok : goal.returns-clause-ok
returns-clause-ok c =
    let is : c.taken.result ≡ c.args.answer = same_true the_type (search rules) _ _ (not-false _ (sym c.ne.ensures ∙ c.if-ne.false)) in
    submit_answers c.args.core.now c.submit-given.new.self c.args.attempt c.submit-given.result c.args.answer c.submit-given.ensures.step c.submit-given.ensures.opening (sym c.taken.ensures ∙ is)
