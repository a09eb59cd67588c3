use Rattle.lint_text.proofs.findings.Findings.new.Goals as goal

pub returns-clause-found : goal.returns-clause-found
returns-clause-found c = record {
  typed = c.requires;
  occurrences = c.in_ok-occurrences.ensures;
  scheduled = c.in_ok-scheduled.ensures;
  made = c.in_ok-made.ensures;
  own = c.in_ok-own.ensures;
  order = record { may_precede = c.in_ok-precedes.ensures; may_be_untried = c.in_ok-untried.ensures };
}
