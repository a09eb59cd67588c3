use Rattle.std.proofs.Common.{◌≡◌, ◌++◌, []}
use Rattle.std.specs.Prelude.{if◌then◌else◌}
use Rattle.std.specs.List.{flat_map, range_with_len}
use Rattle.lint_text.specs.Findings.{order_of}
use Rattle.lint_text.specs.Notes.{may_notes_between}
use Rattle.lint_text.proofs.findings.Findings.push_may.Given as goal

abbrev pub invariant-loop-earlier : goal.invariant-loop-earlier
invariant-loop-earlier l = l.notes ≡ l.fn.notes ++ flat_map (λ earlier. if (order_of l.fn.self).may_precede earlier l.fn.rule then may_notes_between l.fn.design l.fn.rule earlier else []) (range_with_len 0 l.earlier)
