use Rattle.std.proofs.Common.{rules, ◌≡◌}
use Rattle.clap.specs.Words.{rule_of}
use Rattle.koika_top.specs.inner.Given.{cycles_rule, engine_rule, journal_rule, summary_rule, workers_rule}
use Rattle.koika_top.proofs.ReadWords.{run_app-is}
use Rattle.koika_top.proofs.given.run_app.Goals as goal

pub returns : goal.returns
returns c =
    let cycles_is : rule_of c.required-cycles.result ≡ cycles_rule = search rules in
    let engine_is : rule_of c.valued-2.result ≡ engine_rule = search rules in
    let workers_is : rule_of c.valued-3.result ≡ workers_rule = search rules in
    let summary_is : rule_of c.flag.result ≡ summary_rule = search rules in
    let journal_is : rule_of c.flag-2.result ≡ journal_rule = search rules in
    run_app-is c.args.name.now c.bare.result c.in_ok-arg.field-0 c.in_ok-arg-2.field-0 c.in_ok-arg-3.field-0 c.in_ok-arg-4.field-0 c.in_ok-command.command _ _ _ _ _ c.bare.ensures c.in_ok-arg.ensures c.in_ok-arg-2.ensures c.in_ok-arg-3.ensures c.in_ok-arg-4.ensures c.in_ok-command.ensures cycles_is engine_is workers_is summary_is journal_is (search rules) (search rules) (search rules) (search rules) (search rules)
